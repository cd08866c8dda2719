use Rattle.std.proofs.Common.{sym, ◌∙◌}
use Rattle.std.specs.Prelude.{codes}
use Rattle.std.proofs.Common.{lit<}
use Rattle.std.proofs.lemmas.List.{append_cancel_right}
use Rattle.std.proofs.lemmas.Str.Pattern.{strip_suffix_char}
use Rattle.location_wire.proofs.TextLaws.{cut_at}
use Rattle.location_wire.proofs.text_reading.name_and_inside.Goals as goal

pub returns-in_err-name : goal.returns-in_err-name
returns-in_err-name c = λ name inside lack e.
    absurd (rw c.in_err-name.was at (cut_at c.args.part.now name inside c.split_once.result c.split_once.ensures.cases lack e))

pub returns-in_err-inside : goal.returns-in_err-inside
returns-in_err-inside c = λ name inside lack e.
    let cut = rw c.in_ok-name.was at (cut_at c.args.part.now name inside c.split_once.result c.split_once.ensures.cases lack e) in
    let none = rw c.in_err-inside.was at (strip_suffix_char 41 c.in_ok-name.rest.now c.strip_suffix.result c.strip_suffix.ensures.cases (lit< tt)) in
    absurd (none inside cut.1)

pub returns : goal.returns
returns c = λ name inside lack e.
    let cut = rw c.in_ok-name.was at (cut_at c.args.part.now name inside c.split_once.result c.split_once.ensures.cases lack e) in
    let some = rw c.in_ok-inside.was at (strip_suffix_char 41 c.in_ok-name.rest.now c.strip_suffix.result c.strip_suffix.ensures.cases (lit< tt)) in
    (cut.0, append_cancel_right c.in_ok-inside.inside.now inside (codes ")") (sym some ∙ cut.1))
