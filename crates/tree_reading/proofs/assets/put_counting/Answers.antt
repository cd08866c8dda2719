use Rattle.std.proofs.Common.{◌≤◌, refl}
use Rattle.std.specs.Prelude.{decimal}
use Rattle.scale_codec.specs.Spelling.{compact}
use Rattle.asset_wire.specs.Spelling.{wild_fun}
use Rattle.message_text.specs.Words.{wild_fun_text}
use Rattle.tree_reading.specs.Assets.{FitsCounting, counting_text, counting_spelling}
use Rattle.tree_reading.proofs.Bytes.{bytes_front, bytes_back}
use Rattle.tree_reading.proofs.Behind.{put_behind}
use Rattle.tree_reading.proofs.AssetParts.{solid_kind}
use Rattle.tree_reading.proofs.assets.put_counting.Goals as goal

pub returns-in_default : goal.returns-in_default
returns-in_default c = λ x fits bytes e. absurd (rw c.in_default.is at (c.at_space.ensures (wild_fun_text x.0) (decimal x.1) (solid_kind x.0) e))

pub returns-then-not-done : goal.returns-then-not-done
returns-then-not-done c = λ x fits bytes e.
    let cut = rw c.in-Some.is at (c.at_space.ensures (wild_fun_text x.0) (decimal x.1) (solid_kind x.0) e) in
    let put = c.in_ok-done.ensures x.0 tt (bytes_front (wild_fun x.0) (compact x.1) bytes) cut.0 in
    absurd (cc (put.0, c.if-not-done.true))

pub returns : goal.returns
returns c =
    put_behind FitsCounting counting_text counting_spelling (λ n. n ≤ 4294967295) decimal compact c.args.text.now c.in-Some.count.now c.put_number.result c.args.out.now c.put_wild_fun.new.out c.put_number.new.out
    (λ x fits bytes e.
    let cut = rw c.in-Some.is at (c.at_space.ensures (wild_fun_text x.0) (decimal x.1) (solid_kind x.0) e) in
    let put = c.in_ok-done.ensures x.0 tt (bytes_front (wild_fun x.0) (compact x.1) bytes) cut.0 in
    record { value = x.1; fits = fits; bytes = bytes_back (wild_fun x.0) (compact x.1) bytes; words = cut.1; front = wild_fun x.0; put = put.1; spelled = refl })
    c.put_number.ensures
