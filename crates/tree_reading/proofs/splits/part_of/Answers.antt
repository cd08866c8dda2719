use Rattle.std.proofs.Common.{lit<, refl}
use Rattle.std.proofs.lemmas.Str.Pattern.{split_parts}
use Rattle.tree_reading.specs.Rows.{is_dotless}
use Rattle.tree_reading.proofs.Solid.{uncut}
use Rattle.tree_reading.proofs.splits.part_of.Goals as goal

pub returns-in-Some : goal.returns-in-Some
returns-in-Some c = λ all.
    let cut = rw c.in-Some.is at (split_parts 46 c.args.text.now c.split_once.result c.split_once.ensures.cases (lit< tt)) in
    absurd (uncut is_dotless 46 c.args.text.now c.in-Some.part.now c.in-Some._rest.now refl all cut.0)
