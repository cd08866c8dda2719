use Rattle.std.proofs.Common.{◌≡◌, take, replicate, rules}
use Rattle.std.proofs.lemmas.List.{take-replicate}
use Rattle.locations.specs.declared.grammar.Junction.TheVariants.{OnlyChild}
use Rattle.locations.proofs.interior.Junctions.become_unknown.Goals as goal

pub returns : goal.returns
returns c =
    let blanks : take c.args.count (replicate 8 OnlyChild) ≡ replicate c.args.count OnlyChild = take-replicate c.args.count 8 OnlyChild c.requires in
    search (rules, blanks)
