use Rattle.std.proofs.Common.{sym, ap, ◌∙◌}
use Rattle.locations.specs.declared.relative.Location.{Location}
use Rattle.locations.proofs.Lemmas.OrderLaws.{location_decides, undecided}
use Rattle.locations.proofs.relative.LocationPartialEq.eq.Goals as goal

pub returns-then-are_lists_apart : goal.returns-then-are_lists_apart
returns-then-are_lists_apart c =
    undecided (location_decides c.args.self.now c.args.other.now)
    (λ same. c.are_lists_apart.ensures c.if-are_lists_apart.true
    (c.items.ensures.value ∙ ap (λ (l : Location). l.interior) same ∙ sym c.items-2.ensures.value))
