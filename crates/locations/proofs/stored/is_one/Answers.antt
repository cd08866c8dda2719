use Rattle.std.proofs.Common.{refl, ap, ◌∙◌}
use Rattle.std.specs.Ordering.{is_eq, ordering_then}
use Rattle.locations.specs.declared.relative.Location.{Location}
use Rattle.locations.proofs.DerivedOrders.{counted}
use Rattle.locations.proofs.Lemmas.OrderLaws.{location_decides, undecided}
use Rattle.locations.proofs.stored.is_one.Goals as goal

pub returns-then-are_lists_apart : goal.returns-then-are_lists_apart
returns-then-are_lists_apart c =
    let one : Location = record { parents = c.args.parents; interior = c.args.interior.now } in
    let other : Location = record { parents = c.args.other_parents; interior = c.args.other.now } in
    undecided (location_decides one other) (λ same. c.are_lists_apart.ensures c.if-are_lists_apart.true (ap (λ (l : Location). l.interior) same))

pub returns : goal.returns
returns c =
    let lists = counted c.args.interior.now c.args.other.now c.args.interior.now c.args.other.now _ _ _ refl refl c.cmp-lengths.ensures c.cmp-2.ensures c.then.ensures in
    c.is_eq.ensures ∙ ap is_eq (c.then-2.ensures ∙ (λ i. ordering_then (c.cmp.ensures i) (lists i)))
