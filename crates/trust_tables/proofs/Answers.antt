-- What the code's comparisons answer, in the words of the definitions.
use Rattle.std.proofs.Common.{◌≡◌, Bool, IsTrue, ◌↔◌}
use Rattle.std.specs.Ordering.{eq_by_cmp}
use Rattle.std.specs.Cmp.{both_ways}
use Rattle.locations.specs.declared.grammar.NetworkId.{NetworkId}
use Rattle.locations.specs.Order.{network_cmp}
use Rattle.locations.proofs.Lemmas.OrderLaws.{network_total, network_exact, tie_decides}

-- a comparison that holds just of equal networks is the one of their order
pub same_network : (answer : Bool) (x y : NetworkId) → IsTrue answer ↔ (x ≡ y) → answer ≡ eq_by_cmp network_cmp x y
same_network answer x y says =
    let decides = tie_decides network_total network_exact x y in
    both_ways answer (eq_by_cmp network_cmp x y) (λ e. decides.1 (says.0 e)) (λ e. says.1 (decides.0 e))
