-- The end of a list, whatever comes before it.
use Rattle.std.specs.Prelude.{◌≡◌, ℕ, zero, suc, ◌+◌, ◌-◌, ◌<◌, nat_eq, Bool, false, List, ◌++◌, length}
use Rattle.std.proofs.Common.{get_or, true≢false, sym, ap, ◌∙◌, arith, length-append}
use Rattle.std.proofs.lemmas.List.{get_or-append-add}

-- lists that are the same end with one element
pub one_end : {X : Type 0} (a b : List X) (d : X) → 0 < length a → 0 < length b → (front other_front : List X) → front ++ a ≡ other_front ++ b
    → get_or a (length a - 1) d ≡ get_or b (length b - 1) d
one_end {X} a b d a_some b_some front other_front same =
    let long : length front + length a ≡ length other_front + length b = sym (length-append front a) ∙ ap length same ∙ length-append other_front b in
    let place : length front + (length a - 1) ≡ length other_front + (length b - 1) = omega (arith, long, a_some, b_some) in
    sym (get_or-append-add front a (length a - 1) d) ∙ (λ i. get_or (same i) (place i) d) ∙ get_or-append-add other_front b (length b - 1) d

-- a list that isn't empty
pub some_in : (n : ℕ) (answer : Bool) → answer ≡ nat_eq n 0 → answer ≡ false → 0 < n
some_in zero answer is empty = absurd (true≢false (sym is ∙ empty))
some_in (suc n) answer is empty = omega arith
