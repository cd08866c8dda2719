-- The shortest name of a location passes the test.
use Rattle.std.specs.Prelude.{◌≡◌, ◌≢◌, suc, ◌-◌, ◌↔◌, nat_lt, nat_le, Bool, true, false, not, ◌&&◌, IsTrue, List, [], ◌∷◌, length, Option, Some, None, slice_get, refl}
use Rattle.std.specs.List.{All, list_all}
use Rattle.std.specs.Cmp.{both_ways}
use Rattle.std.proofs.Common.{sym, ap, arith, le-leb}
use Rattle.std.proofs.lemmas.Bool.{and_parts, and_from, ltb-true}
use Rattle.locations.specs.declared.grammar.Junction.{Junction}
use Rattle.locations.specs.declared.grammar.Junction.TheVariants.{OnlyChild}
use Rattle.locations.specs.declared.relative.Location.{Location}
use Rattle.locations.specs.Chains.{same_junction, same_first, turns_back, is_normal, IsNormal, TurnsAway}
use Rattle.locations.proofs.Lemmas.{normal_told}
use Rattle.locations.proofs.Lemmas.OrderLaws.{junction_decides}

not_true : (b : Bool) → (b ≡ true → ⊥) → not b ≡ true
not_true true no_such = absurd (no_such refl)
not_true false no_such = refl

all_named : (js : List Junction) → All (λ j. j ≢ OnlyChild) js → list_all (λ j. not (same_junction j OnlyChild)) js ≡ true
all_named [] all = refl
all_named (j ∷ js) all =
    and_from (not (same_junction j OnlyChild)) (list_all (λ j. not (same_junction j OnlyChild)) js)
    (not_true (same_junction j OnlyChild) (λ t. all 0 j (omega arith) ((junction_decides j OnlyChild).0 t)))
    (all_named js (λ k d within. all (suc k) d (omega (arith, within))))

same_told : (a b : Option Junction) → same_first a b ≡ true → (j : Junction) × (a ≡ Some j) × (b ≡ Some j)
same_told (Some a) (Some b) passes = (a, refl, ap Some (sym ((junction_decides a b).0 passes)))
same_told (Some a) None passes = absurd (cc)
same_told None b passes = absurd (cc)

away : (context : List Junction) (l : Location) → TurnsAway context l → turns_back context l ≡ true → ⊥
away context l turned passes =
    let parts = and_parts (nat_lt 0 l.parents) (same_first (slice_get l.interior 0) (slice_get context (length context - l.parents))) passes in
    let found = same_told _ _ parts.1 in
    turned found.0 (ltb-true 0 l.parents parts.0) found.1 found.2

told_normal : (context : List Junction) (l : Location) → IsNormal context l → is_normal context l ≡ true
told_normal context l normal =
    and_from (nat_le l.parents (length context)) (list_all (λ j. not (same_junction j OnlyChild)) l.interior && not (turns_back context l)) (le-leb l.parents (length context) normal.inside)
    (and_from (list_all (λ j. not (same_junction j OnlyChild)) l.interior) (not (turns_back context l)) (all_named l.interior normal.named)
    (not_true (turns_back context l) (away context l normal.turned)))

-- an answer that is right is the test's
pub normal_answer : (answer : Bool) (context : List Junction) (l : Location) → IsTrue answer ↔ IsNormal context l → answer ≡ is_normal context l
normal_answer answer context l says = both_ways answer (is_normal context l) (λ e. told_normal context l (says.0 e)) (λ e. says.1 (normal_told context l e))
