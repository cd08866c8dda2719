-- Inversion, prefix and simplification together are the closed form of reanchoring.
use Rattle.std.proofs.Common.{◌≡◌, refl, sym, ap, ◌∙◌, ℕ, ◌-◌, ◌<◌, ◌≤◌, Bool, true, false, cond, List, ◌++◌, length, take, drop, Ok, Err, arith, inl, inr}
use Rattle.std.proofs.lemmas.Bool.{cases_lt}
use Rattle.std.specs.declared.result.Result.{Result}
use Rattle.std.specs.Bool.{nat_lt}
use Rattle.std.specs.List.{common_prefix_len}
use Rattle.locations.specs.declared.grammar.Junction.{Junction}
use Rattle.locations.specs.declared.relative.Location.{Location}
use Rattle.locations.specs.declared.faults.LocationFault.{LocationFault}
use Rattle.locations.specs.declared.faults.LocationFault.TheVariants.{Full, TooHigh}
use Rattle.locations.specs.Chains.{last, same_junction}
use Rattle.locations.specs.Steps.{last_known, inverted, shortened, simplified, cancelled, prepended_parents, prepended_interior, prepended}
use Rattle.locations.specs.Reanchoring.{raised_parents, way_down, reanchored}
use Rattle.locations.proofs.Lemmas.{below, not_below, length-last_known, place}

-- the last step on what the second one answered
abbrev pub then_simplified : List Junction → Result Location LocationFault → Result Location LocationFault
then_simplified context (Ok l) = Ok (simplified context l)
then_simplified context (Err fault) = Err fault

then_simplified_cond : (context : List Junction) (b : Bool) (x y : Result Location LocationFault)
    → then_simplified context (cond b x y) ≡ cond b (then_simplified context x) (then_simplified context y)
then_simplified_cond context true x y = refl
then_simplified_cond context false x y = refl

-- a location past both limits
abbrev pub limited : ℕ → List Junction → Result Location LocationFault
limited parents interior =
    cond (nat_lt 8 (length interior)) (Err Full) (cond (nat_lt 255 parents) (Err TooHigh) (Ok (place parents interior)))

-- what the prefix does, with its two cases
prepended_up : (l target : Location) (context : List Junction) → target.parents < l.parents
    → prepended (inverted context target) l ≡ limited (raised_parents l target) l.interior
prepended_up l target context up =
    let all = length-last_known target.parents context in
    let count : cancelled (inverted context target) l ≡ target.parents = omega (arith, all) in
    let parents : prepended_parents (inverted context target) l ≡ raised_parents l target = omega (arith, count) in
    let none : length (last_known target.parents context) - cancelled (inverted context target) l ≡ 0 = omega (arith, all, count) in
    let interior : prepended_interior (inverted context target) l ≡ l.interior =
    ap (λ n. take n (last_known target.parents context) ++ l.interior) none in
    λ i. limited (parents i) (interior i)

prepended_down : (l target : Location) (context : List Junction) → l.parents ≤ target.parents
    → prepended (inverted context target) l ≡ limited (length target.interior) (way_down l target context)
prepended_down l target context down =
    let all = length-last_known target.parents context in
    let count : cancelled (inverted context target) l ≡ l.parents = omega (arith, all) in
    let parents : prepended_parents (inverted context target) l ≡ length target.interior = omega (arith, count) in
    let rest : length (last_known target.parents context) - cancelled (inverted context target) l ≡ target.parents - l.parents = omega (arith, all, count) in
    let interior : prepended_interior (inverted context target) l ≡ way_down l target context =
    ap (λ n. take n (last_known target.parents context) ++ l.interior) rest in
    λ i. limited (parents i) (interior i)

steps_up : (l target : Location) (context : List Junction) → length l.interior ≤ 8 → target.parents ≤ 8 → target.parents < l.parents
    → then_simplified target.interior (prepended (inverted context target) l) ≡ reanchored l target context
steps_up l target context few near up =
    let raised = raised_parents l target in
    let own = place (raised_parents l target) l.interior in
    ap (then_simplified target.interior) (prepended_up l target context up)
    ∙ ap (then_simplified target.interior) (not_below 8 (length l.interior) _ _ few)
    ∙ then_simplified_cond target.interior (nat_lt 255 raised) (Err TooHigh) (Ok own)
    ∙ ap (λ m. cond (nat_lt 255 raised) (Err TooHigh) (Ok m)) (below (length target.interior) raised own _ (omega arith))
    ∙ sym (not_below 8 target.parents (Err Full) _ near ∙ below target.parents l.parents _ _ up)

steps_down : (l target : Location) (context : List Junction) → length target.interior ≤ 8 → target.parents ≤ 8 → l.parents ≤ target.parents
    → then_simplified target.interior (prepended (inverted context target) l) ≡ reanchored l target context
steps_down l target context few near down =
    let context_of_target = target.interior in
    let count = length target.interior in
    let way = way_down l target context in
    let seen = place (length target.interior) (way_down l target context) in
    let all : last count context_of_target ≡ target.interior =
    ap (λ n. drop n target.interior) (let none : count - count ≡ 0 = omega arith in none) in
    let simple : simplified target.interior seen ≡ shortened (common_prefix_len same_junction target.interior way) seen =
    not_below count count seen _ (omega arith)
    ∙ ap (λ chain. shortened (common_prefix_len same_junction chain way) seen) all in
    ap (then_simplified target.interior) (prepended_down l target context down)
    ∙ ap (λ m. then_simplified target.interior (cond (nat_lt 8 (length way)) (Err Full) m)) (not_below 255 count (Err TooHigh) (Ok seen) (omega arith))
    ∙ then_simplified_cond target.interior (nat_lt 8 (length way)) (Err Full) (Ok seen)
    ∙ ap (λ m. cond (nat_lt 8 (length way)) (Err Full) (Ok m)) simple
    ∙ sym (not_below 8 target.parents (Err Full) _ near ∙ not_below target.parents l.parents _ _ down)

-- the three steps together
pub three_steps : (l target : Location) (context : List Junction) → length l.interior ≤ 8 → length target.interior ≤ 8 → target.parents ≤ 8
    → then_simplified target.interior (prepended (inverted context target) l) ≡ reanchored l target context
three_steps l target context few few_too near =
    elim (cases_lt target.parents l.parents) [
      | inl up ↦ steps_up l target context few near up
      | inr down ↦ steps_down l target context few_too near down
    ]

-- and a target that is too high
pub too_far : (l target : Location) (context : List Junction) → 8 < target.parents → Err Full ≡ reanchored l target context
too_far l target context far = sym (below 8 target.parents (Err Full) _ far)

-- what the calls answered one after another
pub whole_way : (l target own seen put simple : Location) (context : List Junction)
    → length l.interior ≤ 8 → length target.interior ≤ 8 → target.parents ≤ 8 → own ≡ inverted context target → seen ≡ l
    → prepended own seen ≡ Ok put → simple ≡ simplified target.interior put → Ok simple ≡ reanchored l target context
whole_way l target own seen put simple context few few_too near is_test_error is_seen is_put is_simple =
    ap Ok is_simple
    ∙ ap (then_simplified target.interior) (sym is_put ∙ (λ i. prepended (is_test_error i) (is_seen i)))
    ∙ three_steps l target context few few_too near

pub refused_way : (l target own seen : Location) (fault : LocationFault) (context : List Junction)
    → length l.interior ≤ 8 → length target.interior ≤ 8 → target.parents ≤ 8 → own ≡ inverted context target → seen ≡ l
    → prepended own seen ≡ Err fault → Err fault ≡ reanchored l target context
refused_way l target own seen fault context few few_too near is_test_error is_seen is_put =
    ap (then_simplified target.interior) (sym is_put ∙ (λ i. prepended (is_test_error i) (is_seen i)))
    ∙ three_steps l target context few few_too near
