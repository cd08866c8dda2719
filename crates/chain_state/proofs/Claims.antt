-- The trap that is claimed: the first that fits.
use Rattle.std.proofs.Common.{◌≡◌, ℕ, suc, ◌+◌, true, false, ◌||◌, cond, not, List, [], ◌∷◌, ◌++◌, length, refl, sym, ap, ◌∙◌, subst, arith, inl, inr}
use Rattle.std.specs.Prelude.{None, Some, position, remove, nat_lt}
use Rattle.std.specs.Ordering.{eq_by_cmp, nat_cmp, on, then_cmp}
use Rattle.std.specs.declared.cmp.Ordering.{Ordering}
use Rattle.std.specs.Cmp.Lexicographic.{slice_cmp}
use Rattle.std.specs.List.{list_any, position_or_len}
use Rattle.std.specs.Option.{option_map_or}
use Rattle.std.proofs.lemmas.Bool.{and_parts, and_from, cases_Bool}
use Rattle.amounts.proofs.Lemmas.Rows.{IsKeyOrder}
use Rattle.amounts.proofs.Lemmas.Keys.{number_keys, list_keys, pair_keys}
use Rattle.amounts.specs.Amounts.{rows, from_rows}
use Rattle.amounts.proofs.Lemmas.{same_key, key_same, from_rows-rows}
use Rattle.locations.specs.declared.relative.Location.{Location}
use Rattle.locations.specs.Order.{location_cmp}
use Rattle.locations.proofs.Lemmas.OrderLaws.{location_decides}
use Rattle.asset_lists.specs.declared.units.Asset.{Asset}
use Rattle.asset_lists.specs.Units.{Unit, unit_cmp}
use Rattle.asset_bundles.specs.Bundles.{Bundle, bundle_of}
use Rattle.asset_bundles.proofs.Lemmas.Bundles.{unit_keys}
use Rattle.asset_bundles.specs.declared.trap.Trap.{Trap}
use Rattle.asset_bundles.specs.Traps.{Store, Fits, NoneFits, IsClaimed}
use Rattle.operands.specs.declared.error.XcmError.TheVariants as error
use Rattle.exec_base.specs.Part.{ChainPart}
use Rattle.exec_base.specs.Sending.{unless}
use Rattle.exec_base.specs.Host.{bundle_cmp, is_trap, claim_refusal, claimed}
use Rattle.plain_lists.proofs.Lemmas.Facts.{zero_below as first_below}

rows_cmp : List (Unit × ℕ) → List (Unit × ℕ) → Ordering
rows_cmp = slice_cmp (then_cmp (on (λ (r : Unit × ℕ). r.0) unit_cmp) (on (λ (r : Unit × ℕ). r.1) nat_cmp))

rows_keys : IsKeyOrder (slice_cmp (then_cmp (on (λ (r : Unit × ℕ). r.0) unit_cmp) (on (λ (r : Unit × ℕ). r.1) nat_cmp)))
rows_keys = list_keys (pair_keys unit_keys number_keys)

-- bundles that compare alike are the same
same_goods : (b c : Bundle) → eq_by_cmp bundle_cmp b c ≡ true → b ≡ c
same_goods b c e = sym (from_rows-rows unit_keys b) ∙ ap from_rows (key_same rows_keys (rows b) (rows c) e) ∙ from_rows-rows unit_keys c

goods_same : (b : Bundle) → eq_by_cmp bundle_cmp b b ≡ true
goods_same b = same_key rows_keys (rows b)

fits_from : (list : List Asset) (origin : Location) (t : Trap) → is_trap list origin t ≡ true → Fits list origin t
fits_from list origin t e =
    let parts = and_parts (eq_by_cmp location_cmp t.origin origin) (eq_by_cmp bundle_cmp t.goods (bundle_of list)) e in
    ((location_decides t.origin origin).0 parts.0, same_goods t.goods (bundle_of list) parts.1)

from_fits : (list : List Asset) (origin : Location) (t : Trap) → Fits list origin t → is_trap list origin t ≡ true
from_fits list origin t fits =
    and_from _ _ ((location_decides t.origin origin).1 fits.0) (subst (λ b. eq_by_cmp bundle_cmp b (bundle_of list) ≡ true) (sym fits.1) (goods_same (bundle_of list)))

no_trap : (list : List Asset) (origin : Location) (t : Trap) → (Fits list origin t → ⊥) → is_trap list origin t ≡ false
no_trap list origin t none = elim (cases_Bool (is_trap list origin t)) [
  | inl here ↦ absurd (none (fits_from list origin t here))
  | inr other ↦ other
]

none_there : (list : List Asset) (origin : Location) (traps : List Trap) → NoneFits list origin traps → list_any (is_trap list origin) traps ≡ false
none_there list origin [] none = refl
none_there list origin (t ∷ ts) none =
    ap (λ b. b || list_any (is_trap list origin) ts) (no_trap list origin t none.0) ∙ none_there list origin ts none.1

-- no trap is claimed
pub unknown : (p : ChainPart) (list : List Asset) (origin : Location) → NoneFits list origin p.traps.traps → claim_refusal p list origin ≡ Some error.UnknownClaim
unfolding claim_refusal
unknown p list origin none = ap (λ b. unless b error.UnknownClaim None) (none_there list origin p.traps.traps none)

any_there : (list : List Asset) (origin : Location) (front : List Trap) (t : Trap) (back : List Trap) → is_trap list origin t ≡ true → list_any (is_trap list origin) (front ++ t ∷ back) ≡ true
any_there list origin [] t back fits = ap (λ b. b || list_any (is_trap list origin) back) fits
any_there list origin (f ∷ front) t back fits =
    elim (is_trap list origin f) as (λ b. (b || list_any (is_trap list origin) (front ++ t ∷ back)) ≡ true) [ true ↦ refl | false ↦ any_there list origin front t back fits ]

plus_one : (n : ℕ) → 1 + n ≡ suc n
plus_one n = omega arith

place_there : (list : List Asset) (origin : Location) (front : List Trap) (t : Trap) (back : List Trap) → NoneFits list origin front → is_trap list origin t ≡ true
    → position_or_len (is_trap list origin) (front ++ t ∷ back) ≡ length front
place_there list origin [] t back none fits = ap (λ b. cond {A = ℕ} (not b) (1 + position_or_len (is_trap list origin) back) 0) fits
place_there list origin (f ∷ front) t back none fits =
    ap (λ b. cond {A = ℕ} (not b) (1 + position_or_len (is_trap list origin) (front ++ t ∷ back)) 0) (no_trap list origin f none.0)
    ∙ ap (λ n. 1 + n) (place_there list origin front t back none.1 fits) ∙ plus_one (length front)

below_more : (n m : ℕ) → nat_lt (suc n) (suc m) ≡ nat_lt n m
below_more n m = grind arith

longer : (front : List Trap) (t : Trap) (back : List Trap) → nat_lt (length front) (length (front ++ t ∷ back)) ≡ true
longer [] t back = first_below (length back)
longer (f ∷ front) t back = below_more (length front) (length (front ++ t ∷ back)) ∙ longer front t back

first_there : (list : List Asset) (origin : Location) (front : List Trap) (t : Trap) (back : List Trap) → NoneFits list origin front → is_trap list origin t ≡ true
    → position (is_trap list origin) (front ++ t ∷ back) ≡ Some (length front)
first_there list origin front t back none fits =
    ap (λ n. cond (nat_lt n (length (front ++ t ∷ back))) (Some n) None) (place_there list origin front t back none fits)
    ∙ ap (λ b. cond b (Some (length front)) None) (longer front t back)

without : (front : List Trap) (t : Trap) (back : List Trap) → remove (front ++ t ∷ back) (length front) ≡ front ++ back
without [] t back = refl
without (f ∷ front) t back = ap (λ ts. f ∷ ts) (without front t back)

-- the oldest trap that fits is claimed
pub known : (p : ChainPart) (list : List Asset) (origin : Location) (new : Store) → IsClaimed list origin p.traps new → claim_refusal p list origin ≡ None
unfolding claim_refusal
known p list origin new is =
    ap (λ ts. unless (list_any (is_trap list origin) ts) error.UnknownClaim None) is.before
    ∙ ap (λ b. unless b error.UnknownClaim None) (any_there list origin is.front is.trap is.back (from_fits list origin is.trap is.fits))

pub taken : (p : ChainPart) (list : List Asset) (origin : Location) (new : Store) → IsClaimed list origin p.traps new → record p { traps = new } ≡ claimed p list origin
unfolding claimed
taken p list origin new is =
    let at = ap (position (is_trap list origin)) is.before ∙ first_there list origin is.front is.trap is.back is.oldest (from_fits list origin is.trap is.fits) in
    let rest : new.traps ≡ remove p.traps.traps (length is.front) = is.after ∙ sym (without is.front is.trap is.back) ∙ ap (λ ts. remove ts (length is.front)) (sym is.before) in
    (λ i. record p { traps = record { traps = rest i; next = is.number i } })
    ∙ sym (ap (λ o. option_map_or (λ (place : ℕ). record p { traps = record p.traps { traps = remove p.traps.traps place } }) o p) at)
