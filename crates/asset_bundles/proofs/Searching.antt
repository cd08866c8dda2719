-- The search for the oldest trap that fits, through the positions under its digest.
use Rattle.std.proofs.Common.{◌≡◌, ℕ, zero, suc, ◌≤◌, Bool, true, false, cond, ◌||◌, filter, List, [], ◌∷◌, Some, refl, sym, ap, ◌∙◌, subst, arith, true≢false}
use Rattle.std.specs.declared.cmp.Ordering.TheVariants.{Less}
use Rattle.std.specs.declared.ops.Bound.TheVariants.{Included, Unbounded}
use Rattle.std.specs.Ordering.{nat_cmp, is_le, is_gt, eq_by_cmp, ordering_then}
use Rattle.std.specs.Cmp.{nat_cmp_is}
use Rattle.std.specs.BTreeMap.Range.{IsLeBy, range_contains}
use Rattle.std.specs.List.{AllByRecursion}
use Rattle.std.specs.List.Sorted.{IsStrictlySortedBy}
use Rattle.std.proofs.lemmas.Bool.{and_from}
use Rattle.std.proofs.lemmas.List.Kept.{IsStrictlySortedBy-filter}
use Rattle.std.proofs.lemmas.Map.Keys.{le_from_not_gt}
use Rattle.amounts.proofs.Lemmas.Keys.{number_keys}
use Rattle.amounts.proofs.Lemmas.{same_key, key_same}
use Rattle.locations.specs.declared.relative.Location.{Location}
use Rattle.asset_lists.specs.declared.units.Asset.{Asset}
use Rattle.asset_lists.specs.Lists.{IsAssetList}
use Rattle.asset_bundles.specs.Bundles.{held_assets}
use Rattle.asset_bundles.proofs.Lemmas.BundleLaws.{held_assets-holding}
use Rattle.asset_bundles.specs.declared.trap.Trap.{Trap}
use Rattle.asset_bundles.specs.Traps.{Fits}
use Rattle.asset_bundles.specs.Digest.{digest, digest_of}
use Rattle.asset_bundles.specs.Oldest.{TrapRow, trap_at, DigestPlace, digest_place_cmp, is_listed, ArePlaced, NoneAt, FitsAt, IsOldest}
use Rattle.asset_bundles.proofs.Holding.{holding_of_list}
use Rattle.asset_bundles.proofs.Places.{digest_places, less_than}
use Rattle.plain_lists.proofs.Lemmas.Facts.{first_not_greater as first_le, equal_told as eq_true}

-- a trap that fits has the digest of the list
same_digest : (list : List Asset) (origin : Location) (t : Trap) → IsAssetList list → Fits list origin t → digest_of t ≡ digest origin list
same_digest list origin t is_list fits =
    let goods : held_assets t.goods ≡ list = ap held_assets fits.1 ∙ held_assets-holding list (holding_of_list list is_list) in
    λ i. digest (fits.0 i) (goods i)

-- ---- keys by digest, then by position
digests_le : (k q : DigestPlace) → is_gt (digest_place_cmp k q) ≡ false → k.0 ≤ q.0
digests_le k q h = le_from_not_gt k.0 q.0 (first_le (nat_cmp k.0 q.0) (nat_cmp k.1 q.1) h)

under_one : (d p q : ℕ) → digest_place_cmp (d, p) (d, q) ≡ nat_cmp p q
under_one d p q = ap (λ o. ordering_then o (nat_cmp p q)) (eq_true (nat_cmp d d) (same_key number_keys d))

from_zero : (p : ℕ) → is_le (nat_cmp 0 p) ≡ true
from_zero zero = refl
from_zero (suc p) = ap is_le (sym (nat_cmp_is 0 (suc p) Less (omega arith)))

-- a key that is listed is one of those that come later
later_key : (k q : DigestPlace) (rest : List DigestPlace) → AllByRecursion (λ p. digest_place_cmp k p ≡ Less) rest → is_listed rest q ≡ true → digest_place_cmp k q ≡ Less
later_key k q [] later there = absurd (true≢false (sym there))
later_key k q (p ∷ rest) later there = by (λ h. later_key k q rest later.1 h) (eq_by_cmp digest_place_cmp q p) refl there
  where
    by : (is_listed rest q ≡ true → digest_place_cmp k q ≡ Less) → (b : Bool) → eq_by_cmp digest_place_cmp q p ≡ b → (b || is_listed rest q) ≡ true → digest_place_cmp k q ≡ Less
    by further true same h = subst (λ x. digest_place_cmp k x ≡ Less) (sym (key_same digest_places q p same)) later.0
    by further false other h = further h

kept_listed : (p : DigestPlace → Bool) (q : DigestPlace) (ks : List DigestPlace) → p q ≡ true → is_listed ks q ≡ true → is_listed (filter p ks) q ≡ true
kept_listed p q [] passes there = there
kept_listed p q (k ∷ ks) passes there = by (λ h. kept_listed p q ks passes h) (eq_by_cmp digest_place_cmp q k) refl there
  where
    by : (is_listed ks q ≡ true → is_listed (filter p ks) q ≡ true) → (b : Bool) → eq_by_cmp digest_place_cmp q k ≡ b → (b || is_listed ks q) ≡ true → is_listed (cond (p k) (k ∷ filter p ks) (filter p ks)) q ≡ true
    by further true same h =
        ap (λ c. is_listed (cond c (k ∷ filter p ks) (filter p ks)) q) (ap p (sym (key_same digest_places q k same)) ∙ passes)
        ∙ ap (λ c. c || is_listed (filter p ks) q) same
    by further false other h =
        let rest = further h in
        elim (p k) as (λ c. is_listed (cond c (k ∷ filter p ks) (filter p ks)) q ≡ true) [
          | true ↦ ap (λ c. c || is_listed (filter p ks) q) other ∙ rest
          | false ↦ rest
        ]

-- ---- the keys that are left, of those from a digest on
pub record IsAhead (list : List Asset) (origin : Location) (rows : List TrapRow) (sought : ℕ) (rest : List DigestPlace) : Type 0 where
  pub ahead : (p : ℕ) (t : Trap) → trap_at rows p ≡ Some t → Fits list origin t → is_listed rest (sought, p) ≡ true
  pub each : AllByRecursion (IsLeBy digest_place_cmp (sought, 0)) rest
  pub rising : IsStrictlySortedBy digest_place_cmp rest

module _ (list : List Asset) (origin : Location) (rows : List TrapRow) (sought : ℕ) where
  in_range : DigestPlace → Bool
  in_range q = range_contains digest_place_cmp (Included (sought, 0)) Unbounded q

  pub all_ahead : (index rest : List DigestPlace) → IsAssetList list → sought ≡ digest origin list → ArePlaced rows index → rest ≡ filter (range_contains digest_place_cmp (Included (sought, 0)) Unbounded) index
      → AllByRecursion (IsLeBy digest_place_cmp (sought, 0)) rest → IsStrictlySortedBy digest_place_cmp index → IsAhead list origin rows sought rest
  unfolding in_range
  all_ahead index rest is_list is_digest placed is each rising = record {
    ahead = λ p t at fits.
        ap (λ ks. is_listed ks (sought, p)) is
        ∙ kept_listed in_range (sought, p) index (and_from _ _ (ap is_le (under_one sought 0 p) ∙ from_zero p) refl)
        (subst (λ d. is_listed index (d, p) ≡ true) (same_digest list origin t is_list fits ∙ sym is_digest) (placed.listed p t at));
    each = each;
    rising = subst (IsStrictlySortedBy digest_place_cmp) (sym is) (IsStrictlySortedBy-filter digest_place_cmp in_range index rising);
  }

  -- the first of these keys, or one after it
  first_or_later : (k q : DigestPlace) (rest : List DigestPlace) (P : Type 0) → (q ≡ k → P) → (is_listed rest q ≡ true → P) → is_listed (k ∷ rest) q ≡ true → P
  first_or_later k q rest P here later there = by (eq_by_cmp digest_place_cmp q k) refl there
    where
      by : (b : Bool) → eq_by_cmp digest_place_cmp q k ≡ b → (b || is_listed rest q) ≡ true → P
      by true same h = here (key_same digest_places q k same)
      by false other h = later h

  pub key_passed : (k : DigestPlace) (rest : List DigestPlace) → (FitsAt list origin rows k.1 → ⊥) → IsAhead list origin rows sought (k ∷ rest) → IsAhead list origin rows sought rest
  unfolding IsStrictlySortedBy
  key_passed k rest other h = record {
    ahead = λ p t at fits.
        first_or_later k (sought, p) rest (is_listed rest (sought, p) ≡ true)
        (λ same. absurd (other (subst (FitsAt list origin rows) (ap (λ (q : DigestPlace). q.1) same) (record { trap = t; here = at; fits = fits }))))
        (λ later. later)
        (h.ahead p t at fits);
    each = h.each.1;
    rising = h.rising.1;
  }

  pub nothing_left : IsAhead list origin rows sought [] → NoneAt list origin rows
  nothing_left h p t at fits = true≢false (sym (h.ahead p t at fits))

  -- where the next key is of another digest, no position of this one is left
  pub digest_left : (k : DigestPlace) (rest : List DigestPlace) → IsAhead list origin rows sought (k ∷ rest) → (k.0 ≡ sought → ⊥) → NoneAt list origin rows
  unfolding IsStrictlySortedBy
  digest_left k rest h other p t at fits =
      first_or_later k (sought, p) rest ⊥
      (λ same. other (sym (ap (λ (q : DigestPlace). q.0) same)))
      (λ later.
      let above = digests_le (sought, 0) k h.each.0 in
      let below = digests_le k (sought, p) (ap is_gt (later_key k (sought, p) rest h.rising.0 later)) in
      other (omega (arith, above, below)))
      (h.ahead p t at fits)

  pub key_found : (k : DigestPlace) (rest : List DigestPlace) → IsAhead list origin rows sought (k ∷ rest) → k.0 ≡ sought → FitsAt list origin rows k.1 → IsOldest list origin rows k.1
  unfolding IsStrictlySortedBy
  key_found k rest h same at = record {
    at = at;
    oldest = λ p t earlier here fits.
        first_or_later k (sought, p) rest ⊥
        (λ one. (let place : p ≡ k.1 = ap (λ (q : DigestPlace). q.1) one in absurd (omega (arith, earlier, place))))
        (λ later.
        let behind : nat_cmp k.1 p ≡ Less = sym (under_one sought k.1 p) ∙ ap (λ d. digest_place_cmp (d, k.1) (sought, p)) (sym same) ∙ later_key k (sought, p) rest h.rising.0 later in
        let further = less_than k.1 p behind in
        absurd (omega (arith, earlier, further)))
        (h.ahead p t here fits);
  }
