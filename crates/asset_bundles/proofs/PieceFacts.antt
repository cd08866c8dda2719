-- A part of a list in holding order is in holding order; and a few assets of it are a list that an instruction may speak of.
use Rattle.std.proofs.Common.{◌≡◌, ℕ, ◌-◌, ◌≤◌, List, length, take, drop, refl, ap, ◌∙◌, subst, sym, arith}
use Rattle.std.specs.Prelude.{min}
use Rattle.std.proofs.lemmas.List.{length-take, length-drop, take_all, take_min, drop_min}
use Rattle.asset_lists.specs.declared.units.Asset.{Asset}
use Rattle.asset_lists.specs.Units.{Unit}
use Rattle.asset_lists.specs.Lists.{IsAssetList}
use Rattle.asset_lists.specs.Moves.{occurrences}
use Rattle.asset_lists.proofs.Lemmas.{once_each}
use Rattle.asset_bundles.specs.Bundles.{IsHolding}
use Rattle.asset_bundles.proofs.Lemmas.BundleLaws.{rest_holding}
use Rattle.asset_bundles.proofs.Parts.{first_holding}
use Rattle.asset_bundles.proofs.SumFacts.{is_rising_of, no_zero_of}

pub once_held : (xs : List Asset) → IsHolding xs → (u : Unit) → occurrences u xs ≤ 1
once_held xs h u = once_each xs (is_rising_of xs h.rising) u

-- the part that the code cuts out, its first index and its length kept within the list
pub part_is : (xs : List Asset) (from most first count : ℕ) → first ≡ min from (length xs) → count ≡ min most (length (take (length xs - first) (drop first xs)))
    → take count (take (length xs - first) (drop first xs)) ≡ take most (drop from xs)
part_is xs from most first count front few =
    let rest : List Asset = take (length xs - first) (drop first xs) in
    let all : rest ≡ drop from xs = take_all (length xs - first) (drop first xs) (let l = length-drop first xs in omega (arith, l)) ∙ ap (λ n. drop n xs) front ∙ drop_min from xs in
    ap (λ n. take n rest) few ∙ take_min most rest ∙ ap (take most) all

pub part_holding : (from most : ℕ) (xs part : List Asset) → IsHolding xs → part ≡ take most (drop from xs) → IsHolding part
part_holding from most xs part h is = subst IsHolding (sym is) (first_holding most (drop from xs) (rest_holding from xs h))

few_taken : (n : ℕ) (xs : List Asset) → n ≤ 20 → length (take n xs) ≤ 20
few_taken n xs few = let l = length-take n xs in omega (arith, l, few)

pub is_piece : (xs : List Asset) (m n : ℕ) → IsHolding xs → n ≤ 20 → IsAssetList (take n (drop m xs))
is_piece xs m n h few =
    let piece : IsHolding (take n (drop m xs)) = part_holding m n xs _ h refl in
    record {
      few = few_taken n (drop m xs) few;
      no_zero = no_zero_of (take n (drop m xs)) piece.positive;
      rising = is_rising_of (take n (drop m xs)) piece.rising;
    }
