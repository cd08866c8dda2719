-- What a purchase books as saturated, and its line.
use Rattle.std.proofs.Common.{◌≡◌, ℕ, zero, suc, ◌+◌, ◌<◌, Bool, true, false, if◌then◌else◌, List, [], ◌∷◌, map, refl, sym, ap, ◌∙◌, subst, arith}
use Rattle.std.specs.Prelude.{Option, None, Some, nat_le}
use Rattle.std.specs.List.{find, AllByRecursion}
use Rattle.std.specs.List.Sorted.{IsStrictlySortedBy}
use Rattle.std.specs.Ordering.{eq_by_cmp}
use Rattle.amounts.specs.Rows.{amount_if}
use Rattle.amounts.specs.Amounts.{amount, empty, single}
use Rattle.amounts.proofs.Lemmas.AmountLaws.{amount-empty, same_amounts}
use Rattle.amounts.proofs.Lemmas.{amount-single, amount-map_keys, single-zero}
use Rattle.locations.specs.declared.relative.Location.{Location}
use Rattle.operands.specs.declared.weight.Weight.{Weight}
use Rattle.asset_lists.specs.declared.units.AssetId.{AssetId}
use Rattle.asset_lists.specs.declared.units.AssetId.TheVariants.{Concrete}
use Rattle.asset_lists.specs.declared.units.Asset.{Asset}
use Rattle.asset_lists.specs.declared.units.Fun.{Fun}
use Rattle.asset_lists.specs.declared.units.Kind.{Kind}
use Rattle.asset_lists.specs.Units.{Unit, unit_cmp, amount_of}
use Rattle.asset_lists.specs.Listed.{Listed, listed_of}
use Rattle.asset_bundles.specs.declared.book.Cause.{Cause}
use Rattle.asset_bundles.specs.Bundles.{Bundle, bundle_of, held_assets}
use Rattle.asset_bundles.proofs.Lemmas.Bundles.{unit_keys}
use Rattle.asset_bundles.proofs.Lemmas.BundleLaws.{same_bundles, amount-bundle_of, total-bundle_of, held_assets-holding}
use Rattle.asset_bundles.specs.Books.{Burn, burn_cmp, Book, Booked, burned_for}
use Rattle.asset_bundles.proofs.Lemmas.{burn_keys, booked_nothing}
use Rattle.weight_trader.specs.Purchases.{Line, coin_of, paying, some_amount, excess_at, excess, with_saturated, IsTooExpensive}
use Rattle.weight_trader.specs.Prices.{price}
use Rattle.exec_base.specs.Part.{ChainPart}
use Rattle.exec_base.specs.Host.{above, burned_line, burned_lines}
use Rattle.chain_state.specs.Lines.{excess_lines}
use Rattle.chain_state.proofs.Nothing.{held_nothing}

-- ---- one asset
pub one_held : (a : Asset) → 0 < amount_of a → held_assets (bundle_of (a ∷ [])) ≡ a ∷ []
unfolding IsStrictlySortedBy
one_held a some = held_assets-holding (a ∷ []) (record { rising = (tt, tt); positive = (some, tt) })

no_row : (b : Bool) → amount_if b 0 + 0 ≡ 0
no_row true = refl
no_row false = refl

above_nothing : (asset : Listed) → above asset 0 ≡ empty
above_nothing asset =
    same_bundles _ _ (λ u. amount-bundle_of (record { id = asset.0; fun = Fun.Fungible 0 } ∷ []) u ∙ no_row (eq_by_cmp unit_cmp u (asset.0, None)) ∙ sym (amount-empty unit_keys u))

one_row : (b : Bool) (n : ℕ) → amount_if b n + 0 ≡ amount_if b n
one_row b n = omega arith

-- what is booked of it
burned_one : (id : AssetId) (n : ℕ) → burned_for Cause.Saturated (above (id, Kind.Fungible) n) ≡ single ((id, Kind.Fungible), Cause.Saturated) n
unfolding burned_for
burned_one id n =
    same_amounts burn_keys _ _ (λ (k : Burn).
    amount-map_keys burn_keys (λ (unit : Unit). (listed_of unit, Cause.Saturated)) (above (id, Kind.Fungible) n) k
    ∙ total-bundle_of (λ unit. eq_by_cmp burn_cmp k (listed_of unit, Cause.Saturated)) (record { id = id; fun = Fun.Fungible n } ∷ [])
    ∙ one_row (eq_by_cmp burn_cmp k ((id, Kind.Fungible), Cause.Saturated)) n
    ∙ sym (amount-single burn_keys ((id, Kind.Fungible), Cause.Saturated) n k))

pub saturated_is : (id : AssetId) (n : ℕ) (book : Book) → with_saturated (id, Kind.Fungible) n book ≡ Booked book (burned_for Cause.Saturated (above (id, Kind.Fungible) n))
saturated_is id zero book = sym (ap (Booked book) (burned_one id 0 ∙ single-zero burn_keys ((id, Kind.Fungible), Cause.Saturated)) ∙ booked_nothing book)
saturated_is id (suc n) book = sym (ap (Booked book) (burned_one id (suc n)))

-- its line
pub line_of_excess : (p : ChainPart) (asset : Location) (n : ℕ) → excess_lines p (some_amount asset n) ≡ burned_lines p (λ unit. Cause.Saturated) (above (Concrete asset, Kind.Fungible) n)
unfolding burned_lines
line_of_excess p asset zero = sym (ap (λ b. map (burned_line p (λ unit. Cause.Saturated)) (held_assets b)) (above_nothing (Concrete asset, Kind.Fungible)) ∙ ap (map (burned_line p (λ unit. Cause.Saturated))) held_nothing)
line_of_excess p asset (suc n) = sym (ap (map (burned_line p (λ unit. Cause.Saturated))) (one_held (record { id = Concrete asset; fun = Fun.Fungible (suc n) }) (omega arith)))

-- ---- the line that is bought at
not_covered : (n m : ℕ) → m < n → nat_le n m ≡ false
not_covered n m h = grind (arith, h)

pub none_pays : (w : Weight) (payment : Bundle) (lines : List Line) → IsTooExpensive w payment lines → paying w payment lines ≡ None
none_pays w payment [] h = refl
none_pays w payment (line ∷ lines) h =
    ap (λ b. if b then Some line else paying w payment lines) (not_covered (price line.rate w) (amount payment (coin_of line.rate)) h.0) ∙ none_pays w payment lines h.1

pub found_passes : (P : Line → Type 0) (p : Line → Bool) (lines : List Line) (line : Line) → AllByRecursion P lines → find p lines ≡ Some line → P line
found_passes P p [] line all is = absurd (cc)
found_passes P p (x ∷ xs) line all is =
    elim (p x) as (λ b. (if b then Some x else find p xs) ≡ Some line → P line) [
      | true ↦ λ e. subst P (let same : x ≡ line = cc in same) all.0
      | false ↦ λ e. found_passes P p xs line all.1 e
    ] is

place_told : Option (Location × ℕ) → Location → Location
place_told None place = place
place_told (Some above) place = above.0

amount_at : (asset other : Location) (n m : ℕ) → some_amount asset n ≡ Some (other, m) → asset ≡ other
unfolding place_told
amount_at asset other zero m is = absurd (cc)
amount_at asset other (suc n) m is = ap (λ o. place_told o asset) is

pub excess_paid : (w : Weight) (o : Option Line) (asset : Location) (n : ℕ) → excess_at w o ≡ Some (asset, n) → (line : Line) × (o ≡ Some line) × (line.rate.asset ≡ asset)
excess_paid w None asset n is = absurd (cc)
excess_paid w (Some line) asset n is = (line, refl, amount_at line.rate.asset asset (excess w line) n is)
