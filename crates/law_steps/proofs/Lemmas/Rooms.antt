-- Lemmas on the definitions of `specs/Rooms.antt`: what proofs cite.
use Rattle.std.proofs.Common.{◌≡◌, suc, ◌+◌, ◌≤◌, Bool, true, false, List, [], ◌∷◌, refl, sym, ap, ◌∙◌, subst, arith}
use Rattle.std.specs.Prelude.{◌||◌, not}
use Rattle.std.specs.List.{sum_by}
use Rattle.std.specs.Ordering.{eq_by_cmp}
use Rattle.std.proofs.lemmas.Bool.{and_from}
use Rattle.std.proofs.lemmas.List.Sums.{sum_by-cons}
use Rattle.amounts.specs.Amounts.{total}
use Rattle.amounts.proofs.Lemmas.AmountLaws.{total_at_most}
use Rattle.amounts.proofs.Lemmas.{key_same, amount_at_most, total_none}
use Rattle.locations.proofs.Lemmas.OrderLaws.{junctions_decides}
use Rattle.asset_lists.specs.Units.{Unit}
use Rattle.asset_lists.specs.Listed.{Listed, listed_cmp, listed_of, lists}
use Rattle.asset_lists.proofs.Lemmas.{same_kind_says}
use Rattle.asset_bundles.specs.Bundles.{Bundle}
use Rattle.asset_bundles.proofs.Lemmas.Bundles.{unit_keys}
use Rattle.asset_bundles.specs.Books.{is_unit_where, is_unit_of, is_burn_where, AreListed}
use Rattle.asset_bundles.proofs.Lemmas.Books.{is_burn_of}
use Rattle.asset_bundles.proofs.Lemmas.{listed_keys}
use Rattle.ledgers.specs.Ledgers.{Holder}
use Rattle.asset_bundles.specs.declared.trap.Trap.{Trap}
use Rattle.asset_bundles.specs.Traps.{trapped_where}
use Rattle.trust_tables.specs.declared.rows.AssetRow.{AssetRow}
use Rattle.trust_tables.specs.Chains.{path_of_site}
use Rattle.trust_tables.specs.Trust.{listing, listed_row}
use Rattle.weight_trader.specs.Purchases.{paid_goods}
use Rattle.exec_base.specs.Part.{ChainPart}
use Rattle.law_coherence.specs.UniversalAssets.{every, is_asset_at, is_unit_at}
use Rattle.law_coherence.specs.Networks.{Table, IsIn, asset_of_row, IsUnitOf}
use Rattle.law_runs.specs.Views.{table_of}
use Rattle.law_runs.specs.Sums.{in_kept, in_places, burned_where, Sum, none, most, HasRoom}
use Rattle.law_runs.proofs.Lemmas.Sums.{sum_of, with}
use Rattle.law_steps.specs.Rooms.{unlisted, AllListed}

-- no listed asset passes 2^127, with what comes in
abbrev pub IsSmall : Sum → ChainPart → Type 0
IsSmall ins p = (row : AssetRow) → IsIn p.rows row
    → burned_where (is_asset_at (path_of_site p.site) (asset_of_row (table_of p) row)) p + (in_places (is_unit_at (path_of_site p.site) (asset_of_row (table_of p) row) every) p + ins (is_unit_at (path_of_site p.site) (asset_of_row (table_of p) row) every)) ≤ most

-- a test that passes more units gives no smaller sum
abbrev pub IsRising : Sum → Type 0
IsRising ins = (t u : Unit → Bool) → ((unit : Unit) → t unit ≡ true → u unit ≡ true) → ins t ≤ ins u

-- ---- lemmas
traps_at_most : (t u : Unit → Bool) → ((unit : Unit) → t unit ≡ true → u unit ≡ true) → (xs : List Trap) → trapped_where t xs ≤ trapped_where u xs
traps_at_most t u more [] = omega arith
traps_at_most t u more (x ∷ xs) =
    let a = sum_by-cons (λ (x : Trap). total t x.goods) x xs in
    let b = sum_by-cons (λ (x : Trap). total u x.goods) x xs in
    let one = total_at_most t u x.goods more in
    let rest = traps_at_most t u more xs in
    omega (arith, a, b, one, rest)

bundles_at_most : (t u : Unit → Bool) → ((unit : Unit) → t unit ≡ true → u unit ≡ true) → (xs : List Bundle) → sum_by (λ (b : Bundle). total t b) xs ≤ sum_by (λ (b : Bundle). total u b) xs
bundles_at_most t u more [] = omega arith
bundles_at_most t u more (x ∷ xs) =
    let a = sum_by-cons (λ (b : Bundle). total t b) x xs in
    let b = sum_by-cons (λ (b : Bundle). total u b) x xs in
    let one = total_at_most t u x more in
    let rest = bundles_at_most t u more xs in
    omega (arith, a, b, one, rest)

pub places_at_most : (t u : Unit → Bool) → ((unit : Unit) → t unit ≡ true → u unit ≡ true) → (p : ChainPart) → in_places t p ≤ in_places u p
unfolding in_kept
places_at_most t u more p =
    let held = total_at_most (λ (h : Holder). t h.1) (λ (h : Holder). u h.1) p.held (λ h. more h.1) in
    let traps = traps_at_most t u more p.traps.traps in
    let paid = total_at_most t u (paid_goods p.lines) more in
    let fees = total_at_most t u p.fees more in
    let slot = total_at_most t u p.fee_slot more in
    let parked = bundles_at_most t u more p.parked in
    omega (arith, held, traps, paid, fees, slot, parked)

pub sum_rises : (b : Bundle) → IsRising (sum_of b)
sum_rises b t u more = total_at_most t u b more

pub none_rises : IsRising none
none_rises t u more = omega arith

pub with_rises : (a b : Sum) → IsRising a → IsRising b → IsRising (with a b)
with_rises a b x y t u more = let one = x t u more in let two = y t u more in omega (arith, one, two)

-- ---- the row of a listed asset
pub listed_found : (rows : List AssetRow) (k : Listed) → lists (listing rows) k ≡ true → (row : AssetRow) × IsIn rows row × (k ≡ listed_row row)
listed_found [] k h = absurd cc
listed_found (row ∷ rows) k h =
    elim (eq_by_cmp listed_cmp k (listed_row row)) as (λ b. eq_by_cmp listed_cmp k (listed_row row) ≡ b → (b || lists (listing rows) k) ≡ true → (r : AssetRow) × IsIn (row ∷ rows) r × (k ≡ listed_row r)) [
      | true ↦ λ t g. (row, (0, refl), key_same listed_keys k (listed_row row) t)
      | false ↦ λ t g. let rest = listed_found rows k g in (rest.0, (suc rest.1.0, rest.1.1), rest.2)
    ] refl h

row_passes : (t : Table) (row : AssetRow) → is_asset_at (path_of_site t.site) (asset_of_row t row) (listed_row row) ≡ true
row_passes t row =
    let path = asset_of_row t row in
    and_from _ _ ((junctions_decides path.0 path.0).1 refl) ((same_kind_says row.kind row.kind).1 refl)

pub unit_of_row : (row : AssetRow) (u : Unit) → listed_of u ≡ listed_row row → IsUnitOf u row
unit_of_row row u e = record { id = ap (λ (k : Listed). k.0) e; kind = ap (λ (k : Listed). k.1) e }

-- ---- room
room_at : (p : ChainPart) (ins : Sum) → IsRising ins → AllListed ins p → IsSmall ins p → (k : Listed) (b : Bool) → lists (listing p.rows) k ≡ b → burned_where (eq_by_cmp listed_cmp k) p + (in_places (is_unit_of k) p + ins (is_unit_of k)) ≤ most
room_at p ins rising listed small k true e =
    let found = listed_found p.rows k e in
    let a = asset_of_row (table_of p) found.0 in
    let c = path_of_site p.site in
    let passes : (j : Listed) → eq_by_cmp listed_cmp k j ≡ true → is_asset_at c a j ≡ true = λ j h. subst (λ (l : Listed). is_asset_at c a l ≡ true) (sym found.2 ∙ key_same listed_keys k j h) (row_passes (table_of p) found.0) in
    let units : (u : Unit) → is_unit_of k u ≡ true → is_unit_at c a every u ≡ true = λ u h. and_from _ _ (passes (listed_of u) h) refl in
    let burns = total_at_most (is_burn_of k) (is_burn_where (is_asset_at c a)) p.burns (λ burn h. passes burn.0 h) in
    let places = places_at_most (is_unit_of k) (is_unit_at c a every) units p in
    let came = rising (is_unit_of k) (is_unit_at c a every) units in
    let le = small found.0 found.1 in
    omega (arith, burns, places, came, le)
room_at p ins rising listed small k false e =
    let t = is_unit_where (unlisted p.rows) in
    let passes : (j : Listed) → eq_by_cmp listed_cmp k j ≡ true → unlisted p.rows j ≡ true = λ j h. subst (λ (l : Listed). not (lists (listing p.rows) l) ≡ true) (key_same listed_keys k j h) (ap not e) in
    let burns = total_at_most (is_burn_of k) (is_burn_where (unlisted p.rows)) p.burns (λ burn h. passes burn.0 h) in
    let places = places_at_most (is_unit_of k) t (λ u h. passes (listed_of u) h) p in
    let came = rising (is_unit_of k) t (λ u h. passes (listed_of u) h) in
    omega (arith, burns, places, came, listed)

pub small_room : (p : ChainPart) (ins : Sum) → IsRising ins → AllListed ins p → IsSmall ins p → HasRoom ins p
small_room p ins rising listed small k = room_at p ins rising listed small k (lists (listing p.rows) k) refl

-- ---- listed goods
not_both : (b : Bool) → not b ≡ true → b ≡ true → ⊥
not_both true h k = absurd cc
not_both false h k = absurd cc

pub goods_listed : (rows : List AssetRow) (b : Bundle) → AreListed (listing rows) b → total (is_unit_where (unlisted rows)) b ≡ 0
goods_listed rows b all = total_none unit_keys (is_unit_where (unlisted rows)) b (λ u held. ap not (all u held))

pub listed_goods : (rows : List AssetRow) (b : Bundle) → total (is_unit_where (unlisted rows)) b ≡ 0 → AreListed (listing rows) b
listed_goods rows b zero_of u held =
    elim (lists (listing rows) (listed_of u)) as (λ b. lists (listing rows) (listed_of u) ≡ b → b ≡ true) [
      | true ↦ λ t. refl
      | false ↦ λ t. let le = amount_at_most unit_keys (is_unit_where (unlisted rows)) b u (ap not t) in absurd (omega (arith, le, zero_of, held))
    ] refl
