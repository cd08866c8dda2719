-- Lemmas: of each unit a chain and the run on it have no more together than one bundle may hold. A reader may skip this file.
use Rattle.std.proofs.Common.{◌≡◌, ℕ, ◌≤◌, Bool, true, false, List, Option, Some, None, refl, sym, ap, ◌∙◌, subst, arith}
use Rattle.std.specs.Prelude.{◌^◌, not, slice_get}
use Rattle.std.specs.Ordering.{eq_by_cmp}
use Rattle.std.proofs.lemmas.Bool.{and_from}
use Rattle.amounts.specs.Amounts.{total, IsWithin}
use Rattle.amounts.proofs.Lemmas.AmountLaws.{total_at_most}
use Rattle.amounts.proofs.Lemmas.Rows.{IsKeyOrder}
use Rattle.amounts.proofs.Lemmas.{key_same, same_key, total-difference}
use Rattle.locations.specs.declared.grammar.Junction.{Junction}
use Rattle.locations.proofs.Lemmas.OrderLaws.{junctions_decides}
use Rattle.asset_lists.specs.declared.units.Instance.{Instance}
use Rattle.asset_lists.specs.Units.{Unit, unit_cmp, instance_cmp}
use Rattle.asset_lists.specs.Listed.{Listed, listed_of, lists}
use Rattle.asset_lists.proofs.Lemmas.{same_kind_says}
use Rattle.asset_lists.specs.UnitLaws.{instance_total}
use Rattle.asset_lists.proofs.Lemmas.UnitLaws.{instance_exact}
use Rattle.asset_bundles.specs.Bundles.{Bundle}
use Rattle.asset_bundles.proofs.Lemmas.Bundles.{unit_keys}
use Rattle.asset_bundles.specs.Books.{is_unit_where}
use Rattle.asset_bundles.specs.Joins.{most_of}
use Rattle.trust_tables.specs.declared.rows.AssetRow.{AssetRow}
use Rattle.trust_tables.specs.Chains.{path_of_site}
use Rattle.trust_tables.specs.Trust.{listing, listed_row}
use Rattle.ledgers.specs.Ledgers.{Holder, Held}
use Rattle.ledgers.proofs.Lemmas.{holder_keys}
use Rattle.exec_base.specs.Part.{ChainPart}
use Rattle.exec_rules.specs.Machine.{Machine}
use Rattle.law_coherence.specs.UniversalAssets.{UniversalAsset, Choice, every, just, is_asset_at, is_unit_at}
use Rattle.law_coherence.specs.Networks.{Table, IsIn, asset_of_row}
use Rattle.law_coherence.specs.Parts.{WorldView}
use Rattle.law_coherence.specs.Headline.{IsKept}
use Rattle.law_runs.specs.Views.{table_of, view}
use Rattle.law_runs.specs.Sums.{in_kept, in_places, HasRoom}
use Rattle.law_runs.proofs.Lemmas.Calls.{most_is}
use Rattle.law_runs.specs.Safety.{has, hold}
use Rattle.law_runs.proofs.Lemmas.Safety.{stock_of, burned_of}
use Rattle.law_steps.specs.Rooms.{unlisted, AllListed}
use Rattle.law_steps.proofs.Lemmas.Rooms.{IsSmall, places_at_most, sum_rises, listed_found, small_room}

-- one unit
abbrev pub just_unit : Unit → Unit → Bool
just_unit u = eq_by_cmp unit_cmp u

-- of each unit no more than one bundle may hold: the chain and the holding together
abbrev pub FitsBundle : Machine → Type 0
FitsBundle m = (u : Unit) → has (just_unit u) m ≤ most_of u.1

-- of each listed one
abbrev pub FitsBundleListed : Machine → Type 0
FitsBundleListed m = (u : Unit) → lists (listing m.part.rows) (listed_of u) ≡ true → has (just_unit u) m ≤ most_of u.1

-- ---- sums over less
pub units_within : (p : Unit → Bool) (b c : Bundle) → IsWithin c b → total p c ≤ total p b
units_within p b c less = let e = total-difference unit_keys p b c less in omega (arith, e)

pub held_within : (p : Holder → Bool) (h k : Held) → IsWithin k h → total p k ≤ total p h
held_within p h k less = let e = total-difference holder_keys p h k less in omega (arith, e)

pub accounts_in_places : (t : Unit → Bool) (p : ChainPart) → total (λ (h : Holder). t h.1) p.held ≤ in_places t p
unfolding in_kept
accounts_in_places t p = omega arith

-- ---- what a kept network has
row_passes : (t : Table) (row : AssetRow) → is_asset_at (path_of_site t.site) (asset_of_row t row) (listed_row row) ≡ true
row_passes t row =
    let path = asset_of_row t row in
    and_from _ _ ((junctions_decides path.0 path.0).1 refl) ((same_kind_says row.kind row.kind).1 refl)

instance_keys : IsKeyOrder instance_cmp
instance_keys = record { total = instance_total; exact = instance_exact }

itself : (o : Option Instance) → just o o ≡ true
itself None = refl
itself (Some instance) = same_key instance_keys instance

has_at_most : (t u : Unit → Bool) → ((unit : Unit) → t unit ≡ true → u unit ≡ true) → (m : Machine) → has t m ≤ has u m
has_at_most t u more m =
    let places = places_at_most t u more m.part in
    let holding = total_at_most t u m.regs.holding more in
    omega (arith, places, holding)

module _ (first w : WorldView) (kept : IsKept first w) (k : ℕ) (m : Machine) (at : slice_get w k ≡ Some (view m)) where
  abbrev context : List Junction
  context = path_of_site m.part.site

  abbrev asset_at : AssetRow → UniversalAsset
  asset_at row = asset_of_row (table_of m.part) row

  -- the units that are counted with it
  counted : (u : Unit) (row : AssetRow) (choice : Choice) → listed_of u ≡ listed_row row → choice u.1 ≡ true → (unit : Unit) → just_unit u unit ≡ true → is_unit_at (path_of_site m.part.site) (asset_of_row (table_of m.part) row) choice unit ≡ true
  counted u row choice is chosen unit same =
      subst (λ (v : Unit). is_unit_at (path_of_site m.part.site) (asset_of_row (table_of m.part) row) choice v ≡ true) (key_same unit_keys u unit same)
      (and_from _ _ (subst (λ (l : Listed). is_asset_at (path_of_site m.part.site) (asset_of_row (table_of m.part) row) l ≡ true) (sym is) (row_passes (table_of m.part) row)) chosen)

  row_fits : (u : Unit) (o : Option Instance) → u.1 ≡ o → (row : AssetRow) → IsIn m.part.rows row → listed_of u ≡ listed_row row → has (just_unit u) m ≤ most_of o
  row_fits u None e row inside is =
      let a = asset_of_row (table_of m.part) row in
      let le = has_at_most (just_unit u) (is_unit_at (path_of_site m.part.site) a every) (counted u row every is refl) m in
      let all = stock_of a every m.regs.holding m.part m.part.site refl in
      let small = kept.small k (view m) row at inside in
      omega (arith, le, all, small)
  row_fits u (Some instance) e row inside is =
      let a = asset_of_row (table_of m.part) row in
      let one = just (Some instance) in
      let le = has_at_most (just_unit u) (is_unit_at (path_of_site m.part.site) a one) (counted u row one is (ap one e ∙ itself (Some instance))) m in
      let all = stock_of a one m.regs.holding m.part m.part.site refl in
      let once = kept.once k (view m) row instance at inside in
      omega (arith, le, all, once)

  pub kept_fits : FitsBundleListed m
  kept_fits u listed = let found = listed_found m.part.rows (listed_of u) listed in row_fits u u.1 refl found.0 found.1 found.2

  -- no listed asset passes 2^127
  pub kept_small : IsSmall (hold m) m.part
  kept_small row inside =
      let a = asset_of_row (table_of m.part) row in
      let small = kept.small k (view m) row at inside in
      let all = stock_of a every m.regs.holding m.part m.part.site refl in
      let books = burned_of a m.regs.holding m.part m.part.site refl in
      let end = most_is in
      omega (arith, small, all, books, end)

  pub kept_room : AllListed (hold m) m.part → HasRoom (hold m) m.part
  kept_room listed = small_room m.part (hold m) (sum_rises m.regs.holding) listed kept_small

  pub kept_held : (u : Unit) → lists (listing m.part.rows) (listed_of u) ≡ true → hold m (just_unit u) ≤ 2 ^ 127
  kept_held u listed =
      let found = listed_found m.part.rows (listed_of u) listed in
      let a = asset_of_row (table_of m.part) found.0 in
      let le = kept_small found.0 found.1 in
      let less = total_at_most (just_unit u) (is_unit_at (path_of_site m.part.site) a every) m.regs.holding (counted u found.0 every found.2 refl) in
      let end = most_is in
      omega (arith, le, less, end)

-- ---- units that aren't listed
pub fits_all : (m : Machine) → FitsBundleListed m → AllListed (hold m) m.part → FitsBundle m
fits_all m fits listed u =
    elim (lists (listing m.part.rows) (listed_of u)) as (λ b. lists (listing m.part.rows) (listed_of u) ≡ b → has (just_unit u) m ≤ most_of u.1) [
      | true ↦ λ t. fits u t
      | false ↦ λ t.
          let less = has_at_most (just_unit u) (is_unit_where (unlisted m.part.rows)) (λ v same. subst (λ (y : Unit). not (lists (listing m.part.rows) (listed_of y)) ≡ true) (key_same unit_keys u v same) (ap not t)) m in
          omega (arith, less, listed)
    ] refl
