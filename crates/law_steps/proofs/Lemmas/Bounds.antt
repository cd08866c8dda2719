-- Lemmas on the definitions of `specs/Bounds.antt`: what proofs cite.
use Rattle.std.proofs.Common.{◌≡◌, ℕ, ◌+◌, ◌≤◌, Bool, true, List, Option, Some, map, refl, sym, subst, arith}
use Rattle.std.specs.Prelude.{slice_get}
use Rattle.amounts.specs.Amounts.{empty, merge}
use Rattle.amounts.proofs.Lemmas.AmountLaws.{total-empty}
use Rattle.amounts.proofs.Lemmas.{total-merge}
use Rattle.asset_lists.specs.Units.{Unit}
use Rattle.asset_bundles.specs.Bundles.{Bundle}
use Rattle.asset_bundles.proofs.Lemmas.Bundles.{unit_keys}
use Rattle.asset_bundles.specs.Books.{given_up, is_burn_where}
use Rattle.asset_bundles.specs.Joins.{Joined, Excess}
use Rattle.asset_bundles.proofs.Lemmas.{burn_keys, joined_total, given_up_total}
use Rattle.chain_ids.specs.declared.chain.ChainId.{ChainId}
use Rattle.trust_tables.specs.declared.rows.AssetRow.{AssetRow}
use Rattle.trust_tables.specs.declared.rows.AssetRole.{AssetRole}
use Rattle.trust_tables.specs.declared.rows.AssetRole.TheVariants.{Native, Derivative}
use Rattle.trust_tables.specs.Chains.{path_of_site}
use Rattle.exec_base.specs.Part.{ChainPart}
use Rattle.law_coherence.specs.UniversalAssets.{every, is_asset_at, is_unit_at}
use Rattle.law_coherence.specs.Networks.{IsIn, asset_of_row, Agrees, is_home}
use Rattle.law_coherence.specs.Parts.{Teleport, WorldView, stock, burned, teleported, in_bundle}
use Rattle.law_coherence.specs.Channels as queues
use Rattle.law_coherence.proofs.Lemmas.Channels.{in_channels-popped}
use Rattle.law_coherence.specs.Steps.{tables_of}
use Rattle.law_coherence.proofs.Lemmas.Cargoes.{home_of_row}
use Rattle.law_coherence.proofs.Lemmas.Bounds.{home_at_most}
use Rattle.law_coherence.specs.Checking.{AllChecked}
use Rattle.law_coherence.proofs.Lemmas.Checking.{first_within}
use Rattle.law_coherence.proofs.Lemmas.CheckingLaws.{still_bounded}
use Rattle.law_coherence.specs.Histories.{History}
use Rattle.law_coherence.proofs.Lemmas.Histories.{safe_history, never_passes}
use Rattle.law_runs.specs.Views.{table_of, channel_of, seen}
use Rattle.law_runs.specs.Sums.{in_kept, in_places, none, most}
use Rattle.law_runs.proofs.Lemmas.Sums.{sum_of, with}
use Rattle.law_runs.proofs.Lemmas.Calls.{most_is}
use Rattle.law_runs.proofs.Lemmas.Safety.{stock_of, burned_of, whole_units}
use Rattle.law_steps.proofs.Lemmas.Rooms.{IsSmall}
use Rattle.law_steps.specs.Bounds.{IsSoundGenesis}

places_same : (t : Unit → Bool) (p : ChainPart) (goods : Bundle) (checking : List (Option ℕ)) → in_places t (record p { burns = merge p.burns (given_up empty goods); checking = checking }) ≡ in_places t p
unfolding in_kept
places_same t p goods checking = refl

module _ (first : WorldView) (genesis : IsSoundGenesis first) (v : WorldView) (history : History first v) where
  pub agrees_now : Agrees (tables_of v)
  agrees_now = subst Agrees (sym (safe_history first v genesis.agrees history).tables) genesis.agrees

  pub checked_now : AllChecked v
  checked_now = (safe_history first v genesis.agrees history).checked genesis.checked

  -- so from any such world others are made
  pub genesis_now : IsSoundGenesis v
  genesis_now =
      let safe = safe_history first v genesis.agrees history in
      record {
        agrees = agrees_now;
        backed = safe.backed genesis.backed;
        small = λ a. let same = safe.supplied a in let few = genesis.small a in omega (arith, same, few);
        checked = checked_now;
        bounded = still_bounded first v safe.tables genesis.bounded (safe.within first (first_within first));
      }

  -- a chain of the world, with what it holds
  pub small_with : (k : ℕ) (h : Bundle) (p : ChainPart) → slice_get v k ≡ Some (seen h p) → IsSmall (sum_of h) p
  small_with k h p at row inside =
      let a = asset_of_row (table_of p) row in
      let le = never_passes first v genesis.agrees genesis.backed genesis.small history k (seen h p) row at inside in
      let stands = stock_of a every h p p.site refl in
      let books = burned_of a h p p.site refl in
      let end = most_is in
      omega (arith, le, stands, books, end)

  pub small_now : (k : ℕ) (p : ChainPart) → slice_get v k ≡ Some (seen empty p) → IsSmall none p
  small_now k p at row inside =
      let le = small_with k empty p at row inside in
      let z = total-empty unit_keys (is_unit_at (path_of_site p.site) (asset_of_row (table_of p) row) every) in
      omega (arith, le, z)

  -- a chain to which a list comes
  pub small_more : (k : ℕ) (goods : Bundle) (checking : List (Option ℕ)) (p : ChainPart) → slice_get v k ≡ Some (seen (Joined empty goods) (record p { burns = merge p.burns (given_up empty goods); checking = checking }))
      → IsSmall (with (sum_of empty) (sum_of goods)) p
  small_more k goods checking p at row inside =
      let a = asset_of_row (table_of p) row in
      let c = path_of_site p.site in
      let t = is_unit_at c a every in
      let le = small_with k (Joined empty goods) (record p { burns = merge p.burns (given_up empty goods); checking = checking }) at row inside in
      let same = places_same t p goods checking in
      let books = total-merge burn_keys (is_burn_where (is_asset_at c a)) p.burns (given_up empty goods) in
      let above = given_up_total (is_asset_at c a) empty goods in
      let whole = whole_units p.site a (Excess empty goods) in
      let both = joined_total t empty goods in
      omega (arith, le, same, books, above, whole, both)

  -- a sender, with what it teleported
  lost_at : (k : ℕ) (to : ChainId) (b : Bundle) (p : ChainPart) (row : AssetRow) (role : AssetRole) → row.role ≡ role → slice_get v k ≡ Some (seen empty p) → queues.front to (map channel_of p.channels) ≡ Some (Teleport b)
      → ((row : AssetRow) (chain : ChainId) → IsIn p.rows row → row.role ≡ Derivative chain → in_bundle (table_of p) (asset_of_row (table_of p) row) every b ≡ 0) → IsIn p.rows row
      → stock (asset_of_row (table_of p) row) every (seen empty p) + burned (asset_of_row (table_of p) row) (seen empty p) + in_bundle (table_of p) (asset_of_row (table_of p) row) every b ≤ most
  lost_at k to b p row (Native partners checking) e at front native inside =
      let a = asset_of_row (table_of p) row in
      let home : is_home a (table_of p) ≡ true = home_of_row (table_of p) a row partners checking inside e (record { path = refl; kind = refl }) in
      let all = home_at_most v agrees_now a k (seen empty p) at home in
      let same = (safe_history first v genesis.agrees history).supplied a in
      let few = genesis.small a in
      let queued = in_channels-popped (teleported (table_of p) a every) to (Teleport b) (map channel_of p.channels) front in
      let end = most_is in
      omega (arith, all, same, few, queued, end)
  lost_at k to b p row (Derivative chain) e at front native inside =
      let le = never_passes first v genesis.agrees genesis.backed genesis.small history k (seen empty p) row at inside in
      let z = native row chain inside e in
      let end = most_is in
      omega (arith, le, z, end)

  pub small_lost : (k : ℕ) (to : ChainId) (b : Bundle) (p : ChainPart) → slice_get v k ≡ Some (seen empty p) → queues.front to (map channel_of p.channels) ≡ Some (Teleport b)
      → ((row : AssetRow) (chain : ChainId) → IsIn p.rows row → row.role ≡ Derivative chain → in_bundle (table_of p) (asset_of_row (table_of p) row) every b ≡ 0) → IsSmall (sum_of b) p
  small_lost k to b p at front native row inside =
      let a = asset_of_row (table_of p) row in
      let le = lost_at k to b p row row.role refl at front native inside in
      let stands = stock_of a every empty p p.site refl in
      let books = burned_of a empty p p.site refl in
      omega (arith, le, stands, books)
