-- What a chain has outside its channels, in sums over any test of units, and what a change of the chain does to these sums. This project's own
-- vocabulary.
--
--   t          a test of units; their amounts are summed up, an instance as 1
--   test       a test of listed assets, since the book of burns doesn't tell instances apart
--   ins, outs  what comes to the chain from outside, and what goes away from it, by any test
-- ---- where units are
use Rattle.std.specs.Prelude.{ℕ, ◌+◌, ◌^◌, ◌≤◌, Bool, List, Option}
use Rattle.std.specs.Ordering.{eq_by_cmp}
use Rattle.std.specs.List.{sum_by}
use Rattle.amounts.specs.Amounts.{total}
use Rattle.asset_lists.specs.Units.{Unit}
use Rattle.asset_lists.specs.Listed.{Listed, listed_cmp}
use Rattle.asset_bundles.specs.Bundles.{Bundle}
use Rattle.asset_bundles.specs.Books.{Burns, is_unit_of, is_burn_where}
use Rattle.ledgers.specs.Ledgers.{Holder, Held}
use Rattle.asset_bundles.specs.declared.trap.Trap.{Trap}
use Rattle.asset_bundles.specs.Traps.{trapped_where}
use Rattle.trust_tables.specs.declared.chains.Site.{Site}
use Rattle.trust_tables.specs.declared.rows.AssetRow.{AssetRow}
use Rattle.weight_trader.specs.Purchases.{Line, paid_goods}
use Rattle.channel_parts.specs.declared.cargo.Cargo.{Cargo}
use Rattle.channel_parts.specs.Channels.{Outgoing}
use Rattle.exec_base.specs.Part.{ChainPart}

-- what conservation speaks of
pub record Kept : Type 0 where
  pub site : Site
  pub rows : List AssetRow
  pub channels : List Outgoing
  pub held : Held
  pub traps : List Trap
  pub lines : List Line
  pub fees : Bundle
  pub slot : Bundle
  pub parked : List Bundle
  pub burns : Burns
  pub checking : List (Option ℕ)
  pub cargo : Cargo

abbrev pub kept_of : ChainPart → Kept
kept_of p = record {
  site = p.site;
  rows = p.rows;
  channels = p.channels;
  held = p.held;
  traps = p.traps.traps;
  lines = p.lines;
  fees = p.fees;
  slot = p.fee_slot;
  parked = p.parked;
  burns = p.burns;
  checking = p.checking;
  cargo = p.cargo.cargo;
}

-- everywhere but in the channels: accounts, traps, fees and parked bundles
unfoldable pub in_kept : (Unit → Bool) → Kept → ℕ
in_kept t k =
    total (λ (h : Holder). t h.1) k.held
    + trapped_where t k.traps
    + (total t (paid_goods k.lines) + total t k.fees + total t k.slot)
    + sum_by (λ (b : Bundle). total t b) k.parked

abbrev pub in_places : (Unit → Bool) → ChainPart → ℕ
in_places t p = in_kept t (kept_of p)

abbrev pub burned_where : (Listed → Bool) → ChainPart → ℕ
burned_where test p = total (is_burn_where test) p.burns

-- ---- what goes in and out

abbrev pub Sum : Type 0
Sum = (Unit → Bool) → ℕ

abbrev pub none : Sum
none t = 0

-- of no listed asset is there more than 2^127, burned ones and what goes in included
unfoldable pub most : ℕ
most = 2 ^ 127

abbrev pub HasRoom : Sum → ChainPart → Type 0
HasRoom ins p = (k : Listed) → burned_where (eq_by_cmp listed_cmp k) p + (in_places (is_unit_of k) p + ins (is_unit_of k)) ≤ most
