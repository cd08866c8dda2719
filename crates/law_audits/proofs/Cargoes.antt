-- What one message carries, as goods: as it is printed, as it is conserved, and that it is listed.
use Rattle.std.specs.Prelude.{◌≡◌, ℕ, Bool, true, IsTrue, List, Option, Some, None, refl}
use Rattle.std.specs.Option.{is_some}
use Rattle.std.proofs.Common.{sym, ap, ◌∙◌}
use Rattle.amounts.specs.Amounts.{total, empty}
use Rattle.amounts.proofs.Lemmas.AmountLaws.{total-empty}
use Rattle.locations.specs.declared.relative.Location.{Location}
use Rattle.asset_lists.specs.declared.units.Asset.{Asset}
use Rattle.asset_lists.specs.declared.units.AssetId.TheVariants.{Concrete}
use Rattle.asset_lists.specs.Units.{Unit, unit_of, unit_cmp}
use Rattle.asset_lists.specs.Listed.{listed_of, lists}
use Rattle.asset_bundles.specs.declared.shipment.Way.{Way}
use Rattle.asset_bundles.specs.declared.shipment.Way.TheVariants as ways
use Rattle.asset_bundles.specs.Bundles.{Bundle, bundle_of, held_assets, IsGoods, is_asset}
use Rattle.asset_bundles.proofs.Lemmas.Bundles.{unit_keys}
use Rattle.asset_bundles.specs.Books.{is_unit_where, AreListed}
use Rattle.trust_tables.specs.declared.chains.Site.{Site}
use Rattle.trust_tables.specs.declared.rows.AssetRow.{AssetRow}
use Rattle.trust_tables.specs.declared.rows.AssetRole.{AssetRole}
use Rattle.trust_tables.specs.Trust.{listing, row_of, holds_of, is_reserve, is_partner, is_reserve_role, is_partner_role}
use Rattle.trust_tables.proofs.Lemmas.TrustLaws.{listing_says}
use Rattle.xcm_program.specs.declared.instruction.Instruction.{Instruction}
use Rattle.channel_parts.specs.declared.cargo.Cargo as carried_cargo
use Rattle.channel_parts.specs.declared.cargo.Cargo.TheVariants as cargos
use Rattle.channel_parts.specs.Channels.{Waiting, away}
use Rattle.law_coherence.specs.UniversalAssets.{UniversalAsset, every, is_unit_at}
use Rattle.law_coherence.specs.Networks.{Table, context_of}
use Rattle.law_coherence.specs.Parts.{Cargo, teleported, deposited_amount, withdrawn_amount}
use Rattle.law_runs.specs.Views.{cargo_of}
use Rattle.law_runs.specs.Safety.{AreTrusted, IsTrustedCargo}
use Rattle.law_runs.proofs.Lemmas.Shipping.{each_unit}
use Rattle.law_steps.specs.Rooms.{unlisted}
use Rattle.law_steps.proofs.Lemmas.Rooms.{goods_listed}

-- ---- goods
abbrev goods_by : Way → Way → Bundle → Bundle
goods_by ways.Withdrawal ways.Withdrawal units = units
goods_by ways.Teleport ways.Teleport units = units
goods_by ways.Withdrawal ways.Teleport units = empty
goods_by ways.Teleport ways.Withdrawal units = empty

-- on their way, where they go this way
abbrev pub away_of : Way → carried_cargo.Cargo → Bundle
away_of way (cargos.Away shipment) = goods_by way shipment.way shipment.units
away_of way (cargos.Deposit list) = empty
away_of way cargos.Nothing = empty

abbrev pub deposits_of : carried_cargo.Cargo → Bundle
deposits_of (cargos.Deposit list) = bundle_of list
deposits_of (cargos.Away shipment) = empty
deposits_of cargos.Nothing = empty

pub none_in : (t : Unit → Bool) → 0 ≡ total {R = unit_cmp} t empty
none_in t = sym (total-empty unit_keys t)

-- as they are printed: what of each row is counted of a message
abbrev pub Count : Type 0
Count = AssetRow → Waiting → ℕ

abbrev pub Counts : Count → (carried_cargo.Cargo → Bundle) → Type 0
Counts count goods = (row : AssetRow) (w : Waiting) → count row w ≡ total (is_asset (Concrete row.id) row.kind) (goods w.cargo)

abbrev CountsOf : Count → (carried_cargo.Cargo → Bundle) → carried_cargo.Cargo → Type 0
CountsOf count goods cargo = (row : AssetRow) (number : ℕ) (program : List Instruction) → count row (record { number = number; program = program; cargo = cargo }) ≡ total (is_asset (Concrete row.id) row.kind) (goods cargo)

module _ (count : Count) (goods : carried_cargo.Cargo → Bundle) (nothing : CountsOf count goods cargos.Nothing) (deposit : (list : List Asset) → CountsOf count goods (cargos.Deposit list))
    (withdrawal : (units : Bundle) → CountsOf count goods (away ways.Withdrawal units)) (teleport : (units : Bundle) → CountsOf count goods (away ways.Teleport units)) where
  way_counts : (way : Way) (units : Bundle) → CountsOf count goods (away way units)
  way_counts ways.Withdrawal units = withdrawal units
  way_counts ways.Teleport units = teleport units

  cargo_counts : (cargo : carried_cargo.Cargo) → CountsOf count goods cargo
  cargo_counts cargos.Nothing = nothing
  cargo_counts (cargos.Deposit list) = deposit list
  cargo_counts (cargos.Away shipment) = way_counts shipment.way shipment.units

  pub by_cargo : Counts count goods
  by_cargo row w = cargo_counts w.cargo row w.number w.program

-- as they are conserved
abbrev pub Keeps : (Table → UniversalAsset → Cargo → ℕ) → (carried_cargo.Cargo → Bundle) → Type 0
Keeps kept goods = (t : Table) (a : UniversalAsset) (cargo : carried_cargo.Cargo) → kept t a (cargo_of cargo) ≡ total (is_unit_at (context_of t) a every) (goods cargo)

abbrev pub whole : Table → UniversalAsset → Unit → Bool
whole t a = is_unit_at (context_of t) a every

teleport_keeps : (t : Table) (a : UniversalAsset) (way : Way) (units : Bundle) → teleported t a every (cargo_of (away way units)) ≡ total (whole t a) (goods_by ways.Teleport way units)
teleport_keeps t a ways.Teleport units = refl
teleport_keeps t a ways.Withdrawal units = none_in (whole t a)

pub teleports_keep : Keeps (λ t a. teleported t a every) (away_of ways.Teleport)
teleports_keep t a (cargos.Away shipment) = teleport_keeps t a shipment.way shipment.units
teleports_keep t a (cargos.Deposit list) = none_in (whole t a)
teleports_keep t a cargos.Nothing = none_in (whole t a)

withdrawal_keeps : (t : Table) (a : UniversalAsset) (way : Way) (units : Bundle) → withdrawn_amount t a every (cargo_of (away way units)) ≡ total (whole t a) (goods_by ways.Withdrawal way units)
withdrawal_keeps t a ways.Teleport units = none_in (whole t a)
withdrawal_keeps t a ways.Withdrawal units = refl

pub withdrawals_keep : Keeps (λ t a. withdrawn_amount t a every) (away_of ways.Withdrawal)
withdrawals_keep t a (cargos.Away shipment) = withdrawal_keeps t a shipment.way shipment.units
withdrawals_keep t a (cargos.Deposit list) = none_in (whole t a)
withdrawals_keep t a cargos.Nothing = none_in (whole t a)

deposit_keeps : (t : Table) (a : UniversalAsset) (way : Way) (units : Bundle) → deposited_amount t a every (cargo_of (away way units)) ≡ total {R = unit_cmp} (whole t a) empty
deposit_keeps t a ways.Teleport units = none_in (whole t a)
deposit_keeps t a ways.Withdrawal units = none_in (whole t a)

pub deposits_keep : Keeps (λ t a. deposited_amount t a every) deposits_of
deposits_keep t a (cargos.Deposit list) = refl
deposits_keep t a (cargos.Away shipment) = deposit_keeps t a shipment.way shipment.units
deposits_keep t a cargos.Nothing = none_in (whole t a)

-- as they are listed
abbrev pub none_of : List AssetRow → Bundle → Type 0
none_of rows b = total (is_unit_where (unlisted rows)) b ≡ 0

abbrev pub Lists : (carried_cargo.Cargo → Bundle) → Type 0
Lists goods = (site : Site) (rows : List AssetRow) (name : Location) (cargo : carried_cargo.Cargo) → IsTrustedCargo site rows name cargo → none_of rows (goods cargo)

holds_some : (test : AssetRole → Bool) (o : Option AssetRow) → holds_of test o ≡ true → is_some o ≡ true
holds_some test None h = absurd cc
holds_some test (Some row) h = refl

asset_listed : (rows : List AssetRow) (test : AssetRole → Bool) (a : Asset) → holds_of test (row_of rows a) ≡ true → lists (listing rows) (listed_of (unit_of a)) ≡ true
asset_listed rows test a h = listing_says rows a ∙ holds_some test (row_of rows a) h

units_listed : (site : Site) (rows : List AssetRow) (name : Location) (way : Way) (units : Bundle) → IsGoods units → AreTrusted site rows name way (held_assets units) → AreListed (listing rows) units
units_listed site rows name ways.Withdrawal units goods all u held =
    let found = each_unit (λ (a : Asset). IsTrue (is_reserve rows site a name)) units goods all u held in
    ap (λ (v : Unit). lists (listing rows) (listed_of v)) found.2 ∙ asset_listed rows (is_reserve_role site.chain name) found.0 found.1
units_listed site rows name ways.Teleport units goods all u held =
    let found = each_unit (λ (a : Asset). IsTrue (is_partner rows site a name)) units goods all u held in
    ap (λ (v : Unit). lists (listing rows) (listed_of v)) found.2 ∙ asset_listed rows (is_partner_role site.chain name) found.0 found.1

nothing_there : (rows : List AssetRow) → none_of rows empty
nothing_there rows = total-empty unit_keys (is_unit_where (unlisted rows))

way_listed : (rows : List AssetRow) (way other : Way) (units : Bundle) → AreListed (listing rows) units → none_of rows (goods_by way other units)
way_listed rows ways.Withdrawal ways.Withdrawal units all = goods_listed rows units all
way_listed rows ways.Teleport ways.Teleport units all = goods_listed rows units all
way_listed rows ways.Withdrawal ways.Teleport units all = nothing_there rows
way_listed rows ways.Teleport ways.Withdrawal units all = nothing_there rows

pub away_lists : (way : Way) → Lists (away_of way)
away_lists way site rows name (cargos.Away shipment) h = way_listed rows way shipment.way shipment.units (units_listed site rows name shipment.way shipment.units h.0 h.1)
away_lists way site rows name (cargos.Deposit list) h = nothing_there rows
away_lists way site rows name cargos.Nothing h = nothing_there rows

pub deposits_list : Lists deposits_of
deposits_list site rows name (cargos.Deposit list) h = goods_listed rows (bundle_of list) h
deposits_list site rows name (cargos.Away shipment) h = nothing_there rows
deposits_list site rows name cargos.Nothing h = nothing_there rows
