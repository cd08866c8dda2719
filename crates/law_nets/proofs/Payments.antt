-- Lemmas: the account of the sender has what its oldest withdrawal asks for, and the reserve lists it. A reader may skip this file.
use Rattle.std.proofs.Common.{◌≡◌, ℕ, ◌≤◌, Bool, true, false, List, [], ◌∷◌, Option, Some, None, refl, sym, ap, ◌∙◌, arith}
use Rattle.std.specs.Prelude.{IsTrue, not, is_some, map, slice_get}
use Rattle.std.specs.List.{AllByRecursion}
use Rattle.amounts.proofs.Lemmas.Rows.{IsKeyOrder}
use Rattle.amounts.specs.Amounts.{amount, empty}
use Rattle.amounts.proofs.Lemmas.{key_same, same_key, amount_at_most}
use Rattle.locations.specs.declared.relative.Location.{Location}
use Rattle.operands.specs.declared.error.XcmError.{XcmError}
use Rattle.asset_lists.specs.declared.units.Asset.{Asset}
use Rattle.asset_lists.specs.declared.units.AssetId.TheVariants.{Concrete}
use Rattle.asset_lists.specs.declared.units.Instance.{Instance}
use Rattle.asset_lists.specs.declared.units.Kind.{Kind}
use Rattle.asset_lists.specs.declared.units.Kind.TheVariants as kinds
use Rattle.asset_lists.specs.Listed.{kind_of, listed_of, lists}
use Rattle.asset_lists.specs.Moves.{moved}
use Rattle.asset_lists.specs.Units.{Unit, unit_of, amount_of, instance_in, instance_cmp}
use Rattle.asset_lists.specs.UnitLaws.{instance_total}
use Rattle.asset_lists.proofs.Lemmas.UnitLaws.{instance_exact}
use Rattle.asset_bundles.specs.Bundles.{Bundle, held_assets, IsGoods}
use Rattle.asset_bundles.specs.Books.{is_unit_where}
use Rattle.ledgers.specs.Ledgers.{Holder}
use Rattle.ledgers.proofs.Lemmas.{holder_keys}
use Rattle.trust_tables.specs.declared.rows.AssetRow.{AssetRow}
use Rattle.trust_tables.specs.Chains.{location_of}
use Rattle.trust_tables.specs.Accounts.{sovereign_account}
use Rattle.trust_tables.specs.Trust.{listing, row_of, is_row_of, is_reserve, IsRowOf}
use Rattle.trust_tables.proofs.Lemmas.TrustLaws.{is_row_of_says}
use Rattle.exec_base.specs.Part.{ChainPart}
use Rattle.exec_base.specs.Sending.{unless, or_else}
use Rattle.exec_base.specs.Host.{first_fault, floor_of, debit_fault}
use Rattle.law_coherence.specs.UniversalAssets.{just}
use Rattle.law_coherence.specs.Networks.{context_of, IsIn, IsUnitOf, Agrees}
use Rattle.law_coherence.proofs.Lemmas.Twins.{unit_named}
use Rattle.law_coherence.proofs.Lemmas.Trusting.{IsOwed}
use Rattle.law_coherence.specs.Channels as queues
use Rattle.law_coherence.specs.Parts.{Withdrawal, WorldView, Count, Whole, Only, choice_of, Backed}
use Rattle.law_coherence.specs.Payments.{AreHeldListed, IsJust}
use Rattle.law_coherence.proofs.Lemmas.Payments.{withdrawal_paid}
use Rattle.law_coherence.proofs.Lemmas.Receiving.{finds, owed_there}
use Rattle.law_coherence.specs.Steps.{tables_of}
use Rattle.law_coherence.proofs.Lemmas.Steps.{table_at}
use Rattle.law_runs.proofs.Lemmas.Shipping.{IsNamedList}
use Rattle.law_runs.specs.Sums.{in_kept, none}
use Rattle.law_runs.specs.Views.{table_of, channel_of, seen}
use Rattle.law_steps.specs.Rooms.{unlisted, AllListed}
use Rattle.law_steps.proofs.Lemmas.Rooms.{listed_found, unit_of_row}
use Rattle.law_nets.proofs.Lists.{of_both, held_each, each_named, moved_to}
use Rattle.plain_lists.proofs.Lemmas.Facts.{at_most_told as within}

-- ---- tests that pass
pub passes : (ok : Bool) (e : XcmError) (next : Option XcmError) → ok ≡ true → next ≡ None → unless ok e next ≡ None
passes true e next h k = k
passes false e next h k = absurd cc

pub no_fault : (fault : Asset → Option XcmError) (list : List Asset) → AllByRecursion (λ (a : Asset). fault a ≡ None) list → first_fault fault list ≡ None
no_fault fault [] all = refl
no_fault fault (a ∷ list) all = ap (λ (o : Option XcmError). or_else o (first_fault fault list)) all.0 ∙ no_fault fault list all.1

-- ---- what accounts hold is listed
held_listed : (p : ChainPart) → AllListed none p → AreHeldListed (table_of p) p.held
unfolding in_kept
held_listed p all h held =
    elim (lists (listing p.rows) (listed_of h.1)) as (λ b. lists (listing p.rows) (listed_of h.1) ≡ b → (row : AssetRow) × IsIn p.rows row × IsUnitOf h.1 row) [
      | true ↦ λ t. let found = listed_found p.rows (listed_of h.1) t in (found.0, found.1, unit_of_row found.0 h.1 found.2)
      | false ↦ λ t. let le = amount_at_most holder_keys (λ (x : Holder). is_unit_where (unlisted p.rows) x.1) p.held h (ap not t) in absurd (omega (arith, le, all, held))
    ] refl

-- ---- what is counted: the whole of a fungible asset, or one instance
abbrev count_of : Option Instance → Count
count_of None = Whole
count_of (Some instance) = Only instance

instance_keys : IsKeyOrder instance_cmp
instance_keys = record { total = instance_total; exact = instance_exact }

just_this : (one : Option Instance) (k : Kind) → kind_of one ≡ k → IsJust k (choice_of (count_of one)) one
just_this None k is = record {
  kind = is;
  taken = refl;
  only = λ other kind chosen. only_none other (kind ∙ sym is);
}
  where
    only_none : (other : Option Instance) → kind_of other ≡ kinds.Fungible → None ≡ other
    only_none None e = refl
    only_none (Some instance) e = absurd cc
just_this (Some instance) k is = record {
  kind = is;
  taken = same_key instance_keys instance;
  only = λ other kind chosen. only_some other chosen;
}
  where
    only_some : (other : Option Instance) → just (Some instance) other ≡ true → Some instance ≡ other
    only_some None e = absurd cc
    only_some (Some other) e = ap Some (key_same instance_keys instance other e)

-- ---- the row of an asset
row_there : (rows : List AssetRow) (b : Asset) (y : AssetRow) → IsIn rows y → IsRowOf b y → is_some (row_of rows b) ≡ true
row_there rows b y inside of =
    let found = finds (is_row_of b) rows inside.0 y inside.1 ((is_row_of_says b y).1 of) in
    ap is_some found.1

module _ (v : WorldView) (agrees : Agrees (tables_of v)) (backed : Backed v) (i j : ℕ) (ps pr : ChainPart) (at_i : slice_get v i ≡ Some (seen empty ps)) (at_j : slice_get v j ≡ Some (seen empty pr)) (listed : AllListed none pr)
    (name origin : Location) (leads : location_of ps.site.chain pr.site.chain ≡ Some name) (back : location_of pr.site.chain ps.site.chain ≡ Some origin)
    (units : Bundle) (first : queues.front pr.site.chain (map channel_of ps.channels) ≡ Some (Withdrawal units)) (free : (unit : Unit) → floor_of pr (sovereign_account pr.site.chain ps.site.chain) unit ≡ 0) where
  s_in : IsIn (tables_of v) (table_of ps)
  s_in = (i, table_at v i (seen empty ps) at_i)

  t_in : IsIn (tables_of v) (table_of pr)
  t_in = (j, table_at v j (seen empty pr) at_j)

  gives : (b : Asset) (y : AssetRow) → IsIn pr.rows y → IsRowOf b y → amount_of b ≤ amount pr.held (sovereign_account pr.site.chain ps.site.chain, unit_of b) → debit_fault pr (Some (sovereign_account pr.site.chain ps.site.chain)) b ≡ None
  gives b y inside of le = passes _ _ _ (row_there pr.rows b y inside of) (passes _ _ _ (within _ _ (let none = free (unit_of b) in omega (arith, le, none))) refl)

  -- one asset of the cargo, under the reserve's name
  one_paid : (a b : Asset) → IsTrue (is_reserve ps.rows ps.site a name) → amount_of a ≤ amount units (unit_of a) → moved name (context_of (table_of ps)) a ≡ Some b → debit_fault pr (Some (sovereign_account pr.site.chain ps.site.chain)) b ≡ None
  one_paid a b trusted most moves =
      let owed : IsOwed (table_of ps) (table_of pr) (unit_of a) = owed_there (tables_of v) agrees (table_of ps) (table_of pr) s_in t_in name origin leads back a trusted in
      let twin = owed.twin in
      let same : b ≡ record { id = Concrete twin.twin.id; fun = a.fun } = moved_to name (context_of (table_of ps)) a b (Concrete twin.twin.id) (unit_named (tables_of v) agrees (table_of ps) (table_of pr) s_in t_in name leads (unit_of a) twin) moves in
      let one = instance_in a.fun in
      let paid : amount units (Concrete twin.row.id, one) ≤ amount pr.held (sovereign_account pr.site.chain ps.site.chain, (Concrete twin.twin.id, one)) =
      withdrawal_paid v agrees backed i j (seen empty ps) (seen empty pr) at_i at_j twin.row twin.twin twin.listed owed.here twin.twins (count_of one) one (just_this one twin.row.kind twin.unit.kind) (held_listed pr listed) units first in
      let here : ◌≡◌ {A = Unit} (unit_of a) (Concrete twin.row.id, one) = λ k. (twin.unit.id k, one) in
      let asked : amount units (unit_of a) ≡ amount units (Concrete twin.row.id, one) = ap (amount units) here in
      let of : IsRowOf b twin.twin = (ap (λ (x : Asset). x.id) same, ap (λ (x : Asset). kind_of (unit_of x).1) same ∙ twin.unit.kind ∙ sym twin.twins.kind) in
      let there : amount pr.held (sovereign_account pr.site.chain ps.site.chain, unit_of b) ≡ amount pr.held (sovereign_account pr.site.chain ps.site.chain, (Concrete twin.twin.id, one)) =
      ap (λ (x : Asset). amount pr.held (sovereign_account pr.site.chain ps.site.chain, unit_of x)) same in
      let much : amount_of b ≡ amount_of a = ap amount_of same in
      gives b twin.twin twin.twins.there of (omega (arith, most, paid, asked, there, much))

  -- the whole list
  pub all_paid : (new : List Asset) → IsNamedList name (context_of (table_of ps)) (held_assets units) new → IsGoods units → AllByRecursion (λ (a : Asset). IsTrue (is_reserve ps.rows ps.site a name)) (held_assets units)
      → first_fault (debit_fault pr (Some (sovereign_account pr.site.chain ps.site.chain))) new ≡ None
  all_paid new named whole reserves =
      no_fault (debit_fault pr (Some (sovereign_account pr.site.chain ps.site.chain))) new
      (each_named (λ (a : Asset). IsTrue (is_reserve ps.rows ps.site a name) × (amount_of a ≤ amount units (unit_of a))) (λ (b : Asset). debit_fault pr (Some (sovereign_account pr.site.chain ps.site.chain)) b ≡ None)
      name (context_of (table_of ps)) (λ a b known moves. one_paid a b known.0 known.1 moves) (held_assets units) new named
      (of_both (λ (a : Asset). IsTrue (is_reserve ps.rows ps.site a name)) (λ (a : Asset). amount_of a ≤ amount units (unit_of a)) (λ (a : Asset). IsTrue (is_reserve ps.rows ps.site a name) × (amount_of a ≤ amount units (unit_of a)))
      (held_assets units) (λ a x y. (x, y)) reserves (held_each units whole)))
