-- Lemmas on the definitions of `specs/Payments.antt`: what proofs cite.
use Rattle.std.specs.Prelude.{◌≡◌, ℕ, ◌≤◌, true, ◌&&◌, if◌then◌else◌, List, Option, Some, slice_get, refl}
use Rattle.std.specs.Ordering.{eq_by_cmp}
use Rattle.std.proofs.Common.{sym, ap, ◌∙◌, subst, arith}
use Rattle.std.proofs.lemmas.Bool.{and_parts, and_from}
use Rattle.amounts.specs.Amounts.{amount, total}
use Rattle.amounts.proofs.Lemmas.AmountLaws.{amount-total}
use Rattle.amounts.proofs.Lemmas.{same_key, key_same, amount_at_most}
use Rattle.locations.specs.Order.{junctions_cmp}
use Rattle.locations.proofs.Lemmas.OrderLaws.{junctions_decides}
use Rattle.asset_lists.specs.declared.units.AssetId.TheVariants.{Concrete}
use Rattle.asset_lists.specs.declared.units.Instance.{Instance}
use Rattle.asset_lists.specs.Units.{Unit, unit_cmp}
use Rattle.asset_bundles.specs.Bundles.{Bundle}
use Rattle.asset_bundles.proofs.Lemmas.Bundles.{unit_keys}
use Rattle.asset_lists.specs.Listed.{kind_of}
use Rattle.ledgers.specs.Ledgers.{Holder, Held, holder_cmp, is_account}
use Rattle.ledgers.proofs.Lemmas.{account_keys, holder_keys}
use Rattle.trust_tables.specs.declared.rows.AssetRow.{AssetRow}
use Rattle.trust_tables.specs.declared.rows.AssetRole.TheVariants.{Derivative}
use Rattle.trust_tables.specs.Accounts.{sovereign_account}
use Rattle.asset_lists.specs.Listed.{same_kind}
use Rattle.asset_lists.proofs.Lemmas.{same_kind_says}
use Rattle.amounts.proofs.Lemmas.{total_alike_held}
use Rattle.law_coherence.specs.UniversalAssets.{UniversalAsset, leads_to_path, Choice, is_unit_at}
use Rattle.law_coherence.specs.Networks.{Table, context_of, IsIn, path_of_row, asset_of_row, AreTwins, Agrees, IsUnitOf}
use Rattle.law_coherence.specs.Parts.{Withdrawal, Part, WorldView, chain_of_part, Count, choice_of, account_amount, withdrawn_amount, Backed}
use Rattle.chain_ids.proofs.Lemmas.{same_chain_itself}
use Rattle.law_coherence.specs.Channels.{front}
use Rattle.law_coherence.proofs.Lemmas.Channels.{in_channels_to-popped}
use Rattle.law_coherence.specs.Steps.{tables_of}
use Rattle.law_coherence.proofs.Lemmas.Steps.{table_at}
use Rattle.law_coherence.proofs.Lemmas.Cargoes.{row_told}
use Rattle.law_coherence.specs.Payments.{AreHeldListed, IsJust}
use Rattle.plain_lists.proofs.Lemmas.Facts.{same_bools as both_ways}

module _ (n : List Table) (agrees : Agrees n) (t : Table) (t_in : IsIn n t) (x : AssetRow) (x_in : IsIn t.rows x) (choice : Choice) (one : Option Instance) (picks : IsJust x.kind choice one) where
  the_unit : Unit
  the_unit = (Concrete x.id, one)

  pub only_unit : (u : Unit) (row : AssetRow) → IsIn t.rows row → IsUnitOf u row → is_unit_at (context_of t) (asset_of_row t x) choice u ≡ eq_by_cmp unit_cmp (Concrete x.id, one) u
  only_unit u row row_in of = both_ways (is_unit_at (context_of t) (asset_of_row t x) choice u) (eq_by_cmp unit_cmp (Concrete x.id, one) u)
      (λ passes.
      let told = row_told t (asset_of_row t x) choice u row of passes in
      let rows : row ≡ x = agrees.paths_apart t row x t_in row_in x_in told.path in
      let parts = and_parts (leads_to_path (context_of t) (path_of_row t x) u.0 && same_kind (kind_of u.1) x.kind) (choice u.1) passes in
      let instances : one ≡ u.1 = picks.only u.1 (of.kind ∙ ap (λ (r : AssetRow). r.kind) rows) parts.1 in
      let same : ◌≡◌ {A = Unit} (Concrete x.id, one) u = λ i. (sym (of.id ∙ ap (λ (r : AssetRow). Concrete r.id) rows) i, instances i) in
      subst (λ v. eq_by_cmp unit_cmp (Concrete x.id, one) v ≡ true) same (same_key unit_keys (Concrete x.id, one)))
      (λ passes.
      let same : ◌≡◌ {A = Unit} (Concrete x.id, one) u = key_same unit_keys (Concrete x.id, one) u passes in
      let path : eq_by_cmp junctions_cmp (path_of_row t x) (path_of_row t x) ≡ true = (junctions_decides (path_of_row t x) (path_of_row t x)).1 refl in
      let kinds : same_kind (kind_of one) x.kind ≡ true = ap (λ k. same_kind k x.kind) picks.kind ∙ (same_kind_says x.kind x.kind).1 refl in
      subst (λ v. is_unit_at (context_of t) (asset_of_row t x) choice v ≡ true) same
      (and_from (eq_by_cmp junctions_cmp (path_of_row t x) (path_of_row t x) && same_kind (kind_of one) x.kind) (choice one) (and_from (eq_by_cmp junctions_cmp (path_of_row t x) (path_of_row t x)) (same_kind (kind_of one) x.kind) path kinds) picks.taken))

  -- the sum of the asset in an account is the ledger's amount at the one unit
  pub account_of_unit : (who : List ℕ) (held : Held) → AreHeldListed t held
      → total (λ (h : Holder). is_account who h && is_unit_at (context_of t) (asset_of_row t x) choice h.1) held ≡ amount held (who, (Concrete x.id, one))
  account_of_unit who held listed =
      total_alike_held holder_keys (λ (h : Holder). is_account who h && is_unit_at (context_of t) (asset_of_row t x) choice h.1) (eq_by_cmp holder_cmp (who, (Concrete x.id, one))) held (λ h some.
      let row = listed h some in
      let unit = only_unit h.1 row.0 row.1 row.2 in
      both_ways (is_account who h && is_unit_at (context_of t) (asset_of_row t x) choice h.1) (eq_by_cmp holder_cmp (who, (Concrete x.id, one)) h)
      (λ passes.
      let parts = and_parts (is_account who h) (is_unit_at (context_of t) (asset_of_row t x) choice h.1) passes in
      let owner : who ≡ h.0 = key_same account_keys who h.0 parts.0 in
      let same : ◌≡◌ {A = Unit} (Concrete x.id, one) h.1 = key_same unit_keys (Concrete x.id, one) h.1 (sym unit ∙ parts.1) in
      let key : ◌≡◌ {A = Holder} (who, (Concrete x.id, one)) h = λ i. (owner i, same i) in
      subst (λ g. eq_by_cmp holder_cmp (who, (Concrete x.id, one)) g ≡ true) key (same_key holder_keys (who, (Concrete x.id, one))))
      (λ passes.
      let key : ◌≡◌ {A = Holder} (who, (Concrete x.id, one)) h = key_same holder_keys (who, (Concrete x.id, one)) h passes in
      and_from (is_account who h) (is_unit_at (context_of t) (asset_of_row t x) choice h.1)
      (subst (λ g. is_account who g ≡ true) key (same_key account_keys who))
      (unit ∙ subst (λ (g : Holder). eq_by_cmp unit_cmp (Concrete x.id, one) g.1 ≡ true) key (same_key unit_keys (Concrete x.id, one)))))
      ∙ sym (amount-total holder_keys held (who, (Concrete x.id, one)))

-- the oldest message of a channel to the reserve is a withdrawal: the account has each unit of it
module _ (w : WorldView) (agrees : Agrees (tables_of w)) (b : Backed w) (i j : ℕ) (c r : Part) (at_i : slice_get w i ≡ Some c) (at_j : slice_get w j ≡ Some r) (x y : AssetRow) (x_in : IsIn c.table.rows x)
    (role : x.role ≡ Derivative (chain_of_part r)) (twins : AreTwins c.table r.table x y) (count : Count) (one : Option Instance) (picks : IsJust x.kind (choice_of count) one) (listed : AreHeldListed r.table r.held) where
  pub withdrawal_paid : (goods : Bundle) → front (chain_of_part r) c.outgoing ≡ Some (Withdrawal goods) → amount goods (Concrete x.id, one) ≤ amount r.held (sovereign_account (chain_of_part r) (chain_of_part c), (Concrete y.id, one))
  unfolding account_amount
  withdrawal_paid goods first =
      let a : UniversalAsset = asset_of_row c.table x in
      let covered = b i j c r x count at_i at_j x_in role in
      let c_in : IsIn (tables_of w) c.table = (i, table_at w i c at_i) in
      let r_in : IsIn (tables_of w) r.table = (j, table_at w j r at_j) in
      let x_of : IsUnitOf (Concrete x.id, one) x = record { id = refl; kind = picks.kind } in
      let passes : is_unit_at (context_of c.table) a (choice_of count) (Concrete x.id, one) ≡ true = only_unit (tables_of w) agrees c.table c_in x x_in (choice_of count) one picks (Concrete x.id, one) x x_in x_of ∙ same_key unit_keys (Concrete x.id, one) in
      let some = amount_at_most unit_keys (is_unit_at (context_of c.table) a (choice_of count)) goods (Concrete x.id, one) passes in
      let queued = in_channels_to-popped (chain_of_part r) (withdrawn_amount c.table a (choice_of count)) (chain_of_part r) (Withdrawal goods) c.outgoing first in
      let self : (if _ then total (is_unit_at (context_of c.table) a (choice_of count)) goods else 0) ≡ total (is_unit_at (context_of c.table) a (choice_of count)) goods = ap (λ z. if z then total (is_unit_at (context_of c.table) a (choice_of count)) goods else 0) (same_chain_itself (chain_of_part r)) in
      let there : IsJust y.kind (choice_of count) one = subst (λ k. IsJust k (choice_of count) one) (sym twins.kind) picks in
      let paths : asset_of_row r.table y ≡ a = λ k. (twins.path k, twins.kind k) in
      let account : total (λ (h : Holder). is_account (sovereign_account (chain_of_part r) (chain_of_part c)) h && is_unit_at (context_of r.table) a (choice_of count) h.1) r.held ≡ amount r.held (sovereign_account (chain_of_part r) (chain_of_part c), (Concrete y.id, one)) =
      subst (λ d. total (λ (h : Holder). is_account (sovereign_account (chain_of_part r) (chain_of_part c)) h && is_unit_at (context_of r.table) d (choice_of count) h.1) r.held ≡ amount r.held (sovereign_account (chain_of_part r) (chain_of_part c), (Concrete y.id, one))) paths
      (account_of_unit (tables_of w) agrees r.table r_in y twins.there (choice_of count) one there (sovereign_account (chain_of_part r) (chain_of_part c)) r.held listed) in
      omega (arith, covered, some, queued, self, account)
