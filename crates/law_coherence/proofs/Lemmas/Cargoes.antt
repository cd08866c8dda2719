-- Lemmas on the definitions of `specs/Cargoes.antt`: what proofs cite.
use Rattle.std.specs.Prelude.{◌≡◌, ℕ, ◌<◌, true, ◌&&◌, List, Option, refl}
use Rattle.std.specs.Ordering.{eq_by_cmp}
use Rattle.std.proofs.Common.{sym, ap, ◌∙◌}
use Rattle.std.proofs.lemmas.Bool.{and_parts, and_from}
use Rattle.amounts.specs.Amounts.{amount}
use Rattle.locations.specs.Order.{junctions_cmp}
use Rattle.locations.proofs.Lemmas.OrderLaws.{junctions_decides}
use Rattle.asset_lists.specs.Units.{Unit}
use Rattle.asset_bundles.specs.Bundles.{Bundle}
use Rattle.asset_bundles.proofs.Lemmas.Bundles.{unit_keys}
use Rattle.asset_lists.specs.Listed.{kind_of}
use Rattle.chain_ids.specs.declared.chain.ChainId.{ChainId}
use Rattle.trust_tables.specs.declared.rows.AssetRow.{AssetRow}
use Rattle.trust_tables.specs.declared.rows.AssetRole.TheVariants.{Native, Derivative}
use Rattle.asset_lists.specs.Listed.{same_kind}
use Rattle.asset_lists.proofs.Lemmas.{same_kind_says}
use Rattle.law_coherence.proofs.Lemmas.CauseLaws.{any_in, any_found, native_told}
use Rattle.amounts.proofs.Lemmas.{total_none}
use Rattle.law_coherence.specs.UniversalAssets.{UniversalAsset, leads_to_path, Choice, every, is_unit_at}
use Rattle.law_coherence.specs.Networks.{Table, context_of, IsIn, path_of_row, asset_of_row, Agrees, IsUnitOf, is_native_role, is_native_row, is_home}
use Rattle.law_coherence.specs.Trusting.{IsShared}
use Rattle.law_coherence.specs.Parts.{Deposit, Withdrawal, Teleport, Part, chain_of_part, in_bundle, withdrawn_amount}
use Rattle.law_coherence.specs.Moves.{IsTrusted}
use Rattle.law_coherence.specs.Cargoes.{IsDepositFor}
use Rattle.plain_lists.proofs.Lemmas.Facts.{false_where_not_true as not_true}

not_both : (row : AssetRow) (partners : List ChainId) (checking : Option ℕ) (chain : ChainId) → row.role ≡ Native partners checking → row.role ≡ Derivative chain → ⊥
not_both row partners checking chain n d = absurd (cc)

-- a unit of a row that passes the test is of the row's asset
pub record IsRowAsset (t : Table) (row : AssetRow) (a : UniversalAsset) : Type 0 where
  pub path : path_of_row t row ≡ a.0
  pub kind : row.kind ≡ a.1

pub row_told : (t : Table) (a : UniversalAsset) (choice : Choice) (u : Unit) (row : AssetRow) → IsUnitOf u row → is_unit_at (context_of t) a choice u ≡ true → IsRowAsset t row a
row_told t a choice u row of passes =
    let parts = and_parts (leads_to_path (context_of t) a.0 u.0 && same_kind (kind_of u.1) a.1) (choice u.1) passes in
    let first = and_parts (leads_to_path (context_of t) a.0 u.0) (same_kind (kind_of u.1) a.1) parts.0 in
    let path : eq_by_cmp junctions_cmp (path_of_row t row) a.0 ≡ true = sym (ap (leads_to_path (context_of t) a.0) of.id) ∙ first.0 in
    record { path = (junctions_decides (path_of_row t row) a.0).0 path; kind = sym of.kind ∙ (same_kind_says (kind_of u.1) a.1).0 first.1 }

pub home_of_row : (t : Table) (a : UniversalAsset) (row : AssetRow) (partners : List ChainId) (checking : Option ℕ) → IsIn t.rows row → row.role ≡ Native partners checking → IsRowAsset t row a → is_home a t ≡ true
home_of_row t a row partners checking inside native of =
    let role : is_native_role row.role ≡ true = ap is_native_role native in
    let path : eq_by_cmp junctions_cmp (path_of_row t row) a.0 ≡ true = (junctions_decides (path_of_row t row) a.0).1 of.path in
    let kinds : same_kind row.kind a.1 ≡ true = ap (λ k. same_kind k a.1) of.kind ∙ (same_kind_says a.1 a.1).1 refl in
    any_in (is_native_row t a) t.rows row inside.0 inside.1 (and_from (is_native_role row.role) (eq_by_cmp junctions_cmp (path_of_row t row) a.0 && same_kind row.kind a.1) role (and_from (eq_by_cmp junctions_cmp (path_of_row t row) a.0) (same_kind row.kind a.1) path kinds))

pub record HomeRow (t : Table) (a : UniversalAsset) : Type 0 where
  pub row : AssetRow
  pub listed : IsIn t.rows row
  pub partners : List ChainId
  pub checking : Option ℕ
  pub native : row.role ≡ Native partners checking
  pub path : path_of_row t row ≡ a.0
  pub kind : row.kind ≡ a.1

pub row_of_home : (t : Table) (a : UniversalAsset) → is_home a t ≡ true → HomeRow t a
row_of_home t a home =
    let found = any_found (is_native_row t a) t.rows home in
    let parts = and_parts (is_native_role found.0.role) (eq_by_cmp junctions_cmp (path_of_row t found.0) a.0 && same_kind found.0.kind a.1) found.2 in
    let paths = and_parts (eq_by_cmp junctions_cmp (path_of_row t found.0) a.0) (same_kind found.0.kind a.1) parts.1 in
    let role = native_told found.0.role parts.0 in
    record { row = found.0; listed = found.1; partners = role.0; checking = role.1; native = role.2; path = (junctions_decides (path_of_row t found.0) a.0).0 paths.0; kind = (same_kind_says found.0.kind a.1).0 paths.1 }

-- a unit of a derivative of the table
pub record IsForeign (s : Table) (u : Unit) : Type 0 where
  pub row : AssetRow
  pub listed : IsIn s.rows row
  pub of : IsUnitOf u row
  pub reserve : ChainId
  pub derivative : row.role ≡ Derivative reserve

none_of : (t : Table) (a : UniversalAsset) (choice : Choice) (b : Bundle) → ((u : Unit) → 0 < amount b u → is_unit_at (context_of t) a choice u ≡ true → ⊥) → in_bundle t a choice b ≡ 0
none_of t a choice b never = total_none unit_keys (is_unit_at (context_of t) a choice) b (λ u held. not_true (is_unit_at (context_of t) a choice u) (never u held))

module _ (n : List Table) (agrees : Agrees n) where
  one_role : (t : Table) (x y : AssetRow) (partners : List ChainId) (checking : Option ℕ) (chain : ChainId) → IsIn n t → IsIn t.rows x → IsIn t.rows y → path_of_row t x ≡ path_of_row t y → x.role ≡ Native partners checking → y.role ≡ Derivative chain → ⊥
  one_role t x y partners checking chain t_in x_in y_in path native derivative =
      not_both y partners checking chain (sym (ap (λ (r : AssetRow). r.role) (agrees.paths_apart t x y t_in x_in y_in path)) ∙ native) derivative

  derivatives_of_one : (t : Table) (x y : AssetRow) (c d : ChainId) → IsIn n t → IsIn t.rows x → IsIn t.rows y → path_of_row t x ≡ path_of_row t y → x.role ≡ Derivative c → y.role ≡ Derivative d → c ≡ d
  derivatives_of_one t x y c d t_in x_in y_in path dx dy =
      let roles : Derivative c ≡ Derivative d = sym dx ∙ ap (λ (r : AssetRow). r.role) (agrees.paths_apart t x y t_in x_in y_in path) ∙ dy in cc

  pub teleport_trusted : (p q : Part) (b : Bundle) → IsIn n q.table → ((u : Unit) → 0 < amount b u → IsShared p.table q.table u) → IsTrusted (Teleport b) p q
  teleport_trusted p q b q_in shared = record {
    home_here = λ a choice away. none_of p.table a choice b (λ u held passes.
        let h = shared u held in
        let home = home_of_row p.table a h.twin.row h.here.0 h.here.1 h.twin.listed h.here.2 (row_told p.table a choice u h.twin.row h.twin.unit passes) in absurd (cc));
    home_there = λ a away. none_of p.table a every b (λ u held passes.
        let h = shared u held in
        let of = row_told p.table a every u h.twin.row h.twin.unit passes in
        let there : IsRowAsset q.table h.twin.twin a = record { path = h.twin.twins.path ∙ of.path; kind = h.twin.twins.kind ∙ of.kind } in
        let home = home_of_row q.table a h.twin.twin h.there.0 h.there.1 h.twin.twins.there h.there.2 there in absurd (cc));
    foreign_there = λ a choice home. refl;
    native_there = λ row chain choice inside role. none_of p.table (asset_of_row q.table row) choice b (λ u held passes.
        let h = shared u held in
        let of = row_told p.table (asset_of_row q.table row) choice u h.twin.row h.twin.unit passes in
        one_role q.table h.twin.twin row h.there.0 h.there.1 chain q_in h.twin.twins.there inside (h.twin.twins.path ∙ of.path) h.there.2 role);
    owed_here = λ row chain choice inside role other. refl;
  }

  pub deposit_trusted : (p q : Part) (b : Bundle) → IsIn n q.table → ((u : Unit) → 0 < amount b u → IsDepositFor p.table q.table u) → IsTrusted (Deposit b) p q
  deposit_trusted p q b q_in owed = record {
    home_here = λ a choice away. refl;
    home_there = λ a away. refl;
    foreign_there = λ a choice home. none_of p.table a choice b (λ u held passes.
        let h = owed u held in
        let of = row_told q.table a choice h.unit h.row h.of (sym (h.alike a choice) ∙ passes) in
        let native = row_of_home q.table a home in
        one_role q.table native.row h.row native.partners native.checking (chain_of_part p) q_in native.listed h.listed (native.path ∙ sym of.path) native.native h.derivative);
    native_there = λ row chain choice inside role. refl;
    owed_here = λ row chain choice inside role other. none_of p.table (asset_of_row q.table row) choice b (λ u held passes.
        let h = owed u held in
        let of = row_told q.table (asset_of_row q.table row) choice h.unit h.row h.of (sym (h.alike (asset_of_row q.table row) choice) ∙ passes) in
        other (derivatives_of_one q.table row h.row chain (chain_of_part p) q_in inside h.listed (sym of.path) role h.derivative));
  }

  -- a withdrawal at its receiver, and a message without cargo
  pub withdrawal_trusted : (p q : Part) (b : Bundle) → IsTrusted (Withdrawal b) p q
  withdrawal_trusted p q b = record { home_here = λ a choice away. refl; home_there = λ a away. refl; foreign_there = λ a choice home. refl; native_there = λ row chain choice inside role. refl; owed_here = λ row chain choice inside role other. refl }

  -- what leaves as a withdrawal isn't at home here
  pub withdrawal_foreign : (p : Part) (b : Bundle) → IsIn n p.table → ((u : Unit) → 0 < amount b u → IsForeign p.table u) → (a : UniversalAsset) → is_home a p.table ≡ true → withdrawn_amount p.table a every (Withdrawal b) ≡ 0
  withdrawal_foreign p b p_in foreign a home = none_of p.table a every b (λ u held passes.
      let h = foreign u held in
      let of = row_told p.table a every u h.row h.of passes in
      let native = row_of_home p.table a home in
      one_role p.table native.row h.row native.partners native.checking h.reserve p_in native.listed h.listed (native.path ∙ sym of.path) native.native h.derivative)

  -- what is teleported is no derivative of its sender
  pub teleport_native : (p : Part) (t : Table) (b : Bundle) → IsIn n p.table → ((u : Unit) → 0 < amount b u → IsShared p.table t u)
      → (row : AssetRow) (chain : ChainId) (choice : Choice) → IsIn p.table.rows row → row.role ≡ Derivative chain → in_bundle p.table (asset_of_row p.table row) choice b ≡ 0
  teleport_native p t b p_in shared row chain choice inside role = none_of p.table (asset_of_row p.table row) choice b (λ u held passes.
      let h = shared u held in
      let of = row_told p.table (asset_of_row p.table row) choice u h.twin.row h.twin.unit passes in
      one_role p.table h.twin.row row h.here.0 h.here.1 chain p_in h.twin.listed inside of.path h.here.2 role)
