-- Lemmas: what a teleported list does to the checking accounts, asset by asset. A reader may skip this file.
use Rattle.std.proofs.Common.{◌≡◌, ℕ, suc, ◌+◌, ◌-◌, ◌≤◌, Bool, true, false, ◌&&◌, List, [], ◌∷◌, Option, Some, None, refl, sym, ap, ◌∙◌, arith}
use Rattle.std.specs.Prelude.{IsTrue, find, if◌then◌else◌}
use Rattle.std.specs.List.{AllByRecursion}
use Rattle.std.specs.Option.{option_map}
use Rattle.std.specs.Ordering.{eq_by_cmp}
use Rattle.std.proofs.lemmas.Bool.{and_parts}
use Rattle.amounts.specs.Rows.{amount_if, sum_where}
use Rattle.amounts.specs.Amounts.{total}
use Rattle.locations.specs.declared.relative.Location.{Location}
use Rattle.locations.specs.Order.{junctions_cmp}
use Rattle.locations.proofs.Lemmas.OrderLaws.{junctions_decides}
use Rattle.asset_lists.specs.declared.units.Asset.{Asset}
use Rattle.asset_lists.specs.Units.{unit_of, amount_of}
use Rattle.asset_lists.specs.Listed.{kind_of, same_kind}
use Rattle.asset_bundles.specs.Bundles.{bundle_of, rows_of}
use Rattle.asset_bundles.proofs.Lemmas.BundleLaws.{total-bundle_of}
use Rattle.chain_ids.specs.declared.chain.ChainId.{ChainId}
use Rattle.trust_tables.specs.declared.rows.AssetRow.{AssetRow}
use Rattle.trust_tables.specs.declared.rows.AssetRole.{AssetRole}
use Rattle.trust_tables.specs.Trust.{is_row_of, is_partner_role, holds_of, is_partner}
use Rattle.trust_tables.proofs.Lemmas.TrustLaws.{is_row_of_says}
use Rattle.exec_base.specs.Part.{ChainPart}
use Rattle.exec_base.specs.Host.{changed_rows, changed_all}
use Rattle.law_coherence.specs.UniversalAssets.{UniversalAsset, leads_to_path, every, is_unit_at}
use Rattle.law_coherence.specs.Networks.{Table, context_of, IsIn, path_of_row, is_native_role, is_native_row}
use Rattle.law_coherence.specs.Checking.{account_in, risen}
use Rattle.law_coherence.proofs.Lemmas.Checking.{risen_by_none}
use Rattle.law_runs.specs.Views.{table_of}
use Rattle.plain_lists.proofs.Lemmas.Facts.{and_true, false_not_true as not_false}

-- with less in it; it doesn't fall below 0
abbrev pub fallen : ℕ → Option ℕ → Option ℕ
fallen less None = None
fallen less (Some amount) = Some (amount - less)

abbrev changed_if : Bool → (ℕ → ℕ) → Option ℕ → Option ℕ
changed_if b f o = if b then option_map f o else o

-- where the accounts stay
pub same_checks : (p : ChainPart) (checking : List (Option ℕ)) (a : UniversalAsset) → checking ≡ p.checking → account_in (table_of p) a p.rows checking ≡ risen 0 (account_in (table_of p) a p.rows p.checking)
same_checks p checking a same = ap (account_in (table_of p) a p.rows) same ∙ sym (risen_by_none (account_in (table_of p) a p.rows p.checking))

never_changed : (b : Bool) (f : ℕ → ℕ) → None ≡ changed_if b f None
never_changed true f = refl
never_changed false f = refl

changed_either : (b : Bool) (f : ℕ → ℕ) (here rest : Option ℕ) → (if b then option_map f here else rest) ≡ changed_if b f (if b then here else rest)
changed_either true f here rest = refl
changed_either false f here rest = refl

pub partner_native : (here : ChainId) (l : Location) (role : AssetRole) → is_partner_role here l role ≡ true → is_native_role role ≡ true
partner_native here l (AssetRole.Native partners checking) h = refl
partner_native here l (AssetRole.Derivative reserve) h = absurd cc

pub found_partner : (here : ChainId) (l : Location) (x : Asset) (rows : List AssetRow) → holds_of (is_partner_role here l) (find (is_row_of x) rows) ≡ true → (row : AssetRow) × IsIn rows row × (is_row_of x row ≡ true)
found_partner here l x [] h = absurd cc
found_partner here l x (row ∷ rows) h =
    elim (is_row_of x row) as (λ b. is_row_of x row ≡ b → holds_of (is_partner_role here l) (if b then Some row else find (is_row_of x) rows) ≡ true → (r : AssetRow) × IsIn (row ∷ rows) r × (is_row_of x r ≡ true)) [
      | true ↦ λ t g. (row, (0, refl), t)
      | false ↦ λ t g. let rest = found_partner here l x rows g in (rest.0, (suc rest.1.0, rest.1.1), rest.2)
    ] refl h

module _ (t : Table) (name : Location) (a : UniversalAsset) where
  -- an asset of a native row is of the row's asset
  pub of_row : (x : Asset) (row : AssetRow) → is_row_of x row ≡ true → is_native_role row.role ≡ true → is_unit_at (context_of t) a every (unit_of x) ≡ is_native_row t a row
  of_row x row is native =
      let told = (is_row_of_says x row).0 is in
      and_true (leads_to_path (context_of t) a.0 x.id && same_kind (kind_of (unit_of x).1) a.1)
      ∙ (λ i. leads_to_path (context_of t) a.0 (told.0 i) && same_kind (told.1 i) a.1)
      ∙ ap (λ (b : Bool). b && (eq_by_cmp junctions_cmp (path_of_row t row) a.0 && same_kind row.kind a.1)) (sym native)

  -- an asset of another row isn't of this row's asset
  pub another : (x : Asset) (row : AssetRow) (rows : List AssetRow) → ((u v : AssetRow) → IsIn (row ∷ rows) u → IsIn (row ∷ rows) v → path_of_row t u ≡ path_of_row t v → u ≡ v) → is_row_of x row ≡ false → is_native_row t a row ≡ true
      → (r : AssetRow) × IsIn rows r × (is_row_of x r ≡ true) → is_unit_at (context_of t) a every (unit_of x) ≡ false
  another x row rows apart other native found =
      elim (is_unit_at (context_of t) a every (unit_of x)) as (λ b. is_unit_at (context_of t) a every (unit_of x) ≡ b → b ≡ false) [
        | true ↦ λ of.
            let told = (is_row_of_says x found.0).0 found.2 in
            let parts = and_parts (leads_to_path (context_of t) a.0 x.id && same_kind (kind_of (unit_of x).1) a.1) true of in
            let paths = and_parts (leads_to_path (context_of t) a.0 x.id) (same_kind (kind_of (unit_of x).1) a.1) parts.0 in
            let there : path_of_row t found.0 ≡ a.0 = (junctions_decides (path_of_row t found.0) a.0).0 (ap (leads_to_path (context_of t) a.0) (sym told.0) ∙ paths.0) in
            let natives = and_parts (is_native_role row.role) (eq_by_cmp junctions_cmp (path_of_row t row) a.0 && same_kind row.kind a.1) native in
            let here : path_of_row t row ≡ a.0 = (junctions_decides (path_of_row t row) a.0).0 (and_parts (eq_by_cmp junctions_cmp (path_of_row t row) a.0) (same_kind row.kind a.1) natives.1).0 in
            let same : found.0 ≡ row = apart found.0 row (suc found.1.0, found.1.1) (0, refl) (there ∙ sym here) in
            absurd (not_false (is_row_of x row) other (ap (is_row_of x) (sym same) ∙ found.2))
        | false ↦ λ of. refl
      ] refl

  one_change : (f : ℕ → ℕ → ℕ) (x : Asset) (rows : List AssetRow) (checking : List (Option ℕ)) → ((u v : AssetRow) → IsIn rows u → IsIn rows v → path_of_row t u ≡ path_of_row t v → u ≡ v)
      → holds_of (is_partner_role t.site.chain name) (find (is_row_of x) rows) ≡ true
      → account_in t a rows (changed_rows f x rows checking) ≡ changed_if (is_unit_at (context_of t) a every (unit_of x)) (λ (n : ℕ). f n (amount_of x)) (account_in t a rows checking)
  one_change f x [] checking apart trusted = absurd cc
  one_change f x (row ∷ rows) [] apart trusted = never_changed (is_unit_at (context_of t) a every (unit_of x)) (λ (n : ℕ). f n (amount_of x))
  one_change f x (row ∷ rows) (account ∷ checking) apart trusted =
      elim (is_row_of x row) as (λ b. is_row_of x row ≡ b → holds_of (is_partner_role t.site.chain name) (if b then Some row else find (is_row_of x) rows) ≡ true
      → account_in t a (row ∷ rows) (if b then option_map (λ (n : ℕ). f n (amount_of x)) account ∷ checking else account ∷ changed_rows f x rows checking)
      ≡ changed_if (is_unit_at (context_of t) a every (unit_of x)) (λ (n : ℕ). f n (amount_of x)) (if is_native_row t a row then account else account_in t a rows checking)) [
        | true ↦ λ is partner.
            let native = partner_native t.site.chain name row.role partner in
            changed_either (is_native_row t a row) (λ (n : ℕ). f n (amount_of x)) account (account_in t a rows checking)
            ∙ ap (λ (b : Bool). changed_if b (λ (n : ℕ). f n (amount_of x)) (if is_native_row t a row then account else account_in t a rows checking)) (sym (of_row x row is native))
        | false ↦ λ other rest.
            elim (is_native_row t a row) as (λ b. is_native_row t a row ≡ b → (if b then account else account_in t a rows (changed_rows f x rows checking))
            ≡ changed_if (is_unit_at (context_of t) a every (unit_of x)) (λ (n : ℕ). f n (amount_of x)) (if b then account else account_in t a rows checking)) [
              | true ↦ λ native. ap (λ (b : Bool). changed_if b (λ (n : ℕ). f n (amount_of x)) account) (sym (another x row rows apart other native (found_partner t.site.chain name x rows rest)))
              | false ↦ λ foreign. one_change f x rows checking (λ u v u_in v_in path. apart u v (suc u_in.0, u_in.1) (suc v_in.0, v_in.1) path) rest
            ] refl
      ] refl trusted

  raised_more : (b : Bool) (n more : ℕ) (o : Option ℕ) → risen more (changed_if b (λ (m : ℕ). m + n) o) ≡ risen (amount_if b n + more) o
  raised_more true n more None = refl
  raised_more true n more (Some amount) = ap Some (let e : (amount + n) + more ≡ amount + (n + more) = omega arith in e)
  raised_more false n more None = refl
  raised_more false n more (Some amount) = ap Some (let e : amount + more ≡ amount + (0 + more) = omega arith in e)

  lowered_more : (b : Bool) (n less : ℕ) (o : Option ℕ) → fallen less (changed_if b (λ (m : ℕ). m - n) o) ≡ fallen (amount_if b n + less) o
  lowered_more true n less None = refl
  lowered_more true n less (Some amount) = ap Some (let e : (amount - n) - less ≡ amount - (n + less) = omega arith in e)
  lowered_more false n less None = refl
  lowered_more false n less (Some amount) = ap Some (let e : amount - less ≡ amount - (0 + less) = omega arith in e)

  module _ (apart : (u v : AssetRow) → IsIn t.rows u → IsIn t.rows v → path_of_row t u ≡ path_of_row t v → u ≡ v) where
    rows_raise : (list : List Asset) (checking : List (Option ℕ)) → AllByRecursion (λ (x : Asset). IsTrue (is_partner t.rows t.site x name)) list
        → account_in t a t.rows (changed_all (λ n m. n + m) list t.rows checking) ≡ risen (sum_where (is_unit_at (context_of t) a every) (rows_of list)) (account_in t a t.rows checking)
    rows_raise [] checking all = sym (risen_by_none (account_in t a t.rows checking))
    rows_raise (x ∷ list) checking all =
        rows_raise list (changed_rows (λ n m. n + m) x t.rows checking) all.1
        ∙ ap (risen (sum_where (is_unit_at (context_of t) a every) (rows_of list))) (one_change (λ n m. n + m) x t.rows checking apart all.0)
        ∙ raised_more (is_unit_at (context_of t) a every (unit_of x)) (amount_of x) (sum_where (is_unit_at (context_of t) a every) (rows_of list)) (account_in t a t.rows checking)

    -- the accounts rise by what is teleported
    pub list_raises : (list : List Asset) (checking : List (Option ℕ)) → AllByRecursion (λ (x : Asset). IsTrue (is_partner t.rows t.site x name)) list
        → account_in t a t.rows (changed_all (λ n m. n + m) list t.rows checking) ≡ risen (total (is_unit_at (context_of t) a every) (bundle_of list)) (account_in t a t.rows checking)
    list_raises list checking all = rows_raise list checking all ∙ ap (λ n. risen n (account_in t a t.rows checking)) (sym (total-bundle_of (is_unit_at (context_of t) a every) list))

    rows_lower : (list : List Asset) (checking : List (Option ℕ)) → AllByRecursion (λ (x : Asset). IsTrue (is_partner t.rows t.site x name)) list
        → account_in t a t.rows (changed_all (λ n m. n - m) list t.rows checking) ≡ fallen (sum_where (is_unit_at (context_of t) a every) (rows_of list)) (account_in t a t.rows checking)
    rows_lower [] checking all = fallen_by_none (account_in t a t.rows checking)
      where
        fallen_by_none : (o : Option ℕ) → o ≡ fallen 0 o
        fallen_by_none None = refl
        fallen_by_none (Some amount) = ap Some (let e : amount ≡ amount - 0 = omega arith in e)
    rows_lower (x ∷ list) checking all =
        rows_lower list (changed_rows (λ n m. n - m) x t.rows checking) all.1
        ∙ ap (fallen (sum_where (is_unit_at (context_of t) a every) (rows_of list))) (one_change (λ n m. n - m) x t.rows checking apart all.0)
        ∙ lowered_more (is_unit_at (context_of t) a every (unit_of x)) (amount_of x) (sum_where (is_unit_at (context_of t) a every) (rows_of list)) (account_in t a t.rows checking)

    risen_again : (less : ℕ) (o : Option ℕ) → ((amount : ℕ) → o ≡ Some amount → less ≤ amount) → o ≡ risen less (fallen less o)
    risen_again less None enough = refl
    risen_again less (Some amount) enough = let le = enough amount refl in ap Some (let e : amount ≡ (amount - less) + less = omega (arith, le) in e)

    -- the accounts fall by what comes in, where they have as much
    pub list_lowers : (list : List Asset) (checking : List (Option ℕ)) → AllByRecursion (λ (x : Asset). IsTrue (is_partner t.rows t.site x name)) list
        → ((amount : ℕ) → account_in t a t.rows checking ≡ Some amount → total (is_unit_at (context_of t) a every) (bundle_of list) ≤ amount)
        → account_in t a t.rows checking ≡ risen (total (is_unit_at (context_of t) a every) (bundle_of list)) (account_in t a t.rows (changed_all (λ n m. n - m) list t.rows checking))
    list_lowers list checking all enough =
        let sum = total-bundle_of (is_unit_at (context_of t) a every) list in
        risen_again (total (is_unit_at (context_of t) a every) (bundle_of list)) (account_in t a t.rows checking) enough
        ∙ ap (λ n. risen (total (is_unit_at (context_of t) a every) (bundle_of list)) (fallen n (account_in t a t.rows checking))) sum
        ∙ ap (risen (total (is_unit_at (context_of t) a every) (bundle_of list))) (sym (rows_lower list checking all))
