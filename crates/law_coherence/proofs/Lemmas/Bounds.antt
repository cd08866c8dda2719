-- In a network that agrees, what a chain has of a listed asset is no more than there is at the asset's homes.
use Rattle.std.specs.Prelude.{◌≡◌, ℕ, zero, suc, ◌+◌, ◌≤◌, true, if◌then◌else◌, ◌&&◌, List, [], ◌∷◌, Option, Some, slice_get, sum_by, refl}
use Rattle.std.proofs.Common.{sym, ap, ◌∙◌, arith}
use Rattle.std.proofs.lemmas.Bool.{and_parts}
use Rattle.std.proofs.lemmas.List.Sums.{sum_by-cons}
use Rattle.amounts.proofs.Lemmas.AmountLaws.{total_at_most}
use Rattle.ledgers.specs.Ledgers.{Holder, is_account}
use Rattle.chain_ids.specs.declared.chain.ChainId.{ChainId}
use Rattle.trust_tables.specs.declared.rows.AssetRow.{AssetRow}
use Rattle.trust_tables.specs.declared.rows.AssetRole.TheVariants.{Native, Derivative}
use Rattle.trust_tables.specs.Accounts.{sovereign_account}
use Rattle.law_coherence.specs.UniversalAssets.{UniversalAsset, Choice, every, just, is_unit_at}
use Rattle.asset_lists.specs.declared.units.Instance.{Instance}
use Rattle.law_coherence.specs.Networks.{Table, context_of, IsIn, asset_of_row, HasReserve, Agrees, is_home}
use Rattle.law_coherence.specs.Parts.{Part, WorldView, chain_of_part, Whole, Only, stock, account_amount, burned, flight, own, home, supply, alive, population, Backed}
use Rattle.law_coherence.specs.Steps.{tables_of}
use Rattle.law_coherence.proofs.Lemmas.Steps.{table_at, part_at}
use Rattle.law_coherence.proofs.Lemmas.Cargoes.{IsRowAsset, home_of_row}

abbrev sovereign_account_at : Part → Part → List ℕ
sovereign_account_at r p = sovereign_account (chain_of_part r) (chain_of_part p)

pub sum_at : (f : Part → ℕ) (w : WorldView) (k : ℕ) (p : Part) → slice_get w k ≡ Some p → f p ≤ sum_by f w
sum_at f [] k p at = absurd (cc)
sum_at f (x ∷ xs) zero p at = let same : x ≡ p = cc in let here : f x ≡ f p = ap f same in let all = sum_by-cons f x xs in omega (arith, here, all)
sum_at f (x ∷ xs) (suc k) p at = let rest = sum_at f xs k p at in let all = sum_by-cons f x xs in omega (arith, rest, all)

-- no account has more than the chain
pub account_at_most : (who : List ℕ) (a : UniversalAsset) (choice : Choice) (p : Part) → account_amount who a choice p ≤ stock a choice p
unfolding account_amount stock
account_at_most who a choice p =
    let some = total_at_most (λ (h : Holder). is_account who h && is_unit_at (context_of p.table) a choice h.1) (λ (h : Holder). is_unit_at (context_of p.table) a choice h.1) p.held (λ h passes. (and_parts (is_account who h) (is_unit_at (context_of p.table) a choice h.1) passes).1) in
    omega (arith, some)

module _ (w : WorldView) (agrees : Agrees (tables_of w)) where
  pub home_at_most : (a : UniversalAsset) (k : ℕ) (p : Part) → slice_get w k ≡ Some p → is_home a p.table ≡ true → own a p ≤ supply a w
  unfolding supply home
  home_at_most a k p at native =
      let one = sum_at (home a) w k p at in
      let here : (if is_home a p.table then own a p else 0) ≡ own a p = ap (λ b. if b then own a p else 0) native in
      omega (arith, one, here)

  pub alive_at_most : (a : UniversalAsset) (choice : Choice) (k : ℕ) (p : Part) → slice_get w k ≡ Some p → is_home a p.table ≡ true → stock a choice p + flight a choice p ≤ population a choice w
  unfolding population alive
  alive_at_most a choice k p at native =
      let one = sum_at (alive a choice) w k p at in
      let here : (if is_home a p.table then stock a choice p + flight a choice p else 0) ≡ stock a choice p + flight a choice p = ap (λ b. if b then stock a choice p + flight a choice p else 0) native in
      omega (arith, one, here)

  -- the reserve of a derivative, which is a home of it
  pub record IsReserveOf (p : Part) (row : AssetRow) : Type 0 where
    pub place : ℕ
    pub part : Part
    pub at : slice_get w place ≡ Some part
    pub role : row.role ≡ Derivative (chain_of_part part)
    pub native : is_home (asset_of_row p.table row) part.table ≡ true

  pub reserve_of : (k : ℕ) (p : Part) (row : AssetRow) (chain : ChainId) → slice_get w k ≡ Some p → IsIn p.table.rows row → row.role ≡ Derivative chain → IsReserveOf p row
  reserve_of k p row chain at inside role =
      let r : HasReserve (tables_of w) p.table row chain = agrees.reserves p.table row chain (k, table_at w k p at) inside role in
      let found = part_at w r.listed.0 r.table r.listed.1 in
      let of : IsRowAsset r.table r.row (asset_of_row p.table row) = record { path = r.twins.path; kind = r.twins.kind } in
      record {
        place = r.listed.0;
        part = found.0;
        at = found.1;
        role = role ∙ ap Derivative (sym (ap (λ (t : Table). t.site.chain) found.2 ∙ r.at_chain));
        native = ap (is_home (asset_of_row p.table row)) found.2 ∙ home_of_row r.table (asset_of_row p.table row) r.row r.partners r.checking r.twins.there r.native of;
      }

  -- all that a chain has of a row's asset, and all that it burned of it
  pub row_at_most : Backed w → (k : ℕ) (p : Part) (row : AssetRow) → slice_get w k ≡ Some p → IsIn p.table.rows row
      → stock (asset_of_row p.table row) every p + burned (asset_of_row p.table row) p ≤ supply (asset_of_row p.table row) w
  row_at_most b k p row at inside =
      elim row.role as (λ role. row.role ≡ role → stock (asset_of_row p.table row) every p + burned (asset_of_row p.table row) p ≤ supply (asset_of_row p.table row) w) [
        | Native partners checking ↦ λ native.
            let a = asset_of_row p.table row in
            let of : IsRowAsset p.table row a = record { path = refl; kind = refl } in
            let all = home_at_most a k p at (home_of_row p.table a row partners checking inside native of) in
            omega (arith, all)
        | Derivative chain ↦ λ derivative.
            let a = asset_of_row p.table row in
            let r = reserve_of k p row chain at inside derivative in
            let covered = b k r.place p r.part row Whole at r.at inside r.role in
            let some = account_at_most (sovereign_account_at r.part p) a every r.part in
            let all = home_at_most a r.place r.part r.at r.native in
            omega (arith, covered, some, all)
      ] refl

  -- an instance at a chain
  pub instances_at_most : Backed w → (k : ℕ) (p : Part) (row : AssetRow) (instance : Instance) → slice_get w k ≡ Some p → IsIn p.table.rows row
      → stock (asset_of_row p.table row) (just (Some instance)) p ≤ population (asset_of_row p.table row) (just (Some instance)) w
  instances_at_most b k p row instance at inside =
      let choice = λ (x : Option Instance). just (Some instance) x in
      elim row.role as (λ role. row.role ≡ role → stock (asset_of_row p.table row) choice p ≤ population (asset_of_row p.table row) choice w) [
        | Native partners checking ↦ λ native.
            let a = asset_of_row p.table row in
            let of : IsRowAsset p.table row a = record { path = refl; kind = refl } in
            let all = alive_at_most a choice k p at (home_of_row p.table a row partners checking inside native of) in
            omega (arith, all)
        | Derivative chain ↦ λ derivative.
            let a = asset_of_row p.table row in
            let r = reserve_of k p row chain at inside derivative in
            let covered = b k r.place p r.part row (Only instance) at r.at inside r.role in
            let some = account_at_most (sovereign_account_at r.part p) a choice r.part in
            let all = alive_at_most a choice r.place r.part r.at r.native in
            omega (arith, covered, some, all)
      ] refl
