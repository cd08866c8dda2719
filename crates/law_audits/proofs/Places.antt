-- What is printed of an asset at a chain is what conservation counts there.
use Rattle.std.specs.Prelude.{◌≡◌, ℕ, Bool, true, false, ◌&&◌, if◌then◌else◌, List, sum_by, refl}
use Rattle.std.specs.List.{IsDistinct}
use Rattle.std.specs.Ordering.{eq_by_cmp}
use Rattle.std.proofs.Common.{ap, ◌∙◌, arith}
use Rattle.amounts.proofs.Lemmas.AmountLaws.{total_at_most}
use Rattle.std.proofs.lemmas.Bool.{and_parts}
use Rattle.asset_lists.specs.declared.units.AssetId.{AssetId}
use Rattle.asset_lists.specs.declared.units.AssetId.TheVariants.{Concrete}
use Rattle.asset_lists.specs.declared.units.Kind.{Kind}
use Rattle.asset_lists.specs.Units.{Unit}
use Rattle.asset_lists.specs.Listed.{Listed, listed_cmp, listed_of}
use Rattle.asset_bundles.specs.Bundles.{is_asset}
use Rattle.asset_bundles.specs.Books.{burned_by_any_cause, is_unit_where, is_unit_of}
use Rattle.ledgers.specs.Ledgers.{Holder, is_account, account_sum_of}
use Rattle.trust_tables.specs.declared.rows.AssetRow.{AssetRow}
use Rattle.trust_tables.specs.Chains.{path_of_site}
use Rattle.trust_tables.specs.Trust.{listing, listed_row}
use Rattle.exec_base.specs.Part.{ChainPart}
use Rattle.law_coherence.specs.UniversalAssets.{UniversalAsset, every, is_asset_at, is_unit_at}
use Rattle.law_runs.specs.Sums.{in_kept, in_places, burned_where, none}
use Rattle.law_runs.proofs.Lemmas.Sums.{account_total}
use Rattle.law_steps.specs.Rooms.{unlisted, AllListed}
use Rattle.chain_state.specs.Aside.{aside}
use Rattle.supply_audit.specs.Places.{is_chain_row_of, placed, placed_at, burned_at, account_balance}
use Rattle.law_audits.proofs.Rows.{IsSum, is_at, over_listed}
use Rattle.law_audits.proofs.Sums.{places_sum, burned_sum, account_sum}
use Rattle.law_audits.proofs.Causes.{asset_says, all_causes}

-- ---- over rows
-- what is counted of each row, over the rows of an asset
abbrev pub over_rows_of : ChainPart → UniversalAsset → (AssetRow → ℕ) → ℕ
over_rows_of p a has = sum_by (λ (row : AssetRow). if is_chain_row_of p a row then has row else 0) p.rows

pub rows_are : (p : ChainPart) (a : UniversalAsset) (has : AssetRow → ℕ) (f : (Listed → Bool) → ℕ) → IsSum f → ((row : AssetRow) → has row ≡ f (is_at row)) → IsDistinct (eq_by_cmp listed_cmp) (listing p.rows) → f (unlisted p.rows) ≡ 0
    → over_rows_of p a has ≡ f (is_asset_at (path_of_site p.site) a)
rows_are p a has f is says once nothing =
    (λ i. sum_by (λ (row : AssetRow). if is_chain_row_of p a row then says row i else 0) p.rows)
    ∙ over_listed f is (is_asset_at (path_of_site p.site) a) p.rows once nothing

every_or : (b : Bool) → b ≡ (b && true)
every_or true = refl
every_or false = refl

-- all units of the asset
pub whole_asset : (p : ChainPart) (a : UniversalAsset) → is_unit_where (is_asset_at (path_of_site p.site) a) ≡ is_unit_at (path_of_site p.site) a every
whole_asset p a i u = every_or (is_asset_at (path_of_site p.site) a (listed_of u)) i

-- and all units of an id and kind
pub of_asset : (id : AssetId) (kind : Kind) → is_asset id kind ≡ is_unit_of (id, kind)
of_asset id kind i u = asset_says id kind u i

-- ---- on a chain
placed_is : (p : ChainPart) (id : AssetId) (kind : Kind) → placed p id kind ≡ in_places (is_asset id kind) p
unfolding in_kept aside
placed_is p id kind = omega arith

placed_says : (p : ChainPart) (id : AssetId) (kind : Kind) → placed p id kind ≡ in_places (is_unit_of (id, kind)) p
placed_says p id kind = placed_is p id kind ∙ ap (λ t. in_places t p) (of_asset id kind)

module _ (p : ChainPart) (once : IsDistinct (eq_by_cmp listed_cmp) (listing p.rows)) (listed : AllListed none p) (a : UniversalAsset) where
  pub placed_same : placed_at a p ≡ in_places (is_unit_at (path_of_site p.site) a every) p
  placed_same =
      rows_are p a (λ row. placed p (Concrete row.id) row.kind) (λ test. in_places (is_unit_where test) p) (places_sum p) (λ row. placed_says p (Concrete row.id) row.kind) once (omega (arith, listed))
      ∙ ap (λ t. in_places t p) (whole_asset p a)

  pub burned_same : burned_at a p ≡ burned_where (is_asset_at (path_of_site p.site) a) p
  burned_same = rows_are p a (λ row. burned_by_any_cause p.burns (Concrete row.id) row.kind) (λ test. burned_where test p) (burned_sum p) (λ row. all_causes p.burns (Concrete row.id) row.kind) once (omega (arith, listed))

  -- an account has no more than the whole chain
  account_none : (who : List ℕ) → account_total who (is_unit_where (unlisted p.rows)) p ≡ 0
  unfolding in_kept
  account_none who =
      let t = is_unit_where (unlisted p.rows) in
      let le = total_at_most (λ (h : Holder). is_account who h && t h.1) (λ (h : Holder). t h.1) p.held (λ h passes. (and_parts (is_account who h) (t h.1) passes).1) in
      omega (arith, listed, le)

  pub account_same : (who : List ℕ) → account_balance who a p ≡ account_total who (is_unit_at (path_of_site p.site) a every) p
  account_same who =
      rows_are p a (λ row. account_sum_of who (listed_row row) p.held) (λ test. account_total who (is_unit_where test) p) (account_sum who p)
      (λ row. ap (λ (t : Unit → Bool). account_total who t p) (of_asset (Concrete row.id) row.kind)) once (account_none who)
      ∙ ap (λ t. account_total who t p) (whole_asset p a)
