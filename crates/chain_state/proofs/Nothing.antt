-- What nothing leaves: no fee, no line and no asset.
use Rattle.std.proofs.Common.{◌≡◌, ℕ, List, [], ap}
use Rattle.std.specs.declared.cmp.Ordering.{Ordering}
use Rattle.amounts.specs.Rows.{rows_at}
use Rattle.amounts.specs.Amounts.{empty, rows, from_rows, plus_all, map_keys}
use Rattle.amounts.proofs.Lemmas.{rows-from_rows}
use Rattle.asset_lists.specs.Units.{Unit, unit_cmp}
use Rattle.asset_bundles.specs.Bundles.{assets_of_rows, held_assets}
use Rattle.asset_bundles.proofs.Lemmas.Bundles.{unit_keys}
use Rattle.asset_bundles.specs.Changed.{rows_with, with_amounts}

-- the rows of nothing
pub rows-nothing : rows (empty {R = unit_cmp}) ≡ []
unfolding from_rows plus_all
rows-nothing = rows-from_rows unit_keys [] tt tt

pub map_keys-nothing : {K : Type 0} {R : K → K → Ordering} (f : Unit → K) → map_keys {S = unit_cmp} {R = R} f empty ≡ empty
unfolding map_keys from_rows plus_all
map_keys-nothing {K} {R} f = ap (λ es. from_rows {R = R} (rows_at f es)) rows-nothing

pub with_amounts-nothing : (f : Unit → ℕ → ℕ) → with_amounts {R = unit_cmp} f empty ≡ empty
unfolding with_amounts from_rows plus_all
with_amounts-nothing f = ap (λ es. from_rows {R = unit_cmp} (rows_with f es)) rows-nothing

pub held_nothing : held_assets empty ≡ []
unfolding held_assets
held_nothing = ap (λ (es : List (Unit × ℕ)). assets_of_rows es) rows-nothing
