-- Where a row is found: a row that stands at some index is found at that index or before.
use Rattle.std.proofs.Common.{◌≡◌, ℕ, true, ltb, List, length, get_or, sym, ap, ◌∙◌}
use Rattle.std.specs.Prelude.{Some, is_some, slice_get, position}
use Rattle.asset_lists.specs.declared.units.Asset.{Asset}
use Rattle.trust_tables.specs.declared.rows.AssetRow.{AssetRow}
use Rattle.trust_tables.specs.Trust.{is_row_of}
use Rattle.std.proofs.lemmas.Bool.{ltb-true}
use Rattle.std.proofs.lemmas.Option.{slice_get-get_or}
use Rattle.plain_lists.proofs.Lemmas.Facts.{found_some}
use Rattle.plain_lists.proofs.Lemmas.Firsts.{stands_within}

pub place_found : (rows : List AssetRow) (a : Asset) (n : ℕ) (row : AssetRow) → slice_get rows n ≡ Some row → is_row_of a row ≡ true → is_some (position (is_row_of a) rows) ≡ true
place_found rows a n row at passes = ap is_some (found_some _ (length rows) (stands_within (is_row_of a) rows n row at passes))

pub stands : (rows : List AssetRow) (n : ℕ) (row : AssetRow) → true ≡ ltb n (length rows) → row ≡ get_or rows n row → slice_get rows n ≡ Some row
stands rows n row e is = slice_get-get_or rows n row (ltb-true _ _ (sym e)) ∙ ap Some (sym is)
