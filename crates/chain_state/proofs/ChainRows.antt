-- Rows that are found.
use Rattle.std.proofs.Common.{◌≡◌, ℕ, List, [], ◌∷◌, if◌then◌else◌, refl, sym, ap, ◌∙◌}
use Rattle.std.specs.Prelude.{Option, None, Some, is_some, slice_get, position, option_and_then}
use Rattle.std.proofs.lemmas.List.Quantifiers.{position-Some}
use Rattle.std.proofs.lemmas.Option.{slice_get-get_or}
use Rattle.asset_lists.specs.declared.units.Asset.{Asset}
use Rattle.asset_lists.specs.declared.units.Kind.{Kind}
use Rattle.asset_lists.specs.Units.{unit_of}
use Rattle.asset_lists.specs.Listed.{Listed, listed_of}
use Rattle.chain_ids.specs.declared.chain.ChainId.{ChainId}
use Rattle.trust_tables.specs.declared.rows.AssetRow.{AssetRow}
use Rattle.trust_tables.specs.declared.rows.AssetRole.{AssetRole}
use Rattle.trust_tables.specs.Trust.{row_of, is_row_of, listing}
use Rattle.trust_tables.proofs.Lemmas.TrustLaws.{row_at-position, position_listed}
use Rattle.ledgers.specs.Ledgers.{number_in}
use Rattle.chain_state.proofs.Found.{found_passes}

pub some_row : AssetRow
some_row = record { id = record { parents = 0; interior = [] }; kind = Kind.Fungible; role = AssetRole.Derivative ChainId.Relay }

found : (rows : List AssetRow) (a : Asset) (o : Option ℕ) → position (is_row_of a) rows ≡ o → is_some (option_and_then (slice_get rows) o) ≡ is_some o
found rows a None e = refl
found rows a (Some n) e =
    let at = position-Some (is_row_of a) rows n some_row e in
    ap is_some (slice_get-get_or rows n some_row at.0)

-- an index is found exactly where a row is
pub found_row : (rows : List AssetRow) (a : Asset) → is_some (position (is_row_of a) rows) ≡ is_some (row_of rows a)
found_row rows a = sym (found rows a (position (is_row_of a) rows) refl) ∙ ap is_some (row_at-position rows a)

-- the row at the asset's number in the listing is the asset's
pub numbered_row : (rows : List AssetRow) (listed : List Listed) (a : Asset) → listed ≡ listing rows → (o : Option ℕ) → o ≡ number_in listed (listed_of (unit_of a)) → option_and_then (slice_get rows) o ≡ row_of rows a
numbered_row rows listed a same o is = ap (option_and_then (slice_get rows)) (is ∙ ap (λ l. number_in l (listed_of (unit_of a))) same ∙ position_listed rows a) ∙ row_at-position rows a

-- a row that is found is found in the list of it alone
pub found_alone : (rows : List AssetRow) (a : Asset) (row : AssetRow) → Some row ≡ row_of rows a → row_of (row ∷ []) a ≡ row_of rows a
found_alone rows a row is = ap (λ b. if b then Some row else None) (found_passes (is_row_of a) rows row (sym is)) ∙ is
