-- Rows of one kind, and rows after rows.
use Rattle.std.proofs.Common.{◌≡◌, ℕ, Bool, true, false, ◌&&◌, ◌||◌, if◌then◌else◌, List, [], ◌∷◌, ◌++◌, refl, sym, ap, ◌∙◌}
use Rattle.std.specs.Prelude.{Option, None, Some, is_some, slice_get, position, option_and_then}
use Rattle.std.proofs.lemmas.List.Quantifiers.{position-Some}
use Rattle.std.proofs.lemmas.Option.{slice_get-get_or}
use Rattle.asset_lists.specs.declared.units.Asset.{Asset}
use Rattle.asset_lists.specs.declared.units.Kind.{Kind}
use Rattle.asset_lists.specs.declared.units.Kind.TheVariants.{Fungible, Class}
use Rattle.asset_lists.specs.Units.{unit_of}
use Rattle.asset_lists.specs.Listed.{kind_of, same_kind}
use Rattle.chain_ids.specs.declared.chain.ChainId.{ChainId}
use Rattle.trust_tables.specs.declared.rows.AssetRow.{AssetRow}
use Rattle.trust_tables.specs.declared.rows.AssetRole.{AssetRole}
use Rattle.trust_tables.specs.Trust.{row_of, is_id, is_row_of}
use Rattle.trust_tables.proofs.Lemmas.TrustLaws.{row_at-position}
use Rattle.transactors.specs.Checks.{rows_of_kind}
use Rattle.plain_lists.proofs.Lemmas.Facts.{or_associated as or_or}

some_row : AssetRow
some_row = record { id = record { parents = 0; interior = [] }; kind = Kind.Fungible; role = AssetRole.Derivative ChainId.Relay }

found : (rows : List AssetRow) (a : Asset) (o : Option ℕ) → position (is_row_of a) rows ≡ o → is_some (option_and_then (slice_get rows) o) ≡ is_some o
found rows a None e = refl
found rows a (Some n) e =
    let at = position-Some (is_row_of a) rows n some_row e in
    ap is_some (slice_get-get_or rows n some_row at.0)

-- an index is found exactly where a row is
pub found_row : (rows : List AssetRow) (a : Asset) → is_some (position (is_row_of a) rows) ≡ is_some (row_of rows a)
found_row rows a = sym (found rows a (position (is_row_of a) rows) refl) ∙ ap is_some (row_at-position rows a)

some_or : (b : Bool) (row : AssetRow) (o : Option AssetRow) → is_some (if b then Some row else o) ≡ (b || is_some o)
some_or true row o = refl
some_or false row o = refl

-- a row that comes first, if it does
in_front : (b : Bool) (a : Asset) (row : AssetRow) (rows : List AssetRow)
    → is_some (row_of (if b then row ∷ rows else rows) a) ≡ (if b then is_row_of a row || is_some (row_of rows a) else is_some (row_of rows a))
in_front true a row rows = some_or (is_row_of a row) row (row_of rows a)
in_front false a row rows = refl

kinds : (of_asset wanted of_row : Kind) (id rest some : Bool) → some ≡ (same_kind of_asset wanted && rest)
    → (if same_kind wanted of_row then (id && same_kind of_asset of_row) || some else some) ≡ (same_kind of_asset wanted && ((id && same_kind of_asset of_row) || rest))
kinds Fungible Fungible Fungible true rest some h = refl
kinds Fungible Fungible Class true rest some h = h
kinds Fungible Class Fungible true rest some h = h
kinds Fungible Class Class true rest some h = h
kinds Class Fungible Fungible true rest some h = h
kinds Class Fungible Class true rest some h = h
kinds Class Class Fungible true rest some h = h
kinds Class Class Class true rest some h = refl
kinds Fungible Fungible Fungible false rest some h = h
kinds Fungible Fungible Class false rest some h = h
kinds Fungible Class Fungible false rest some h = h
kinds Fungible Class Class false rest some h = h
kinds Class Fungible Fungible false rest some h = h
kinds Class Fungible Class false rest some h = h
kinds Class Class Fungible false rest some h = h
kinds Class Class Class false rest some h = h

never : (b : Bool) → false ≡ (b && false)
never true = refl
never false = refl

-- a row of the kind lists the asset exactly where the asset is of the kind and a row lists it
pub row_of_kind : (kind : Kind) (rows : List AssetRow) (a : Asset) → is_some (row_of (rows_of_kind kind rows) a) ≡ (same_kind (kind_of (unit_of a).1) kind && is_some (row_of rows a))
row_of_kind kind [] a = never (same_kind (kind_of (unit_of a).1) kind)
row_of_kind kind (row ∷ rows) a =
    in_front (same_kind kind row.kind) a row (rows_of_kind kind rows)
    ∙ kinds (kind_of (unit_of a).1) kind row.kind (is_id a.id row.id) (is_some (row_of rows a)) (is_some (row_of (rows_of_kind kind rows) a)) (row_of_kind kind rows a)
    ∙ ap (λ b. same_kind (kind_of (unit_of a).1) kind && b) (sym (some_or (is_row_of a row) row (row_of rows a)))

-- a row of either part
pub row_of_both : (rows more : List AssetRow) (a : Asset) → is_some (row_of (rows ++ more) a) ≡ (is_some (row_of rows a) || is_some (row_of more a))
row_of_both [] more a = refl
row_of_both (row ∷ rows) more a =
    some_or (is_row_of a row) row (row_of (rows ++ more) a) ∙ ap (λ b. is_row_of a row || b) (row_of_both rows more a)
    ∙ or_or (is_row_of a row) (is_some (row_of rows a)) (is_some (row_of more a))
    ∙ ap (λ b. b || is_some (row_of more a)) (sym (some_or (is_row_of a row) row (row_of rows a)))

either_kind : (kind : Kind) (some : Bool) → ((same_kind kind Kind.Fungible && some) || (same_kind kind Kind.Class && some)) ≡ some
either_kind Fungible true = refl
either_kind Fungible false = refl
either_kind Class true = refl
either_kind Class false = refl

-- the rows of both kinds list what all rows list
pub row_of_kinds : (rows : List AssetRow) (a : Asset) → is_some (row_of (rows_of_kind Kind.Fungible rows ++ rows_of_kind Kind.Class rows) a) ≡ is_some (row_of rows a)
row_of_kinds rows a =
    row_of_both (rows_of_kind Kind.Fungible rows) (rows_of_kind Kind.Class rows) a
    ∙ (λ i. row_of_kind Kind.Fungible rows a i || row_of_kind Kind.Class rows a i)
    ∙ either_kind (kind_of (unit_of a).1) (is_some (row_of rows a))
