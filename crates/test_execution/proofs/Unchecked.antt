-- Where no row has a checking account, only rows of fungible assets have one.
use Rattle.std.proofs.Common.{◌≡◌, ℕ, true, List, [], ◌∷◌, refl}
use Rattle.std.specs.Prelude.{Option, None, Some, is_none}
use Rattle.std.proofs.lemmas.Bool.{and_parts, and_from}
use Rattle.asset_lists.specs.declared.units.Kind.{Kind}
use Rattle.asset_lists.specs.declared.units.Kind.TheVariants.{Fungible, Class}
use Rattle.trust_tables.specs.declared.rows.AssetRow.{AssetRow}
use Rattle.network_steps.specs.Tests.{row_checking, may_check, may_have_checkings}
use Rattle.test_execution.specs.Opening.{have_no_checkings}

none_may : (kind : Kind) (checking : Option ℕ) → is_none checking ≡ true → may_check kind checking ≡ true
none_may Fungible checking none = refl
none_may Class None none = refl
none_may Class (Some amount) none = absurd (cc)

pub unchecked_may : (rows : List AssetRow) → have_no_checkings rows ≡ true → may_have_checkings rows ≡ true
unchecked_may [] none = refl
unchecked_may (row ∷ rows) none =
    let parts = and_parts (is_none (row_checking row)) (have_no_checkings rows) none in
    and_from _ _ (none_may row.kind (row_checking row) parts.0) (unchecked_may rows parts.1)
