-- How a proof tells books apart.
use Rattle.std.specs.Prelude.{List, refl}
use Rattle.std.specs.FinMap as map
use Rattle.std.specs.Coded.{Coded, code_by, coded_ℕ, coded×, coded_list}
use Rattle.asset_lists.specs.contracts.units.AssetId.{the_row as asset_id}
use Rattle.asset_lists.specs.contracts.units.Kind.{the_row as kind}
use Rattle.asset_bundles.specs.contracts.book.Cause.{the_row as cause}
use Rattle.asset_bundles.specs.Books.{Burns, Book}
use Rattle.asset_lists.specs.Listed.{Listed}

abbrev pub listed_code : Coded Listed
listed_code = coded× asset_id.coded kind.coded

abbrev pub book_code : Coded Book
book_code = code_by (List Listed × Burns) (coded× (coded_list listed_code) (map.code (coded× listed_code cause.coded) coded_ℕ)) (λ b. (b.listed, b.burns)) (λ p. record { listed = p.0; burns = p.1 }) (λ _. refl)
