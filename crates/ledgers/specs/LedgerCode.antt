-- How a proof tells ledgers apart.
use Rattle.std.specs.Prelude.{List, refl}
use Rattle.std.specs.FinMap as map
use Rattle.std.specs.Coded.{Coded, code_by, coded_ℕ, coded×, coded_list, coded_option}
use Rattle.asset_lists.specs.contracts.units.AssetId.{the_row as asset_id}
use Rattle.asset_lists.specs.contracts.units.Instance.{the_row as instance}
use Rattle.asset_lists.specs.Listed.{Listed}
use Rattle.asset_bundles.specs.BookCode.{listed_code}
use Rattle.ledgers.specs.Ledgers.{Held, Accounts}

abbrev pub held_code : Coded Held
held_code = map.code (coded× (coded_list coded_ℕ) (coded× asset_id.coded (coded_option instance.coded))) coded_ℕ

abbrev pub accounts_code : Coded Accounts
accounts_code = code_by (List Listed × Held) (coded× (coded_list listed_code) held_code) (λ l. (l.listed, l.held)) (λ p. record { listed = p.0; held = p.1 }) (λ _. refl)
