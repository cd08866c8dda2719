-- How a trap store is kept apart from others of its kind; a reader may skip this.
use Rattle.std.specs.Prelude.{ℕ, List, refl}
use Rattle.std.specs.Coded.{Coded, code_by, coded_ℕ, coded_list, coded×}
use Rattle.asset_bundles.specs.contracts.trap.Trap.{the_row as trap}
use Rattle.asset_bundles.specs.declared.trap.Trap.{Trap}
use Rattle.asset_bundles.specs.Traps.{Store}

abbrev pub rows_code : Coded (List Trap)
rows_code = coded_list trap.coded

abbrev pub store_code : Coded Store
store_code = code_by (List Trap × ℕ) (coded× rows_code coded_ℕ) (λ s. (s.traps, s.next)) (λ p. record { traps = p.0; next = p.1 }) (λ _. refl)
