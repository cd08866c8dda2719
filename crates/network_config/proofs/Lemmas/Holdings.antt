-- Lemmas on the definitions of `specs/Holdings.antt`: what proofs cite.
use Rattle.std.specs.Prelude.{ℕ, List, Option}
use Rattle.std.specs.List.{position}
use Rattle.trust_tables.specs.declared.rows.AssetRow.{AssetRow}
use Rattle.trust_tables.specs.Trust.{is_row_of}
use Rattle.network_spec.specs.declared.chain.Balance.{Balance}

-- the row that lists the entry's asset
abbrev pub row_number : List AssetRow → Balance → Option ℕ
row_number rows balance = position (is_row_of balance.asset) rows
