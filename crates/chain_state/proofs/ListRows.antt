-- A row.
use Rattle.std.proofs.Common.{[]}
use Rattle.asset_lists.specs.declared.units.Kind.{Kind}
use Rattle.chain_ids.specs.declared.chain.ChainId.{ChainId}
use Rattle.trust_tables.specs.declared.rows.AssetRow.{AssetRow}
use Rattle.trust_tables.specs.declared.rows.AssetRole.{AssetRole}

pub some_row : AssetRow
some_row = record { id = record { parents = 0; interior = [] }; kind = Kind.Fungible; role = AssetRole.Derivative ChainId.Relay }
