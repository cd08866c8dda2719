-- The network in which drawn steps are run: the text that describes it, and what it describes. This project's own rule.
use Rattle.std.specs.Prelude.{ℕ, List, [], ◌∷◌, ◌++◌, false, None, codes, replicate}
use Rattle.chain_ids.specs.declared.chain.ChainId.{ChainId}
use Rattle.chain_ids.specs.declared.chain.ChainId.TheVariants.{Relay, Para}
use Rattle.locations.specs.declared.grammar.NetworkId.TheVariants.{Polkadot}
use Rattle.locations.specs.declared.relative.Location.{Location}
use Rattle.asset_lists.specs.declared.units.AssetId.TheVariants.{Concrete}
use Rattle.asset_lists.specs.declared.units.Fun.TheVariants as funs
use Rattle.asset_lists.specs.declared.units.Kind.TheVariants as kinds
use Rattle.operands.specs.declared.version.Version.TheVariants.{V4}
use Rattle.trust_tables.specs.declared.rows.AssetRole.TheVariants.{Native, Derivative}
use Rattle.trust_tables.specs.declared.rows.AssetRow.{AssetRow}
use Rattle.network_spec.specs.declared.chain.Balance.{Balance}
use Rattle.network_spec.specs.declared.chain.ChainSpec.{ChainSpec}
use Rattle.network_spec.specs.declared.network.ChannelSpec.{ChannelSpec}
use Rattle.network_spec.specs.declared.network.NetworkSpec.{NetworkSpec}
use Rattle.network_config.specs.Chains.{no_account, default_barriers}

-- a relay chain with a native asset, two parachains with a derivative of it, and channels down and up
abbrev pub document : List ℕ
document =
    codes "{\"chains\":[\n"
    ++ codes "{\"assets\":[{\"id\":\"0\",\"native\":[]}],\n"
    ++ codes " \"rates\":[{\"asset\":\"0\",\"per_second\":\"1000000000\",\"per_mb\":\"0\"}],\n"
    ++ codes " \"accounts\":[{\"who\":\"0x0101010101010101010101010101010101010101010101010101010101010101\",\"asset\":\"0\",\"amount\":\"1000000\"}]},\n"
    ++ codes "{\"para\":2000,\"assets\":[{\"id\":\"1\",\"reserve\":\"relay\"}],\n"
    ++ codes " \"rates\":[{\"asset\":\"1\",\"per_second\":\"1000000000\",\"per_mb\":\"0\"}]},\n"
    ++ codes "{\"para\":2001,\"assets\":[{\"id\":\"1\",\"reserve\":\"relay\"}],\n"
    ++ codes " \"rates\":[{\"asset\":\"1\",\"per_second\":\"1000000000\",\"per_mb\":\"0\"}]}],\n"
    ++ codes "\"channels\":[{\"from\":\"relay\",\"to\":2000},{\"from\":2000,\"to\":\"relay\"},\n"
    ++ codes "{\"from\":\"relay\",\"to\":2001},{\"from\":2001,\"to\":\"relay\"}]}\n"

-- the location of so many parents and no junctions
abbrev pub up : ℕ → Location
up parents = record { parents = parents; interior = [] }

-- a chain with an asset, which pays for its weight, and these balances; all else as it is where a document says nothing of it
abbrev pub chain_with_balances : ChainId → AssetRow → List Balance → ChainSpec
chain_with_balances id row accounts = record {
  chain = id;
  rules = record { unit = record { ref_time = 1000; proof_size = 100 }; max_instructions = 100 };
  limit = record { ref_time = 1000000000000; proof_size = 5242880 };
  max_holding = 64;
  fee_account = no_account;
  barriers = default_barriers;
  rates = record { asset = row.id; per_second = 1000000000; per_mb = 0 } ∷ [];
  assets = row ∷ [];
  accounts = accounts;
  pallets = [];
  queries = [];
  calls = false;
  locks = false;
  pools = [];
}

-- the relay chain has a native asset, of which the account of ones holds a million
abbrev pub relay : ChainSpec
relay = chain_with_balances Relay (record { id = up 0; kind = kinds.Fungible; role = Native [] None })
    (record { who = replicate 32 1; asset = record { id = Concrete (up 0); fun = funs.Fungible 1000000 } } ∷ [])

-- a parachain has it as a derivative, and nobody holds any
abbrev pub parachain : ℕ → ChainSpec
parachain id = chain_with_balances (Para id) (record { id = up 1; kind = kinds.Fungible; role = Derivative Relay }) []

abbrev pub channel : ChainId → ChainId → ChannelSpec
channel from to = record { from = from; channel = record { to = to; version = V4; capacity = 32; max_size = 65536; fee = None } }

-- what the document describes
unfoldable pub described_network : NetworkSpec
described_network = record {
  network = Polkadot;
  chains = relay ∷ parachain 2000 ∷ parachain 2001 ∷ [];
  channels = channel Relay (Para 2000) ∷ channel (Para 2000) Relay ∷ channel Relay (Para 2001) ∷ channel (Para 2001) Relay ∷ [];
}
