-- What earlier entries of queries are of, as the code keeps it: a query's number and its chain's number.
use Rattle.std.specs.Prelude.{ℕ, List, Bool, false, not, Option, Some, None}
use Rattle.std.specs.List.{list_any}
use Rattle.std.specs.Option.{option_cmp}
use Rattle.std.specs.declared.cmp.Ordering.{Ordering}
use Rattle.std.specs.Ordering.{nat_cmp, on, then_cmp, eq_by_cmp}
use Rattle.chain_ids.specs.declared.chain.ChainId.{ChainId}
use Rattle.chain_ids.specs.declared.chain.ChainId.TheVariants.{Relay, Para}
use Rattle.network_spec.specs.declared.chain.ChainSpec.{ChainSpec}
use Rattle.network_config.specs.declared.checks.Flaws.{Flaws}
use Rattle.network_config.specs.References.{is_other_chain}

abbrev pub QueryKey : Type 0
QueryKey = ℕ × Option ℕ

abbrev pub query_key_cmp : QueryKey → QueryKey → Ordering
query_key_cmp = then_cmp (on (λ (k : QueryKey). k.0) nat_cmp) (on (λ (k : QueryKey). k.1) (option_cmp nat_cmp))

-- the relay chain has no number
abbrev pub parachain_number : ChainId → Option ℕ
parachain_number Relay = None
parachain_number (Para number) = Some number

abbrev pub query_key_of : ℕ × ChainId → QueryKey
query_key_of query = (query.0, parachain_number query.1)

abbrev pub is_asked : List QueryKey → QueryKey → Bool
is_asked keys key = list_any (λ k. eq_by_cmp query_key_cmp key k) keys

-- the flaws of an entry, beside these queries
abbrev pub query_flaws_beside : List ChainSpec → ChainId → List QueryKey → ℕ × ChainId → Flaws
query_flaws_beside chains here keys query = record { repeated = is_asked keys (query_key_of query); bad = not (is_other_chain chains here query.1); past = false }
