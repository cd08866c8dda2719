-- The indices of the names of a document's chains, as the code keeps them.
use Rattle.std.specs.Prelude.{◌≡◌, ℕ, List, Option}
use Rattle.std.specs.List.{position_from}
use Rattle.std.specs.Map.{lookup}
use Rattle.chain_ids.specs.declared.chain.ChainId.{ChainId}
use Rattle.chain_ids.specs.Chains.{same_chain}
use Rattle.network_spec.specs.declared.chain.ChainSpec.{ChainSpec}

-- the index of a name
abbrev pub named_place : List (ChainId × ℕ) → ChainId → Option ℕ
named_place places chain = lookup (same_chain chain) places

-- the index at which a name comes first, where the first of the chains is at this one
abbrev pub first_place : ℕ → List ChainSpec → ChainId → Option ℕ
first_place from chains chain = position_from (λ c. same_chain c.chain chain) from chains

-- each name has the index at which it comes first
abbrev pub AreFirstPlaces : List (ChainId × ℕ) → List ChainSpec → Type 0
AreFirstPlaces places chains = (chain : ChainId) → named_place places chain ≡ first_place 0 chains chain
