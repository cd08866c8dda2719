-- What entries of a network say of one another: the order of its chains, and holdings that are the same. Source: this project's own rule.
use Rattle.std.specs.Prelude.{ℕ, List, [], ◌∷◌, Bool, true, false, ◌&&◌, nat_lt, bytes_eq}
use Rattle.std.specs.List.{list_any}
use Rattle.std.specs.Ordering.{eq_by_cmp}
use Rattle.chain_ids.specs.declared.chain.ChainId.{ChainId}
use Rattle.chain_ids.specs.declared.chain.ChainId.TheVariants.{Relay, Para}
use Rattle.chain_ids.specs.Chains.{same_chain}
use Rattle.asset_lists.specs.declared.units.Fun.{Fun}
use Rattle.asset_lists.specs.declared.units.Fun.TheVariants.{Fungible, NonFungible}
use Rattle.asset_lists.specs.Units.{asset_id_cmp, instance_cmp}
use Rattle.network_spec.specs.declared.chain.Balance.{Balance}
use Rattle.network_spec.specs.declared.chain.ChainSpec.{ChainSpec}

-- ---- chains

-- the relay chain first, then parachains by their numbers
abbrev pub comes_before : ChainId → ChainId → Bool
comes_before Relay Relay = false
comes_before Relay (Para n) = true
comes_before (Para m) Relay = false
comes_before (Para m) (Para n) = nat_lt m n

-- each chain after the one before it
abbrev pub rises : ChainId → List ChainSpec → Bool
rises before [] = true
rises before (c ∷ cs) = comes_before before c.chain && rises c.chain cs

-- the relay chain first, then parachains rising by number
abbrev pub is_in_order : List ChainSpec → Bool
is_in_order [] = false
is_in_order (c ∷ cs) = same_chain c.chain Relay && rises c.chain cs

abbrev pub has_chain : List ChainSpec → ChainId → Bool
has_chain chains chain = list_any (λ (c : ChainSpec). same_chain c.chain chain) chains

-- ---- balances

-- two entries of one account and one fungible asset, or of one instance, whoever has it
abbrev pub same_fun : List ℕ → Fun → List ℕ → Fun → Bool
same_fun who (Fungible a) other (Fungible b) = bytes_eq who other
same_fun who (NonFungible a) other (NonFungible b) = eq_by_cmp instance_cmp a b
same_fun who (Fungible a) other (NonFungible b) = false
same_fun who (NonFungible a) other (Fungible b) = false

-- an account has an asset once, and an instance is had once
abbrev pub same_holding : Balance → Balance → Bool
same_holding a b = eq_by_cmp asset_id_cmp a.asset.id b.asset.id && same_fun a.who a.asset.fun b.who b.asset.fun
