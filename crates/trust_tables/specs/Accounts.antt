-- The accounts that locations have on a chain. An account is 32 bytes.
-- Source: the location converters of Polkadot's runtimes (ChildParachainConvertsVia, SiblingParachainConvertsVia,
-- ParentIsPreset, AccountId32Aliases).
use Rattle.std.specs.Prelude.{◌≡◌, ℕ, zero, suc, ◌<◌, ◌^◌, ◌⊎◌, ⊤, Bool, true, if◌then◌else◌, List, [], ◌∷◌, ◌++◌, replicate, codes, Option, Some, None}
use Rattle.std.specs.Int.{to_le_bytes, w32}
use Rattle.std.specs.Ordering.{eq_by_cmp}
use Rattle.locations.specs.declared.grammar.NetworkId.{NetworkId}
use Rattle.locations.specs.declared.grammar.Junction.{Junction}
use Rattle.locations.specs.declared.grammar.Junction.TheVariants.{Parachain, AccountId32}
use Rattle.locations.specs.declared.relative.Location.{Location}
use Rattle.locations.specs.Order.{network_cmp}
use Rattle.chain_ids.specs.declared.chain.ChainId.{ChainId}
use Rattle.chain_ids.specs.declared.chain.ChainId.TheVariants.{Relay, Para}
use Rattle.trust_tables.specs.declared.chains.Site.{Site}

-- a label of four letters, a parachain's number in four bytes from the lowest on, and zeros
abbrev pub labelled : List ℕ → ℕ → List ℕ
labelled label number = label ++ to_le_bytes w32 number ++ replicate 24 0

-- the account of a parachain on the relay chain
abbrev pub child_account : ℕ → List ℕ
child_account number = labelled (codes "para") number

-- the account of a parachain on another parachain
abbrev pub sibling_account : ℕ → List ℕ
sibling_account number = labelled (codes "sibl") number

-- the account of the relay chain on a parachain
abbrev pub parent_account : List ℕ
parent_account = codes "Parent" ++ replicate 26 0

-- a chain as a program can name it
abbrev pub IsChain : ChainId → Type 0
IsChain Relay = ⊤
IsChain (Para number) = number < 2 ^ 32

-- the account on the first chain of the second, another one
abbrev pub sovereign_account : ChainId → ChainId → List ℕ
sovereign_account here Relay = parent_account
sovereign_account Relay (Para number) = child_account number
sovereign_account (Para own) (Para number) = sibling_account number

-- an account of a whole chain
abbrev pub IsSovereign : List ℕ → Type 0
IsSovereign account =
    ((number : ℕ) × (number < 2 ^ 32) × (account ≡ child_account number))
    ⊎ ((number : ℕ) × (number < 2 ^ 32) × (account ≡ sibling_account number))
    ⊎ (account ≡ parent_account)

-- an account that names no network is of every network, and else of the one that it names
abbrev pub is_of_network : NetworkId → Option NetworkId → Bool
is_of_network network None = true
is_of_network network (Some named) = eq_by_cmp network_cmp named network

-- only the relay chain has parachains below it, and only a parachain has a parent and siblings
abbrev pub child_at : ChainId → ℕ → Option (List ℕ)
child_at Relay number = Some (child_account number)
child_at (Para own) number = None

abbrev pub sibling_at : ChainId → ℕ → Option (List ℕ)
sibling_at Relay number = None
sibling_at (Para own) number = Some (sibling_account number)

abbrev pub parent_at : ChainId → Option (List ℕ)
parent_at Relay = None
parent_at (Para own) = Some parent_account

-- the account of the location that many parents up and these junctions down
abbrev pub account_at : Site → ℕ → List Junction → Option (List ℕ)
account_at site zero (AccountId32 named id ∷ []) = if is_of_network site.network named then Some id else None
account_at site zero (Parachain number ∷ []) = child_at site.chain number
account_at site (suc zero) (Parachain number ∷ []) = sibling_at site.chain number
account_at site (suc zero) [] = parent_at site.chain
account_at site _ _ = None

abbrev pub account_of : Location → Site → Option (List ℕ)
account_of l site = account_at site l.parents l.interior
