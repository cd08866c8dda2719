-- An account that is left alone by some steps, and that it never has less. This project's own rule.
use Rattle.std.specs.Prelude.{◌≡◌, ◌≢◌, ◌≤◌, ℕ, List, Some, slice_get}
use Rattle.amounts.specs.Amounts.{amount}
use Rattle.asset_lists.specs.Units.{Unit}
use Rattle.chain_ids.specs.declared.chain.ChainId.{ChainId}
use Rattle.trust_tables.specs.Accounts.{sovereign_account}
use Rattle.asset_pools.specs.Spending.{IsPoolAccount}
use Rattle.network_steps.specs.Worlds.{Member, chain_of, World}
use Rattle.network_steps.specs.Steps.{Step, Exec}

-- on this chain no step executes a message for the account, and it is no other chain's account
-- there, nor a pool's
pub record IsLeftAlone (steps : List Step) (chain : Member) (account : List ℕ) : Type 0 where
  pub unnamed : (n : ℕ) (bytes : List ℕ)
      → slice_get steps n ≢ Some (Exec (chain_of chain) account bytes)
  pub no_chains : (sender : ChainId) → account ≢ sovereign_account (chain_of chain) sender
  pub no_pools : IsPoolAccount chain.part.pools account → ⊥

-- each such account has of each asset at least what it had before
abbrev pub NoneAloneLoses : List Step → World → World → Type 0
NoneAloneLoses steps old new =
    (place : ℕ) (before now : Member) → slice_get old place ≡ Some before
    → slice_get new place ≡ Some now
    → (account : List ℕ) → IsLeftAlone steps before account
    → (unit : Unit) → amount before.part.held (account, unit) ≤ amount now.part.held (account, unit)
