-- Whose amounts a step may lower.
use Rattle.std.specs.Prelude.{◌≡◌, ℕ, ◌<◌, List, Some, slice_get}
use Rattle.amounts.specs.Amounts.{amount}
use Rattle.asset_lists.specs.Units.{Unit}
use Rattle.chain_ids.specs.declared.chain.ChainId.{ChainId}
use Rattle.trust_tables.specs.Accounts.{sovereign_account}
use Rattle.law_coherence.specs.Parts.{Part, WorldView, chain_of_part}

-- the account of an execution on a chain, or the sender of a delivery
pub data Acting : Type 0 where
  Execution : ChainId → List ℕ → Acting
  Delivery : (sender receiver : ChainId) → Acting

abbrev pub MayFall : Acting → ChainId → List ℕ → Type 0
MayFall (Execution chain caller) here who = (here ≡ chain) × (who ≡ caller)
MayFall (Delivery sender receiver) here who = (here ≡ receiver) × (who ≡ sovereign_account receiver sender)

-- an account that has less of some unit than before is one that the step speaks for
abbrev pub Authority : WorldView → Acting → WorldView → Type 0
Authority old step new = (k : ℕ) (p q : Part) (who : List ℕ) (unit : Unit) → slice_get old k ≡ Some p → slice_get new k ≡ Some q
    → amount q.held (who, unit) < amount p.held (who, unit) → MayFall step (chain_of_part p) who
