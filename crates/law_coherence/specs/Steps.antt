-- The changes of one chain, and of two chains at once, that keep every asset conserved, every derivative backed and every checking account right.
use Rattle.std.specs.Prelude.{◌≡◌, ◌≢◌, ◌+◌, ◌≤◌, List, map}
use Rattle.chain_ids.specs.declared.chain.ChainId.{ChainId}
use Rattle.trust_tables.specs.declared.rows.AssetRow.{AssetRow}
use Rattle.trust_tables.specs.declared.rows.AssetRole.TheVariants.{Derivative}
use Rattle.trust_tables.specs.Accounts.{IsChain}
use Rattle.law_coherence.specs.UniversalAssets.{UniversalAsset, Choice, every}
use Rattle.law_coherence.specs.Networks.{Table, IsIn, asset_of_row}
use Rattle.law_coherence.specs.Parts.{Part, WorldView, chain_of_part, Count, debt, stock, held_for, flight, deposits, withdrawals, home, supply, alive, population, Backed, KeepsCover, NoCoverShrinks}
use Rattle.law_coherence.specs.Checking.{checking_at, AllChecked, AllWithin, IsAccounted}

-- the tables, which no step changes
abbrev pub tables_of : WorldView → List Table
tables_of w = map (λ (p : Part). p.table) w

-- ---- what a chain may do to what it owes and keeps, but for its dealings with one chain
pub record KeepsBut (but : ChainId → Type 0) (p q : Part) : Type 0 where
  pub table : q.table ≡ p.table
  -- what it owes to a reserve doesn't rise
  pub owing : (row : AssetRow) (chain : ChainId) (count : Count) → IsIn p.table.rows row → row.role ≡ Derivative chain → (but chain → ⊥)
      → debt (asset_of_row p.table row) count q + withdrawals chain (asset_of_row p.table row) count q ≤ debt (asset_of_row p.table row) count p + withdrawals chain (asset_of_row p.table row) count p
  -- what it keeps for a chain falls by no more than the deposits under way to it
  pub covering : (chain : ChainId) (a : UniversalAsset) (count : Count) → IsChain chain → chain ≢ chain_of_part p → (but chain → ⊥)
      → deposits chain a count q + held_for chain a count p ≤ deposits chain a count p + held_for chain a count q

abbrev pub none_but : ChainId → Type 0
none_but chain = ⊥

abbrev pub KeepsBacking : Part → Part → Type 0
KeepsBacking p q = KeepsBut none_but p q

-- one chain's change that is safe
pub record IsSafe (p q : Part) : Type 0 where
  pub keeps : KeepsBacking p q
  pub owned : (a : UniversalAsset) → home a q ≡ home a p
  pub rare : (a : UniversalAsset) (choice : Choice) → alive a choice q ≤ alive a choice p
  -- a checking account rises with what is teleported away, and it and the stock are together no more than before
  pub accounted : (a : UniversalAsset) → IsAccounted (checking_at a p) (checking_at a q) (flight a every p) (flight a every q) (stock a every p) (stock a every q)

-- the second chain's checking accounts fall by no more than what leaves the first and the channels
abbrev pub KeepsChecking : (p p' q q' : Part) → Type 0
KeepsChecking p p' q q' = (a : UniversalAsset) → IsAccounted (checking_at a q) (checking_at a q') (flight a every q + alive a every p) (flight a every q' + alive a every p') (stock a every q) (stock a every q')

-- a change of two chains that is safe
pub record IsExchange (p p' q q' : Part) : Type 0 where
  pub first : KeepsBut (λ chain. chain ≡ chain_of_part q) p p'
  pub second : KeepsBut (λ chain. chain ≡ chain_of_part p) q q'
  -- what each owes the other rises by no more than what the other keeps for it
  pub there : KeepsCover p p' q q'
  pub back : KeepsCover q q' p p'
  pub owned : (a : UniversalAsset) → home a p' + home a q' ≡ home a p + home a q
  pub rare : (a : UniversalAsset) (choice : Choice) → alive a choice p' + alive a choice q' ≤ alive a choice p + alive a choice q
  pub accounted : KeepsChecking p p' q q'
  pub accounted_back : KeepsChecking q q' p p'

-- ---- the worlds
pub record SafeStep (w v : WorldView) : Type 0 where
  pub tables : tables_of v ≡ tables_of w
  pub supplied : (a : UniversalAsset) → supply a v ≡ supply a w
  pub rare : (a : UniversalAsset) (choice : Choice) → population a choice v ≤ population a choice w
  pub cover : NoCoverShrinks w v
  pub backed : Backed w → Backed v
  pub checked : AllChecked w → AllChecked v
  pub within : (first : WorldView) → AllWithin first w → AllWithin first v
