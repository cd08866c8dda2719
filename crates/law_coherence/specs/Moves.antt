-- The moves that each instruction and each delivery is made of, and that all of them are safe.
use Rattle.std.specs.Prelude.{◌≡◌, ◌≢◌, ℕ, ◌+◌, ◌≤◌, true, false, if◌then◌else◌, Some}
use Rattle.chain_ids.specs.declared.chain.ChainId.{ChainId}
use Rattle.trust_tables.specs.declared.rows.AssetRow.{AssetRow}
use Rattle.trust_tables.specs.declared.rows.AssetRole.TheVariants.{Derivative}
use Rattle.trust_tables.specs.Accounts.{IsChain}
use Rattle.chain_ids.specs.Chains.{same_chain}
use Rattle.law_coherence.specs.UniversalAssets.{UniversalAsset, Choice, every}
use Rattle.law_coherence.specs.Networks.{IsIn, asset_of_row, is_home}
use Rattle.law_coherence.specs.Parts.{Cargo, Part, chain_of_part, Count, choice_of, stock, held_for, burned, teleported, deposited_amount, withdrawn_amount}
use Rattle.law_coherence.specs.Channels.{has_channel, cargo_pushed, front, cargo_popped}
use Rattle.law_coherence.specs.Checking.{checking_at, risen}

-- as much as the message has for a chain
abbrev pub for_chain : ChainId → ChainId → ℕ → ℕ
for_chain to chain n = if same_chain to chain then n else 0

-- ---- (a) a move inside one chain: what isn't there any more is in the book
pub record IsInternal (p q : Part) : Type 0 where
  pub table : q.table ≡ p.table
  pub checking : q.checking ≡ p.checking
  pub outgoing : q.outgoing ≡ p.outgoing
  pub kept : (a : UniversalAsset) → stock a every q + burned a q ≡ stock a every p + burned a p
  pub less : (a : UniversalAsset) (choice : Choice) → stock a choice q ≤ stock a choice p
  pub covered : (chain : ChainId) (a : UniversalAsset) (count : Count) → IsChain chain → chain ≢ chain_of_part p → held_for chain a count p ≤ held_for chain a count q

-- ---- (b) a message is sent: a teleport or a withdrawal leaves the stock, a deposit goes to the account of the chain, and a teleport is put into
-- the checking account
pub record IsSent (to : ChainId) (cargo : Cargo) (p q : Part) : Type 0 where
  pub table : q.table ≡ p.table
  pub linked : has_channel to p.outgoing ≡ true
  pub outgoing : q.outgoing ≡ cargo_pushed to cargo p.outgoing
  pub kept : (a : UniversalAsset) → stock a every q + burned a q + (teleported p.table a every cargo + withdrawn_amount p.table a every cargo) ≡ stock a every p + burned a p
  pub less : (a : UniversalAsset) (choice : Choice) → stock a choice q + (teleported p.table a choice cargo + withdrawn_amount p.table a choice cargo) ≤ stock a choice p
  pub covered : (chain : ChainId) (a : UniversalAsset) (count : Count) → IsChain chain → chain ≢ chain_of_part p
      → held_for chain a count p + for_chain to chain (deposited_amount p.table a (choice_of count) cargo) ≤ held_for chain a count q
  pub raised : (a : UniversalAsset) → checking_at a q ≡ risen (teleported p.table a every cargo) (checking_at a p)
  -- what is at home here doesn't leave as a withdrawal
  pub foreign : (a : UniversalAsset) → is_home a p.table ≡ true → withdrawn_amount p.table a every cargo ≡ 0

-- ---- (d) a message is lost: a teleport is burned at its sender, any other cargo just ends
pub record IsLost (to : ChainId) (cargo : Cargo) (p q : Part) : Type 0 where
  pub table : q.table ≡ p.table
  pub checking : q.checking ≡ p.checking
  pub first : front to p.outgoing ≡ Some cargo
  pub outgoing : q.outgoing ≡ cargo_popped to p.outgoing
  pub burns_now : (a : UniversalAsset) → burned a q ≡ burned a p + teleported p.table a every cargo
  pub stock_same : (a : UniversalAsset) (choice : Choice) → stock a choice q ≡ stock a choice p
  pub held_same : (chain : ChainId) (a : UniversalAsset) (count : Count) → held_for chain a count q ≡ held_for chain a count p
  -- what is a derivative here isn't teleported from here
  pub native : (row : AssetRow) (chain : ChainId) (choice : Choice) → IsIn p.table.rows row → row.role ≡ Derivative chain → teleported p.table (asset_of_row p.table row) choice cargo ≡ 0

-- ---- (c) a message is received: its sender no longer has it under way, and the receiver has it. A teleport and a
-- deposit come to the stock, and a withdrawal leaves the account of its sender. A teleport is taken out of the checking account
pub record IsReceived (cargo : Cargo) (p p' q q' : Part) : Type 0 where
  pub table : p'.table ≡ p.table
  pub checking : p'.checking ≡ p.checking
  pub first : front (chain_of_part q) p.outgoing ≡ Some cargo
  pub outgoing : p'.outgoing ≡ cargo_popped (chain_of_part q) p.outgoing
  pub burns_now : (a : UniversalAsset) → burned a p' ≡ burned a p
  pub stock_same : (a : UniversalAsset) (choice : Choice) → stock a choice p' ≡ stock a choice p
  pub held_same : (chain : ChainId) (a : UniversalAsset) (count : Count) → held_for chain a count p' ≡ held_for chain a count p
  pub there : q'.table ≡ q.table
  pub there_outgoing : q'.outgoing ≡ q.outgoing
  pub kept : (a : UniversalAsset) → stock a every q' + burned a q' ≡ stock a every q + burned a q + (teleported p.table a every cargo + deposited_amount p.table a every cargo)
  pub more : (a : UniversalAsset) (choice : Choice) → stock a choice q' ≤ stock a choice q + (teleported p.table a choice cargo + deposited_amount p.table a choice cargo)
  pub covered : (chain : ChainId) (a : UniversalAsset) (count : Count) → IsChain chain → chain ≢ chain_of_part q
      → held_for chain a count q ≤ held_for chain a count q' + for_chain (chain_of_part p) chain (withdrawn_amount p.table a (choice_of count) cargo)
  pub lowered : (a : UniversalAsset) → checking_at a q ≡ risen (teleported p.table a every cargo) (checking_at a q')

-- what is teleported is at home at both ends, and what is deposited is a derivative of the sender there
pub record IsTrusted (cargo : Cargo) (p q : Part) : Type 0 where
  pub home_here : (a : UniversalAsset) (choice : Choice) → is_home a p.table ≡ false → teleported p.table a choice cargo ≡ 0
  pub home_there : (a : UniversalAsset) → is_home a q.table ≡ false → teleported p.table a every cargo ≡ 0
  pub foreign_there : (a : UniversalAsset) (choice : Choice) → is_home a q.table ≡ true → deposited_amount p.table a choice cargo ≡ 0
  pub native_there : (row : AssetRow) (chain : ChainId) (choice : Choice) → IsIn q.table.rows row → row.role ≡ Derivative chain → teleported p.table (asset_of_row q.table row) choice cargo ≡ 0
  pub owed_here : (row : AssetRow) (chain : ChainId) (choice : Choice) → IsIn q.table.rows row → row.role ≡ Derivative chain → chain ≢ chain_of_part p → deposited_amount p.table (asset_of_row q.table row) choice cargo ≡ 0
