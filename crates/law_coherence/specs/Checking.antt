-- Checking accounts. A chain that issues an asset may keep one for it: a record of a number, which rises with each teleport of the asset away from
-- the chain and falls with each that comes in. It is nobody's account, and holds nothing. This project's own rule.
--
--   before, now    an asset's account before a change and after it, where there is one
--   away           what there is of the asset under way from homes and at its other homes, or a part of it
--   here           what the account's chain has of it everywhere but in the channels
use Rattle.std.specs.Prelude.{◌≡◌, ℕ, ◌+◌, ◌-◌, ◌^◌, ◌<◌, ◌≤◌, if◌then◌else◌, List, [], ◌∷◌, Option, Some, None, slice_get}
use Rattle.trust_tables.specs.declared.rows.AssetRow.{AssetRow}
use Rattle.law_coherence.specs.UniversalAssets.{UniversalAsset, every}
use Rattle.law_coherence.specs.Networks.{Table, is_native_row}
use Rattle.law_coherence.specs.Parts.{Part, WorldView, stock, population}

-- the account of the asset's row, which is at the row's index
abbrev pub account_in : Table → UniversalAsset → List AssetRow → List (Option ℕ) → Option ℕ
account_in t a [] checking = None
account_in t a (row ∷ rows) [] = None
account_in t a (row ∷ rows) (account ∷ checking) = if is_native_row t a row then account else account_in t a rows checking

abbrev pub checking_at : UniversalAsset → Part → Option ℕ
checking_at a p = account_in p.table a p.table.rows p.checking

-- an account, where there is one, with more in it
abbrev pub risen : ℕ → Option ℕ → Option ℕ
risen more None = None
risen more (Some amount) = Some (amount + more)

-- ---- what an account shows

-- it is at least what there is at the other homes, and under way from any home: with what its own chain has, at least all that there is
abbrev pub IsChecked : WorldView → Part → UniversalAsset → ℕ → Type 0
IsChecked w p a amount = population a every w ≤ amount + stock a every p

abbrev pub AllChecked : WorldView → Type 0
AllChecked w = (k : ℕ) (p : Part) (a : UniversalAsset) (amount : ℕ) → slice_get w k ≡ Some p → checking_at a p ≡ Some amount → IsChecked w p a amount

-- it is there where it was at first, and with what its chain has it is no more than then
pub data IsWithinStart (start now : Option ℕ) (here_first here : ℕ) : Type 0 where
  NeverKept : start ≡ None → now ≡ None → IsWithinStart start now here_first here
  KeptWithin : (m n : ℕ) → start ≡ Some m → now ≡ Some n → n + here ≤ m + here_first → IsWithinStart start now here_first here

abbrev pub AllWithin : WorldView → WorldView → Type 0
AllWithin first w = (k : ℕ) (p q : Part) (a : UniversalAsset) → slice_get first k ≡ Some p → slice_get w k ≡ Some q → IsWithinStart (checking_at a p) (checking_at a q) (stock a every p) (stock a every q)

-- even with all that its chain has it doesn't reach the most of its type
abbrev pub AllBounded : WorldView → Type 0
AllBounded w = (k : ℕ) (p : Part) (a : UniversalAsset) (amount : ℕ) → slice_get w k ≡ Some p → checking_at a p ≡ Some amount → amount + stock a every p < 2 ^ 128 - 1

-- ---- what a safe change does to it

-- it rises by no less than what goes away, and by no more than what leaves its chain
pub data IsAccounted (before now : Option ℕ) (away_before away here_before here : ℕ) : Type 0 where
  NoAccount : before ≡ None → now ≡ None → IsAccounted before now away_before away here_before here
  Accounted : (m n : ℕ) → before ≡ Some m → now ≡ Some n → away + m ≤ away_before + n → n + here ≤ m + here_before → IsAccounted before now away_before away here_before here
