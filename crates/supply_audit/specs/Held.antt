-- What is known of an account that one chain has at another: what it has, row by row of the latter's list. Chains and rows are numbered from 0.
-- This project's own rule.
use Rattle.std.specs.Prelude.{◌≡◌, ℕ, get_or, IsTrue, List, Option, slice_get}
use Rattle.exec_base.specs.Part.{ChainPart}
use Rattle.trust_tables.specs.Accounts.{sovereign_account}
use Rattle.supply_audit.specs.declared.figures.Figure.TheVariants.{Account}
use Rattle.supply_audit.specs.declared.last_held.LastHeld.{LastHeld}
use Rattle.supply_audit.specs.RowPlaces.{share_in}

-- what the account has at a chain, row by row
abbrev pub AreHeldBy : List ℕ → Option ChainPart → List ℕ → Type 0
AreHeldBy who part amounts = (row : ℕ) → get_or amounts row 0 ≡ share_in (Account who) row part

-- what is known is so
abbrev pub IsHeldRight : LastHeld → List ChainPart → Type 0
IsHeldRight found parts =
    IsTrue found.known
    → AreHeldBy (sovereign_account found.there found.here) (slice_get parts found.at) found.amounts.items
