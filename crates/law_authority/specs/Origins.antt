-- For whom an instruction speaks: the account of the origin register, if it has one. Source: xcm-executor's documentation of origins.
use Rattle.std.specs.Prelude.{◌≡◌, ◌≤◌, ⊤, ℕ, List, Option, Some, None, option_and_then}
use Rattle.amounts.specs.Amounts.{amount}
use Rattle.asset_bundles.specs.Books.{Burn, Burns}
use Rattle.locations.specs.declared.grammar.Junction.{Junction}
use Rattle.locations.specs.declared.relative.Location.{Location}
use Rattle.trust_tables.specs.declared.chains.Site.{Site}
use Rattle.trust_tables.specs.Accounts.{account_of}
use Rattle.asset_pools.specs.Spending.{IsSpeaker, Spends}
use Rattle.exec_base.specs.Part.{ChainPart}
use Rattle.exec_rules.specs.Machine.{Machine}
use Rattle.exec_rules.specs.Origins.{descended}

-- the account of an origin on a chain
abbrev pub speaker_at : Site → Option Location → Option (List ℕ)
speaker_at site origin = option_and_then (λ (who : Location). account_of who site) origin

abbrev pub speaker_of : Machine → Option (List ℕ)
speaker_of m = speaker_at m.part.site m.regs.origin

-- no total of a book of burns is less than before, of whatever asset and cause
abbrev pub KeepsBurns : Burns → Burns → Type 0
KeepsBurns old new = (burn : Burn) → amount old burn ≤ amount new burn

-- what changes a chain: its settings stay, no account has less of any unit but those that may and
-- those of its pools, no pool's product falls but that of a pool whose account may, and what was
-- burned stays burned
pub record SpendsOf (may : List ℕ → Type 0) (old new : ChainPart) : Type 0 where
  pub settings : new.settings ≡ old.settings
  pub spends : Spends may old.pools old.held new.held
  pub burns : KeepsBurns old.burns new.burns

-- besides pools this account alone may have less, or none at all
abbrev pub SpendsOnly : Option (List ℕ) → ChainPart → ChainPart → Type 0
SpendsOnly speaker old new = SpendsOf (IsSpeaker speaker) old new

-- an origin register that is empty, or holds a location that begins with this one
abbrev pub IsAtOrBelow : Location → Option Location → Type 0
IsAtOrBelow first None = ⊤
IsAtOrBelow first (Some who) = (path : List Junction) × (who ≡ descended first path)
