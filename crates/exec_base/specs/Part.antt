-- A chain's part of the world, as contracts see it: what it lists, what is where, what it sends, and what is told.
use Rattle.std.specs.Prelude.{ℕ, List, Option}
use Rattle.chain_ids.specs.declared.chain.ChainId.{ChainId}
use Rattle.operands.specs.declared.query.OpenQuery.{OpenQuery}
use Rattle.asset_bundles.specs.Bundles.{Bundle}
use Rattle.asset_bundles.specs.Books.{Burns, Book}
use Rattle.ledgers.specs.Ledgers.{Held, Accounts}
use Rattle.asset_bundles.specs.Traps.{Store}
use Rattle.asset_locks.specs.LockMaps.{LocksAndNotes}
use Rattle.trust_tables.specs.Trust.{listing}
use Rattle.channel_parts.specs.declared.cargo.Cargo.{Cargo}
use Rattle.channel_parts.specs.Channels.{Outgoing}
use Rattle.weight_trader.specs.Purchases.{Line}
use Rattle.exec_base.specs.declared.event.Event.{Event}
use Rattle.exec_base.specs.declared.settings.Settings.{Settings}

-- ---- deliveries

-- the cargo of the message that is being delivered, and the chain that sent it
pub record DeliveredCargo : Type 0 where
  pub sender : ChainId
  pub cargo : Cargo

-- ---- the part
pub record ChainPart : Type 0 where
  -- what the network document says, which no call changes
  pub settings : Settings
  pub open settings use *
  -- amounts
  pub held : Held
  pub traps : Store
  pub lines : List Line
  pub fee_slot : Bundle
  pub fees : Bundle
  pub parked : List Bundle
  pub burns : Burns
  -- for each row, its checking account
  pub checking : List (Option ℕ)
  -- what of the accounts is locked, and what is noted of locks elsewhere
  pub locked : LocksAndNotes
  -- messages
  pub queries : List OpenQuery
  pub channels : List Outgoing
  pub cargo : DeliveredCargo
  -- what is told
  pub events : List Event
  pub pending_events : List Event

-- the ledger and the book over the chain's listing
abbrev pub accounts_of : ChainPart → Accounts
accounts_of p = record { listed = listing p.rows; held = p.held }

abbrev pub book_of : ChainPart → Book
book_of p = record { listed = listing p.rows; burns = p.burns }
