-- The chain's part of the world, from what it keeps. This project's own.
use Rattle.chain_state.specs.Fees.{kept_goods}
use Rattle.exec_base.specs.Part.{ChainPart}
use Rattle.chain_queues.specs.Queues.{channels_of}
use Rattle.chain_state.specs.declared.state.ChainState.{ChainState}

abbrev pub part_of : ChainState → ChainPart
part_of s = record {
  settings = s.settings;
  held = s.ledger.held;
  traps = s.traps;
  lines = s.trader;
  fee_slot = s.fee_slot;
  fees = kept_goods s.fees;
  parked = s.parked.items;
  burns = s.book.burns;
  checking = s.checking.items;
  locked = s.locked;
  queries = s.queries.items;
  channels = channels_of s.queues;
  cargo = record { sender = s.sender; cargo = s.cargo };
  events = s.events.items;
  pending_events = s.pending_events.items;
}
