-- How a proof tells worlds apart. A reader may skip this file.
use Rattle.std.proofs.Common.{ℕ, List, Option, refl}
use Rattle.std.specs.FinMap as map
use Rattle.std.specs.Coded.{Coded, code_by, coded_ℕ, coded_list, coded×, coded_option}
use Rattle.chain_ids.specs.declared.chain.ChainId.{ChainId}
use Rattle.chain_ids.specs.contracts.chain.ChainId.{the_row as chain}
use Rattle.asset_lists.specs.contracts.units.AssetId.{the_row as asset_id}
use Rattle.asset_lists.specs.contracts.units.Instance.{the_row as instance}
use Rattle.operands.specs.declared.weight.Weight.{Weight}
use Rattle.operands.specs.contracts.weight.Weight.{the_row as weight}
use Rattle.operands.specs.declared.query.OpenQuery.{OpenQuery}
use Rattle.operands.specs.contracts.query.OpenQuery.{the_row as query}
use Rattle.xcm_program.specs.declared.instruction.Instruction.{Instruction}
use Rattle.xcm_program.specs.contracts.instruction.Instruction.{the_row as instruction}
use Rattle.asset_bundles.specs.Bundles.{Bundle}
use Rattle.asset_bundles.specs.Books.{Burns}
use Rattle.asset_bundles.specs.BookCode.{listed_code}
use Rattle.asset_bundles.specs.contracts.book.Cause.{the_row as cause}
use Rattle.ledgers.specs.Ledgers.{Held}
use Rattle.ledgers.specs.LedgerCode.{held_code}
use Rattle.asset_bundles.specs.Traps.{Store}
use Rattle.asset_bundles.specs.StoreCode.{store_code}
use Rattle.asset_locks.specs.LockMaps.{LocksAndNotes}
use Rattle.asset_locks.specs.LockCode.{locks_and_notes_code as locks_code}
use Rattle.weight_trader.specs.declared.rate.Rate.{Rate}
use Rattle.weight_trader.specs.contracts.rate.Rate.{the_row as rate}
use Rattle.weight_trader.specs.Purchases.{Line}
use Rattle.channel_parts.specs.declared.cargo.Cargo.{Cargo}
use Rattle.channel_parts.specs.contracts.cargo.Cargo.{the_row as cargo}
use Rattle.channel_parts.specs.declared.channel.Channel.{Channel}
use Rattle.channel_parts.specs.contracts.channel.Channel.{the_row as channel}
use Rattle.channel_parts.specs.Channels.{Waiting, Outgoing}
use Rattle.exec_base.specs.declared.event.Event.{Event}
use Rattle.exec_base.specs.contracts.event.Event.{the_row as event}
use Rattle.exec_base.specs.declared.settings.Settings.{Settings}
use Rattle.exec_base.specs.contracts.settings.Settings.{the_row as settings}
use Rattle.exec_base.specs.Part.{DeliveredCargo, ChainPart}
use Rattle.exec_rules.specs.declared.rules.ChainRules.{ChainRules}
use Rattle.exec_rules.specs.contracts.rules.ChainRules.{the_row as rules}
use Rattle.network_steps.specs.Worlds.{World}

abbrev bundle_code : Coded Bundle
bundle_code = map.code (coded× asset_id.coded (coded_option instance.coded)) coded_ℕ

abbrev burns_code : Coded Burns
burns_code = map.code (coded× listed_code cause.coded) coded_ℕ

abbrev line_code : Coded Line
line_code = code_by (Rate × (Weight × ℕ)) (coded× rate.coded (coded× weight.coded coded_ℕ)) (λ l. (l.rate, (l.bought, l.paid))) (λ p. record { rate = p.0; bought = p.1.0; paid = p.1.1 }) (λ _. refl)

abbrev waiting_code : Coded Waiting
waiting_code = code_by (ℕ × (List Instruction × Cargo)) (coded× coded_ℕ (coded× (coded_list instruction.coded) cargo.coded)) (λ x. (x.number, (x.program, x.cargo)))
    (λ p. record { number = p.0; program = p.1.0; cargo = p.1.1 }) (λ _. refl)

abbrev outgoing_code : Coded Outgoing
outgoing_code = code_by (Channel × (ℕ × List Waiting)) (coded× channel.coded (coded× coded_ℕ (coded_list waiting_code))) (λ c. (c.channel, (c.next, c.queue)))
    (λ p. record { channel = p.0; next = p.1.0; queue = p.1.1 }) (λ _. refl)

abbrev taken_code : Coded DeliveredCargo
taken_code = code_by (ChainId × Cargo) (coded× chain.coded cargo.coded) (λ t. (t.sender, t.cargo)) (λ p. record { sender = p.0; cargo = p.1 }) (λ _. refl)

-- what is at a chain, and what it sends and tells
abbrev Stands : Type 0
Stands = Held × (Store × (List Line × (Bundle × (Bundle × (List Bundle × (Burns × List (Option ℕ)))))))

abbrev Sends : Type 0
Sends = LocksAndNotes × (List OpenQuery × (List Outgoing × (DeliveredCargo × (List Event × List Event))))

abbrev stands_code : Coded Stands
stands_code = coded× held_code (coded× store_code (coded× (coded_list line_code) (coded× bundle_code (coded× bundle_code (coded× (coded_list bundle_code) (coded× burns_code (coded_list (coded_option coded_ℕ))))))))

abbrev sends_code : Coded Sends
sends_code = coded× locks_code (coded× (coded_list query.coded) (coded× (coded_list outgoing_code) (coded× taken_code (coded× (coded_list event.coded) (coded_list event.coded)))))

abbrev part_code : Coded ChainPart
part_code = code_by (Settings × (Stands × Sends)) (coded× settings.coded (coded× stands_code sends_code))
    (λ p. (p.settings, ((p.held, (p.traps, (p.lines, (p.fee_slot, (p.fees, (p.parked, (p.burns, p.checking))))))), (p.locked, (p.queries, (p.channels, (p.cargo, (p.events, p.pending_events))))))))
    (λ t. record {
      settings = t.0;
      held = t.1.0.0;
      traps = t.1.0.1.0;
      lines = t.1.0.1.1.0;
      fee_slot = t.1.0.1.1.1.0;
      fees = t.1.0.1.1.1.1.0;
      parked = t.1.0.1.1.1.1.1.0;
      burns = t.1.0.1.1.1.1.1.1.0;
      checking = t.1.0.1.1.1.1.1.1.1;
      locked = t.1.1.0;
      queries = t.1.1.1.0;
      channels = t.1.1.1.1.0;
      cargo = t.1.1.1.1.1.0;
      events = t.1.1.1.1.1.1.0;
      pending_events = t.1.1.1.1.1.1.1;
    }) (λ _. refl)

abbrev pub world_code : Coded World
world_code = coded_list (code_by (ChainRules × ChainPart) (coded× rules.coded part_code) (λ m. (m.rules, m.part)) (λ p. record { rules = p.0; part = p.1 }) (λ _. refl))
