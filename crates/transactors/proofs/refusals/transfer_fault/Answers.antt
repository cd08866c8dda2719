use Rattle.std.proofs.Common.{sym, ◌∙◌}
use Rattle.ledgers.specs.declared.faults.DepositFault.{DepositFault}
use Rattle.transactors.proofs.Moving.{giver_there, giver_has, no_taker, both_free, taker_refuses, some_items}
use Rattle.transactors.proofs.refusals.transfer_fault.Goals as goal

pub unreachable-requires : goal.unreachable-requires
unreachable-requires g c =
    giver_there (g.T.Transactor.rows c.args.t.now) (g.T.Transactor.floors c.args.t.now) c.args.ledger.now c.args.list.now c.args.from c.args.to
    c.withdraw_fault.result c.withdraw_fault.ensures.fault c.in_default.not-Some
    (λ none. some_items c.items.result.now (sym c.is_empty.ensures ∙ c.if-is_empty.false) (c.items.ensures.value ∙ none)) c.in_default-from.is

pub returns-in_default-to : goal.returns-in_default-to
returns-in_default-to g c = record {
  fault = no_taker (g.T.Transactor.rows c.args.t.now) (g.T.Transactor.floors c.args.t.now) c.args.ledger.now c.args.list.now c.args.from c.args.to
      c.withdraw_fault.result c.withdraw_fault.ensures.fault c.in_default.not-Some
      (λ none. some_items c.items.result.now (sym c.is_empty.ensures ∙ c.if-is_empty.false) (c.items.ensures.value ∙ none)) c.in_default-to.is;
}

pub transfer_overflow-requires : goal.transfer_overflow-requires
transfer_overflow-requires g c = record {
  enough = giver_has (g.T.Transactor.rows c.args.t.now) (g.T.Transactor.floors c.args.t.now) c.args.ledger.now c.args.list.now c.args.from c.args.to
      c.withdraw_fault.result c.withdraw_fault.ensures.fault c.in_default.not-Some
      c.in-Some-from.giver c.in-Some-from.is;
}

pub returns-in-None : goal.returns-in-None
returns-in-None g c = record {
  fault = both_free (g.T.Transactor.rows c.args.t.now) (g.T.Transactor.floors c.args.t.now) c.args.ledger.now c.args.list.now c.args.from c.args.to
      c.withdraw_fault.result c.withdraw_fault.ensures.fault c.in_default.not-Some
      c.in-Some-from.giver c.in-Some-to.taker c.in-Some-from.is c.in-Some-to.is c.in-None.ensures.overflow;
}

pub returns-in-Some-transfer_overflow : goal.returns-in-Some-transfer_overflow
returns-in-Some-transfer_overflow g c = record {
  fault = taker_refuses (g.T.Transactor.rows c.args.t.now) (g.T.Transactor.floors c.args.t.now) c.args.ledger.now c.args.list.now c.args.from c.args.to
      c.withdraw_fault.result c.withdraw_fault.ensures.fault c.in_default.not-Some
      c.in-Some-from.giver c.in-Some-to.taker c.in-Some-from.is c.in-Some-to.is
      (DepositFault.Overflow c.in-Some-transfer_overflow.field-0) c.in-Some-transfer_overflow.ensures.overflow;
}
