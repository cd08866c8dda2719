use Rattle.std.proofs.Common.{sym, ◌∙◌, arith}
use Rattle.chain_queues.proofs.Places.{too_large, full, taken}
use Rattle.chain_queues.proofs.queues.Queue.check.Goals as goal

pub returns-then-self-size-clause-refused : goal.returns-then-self-size-clause-refused
returns-then-self-size-clause-refused c = too_large c.args.size c.args.self.now c.if-self-size.true

pub returns-then-is_full-clause-refused : goal.returns-then-is_full-clause-refused
returns-then-is_full-clause-refused c = full c.args.size c.args.self.now (omega (arith, c.if-self-size.false)) (sym c.is_full.ensures ∙ c.if-is_full.true)

pub returns-clause-taken : goal.returns-clause-taken
returns-clause-taken c = taken c.args.size c.args.self.now (omega (arith, c.if-self-size.false)) (sym c.is_full.ensures ∙ c.if-is_full.false)
