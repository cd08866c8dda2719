use Rattle.barriers.proofs.Purchases.{paid-some}
use Rattle.barriers.proofs.barrier.pays.Goals as goal

pub returns-in-Some-clause-answer : goal.returns-in-Some-clause-answer
returns-in-Some-clause-answer c = paid-some c.args.weight c.items.result.now c.args.program.now c.in-Some.index c.items.ensures (rw c.in-Some.is at c.purchase.ensures.place)
