use Rattle.law_authority.proofs.Locking.{no_floor}
use Rattle.law_authority.proofs.Worlds.{exec_free, deliver_free, claim_free, worlds_free}
use Rattle.law_authority.proofs.locks.law_of_sovereign_locks.Goals as goal

pub returns-clause-exec : goal.returns-clause-exec
returns-clause-exec c = exec_free

pub returns-clause-deliver : goal.returns-clause-deliver
returns-clause-deliver c = deliver_free c.law_of_delivered_messages.ensures c.law_of_admitted_messages.ensures c.law_of_calm_messages.ensures

pub returns-clause-claim : goal.returns-clause-claim
returns-clause-claim c = claim_free

pub returns-clause-worlds : goal.returns-clause-worlds
returns-clause-worlds c = worlds_free c.law_of_delivered_messages.ensures c.law_of_admitted_messages.ensures c.law_of_calm_messages.ensures c.law_of_seven_message_shapes.ensures.deliver c.law_of_seven_message_shapes.ensures.after

pub returns-clause-no_floor : goal.returns-clause-no_floor
returns-clause-no_floor c = no_floor
