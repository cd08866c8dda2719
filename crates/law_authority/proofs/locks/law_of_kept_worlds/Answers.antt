use Rattle.law_authority.proofs.Lemmas.WaitingLaws.{nothing_waits}
use Rattle.law_authority.proofs.Worlds.{exec_floors, deliver_floors, claim_floors, worlds_floors, nothing_holds}
use Rattle.law_authority.proofs.locks.law_of_kept_worlds.Goals as goal

pub returns-clause-exec : goal.returns-clause-exec
returns-clause-exec c = exec_floors c.law_of_bundles.ensures.from_lists c.law_of_orderly_instructions.ensures.steers c.law_of_messages.ensures

pub returns-clause-deliver : goal.returns-clause-deliver
returns-clause-deliver c = deliver_floors c.law_of_bundles.ensures.from_lists c.law_of_orderly_instructions.ensures.steers

pub returns-clause-claim : goal.returns-clause-claim
returns-clause-claim c = claim_floors

pub returns-clause-first : goal.returns-clause-first
returns-clause-first c = λ w locked waits. (nothing_holds w locked, nothing_waits w waits)

pub returns-clause-worlds : goal.returns-clause-worlds
returns-clause-worlds c = worlds_floors c.law_of_bundles.ensures.from_lists c.law_of_orderly_instructions.ensures.steers c.law_of_messages.ensures
