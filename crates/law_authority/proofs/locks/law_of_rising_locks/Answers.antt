use Rattle.exec_rules.specs.Admission.{admitted}
use Rattle.law_authority.proofs.LockActs.{done_rises, halted_rises}
use Rattle.law_authority.proofs.LockRuns.{local_rises, local_stopped, message_rises, message_stopped}
use Rattle.law_authority.proofs.locks.law_of_rising_locks.Goals as goal

pub returns-clause-done : goal.returns-clause-done
returns-clause-done c = done_rises

pub returns-clause-halted : goal.returns-clause-halted
returns-clause-halted c = halted_rises

pub returns-clause-caller : goal.returns-clause-caller
returns-clause-caller c = local_rises

pub returns-clause-caller_stopped : goal.returns-clause-caller_stopped
returns-clause-caller_stopped c = local_stopped

pub returns-clause-message : goal.returns-clause-message
returns-clause-message c = λ here there cargo rules origin credit program p shape. message_rises rules origin p (admitted rules origin credit p.queries program)
    (λ a e k. c.law_of_calm_messages.ensures here there cargo rules origin a p k (c.law_of_admitted_messages.ensures here there program cargo rules origin credit p.queries a shape e))

pub returns-clause-message_stopped : goal.returns-clause-message_stopped
returns-clause-message_stopped c = λ here there cargo rules origin credit program p now shape h. message_stopped rules origin p h.0 now
    (λ k. c.law_of_calm_messages.ensures here there cargo rules origin h.0 p k (c.law_of_admitted_messages.ensures here there program cargo rules origin credit p.queries h.0 shape h.1)) h.2
