use Rattle.std.proofs.Common.{refl}
use Rattle.exec_rules.specs.Run.{run, still_to_run}
use Rattle.exec_rules.specs.Instructions.{xcm}
use Rattle.exec_rules.specs.Admission.{admitted}
use Rattle.exec_rules.specs.Execution.{first_stage, last_machine}
use Rattle.exec_rules.proofs.Weighed.{admitted_weighed}
use Rattle.exec_rules.proofs.Ending.{first_balanced, last_accounts, refused_changes_nothing, ends_settled, ends_trapped, ends_untrapped}
use Rattle.exec_rules.proofs.Ready.{admitted_forwardable, first_steady, first_ahead}
use Rattle.exec_rules.proofs.Resting.{finished_rests}
use Rattle.exec_rules.proofs.admission_laws.law_of_admission.Goals as goal

pub returns-clause-weighed : goal.returns-clause-weighed
returns-clause-weighed c = λ rules origin credit queries program a few e. admitted_weighed rules origin credit queries program few a e

pub returns-clause-balanced : goal.returns-clause-balanced
returns-clause-balanced c = first_balanced

pub returns-clause-accounts : goal.returns-clause-accounts
returns-clause-accounts c = λ rules origin a p g w r.
    c.law_of_orderly_runs.ensures.accounts xcm a.weight (first_stage rules origin a p) g c.law_of_orderly_instructions.ensures.steers r (first_balanced rules origin a p w)

pub returns-clause-at_end : goal.returns-clause-at_end
returns-clause-at_end c = λ rules origin a p w.
    let g = first_stage rules origin a p in
    last_accounts a.weight (last_machine rules origin a p) c.law_of_orderly_instructions.ensures.steers
    (c.law_of_orderly_runs.ensures.accounts xcm a.weight g (run xcm g) c.law_of_orderly_instructions.ensures.steers (still_to_run g, refl) (first_balanced rules origin a p w))

pub returns-clause-forwardable : goal.returns-clause-forwardable
returns-clause-forwardable c = λ rules origin credit queries program a f e. admitted_forwardable rules origin credit queries program f a e

pub returns-clause-ready : goal.returns-clause-ready
returns-clause-ready c = λ rules origin a p part place x behind m w f rest reaches.
    c.law_of_readiness.ensures.ready a.weight (first_stage rules origin a p) part place x behind m (first_balanced rules origin a p w)
    (first_ahead rules origin a p (c.law_of_readiness.ensures.sound a.program f)) (first_steady rules origin a p rest) reaches

pub returns-clause-rests : goal.returns-clause-rests
returns-clause-rests c = λ rules origin a p w rest.
    let g = first_stage rules origin a p in
    finished_rests c.law_of_readiness.ensures.done (last_machine rules origin a p)
    (c.law_of_readiness.ensures.reached a.weight g (run xcm g) (first_balanced rules origin a p w) (still_to_run g, refl) (first_steady rules origin a p rest))

pub returns-clause-ends : goal.returns-clause-ends
returns-clause-ends c = λ rules origin a p. c.law_of_orderly_runs.ensures.ends xcm (first_stage rules origin a p) c.law_of_orderly_instructions.ensures.steers

pub returns-clause-refused : goal.returns-clause-refused
returns-clause-refused c = λ rules origin credit program outcome p e. refused_changes_nothing rules origin (admitted rules origin credit p.queries program) outcome p e

pub returns-clause-settled : goal.returns-clause-settled
returns-clause-settled c = ends_settled

pub returns-clause-trapped : goal.returns-clause-trapped
returns-clause-trapped c = ends_trapped

pub returns-clause-untrapped : goal.returns-clause-untrapped
returns-clause-untrapped c = ends_untrapped
