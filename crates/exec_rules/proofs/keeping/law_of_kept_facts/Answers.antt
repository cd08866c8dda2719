use Rattle.exec_rules.proofs.Lemmas.KeptLaws.{done_kept, spilled_kept, run_kept, executed_by_kept, abandoned_in_kept}
use Rattle.exec_rules.proofs.keeping.law_of_kept_facts.Goals as goal

pub returns-clause-done : goal.returns-clause-done
returns-clause-done g c = done_kept g.K.KeptByCalls.kind g.K.KeptByCalls.fact g.K.KeptByCalls.kept

pub returns-clause-stopped : goal.returns-clause-stopped
returns-clause-stopped g c = spilled_kept g.K.KeptByCalls.kind g.K.KeptByCalls.fact g.K.KeptByCalls.kept

pub returns-clause-reached : goal.returns-clause-reached
returns-clause-reached g c = run_kept g.K.KeptByCalls.kind g.K.KeptByCalls.fact g.K.KeptByCalls.kept

pub returns-clause-executed : goal.returns-clause-executed
returns-clause-executed g c = executed_by_kept g.K.KeptByCalls.kind g.K.KeptByCalls.fact g.K.KeptByCalls.kept

pub returns-clause-abandoned : goal.returns-clause-abandoned
returns-clause-abandoned g c = abandoned_in_kept g.K.KeptByCalls.kind g.K.KeptByCalls.fact g.K.KeptByCalls.kept
