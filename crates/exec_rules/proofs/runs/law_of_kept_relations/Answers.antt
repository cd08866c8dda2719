use Rattle.exec_rules.proofs.Lemmas.KeepingLaws.{reached_hold, reached_keeps}
use Rattle.exec_rules.proofs.runs.law_of_kept_relations.Goals as goal

pub returns-clause-ahead : goal.returns-clause-ahead
returns-clause-ahead g c = λ a b ahead reaches. reached_hold g.K.KeptByRuns.rules g.K.KeptByRuns.orderly g.K.KeptByRuns.kind g.K.KeptByRuns.inside a b reaches ahead

pub returns-clause-reached : goal.returns-clause-reached
returns-clause-reached g c = λ most a b balanced ahead reaches.
    reached_keeps g.K.KeptByRuns.rules g.K.KeptByRuns.orderly g.K.KeptByRuns.kind g.K.KeptByRuns.inside g.K.KeptByRuns.relation g.K.KeptByRuns.kept most a b reaches balanced ahead
