use Rattle.exec_rules.proofs.Lemmas.BalanceLaws.{affordable}
use Rattle.exec_rules.proofs.Lemmas.RunLaws.{next_left, run_ends, run_from, reached_balanced, balanced_accounts}
use Rattle.exec_rules.specs.Run.{At}
use Rattle.exec_rules.proofs.Refusing.{refused_leaves}
use Rattle.exec_rules.proofs.runs.law_of_orderly_runs.Goals as goal

pub returns-clause-once : goal.returns-clause-once
returns-clause-once c = λ rules g orderly. next_left rules orderly g

pub returns-clause-ends : goal.returns-clause-ends
returns-clause-ends c = λ rules g orderly. run_ends rules orderly g

pub returns-clause-same : goal.returns-clause-same
returns-clause-same c = λ rules g h orderly. run_from rules orderly g h

pub returns-clause-accounts : goal.returns-clause-accounts
returns-clause-accounts c = λ rules most a b orderly r k. balanced_accounts most b (reached_balanced rules orderly most a b r k)

pub returns-clause-affordable : goal.returns-clause-affordable
returns-clause-affordable c = λ rules most a part place x behind m orderly r k. affordable most x behind m.regs (reached_balanced rules orderly most a (At part place x behind m) r k)

pub returns-clause-refused : goal.returns-clause-refused
returns-clause-refused c = refused_leaves
