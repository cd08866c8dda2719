use Rattle.exec_rules.proofs.Steady.{steady_after}
use Rattle.exec_rules.proofs.Sound.{reached_steady, sound_all, reached_ready}
use Rattle.exec_rules.proofs.call_laws.law_of_readiness.Goals as goal

pub returns-clause-done : goal.returns-clause-done
returns-clause-done c = steady_after

pub returns-clause-reached : goal.returns-clause-reached
returns-clause-reached c = reached_steady

pub returns-clause-sound : goal.returns-clause-sound
returns-clause-sound c = sound_all

pub returns-clause-ready : goal.returns-clause-ready
returns-clause-ready c = reached_ready
