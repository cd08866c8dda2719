use Rattle.law_runs.specs.Views.{seen}
use Rattle.amounts.specs.Amounts.{empty}
use Rattle.law_coherence.specs.Headline.{IsKept}
use Rattle.network_steps.specs.Worlds.{World}
use Rattle.network_steps.specs.Steps.{worlds}
use Rattle.law_steps.specs.Views.{views}
use Rattle.law_steps.proofs.Lemmas.Stepping.{seen_at}
use Rattle.law_steps.proofs.Lemmas.Insides.{all_at}
use Rattle.law_steps.proofs.Lemmas.Rising.{rises_in, rises_delivered}
use Rattle.exec_rules.specs.Run.{machine_of}
use Rattle.law_steps.proofs.laws.law_of_rising_accounts.Goals as goal

pub returns : goal.returns
returns c = record {
  executions = λ order w steps account program x a g f ok reach.
      rises_in (views w) (views x.world) x.place (seen empty x.member.part) (machine_of g) (seen_at x.world x.place x.member x.stands) (c.law_of_conserved_executions.ensures.inside order w steps account program x a g f ok reach);
  deliveries = λ order w steps d a g f ok reach.
      rises_delivered order w steps d a (all_at (λ (v : World). IsKept (views w) (views v)) (worlds order w steps) d.at d.world (c.law_of_conserved_worlds.ensures.kept order w steps f) d.reached)
      (λ h on. c.law_of_conserved_deliveries.ensures.inside order w steps d a h f ok on) g reach;
}
