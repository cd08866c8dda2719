use Rattle.std.proofs.Common.{◌≡◌, ℕ, List, sym, ◌∙◌, subst}
use Rattle.std.specs.Prelude.{IfOk, replicate}
use Rattle.chain_ids.specs.declared.chain.ChainId.TheVariants.{Relay, Para}
use Rattle.network_steps.specs.declared.step_result.StepResult.{StepResult}
use Rattle.network_steps.specs.Steps.{exec}
use Rattle.chain_net.specs.Nets.{world_of}
use Rattle.generator.specs.declared.turns.Turn.{Turn}
use Rattle.generator.specs.Messages.{send_message, return_message}
use Rattle.generator.specs.Turns.{step_of_turn}
use Rattle.generator.specs.Generated.{answer_to_step}
use Rattle.generator.proofs.running.perform.Goals as goal

pub returns-in_ok-message-in-Send-clause-answer : goal.returns-in_ok-message-in-Send-clause-answer
returns-in_ok-message-in-Send-clause-answer c =
    let w = world_of c.args.net.now in
    let bytes : c.deref.result.now ≡ send_message c.in-Send.value c.in-Send.para = c.deref.ensures.value ∙ c.in_ok-message-in-Send.ensures in
    subst (λ (turn : Turn). IfOk c.exec.result (λ (answer : StepResult). answer ≡ answer_to_step w (step_of_turn turn))) (sym c.in-Send.is)
    (subst (λ (xs : List ℕ). IfOk c.exec.result (λ (answer : StepResult). answer ≡ (exec w Relay (replicate 32 1) xs).answer)) bytes c.exec.ensures.answer)

pub returns-in_ok-message-in-Return-clause-answer : goal.returns-in_ok-message-in-Return-clause-answer
returns-in_ok-message-in-Return-clause-answer c =
    let w = world_of c.args.net.now in
    let bytes : c.deref-in-Return.result.now ≡ return_message c.in-Return.value = c.deref-in-Return.ensures.value ∙ c.in_ok-message-in-Return.ensures in
    subst (λ (turn : Turn). IfOk c.exec-in-Return.result (λ (answer : StepResult). answer ≡ answer_to_step w (step_of_turn turn))) (sym c.in-Return.is)
    (subst (λ (xs : List ℕ). IfOk c.exec-in-Return.result (λ (answer : StepResult). answer ≡ (exec w (Para c.in-Return.para) (replicate 32 2) xs).answer)) bytes c.exec-in-Return.ensures.answer)
