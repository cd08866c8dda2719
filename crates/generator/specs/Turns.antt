-- Turns: the steps that can be drawn, and how they are drawn. This project's own rule.
use Rattle.std.specs.Prelude.{ℕ, zero, suc, ◌+◌, ◌==◌, if◌then◌else◌, List, [], ◌∷◌, replicate}
use Rattle.chain_ids.specs.declared.chain.ChainId.TheVariants.{Relay, Para}
use Rattle.network_steps.specs.Steps.{Step, Exec, Deliver}
use Rattle.generator.specs.declared.turns.Turn.{Turn}
use Rattle.generator.specs.declared.turns.Turn.TheVariants.{Send, Return, Down, Up}
use Rattle.generator.specs.Draws.{next_draw, below}
use Rattle.generator.specs.Messages.{send_message, return_message}

-- a turn of this kind with this parachain, whose value, where it has one, is drawn after the number; and the number that was drawn last
abbrev pub turn_of_kind : ℕ → ℕ → ℕ → ℕ × Turn
turn_of_kind kind para x =
    if kind == 0 then (next_draw x, Send (1 + below 1000 (next_draw x)) para)
    else if kind == 1 then (next_draw x, Return (1 + below 1000 (next_draw x)) para)
    else if kind == 2 then (x, Down para)
    else (x, Up para)

-- the turn that is drawn after a number, its kind first and then its parachain; and the number that was drawn last
unfoldable pub drawn : ℕ → ℕ × Turn
drawn x = turn_of_kind (below 4 (next_draw x)) (2000 + below 2 (next_draw (next_draw x))) (next_draw (next_draw x))

-- the step of the network that a turn is
abbrev pub step_of_turn : Turn → Step
step_of_turn (Send value para) = Exec Relay (replicate 32 1) (send_message value para)
step_of_turn (Return value para) = Exec (Para para) (replicate 32 2) (return_message value)
step_of_turn (Down para) = Deliver Relay (Para para)
step_of_turn (Up para) = Deliver (Para para) Relay

-- so many steps, drawn one after another from a number on
unfoldable pub steps_from : ℕ → ℕ → List Step
steps_from zero x = []
steps_from (suc count) x = step_of_turn (drawn x).1 ∷ steps_from count (drawn x).0
