-- What is reported of a network: when it opens, and of each step. This project's own rule.
use Rattle.std.specs.Prelude.{ℕ, List, [], ◌++◌, length, Bool, if◌then◌else◌, flat_map}
use Rattle.network_spec.specs.declared.network.NetworkSpec.{NetworkSpec}
use Rattle.network_steps.specs.Worlds.{World, Stepped}
use Rattle.network_steps.specs.Steps.{Step, Link, exec, deliver, claim, drain, next_world}
use Rattle.network_steps.specs.Steps as steps
use Rattle.network_steps.specs.Genesis.{order_of, first_world}
use Rattle.step_text.specs.Steps.{heading, step_text, drained_line}
use Rattle.report_blocks.specs.Asked.{line_step}
use Rattle.report_blocks.specs.Reads.{coherence_line, world_supply_block, balances_block, traps_block, queues_block}

-- what is written first: whether the network is coherent, and what its assets sum to
unfoldable pub opening_text : NetworkSpec → List ℕ
opening_text spec = coherence_line spec ++ world_supply_block (first_world spec)

-- the lines of a step's trace and answer
abbrev pub lines_of_step : Stepped → List ℕ
lines_of_step s = step_text s.trace s.answer

-- those of a drain's deliveries, and how many they were
abbrev pub drain_lines : List (Link × Stepped) → List ℕ
drain_lines deliveries =
    flat_map (λ (d : Link × Stepped). lines_of_step d.1) deliveries
    ++ drained_line (length deliveries)

-- the lines below a step's heading, in a world
unfoldable pub step_lines : NetworkSpec → World → Step → List ℕ
step_lines spec w (steps.Exec chain account message) = lines_of_step (exec w chain account message)
step_lines spec w (steps.Deliver from to) = lines_of_step (deliver w from to)
step_lines spec w (steps.Claim from to message) = lines_of_step (claim w from to message)
step_lines spec w steps.Drain = drain_lines (drain (order_of spec) w)
step_lines spec w steps.Balances = balances_block w
step_lines spec w steps.Traps = traps_block w
step_lines spec w steps.Queues = queues_block (order_of spec) w
step_lines spec w steps.Supply = world_supply_block w

-- where the audit is asked for, what the assets sum to after each step
abbrev pub audit_lines : Bool → World → List ℕ
audit_lines audit w = if audit then world_supply_block w else []

-- a step: its heading, its lines, and the audit of the next world
unfoldable pub step_block : Bool → NetworkSpec → World → ℕ → Step → List ℕ
step_block audit spec w number step =
    heading number (line_step step)
    ++ (step_lines spec w step ++ audit_lines audit (next_world (order_of spec) w step))
