-- The generator: a list of steps that is drawn from a number, run in a fixed network, and what came of it. This project's own rule.
--
--   answers      what the steps answer, one after another, from a world on
--   summary      the report of a run in a network
--   generated    the report of a run in the network of the generator's document
use Rattle.std.specs.Prelude.{ℕ, ◌+◌, List, [], ◌∷◌, ◌++◌, codes, decimal, count_by}
use Rattle.network_spec.specs.declared.network.NetworkSpec.{NetworkSpec}
use Rattle.network_steps.specs.Genesis.{order_of, first_world}
use Rattle.network_steps.specs.declared.step_result.StepResult.{StepResult}
use Rattle.network_steps.specs.Worlds.{World, parts_of}
use Rattle.network_steps.specs.Steps.{Step, Exec, Deliver, Claim, Drain, Balances, Traps, Queues, Supply, Link, exec, deliver, claim, next_world, last_world}
use Rattle.report_text.specs.Block.{supply_block}
use Rattle.generator.specs.Network.{described_network}
use Rattle.generator.specs.declared.counts.Counts.{Counts}
use Rattle.generator.specs.Turns.{steps_from}
use Rattle.generator.specs.Results.{is_complete, is_incomplete, is_error, is_empty}

-- what a step answers; a drain and the steps that only report have no answer of their own, and none of them is drawn
abbrev pub answer_to_step : World → Step → StepResult
answer_to_step w (Exec chain account bytes) = (exec w chain account bytes).answer
answer_to_step w (Deliver from to) = (deliver w from to).answer
answer_to_step w (Claim from to bytes) = (claim w from to bytes).answer
answer_to_step w Drain = StepResult.Empty
answer_to_step w Balances = StepResult.Empty
answer_to_step w Traps = StepResult.Empty
answer_to_step w Queues = StepResult.Empty
answer_to_step w Supply = StepResult.Empty

-- what the steps answer, one after another, each in the world after the one before it
abbrev pub answers : List Link → World → List Step → List StepResult
answers order w [] = []
answers order w (step ∷ steps) = answer_to_step w step ∷ answers order (next_world order w step) steps

-- what was asked for
abbrev pub asked_line : ℕ → ℕ → List ℕ
asked_line number steps = codes "gen " ++ (decimal number ++ (codes " " ++ (decimal steps ++ codes "\n")))

-- how many of the answers are of each kind
abbrev pub counts_of : List StepResult → Counts
counts_of given = record {
  complete = count_by is_complete given;
  incomplete = count_by is_incomplete given;
  error = count_by is_error given;
  empty = count_by is_empty given;
}

-- how many there are in all
abbrev pub all_steps : Counts → ℕ
all_steps c = c.complete + c.incomplete + c.error + c.empty

-- the counts, as the report has them
abbrev pub counts_line : Counts → List ℕ
counts_line c =
    codes "complete " ++ (decimal c.complete ++ (codes " incomplete " ++ (decimal c.incomplete
    ++ (codes " error " ++ (decimal c.error ++ (codes " empty " ++ (decimal c.empty ++ codes "\n")))))))

-- of so many steps, drawn after the number: how many ended in which way, and what the network then has of each asset
unfoldable pub summary : NetworkSpec → ℕ → ℕ → List ℕ
summary spec number steps =
    asked_line number steps
    ++ (counts_line (counts_of (answers (order_of spec) (first_world spec) (steps_from steps number)))
    ++ supply_block (parts_of (last_world (order_of spec) (first_world spec) (steps_from steps number))))

-- the report of the run in the generator's network
unfoldable pub generated : ℕ → ℕ → List ℕ
generated number steps = summary described_network number steps
