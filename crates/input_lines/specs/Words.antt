-- The words of steps, as a heading says them. Source: this project's own rule.
use Rattle.std.specs.Prelude.{ℕ, List, ◌++◌, codes}
use Rattle.chain_ids.specs.Texts.{chain_text}
use Rattle.input_lines.specs.declared.step.Step.{Step}
use Rattle.input_lines.specs.declared.step.Step.TheVariants.{Exec, Deliver, Claim, Drain, Balances, Traps, Queues, Supply}

-- the words of a step, without accounts and messages
abbrev pub step_words : Step → List ℕ
step_words (Exec chain account message) = codes "exec " ++ chain_text chain
step_words (Deliver from to) = codes "deliver " ++ chain_text from ++ codes " " ++ chain_text to
step_words (Claim from to message) = codes "claim " ++ chain_text from ++ codes " " ++ chain_text to
step_words Drain = codes "drain"
step_words Balances = codes "balances"
step_words Traps = codes "traps"
step_words Queues = codes "queues"
step_words Supply = codes "supply"
