-- The program's words for a run, and what it replies to them. Source: this project's own rule.
use Rattle.std.specs.Prelude.{ℕ, List, [], ◌∷◌, Bool, true, false, codes}
use Rattle.line_serving.specs.Replies.{Reply, bytes_reply}
use Rattle.xcm_cli.specs.Report.{lines_reply}

-- with the audit after each step, or without
abbrev pub run_words : Bool → List (List ℕ)
run_words false = codes "run" ∷ []
run_words true = codes "run" ∷ codes "--audit" ∷ []

-- the report of an input and how the run ends, with the audit after each step or without
abbrev pub run_reply : Bool → List ℕ → Reply
run_reply audit bytes = bytes_reply (lines_reply audit) bytes
