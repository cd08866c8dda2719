use Rattle.std.proofs.Common.{◌++◌, ℕ, List}
use Rattle.input_lines.specs.Lines.{lines_of}
use Rattle.xcm_compose.specs.Replies.{IsReplyOf}
use Rattle.xcm_compose.proofs.Flowing.{gives_up}
use Rattle.xcm_compose.proofs.Steps.{some_reply}
use Rattle.xcm_compose.proofs.lines.take_piece.Goals as goal

pub returns-in-Ok-clause-run : goal.returns-in-Ok-clause-run
returns-in-Ok-clause-run g c = rw c.in-Ok.ensures.items at c.take_pending.ensures.run

pub returns-in-Err-clause-run : goal.returns-in-Err-clause-run
returns-in-Err-clause-run g c =
    gives_up (λ (more : List ℕ). IsReplyOf c.args.composer.now (lines_of ((c.args.pending.now.items ++ c.args.piece.now) ++ more))) _ _ _
    (λ more. some_reply c.args.composer.now.taken c.args.composer.now.tree.items (lines_of ((c.args.pending.now.items ++ c.args.piece.now) ++ more)))
