use Rattle.std.proofs.Common.{◌≡◌, ◌∙◌, ◌++◌, ap, Ok}
use Rattle.line_serving.proofs.Flowing.{takes_over, flows_err}
use Rattle.line_serving.proofs.feeder.Feeder.take_piece.Goals as goal

pub returns-in-Err-from_slice-clause-run : goal.returns-in-Err-from_slice-clause-run
returns-in-Err-from_slice-clause-run g c =
    let bytes : c.deref.result.now ≡ c.args.self.now.pending.items ++ c.args.piece.now = c.deref.ensures.value ∙ c.in_ok-extend_from_slice.ensures.items in
    let flows = c.take_lines.ensures.run.going (c.in-Ok-None.is ∙ ap Ok c.in-Ok-None.field-0-is) in
    takes_over _ _ _ _ _ _ _ _ _ (λ e. cc) (flows_err _ _ _ _ _ _ _ _ (rw bytes at flows) _)
