use Rattle.std.proofs.Common.{◌∙◌, sym}
use Rattle.xcm_compose.proofs.Judging.{composes_tree, judges_refused, differing_none}
use Rattle.xcm_compose.proofs.answer.compared.Goals as goal

pub returns-then-is_same : goal.returns-then-is_same
returns-then-is_same c =
    composes_tree _ _ c.args.made.now.bytes.items _ _ c.requires.explained c.requires.only (sym c.as_bytes-shown.ensures.value ∙ c.is_same.ensures.same c.if-is_same.true) (rw c.as_slice.ensures.value at c.message_line.ensures)

pub returns : goal.returns
returns c =
    judges_refused _ _ (c.differing_line.ensures (differing_none _ c.args.made.now.bytes.items c.args.tree.now c.args.text.now c.requires.explained c.requires.only (λ e. c.is_same.ensures.other c.if-is_same.false (c.as_bytes-shown.ensures.value ∙ e))))
