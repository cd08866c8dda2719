use Rattle.std.proofs.Common.{◌∙◌, sym, ap, arith, inl, inr}
use Rattle.xcm_program.specs.Names.{instruction_name_at}
use Rattle.tree_reading.proofs.Once.{below}
use Rattle.tree_reading.proofs.table.index_of_name.Goals as goal

pub loop-index-preserved : goal.loop-index-preserved
loop-index-preserved c = λ k lt e.
    elim (below k c.loop-index.index lt) [
      | inl h ↦ c.loop-index.invariant k h e
      | inr same ↦ c.is_text.ensures.other c.if-is_text.false (e ∙ ap instruction_name_at same ∙ sym c.instruction_name_at.ensures)
    ]

pub returns : goal.returns
returns c = λ k lt e. c.loop-index.invariant k (omega (arith, lt, c.loop-index-test.false)) e
