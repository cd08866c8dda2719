use Rattle.std.proofs.Common.{◌∙◌, sym, ap, arith, [], get_or, ℕ, inl, inr}
use Rattle.tree_reading.specs.Errors.{error_names}
use Rattle.tree_reading.proofs.Once.{below}
use Rattle.tree_reading.proofs.errors.error_index.Goals as goal

pub loop-index-preserved : goal.loop-index-preserved
loop-index-preserved c = λ k lt e.
    elim (below k c.loop-index.index lt) [
      | inl h ↦ c.loop-index.invariant k h e
      | inr same ↦ c.is_text.ensures.other c.if-is_text.false (e ∙ ap (λ (n : ℕ). get_or error_names n []) same ∙ sym c.error_name.ensures)
    ]

pub returns : goal.returns
returns c = λ k lt e. c.loop-index.invariant k (omega (arith, lt, c.loop-index-test.false)) e
