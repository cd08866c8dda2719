use Rattle.xcm_compose.proofs.lines.is_over.Goals as goal

pub returns-clause-over : goal.returns-clause-over
returns-clause-over c t more = rw c.as_slice.ensures.value at (c.passes_limits.ensures.over t more)
