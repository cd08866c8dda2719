use Rattle.std.proofs.Common.{arith}
use Rattle.document_entries.proofs.Lists.{pair_long}
use Rattle.document_entries.proofs.entries.pair_of.Goals as goal

pub returns-in_default : goal.returns-in_default
returns-in_default c = pair_long _ _ _ c.in_ok-items.ensures (λ e. omega (arith, c.in_default.len_below))

pub returns-in_default-2 : goal.returns-in_default-2
returns-in_default-2 c = pair_long _ _ _ c.in_ok-items.ensures (λ e. omega (arith, c.in_default.len_at_least))
