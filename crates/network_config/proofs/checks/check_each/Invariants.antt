use Rattle.std.proofs.Common.{◌≡◌, take, drop, []}
use Rattle.network_config.specs.References.{each_in}
use Rattle.network_config.proofs.checks.check_each.Given as goal

abbrev pub invariant-loop-at : goal.invariant-loop-at
invariant-loop-at g l =
    each_in (g.C.Check.flaws l.fn.check) l.fn.chain l.fn.section 0 [] l.items ≡ each_in (g.C.Check.flaws l.fn.check) l.fn.chain l.fn.section l.index (take l.at l.items) (drop l.at l.items)
