use Rattle.std.proofs.Common.{◌-◌, sym}
use Rattle.xcm_explain.specs.Stops.{walk_program}
use Rattle.xcm_explain.proofs.Walks.{too_deep, no_count, begins, goes_on, stops, ends}
use Rattle.xcm_explain.proofs.stop.+walk.Goals as goal

pub walk_program-returns-then-depth-eq0 : goal.walk_program-returns-then-depth-eq0
walk_program-returns-then-depth-eq0 t c = sym (too_deep _ _ _ _ c.if-depth-eq0.true)

pub walk_program-returns-in_default : goal.walk_program-returns-in_default
walk_program-returns-in_default t c = rw c.in_default.ensures.read.1 (sym (no_count _ _ _ _ c.if-depth-eq0.false c.in_default.ensures.read.0))

pub walk_program-loop-init : goal.walk_program-loop-init
walk_program-loop-init t c = record { walked = begins _ _ _ _ _ _ c.if-depth-eq0.false c.in-Ok.ensures.read }

pub walk_program-returns-in-Ok-Stopped : goal.walk_program-returns-in-Ok-Stopped
walk_program-returns-in-Ok-Stopped t c =
    stops c.args.v (walk_program c.args.v (c.args.depth - 1)) _ _ _ _ _ _ _ c.loop-test.true (rw c.in-Ok-Stopped.field-0-is at c.in-Ok-Stopped.ensures) c.loop.invariant.walked

pub walk_program-loop-preserved : goal.walk_program-loop-preserved
walk_program-loop-preserved t c = record {
  walked = goes_on c.args.v (walk_program c.args.v (c.args.depth - 1)) _ _ _ _ _ _ _ c.loop-test.true (rw c.in-Ok-Past.field-0-is at c.in-Ok-Past.ensures) c.loop.invariant.walked;
}

pub walk_program-returns : goal.walk_program-returns
walk_program-returns t c = ends _ _ _ _ _ _ _ c.loop-test.false c.loop.invariant.walked
