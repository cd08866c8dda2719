use Rattle.std.proofs.Common.{◌<◌, length, sym, ap, ◌∙◌, arith}
use Rattle.weight_trader.specs.Purchases.{Line, new_line}
use Rattle.weight_trader.proofs.Lines.{closed_set, closed_more}
use Rattle.weight_trader.proofs.trader.clear_all.Goals as goal

pub loop-line-preserved : goal.loop-line-preserved
loop-line-preserved c =
    let lt : c.loop-line.line-index < length c.loop-line.lines = omega arith in (
      closed_set c.loop-line.lines c.loop-line.line-index c.clear.new.self c.line-item.result c.clear.ensures ∙ c.loop-line.invariant.0,
      closed_more c.loop-line.lines c.loop-line.line-index c.clear.new.self lt (c.clear.ensures ∙ sym (ap (λ (l : Line). new_line l.rate) c.clear.ensures)) c.loop-line.invariant.1,
    )
