use Rattle.amounts.specs.Amounts.{rows}
use Rattle.asset_bundles.specs.declared.trap.Trap.{Trap}
use Rattle.asset_bundles.proofs.Cutting.{next_piece, next_number, no_further}
use Rattle.asset_bundles.proofs.pieces.in_pieces.Goals as goal

pub loop-piece-preserved : goal.loop-piece-preserved
loop-piece-preserved c =
    let trap : Trap = record { number = c.loop-piece.number; origin = c.copy.result; goods = c.in_ok-part.part } in (
      next_piece c.loop-piece.traps.items _ _ trap _ c.loop-piece.piece c.loop-piece.number _ c.args.origin.now (rows c.args.goods.now) c.in_ok-push.ensures.items
          (λ i. record { number = c.loop-piece.number; origin = c.copy.ensures.same i; goods = c.in_ok-part.ensures i })
          c.saturating_add-number.ensures c.loop-piece-test.true c.loop-piece.invariant.0,
      next_number c.loop-piece.number _ _ _ _ c.saturating_add-number.ensures c.loop-piece-test.true c.loop-piece.invariant.1,
      no_further _ _ c.saturating_add-number.ensures,
    )
