use Rattle.std.proofs.Common.{◌∙◌}
use Rattle.ledgers.proofs.AccountMoves.{rows_then, more_room, slice_here, slice_inside}
use Rattle.ledgers.proofs.list_moves.make_all_room.Goals as goal

pub returns-in_err-make_room-clause-stay : goal.returns-in_err-make_room-clause-stay
returns-in_err-make_room-clause-stay c = rows_then c.args.rows.now c.loop-asset.rows c.make_room.new.self c.loop-asset.invariant.stay c.make_room.ensures.stay

pub loop-asset-preserved : goal.loop-asset-preserved
loop-asset-preserved c = record {
  sound = c.make_room.ensures.sound;
  stay = rows_then c.args.rows.now c.loop-asset.rows c.make_room.new.self c.loop-asset.invariant.stay c.make_room.ensures.stay;
  held = c.make_room.ensures.held ∙ c.loop-asset.invariant.held;
  room = more_room c.loop-asset.rows c.make_room.new.self c.args.who.now c.args.list.now c.loop-asset.asset-index c.asset-item.result c.make_room.ensures.stay
      (slice_here c.args.list.now c.loop-asset.asset-index c.asset-item.result c.loop-asset-test.true c.asset-item.is) c.in_ok-make_room.ensures.room c.loop-asset.invariant.room;
}

pub returns-clause-room : goal.returns-clause-room
returns-clause-room c = λ k a is. c.loop-asset.invariant.room k a (let inside = slice_inside c.args.list.now k a is in omega (Rattle.std.proofs.Common.arith, inside, c.loop-asset-test.false)) is
