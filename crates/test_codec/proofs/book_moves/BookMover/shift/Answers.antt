use Rattle.std.proofs.Common.{sym, ◌∙◌}
use Rattle.call_dispatch.specs.Shifts.{shifted}
use Rattle.call_dispatch.proofs.Lemmas.ShiftLaws.{accepted, enough_held, refused}
use Rattle.test_codec.specs.Books.{amounts_in, one_floor}
use Rattle.test_codec.specs.Laws.{floors_low}
use Rattle.test_codec.proofs.Lemmas.{floor_kept_after}
use Rattle.test_codec.proofs.book_moves.BookMover.shift.Goals as goal

pub returns-in-Some-clause-step : goal.returns-in-Some-clause-step
returns-in-Some-clause-step c =
    let b = c.args.self.now in
    refused _ _ _ _ _ _ _ c.in-Some.fault (sym c.fault.ensures ∙ c.in-Some.is)
    (shifted (amounts_in b.amounts.entries) c.args.row c.args.from.now c.args.to.now c.args.amount)

pub move_amount-requires-clause-enough : goal.move_amount-requires-clause-enough
move_amount-requires-clause-enough c = enough_held _ _ _ _ _ _ _ (accepted _ _ _ _ _ _ _ (sym c.fault.ensures ∙ c.in_default.is))

pub move_amount-requires-clause-room : goal.move_amount-requires-clause-room
move_amount-requires-clause-room c = (accepted _ _ _ _ _ _ _ (sym c.fault.ensures ∙ c.in_default.is)).room

pub invariant_of-self-2 : goal.invariant_of-self-2
invariant_of-self-2 c =
    let b = c.args.self.now in
    let moved = accepted (amounts_in b.amounts.entries) (one_floor b.keeper b.floor) b.rows.items c.args.row c.args.from.now c.args.to.now c.args.amount (sym c.fault.ensures ∙ c.in_default.is) in
    record {
      kept = floor_kept_after c.move_amount.result (amounts_in b.amounts.entries) (amounts_in c.move_amount.new.rows.entries) b.keeper b.floor c.args.row c.args.from.now c.args.to.now c.args.amount
          (floors_low b.amounts.entries b.keeper b.floor b.kept) moved.enough c.move_amount.ensures.ok c.move_amount.ensures.err;
    }
