use Rattle.std.proofs.Common.{◌≡◌, ◌+◌, ◌-◌, ◌<◌, true, false, sym, ap, ◌∙◌, arith}
use Rattle.std.specs.Ordering.{is_eq}
use Rattle.call_dispatch.specs.Shifts.{is_same_account}
use Rattle.call_dispatch.proofs.Lemmas.ShiftLaws.{shifted_nothing, shifted_same}
use Rattle.test_codec.specs.Books.{amounts_in}
use Rattle.test_codec.proofs.Lemmas.{still_some, moved_by_writing}
use Rattle.test_codec.proofs.book_moves.move_amount.Goals as goal

pub returns-then-n-eq0-clause-ok : goal.returns-then-n-eq0-clause-ok
returns-then-n-eq0-clause-ok c = sym (shifted_nothing _ c.args.row c.args.from.now c.args.to.now c.args.n c.if-n-eq0.true)

pub returns-then-is_eq-clause-ok : goal.returns-then-is_eq-clause-ok
returns-then-is_eq-clause-ok c =
    let same : is_same_account c.args.from.now c.args.to.now ≡ true = ap is_eq (sym c.cmp.ensures) ∙ sym c.is_eq.ensures ∙ c.if-is_eq.true in
    sym (shifted_same _ c.args.row c.args.from.now c.args.to.now c.args.n same c.requires.enough)

pub change_amount-requires : goal.change_amount-requires
change_amount-requires c =
    let other : is_same_account c.args.from.now c.args.to.now ≡ false = ap is_eq (sym c.cmp.ensures) ∙ sym c.is_eq.ensures ∙ c.if-is_eq.false in
    let some : 0 < c.args.n = omega arith in
    still_some (amounts_in c.args.rows.now.entries) (amounts_in c.write_amount.new.rows.entries) c.args.row c.args.from.now c.args.to.now (c.amount_in-2.result + c.args.n) c.args.n other c.in_ok-write_amount.ensures.ok c.requires.enough some

pub returns-clause-ok : goal.returns-clause-ok
returns-clause-ok c =
    let other : is_same_account c.args.from.now c.args.to.now ≡ false = ap is_eq (sym c.cmp.ensures) ∙ sym c.is_eq.ensures ∙ c.if-is_eq.false in
    moved_by_writing (amounts_in c.args.rows.now.entries) (amounts_in c.write_amount.new.rows.entries) (amounts_in c.change_amount.new.rows.entries) c.args.row c.args.from.now c.args.to.now c.args.n
    (c.amount_in.result - c.args.n) (c.amount_in-2.result + c.args.n) other c.requires.enough (omega (arith, c.amount_in.ensures)) (omega (arith, c.amount_in-2.ensures)) c.in_ok-write_amount.ensures.ok c.change_amount.ensures
