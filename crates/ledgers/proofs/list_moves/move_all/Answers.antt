use Rattle.std.proofs.Common.{◌≡◌, [], true, false, sym, ap, ◌∙◌, subst}
use Rattle.std.specs.List.{list_all}
use Rattle.amounts.specs.Amounts.{minus_all, plus_all}
use Rattle.asset_lists.specs.Lists.{has_zero}
use Rattle.asset_lists.specs.Units.{unit_of}
use Rattle.asset_lists.specs.Listed.{listed_of, lists}
use Rattle.ledgers.specs.RowState.{rows_held}
use Rattle.ledgers.specs.AccountRows.{account_rows, HasAll, MayTakeAll}
use Rattle.ledgers.proofs.AccountMoves.{has_first, none_zero, room_stays}
use Rattle.ledgers.proofs.Passing.{only_passed, may_one, may_amounts}
use Rattle.ledgers.proofs.list_moves.move_all.Goals as goal

pub pass-requires-clause-some : goal.pass-requires-clause-some
pass-requires-clause-some c =
    (none_zero c.in-Some.asset.now [] (subst (λ xs. has_zero xs ≡ false) c.in-Some.ensures.0 c.requires.no_zero)).0

pub pass-requires-clause-enough : goal.pass-requires-clause-enough
pass-requires-clause-enough c =
    let held = rows_held c.args.rows.now in
    has_first held c.args.from.now c.in-Some.asset.now [] (subst (HasAll held c.args.from.now) c.in-Some.ensures.0 c.requires.has)

pub pass-requires-clause-may : goal.pass-requires-clause-may
pass-requires-clause-may c = may_one (rows_held c.args.rows.now) c.args.from.now c.args.to.now c.args.list.now c.in-Some.asset.now c.requires.others c.in-Some.ensures.0 c.in-Some.ensures.1 c.requires.may

pub returns-in-Some-clause-held : goal.returns-in-Some-clause-held
returns-in-Some-clause-held c = only_passed c.pass.result (rows_held c.args.rows.now) (rows_held c.pass.new.self) c.args.from.now c.args.to.now c.args.list.now c.in-Some.asset.now c.in-Some.ensures.0 c.pass.ensures.held

pub move_amounts-requires-clause-may : goal.move_amounts-requires-clause-may
move_amounts-requires-clause-may c = may_amounts (rows_held c.args.rows.now) c.args.from.now c.args.to.now c.args.list.now c.requires.others c.args.list.now (sym c.are_amounts.ensures ∙ c.if-are_amounts.true) c.requires.may

pub take_all-needs_sweep-requires-clause-has : goal.take_all-needs_sweep-requires-clause-has
take_all-needs_sweep-requires-clause-has c = subst (λ h. HasAll h c.args.from.now c.args.list.now) (sym c.make_all_room.ensures.held) c.requires.has

pub give_all-requires-clause-listed : goal.give_all-requires-clause-listed
give_all-requires-clause-listed c =
    subst (λ l. list_all (λ a. lists l (listed_of (unit_of a))) c.args.list.now ≡ true) (sym (c.take_all-needs_sweep.ensures.stay.assets ∙ c.make_all_room.ensures.stay.assets)) c.requires.listed

pub give_all-requires-clause-room : goal.give_all-requires-clause-room
give_all-requires-clause-room c = λ k a is. room_stays c.make_all_room.new.rows c.take_all-needs_sweep.new.rows c.take_all-needs_sweep.ensures.stay c.args.to.now a (c.in_ok-make_all_room.ensures.room k a is)

pub give_all-requires-clause-may : goal.give_all-requires-clause-may
give_all-requires-clause-may c =
    let after = c.take_all-needs_sweep.ensures.held ∙ ap (λ h. minus_all h (account_rows c.args.from.now c.args.list.now)) c.make_all_room.ensures.held in
    subst (λ h. MayTakeAll h c.args.to.now c.args.list.now) (sym after) c.requires.may

pub returns : goal.returns
returns c =
    let from = c.args.from.now in
    let to = c.args.to.now in
    let list = c.args.list.now in
    let after = c.take_all-needs_sweep.ensures.held ∙ ap (λ h. minus_all h (account_rows from list)) c.make_all_room.ensures.held in
    record {
      sound = c.sweep_all.ensures.sound;
      assets = c.sweep_all.ensures.assets ∙ c.give_all.ensures.assets ∙ c.take_all-needs_sweep.ensures.stay.assets ∙ c.make_all_room.ensures.stay.assets;
      held = c.sweep_all.ensures.held ∙ c.give_all.ensures.held ∙ ap (λ h. plus_all h (account_rows to list)) after;
      kept = tt;
    }
