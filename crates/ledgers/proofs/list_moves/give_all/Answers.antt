use Rattle.std.proofs.Common.{◌≡◌, ◌+◌, drop, true, sym, ap, ◌∙◌, subst}
use Rattle.std.specs.List.{list_all}
use Rattle.std.proofs.lemmas.Bool.{and_parts}
use Rattle.amounts.specs.Amounts.{plus_all}
use Rattle.asset_lists.specs.Units.{unit_of, amount_of}
use Rattle.asset_lists.specs.Lists.{is_rising}
use Rattle.asset_lists.specs.Listed.{listed_of, lists}
use Rattle.ledgers.specs.RowState.{rows_held}
use Rattle.ledgers.specs.AccountRows.{account_rows, MayTakeAll}
use Rattle.ledgers.proofs.AccountMoves.{at_place, past_end, may_later, once_first, rising_rest, plus_first, plus_none, rows_then, room_stays, number_there, slice_here}
use Rattle.ledgers.proofs.list_moves.give_all.Goals as goal

pub give-requires-clause-listed : goal.give-requires-clause-listed
give-requires-clause-listed c =
    let cut = at_place c.args.list.now c.loop-asset.asset-index c.asset-item.result c.loop-asset-test.true c.asset-item.is in
    let all = subst (λ ys. list_all (λ a. lists c.args.rows.now.assets (listed_of (unit_of a))) ys ≡ true) cut c.loop-asset.invariant.listed in
    number_there c.loop-asset.rows.assets (listed_of (unit_of c.asset-item.result))
    (ap (λ l. lists l (listed_of (unit_of c.asset-item.result))) c.loop-asset.invariant.stay.assets ∙ (and_parts (lists c.args.rows.now.assets (listed_of (unit_of c.asset-item.result))) _ all).0)

pub give-requires-clause-room : goal.give-requires-clause-room
give-requires-clause-room c = room_stays c.args.rows.now c.loop-asset.rows c.loop-asset.invariant.stay c.args.who.now c.asset-item.result
    (c.requires.room c.loop-asset.asset-index c.asset-item.result (slice_here c.args.list.now c.loop-asset.asset-index c.asset-item.result c.loop-asset-test.true c.asset-item.is))

pub give-requires-clause-may : goal.give-requires-clause-may
give-requires-clause-may c =
    let cut = at_place c.args.list.now c.loop-asset.asset-index c.asset-item.result c.loop-asset-test.true c.asset-item.is in
    (subst (MayTakeAll (rows_held c.loop-asset.rows) c.args.who.now) cut c.loop-asset.invariant.may).0

pub loop-asset-preserved : goal.loop-asset-preserved
loop-asset-preserved c =
    let held = rows_held c.loop-asset.rows in
    let who = c.args.who.now in
    let a = c.asset-item.result in
    let rest = drop (c.loop-asset.asset-index + 1) c.args.list.now in
    let cut = at_place c.args.list.now c.loop-asset.asset-index c.asset-item.result c.loop-asset-test.true c.asset-item.is in
    let rising = subst (λ ys. is_rising ys ≡ true) cut c.loop-asset.invariant.once in
    let all = subst (λ ys. list_all (λ b. lists c.args.rows.now.assets (listed_of (unit_of b))) ys ≡ true) cut c.loop-asset.invariant.listed in
    record {
      sound = c.give.ensures.sound;
      stay = rows_then c.args.rows.now c.loop-asset.rows c.give.new.self c.loop-asset.invariant.stay c.give.ensures.stay;
      listed = (and_parts (lists c.args.rows.now.assets (listed_of (unit_of a))) _ all).1;
      may = subst (λ h. MayTakeAll h who rest) (sym c.give.ensures.held) (may_later held who (unit_of a) (amount_of a) rest (once_first a rest rising) (subst (MayTakeAll held who) cut c.loop-asset.invariant.may).1);
      once = rising_rest a rest rising;
      held = ap (λ h. plus_all h (account_rows who rest)) c.give.ensures.held ∙ sym (plus_first held who a rest) ∙ ap (λ ys. plus_all held (account_rows who ys)) (sym cut) ∙ c.loop-asset.invariant.held;
    }

pub returns-clause-held : goal.returns-clause-held
returns-clause-held c =
    sym (plus_none (rows_held c.loop-asset.rows)) ∙ ap (λ ys. plus_all (rows_held c.loop-asset.rows) (account_rows c.args.who.now ys)) (sym (past_end c.args.list.now c.loop-asset.asset-index c.loop-asset-test.false))
    ∙ c.loop-asset.invariant.held
