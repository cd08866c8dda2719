use Rattle.std.proofs.Common.{◌≡◌, ◌+◌, drop, false, sym, ap, ◌∙◌, subst}
use Rattle.amounts.specs.Amounts.{minus_all}
use Rattle.asset_lists.specs.Lists.{has_zero}
use Rattle.ledgers.specs.RowState.{rows_held}
use Rattle.ledgers.specs.AccountRows.{account_rows, HasAll}
use Rattle.ledgers.proofs.AccountMoves.{at_place, past_end, none_zero, has_first, has_rest, minus_first, minus_none, rows_then}
use Rattle.ledgers.proofs.list_moves.take_all.Goals as goal

pub take-needs_sweep-requires-clause-some : goal.take-needs_sweep-requires-clause-some
take-needs_sweep-requires-clause-some c =
    let cut = at_place c.args.list.now c.loop-asset.asset-index c.asset-item.result c.loop-asset-test.true c.asset-item.is in
    (none_zero c.asset-item.result (drop (c.loop-asset.asset-index + 1) c.args.list.now) (subst (λ ys. has_zero ys ≡ false) cut c.loop-asset.invariant.no_zero)).0

pub take-needs_sweep-requires-clause-enough : goal.take-needs_sweep-requires-clause-enough
take-needs_sweep-requires-clause-enough c =
    let cut = at_place c.args.list.now c.loop-asset.asset-index c.asset-item.result c.loop-asset-test.true c.asset-item.is in
    has_first (rows_held c.loop-asset.rows) c.args.who.now c.asset-item.result (drop (c.loop-asset.asset-index + 1) c.args.list.now)
    (subst (HasAll (rows_held c.loop-asset.rows) c.args.who.now) cut c.loop-asset.invariant.has)

pub loop-asset-preserved : goal.loop-asset-preserved
loop-asset-preserved c =
    let held = rows_held c.loop-asset.rows in
    let who = c.args.who.now in
    let a = c.asset-item.result in
    let rest = drop (c.loop-asset.asset-index + 1) c.args.list.now in
    let cut = at_place c.args.list.now c.loop-asset.asset-index c.asset-item.result c.loop-asset-test.true c.asset-item.is in
    record {
      sound = c.take-needs_sweep.ensures.sound;
      stay = rows_then c.args.rows.now c.loop-asset.rows c.take-needs_sweep.new.self c.loop-asset.invariant.stay c.take-needs_sweep.ensures.stay;
      no_zero = (none_zero a rest (subst (λ ys. has_zero ys ≡ false) cut c.loop-asset.invariant.no_zero)).1;
      has = subst (λ h. HasAll h who rest) (sym c.take-needs_sweep.ensures.held) (has_rest held who a rest (subst (HasAll held who) cut c.loop-asset.invariant.has));
      held = ap (λ h. minus_all h (account_rows who rest)) c.take-needs_sweep.ensures.held ∙ sym (minus_first held who a rest) ∙ ap (λ ys. minus_all held (account_rows who ys)) (sym cut) ∙ c.loop-asset.invariant.held;
    }

pub returns-clause-held : goal.returns-clause-held
returns-clause-held c =
    sym (minus_none (rows_held c.loop-asset.rows)) ∙ ap (λ ys. minus_all (rows_held c.loop-asset.rows) (account_rows c.args.who.now ys)) (sym (past_end c.args.list.now c.loop-asset.asset-index c.loop-asset-test.false))
    ∙ c.loop-asset.invariant.held
