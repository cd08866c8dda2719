use Rattle.std.proofs.Common.{ℕ, ◌-◌, ◌^◌, true≢false, sym, ap, ◌∙◌, subst, arith}
use Rattle.std.specs.Prelude.{Some}
use Rattle.std.specs.Ordering.{is_lt}
use Rattle.std.specs.declared.ops.Bound.TheVariants.{Included, Unbounded}
use Rattle.std.specs.BTreeMap.Range.{IsEntryInRange}
use Rattle.std.proofs.lemmas.List.Elements.{All-same, recursion_from_All}
use Rattle.ledgers.specs.LedgerRows.{AmountKey, amount_key_cmp, IsNextRow}
use Rattle.ledgers.proofs.NextRows.{IsAhead, all_ahead, row_left, row_found}
use Rattle.ledgers.proofs.next_account.holder_after.Goals as goal
use Rattle.ledgers.proofs.next_account.holder_after.Goals.{else-amount-gt0-via-then-amount-gt0+else-is_after, else-amount-gt0-via-else-amount-gt0}
use Rattle.plain_lists.proofs.Lemmas.Facts.{less_told as less_is}

pub loop-key-init : goal.loop-key-init
loop-key-init c =
    let rows = c.args.rows.now in
    let lo : AmountKey = (c.of.result, 2 ^ 32 - 1) in
    let all = c.into_iter-key-iterator.ensures.into_iter_gives in
    subst (λ who. IsAhead (Some who) rows c.into_iter-key-iterator.result) c.of.ensures (all_ahead rows lo c.into_iter-key-iterator.result (all ∙ c.range-key-items.ensures.between tt)
    (recursion_from_All (IsEntryInRange amount_key_cmp (Included lo) Unbounded rows) c.into_iter-key-iterator.result (All-same (IsEntryInRange amount_key_cmp (Included lo) Unbounded rows) _ _ all ((c.range-key-items.ensures.in_range tt).0)))
    c.range-key-items.ensures.ordered)

pub returns-then-is_after : goal.returns-then-is_after
returns-then-is_after c =
    let row : AmountKey × ℕ = (c.in-Some.key.now, c.in-Some.amount.now) in
    let after = Some c.args.after.now in
    subst (λ who. IsNextRow after c.args.rows.now.entries who) (sym c.account.ensures) (row_found after c.args.rows.now row c.next.new.self (subst (IsAhead after c.args.rows.now) c.in-Some.ensures.steps c.loop-key.invariant)
    (less_is _ (sym c.is_after.ensures ∙ c.if-is_after.true)) c.if-amount-gt0.true)

pub loop-key-preserved : goal.loop-key-preserved
loop-key-preserved c =
    let row : AmountKey × ℕ = (c.in-Some.key.now, c.in-Some.amount.now) in
    let after = Some c.args.after.now in
    row_left after c.args.rows.now row c.next.new.self
    (λ less positive. elim c.else-amount-gt0.branch [
      | else-amount-gt0-via-then-amount-gt0+else-is_after w ↦ absurd (true≢false (sym (ap is_lt less) ∙ sym w.is_after.ensures ∙ w.if-is_after.false))
      | else-amount-gt0-via-else-amount-gt0 w ↦ (let none = w.if-amount-gt0.false in absurd (omega (arith, none, positive)))
    ])
    (subst (IsAhead after c.args.rows.now) c.in-Some.ensures.steps c.loop-key.invariant)
