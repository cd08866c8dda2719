use Rattle.std.proofs.Common.{◌≡◌, ℕ, ◌<◌, ◌++◌, length, set, take, drop, sym, ap, ◌∙◌, subst, length-set}
use Rattle.std.specs.declared.ops.Bound.TheVariants.{Included, Unbounded}
use Rattle.std.specs.BTreeMap.Range.{IsEntryInRange, entries_between}
use Rattle.std.specs.Map.{keys_of}
use Rattle.std.specs.List.{AllByRecursion}
use Rattle.std.specs.List.Sorted.{IsStrictlySortedBy}
use Rattle.std.proofs.lemmas.List.Elements.{All-same, recursion_from_All}
use Rattle.ledgers.specs.LedgerRows.{AmountKey, amount_key_cmp}
use Rattle.ledgers.proofs.AccountGoods.{of_later}
use Rattle.ledgers.proofs.AccountSums.{AreLeft, all_left, one_written, left_at_later, left_at_end, whole}
use Rattle.ledgers.proofs.NextRows.{sorted_from, sorted_rest, sorted_behind}
use Rattle.ledgers.proofs.account_sums.account_sums.Goals as goal

pub loop-key-init : goal.loop-key-init
loop-key-init c =
    let rows = c.args.rows.now in
    let lo : AmountKey = (c.of.result, 0) in
    let gives = c.into_iter-key-iterator.ensures.into_iter_gives in
    let between = gives ∙ c.range-key-items.ensures.between tt in
    record {
      many = c.in_ok-sums.ensures.count;
      left = all_left rows.entries c.args.who.now c.into_iter-key-iterator.result c.in_ok-sums.sums.items
          (between ∙ ap (λ who. entries_between amount_key_cmp (Included (who, 0)) Unbounded rows.entries) c.of.ensures) c.in_ok-sums.ensures.zero;
      each = subst (λ who. AllByRecursion (IsEntryInRange amount_key_cmp (Included (who, 0)) Unbounded rows) c.into_iter-key-iterator.result) c.of.ensures
          (recursion_from_All (IsEntryInRange amount_key_cmp (Included lo) Unbounded rows) c.into_iter-key-iterator.result (All-same (IsEntryInRange amount_key_cmp (Included lo) Unbounded rows) _ _ gives ((c.range-key-items.ensures.in_range tt).0)));
      sorted = sorted_from rows lo c.into_iter-key-iterator.result between c.range-key-items.ensures.ordered;
    }

pub returns-then-not-is-clause-sums : goal.returns-then-not-is-clause-sums
returns-then-not-is-clause-sums c = λ n few.
    let rows = c.args.rows.now in
    let who = c.args.who.now in
    let row : AmountKey × ℕ = (c.in-Some.key.now, c.in-Some.amount.now) in
    let steps = c.in-Some.ensures.steps in
    let inv = c.loop-key.invariant in
    let each = subst (AllByRecursion (IsEntryInRange amount_key_cmp (Included (who, 0)) Unbounded rows)) steps inv.each in
    let sorted = subst (λ es. IsStrictlySortedBy amount_key_cmp (keys_of es)) steps inv.sorted in
    left_at_later rows.entries who row c.next.new.self c.loop-key.sums.items
    (of_later who row.0 each.0.0.0 (sym c.is.ensures ∙ c.if-not-is.true)) (sorted_behind row c.next.new.self sorted)
    (subst (λ es. AreLeft rows.entries who es c.loop-key.sums.items) steps inv.left) n (subst (λ m. n < m) (sym inv.many) few)

pub loop-key-preserved : goal.loop-key-preserved
loop-key-preserved c =
    let rows = c.args.rows.now in
    let who = c.args.who.now in
    let row : AmountKey × ℕ = (c.in-Some.key.now, c.in-Some.amount.now) in
    let steps = c.in-Some.ensures.steps in
    let inv = c.loop-key.invariant in
    let sums = c.loop-key.sums.items in
    let sorted = subst (λ es. IsStrictlySortedBy amount_key_cmp (keys_of es)) steps inv.sorted in
    let same : length (set sums row.0.1 row.1) ≡ length sums = length-set sums row.0.1 row.1 in
    let wrote : c.write_sum.new.sums ≡ set sums row.0.1 row.1 = c.write_sum.ensures ∙ ap (λ xs. set xs row.0.1 row.1) c.deref_mut.ensures.value in
    let now : take c.loop-key.sums.len (c.write_sum.new.sums ++ drop (length c.write_sum.new.sums) sums) ≡ set sums row.0.1 row.1 =
    whole c.loop-key.sums.len c.write_sum.new.sums (drop (length c.write_sum.new.sums) sums) (set sums row.0.1 row.1) wrote (same ∙ sym c.loop-key.sums.ok.0) in
    record {
      many = ap length now ∙ same ∙ inv.many;
      left = subst (AreLeft rows.entries who c.next.new.self) (sym now)
          (one_written rows.entries who row c.next.new.self sums (sym c.is.ensures ∙ c.if-not-is.false) (sorted_behind row c.next.new.self sorted) same
          (subst (λ es. AreLeft rows.entries who es sums) steps inv.left));
      each = (subst (AllByRecursion (IsEntryInRange amount_key_cmp (Included (who, 0)) Unbounded rows)) steps inv.each).1;
      sorted = sorted_rest row c.next.new.self sorted;
    }

pub returns-clause-sums : goal.returns-clause-sums
returns-clause-sums c = λ n few. left_at_end c.args.rows.now.entries c.args.who.now c.loop-key.key-iterator c.loop-key.sums.items c.in-None.ensures.steps.0 c.loop-key.invariant.left n (subst (λ m. n < m) (sym c.loop-key.invariant.many) few)
