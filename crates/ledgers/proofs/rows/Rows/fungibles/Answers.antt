use Rattle.std.proofs.Common.{ℕ, ◌++◌, sym, ap, ◌∙◌, subst}
use Rattle.std.specs.Prelude.{slice_get}
use Rattle.std.specs.declared.ops.Bound.TheVariants.{Included, Unbounded}
use Rattle.std.specs.BTreeMap.Range.{IsEntryInRange, entries_between}
use Rattle.std.proofs.lemmas.List.Elements.{All-same, recursion_from_All}
use Rattle.ledgers.specs.LedgerRows.{AmountKey, amount_key_cmp}
use Rattle.ledgers.specs.RowState.{rows_held}
use Rattle.ledgers.specs.Ledgers.{account_goods}
use Rattle.ledgers.specs.AccountGoods.{IsUnsortedListOf, is_amount, fungible_held_at}
use Rattle.amounts.specs.Amounts.{restriction}
use Rattle.ledgers.proofs.AccountGoods.{fungibles_in, fungibles_next, listed_more, listed_none, all_listed, no_fungibles, none_left, of_later, from_first, fungibles_listed}
use Rattle.ledgers.proofs.NextRows.{sorted_from, sorted_rest, sorted_behind}
use Rattle.std.specs.Map.{keys_of}
use Rattle.std.specs.List.{AllByRecursion}
use Rattle.std.specs.List.Sorted.{IsStrictlySortedBy}
use Rattle.ledgers.proofs.rows.Rows.fungibles.Goals as goal
use Rattle.plain_lists.proofs.Lemmas.Facts.{none_if}

pub loop-key-init : goal.loop-key-init
loop-key-init c =
    let rows = c.args.self.now in
    let lo : AmountKey = (c.of.result, 0) in
    let gives = c.into_iter-key-iterator.ensures.into_iter_gives in
    let between = gives ∙ c.range-key-items.ensures.between tt in
    record {
      listed = ap (λ xs. xs ++ fungibles_in rows.assets c.args.who.now c.into_iter-key-iterator.result) c.new-goods.ensures.items
          ∙ ap (fungibles_in rows.assets c.args.who.now) (between ∙ ap (λ who. entries_between amount_key_cmp (Included (who, 0)) Unbounded rows.amounts.entries) c.of.ensures) ∙ from_first rows.assets c.args.who.now rows.amounts.entries;
      each = subst (λ who. AllByRecursion (IsEntryInRange amount_key_cmp (Included (who, 0)) Unbounded rows.amounts) c.into_iter-key-iterator.result) c.of.ensures
          (recursion_from_All (IsEntryInRange amount_key_cmp (Included lo) Unbounded rows.amounts) c.into_iter-key-iterator.result (All-same (IsEntryInRange amount_key_cmp (Included lo) Unbounded rows.amounts) _ _ gives ((c.range-key-items.ensures.in_range tt).0)));
      sorted = sorted_from rows.amounts lo c.into_iter-key-iterator.result between c.range-key-items.ensures.ordered;
    }

pub returns-then-not-is : goal.returns-then-not-is
returns-then-not-is c =
    let rows = c.args.self.now in
    let who = c.args.who.now in
    let row : AmountKey × ℕ = (c.in-Some.key.now, c.in-Some.amount.now) in
    let steps = c.in-Some.ensures.steps in
    let inv = c.loop-key.invariant in
    let each = subst (AllByRecursion (IsEntryInRange amount_key_cmp (Included (who, 0)) Unbounded rows.amounts)) steps inv.each in
    let sorted = subst (λ es. IsStrictlySortedBy amount_key_cmp (keys_of es)) steps inv.sorted in
    let none = none_left rows.assets who row c.next.new.self (of_later who row.0 each.0.0.0 (sym c.is.ensures ∙ c.if-not-is.true)) (sorted_behind row c.next.new.self sorted) in
    let all = ap (λ ys. c.loop-key.goods.items ++ ys) (sym none ∙ ap (fungibles_in rows.assets who) (sym steps)) ∙ inv.listed in
    subst (IsUnsortedListOf (restriction is_amount (account_goods who (rows_held rows)))) (sym (sym (all_listed c.loop-key.goods.items) ∙ all))
    (fungibles_listed rows.assets c.requires.once rows.amounts.entries rows.owners.entries c.requires.sorted who c.range-key-items.ensures.ordered)

pub loop-key-preserved-in-Continue-1 : goal.loop-key-preserved-in-Continue-1
loop-key-preserved-in-Continue-1 c =
    let rows = c.args.self.now in
    let who = c.args.who.now in
    let row : AmountKey × ℕ = (c.in-Some.key.now, c.in-Some.amount.now) in
    let steps = c.in-Some.ensures.steps in
    let inv = c.loop-key.invariant in
    record {
      listed = ap (λ xs. xs ++ fungibles_in rows.assets who c.next.new.self) c.in_ok-push.ensures.items
          ∙ listed_more c.loop-key.goods.items c.in-Some-fungible.asset (fungibles_in rows.assets who c.loop-key.key-iterator) (fungibles_in rows.assets who rows.amounts.entries) (fungibles_in rows.assets who c.next.new.self)
          (fungible_held_at (slice_get rows.assets row.0.1) row.1) (sym c.in-Some-fungible.ensures)
          (ap (fungibles_in rows.assets who) steps ∙ fungibles_next rows.assets who row c.next.new.self (sym c.is.ensures ∙ c.if-not-is.false)) inv.listed;
      each = (subst (AllByRecursion (IsEntryInRange amount_key_cmp (Included (who, 0)) Unbounded rows.amounts)) steps inv.each).1;
      sorted = sorted_rest row c.next.new.self (subst (λ es. IsStrictlySortedBy amount_key_cmp (keys_of es)) steps inv.sorted);
    }

pub loop-key-preserved : goal.loop-key-preserved
loop-key-preserved c =
    let rows = c.args.self.now in
    let who = c.args.who.now in
    let row : AmountKey × ℕ = (c.in-Some.key.now, c.in-Some.amount.now) in
    let steps = c.in-Some.ensures.steps in
    let inv = c.loop-key.invariant in
    record {
      listed = listed_none c.loop-key.goods.items (fungibles_in rows.assets who c.loop-key.key-iterator) (fungibles_in rows.assets who rows.amounts.entries) (fungibles_in rows.assets who c.next.new.self)
          (fungible_held_at (slice_get rows.assets row.0.1) row.1) (sym c.fungible.ensures ∙ none_if c.fungible.result c.in_default.not-Some)
          (ap (fungibles_in rows.assets who) steps ∙ fungibles_next rows.assets who row c.next.new.self (sym c.is.ensures ∙ c.if-not-is.false)) inv.listed;
      each = (subst (AllByRecursion (IsEntryInRange amount_key_cmp (Included (who, 0)) Unbounded rows.amounts)) steps inv.each).1;
      sorted = sorted_rest row c.next.new.self (subst (λ es. IsStrictlySortedBy amount_key_cmp (keys_of es)) steps inv.sorted);
    }

pub returns : goal.returns
returns c =
    let rows = c.args.self.now in
    let who = c.args.who.now in
    let inv = c.loop-key.invariant in
    let all = ap (λ ys. c.loop-key.goods.items ++ ys) (sym (no_fungibles rows.assets who)) ∙ ap (λ es. c.loop-key.goods.items ++ fungibles_in rows.assets who es) (sym c.in-None.ensures.steps.0) ∙ inv.listed in
    subst (IsUnsortedListOf (restriction is_amount (account_goods who (rows_held rows)))) (sym (sym (all_listed c.loop-key.goods.items) ∙ all))
    (fungibles_listed rows.assets c.requires.once rows.amounts.entries rows.owners.entries c.requires.sorted who c.range-key-items.ensures.ordered)
