use Rattle.amounts.specs.Amounts.{restriction}
use Rattle.ledgers.specs.Ledgers.{account_goods}
use Rattle.ledgers.specs.RowState.{rows_held}
use Rattle.std.proofs.Common.{ℕ, List, ◌++◌, sym, ap, ◌∙◌, subst}
use Rattle.std.specs.Prelude.{Option, slice_get, not}
use Rattle.ledgers.specs.LedgerRows.{OwnerKey, owned}
use Rattle.ledgers.specs.AccountGoods.{IsUnsortedListOf, is_amount, instance_held_at}
use Rattle.ledgers.proofs.AccountGoods.{instances_from, instances_next, listed_more, listed_none, instances_listed, no_instances, all_listed}
use Rattle.ledgers.proofs.rows.Rows.instances.Goals as goal
use Rattle.plain_lists.proofs.Lemmas.Facts.{none_if}

pub loop-key-preserved-in-Continue-1 : goal.loop-key-preserved-in-Continue-1
loop-key-preserved-in-Continue-1 c =
    let rows = c.args.self.now in
    let who = c.args.who.now in
    let row : OwnerKey × Option (List ℕ) = (c.in-Some.key.now, c.in-Some.owner.now) in
    ap (λ xs. xs ++ instances_from rows.assets who c.next.new.self) c.in_ok-push.ensures.items
    ∙ listed_more c.loop-key.goods.items c.in-Some-instance.asset (instances_from rows.assets who c.loop-key.key-iterator) (instances_from rows.assets who rows.owners.entries) (instances_from rows.assets who c.next.new.self)
    (instance_held_at (slice_get rows.assets c.in-Some.key.now.0) c.in-Some.key.now.1 (owned who c.in-Some.owner.now)) (sym c.in-Some-instance.ensures)
    (ap (instances_from rows.assets who) c.in-Some.ensures.steps ∙ instances_next rows.assets who row c.next.new.self) c.loop-key.invariant

pub loop-key-preserved : goal.loop-key-preserved
loop-key-preserved c =
    let rows = c.args.self.now in
    let who = c.args.who.now in
    let row : OwnerKey × Option (List ℕ) = (c.in-Some.key.now, c.in-Some.owner.now) in
    listed_none c.loop-key.goods.items (instances_from rows.assets who c.loop-key.key-iterator) (instances_from rows.assets who rows.owners.entries) (instances_from rows.assets who c.next.new.self)
    (instance_held_at (slice_get rows.assets c.in-Some.key.now.0) c.in-Some.key.now.1 (owned who c.in-Some.owner.now)) (sym c.instance.ensures ∙ none_if c.instance.result c.in_default.not-Some)
    (ap (instances_from rows.assets who) c.in-Some.ensures.steps ∙ instances_next rows.assets who row c.next.new.self) c.loop-key.invariant

pub returns : goal.returns
returns c =
    let rows = c.args.self.now in
    let who = c.args.who.now in
    let all = ap (λ ys. c.loop-key.goods.items ++ ys) (sym (no_instances rows.assets who)) ∙ ap (λ es. c.loop-key.goods.items ++ instances_from rows.assets who es) (sym c.in-None.ensures.steps.0) ∙ c.loop-key.invariant in
    subst (IsUnsortedListOf (restriction (λ unit. not (is_amount unit)) (account_goods who (rows_held rows)))) (sym (sym (all_listed c.loop-key.goods.items) ∙ all))
    (instances_listed rows.assets c.requires.once rows.amounts.entries rows.owners.entries c.requires.sorted who)
