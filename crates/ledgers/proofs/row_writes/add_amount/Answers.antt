use Rattle.std.proofs.Common.{◌≡◌, ℕ, ◌+◌, BTreeMap, sym, ap, ◌∙◌, subst, arith}
use Rattle.std.specs.Prelude.{unwrap_or}
use Rattle.ledgers.specs.LedgerRows.{AmountKey, amount_in_row, AreSmall}
use Rattle.ledgers.proofs.RowWriting.{small_insert, written_at}
use Rattle.ledgers.proofs.row_writes.add_amount.Goals as goal

pub overflow_add-have : goal.overflow_add-have
overflow_add-have c =
    let row : c.or_insert-have.result.now ≡ amount_in_row c.args.rows.now.entries (c.args.who.now, c.args.number) =
    c.or_insert-have.ensures.value ∙ ap (λ o. unwrap_or o 0) c.in_ok-rows.ensures.value ∙ ap (λ who. amount_in_row c.args.rows.now.entries (who, c.args.number)) c.of.ensures in
    omega (arith, row, c.requires)

pub returns-clause-wrote : goal.returns-clause-wrote
returns-clause-wrote c =
    let row : c.or_insert-have.result.now ≡ amount_in_row c.args.rows.now.entries (c.args.who.now, c.args.number) =
    c.or_insert-have.ensures.value ∙ ap (λ o. unwrap_or o 0) c.in_ok-rows.ensures.value ∙ ap (λ who. amount_in_row c.args.rows.now.entries (who, c.args.number)) c.of.ensures in
    let v = c.or_insert-have.result.now + c.args.amount in
    written_at c.args.rows.now _ _ (c.rows-3-1.given.1 (sym c.in_ok-rows.ensures.same_map)) c.args.number v _ c.args.who.now c.of.result c.of.ensures (ap (λ n. n + c.args.amount) row) (c.in_ok-rows.ensures.update.0 v).0

pub returns-clause-small : goal.returns-clause-small
returns-clause-small c = λ small.
    let row : c.or_insert-have.result.now ≡ amount_in_row c.args.rows.now.entries (c.args.who.now, c.args.number) =
    c.or_insert-have.ensures.value ∙ ap (λ o. unwrap_or o 0) c.in_ok-rows.ensures.value ∙ ap (λ who. amount_in_row c.args.rows.now.entries (who, c.args.number)) c.of.ensures in
    let v = c.or_insert-have.result.now + c.args.amount in
    subst AreSmall (sym (ap (λ (m : BTreeMap AmountKey ℕ). m.entries) (c.rows-3-1.given.1 (sym c.in_ok-rows.ensures.same_map)) ∙ c.in_ok-rows.ensures.update.1 v))
    (small_insert (c.of.result, c.args.number) v c.args.rows.now.entries (omega (arith, row, c.requires)) small)
