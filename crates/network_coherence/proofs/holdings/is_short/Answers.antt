use Rattle.std.proofs.Common.{◌∙◌, sym, refl, true≢false}
use Rattle.std.proofs.lemmas.Bool.{eqb-true, eq-eqb}
use Rattle.network_coherence.proofs.Shares.{uncovered_there, nothing_owed, amount_covered}
use Rattle.network_coherence.proofs.holdings.is_short.Goals as goal

pub returns-then-is_zero : goal.returns-then-is_zero
returns-then-is_zero c =
    nothing_owed c.args.spec.now c.args.here.now c.args.row.now _ _ c.context_of-home.ensures refl c.args.reserve.now _ c.amount_at-owed.ensures (eqb-true _ 0 (sym c.is_zero.ensures ∙ c.if-is_zero.true))

pub returns-then-same_kind : goal.returns-then-same_kind
returns-then-same_kind c =
    amount_covered c.args.spec.now c.args.here.now c.args.row.now _ _ c.context_of-home.ensures refl c.args.reserve.now _ _ _ c.amount_for-kept.ensures c.amount_at-owed.ensures
    (λ none. true≢false (sym (eq-eqb _ 0 none) ∙ (sym c.is_zero.ensures ∙ c.if-is_zero.false))) c.is_below.ensures c.if-is_below.false (sym c.same_kind.ensures ∙ c.if-same_kind.true)

pub returns : goal.returns
returns c =
    c.has_uncovered.ensures
    ∙ uncovered_there c.args.spec.now c.args.here.now c.args.row.now _ _ c.context_of-home.ensures c.items.ensures c.args.reserve.now _ _ _ c.amount_for-kept.ensures c.amount_at-owed.ensures c.is_below.ensures c.if-is_below.false
