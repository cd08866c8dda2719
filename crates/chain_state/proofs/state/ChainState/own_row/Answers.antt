use Rattle.std.proofs.Common.{None, Some, length, ltb-false, sym, ap, ◌∙◌}
use Rattle.std.specs.Prelude.{nat_lt, slice_get}
use Rattle.std.proofs.lemmas.Option.{slice_get-get_or, slice_get_past}
use Rattle.ledgers.specs.Ledgers.{number_in}
use Rattle.trust_tables.specs.Trust.{row_of}
use Rattle.chain_state.proofs.ChainRows.{numbered_row, found_alone}
use Rattle.chain_state.proofs.state.ChainState.own_row.Goals as goal

pub returns-in-Some-get : goal.returns-in-Some-get
returns-in-Some-get c =
    let s = c.args.self.now in
    let a = c.args.asset.now in
    let n = c.in-Some.number in
    let at = numbered_row s.settings.rows s.ledger.listed a s.ledger_lists (Some n) (c.in-Some.ensures.number ∙ ap (λ k. number_in s.ledger.listed (a.id, k)) c.kind.ensures) in
    let row = ap (λ rows. slice_get rows n) (sym c.items.ensures) ∙ slice_get-get_or c.items.result.now n c.in-Some-get.row.now c.in-Some-get.ensures.lookup.3.0 ∙ ap Some (sym c.in-Some-get.ensures.lookup.1) in
    ap (λ rows. row_of rows a) c.from_ref.ensures.value ∙ found_alone s.settings.rows a c.in-Some-get.row.now (sym row ∙ at)

pub returns-in-None-get : goal.returns-in-None-get
returns-in-None-get c =
    let s = c.args.self.now in
    let a = c.args.asset.now in
    let n = c.in-Some.number in
    let at = numbered_row s.settings.rows s.ledger.listed a s.ledger_lists (Some n) (c.in-Some.ensures.number ∙ ap (λ k. number_in s.ledger.listed (a.id, k)) c.kind.ensures) in
    let past = sym (c.in-None-get.ensures.lookup.0 ∙ ap (λ rows. nat_lt n (length rows)) c.items.ensures) in
    sym (slice_get_past s.settings.rows n (ltb-false n (length s.settings.rows) past)) ∙ at

pub returns-in-None : goal.returns-in-None
returns-in-None c =
    let s = c.args.self.now in
    let a = c.args.asset.now in
    numbered_row s.settings.rows s.ledger.listed a s.ledger_lists None (c.in-None.ensures.number ∙ ap (λ k. number_in s.ledger.listed (a.id, k)) c.kind.ensures)
