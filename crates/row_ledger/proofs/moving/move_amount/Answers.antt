use Rattle.std.proofs.Common.{◌≡◌, ◌^◌, ◌<◌, None, Some, List, [], ◌∷◌, sym, ap, ◌∙◌, subst, arith}
use Rattle.std.specs.Prelude.{Option}
use Rattle.amounts.specs.Amounts.{amount}
use Rattle.locations.specs.declared.relative.Location.{Location}
use Rattle.asset_lists.specs.declared.units.Asset.{Asset}
use Rattle.asset_lists.specs.declared.units.AssetId.TheVariants.{Concrete}
use Rattle.ledgers.specs.Ledgers.{Transferred}
use Rattle.ledgers.specs.LedgerFaults.{IsTransferable}
use Rattle.row_ledger.specs.Moves.{unit_fault}
use Rattle.row_ledger.proofs.Lemmas.{some_of, is_transferable, moved_as, is_refused, nothing_moved}
use Rattle.row_ledger.proofs.moving.move_amount.Goals as goal

pub returns-in-Some-clause-step : goal.returns-in-Some-clause-step
returns-in-Some-clause-step c =
    let ledger = c.args.ledger.now in
    is_refused ledger (Concrete c.args.id.now) c.args.from.now c.args.to.now c.args.n c.in-Some.fault
    (ap (λ (l : Location). unit_fault ledger.held (Concrete l, None) c.args.from.now c.args.to.now c.args.n) (sym c.copy.ensures.same) ∙ sym c.fault.ensures ∙ c.in-Some.is)

pub returns-then-n-eq0-clause-step : goal.returns-then-n-eq0-clause-step
returns-then-n-eq0-clause-step c = (
  ap (λ (l : Location). unit_fault c.args.ledger.now.held (Concrete l, None) c.args.from.now c.args.to.now c.args.n) (sym c.copy.ensures.same) ∙ sym c.fault.ensures ∙ c.in_default.is,
  sym (nothing_moved c.args.ledger.now (Concrete c.args.id.now) c.args.from.now c.args.to.now c.args.n c.if-n-eq0.true),
)

pub transfer_checked-requires : goal.transfer_checked-requires
transfer_checked-requires c =
    let ledger = c.args.ledger.now in
    let id = Concrete c.args.id.now in
    let none : unit_fault ledger.held (id, None) c.args.from.now c.args.to.now c.args.n ≡ None =
    ap (λ (l : Location). unit_fault ledger.held (Concrete l, None) c.args.from.now c.args.to.now c.args.n) (sym c.copy.ensures.same) ∙ sym c.fault.ensures ∙ c.in_default.is in
    let had : c.amount-had.result ≡ amount ledger.held (c.args.from.now, (id, None)) = c.amount-had.ensures.amount ∙ ap (λ (l : Location). amount ledger.held (c.args.from.now, (Concrete l, None))) c.copy.ensures.same in
    let few = c.amount-had.type_inv in
    let list : c.in_ok-list.list ≡ some_of id c.args.n ∷ [] = c.in_ok-list.ensures ∙ ap (λ (l : Location). some_of (Concrete l) c.args.n ∷ []) c.copy.ensures.same in
    record { able = subst (IsTransferable ledger c.args.from.now c.args.to.now) (sym list) (is_transferable ledger id c.args.from.now c.args.to.now c.args.n (omega (arith, had, few)) none) }

pub returns-clause-step : goal.returns-clause-step
returns-clause-step c =
    let ledger = c.args.ledger.now in
    let id = Concrete c.args.id.now in
    let list : c.in_ok-list.list ≡ some_of id c.args.n ∷ [] = c.in_ok-list.ensures ∙ ap (λ (l : Location). some_of (Concrete l) c.args.n ∷ []) c.copy.ensures.same in (
      ap (λ (l : Location). unit_fault ledger.held (Concrete l, None) c.args.from.now c.args.to.now c.args.n) (sym c.copy.ensures.same) ∙ sym c.fault.ensures ∙ c.in_default.is,
      c.in_ok-transfer_checked.ensures.transferred ∙ ap (λ (x : List Asset). Transferred c.args.from.now c.args.to.now x ledger) list ∙ moved_as ledger id c.args.from.now c.args.to.now c.args.n,
    )
