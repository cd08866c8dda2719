use Rattle.std.proofs.Common.{ℕ, List, sym, ap, ◌∙◌}
use Rattle.std.specs.Prelude.{Option, Some}
use Rattle.std.specs.Option.{option_map}
use Rattle.transactors.specs.Moves.{transfer_fault}
use Rattle.exec_base.specs.Part.{accounts_of}
use Rattle.exec_base.specs.Host.{transfer_refusal}
use Rattle.chain_state.specs.PartOf.{part_of}
use Rattle.chain_state.specs.Transacting.{error_of, handled_rows, kept_floors}
use Rattle.chain_state.proofs.Transacted.{transfer, refuses}
use Rattle.chain_state.proofs.state.ChainState.check_transfer.Goals as goal

pub returns-in-None : goal.returns-in-None
returns-in-None c =
    let p = part_of c.args.self.now in
    let list = c.args.list.now in
    let from = c.args.from.now in
    let to = c.args.to.now in
    let fault = λ (giver taker : Option (List ℕ)). option_map error_of (transfer_fault (handled_rows p) (kept_floors p) (accounts_of p) list giver taker) in
    let law = c.law_of_transactors.ensures.transfer p list from to ∙ (λ i. fault (sym c.account_of-giver.ensures i) (sym c.account_of-taker.ensures i)) in
    let told = refuses c.args.self.now c.transactors_of-movers.ensures (transfer list (λ site. c.account_of-giver.result) (λ site. c.account_of-taker.result)) (transfer_refusal p list from to) law in
    (c.account_of-giver.ensures, c.account_of-taker.ensures, told ∙ ap (option_map error_of) (sym c.transfer_fault.ensures.fault ∙ c.in-None.is))

pub returns-in-Some : goal.returns-in-Some
returns-in-Some c =
    let p = part_of c.args.self.now in
    let list = c.args.list.now in
    let from = c.args.from.now in
    let to = c.args.to.now in
    let fault = λ (giver taker : Option (List ℕ)). option_map error_of (transfer_fault (handled_rows p) (kept_floors p) (accounts_of p) list giver taker) in
    let law = c.law_of_transactors.ensures.transfer p list from to ∙ (λ i. fault (sym c.account_of-giver.ensures i) (sym c.account_of-taker.ensures i)) in
    let told = refuses c.args.self.now c.transactors_of-movers.ensures (transfer list (λ site. c.account_of-giver.result) (λ site. c.account_of-taker.result)) (transfer_refusal p list from to) law in
    told ∙ ap (option_map error_of) (sym c.transfer_fault.ensures.fault ∙ c.in-Some.is) ∙ ap Some (sym c.error_of.ensures)
