use Rattle.std.proofs.Common.{ℕ, List, sym, ap, ◌∙◌}
use Rattle.std.specs.Prelude.{Option, Some}
use Rattle.std.specs.Option.{option_map}
use Rattle.transactors.specs.Moves.{deposit_fault}
use Rattle.exec_base.specs.Part.{accounts_of}
use Rattle.exec_base.specs.Host.{deposit_refusal}
use Rattle.chain_state.specs.PartOf.{part_of}
use Rattle.chain_state.specs.Transacting.{error_of, handled_rows}
use Rattle.chain_state.proofs.Transacted.{deposit, refuses}
use Rattle.chain_state.proofs.state.ChainState.check_deposit.Goals as goal

pub returns-in-None : goal.returns-in-None
returns-in-None c =
    let p = part_of c.args.self.now in
    let goods = c.args.goods.now in
    let who = c.args.who.now in
    let law = c.law_of_transactors.ensures.deposit p goods who ∙ ap (λ (o : Option (List ℕ)). option_map error_of (deposit_fault (handled_rows p) (accounts_of p) goods o)) (sym c.account_of-account.ensures) in
    let told = refuses c.args.self.now c.transactors_of-movers.ensures (deposit goods (λ site. c.account_of-account.result)) (deposit_refusal p goods who) law in
    (c.account_of-account.ensures, told ∙ ap (option_map error_of) (sym c.deposit_fault.ensures.fault ∙ c.in-None.is))

pub returns-in-Some : goal.returns-in-Some
returns-in-Some c =
    let p = part_of c.args.self.now in
    let goods = c.args.goods.now in
    let who = c.args.who.now in
    let law = c.law_of_transactors.ensures.deposit p goods who ∙ ap (λ (o : Option (List ℕ)). option_map error_of (deposit_fault (handled_rows p) (accounts_of p) goods o)) (sym c.account_of-account.ensures) in
    let told = refuses c.args.self.now c.transactors_of-movers.ensures (deposit goods (λ site. c.account_of-account.result)) (deposit_refusal p goods who) law in
    told ∙ ap (option_map error_of) (sym c.deposit_fault.ensures.fault ∙ c.in-Some.is) ∙ ap Some (sym c.error_of.ensures)
