use Rattle.std.proofs.Common.{◌-◌, refl, sym, ap, ◌∙◌, if◌then◌else◌}
use Rattle.exec_base.specs.Host.{changed_all, receive_refusal, received}
use Rattle.chain_state.specs.PartOf.{part_of}
use Rattle.chain_state.proofs.state.ChainState.receive.Goals as goal
use Rattle.plain_lists.proofs.Lemmas.Facts.{none_if}

pub returns-in-Some : goal.returns-in-Some
returns-in-Some c =
    let p = part_of c.args.self.now in
    record { step = (ap (λ xs. receive_refusal p xs c.args.from.now c.args.teleport) (sym c.items.ensures.value) ∙ sym c.receive_fault.ensures ∙ c.in-Some.is, refl) }

pub returns : goal.returns
unfolding received
returns c =
    let p = part_of c.args.self.now in
    record {
      step = (
        ap (λ xs. receive_refusal p xs c.args.from.now c.args.teleport) (sym c.items.ensures.value) ∙ sym c.receive_fault.ensures ∙ none_if c.receive_fault.result c.in_default.not-Some,
        c.in_ok-goods.ensures.goods,
        c.lower_for.ensures
            ∙ (λ i. record (c.in_ok-goods.ensures.ended i) { checking = if c.args.teleport then changed_all (λ n a. n - a) (c.items-2.ensures.value i) (c.in_ok-goods.ensures.ended i).rows (c.in_ok-goods.ensures.ended i).checking else (c.in_ok-goods.ensures.ended i).checking }),
      );
    }
