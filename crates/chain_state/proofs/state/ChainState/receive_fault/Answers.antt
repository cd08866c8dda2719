use Rattle.std.proofs.Common.{◌≡◌, sym, ap, ◌∙◌, if◌then◌else◌}
use Rattle.std.specs.Prelude.{None}
use Rattle.exec_base.specs.Host.{first_fault, trust_fault, lower_fault, receive_refusal}
use Rattle.chain_state.specs.PartOf.{part_of}
use Rattle.chain_state.proofs.First.{refused_first, passed_first}
use Rattle.chain_state.proofs.state.ChainState.receive_fault.Goals as goal
use Rattle.plain_lists.proofs.Lemmas.Facts.{none_if}

pub returns-in-Some : goal.returns-in-Some
unfolding receive_refusal
returns-in-Some c =
    let p = part_of c.args.self.now in
    sym (refused_first _ (if c.args.teleport then first_fault (lower_fault p) c.args.list.now else None) c.in-Some.error (sym c.trust_refusal.ensures ∙ c.in-Some.is))

pub returns-then-teleport : goal.returns-then-teleport
unfolding receive_refusal
returns-then-teleport c =
    let p = part_of c.args.self.now in
    let trusts : first_fault (trust_fault p c.args.from.now c.args.teleport) c.args.list.now ≡ None = sym c.trust_refusal.ensures ∙ none_if c.trust_refusal.result c.in_default.not-Some in
    c.lower_refusal.ensures
    ∙ sym (passed_first _ (if c.args.teleport then first_fault (lower_fault p) c.args.list.now else None) trusts ∙ ap (λ b. if b then first_fault (lower_fault p) c.args.list.now else None) c.if-teleport.true)

pub returns : goal.returns
unfolding receive_refusal
returns c =
    let p = part_of c.args.self.now in
    let trusts : first_fault (trust_fault p c.args.from.now c.args.teleport) c.args.list.now ≡ None = sym c.trust_refusal.ensures ∙ none_if c.trust_refusal.result c.in_default.not-Some in
    sym (passed_first _ (if c.args.teleport then first_fault (lower_fault p) c.args.list.now else None) trusts ∙ ap (λ b. if b then first_fault (lower_fault p) c.args.list.now else None) c.if-teleport.false)
