use Rattle.std.proofs.Common.{◌≡◌, sym, ap, ◌∙◌, if◌then◌else◌}
use Rattle.std.specs.Prelude.{None}
use Rattle.exec_base.specs.Host.{first_fault, trust_fault, raise_fault, is_teleport}
use Rattle.chain_state.specs.PartOf.{part_of}
use Rattle.chain_state.proofs.First.{refused_first, passed_first}
use Rattle.chain_state.proofs.state.ChainState.leave_refusal.Goals as goal
use Rattle.plain_lists.proofs.Lemmas.Facts.{none_if}

pub returns-in-Some : goal.returns-in-Some
returns-in-Some c =
    let p = part_of c.args.self.now in
    let list = c.args.list.now in
    sym (refused_first _ (if is_teleport c.args.way then first_fault (raise_fault p) list else None) c.in-Some.error
    (ap (λ b. first_fault (trust_fault p c.args.dest.now b) list) (sym c.is_teleport-teleport.ensures) ∙ sym c.trust_refusal.ensures ∙ c.in-Some.is))

pub returns-then-teleport : goal.returns-then-teleport
returns-then-teleport c =
    let p = part_of c.args.self.now in
    let list = c.args.list.now in
    let trusts : first_fault (trust_fault p c.args.dest.now (is_teleport c.args.way)) list ≡ None =
    ap (λ b. first_fault (trust_fault p c.args.dest.now b) list) (sym c.is_teleport-teleport.ensures) ∙ sym c.trust_refusal.ensures ∙ none_if c.trust_refusal.result c.in_default.not-Some in
    c.raise_refusal.ensures
    ∙ sym (passed_first _ (if is_teleport c.args.way then first_fault (raise_fault p) list else None) trusts
    ∙ ap (λ b. if b then first_fault (raise_fault p) list else None) (sym c.is_teleport-teleport.ensures ∙ c.if-teleport.true))

pub returns : goal.returns
returns c =
    let p = part_of c.args.self.now in
    let list = c.args.list.now in
    let trusts : first_fault (trust_fault p c.args.dest.now (is_teleport c.args.way)) list ≡ None =
    ap (λ b. first_fault (trust_fault p c.args.dest.now b) list) (sym c.is_teleport-teleport.ensures) ∙ sym c.trust_refusal.ensures ∙ none_if c.trust_refusal.result c.in_default.not-Some in
    sym (passed_first _ (if is_teleport c.args.way then first_fault (raise_fault p) list else None) trusts
    ∙ ap (λ b. if b then first_fault (raise_fault p) list else None) (sym c.is_teleport-teleport.ensures ∙ c.if-teleport.false))
