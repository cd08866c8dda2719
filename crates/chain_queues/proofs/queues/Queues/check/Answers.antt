use Rattle.std.proofs.Common.{◌≡◌, sym, ap, ◌∙◌, subst}
use Rattle.std.specs.Prelude.{None, Some, OnOk, IfErr}
use Rattle.chain_queues.specs.Queues.{push_refusal}
use Rattle.chain_queues.proofs.Places.{nowhere, somewhere}
use Rattle.chain_queues.proofs.queues.Queues.check.Goals as goal

pub returns-in-None-clause-refused : goal.returns-in-None-clause-refused
returns-in-None-clause-refused c =
    ap (push_refusal c.args.size) (nowhere c.args.to c.args.self.now.list.items (sym c.place_to.ensures ∙ c.in-None.is))

pub returns-in-Some : goal.returns-in-Some
returns-in-Some c =
    let some = somewhere c.args.to c.args.self.now.list.items c.in-Some.place _ (sym c.place_to.ensures ∙ c.in-Some.is) c.index.ensures in
    record {
      taken = subst (λ o. OnOk c.check.result (push_refusal c.args.size o ≡ None)) (sym some) c.check.ensures.taken;
      refused = subst (λ o. IfErr c.check.result (λ fault. push_refusal c.args.size o ≡ Some fault)) (sym some) c.check.ensures.refused;
    }
