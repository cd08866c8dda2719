use Rattle.std.proofs.Common.{sym, subst, refl, string_bytes, List, ℕ}
use Rattle.xcm_compose.specs.Answers.{IsAnswer}
use Rattle.xcm_compose.proofs.Steps.{concludes_told, concludes_err}
use Rattle.xcm_compose.proofs.composer.Composer.finish.Goals as goal

pub returns-in-Err-clause-run : goal.returns-in-Err-clause-run
returns-in-Err-clause-run g c = concludes_err c.args.self.now.taken c.args.self.now.tree.items _ _ _ _ refl

pub returns-in-Ok-clause-run : goal.returns-in-Ok-clause-run
returns-in-Ok-clause-run g c =
    let here : IsAnswer c.args.self.now.tree.items (string_bytes c.in-Ok.told) = subst (λ (t : List ℕ). IsAnswer t (string_bytes c.in-Ok.told)) c.as_slice.ensures.value c.in-Ok.ensures in
    let told : IsAnswer c.args.self.now.tree.items c.as_str.result.now = subst (IsAnswer c.args.self.now.tree.items) (sym c.as_str.ensures.value) here in
    concludes_told c.args.self.now.taken c.args.self.now.tree.items c.as_str.result.now _ _ _ told c.write_reply.ensures.run
