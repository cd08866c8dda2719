use Rattle.std.proofs.Common.{◌≡◌, ◌∙◌, sym, ap, true, false, refl}
use Rattle.xcm_compose.specs.Replies.{goes_on, IsReplyOf}
use Rattle.xcm_compose.proofs.Steps.{goes_with, refuses, begins_next}
use Rattle.xcm_compose.proofs.composer.Composer.take_text.Goals as goal

pub returns-then-not-goes_on-clause-run : goal.returns-then-not-goes_on-clause-run
returns-then-not-goes_on-clause-run g c =
    let off : goes_on c.args.self.now.tree.items c.args.text.now ≡ false = ap (λ t. goes_on t c.args.text.now) (sym c.as_slice.ensures.value) ∙ sym c.goes_on.ensures ∙ c.if-not-goes_on.true in
    begins_next _ c.args.self.now.tree.items c.args.text.now _ _ _ _ c.begin.result off c.begin.ensures.taken c.begin.ensures.tree c.begin.ensures.told (λ e. ap g.O.Sink.written (c.begin.ensures.untold e))

pub returns-in-Ok-clause-run : goal.returns-in-Ok-clause-run
returns-in-Ok-clause-run g c =
    let on : goes_on c.args.self.now.tree.items c.args.text.now ≡ true = ap (λ t. goes_on t c.args.text.now) (sym c.as_slice.ensures.value) ∙ sym c.goes_on.ensures ∙ c.if-not-goes_on.false in
    goes_with _ c.args.self.now.tree.items c.args.text.now _ _ _ on c.go_on.ensures.taken c.in-Ok.ensures.tree

pub returns-in-Err-clause-run : goal.returns-in-Err-clause-run
returns-in-Err-clause-run g c = refuses _ c.args.self.now.tree.items c.args.text.now (λ lines. IsReplyOf c.go_on.new.self lines) _ _ _ refl
