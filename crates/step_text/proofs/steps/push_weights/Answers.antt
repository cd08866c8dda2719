use Rattle.std.proofs.Common.{◌++◌, codes, string_bytes, ap, ◌∙◌}
use Rattle.operands.specs.Texts.{weight_text}
use Rattle.plain_lists.proofs.Lemmas.Pushed.{when_pushed, five_pieces}
use Rattle.step_text.proofs.steps.push_weights.Goals as goal

pub returns : goal.returns
returns c =
    let surplus = weight_text c.args.surplus in
    let refunded = weight_text c.args.refunded in
    when_pushed c.push_str-3.result _ _ _ _ c.push_str-3.ensures.bytes
    (ap (λ t. t ++ codes "\n") (c.in_ok-push_weight-2.ensures ∙ ap (λ t. t ++ refunded)
    (c.in_ok-push_str-2.ensures.bytes ∙ ap (λ t. t ++ codes " refunded ")
    (c.in_ok-push_weight.ensures ∙ ap (λ t. t ++ surplus) c.in_ok-push_str.ensures.bytes)))
    ∙ five_pieces (string_bytes c.args.text.now) (codes " surplus ") surplus (codes " refunded ") refunded (codes "\n"))
