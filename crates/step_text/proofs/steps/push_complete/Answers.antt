use Rattle.std.proofs.Common.{◌++◌, codes, string_bytes, ap, ◌∙◌}
use Rattle.operands.specs.Texts.{weight_text}
use Rattle.plain_lists.proofs.Lemmas.Pushed.{when_pushed, three_pieces}
use Rattle.step_text.proofs.steps.push_complete.Goals as goal

pub returns : goal.returns
returns c =
    when_pushed c.push_str-2.result _ _ _ _ c.push_str-2.ensures.bytes
    (ap (λ t. t ++ codes "\n") (c.in_ok-push_weight.ensures ∙ ap (λ t. t ++ weight_text c.args.used) c.in_ok-push_str.ensures.bytes)
    ∙ three_pieces (string_bytes c.args.text.now) (codes "  = complete ") (weight_text c.args.used) (codes "\n"))
