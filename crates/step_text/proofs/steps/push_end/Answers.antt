use Rattle.std.proofs.Common.{◌++◌, codes, string_bytes, ap, ◌∙◌}
use Rattle.step_text.specs.Steps.{event_line, weights_text}
use Rattle.step_text.specs.Texts.{origin_text, topic_text}
use Rattle.plain_lists.proofs.Lemmas.Pushed.{when_written, five_pieces}
use Rattle.step_text.proofs.steps.push_end.Goals as goal

pub returns : goal.returns
unfolding event_line
returns c =
    let origin = origin_text c.args.origin.now in
    let topic = topic_text c.args.topic.now in
    let weights = weights_text c.args.surplus c.args.refunded in
    when_written c.push_weights.result _ _ _ c.push_weights.ensures
    (ap (λ t. t ++ weights) (c.in_ok-push_topic.ensures ∙ ap (λ t. t ++ topic)
    (c.in_ok-push_str-2.ensures.bytes ∙ ap (λ t. t ++ codes " topic ")
    (c.in_ok-push_origin.ensures ∙ ap (λ t. t ++ origin) c.in_ok-push_str.ensures.bytes)))
    ∙ five_pieces (string_bytes c.args.text.now) (codes "  end origin ") origin (codes " topic ") topic weights)
