-- For proofs; a reader of the definitions can leave it out. What an explainer has to say at the end of its lines.
use Rattle.std.specs.Prelude.{◌≡◌, false, []}
use Rattle.std.proofs.Common.{refl, arith, ◌≤◌}
use Rattle.line_serving.specs.Replies.{ends, max_input}
use Rattle.line_serving.specs.declared.status.Status.TheVariants.{Done}
use Rattle.xcm_explain.specs.declared.explainer.Explainer.{Explainer}
use Rattle.xcm_explain.specs.Explanations.{lines_explained, explainer_replies, line_room, IsCounted}

pub nothing_explained : (it : Explainer) → IsCounted it → explainer_replies it false [] ≡ ends [] Done
unfolding lines_explained
nothing_explained it within = refl

pub room_to_begin : (it : Explainer) → IsCounted it → line_room it.taken [] 0
room_to_begin it within = (omega arith, let bytes : it.taken ≤ max_input = within.bytes in omega arith)
