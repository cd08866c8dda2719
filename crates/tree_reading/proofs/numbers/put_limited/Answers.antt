use Rattle.std.proofs.Common.{◌∙◌, [], ◌∷◌, ◌++◌, sym, refl}
use Rattle.std.specs.Prelude.{codes}
use Rattle.std.proofs.lemmas.List.{append_cancel_left}
use Rattle.operands.specs.Texts.{weight_text}
use Rattle.xcm_format.specs.Parts.{weight, FitsWeight}
use Rattle.tree_reading.proofs.Behind.{put_behind}
use Rattle.tree_reading.proofs.numbers.put_limited.Goals as goal

pub returns-in_default : goal.returns-in_default
returns-in_default c = λ w fits bytes e. absurd (c.in_default.ensures (weight_text w) e)

pub returns : goal.returns
returns c =
    put_behind FitsWeight (λ w. codes "Limited " ++ weight_text w) (λ w. 1 ∷ weight w) FitsWeight weight_text weight c.args.text.now c.in-Some.weight.now c.put_weight.result c.args.out.now c.put_u8.new.self c.put_weight.new.out
    (λ w fits bytes e. record { value = w; fits = fits; bytes = bytes.1; words = append_cancel_left (codes "Limited ") c.in-Some.weight.now (weight_text w) (sym c.in-Some.ensures ∙ e); front = 1 ∷ []; put = c.in_ok-put_u8.ensures.ok; spelled = refl })
    c.put_weight.ensures
