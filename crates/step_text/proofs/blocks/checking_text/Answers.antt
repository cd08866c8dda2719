use Rattle.std.proofs.Common.{◌∙◌, ◌++◌, sym, ap, arith, append-nil, string_bytes}
use Rattle.step_text.proofs.Checking.{checking_more, none_left}
use Rattle.step_text.proofs.blocks.checking_text.Goals as goal

pub loop-place-preserved : goal.loop-place-preserved
loop-place-preserved c =
    checking_more c.args.chain c.args.listed.now c.args.checking.now c.loop-place.place c.index-listed-place.result _ _ _ _ (omega arith) (omega arith) c.index-listed-place.is c.in_ok-push_checking.ensures c.loop-place.invariant

pub returns : goal.returns
returns c =
    sym (append-nil (string_bytes c.loop-place.text))
    ∙ ap (λ t. string_bytes c.loop-place.text ++ t) (sym (none_left c.args.chain c.args.listed.now c.args.checking.now c.loop-place.place (omega arith)))
    ∙ c.loop-place.invariant
