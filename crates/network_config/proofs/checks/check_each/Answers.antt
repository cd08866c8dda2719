use Rattle.std.proofs.Common.{◌≡◌, ◌∙◌, length, sym, arith}
use Rattle.std.proofs.lemmas.Result.{err_from_is_err_and}
use Rattle.document_entries.specs.Forms.{next_index}
use Rattle.network_config.proofs.Checking.{checked, refused, all_checked}
use Rattle.network_config.proofs.checks.check_each.Goals as goal

pub returns-in_err-check_flaws : goal.returns-in_err-check_flaws
returns-in_err-check_flaws g c =
    let p = err_from_is_err_and c.from_residual.result c.from_residual.ensures.1 in
    rw (p.1, p.2) (sym (c.loop-at.invariant ∙ refused _ _ _ _ c.loop-at.at _ _ c.in_err-check_flaws.field-0.0 c.loop-at-test.true c.index-items-at.is (rw (← c.flaws_of-flaws.ensures) (sym c.check_flaws.ensures ∙ c.in_err-check_flaws.was))))

pub loop-at-preserved : goal.loop-at-preserved
loop-at-preserved g c =
    let index : c.saturating_add-index.result ≡ next_index c.loop-at.index = c.saturating_add-index.ensures in
    rw index (c.loop-at.invariant ∙ checked _ _ _ _ c.loop-at.at _ _ c.loop-at-test.true c.index-items-at.is (rw (← c.flaws_of-flaws.ensures) (sym c.check_flaws.ensures ∙ c.in_ok-check_flaws.was)))

pub returns : goal.returns
returns g c = let all : length c.args.items.now ≡ c.loop-at.at = omega arith in sym (c.loop-at.invariant ∙ all_checked _ _ _ _ c.loop-at.at _ _ all)
