use Rattle.std.proofs.Common.{◌≡◌, ◌∙◌, ap, sym, Ok, drop}
use Rattle.xcm_compose.proofs.Cutting.{renamed, over_renamed, err_renamed, gave_renamed}
use Rattle.xcm_compose.proofs.lines.take_pending.Goals as goal

pub returns-in-Ok-clause-run : goal.returns-in-Ok-clause-run
returns-in-Ok-clause-run g c =
    let kept : c.in-Ok.rest.items ≡ drop c.take_lines.new.used c.as_slice.result.now = c.in-Ok.ensures ∙ ap (drop c.take_lines.new.used) (sym c.as_slice.ensures.value) in
    let is_none = c.in-Ok-None.is ∙ ap Ok c.in-Ok-None.field-0-is in
    rw is_none at (renamed c.args.composer.now c.take_lines.new.composer _ _ _ _ _ _ c.take_lines.result c.as_slice.ensures.value kept c.take_lines.ensures.run)

pub returns-in-Err-rest_of-clause-run : goal.returns-in-Err-rest_of-clause-run
returns-in-Err-rest_of-clause-run g c =
    err_renamed c.args.composer.now c.take_lines.new.composer _ _ _ _ _ _ c.take_lines.result _ c.as_slice.ensures.value (c.in-Ok-None.is ∙ ap Ok c.in-Ok-None.field-0-is) c.take_lines.ensures.run

pub returns-in-Ok-Some-clause-run : goal.returns-in-Ok-Some-clause-run
returns-in-Ok-Some-clause-run g c =
    over_renamed c.args.composer.now c.take_lines.new.composer _ _ _ _ _ _ c.take_lines.result c.in-Ok-Some.status c.as_slice.ensures.value (c.in-Ok-Some.is ∙ ap Ok c.in-Ok-Some.field-0-is) c.take_lines.ensures.run

pub returns-in-Err-clause-run : goal.returns-in-Err-clause-run
returns-in-Err-clause-run g c = gave_renamed c.args.composer.now c.take_lines.new.composer _ _ _ _ _ _ c.take_lines.result c.in-Err.refused c.as_slice.ensures.value c.take_lines.ensures.run
