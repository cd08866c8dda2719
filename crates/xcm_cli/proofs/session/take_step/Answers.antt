use Rattle.std.proofs.Common.{◌≡◌, ◌∙◌, ◌+◌, sym, ap, refl, true, false, []}
use Rattle.network_steps.specs.Genesis.{order_of}
use Rattle.input_lines.specs.Lines.{text_of}
use Rattle.input_lines.specs.Step.{read_line}
use Rattle.chain_net.specs.Nets.{world_of, spec_of}
use Rattle.report_blocks.specs.Asked.{asked_of, Nothing, Asks, Unknown}
use Rattle.report_blocks.specs.Serving.{IsServed}
use Rattle.line_serving.specs.Replies.{fits_limits}
use Rattle.line_serving.proofs.Lemmas.{stays, stops, refuses, writes_on, writes_end}
use Rattle.xcm_cli.proofs.Pieces.{pieces_on, block_stays}
use Rattle.xcm_cli.specs.Pieces.{step_of_block}
use Rattle.xcm_cli.proofs.Advance.{served_nothing, served_block, served_unknown, no_step, block_step, refused_step, long_step}
use Rattle.xcm_cli.proofs.session.take_step.Goals as goal

pub returns-then-not-fits_limits-clause-run : goal.returns-then-not-fits_limits-clause-run
returns-then-not-fits_limits-clause-run g c =
    let long : fits_limits c.args.taken c.args.line.now ≡ false = sym c.fits_limits.ensures ∙ c.if-not-fits_limits.true in
    stops _ _ _ _ _ (λ e. cc) (λ lines. long_step _ _ _ _ _ _ _ _ long)

pub returns-in-Ok-Nothing-clause-run : goal.returns-in-Ok-Nothing-clause-run
returns-in-Ok-Nothing-clause-run g c =
    let within : fits_limits c.args.taken c.args.line.now ≡ true = sym c.fits_limits.ensures ∙ c.if-not-fits_limits.false in
    let told : IsServed c.args.audit (spec_of c.args.net.now) (world_of c.args.net.now) (c.args.done.now + 1) (asked_of c.in-Ok.asked) c.in-Ok-Nothing.field-0 (world_of c.serve.new.net) = c.in-Ok-Nothing.ensures.served in
    let here = served_nothing c.args.audit (spec_of c.args.net.now) (world_of c.args.net.now) (c.args.done.now + 1) (asked_of c.in-Ok.asked) c.in-Ok-Nothing.field-0 (world_of c.serve.new.net) c.in-Ok-Nothing.field-0-is told in
    let asked : asked_of (read_line (text_of c.args.line.now)) ≡ Nothing = ap (λ t. asked_of (read_line t)) (sym c.text_of.ensures) ∙ ap asked_of (sym c.in-Ok.ensures) ∙ here.0 in
    stays _ _ _ _ (λ lines. no_step _ _ _ _ _ _ _ _ _ lines within asked here.1 c.serve.ensures.spec)

pub returns-in-Ok-Block-clause-run : goal.returns-in-Ok-Block-clause-run
returns-in-Ok-Block-clause-run g c =
    let within : fits_limits c.args.taken c.args.line.now ≡ true = sym c.fits_limits.ensures ∙ c.if-not-fits_limits.false in
    let told : IsServed c.args.audit (spec_of c.args.net.now) (world_of c.args.net.now) (c.args.done.now + 1) (asked_of c.in-Ok.asked) c.in-Ok-Block.field-0 (world_of c.serve.new.net) = c.in-Ok-Block.ensures.served in
    let here = served_block c.args.audit (spec_of c.args.net.now) (world_of c.args.net.now) (c.args.done.now + 1) (asked_of c.in-Ok.asked) c.in-Ok-Block.field-0 c.in-Ok-Block.text (world_of c.serve.new.net) c.in-Ok-Block.field-0-is told in
    let asked : asked_of (read_line (text_of c.args.line.now)) ≡ Asks here.0 = ap (λ t. asked_of (read_line t)) (sym c.text_of.ensures) ∙ ap asked_of (sym c.in-Ok.ensures) ∙ here.1 in
    writes_on _ _ _ [] _ _ _ c.write_text.ensures.text
    (λ lines. block_step _ _ _ _ _ _ _ _ here.0 _ _ lines within asked (c.deref.ensures ∙ here.2) here.3 c.serve.ensures.spec)

pub returns-in-Ok-Unknown-clause-run : goal.returns-in-Ok-Unknown-clause-run
returns-in-Ok-Unknown-clause-run g c =
    let within : fits_limits c.args.taken c.args.line.now ≡ true = sym c.fits_limits.ensures ∙ c.if-not-fits_limits.false in
    let told : IsServed c.args.audit (spec_of c.args.net.now) (world_of c.args.net.now) (c.args.done.now + 1) (asked_of c.in-Ok.asked) c.in-Ok-Unknown.field-0 (world_of c.serve.new.net) = c.in-Ok-Unknown.ensures.served in
    let here = served_unknown c.args.audit (spec_of c.args.net.now) (world_of c.args.net.now) (c.args.done.now + 1) (asked_of c.in-Ok.asked) c.in-Ok-Unknown.field-0 (world_of c.serve.new.net) c.in-Ok-Unknown.field-0-is told in
    let asked : asked_of (read_line (text_of c.args.line.now)) ≡ Unknown = ap (λ t. asked_of (read_line t)) (sym c.text_of.ensures) ∙ ap asked_of (sym c.in-Ok.ensures) ∙ here.0 in
    writes_end _ _ _ _ [] _ _ _ c.write_text-in-Ok-Unknown.ensures.text (λ e. cc) (λ e. cc)
    (λ lines. refused_step _ _ _ _ _ _ _ _ lines within asked (c.deref-in-Ok-Unknown.ensures ∙ c.in_ok-text-in-Ok-Unknown.ensures))

pub returns-in-Err-clause-run : goal.returns-in-Err-clause-run
returns-in-Err-clause-run g c = refuses _ _ _ _ _

pub returns-in-Some-clause-run : goal.returns-in-Some-clause-run
returns-in-Some-clause-run g c =
    let step = step_of_block c.in-Some.block in
    let within : fits_limits c.args.taken c.args.line.now ≡ true = sym c.fits_limits.ensures ∙ c.if-not-fits_limits.false in
    let asked : asked_of (read_line (text_of c.args.line.now)) ≡ Asks step =
    ap (λ t. asked_of (read_line t)) (sym c.text_of.ensures) ∙ ap asked_of (sym c.in-Ok.ensures) ∙ c.in-Some.ensures in
    let stays = block_stays (order_of (spec_of c.args.net.now)) (world_of c.args.net.now) c.in-Some.block in
    pieces_on _ _ _ [] _ _ _ _ _ c.write_block.ensures.written
    (λ lines. block_step _ _ _ _ _ _ _ _ step _ _ lines within asked refl (ap world_of c.write_block.ensures.same ∙ stays) (ap spec_of c.write_block.ensures.same))
