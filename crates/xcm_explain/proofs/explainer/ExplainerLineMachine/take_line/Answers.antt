use Rattle.std.proofs.Common.{◌≡◌, ◌∙◌, ◌+◌, sym, ap, true, false, []}
use Rattle.input_lines.specs.Lines.{text_of}
use Rattle.line_serving.specs.Replies.{fits_limits}
use Rattle.line_serving.proofs.Lemmas.{stays, stops, refuses, writes_on, writes_end}
use Rattle.xcm_explain.specs.Lines.{hex_line}
use Rattle.xcm_explain.specs.Blocks.{message_block}
use Rattle.xcm_explain.specs.declared.line.HexLine.TheVariants.{Blank, Bytes, NotHex}
use Rattle.xcm_explain.proofs.Steps.{nothing_here, block_here, refused_here, long_here}
use Rattle.xcm_explain.proofs.explainer.ExplainerLineMachine.take_line.Goals as goal

pub returns-then-not-fits_limits-clause-run : goal.returns-then-not-fits_limits-clause-run
returns-then-not-fits_limits-clause-run g c =
    let long : fits_limits c.args.self.now.taken c.args.line.now ≡ false = sym c.fits_limits.ensures ∙ c.if-not-fits_limits.true in
    stops _ _ _ _ _ (λ e. cc) (λ x. long_here c.args.self.now.lines c.args.self.now.taken c.args.line.now x.1 long)

pub returns-in-Ok-Blank-clause-run : goal.returns-in-Ok-Blank-clause-run
returns-in-Ok-Blank-clause-run g c =
    let within : fits_limits c.args.self.now.taken c.args.line.now ≡ true = sym c.fits_limits.ensures ∙ c.if-not-fits_limits.false in
    let asked : hex_line (text_of c.args.line.now) ≡ Blank = ap hex_line (sym c.text_of.ensures) ∙ (sym c.in-Ok-Blank.ensures ∙ c.in-Ok-Blank.field-0-is) in
    stays _ _ _ _ (λ x. nothing_here c.args.self.now.lines c.args.self.now.taken c.args.line.now x.1 within asked)

pub returns-in_ok-text-in-Ok-Bytes-clause-run : goal.returns-in_ok-text-in-Ok-Bytes-clause-run
returns-in_ok-text-in-Ok-Bytes-clause-run g c =
    let within : fits_limits c.args.self.now.taken c.args.line.now ≡ true = sym c.fits_limits.ensures ∙ c.if-not-fits_limits.false in
    let asked : hex_line (text_of c.args.line.now) ≡ Bytes c.in-Ok-Bytes.bytes = ap hex_line (sym c.text_of.ensures) ∙ (sym c.in-Ok-Bytes.ensures ∙ c.in-Ok-Bytes.field-0-is) in
    writes_on _ _ _ (false, []) _ _ _ c.write_text.ensures.text
    (λ x. block_here c.args.self.now.lines c.args.self.now.taken c.args.line.now x.1 c.in-Ok-Bytes.bytes _ within asked
    (c.deref.ensures ∙ (c.in_ok-text-in-Ok-Bytes.ensures ∙ ap (message_block (c.args.self.now.lines + 1)) c.items.ensures)))

pub returns-in_ok-text-in-Ok-NotHex-clause-run : goal.returns-in_ok-text-in-Ok-NotHex-clause-run
returns-in_ok-text-in-Ok-NotHex-clause-run g c =
    let within : fits_limits c.args.self.now.taken c.args.line.now ≡ true = sym c.fits_limits.ensures ∙ c.if-not-fits_limits.false in
    let asked : hex_line (text_of c.args.line.now) ≡ NotHex = ap hex_line (sym c.text_of.ensures) ∙ (sym c.in-Ok-NotHex.ensures ∙ c.in-Ok-NotHex.field-0-is) in
    writes_end _ _ _ _ (false, []) _ _ _ c.write_text-in-Ok-NotHex.ensures.text (λ e. cc) (λ e. cc)
    (λ x. refused_here c.args.self.now.lines c.args.self.now.taken c.args.line.now x.1 _ within asked (c.deref-in-Ok-NotHex.ensures ∙ c.in_ok-text-in-Ok-NotHex.ensures))

pub returns-in-Err-clause-run : goal.returns-in-Err-clause-run
returns-in-Err-clause-run g c = refuses _ _ _ _ _
