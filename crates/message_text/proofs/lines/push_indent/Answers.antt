use Rattle.std.proofs.Common.{◌++◌, codes, string_bytes, ap, sym, ◌∙◌, add-one, arith, append_assoc}
use Rattle.message_text.specs.Lines.{indent}
use Rattle.message_text.proofs.Indents.{indent-next}
use Rattle.message_text.proofs.lines.push_indent.Goals as goal

pub loop-preserved : goal.loop-preserved
loop-preserved c =
    let old = string_bytes c.args.text.now in
    let n = c.loop.counter in
    c.in_ok-push_str.ensures.bytes ∙ ap (λ t. t ++ codes "  ") c.loop.invariant
    ∙ append_assoc old (indent n) (codes "  ")
    ∙ ap (λ t. old ++ t) (indent-next n ∙ sym (ap indent (add-one n)))

pub returns : goal.returns
returns c =
    let past = c.loop-test.false in
    let within = c.loop.auto.counter-end in
    c.loop.invariant ∙ ap (λ n. string_bytes c.args.text.now ++ indent n) (omega (arith, past, within))
