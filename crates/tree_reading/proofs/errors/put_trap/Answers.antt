use Rattle.std.proofs.Common.{◌≡◌, ◌∙◌, [], ◌∷◌, ◌++◌, refl, sym, ap, lit<, arith, append_assoc}
use Rattle.std.specs.Prelude.{codes, decimal}
use Rattle.std.proofs.lemmas.List.{append_cancel_right}
use Rattle.std.proofs.lemmas.Str.Pattern.{strip_suffix_char}
use Rattle.scale_codec.specs.Spelling.{fixed}
use Rattle.tree_reading.proofs.errors.put_trap.Goals as goal

pub returns-in_default : goal.returns-in_default
returns-in_default c = λ n fits bytes e.
    let none = rw c.in_default.is at (strip_suffix_char 41 c.args.text.now c.strip_suffix.result c.strip_suffix.ensures.cases (lit< tt)) in
    absurd (none (decimal n) e)

pub returns-in_default-number_of : goal.returns-in_default-number_of
returns-in_default-number_of c = λ n fits bytes e.
    let some = rw c.in-Some.is at (strip_suffix_char 41 c.args.text.now c.strip_suffix.result c.strip_suffix.ensures.cases (lit< tt)) in
    absurd (cc (c.in_default-number_of.is, c.number_of.ensures n (omega (arith, fits)) (append_cancel_right c.in-Some.digits.now (decimal n) (codes ")") (sym some ∙ e))))

pub returns : goal.returns
returns c = λ n fits bytes e.
    let some = rw c.in-Some.is at (strip_suffix_char 41 c.args.text.now c.strip_suffix.result c.strip_suffix.ensures.cases (lit< tt)) in
    let same : c.in-Some-number_of.code ≡ n = cc (c.in-Some-number_of.is, c.number_of.ensures n (omega (arith, fits)) (append_cancel_right c.in-Some.digits.now (decimal n) (codes ")") (sym some ∙ e))) in
    (refl, c.in_ok-put_u64.ensures.ok ∙ ap (λ t. t ++ fixed 8 c.in-Some-number_of.code) c.in_ok-put_u8.ensures.ok ∙ ap (λ k. (c.args.out.now ++ 21 ∷ []) ++ fixed 8 k) same ∙ append_assoc c.args.out.now (21 ∷ []) (fixed 8 n))
