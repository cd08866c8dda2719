use Rattle.std.proofs.Common.{◌≡◌, ◌∙◌, ℕ, ◌+◌, List, ◌∷◌, ◌++◌, sym, subst}
use Rattle.std.proofs.lemmas.List.{append_cancel_left}
use Rattle.tree_reading.specs.FieldRows.{SaysAnswer}
use Rattle.tree_reading.proofs.fields.put_response.Goals as goal

pub returns-in-Some-clause-reads : goal.returns-in-Some-clause-reads
returns-in-Some-clause-reads c = λ value below said rest are says outside e.
    let t = c.in_ok-words.ensures.found (c.args.name.now ++ 32 ∷ value) (below ++ rest) are e in
    let behind : 32 ∷ c.in-Some.text.now ≡ 32 ∷ value = append_cancel_left c.args.name.now (32 ∷ c.in-Some.text.now) (32 ∷ value) (sym c.in-Some.ensures ∙ t.0) in
    let same : value ≡ c.in-Some.text.now = cc behind in
    c.put_answer.ensures.reads below said rest (subst (λ (w : List ℕ). SaysAnswer c.args.form.version (c.args.level + 1) w below said) same says) outside t.1
