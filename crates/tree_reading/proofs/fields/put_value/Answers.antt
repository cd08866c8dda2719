use Rattle.std.proofs.Common.{◌≡◌, ◌∙◌, ℕ, List, ◌∷◌, sym, subst}
use Rattle.std.proofs.lemmas.List.{append_cancel_left}
use Rattle.tree_reading.specs.Kinds.{Says}
use Rattle.tree_reading.proofs.fields.put_value.Goals as goal

pub returns-in-Some : goal.returns-in-Some
returns-in-Some c = λ value said e s.
    let rest : 32 ∷ c.in-Some.text.now ≡ 32 ∷ value = append_cancel_left c.args.name.now (32 ∷ c.in-Some.text.now) (32 ∷ value) (sym c.in-Some.ensures ∙ e) in
    let same : value ≡ c.in-Some.text.now = cc rest in
    c.put_text.ensures said (subst (λ (t : List ℕ). Says c.args.form.version c.args.kind t said) same s)
