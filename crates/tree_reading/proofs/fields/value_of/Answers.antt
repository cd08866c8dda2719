use Rattle.std.proofs.Common.{◌≡◌, ◌∙◌, ℕ, List, ◌∷◌, ◌++◌, Option, Some, None, sym, ap}
use Rattle.std.specs.Prelude.{codes, ◌≢◌, MatchOption}
use Rattle.std.specs.Borrow.{Bor}
use Rattle.std.proofs.lemmas.List.{append_cancel_left}
use Rattle.tree_reading.proofs.fields.value_of.Goals as goal

through : (o : Option (Bor (List ℕ))) (words name mid : List ℕ) → words ≡ name ++ mid → MatchOption o ((rest : List ℕ) → mid ≢ codes " " ++ rest) (λ x. mid ≡ codes " " ++ x.now)
    → MatchOption o ((rest : List ℕ) → words ≢ name ++ 32 ∷ rest) (λ x. words ≡ name ++ 32 ∷ x.now)
through None words name mid is h = λ rest e. h rest (append_cancel_left name mid (32 ∷ rest) (sym is ∙ e))
through (Some x) words name mid is h = is ∙ ap (λ t. name ++ t) h

pub returns : goal.returns
returns c = through c.after-2.result c.args.words.now c.args.name.now c.in_ok-after.field-0.now c.in_ok-after.ensures c.after-2.ensures
