-- What is found in a list.
use Rattle.std.proofs.Common.{◌≡◌, Bool, true, false, if◌then◌else◌, List, [], ◌∷◌, refl, sym, ap, ◌∙◌}
use Rattle.std.specs.Prelude.{Some}
use Rattle.std.specs.List.{find, list_all}
use Rattle.std.proofs.lemmas.Bool.{and_parts}

pub found_passes : {A : Type 0} (p : A → Bool) (xs : List A) (x : A) → find p xs ≡ Some x → p x ≡ true
found_passes p [] x is = absurd (cc)
found_passes p (y ∷ ys) x is =
    elim (p y) as (λ b. p y ≡ b → (if b then Some y else find p ys) ≡ Some x → p x ≡ true) [
      | true ↦ λ t e. (let same : y ≡ x = cc in ap p (sym same) ∙ t)
      | false ↦ λ t e. found_passes p ys x e
    ] refl is

pub all_found : {A : Type 0} (test p : A → Bool) (xs : List A) (x : A) → list_all test xs ≡ true → find p xs ≡ Some x → test x ≡ true
all_found test p [] x all is = absurd (cc)
all_found test p (y ∷ ys) x all is =
    elim (p y) as (λ b. (if b then Some y else find p ys) ≡ Some x → test x ≡ true) [
      | true ↦ λ e. (let same : y ≡ x = cc in ap test (sym same) ∙ (and_parts (test y) (list_all test ys) all).0)
      | false ↦ λ e. all_found test p ys x (and_parts (test y) (list_all test ys) all).1 e
    ] is
