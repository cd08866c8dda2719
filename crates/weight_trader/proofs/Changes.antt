-- What is found in a list, and a list made of the parts that its elements give.
use Rattle.std.proofs.Common.{◌≡◌, ℕ, suc, ◌+◌, ◌<◌, Bool, true, false, cond, List, [], ◌∷◌, ◌++◌, length, get_or, drop, Some, refl, sym, ap, ◌∙◌, subst, add-one, drop-cons}
use Rattle.std.specs.List.{find, AllByRecursion}

-- what is found passes the test, and what all have it has
pub found_passes : {X : Type 0} (p : X → Bool) (P : X → Type 0) (xs : List X) (x : X) → AllByRecursion P xs → find p xs ≡ Some x → (p x ≡ true) × P x
found_passes p P [] x all e = absurd (cc)
found_passes p P (y ∷ ys) x all e =
    elim (p y) as (λ b. p y ≡ b → cond b (Some y) (find p ys) ≡ Some x → (p x ≡ true) × P x) [
      | true ↦ λ t f. (let same : y ≡ x = cc in subst (λ z. (p z ≡ true) × P z) same (t, all.0))
      | false ↦ λ t f. found_passes p P ys x all.1 f
    ] refl e

-- a list made of the parts that its elements give, as far as the loop has come
module _ {X Y : Type 0} (F : List X → List Y) (g : X → List Y) (cons : (x : X) (xs : List X) → F (x ∷ xs) ≡ g x ++ F xs) where
  appended : (xs ys zs : List Y) → (xs ++ ys) ++ zs ≡ xs ++ (ys ++ zs)
  appended [] ys zs = refl
  appended (x ∷ xs) ys zs = ap (λ us. x ∷ us) (appended xs ys zs)

  pub made_more : (xs : List X) (k : ℕ) (x : X) (done more whole : List Y) → k < length xs → x ≡ get_or xs k x → more ≡ done ++ g x
      → done ++ F (drop k xs) ≡ whole → more ++ F (drop (k + 1) xs) ≡ whole
  made_more xs k x done more whole lt at grown so_far =
      let rest : F (drop k xs) ≡ g (get_or xs k x) ++ F (drop (k + 1) xs) = rw (add-one, drop-cons xs k x) (cons (get_or xs k x) (drop (suc k) xs)) in
      ap (λ ys. ys ++ F (drop (k + 1) xs)) grown ∙ appended done (g x) (F (drop (k + 1) xs))
      ∙ ap (λ (y : X). done ++ (g y ++ F (drop (k + 1) xs))) at ∙ sym (ap (λ ys. done ++ ys) rest) ∙ so_far
