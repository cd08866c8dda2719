-- The instruction of a list that is taken next, and the ones after it, which stay while it is executed in place.
use Rattle.std.proofs.Common.{◌≡◌, ℕ, ◌+◌, ◌-◌, ◌<◌, ◌≤◌, List, [], ◌∷◌, length, drop, take, sym, ap, ◌∙◌, arith, length-drop}
use Rattle.std.specs.Prelude.{slice_index_or, slice_set}
use Rattle.std.proofs.lemmas.List.{drop_more, drop_all, drop-set-lt, take_all}
use Rattle.xcm_program.specs.declared.instruction.Instruction.{Instruction}

pub at_hand : (xs : List Instruction) (k : ℕ) (x : Instruction) → k < length xs → x ≡ slice_index_or xs k x → drop k xs ≡ x ∷ drop (k + 1) xs
at_hand xs k x inside is = drop_more xs k x inside ∙ ap (λ (y : Instruction). y ∷ drop (k + 1) xs) (sym is)

pub behind_stays : (xs ys : List Instruction) (k : ℕ) (x : Instruction) → ys ≡ slice_set xs k x → drop (k + 1) ys ≡ drop (k + 1) xs
behind_stays xs ys k x is = ap (drop (k + 1)) is ∙ drop-set-lt (k + 1) xs k x (omega arith)

-- a slice from there to the end
pub rest_of : (xs : List Instruction) (k : ℕ) → take (length xs - k) (drop k xs) ≡ drop k xs
rest_of xs k = take_all (length xs - k) (drop k xs) (let n = length-drop k xs in omega (arith, n))

pub none_left : (xs : List Instruction) (k : ℕ) → length xs ≤ k → drop k xs ≡ []
none_left xs k past = drop_all k xs past
