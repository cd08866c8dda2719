use Rattle.std.proofs.Common.{◌≡◌, ℕ, zero, suc, ◌<◌, ◌≤◌, List, [], ◌∷◌, length, map, get_or, Bor, refl, arith}
use Rattle.xcm_program.proofs.names.text_at.Goals as goal

-- the text that the reference at an index leads to
now_at : (xs : List (Bor (List ℕ))) (i : ℕ) (d : Bor (List ℕ)) → i < length xs → (get_or xs i d).now ≡ get_or (map (λ (b : Bor (List ℕ)). b.now) xs) i []
now_at [] i d l = absurd (omega arith)
now_at (x ∷ xs) zero d l = refl
now_at (x ∷ xs) (suc i) d l = now_at xs i d (omega arith)

past_end : (xs : List (Bor (List ℕ))) (i : ℕ) → length xs ≤ i → [] ≡ get_or (map (λ (b : Bor (List ℕ)). b.now) xs) i []
past_end [] i l = refl
past_end (x ∷ xs) zero l = absurd (omega arith)
past_end (x ∷ xs) (suc i) l = past_end xs i (omega arith)

pub returns-then-place-texts : goal.returns-then-place-texts
returns-then-place-texts c = past_end c.args.texts.now c.args.place (omega arith)

pub returns : goal.returns
returns c = now_at c.args.texts.now c.args.place _ (omega arith)
