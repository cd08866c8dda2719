-- For the proofs of crates above; a reader of the definitions can leave it out. The lines of some bytes, one by one and together.
use Rattle.std.proofs.Common.{◌≡◌, ◌∙◌, ℕ, suc, ◌+◌, ◌<◌, ◌≤◌, List, [], ◌∷◌, length, get_or, Bool, true, false, cond, if◌then◌else◌, refl, ap, arith, eqb, length-take}
use Rattle.std.proofs.lemmas.Bool.{eq-eqb, ne_eqb, cond-true, cond-false}
use Rattle.std.proofs.lemmas.Slice.Eq.{bytes_eq-Decides}
use Rattle.std.specs.List.{concat}
use Rattle.std.specs.Prelude.{codes}
use Rattle.input_lines.specs.Lines.{lines_of, onto, text_of, ends_network, ends_with, without_last_byte}

-- a line feed is a line of its own before the others
pub at_feed : (b : ℕ) (rest : List ℕ) → b ≡ 10 → lines_of (b ∷ rest) ≡ (b ∷ []) ∷ lines_of rest
unfolding lines_of
at_feed b rest e = cond-true (eqb b 10) _ _ (eq-eqb b 10 e)

-- any other byte goes before the first line
pub past_other : (b : ℕ) (rest : List ℕ) → (b ≡ 10 → ⊥) → lines_of (b ∷ rest) ≡ onto b (lines_of rest)
unfolding lines_of
past_other b rest n = cond-false (eqb b 10) _ _ (ne_eqb b 10 n)

none_left : lines_of [] ≡ []
unfolding lines_of
none_left = refl

-- no byte, no line
pub no_lines : (bytes : List ℕ) → length bytes ≡ 0 → lines_of bytes ≡ []
no_lines [] e = none_left
no_lines (b ∷ rest) e = absurd (omega arith)

-- without a feed there is one line, which lacks its end
pub only_line : (bytes : List ℕ) → 0 < length bytes → ((k : ℕ) → k < length bytes → get_or bytes k 0 ≡ 10 → ⊥) → lines_of bytes ≡ bytes ∷ []
only_line [] l none = absurd (omega arith)
only_line (b ∷ []) l none = past_other b [] (none 0 (omega arith)) ∙ ap (onto b) none_left
only_line (b ∷ c ∷ rest) l none =
    past_other b (c ∷ rest) (none 0 (omega arith)) ∙ ap (onto b) (only_line (c ∷ rest) (omega arith) (λ k h. none (suc k) (omega arith)))

-- a line that ends the network is short
cut_length : (b c : Bool) (line : List ℕ) → length line ≤ length (cond b (cond c (without_last_byte (without_last_byte line)) (without_last_byte line)) line) + 2
cut_length true true line = omega (arith, length-take {A = ℕ})
cut_length true false line = omega (arith, length-take {A = ℕ})
cut_length false c line = omega arith

text_length : (line : List ℕ) → length line ≤ length (text_of line) + 2
unfolding text_of
text_length line = cut_length (ends_with 10 line) (ends_with 13 (without_last_byte line)) line

pub mark_short : (line : List ℕ) → ends_network line ≡ true → length line ≤ 5
mark_short line e =
    let same : text_of line ≡ codes "---" = (bytes_eq-Decides (text_of line) (codes "---")).0 e in
    let size : length (text_of line) ≡ 3 = ap length same in
    omega (arith, text_length line)

-- a byte before the first line comes before all
concat-onto : (b : ℕ) (lines : List (List ℕ)) → concat (onto b lines) ≡ b ∷ concat lines
concat-onto b [] = refl
concat-onto b (line ∷ lines) = refl

-- all lines together are the bytes
pub concat-lines_of : (bytes : List ℕ) → concat (lines_of bytes) ≡ bytes
unfolding lines_of
concat-lines_of [] = refl
concat-lines_of (b ∷ rest) =
    elim (eqb b 10) as (λ v. concat (if v then (b ∷ []) ∷ lines_of rest else onto b (lines_of rest)) ≡ b ∷ rest) [
      | true ↦ ap (λ r. b ∷ r) (concat-lines_of rest)
      | false ↦ concat-onto b (lines_of rest) ∙ ap (λ r. b ∷ r) (concat-lines_of rest)
    ]
