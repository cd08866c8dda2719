-- The first space of some bytes.
use Rattle.std.proofs.Common.{◌≡◌, ◌∙◌, ℕ, zero, suc, ◌+◌, ◌-◌, ◌<◌, List, [], ◌∷◌, length, take, drop, get_or, Some, None, refl, sym, ap, arith, length-drop, add-one, eqb}
use Rattle.std.proofs.lemmas.Bool.{eq-eqb, ne_eqb, cond-true, cond-false}
use Rattle.std.proofs.lemmas.List.{take_all}
use Rattle.std.specs.Option.{option_map}
use Rattle.input_lines.specs.Step.{split_word}

-- a space ends the word before it
pub at_space : (b : ℕ) (rest : List ℕ) → b ≡ 32 → split_word (b ∷ rest) ≡ Some ([], rest)
unfolding split_word
at_space b rest e = cond-true (eqb b 32) _ _ (eq-eqb b 32 e)

-- any other byte goes before the first word
pub past_other : (b : ℕ) (rest : List ℕ) → (b ≡ 32 → ⊥) → split_word (b ∷ rest) ≡ option_map (λ x. (b ∷ x.0, x.1)) (split_word rest)
unfolding split_word
past_other b rest n = cond-false (eqb b 32) _ _ (ne_eqb b 32 n)

none_left : split_word [] ≡ None
unfolding split_word
none_left = refl

-- the first space ends the first word
split_at_suc : (bytes : List ℕ) (i : ℕ) → i < length bytes → get_or bytes i 0 ≡ 32
    → ((k : ℕ) → k < i → get_or bytes k 0 ≡ 32 → ⊥) → split_word bytes ≡ Some (take i bytes, drop (suc i) bytes)
split_at_suc [] i l e before = absurd (omega arith)
split_at_suc (b ∷ rest) zero l e before = at_space b rest e
split_at_suc (b ∷ rest) (suc i) l e before =
    past_other b rest (before 0 (omega arith))
    ∙ ap (option_map (λ x. (b ∷ x.0, x.1))) (split_at_suc rest i (omega arith) e (λ k h. before (suc k) (omega arith)))

pub split_at : (bytes : List ℕ) (i : ℕ) → i < length bytes → get_or bytes i 0 ≡ 32
    → ((k : ℕ) → k < i → get_or bytes k 0 ≡ 32 → ⊥) → Some (take i bytes, take (length bytes - (i + 1)) (drop (i + 1) bytes)) ≡ split_word bytes
split_at bytes i l e before =
    let all : take (length bytes - (i + 1)) (drop (i + 1) bytes) ≡ drop (i + 1) bytes = take_all (length bytes - (i + 1)) (drop (i + 1) bytes) (omega (arith, length-drop {A = ℕ})) in
    rw (all, add-one) (sym (split_at_suc bytes i l e before))

none_of : (bytes : List ℕ) → ((k : ℕ) → k < length bytes → get_or bytes k 0 ≡ 32 → ⊥) → split_word bytes ≡ None
none_of [] none = none_left
none_of (b ∷ rest) none =
    past_other b rest (none 0 (omega arith)) ∙ ap (option_map (λ x. (b ∷ x.0, x.1))) (none_of rest (λ k h. none (suc k) (omega arith)))

-- without a space there is nothing to split
pub no_split : (bytes : List ℕ) → ((k : ℕ) → k < length bytes → get_or bytes k 0 ≡ 32 → ⊥) → None ≡ split_word bytes
no_split bytes none = sym (none_of bytes none)
