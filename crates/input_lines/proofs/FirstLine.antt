-- The first line of some bytes: where it ends.
use Rattle.std.proofs.Common.{◌≡◌, ◌∙◌, ℕ, zero, suc, ◌+◌, ◌<◌, List, [], ◌∷◌, ◌++◌, length, take, drop, get_or, ap, arith, add-one}
use Rattle.input_lines.specs.Lines.{lines_of, onto}
use Rattle.input_lines.proofs.Lemmas.{at_feed, past_other}

-- the first feed ends the first line, whatever comes after
pub first_line_suc : (bytes more : List ℕ) (i : ℕ) → i < length bytes → get_or bytes i 0 ≡ 10
    → ((k : ℕ) → k < i → get_or bytes k 0 ≡ 10 → ⊥) → lines_of (bytes ++ more) ≡ take (suc i) bytes ∷ lines_of (drop (suc i) bytes ++ more)
first_line_suc [] more i l e before = absurd (omega arith)
first_line_suc (b ∷ rest) more zero l e before = at_feed b (rest ++ more) e
first_line_suc (b ∷ rest) more (suc i) l e before =
    past_other b (rest ++ more) (before 0 (omega arith))
    ∙ ap (onto b) (first_line_suc rest more i (omega arith) e (λ k h. before (suc k) (omega arith)))

pub first_line : (bytes more : List ℕ) (i : ℕ) → i < length bytes → get_or bytes i 0 ≡ 10
    → ((k : ℕ) → k < i → get_or bytes k 0 ≡ 10 → ⊥) → lines_of (bytes ++ more) ≡ take (i + 1) bytes ∷ lines_of (drop (i + 1) bytes ++ more)
first_line bytes more i l e before = rw add-one (first_line_suc bytes more i l e before)
