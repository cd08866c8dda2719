-- The lines of some bytes are the one way to cut them after each line feed.
use Rattle.std.proofs.Common.{◌≡◌, ◌∙◌, ℕ, zero, suc, inl, inr, List, [], ◌∷◌, ◌++◌, refl, sym, subst, ap, arith, append-nil, append_assoc}
use Rattle.std.proofs.lemmas.Bool.{cases_eq}
use Rattle.std.specs.List.{concat}
use Rattle.input_lines.specs.Lines.{lines_of, onto, HasNoFeed}
use Rattle.input_lines.specs.Meaning.{IsEnded, AreLines}
use Rattle.input_lines.proofs.Lemmas.{at_feed, past_other, no_lines, only_line}

no_feed_cons : (b : ℕ) (bytes : List ℕ) → (b ≡ 10 → ⊥) → HasNoFeed bytes → HasNoFeed (b ∷ bytes)
no_feed_cons b bytes n none zero l e = n e
no_feed_cons b bytes n none (suc k) l e = none k (omega arith) e

ended_onto : (b : ℕ) (line : List ℕ) → (b ≡ 10 → ⊥) → IsEnded line → IsEnded (b ∷ line)
ended_onto b line n (text, is, none) = (b ∷ text, ap (λ r. b ∷ r) is, no_feed_cons b text n none)

ended_cons : (line : List ℕ) (lines : List (List ℕ)) → IsEnded line → AreLines lines → AreLines (line ∷ lines)
ended_cons line [] e a = inl e
ended_cons line (next ∷ lines) e a = (e, a)

no_feed : HasNoFeed []
no_feed k l e = omega arith

onto_lines : (b : ℕ) (lines : List (List ℕ)) → (b ≡ 10 → ⊥) → AreLines lines → AreLines (onto b lines)
onto_lines b [] n a = inr (omega arith, no_feed_cons b [] n no_feed)
onto_lines b (line ∷ []) n (inl e) = inl (ended_onto b line n e)
onto_lines b (line ∷ []) n (inr (l, none)) = inr (omega arith, no_feed_cons b line n none)
onto_lines b (line ∷ next ∷ lines) n (e, a) = (ended_onto b line n e, a)

pub are_lines : (bytes : List ℕ) → AreLines (lines_of bytes)
are_lines [] = subst AreLines (sym (no_lines [] refl)) tt
are_lines (b ∷ rest) = elim (cases_eq b 10) [
  | inl e ↦ subst AreLines (sym (at_feed b rest e)) (ended_cons (b ∷ []) (lines_of rest) ([], ap (λ r. r ∷ []) e, no_feed) (are_lines rest))
  | inr n ↦ subst AreLines (sym (past_other b rest n)) (onto_lines b (lines_of rest) n (are_lines rest))
]

-- an ended line is the first
ended_first : (text more : List ℕ) → HasNoFeed text → lines_of (text ++ 10 ∷ more) ≡ (text ++ 10 ∷ []) ∷ lines_of more
ended_first [] more none = at_feed 10 more refl
ended_first (b ∷ text) more none =
    past_other b (text ++ 10 ∷ more) (none 0 (omega arith)) ∙ ap (onto b) (ended_first text more (λ k l. none (suc k) (omega arith)))

line_first : (line more : List ℕ) → IsEnded line → lines_of (line ++ more) ≡ line ∷ lines_of more
line_first line more (text, is, none) = rw (is, append_assoc) (ended_first text more none)

pub only_cut : (lines : List (List ℕ)) → AreLines lines → lines_of (concat lines) ≡ lines
only_cut [] a = no_lines [] refl
only_cut (line ∷ []) (inl e) = line_first line [] e ∙ ap (λ r. line ∷ r) (no_lines [] refl)
only_cut (line ∷ []) (inr (l, none)) = rw append-nil (only_line line l none)
only_cut (line ∷ next ∷ lines) (e, a) = line_first line (concat (next ∷ lines)) e ∙ ap (λ r. line ∷ r) (only_cut (next ∷ lines) a)
