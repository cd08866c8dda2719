-- A network part that passes its limit, whatever comes of the line that is begun.
use Rattle.std.proofs.Common.{◌≡◌, ◌∙◌, ◌⊎◌, inl, inr, ◌<◌, ◌+◌, ◌-◌, ℕ, zero, suc, Bool, true, false, cond, eqb, ◌&&◌, Global, List, [], ◌∷◌, ◌++◌, length, take, get_or, refl, ap, arith, length-append}
use Rattle.std.proofs.lemmas.Bool.{eqb-true}
use Rattle.std.proofs.lemmas.Bool.Decides.{nat_tests}
use Rattle.std.specs.Prelude.{nat_lt, nat_eq, Vec, codes}
use Rattle.std.specs.List.{starts_with}
use Rattle.std.proofs.lemmas.Slice.Eq.{bytes_eq-Decides}
use Rattle.input_lines.specs.Lines.{lines_of, HasNoFeed, ends_network, text_of, without_last_byte, ends_with}
use Rattle.line_serving.specs.Replies.{ends}
use Rattle.line_serving.proofs.Lemmas.{begins}
use Rattle.line_serving.specs.declared.status.Status.TheVariants.{TooLong}
use Rattle.xcm_cli.specs.declared.phase.Session.{Session}
use Rattle.xcm_cli.specs.declared.phase.Phase.TheVariants.{Network}
use Rattle.xcm_cli.specs.Report.{max_network}
use Rattle.xcm_cli.specs.Session.{reply_at}
use Rattle.xcm_cli.proofs.Advance.{line_over}

-- ---- a line that begins so can't end the network part

-- a list without its last item, and that item
snoc_at : (line : List ℕ) (k : ℕ) → length line ≡ suc k → line ≡ take k line ++ get_or line k 0 ∷ []
snoc_at [] k e = absurd (omega arith)
snoc_at (b ∷ []) zero e = refl
snoc_at (b ∷ []) (suc k) e = absurd (omega arith)
snoc_at (b ∷ c ∷ rest) zero e = absurd (omega arith)
snoc_at (b ∷ c ∷ rest) (suc k) e = ap (λ xs. b ∷ xs) (snoc_at (c ∷ rest) k (omega arith))

snoc_is : (line : List ℕ) → 0 < length line → line ≡ take (length line - 1) line ++ get_or line (length line - 1) 0 ∷ []
snoc_is line l = snoc_at line (length line - 1) (omega arith)

last_is : (c : ℕ) (line : List ℕ) (some : Bool) → nat_lt 0 (length line) ≡ some → (some && eqb (get_or line (length line - 1) 0) c) ≡ true → line ≡ take (length line - 1) line ++ c ∷ []
last_is c line true s e =
    let some : 0 < length line = grind (arith, nat_tests) in
    let last : get_or line (length line - 1) 0 ≡ c = eqb-true _ c e in
    snoc_is line some ∙ ap (λ x. take (length line - 1) line ++ x ∷ []) last
last_is c line false s e = absurd cc

-- the line `---`, with the carriage return and the line feed that it may have
marks : (line : List ℕ) (fed returned : Bool) → ends_with 10 line ≡ fed → ends_with 13 (without_last_byte line) ≡ returned
    → cond {A = List ℕ} fed (cond {A = List ℕ} returned (without_last_byte (without_last_byte line)) (without_last_byte line)) line ≡ codes "---"
    → (line ≡ codes "---") ⊎ ((line ≡ codes "---\n") ⊎ (line ≡ codes "---\r\n"))
marks line true true f r e =
    inr (inr (last_is 10 line (nat_lt 0 (length line)) refl f ∙ ap (λ xs. xs ++ 10 ∷ []) (last_is 13 (without_last_byte line) (nat_lt 0 (length (without_last_byte line))) refl r ∙ ap (λ xs. xs ++ 13 ∷ []) e)))
marks line true false f r e = inr (inl (last_is 10 line (nat_lt 0 (length line)) refl f ∙ ap (λ xs. xs ++ 10 ∷ []) e))
marks line false returned f r e = inl e

mark_is : (line : List ℕ) → ends_network line ≡ true → (line ≡ codes "---") ⊎ ((line ≡ codes "---\n") ⊎ (line ≡ codes "---\r\n"))
unfolding text_of
mark_is line e = marks line (ends_with 10 line) (ends_with 13 (without_last_byte line)) refl refl ((bytes_eq-Decides (text_of line) (codes "---")).0 e)

-- what begins such a line and has no feed begins `---` and a carriage return
begins_mark : (bytes tail : List ℕ) → HasNoFeed bytes → (bytes ++ tail ≡ codes "---") ⊎ ((bytes ++ tail ≡ codes "---\n") ⊎ (bytes ++ tail ≡ codes "---\r\n"))
    → starts_with nat_eq (codes "---\r") bytes ≡ true
begins_mark [] tail n e = refl
begins_mark (a ∷ []) tail n (inl e) = let h : a ≡ 45 = cc in rw h refl
begins_mark (a ∷ []) tail n (inr (inl e)) = let h : a ≡ 45 = cc in rw h refl
begins_mark (a ∷ []) tail n (inr (inr e)) = let h : a ≡ 45 = cc in rw h refl
begins_mark (a ∷ b ∷ []) tail n (inl e) = let h : a ≡ 45 = cc in let i : b ≡ 45 = cc in rw (h, i) refl
begins_mark (a ∷ b ∷ []) tail n (inr (inl e)) = let h : a ≡ 45 = cc in let i : b ≡ 45 = cc in rw (h, i) refl
begins_mark (a ∷ b ∷ []) tail n (inr (inr e)) = let h : a ≡ 45 = cc in let i : b ≡ 45 = cc in rw (h, i) refl
begins_mark (a ∷ b ∷ c ∷ []) tail n (inl e) = let h : a ≡ 45 = cc in let i : b ≡ 45 = cc in let j : c ≡ 45 = cc in rw (h, i, j) refl
begins_mark (a ∷ b ∷ c ∷ []) tail n (inr (inl e)) = let h : a ≡ 45 = cc in let i : b ≡ 45 = cc in let j : c ≡ 45 = cc in rw (h, i, j) refl
begins_mark (a ∷ b ∷ c ∷ []) tail n (inr (inr e)) = let h : a ≡ 45 = cc in let i : b ≡ 45 = cc in let j : c ≡ 45 = cc in rw (h, i, j) refl
begins_mark (a ∷ b ∷ c ∷ d ∷ rest) tail n (inl e) = absurd cc
begins_mark (a ∷ b ∷ c ∷ d ∷ rest) tail n (inr (inl e)) = let k : d ≡ 10 = cc in absurd (n 3 (omega arith) k)
begins_mark (a ∷ b ∷ c ∷ d ∷ []) tail n (inr (inr e)) = let h : a ≡ 45 = cc in let i : b ≡ 45 = cc in let j : c ≡ 45 = cc in let k : d ≡ 13 = cc in rw (h, i, j, k) refl
begins_mark (a ∷ b ∷ c ∷ d ∷ f ∷ rest) tail n (inr (inr e)) = let k : f ≡ 10 = cc in absurd (n 4 (omega arith) k)

unlike_mark : (bytes tail : List ℕ) (b : Bool) → HasNoFeed bytes → starts_with nat_eq (codes "---\r") bytes ≡ false → ends_network (bytes ++ tail) ≡ b → ends_network (bytes ++ tail) ≡ false
unlike_mark bytes tail true n u e = let h : starts_with nat_eq (codes "---\r") bytes ≡ true = begins_mark bytes tail n (mark_is (bytes ++ tail) e) in absurd cc
unlike_mark bytes tail false n u e = e

some_byte : (bytes : List ℕ) → starts_with nat_eq (codes "---\r") bytes ≡ false → 0 < length bytes
some_byte [] e = absurd cc
some_byte (b ∷ rest) e = omega arith

pub over_network : (s : Session) (pending : List ℕ) (part : Vec ℕ Global) (at_end : Bool) (more : List ℕ) → HasNoFeed pending → s.phase ≡ Network part → starts_with nat_eq (codes "---\r") pending ≡ false
    → max_network < length part.items + length pending → reply_at s at_end (lines_of (pending ++ more)) ≡ ends [] TooLong
over_network s pending part at_end more n e u l =
    let h = begins pending more (some_byte pending u) n in
    let size : length (pending ++ h.0) ≡ length pending + length h.0 = length-append pending h.0 in
    ap (reply_at s at_end) h.1.1 ∙ line_over s part (pending ++ h.0) at_end h.1.0 e (unlike_mark pending h.0 (ends_network (pending ++ h.0)) n u refl) (omega arith)
