-- A line that is past a limit, whatever comes.
use Rattle.std.proofs.Common.{◌≡◌, ◌<◌, ◌≤◌, ◌+◌, ◌-◌, ℕ, Bool, true, false, cond, eqb, ◌&&◌, List, [], ◌∷◌, ◌++◌, length, take, get_or, refl, append-nil, arith, length-take, length-append}
use Rattle.std.proofs.lemmas.Bool.{ne_eqb}
use Rattle.std.proofs.lemmas.Bool.Decides.{nat_tests}
use Rattle.std.specs.Prelude.{nat_le}
use Rattle.input_lines.specs.Lines.{lines_of, HasNoFeed, without_feed, ends_with}
use Rattle.line_serving.proofs.Lemmas.{begins}
use Rattle.line_serving.specs.Replies.{max_input, max_line, fits_limits}
use Rattle.plain_lists.proofs.Lemmas.Facts.{second_false}

first_false : (a b : Bool) → a ≡ false → (a && b) ≡ false
first_false true b e = cc
first_false false b e = refl

pub no_feed_end : (bytes : List ℕ) → 0 < length bytes → HasNoFeed bytes → ends_with 10 bytes ≡ false
no_feed_end bytes l n = second_false _ (eqb (get_or bytes (length bytes - 1) 0) 10) (ne_eqb (get_or bytes (length bytes - 1) 0) 10 (n (length bytes - 1) (omega arith)))

cut_length : (b : Bool) (line : List ℕ) → length line ≤ length (cond {A = List ℕ} b (take (length line - 1) line) line) + 1
cut_length true line = omega (arith, length-take {A = ℕ})
cut_length false line = omega arith

-- a line that begins with bytes without a feed is no shorter without its own
kept_length : (bytes tail : List ℕ) → 0 < length bytes → HasNoFeed bytes → length bytes ≤ length (without_feed (bytes ++ tail))
kept_length bytes [] l n = rw (append-nil, no_feed_end bytes l n) (omega arith)
kept_length bytes (t ∷ ts) l n = omega (arith, cut_length (ends_with 10 (bytes ++ t ∷ ts)) (bytes ++ t ∷ ts), length-append bytes (t ∷ ts))

pub past_total : (taken : ℕ) (begun more : List ℕ) → HasNoFeed begun → 0 < length begun → max_input < taken + length begun
    → (tail : List ℕ) × (lines : List (List ℕ)) × (lines_of (begun ++ more) ≡ (begun ++ tail) ∷ lines) × (fits_limits taken (begun ++ tail) ≡ false)
past_total taken begun more n some l =
    let h = begins begun more some n in
    let size : max_input < taken + length (begun ++ h.0) = omega (arith, length-append begun h.0) in
    let past : fits_limits taken (begun ++ h.0) ≡ false = second_false _ (nat_le (taken + length (begun ++ h.0)) max_input) (grind (arith, nat_tests)) in
    (h.0, h.1.0, h.1.1, past)

pub past_line : (taken : ℕ) (begun more : List ℕ) → HasNoFeed begun → max_line < length begun
    → (tail : List ℕ) × (lines : List (List ℕ)) × (lines_of (begun ++ more) ≡ (begun ++ tail) ∷ lines) × (fits_limits taken (begun ++ tail) ≡ false)
past_line taken begun more n l =
    let some : 0 < length begun = omega arith in
    let h = begins begun more some n in
    let kept : length begun ≤ length (without_feed (begun ++ h.0)) = kept_length begun h.0 some n in
    let past : fits_limits taken (begun ++ h.0) ≡ false = first_false (nat_le (length (without_feed (begun ++ h.0))) max_line) _ (grind (arith, nat_tests)) in
    (h.0, h.1.0, h.1.1, past)
