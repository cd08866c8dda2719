-- One line of an explanation.
use Rattle.std.proofs.Common.{◌≡◌, ℕ, ◌+◌, ◌<◌, ◌≤◌, List, [], ◌∷◌, length, length-append, true, false, refl, arith}
use Rattle.std.proofs.lemmas.Bool.Decides.{nat_tests}
use Rattle.std.specs.Prelude.{nat_le}
use Rattle.std.specs.List.{concat}
use Rattle.input_lines.specs.Lines.{text_of, without_feed}
use Rattle.line_serving.specs.Replies.{ends, then_on, fits_limits, max_input, max_line}
use Rattle.line_serving.specs.declared.status.Status.TheVariants.{LineRefused, TooLong}
use Rattle.xcm_explain.specs.declared.explainer.Explainer.{Explainer}
use Rattle.xcm_explain.specs.declared.line.HexLine.TheVariants.{Blank, Bytes, NotHex}
use Rattle.xcm_explain.specs.Lines.{hex_line}
use Rattle.xcm_explain.specs.Blocks.{message_block, not_hex_line}
use Rattle.xcm_explain.specs.Explanations.{lines_explained, line_room, IsCounted}
use Rattle.plain_lists.proofs.Lemmas.Facts.{second_true as both}

-- ---- what is written for it

pub nothing_here : (before taken : ℕ) (line : List ℕ) (lines : List (List ℕ)) → fits_limits taken line ≡ true → hex_line (text_of line) ≡ Blank
    → lines_explained before taken (line ∷ lines) ≡ lines_explained (before + 1) (taken + length line) lines
unfolding lines_explained
nothing_here before taken line lines within asked = rw (within, asked, lines_explained) refl

block_is : (before taken : ℕ) (line : List ℕ) (lines : List (List ℕ)) (bytes : List ℕ) → fits_limits taken line ≡ true → hex_line (text_of line) ≡ Bytes bytes
    → lines_explained before taken (line ∷ lines) ≡ then_on (message_block (before + 1) bytes) (lines_explained (before + 1) (taken + length line) lines)
unfolding lines_explained
block_is before taken line lines bytes within asked = rw (within, asked, lines_explained) refl

pub block_here : (before taken : ℕ) (line : List ℕ) (lines : List (List ℕ)) (bytes text : List ℕ) → fits_limits taken line ≡ true → hex_line (text_of line) ≡ Bytes bytes → text ≡ message_block (before + 1) bytes
    → lines_explained before taken (line ∷ lines) ≡ then_on text (lines_explained (before + 1) (taken + length line) lines)
block_here before taken line lines bytes text within asked t =
    rw t (block_is before taken line lines bytes within asked)

pub refused_here : (before taken : ℕ) (line : List ℕ) (lines : List (List ℕ)) (text : List ℕ) → fits_limits taken line ≡ true → hex_line (text_of line) ≡ NotHex → text ≡ not_hex_line (before + 1)
    → lines_explained before taken (line ∷ lines) ≡ ends text LineRefused
unfolding lines_explained
refused_here before taken line lines text within asked t = rw (t, within, asked, lines_explained) refl

pub long_here : (before taken : ℕ) (line : List ℕ) (lines : List (List ℕ)) → fits_limits taken line ≡ false → lines_explained before taken (line ∷ lines) ≡ ends [] TooLong
unfolding lines_explained
long_here before taken line lines past = rw (past, lines_explained) refl

-- ---- what an explainer keeps

pub room_behind : (taken : ℕ) (line : List ℕ) (lines : List (List ℕ)) (begun : ℕ) → line_room (taken + length line) lines begun → line_room taken (line ∷ lines) begun
room_behind taken line lines begun r = (r.0, omega (arith, length-append line (concat lines), r.1))

pub total_fits : (taken : ℕ) (line : List ℕ) → fits_limits taken line ≡ true → taken + length line ≤ max_input
total_fits taken line e =
    let total : nat_le (taken + length line) max_input ≡ true = both (nat_le (length (without_feed line)) max_line) _ e in
    grind (arith, nat_tests)

pub within_more : (it : Explainer) (line : List ℕ) → IsCounted it → 0 < length line → fits_limits it.taken line ≡ true → IsCounted (record { lines = it.lines + 1; taken = it.taken + length line })
within_more it line within some fits = record { lines = omega (arith, within.lines); bytes = total_fits it.taken line fits }
