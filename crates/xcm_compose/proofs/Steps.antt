-- One line of an input.
use Rattle.std.proofs.Common.{◌≡◌, ◌∙◌, inl, inr, ℕ, ◌+◌, ◌<◌, ◌≤◌, List, [], ◌∷◌, ◌++◌, length, true, false, refl, sym, ap, Option, Some, None, Result, Ok, Err, IfOk, append_assoc, arith}
use Rattle.std.proofs.lemmas.Bool.Decides.{nat_tests}
use Rattle.std.specs.Prelude.{nat_le, IsErr}
use Rattle.std.proofs.KnownBytes.{Appends-nil}
use Rattle.input_lines.specs.Lines.{text_of, without_feed, lines_of}
use Rattle.line_serving.specs.declared.status.Status.{Status}
use Rattle.line_serving.specs.declared.status.Status.TheVariants.{Done, TooLong}
use Rattle.line_serving.specs.Replies.{Reply, ends, then_on, fits_limits, max_input, max_line}
use Rattle.line_serving.specs.Calls.{Writes, Finishes}
use Rattle.line_serving.proofs.Lemmas.{wrote_front}
use Rattle.plain_lists.proofs.Lemmas.Facts.{second_true as both}
use Rattle.xcm_compose.specs.declared.composer.Composer.{Composer}
use Rattle.xcm_compose.specs.Answers.{IsAnswer, StandsFor, unwritten}
use Rattle.xcm_compose.specs.Replies.{goes_on, begun_tree, with_line, Chosen, IsAnswered, IsReply, IsTextReply, IsInBounds}
use Rattle.xcm_compose.specs.Runs.{Ways, Proceeds, Concludes}

-- ---- something may always come

some_answer : (tree : List ℕ) → (text : List ℕ) × StandsFor tree text
some_answer tree = (unwritten, inr refl)

pub answered_then : (tree : List ℕ) (IsRest : Reply → Type 0) → (whole : Reply) × IsRest whole → (whole : Reply) × IsAnswered tree IsRest whole
answered_then tree IsRest rest = let a = some_answer tree in (then_on a.0 rest.0, (a.0, rest.0, a.1, rest.1, refl))

pub some_reply : (taken : ℕ) (tree : List ℕ) (lines : List (List ℕ)) → (whole : Reply) × IsReply taken tree lines whole
unfolding IsReply
some_reply taken tree [] = let a = some_answer tree in (ends a.0 Done, (a.0, a.1, refl))
some_reply taken tree (line ∷ lines) =
    elim (fits_limits taken line) as (λ fits. (whole : Reply) × Chosen fits
    (Chosen (goes_on tree (text_of line)) (IsReply (taken + length line) (with_line tree (text_of line)) lines whole) (IsAnswered tree (IsReply (taken + length line) (begun_tree (text_of line)) lines) whole))
    (whole ≡ ends [] TooLong)) [
      | false ↦ (ends [] TooLong, refl)
      | true ↦ elim (goes_on tree (text_of line)) as (λ on. (whole : Reply) × Chosen on (IsReply (taken + length line) (with_line tree (text_of line)) lines whole) (IsAnswered tree (IsReply (taken + length line) (begun_tree (text_of line)) lines) whole)) [
        | true ↦ some_reply (taken + length line) (with_line tree (text_of line)) lines
        | false ↦ answered_then tree (IsReply (taken + length line) (begun_tree (text_of line)) lines) (some_reply (taken + length line) (begun_tree (text_of line)) lines)
      ]
    ]

pub some_text_reply : (taken : ℕ) (tree text : List ℕ) (lines : List (List ℕ)) → (whole : Reply) × IsTextReply taken tree text lines whole
some_text_reply taken tree text lines =
    elim (goes_on tree text) as (λ on. (whole : Reply) × Chosen on (IsReply taken (with_line tree text) lines whole) (IsAnswered tree (IsReply taken (begun_tree text) lines) whole)) [
      | true ↦ some_reply taken (with_line tree text) lines
      | false ↦ answered_then tree (IsReply taken (begun_tree text) lines) (some_reply taken (begun_tree text) lines)
    ]

-- ---- calls with one line

-- it is past a limit
pub long_line : {E : Type 0} (taken : ℕ) (tree line : List ℕ) (After : List (List ℕ) → Ways) (known : Option (List ℕ)) → fits_limits taken line ≡ false
    → Proceeds {E = E} (λ lines. IsReply taken tree (line ∷ lines)) After known known (Ok (Some TooLong))
unfolding IsReply
long_line taken tree line After known past = record {
  text = [];
  appends = Appends-nil known;
  front = λ lines. (ends [] TooLong, rw past refl, ([], refl));
  goes_on = λ e. absurd cc;
  ended = λ status e n lines. rw past (ap (λ x. ends [] x) cc);
}

-- it is within them
pub line_within : (taken : ℕ) (tree line : List ℕ) (lines : List (List ℕ)) (whole : Reply) → fits_limits taken line ≡ true → IsTextReply (taken + length line) tree (text_of line) lines whole → IsReply taken tree (line ∷ lines) whole
unfolding IsReply
line_within taken tree line lines whole within t = rw within t

-- it belongs to the tree
pub goes_with : {E : Type 0} (taken : ℕ) (tree text : List ℕ) (known : Option (List ℕ)) (now : ℕ) (then : List ℕ) → goes_on tree text ≡ true → now ≡ taken → then ≡ with_line tree text
    → Proceeds {E = E} (λ lines. IsTextReply taken tree text lines) (λ lines. IsReply now then lines) known known (Ok None)
goes_with taken tree text known now then on n t = record {
  text = [];
  appends = Appends-nil known;
  front = λ lines. let w = some_text_reply taken tree text lines in (w.0, w.1, (w.0.text, refl));
  goes_on = λ e lines rest w. rw on (rw (← n, ← t) w);
  ended = λ status e. absurd cc;
}

-- memory was refused, with nothing written
pub refuses : {E : Type 0} (taken : ℕ) (tree text : List ℕ) (After : List (List ℕ) → Ways) (old new : Option (List ℕ)) (refused : E) → new ≡ old → Proceeds (λ lines. IsTextReply taken tree text lines) After old new (Err refused)
refuses taken tree text After old new refused same = record {
  text = [];
  appends = rw same (Appends-nil old);
  front = λ lines. let w = some_text_reply taken tree text lines in (w.0, w.1, (w.0.text, refl));
  goes_on = λ e. absurd cc;
  ended = λ status e. absurd cc;
}

-- the tree is answered
pub answers_tree : {E : Type 0} (taken : ℕ) (tree text : List ℕ) (old new : Option (List ℕ)) (now : ℕ) (then told : List ℕ) (result : Option Status) → goes_on tree text ≡ false → now ≡ taken → then ≡ begun_tree text → IsAnswer tree told
    → Writes told None old new result → Proceeds {E = E} (λ lines. IsTextReply taken tree text lines) (λ lines. IsReply now then lines) old new (Ok result)
answers_tree taken tree text old new now then told result off n t a w = record {
  text = w.part;
  appends = w.appends;
  front = λ lines.
      let rest = some_reply taken (begun_tree text) lines in
      let f = wrote_front told None old new result w in
      (then_on told rest.0, rw off (told, rest.0, inl a, rest.1, refl), (f.0 ++ rest.0.text, ap (λ x. x ++ rest.0.text) f.1 ∙ append_assoc w.part f.0 rest.0.text));
  goes_on = λ e lines rest r. elim w.whole [ inl h ↦ rw off (told, rest, inl a, rw (← n, ← t) r, ap (λ x. then_on x rest) h.1) | inr h ↦ absurd cc ];
  ended = λ status e k lines. elim w.whole [ inl h ↦ absurd cc | inr h ↦ absurd (k cc) ];
}

-- ---- what a composer keeps

total_fits : (taken : ℕ) (line : List ℕ) → fits_limits taken line ≡ true → taken + length line ≤ max_input
total_fits taken line e =
    let total : nat_le (taken + length line) max_input ≡ true = both (nat_le (length (without_feed line)) max_line) _ e in
    grind (arith, nat_tests)

pub within_more : (it now : Composer) (line : List ℕ) → IsInBounds it → 0 < length line → fits_limits it.taken line ≡ true → now.lines ≡ it.lines + 1 → now.taken ≡ it.taken + length line → IsInBounds now
within_more it now line within some fits l t =
    let total = total_fits it.taken line fits in
    record { lines = omega (arith, within.lines, l, t, some); bytes = omega (arith, t, total) }

-- ---- the end of the input

-- the tree is answered there
pub concludes_told : {E F : Type 0} (taken : ℕ) (tree told : List ℕ) (old new : Option (List ℕ)) (result : Status) → IsAnswer tree told → Finishes {E = F} (ends told Done) old new (Ok result)
    → Concludes {E = E} (IsReply taken tree []) old new (Ok result)
unfolding IsReply
concludes_told taken tree told old new result a f = record {
  text = f.text;
  appends = f.appends;
  front = (ends told Done, (told, inl a, refl), f.front);
  ended = λ status e n. (told, inl a, sym (f.ended status (ap (λ x. Ok x) cc) n));
}

-- memory was refused there
pub concludes_err : {E : Type 0} (taken : ℕ) (tree : List ℕ) (lines : List (List ℕ)) (old new : Option (List ℕ)) (refused : E) → new ≡ old → Concludes (IsReply taken tree lines) old new (Err refused)
concludes_err taken tree lines old new refused same =
    let w = some_reply taken tree lines in
    record { text = []; appends = rw same (Appends-nil old); front = (w.0, w.1, (w.0.text, refl)); ended = λ status e. absurd cc }

-- the next line is past a limit
pub long_reply : (taken : ℕ) (tree bytes line : List ℕ) (lines : List (List ℕ)) → lines_of bytes ≡ line ∷ lines → fits_limits taken line ≡ false → IsReply taken tree (lines_of bytes) (ends [] TooLong)
unfolding IsReply
long_reply taken tree bytes line lines e past = rw (e, IsReply, past) refl

-- the tree is answered and the next begins, or memory was refused before anything was written
pub begins_next : {E : Type 0} (taken : ℕ) (tree text : List ℕ) (old new : Option (List ℕ)) (now : ℕ) (then : List ℕ) (result : Result (Option Status) E) → goes_on tree text ≡ false → now ≡ taken → IfOk result (λ _. then ≡ begun_tree text)
    → IfOk result (λ o. (told : List ℕ) × IsAnswer tree told × Writes told None old new o) → (IsErr result → new ≡ old) → Proceeds (λ lines. IsTextReply taken tree text lines) (λ lines. IsReply now then lines) old new result
begins_next taken tree text old new now then (Ok o) off n t w u = answers_tree taken tree text old new now then w.0 o off n t w.1 w.2
begins_next taken tree text old new now then (Err e) off n t w u = refuses taken tree text (λ lines. IsReply now then lines) old new e (u refl)

-- a line within the limits
pub within_line : {E : Type 0} (taken : ℕ) (tree line text : List ℕ) (After : List (List ℕ) → Ways) (old new : Option (List ℕ)) (result : Result (Option Status) E) → fits_limits taken line ≡ true → text ≡ text_of line
    → Proceeds (λ lines. IsTextReply (taken + length line) tree text lines) After old new result → Proceeds (λ lines. IsReply taken tree (line ∷ lines)) After old new result
within_line taken tree line text After old new result within t a = record {
  text = a.text;
  appends = a.appends;
  front = λ lines. let m = a.front lines in (m.0, line_within taken tree line lines m.0 within (rw t at m.1), m.2);
  goes_on = λ e lines rest w. line_within taken tree line lines (then_on a.text rest) within (rw t at (a.goes_on e lines rest w));
  ended = λ status e n lines. line_within taken tree line lines (ends a.text status) within (rw t at (a.ended status e n lines));
}
