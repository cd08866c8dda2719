-- For the proofs of crates above; a reader of the definitions can leave it out. How a call that writes a text goes on with the run.
-- ---- prefixes
use Rattle.std.proofs.Common.{◌≡◌, ◌≢◌, ◌∙◌, inl, inr, ℕ, suc, ◌<◌, List, [], ◌∷◌, ◌++◌, length, length-append, refl, sym, ap, Option, Some, None, Result, Ok, Err, false, append_assoc, append-nil, arith}
use Rattle.std.proofs.KnownBytes.{Appends-nil}
use Rattle.input_lines.specs.Lines.{lines_of, HasNoFeed, onto}
use Rattle.input_lines.proofs.Lemmas.{past_other}
use Rattle.xcm_io.specs.Bytes.{IsFront, IsProperFront}
use Rattle.line_serving.specs.declared.status.Status.{Status}
use Rattle.line_serving.specs.declared.status.Status.TheVariants.{Done, WriteFault, TooLong}
use Rattle.line_serving.specs.Replies.{Reply, Replies, Rooms, ends, then_on}
use Rattle.line_serving.specs.Serving.{ReadInTime}
use Rattle.line_serving.specs.Calls.{Writes, Advances, Finishes}

-- what was written of a text is a prefix of it
pub wrote_front : (text : List ℕ) (answer : Option Status) (old new : Option (List ℕ)) (result : Option Status) (w : Writes text answer old new result) → IsFront w.part text
wrote_front text answer old new result w = elim w.whole [ inl h ↦ ([], sym (append-nil text) ∙ ap (λ t. t ++ []) (sym h.1)) | inr h ↦ (h.1.0, h.1.1) ]

-- a prefix of a text is a prefix of what begins with the text
pub front_on : (part text : List ℕ) (rest whole : Reply) → IsFront part text → whole ≡ then_on text rest → IsFront part whole.text
front_on part text rest whole f e = (f.0 ++ rest.text, ap (λ o. o.text) e ∙ ap (λ t. t ++ rest.text) f.1 ∙ append_assoc part f.0 rest.text)

-- the same of a proper prefix
pub proper_on : (part text more whole : List ℕ) → IsProperFront part text → whole ≡ text ++ more → IsProperFront part whole
proper_on part text more whole f e =
    (f.0 ++ more, e ∙ ap (λ t. t ++ more) f.1 ∙ append_assoc part f.0 more, omega (arith, length-append f.0 more, f.2))

-- ---- a call that writes a text, or nothing

-- nothing was written
pub stays : {X E : Type 0} (before after : X → Reply) (due : List ℕ) (known : Option (List ℕ)) → ((lines : X) → before lines ≡ after lines)
    → Advances {E = E} before after due known known (Ok None)
stays before after due known same = record {
  text = [];
  appends = Appends-nil known;
  front = λ lines. ((before lines).text, refl);
  goes_on = λ _ lines. same lines;
  ended = λ status e _ _. cc;
  short = λ e. absurd cc;
  long = λ e. refl;
}

-- a text was written and the run goes on
pub writes_on : {X E : Type 0} (before after : X → Reply) (text : List ℕ) (none : X) (old new : Option (List ℕ)) (result : Option Status)
    → Writes text None old new result → ((lines : X) → before lines ≡ then_on text (after lines)) → Advances {E = E} before after (before none).text old new (Ok result)
writes_on before after text none old new result w same = record {
  text = w.part;
  appends = w.appends;
  front = λ lines. front_on w.part text (after lines) (before lines) (wrote_front text None old new result w) (same lines);
  goes_on = λ e lines. elim w.whole [ inl h ↦ rw h.1 (same lines) | inr h ↦ cc ];
  ended = λ status e n lines. elim w.whole [ inl h ↦ cc | inr h ↦ absurd (n cc) ];
  short = λ e. elim w.whole [ inl h ↦ absurd cc | inr h ↦ proper_on w.part text (after none).text (before none).text h.1 (ap (λ o. o.text) (same none)) ];
  long = λ e. elim w.whole [ inl h ↦ absurd cc | inr h ↦ absurd cc ];
}

ended_as : (text : List ℕ) (answer : Status) (part : List ℕ) (status : Status) (whole : Reply) → whole ≡ ends text answer → part ≡ text → answer ≡ status → whole ≡ ends part status
ended_as text answer part status whole e p s = rw (p, ← s) e

pub proper_whole : (part text whole : List ℕ) → IsProperFront part text → whole ≡ text → IsProperFront part whole
proper_whole part text whole f e = (f.0, e ∙ f.1, f.2)

-- a text was written and the run is over
pub writes_end : {X E : Type 0} (before after : X → Reply) (text : List ℕ) (answer : Status) (none : X) (old new : Option (List ℕ)) (result : Option Status)
    → Writes text (Some answer) old new result → answer ≢ TooLong → answer ≢ WriteFault → ((lines : X) → before lines ≡ ends text answer)
    → Advances {E = E} before after (before none).text old new (Ok result)
writes_end before after text answer none old new result w n m same = record {
  text = w.part;
  appends = w.appends;
  front = λ lines. let f = wrote_front text (Some answer) old new result w in (f.0, ap (λ o. o.text) (same lines) ∙ f.1);
  goes_on = λ e lines. elim w.whole [ inl h ↦ cc | inr h ↦ cc ];
  ended = λ status e k lines. elim w.whole [ inl h ↦ ended_as text answer w.part status (before lines) (same lines) h.1 cc | inr h ↦ absurd (k cc) ];
  short = λ e. elim w.whole [ inl h ↦ absurd (m cc) | inr h ↦ proper_whole w.part text (before none).text h.1 (ap (λ o. o.text) (same none)) ];
  long = λ e. elim w.whole [ inl h ↦ absurd (n cc) | inr h ↦ absurd cc ];
}

-- the run is over with nothing written
pub stops : {X E : Type 0} (before after : X → Reply) (answer : Status) (due : List ℕ) (known : Option (List ℕ)) → answer ≢ WriteFault → ((lines : X) → before lines ≡ ends [] answer)
    → Advances {E = E} before after due known known (Ok (Some answer))
stops before after answer due known n same = record {
  text = [];
  appends = Appends-nil known;
  front = λ lines. ((before lines).text, refl);
  goes_on = λ e lines. cc;
  ended = λ status e k lines. same lines ∙ ap (λ x. ends [] x) cc;
  short = λ e. absurd (n cc);
  long = λ e. refl;
}

-- memory was refused with nothing written
pub refuses : {X E : Type 0} (before after : X → Reply) (due : List ℕ) (known : Option (List ℕ)) (refused : E) → Advances before after due known known (Err refused)
refuses before after due known refused = record {
  text = [];
  appends = Appends-nil known;
  front = λ lines. ((before lines).text, refl);
  goes_on = λ e lines. cc;
  ended = λ status e n lines. cc;
  short = λ e. absurd cc;
  long = λ e. refl;
}

-- the same steps, by other words for what is still to come
pub advances_as : {X Y E : Type 0} (through : Y → X) (before after : X → Reply) (first then : Y → Reply) (due owed : List ℕ) (old new : Option (List ℕ)) (result : Result (Option Status) E)
    → ((lines : Y) → first lines ≡ before (through lines)) → ((lines : Y) → then lines ≡ after (through lines)) → owed ≡ due → Advances before after due old new result → Advances first then owed old new result
advances_as through before after first then due owed old new result eb ea ed a = record {
  text = a.text;
  appends = a.appends;
  front = λ lines. let f = a.front (through lines) in (f.0, ap (λ o. o.text) (eb lines) ∙ f.1);
  goes_on = λ e lines. eb lines ∙ a.goes_on e (through lines) ∙ ap (λ o. then_on a.text o) (sym (ea lines));
  ended = λ status e n lines. eb lines ∙ a.ended status e n (through lines);
  short = λ e. proper_whole a.text due owed (a.short e) ed;
  long = a.long;
}

-- ---- the end of the input

-- nothing is written there
pub finishes_done : {E : Type 0} (rest : Reply) (known : Option (List ℕ)) → rest ≡ ends [] Done → Finishes {E = E} rest known known (Ok Done)
finishes_done rest known whole = record {
  text = [];
  appends = Appends-nil known;
  front = (rest.text, refl);
  ended = λ status r n. whole ∙ ap (λ x. ends [] x) cc;
  short = λ r. absurd cc;
  long = λ r. cc;
  no_read = λ r. cc;
}

-- ---- lines that are begun

begins_one : (b : ℕ) (more : List ℕ) (lines : List (List ℕ)) → lines_of more ≡ lines → (b ≡ 10 → ⊥) → (tail : List ℕ) × ((rest : List (List ℕ)) × (lines_of (b ∷ more) ≡ (b ∷ tail) ∷ rest))
begins_one b more [] e n = ([], ([], past_other b more n ∙ ap (onto b) e))
begins_one b more (line ∷ lines) e n = (line, (lines, past_other b more n ∙ ap (onto b) e))

-- bytes without a feed begin the first line
pub begins : (bytes more : List ℕ) → 0 < length bytes → HasNoFeed bytes → (tail : List ℕ) × ((lines : List (List ℕ)) × (lines_of (bytes ++ more) ≡ (bytes ++ tail) ∷ lines))
begins [] more l n = absurd (omega arith)
begins (b ∷ []) more l n = begins_one b more (lines_of more) refl (n 0 (omega arith))
begins (b ∷ c ∷ rest) more l n =
    let h = begins (c ∷ rest) more (omega arith) (λ k i. n (suc k) (omega arith)) in
    (h.0, (h.1.0, past_other b ((c ∷ rest) ++ more) (n 0 (omega arith)) ∙ ap (onto b) h.1.1))

-- ---- the start

-- nothing is read, and a line that isn't begun has room
pub in_time_start : (first : Replies) (room : Rooms) → first false [] ≡ ends [] Done → room [] 0 → ReadInTime first room [] []
unfolding lines_of
in_time_start first room nothing begun = record {
  before = [];
  piece = [];
  parts = refl;
  few = omega arith;
  begun = [];
  lines = refl;
  within = begun;
  told = [];
  undecided = nothing;
  written = ([], refl);
}
