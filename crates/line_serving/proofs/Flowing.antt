-- Lines that are taken whole, whatever comes after them.
use Rattle.std.proofs.Common.{◌≡◌, ◌≢◌, ◌∙◌, inl, inr, ◌≤◌, ◌+◌, ◌-◌, ℕ, Bool, true, false, List, [], ◌∷◌, ◌++◌, length, take, drop, refl, sym, ap, subst, Option, Some, None, Result, Ok, Err, append_assoc, append-nil, arith, length-take, length-drop}
use Rattle.std.proofs.lemmas.List.{drop-drop}
use Rattle.std.proofs.KnownBytes.{Appends-nil, Appends-trans}
use Rattle.xcm_io.specs.Bytes.{IsFront, IsProperFront}
use Rattle.input_lines.specs.Lines.{lines_of, ends_with}
use Rattle.input_lines.proofs.Lemmas.{no_lines}
use Rattle.line_serving.specs.declared.status.Status.{Status}
use Rattle.line_serving.specs.declared.status.Status.TheVariants.{Done, WriteFault, ReadFault, TooLong}
use Rattle.line_serving.specs.Replies.{Reply, Replies, Rooms, ends, then_on}
use Rattle.line_serving.specs.Calls.{Advances, Finishes}
use Rattle.line_serving.specs.Feeding.{Flows, StopsRun, TakesLines, AllWhole, EndsRun}

-- ---- replies one after the other

pub then_then : (whole rest : Reply) (text more : List ℕ) (last : Reply) → whole ≡ then_on text rest → rest ≡ then_on more last → whole ≡ then_on (text ++ more) last
then_then whole rest text more last a b = a ∙ ap (then_on text) b ∙ ap (λ t. record { text = t; status = last.status }) (sym (append_assoc text more last.text))

pub then_front : (whole rest : Reply) (text more : List ℕ) → whole ≡ then_on text rest → IsFront more rest.text → IsFront (text ++ more) whole.text
then_front whole rest text more e f = (f.0, ap (λ o. o.text) e ∙ ap (λ t. text ++ t) f.1 ∙ sym (append_assoc text more f.0))

pub then_proper : (whole rest : Reply) (text more : List ℕ) → whole ≡ then_on text rest → IsProperFront more rest.text → IsProperFront (text ++ more) whole.text
then_proper whole rest text more e f = (f.0, ap (λ o. o.text) e ∙ ap (λ t. text ++ t) f.1 ∙ sym (append_assoc text more f.0), f.2)

pub then_ends : (whole rest : Reply) (text more : List ℕ) (status : Status) → whole ≡ then_on text rest → rest ≡ ends more status → whole ≡ ends (text ++ more) status
then_ends whole rest text more status e r = e ∙ ap (then_on text) r

-- where no line comes after, just the text
pub then_nothing : (whole rest : Reply) (text : List ℕ) → whole ≡ then_on text rest → rest ≡ ends [] Done → whole ≡ ends text Done
then_nothing whole rest text e n = e ∙ ap (then_on text) n ∙ ap (λ t. ends t Done) (append-nil text)

-- ---- lines taken one after the other

pub whole_more : (took : List (List ℕ)) (line : List ℕ) → AllWhole took → ends_with 10 line ≡ true → AllWhole (took ++ line ∷ [])
whole_more [] line w e = (e, tt)
whole_more (x ∷ xs) line w e = (w.0, whole_more xs line w.1 e)

pub all_whole : (one two : List (List ℕ)) → AllWhole one → AllWhole two → AllWhole (one ++ two)
all_whole [] two a b = b
all_whole (x ∷ xs) two a b = (a.0, all_whole xs two a.1 b)

module _ {M : Type 0} (replies : M → Replies) (rooms : M → Rooms) where
  abbrev pub flows_start : (machine : M) (bytes : List ℕ) (known : Option (List ℕ)) → Flows replies rooms machine machine bytes bytes known known
  flows_start machine bytes known = record { took = []; text = []; appends = Appends-nil known; cut = λ more. refl; whole = tt; goes = λ at_end lines. refl; room = λ lines begun r. r }

  module _ (machine now : M) (bytes rest : List ℕ) (old mid : Option (List ℕ)) (f : Flows replies rooms machine now bytes rest old mid) where
    -- what these lines report, and then the rest
    pub flow_bytes : (at_end : Bool) (more : List ℕ) → replies machine at_end (lines_of (bytes ++ more)) ≡ then_on f.text (replies now at_end (lines_of (rest ++ more)))
    flow_bytes at_end more = ap (replies machine at_end) (f.cut more) ∙ f.goes at_end (lines_of (rest ++ more))

    -- what was taken is reported so far
    pub flow_so_far : replies now false [] ≡ ends [] Done → replies machine false f.took ≡ ends f.text Done
    flow_so_far r = then_nothing _ _ f.text (ap (replies machine false) (sym (append-nil f.took)) ∙ f.goes false []) r

    -- a line is taken: `next` says how the bytes that come begin with it
    abbrev pub flows_line : {E : Type 0} (then : M) (less line : List ℕ) (due : List ℕ) (new : Option (List ℕ)) (result : Result (Option Status) E)
        → Advances (λ (x : Bool × List (List ℕ)). replies now x.0 (line ∷ x.1)) (λ x. replies then x.0 x.1) due mid new result → result ≡ Ok None
        → ((more : List ℕ) → lines_of (rest ++ more) ≡ line ∷ lines_of (less ++ more)) → ends_with 10 line ≡ true
        → ((lines : List (List ℕ)) (begun : ℕ) → rooms then lines begun → rooms now (line ∷ lines) begun) → Flows replies rooms machine then bytes less old new
    flows_line then less line due new result a e next w m = record {
      took = f.took ++ line ∷ [];
      text = f.text ++ a.text;
      appends = Appends-trans old mid new f.text a.text f.appends a.appends;
      cut = λ more. f.cut more ∙ ap (λ l. f.took ++ l) (next more) ∙ sym (append_assoc f.took (line ∷ []) (lines_of (less ++ more)));
      whole = whole_more f.took line f.whole w;
      room = λ lines begun r. subst (λ (all : List (List ℕ)). rooms machine all begun) (sym (append_assoc f.took (line ∷ []) lines)) (f.room (line ∷ lines) begun (m lines begun r));
      goes = λ at_end lines. ap (replies machine at_end) (append_assoc f.took (line ∷ []) lines)
          ∙ then_then _ _ f.text a.text (replies then at_end lines) (f.goes at_end (line ∷ lines)) (a.goes_on e (at_end, lines));
    }

    -- a call on the next line that ends the run, or gives up
    pub flows_over : {E F : Type 0} (then : M) (less line : List ℕ) (new : Option (List ℕ)) (result : Result (Option Status) E) (answer : Result (Option Status) F)
        → replies now false [] ≡ ends [] Done → Advances (λ (x : Bool × List (List ℕ)). replies now x.0 (line ∷ x.1)) (λ x. replies then x.0 x.1) (replies now false (line ∷ [])).text mid new result
        → ((status : Status) → answer ≡ Ok (Some status) → result ≡ Ok (Some status))
        → ((more : List ℕ) → lines_of (rest ++ more) ≡ line ∷ lines_of (less ++ more)) → ends_with 10 line ≡ true → StopsRun (replies machine) bytes old new answer
    flows_over then less line new result answer r a same next w =
        let at : (at_end : Bool) (more : List ℕ) → replies machine at_end (lines_of (bytes ++ more)) ≡ then_on f.text (replies now at_end (line ∷ lines_of (less ++ more))) =
        λ at_end more. flow_bytes at_end more ∙ ap (λ l. then_on f.text (replies now at_end l)) (next more) in
        let here : lines_of bytes ≡ f.took ++ line ∷ lines_of less =
        ap lines_of (sym (append-nil bytes)) ∙ f.cut [] ∙ ap (λ l. f.took ++ l) (next []) ∙ ap (λ b. f.took ++ line ∷ lines_of b) (append-nil less) in
        record {
          text = f.text ++ a.text;
          appends = Appends-trans old mid new f.text a.text f.appends a.appends;
          front = λ at_end more. then_front _ _ f.text a.text (at at_end more) (a.front (at_end, lines_of (less ++ more)));
          ended = λ status e n at_end more. then_ends _ _ f.text a.text status (at at_end more) (a.ended status (same status e) n (at_end, lines_of (less ++ more)));
          short = λ e. record {
            before = f.took;
            line = line;
            behind = lines_of less;
            lines = here;
            reported = (a.text, ap (λ t. t ++ a.text) (sym (ap (λ o. o.text) (flow_so_far r))));
            short = then_proper _ _ f.text a.text (f.goes false (line ∷ [])) (a.short (same WriteFault e));
            last = inl w;
          };
          long = λ e. record {
            before = f.took;
            behind = line ∷ lines_of less;
            lines = here;
            reported = flow_so_far r ∙ ap (λ t. ends t Done) (sym (ap (λ t. f.text ++ t) (a.long (same TooLong e)) ∙ append-nil f.text));
          };
        }

    -- memory was refused after the lines
    pub flows_err : {E : Type 0} (refused : E) → StopsRun (replies machine) bytes old mid (Err refused)
    flows_err refused = record {
      text = f.text;
      appends = f.appends;
      front = λ at_end more. ((replies now at_end (lines_of (rest ++ more))).text, ap (λ o. o.text) (flow_bytes at_end more));
      ended = λ status e n at_end more. cc;
      short = λ e. absurd cc;
      long = λ e. absurd cc;
    }

  pub takes_over : {E : Type 0} (machine now : M) (bytes rest : List ℕ) (old new : Option (List ℕ)) (result : Result (Option Status) E) → result ≢ Ok None → StopsRun (replies machine) bytes old new result
      → TakesLines replies rooms machine now bytes rest old new result
  takes_over machine now bytes rest old new result n s = record { going = λ e. absurd (n e); over = λ m. s }

-- ---- the next line of what is left

pub cut_at : (bytes : List ℕ) (at n : ℕ) (rest line : List ℕ) → rest ≡ drop at bytes → line ≡ take n (drop at bytes)
    → ((more : List ℕ) → lines_of (rest ++ more) ≡ take n rest ∷ lines_of (drop n rest ++ more))
    → (more : List ℕ) → lines_of (drop at bytes ++ more) ≡ line ∷ lines_of (drop (at + n) bytes ++ more)
cut_at bytes at n rest line r l cut more =
    let h : lines_of (drop at bytes ++ more) ≡ take n (drop at bytes) ∷ lines_of (drop n (drop at bytes) ++ more) = rw (← r) (cut more) in
    h ∙ ap (λ x. x ∷ lines_of (drop n (drop at bytes) ++ more)) (sym l) ∙ ap (λ x. line ∷ lines_of (x ++ more)) (drop-drop n at bytes)

pub feed_at : (bytes : List ℕ) (at n : ℕ) (rest line : List ℕ) → rest ≡ drop at bytes → line ≡ take n (drop at bytes) → ends_with 10 (take n rest) ≡ true → ends_with 10 line ≡ true
feed_at bytes at n rest line r l e = ap (ends_with 10) (l ∙ ap (take n) (sym r)) ∙ e

pub take_there : (bytes : List ℕ) (at n : ℕ) → take (at + n - at) (drop at bytes) ≡ take n (drop at bytes)
take_there bytes at n = let e : at + n - at ≡ n = omega arith in ap (λ k. take k (drop at bytes)) e

pub line_size : (bytes : List ℕ) (at n : ℕ) → at ≤ length bytes → n ≤ length (take (length bytes - at) (drop at bytes)) → (length (take (at + n - at) (drop at bytes)) ≡ n) × (at + n ≤ length bytes)
line_size bytes at n r l = (omega (arith, length-take {A = ℕ}, length-drop {A = ℕ}), omega (arith, length-take {A = ℕ}, length-drop {A = ℕ}))

-- ---- the end of the input

-- nothing is pending
pub ends_empty : {E : Type 0} (replies : Replies) (bytes : List ℕ) (old new : Option (List ℕ)) (result : Result Status E) → length bytes ≡ 0 → replies false [] ≡ ends [] Done → Finishes (replies true []) old new result → EndsRun replies bytes old new result
ends_empty replies bytes old new result z r f =
    let none : lines_of bytes ≡ [] = no_lines bytes z in
    record {
      text = f.text;
      appends = f.appends;
      front = rw none f.front;
      ended = λ status e n. rw none (f.ended status e n);
      short = λ e. inr (record { reported = rw (none, r) (f.text, refl); short = rw none (f.short e) });
      long = λ e. absurd (f.long e);
      no_read = f.no_read;
    }

module _ (replies then : Replies) (bytes : List ℕ) (old mid : Option (List ℕ)) (line : lines_of bytes ≡ bytes ∷ []) (ready : replies false [] ≡ ends [] Done) where
  -- the last line is taken, and the input ends after it
  pub ends_behind : {E F : Type 0} (due : List ℕ) (new : Option (List ℕ)) (taken : Result (Option Status) F) (result : Result Status E) → taken ≡ Ok None → then false [] ≡ ends [] Done
      → Advances (λ (x : Bool × List (List ℕ)). replies x.0 (bytes ∷ x.1)) (λ x. then x.0 x.1) due old mid taken → Finishes (then true []) mid new result → EndsRun replies bytes old new result
  ends_behind due new taken result t r a f = record {
    text = a.text ++ f.text;
    appends = Appends-trans old mid new a.text f.text a.appends f.appends;
    front = rw line (then_front _ _ a.text f.text (a.goes_on t (true, [])) f.front);
    ended = λ status e n. rw line (then_ends _ _ a.text f.text status (a.goes_on t (true, [])) (f.ended status e n));
    short = λ e. inr (record {
      reported = rw (line, then_nothing _ _ a.text (a.goes_on t (false, [])) (r)) (f.text, refl);
      short = rw line (then_proper _ _ a.text f.text (a.goes_on t (true, [])) (f.short e));
    });
    long = λ e. absurd (f.long e);
    no_read = f.no_read;
  }

  -- a call on the last line ended the run
  pub ends_in : {E F : Type 0} (taken : Result (Option Status) F) (answer : Status) → taken ≡ Ok (Some answer) → taken ≢ Ok (Some ReadFault)
      → Advances (λ (x : Bool × List (List ℕ)). replies x.0 (bytes ∷ x.1)) (λ x. then x.0 x.1) (replies false (bytes ∷ [])).text old mid taken → EndsRun {E = E} replies bytes old mid (Ok answer)
  ends_in taken answer t n a = record {
    text = a.text;
    appends = a.appends;
    front = rw line (a.front (true, []));
    ended = λ status e k. rw line (a.ended status (t ∙ ap (λ x. Ok (Some x)) cc) k (true, []));
    short = λ e. inl (record {
      before = [];
      line = bytes;
      behind = [];
      lines = line;
      reported = rw (ready) (a.text, refl);
      short = a.short (t ∙ ap (λ x. Ok (Some x)) cc);
      last = inr (refl, refl);
    });
    long = λ e. record {
      before = [];
      behind = bytes ∷ [];
      lines = line;
      reported = ready ∙ ap (λ x. ends x Done) (sym (a.long (t ∙ ap (λ x. Ok (Some x)) cc)));
    };
    no_read = λ e. n (t ∙ ap (λ x. Ok (Some x)) cc);
  }

  -- memory was refused in it
  pub ends_err : {E F : Type 0} (taken : Result (Option Status) F) (refused : E) (due : List ℕ) → Advances (λ (x : Bool × List (List ℕ)). replies x.0 (bytes ∷ x.1)) (λ x. then x.0 x.1) due old mid taken
      → EndsRun replies bytes old mid (Err refused)
  ends_err taken refused due a = record {
    text = a.text;
    appends = a.appends;
    front = rw line (a.front (true, []));
    ended = λ status e k. cc;
    short = λ e. absurd cc;
    long = λ e. absurd cc;
    no_read = λ e. cc;
  }
