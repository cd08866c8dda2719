-- A run over a source, read by pieces.
use Rattle.std.proofs.Common.{◌≡◌, ◌≢◌, ◌∙◌, ◌⊎◌, inl, inr, ◌<◌, ◌≤◌, ◌+◌, ◌-◌, ℕ, Bool, true, false, List, [], ◌∷◌, ◌++◌, length, get_or, eqb, refl, sym, ap, subst, Option, Some, None, Result, Ok, Err, IfSome, append_assoc, append-nil, arith, length-append}
use Rattle.std.proofs.lemmas.Bool.{eqb-true}
use Rattle.std.proofs.lemmas.Bool.Decides.{nat_tests}
use Rattle.std.proofs.lemmas.List.{get_or-append-add, get_or_append_left}
use Rattle.std.specs.Prelude.{filter, nat_lt, ◌&&◌}
use Rattle.std.specs.Io.KnownBytes.{Appends, Consumes, Keeps, IsAtEnd}
use Rattle.std.proofs.KnownBytes.{Appends-nil, Appends-trans, Consumes-nil, Consumes-trans, Consumes-kept}
use Rattle.xcm_io.specs.Bytes.{IsFront}
use Rattle.std.specs.List.{concat}
use Rattle.input_lines.specs.Lines.{lines_of, ends_with, HasNoFeed}
use Rattle.std.proofs.lemmas.List.Folds.{concat-append}
use Rattle.input_lines.proofs.Lemmas.{no_lines, only_line, concat-lines_of}
use Rattle.line_serving.specs.declared.status.Status.{Status}
use Rattle.line_serving.specs.declared.status.Status.TheVariants.{Done, ReadFault, TooLong}
use Rattle.line_serving.specs.Replies.{Replies, Rooms, ends, then_on, bytes_reply, whole_lines, so_far}
use Rattle.line_serving.specs.Feeding.{AllWhole, Flows, StopsRun, StopsInLine, StopsAtLimit, StopsAtEnd, EndsRun}
use Rattle.line_serving.specs.Serving.{Serves, FailedInLine, FailedAtEnd, StoppedAtLimit, ReadInTime}
use Rattle.line_serving.proofs.Lemmas.{in_time_start}
use Rattle.line_serving.proofs.Flowing.{then_then, then_front, then_proper, then_ends, then_nothing, all_whole}
use Rattle.line_serving.proofs.PastLimits.{no_feed_end}

-- so far: these bytes were taken, and this text was written for the lines among them that are whole; whatever comes, the machine
-- has the rest of the report
pub record Streams {M : Type 0} (replies : M → Replies) (rooms : M → Rooms) (start : M) (left rest old now : Option (List ℕ)) (machine : M) (pending : List ℕ) : Type 0 where
  pub taken : List ℕ
  pub consumed : Consumes left rest taken
  pub reported : List (List ℕ)
  pub text : List ℕ
  pub appends : Appends old now text
  pub cut : (more : List ℕ) → lines_of (taken ++ more) ≡ reported ++ lines_of (pending ++ more)
  pub whole : AllWhole reported
  pub goes : (at_end : Bool) (lines : List (List ℕ)) → replies start at_end (reported ++ lines) ≡ then_on text (replies machine at_end lines)
  pub room : (lines : List (List ℕ)) (begun : ℕ) → rooms machine lines begun → rooms start (reported ++ lines) begun
  pub in_time : ReadInTime (replies start) (rooms start) taken text

-- more is written
pub in_time_more : (first : Replies) (room : Rooms) (taken text more : List ℕ) → ReadInTime first room taken text → ReadInTime first room taken (text ++ more)
in_time_more first room taken text more t = record {
  before = t.before;
  piece = t.piece;
  parts = t.parts;
  few = t.few;
  begun = t.begun;
  lines = t.lines;
  within = t.within;
  told = t.told;
  undecided = t.undecided;
  written = (t.written.0 ++ more, ap (λ x. x ++ more) t.written.1 ∙ append_assoc t.told t.written.0 more);
}

pub streams_start : {M : Type 0} (replies : M → Replies) (rooms : M → Rooms) (start : M) (left old : Option (List ℕ)) (machine : M) (pending : List ℕ) → machine ≡ start → pending ≡ [] → replies start false [] ≡ ends [] Done → rooms start [] 0
    → Streams replies rooms start left left old old machine pending
streams_start replies rooms start left old machine pending same none nothing begun = record {
  taken = [];
  consumed = Consumes-nil left;
  reported = [];
  text = [];
  appends = Appends-nil old;
  cut = λ more. ap (λ p. lines_of (p ++ more)) (sym none);
  whole = tt;
  goes = λ at_end lines. ap (λ m. replies m at_end lines) (sym same);
  room = λ lines begun_here r. subst (λ (m : _). rooms m lines begun_here) same r;
  in_time = in_time_start (replies start) (rooms start) nothing begun;
}

-- ---- whole lines

keeps_whole : (lines : List (List ℕ)) → AllWhole lines → filter (ends_with 10) lines ≡ lines
keeps_whole [] w = refl
keeps_whole (line ∷ lines) w = rw w.0 (ap (λ l. line ∷ l) (keeps_whole lines w.1))

drops_open : (lines : List (List ℕ)) (line : List ℕ) → AllWhole lines → ends_with 10 line ≡ false → filter (ends_with 10) (lines ++ line ∷ []) ≡ lines
drops_open [] line w e = rw e refl
drops_open (first ∷ lines) line w e = rw w.0 (ap (λ l. first ∷ l) (drops_open lines line w.1 e))

whole_of : (lines : List (List ℕ)) (pending : List ℕ) → AllWhole lines → HasNoFeed pending → filter (ends_with 10) (lines ++ lines_of pending) ≡ lines
whole_of lines [] w n = ap (λ l. filter (ends_with 10) (lines ++ l)) (no_lines [] refl) ∙ ap (filter (ends_with 10)) (append-nil lines) ∙ keeps_whole lines w
whole_of lines (b ∷ rest) w n =
    ap (λ l. filter (ends_with 10) (lines ++ l)) (only_line (b ∷ rest) (omega arith) n) ∙ drops_open lines (b ∷ rest) w (no_feed_end (b ∷ rest) (omega arith) n)

-- ---- the whole input
told : (left rest : Option (List ℕ)) (taken : List ℕ) (P : List ℕ → Type 0) → Consumes left rest taken → ((more : List ℕ) → P (taken ++ more)) → IfSome left P
told None rest taken P c f = tt
told (Some bytes) None taken P c f = absurd c
told (Some bytes) (Some more) taken P c f = rw c (f more)

at_end_of : (left rest : Option (List ℕ)) (taken : List ℕ) (P : List ℕ → Type 0) → Consumes left rest taken → IsAtEnd rest → P taken → IfSome left P
at_end_of None rest taken P c a p = tt
at_end_of (Some bytes) None taken P c a p = absurd c
at_end_of (Some bytes) (Some more) taken P c a p = let e : bytes ≡ taken = c ∙ ap (λ m. taken ++ m) a ∙ append-nil taken in rw e p

module _ {M : Type 0} (replies : M → Replies) (rooms : M → Rooms) (start : M) (left rest old now : Option (List ℕ)) (machine : M) (pending : List ℕ) (s : Streams replies rooms start left rest old now machine pending) where
  -- the report of what was taken and of what comes
  stream_bytes : (more : List ℕ) → bytes_reply (replies start) (s.taken ++ more) ≡ then_on s.text (replies machine true (lines_of (pending ++ more)))
  stream_bytes more = ap (replies start true) (s.cut more) ∙ s.goes true (lines_of (pending ++ more))

  -- the report of what was taken
  stream_taken : bytes_reply (replies start) s.taken ≡ then_on s.text (replies machine true (lines_of pending))
  stream_taken = ap (bytes_reply (replies start)) (sym (append-nil s.taken)) ∙ stream_bytes [] ∙ ap (λ p. then_on s.text (replies machine true (lines_of p))) (append-nil pending)

  stream_lines : lines_of s.taken ≡ s.reported ++ lines_of pending
  stream_lines = ap lines_of (sym (append-nil s.taken)) ∙ s.cut [] ∙ ap (λ p. s.reported ++ lines_of p) (append-nil pending)

  -- what is reported so far
  stream_reported : replies machine false [] ≡ ends [] Done → replies start false s.reported ≡ ends s.text Done
  stream_reported r = then_nothing _ _ s.text (ap (replies start false) (sym (append-nil s.reported)) ∙ s.goes false []) r

  stream_so_far : replies machine false [] ≡ ends [] Done → HasNoFeed pending → so_far (replies start) s.taken ≡ ends s.text Done
  stream_so_far r n = ap (λ l. replies start false (filter (ends_with 10) l)) stream_lines ∙ ap (replies start false) (whole_of s.reported pending s.whole n) ∙ stream_reported r

  -- what is written is a prefix of it, whatever comes
  stream_ahead : (more : List ℕ) → IsFront s.text (bytes_reply (replies start) (s.taken ++ more)).text
  stream_ahead more = ((replies machine true (lines_of (pending ++ more))).text, ap (λ o. o.text) (stream_bytes more))

  stream_front : IsFront s.text (bytes_reply (replies start) s.taken).text
  stream_front = ((replies machine true (lines_of pending)).text, ap (λ o. o.text) stream_taken)

  -- nothing more is taken or written
  pub streams_kept : (less : Option (List ℕ)) → Keeps rest less → Streams replies rooms start left less old now machine pending
  streams_kept less k = record {
    taken = s.taken;
    consumed = Consumes-kept left rest less s.taken s.consumed k;
    reported = s.reported;
    text = s.text;
    appends = s.appends;
    cut = s.cut;
    whole = s.whole;
    goes = s.goes;
    room = s.room;
    in_time = s.in_time;
  }

  -- the whole lines, and the line that is begun
  stream_whole : HasNoFeed pending → whole_lines s.taken ≡ s.reported
  stream_whole n = ap (filter (ends_with 10)) stream_lines ∙ whole_of s.reported pending s.whole n

  stream_parts : s.taken ≡ concat s.reported ++ pending
  stream_parts = sym (concat-lines_of s.taken) ∙ ap concat stream_lines ∙ concat-append s.reported (lines_of pending) ∙ ap (λ p. concat s.reported ++ p) (concat-lines_of pending)

  -- the last read gives this piece
  pub stream_in_time : (piece text : List ℕ) → replies machine false [] ≡ ends [] Done → HasNoFeed pending → rooms machine [] (length pending) → length piece ≤ 65536
      → ReadInTime (replies start) (rooms start) (s.taken ++ piece) (s.text ++ text)
  stream_in_time piece text r n begun few = record {
    before = s.taken;
    piece = piece;
    parts = refl;
    few = few;
    begun = pending;
    lines = stream_parts ∙ ap (λ l. concat l ++ pending) (sym (stream_whole n));
    within = subst (λ (all : List (List ℕ)). rooms start all (length pending)) (append-nil s.reported ∙ sym (stream_whole n)) (s.room [] (length pending) begun);
    told = s.text;
    undecided = stream_so_far r n;
    written = (text, refl);
  }

  -- the source failed
  pub streams_fault : {E : Type 0} → replies machine false [] ≡ ends [] Done → HasNoFeed pending → Serves {E = E} (replies start) (rooms start) left rest old now (Ok ReadFault)
  streams_fault r n = record {
    taken = s.taken;
    consumed = s.consumed;
    text = s.text;
    appends = s.appends;
    front = stream_front;
    whole = told left rest s.taken (λ bytes. IsFront s.text (bytes_reply (replies start) bytes).text) s.consumed stream_ahead;
    ended = λ status e k. absurd (k (inl cc));
    read_failed = λ e. stream_so_far r n;
    write_failed = λ e. absurd cc;
    past_limit = λ e. absurd cc;
    in_time = s.in_time;
  }

  joined_more : (piece more : List ℕ) → lines_of ((s.taken ++ piece) ++ more) ≡ s.reported ++ lines_of ((pending ++ piece) ++ more)
  joined_more piece more = ap lines_of (append_assoc s.taken piece more) ∙ s.cut (piece ++ more) ∙ ap (λ b. s.reported ++ lines_of b) (sym (append_assoc pending piece more))

  joined_here : (piece : List ℕ) → lines_of (s.taken ++ piece) ≡ s.reported ++ lines_of (pending ++ piece)
  joined_here piece = s.cut piece

  -- a piece is taken
  pub streams_more : (less new : Option (List ℕ)) (then : M) (piece unended : List ℕ) → Consumes rest less piece → Flows replies rooms machine then (pending ++ piece) unended now new
      → replies machine false [] ≡ ends [] Done → HasNoFeed pending → rooms machine [] (length pending) → length piece ≤ 65536
      → Streams replies rooms start left less old new then unended
  streams_more less new then piece unended c f r n begun few = record {
    taken = s.taken ++ piece;
    consumed = Consumes-trans left rest less s.taken piece s.consumed c;
    reported = s.reported ++ f.took;
    text = s.text ++ f.text;
    appends = Appends-trans old now new s.text f.text s.appends f.appends;
    cut = λ more. joined_more piece more ∙ ap (λ l. s.reported ++ l) (f.cut more) ∙ sym (append_assoc s.reported f.took (lines_of (unended ++ more)));
    whole = all_whole s.reported f.took s.whole f.whole;
    goes = λ at_end lines. ap (replies start at_end) (append_assoc s.reported f.took lines)
        ∙ then_then _ _ s.text f.text (replies then at_end lines) (s.goes at_end (f.took ++ lines)) (f.goes at_end lines);
    room = λ lines begun_here w. subst (λ (all : List (List ℕ)). rooms start all begun_here) (sym (append_assoc s.reported f.took lines)) (s.room (f.took ++ lines) begun_here (f.room lines begun_here w));
    in_time = stream_in_time piece f.text r n begun few;
  }

-- ---- what is after a line that ends in the last piece

last_feed : (line : List ℕ) (some : Bool) → (some && eqb (get_or line (length line - 1) 0) 10) ≡ true → get_or line (length line - 1) 0 ≡ 10
last_feed line true e = eqb-true (get_or line (length line - 1) 0) 10 e
last_feed line false e = absurd cc

some_line : (line : List ℕ) (some rest : Bool) → nat_lt 0 (length line) ≡ some → (some && rest) ≡ true → 0 < length line
some_line line true rest n e = grind (arith, nat_tests)
some_line line false rest n e = absurd cc

-- a line with its feed does not end inside bytes that have none
ends_behind : (pending piece before line behind : List ℕ) → pending ++ piece ≡ before ++ (line ++ behind) → HasNoFeed pending → ends_with 10 line ≡ true → length pending < length before + length line
ends_behind pending piece before line behind e n w = by_test (nat_lt (length pending) (length before + length line)) refl
  where
    some : 0 < length line
    some = some_line line (nat_lt 0 (length line)) (eqb (get_or line (length line - 1) 0) 10) refl w

    feed : get_or line (length line - 1) 0 ≡ 10
    feed = last_feed line (nat_lt 0 (length line)) w

    there : get_or (pending ++ piece) (length before + (length line - 1)) 0 ≡ 10
    there = ap (λ b. get_or b (length before + (length line - 1)) 0) e ∙ get_or-append-add before (line ++ behind) (length line - 1) 0 ∙ get_or_append_left line behind 0 (length line - 1) (omega (arith, some)) ∙ feed

    by_test : (b : Bool) → nat_lt (length pending) (length before + length line) ≡ b → length pending < length before + length line
    by_test true t = grind (arith, nat_tests)
    by_test false t =
        let inside : length before + length line ≤ length pending = grind (arith, nat_tests) in
        let here : get_or pending (length before + (length line - 1)) 0 ≡ 10 = sym (get_or_append_left pending piece 0 (length before + (length line - 1)) (omega (arith, some))) ∙ there in
        absurd (n (length before + (length line - 1)) (omega (arith, some)) here)

near_of : (pending piece : List ℕ) (before : List (List ℕ)) (line : List ℕ) (behind : List (List ℕ)) → lines_of (pending ++ piece) ≡ before ++ line ∷ behind → HasNoFeed pending → length piece ≤ 65536
    → {P : Type 0} → (ends_with 10 line ≡ true) ⊎ (P × (behind ≡ [])) → length (concat behind) < 65536
near_of pending piece before line behind e n few (inr none) = rw none.1 (omega arith)
near_of pending piece before line behind e n few (inl w) =
    let parts : pending ++ piece ≡ concat before ++ (line ++ concat behind) = sym (concat-lines_of (pending ++ piece)) ∙ ap concat e ∙ concat-append before (line ∷ behind) in
    let past : length pending < length (concat before) + length line = ends_behind pending piece (concat before) line (concat behind) parts n w in
    let size : length pending + length piece ≡ length (concat before) + (length line + length (concat behind)) =
    sym (length-append pending piece) ∙ ap length parts ∙ length-append (concat before) (line ++ concat behind) ∙ ap (λ k. length (concat before) + k) (length-append line (concat behind)) in
    omega arith

module _ {M : Type 0} (replies : M → Replies) (rooms : M → Rooms) (start : M) (left rest old now : Option (List ℕ)) (machine : M) (pending : List ℕ) (s : Streams replies rooms start left rest old now machine pending) where
  -- the report of these lines goes on from what is written
  before_front : (before : List (List ℕ)) (text : List ℕ) → IsFront (replies machine false before).text text → IsFront (replies start false (s.reported ++ before)).text (s.text ++ text)
  before_front before text f =
      let e : (replies start false (s.reported ++ before)).text ≡ s.text ++ (replies machine false before).text = ap (λ o. o.text) (s.goes false before) in
      (f.0, ap (λ t. s.text ++ t) f.1 ∙ sym (append_assoc s.text (replies machine false before).text f.0) ∙ ap (λ t. t ++ f.0) (sym e))

  -- a write failed in a line
  failed_in : (less : Option (List ℕ)) (at_end : Bool) (piece text : List ℕ) → length piece ≤ 65536 → HasNoFeed pending → (at_end ≡ true → IsAtEnd less) → StopsInLine (replies machine) at_end (pending ++ piece) text
      → FailedInLine (replies start) (s.taken ++ piece) (s.text ++ text) less
  failed_in less at_end piece text few n a i = record {
    before = s.reported ++ i.before;
    line = i.line;
    behind = i.behind;
    lines = joined_here replies rooms start left rest old now machine pending s piece ∙ ap (λ l. s.reported ++ l) i.lines ∙ sym (append_assoc s.reported i.before (i.line ∷ i.behind));
    reported = before_front i.before text i.reported;
    short = rw (append_assoc s.reported i.before (i.line ∷ [])) (then_proper _ _ s.text text (s.goes false (i.before ++ i.line ∷ [])) i.short);
    last = elim i.last [ inl w ↦ inl w | inr none ↦ inr (a none.0, none.1) ];
    near = near_of pending piece i.before i.line i.behind i.lines n few i.last;
  }

  stopped_at : (piece text : List ℕ) → StopsAtLimit (replies machine) (pending ++ piece) text → StoppedAtLimit (replies start) (s.taken ++ piece) (s.text ++ text)
  stopped_at piece text i = record {
    before = s.reported ++ i.before;
    behind = i.behind;
    lines = joined_here replies rooms start left rest old now machine pending s piece ∙ ap (λ l. s.reported ++ l) i.lines ∙ sym (append_assoc s.reported i.before i.behind);
    reported = then_ends _ _ s.text text Done (s.goes false i.before) i.reported;
  }

  -- what comes after a piece
  piece_bytes : (piece more : List ℕ) → bytes_reply (replies start) ((s.taken ++ piece) ++ more) ≡ then_on s.text (replies machine true (lines_of ((pending ++ piece) ++ more)))
  piece_bytes piece more = ap (replies start true) (joined_more replies rooms start left rest old now machine pending s piece more) ∙ s.goes true (lines_of ((pending ++ piece) ++ more))

  piece_taken : (piece : List ℕ) → bytes_reply (replies start) (s.taken ++ piece) ≡ then_on s.text (replies machine true (lines_of (pending ++ piece)))
  piece_taken piece = ap (replies start true) (joined_here replies rooms start left rest old now machine pending s piece) ∙ s.goes true (lines_of (pending ++ piece))

  front_here : (piece text : List ℕ) → ((at_end : Bool) (more : List ℕ) → IsFront text (replies machine at_end (lines_of ((pending ++ piece) ++ more))).text) → IsFront text (replies machine true (lines_of (pending ++ piece))).text
  front_here piece text f = let g = f true [] in (g.0, ap (λ b. (replies machine true (lines_of b)).text) (sym (append-nil (pending ++ piece))) ∙ g.1)

  -- a call on a piece ended the run
  pub streams_over : {E F : Type 0} (less new : Option (List ℕ)) (piece : List ℕ) (result : Result (Option Status) F) (answer : Status) → Consumes rest less piece → length piece ≤ 65536 → HasNoFeed pending
      → replies machine false [] ≡ ends [] Done → rooms machine [] (length pending) → StopsRun (replies machine) (pending ++ piece) now new result → result ≡ Ok (Some answer) → result ≢ Ok (Some ReadFault) → Serves {E = E} (replies start) (rooms start) left less old new (Ok answer)
  streams_over less new piece result answer c few n r begun p e k = record {
    taken = s.taken ++ piece;
    consumed = Consumes-trans left rest less s.taken piece s.consumed c;
    text = s.text ++ p.text;
    appends = Appends-trans old now new s.text p.text s.appends p.appends;
    front = then_front _ _ s.text p.text (piece_taken piece) (front_here piece p.text p.front);
    whole = told left less (s.taken ++ piece) (λ bytes. IsFront (s.text ++ p.text) (bytes_reply (replies start) bytes).text) (Consumes-trans left rest less s.taken piece s.consumed c)
        (λ more. then_front _ _ s.text p.text (piece_bytes piece more) (p.front true more));
    ended = λ status a f. told left less (s.taken ++ piece) (λ bytes. bytes_reply (replies start) bytes ≡ ends (s.text ++ p.text) status) (Consumes-trans left rest less s.taken piece s.consumed c)
        (λ more. then_ends _ _ s.text p.text status (piece_bytes piece more) (p.ended status (e ∙ ap (λ x. Ok (Some x)) cc) (λ w. f (inr w)) true more));
    read_failed = λ a. absurd (k (e ∙ ap (λ x. Ok (Some x)) cc));
    write_failed = λ w. inl (failed_in less false piece p.text few n (λ f. absurd cc) (p.short (e ∙ ap (λ x. Ok (Some x)) cc)));
    past_limit = λ t. stopped_at piece p.text (p.long (e ∙ ap (λ x. Ok (Some x)) cc));
    in_time = stream_in_time replies rooms start left rest old now machine pending s piece p.text r n begun few;
  }

  -- memory was refused in a piece
  pub streams_err : {E F : Type 0} (less new : Option (List ℕ)) (piece : List ℕ) (result : Result (Option Status) F) (refused : E) → Consumes rest less piece → length piece ≤ 65536 → HasNoFeed pending
      → replies machine false [] ≡ ends [] Done → rooms machine [] (length pending) → StopsRun (replies machine) (pending ++ piece) now new result → Serves (replies start) (rooms start) left less old new (Err refused)
  streams_err less new piece result refused c few n r begun p = record {
    taken = s.taken ++ piece;
    consumed = Consumes-trans left rest less s.taken piece s.consumed c;
    text = s.text ++ p.text;
    appends = Appends-trans old now new s.text p.text s.appends p.appends;
    front = then_front _ _ s.text p.text (piece_taken piece) (front_here piece p.text p.front);
    whole = told left less (s.taken ++ piece) (λ bytes. IsFront (s.text ++ p.text) (bytes_reply (replies start) bytes).text) (Consumes-trans left rest less s.taken piece s.consumed c)
        (λ more. then_front _ _ s.text p.text (piece_bytes piece more) (p.front true more));
    ended = λ status a f. cc;
    read_failed = λ a. absurd cc;
    write_failed = λ a. absurd cc;
    past_limit = λ a. absurd cc;
    in_time = stream_in_time replies rooms start left rest old now machine pending s piece p.text r n begun few;
  }

  failed_at_end : (less : Option (List ℕ)) (text : List ℕ) → IsAtEnd less → StopsAtEnd (replies machine) pending text → FailedAtEnd (replies start) s.taken (s.text ++ text) less
  failed_at_end less text a i = record {
    reported = rw (stream_lines replies rooms start left rest old now machine pending s) (before_front (lines_of pending) text i.reported);
    short = then_proper _ _ s.text text (stream_taken replies rooms start left rest old now machine pending s) i.short;
    ended = a;
  }

  failed_last : (less : Option (List ℕ)) (text : List ℕ) → HasNoFeed pending → IsAtEnd less → StopsInLine (replies machine) true pending text → FailedInLine (replies start) s.taken (s.text ++ text) less
  failed_last less text n a i =
      let f : FailedInLine (replies start) (s.taken ++ []) (s.text ++ text) less = failed_in less true [] text (omega arith) n (λ e. a) (rw (append-nil pending) i) in
      rw (append-nil s.taken) at f

  stopped_last : (text : List ℕ) → StopsAtLimit (replies machine) pending text → StoppedAtLimit (replies start) s.taken (s.text ++ text)
  stopped_last text i =
      let f : StoppedAtLimit (replies start) (s.taken ++ []) (s.text ++ text) = stopped_at [] text (rw (append-nil pending) i) in
      rw (append-nil s.taken) at f

  -- the input is at its end
  pub streams_end : {E : Type 0} (less new : Option (List ℕ)) (result : Result Status E) → Consumes rest less [] → IsAtEnd less → HasNoFeed pending → EndsRun (replies machine) pending now new result → Serves (replies start) (rooms start) left less old new result
  streams_end less new result c a n f =
      let consumed : Consumes left less s.taken = rw (append-nil s.taken) at (Consumes-trans left rest less s.taken [] s.consumed c) in
      record {
        taken = s.taken;
        consumed = consumed;
        text = s.text ++ f.text;
        appends = Appends-trans old now new s.text f.text s.appends f.appends;
        front = then_front _ _ s.text f.text (stream_taken replies rooms start left rest old now machine pending s) f.front;
        whole = at_end_of left less s.taken (λ bytes. IsFront (s.text ++ f.text) (bytes_reply (replies start) bytes).text) consumed a
            (then_front _ _ s.text f.text (stream_taken replies rooms start left rest old now machine pending s) f.front);
        ended = λ status r k. at_end_of left less s.taken (λ bytes. bytes_reply (replies start) bytes ≡ ends (s.text ++ f.text) status) consumed a
            (then_ends _ _ s.text f.text status (stream_taken replies rooms start left rest old now machine pending s) (f.ended status r (λ w. k (inr w))));
        read_failed = λ r. absurd (f.no_read r);
        write_failed = λ r. elim (f.short r) [ inl i ↦ inl (failed_last less f.text n a i) | inr i ↦ inr (failed_at_end less f.text a i) ];
        past_limit = λ r. stopped_last f.text (f.long r);
        in_time = in_time_more (replies start) (rooms start) s.taken s.text f.text s.in_time;
      }

  limit_here : replies machine false [] ≡ ends [] Done → StoppedAtLimit (replies start) s.taken s.text
  limit_here r = record { before = s.reported; behind = lines_of pending; lines = stream_lines replies rooms start left rest old now machine pending s; reported = stream_reported replies rooms start left rest old now machine pending s r }

  -- past a limit, whatever comes
  pub streams_long : {E : Type 0} → replies machine false [] ≡ ends [] Done → ((at_end : Bool) (more : List ℕ) → replies machine at_end (lines_of (pending ++ more)) ≡ ends [] TooLong) → Serves {E = E} (replies start) (rooms start) left rest old now (Ok TooLong)
  streams_long r over = record {
    taken = s.taken;
    consumed = s.consumed;
    text = s.text;
    appends = s.appends;
    front = stream_front replies rooms start left rest old now machine pending s;
    whole = told left rest s.taken (λ bytes. IsFront s.text (bytes_reply (replies start) bytes).text) s.consumed (stream_ahead replies rooms start left rest old now machine pending s);
    ended = λ status e k. told left rest s.taken (λ bytes. bytes_reply (replies start) bytes ≡ ends s.text status) s.consumed
        (λ more. then_ends _ _ s.text [] TooLong (stream_bytes replies rooms start left rest old now machine pending s more) (over true more) ∙ ap (λ t. ends t TooLong) (append-nil s.text) ∙ ap (λ x. ends s.text x) cc);
    read_failed = λ e. absurd cc;
    write_failed = λ e. absurd cc;
    past_limit = λ e. limit_here r;
    in_time = s.in_time;
  }
