-- Lines whose replies are gathered before they are written.
use Rattle.std.proofs.Common.{◌≡◌, ◌∙◌, ◌⊎◌, inl, inr, ◌<◌, ◌+◌, ℕ, Bool, true, false, List, [], ◌∷◌, ◌++◌, length, refl, sym, ap, subst, Option, Some, None, Result, Ok, Err, append_assoc, append-nil, arith, length-append}
use Rattle.std.specs.Io.KnownBytes.{Appends}
use Rattle.std.proofs.KnownBytes.{Appends-nil, Appends-trans}
use Rattle.xcm_io.specs.Bytes.{IsFront, IsProperFront, AppendsWhole}
use Rattle.input_lines.specs.Lines.{lines_of, ends_with}
use Rattle.line_serving.specs.declared.status.Status.{Status}
use Rattle.line_serving.specs.declared.status.Status.TheVariants.{Done, WriteFault, TooLong}
use Rattle.line_serving.specs.Replies.{Reply, Replies, Rooms, ends, then_on}
use Rattle.line_serving.specs.Calls.{Advances}
use Rattle.line_serving.specs.Feeding.{Flows, StopsRun, StopsInLine, AllWhole}
use Rattle.line_serving.specs.Gathering.{HandsOver, Hands}
use Rattle.line_serving.proofs.Lemmas.{front_on, proper_on}
use Rattle.line_serving.proofs.Flowing.{then_proper, then_front, then_ends, whole_more, flows_start, flows_line, flow_bytes, flow_so_far}

-- ---- prefixes

abbrev first_of : List ℕ → ℕ
first_of [] = 0
first_of (x ∷ xs) = x

abbrev rest_of : List ℕ → List ℕ
rest_of [] = []
rest_of (x ∷ xs) = xs

no_proper : (part : List ℕ) → IsProperFront part [] → ⊥
no_proper part p =
    let size : 0 ≡ length part + length p.0 = ap length p.1 ∙ length-append part p.0 in
    let some : 0 < length p.0 = p.2 in
    absurd (omega arith)

-- a proper prefix of two texts is one of the first, or has all of it and a proper prefix of the second
pub cut_of : (part text more : List ℕ) → IsProperFront part (text ++ more) → IsProperFront part text ⊎ ((rest : List ℕ) × (part ≡ text ++ rest) × IsProperFront rest more)
cut_of part [] more p = inr (part, refl, p)
cut_of [] (x ∷ xs) more p = inl (x ∷ xs, refl, omega arith)
cut_of (y ∷ ys) (x ∷ xs) more p =
    let same : x ≡ y = ap first_of p.1 in
    let later : IsProperFront ys (xs ++ more) = (p.0, ap rest_of p.1, p.2) in
    elim (cut_of ys xs more later) [
      | inl h ↦ inl (h.0, ap (λ k. k ∷ xs) same ∙ ap (λ l. y ∷ l) h.1, h.2)
      | inr h ↦ inr (h.0, ap (λ k. k ∷ ys) (sym same) ∙ ap (λ l. x ∷ l) h.1, h.2)
    ]

-- ---- texts that are cut short

-- The text ends inside the report of one of these lines, the first whose report isn't whole.
pub record CutInLine (replies : Replies) (lines : List (List ℕ)) (text : List ℕ) : Type 0 where
  pub before : List (List ℕ)
  pub line : List ℕ
  pub behind : List (List ℕ)
  pub parts : lines ≡ before ++ line ∷ behind
  pub reported : IsFront (replies false before).text text
  pub short : IsProperFront text (replies false (before ++ line ∷ [])).text

more_behind : (replies : Replies) (took : List (List ℕ)) (line part : List ℕ) → CutInLine replies took part → CutInLine replies (took ++ line ∷ []) part
more_behind replies took line part c = record {
  before = c.before;
  line = c.line;
  behind = c.behind ++ line ∷ [];
  parts = ap (λ l. l ++ line ∷ []) c.parts ∙ append_assoc c.before (c.line ∷ c.behind) (line ∷ []);
  reported = c.reported;
  short = c.short;
}

-- one line more
pub cut_more : (first now : Replies) (took : List (List ℕ)) (text line more : List ℕ) → first false took ≡ ends text Done → first false (took ++ line ∷ []) ≡ then_on text (now false (line ∷ []))
    → IsFront more (now false (line ∷ [])).text → ((part : List ℕ) → IsProperFront part text → CutInLine first took part)
    → (part : List ℕ) → IsProperFront part (text ++ more) → CutInLine first (took ++ line ∷ []) part
cut_more first now took text line more so_far goes front cuts part p = elim (cut_of part text more p) [
  | inl h ↦ more_behind first took line part (cuts part h)
  | inr h ↦ record {
    before = took;
    line = line;
    behind = [];
    parts = refl;
    reported = (h.0, h.1 ∙ ap (λ t. t ++ h.0) (sym (ap (λ o. o.text) so_far)));
    short = rw h.1 (then_proper _ _ text h.0 goes (proper_on h.0 more front.0 (now false (line ∷ [])).text h.2 front.1));
  }
]

whole_in : (before : List (List ℕ)) (line : List ℕ) (behind : List (List ℕ)) → AllWhole (before ++ line ∷ behind) → ends_with 10 line ≡ true
whole_in [] line behind w = w.0
whole_in (x ∷ xs) line behind w = whole_in xs line behind w.1

pub stops_cut : (replies : Replies) (bytes : List ℕ) (took rest : List (List ℕ)) (part : List ℕ) → lines_of bytes ≡ took ++ rest → AllWhole took → CutInLine replies took part → StopsInLine replies false bytes part
stops_cut replies bytes took rest part e w c = record {
  before = c.before;
  line = c.line;
  behind = c.behind ++ rest;
  lines = e ∙ ap (λ l. l ++ rest) c.parts ∙ append_assoc c.before (c.line ∷ c.behind) rest;
  reported = c.reported;
  short = c.short;
  last = inl (whole_in c.before c.line c.behind (subst AllWhole c.parts w));
}

-- ---- a machine whose replies are gathered

-- Of the replies to the lines taken some were written, and these bytes are held.
pub record Gathers {M : Type 0} (replies : M → Replies) (rooms : M → Rooms) (machine now : M) (bytes rest : List ℕ) (old mid : Option (List ℕ)) (held : List ℕ) : Type 0 where
  pub told : List ℕ
  pub appends : Appends old mid told
  pub flows : Flows replies rooms machine now bytes rest (Some []) (Some (told ++ held))
  pub cuts : (part : List ℕ) → IsProperFront part flows.text → CutInLine (replies machine) flows.took part

goes_unfailed : {E : Type 0} (result : Result (Option Status) E) → result ≡ Ok None → result ≡ Ok (Some WriteFault) → ⊥
goes_unfailed result e r = cc

-- as a call of a sink that shows this text alone
abbrev advances_of : {X E : Type 0} (before after : X → Reply) (due held left : List ℕ) (old new first then : Option (List ℕ)) (result : Result (Option Status) E) (h : Hands before after due held left old new result)
    → result ≡ Ok None → Appends first then h.text → Advances before after due first then result
advances_of before after due held left old new first then result h e w = record {
  text = h.text;
  appends = w;
  front = h.front;
  goes_on = λ r. (h.goes_on r).1;
  ended = λ status r n. (h.ended status r n).1;
  short = λ r. absurd (goes_unfailed result e r);
  long = h.long;
}

module _ {M : Type 0} (replies : M → Replies) (rooms : M → Rooms) where
  pub gathers_start : (machine : M) (bytes : List ℕ) (known : Option (List ℕ)) (page : List ℕ) → page ≡ [] → Gathers replies rooms machine machine bytes bytes known known page
  gathers_start machine bytes known page none = rw none (record {
    told = [];
    appends = Appends-nil known;
    flows = flows_start replies rooms machine bytes (Some []);
    cuts = λ part p. absurd (no_proper part p);
  })

  module _ (machine now : M) (bytes rest : List ℕ) (old mid : Option (List ℕ)) (held : List ℕ) (g : Gathers replies rooms machine now bytes rest old mid held) where
    lines_taken : lines_of bytes ≡ g.flows.took ++ lines_of rest
    lines_taken = ap lines_of (sym (append-nil bytes)) ∙ g.flows.cut [] ∙ ap (λ b. g.flows.took ++ lines_of b) (append-nil rest)

    -- all that is held is written
    pub gathers_done : (new : Option (List ℕ)) → Appends mid new held → Flows replies rooms machine now bytes rest old new
    gathers_done new a = record {
      took = g.flows.took;
      text = g.flows.text;
      appends = subst (Appends old new) g.flows.appends (Appends-trans old mid new g.told held g.appends a);
      cut = g.flows.cut;
      whole = g.flows.whole;
      goes = g.flows.goes;
      room = g.flows.room;
    }

    -- a write failed with a proper prefix of it written
    pub gathers_short : {E : Type 0} (new : Option (List ℕ)) (front : List ℕ) → IsProperFront front held → Appends mid new front → StopsRun {E = E} (replies machine) bytes old new (Ok (Some WriteFault))
    gathers_short new front h a =
        let part : IsProperFront (g.told ++ front) g.flows.text = (h.0, sym g.flows.appends ∙ ap (λ t. g.told ++ t) h.1 ∙ sym (append_assoc g.told front h.0), h.2) in
        record {
          text = g.told ++ front;
          appends = Appends-trans old mid new g.told front g.appends a;
          front = λ at_end more. front_on (g.told ++ front) g.flows.text _ _ (part.0, part.1) (flow_bytes replies rooms machine now bytes rest (Some []) (Some (g.told ++ held)) g.flows at_end more);
          ended = λ status e n. absurd (n cc);
          short = λ e. stops_cut (replies machine) bytes g.flows.took (lines_of rest) (g.told ++ front) lines_taken g.flows.whole (g.cuts (g.told ++ front) part);
          long = λ e. absurd cc;
        }

    module _ {E : Type 0} (then : M) (less line left : List ℕ) (new : Option (List ℕ)) (result : Result (Option Status) E) (r : replies now false [] ≡ ends [] Done)
        (h : Hands (λ (x : Bool × List (List ℕ)). replies now x.0 (line ∷ x.1)) (λ x. replies then x.0 x.1) (replies now false (line ∷ [])).text held left mid new result)
        (next : (more : List ℕ) → lines_of (rest ++ more) ≡ line ∷ lines_of (less ++ more)) (feed : ends_with 10 line ≡ true) where
      -- what was told and is held, and more
      text_held : (more : List ℕ) → g.flows.text ++ more ≡ g.told ++ (held ++ more)
      text_held more = ap (λ t. t ++ more) (sym g.flows.appends) ∙ append_assoc g.told held more

      so_far : replies machine false g.flows.took ≡ ends g.flows.text Done
      so_far = flow_so_far replies rooms machine now bytes rest (Some []) (Some (g.told ++ held)) g.flows r

      cuts_here : (more : List ℕ) → IsFront more (replies now false (line ∷ [])).text → (part : List ℕ) → IsProperFront part (g.flows.text ++ more) → CutInLine (replies machine) (g.flows.took ++ line ∷ []) part
      cuts_here more front = cut_more (replies machine) (replies now) g.flows.took g.flows.text line more so_far (g.flows.goes false (line ∷ [])) front g.cuts

      -- the line is taken
      pub gathers_line : result ≡ Ok None → ((lines : List (List ℕ)) (begun : ℕ) → rooms then lines begun → rooms now (line ∷ lines) begun) → Gathers replies rooms machine then bytes less old new left
      gathers_line e m =
          let all : (g.told ++ h.part) ++ left ≡ (g.told ++ held) ++ h.text =
          append_assoc g.told h.part left ∙ ap (λ t. g.told ++ t) (sym (h.goes_on e).0) ∙ sym (append_assoc g.told held h.text) in
          record {
            told = g.told ++ h.part;
            appends = Appends-trans old mid new g.told h.part g.appends h.appends;
            flows = flows_line replies rooms machine now bytes rest (Some []) (Some (g.told ++ held)) g.flows then less line (replies now false (line ∷ [])).text (Some ((g.told ++ h.part) ++ left)) result
                (advances_of _ _ _ held left mid new (Some (g.told ++ held)) (Some ((g.told ++ h.part) ++ left)) result h e all) e next feed m;
            cuts = cuts_here h.text (h.front (false, []));
          }

      lines_here : lines_of bytes ≡ g.flows.took ++ line ∷ lines_of less
      lines_here = lines_taken ∙ ap (λ l. g.flows.took ++ l) (ap lines_of (sym (append-nil rest)) ∙ next [] ∙ ap (λ b. line ∷ lines_of b) (append-nil less))

      reply_here : (at_end : Bool) (more : List ℕ) → replies machine at_end (lines_of (bytes ++ more)) ≡ then_on g.flows.text (replies now at_end (line ∷ lines_of (less ++ more)))
      reply_here at_end more = flow_bytes replies rooms machine now bytes rest (Some []) (Some (g.told ++ held)) g.flows at_end more ∙ ap (λ l. then_on g.flows.text (replies now at_end l)) (next more)

      front_here : (at_end : Bool) (more : List ℕ) → IsFront (g.told ++ h.part) (replies machine at_end (lines_of (bytes ++ more))).text
      front_here at_end more =
          let w = then_front _ _ g.flows.text h.text (reply_here at_end more) (h.front (at_end, lines_of (less ++ more))) in
          (h.told.0 ++ w.0, w.1 ∙ ap (λ t. t ++ w.0) (text_held h.text ∙ ap (λ t. g.told ++ t) h.told.1 ∙ sym (append_assoc g.told h.part h.told.0)) ∙ append_assoc (g.told ++ h.part) h.told.0 w.0)

      -- the line ended the run, or memory was refused in it
      pub gathers_over : {F : Type 0} (answer : Result (Option Status) F) → ((status : Status) → answer ≡ Ok (Some status) → result ≡ Ok (Some status)) → StopsRun (replies machine) bytes old new answer
      gathers_over answer same = record {
        text = g.told ++ h.part;
        appends = Appends-trans old mid new g.told h.part g.appends h.appends;
        front = front_here;
        ended = λ status o n at_end more. let w = h.ended status (same status o) n in
            then_ends _ _ g.flows.text h.text status (reply_here at_end more) (w.1 (at_end, lines_of (less ++ more))) ∙ ap (λ t. ends t status) (text_held h.text ∙ ap (λ t. g.told ++ t) (sym w.0));
        short = λ o. let p = h.short (same WriteFault o) in
            stops_cut (replies machine) bytes (g.flows.took ++ line ∷ []) (lines_of less) (g.told ++ h.part) (lines_here ∙ sym (append_assoc g.flows.took (line ∷ []) (lines_of less)))
            (whole_more g.flows.took line g.flows.whole feed)
            (cuts_here (replies now false (line ∷ [])).text ([], sym (append-nil (replies now false (line ∷ [])).text)) (g.told ++ h.part)
            (p.0, text_held (replies now false (line ∷ [])).text ∙ ap (λ t. g.told ++ t) p.1 ∙ sym (append_assoc g.told h.part p.0), p.2));
        long = λ o. record {
          before = g.flows.took;
          behind = line ∷ lines_of less;
          lines = lines_here;
          reported = so_far ∙ ap (λ t. ends t Done) (sym (append-nil g.flows.text) ∙ ap (λ t. g.flows.text ++ t) (sym (h.long (same TooLong o))) ∙ text_held h.text
              ∙ ap (λ t. g.told ++ t) (sym (h.ended TooLong (same TooLong o) (λ x. cc)).0));
        };
      }

-- ---- a line that is handed to the machine

handed_part : {G : Type 0} (mid new : Option (List ℕ)) (page : List ℕ) (handed : Result (Unit {0}) G) → AppendsWhole mid new handed page → (part : List ℕ) × IsFront part page × Appends mid new part
handed_part mid new page (Ok done) w = (page, ([], sym (append-nil page)), w)
handed_part mid new page (Err failed) w = (w.0, (w.1.0, w.1.1), w.2)

module _ {X E : Type 0} (before after : X → Reply) (none : X) (held page : List ℕ) (old new : Option (List ℕ)) (taken : Result (Option Status) E)
    (a : Advances before after (before none).text (Some held) (Some page) taken) where
  part_front : (part : List ℕ) → IsFront part page → IsFront part (held ++ a.text)
  part_front part f = (f.0, sym a.appends ∙ f.1)

  part_short : (part : List ℕ) → IsProperFront part page → IsProperFront part (held ++ (before none).text)
  part_short part f = proper_on part (held ++ a.text) (a.front none).0 (held ++ (before none).text) (f.0, sym a.appends ∙ f.1, f.2)
      (ap (λ t. held ++ t) (a.front none).1 ∙ sym (append_assoc held a.text (a.front none).0))

  -- its reply is gathered
  pub hands_some : (part left : List ℕ) → taken ≡ Ok None → page ≡ part ++ left → Appends old new part → Hands {E = E} before after (before none).text held left old new (Ok None)
  hands_some part left e p w = record {
    text = a.text;
    part = part;
    appends = w;
    told = part_front part (left, p);
    front = a.front;
    goes_on = λ r. (sym a.appends ∙ p, a.goes_on e);
    ended = λ status r n. absurd cc;
    short = λ r. absurd cc;
    long = λ r. absurd cc;
  }

  -- the page wasn't written whole
  pub hands_part : (part left : List ℕ) → IsProperFront part page → Appends old new part → Hands {E = E} before after (before none).text held left old new (Ok (Some WriteFault))
  hands_part part left p w = record {
    text = a.text;
    part = part;
    appends = w;
    told = part_front part (p.0, p.1);
    front = a.front;
    goes_on = λ r. absurd cc;
    ended = λ status r n. absurd (n cc);
    short = λ r. part_short part p;
    long = λ r. absurd cc;
  }

  -- the run is over
  pub hands_over : {F : Type 0} (left : List ℕ) (status : Status) (answer : Result (Option Status) F) → taken ≡ Ok (Some status) → HandsOver page status old new answer
      → Hands before after (before none).text held left old new answer
  hands_over left status answer e h = record {
    text = a.text;
    part = h.part;
    appends = h.appends;
    told = part_front h.part h.front;
    front = a.front;
    goes_on = λ r. absurd (h.ended r);
    ended = λ other r n. let w = h.whole other r n in (w.1 ∙ a.appends, a.ended other (e ∙ ap (λ s. Ok (Some s)) (sym w.0)) n);
    short = λ r. part_short h.part (h.short r).0;
    long = λ r. a.long (e ∙ ap (λ s. Ok (Some s)) (sym (h.whole TooLong r (λ x. cc)).0));
  }

  -- memory was refused
  pub hands_err : {F G : Type 0} (left : List ℕ) (handed : Result (Unit {0}) G) (refused : F) → AppendsWhole old new handed page → Hands before after (before none).text held left old new (Err refused)
  hands_err left handed refused w =
      let some : (part : List ℕ) × IsFront part page × Appends old new part = handed_part old new page handed w in
      record {
        text = a.text;
        part = some.0;
        appends = some.2;
        told = part_front some.0 some.1;
        front = a.front;
        goes_on = λ r. absurd cc;
        ended = λ status r n. absurd cc;
        short = λ r. absurd cc;
        long = λ r. absurd cc;
      }

-- its reply goes to the sink behind what is held
pub hands_directly : {X E : Type 0} (before after : X → Reply) (due held left : List ℕ) (old mid new : Option (List ℕ)) (result : Result (Option Status) E) → left ≡ [] → Appends old mid held
    → Advances before after due mid new result → Hands before after due held left old new result
hands_directly before after due held left old mid new result e w a = record {
  text = a.text;
  part = held ++ a.text;
  appends = Appends-trans old mid new held a.text w a.appends;
  told = ([], sym (append-nil (held ++ a.text)));
  front = a.front;
  goes_on = λ r. (sym (append-nil (held ++ a.text)) ∙ ap (λ l. (held ++ a.text) ++ l) (sym e), a.goes_on r);
  ended = λ status r n. (refl, a.ended status r n);
  short = λ r. let p = a.short r in (p.0, ap (λ t. held ++ t) p.1 ∙ sym (append_assoc held a.text p.0), p.2);
  long = a.long;
}

-- what is held wasn't written whole, and the line isn't taken
pub hands_nothing : {X E : Type 0} (before after : X → Reply) (due held left part : List ℕ) (old new : Option (List ℕ)) → IsProperFront part held → Appends old new part
    → Hands {E = E} before after due held left old new (Ok (Some WriteFault))
hands_nothing before after due held left part old new p w = record {
  text = [];
  part = part;
  appends = w;
  told = (p.0, append-nil held ∙ p.1);
  front = λ more. ((before more).text, refl);
  goes_on = λ r. absurd cc;
  ended = λ status r n. absurd (n cc);
  short = λ r. proper_on part held due (held ++ due) p refl;
  long = λ r. refl;
}
