-- Calls one after the other: what was written so far, and what may come.
use Rattle.std.proofs.Common.{◌≡◌, ◌∙◌, List, ℕ, [], ◌++◌, refl, sym, ap, subst, Option, Some, None, Result, Ok, Err, append_assoc}
use Rattle.std.specs.Io.KnownBytes.{Appends}
use Rattle.std.proofs.KnownBytes.{Appends-nil, Appends-trans}
use Rattle.line_serving.specs.declared.status.Status.{Status}
use Rattle.line_serving.specs.Replies.{Reply, ends, then_on}
use Rattle.xcm_compose.specs.Runs.{Ways, MayBegin, Proceeds, Concludes}

-- this text was written, and whatever may come after it may come after it from the start on
pub record Proceeded {X : Type 0} (Before After : X → Ways) (old now : Option (List ℕ)) : Type 0 where
  pub text : List ℕ
  pub appends : Appends old now text
  pub goes : (more : X) (rest : Reply) → After more rest → Before more (then_on text rest)

pub then_then : (one two : List ℕ) (rest : Reply) → then_on one (then_on two rest) ≡ then_on (one ++ two) rest
then_then one two rest = ap (λ (t : List ℕ). record { text = t; status = rest.status }) (sym (append_assoc one two rest.text))

pub then_begins : {X : Type 0} (Before After : X → Ways) (old now : Option (List ℕ)) (f : Proceeded Before After old now) (more : X) (text : List ℕ) → MayBegin text (After more) → MayBegin (f.text ++ text) (Before more)
then_begins Before After old now f more text m =
    (then_on f.text m.0, f.goes more m.0 m.1, (m.2.0, ap (λ t. f.text ++ t) m.2.1 ∙ sym (append_assoc f.text text m.2.0)))

pub flows_start : {X : Type 0} (Way : X → Ways) (known : Option (List ℕ)) → Proceeded Way Way known known
flows_start Way known = record { text = []; appends = Appends-nil known; goes = λ more rest w. w }

module _ {X : Type 0} (Before Middle After : X → Ways) (old mid new : Option (List ℕ)) (f : Proceeded Before Middle old mid) where
  -- a call after which the run goes on
  pub flows_on : {E : Type 0} (result : Result (Option Status) E) → Proceeds Middle After mid new result → result ≡ Ok None → Proceeded Before After old new
  flows_on result a e = record {
    text = f.text ++ a.text;
    appends = Appends-trans old mid new f.text a.text f.appends a.appends;
    goes = λ more rest w. subst (Before more) (then_then f.text a.text rest) (f.goes more (then_on a.text rest) (a.goes_on e more rest w));
  }

  -- a call that ended the run
  pub flows_ended : {E F : Type 0} (result : Result (Option Status) E) (answer : Status) (Later : X → Ways) → Proceeds Middle After mid new result → result ≡ Ok (Some answer) → Proceeds {E = F} Before Later old new (Ok (Some answer))
  flows_ended result answer Later a r = record {
    text = f.text ++ a.text;
    appends = Appends-trans old mid new f.text a.text f.appends a.appends;
    front = λ more. then_begins Before Middle old mid f more a.text (a.front more);
    goes_on = λ e. absurd cc;
    ended = λ status e n more. f.goes more (ends a.text status) (a.ended status (r ∙ ap (λ x. Ok (Some x)) cc) n more);
  }

  -- a call that gave up
  pub flows_gave_up : {E F : Type 0} (result : Result (Option Status) E) (refused : F) (Later : X → Ways) → Proceeds Middle After mid new result → Proceeds Before Later old new (Err refused)
  flows_gave_up result refused Later a = record {
    text = f.text ++ a.text;
    appends = Appends-trans old mid new f.text a.text f.appends a.appends;
    front = λ more. then_begins Before Middle old mid f more a.text (a.front more);
    goes_on = λ e. absurd cc;
    ended = λ status e. absurd cc;
  }

-- the run goes on with no further call
pub flows_stay : {X E : Type 0} (Before After : X → Ways) (old now : Option (List ℕ)) → Proceeded Before After old now → ((more : X) → (whole : Reply) × After more whole) → Proceeds {E = E} Before After old now (Ok None)
flows_stay Before After old now f some = record {
  text = f.text;
  appends = f.appends;
  front = λ more. let w = some more in (then_on f.text w.0, f.goes more w.0 w.1, (w.0.text, refl));
  goes_on = λ e. f.goes;
  ended = λ status e. absurd cc;
}

-- memory was refused after it
pub flows_err : {X E : Type 0} (Before After Later : X → Ways) (old now : Option (List ℕ)) (refused : E) → Proceeded Before After old now → ((more : X) → (whole : Reply) × After more whole) → Proceeds Before Later old now (Err refused)
flows_err Before After Later old now refused f some = record {
  text = f.text;
  appends = f.appends;
  front = λ more. let w = some more in (then_on f.text w.0, f.goes more w.0 w.1, (w.0.text, refl));
  goes_on = λ e. absurd cc;
  ended = λ status e. absurd cc;
}

-- a call that went on is what was written
pub flows_of : {X E : Type 0} (Before After : X → Ways) (old new : Option (List ℕ)) (result : Result (Option Status) E) → Proceeds Before After old new result → result ≡ Ok None → Proceeded Before After old new
flows_of Before After old new result a e = record { text = a.text; appends = a.appends; goes = a.goes_on e }

-- the same call, by other words for what comes
pub proceeds_as : {X Y E : Type 0} (through : Y → X) (Before After : X → Ways) (First Then : Y → Ways) (old new : Option (List ℕ)) (result : Result (Option Status) E)
    → ((more : Y) (whole : Reply) → Before (through more) whole → First more whole) → ((more : Y) (whole : Reply) → Then more whole → After (through more) whole)
    → Proceeds Before After old new result → Proceeds First Then old new result
proceeds_as through Before After First Then old new result b t a = record {
  text = a.text;
  appends = a.appends;
  front = λ more. let m = a.front (through more) in (m.0, b more m.0 m.1, m.2);
  goes_on = λ e more rest w. b more (then_on a.text rest) (a.goes_on e (through more) rest (t more rest w));
  ended = λ status e n more. b more (ends a.text status) (a.ended status e n (through more));
}

-- memory was refused, with nothing written
pub gives_up : {X E : Type 0} (Before After : X → Ways) (known : Option (List ℕ)) (refused : E) → ((more : X) → (whole : Reply) × Before more whole) → Proceeds Before After known known (Err refused)
gives_up Before After known refused some = flows_err Before Before After known known refused (flows_start Before known) some

-- ---- the end of the input

module _ (IsWay : Ways) (IsLater : Ways) (old mid : Option (List ℕ)) where
  -- a call, and then the end
  pub concludes_after : {F : Type 0} (text : List ℕ) (new : Option (List ℕ)) (result : Result Status F) → Appends old mid text → ((rest : Reply) → IsLater rest → IsWay (then_on text rest)) → Concludes IsLater mid new result → Concludes IsWay old new result
  concludes_after text new result p goes f = record {
    text = text ++ f.text;
    appends = Appends-trans old mid new text f.text p f.appends;
    front = (then_on text f.front.0, goes f.front.0 f.front.1, (f.front.2.0, ap (λ t. text ++ t) f.front.2.1 ∙ sym (append_assoc text f.text f.front.2.0)));
    ended = λ status e n. goes (ends f.text status) (f.ended status e n);
  }
