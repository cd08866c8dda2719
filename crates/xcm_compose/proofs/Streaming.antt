-- A run over a source, read by pieces.
use Rattle.std.proofs.Common.{◌≡◌, ◌∙◌, inl, inr, ℕ, false, List, [], ◌∷◌, ◌++◌, refl, sym, ap, subst, Option, Some, None, Result, Ok, Err, IfSome, append_assoc, append-nil}
use Rattle.std.specs.Io.KnownBytes.{Appends, Consumes, Keeps, IsAtEnd}
use Rattle.std.proofs.KnownBytes.{Appends-nil, Appends-trans, Consumes-nil, Consumes-trans, Consumes-kept}
use Rattle.input_lines.specs.Lines.{lines_of}
use Rattle.line_serving.specs.declared.status.Status.{Status}
use Rattle.line_serving.specs.declared.status.Status.TheVariants.{ReadFault, TooLong}
use Rattle.line_serving.specs.Replies.{Reply, ends, then_on, fits_limits}
use Rattle.xcm_compose.specs.declared.composer.Composer.{Composer}
use Rattle.xcm_compose.specs.Replies.{IsReplyOf, IsComposition}
use Rattle.xcm_compose.specs.Runs.{MayBegin, Proceeds, Concludes, Composes}
use Rattle.xcm_compose.proofs.Flowing.{then_then}
use Rattle.xcm_compose.proofs.Steps.{some_reply, long_reply}

-- so far: these bytes were taken and this text was written; what the composer may write of what comes may come after it
pub record Streams (left rest old now : Option (List ℕ)) (composer : Composer) (pending : List ℕ) : Type 0 where
  pub taken : List ℕ
  pub consumed : Consumes left rest taken
  pub text : List ℕ
  pub appends : Appends old now text
  pub goes : (more : List ℕ) (later : Reply) → IsReplyOf composer (lines_of (pending ++ more)) later → IsComposition (taken ++ more) (then_on text later)

pub streams_start : (left old : Option (List ℕ)) (composer : Composer) (pending : List ℕ) → composer.taken ≡ 0 → composer.tree.items ≡ [] → pending ≡ [] → Streams left left old old composer pending
streams_start left old composer pending t e p = record {
  taken = [];
  consumed = Consumes-nil left;
  text = [];
  appends = Appends-nil old;
  goes = λ more later w. rw (t, e, p) at w;
}

-- ---- the whole input

told : (left rest : Option (List ℕ)) (taken : List ℕ) (P : List ℕ → Type 0) → Consumes left rest taken → ((more : List ℕ) → P (taken ++ more)) → IfSome left P
told None rest taken P c f = tt
told (Some bytes) None taken P c f = absurd c
told (Some bytes) (Some more) taken P c f = rw c (f more)

at_end_of : (left rest : Option (List ℕ)) (taken : List ℕ) (P : List ℕ → Type 0) → Consumes left rest taken → IsAtEnd rest → P taken → IfSome left P
at_end_of None rest taken P c a p = tt
at_end_of (Some bytes) None taken P c a p = absurd c
at_end_of (Some bytes) (Some more) taken P c a p = let e : bytes ≡ taken = c ∙ ap (λ m. taken ++ m) a ∙ append-nil taken in rw e p

module _ (left rest old now : Option (List ℕ)) (composer : Composer) (pending : List ℕ) (s : Streams left rest old now composer pending) where
  -- nothing more is taken or written
  pub streams_kept : (less : Option (List ℕ)) → Keeps rest less → Streams left less old now composer pending
  streams_kept less k = record { taken = s.taken; consumed = Consumes-kept left rest less s.taken s.consumed k; text = s.text; appends = s.appends; goes = s.goes }

  -- what comes after a piece
  after_piece : (piece more : List ℕ) (whole : Reply) → IsReplyOf composer (lines_of ((pending ++ piece) ++ more)) whole → IsComposition ((s.taken ++ piece) ++ more) (then_on s.text whole)
  after_piece piece more whole w =
      let here : IsReplyOf composer (lines_of (pending ++ (piece ++ more))) whole = subst (λ b. IsReplyOf composer (lines_of b) whole) (append_assoc pending piece more) w in
      subst (λ b. IsComposition b (then_on s.text whole)) (sym (append_assoc s.taken piece more)) (s.goes (piece ++ more) whole here)

  -- a prefix of what may come is one after what was written
  begins_after : (piece more text : List ℕ) → MayBegin text (IsReplyOf composer (lines_of ((pending ++ piece) ++ more))) → MayBegin (s.text ++ text) (IsComposition ((s.taken ++ piece) ++ more))
  begins_after piece more text m = (then_on s.text m.0, after_piece piece more m.0 m.1, (m.2.0, ap (λ t. s.text ++ t) m.2.1 ∙ sym (append_assoc s.text text m.2.0)))

  -- a piece is taken, and the run goes on
  pub streams_more : {E : Type 0} (less new : Option (List ℕ)) (piece : List ℕ) (next : Composer) (then : List ℕ) (result : Result (Option Status) E) → Consumes rest less piece
      → Proceeds (λ (more : List ℕ). IsReplyOf composer (lines_of ((pending ++ piece) ++ more))) (λ (more : List ℕ). IsReplyOf next (lines_of (then ++ more))) now new result → result ≡ Ok None → Streams left less old new next then
  streams_more less new piece next then result c a e = record {
    taken = s.taken ++ piece;
    consumed = Consumes-trans left rest less s.taken piece s.consumed c;
    text = s.text ++ a.text;
    appends = Appends-trans old now new s.text a.text s.appends a.appends;
    goes = λ more later w. subst (IsComposition ((s.taken ++ piece) ++ more)) (then_then s.text a.text later) (after_piece piece more (then_on a.text later) (a.goes_on e more later w));
  }

  -- what was written in a call on a piece, which may not go on
  stopped : {E F : Type 0} (less new : Option (List ℕ)) (piece : List ℕ) (next : Composer) (then : List ℕ) (result : Result (Option Status) E) (answer : Result Status F) → Consumes rest less piece
      → Proceeds (λ (more : List ℕ). IsReplyOf composer (lines_of ((pending ++ piece) ++ more))) (λ (more : List ℕ). IsReplyOf next (lines_of (then ++ more))) now new result
      → ((status : Status) → answer ≡ Ok status → result ≡ Ok (Some status)) → Composes left old new answer
  stopped less new piece next then result answer c a same = record {
    text = s.text ++ a.text;
    appends = Appends-trans old now new s.text a.text s.appends a.appends;
    front = told left less (s.taken ++ piece) (λ bytes. MayBegin (s.text ++ a.text) (IsComposition bytes)) (Consumes-trans left rest less s.taken piece s.consumed c)
        (λ more. begins_after piece more a.text (a.front more));
    ended = λ status e f. told left less (s.taken ++ piece) (λ bytes. IsComposition bytes (ends (s.text ++ a.text) status)) (Consumes-trans left rest less s.taken piece s.consumed c)
        (λ more. after_piece piece more (ends a.text status) (a.ended status (same status e) (λ w. f (inr w)) more));
  }

  -- a call on a piece ended the run
  pub streams_over : {E F : Type 0} (less new : Option (List ℕ)) (piece : List ℕ) (next : Composer) (then : List ℕ) (result : Result (Option Status) E) (answer : Status) → Consumes rest less piece
      → Proceeds (λ (more : List ℕ). IsReplyOf composer (lines_of ((pending ++ piece) ++ more))) (λ (more : List ℕ). IsReplyOf next (lines_of (then ++ more))) now new result
      → result ≡ Ok (Some answer) → Composes {E = F} left old new (Ok answer)
  streams_over less new piece next then result answer c a r = stopped less new piece next then result (Ok answer) c a (λ status e. r ∙ ap (λ x. Ok (Some x)) cc)

  -- memory was refused in a piece
  pub streams_gave_up : {E F : Type 0} (less new : Option (List ℕ)) (piece : List ℕ) (next : Composer) (then : List ℕ) (result : Result (Option Status) E) (refused : F) → Consumes rest less piece
      → Proceeds (λ (more : List ℕ). IsReplyOf composer (lines_of ((pending ++ piece) ++ more))) (λ (more : List ℕ). IsReplyOf next (lines_of (then ++ more))) now new result
      → Composes left old new (Err refused)
  streams_gave_up less new piece next then result refused c a = stopped less new piece next then result (Err refused) c a (λ status e. absurd cc)

  -- a read failed
  pub streams_fault : {E : Type 0} → Composes {E = E} left old now (Ok ReadFault)
  streams_fault = record {
    text = s.text;
    appends = s.appends;
    front = told left rest s.taken (λ bytes. MayBegin s.text (IsComposition bytes)) s.consumed
        (λ more. let w = some_reply composer.taken composer.tree.items (lines_of (pending ++ more)) in (then_on s.text w.0, s.goes more w.0 w.1, (w.0.text, refl)));
    ended = λ status e f. absurd (f (inl cc));
  }

  -- the input is at its end
  pub streams_end : {E : Type 0} (less new : Option (List ℕ)) (result : Result Status E) → Consumes rest less [] → IsAtEnd less → Concludes (IsReplyOf composer (lines_of pending)) now new result → Composes left old new result
  streams_end less new result c a f =
      let consumed : Consumes left less s.taken = rw (append-nil s.taken) at (Consumes-trans left rest less s.taken [] s.consumed c) in
      record {
        text = s.text ++ f.text;
        appends = Appends-trans old now new s.text f.text s.appends f.appends;
        front = at_end_of left less s.taken (λ bytes. MayBegin (s.text ++ f.text) (IsComposition bytes)) consumed a
            (then_on s.text f.front.0, at_last f.front.0 f.front.1, (f.front.2.0, ap (λ t. s.text ++ t) f.front.2.1 ∙ sym (append_assoc s.text f.text f.front.2.0)));
        ended = λ status e k. at_end_of left less s.taken (λ bytes. IsComposition bytes (ends (s.text ++ f.text) status)) consumed a (at_last (ends f.text status) (f.ended status e (λ w. k (inr w))));
      }
    where
      at_last : (later : Reply) → IsReplyOf composer (lines_of pending) later → IsComposition s.taken (then_on s.text later)
      at_last later w =
          let here : IsReplyOf composer (lines_of (pending ++ [])) later = subst (λ b. IsReplyOf composer (lines_of b) later) (sym (append-nil pending)) w in
          subst (λ b. IsComposition b (then_on s.text later)) (append-nil s.taken) (s.goes [] later here)

  -- past a limit, whatever comes
  pub streams_long : {E : Type 0} → ((more : List ℕ) → (tail : List ℕ) × (lines : List (List ℕ)) × (lines_of (pending ++ more) ≡ (pending ++ tail) ∷ lines) × (fits_limits composer.taken (pending ++ tail) ≡ false)) → Composes {E = E} left old now (Ok TooLong)
  streams_long past = record {
    text = s.text;
    appends = s.appends;
    front = told left rest s.taken (λ bytes. MayBegin s.text (IsComposition bytes)) s.consumed (λ more. (then_on s.text (ends [] TooLong), at_limit more, ([], refl)));
    ended = λ status e f. told left rest s.taken (λ bytes. IsComposition bytes (ends s.text status)) s.consumed
        (λ more. let at : TooLong ≡ status = cc in subst (λ x. IsComposition (s.taken ++ more) (ends s.text x)) at (rw (append-nil s.text) at (at_limit more)));
  }
    where
      at_limit : (more : List ℕ) → IsComposition (s.taken ++ more) (then_on s.text (ends [] TooLong))
      at_limit more =
          let p = past more in
          s.goes more (ends [] TooLong) (long_reply composer.taken composer.tree.items (pending ++ more) (pending ++ p.0) p.1 p.2 p.3)
