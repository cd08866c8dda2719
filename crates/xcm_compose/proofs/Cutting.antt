-- The next line of what is left of some bytes.
use Rattle.std.proofs.Common.{◌≡◌, ◌∙◌, ◌≤◌, ◌+◌, ◌-◌, ℕ, List, [], ◌∷◌, ◌++◌, length, take, drop, sym, ap, Option, Some, None, Result, Ok, Err, arith, length-take, length-drop}
use Rattle.std.proofs.lemmas.List.{drop-drop}
use Rattle.input_lines.specs.Lines.{lines_of}
use Rattle.line_serving.specs.declared.status.Status.{Status}
use Rattle.xcm_compose.specs.declared.composer.Composer.{Composer}
use Rattle.xcm_compose.specs.Replies.{IsReplyOf}
use Rattle.xcm_compose.specs.Runs.{Ways, Proceeds, Concludes}
use Rattle.xcm_compose.proofs.Flowing.{proceeds_as, concludes_after, flows_start, flows_ended, flows_gave_up}

pub cut_at : (bytes : List ℕ) (at n : ℕ) (rest line : List ℕ) → rest ≡ drop at bytes → line ≡ take n (drop at bytes)
    → ((more : List ℕ) → lines_of (rest ++ more) ≡ take n rest ∷ lines_of (drop n rest ++ more))
    → (more : List ℕ) → lines_of (drop at bytes ++ more) ≡ line ∷ lines_of (drop (at + n) bytes ++ more)
cut_at bytes at n rest line r l cut more =
    let h : lines_of (drop at bytes ++ more) ≡ take n (drop at bytes) ∷ lines_of (drop n (drop at bytes) ++ more) = rw (← r) (cut more) in
    h ∙ ap (λ x. x ∷ lines_of (drop n (drop at bytes) ++ more)) (sym l) ∙ ap (λ x. line ∷ lines_of (x ++ more)) (drop-drop n at bytes)

pub take_there : (bytes : List ℕ) (at n : ℕ) → take (at + n - at) (drop at bytes) ≡ take n (drop at bytes)
take_there bytes at n = let e : at + n - at ≡ n = omega arith in ap (λ k. take k (drop at bytes)) e

pub line_size : (bytes : List ℕ) (at n : ℕ) → at ≤ length bytes → n ≤ length (take (length bytes - at) (drop at bytes)) → (length (take (at + n - at) (drop at bytes)) ≡ n) × (at + n ≤ length bytes)
line_size bytes at n r l = (omega (arith, length-take {A = ℕ}, length-drop {A = ℕ}), omega (arith, length-take {A = ℕ}, length-drop {A = ℕ}))

-- a call with the next line, by the bytes that are left
pub moves : {E : Type 0} (before now : Composer) (bytes line less : List ℕ) (old new : Option (List ℕ)) (result : Result (Option Status) E) → ((more : List ℕ) → lines_of (bytes ++ more) ≡ line ∷ lines_of (less ++ more))
    → Proceeds (λ lines. IsReplyOf before (line ∷ lines)) (λ lines. IsReplyOf now lines) old new result
    → Proceeds (λ (more : List ℕ). IsReplyOf before (lines_of (bytes ++ more))) (λ (more : List ℕ). IsReplyOf now (lines_of (less ++ more))) old new result
moves before now bytes line less old new result cut a =
    proceeds_as (λ more. lines_of (less ++ more)) (λ lines. IsReplyOf before (line ∷ lines)) (λ lines. IsReplyOf now lines) (λ (more : List ℕ). IsReplyOf before (lines_of (bytes ++ more))) (λ (more : List ℕ). IsReplyOf now (lines_of (less ++ more))) old new result
    (λ more whole w. rw (cut more) w) (λ more whole w. w) a

-- a call on some bytes, by other words for them and for what is left
pub renamed : {E : Type 0} (before now : Composer) (bytes whole rest kept : List ℕ) (old new : Option (List ℕ)) (result : Result (Option Status) E) → bytes ≡ whole → kept ≡ rest
    → Proceeds (λ (more : List ℕ). IsReplyOf before (lines_of (bytes ++ more))) (λ (more : List ℕ). IsReplyOf now (lines_of (rest ++ more))) old new result
    → Proceeds (λ (more : List ℕ). IsReplyOf before (lines_of (whole ++ more))) (λ (more : List ℕ). IsReplyOf now (lines_of (kept ++ more))) old new result
renamed before now bytes whole rest kept old new result b k a = rw (← b, k) a

-- ---- what is pending at the end of the input is the last line

-- it is taken, and the input ends after it
pub last_taken : {E F : Type 0} (before now : Composer) (bytes : List ℕ) (old mid new : Option (List ℕ)) (taken : Result (Option Status) E) (result : Result Status F) → lines_of bytes ≡ bytes ∷ [] → taken ≡ Ok None
    → Proceeds (λ lines. IsReplyOf before (bytes ∷ lines)) (λ lines. IsReplyOf now lines) old mid taken → Concludes (IsReplyOf now []) mid new result → Concludes (IsReplyOf before (lines_of bytes)) old new result
last_taken before now bytes old mid new taken result one t a f = rw one (concludes_after (IsReplyOf before (bytes ∷ [])) (IsReplyOf now []) old mid a.text new result a.appends (λ rest w. a.goes_on t [] rest w) f)

-- it ended the run
pub last_ended : {E F : Type 0} (before now : Composer) (bytes : List ℕ) (old mid : Option (List ℕ)) (taken : Result (Option Status) E) (answer : Status) → lines_of bytes ≡ bytes ∷ [] → taken ≡ Ok (Some answer)
    → Proceeds (λ lines. IsReplyOf before (bytes ∷ lines)) (λ lines. IsReplyOf now lines) old mid taken → Concludes {E = F} (IsReplyOf before (lines_of bytes)) old mid (Ok answer)
last_ended before now bytes old mid taken answer one t a = rw one (record { text = a.text; appends = a.appends; front = a.front []; ended = λ status e n. a.ended status (t ∙ ap (λ x. Ok (Some x)) cc) n [] })

-- memory was refused in it
pub last_refused : {E F : Type 0} (before now : Composer) (bytes : List ℕ) (old mid : Option (List ℕ)) (taken : Result (Option Status) E) (refused : F) → lines_of bytes ≡ bytes ∷ []
    → Proceeds (λ lines. IsReplyOf before (bytes ∷ lines)) (λ lines. IsReplyOf now lines) old mid taken → Concludes (IsReplyOf before (lines_of bytes)) old mid (Err refused)
last_refused before now bytes old mid taken refused one a = rw one (record { text = a.text; appends = a.appends; front = a.front []; ended = λ status e. absurd cc })

-- ---- a call with other bytes that are the same, which didn't go on

module _ (before now : Composer) (bytes whole rest : List ℕ) (Later : List ℕ → Ways) (old new : Option (List ℕ)) where
  -- it ended the run
  pub over_renamed : {E F : Type 0} (result : Result (Option Status) E) (answer : Status) → bytes ≡ whole → result ≡ Ok (Some answer) → Proceeds (λ (more : List ℕ). IsReplyOf before (lines_of (bytes ++ more))) (λ (more : List ℕ). IsReplyOf now (lines_of (rest ++ more))) old new result
      → Proceeds {E = F} (λ (more : List ℕ). IsReplyOf before (lines_of (whole ++ more))) Later old new (Ok (Some answer))
  over_renamed result answer b r a = rw (← b) (flows_ended _ _ _ _ _ _ (flows_start (λ (more : List ℕ). IsReplyOf before (lines_of (bytes ++ more))) old) result answer Later a r)

  -- it gave up
  pub gave_renamed : {E F : Type 0} (result : Result (Option Status) E) (refused : F) → bytes ≡ whole → Proceeds (λ (more : List ℕ). IsReplyOf before (lines_of (bytes ++ more))) (λ (more : List ℕ). IsReplyOf now (lines_of (rest ++ more))) old new result
      → Proceeds (λ (more : List ℕ). IsReplyOf before (lines_of (whole ++ more))) Later old new (Err refused)
  gave_renamed result refused b a = rw (← b) (flows_gave_up _ _ _ _ _ _ (flows_start (λ (more : List ℕ). IsReplyOf before (lines_of (bytes ++ more))) old) result refused Later a)

  -- memory was refused after it
  pub err_renamed : {E F : Type 0} (result : Result (Option Status) E) (refused : F) → bytes ≡ whole → result ≡ Ok None → Proceeds (λ (more : List ℕ). IsReplyOf before (lines_of (bytes ++ more))) (λ (more : List ℕ). IsReplyOf now (lines_of (rest ++ more))) old new result
      → Proceeds (λ (more : List ℕ). IsReplyOf before (lines_of (whole ++ more))) Later old new (Err refused)
  err_renamed result refused b r a = gave_renamed result refused b a
