-- What a call of the chain leaves, from what it says of rows and of all else.
use Rattle.std.proofs.Common.{◌≡◌, ℕ, Bool, true, List, [], ◌∷◌, ◌++◌, Result, Err, refl, sym, ap, ◌∙◌, subst}
use Rattle.std.specs.declared.alloc.AllocError.{AllocError}
use Rattle.trust_tables.specs.declared.rows.AssetRow.{AssetRow}
use Rattle.ledgers.specs.Ledgers.{Held}
use Rattle.call_dispatch.specs.declared.end.CallEnd.{CallEnd}
use Rattle.call_dispatch.specs.Spelling.{AnyCall}
use Rattle.call_dispatch.specs.Shifts.{RowAmounts}
use Rattle.call_dispatch.specs.Dispatches.{Done, dispatch_items, items_of, IsInterrupted}
use Rattle.row_ledger.specs.RowAccounts.{fungible_rows, row_amounts, held_aside, with_row_amounts}
use Rattle.row_ledger.proofs.Lemmas.AccountLaws.{held_again, known_by_rows}
use Rattle.row_ledger.specs.Calls.{called, held_called}
use Rattle.exec_base.specs.declared.event.Event.{Event}
use Rattle.exec_base.specs.Part.{ChainPart}
use Rattle.exec_base.specs.Calls.{floors_of, call_index, is_success, held_dispatched, dispatch_end, call_line, dispatched, IsDispatchedInPart, Dispatches}
use Rattle.chain_state.specs.Calls.{beside_calls}

module _ (p q : ChainPart) (same : beside_calls q ≡ beside_calls p) where
  pub rest_stays : q ≡ record p { held = q.held }
  rest_stays = ap (λ (r : ChainPart). let s : ChainPart = record r { held = q.held } in s) same

  rows_stay : q.rows ≡ p.rows
  rows_stay = ap (λ (r : ChainPart). r.rows) same

  held_by_rows : (m : RowAmounts) → row_amounts q.rows q.held ≡ m → q.held ≡ with_row_amounts p.rows p.held m
  held_by_rows m is =
      known_by_rows p.rows p.held q.held m
      (ap (λ (rows : List AssetRow). held_aside rows q.held) (sym rows_stay) ∙ ap (λ (r : ChainPart). r.held) same)
      (ap (λ (rows : List AssetRow). row_amounts rows q.held) (sym rows_stay) ∙ is)

  module _ (who : List ℕ) (c : AnyCall) where
    pub held_after : (end : CallEnd) → (row_amounts q.rows q.held, end) ≡ called p.rows p.held (floors_of p) who c → q.held ≡ held_dispatched p who c
    unfolding held_called
    held_after end is = held_by_rows (called p.rows p.held (floors_of p) who c).0 (ap (λ (d : Done). d.0) is)

    pub end_after : (end : CallEnd) → (row_amounts q.rows q.held, end) ≡ called p.rows p.held (floors_of p) who c → end ≡ dispatch_end p who c
    unfolding dispatch_end
    end_after end is = ap (λ (d : Done). d.1) is

    pub part_after : (end : CallEnd) → (row_amounts q.rows q.held, end) ≡ called p.rows p.held (floors_of p) who c → q ≡ record p { held = held_dispatched p who c }
    part_after end is = rest_stays ∙ ap (λ (h : Held). let s : ChainPart = record p { held = h } in s) (held_after end is)

    pub part_in_part : IsInterrupted (row_amounts p.rows p.held) (floors_of p) (fungible_rows p.rows) who c (row_amounts q.rows q.held) → IsDispatchedInPart p who c q
    part_in_part h = record {
      held = q.held;
      in_part = record { amounts = row_amounts q.rows q.held; interrupted = h; is = held_by_rows (row_amounts q.rows q.held) refl };
      is = rest_stays;
    }

-- nothing was done
pub nothing_in_part : (p : ChainPart) (who : List ℕ) (c : AnyCall) → IsDispatchedInPart p who c p
unfolding dispatch_items
nothing_in_part p who c = record {
  held = p.held;
  in_part = record {
    amounts = row_amounts p.rows p.held;
    interrupted = record { front = []; back = items_of c; all = refl; done = refl };
    is = sym (held_again p.rows p.held);
  };
  is = refl;
}

-- where calls are served
pub by_served : (b : Bool) (p : ChainPart) (who : List ℕ) (c : AnyCall) (result : Result CallEnd AllocError) (now : ChainPart) → b ≡ true → Dispatches true p who c result now → Dispatches b p who c result now
by_served b p who c result now serves h = subst (λ (x : Bool). Dispatches x p who c result now) (sym serves) h

-- memory was refused
pub stopped_at : (p : ChainPart) (who : List ℕ) (c : AnyCall) (result : Result CallEnd AllocError) (now : ChainPart) {e : AllocError} → result ≡ Err e → IsDispatchedInPart p who c now → Dispatches true p who c result now
stopped_at p who c result now is h = subst (λ (r : Result CallEnd AllocError). Dispatches true p who c r now) (sym is) h

-- before the first move
pub before_all : (p : ChainPart) (lines : List Event) (who : List ℕ) (c : AnyCall) → lines ≡ p.pending_events → IsDispatchedInPart p who c (record p { pending_events = lines })
unfolding nothing_in_part
before_all p lines who c same = record { held = p.held; in_part = (nothing_in_part p who c).in_part; is = λ i. record p { pending_events = same i } }

-- on the way
pub on_the_way : (p : ChainPart) (lines : List Event) (q : ChainPart) (who : List ℕ) (c : AnyCall) → lines ≡ p.pending_events → beside_calls q ≡ beside_calls (record p { pending_events = lines })
    → IsInterrupted (row_amounts p.rows p.held) (floors_of p) (fungible_rows p.rows) who c (row_amounts q.rows q.held) → IsDispatchedInPart p who c q
on_the_way p lines q who c same beside h =
    let p1 : ChainPart = record p { pending_events = lines } in
    let back : p1 ≡ p = λ i. record p { pending_events = same i } in
    subst (λ (x : ChainPart). IsDispatchedInPart x who c q) back (part_in_part p1 q beside who c h)

-- all was done, and the line is kept back
pub all_done : (p : ChainPart) (lines : List Event) (q : ChainPart) (told : List Event) (who : List ℕ) (c : AnyCall) (end : CallEnd) → lines ≡ p.pending_events → beside_calls q ≡ beside_calls (record p { pending_events = lines })
    → (row_amounts q.rows q.held, end) ≡ called p.rows p.held (floors_of p) who c → told ≡ q.pending_events ++ Event.Called (call_index c) (is_success end) ∷ []
    → (end ≡ dispatch_end p who c) × (record q { pending_events = told } ≡ dispatched p who c)
unfolding dispatched dispatch_end
all_done p lines q told who c end same beside done is =
    let p1 : ChainPart = record p { pending_events = lines } in
    let ends : end ≡ dispatch_end p who c = end_after p1 q beside who c end done in
    let kept : q.pending_events ≡ p.pending_events = ap (λ (r : ChainPart). r.pending_events) beside ∙ same in
    let line : told ≡ p.pending_events ++ call_line p who c ∷ [] =
    is ∙ ap (λ (es : List Event). es ++ Event.Called (call_index c) (is_success end) ∷ []) kept ∙ ap (λ (e : CallEnd). p.pending_events ++ Event.Called (call_index c) (is_success e) ∷ []) ends in
    (ends, λ i. record (part_after p1 q beside who c end done i) { pending_events = line i })
