-- A message between two chains of a list.
use Rattle.std.proofs.Common.{◌≡◌, ℕ, zero, suc, ◌<◌, List, [], ◌∷◌, ◌++◌, length, get_or, Option, Some, Result, Ok, Err, refl, sym, ap, ◌∙◌, subst, arith, inr}
use Rattle.std.specs.Prelude.{slice_get, slice_set, IfOk, OnErr}
use Rattle.asset_bundles.specs.Bundles.{Bundle}
use Rattle.weight_trader.specs.Purchases.{no_weight}
use Rattle.xcm_program.specs.declared.outcome.Outcome.{Outcome}
use Rattle.chain_ids.specs.declared.chain.ChainId.{ChainId}
use Rattle.channel_parts.specs.declared.cargo.Cargo.{Cargo}
use Rattle.channel_parts.specs.Channels.{Waiting}
use Rattle.exec_base.specs.declared.event.Event.{Event}
use Rattle.exec_base.specs.Part.{ChainPart}
use Rattle.exec_rules.specs.declared.rules.ChainRules.{ChainRules}
use Rattle.exec_rules.specs.Execution.{executed}
use Rattle.network_steps.specs.Acting.{lost_of, booking_lost, lost_lines}
use Rattle.network_steps.specs.Steps.{name_at}
use Rattle.chain_state.specs.declared.state.ChainState.{ChainState}
use Rattle.chain_state.specs.PartOf.{part_of}
use Rattle.chain_net.specs.Sound.{IsBetweenSteps}
use Rattle.law_nets.specs.Stops.{arrived, IsStoppedThere}
use Rattle.chain_net.specs.Answers.{IsActed}
use Rattle.chain_net.specs.Passing.{AreChanged, run_at, IsPassed, IsPassStopped}
use Rattle.chain_net.proofs.Members.{at_place, got_set, got_other, set_many}
use Rattle.plain_lists.proofs.Lemmas.Facts.{same_some}

-- ---- indices that are written one after the other
module _ {X : Type 0} where
  pub set_twice : (xs : List X) (i : ℕ) (x y : X) → slice_set (slice_set xs i x) i y ≡ slice_set xs i y
  set_twice [] i x y = refl
  set_twice (z ∷ zs) zero x y = refl
  set_twice (z ∷ zs) (suc i) x y = ap (λ ws. z ∷ ws) (set_twice zs i x y)

  set_apart : (xs : List X) (i j : ℕ) (x y : X) → (i ≡ j → ⊥) → slice_set (slice_set xs j y) i x ≡ slice_set (slice_set xs i x) j y
  set_apart [] i j x y apart = refl
  set_apart (z ∷ zs) zero zero x y apart = absurd (apart refl)
  set_apart (z ∷ zs) zero (suc j) x y apart = refl
  set_apart (z ∷ zs) (suc i) zero x y apart = refl
  set_apart (z ∷ zs) (suc i) (suc j) x y apart = ap (λ ws. z ∷ ws) (set_apart zs i j x y (λ e. apart (ap suc e)))

  pub set_thrice : (xs : List X) (i j : ℕ) (a b d : X) → (i ≡ j → ⊥) → slice_set (slice_set (slice_set xs j a) i b) j d ≡ slice_set (slice_set xs i b) j d
  set_thrice xs i j a b d apart = ap (λ ws. slice_set ws j d) (set_apart xs i j b a apart) ∙ set_twice (slice_set xs i b) j a d

  -- what is at one index after a write at another
  pub seen_behind : (xs : List X) (i j : ℕ) (a s : X) → (i ≡ j → ⊥) → i < length xs → s ≡ get_or (slice_set xs j a) i s → slice_get xs i ≡ Some s
  seen_behind xs i j a s apart lt is =
      let many = set_many xs j a in
      sym (got_other xs j i a apart) ∙ at_place (slice_set xs j a) i s is (omega (arith, many, lt))

  pub seen_again : (xs : List X) (i j : ℕ) (a b t r : X) → (i ≡ j → ⊥) → j < length xs → slice_get xs j ≡ Some r → t ≡ get_or (slice_set (slice_set xs j a) i b) j t → t ≡ a
  seen_again xs i j a b t r apart lt at is =
      let many = set_many (slice_set xs j a) i b in
      let many_too = set_many xs j a in
      same_some t a (sym (at_place (slice_set (slice_set xs j a) i b) j t is (omega (arith, many, many_too, lt))) ∙ got_other (slice_set xs j a) i j b (λ e. apart (sym e)) ∙ got_set xs j r a at)

  pub same_seen : (o : Option X) (x y : X) → o ≡ Some x → o ≡ Some y → x ≡ y
  same_seen o x y h k = same_some x y (sym h ∙ k)

-- ---- what stays of a chain
pub between_booked : (p : ChainPart) (goods : Bundle) → IsBetweenSteps p → IsBetweenSteps (booking_lost goods p)
between_booked p goods h = record {
  rest = record { order = record { traps = h.rest.order.traps; rates = h.rest.order.rates; paid = h.rest.order.paid; pools = h.rest.order.pools; unparked = h.rest.order.unparked }; slot = h.rest.slot };
  landed = h.landed;
  told = h.told;
  shipped = h.shipped;
  apart = h.apart;
}

pub between_telling : (p : ChainPart) (events : List Event) → IsBetweenSteps p → IsBetweenSteps (record p { events = events })
between_telling p events h = record {
  rest = record { order = record { traps = h.rest.order.traps; rates = h.rest.order.rates; paid = h.rest.order.paid; pools = h.rest.order.pools; unparked = h.rest.order.unparked }; slot = h.rest.slot };
  landed = h.landed;
  told = h.told;
  shipped = h.shipped;
  apart = h.apart;
}

-- ---- the message
module _ (rules : ChainRules) (from : ChainId) (message : Waiting) (i j : ℕ) (xs : List ChainState) (s r a b : ChainState) (left : Cargo)
    (apart : i ≡ j → ⊥) (at_i : slice_get xs i ≡ Some s) (at_j : slice_get xs j ≡ Some r)
    (lost : part_of b ≡ booking_lost (lost_of left) (part_of s)) (stays : (part_of a).site ≡ (part_of r).site) where
  abbrev two : (d : ChainState) → (part_of d).site ≡ (part_of r).site → (now : List ChainState) → now ≡ slice_set (slice_set xs i b) j d → AreChanged i j xs now
  two d same now is = record {
    old_sender = s;
    old_receiver = r;
    new_sender = b;
    new_receiver = d;
    is_sender = at_i;
    is_receiver = at_j;
    changed = is;
    sender_stays = ap (λ (p : ChainPart). p.site.chain) lost;
    receiver_stays = ap (λ x. x.chain) same;
  }

  pub stopped_first : IsStoppedThere rules from message (part_of r) (part_of a) left → IsPassStopped rules from message i j xs (slice_set (slice_set xs j a) i b)
  stopped_first stopped = record { both = two a stays _ (set_apart xs i j b a apart); left = left; stopped = stopped; sender_is = lost }

  -- a message that ran is at its end
  ran_stands : (outcome : Outcome) → IsActed (run_at rules from message (part_of r)) outcome left (part_of a) → IsStoppedThere rules from message (part_of r) (part_of a) left
  ran_stands outcome h = ((executed rules (name_at (part_of r).site.chain from) no_weight message.program (arrived from (part_of r) message)).1, inr (inr refl), h.2, h.1)

  pub stopped_later : (d : ChainState) (outcome : Outcome) → IsActed (run_at rules from message (part_of r)) outcome left (part_of a) → part_of d ≡ part_of a
      → IsPassStopped rules from message i j xs (slice_set (slice_set (slice_set xs j a) i b) j d)
  stopped_later d outcome h same = record {
    both = two d (ap (λ (p : ChainPart). p.site) same ∙ stays) _ (set_thrice xs i j a b d apart);
    left = left;
    stopped = subst (λ (p : ChainPart). IsStoppedThere rules from message (part_of r) p left) (sym same) (ran_stands outcome h);
    sender_is = lost;
  }

  pub passed : (d : ChainState) (outcome : Outcome) (lines : List Event) → IsActed (run_at rules from message (part_of r)) outcome left (part_of a) → part_of d ≡ record (part_of a) { events = (part_of a).events ++ lines }
      → lines ≡ lost_lines (lost_of left) (part_of s) → IsBetweenSteps (part_of s) → IsBetweenSteps (part_of a) → IsPassed rules from message i j outcome xs (slice_set (slice_set (slice_set xs j a) i b) j d)
  passed d outcome lines h told lines_are sender_ok receiver_ok = record {
    both = two d (ap (λ (p : ChainPart). p.site) told ∙ stays) _ (set_thrice xs i j a b d apart);
    outcome_is = h.0;
    sender_is = lost ∙ ap (λ c. booking_lost (lost_of c) (part_of s)) h.1;
    receiver_is = told ∙ ap (λ (p : ChainPart). record p { events = p.events ++ lines }) h.2
        ∙ ap (λ ls. record (run_at rules from message (part_of r)).part { events = (run_at rules from message (part_of r)).part.events ++ ls }) (lines_are ∙ ap (λ c. lost_lines (lost_of c) (part_of s)) h.1);
    sender_between = subst IsBetweenSteps (sym lost) (between_booked (part_of s) (lost_of left) sender_ok);
    receiver_between = subst IsBetweenSteps (sym told) (between_telling (part_of a) ((part_of a).events ++ lines) receiver_ok);
  }

pub taken_ok : {A B : Type 0} (r : Result A B) (x : A) (P : A → Type 0) → r ≡ Ok x → IfOk r P → P x
taken_ok r x P e h = subst (λ q. IfOk q P) e h

pub taken_err : {A B : Type 0} (r : Result A B) (x : B) (P : Type 0) → r ≡ Err x → OnErr r P → P
taken_err r x P e h = subst (λ q. OnErr q P) e h
