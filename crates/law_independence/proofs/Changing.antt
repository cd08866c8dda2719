-- Two acts at different chains may be swapped.
use Rattle.std.proofs.Common.{◌≡◌, ℕ, Bool, true, false, List, Option, Some, None, ⊎_elim, refl, sym, ap, ◌∙◌, subst}
use Rattle.std.specs.Prelude.{◌==◌, if◌then◌else◌, slice_get}
use Rattle.std.specs.Option.{option_map}
use Rattle.std.proofs.lemmas.Bool.{cases_eq, eqb-true}
use Rattle.chain_ids.specs.declared.chain.ChainId.{ChainId}
use Rattle.asset_bundles.specs.Bundles.{Bundle}
use Rattle.asset_bundles.specs.declared.book.Cause.{Cause}
use Rattle.asset_bundles.specs.Books.{Burns, burned_for}
use Rattle.trust_tables.specs.Trust.{listing}
use Rattle.channel_parts.specs.Channels.{Outgoing}
use Rattle.exec_base.specs.Part.{ChainPart}
use Rattle.network_steps.specs.Worlds.{Member, World, place_of, with_part, Stepped, unchanged}
use Rattle.network_steps.specs.Fixed.{all_settings}
use Rattle.network_steps.specs.Steps.{Link}
use Rattle.network_steps.proofs.Lemmas.StepLaws.{same_one, place_says}
use Rattle.law_independence.specs.Acts.{Act, acts_at, takes_from, stepped_by}
use Rattle.law_independence.specs.Freedom.{TakesFreely, AreFree}
use Rattle.law_independence.proofs.Channels.{found_to, IsThere, found_other, popped_swap}
use Rattle.law_independence.proofs.Calls.{framed, booked_swap}
use Rattle.law_independence.proofs.Moves.{Source, framed_member, framed_at, Left, moved_member, moved_world, moved, moved_here, moved_other, IsSteady, steady_alone, DoFramesSwap, m_later, n_later, at_m_later, at_n_later, moves_swap}
use Rattle.law_independence.proofs.Plans.{IsAlike, source_of, Refused, Moves, Plan, plan, member_at, found_empty}

-- ---- two frames of one chain, of two channels
two_frames : (to other : ChainId) (lost more : Bundle) → (to ≡ other → ⊥) → (p : ChainPart) → framed other more (framed to lost p) ≡ framed to lost (framed other more p)
two_frames to other lost more apart p =
    ap (λ (cs : List Outgoing). let q : ChainPart = record (framed other more (framed to lost p)) { channels = cs } in q) (popped_swap other to (λ e. apart (sym e)) p.channels)
    ∙ ap (λ (b : Burns). let q : ChainPart = record (framed to lost (framed other more p)) { burns = b } in q) (booked_swap (listing p.rows) p.burns (burned_for Cause.LostTeleport lost) (burned_for Cause.LostTeleport more))

-- ---- where an act takes from
to_receiver : (t : Act) (from to : ChainId) → takes_from t ≡ Some (from, to) → to ≡ acts_at t
to_receiver (Act.Exec chain account bytes) from to e = absurd cc
to_receiver (Act.Deliver a b) from to e = ap (λ (l : Link). l.1) (same_link (from, to) (a, b) (sym e))
  where
    same_link : (x y : Link) → Some x ≡ Some y → x ≡ y
    same_link x y e = cc
to_receiver (Act.Claim a b bytes) from to e = absurd cc

-- its source is a channel that leads to its own chain
record IsSource (w : World) (t : Act) (k : ℕ) (to : ChainId) : Type 0 where
  from : ChainId
  taken : takes_from t ≡ Some (from, to)
  placed : place_of w from ≡ Some k

same_pair : (x y : ℕ × ChainId) → Some x ≡ Some y → x ≡ y
same_pair x y e = cc

abbrev from_place : ChainId → ℕ → ℕ × ChainId
from_place there k = (k, there)

source_by : (w : World) (t : Act) (from there : ChainId) (k : ℕ) (to : ChainId) (o : Option ℕ) → takes_from t ≡ Some (from, there) → place_of w from ≡ o → option_map (from_place there) o ≡ Some (k, to) → IsSource w t k to
source_by w t from there k to None takes at e = absurd cc
source_by w t from there k to (Some j) takes at e =
    let same : from_place there j ≡ from_place to k = same_pair (from_place there j) (from_place to k) e in
    record { from = from; taken = takes ∙ ap (λ (p : ℕ × ChainId). Some (from, p.1)) same; placed = at ∙ ap (λ (p : ℕ × ChainId). Some p.0) same }

source_says : (w : World) (t : Act) (o : Option Link) (k : ℕ) (to : ChainId) → takes_from t ≡ o → source_of w o ≡ Some (k, to) → IsSource w t k to
source_says w t None k to takes e = absurd cc
source_says w t (Some link) k to takes e = source_by w t link.0 link.1 k to (place_of w link.0) takes refl e

sources : (w : World) (t : Act) (a : Moves w t) (k : ℕ) (to : ChainId) → a.move.source ≡ Some (k, to) → IsSource w t k to
sources w t a k to e = source_says w t (takes_from t) k to refl (sym a.source ∙ e)

swap_at : (k j : ℕ) (to other : ChainId) (lost more : Bundle) → (to ≡ other → ⊥) → (p : ℕ) (m : Member)
    → framed_at (Some (j, other)) more p (framed_at (Some (k, to)) lost p m) ≡ framed_at (Some (k, to)) lost p (framed_at (Some (j, other)) more p m)
swap_at k j to other lost more apart p m =
    elim (p == k) as (λ b. framed_at (Some (j, other)) more p (if b then framed_member to lost m else m) ≡ (if b then framed_member to lost (framed_at (Some (j, other)) more p m) else framed_at (Some (j, other)) more p m)) [
      | true ↦ elim (p == j) as (λ c. (if c then framed_member other more (framed_member to lost m) else framed_member to lost m) ≡ framed_member to lost (if c then framed_member other more m else m)) [
        | true ↦ ap (λ (q : ChainPart). with_part q m) (two_frames to other lost more apart m.part)
        | false ↦ refl
      ]
      | false ↦ refl
    ]

frames_swap : (s t : Source) → ((k j : ℕ) (to other : ChainId) → s ≡ Some (k, to) → t ≡ Some (j, other) → to ≡ other → ⊥) → DoFramesSwap s t
frames_swap None None apart lost more p m = refl
frames_swap None (Some b) apart lost more p m = refl
frames_swap (Some a) None apart lost more p m = refl
frames_swap (Some a) (Some b) apart lost more p m = swap_at a.0 b.0 a.1 b.1 lost more (apart a.0 b.0 a.1 b.1 refl refl) p m

-- ---- a frame at an act's own chain
own_place : (w : World) (chain from : ChainId) (i k : ℕ) → place_of w chain ≡ Some i → place_of w from ≡ Some k → i ≡ k → from ≡ chain
own_place w chain from i k at_i at_k same =
    let m = member_at w chain i at_i in
    sym (place_says w from i m.0 (at_k ∙ ap Some (sym same)) m.1) ∙ place_says w chain i m.0 at_i m.1

if_steady : (b : Bool) (to : ChainId) (lost : Bundle) (run : Member → Left) (m : Member) → (b ≡ true → IsSteady run (framed_member to lost) m) → IsSteady run (λ (m : Member). if b then framed_member to lost m else m) m
if_steady true to lost run m h = h refl
if_steady false to lost run m h = steady_alone run m

steady_by : (w : World) (t : Act) (b : Moves w t) (source : Source) (lost : Bundle) → ((k : ℕ) (to : ChainId) → source ≡ Some (k, to) → b.move.place ≡ k → IsSteady b.move.run (framed_member to lost) b.member)
    → IsSteady b.move.run (framed_at source lost b.move.place) b.member
steady_by w t b None lost h = steady_alone b.move.run b.member
steady_by w t b (Some s) lost h = if_steady (b.move.place == s.0) s.1 lost b.move.run b.member (λ same. h s.0 s.1 refl (eqb-true b.move.place s.0 same))

-- what is found where s takes from the chain at which t acts
not_empty : (w : World) (s t : Act) (b : Moves w t) (from to : ChainId) (j : ℕ) → TakesFreely w s t → takes_from s ≡ Some (from, to) → from ≡ acts_at t → place_of w (acts_at s) ≡ Some j → IsThere to b.member.part.channels
not_empty w s t b from to j free takes same at_j =
    let both = free to (takes ∙ ap (λ (c : ChainId). Some (c, to)) same) in
    λ empty. both.0 (found_empty w s (acts_at t) to b.move.place j b.member (takes ∙ ap (λ (c : ChainId). Some (c, to)) same) b.place at_j b.there empty)

module _ (kept : (w : World) (t : Act) → all_settings (stepped_by w t).world ≡ all_settings w) where
  module _ (w : World) (s t : Act) (apart : acts_at s ≡ acts_at t → ⊥) (free_s : TakesFreely w s t) (free_t : TakesFreely w t s) where
    -- t's move doesn't depend on what s does where it takes from
    steady_second : (a : Moves w s) (b : Moves w t) (lost : Bundle) → IsSteady b.move.run (framed_at a.move.source lost b.move.place) b.member
    steady_second a b lost =
        steady_by w t b a.move.source lost
        (λ k to is same.
        let src = sources w s a k to is in
        let here = own_place w (acts_at t) src.from b.move.place k b.place src.placed same in
        let takes : takes_from s ≡ Some (acts_at t, to) = src.taken ∙ ap (λ (c : ChainId). Some (c, to)) here in
        let both = free_s to takes in
        b.steady to lost (not_empty w s t b src.from to a.move.place free_s src.taken here a.place) both.1)

    swap_both : (a : Moves w s) (b : Moves w t) → DoFramesSwap a.move.source b.move.source
    swap_both a b = frames_swap a.move.source b.move.source other_ends
      where
        other_ends : (k j : ℕ) (to other : ChainId) → a.move.source ≡ Some (k, to) → b.move.source ≡ Some (j, other) → to ≡ other → ⊥
        other_ends k j to other is also same =
            let x = sources w s a k to is in
            let y = sources w t b j other also in
            apart (sym (to_receiver s x.from to x.taken) ∙ same ∙ to_receiver t y.from other y.taken)

    places_apart : (a : Moves w s) (b : Moves w t) → a.move.place ≡ b.move.place → ⊥
    places_apart a b same = apart (own_place w (acts_at t) (acts_at s) b.move.place a.move.place b.place a.place (sym same))

    -- what t finds where it takes from, after s
    found_framed : (a : Moves w s) (to : ChainId) (source : Source) (lost : Bundle) (p : ℕ) (m : Member) → source ≡ a.move.source → (acts_at s ≡ to → ⊥) → (let n = framed_at source lost p m in found_to to n.part.channels) ≡ found_to to m.part.channels
    found_framed a to None lost p m is other = refl
    found_framed a to (Some x) lost p m is other =
        let src = sources w s a x.0 x.1 (sym is) in
        if_found (p == x.0) (found_other to x.1 (λ e. other (sym (e ∙ to_receiver s src.from x.1 src.taken))) m.part.channels)
      where
        if_found : (b : Bool) → found_to to (framed_member x.1 lost m).part.channels ≡ found_to to m.part.channels → (let n = if b then framed_member x.1 lost m else m in found_to to n.part.channels) ≡ found_to to m.part.channels
        if_found true h = h
        if_found false h = refl

    same_some : (x y : Member) → Some x ≡ Some y → x ≡ y
    same_some x y e = cc

    moved_found : (a : Moves w s) (from to : ChainId) (k j : ℕ) (m r n : Member) → takes_from t ≡ Some (from, to) → place_of w from ≡ Some k → place_of w to ≡ Some j → slice_get w k ≡ Some m → slice_get w j ≡ Some r
        → slice_get (moved_world a.move w a.member) k ≡ Some n → found_to to n.part.channels ≡ found_to to m.part.channels
    moved_found a from to k j m r n takes at_k at_j is_m is_r is_n = ⊎_elim
        (λ (same : k ≡ a.move.place).
        let here = own_place w (acts_at s) from a.move.place k a.place at_k (sym same) in
        let is_to = to_receiver t from to takes in
        let one : m ≡ a.member = same_some m a.member (sym is_m ∙ ap (slice_get w) same ∙ a.there) in
        let new : n ≡ moved_member a.move a.member = same_some n (moved_member a.move a.member) (sym is_n ∙ ap (slice_get (moved_world a.move w a.member)) same ∙ moved_here a.move w a.member a.there) in
        ap (λ (x : Member). found_to to x.part.channels) new
        ∙ a.finds to (not_empty w t s a from to j free_t takes here (ap (place_of w) (sym is_to) ∙ at_j))
        ∙ ap (λ (x : Member). found_to to x.part.channels) (sym one))
        (λ (other : k ≡ a.move.place → ⊥).
        let lost = (a.move.run a.member).lost in
        let new : n ≡ framed_at a.move.source lost k m = same_some n (framed_at a.move.source lost k m) (sym is_n ∙ moved_other a.move w a.member k other ∙ ap (option_map (framed_at a.move.source lost k)) is_m) in
        ap (λ (x : Member). found_to to x.part.channels) new
        ∙ found_framed a to a.move.source lost k m refl (λ e. apart (e ∙ to_receiver t from to takes)))
        (cases_eq k a.move.place)

    after_move : (a : Moves w s) → stepped_by w s ≡ moved a.move w a.member → IsAlike w (moved_world a.move w a.member) t
    after_move a does = record {
      settings = ap (λ (x : Stepped). all_settings x.world) (sym does) ∙ kept w s;
      found = moved_found a;
    }

  alike_itself : (w : World) (t : Act) → IsAlike w w t
  alike_itself w t = record {
    settings = refl;
    found = λ from to k j s r s' takes at_k at_j is_s is_r is_s'. ap (λ (m : Member). found_to to m.part.channels) (same_one (slice_get w k) s' s is_s' is_s);
  }

  move_does : (w : World) (t : Act) (a : Moves w t) → stepped_by w t ≡ moved a.move w a.member
  move_does w t a = a.does w a.member (alike_itself w t) a.there

  -- ---- the four cases
  stays_free : (w : World) (s t : Act) → Refused w t → IsAlike w (stepped_by w s).world t → AreFree w s t
  stays_free w s t b like =
      let still : stepped_by w t ≡ unchanged b.answer w = b.does w (alike_itself w t) in
      let later : stepped_by (stepped_by w s).world t ≡ unchanged b.answer (stepped_by w s).world = b.does (stepped_by w s).world like in
      let same : (stepped_by w t).world ≡ w = ap (λ (x : Stepped). x.world) still in
      record {
        world = ap (λ (x : Stepped). x.world) later ∙ sym (ap (λ (u : World). (stepped_by u s).world) same);
        first_answer = ap (λ (u : World). (stepped_by u s).answer) same;
        first_trace = ap (λ (u : World). (stepped_by u s).trace) same;
        second_answer = ap (λ (x : Stepped). x.answer) later ∙ sym (ap (λ (x : Stepped). x.answer) still);
        second_trace = ap (λ (x : Stepped). x.trace) later ∙ sym (ap (λ (x : Stepped). x.trace) still);
      }

  turned : (w : World) (s t : Act) → AreFree w t s → AreFree w s t
  turned w s t f = record { world = sym f.world; first_answer = f.second_answer; first_trace = f.second_trace; second_answer = f.first_answer; second_trace = f.first_trace }

  alike_world : (w u v : World) (t : Act) → u ≡ v → IsAlike w v t → IsAlike w u t
  alike_world w u v t same like = subst (λ (x : World). IsAlike w x t) (sym same) like

  module _ (w : World) (s t : Act) (apart : acts_at s ≡ acts_at t → ⊥) (free_s : TakesFreely w s t) (free_t : TakesFreely w t s) where
    back : acts_at t ≡ acts_at s → ⊥
    back e = apart (sym e)

    module _ (a : Moves w s) (b : Moves w t) where
      abbrev steady_a : (lost : Bundle) → IsSteady a.move.run (framed_at b.move.source lost a.move.place) a.member
      steady_a = steady_second w t s back free_t free_s b a

      abbrev steady_b : (lost : Bundle) → IsSteady b.move.run (framed_at a.move.source lost b.move.place) b.member
      steady_b = steady_second w s t apart free_s free_t a b

      abbrev not_same : a.move.place ≡ b.move.place → ⊥
      not_same = places_apart w s t apart free_s free_t a b

      abbrev swapped : DoFramesSwap a.move.source b.move.source
      swapped = swap_both w s t apart free_s free_t a b

      abbrev a_later : Member
      a_later = m_later w a.move b.move a.member b.member not_same a.there b.there steady_a steady_b swapped

      abbrev b_later : Member
      b_later = n_later w a.move b.move a.member b.member not_same a.there b.there steady_a steady_b swapped

      then_t : stepped_by (stepped_by w s).world t ≡ moved b.move (moved_world a.move w a.member) b_later
      then_t =
          ap (λ (x : Stepped). stepped_by x.world t) (move_does w s a)
          ∙ b.does (moved_world a.move w a.member) b_later (after_move w s t apart free_s free_t a (move_does w s a)) (at_n_later w a.move b.move a.member b.member not_same a.there b.there steady_a steady_b swapped)

      then_s : stepped_by (stepped_by w t).world s ≡ moved a.move (moved_world b.move w b.member) a_later
      then_s =
          ap (λ (x : Stepped). stepped_by x.world s) (move_does w t b)
          ∙ a.does (moved_world b.move w b.member) a_later (after_move w t s back free_t free_s b (move_does w t b)) (at_m_later w a.move b.move a.member b.member not_same a.there b.there steady_a steady_b swapped)

      both_move : AreFree w s t
      both_move =
          let calm_a = steady_a (b.move.run b.member).lost in
          let calm_b = steady_b (a.move.run a.member).lost in
          record {
            world = ap (λ (x : Stepped). x.world) then_t ∙ moves_swap w a.move b.move a.member b.member not_same a.there b.there steady_a steady_b swapped ∙ sym (ap (λ (x : Stepped). x.world) then_s);
            first_answer = ap (λ (x : Stepped). x.answer) then_s ∙ calm_a.answer ∙ sym (ap (λ (x : Stepped). x.answer) (move_does w s a));
            first_trace = ap (λ (x : Stepped). x.trace) then_s ∙ calm_a.trace ∙ sym (ap (λ (x : Stepped). x.trace) (move_does w s a));
            second_answer = ap (λ (x : Stepped). x.answer) then_t ∙ calm_b.answer ∙ sym (ap (λ (x : Stepped). x.answer) (move_does w t b));
            second_trace = ap (λ (x : Stepped). x.trace) then_t ∙ calm_b.trace ∙ sym (ap (λ (x : Stepped). x.trace) (move_does w t b));
          }

    one_stays : Refused w t → Plan w s → AreFree w s t
    one_stays b p = ⊎_elim
        (λ (a : Refused w s). stays_free w s t b (alike_world w (stepped_by w s).world w t (ap (λ (x : Stepped). x.world) (a.does w (alike_itself w s))) (alike_itself w t)))
        (λ (a : Moves w s). stays_free w s t b (alike_world w (stepped_by w s).world (moved_world a.move w a.member) t (ap (λ (x : Stepped). x.world) (move_does w s a)) (after_move w s t apart free_s free_t a (move_does w s a)))) p

  pub free : (w : World) (s t : Act) → (acts_at s ≡ acts_at t → ⊥) → TakesFreely w s t → TakesFreely w t s → AreFree w s t
  free w s t apart free_s free_t =
      ⊎_elim (λ (b : Refused w t). one_stays w s t apart free_s free_t b (plan w s))
      (λ (b : Moves w t). ⊎_elim (λ (a : Refused w s). turned w s t (one_stays w t s (λ e. apart (sym e)) free_t free_s a (plan w t))) (λ (a : Moves w s). both_move w s t apart free_s free_t a b) (plan w s)) (plan w t)
