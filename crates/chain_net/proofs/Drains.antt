-- Deliveries, one after the other.
use Rattle.std.proofs.Common.{◌≡◌, ℕ, zero, suc, ◌+◌, ◌-◌, ◌^◌, ◌<◌, ◌≤◌, true, false, List, [], ◌∷◌, length, Option, Some, None, refl, sym, ap, ◌∙◌, subst, arith}
use Rattle.std.specs.Prelude.{if◌then◌else◌, is_some, slice_get, find, option_and_then, min}
use Rattle.std.specs.Option.{option_map_or}
use Rattle.chain_ids.specs.declared.chain.ChainId.{ChainId}
use Rattle.channel_parts.specs.Channels.{Waiting, Outgoing}
use Rattle.chain_queues.specs.Queues.{channel_to, oldest}
use Rattle.network_steps.specs.Worlds.{Member, chain_of, World, place_of}
use Rattle.network_steps.specs.Sends.{deliveries_left}
use Rattle.network_steps.specs.Steps.{deliver, Link, waiting, waits, next_channel, deliveries, world_behind}
use Rattle.exec_rules.specs.declared.rules.ChainRules.{ChainRules}
use Rattle.chain_state.specs.declared.state.ChainState.{ChainState}
use Rattle.chain_state.specs.PartOf.{part_of}
use Rattle.chain_net.specs.Chains.{member_in, world_in}
use Rattle.law_steps.specs.Shapes.{AllShaped}
use Rattle.chain_net.specs.Sound.{AreBetweenSteps}
use Rattle.chain_net.proofs.Members.{member_at, something, members_within}
use Rattle.chain_net.proofs.Pairs.{between_nowhere, between_to_nowhere, between_at, place_says}

-- ---- whether a message waits
module _ (w : World) (from to : ChainId) where
  pub waits_nowhere : place_of w from ≡ None → false ≡ waits w (from, to)
  waits_nowhere at = sym (ap is_some (between_nowhere w from to None (λ i j s r. option_and_then oldest (channel_to (chain_of r) s.part.channels)) at))

  pub waits_to_nowhere : (i : ℕ) → place_of w from ≡ Some i → place_of w to ≡ None → false ≡ waits w (from, to)
  waits_to_nowhere i at_i at = sym (ap is_some (between_to_nowhere w from to None (λ i j s r. option_and_then oldest (channel_to (chain_of r) s.part.channels)) i at_i at))

  pub waiting_at : (i j : ℕ) (s r : Member) → place_of w from ≡ Some i → place_of w to ≡ Some j → slice_get w i ≡ Some s → slice_get w j ≡ Some r → waiting w from to ≡ option_and_then oldest (channel_to to s.part.channels)
  waiting_at i j s r at_i at_j is_s is_r =
      between_at w from to None (λ i j s r. option_and_then oldest (channel_to (chain_of r) s.part.channels)) i j s r at_i at_j is_s is_r
      ∙ ap (λ (c : ChainId). option_and_then oldest (channel_to c s.part.channels)) (place_says w to j r at_j is_r)

-- ---- so many deliveries
module _ (order : List Link) where
  one_more : (n : ℕ) (w : World) (o : Option Link) → next_channel order w ≡ o → deliveries (suc n) order w ≡ option_map_or (λ (link : Link). (link, deliver w link.0 link.1) ∷ deliveries n order (deliver w link.0 link.1).world) o []
  unfolding deliveries
  one_more n w o e = ap (λ p. option_map_or (λ (link : Link). (link, deliver w link.0 link.1) ∷ deliveries n order (deliver w link.0 link.1).world) p []) e

  none_made : (w : World) → deliveries 0 order w ≡ []
  unfolding deliveries
  none_made w = refl

  -- as many as were asked for, and one more
  pub record Made (k : ℕ) (w now : World) : Type 0 where
    pub many : length (deliveries k order w) ≡ k
    pub behind : now ≡ world_behind w (deliveries k order w)

  pub made_none : (w : World) → Made 0 w w
  made_none w = record { many = ap length (none_made w); behind = sym (ap (world_behind w) (none_made w)) }

  pub made_one_more : (k : ℕ) (w now : World) (link : Link) → Made k w now → next_channel order now ≡ Some link → Made (suc k) w (deliver now link.0 link.1).world
  made_one_more zero w now link m e =
      let here : now ≡ w = m.behind ∙ ap (world_behind w) (none_made w) in
      let first = one_more 0 w (Some link) (ap (next_channel order) (sym here) ∙ e) in
      record {
        many = ap length (first ∙ ap (λ ds. (link, deliver w link.0 link.1) ∷ ds) (none_made (deliver w link.0 link.1).world));
        behind = ap (λ (v : World). (deliver v link.0 link.1).world) here ∙ sym (ap (world_behind w) (first ∙ ap (λ ds. (link, deliver w link.0 link.1) ∷ ds) (none_made (deliver w link.0 link.1).world)));
      }
  made_one_more (suc k) w now link m e =
      elim (next_channel order w) as (λ o. next_channel order w ≡ o → Made (suc (suc k)) w (deliver now link.0 link.1).world) [
        | None ↦ λ none. let few : 0 ≡ suc k = sym (ap length (one_more k w None none)) ∙ m.many in absurd (omega (arith, few))
        | Some first ↦ λ some.
            let v = (deliver w first.0 first.1).world in
            let front = one_more k w (Some first) some in
            let inner : Made k v now = record { many = let l : suc (length (deliveries k order v)) ≡ suc k = sym (ap length front) ∙ m.many in omega (arith, l); behind = m.behind ∙ ap (world_behind w) front } in
            let next = made_one_more k v now link inner e in
            let longer = one_more (suc k) w (Some first) some in
            record { many = ap length longer ∙ ap suc next.many; behind = next.behind ∙ sym (ap (world_behind w) longer) }
      ] refl

  -- where no message waits any more, there are no more deliveries
  pub made_all : (k m : ℕ) (w now : World) → Made k w now → next_channel order now ≡ None → deliveries (k + m) order w ≡ deliveries k order w
  made_all zero zero w now made none = refl
  made_all zero (suc m) w now made none =
      let here : now ≡ w = made.behind ∙ ap (world_behind w) (none_made w) in
      subst (λ (n : ℕ). deliveries n order w ≡ deliveries 0 order w) {x = suc m} (omega arith) (one_more m w None (ap (next_channel order) (sym here) ∙ none) ∙ sym (none_made w))
  made_all (suc k) m w now made none =
      elim (next_channel order w) as (λ o. next_channel order w ≡ o → deliveries (suc k + m) order w ≡ deliveries (suc k) order w) [
        | None ↦ λ e. let few : 0 ≡ suc k = sym (ap length (one_more k w None e)) ∙ made.many in absurd (omega (arith, few))
        | Some first ↦ λ some.
            let v = (deliver w first.0 first.1).world in
            let front = one_more k w (Some first) some in
            let inner : Made k v now = record { many = let l : suc (length (deliveries k order v)) ≡ suc k = sym (ap length front) ∙ made.many in omega (arith, l); behind = made.behind ∙ ap (world_behind w) front } in
            subst (λ (n : ℕ). deliveries n order w ≡ deliveries (suc k) order w) {x = suc (k + m)} (omega arith)
            (one_more (k + m) w (Some first) some ∙ ap (λ ds. (first, deliver w first.0 first.1) ∷ ds) (made_all k m v now inner none) ∙ sym front)
      ] refl

-- ---- a message waits only between two chains
found_waits : (w : World) (order : List Link) (link : Link) → next_channel order w ≡ Some link → waits w link ≡ true
found_waits w [] link e = absurd cc
found_waits w (x ∷ xs) link e =
    elim (waits w x) as (λ b. waits w x ≡ b → (if b then Some x else find (waits w) xs) ≡ Some link → waits w link ≡ true) [
      | true ↦ λ t h. let same : x ≡ link = cc in subst (λ (l : Link). waits w l ≡ true) same t
      | false ↦ λ t h. found_waits w xs link h
    ] refl e

some_waiting : (o : Option Waiting) → is_some o ≡ true → (x : Waiting) × (o ≡ Some x)
some_waiting None e = absurd cc
some_waiting (Some x) e = (x, refl)

none_oldest : (o : Option Outgoing) → is_some o ≡ false → is_some (option_and_then oldest o) ≡ false
none_oldest None e = refl
none_oldest (Some c) e = absurd cc

module _ (rs : List ChainRules) (xs : List ChainState) (ruled : length rs ≡ length xs) (all : AreBetweenSteps xs) where
  not_to_itself : (chain : ChainId) (o : Option ℕ) → place_of (world_in rs xs) chain ≡ o → waits (world_in rs xs) (chain, chain) ≡ true → ⊥
  not_to_itself chain None at e = let none : false ≡ true = waits_nowhere (world_in rs xs) chain chain at ∙ e in cc
  not_to_itself chain (Some i) at e =
      let within = members_within rs xs ruled chain i at in
      let r = something rs i (omega (arith, within, ruled)) in
      let s = something xs i within in
      let is = member_at rs xs i r.0 s.0 r.1 s.1 in
      let named = place_says (world_in rs xs) chain i (member_in r.0 s.0) at is in
      let apart = ap (λ (c : ChainId). is_some (channel_to c (part_of s.0).channels)) (sym named) ∙ (all i s.0 s.1).apart in
      let none : false ≡ true = sym (none_oldest (channel_to chain (part_of s.0).channels) apart) ∙ ap is_some (sym (waiting_at (world_in rs xs) chain chain i i (member_in r.0 s.0) (member_in r.0 s.0) at at is is)) ∙ e in
      cc

  pub apart_link : (order : List Link) (link : Link) → next_channel order (world_in rs xs) ≡ Some link → link.0 ≡ link.1 → ⊥
  apart_link order link e same =
      not_to_itself link.0 (place_of (world_in rs xs) link.0) refl (ap (λ (c : ChainId). waits (world_in rs xs) (link.0, c)) same ∙ found_waits (world_in rs xs) order link e)

  abbrev Lowers : Type 0
  Lowers = (w : World) (from to : ChainId) (x : Waiting) → AllShaped w → (from ≡ to → ⊥) → waiting w from to ≡ Some x → 1 + deliveries_left (deliver w from to).world ≤ deliveries_left w

  pub one_less : Lowers → AllShaped (world_in rs xs) → (order : List Link) (link : Link) → next_channel order (world_in rs xs) ≡ Some link → 1 + deliveries_left (deliver (world_in rs xs) link.0 link.1).world ≤ deliveries_left (world_in rs xs)
  one_less law shaped order link e =
      let x = some_waiting (waiting (world_in rs xs) link.0 link.1) (found_waits (world_in rs xs) order link e) in
      law (world_in rs xs) link.0 link.1 x.0 shaped (apart_link order link e) x.1

-- ---- the whole drain
pub all_made : (order : List Link) (k : ℕ) (w now : World) → Made order k w now → next_channel order now ≡ None → k ≤ deliveries_left w → deliveries (deliveries_left w) order w ≡ deliveries k order w
all_made order k w now made none few =
    subst (λ (n : ℕ). deliveries n order w ≡ deliveries k order w) {x = k + (deliveries_left w - k)} (omega (arith, few)) (made_all order k (deliveries_left w - k) w now made none)

pub smaller_by : (v w : World) → 1 + deliveries_left v ≤ deliveries_left w → deliveries_left v < deliveries_left w
smaller_by v w h = omega (arith, h)

pub count_more : (k count more : ℕ) → count ≡ min k (2 ^ 64 - 1) → more ≡ min (count + 1) (2 ^ 64 - 1) → more ≡ min (suc k) (2 ^ 64 - 1)
count_more k count more h e = omega (arith, h, e)
