-- A drain ends with no message waiting, after as many deliveries at most as there may be.
use Rattle.std.proofs.Common.{◌≡◌, ℕ, zero, suc, ◌+◌, ◌≤◌, true, false, List, [], ◌∷◌, length, Option, Some, None, refl, sym, ap, ◌∙◌, subst, arith}
use Rattle.std.specs.Prelude.{if◌then◌else◌, find, is_some, slice_get, option_and_then}
use Rattle.std.specs.Option.{option_map_or}
use Rattle.chain_ids.specs.declared.chain.ChainId.{ChainId}
use Rattle.channel_parts.specs.Channels.{Waiting, Outgoing}
use Rattle.chain_queues.specs.Queues.{channel_to, oldest}
use Rattle.exec_rules.specs.Machine.{IsOrderly}
use Rattle.exec_rules.specs.Instructions.{xcm}
use Rattle.network_steps.specs.declared.step_result.StepResult.{StepResult}
use Rattle.network_steps.specs.Worlds.{Member, chain_of, World, place_of, Stepped, unchanged}
use Rattle.network_steps.specs.Sends.{deliveries_left}
use Rattle.network_steps.specs.Steps.{delivered, delivery_of, deliver, Link, waiting, waits, next_channel, deliveries, world_behind}
use Rattle.network_steps.specs.Drains.{HasNoSelfLink}
use Rattle.law_steps.specs.Shapes.{IsShaped, AllShaped}
use Rattle.network_steps.proofs.Lemmas.StepLaws.{between_says, between_at, place_says}
use Rattle.law_steps.proofs.Worlds.{deliver_shaped, taken_is_shaped}
use Rattle.law_steps.proofs.Sends.{delivered_less}

-- ---- where a message waits
record Found (w : World) (from to : ChainId) (x : Waiting) : Type 0 where
  i : ℕ
  j : ℕ
  s : Member
  r : Member
  at_i : place_of w from ≡ Some i
  at_j : place_of w to ≡ Some j
  is_s : slice_get w i ≡ Some s
  is_r : slice_get w j ≡ Some r
  there : option_and_then oldest (channel_to (chain_of r) s.part.channels) ≡ Some x

found : (w : World) (from to : ChainId) (x : Waiting) → waiting w from to ≡ Some x → Found w from to x
found w from to x =
    between_says w from to None (λ i j s r. option_and_then oldest (channel_to (chain_of r) s.part.channels)) (λ o. o ≡ Some x → Found w from to x) (λ e. absurd cc)
    (λ i j s r at_i at_j is_s is_r e. record { i = i; j = j; s = s; r = r; at_i = at_i; at_j = at_j; is_s = is_s; is_r = is_r; there = e })

taken : (w : World) (i j : ℕ) (s r : Member) (x : Waiting) (o : Option Outgoing) → option_and_then oldest o ≡ Some x → delivery_of w i j s r o ≡ delivered w i j s r x
taken w i j s r x None e = absurd cc
taken w i j s r x (Some c) e = ap (λ o. option_map_or (λ (message : Waiting). delivered w i j s r message) o (unchanged StepResult.Empty w)) e

delivered_found : (w : World) (from to : ChainId) (x : Waiting) (f : Found w from to x) → deliver w from to ≡ delivered w f.i f.j f.s f.r x
unfolding deliver
delivered_found w from to x f =
    between_at w from to (unchanged StepResult.NoSuchChain w) (λ i j s r. delivery_of w i j s r (channel_to (chain_of r) s.part.channels)) f.i f.j f.s f.r f.at_i f.at_j f.is_s f.is_r
    ∙ taken w f.i f.j f.s f.r x (channel_to (chain_of f.r) f.s.part.channels) f.there

same_member : (a b : Member) → Some a ≡ Some b → a ≡ b
same_member a b e = cc

apart_places : (w : World) (from to : ChainId) (x : Waiting) (f : Found w from to x) → (from ≡ to → ⊥) → f.i ≡ f.j → ⊥
apart_places w from to x f apart same =
    let both : f.s ≡ f.r = same_member f.s f.r (sym f.is_s ∙ ap (λ k. slice_get w k) same ∙ f.is_r) in
    apart (sym (place_says w from f.i f.s f.at_i f.is_s) ∙ ap chain_of both ∙ place_says w to f.j f.r f.at_j f.is_r)

module _ (orderly : IsOrderly xcm) where
  pub delivery_lowers : (w : World) (from to : ChainId) (x : Waiting) → AllShaped w → (from ≡ to → ⊥) → waiting w from to ≡ Some x → 1 + deliveries_left (deliver w from to).world ≤ deliveries_left w
  delivery_lowers w from to x all apart e =
      let f = found w from to x e in
      let shape : IsShaped f.s.part.site (chain_of f.r) x = subst (λ (c : ChainId). IsShaped f.s.part.site c x) (sym (place_says w to f.j f.r f.at_j f.is_r)) (taken_is_shaped w from to f.i f.s x all f.at_i f.is_s e) in
      subst (λ (d : Stepped). 1 + deliveries_left d.world ≤ deliveries_left w) (sym (delivered_found w from to x f))
      (delivered_less orderly w f.i f.j f.s f.r x f.is_s f.is_r (apart_places w from to x f apart) f.there shape)

  -- ---- drains
  waiting_lowers : (w : World) (link : Link) → AllShaped w → (link.0 ≡ link.1 → ⊥) → waits w link ≡ true → 1 + deliveries_left (deliver w link.0 link.1).world ≤ deliveries_left w
  waiting_lowers w link all apart e =
      elim (waiting w link.0 link.1) as (λ o. waiting w link.0 link.1 ≡ o → is_some o ≡ true → 1 + deliveries_left (deliver w link.0 link.1).world ≤ deliveries_left w) [
        | None ↦ λ is t. absurd cc
        | Some x ↦ λ is t. delivery_lowers w link.0 link.1 x all apart is
      ] refl e

  next_lowers : (order : List Link) (w : World) (link : Link) → AllShaped w → HasNoSelfLink order → next_channel order w ≡ Some link → 1 + deliveries_left (deliver w link.0 link.1).world ≤ deliveries_left w
  next_lowers order w link all apart e = let told = first_says order apart e in waiting_lowers w link all told.1 told.0
    where
      some_link : (a b : Link) → Some a ≡ Some b → a ≡ b
      some_link a b e = cc

      first_says : (xs : List Link) → HasNoSelfLink xs → find (waits w) xs ≡ Some link → (waits w link ≡ true) × (link.0 ≡ link.1 → ⊥)
      first_says [] all e = absurd cc
      first_says (a ∷ xs) all e =
          elim (waits w a) as (λ b. waits w a ≡ b → (if b then Some a else find (waits w) xs) ≡ Some link → (waits w link ≡ true) × (link.0 ≡ link.1 → ⊥)) [
            | true ↦ λ t h. let same = some_link a link h in (subst (λ (l : Link). waits w l ≡ true) same t, subst (λ (l : Link). l.0 ≡ l.1 → ⊥) same all.0)
            | false ↦ λ t h. first_says xs all.1 h
          ] refl e

  pub drained : (n : ℕ) (order : List Link) (w : World) → AllShaped w → HasNoSelfLink order → deliveries_left w ≤ n → next_channel order (world_behind w (deliveries n order w)) ≡ None
  unfolding deliveries
  drained zero order w all apart few =
      elim (next_channel order w) as (λ o. next_channel order w ≡ o → o ≡ None) [
        | None ↦ λ e. refl
        | Some link ↦ λ e. absurd (let less = next_lowers order w link all apart e in omega (arith, less, few))
      ] refl
  drained (suc n) order w all apart few =
      elim (next_channel order w) as (λ o. next_channel order w ≡ o
      → next_channel order (world_behind w (option_map_or (λ (link : Link). (link, deliver w link.0 link.1) ∷ deliveries n order (deliver w link.0 link.1).world) o [])) ≡ None) [
        | None ↦ λ e. e
        | Some link ↦ λ e. let less = next_lowers order w link all apart e in drained n order (deliver w link.0 link.1).world (deliver_shaped w link.0 link.1 all) apart (omega (arith, less, few))
      ] refl

pub few_deliveries : (n : ℕ) (order : List Link) (w : World) → length (deliveries n order w) ≤ n
unfolding deliveries
few_deliveries zero order w = omega arith
few_deliveries (suc n) order w =
    elim (next_channel order w) as (λ o. length (option_map_or (λ (link : Link). (link, deliver w link.0 link.1) ∷ deliveries n order (deliver w link.0 link.1).world) o []) ≤ suc n) [
      | None ↦ omega arith
      | Some link ↦ let rest = few_deliveries n order (deliver w link.0 link.1).world in omega (arith, rest)
    ]
