-- Two chains of a network.
use Rattle.std.proofs.Common.{◌≡◌, ℕ, List, Option, Some, None, sym, ap, ◌∙◌, get_or}
use Rattle.std.specs.Prelude.{slice_get}
use Rattle.std.specs.Option.{option_map_or}
use Rattle.std.proofs.lemmas.List.Quantifiers.{position-Some}
use Rattle.std.proofs.lemmas.Option.{get_or_from_slice_get}
use Rattle.chain_ids.specs.declared.chain.ChainId.{ChainId}
use Rattle.chain_ids.specs.Chains.{same_chain}
use Rattle.chain_ids.proofs.Lemmas.{same_chain_told}
use Rattle.channel_parts.specs.Channels.{Outgoing}
use Rattle.chain_queues.specs.Queues.{channel_to}
use Rattle.network_steps.specs.declared.step_result.StepResult.{StepResult}
use Rattle.network_steps.specs.Worlds.{Member, chain_of, World, place_of, unchanged}
use Rattle.network_steps.specs.Steps.{with_both_members, delivery_of, deliver, claim_on, claim}

module _ {A : Type 0} (w : World) (from to : ChainId) (none : A) (f : ℕ → ℕ → Member → Member → A) where
  pub between_nowhere : place_of w from ≡ None → with_both_members w from to none f ≡ none
  between_nowhere at = ap (λ o. option_map_or (λ (i : ℕ). option_map_or (λ (j : ℕ). option_map_or (λ (s : Member). option_map_or (λ (r : Member). f i j s r) (slice_get w j) none) (slice_get w i) none) (place_of w to) none) o none) at

  pub between_to_nowhere : (i : ℕ) → place_of w from ≡ Some i → place_of w to ≡ None → with_both_members w from to none f ≡ none
  between_to_nowhere i at_i at =
      ap (λ o. option_map_or (λ (i : ℕ). option_map_or (λ (j : ℕ). option_map_or (λ (s : Member). option_map_or (λ (r : Member). f i j s r) (slice_get w j) none) (slice_get w i) none) (place_of w to) none) o none) at_i
      ∙ ap (λ o. option_map_or (λ (j : ℕ). option_map_or (λ (s : Member). option_map_or (λ (r : Member). f i j s r) (slice_get w j) none) (slice_get w i) none) o none) at

  pub between_at : (i j : ℕ) (s r : Member) → place_of w from ≡ Some i → place_of w to ≡ Some j → slice_get w i ≡ Some s → slice_get w j ≡ Some r → with_both_members w from to none f ≡ f i j s r
  between_at i j s r at_i at_j is_s is_r =
      ap (λ o. option_map_or (λ (i : ℕ). option_map_or (λ (j : ℕ). option_map_or (λ (s : Member). option_map_or (λ (r : Member). f i j s r) (slice_get w j) none) (slice_get w i) none) (place_of w to) none) o none) at_i
      ∙ ap (λ o. option_map_or (λ (j : ℕ). option_map_or (λ (s : Member). option_map_or (λ (r : Member). f i j s r) (slice_get w j) none) (slice_get w i) none) o none) at_j
      ∙ ap (λ o. option_map_or (λ (s : Member). option_map_or (λ (r : Member). f i j s r) (slice_get w j) none) o none) is_s
      ∙ ap (λ o. option_map_or (λ (r : Member). f i j s r) o none) is_r

-- the chain at an index is the one that was looked for
pub place_says : (w : World) (chain : ChainId) (i : ℕ) (m : Member) → place_of w chain ≡ Some i → slice_get w i ≡ Some m → chain_of m ≡ chain
place_says w chain i m at is =
    let found = position-Some (λ (m : Member). same_chain (chain_of m) chain) w i m at in
    let here : get_or w i m ≡ m = get_or_from_slice_get w i m m is in
    same_chain_told (chain_of m) chain (sym (ap (λ (m : Member). same_chain (chain_of m) chain) here) ∙ found.1)

module _ (w : World) (from to : ChainId) (bytes : List ℕ) where
  pub claim_nowhere : place_of w from ≡ None → claim w from to bytes ≡ unchanged StepResult.NoSuchChain w
  unfolding claim
  claim_nowhere at = between_nowhere w from to (unchanged StepResult.NoSuchChain w) (λ i j s r. claim_on w i s (chain_of r) (channel_to (chain_of r) s.part.channels) bytes) at

  pub claim_to_nowhere : (i : ℕ) → place_of w from ≡ Some i → place_of w to ≡ None → claim w from to bytes ≡ unchanged StepResult.NoSuchChain w
  unfolding claim
  claim_to_nowhere i at_i at = between_to_nowhere w from to (unchanged StepResult.NoSuchChain w) (λ i j s r. claim_on w i s (chain_of r) (channel_to (chain_of r) s.part.channels) bytes) i at_i at

  pub claim_at : (i j : ℕ) (s r : Member) (o : Option Outgoing) → place_of w from ≡ Some i → place_of w to ≡ Some j → slice_get w i ≡ Some s → slice_get w j ≡ Some r → channel_to to s.part.channels ≡ o
      → claim w from to bytes ≡ claim_on w i s to o bytes
  unfolding claim
  claim_at i j s r o at_i at_j is_s is_r channel =
      between_at w from to (unchanged StepResult.NoSuchChain w) (λ i j s r. claim_on w i s (chain_of r) (channel_to (chain_of r) s.part.channels) bytes) i j s r at_i at_j is_s is_r
      ∙ ap (λ (c : ChainId). claim_on w i s c (channel_to c s.part.channels) bytes) (place_says w to j r at_j is_r)
      ∙ ap (λ (o : Option Outgoing). claim_on w i s to o bytes) channel

module _ (w : World) (from to : ChainId) where
  pub deliver_nowhere : place_of w from ≡ None → deliver w from to ≡ unchanged StepResult.NoSuchChain w
  unfolding deliver
  deliver_nowhere at = between_nowhere w from to (unchanged StepResult.NoSuchChain w) (λ i j s r. delivery_of w i j s r (channel_to (chain_of r) s.part.channels)) at

  pub deliver_to_nowhere : (i : ℕ) → place_of w from ≡ Some i → place_of w to ≡ None → deliver w from to ≡ unchanged StepResult.NoSuchChain w
  unfolding deliver
  deliver_to_nowhere i at_i at = between_to_nowhere w from to (unchanged StepResult.NoSuchChain w) (λ i j s r. delivery_of w i j s r (channel_to (chain_of r) s.part.channels)) i at_i at

  pub deliver_at : (i j : ℕ) (s r : Member) (o : Option Outgoing) → place_of w from ≡ Some i → place_of w to ≡ Some j → slice_get w i ≡ Some s → slice_get w j ≡ Some r → channel_to to s.part.channels ≡ o
      → deliver w from to ≡ delivery_of w i j s r o
  unfolding deliver
  deliver_at i j s r o at_i at_j is_s is_r channel =
      between_at w from to (unchanged StepResult.NoSuchChain w) (λ i j s r. delivery_of w i j s r (channel_to (chain_of r) s.part.channels)) i j s r at_i at_j is_s is_r
      ∙ ap (λ (c : ChainId). delivery_of w i j s r (channel_to c s.part.channels)) (place_says w to j r at_j is_r)
      ∙ ap (delivery_of w i j s r) channel
