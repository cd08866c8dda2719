-- The ends of a channel on which a message waits are different.
use Rattle.std.proofs.Common.{◌≡◌, ◌∙◌, ℕ, zero, suc, true, false, List, [], ◌∷◌, Option, Some, None, refl, sym, ap, subst}
use Rattle.std.specs.Prelude.{if◌then◌else◌, is_some, slice_get}
use Rattle.std.specs.Option.{option_and_then, option_map_or}
use Rattle.chain_ids.specs.declared.chain.ChainId.{ChainId}
use Rattle.channel_parts.specs.Channels.{Waiting, Outgoing}
use Rattle.chain_queues.specs.Queues.{channel_to, oldest}
use Rattle.exec_rules.specs.declared.rules.ChainRules.{ChainRules}
use Rattle.chain_state.specs.declared.state.ChainState.{ChainState}
use Rattle.network_steps.specs.Worlds.{Member, chain_of, World, place_of}
use Rattle.network_steps.specs.Steps.{Link, waits, next_channel}
use Rattle.chain_net.specs.Chains.{member_in, world_in}
use Rattle.chain_net.specs.Sound.{AreBetweenSteps}

-- no channel leads from a chain to itself
abbrev AreApart : World → Type 0
AreApart w = (place : ℕ) (m : Member) → slice_get w place ≡ Some m → is_some (channel_to (chain_of m) m.part.channels) ≡ false

members_apart : (rs : List ChainRules) (states : List ChainState) → AreBetweenSteps states → AreApart (world_in rs states)
members_apart [] states all place m is = absurd cc
members_apart (r ∷ rs) [] all place m is = absurd cc
members_apart (r ∷ rs) (s ∷ states) all zero m is =
    let same : member_in r s ≡ m = cc in
    subst (λ (x : Member). is_some (channel_to (chain_of x) x.part.channels) ≡ false) same (all 0 s refl).apart
members_apart (r ∷ rs) (s ∷ states) all (suc place) m is = members_apart rs states (λ k state at. all (suc k) state at) place m is

none_oldest : (o : Option Outgoing) → is_some o ≡ false → is_some (option_and_then oldest o) ≡ false
none_oldest None e = refl
none_oldest (Some c) e = absurd cc

module _ (w : World) (apart : AreApart w) where
  abbrev waiting_at : Option ℕ → Option Waiting
  waiting_at o =
      option_map_or (λ (i : ℕ). option_map_or (λ (j : ℕ). option_map_or (λ (s : Member). option_map_or (λ (r : Member). option_and_then oldest (channel_to (chain_of r) s.part.channels)) (slice_get w j) None) (slice_get w i) None) o None) o None

  none_at : (o : Option ℕ) → is_some (waiting_at o) ≡ true → ⊥
  none_at None e = cc
  none_at (Some i) e =
      elim (slice_get w i) as (λ (o : Option Member). slice_get w i ≡ o
      → is_some (option_map_or (λ (s : Member). option_map_or (λ (r : Member). option_and_then oldest (channel_to (chain_of r) s.part.channels)) o None) o None) ≡ true → ⊥) [
        | None ↦ λ at h. cc
        | Some m ↦ λ at h. let none : false ≡ true = sym (none_oldest (channel_to (chain_of m) m.part.channels) (apart i m at)) ∙ h in cc
      ] refl e

  none_to_itself : (chain : ChainId) → waits w (chain, chain) ≡ true → ⊥
  none_to_itself chain e = none_at (place_of w chain) e

-- what the next channel has
pub found_waits : (order : List Link) (w : World) (link : Link) → next_channel order w ≡ Some link → waits w link ≡ true
found_waits [] w link e = absurd cc
found_waits (l ∷ order) w link e =
    elim (waits w l) as (λ b. waits w l ≡ b → (if b then Some l else next_channel order w) ≡ Some link → waits w link ≡ true) [
      | true ↦ λ h f. let same : l ≡ link = cc in subst (λ x. waits w x ≡ true) same h
      | false ↦ λ h f. found_waits order w link f
    ] refl e

pub apart_link : (rs : List ChainRules) (states : List ChainState) → AreBetweenSteps states → (order : List Link) (link : Link) → next_channel order (world_in rs states) ≡ Some link → link.0 ≡ link.1 → ⊥
apart_link rs states all order link e same =
    none_to_itself (world_in rs states) (members_apart rs states all) link.0 (ap (λ (to : ChainId). waits (world_in rs states) (link.0, to)) same ∙ found_waits order (world_in rs states) link e)
