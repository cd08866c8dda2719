-- Lemmas: no step changes how much an execution may hold. A reader may skip this file.
use Rattle.std.proofs.Common.{◌≡◌, ◌≤◌, ℕ, zero, suc, List, [], ◌∷◌, Option, Some, None, refl, sym, ◌∙◌, subst}
use Rattle.std.specs.Prelude.{slice_get}
use Rattle.std.specs.List.{AllByRecursion}
use Rattle.std.specs.Option.{option_map_or}
use Rattle.chain_ids.specs.declared.chain.ChainId.{ChainId}
use Rattle.exec_rules.specs.declared.rules.ChainRules.{ChainRules}
use Rattle.network_steps.specs.Fixed.{Fixed, all_settings}
use Rattle.network_steps.specs.Sends.{deliveries_left}
use Rattle.network_steps.specs.Steps.{exec, deliver, claim, Link, next_channel, deliveries, world_behind, Step, Exec, Deliver, Claim, Drain, Balances, Traps, Queues, Supply, next_world, worlds}
use Rattle.network_steps.specs.Worlds.{Member, World}
use Rattle.law_nets.specs.Paid.{HaveRoom}

-- what the law of settings says
pub record KeepSettings : Type 0 where
  pub exec : (w : World) (chain : ChainId) (account bytes : List ℕ) → all_settings (exec w chain account bytes).world ≡ all_settings w
  pub deliver : (w : World) (from to : ChainId) → all_settings (deliver w from to).world ≡ all_settings w
  pub claim : (w : World) (from to : ChainId) (bytes : List ℕ) → all_settings (claim w from to bytes).world ≡ all_settings w

module _ (keep : KeepSettings) where
  next_keeps : (n : ℕ) (order : List Link) (w : World) (o : Option Link) → ((v : World) → all_settings (world_behind v (deliveries n order v)) ≡ all_settings v)
      → all_settings (world_behind w (option_map_or (λ (link : Link). (link, deliver w link.0 link.1) ∷ deliveries n order (deliver w link.0 link.1).world) o [])) ≡ all_settings w
  next_keeps n order w None rest = refl
  next_keeps n order w (Some link) rest = rest (deliver w link.0 link.1).world ∙ keep.deliver w link.0 link.1

  deliveries_keep : (n : ℕ) (order : List Link) (w : World) → all_settings (world_behind w (deliveries n order w)) ≡ all_settings w
  unfolding deliveries
  deliveries_keep zero order w = refl
  deliveries_keep (suc n) order w = next_keeps n order w (next_channel order w) (λ v. deliveries_keep n order v)

  step_keeps : (order : List Link) (w : World) (step : Step) → all_settings (next_world order w step) ≡ all_settings w
  step_keeps order w (Exec chain account bytes) = keep.exec w chain account bytes
  step_keeps order w (Deliver from to) = keep.deliver w from to
  step_keeps order w (Claim from to bytes) = keep.claim w from to bytes
  step_keeps order w Drain = deliveries_keep (deliveries_left w) order w
  step_keeps order w Balances = refl
  step_keeps order w Traps = refl
  step_keeps order w Queues = refl
  step_keeps order w Supply = refl

  -- ---- room
  abbrev IsRoomy : ChainRules × Fixed → Type 0
  IsRoomy chain = 20 ≤ chain.0.max_holding

  by_settings : (w : World) → HaveRoom w → AllByRecursion IsRoomy (all_settings w)
  by_settings [] all = tt
  by_settings (m ∷ w) all = (all.0, by_settings w all.1)

  of_settings : (w : World) → AllByRecursion IsRoomy (all_settings w) → HaveRoom w
  of_settings [] all = tt
  of_settings (m ∷ w) all = (all.0, of_settings w all.1)

  pub worlds_have_room : (order : List Link) (w : World) (steps : List Step) → HaveRoom w → AllByRecursion HaveRoom (worlds order w steps)
  worlds_have_room order w [] room = (room, tt)
  worlds_have_room order w (step ∷ steps) room =
      (room, worlds_have_room order (next_world order w step) steps (of_settings (next_world order w step) (subst (AllByRecursion IsRoomy) (sym (step_keeps order w step)) (by_settings w room))))

pub room_at : (w : World) (k : ℕ) (m : Member) → slice_get w k ≡ Some m → HaveRoom w → 20 ≤ m.rules.max_holding
room_at [] k m e all = absurd cc
room_at (x ∷ w) zero m e all = let same : x ≡ m = cc in subst (λ (y : Member). 20 ≤ y.rules.max_holding) same all.0
room_at (x ∷ w) (suc k) m e all = room_at w k m e all.1
