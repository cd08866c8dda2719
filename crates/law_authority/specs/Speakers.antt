-- Whose amounts a step may lower. This project's own rule.
use Rattle.std.specs.Prelude.{◌≡◌, ⊤, ℕ, List, [], ◌∷◌, Some, slice_get}
use Rattle.trust_tables.specs.Accounts.{account_of}
use Rattle.network_steps.specs.Worlds.{Member, World, place_of, Stepped}
use Rattle.law_authority.specs.Origins.{SpendsOf}
use Rattle.network_steps.specs.Steps.{name_at, Link, drain, Step, Exec, Deliver, Drain, next_world}

-- the account for which a step speaks, at the member at an index: an execution for its caller, on its chain; a delivery for the sending
-- chain, whose location has an account at the receiver; no other step for any
abbrev pub SpeaksFor : World → Step → ℕ → Member → List ℕ → Type 0
SpeaksFor w (Exec chain account bytes) place member who = (place_of w chain ≡ Some place) × (who ≡ account)
SpeaksFor w (Deliver from to) place member who = (place_of w to ≡ Some place) × (account_of (name_at to from) member.part.site ≡ Some who)
SpeaksFor w step place member who = ⊥

-- at each chain an account that has less of some unit after the step is one for which the step
-- speaks, or that of a pool; no pool's product falls but that of a pool for whose account the step
-- speaks; and what was burned stays burned
abbrev pub HasAuthority : World → Step → World → Type 0
HasAuthority old step new =
    (place : ℕ) (before now : Member) → slice_get old place ≡ Some before → slice_get new place ≡ Some now
    → SpendsOf (SpeaksFor old step place before) before.part now.part

-- each delivery of a drain, in the world that it finds
abbrev pub HaveAuthority : World → List (Link × Stepped) → Type 0
HaveAuthority w [] = ⊤
HaveAuthority w ((link, step) ∷ steps) = HasAuthority w (Deliver link.0 link.1) step.world × HaveAuthority step.world steps

-- a step; `order` is the document's order of channels
abbrev pub IsAuthorized : List Link → World → Step → Type 0
IsAuthorized order w Drain = HaveAuthority w (drain order w)
IsAuthorized order w step = HasAuthority w step (next_world order w step)

-- all steps of a list, each from the world that those before it leave
abbrev pub AreAuthorized : List Link → World → List Step → Type 0
AreAuthorized order w [] = ⊤
AreAuthorized order w (step ∷ steps) = IsAuthorized order w step × AreAuthorized order (next_world order w step) steps
