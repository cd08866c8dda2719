-- Lemmas on the definitions of `specs/Steps.antt`: what proofs cite.
use Rattle.std.specs.Prelude.{ℕ, slice_get, slice_set}
use Rattle.std.specs.Option.{option_map_or}
use Rattle.network_steps.specs.Worlds.{Member, World}

-- a change of the member at an index
abbrev pub change_at : World → ℕ → (Member → Member) → World
change_at w place change = option_map_or (λ (m : Member). slice_set w place (change m)) (slice_get w place) w
