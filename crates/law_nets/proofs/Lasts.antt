-- The last of the worlds of some steps.
use Rattle.std.proofs.Common.{◌≡◌, List, [], ◌∷◌, ◌++◌, refl}
use Rattle.std.specs.List.{AllByRecursion}
use Rattle.network_steps.specs.Worlds.{World}
use Rattle.network_steps.specs.Steps.{Link, Step, next_world, worlds, last_world}

pub one_more : (order : List Link) (w : World) (steps : List Step) (step : Step) → last_world order w (steps ++ step ∷ []) ≡ next_world order (last_world order w steps) step
one_more order w [] step = refl
one_more order w (s ∷ steps) step = one_more order (next_world order w s) steps step

-- what holds of each of the worlds holds of the last
pub all_last : (P : World → Type 0) (order : List Link) (w : World) (steps : List Step) → AllByRecursion P (worlds order w steps) → P (last_world order w steps)
all_last P order w [] all = all.0
all_last P order w (s ∷ steps) all = all_last P order (next_world order w s) steps all.1
