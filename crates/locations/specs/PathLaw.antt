-- The law of paths: reanchoring keeps the path, and a normal location is the only one of its path.
-- It is stated over the closed form and the path alone, for lists of any length.
use Rattle.std.specs.Prelude.{◌≡◌, ◌≢◌, List, Ok}
use Rattle.std.specs.List.{All}
use Rattle.locations.specs.declared.grammar.Junction.{Junction}
use Rattle.locations.specs.declared.grammar.Junction.TheVariants.{OnlyChild}
use Rattle.locations.specs.declared.relative.Location.{Location}
use Rattle.locations.specs.Chains.{HasPath, path_of, IsNormal}
use Rattle.locations.specs.Reanchoring.{reanchored}

-- r is the location as the target sees it, and location and target have a path at the context
pub record IsSeenAs (context : List Junction) (l target r : Location) : Type 0 where
  pub placed : HasPath context l
  pub target_placed : HasPath context target
  pub seen : reanchored l target context ≡ Ok r

-- seen from the target, the result has the path of the location
pub record HasSamePath (context : List Junction) (l target r : Location) : Type 0 where
  pub placed : HasPath (path_of context target) r
  pub same : path_of (path_of context target) r ≡ path_of context l

abbrev pub KeepsPath : Type 0
KeepsPath = (context : List Junction) (l target r : Location) → IsSeenAs context l target r → HasSamePath context l target r

-- where the context has no OnlyChild, a normal location stays normal
abbrev pub KeepsNormal : Type 0
KeepsNormal = (context : List Junction) (l target r : Location) → IsSeenAs context l target r
    → All (λ j. j ≢ OnlyChild) context → IsNormal context l → IsNormal (path_of context target) r

-- two normal locations with one path are one location
abbrev pub HasOneName : Type 0
HasOneName = (context : List Junction) (l m : Location) → IsNormal context l → IsNormal context m
    → path_of context l ≡ path_of context m → l ≡ m
