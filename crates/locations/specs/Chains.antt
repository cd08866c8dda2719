-- A chain's context is the list of junctions from the root of all consensus systems to the chain.
-- The path of a location at a chain is the same list for what the location names.
-- Source: the XCM format's locations ("parents" and "interior"), and this project's own word "path".
use Rattle.std.specs.Prelude.{◌≡◌, ◌≢◌, ℕ, ◌-◌, ◌<◌, ◌≤◌, nat_lt, nat_le, Bool, false, ◌&&◌, not, List, ◌++◌, length, take, drop, Option, Some, None, slice_get}
use Rattle.std.specs.List.{All, list_all}
use Rattle.std.specs.Ordering.{eq_by_cmp}
use Rattle.locations.specs.declared.grammar.Junction.{Junction}
use Rattle.locations.specs.declared.grammar.Junction.TheVariants.{OnlyChild}
use Rattle.locations.specs.declared.relative.Location.{Location}
use Rattle.locations.specs.declared.faults.PathFault.{PathFault}
use Rattle.locations.specs.declared.faults.PathFault.TheVariants.{PastRoot, Full}
use Rattle.locations.specs.Order.{junction_cmp}

-- whether two junctions are the same
abbrev pub same_junction : Junction → Junction → Bool
same_junction = eq_by_cmp junction_cmp

-- the last n junctions, and the others
abbrev pub last : ℕ → List Junction → List Junction
last n chain = drop (length chain - n) chain

abbrev pub without_last : ℕ → List Junction → List Junction
without_last n chain = take (length chain - n) chain

-- the parents don't lead past the root
abbrev pub HasPath : List Junction → Location → Type 0
HasPath context l = l.parents ≤ length context

-- as many levels up as there are parents, then the junctions down. It has no limit of length
abbrev pub path_of : List Junction → Location → List Junction
path_of context l = without_last l.parents context ++ l.interior

-- why a location has no path that a list of junctions can hold
abbrev pub IsPathFault : List Junction → Location → PathFault → Type 0
IsPathFault context l PastRoot = length context < l.parents
IsPathFault context l Full = HasPath context l × (8 < length (path_of context l))

-- the first junction does not lead back to where the last parent came from
abbrev pub TurnsAway : List Junction → Location → Type 0
TurnsAway context l = (first : Junction) → 0 < l.parents → slice_get l.interior 0 ≡ Some first
    → slice_get context (length context - l.parents) ≢ Some first

-- the shortest of the names that a chain has for one path
pub record IsNormal (context : List Junction) (l : Location) : Type 0 where
  pub inside : HasPath context l
  pub named : All (λ j. j ≢ OnlyChild) l.interior
  pub turned : TurnsAway context l

-- the same as a test that computes
abbrev pub same_first : Option Junction → Option Junction → Bool
same_first (Some a) (Some b) = same_junction a b
same_first (Some a) None = false
same_first None b = false

abbrev pub turns_back : List Junction → Location → Bool
turns_back context l = nat_lt 0 l.parents && same_first (slice_get l.interior 0) (slice_get context (length context - l.parents))

abbrev pub is_normal : List Junction → Location → Bool
is_normal context l = nat_le l.parents (length context) && (list_all (λ j. not (same_junction j OnlyChild)) l.interior && not (turns_back context l))

-- at most one level up and one junction down, as a chain of a network lies from another
pub record IsNear (context : List Junction) (l : Location) : Type 0 where
  pub placed : HasPath context l
  pub few_parents : l.parents ≤ 1
  pub few_junctions : length l.interior ≤ 1
