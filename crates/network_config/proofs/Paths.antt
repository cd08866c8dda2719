-- How long a path is.
use Rattle.std.proofs.Common.{◌≡◌, ◌+◌, ◌-◌, List, length, arith, length-append}
use Rattle.std.proofs.lemmas.List.{length-take}
use Rattle.locations.specs.declared.grammar.Junction.{Junction}
use Rattle.locations.specs.declared.relative.Location.{Location}
use Rattle.locations.specs.Chains.{path_of, without_last}

pub path_length : (context : List Junction) (l : Location) → length (path_of context l) ≡ length context - l.parents + length l.interior
path_length context l = omega (arith, length-append (without_last l.parents context) l.interior, length-take (length context - l.parents) context)
