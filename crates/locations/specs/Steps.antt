-- The three steps of reanchoring, each as a rule of its own.
-- Source: xcm's `invert_target`, `prepend_with` and `simplify`, in this project's own words.
use Rattle.std.specs.Prelude.{◌≡◌, ℕ, ◌+◌, ◌-◌, min, List, ◌++◌, length, take, drop, replicate, nat_lt, Ok, Err, if◌then◌else◌}
use Rattle.std.specs.declared.result.Result.{Result}
use Rattle.std.specs.List.{common_prefix_len}
use Rattle.locations.specs.declared.grammar.Junction.{Junction}
use Rattle.locations.specs.declared.grammar.Junction.TheVariants.{OnlyChild}
use Rattle.locations.specs.declared.relative.Location.{Location}
use Rattle.locations.specs.declared.faults.LocationFault.{LocationFault}
use Rattle.locations.specs.declared.faults.LocationFault.TheVariants.{Full, TooHigh}
use Rattle.locations.specs.Chains.{last, same_junction}

-- the last n junctions of a context, with OnlyChild in front for each one missing
abbrev pub last_known : ℕ → List Junction → List Junction
last_known n context = replicate (n - length context) OnlyChild ++ last n context

-- where the chain itself lies, seen from the target
abbrev pub inverted : List Junction → Location → Location
inverted context target = record { parents = length target.interior; interior = last_known target.parents context }

-- a location without its first k junctions and as many parents
abbrev pub shortened : ℕ → Location → Location
shortened k l = record { parents = l.parents - k; interior = drop k l.interior }

-- junctions that lead back along the context are dropped, each with a parent
abbrev pub simplified : List Junction → Location → Location
simplified context l =
    if nat_lt (length context) l.parents then l
    else shortened (common_prefix_len same_junction (last l.parents context) l.interior) l

-- how many of the prefix's last junctions the location's parents cancel
abbrev pub cancelled : Location → Location → ℕ
cancelled prefix l = min l.parents (length prefix.interior)

abbrev pub prepended_parents : Location → Location → ℕ
prepended_parents prefix l = prefix.parents + l.parents - cancelled prefix l

abbrev pub prepended_interior : Location → Location → List Junction
prepended_interior prefix l = take (length prefix.interior - cancelled prefix l) prefix.interior ++ l.interior

-- the location as seen from where the prefix is seen, if it fits
abbrev pub prepended : Location → Location → Result Location LocationFault
prepended prefix l =
    if nat_lt 8 (length (prepended_interior prefix l)) then Err Full
    else if nat_lt 255 (prepended_parents prefix l) then Err TooHigh
    else Ok (record { parents = prepended_parents prefix l; interior = prepended_interior prefix l })

-- the new location is the answer, or it is as before
abbrev pub Becomes : {X : Type 0} → Result X LocationFault → Location → Location → Result Location LocationFault → Type 0
Becomes (Ok _) old new answer = answer ≡ Ok new
Becomes (Err fault) old new answer = (answer ≡ Err fault) × (new ≡ old)
