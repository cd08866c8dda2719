-- What a location becomes when another chain, the target, names the same thing. This is a closed
-- form: it knows of no steps. With p parents and junctions J of the location, q parents and junctions T
-- of the target, and I the last q junctions of the context, OnlyChild for each one missing:
--     q > 8     refused
--     p > q     |T| + p - q parents, then J
--     p <= q    M is the first q - p items of I, then J; without the k junctions with which M goes
--               along T, and |T| - k parents
-- Source: xcm's `reanchored`, in this project's own words.
use Rattle.std.specs.Prelude.{ℕ, ◌+◌, ◌-◌, List, ◌++◌, length, take, nat_lt, Ok, Err, if◌then◌else◌}
use Rattle.std.specs.declared.result.Result.{Result}
use Rattle.std.specs.List.{common_prefix_len}
use Rattle.locations.specs.declared.grammar.Junction.{Junction}
use Rattle.locations.specs.declared.relative.Location.{Location}
use Rattle.locations.specs.declared.faults.LocationFault.{LocationFault}
use Rattle.locations.specs.declared.faults.LocationFault.TheVariants.{Full, TooHigh}
use Rattle.locations.specs.Chains.{same_junction}
use Rattle.locations.specs.Steps.{last_known, shortened}

-- the parents of a location above all that location and target share
abbrev pub raised_parents : Location → Location → ℕ
raised_parents l target = length target.interior + l.parents - target.parents

-- the way down to the location from the highest point that the target reaches
abbrev pub way_down : Location → Location → List Junction → List Junction
way_down l target context = take (target.parents - l.parents) (last_known target.parents context) ++ l.interior

abbrev pub reanchored : Location → Location → List Junction → Result Location LocationFault
reanchored l target context =
    if nat_lt 8 target.parents then Err Full
    else if nat_lt target.parents l.parents then
    (if nat_lt 255 (raised_parents l target) then Err TooHigh
    else Ok (record { parents = raised_parents l target; interior = l.interior }))
    else if nat_lt 8 (length (way_down l target context)) then Err Full
    else Ok (shortened (common_prefix_len same_junction target.interior (way_down l target context))
    (record { parents = length target.interior; interior = way_down l target context }))
