-- What a list of junctions is once its junctions were borrowed for writing. This project's own rule.
use Rattle.std.specs.Prelude.{List, length}
use Rattle.std.specs.List.{refill}
use Rattle.std.specs.Borrow.{Lends, MutBor, Fml, Array}
use Rattle.locations.specs.declared.grammar.Junction.{Junction}
use Rattle.locations.specs.contracts.grammar.Junction.{the_row as junction_row}
use Rattle.locations.specs.contracts.interior.Junctions.{the_row}

-- once the loan ends, the list has what was left in its slots, and is as long as before
abbrev pub LendsPlaces : MutBor (List Junction) → MutBor (List Junction) → Fml
LendsPlaces list places =
    Lends the_row (Array junction_row 0) list places (refill (length list.now) list.now)
