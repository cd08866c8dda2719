use Rattle.std.proofs.Common.{length}
use Rattle.ledgers.proofs.list_moves.+put_short.Given as goal

abbrev pub decreases-put_short : goal.decreases-put_short
decreases-put_short l = length l.list.now
