use Rattle.std.proofs.Common.{◌≡◌, map, take, length}
use Rattle.std.specs.Prelude.{vec_len, vec_capacity}
use Rattle.ledgers.specs.Ledgers.{listed_pair}
use Rattle.trust_tables.specs.Trust.{listing}
use Rattle.chain_state.proofs.opening.listing.places.Given as goal

abbrev pub invariant-loop-row : goal.invariant-loop-row
invariant-loop-row l = record {
  same : map listed_pair l.list.items ≡ listing (take l.row-index l.rows);
  filled : vec_len l.list ≡ l.row-index;
  room : vec_capacity l.list ≡ length l.rows;
}
