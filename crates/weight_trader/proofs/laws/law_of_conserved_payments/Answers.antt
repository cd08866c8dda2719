use Rattle.weight_trader.proofs.Trading.{payments_kept, refunds_paid, refunds_covered, moves_kept, ends_kept, new_within}
use Rattle.weight_trader.proofs.Booking.{excess_booked, excess_told, others_kept, payments_booked, rows_kept, purchases_move, refusals_move}
use Rattle.weight_trader.proofs.laws.law_of_conserved_payments.Goals as goal

pub returns : goal.returns
returns c = record {
  payments = payments_kept;
  refunds = refunds_paid;
  covered = refunds_covered;
  moves = moves_kept;
  ends = ends_kept;
  new_ends = new_within;
  excess = excess_booked;
  told = excess_told;
  others = others_kept;
  booked = payments_booked;
  rows = rows_kept;
  purchases = purchases_move;
  refusals = refusals_move;
}
