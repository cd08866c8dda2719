use Rattle.law_hosts.proofs.Booking.{conserves_held_fee, conserves_taken_fee, conserves_kept_fee}
use Rattle.law_hosts.proofs.Moving.{conserves_drawn_fee}
use Rattle.law_hosts.proofs.Trading.{conserves_purchase, conserves_refund, conserves_settlement}
use Rattle.law_hosts.proofs.laws.law_of_conserved_fees.Goals as goal

pub returns-clause-held : goal.returns-clause-held
returns-clause-held c = conserves_held_fee

pub returns-clause-taken : goal.returns-clause-taken
returns-clause-taken c = conserves_taken_fee

pub returns-clause-kept : goal.returns-clause-kept
returns-clause-kept c = conserves_kept_fee

pub returns-clause-drawn : goal.returns-clause-drawn
returns-clause-drawn c = conserves_drawn_fee c.law_of_ledgers.ensures.withdrawn

pub returns-clause-bought : goal.returns-clause-bought
returns-clause-bought c = conserves_purchase c.law_of_conserved_payments.ensures.moves

pub returns-clause-refunded : goal.returns-clause-refunded
returns-clause-refunded c = conserves_refund c.law_of_conserved_payments.ensures.moves

pub returns-clause-settled : goal.returns-clause-settled
returns-clause-settled c = conserves_settlement c.law_of_conserved_payments.ensures.moves
