use Rattle.network_steps.specs.Genesis.{first_world, order_of}
use Rattle.law_authority.proofs.Lemmas.WaitingLaws.{nothing_waits}
use Rattle.law_audits.proofs.Calls.{LawsOfMoves}
use Rattle.law_audits.proofs.Firsts.{first_sound}
use Rattle.law_audits.proofs.Worlds.{stay_below}
use Rattle.law_audits.proofs.checking.law_of_checking_accounts.Goals as goal

pub returns : goal.returns
returns c = λ spec steps openable.
    let laws : LawsOfMoves = record {
      withdraws = c.law_of_ledgers.ensures.withdrawn;
      moves = c.law_of_conserved_payments.ensures.moves;
      ends = c.law_of_conserved_payments.ensures.ends;
      trapping = c.law_of_traps.ensures.kept;
    } in
    let waits = nothing_waits (first_world spec) (c.law_of_opened_networks.ensures.quiet spec) in
    stay_below laws c.law_of_orderly_instructions.ensures.steers c.law_of_messages.ensures (order_of spec) (first_world spec) steps
    (first_sound c.law_of_conserved_payments.ensures.new_ends spec openable waits)
