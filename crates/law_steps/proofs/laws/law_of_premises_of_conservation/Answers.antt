use Rattle.law_steps.proofs.laws.law_of_premises_of_conservation.Goals as goal

pub returns : goal.returns
returns c = record {
  below = record {
    withdraws = c.law_of_ledgers.ensures.withdrawn;
    moves = c.law_of_conserved_payments.ensures.moves;
    trapping = c.law_of_traps.ensures.kept;
    stays = c.law_of_readiness.ensures.done;
    orderly = c.law_of_orderly_instructions.ensures.steers;
    weighs = c.law_of_admission.ensures.weighed;
    balances = c.law_of_admission.ensures.balanced;
    rests = c.law_of_admission.ensures.rests;
  };
  shapes = record {
    admits = c.law_of_admitted_messages.ensures;
    exec = c.law_of_seven_message_shapes.ensures.exec;
    deliver = c.law_of_seven_message_shapes.ensures.deliver;
    claim = c.law_of_seven_message_shapes.ensures.claim;
  };
  decodes = c.law_of_messages.ensures;
}
