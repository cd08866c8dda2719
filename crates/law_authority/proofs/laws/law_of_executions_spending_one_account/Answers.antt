use Rattle.exec_rules.specs.Admission.{admitted}
use Rattle.law_authority.proofs.Runs.{local_lowers, local_stopped}
use Rattle.law_authority.proofs.Messages.{message_lowers, message_stopped}
use Rattle.law_authority.proofs.laws.law_of_executions_spending_one_account.Goals as goal

pub returns : goal.returns
returns c =
    let let_in = c.law_of_admitted_messages.ensures in
    record {
      caller = local_lowers;
      message = λ here there cargo rules origin credit program p shape.
          message_lowers rules origin p here there cargo (admitted rules origin credit p.queries program) (λ a e. let_in here there program cargo rules origin credit p.queries a shape e);
      caller_stopped = local_stopped;
      message_stopped = λ here there cargo rules origin credit program p now shape h.
          message_stopped rules origin p here there cargo h.0 now (let_in here there program cargo rules origin credit p.queries h.0 shape h.1) h.2;
    }
