use Rattle.law_authority.proofs.Steps.{exec_authority, deliver_authority, claim_authority, after_authority, worlds_authority}
use Rattle.law_authority.proofs.laws.law_of_authority.Goals as goal

pub returns : goal.returns
returns c =
    let taken = c.law_of_delivered_messages.ensures in
    let let_in = c.law_of_admitted_messages.ensures in
    let shapes = c.law_of_seven_message_shapes.ensures in
    record {
      exec = exec_authority;
      deliver = deliver_authority taken let_in;
      claim = claim_authority;
      after = after_authority taken let_in shapes.deliver;
      worlds = worlds_authority taken let_in shapes.deliver shapes.after;
    }
