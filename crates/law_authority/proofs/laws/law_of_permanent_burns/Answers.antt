use Rattle.law_authority.proofs.Steps.{deliver_authority}
use Rattle.law_authority.proofs.SpentWorlds.{Anyone, spent_pass, worlds_burns}
use Rattle.law_authority.proofs.laws.law_of_permanent_burns.Goals as goal

pub returns : goal.returns
returns c =
    let says = c.law_of_constant_settings.ensures in
    let shapes = c.law_of_seven_message_shapes.ensures in
    worlds_burns (spent_pass Anyone c.law_of_sovereign_accounts.ensures.account (λ here there. tt) (deliver_authority c.law_of_delivered_messages.ensures c.law_of_admitted_messages.ensures)
    says.exec says.deliver says.claim shapes.exec shapes.deliver shapes.claim)
