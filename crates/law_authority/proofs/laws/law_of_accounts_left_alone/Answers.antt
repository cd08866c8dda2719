use Rattle.law_authority.proofs.Steps.{deliver_authority}
use Rattle.law_authority.proofs.SpentWorlds.{AskedFor, spent_pass, of_chains, worlds_alone}
use Rattle.law_authority.proofs.laws.law_of_accounts_left_alone.Goals as goal

pub returns : goal.returns
returns c =
    let says = c.law_of_constant_settings.ensures in
    let shapes = c.law_of_seven_message_shapes.ensures in
    λ order w steps shaped. worlds_alone steps (spent_pass (AskedFor steps) c.law_of_sovereign_accounts.ensures.account (of_chains steps) (deliver_authority c.law_of_delivered_messages.ensures c.law_of_admitted_messages.ensures)
    says.exec says.deliver says.claim shapes.exec shapes.deliver shapes.claim) order w shaped
