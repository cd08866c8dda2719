use Rattle.law_authority.proofs.Steps.{deliver_authority}
use Rattle.law_authority.proofs.Products.{exec_products, deliver_products, claim_products}
use Rattle.law_authority.proofs.ProductWorlds.{worlds_products}
use Rattle.law_authority.proofs.laws.law_of_pool_products.Goals as goal

pub returns : goal.returns
returns c =
    let delivered = deliver_products c.law_of_sovereign_accounts.ensures.account (deliver_authority c.law_of_delivered_messages.ensures c.law_of_admitted_messages.ensures) in
    let says = c.law_of_constant_settings.ensures in
    let shapes = c.law_of_seven_message_shapes.ensures in
    record {
      exec = exec_products;
      deliver = delivered;
      claim = claim_products;
      worlds = λ order w steps shaped few. worlds_products says.exec says.deliver says.claim delivered shapes.exec shapes.deliver shapes.claim order w steps shaped few;
    }
