use Rattle.network_steps.specs.Genesis.{first_world, order_of}
use Rattle.network_steps.specs.Steps.{worlds}
use Rattle.law_steps.proofs.Lemmas.Stepping.{worlds_reached, first_reached}
use Rattle.law_steps.specs.Views.{views}
use Rattle.law_audits.proofs.Networks.{all_printed, openable_once}
use Rattle.law_audits.proofs.laws.law_of_printed_networks.Goals as goal

pub returns : goal.returns
returns c spec steps coherent =
    let below = c.law_of_premises_of_conservation.ensures in
    let w = first_world spec in
    let first = c.law_of_conserved_networks.ensures.first spec coherent in
    all_printed w (openable_once spec coherent.openable) first.parts first.genesis first.once (worlds (order_of spec) w steps)
    (worlds_reached below.below below.shapes below.decodes (views w) first.genesis (order_of spec) w steps (first_reached w first))
