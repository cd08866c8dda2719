use Rattle.law_nets.proofs.PaidDeliveries.{withdrawal_paid, teleport_received, none_lost}
use Rattle.law_nets.proofs.Rooms.{KeepSettings}
use Rattle.law_nets.proofs.payment.law_of_paid_deliveries.Goals as goal

pub returns : goal.returns
returns c =
    let below = c.law_of_premises_of_conservation.ensures in
    let keep : KeepSettings = record { exec = c.law_of_constant_settings.ensures.exec; deliver = c.law_of_constant_settings.ensures.deliver; claim = c.law_of_constant_settings.ensures.claim } in
    record {
      withdrawal = λ order w steps first rooms unlocked d a kind ok. withdrawal_paid below.below below.shapes below.decodes keep c.law_of_matched_cargoes.ensures order w steps first rooms d c.law_of_sovereign_locks.ensures.worlds c.law_of_sovereign_locks.ensures.no_floor unlocked a kind ok;
      teleport = λ order w steps first rooms d a kind ok. teleport_received below.below below.shapes below.decodes keep c.law_of_matched_cargoes.ensures order w steps first rooms d a kind ok;
      lost = λ order w steps first rooms d a ok. none_lost below.below below.shapes below.decodes keep c.law_of_matched_cargoes.ensures order w steps first rooms d a ok;
    }
