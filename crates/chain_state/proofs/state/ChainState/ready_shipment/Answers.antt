use Rattle.std.proofs.Common.{◌≡◌, sym, ap, ◌∙◌, subst, if◌then◌else◌}
use Rattle.std.specs.Prelude.{None, Ok, Err}
use Rattle.asset_lists.specs.Lists.{has_zero}
use Rattle.asset_bundles.specs.Bundles.{held_assets}
use Rattle.exec_base.specs.Sending.{or_else, away_program, listed_refusal}
use Rattle.exec_base.specs.Host.{first_fault, trust_fault, raise_fault, is_teleport, seen_from, ship_refusal}
use Rattle.chain_state.specs.PartOf.{part_of}
use Rattle.chain_state.specs.Sends.{IsSendFault}
use Rattle.chain_state.proofs.First.{refused_first, passed_first}
use Rattle.chain_state.proofs.Forwarding.{goods_some}
use Rattle.chain_state.proofs.Shipped.{first_of_three, ready_away}
use Rattle.chain_state.proofs.state.ChainState.ready_shipment.Goals as goal
use Rattle.plain_lists.proofs.Lemmas.Facts.{none_if}

pub returns-in-Some : goal.returns-in-Some
unfolding ship_refusal
returns-in-Some c =
    let p = part_of c.args.self.now in
    let dest = c.args.dest.now in
    let t = is_teleport c.args.way in
    let held = held_assets c.args.goods.now in
    let assets = c.items-list.ensures.listed in
    let leaves = ap (λ xs. or_else (first_fault (trust_fault p dest t) xs) (if t then first_fault (raise_fault p) xs else None)) (sym assets) ∙ sym c.leave_refusal.ensures ∙ c.in-Some.is in
    record {
      ready = sym (first_of_three (first_fault (trust_fault p dest t) held) (if t then first_fault (raise_fault p) held else None) (listed_refusal p dest (λ a. away_program c.args.way a c.args.xcm.now) (seen_from p dest held)))
          ∙ refused_first _ (listed_refusal p dest (λ a. away_program c.args.way a c.args.xcm.now) (seen_from p dest held)) c.in-Some.error leaves;
    }

pub encoded_around-requires-clause-some : goal.encoded_around-requires-clause-some
encoded_around-requires-clause-some c = ap has_zero (c.items-list.ensures.listed) ∙ goods_some c.args.goods.now

pub returns-in-Ok : goal.returns-in-Ok
unfolding ship_refusal
returns-in-Ok c =
    let p = part_of c.args.self.now in
    let dest = c.args.dest.now in
    let way = c.args.way in
    let xcm = c.args.xcm.now in
    let t = is_teleport way in
    let held = held_assets c.args.goods.now in
    let assets = c.items-list.ensures.listed in
    let again = c.items-list.ensures.listed in
    let leaves : or_else (first_fault (trust_fault p dest t) held) (if t then first_fault (raise_fault p) held else None) ≡ None =
    ap (λ xs. or_else (first_fault (trust_fault p dest t) xs) (if t then first_fault (raise_fault p) xs else None)) (sym assets) ∙ sym c.leave_refusal.ensures ∙ none_if c.leave_refusal.result c.in_default.not-Some in
    let away = ready_away p dest way c.call_by.result xcm c.items-list.result.now held (Ok (c.in-Ok.to, c.in-Ok.bytes)) c.call_by.ensures again c.in-Ok.ensures.ready in
    record {
      ready = (
        away.0,
        sym (first_of_three (first_fault (trust_fault p dest t) held) (if t then first_fault (raise_fault p) held else None) (listed_refusal p dest (λ a. away_program way a xcm) (seen_from p dest held)))
            ∙ passed_first _ (listed_refusal p dest (λ a. away_program way a xcm) (seen_from p dest held)) leaves ∙ away.1,
      );
    }

pub returns-in-Err : goal.returns-in-Err
unfolding ship_refusal
returns-in-Err c =
    let p = part_of c.args.self.now in
    let dest = c.args.dest.now in
    let way = c.args.way in
    let xcm = c.args.xcm.now in
    let t = is_teleport way in
    let held = held_assets c.args.goods.now in
    let assets = c.items-list.ensures.listed in
    let again = c.items-list.ensures.listed in
    let leaves : or_else (first_fault (trust_fault p dest t) held) (if t then first_fault (raise_fault p) held else None) ≡ None =
    ap (λ xs. or_else (first_fault (trust_fault p dest t) xs) (if t then first_fault (raise_fault p) xs else None)) (sym assets) ∙ sym c.leave_refusal.ensures ∙ none_if c.leave_refusal.result c.in_default.not-Some in
    let away = ready_away p dest way c.call_by.result xcm c.items-list.result.now held (Err c.in-Err.fault) c.call_by.ensures again c.in-Err.ensures.ready in
    let same = sym (first_of_three (first_fault (trust_fault p dest t) held) (if t then first_fault (raise_fault p) held else None) (listed_refusal p dest (λ a. away_program way a xcm) (seen_from p dest held)))
    ∙ passed_first _ (listed_refusal p dest (λ a. away_program way a xcm) (seen_from p dest held)) leaves in
    record { ready = subst (λ r. IsSendFault r c.in-Err.fault) (sym same) away }
