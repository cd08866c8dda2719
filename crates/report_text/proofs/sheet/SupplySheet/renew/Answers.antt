use Rattle.std.proofs.Common.{◌∙◌, Bool, List, length, map, sym, ap, subst}
use Rattle.chain_state.specs.PartOf.{part_of}
use Rattle.supply_audit.specs.Places.{chain_table}
use Rattle.supply_audit.specs.Stale.{Agree}
use Rattle.report_text.specs.Plan.{plan_of}
use Rattle.report_text.specs.Sheets.{IsSheetOf, renewed_supply, renewed_backing}
use Rattle.chain_state.proofs.Lemmas.Mapped.{whole_mapped}
use Rattle.report_text.proofs.Sheets.{supplies_renewed, backings_renewed}
use Rattle.report_text.proofs.sheet.SupplySheet.renew.Goals as goal

pub returns : goal.returns
returns c =
    let parts = map part_of c.args.chains.now in
    let plan = plan_of (map chain_table parts) in
    let stale = c.as_slice-stale.result.now in
    let old = subst (IsSheetOf parts) (sym c.self.view_is) c.requires in
    let agree : Agree stale old.0 parts = subst (λ (flags : List Bool). Agree flags old.0 parts) (sym c.as_slice-stale.ensures.value) old.2 in
    let supplies_size = sym c.as_mut_slice.ensures.len ∙ ap length c.as_mut_slice.ensures.value in
    let backings_size = sym c.as_mut_slice-2.ensures.len ∙ ap length c.as_mut_slice-2.ensures.value in
    let supplies = whole_mapped (renewed_supply stale parts) c.self.inside.supplies.items c.renew_supplies.new.lines _ (c.in_ok-renew_supplies.ensures ∙ ap (map (renewed_supply stale parts)) c.as_mut_slice.ensures.value) supplies_size in
    let backings = whole_mapped (renewed_backing stale parts) c.self.inside.backings.items c.renew_backings.new.lines _ (c.in_ok-renew_backings.ensures ∙ ap (map (renewed_backing stale parts)) c.as_mut_slice-2.ensures.value) backings_size in
    record {
      supplies = supplies ∙ ap (map (renewed_supply stale parts)) old.1.supplies ∙ supplies_renewed stale old.0 parts agree plan.supplies;
      backings = backings ∙ ap (map (renewed_backing stale parts)) old.1.backings ∙ backings_renewed stale old.0 parts agree plan.backings;
    }
