use Rattle.std.proofs.Common.{◌≡◌, ◌∙◌, List, not, ◌||◌, sym, subst}
use Rattle.std.specs.List.{list_all}
use Rattle.exec_base.specs.Part.{ChainPart}
use Rattle.supply_audit.specs.Covers.{own_touched, kept_touched}
use Rattle.supply_audit.specs.Stale.{are_touched}
use Rattle.report_text.specs.Kept.{KeptSupply, KeptBacking, Sheet}
use Rattle.report_text.specs.Sheets.{IsWrittenOf, IsSheetOf}
use Rattle.report_text.proofs.Sheets.{current}
use Rattle.report_text.proofs.sheet.SupplySheet.is_current.Goals as goal

pub returns-then-are_supplies_current : goal.returns-then-are_supplies_current
returns-then-are_supplies_current c = λ true.
    let s : Sheet = record { supplies = c.self.inside.supplies.items; backings = c.self.inside.backings.items; stale = c.self.inside.stale.items } in
    let flags = c.as_slice-stale.ensures.value in
    let supplies = c.as_slice.ensures.value in
    let backings = c.as_slice-then-are_supplies_current.ensures.value in
    subst (λ (t : Sheet). (parts : List ChainPart) → IsSheetOf parts t → IsWrittenOf parts t) c.self.view_is
    (current s
    (sym (λ i. list_all (λ (k : KeptSupply). not (are_touched (flags i) k.entry.places)) (supplies i)) ∙ sym c.are_supplies_current.ensures ∙ c.if-are_supplies_current.true)
    (sym (λ i. list_all (λ (k : KeptBacking). not (own_touched (flags i) k.entry.cover || kept_touched (flags i) k.entry.cover)) (backings i)) ∙ sym c.are_backings_current.ensures ∙ true))
