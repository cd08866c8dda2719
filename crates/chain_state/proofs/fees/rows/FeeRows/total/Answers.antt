use Rattle.std.proofs.Common.{List, None, refl, sym, ap, ◌∙◌}
use Rattle.std.specs.Prelude.{unwrap_or}
use Rattle.std.specs.FinMap.{find}
use Rattle.asset_lists.specs.Units.{Unit, unit_cmp}
use Rattle.amounts.specs.Amounts.{amount}
use Rattle.amounts.proofs.Lemmas.AmountLaws.{amount-empty}
use Rattle.asset_bundles.specs.Bundles.{Bundle}
use Rattle.asset_bundles.proofs.Lemmas.Bundles.{unit_keys}
use Rattle.chain_state.specs.Fees.{Fee, kept_goods}
use Rattle.chain_state.proofs.Lemmas.{kept_at}
use Rattle.chain_state.proofs.ReadingFacts.{next_row, here_row, no_row}
use Rattle.chain_state.proofs.fees.rows.FeeRows.total.Goals as goal

pub loop-row-init : goal.loop-row-init
loop-row-init c = refl

pub returns-then-is_of : goal.returns-then-is_of
returns-then-is_of c =
    let u : Unit = (c.args.id.now, None) in
    let found = here_row u _ c.loop-row.row-index _ c.loop-row-test.true c.row-item.is (sym c.is_of.ensures ∙ c.if-is_of.true) c.loop-row.invariant in
    record {
      total = c.sum.ensures ∙ sym found ∙ ap (λ (fees : List Fee). unwrap_or (find unit_cmp u fees) 0) c.as_slice-row-items.ensures.value
          ∙ sym (kept_at c.self.inside.rows.items u c.self.invariant.0) ∙ ap (λ (fees : List Fee). amount (kept_goods fees) u) c.self.view_is;
    }

pub returns-then-self : goal.returns-then-self
returns-then-self c =
    let u : Unit = (c.args.id.now, None) in
    record {
      total = sym (ap (λ (goods : Bundle). amount goods u) (c.self.invariant.1 c.if-self.true) ∙ amount-empty unit_keys u) ∙ ap (λ (fees : List Fee). amount (kept_goods fees) u) c.self.view_is;
    }

pub loop-row-preserved : goal.loop-row-preserved
loop-row-preserved c = next_row (c.args.id.now, None) _ c.loop-row.row-index _ c.loop-row-test.true c.row-item.is (sym c.is_of.ensures ∙ c.if-is_of.false) c.loop-row.invariant

pub returns : goal.returns
returns c =
    let u : Unit = (c.args.id.now, None) in
    let none = no_row u _ c.loop-row.row-index c.loop-row-test.false c.loop-row.invariant in
    record {
      total = sym none ∙ ap (λ (fees : List Fee). unwrap_or (find unit_cmp u fees) 0) c.as_slice-row-items.ensures.value
          ∙ sym (kept_at c.self.inside.rows.items u c.self.invariant.0) ∙ ap (λ (fees : List Fee). amount (kept_goods fees) u) c.self.view_is;
    }
