use Rattle.std.proofs.Common.{◌∙◌, List, ap, get_or, map, arith}
use Rattle.chain_state.specs.declared.state.ChainState.{ChainState}
use Rattle.chain_state.specs.PartOf.{part_of}
use Rattle.report_text.specs.Sheets.{renewed_supply}
use Rattle.chain_state.proofs.Lemmas.Mapped.{one_more, all_mapped}
use Rattle.report_text.proofs.supply_lines.renew_supplies.Goals as goal

pub loop-line-preserved : goal.loop-line-preserved
loop-line-preserved c =
    let parts = map part_of c.args.chains.now in
    let chains = c.loop-line.invariant.chains in
    let line = c.in_ok-renew.ensures.line ∙ ap (λ (cs : List ChainState). renewed_supply c.args.stale.now (map part_of cs) (get_or c.loop-line.lines c.loop-line.line-index c.line-item.result)) chains in
    record {
      chains = c.renew.ensures.chains ∙ chains;
      lines = one_more (renewed_supply c.args.stale.now parts) c.args.lines.now c.loop-line.lines c.loop-line.line-index c.line-item.result c.renew.new.self
          (omega (arith, c.loop-line-test.true)) c.loop-line.invariant.lines line;
    }

pub returns : goal.returns
returns c =
    c.loop-line.invariant.lines ∙ all_mapped (renewed_supply c.args.stale.now (map part_of c.args.chains.now)) c.args.lines.now c.loop-line.line-index (omega (arith, c.loop-line-test.false))
