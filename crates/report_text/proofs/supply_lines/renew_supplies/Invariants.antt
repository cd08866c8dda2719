use Rattle.std.proofs.Common.{◌≡◌, map}
use Rattle.chain_state.specs.PartOf.{part_of}
use Rattle.report_text.specs.Sheets.{renewed_supply}
use Rattle.chain_state.proofs.Lemmas.Mapped.{front_mapped}
use Rattle.report_text.proofs.supply_lines.renew_supplies.Given as goal

abbrev pub invariant-loop-line : goal.invariant-loop-line
invariant-loop-line l = record {
  chains : l.reader.chains.now ≡ l.chains;
  lines : l.lines ≡ front_mapped (renewed_supply l.stale (map part_of l.chains)) l.line-index l.fn.lines;
}
