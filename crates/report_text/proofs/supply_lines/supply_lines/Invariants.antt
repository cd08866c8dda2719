use Rattle.std.proofs.Common.{◌≡◌, map}
use Rattle.chain_state.specs.PartOf.{part_of}
use Rattle.report_text.specs.Sheets.{kept_supply}
use Rattle.report_text.proofs.supply_lines.supply_lines.Given as goal

abbrev pub invariant-loop-entry : goal.invariant-loop-entry
invariant-loop-entry l = record {
  chains : l.reader.chains.now ≡ l.chains;
  lines : l.lines.items ≡ map (kept_supply (map part_of l.chains)) l.yielded;
}
