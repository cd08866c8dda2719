use Rattle.std.proofs.Common.{◌≡◌, ◌∙◌, ap, Ok}
use Rattle.chain_net.specs.Nets.{world_of, spec_of}
use Rattle.report_blocks.specs.Blocks.{step_lines}
use Rattle.xcm_cli.specs.Pieces.{step_of_block}
use Rattle.xcm_cli.proofs.Pieces.{pieces_as, then_pieces, fails_there, refused_there}
use Rattle.xcm_cli.proofs.long_blocks.write_below.Goals as goal

pub returns-in-Ok-None-clause-written : goal.returns-in-Ok-None-clause-written
returns-in-Ok-None-clause-written g c =
    then_pieces _ _ _ _ _ _ _ _ _ _ (pieces_as _ _ _ _ _ _ _ (ap (λ n. step_lines (spec_of n) (world_of n) (step_of_block c.args.block)) c.net.ensures) c.write_lines.ensures)
    (c.in-Ok-None.is ∙ ap Ok c.in-Ok-None.field-0-is) c.write_audit.ensures.written

pub returns-in-Ok-Some-clause-written : goal.returns-in-Ok-Some-clause-written
returns-in-Ok-Some-clause-written g c =
    fails_there _ _ _ _ _ _ _ _ (pieces_as _ _ _ _ _ _ _ (ap (λ n. step_lines (spec_of n) (world_of n) (step_of_block c.args.block)) c.net.ensures) c.write_lines.ensures)
    (c.in-Ok-Some.is ∙ ap Ok c.in-Ok-Some.field-0-is)

pub returns-in-Err-clause-written : goal.returns-in-Err-clause-written
returns-in-Err-clause-written g c =
    refused_there _ _ _ _ _ _ _ _ (pieces_as _ _ _ _ _ _ _ (ap (λ n. step_lines (spec_of n) (world_of n) (step_of_block c.args.block)) c.net.ensures) c.write_lines.ensures)
