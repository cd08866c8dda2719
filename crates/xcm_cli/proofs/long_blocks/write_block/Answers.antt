use Rattle.std.proofs.Common.{◌≡◌, ◌∙◌, ap, Ok}
use Rattle.chain_net.specs.Nets.{world_of, spec_of}
use Rattle.xcm_cli.proofs.Pieces.{pieces_as, then_pieces, fails_there, refused_there, block_is}
use Rattle.xcm_cli.proofs.long_blocks.write_block.Goals as goal

pub returns-in-Ok-None-clause-written : goal.returns-in-Ok-None-clause-written
returns-in-Ok-None-clause-written g c =
    pieces_as _ _ _ _ _ _ _ (block_is c.args.audit (spec_of c.args.net.now) (world_of c.args.net.now) c.args.number c.args.block)
    (then_pieces _ _ _ _ _ _ _ _ _ _ c.write_heading.ensures (c.in-Ok-None.is ∙ ap Ok c.in-Ok-None.field-0-is) c.write_below.ensures.written)

pub returns-in-Ok-Some-clause-written : goal.returns-in-Ok-Some-clause-written
returns-in-Ok-Some-clause-written g c =
    pieces_as _ _ _ _ _ _ _ (block_is c.args.audit (spec_of c.args.net.now) (world_of c.args.net.now) c.args.number c.args.block)
    (fails_there _ _ _ _ _ _ _ _ c.write_heading.ensures (c.in-Ok-Some.is ∙ ap Ok c.in-Ok-Some.field-0-is))

pub returns-in-Err-clause-written : goal.returns-in-Err-clause-written
returns-in-Err-clause-written g c =
    pieces_as _ _ _ _ _ _ _ (block_is c.args.audit (spec_of c.args.net.now) (world_of c.args.net.now) c.args.number c.args.block)
    (refused_there _ _ _ _ _ _ _ _ c.write_heading.ensures)
