use Rattle.xcm_explain.proofs.Decoded.{decoded_begins, decoded_few}
use Rattle.xcm_explain.proofs.block.message_block.Goals as goal

pub bounds-bytes-0 : goal.bounds-bytes-0
bounds-bytes-0 c = decoded_begins _ _ c.in-Ok.ensures.message

pub message_tree-requires : goal.message_tree-requires
message_tree-requires c = decoded_few _ _ c.in-Ok.ensures.message
