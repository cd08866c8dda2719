use Rattle.xcm_compose.proofs.Judging.{decoded_begins, decoded_few, decoded_read, explains, undecoded}
use Rattle.xcm_compose.proofs.answer.explained.Goals as goal

pub bounds-bytes-0 : goal.bounds-bytes-0
bounds-bytes-0 c = decoded_begins _ _ c.in-Ok.ensures.message

pub headed_tree-requires : goal.headed_tree-requires
headed_tree-requires c = decoded_few _ _ c.in-Ok.ensures.message

pub returns-in-Ok-headed_tree : goal.returns-in-Ok-headed_tree
returns-in-Ok-headed_tree c = explains _ _ _ _ c.in-Ok.ensures.message (decoded_read _ _ c.decode_message.result c.decode_message.ensures.read c.in-Ok.is) c.in-Ok-headed_tree.ensures

pub returns : goal.returns
returns c = undecoded c.args.bytes.now c.in-Err.fault c.decode_message.result c.decode_message.ensures.read c.in-Err.is c.in_default.not-Memory c.law_of_round_trip.ensures
