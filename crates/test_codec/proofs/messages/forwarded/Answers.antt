use Rattle.std.proofs.Common.{rules}
use Rattle.test_codec.proofs.Examples.{decoded_forwarded}
use Rattle.test_codec.proofs.messages.forwarded.Goals as goal

pub encode_forwarded-requires : goal.encode_forwarded-requires
encode_forwarded-requires c =
    decoded_forwarded c.args.v _ _ c.in_ok-front.front c.in_ok-program.program c.index-items-0.result (search rules) (search rules) c.in_ok-front.ensures.message c.in_ok-program.ensures.message
