use Rattle.std.proofs.Common.{arith}
use Rattle.test_codec.proofs.Examples.{clears_writable}
use Rattle.test_codec.proofs.messages.message_of_clears.Goals as goal

pub encode_message-requires : goal.encode_message-requires
encode_message-requires c = clears_writable _ _ c.in_ok-program.ensures.0 (omega (arith, c.in_ok-program.ensures.1))
