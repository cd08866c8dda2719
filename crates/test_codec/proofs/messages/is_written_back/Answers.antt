use Rattle.test_codec.proofs.Examples.{decoded_writable}
use Rattle.test_codec.proofs.messages.is_written_back.Goals as goal

pub encode_message-requires : goal.encode_message-requires
encode_message-requires c = decoded_writable _ _ _ c.in_ok-program.ensures.message
