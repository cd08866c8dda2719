use Rattle.test_codec.proofs.Examples.{trap_writable_so}
use Rattle.test_codec.proofs.messages.is_trap.Goals as goal

pub encode_message-requires : goal.encode_message-requires
encode_message-requires c = trap_writable_so _ _ _ c.in_ok-program.ensures
