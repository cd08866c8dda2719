use Rattle.test_execution.proofs.Resting.{if_decoded}
use Rattle.test_execution.proofs.fake_chain.decoded.Goals as goal

pub returns : goal.returns
returns c = record { forwardable = if_decoded c.args.bytes.now c.decode_message.result c.decode_message.ensures.message c.law_of_writable.ensures.same }
