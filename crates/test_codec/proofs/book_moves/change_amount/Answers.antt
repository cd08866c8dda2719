use Rattle.test_codec.proofs.Lemmas.{written, there}
use Rattle.test_codec.proofs.book_moves.change_amount.Goals as goal

pub returns : goal.returns
returns c = written _ _ (c.args.who.now, c.args.row) c.args.new c.in-Ok.ensures.updates.0

pub unreachable-requires : goal.unreachable-requires
unreachable-requires c = there _ (c.args.who.now, c.args.row) c.requires c.in-Err.ensures.absent
