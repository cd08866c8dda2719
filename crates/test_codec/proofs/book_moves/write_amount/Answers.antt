use Rattle.test_codec.proofs.Lemmas.{written}
use Rattle.test_codec.proofs.book_moves.write_amount.Goals as goal

pub returns-clause-ok : goal.returns-clause-ok
returns-clause-ok c = written _ _ (c.args.who.now, c.args.row) c.args.amount c.in_ok-insert.ensures.updates.0
