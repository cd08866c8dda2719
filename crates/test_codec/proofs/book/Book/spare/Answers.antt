use Rattle.std.proofs.Common.{arith}
use Rattle.test_codec.specs.Laws.{floors_low}
use Rattle.test_codec.proofs.book.Book.spare.Goals as goal

pub overflow_sub-result : goal.overflow_sub-result
overflow_sub-result c =
    let low = floors_low c.args.self.now.amounts.entries c.args.self.now.keeper c.args.self.now.floor c.args.self.now.kept (c.args.who.now, c.args.row) in
    omega (arith, low, c.amount.ensures, c.floor_of.ensures)
