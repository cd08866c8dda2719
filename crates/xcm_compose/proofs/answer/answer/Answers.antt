use Rattle.std.proofs.Common.{◌<◌, length, arith}
use Rattle.std.proofs.lemmas.Bool.Decides.{nat_tests}
use Rattle.xcm_compose.proofs.Judging.{answers}
use Rattle.xcm_compose.proofs.answer.answer.Goals as goal

pub returns : goal.returns
returns c =
    let some : 0 < length c.args.tree.now = grind (arith, nat_tests) in
    answers _ _ some c.tree_answer.ensures
