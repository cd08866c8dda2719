use Rattle.std.proofs.Common.{◌+◌, Bool, drop, ◌∙◌, ap, rules, tests}
use Rattle.std.proofs.lemmas.Iterator.{YieldsList-from_slice}
use Rattle.std.proofs.lemmas.Iterator.Adapters.{YieldsList-from_skip}
use Rattle.std.proofs.lemmas.Iterator.Consumers.{count_from_yields_List, YieldsList-at}
use Rattle.std.proofs.lemmas.Iterator.Search.{YieldsList-from_take_while}
use Rattle.std.proofs.lemmas.List.Folds.{length-prefix_len}
use Rattle.xcm_program.specs.declared.instruction.Instruction.{Instruction, out-Instruction}
use Rattle.barriers.specs.Barriers.{clears_origin}
use Rattle.barriers.proofs.paid.purchase_index.Goals as goal

abbrev clears : Instruction → Bool
clears i = clears_origin (out-Instruction i)

pub returns : goal.returns
returns c =
    let all = YieldsList-at c.take_while.ensures.source (YieldsList-from_skip 1 (YieldsList-from_slice c.args.program.now (cc)) c.skip.ensures.count) in
    ap (λ n. 1 + n)
    (count_from_yields_List c.take_while.result c.count-clears.result c.count-clears.ensures.ran (YieldsList-from_take_while _ clears all c.take_while.ensures.closure c.take_while.ensures.done (λ x b q k. search (rules, tests)))
    ∙ length-prefix_len clears (drop 1 c.args.program.now))
