use Rattle.std.proofs.Common.{rules}
use Rattle.versioned_xcm.proofs.Lemmas.HeadLaws.HeadLaws.{is_head_read, is_empty_read}
use Rattle.versioned_xcm.proofs.heads.read_head.Goals as goal

pub returns-clause-spelling : goal.returns-clause-spelling
returns-clause-spelling c = is_head_read c.args.v c.settle.result _ _ (search rules) (search rules)

pub returns-clause-empty : goal.returns-clause-empty
returns-clause-empty c = is_empty_read c.args.v c.settle.result c.args.c.now c.settle.new.self (search rules)
