use Rattle.document_entries.specs.Forms.{is_whole}
use Rattle.document_entries.proofs.Lists.{passed}
use Rattle.document_entries.proofs.entries.wholes_of.Goals as goal

pub returns-then-not-are_whole : goal.returns-then-not-are_whole
returns-then-not-are_whole c = passed is_whole c.args.place _ _ _ _ c.in_ok-items.ensures c.are_whole.ensures c.if-not-are_whole.true

pub returns : goal.returns
returns c = passed is_whole c.args.place _ _ _ _ c.in_ok-items.ensures c.are_whole.ensures c.if-not-are_whole.false
