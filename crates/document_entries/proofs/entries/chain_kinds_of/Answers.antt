use Rattle.document_entries.specs.Forms.{is_chain_kind}
use Rattle.document_entries.proofs.Lists.{passed}
use Rattle.document_entries.proofs.entries.chain_kinds_of.Goals as goal

pub returns-then-not-are_chain_kinds : goal.returns-then-not-are_chain_kinds
returns-then-not-are_chain_kinds c = passed is_chain_kind c.args.place _ _ _ _ c.in_ok-items.ensures c.are_chain_kinds.ensures c.if-not-are_chain_kinds.true

pub returns : goal.returns
returns c = passed is_chain_kind c.args.place _ _ _ _ c.in_ok-items.ensures c.are_chain_kinds.ensures c.if-not-are_chain_kinds.false
