use Rattle.document_entries.specs.Forms.{is_text}
use Rattle.document_entries.proofs.Lists.{passed}
use Rattle.document_entries.proofs.entries.texts_of.Goals as goal

pub returns-then-not-are_texts : goal.returns-then-not-are_texts
returns-then-not-are_texts c = passed is_text c.args.place _ _ _ _ c.in_ok-items.ensures c.are_texts.ensures c.if-not-are_texts.true

pub returns : goal.returns
returns c = passed is_text c.args.place _ _ _ _ c.in_ok-items.ensures c.are_texts.ensures c.if-not-are_texts.false
