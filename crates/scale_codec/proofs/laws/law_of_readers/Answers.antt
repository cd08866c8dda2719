use Rattle.scale_codec.proofs.Lemmas.NumberLaws.{fixed_reads}
use Rattle.scale_codec.proofs.Lemmas.Compact.{below_reads}
use Rattle.scale_codec.proofs.laws.law_of_readers.Goals as goal

pub returns-clause-fixed : goal.returns-clause-fixed
returns-clause-fixed c = fixed_reads

pub returns-clause-compact : goal.returns-clause-compact
returns-clause-compact c = below_reads
