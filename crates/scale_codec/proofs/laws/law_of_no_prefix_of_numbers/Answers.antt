use Rattle.std.proofs.Common.{arith, ◌^◌}
use Rattle.scale_codec.specs.Spelling.{fixed, compact, measured}
use Rattle.scale_codec.specs.Reading.{fixed_at, take_at}
use Rattle.scale_codec.proofs.Lemmas.NumberLaws.{fixed_reads, bytes_reads}
use Rattle.scale_codec.proofs.Lemmas.Compact.{below_reads, c32}
use Rattle.scale_codec.proofs.Lemmas.Schemes.{measured_reads}
use Rattle.scale_codec.proofs.Lemmas.ReadLaws.{prefix_free}
use Rattle.scale_codec.proofs.laws.law_of_no_prefix_of_numbers.Goals as goal

pub returns-clause-fixed : goal.returns-clause-fixed
returns-clause-fixed c = λ k. prefix_free (fixed k) _ (fixed_at k) (fixed_reads k)

pub returns-clause-compact : goal.returns-clause-compact
returns-clause-compact c = prefix_free compact _ _ (below_reads (2 ^ 128) (omega arith))

pub returns-clause-taken : goal.returns-clause-taken
returns-clause-taken c = λ n. prefix_free (λ x. x) _ (take_at n) (bytes_reads n)

pub returns-clause-measured : goal.returns-clause-measured
returns-clause-measured c = prefix_free (measured compact) _ _ (measured_reads compact _ _ c32)
