use Rattle.scale_codec.proofs.Lemmas.ReadLaws.{one_spelling, prefix_free}
use Rattle.call_dispatch.specs.Spelling.{call, FitsCall}
use Rattle.call_dispatch.proofs.Lemmas.FieldLaws.{call_reads}
use Rattle.call_dispatch.proofs.Lemmas.CallLaws.{call_again}
use Rattle.call_dispatch.proofs.laws.law_of_spelled_calls.Goals as goal

pub returns : goal.returns
returns c = record {
  reads = call_reads;
  one = one_spelling call FitsCall;
  no_prefix = prefix_free call _ _ call_reads;
  again = call_again;
}
