use Rattle.scale_codec.specs.Spelling.{optional}
use Rattle.scale_codec.proofs.Lemmas.ReadLaws.{prefix_free}
use Rattle.location_wire.specs.Spelling.{location}
use Rattle.xcm_format.specs.Parts.{weight, weight_limit, origin_kind, xcm_error, failure, bytes, maybe_error, pallet_info, query_info, response}
use Rattle.xcm_format.proofs.Lemmas.OperandLaws.FieldLaws.{weight_reads, weight_limit_reads, origin_kind_reads, error_reads, failure_reads, optional_failure_reads, optional_location_reads, bytes_reads_most, maybe_error_reads, pallet_info_reads, query_info_reads, response_reads}
use Rattle.xcm_format.proofs.operand_laws.law_of_no_prefix.Goals as goal

pub returns : goal.returns
returns c = record {
  weight = prefix_free weight _ _ weight_reads;
  weight_limit = prefix_free weight_limit _ _ weight_limit_reads;
  origin_kind = prefix_free origin_kind _ _ origin_kind_reads;
  error = prefix_free xcm_error _ _ error_reads;
  failure = prefix_free failure _ _ failure_reads;
  optional_failure = prefix_free (optional failure) _ _ optional_failure_reads;
  optional_location = prefix_free (optional location) _ _ optional_location_reads;
  bytes = λ most few. prefix_free bytes _ _ (bytes_reads_most most few);
  maybe_error = prefix_free maybe_error _ _ maybe_error_reads;
  pallet_info = prefix_free pallet_info _ _ pallet_info_reads;
  query_info = prefix_free query_info _ _ query_info_reads;
  response = λ v. prefix_free (response v) _ _ (response_reads v);
}
