use Rattle.xcm_format.proofs.Lemmas.OperandLaws.FieldLaws.{weight_reads, weight_limit_reads, origin_kind_reads, error_reads, failure_reads, optional_failure_reads, optional_location_reads, bytes_reads_most, maybe_error_reads, pallet_info_reads, query_info_reads, response_reads}
use Rattle.xcm_format.proofs.operand_laws.law_of_readers.Goals as goal

pub returns : goal.returns
returns c = record {
  weight = weight_reads;
  weight_limit = weight_limit_reads;
  origin_kind = origin_kind_reads;
  error = error_reads;
  failure = failure_reads;
  optional_failure = optional_failure_reads;
  optional_location = optional_location_reads;
  bytes = bytes_reads_most;
  maybe_error = maybe_error_reads;
  pallet_info = pallet_info_reads;
  query_info = query_info_reads;
  response = response_reads;
}
