use Rattle.test_execution.proofs.Reports.{report_forwardable}
use Rattle.test_execution.proofs.sending_rows.report.Goals as goal

pub respond-requires : goal.respond-requires
respond-requires c = record { forwardable = report_forwardable (record { destination = c.para.result; query_id = 5; max_weight = record { ref_time = 0; proof_size = 0 } }) }
