use Rattle.std.proofs.Common.{ap, ◌∙◌}
use Rattle.operands.specs.declared.query.Response.TheVariants as response
use Rattle.xcm_program.specs.Conversions.{have_concrete_ids}
use Rattle.exec_transfers.proofs.Forwarding.{report_forwardable}
use Rattle.exec_transfers.proofs.reports.report_assets.Goals as goal

pub report-requires : goal.report-requires
report-requires g c = record { forwardable = report_forwardable c.args.info.now (response.Assets c.in-Ok.list) c.args.r.now.origin (ap have_concrete_ids c.in-Ok.ensures.0 ∙ c.requires.tellable.places) }
