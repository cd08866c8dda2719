use Rattle.std.proofs.Common.{◌≡◌, ◌∙◌, List}
use Rattle.std.specs.Prelude.{string_bytes}
use Rattle.std.proofs.lemmas.Result.{IfOk-weaker}
use Rattle.exec_base.specs.Part.{ChainPart}
use Rattle.report_text.specs.Block.{supply_block}
use Rattle.report_text.specs.Sheets.{IsWrittenOf, sheet_written}
use Rattle.report_text.proofs.Sheets.{sheet_text_is}
use Rattle.report_text.proofs.sheet.SupplySheet.text.Goals as goal

pub returns : goal.returns
returns c =
    IfOk-weaker c.lines.result (λ text. string_bytes text ≡ sheet_written c.args.self.now)
    (λ text. (parts : List ChainPart) → IsWrittenOf parts c.args.self.now → string_bytes text ≡ supply_block parts)
    (λ text is parts written. is ∙ sheet_text_is parts c.args.self.now written) c.lines.ensures
