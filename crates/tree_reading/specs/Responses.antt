-- Responses whose value is on the same row. Source: this project's own rule.
use Rattle.std.specs.Prelude.{ℕ, ◌<◌, ◌^◌, List, ◌++◌, IfSome}
use Rattle.operands.specs.declared.query.Response.{Response}
use Rattle.operands.specs.declared.query.Response.TheVariants.{ExecutionResult, Version, DispatchResult}
use Rattle.xcm_format.specs.Parts.{FitsFailure, FitsMaybeError}
use Rattle.message_text.specs.Fields.{response_name, response_value}

abbrev pub FitsValued : Response → Type 0
FitsValued (ExecutionResult failed) = IfSome failed FitsFailure
FitsValued (Version version) = version < 2 ^ 32
FitsValued (DispatchResult status) = FitsMaybeError status
FitsValued _ = ⊥

abbrev pub valued_text : Response → List ℕ
valued_text answer = response_name answer ++ response_value answer
