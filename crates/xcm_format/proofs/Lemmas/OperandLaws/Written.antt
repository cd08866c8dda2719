-- A response that has a spelling in a version can be written in it.
use Rattle.operands.specs.declared.version.Version.{Version}
use Rattle.asset_wire.proofs.Lemmas.Written.{assets_named}
use Rattle.operands.specs.declared.query.Response.{Response}
use Rattle.operands.specs.declared.query.Response.TheVariants as responses
use Rattle.xcm_format.specs.Parts.{FitsResponse}
use Rattle.xcm_format.specs.Writable.{IsResponseNamed}

pub response_named : (v : Version) (r : Response) → FitsResponse v r → IsResponseNamed v r
response_named v responses.Null fits = tt
response_named v (responses.Assets list) fits = assets_named v list fits
response_named v (responses.ExecutionResult failed) fits = tt
response_named v (responses.Version version) fits = tt
response_named v (responses.PalletsInfo pallets) fits = tt
response_named v (responses.DispatchResult status) fits = tt
