-- What all rows pass.
use Rattle.std.proofs.Common.{zero, suc}
