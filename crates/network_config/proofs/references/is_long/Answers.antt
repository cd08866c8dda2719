use Rattle.std.proofs.Common.{◌≡◌, ◌+◌, length, ap, arith}
use Rattle.std.specs.Prelude.{nat_lt}
use Rattle.locations.specs.Chains.{path_of}
use Rattle.trust_tables.specs.Chains.{path_of_site}
use Rattle.network_config.proofs.Paths.{path_length}
use Rattle.network_config.proofs.references.is_long.Goals as goal

pub returns : goal.returns
returns c =
    let context = path_of_site (record { network = c.args.network; chain = c.args.here }) in
    let below : length c.items-below.result.now ≡ length c.args.id.now.interior = ap length c.items-below.ensures.value in
    let levels : c.levels_of-levels.result ≡ length context = c.levels_of-levels.ensures.levels in
    let same : c.saturating_sub.result + length c.items-below.result.now ≡ length (path_of context c.args.id.now) =
    omega (arith, path_length context c.args.id.now, below, levels, c.saturating_sub.ensures) in
    ap (nat_lt 8) same
