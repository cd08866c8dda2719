use Rattle.std.proofs.Common.{◌≡◌, ap, ◌∙◌, rules}
use Rattle.asset_bundles.specs.Totals.{total_value}
use Rattle.asset_bundles.specs.Sums.{SumRow, is_row}
use Rattle.asset_bundles.proofs.sums.AssetSum.is_of.Goals as goal

pub returns-then-eq : goal.returns-then-eq
returns-then-eq c =
    let row : SumRow = ((c.self.inside.id, c.self.inside.kind), total_value c.self.inside.sum) in
    let view : row ≡ c.args.self.now = c.self.view_is in
    let here : c.eq-then-eq.result ≡ is_row (c.args.id.now, c.args.kind) row = search rules in
    here ∙ ap (is_row (c.args.id.now, c.args.kind)) view

pub returns-else-eq : goal.returns-else-eq
returns-else-eq c =
    let row : SumRow = ((c.self.inside.id, c.self.inside.kind), total_value c.self.inside.sum) in
    let view : row ≡ c.args.self.now = c.self.view_is in
    let here : c.eq.result ≡ is_row (c.args.id.now, c.args.kind) row = search rules in
    here ∙ ap (is_row (c.args.id.now, c.args.kind)) view
