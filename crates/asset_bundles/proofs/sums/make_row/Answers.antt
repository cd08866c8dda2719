use Rattle.std.proofs.Common.{◌≡◌, [], ◌∷◌, ◌++◌, sym, ap, ◌∙◌}
use Rattle.std.specs.List.{position}
use Rattle.asset_lists.specs.Units.{unit_of}
use Rattle.asset_lists.specs.Listed.{listed_of, lists}
use Rattle.asset_bundles.specs.Sums.{SumRow, is_row, keys_in, sum_at}
use Rattle.asset_bundles.proofs.SumRows.{found_listed, sum_pushed, pushed_listed}
use Rattle.asset_bundles.proofs.sums.make_row.Goals as goal

pub returns-in-Some-clause-listed : goal.returns-in-Some-clause-listed
returns-in-Some-clause-listed c =
    let key : (c.args.asset.now.id, c.kind.result) ≡ listed_of (unit_of c.args.asset.now) = ap (λ kind. (c.args.asset.now.id, kind)) c.kind.ensures in
    ap (lists (keys_in c.args.rows.now.items)) (sym key)
    ∙ found_listed (c.args.asset.now.id, c.kind.result) c.args.rows.now.items c.in-Some.field-0 (sym (c.in-Some.ensures ∙ ap (position (is_row (c.args.asset.now.id, c.kind.result))) c.as_slice.ensures.value))

pub returns-in_ok-push-in-None-clause-same : goal.returns-in_ok-push-in-None-clause-same
returns-in_ok-push-in-None-clause-same c = λ k.
    ap (sum_at k) c.in_ok-push-in-None.ensures.items ∙ sum_pushed k c.args.rows.now.items c.none_of.result (ap (λ (r : SumRow). r.1) c.none_of.ensures)

pub returns-in_ok-push-in-None-clause-listed : goal.returns-in_ok-push-in-None-clause-listed
returns-in_ok-push-in-None-clause-listed c =
    ap (λ rows. lists (keys_in rows) (listed_of (unit_of c.args.asset.now))) c.in_ok-push-in-None.ensures.items
    ∙ ap (λ k. lists (keys_in (c.args.rows.now.items ++ c.none_of.result ∷ [])) k) (sym (ap (λ (r : SumRow). r.0) c.none_of.ensures)) ∙ pushed_listed c.args.rows.now.items c.none_of.result
