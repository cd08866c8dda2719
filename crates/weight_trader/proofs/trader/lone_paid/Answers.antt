use Rattle.std.proofs.Common.{◌+◌, List, ◌∷◌, drop, sym, ap, ◌∙◌}
use Rattle.std.specs.List.{list_any}
use Rattle.std.proofs.lemmas.List.{take_rest}
use Rattle.asset_lists.specs.declared.units.Asset.{Asset}
use Rattle.weight_trader.specs.Closing.{coins, is_paid}
use Rattle.weight_trader.proofs.Lone.{paid_nowhere, none_paid, paid_after, paid_twice}
use Rattle.weight_trader.proofs.trader.lone_paid.Goals as goal

pub returns-in_default : goal.returns-in_default
returns-in_default c = paid_nowhere c.args.lines.now (sym c.in_default.ensures)

pub returns-then-is_any_paid : goal.returns-then-is_any_paid
returns-then-is_any_paid c =
    let rest = ap (list_any is_paid) (take_rest c.args.lines.now (c.in-Some.first + 1)) in
    paid_twice c.args.lines.now c.in-Some.first (sym c.in-Some.ensures) (sym rest ∙ sym c.is_any_paid.ensures ∙ c.if-is_any_paid.true)

pub returns : goal.returns
returns c =
    let line = c.index-lines-first.result in
    let rest = ap (list_any is_paid) (take_rest c.args.lines.now (c.in-Some.first + 1)) in
    paid_after c.args.lines.now c.in-Some.first line (sym c.in-Some.ensures) c.index-lines-first.is
    ∙ ap (λ (xs : List Asset). coins line.rate line.paid ∷ xs) (none_paid (drop (c.in-Some.first + 1) c.args.lines.now) (sym rest ∙ sym c.is_any_paid.ensures ∙ c.if-is_any_paid.false))
