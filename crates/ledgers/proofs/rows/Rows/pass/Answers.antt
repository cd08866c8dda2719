use Rattle.std.proofs.Common.{List, sym, ap, ◌∙◌, arith}
use Rattle.asset_lists.specs.Listed.{Listed, listed_of}
use Rattle.asset_lists.specs.Units.{unit_of, amount_of, instance_in}
use Rattle.amounts.specs.Amounts.{amount, minus}
use Rattle.ledgers.specs.Ledgers.{Holder, Held, number_in}
use Rattle.ledgers.specs.RowState.{rows_held}
use Rattle.ledgers.proofs.RowChanges.{held_listed}
use Rattle.ledgers.proofs.Passing.{none_left, still_enough, given_then_taken}
use Rattle.ledgers.proofs.rows.Rows.pass.Goals as goal

pub unreachable-requires : goal.unreachable-requires
unreachable-requires c =
    let r = c.args.self.now in
    let none = none_left c.number.result c.in_default.not-Some in
    let nothing = held_listed r.assets r.amounts.entries r.owners.entries r.sums.items c.requires.sound c.args.from.now c.args.asset.now.id (instance_in c.args.asset.now.fun) (sym c.number.ensures ∙ none) in
    omega (arith, nothing, c.requires.some, c.requires.enough)

pub take_at-requires-clause-number : goal.take_at-requires-clause-number
take_at-requires-clause-number c = c.in-Some.ensures ∙ ap (λ (l : List Listed). number_in l (listed_of (unit_of c.args.asset.now))) (sym c.put_at.ensures.assets)

pub take_at-requires-clause-enough : goal.take_at-requires-clause-enough
take_at-requires-clause-enough c =
    let a = c.args.asset.now in
    let same = ap (λ (h : Held). amount h (c.args.from.now, unit_of a)) c.in_ok-put_at.ensures.held in
    let more = still_enough (rows_held c.args.self.now) (c.args.to.now, unit_of a) (c.args.from.now, unit_of a) (amount_of a) in
    omega (arith, same, more, c.requires.enough)

pub returns-then-not-take_at-clause-held : goal.returns-then-not-take_at-clause-held
returns-then-not-take_at-clause-held c =
    let a = c.args.asset.now in
    c.take_at.ensures.held ∙ ap (λ (h : Held). minus h (c.args.from.now, unit_of a) (amount_of a)) c.in_ok-put_at.ensures.held
    ∙ given_then_taken (rows_held c.args.self.now) (c.args.to.now, unit_of a) (c.args.from.now, unit_of a) (amount_of a) (λ e. c.requires.others (ap (λ (h : Holder). h.0) e))

pub returns : goal.returns
returns c =
    let a = c.args.asset.now in
    record {
      sound = c.sweep_at.ensures.sound;
      assets = c.sweep_at.ensures.assets ∙ c.take_at.ensures.stay.assets ∙ c.put_at.ensures.assets;
      held = c.sweep_at.ensures.held ∙ c.take_at.ensures.held ∙ ap (λ (h : Held). minus h (c.args.from.now, unit_of a) (amount_of a)) c.in_ok-put_at.ensures.held
          ∙ given_then_taken (rows_held c.args.self.now) (c.args.to.now, unit_of a) (c.args.from.now, unit_of a) (amount_of a) (λ e. c.requires.others (ap (λ (h : Holder). h.0) e));
      kept = tt;
    }
