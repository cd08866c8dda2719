use Rattle.std.proofs.Common.{None, sym, ap, ◌∙◌, subst, arith}
use Rattle.std.specs.Prelude.{IsSome}
use Rattle.amounts.specs.Amounts.{amount}
use Rattle.asset_lists.specs.declared.units.AssetId.{AssetId}
use Rattle.asset_lists.specs.declared.units.Kind.{Kind}
use Rattle.ledgers.specs.Ledgers.{Accounts, Held, number_in}
use Rattle.ledgers.specs.RowState.{rows_held}
use Rattle.ledgers.proofs.Exchanging.{less_there, listed_still, row_still}
use Rattle.ledgers.proofs.ledger.Ledger.exchange.Goals as goal

pub give-requires-clause-listed : goal.give-requires-clause-listed
give-requires-clause-listed c =
    let was = ap (λ (l : Accounts). amount l.held (c.args.who.now, (c.args.into.now, None))) c.self.view_is in
    subst (λ (id : AssetId). IsSome (number_in c.take.new.self.assets (id, Kind.Fungible))) (sym c.copy-2.ensures)
    (listed_still c.self.inside.rows c.take.new.self c.self.invariant c.take.ensures.stay c.args.who.now c.args.into.now (omega (arith, was, c.requires.there)))

pub give-requires-clause-room : goal.give-requires-clause-room
give-requires-clause-room c n at =
    let was = ap (λ (l : Accounts). amount l.held (c.args.who.now, (c.args.into.now, None))) c.self.view_is in (
      row_still c.self.inside.rows c.take.new.self c.self.invariant c.take.ensures.stay c.args.who.now c.args.into.now (omega (arith, was, c.requires.there)) n
          (ap (λ (id : AssetId). number_in c.take.new.self.assets (id, Kind.Fungible)) (sym c.copy-2.ensures) ∙ at),
      tt,
    )

pub give-requires-clause-may : goal.give-requires-clause-may
give-requires-clause-may c =
    let was = ap (λ (l : Accounts). amount l.held (c.args.who.now, (c.args.into.now, None))) c.self.view_is in
    let same = ap (λ (id : AssetId). amount (rows_held c.take.new.self) (c.args.who.now, (id, None))) c.copy-2.ensures in
    let taken = ap (λ (h : Held). amount h (c.args.who.now, (c.args.into.now, None))) c.take.ensures.held in
    let fewer = less_there (rows_held c.self.inside.rows) (c.args.who.now, (c.copy.result, None)) (c.args.who.now, (c.args.into.now, None)) c.args.less in
    omega (arith, was, same, taken, fewer, c.requires.room)
