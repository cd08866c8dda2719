use Rattle.std.proofs.Common.{◌∙◌, ℕ, List, get_or, map, ap}
use Rattle.ledgers.specs.Ledgers.{Accounts, account_sum_of}
use Rattle.chain_state.specs.PartOf.{part_of}
use Rattle.supply_audit.proofs.Held.{held_in_row}
use Rattle.supply_audit.proofs.last_held.chain_amounts.Goals as goal

pub returns : goal.returns
returns c =
    let p = part_of c.args.chain.now in
    let who = c.args.who.now in
    λ row. ap (λ (xs : List ℕ). get_or xs row 0) (c.in_ok-amounts.ensures.sums ∙ ap (λ (l : Accounts). map (λ asset. account_sum_of who asset l.held) l.listed) c.ledger.ensures.ledger)
    ∙ held_in_row (λ asset. account_sum_of who asset p.held) p.rows row
