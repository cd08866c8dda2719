use Rattle.std.proofs.Common.{◌≡◌, true, false, sym, ap, ◌∙◌, subst, arith}
use Rattle.std.specs.List.{list_all}
use Rattle.std.proofs.lemmas.Bool.{and_parts}
use Rattle.amounts.specs.Amounts.{amount, minus, plus_all}
use Rattle.asset_lists.specs.Units.{unit_of, amount_of}
use Rattle.asset_lists.specs.Lists.{is_rising, has_zero}
use Rattle.asset_lists.specs.Listed.{listed_of, lists}
use Rattle.ledgers.specs.Ledgers.{Holder, Held}
use Rattle.ledgers.specs.RowState.{rows_held}
use Rattle.ledgers.specs.AccountRows.{account_rows, MayTakeAll}
use Rattle.ledgers.proofs.AccountMoves.{number_there, none_zero, may_later, once_first, rising_rest, plus_first, plus_none}
use Rattle.ledgers.proofs.Passing.{no_first, empty_list, given_there, taken_back}
use Rattle.ledgers.proofs.list_moves.+put_short.Goals as goal

pub returns-in_default-clause-held : goal.returns-in_default-clause-held
returns-in_default-clause-held t c =
    let none = empty_list c.args.list.now (no_first c.split_first.result _ _ c.split_first.ensures.cases c.in_default.not-Some) in
    sym (ap (λ ys. plus_all (rows_held c.args.rows.now) (account_rows c.args.who.now ys)) none ∙ plus_none _)

pub put-requires-clause-listed : goal.put-requires-clause-listed
put-requires-clause-listed t c =
    let assets = c.args.rows.now.assets in
    let all = subst (λ ys. list_all (λ a. lists assets (listed_of (unit_of a))) ys ≡ true) c.in-Some.ensures.cases.0 c.requires.listed in
    number_there assets (listed_of (unit_of c.in-Some.first.now)) (and_parts (lists assets (listed_of (unit_of c.in-Some.first.now))) _ all).0

pub put_short-requires : goal.put_short-requires
put_short-requires t c =
    let held = rows_held c.args.rows.now in
    let who = c.args.who.now in
    let first = c.in-Some.first.now in
    let others = c.in-Some.others.now in
    let cut = c.in-Some.ensures.cases.0 in
    let rising = subst (λ ys. is_rising ys ≡ true) cut c.requires.once in
    let all = subst (λ ys. list_all (λ a. lists c.args.rows.now.assets (listed_of (unit_of a))) ys ≡ true) cut c.requires.listed in (
      omega (arith, c.in-Some.ensures.cases.1),
      (
        c.put.ensures.sound,
        (
          subst (λ l. list_all (λ a. lists l (listed_of (unit_of a))) others ≡ true) (sym c.put.ensures.assets) (and_parts (lists c.args.rows.now.assets (listed_of (unit_of first))) _ all).1,
          (
            subst (λ h. MayTakeAll h who others) (sym c.in_ok-put.ensures.held) (may_later held who (unit_of first) (amount_of first) others (once_first first others rising) (subst (MayTakeAll held who) cut c.requires.may).1),
            ((none_zero first others (subst (λ ys. has_zero ys ≡ false) cut c.requires.no_zero)).1, rising_rest first others rising),
          ),
        ),
      ),
    )

pub take-requires-clause-enough : goal.take-requires-clause-enough
take-requires-clause-enough t c =
    let first = c.in-Some.first.now in
    let back = ap (λ (h : Held). amount h (c.args.who.now, unit_of first)) (c.in-Err.ensures.kept ∙ c.in_ok-put.ensures.held) in
    let there = given_there (rows_held c.args.rows.now) (c.args.who.now, unit_of first) (amount_of first) in
    omega (arith, back, there)

pub returns-in-Ok-clause-held : goal.returns-in-Ok-clause-held
returns-in-Ok-clause-held t c =
    let who = c.args.who.now in
    let first = c.in-Some.first.now in
    let others = c.in-Some.others.now in
    c.in-Ok.ensures.held ∙ ap (λ h. plus_all h (account_rows who others)) c.in_ok-put.ensures.held ∙ sym (plus_first (rows_held c.args.rows.now) who first others)
    ∙ ap (λ ys. plus_all (rows_held c.args.rows.now) (account_rows who ys)) (sym c.in-Some.ensures.cases.0)

pub returns-in-Err-clause-kept : goal.returns-in-Err-clause-kept
returns-in-Err-clause-kept t c =
    let k : Holder = (c.args.who.now, unit_of c.in-Some.first.now) in
    c.take.ensures.held ∙ ap (λ (h : Held). minus h k (amount_of c.in-Some.first.now)) (c.in-Err.ensures.kept ∙ c.in_ok-put.ensures.held)
    ∙ taken_back (rows_held c.args.rows.now) k (amount_of c.in-Some.first.now)
