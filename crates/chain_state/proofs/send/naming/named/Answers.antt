use Rattle.std.proofs.Common.{◌≡◌, Vec, Global, sym, ap, ◌∙◌}
use Rattle.std.specs.Prelude.{None, Some}
use Rattle.asset_lists.specs.declared.units.Asset.{Asset}
use Rattle.asset_lists.specs.Lists.{is_rising}
use Rattle.asset_lists.specs.Moves.{all_reanchored}
use Rattle.chain_state.proofs.NamedLists.{none_named, named_is, twice_named, rising_named}
use Rattle.chain_state.proofs.QueryLists.{at_some}
use Rattle.chain_state.proofs.send.naming.named.Goals as goal
use Rattle.plain_lists.proofs.Lemmas.Facts.{at_none}

pub returns-in_default : goal.returns-in_default
returns-in_default c =
    none_named c.args.target.now c.args.context.now c.args.list.now
    (at_none (λ (all : Vec Asset Global). all_reanchored c.args.target.now c.args.context.now c.args.list.now ≡ Some all.items) c.in_ok-all.field-0 c.in_default.not-Some c.in_ok-all.ensures)

pub returns-then-is_rising : goal.returns-then-is_rising
returns-then-is_rising c =
    rising_named c.args.target.now c.args.context.now c.args.list.now c.in-Some.all.items
    (sym (c.is_rising.ensures ∙ ap is_rising c.as_slice.ensures.value) ∙ c.if-is_rising.true)
    (at_some (all_reanchored c.args.target.now c.args.context.now c.args.list.now ≡ None) (λ (all : Vec Asset Global). all_reanchored c.args.target.now c.args.context.now c.args.list.now ≡ Some all.items) c.in_ok-all.field-0 c.in-Some.all c.in-Some.is c.in_ok-all.ensures)

pub returns-then-is_rising-2 : goal.returns-then-is_rising-2
returns-then-is_rising-2 c =
    named_is c.args.target.now c.args.context.now c.args.list.now c.in-Some.all.items c.sort_unstable.new.self.items
    (at_some (all_reanchored c.args.target.now c.args.context.now c.args.list.now ≡ None) (λ (all : Vec Asset Global). all_reanchored c.args.target.now c.args.context.now c.args.list.now ≡ Some all.items) c.in_ok-all.field-0 c.in-Some.all c.in-Some.is c.in_ok-all.ensures)
    c.sort_unstable.ensures.permutation (sym (c.is_rising-2.ensures ∙ ap is_rising c.as_slice-2.ensures.value) ∙ c.if-is_rising-2.true)

pub returns : goal.returns
returns c =
    twice_named c.args.target.now c.args.context.now c.args.list.now c.in-Some.all.items c.sort_unstable.new.self.items
    (at_some (all_reanchored c.args.target.now c.args.context.now c.args.list.now ≡ None) (λ (all : Vec Asset Global). all_reanchored c.args.target.now c.args.context.now c.args.list.now ≡ Some all.items) c.in_ok-all.field-0 c.in-Some.all c.in-Some.is c.in_ok-all.ensures)
    c.sort_unstable.ensures.permutation c.sort_unstable.ensures.sorted (sym (c.is_rising-2.ensures ∙ ap is_rising c.as_slice-2.ensures.value) ∙ c.if-is_rising-2.false)
