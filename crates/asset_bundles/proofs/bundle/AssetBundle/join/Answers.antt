use Rattle.std.proofs.Common.{◌≡◌, true, [], ap, sym, subst, ◌∙◌}
use Rattle.std.specs.List.{list_all}
use Rattle.amounts.specs.Rows.{rows_at}
use Rattle.amounts.specs.Amounts.{from_rows}
use Rattle.asset_lists.specs.Units.{unit_of}
use Rattle.asset_lists.specs.Listed.{listed_of, lists}
use Rattle.asset_bundles.specs.Bundles.{bundle_of, rows_of}
use Rattle.asset_bundles.specs.Books.{Booked, AreListed}
use Rattle.asset_bundles.specs.Joins.{Excess, IsListOf}
use Rattle.asset_bundles.specs.Portions.{AreWithinMost}
use Rattle.asset_bundles.proofs.Lemmas.BundleLaws.{none_held}
use Rattle.asset_bundles.proofs.Whole.{no_items, joined_to_none, none_above}
use Rattle.asset_bundles.proofs.BookedAll.{all_listed, excess_of, given_up_rows}
use Rattle.asset_bundles.proofs.SumFacts.{joined_at, excess_at}
use Rattle.asset_bundles.proofs.bundle.AssetBundle.join.Goals as goal

pub book_excess-requires-in-Ok : goal.book_excess-requires-in-Ok
book_excess-requires-in-Ok c =
    let above : IsListOf (Excess c.args.self.now c.args.other) c.in-Ok.above.items =
    excess_at _ _ _ _ _ c.in-Ok.ensures.above (ap bundle_of c.as_slice-4.ensures.value ∙ c.self.view_is) (ap bundle_of c.as_slice-5.ensures.value ∙ c.other.view_is) in
    subst (λ xs. list_all (λ a. lists c.args.book.now.listed (listed_of (unit_of a))) xs ≡ true) (sym c.as_slice-in-Ok.ensures.value)
    (all_listed c.args.book.now c.in-Ok.above.items above.holding (subst (AreListed c.args.book.now.listed) (sym above.bundle) c.requires))

pub invariant_of-self : goal.invariant_of-self
invariant_of-self c = c.other.invariant

pub invariant_of-self-in-Ok : goal.invariant_of-self-in-Ok
invariant_of-self-in-Ok c = c.in-Ok.ensures.kept.holding

pub returns-then-is_empty-clause-joined : goal.returns-then-is_empty-clause-joined
returns-then-is_empty-clause-joined c =
    let none : c.self.inside.items.items ≡ [] = no_items _ c.self.inside.items.items c.self.inside.items.ok.0 (sym c.is_empty.ensures ∙ c.if-is_empty.true) in
    joined_to_none c.self.inside.items.items c.other.inside.items.items c.args.self.now c.args.other none c.self.view_is c.other.invariant (subst AreWithinMost c.as_slice.ensures.value c.amounts_fit.ensures) c.other.view_is

pub returns-then-is_empty-clause-booked : goal.returns-then-is_empty-clause-booked
returns-then-is_empty-clause-booked c =
    let none : c.self.inside.items.items ≡ [] = no_items _ c.self.inside.items.items c.self.inside.items.ok.0 (sym c.is_empty.ensures ∙ c.if-is_empty.true) in
    c.book_excess.ensures ∙ ap (Booked c.args.book.now) (given_up_rows c.args.self.now c.args.other [] none_held
    (none_above c.self.inside.items.items c.other.inside.items.items c.args.self.now c.args.other none c.self.view_is c.other.invariant (subst AreWithinMost c.as_slice.ensures.value c.amounts_fit.ensures) c.other.view_is))

pub returns-then-grows-clause-booked : goal.returns-then-grows-clause-booked
returns-then-grows-clause-booked c =
    let above : IsListOf (Excess c.args.self.now c.args.other) [] =
    excess_at _ _ _ _ _ (c.grows.ensures.above c.if-grows.true) (ap bundle_of c.as_slice-2.ensures.value ∙ c.self.view_is) (ap bundle_of c.as_slice-3.ensures.value ∙ c.other.view_is) in
    c.book_excess-then-grows.ensures ∙ ap (Booked c.args.book.now) (given_up_rows c.args.self.now c.args.other [] above.holding above.bundle)

pub returns-in-Ok-clause-joined : goal.returns-in-Ok-clause-joined
returns-in-Ok-clause-joined c =
    (joined_at _ _ _ _ _ c.in-Ok.ensures.kept (ap bundle_of c.as_slice-4.ensures.value ∙ c.self.view_is) (ap bundle_of c.as_slice-5.ensures.value ∙ c.other.view_is)).bundle

pub returns-in-Ok-clause-booked : goal.returns-in-Ok-clause-booked
returns-in-Ok-clause-booked c =
    let above : IsListOf (Excess c.args.self.now c.args.other) c.in-Ok.above.items =
    excess_at _ _ _ _ _ c.in-Ok.ensures.above (ap bundle_of c.as_slice-4.ensures.value ∙ c.self.view_is) (ap bundle_of c.as_slice-5.ensures.value ∙ c.other.view_is) in
    c.book_excess-in-Ok.ensures ∙ ap (λ xs. Booked c.args.book.now (from_rows (rows_at excess_of (rows_of xs)))) c.as_slice-in-Ok.ensures.value
    ∙ ap (Booked c.args.book.now) (given_up_rows c.args.self.now c.args.other c.in-Ok.above.items above.holding above.bundle)
