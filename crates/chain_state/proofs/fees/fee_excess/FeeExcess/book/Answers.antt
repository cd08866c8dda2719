use Rattle.std.proofs.Common.{◌≡◌, ℕ, true, sym, ap, ◌∙◌, subst}
use Rattle.amounts.specs.Amounts.{single}
use Rattle.asset_lists.specs.Units.{Unit}
use Rattle.asset_lists.specs.Listed.{listed_of, lists}
use Rattle.asset_bundles.specs.declared.book.Cause.{Cause}
use Rattle.asset_bundles.specs.Books.{Booked}
use Rattle.chain_state.proofs.fees.fee_excess.FeeExcess.book.Goals as goal

pub book_wide-requires : goal.book_wide-requires
book_wide-requires c = record { listed = subst (λ (r : Unit × ℕ). lists c.args.book.now.listed (listed_of r.0) ≡ true) (sym c.self.view_is) c.requires.listed }

pub returns : goal.returns
returns c = c.book_wide.ensures ∙ ap (λ (r : Unit × ℕ). Booked c.args.book.now (single (listed_of r.0, Cause.Saturated) r.1)) c.self.view_is
