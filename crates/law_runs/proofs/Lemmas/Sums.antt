-- Lemmas on the definitions of `specs/Sums.antt`: what proofs cite.
use Rattle.std.specs.Prelude.{◌≡◌, ℕ, ◌+◌, ◌≤◌, Bool, ◌&&◌, List, Option, Some}
use Rattle.amounts.specs.Amounts.{total}
use Rattle.asset_lists.specs.Units.{Unit}
use Rattle.asset_lists.specs.Listed.{Listed}
use Rattle.asset_bundles.specs.Bundles.{Bundle}
use Rattle.asset_bundles.specs.Books.{is_unit_where}
use Rattle.ledgers.specs.Ledgers.{Holder, is_account}
use Rattle.channel_parts.specs.declared.cargo.Cargo.TheVariants.{Nothing}
use Rattle.exec_base.specs.Part.{ChainPart}
use Rattle.law_runs.specs.Sums.{in_places, burned_where, Sum}

abbrev pub account_total : List ℕ → (Unit → Bool) → ChainPart → ℕ
account_total who t p = total (λ (h : Holder). is_account who h && t h.1) p.held

abbrev pub sum_of : Bundle → Sum
sum_of goods t = total t goods

abbrev pub with : Sum → Sum → Sum
with a b t = a t + b t

-- ---- a change of a chain

-- accounts that a change may lower: no account, or the one that is found
abbrev pub nobody : List ℕ → Type 0
nobody who = ⊥

abbrev pub only : Option (List ℕ) → List ℕ → Type 0
only o who = o ≡ Some who

-- what goes in is on the chain afterwards, but for what goes out and for what is gone; and what is gone is in the book
pub record Call (may : List ℕ → Type 0) (ins outs : Sum) (p q : ChainPart) : Type 0 where
  pub site : q.site ≡ p.site
  pub rows : q.rows ≡ p.rows
  pub channels : q.channels ≡ p.channels
  pub checking : q.checking ≡ p.checking
  pub cargo : p.cargo.cargo ≡ Nothing → q.cargo.cargo ≡ Nothing
  pub gone : Bundle
  pub amounts : (t : Unit → Bool) → in_places t q + (outs t + total t gone) ≡ in_places t p + ins t
  pub books : (test : Listed → Bool) → burned_where test q ≡ burned_where test p + total (is_unit_where test) gone
  pub accounts : (who : List ℕ) (t : Unit → Bool) → (may who → ⊥) → account_total who t p ≤ account_total who t q
