-- The numbers of listed assets: indices in a list in which nothing is twice.
use Rattle.std.proofs.Common.{◌≡◌, ℕ, List, length, get_or, refl, sym, ap, ◌∙◌}
use Rattle.std.specs.Prelude.{None, Some, slice_get}
use Rattle.std.specs.Ordering.{eq_by_cmp}
use Rattle.std.specs.List.{position_or_len}
use Rattle.std.proofs.lemmas.List.Quantifiers.{position-Some}
use Rattle.std.proofs.lemmas.Option.{slice_get-get_or}
use Rattle.amounts.proofs.Lemmas.{same_key, key_same}
use Rattle.asset_lists.specs.Listed.{Listed, listed_cmp}
use Rattle.asset_bundles.proofs.Lemmas.{listed_keys}
use Rattle.ledgers.specs.Ledgers.{number_in}
use Rattle.ledgers.specs.LedgerRows.{IsOnce}
use Rattle.plain_lists.proofs.Lemmas.Facts.{found_some}
use Rattle.plain_lists.proofs.Lemmas.Firsts.{stands_within}

pub number_at : (listed : List Listed) (k : Listed) (n : ℕ) → number_in listed k ≡ Some n → slice_get listed n ≡ Some k
number_at listed k n is =
    let found = position-Some (eq_by_cmp listed_cmp k) listed n k is in
    slice_get-get_or listed n k found.0 ∙ ap Some (sym (key_same listed_keys k (get_or listed n k) found.1))

pub no_number : (listed : List Listed) (k : Listed) → number_in listed k ≡ None → (n : ℕ) → slice_get listed n ≡ Some k → ⊥
no_number listed k none n at =
    let found = found_some _ (length listed) (stands_within (eq_by_cmp listed_cmp k) listed n k at (same_key listed_keys k)) in
    let two : None ≡ Some (position_or_len (eq_by_cmp listed_cmp k) listed) = sym none ∙ found in absurd (cc)

pub at_number : (listed : List Listed) → IsOnce listed → (k : Listed) (n : ℕ) → slice_get listed n ≡ Some k → number_in listed k ≡ Some n
at_number listed once k n at =
    elim (number_in listed k) as (λ o. number_in listed k ≡ o → o ≡ Some n) [
      | None ↦ λ e. absurd (no_number listed k e n at)
      | Some m ↦ λ e. ap Some (once.place m n k (number_at listed k m e) at)
    ] refl

-- ---- what a test leaves
-- none, where it isn't some
