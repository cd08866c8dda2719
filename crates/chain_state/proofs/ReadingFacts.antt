-- A row's sum, and the row of an id, one after the other.
use Rattle.std.proofs.Common.{◌≡◌, ℕ, ◌+◌, ◌-◌, ◌*◌, ◌^◌, ◌<◌, ◌≤◌, min, true, false, if◌then◌else◌, List, length, get_or, drop, Some, refl, sym, ap, ◌∙◌, arith, add-one, drop-cons}
use Rattle.std.specs.Prelude.{unwrap_or}
use Rattle.std.specs.Ordering.{eq_by_cmp}
use Rattle.std.specs.FinMap.{find}
use Rattle.std.proofs.lemmas.List.{drop_all}
use Rattle.asset_lists.specs.Units.{Unit, unit_cmp}
use Rattle.asset_bundles.specs.Books.{most_burned}
use Rattle.chain_state.specs.Fees.{Fee}

room_is : (n more most : ℕ) → n ≤ most → min (n + more) most ≡ n + min more (most - n)
room_is n more most fits = omega (arith, fits)

total_fits : (high low : ℕ) → high < 2 ^ 32 → low < 2 ^ 128 → high * 2 ^ 128 + low ≤ most_burned
total_fits high low above below = omega (arith, above, below)

-- a sum with more
pub raised_sum : (high low more : ℕ) → high < 2 ^ 32 → low < 2 ^ 128 → min (high * 2 ^ 128 + low + more) most_burned ≡ high * 2 ^ 128 + low + min more (most_burned - (high * 2 ^ 128 + low))
raised_sum high low more above below = room_is (high * 2 ^ 128 + low) more most_burned (total_fits high low above below)

-- what is found from an index on
module _ (u : Unit) (fees : List Fee) where
  abbrev pub Left : ℕ → Type 0
  Left i = find unit_cmp u fees ≡ find unit_cmp u (drop i fees)

  first_left : (k : ℕ) (fee : Fee) → k < length fees → fee ≡ get_or fees k fee → Left k → find unit_cmp u fees ≡ (if eq_by_cmp unit_cmp u fee.0 then Some fee.1 else find unit_cmp u (drop (k + 1) fees))
  first_left k fee inside at left =
      let here : find unit_cmp u (drop k fees) ≡ (if eq_by_cmp unit_cmp u (get_or fees k fee).0 then Some (get_or fees k fee).1 else find unit_cmp u (drop (k + 1) fees)) = rw (add-one, drop-cons fees k fee) refl in
      left ∙ here ∙ ap (λ (x : Fee). if eq_by_cmp unit_cmp u x.0 then Some x.1 else find unit_cmp u (drop (k + 1) fees)) (sym at)

  pub next_row : (k : ℕ) (fee : Fee) → k < length fees → fee ≡ get_or fees k fee → eq_by_cmp unit_cmp u fee.0 ≡ false → Left k → Left (k + 1)
  next_row k fee inside at other left = first_left k fee inside at left ∙ ap (λ b. if b then Some fee.1 else find unit_cmp u (drop (k + 1) fees)) other

  pub here_row : (k : ℕ) (fee : Fee) → k < length fees → fee ≡ get_or fees k fee → eq_by_cmp unit_cmp u fee.0 ≡ true → Left k → unwrap_or (find unit_cmp u fees) 0 ≡ fee.1
  here_row k fee inside at same left = ap (λ o. unwrap_or o 0) (first_left k fee inside at left ∙ ap (λ b. if b then Some fee.1 else find unit_cmp u (drop (k + 1) fees)) same)

  pub no_row : (k : ℕ) → length fees ≤ k → Left k → unwrap_or (find unit_cmp u fees) 0 ≡ 0
  no_row k past left = ap (λ o. unwrap_or o 0) (left ∙ ap (find unit_cmp u) (drop_all k fees past))
