-- The checking account of a row, changed.
use Rattle.std.proofs.Common.{◌≡◌, ℕ, zero, suc, ◌<◌, ◌≤◌, Bool, true, false, if◌then◌else◌, List, [], ◌∷◌, length, get_or, set, refl, sym, ap, ◌∙◌, arith}
use Rattle.std.specs.Prelude.{Option, None, Some, position}
use Rattle.std.specs.List.{AllByRecursion}
use Rattle.std.specs.Option.{option_map}
use Rattle.std.proofs.lemmas.List.Quantifiers.{position-Some}
use Rattle.plain_lists.proofs.Lemmas.Firsts.{passes_none}
use Rattle.asset_lists.specs.declared.units.Asset.{Asset}
use Rattle.asset_lists.specs.Units.{amount_of}
use Rattle.trust_tables.specs.declared.rows.AssetRow.{AssetRow}
use Rattle.trust_tables.specs.Trust.{is_row_of}
use Rattle.exec_base.specs.Host.{changed_rows}
use Rattle.chain_state.proofs.ListRows.{some_row}

pub set_same : {A : Type 0} (xs : List A) (k : ℕ) (x : A) → k < length xs → x ≡ get_or xs k x → set xs k x ≡ xs
set_same [] k x inside at = absurd (omega (arith, inside))
set_same (y ∷ ys) zero x inside at = ap (λ z. z ∷ ys) at
set_same (y ∷ ys) (suc k) x inside at = ap (λ zs. y ∷ zs) (set_same ys k x (omega (arith, inside)) at)

module _ (f : ℕ → ℕ → ℕ) (a : Asset) where
  changed_here : (b : Bool) (c : Option ℕ) (rest others : List (Option ℕ)) → List (Option ℕ)
  changed_here b c rest others = if b then option_map (λ (n : ℕ). f n (amount_of a)) c ∷ rest else c ∷ others

  none_changed : (rows : List AssetRow) (cs : List (Option ℕ)) → AllByRecursion (λ r. is_row_of a r ≡ false) rows → changed_rows f a rows cs ≡ cs
  unfolding changed_here
  none_changed [] cs none = refl
  none_changed (row ∷ rows) [] none = refl
  none_changed (row ∷ rows) (c ∷ cs) none = ap (λ b. changed_here b c cs (changed_rows f a rows cs)) none.0 ∙ ap (λ ds. c ∷ ds) (none_changed rows cs none.1)

  -- no row, nothing is changed
  pub no_row : (rows : List AssetRow) (cs : List (Option ℕ)) → position (is_row_of a) rows ≡ None → changed_rows f a rows cs ≡ cs
  no_row rows cs none = none_changed rows cs (passes_none (is_row_of a) rows none)

  earlier : (row : AssetRow) (rows : List AssetRow) (k : ℕ) → ((j : ℕ) → j < suc k → is_row_of a (get_or (row ∷ rows) j some_row) ≡ false)
      → (is_row_of a row ≡ false) × ((j : ℕ) → j < k → is_row_of a (get_or rows j some_row) ≡ false)
  earlier row rows k none = (none 0 (omega arith), λ j lt. none (suc j) (omega (arith, lt)))

  past_at : (rows : List AssetRow) (cs : List (Option ℕ)) (k : ℕ) → k < length rows → ((j : ℕ) → j < k → is_row_of a (get_or rows j some_row) ≡ false) → length cs ≤ k → changed_rows f a rows cs ≡ cs
  unfolding changed_here
  past_at [] cs k inside none past = absurd (omega (arith, inside))
  past_at (row ∷ rows) [] k inside none past = refl
  past_at (row ∷ rows) (c ∷ cs) zero inside none past = absurd (omega (arith, past))
  past_at (row ∷ rows) (c ∷ cs) (suc k) inside none past =
      let e = earlier row rows k none in
      ap (λ b. changed_here b c cs (changed_rows f a rows cs)) e.0 ∙ ap (λ ds. c ∷ ds) (past_at rows cs k (omega (arith, inside)) e.1 (omega (arith, past)))

  -- a row that isn't in the list
  pub past_row : (rows : List AssetRow) (cs : List (Option ℕ)) (k : ℕ) → position (is_row_of a) rows ≡ Some k → length cs ≤ k → changed_rows f a rows cs ≡ cs
  past_row rows cs k at past = let first = position-Some (is_row_of a) rows k some_row at in past_at rows cs k first.0 first.2 past

  set_at : (rows : List AssetRow) (cs : List (Option ℕ)) (k : ℕ) (c : Option ℕ) → k < length rows → is_row_of a (get_or rows k some_row) ≡ true → ((j : ℕ) → j < k → is_row_of a (get_or rows j some_row) ≡ false)
      → k < length cs → get_or cs k None ≡ c → set cs k (option_map (λ (n : ℕ). f n (amount_of a)) c) ≡ changed_rows f a rows cs
  unfolding changed_here
  set_at [] cs k c inside here none within at = absurd (omega (arith, inside))
  set_at (row ∷ rows) [] k c inside here none within at = absurd (omega (arith, within))
  set_at (row ∷ rows) (d ∷ cs) zero c inside here none within at =
      sym (ap (λ b. changed_here b d cs (changed_rows f a rows cs)) here ∙ ap (λ x. option_map (λ (n : ℕ). f n (amount_of a)) x ∷ cs) at)
  set_at (row ∷ rows) (d ∷ cs) (suc k) c inside here none within at =
      let e = earlier row rows k none in
      ap (λ ds. d ∷ ds) (set_at rows cs k c (omega (arith, inside)) here e.1 (omega (arith, within)) at)
      ∙ sym (ap (λ b. changed_here b d cs (changed_rows f a rows cs)) e.0)

  -- the row's own
  pub set_row : (rows : List AssetRow) (cs : List (Option ℕ)) (k : ℕ) (c : Option ℕ) → position (is_row_of a) rows ≡ Some k → k < length cs → get_or cs k None ≡ c
      → set cs k (option_map (λ (n : ℕ). f n (amount_of a)) c) ≡ changed_rows f a rows cs
  set_row rows cs k c at within is = let first = position-Some (is_row_of a) rows k some_row at in set_at rows cs k c first.0 first.1 first.2 within is
