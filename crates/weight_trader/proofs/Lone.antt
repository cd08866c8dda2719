-- The one line at which something is paid.
use Rattle.std.proofs.Common.{◌≡◌, ◌≢◌, ℕ, zero, suc, ◌+◌, ◌<◌, true, false, ◌||◌, List, [], ◌∷◌, length, get_or, drop, Some, None, refl, sym, ap, ◌∙◌, arith, true≢false, add-one}
use Rattle.std.specs.Prelude.{if◌then◌else◌}
use Rattle.std.specs.List.{position, list_any, AllByRecursion}
use Rattle.std.proofs.lemmas.List.Quantifiers.{position-Some}
use Rattle.asset_lists.specs.declared.units.Asset.{Asset}
use Rattle.plain_lists.proofs.Lemmas.Firsts.{passes_none}
use Rattle.weight_trader.specs.Purchases.{Line}
use Rattle.weight_trader.specs.Closing.{coins, is_paid, paid_assets}

nothing_paid : (lines : List Line) → AllByRecursion (λ line. is_paid line ≡ false) lines → paid_assets lines ≡ []
nothing_paid [] all = refl
nothing_paid (l ∷ ls) all = ap (λ b. if b then coins l.rate l.paid ∷ paid_assets ls else paid_assets ls) all.0 ∙ nothing_paid ls all.1

pub paid_nowhere : (lines : List Line) → position is_paid lines ≡ None → length (paid_assets lines) ≢ 1
paid_nowhere lines none once = (let no = ap length (nothing_paid lines (passes_none is_paid lines none)) in absurd (omega (arith, no, once)))

pub none_paid : (lines : List Line) → list_any is_paid lines ≡ false → paid_assets lines ≡ []
none_paid [] none = refl
none_paid (l ∷ ls) none =
    elim (is_paid l) as (λ b. is_paid l ≡ b → (b || list_any is_paid ls) ≡ false → (if b then coins l.rate l.paid ∷ paid_assets ls else paid_assets ls) ≡ []) [
      | true ↦ λ e h. absurd (true≢false h)
      | false ↦ λ e h. none_paid ls h
    ] refl none

some_paid : (lines : List Line) → list_any is_paid lines ≡ true → length (paid_assets lines) ≢ 0
some_paid [] some none = true≢false (sym some)
some_paid (l ∷ ls) some none =
    elim (is_paid l) as (λ b. is_paid l ≡ b → (b || list_any is_paid ls) ≡ true → length (if b then coins l.rate l.paid ∷ paid_assets ls else paid_assets ls) ≡ 0 → ⊥) [
      | true ↦ λ e h n. absurd (omega (arith, n))
      | false ↦ λ e h n. some_paid ls h n
    ] refl some none

first_paid : (lines : List Line) (k : ℕ) (d : Line) → is_paid (get_or lines k d) ≡ true → ((j : ℕ) → j < k → is_paid (get_or lines j d) ≡ false) → k < length lines
    → paid_assets lines ≡ coins (get_or lines k d).rate (get_or lines k d).paid ∷ paid_assets (drop (suc k) lines)
first_paid [] k d here none lt = absurd (omega (arith, lt))
first_paid (l ∷ ls) zero d here none lt = ap (λ b. if b then coins l.rate l.paid ∷ paid_assets ls else paid_assets ls) here
first_paid (l ∷ ls) (suc k) d here none lt =
    ap (λ b. if b then coins l.rate l.paid ∷ paid_assets ls else paid_assets ls) (none 0 (omega arith))
    ∙ first_paid ls k d here (λ j below. none (suc j) (omega (arith, below))) (omega (arith, lt))

-- what is paid from the first line on at which something is
pub paid_after : (lines : List Line) (k : ℕ) (x : Line) → position is_paid lines ≡ Some k → x ≡ get_or lines k x → paid_assets lines ≡ coins x.rate x.paid ∷ paid_assets (drop (k + 1) lines)
paid_after lines k x found at =
    let first = position-Some is_paid lines k x found in
    rw add-one (first_paid lines k x first.1 first.2 first.0 ∙ ap (λ (y : Line). coins y.rate y.paid ∷ paid_assets (drop (suc k) lines)) (sym at))

paid_behind : (lines : List Line) (k : ℕ) → position is_paid lines ≡ Some k → list_any is_paid (drop (suc k) lines) ≡ true → length (paid_assets lines) ≢ 1
paid_behind [] k found more once = absurd (omega (arith, once))
paid_behind (l ∷ ls) k found more once =
    let first = position-Some is_paid (l ∷ ls) k l found in
    some_paid (drop (suc k) (l ∷ ls)) more (let all = ap length (first_paid (l ∷ ls) k l first.1 first.2 first.0) in omega (arith, all, once))

pub paid_twice : (lines : List Line) (k : ℕ) → position is_paid lines ≡ Some k → list_any is_paid (drop (k + 1) lines) ≡ true → length (paid_assets lines) ≢ 1
paid_twice lines k found = rw add-one (paid_behind lines k found)
