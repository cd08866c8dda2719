-- The rates of a trader, and what is listed.
use Rattle.std.proofs.Common.{◌≡◌, Bool, true, false, ◌&&◌, if◌then◌else◌, List, [], ◌∷◌, refl, ap, ◌∙◌}
use Rattle.std.specs.Prelude.{Result, Ok, Err, OnOk, OnErr}
use Rattle.std.proofs.lemmas.Bool.{and_parts, and_from}
use Rattle.operands.specs.declared.weight.Weight.{Weight}
use Rattle.asset_lists.specs.Listed.{Listed}
use Rattle.plain_lists.specs.Firsts.{change_first}
use Rattle.asset_bundles.specs.Bundles.{Bundle}
use Rattle.weight_trader.specs.Purchases.{Line, new_line, is_covered, with_purchase, AreRatesListed, Bought}
use Rattle.weight_trader.specs.Refunds.{is_refunded, without_refund, Refunded, Closed}
use Rattle.weight_trader.proofs.Lemmas.ListedLaws.{bought_listed, refunded_listed, rate_kept}
use Rattle.network_steps.specs.Tests.{is_rate_listed, are_rates_listed}

pub each : (listed : List Listed) (lines : List Line) → are_rates_listed listed lines ≡ true → AreRatesListed listed lines
each listed [] h = tt
each listed (line ∷ lines) h = (let parts = and_parts (is_rate_listed listed line) (are_rates_listed listed lines) h in (parts.0, each listed lines parts.1))

pub all : (listed : List Listed) (lines : List Line) → AreRatesListed listed lines → are_rates_listed listed lines ≡ true
all listed [] h = refl
all listed (line ∷ lines) h = and_from _ _ h.0 (all listed lines h.1)

pub bought_rates : (w : Weight) (payment : Bundle) (listed : List Listed) (lines : List Line) → are_rates_listed listed lines ≡ true → are_rates_listed listed (Bought w payment lines) ≡ true
bought_rates w payment listed lines h = all listed (Bought w payment lines) (bought_listed w payment lines listed (each listed lines h))

pub refunded_rates : (w : Weight) (listed : List Listed) (lines : List Line) → are_rates_listed listed lines ≡ true → are_rates_listed listed (Refunded w lines) ≡ true
refunded_rates w listed lines h = all listed (Refunded w lines) (refunded_listed w lines listed (each listed lines h))

-- after a refund, or where it was refused memory
pub rates_after : {A E : Type 0} (w : Weight) (listed : List Listed) (lines after : List Line) (r : Result A E) → OnOk r (after ≡ Refunded w lines) → OnErr r (after ≡ lines) → are_rates_listed listed lines ≡ true → are_rates_listed listed after ≡ true
rates_after w listed lines after (Ok goods) done kept h = ap (are_rates_listed listed) done ∙ refunded_rates w listed lines h
rates_after w listed lines after (Err fault) done kept h = ap (are_rates_listed listed) kept ∙ h

-- ---- what closing makes of the lines

closed_changed : (p : Line → Bool) (f : Line → Line) → ((l : Line) → (f l).rate ≡ l.rate) → (lines : List Line) → Closed (change_first p f lines) ≡ Closed lines
closed_changed p f same [] = refl
closed_changed p f same (l ∷ ls) =
    elim (p l) as (λ b. Closed (if b then f l ∷ ls else l ∷ change_first p f ls) ≡ new_line l.rate ∷ Closed ls) [
      | true ↦ ap (λ r. new_line r ∷ Closed ls) (same l)
      | false ↦ ap (λ xs. new_line l.rate ∷ xs) (closed_changed p f same ls)
    ]

pub bought_closed : (w : Weight) (payment : Bundle) (lines : List Line) → Closed (Bought w payment lines) ≡ Closed lines
unfolding Bought
bought_closed w payment lines = closed_changed (is_covered w payment) (with_purchase w) (rate_kept w) lines

refunded_closed : (w : Weight) (lines : List Line) → Closed (Refunded w lines) ≡ Closed lines
unfolding Refunded
refunded_closed w lines = closed_changed (is_refunded w) (without_refund w) (λ l. refl) lines

pub closed_after : {A E : Type 0} (w : Weight) (lines after : List Line) (r : Result A E) → OnOk r (after ≡ Refunded w lines) → OnErr r (after ≡ lines) → Closed after ≡ Closed lines
closed_after w lines after (Ok goods) done kept = ap Closed done ∙ refunded_closed w lines
closed_after w lines after (Err fault) done kept = ap Closed kept

pub closed_twice : (lines : List Line) → Closed (Closed lines) ≡ Closed lines
closed_twice [] = refl
closed_twice (l ∷ ls) = ap (λ xs. new_line l.rate ∷ xs) (closed_twice ls)

pub closed_rates : (listed : List Listed) (lines : List Line) → are_rates_listed listed (Closed lines) ≡ are_rates_listed listed lines
closed_rates listed [] = refl
closed_rates listed (l ∷ ls) = ap (λ b. is_rate_listed listed l && b) (closed_rates listed ls)
