-- The lines of a record, one by one.
use Rattle.std.proofs.Common.{◌≡◌, ℕ, zero, suc, ◌+◌, ◌<◌, List, [], ◌∷◌, ◌++◌, length, get_or, set, take, drop, refl, sym, ap, ◌∙◌, add-one, arith}
use Rattle.std.proofs.lemmas.List.{take_all, drop_all, length-map, append-nil}
use Rattle.weight_trader.specs.declared.rate.Rate.{Rate}
use Rattle.weight_trader.specs.Purchases.{Line, new_line, new_lines}
use Rattle.weight_trader.specs.Refunds.{Closed}
use Rattle.weight_trader.proofs.Changes.{made_more}

pub line_more : (rates : List Rate) (k : ℕ) (rate : Rate) (line : Line) (done more whole : List Line) → k < length rates → rate ≡ get_or rates k rate → line ≡ new_line rate → more ≡ done ++ line ∷ []
    → done ++ new_lines (drop k rates) ≡ whole → more ++ new_lines (drop (k + 1) rates) ≡ whole
line_more rates k rate line done more whole lt at is grown so_far =
    made_more new_lines (λ r. new_line r ∷ []) (λ x xs. refl) rates k rate done more whole lt at (grown ∙ ap (λ l. done ++ l ∷ []) is) so_far

-- a line that is closed leaves what closing makes of the record as it was
pub closed_set : (lines : List Line) (k : ℕ) (line d : Line) → line ≡ new_line (get_or lines k d).rate → Closed (set lines k line) ≡ Closed lines
closed_set [] k line d is = refl
closed_set (l ∷ ls) zero line d is = ap (λ (r : Line). new_line r.rate ∷ Closed ls) is
closed_set (l ∷ ls) (suc k) line d is = ap (λ ys. new_line l.rate ∷ ys) (closed_set ls k line d is)

closed_suc : (lines : List Line) (k : ℕ) (line : Line) → k < length lines → line ≡ new_line line.rate → Closed (take k lines) ≡ take k lines → Closed (take (suc k) (set lines k line)) ≡ take (suc k) (set lines k line)
closed_suc [] k line lt is so_far = absurd (omega (arith, lt))
closed_suc (l ∷ ls) zero line lt is so_far = ap (λ (r : Line). r ∷ []) (sym is)
closed_suc (l ∷ ls) (suc k) line lt is so_far =
    let head : new_line l.rate ≡ l = cc in
    let tail : Closed (take k ls) ≡ take k ls = cc in
    ap (λ (r : Line). r ∷ Closed (take (suc k) (set ls k line))) head ∙ ap (λ ys. l ∷ ys) (closed_suc ls k line (omega (arith, lt)) is tail)

pub closed_more : (lines : List Line) (k : ℕ) (line : Line) → k < length lines → line ≡ new_line line.rate → Closed (take k lines) ≡ take k lines → Closed (take (k + 1) (set lines k line)) ≡ take (k + 1) (set lines k line)
closed_more lines k line lt is so_far = rw add-one (closed_suc lines k line lt is so_far)

-- what a `Vec` holds after its slice was closed in place
pub closed_whole : (lines closed : List Line) (n : ℕ) → closed ≡ Closed lines → n ≡ length lines → take n (closed ++ drop (length closed) lines) ≡ Closed lines
closed_whole lines closed n is size =
    let long : length closed ≡ length lines = ap length is ∙ length-map lines (λ (line : Line). new_line line.rate) in
    ap (λ ys. take n (closed ++ ys)) (drop_all (length closed) lines (omega (arith, long)))
    ∙ ap (λ ys. take n ys) (append-nil closed) ∙ take_all n closed (omega (arith, long, size)) ∙ is
