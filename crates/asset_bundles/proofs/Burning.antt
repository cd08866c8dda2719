-- Rows of the book, as the map that they are.
use Rattle.std.proofs.Common.{◌≡◌, ℕ, zero, suc, ◌+◌, ◌-◌, ◌<◌, ◌≤◌, min, Bool, true, false, ◌&&◌, ◌||◌, List, [], ◌∷◌, ◌++◌, length, get_or, take, drop, refl, sym, ap, ◌∙◌, subst, arith, add-one, drop-cons}
use Rattle.std.specs.Prelude.{if◌then◌else◌, unwrap_or, Option, Some, not, slice_set}
use Rattle.std.specs.List.{prefix_len}
use Rattle.std.specs.Ordering.{eq_by_cmp, is_eq, ordering_then, nat_cmp}
use Rattle.std.specs.declared.cmp.Ordering.{Ordering}
use Rattle.std.specs.declared.cmp.Ordering.TheVariants.{Less, Equal, Greater}
use Rattle.std.specs.Map.{lookup}
use Rattle.std.proofs.lemmas.List.{take_more}
use Rattle.std.proofs.lemmas.List.Sums.{prefix_len-drop_yes, prefix_len-drop_no}
use Rattle.std.specs.Cmp.{eq_by_cmp_equiv}
use Rattle.amounts.specs.Rows.{amount_if}
use Rattle.amounts.specs.Amounts.{amount, empty, single}
use Rattle.amounts.proofs.Lemmas.AmountLaws.{same_amounts, amount-empty}
use Rattle.amounts.proofs.Lemmas.{amount-single, key_same}
use Rattle.amounts.proofs.Lemmas.Entries.{amount-from_entries}
use Rattle.asset_bundles.specs.declared.book.Cause.{Cause}
use Rattle.asset_bundles.specs.declared.book.BookRow.{BookRow}
use Rattle.asset_bundles.specs.Totals.{total_value}
use Rattle.asset_bundles.specs.Books.{cause_index, burn_cmp, most_burned, Booked}
use Rattle.asset_lists.specs.Listed.{Listed, listed_cmp, lists}
use Rattle.asset_bundles.proofs.Lemmas.{burn_keys, listed_keys, same_books, listed-Booked, amount-Booked}
use Rattle.asset_bundles.specs.BookRows.{unburned_row, row_key, total_for, burn_entries_in, book_keys_in, book_of_rows, total_at, AreInRange, is_other_row, is_cause, IsBurned, CasesOf, IsBooked}
use Rattle.plain_lists.proofs.Lemmas.Facts.{equal_then as tie_both}

-- ---- what the book has at a key
at_entry : Cause → Ordering → Cause → ℕ → Option ℕ → Option ℕ
at_entry c o d n rest = if is_eq (ordering_then o (nat_cmp (cause_index c) (cause_index d))) then Some n else rest

four_entries : (c : Cause) (o : Ordering) (f : Cause → ℕ) (rest : Option ℕ)
    → at_entry c o Cause.BurnAsset (f Cause.BurnAsset) (at_entry c o Cause.LostTeleport (f Cause.LostTeleport) (at_entry c o Cause.Merged (f Cause.Merged) (at_entry c o Cause.Saturated (f Cause.Saturated) rest)))
    ≡ (if is_eq o then Some (f c) else rest)
unfolding at_entry
four_entries Cause.BurnAsset Less f rest = refl
four_entries Cause.BurnAsset Equal f rest = refl
four_entries Cause.BurnAsset Greater f rest = refl
four_entries Cause.LostTeleport Less f rest = refl
four_entries Cause.LostTeleport Equal f rest = refl
four_entries Cause.LostTeleport Greater f rest = refl
four_entries Cause.Merged Less f rest = refl
four_entries Cause.Merged Equal f rest = refl
four_entries Cause.Merged Greater f rest = refl
four_entries Cause.Saturated Less f rest = refl
four_entries Cause.Saturated Equal f rest = refl
four_entries Cause.Saturated Greater f rest = refl

if_some : (b : Bool) (n : ℕ) (rest : Option ℕ) → unwrap_or (if b then Some n else rest) 0 ≡ (if b then n else unwrap_or rest 0)
if_some true n rest = refl
if_some false n rest = refl

looked_up : (k : Listed) (c : Cause) (rs : List BookRow) → unwrap_or (lookup (eq_by_cmp burn_cmp (k, c)) (burn_entries_in rs)) 0 ≡ total_at k c rs
unfolding at_entry
looked_up k c [] = refl
looked_up k c (r ∷ rs) =
    ap (λ o. unwrap_or o 0) (four_entries c (listed_cmp k (row_key r)) (λ d. total_value (total_for d r)) (lookup (eq_by_cmp burn_cmp (k, c)) (burn_entries_in rs)))
    ∙ if_some (is_eq (listed_cmp k (row_key r))) (total_value (total_for c r)) (lookup (eq_by_cmp burn_cmp (k, c)) (burn_entries_in rs))
    ∙ ap (λ n. if is_eq (listed_cmp k (row_key r)) then total_value (total_for c r) else n) (looked_up k c rs)

pub amount-book : (k : Listed) (c : Cause) (rs : List BookRow) → amount (book_of_rows rs).burns (k, c) ≡ total_at k c rs
unfolding book_of_rows
amount-book k c rs = amount-from_entries burn_keys (burn_entries_in rs) (k, c) ∙ looked_up k c rs

-- ---- a new book

pub new_stands : (rs : List BookRow) → ((k : Listed) (c : Cause) → total_at k c rs ≡ 0) → AreInRange rs
new_stands rs new k c = let none = new k c in omega (arith, none)

pub new_empty : (rs : List BookRow) → ((k : Listed) (c : Cause) → total_at k c rs ≡ 0) → (book_of_rows rs).burns ≡ empty
new_empty rs new = same_amounts burn_keys _ _ (λ q. amount-book q.0 q.1 rs ∙ new q.0 q.1 ∙ sym (amount-empty burn_keys q))

pub keys-push : (rs : List BookRow) (r : BookRow) → book_keys_in (rs ++ r ∷ []) ≡ book_keys_in rs ++ row_key r ∷ []
keys-push [] r = refl
keys-push (x ∷ rs) r = ap (λ ks. row_key x ∷ ks) (keys-push rs r)

pub unburned_none : (k : Listed) (c : Cause) → total_value (total_for c (unburned_row k)) ≡ 0
unburned_none k Cause.BurnAsset = refl
unburned_none k Cause.LostTeleport = refl
unburned_none k Cause.Merged = refl
unburned_none k Cause.Saturated = refl

zero_either : (b : Bool) (m n : ℕ) → m ≡ 0 → n ≡ 0 → (if b then m else n) ≡ 0
zero_either true m n first second = first
zero_either false m n first second = second

zero_rest : (b : Bool) (m n : ℕ) → (if b then m else n) ≡ 0 → (b ≡ false → n ≡ 0)
zero_rest true m n h f = absurd (cc)
zero_rest false m n h f = h

pub new-push : (k : Listed) (c : Cause) (rs : List BookRow) (r : BookRow) → ((d : Cause) → total_value (total_for d r) ≡ 0) → total_at k c rs ≡ 0 → total_at k c (rs ++ r ∷ []) ≡ 0
new-push k c [] r none new = zero_either (eq_by_cmp listed_cmp k (row_key r)) (total_value (total_for c r)) 0 (none c) refl
new-push k c (x ∷ rs) r none new =
    elim (eq_by_cmp listed_cmp k (row_key x)) as (λ b. (if b then total_value (total_for c x) else total_at k c rs) ≡ 0 → (if b then total_value (total_for c x) else total_at k c (rs ++ r ∷ [])) ≡ 0) [
      | true ↦ λ h. h
      | false ↦ λ h. new-push k c rs r none h
    ] new

-- ---- one row after the other
at_row : (rs : List BookRow) (i : ℕ) (r : BookRow) → i < length rs → r ≡ get_or rs i r → drop i rs ≡ r ∷ drop (i + 1) rs
at_row rs i r inside is = drop-cons rs i r inside ∙ ap (λ x. x ∷ drop (suc i) rs) (sym is) ∙ ap (λ n. r ∷ drop n rs) (sym (add-one i))

past_rows : (rs : List BookRow) (i : ℕ) → length rs ≤ i → drop i rs ≡ []
past_rows [] zero all = refl
past_rows [] (suc i) all = refl
past_rows (x ∷ rs) zero all = absurd (omega (arith, all))
past_rows (x ∷ rs) (suc i) all = past_rows rs i (omega (arith, all))

pub total_next : (k : Listed) (c : Cause) (rs : List BookRow) (i : ℕ) (r : BookRow) → i < length rs → r ≡ get_or rs i r → eq_by_cmp listed_cmp k (row_key r) ≡ false
    → total_at k c rs ≡ total_at k c (drop i rs) → total_at k c rs ≡ total_at k c (drop (i + 1) rs)
total_next k c rs i r inside is other so_far =
    so_far ∙ ap (total_at k c) (at_row rs i r inside is) ∙ ap (λ b. if b then total_value (total_for c r) else total_at k c (drop (i + 1) rs)) other

pub total_here : (k : Listed) (c : Cause) (rs : List BookRow) (i : ℕ) (r : BookRow) → i < length rs → r ≡ get_or rs i r → eq_by_cmp listed_cmp k (row_key r) ≡ true
    → total_at k c rs ≡ total_at k c (drop i rs) → total_value (total_for c r) ≡ total_at k c rs
total_here k c rs i r inside is here so_far =
    sym (so_far ∙ ap (total_at k c) (at_row rs i r inside is) ∙ ap (λ b. if b then total_value (total_for c r) else total_at k c (drop (i + 1) rs)) here)

pub total_nowhere : (k : Listed) (c : Cause) (rs : List BookRow) (i : ℕ) → length rs ≤ i → total_at k c rs ≡ total_at k c (drop i rs) → 0 ≡ total_at k c rs
total_nowhere k c rs i all so_far = sym (so_far ∙ ap (total_at k c) (past_rows rs i all))

-- ---- one total that grows
in_row : (e i : Bool) (v w n end : ℕ) → (if e then (if i then min (v + n) end else v) else w) ≡ (if e && i then min ((if e then v else w) + n) end else (if e then v else w))
in_row true true v w n end = refl
in_row true false v w n end = refl
in_row false i v w n end = refl

not_here : (f i : Bool) (v n end : ℕ) → f ≡ false → v ≡ (if f && i then min (v + n) end else v)
not_here f i v n end off = ap (λ b. if b && i then min (v + n) end else v) (sym off)

turned : (j k : Listed) → eq_by_cmp listed_cmp j k ≡ eq_by_cmp listed_cmp k j
turned j k = (eq_by_cmp_equiv listed_keys.total).symm j k

booked_row : (k j : Listed) (cause c : Cause) (n : ℕ) (r s : BookRow) (rs : List BookRow) → row_key r ≡ k → IsBurned cause n r s
    → total_at j c (s ∷ rs) ≡ (if eq_by_cmp listed_cmp j k && is_cause c cause then min (total_at j c (r ∷ rs) + n) most_burned else total_at j c (r ∷ rs))
booked_row k j cause c n r s rs same burned =
    ap (λ x. if eq_by_cmp listed_cmp j x then total_value (total_for c s) else total_at j c rs) burned.key
    ∙ ap (λ v. if eq_by_cmp listed_cmp j (row_key r) then v else total_at j c rs) (burned.totals c)
    ∙ in_row (eq_by_cmp listed_cmp j (row_key r)) (is_cause c cause) (total_value (total_for c r)) (total_at j c rs) n most_burned
    ∙ ap (λ x. if eq_by_cmp listed_cmp j x && is_cause c cause then min (total_at j c (r ∷ rs) + n) most_burned else total_at j c (r ∷ rs)) same

other_row : (k j : Listed) (i : Bool) (n v end : ℕ) (r : BookRow) (t s : ℕ) → eq_by_cmp listed_cmp k (row_key r) ≡ false
    → t ≡ (if eq_by_cmp listed_cmp j k && i then min (s + n) end else s)
    → (if eq_by_cmp listed_cmp j (row_key r) then v else t)
    ≡ (if eq_by_cmp listed_cmp j k && i then min ((if eq_by_cmp listed_cmp j (row_key r) then v else s) + n) end else (if eq_by_cmp listed_cmp j (row_key r) then v else s))
other_row k j i n v end r t s other rest =
    elim (eq_by_cmp listed_cmp j (row_key r)) as (λ b. eq_by_cmp listed_cmp j (row_key r) ≡ b
    → (if b then v else t) ≡ (if eq_by_cmp listed_cmp j k && i then min ((if b then v else s) + n) end else (if b then v else s))) [
      | true ↦ λ e. not_here (eq_by_cmp listed_cmp j k) i v n end (turned j k ∙ ap (eq_by_cmp listed_cmp k) (key_same listed_keys j (row_key r) e) ∙ other)
      | false ↦ λ e. rest
    ] refl

pub booked_at : (k : Listed) (cause : Cause) (n : ℕ) (old new : List BookRow) → IsBooked k cause n old new → lists (book_keys_in old) k ≡ true → (j : Listed) (c : Cause)
    → total_at j c new ≡ (if eq_by_cmp listed_cmp j k && is_cause c cause then min (total_at j c old + n) most_burned else total_at j c old)
booked_at k cause n [] new booked listed j c = absurd (cc)
booked_at k cause n (r ∷ rs) [] booked listed j c = absurd booked
booked_at k cause n (r ∷ rs) (s ∷ ss) booked listed j c =
    elim (eq_by_cmp listed_cmp k (row_key r)) as (λ b. eq_by_cmp listed_cmp k (row_key r) ≡ b → (b || lists (book_keys_in rs) k) ≡ true
    → CasesOf b (IsBurned cause n r s × (ss ≡ rs)) ((s ≡ r) × IsBooked k cause n rs ss)
    → total_at j c (s ∷ ss) ≡ (if eq_by_cmp listed_cmp j k && is_cause c cause then min (total_at j c (r ∷ rs) + n) most_burned else total_at j c (r ∷ rs))) [
      | true ↦ λ e l h. ap (λ xs. total_at j c (s ∷ xs)) h.1 ∙ booked_row k j cause c n r s rs (sym (key_same listed_keys k (row_key r) e)) h.0
      | false ↦ λ e l h. ap (λ x. total_at j c (x ∷ ss)) h.0 ∙ other_row k j (is_cause c cause) n (total_value (total_for c r)) most_burned r (total_at j c ss) (total_at j c rs) e (booked_at k cause n rs ss h.1 l j c)
    ] refl listed booked

booked_keys : (k : Listed) (cause : Cause) (n : ℕ) (old new : List BookRow) → IsBooked k cause n old new → book_keys_in new ≡ book_keys_in old
booked_keys k cause n [] new booked = ap book_keys_in booked
booked_keys k cause n (r ∷ rs) [] booked = absurd booked
booked_keys k cause n (r ∷ rs) (s ∷ ss) booked =
    elim (eq_by_cmp listed_cmp k (row_key r)) as (λ b. CasesOf b (IsBurned cause n r s × (ss ≡ rs)) ((s ≡ r) × IsBooked k cause n rs ss) → book_keys_in (s ∷ ss) ≡ book_keys_in (r ∷ rs)) [
      | true ↦ λ h i. h.0.key i ∷ book_keys_in (h.1 i)
      | false ↦ λ h i. row_key (h.0 i) ∷ booked_keys k cause n rs ss h.1 i
    ] booked

at_end : (b : Bool) (t n end : ℕ) → t ≤ end → (if b then min (t + n) end else t) ≡ t + min (amount_if b n) (end - t)
at_end true t n end le = omega (arith, le)
at_end false t n end le = omega (arith, le)

end_kept : (b : Bool) (t n end : ℕ) → t ≤ end → (if b then min (t + n) end else t) ≤ end
end_kept true t n end le = omega arith
end_kept false t n end le = le

pub booked_stands : (k : Listed) (cause : Cause) (n : ℕ) (old new : List BookRow) → IsBooked k cause n old new → lists (book_keys_in old) k ≡ true → AreInRange old → AreInRange new
booked_stands k cause n old new booked listed stands j c =
    subst (λ t. t ≤ most_burned) (sym (booked_at k cause n old new booked listed j c)) (end_kept (eq_by_cmp listed_cmp j k && is_cause c cause) (total_at j c old) n most_burned (stands j c))

booked_burns : (k : Listed) (cause : Cause) (n : ℕ) (old new : List BookRow) → IsBooked k cause n old new → lists (book_keys_in old) k ≡ true → AreInRange old
    → (q : _) → amount (book_of_rows new).burns q ≡ amount (Booked (book_of_rows old) (single (k, cause) n)).burns q
booked_burns k cause n old new booked listed range q =
    amount-book q.0 q.1 new ∙ booked_at k cause n old new booked listed q.0 q.1
    ∙ at_end (eq_by_cmp listed_cmp q.0 k && is_cause q.1 cause) (total_at q.0 q.1 old) n most_burned (range q.0 q.1)
    ∙ ap (λ b. total_at q.0 q.1 old + min (amount_if b n) (most_burned - total_at q.0 q.1 old)) (sym (tie_both (listed_cmp q.0 k) (nat_cmp (cause_index q.1) (cause_index cause))))
    ∙ ap (λ t. t + min (amount_if (eq_by_cmp burn_cmp q (k, cause)) n) (most_burned - t)) (sym (amount-book q.0 q.1 old))
    ∙ ap (λ t. amount (book_of_rows old).burns q + min t (most_burned - amount (book_of_rows old).burns q)) (sym (amount-single burn_keys (k, cause) n q))
    ∙ sym (amount-Booked (book_of_rows old) (single (k, cause) n) q)

listed_rows : (rs : List BookRow) → (book_of_rows rs).listed ≡ book_keys_in rs
unfolding book_of_rows
listed_rows rs = refl

pub booked_is : (k : Listed) (cause : Cause) (n : ℕ) (old new : List BookRow) → IsBooked k cause n old new → lists (book_keys_in old) k ≡ true → AreInRange old
    → book_of_rows new ≡ Booked (book_of_rows old) (single (k, cause) n)
booked_is k cause n old new booked listed range =
    same_books _ _ (listed_rows new ∙ booked_keys k cause n old new booked ∙ sym (listed_rows old) ∙ sym (listed-Booked (book_of_rows old) (single (k, cause) n)))
    (booked_burns k cause n old new booked listed range)

-- ---- the index of a row
pub row_more : (k : Listed) (rs : List BookRow) (i : ℕ) (r : BookRow) → i < length rs → r ≡ get_or rs i r → is_other_row k r ≡ true
    → prefix_len (is_other_row k) rs ≡ i + prefix_len (is_other_row k) (drop i rs) → prefix_len (is_other_row k) rs ≡ (i + 1) + prefix_len (is_other_row k) (drop (i + 1) rs)
row_more k rs i r inside at_i other so_far =
    let next = prefix_len-drop_yes (is_other_row k) rs i r inside (ap (is_other_row k) (sym at_i) ∙ other) in
    omega (arith, so_far, next)

pub row_stops : (k : Listed) (rs : List BookRow) (i : ℕ) (r : BookRow) → i < length rs → r ≡ get_or rs i r → is_other_row k r ≡ false
    → prefix_len (is_other_row k) rs ≡ i + prefix_len (is_other_row k) (drop i rs) → i ≡ prefix_len (is_other_row k) rs
row_stops k rs i r inside at_i here so_far =
    let none = prefix_len-drop_no (is_other_row k) rs i r inside (ap (is_other_row k) (sym at_i) ∙ here) in
    omega (arith, so_far, none)

pub booked_nowhere : (k : Listed) (cause : Cause) (n : ℕ) (rs : List BookRow) → length rs ≤ prefix_len (is_other_row k) rs → IsBooked k cause n rs rs
booked_nowhere k cause n [] past = refl
booked_nowhere k cause n (r ∷ rs) past =
    elim (eq_by_cmp listed_cmp k (row_key r)) as (λ b. length (r ∷ rs) ≤ (if not b then 1 + prefix_len (is_other_row k) rs else 0)
    → CasesOf b (IsBurned cause n r r × (rs ≡ rs)) ((r ≡ r) × IsBooked k cause n rs rs)) [
      | true ↦ λ p. absurd (omega (arith, p))
      | false ↦ λ p. (refl, booked_nowhere k cause n rs (omega (arith, p)))
    ] past

pub booked_set : (k : Listed) (cause : Cause) (n : ℕ) (rs : List BookRow) (i : ℕ) (r s : BookRow) → i ≡ prefix_len (is_other_row k) rs → i < length rs → r ≡ get_or rs i r → IsBurned cause n r s
    → IsBooked k cause n rs (slice_set rs i s)
booked_set k cause n [] i r s place inside at_i burned = absurd (omega (arith, inside))
booked_set k cause n (x ∷ rs) zero r s place inside at_i burned =
    elim (eq_by_cmp listed_cmp k (row_key x)) as (λ b. 0 ≡ (if not b then 1 + prefix_len (is_other_row k) rs else 0)
    → CasesOf b (IsBurned cause n x s × (rs ≡ rs)) ((s ≡ x) × IsBooked k cause n rs rs)) [
      | true ↦ λ p. (subst (λ y. IsBurned cause n y s) at_i burned, refl)
      | false ↦ λ p. absurd (omega (arith, p))
    ] place
booked_set k cause n (x ∷ rs) (suc i) r s place inside at_i burned =
    elim (eq_by_cmp listed_cmp k (row_key x)) as (λ b. suc i ≡ (if not b then 1 + prefix_len (is_other_row k) rs else 0)
    → CasesOf b (IsBurned cause n x x × (slice_set rs i s ≡ rs)) ((x ≡ x) × IsBooked k cause n rs (slice_set rs i s))) [
      | true ↦ λ p. absurd (omega (arith, p))
      | false ↦ λ p. (refl, booked_set k cause n rs i r s (omega (arith, p)) (omega (arith, inside)) at_i burned)
    ] place

pub keys_more : (ks : List Listed) (i : ℕ) (k : Listed) (rs next : List BookRow) (r : BookRow) → i < length ks → k ≡ get_or ks i k → row_key r ≡ k → next ≡ rs ++ r ∷ []
    → book_keys_in rs ≡ take i ks → book_keys_in next ≡ take (i + 1) ks
keys_more ks i k rs next r inside is key pushed before =
    ap book_keys_in pushed ∙ keys-push rs r ∙ ap (λ x. book_keys_in rs ++ x ∷ []) (key ∙ is) ∙ ap (λ xs. xs ++ get_or ks i k ∷ []) before ∙ sym (take_more ks i k inside)
