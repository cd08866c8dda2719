-- What a search among locks in order finds.
use Rattle.std.proofs.Common.{◌≡◌, ℕ, zero, suc, ◌+◌, ◌<◌, ◌≤◌, Bool, true, false, List, [], ◌∷◌, length, map, get_or, drop, Result, Ok, Err, IfOk, IfErr, refl, sym, ap, ◌∙◌, subst, arith, T, true≢false, drop-cons, add-one, length-drop}
use Rattle.std.specs.Prelude.{max}
use Rattle.std.specs.Ordering.{is_eq, is_lt, ordering_then, ordering_reverse, ordering_index}
use Rattle.std.specs.declared.cmp.Ordering.{Ordering}
use Rattle.std.specs.declared.cmp.Ordering.TheVariants.{Less, Equal, Greater}
use Rattle.std.specs.Cmp.{eq_by_cmp_equiv}
use Rattle.std.specs.FinMap.{is_sorted}
use Rattle.std.specs.FinMap.Entries.{below_all}
use Rattle.std.specs.List.Sorted.{IsSortedBy, IsPartitionedBy, IsPartitionPoint, IsSearchInRange, IsBinarySearchResult}
use Rattle.std.proofs.lemmas.List.Sorted.{searchable_from_sorted}
use Rattle.std.proofs.lemmas.List.{drop_all}
use Rattle.amounts.specs.Rows.{amount_if}
use Rattle.asset_locks.specs.declared.lock.Lock.{Lock}
use Rattle.asset_locks.specs.Greatest.{greatest_in}
use Rattle.asset_locks.specs.LockMaps.{LockKey, LockedAsset, asset_of, locked_asset_cmp, lock_cmp, is_lock_of}
use Rattle.asset_locks.specs.LockRows.{key_of, lock_row_of, AreSortedLocks, IsAt, IsGapFor}
use Rattle.asset_locks.proofs.Lemmas.{locked_asset_keys, lock_keys}
use Rattle.plain_lists.proofs.Lemmas.Facts.{and_first as first, and_second as second, is_less as is_Less}

below_at : (x : LockKey) (xs : List Lock) (j : ℕ) (d : Lock) → T (below_all lock_cmp x (map lock_row_of xs)) → j < length xs → lock_cmp x (key_of (get_or xs j d)) ≡ Less
below_at x [] j d h lt = absurd (omega (arith, lt))
below_at x (y ∷ ys) zero d h lt = is_Less _ (first _ _ h)
below_at x (y ∷ ys) (suc j) d h lt = below_at x ys j d (second _ _ h) (omega (arith, lt))

rises : (xs : List Lock) → T (is_sorted lock_cmp (map lock_row_of xs)) → (i j : ℕ) (d : Lock) → i < j → j < length xs → lock_cmp (key_of (get_or xs i d)) (key_of (get_or xs j d)) ≡ Less
rises [] h i j d lt within = absurd (omega (arith, within))
rises (x ∷ xs) h i zero d lt within = absurd (omega (arith, lt))
rises (x ∷ xs) h zero (suc j) d lt within = below_at (key_of x) xs j d (first _ _ h) (omega (arith, within))
rises (x ∷ xs) h (suc i) (suc j) d lt within = rises xs (second _ _ h) i j d (omega (arith, lt)) (omega (arith, within))

less_back : (r : Ordering) → r ≡ ordering_reverse Less → is_lt r ≡ false
less_back r e = ap is_lt e

-- keys rise, so that no later key is less
keys_sorted : (xs : List Lock) → T (is_sorted lock_cmp (map lock_row_of xs)) → IsSortedBy (λ a b. is_lt (lock_cmp (key_of a) (key_of b))) xs
keys_sorted xs h k d low within =
    less_back _ (lock_keys.total.antisymm (key_of (get_or xs (k + 1) d)) (key_of (get_or xs k d)) ∙ ap ordering_reverse (rises xs h k (k + 1) d (omega arith) within))

-- a key before another one is not of a later asset
not_later : (r s : Ordering) → ordering_then r s ≡ Less → is_lt (ordering_reverse r) ≡ false
not_later Less s e = refl
not_later Equal s e = refl
not_later Greater s e = absurd cc

assets_sorted : (xs : List Lock) → T (is_sorted lock_cmp (map lock_row_of xs)) → IsSortedBy (λ a b. is_lt (locked_asset_cmp (asset_of (key_of a)) (asset_of (key_of b)))) xs
assets_sorted xs h k d low within =
    ap is_lt (locked_asset_keys.total.antisymm (asset_of (key_of (get_or xs (k + 1) d))) (asset_of (key_of (get_or xs k d))))
    ∙ not_later _ _ (rises xs h k (k + 1) d (omega arith) within)

module _ (xs : List Lock) (order : AreSortedLocks xs) (key : LockKey) where
  pub searched : (r : Result ℕ ℕ) → IsSearchInRange r (length xs) → IsBinarySearchResult (λ lock. lock_cmp (key_of lock) key) xs r → IfOk r (IsAt xs key) × IfErr r (IsGapFor xs key)
  searched (Ok place) within equal = (record { within = within; is = λ d. lock_keys.exact _ _ (equal d) }, tt)
  searched (Err place) within parted =
      let parts = parted (searchable_from_sorted lock_keys.total key_of xs key (keys_sorted xs order.rising)) in
      (tt, record { within = within; before = parts.0; behind = parts.1 })

-- ---- the locks of one account and asset
low_is_less : (r s : Ordering) → is_lt s ≡ true → ordering_index r ≤ ordering_index s → is_lt r ≡ true
low_is_less Less s e le = refl
low_is_less Equal Less e le = absurd (omega (arith, le))
low_is_less Equal Equal e le = e
low_is_less Equal Greater e le = e
low_is_less Greater Less e le = absurd (omega (arith, le))
low_is_less Greater Equal e le = e
low_is_less Greater Greater e le = e

not_equal : (r : Ordering) → is_lt r ≡ true → is_eq r ≡ false
not_equal Less e = refl
not_equal Equal e = absurd cc
not_equal Greater e = refl

is_above : (r : Ordering) → is_lt r ≡ false → is_eq r ≡ false → r ≡ Greater
is_above Less a b = absurd cc
is_above Equal a b = absurd cc
is_above Greater a b = refl

module _ (asset : LockedAsset) where
  abbrev pub order_at : Lock → Ordering
  order_at lock = locked_asset_cmp (asset_of (key_of lock)) asset

  abbrev pub greatest_among : List Lock → ℕ
  greatest_among xs = greatest_in (is_lock_of asset) (map lock_row_of xs)

  pub parted : (xs : List Lock) → AreSortedLocks xs → IsPartitionedBy (λ lock. is_lt (order_at lock)) xs
  parted xs order i j d le within passes =
      low_is_less (order_at (get_or xs i d)) (order_at (get_or xs j d)) passes (searchable_from_sorted locked_asset_keys.total (λ lock. asset_of (key_of lock)) xs asset (assets_sorted xs order.rising) i j d le within)

  same_test : (lock : Lock) → is_lock_of asset (key_of lock) ≡ is_eq (order_at lock)
  same_test lock = (eq_by_cmp_equiv locked_asset_keys.total).symm asset (asset_of (key_of lock))

  nothing_counted : (b : Bool) (a n : ℕ) → b ≡ false → max (amount_if b a) n ≡ n
  nothing_counted true a n e = absurd (true≢false e)
  nothing_counted false a n e = omega arith

  all_counted : (b : Bool) (a n : ℕ) → b ≡ true → max (amount_if b a) n ≡ max a n
  all_counted true a n e = refl
  all_counted false a n e = absurd (true≢false (sym e))

  -- the locks before those of the asset don't count
  pub none_before : (xs : List Lock) (n : ℕ) → ((j : ℕ) (d : Lock) → j < n → is_lt (order_at (get_or xs j d)) ≡ true) → n ≤ length xs → greatest_among xs ≡ greatest_among (drop n xs)
  none_before xs zero before le = refl
  none_before [] (suc n) before le = absurd (omega (arith, le))
  none_before (x ∷ xs) (suc n) before le =
      nothing_counted (is_lock_of asset (key_of x)) x.amount (greatest_among xs) (same_test x ∙ not_equal (order_at x) (before 0 x (omega arith)))
      ∙ none_before xs n (λ j d lt. before (suc j) d (omega (arith, lt))) (omega (arith, le))

  pub order_of_rest : (xs : List Lock) (n : ℕ) → T (is_sorted lock_cmp (map lock_row_of xs)) → T (is_sorted lock_cmp (map lock_row_of (drop n xs)))
  order_of_rest xs zero h = h
  order_of_rest [] (suc n) h = tt
  order_of_rest (x ∷ xs) (suc n) h = order_of_rest xs n (second _ _ h)

  -- after a lock of a later asset there is none of the asset
  later : (r s t : Ordering) → ordering_then r s ≡ Less → (r ≡ Equal → t ≡ Less) → (r ≡ Less → t ≡ Less) → t ≡ Less
  later Less s t e same less = less refl
  later Equal s t e same less = same refl
  later Greater s t e same less = absurd cc

  none_above : (x : Lock) (xs : List Lock) → T (below_all lock_cmp (key_of x) (map lock_row_of xs)) → order_at x ≡ Greater → greatest_among xs ≡ 0
  none_above x [] h above = refl
  none_above x (y ∷ ys) h above =
      let from_x : locked_asset_cmp asset (asset_of (key_of x)) ≡ Less = locked_asset_keys.total.antisymm asset (asset_of (key_of x)) ∙ ap ordering_reverse above in
      let to_y : locked_asset_cmp asset (asset_of (key_of y)) ≡ Less = later (locked_asset_cmp (asset_of (key_of x)) (asset_of (key_of y))) _ _ (is_Less _ (first _ _ h))
      (λ tie. ap (locked_asset_cmp asset) (sym (locked_asset_keys.exact _ _ tie)) ∙ from_x)
      (λ less. locked_asset_keys.total.trans asset (asset_of (key_of x)) (asset_of (key_of y)) from_x less) in
      nothing_counted (is_lock_of asset (key_of y)) y.amount (greatest_among ys) (ap is_eq to_y) ∙ none_above x ys (second _ _ h) above

  -- so far the greatest is that of the locks passed, and those to come are of the asset or of a later one
  pub record Walk (xs : List Lock) (most : ℕ) (items : List Lock) (i : ℕ) : Type 0 where
    pub total : greatest_among xs ≡ max most (greatest_among (drop i items))
    pub rising : T (is_sorted lock_cmp (map lock_row_of items))
    pub not_before : (j : ℕ) (d : Lock) → j < length items → is_lt (order_at (get_or items j d)) ≡ false

  dropped : (xs : List Lock) (n j : ℕ) (d : Lock) → get_or (drop n xs) j d ≡ get_or xs (n + j) d
  dropped xs zero j d = ap (λ k. get_or xs k d) (omega arith)
  dropped [] (suc n) j d = refl
  dropped (x ∷ xs) (suc n) j d = dropped xs n j d ∙ sym (later_on (n + j) (suc n + j) (omega arith))
    where
      later_on : (k m : ℕ) → m ≡ suc k → get_or (x ∷ xs) m d ≡ get_or xs k d
      later_on k m e = ap (λ l. get_or (x ∷ xs) l d) e

  pub walk_starts : (xs : List Lock) → AreSortedLocks xs → (n : ℕ) → n ≤ length xs → IsPartitionPoint (λ lock. is_lt (order_at lock) ≡ true) (λ lock. is_lt (order_at lock) ≡ false) xs n → Walk xs 0 (drop n xs) 0
  walk_starts xs order n le point = record {
    total = none_before xs n (λ j d lt. point.0 j d (omega arith) lt) le ∙ nothing_yet (greatest_among (drop n xs));
    rising = order_of_rest xs n order.rising;
    not_before = λ j d lt.
        let left = length-drop n xs in
        ap (λ lock. is_lt (order_at lock)) (dropped xs n j d) ∙ point.1 (n + j) d (omega arith) (omega (arith, lt, left));
  }
    where
      nothing_yet : (m : ℕ) → m ≡ max 0 m
      nothing_yet m = omega arith

  module _ (xs : List Lock) (most : ℕ) (items : List Lock) (i : ℕ) (walk : Walk xs most items i) where
    module _ (x : Lock) (at : x ≡ get_or items i x) (lt : i < length items) where
      rest_is : drop i items ≡ x ∷ drop (suc i) items
      rest_is =
          let opened : drop i items ≡ get_or items i x ∷ drop (suc i) items = drop-cons items i x lt in
          opened ∙ ap (λ y. y ∷ drop (suc i) items) (sym at)

      here : is_lt (order_at x) ≡ false
      here = ap (λ y. is_lt (order_at y)) at ∙ walk.not_before i x lt

      pub walk_stops : is_eq (order_at x) ≡ false → most ≡ greatest_among xs
      walk_stops differs =
          let sorted : T (is_sorted lock_cmp (map lock_row_of (x ∷ drop (suc i) items))) = subst (λ ys. T (is_sorted lock_cmp (map lock_row_of ys))) rest_is (order_of_rest items i walk.rising) in
          let none : greatest_among (drop (suc i) items) ≡ 0 = none_above x (drop (suc i) items) (first _ _ sorted) (is_above (order_at x) here differs) in
          let all : greatest_among (drop i items) ≡ 0 = ap greatest_among rest_is ∙ nothing_counted (is_lock_of asset (key_of x)) x.amount (greatest_among (drop (suc i) items)) (same_test x ∙ differs) ∙ none in
          let total = walk.total in
          omega (arith, all, total)

      pub walk_on : is_eq (order_at x) ≡ true → Walk xs (max most x.amount) items (i + 1)
      walk_on same =
          let all : greatest_among (drop i items) ≡ max x.amount (greatest_among (drop (suc i) items)) = ap greatest_among rest_is ∙ all_counted (is_lock_of asset (key_of x)) x.amount (greatest_among (drop (suc i) items)) (same_test x ∙ same) in
          let next : greatest_among (drop (i + 1) items) ≡ greatest_among (drop (suc i) items) = ap (λ k. greatest_among (drop k items)) (add-one i) in
          let total = walk.total in
          record { total = omega (arith, all, next, total); rising = walk.rising; not_before = walk.not_before }

    pub walk_done : length items ≤ i → most ≡ greatest_among xs
    walk_done end =
        let all : greatest_among (drop i items) ≡ 0 = ap greatest_among (drop_all i items end) in
        let total = walk.total in
        omega (arith, all, total)
