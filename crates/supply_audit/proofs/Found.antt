-- Sums of what messages carry, row by row.
use Rattle.std.specs.Prelude.{◌≡◌, ℕ, zero, suc, ◌+◌, ◌<◌, ◌≤◌, min, Bool, true, false, not, List, [], ◌∷◌, ◌++◌, length, map, get_or, Option, None, Some, slice_get, nat_lt, refl, sum_by, take}
use Rattle.std.proofs.Common.{sym, ap, ◌∙◌, subst, set, inl, inr, add-zero, add_assoc, cond, arith}
use Rattle.std.specs.List.{list_all, AllByRecursion, IsDistinct, position_or_len}
use Rattle.std.specs.Ordering.{eq_by_cmp}
use Rattle.std.proofs.lemmas.Bool.{cases_Bool, and_parts, and_from, true≢false}
use Rattle.std.proofs.Math.Seq.{take-append_seam}
use Rattle.std.proofs.lemmas.List.{take_more}
use Rattle.std.proofs.lemmas.List.Quantifiers.{position-Some}
use Rattle.std.proofs.lemmas.Option.{slice_get-get_or, slice_get_past}
use Rattle.amounts.specs.Rows.{amount_if}
use Rattle.amounts.proofs.Lemmas.{key_same, same_key}
use Rattle.asset_lists.specs.declared.units.Asset.{Asset}
use Rattle.asset_lists.specs.declared.units.AssetId.{AssetId}
use Rattle.asset_lists.specs.declared.units.AssetId.TheVariants.{Concrete}
use Rattle.asset_lists.specs.declared.units.Instance.{Instance}
use Rattle.asset_lists.specs.declared.units.Kind.{Kind}
use Rattle.asset_lists.specs.Units.{Unit, unit_of, amount_of, asset_id_cmp}
use Rattle.asset_lists.specs.Listed.{Listed, listed_cmp, listed_of, kind_of}
use Rattle.asset_lists.proofs.Lemmas.UnitLaws.{asset_id_decides}
use Rattle.asset_bundles.specs.Books.{most_burned}
use Rattle.asset_bundles.specs.Bundles.{Bundle, bundle_of, is_asset, is_kind}
use Rattle.asset_bundles.specs.declared.shipment.Way.{Way}
use Rattle.asset_bundles.specs.declared.shipment.Way.TheVariants.{Withdrawal, Teleport}
use Rattle.channel_parts.specs.Channels.{Outgoing}
use Rattle.asset_bundles.specs.Totals.{total_value}
use Rattle.asset_bundles.specs.declared.totals.Total.{Total}
use Rattle.asset_bundles.proofs.Lemmas.{listed_keys}
use Rattle.trust_tables.specs.declared.rows.AssetRow.{AssetRow}
use Rattle.trust_tables.specs.Trust.{listed_row, listing}
use Rattle.ledgers.specs.Ledgers.{number_in}
use Rattle.chain_ids.specs.declared.chain.ChainId.{ChainId}
use Rattle.exec_base.specs.Part.{ChainPart}
use Rattle.supply_audit.specs.declared.figures.Carried.{Carried}
use Rattle.supply_audit.specs.declared.figures.Figure.TheVariants.{Sent}
use Rattle.supply_audit.specs.Places.{asset_amount_in, by_way, figure, is_idle, list_share, total_sent}
use Rattle.supply_audit.specs.RowPlaces.{share_in, figure_of_row}
use Rattle.supply_audit.specs.Found.{sum_in_row, sum_or_none, AreSentTo, Rise}
use Rattle.supply_audit.proofs.Idle.{none_sent}
use Rattle.supply_audit.proofs.Listing.{nothing_in}
use Rattle.supply_audit.proofs.Naming.{in_list_is}
use Rattle.supply_audit.proofs.Saturating.{sum-map_append}
use Rattle.plain_lists.proofs.Lemmas.Facts.{found_some}

-- ---- rises
pub no_rise : (listed : List Listed) (sums : List Total) (more : Listed → ℕ) → ((row : ℕ) (k : Listed) → slice_get listed row ≡ Some k → more k ≡ 0) → Rise listed sums sums more
no_rise listed sums more none = λ row n k at before. before ∙ ap (λ m. min m most_burned) (sym (ap (λ m. n + m) (none row k at) ∙ add-zero n))

pub rise_along : (listed : List Listed) (old new : List Total) (more all : Listed → ℕ) → ((k : Listed) → more k ≡ all k) → Rise listed old new more → Rise listed old new all
rise_along listed old new more all same rise = λ row n k at before. rise row n k at before ∙ ap (λ m. min (n + m) most_burned) (same k)

pub rise_twice : (listed : List Listed) (old mid new : List Total) (first second all : Listed → ℕ) → ((k : Listed) → first k + second k ≡ all k)
    → Rise listed old mid first → Rise listed mid new second → Rise listed old new all
rise_twice listed old mid new first second all sum one two = λ row n k at before.
    two row (n + first k) k at (one row n k at before) ∙ ap (λ m. min m most_burned) (add_assoc n (first k) (second k) ∙ ap (λ m. n + m) (sum k))

-- ---- the row of a listed asset
fails_at : (e : Listed → Bool) (xs : List Listed) (r : ℕ) (k : Listed) → AllByRecursion (λ (x : Listed). e x ≡ false) xs → slice_get xs r ≡ Some k → e k ≡ false
fails_at e [] r k all at = absurd cc
fails_at e (x ∷ xs) zero k all at = (let same : x ≡ k = cc in subst (λ (y : Listed). e y ≡ false) same all.0)
fails_at e (x ∷ xs) (suc r) k all at = fails_at e xs r k all.1 at

other_way : (k x : Listed) → eq_by_cmp listed_cmp x k ≡ false → eq_by_cmp listed_cmp k x ≡ false
other_way k x other =
    elim (cases_Bool (eq_by_cmp listed_cmp k x)) [
      | inl same ↦ absurd (let keys : k ≡ x = key_same listed_keys k x same in
          let here : eq_by_cmp listed_cmp x k ≡ true = ap (eq_by_cmp listed_cmp x) keys ∙ same_key listed_keys x in cc)
      | inr is ↦ is
    ]

first_place : (listed : List Listed) (r : ℕ) (k : Listed) → IsDistinct (eq_by_cmp listed_cmp) listed → slice_get listed r ≡ Some k → (position_or_len (eq_by_cmp listed_cmp k) listed ≡ r) × (r < length listed)
unfolding IsDistinct
first_place [] r k once at = absurd cc
first_place (x ∷ xs) zero k once at =
    let same : x ≡ k = cc in
    let passes : eq_by_cmp listed_cmp k x ≡ true = ap (eq_by_cmp listed_cmp k) same ∙ same_key listed_keys k in
    (ap (λ (b : Bool). cond {A = ℕ} (not b) (1 + position_or_len (eq_by_cmp listed_cmp k) xs) 0) passes, omega arith)
first_place (x ∷ xs) (suc r) k once at =
    let rest = first_place xs r k once.1 at in
    let fails : eq_by_cmp listed_cmp k x ≡ false = other_way k x (fails_at (eq_by_cmp listed_cmp x) xs r k once.0 at) in
    let here : cond {A = ℕ} (not (eq_by_cmp listed_cmp k x)) (1 + position_or_len (eq_by_cmp listed_cmp k) xs) 0 ≡ 1 + position_or_len (eq_by_cmp listed_cmp k) xs = ap (λ (b : Bool). cond {A = ℕ} (not b) (1 + position_or_len (eq_by_cmp listed_cmp k) xs) 0) fails in
    let place = rest.0 in
    let few = rest.1 in
    (omega (arith, here, place), omega (arith, few))

pub number_at_row : (listed : List Listed) (r : ℕ) (k : Listed) → IsDistinct (eq_by_cmp listed_cmp) listed → slice_get listed r ≡ Some k → number_in listed k ≡ Some r
number_at_row listed r k once at =
    let place = first_place listed r k once at in
    ap (λ (n : ℕ). cond (nat_lt n (length listed)) (Some n) None) place.0 ∙ found_some r (length listed) place.1

pub row_inside : (listed : List Listed) (k : Listed) (r : ℕ) → number_in listed k ≡ Some r → r < length listed
row_inside listed k r e = (position-Some (eq_by_cmp listed_cmp k) listed r k e).0

row_is : (listed : List Listed) (k : Listed) (r : ℕ) → number_in listed k ≡ Some r → slice_get listed r ≡ Some k
row_is listed k r e =
    let p = position-Some (eq_by_cmp listed_cmp k) listed r k e in
    slice_get-get_or listed r k p.0 ∙ ap Some (sym (key_same listed_keys k (get_or listed r k) p.1))

-- ---- an asset of a list
kind_told : (kind : Kind) (o : Option Instance) → is_kind kind o ≡ true → kind_of o ≡ kind
kind_told Kind.Fungible None e = refl
kind_told Kind.Fungible (Some instance) e = absurd (true≢false (sym e))
kind_told Kind.Class None e = absurd (true≢false (sym e))
kind_told Kind.Class (Some instance) e = refl

own_kind : (o : Option Instance) → is_kind (kind_of o) o ≡ true
own_kind None = refl
own_kind (Some instance) = refl

pub listed_told : (k : Listed) (u : Unit) → is_asset k.0 k.1 u ≡ true → listed_of u ≡ k
listed_told k u e =
    let parts = and_parts (eq_by_cmp asset_id_cmp k.0 u.0) (is_kind k.1 u.1) e in
    let id : k.0 ≡ u.0 = (asset_id_decides k.0 u.0).0 parts.0 in
    let kind : kind_of u.1 ≡ k.1 = kind_told k.1 u.1 parts.1 in
    λ i. (sym id i, kind i)

own_listed : (u : Unit) → is_asset u.0 (kind_of u.1) u ≡ true
own_listed u = and_from (eq_by_cmp asset_id_cmp u.0 u.0) (is_kind (kind_of u.1) u.1) ((asset_id_decides u.0 u.0).1 refl) (own_kind u.1)

own_share : (k : Listed) (a : Asset) → listed_of (unit_of a) ≡ k → list_share k.0 k.1 a ≡ amount_of a
own_share k a is =
    subst (λ (l : Listed). list_share l.0 l.1 a ≡ amount_of a) is (ap (λ b. amount_if b (amount_of a)) (own_listed (unit_of a)))

no_share : (k : Listed) (a : Asset) → (listed_of (unit_of a) ≡ k → ⊥) → list_share k.0 k.1 a ≡ 0
no_share k a other =
    elim (is_asset k.0 k.1 (unit_of a)) as (λ b. is_asset k.0 k.1 (unit_of a) ≡ b → amount_if b (amount_of a) ≡ 0) [
      | true ↦ λ e. absurd (other (listed_told k (unit_of a) e))
      | false ↦ λ e. refl
    ] refl

-- ---- a sum is written
sum_written : (sums : List Total) (i : ℕ) (t : Total) → i < length sums → sum_in_row (set sums i t) i ≡ total_value t
sum_written [] i t inside = absurd (omega (arith, inside))
sum_written (x ∷ sums) zero t inside = refl
sum_written (x ∷ sums) (suc i) t inside = sum_written sums i t (omega (arith, inside))

sum_stays : (sums : List Total) (i j : ℕ) (t : Total) → (i ≡ j → ⊥) → sum_in_row (set sums i t) j ≡ sum_in_row sums j
sum_stays [] i j t other = refl
sum_stays (x ∷ sums) zero zero t other = absurd (other refl)
sum_stays (x ∷ sums) zero (suc j) t other = refl
sum_stays (x ∷ sums) (suc i) zero t other = refl
sum_stays (x ∷ sums) (suc i) (suc j) t other = sum_stays sums i j t (λ e. other (ap (λ n. suc n) e))

more_once : (n m : ℕ) → min (min n most_burned + m) most_burned ≡ min (n + m) most_burned
more_once n m = grind arith

module _ (listed : List Listed) (once : IsDistinct (eq_by_cmp listed_cmp) listed) (a : Asset) where
  abbrev own : Listed
  own = listed_of (unit_of a)

  -- an asset that isn't listed is at no row
  pub unlisted : (sums : List Total) → number_in listed own ≡ None → Rise listed sums sums (λ k. list_share k.0 k.1 a)
  unlisted sums none =
      no_rise listed sums (λ k. list_share k.0 k.1 a)
      (λ row k at. no_share k a (λ is. absurd (let there : number_in listed own ≡ Some row = ap (number_in listed) is ∙ number_at_row listed row k once at in cc)))

  -- and one that is listed at its own
  pub at_own_row : (sums : List Total) (i : ℕ) (t : Total) → number_in listed own ≡ Some i → i < length sums → total_value t ≡ min (sum_in_row sums i + amount_of a) most_burned
      → Rise listed sums (set sums i t) (λ k. list_share k.0 k.1 a)
  at_own_row sums i t found inside adds = λ row n k at before.
      elim (cases_Bool (eq_by_cmp listed_cmp own k)) [
        | inl same ↦
            let is : own ≡ k = key_same listed_keys own k same in
            let there : number_in listed own ≡ Some row = ap (number_in listed) is ∙ number_at_row listed row k once at in
            let here : i ≡ row = cc in
            let was : sum_in_row sums i ≡ min n most_burned = ap (sum_in_row sums) here ∙ before in
            ap (sum_in_row (set sums i t)) (sym here) ∙ sum_written sums i t inside ∙ adds ∙ (λ j. min (was j + amount_of a) most_burned) ∙ more_once n (amount_of a)
            ∙ ap (λ m. min (n + m) most_burned) (sym (own_share k a is))
        | inr other ↦
            let apart : own ≡ k → ⊥ = λ is. true≢false (sym (same_key listed_keys own) ∙ ap (eq_by_cmp listed_cmp own) is ∙ other) in
            let away : i ≡ row → ⊥ = λ e. absurd (let mine : slice_get listed i ≡ Some own = row_is listed own i found in
            let its : slice_get listed i ≡ Some k = ap (slice_get listed) e ∙ at in
            let is : own ≡ k = cc in apart is) in
            sum_stays sums i row t away ∙ before ∙ ap (λ m. min m most_burned) (sym (ap (λ m. n + m) (no_share k a apart) ∙ add-zero n))
      ]

-- ---- a chain's rows
pub listed_at_row : (rows : List AssetRow) (r : ℕ) (row : AssetRow) → slice_get rows r ≡ Some row → slice_get (listing rows) r ≡ Some (listed_row row)
listed_at_row [] r row at = absurd cc
listed_at_row (x ∷ rows) zero row at = (let same : x ≡ row = cc in ap (λ (y : AssetRow). Some (listed_row y)) same)
listed_at_row (x ∷ rows) (suc r) row at = listed_at_row rows r row at

pub as_many : (rows : List AssetRow) → length rows ≡ length (listing rows)
as_many [] = refl
as_many (x ∷ rows) = ap (λ n. suc n) (as_many rows)

past_end : {X : Type 0} (xs : List X) (i : ℕ) → slice_get xs i ≡ None → length xs ≤ i
past_end [] i none = omega arith
past_end (x ∷ xs) zero none = absurd cc
past_end (x ∷ xs) (suc i) none = let rest = past_end xs i none in omega (arith, rest)

zero_more : (n : ℕ) → 0 + n ≡ n
zero_more n = omega arith

-- from no sums on, what rises is all that is sent
pub all_sent : (what : Carried) (to : Option ChainId) (p : ChainPart) (listed : List Listed) (channels : List Outgoing) (old new : List Total)
    → listed ≡ listing p.rows → channels ≡ p.channels → ((row : ℕ) → sum_in_row old row ≡ 0) → length new ≡ length listed
    → Rise listed old new (λ k. total_sent what to channels k.0 k.1) → AreSentTo what to (Some p) new
all_sent what to p listed channels old new rows_are channels_are nothing many rise = λ r. at r (slice_get p.rows r) refl
  where
    at : (r : ℕ) (row : Option AssetRow) → slice_get p.rows r ≡ row → sum_in_row new r ≡ min (share_in (Sent what to) r (Some p)) most_burned
    at r None none =
        let few = past_end p.rows r none in
        let same : length new ≡ length p.rows = many ∙ ap length rows_are ∙ sym (as_many p.rows) in
        ap sum_or_none (slice_get_past new r (omega (arith, few, same)))
        ∙ sym (ap (λ (o : Option AssetRow). min (figure_of_row (figure (Sent what to) p) o) most_burned) none)
    at r (Some row) there =
        let key : slice_get listed r ≡ Some (listed_row row) = ap (λ (l : List Listed). slice_get l r) rows_are ∙ listed_at_row p.rows r row there in
        let has = total_sent what to channels (Concrete row.id) row.kind in
        rise r 0 (listed_row row) key (nothing r)
        ∙ ap (λ n. min n most_burned) (zero_more has ∙ ap (λ (cs : List Outgoing). total_sent what to cs (Concrete row.id) row.kind) channels_are)
        ∙ sym (ap (λ (o : Option AssetRow). min (figure_of_row (figure (Sent what to) p) o) most_burned) there)

-- where no message waits, there are no sums
pub none_sent_to : (what : Carried) (to : Option ChainId) (p : ChainPart) (sums : List Total) → sums ≡ [] → list_all (is_idle to) p.channels ≡ true → AreSentTo what to (Some p) sums
none_sent_to what to p sums none idle = λ r.
    ap (λ (xs : List Total). sum_in_row xs r) none ∙ nothing_in (Sent what to) p r (λ id kind. none_sent what to id kind p.channels idle)

-- ---- what is added
-- one element more, seen as another
pub map_more : {X A : Type 0} (g : X → A) (f : A → ℕ) (xs : List X) (k : ℕ) (x : X) → k < length xs → x ≡ get_or xs k x → sum_by f (map g (take k xs)) + f (g x) ≡ sum_by f (map g (take (k + 1) xs))
map_more g f xs k x inside is =
    let front : take (k + 1) xs ≡ take k xs ++ x ∷ [] = take_more xs k x inside ∙ ap (λ y. take k xs ++ y ∷ []) (sym is) in
    let last : sum_by f (map g (x ∷ [])) ≡ f (g x) = omega arith in
    ap (λ n. sum_by f (map g (take k xs)) + n) (sym last) ∙ sym (sum-map_append g f (take k xs) (x ∷ [])) ∙ ap (λ ys. sum_by f (map g ys)) (sym front)

own_way : (way own : Way) → way ≡ own → (id : AssetId) (kind : Kind) (units : Bundle) → asset_amount_in id kind units ≡ by_way way own id kind units
own_way Withdrawal Withdrawal e id kind units = refl
own_way Teleport Teleport e id kind units = refl
own_way Withdrawal Teleport e id kind units = absurd cc
own_way Teleport Withdrawal e id kind units = absurd cc

-- a shipment's assets, where it goes that way
pub shipped : (way own : Way) (units : Bundle) (assets : List Asset) → bundle_of assets ≡ units → way ≡ own → (k : Listed) → sum_by (list_share k.0 k.1) assets ≡ by_way way own k.0 k.1 units
shipped way own units assets bundle same k = in_list_is k.0 k.1 assets ∙ ap (asset_amount_in k.0 k.1) bundle ∙ own_way way own same k.0 k.1 units

-- what was borrowed is written back whole
pub whole : (n : ℕ) (xs ys : List Total) → length xs ≡ n → take n (xs ++ ys) ≡ xs
whole n xs ys many = ap (λ m. take m (xs ++ ys)) (sym many) ∙ take-append_seam xs ys
