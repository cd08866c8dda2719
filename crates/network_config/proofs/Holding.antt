-- Accounts, entry by entry: what earlier entries are of tells which say the same.
use Rattle.std.proofs.Common.{◌≡◌, ◌∙◌, ℕ, suc, ◌+◌, ◌<◌, List, [], ◌∷◌, ◌++◌, length, get_or, take, refl, ap, sym, subst, Bool, true, false, Option, Some, None, Result, Ok, Err}
use Rattle.std.specs.Prelude.{nat_lt, not, ◌&&◌, ◌||◌, is_some, is_ok, if◌then◌else◌}
use Rattle.std.specs.List.{list_any, position, position_or_len, AllByRecursion}
use Rattle.std.specs.declared.cmp.Ordering.TheVariants.{Less, Equal, Greater}
use Rattle.std.specs.Ordering.{nat_cmp, ordering_then, eq_by_cmp, is_eq}
use Rattle.std.specs.Cmp.{nat_cmp_total}
use Rattle.std.specs.Cmp.Lexicographic.{slice_cmp}
use Rattle.std.proofs.lemmas.Cmp.{tied_itself}
use Rattle.std.proofs.lemmas.Map.Text.{is_eq-slice_cmp}
use Rattle.std.proofs.lemmas.Bool.{and_parts, false≢true, false_from_ne_true, not_from_false, not_from_true}
use Rattle.std.proofs.lemmas.List.{take_more}
use Rattle.std.proofs.lemmas.List.Quantifiers.{position-Some}
use Rattle.asset_lists.specs.declared.units.Fun.{Fun}
use Rattle.asset_lists.specs.declared.units.Fun.TheVariants.{Fungible, NonFungible}
use Rattle.asset_lists.specs.declared.units.Kind.{Kind}
use Rattle.asset_lists.specs.declared.units.Kind.TheVariants as kinds
use Rattle.asset_lists.specs.DerivedOrder.{derived_instance_cmp}
use Rattle.asset_lists.specs.Units.{instance_in, asset_id_cmp}
use Rattle.asset_lists.specs.Listed.{kind_of, same_kind}
use Rattle.asset_lists.proofs.Lemmas.UnitLaws.{asset_id_decides}
use Rattle.asset_lists.proofs.Lemmas.{instances_same}
use Rattle.trust_tables.specs.declared.rows.AssetRow.{AssetRow}
use Rattle.trust_tables.specs.declared.rows.AssetRole.TheVariants.{Native}
use Rattle.trust_tables.specs.Trust.{is_id, is_row_of}
use Rattle.trust_tables.proofs.Lemmas.TrustLaws.{is_row_of_says}
use Rattle.network_spec.specs.declared.chain.Balance.{Balance}
use Rattle.network_spec.specs.Networks.{same_fun, same_holding}
use Rattle.document_entries.specs.declared.fault.NetworkFault.{NetworkFault}
use Rattle.document_entries.specs.declared.fault.Place.{Place}
use Rattle.document_entries.specs.declared.stop.Stop.{Stop}
use Rattle.document_entries.specs.declared.stop.Stop.TheVariants.{Fault, Memory}
use Rattle.document_entries.specs.Answers.{FailsWith}
use Rattle.network_config.specs.References.{flaw_at, account_flaws}
use Rattle.network_config.specs.Holdings.{HoldingKey, holding_key_cmp, holding_by, holding_key_of, is_held, flaws_beside, is_of_holding}
use Rattle.network_config.proofs.Lemmas.Holdings.{row_number}
use Rattle.network_config.proofs.Summing.{numbers_same}
use Rattle.plain_lists.proofs.Lemmas.Facts.{and_false, and_true, below_by_one as no_place, same_bools as same_tests, same_some_number as some_same, zero_below as here, equal_then as then_says}

-- ---- rows by their numbers

module _ {X : Type 0} (p : X → Bool) where
  place_found : (xs : List X) → nat_lt (position_or_len p xs) (length xs) ≡ list_any p xs
  place_found [] = refl
  place_found (x ∷ xs) =
      elim (p x) as (λ b. nat_lt (if not b then 1 + position_or_len p xs else 0) (suc (length xs)) ≡ (b || list_any p xs)) [
        | true ↦ here (length xs)
        | false ↦ no_place (position_or_len p xs) (length xs) ∙ place_found xs
      ]

  some_where : (b : Bool) (n : ℕ) → is_some (if b then Some n else None) ≡ b
  some_where true n = refl
  some_where false n = refl

  pub found_at : (xs : List X) → is_some (position p xs) ≡ list_any p xs
  found_at xs = some_where (nat_lt (position_or_len p xs) (length xs)) (position_or_len p xs) ∙ place_found xs

abbrev any_row : AssetRow
any_row = record { id = record { parents = 0; interior = [] }; kind = kinds.Fungible; role = Native [] None }

abbrev kind_in : Balance → Kind
kind_in b = kind_of (instance_in b.asset.fun)

-- assets of one id and kind have the same row
same_rows : (rows : List AssetRow) (a b : Balance) → a.asset.id ≡ b.asset.id → kind_in a ≡ kind_in b → row_number rows a ≡ row_number rows b
same_rows rows a b ids alike = ap (λ (p : AssetRow → Bool). position p rows) (λ i row. is_id (ids i) row.id && same_kind (alike i) row.kind)

pub itself : (k n : ℕ) → k ≡ n → is_eq (nat_cmp k n) ≡ true
itself k n e = subst (λ m. is_eq (nat_cmp k m) ≡ true) e (ap is_eq (tied_itself nat_cmp_total k))

one_row : (rows : List AssetRow) (a b : Balance) (k n : ℕ) → row_number rows a ≡ Some k → row_number rows b ≡ Some n → kind_in a ≡ kind_in b → is_eq (nat_cmp k n) ≡ eq_by_cmp asset_id_cmp a.asset.id b.asset.id
one_row rows a b k n ka nb alike =
    same_tests _ _ (λ t.
    let same : k ≡ n = numbers_same k n t in
    let at_a = (position-Some (is_row_of a.asset) rows k any_row ka).1 in
    let at_b = (position-Some (is_row_of b.asset) rows k any_row (nb ∙ ap Some (sym same))).1 in
    let id_a = ((is_row_of_says a.asset (get_or rows k any_row)).0 at_a).0 in
    let id_b = ((is_row_of_says b.asset (get_or rows k any_row)).0 at_b).0 in
    (asset_id_decides a.asset.id b.asset.id).1 (id_a ∙ sym id_b))
    (λ t. itself k n (some_same k n (sym ka ∙ same_rows rows a b ((asset_id_decides a.asset.id b.asset.id).0 t) alike ∙ nb)))

-- ---- keys

same_keys : (k n : ℕ) (who other : List ℕ) (f g : Fun) (ids : Bool) → (kind_of (instance_in f) ≡ kind_of (instance_in g) → is_eq (nat_cmp k n) ≡ ids)
    → eq_by_cmp holding_key_cmp (holding_by k who f) (holding_by n other g) ≡ (ids && same_fun who f other g)
same_keys k n who other (Fungible x) (Fungible y) ids h =
    then_says (ordering_then (nat_cmp k n) (slice_cmp nat_cmp who other)) Equal
    ∙ and_true (is_eq (ordering_then (nat_cmp k n) (slice_cmp nat_cmp who other)))
    ∙ then_says (nat_cmp k n) (slice_cmp nat_cmp who other)
    ∙ (λ i. h refl i && is_eq-slice_cmp who other i)
same_keys k n who other (Fungible x) (NonFungible y) ids h = then_says (ordering_then (nat_cmp k n) Greater) Less ∙ and_false (is_eq (ordering_then (nat_cmp k n) Greater)) ∙ sym (and_false ids)
same_keys k n who other (NonFungible x) (Fungible y) ids h = then_says (ordering_then (nat_cmp k n) Less) Greater ∙ and_false (is_eq (ordering_then (nat_cmp k n) Less)) ∙ sym (and_false ids)
same_keys k n who other (NonFungible x) (NonFungible y) ids h =
    then_says (ordering_then (nat_cmp k n) Equal) (derived_instance_cmp x y)
    ∙ (λ i. (then_says (nat_cmp k n) Equal ∙ and_true (is_eq (nat_cmp k n)) ∙ h refl) i && is_eq (instances_same x y i))

-- ---- entries that are listed

abbrev pub IsListed : List AssetRow → Balance → Type 0
IsListed rows b = is_some (row_number rows b) ≡ true

abbrev pub of_holding : List AssetRow → HoldingKey → Balance → Bool
of_holding rows key b = is_of_holding (row_number rows b) b key

same_at : (rows : List AssetRow) (o b : Balance) (n : ℕ) → row_number rows b ≡ Some n → IsListed rows o → of_holding rows (holding_key_of n b) o ≡ same_holding o b
same_at rows o b n nb listed = by (row_number rows o) refl listed
  where
    by : (m : Option ℕ) → row_number rows o ≡ m → is_some m ≡ true → is_of_holding m o (holding_key_of n b) ≡ same_holding o b
    by None e l = absurd (false≢true l)
    by (Some k) e l = same_keys k n o.who b.who o.asset.fun b.asset.fun (eq_by_cmp asset_id_cmp o.asset.id b.asset.id) (one_row rows o b k n e nb)

alike_of : (who other : List ℕ) (f g : Fun) → same_fun who f other g ≡ true → kind_of (instance_in f) ≡ kind_of (instance_in g)
alike_of who other (Fungible x) (Fungible y) h = refl
alike_of who other (Fungible x) (NonFungible y) h = absurd (false≢true h)
alike_of who other (NonFungible x) (Fungible y) h = absurd (false≢true h)
alike_of who other (NonFungible x) (NonFungible y) h = refl

other_at : (rows : List AssetRow) (o b : Balance) → row_number rows b ≡ None → IsListed rows o → same_holding o b ≡ false
other_at rows o b nb listed =
    false_from_ne_true (same_holding o b) (λ t.
    let parts = and_parts (eq_by_cmp asset_id_cmp o.asset.id b.asset.id) (same_fun o.who o.asset.fun b.who b.asset.fun) t in
    let same = same_rows rows o b ((asset_id_decides o.asset.id b.asset.id).0 parts.0) (alike_of o.who b.who o.asset.fun b.asset.fun parts.1) in
    false≢true (ap is_some (sym (same ∙ nb)) ∙ listed))

any_same : (f g : Balance → Bool) (xs : List Balance) → AllByRecursion (λ (x : Balance). f x ≡ g x) xs → list_any f xs ≡ list_any g xs
any_same f g [] h = refl
any_same f g (x ∷ xs) h = λ i. h.0 i || any_same f g xs h.1 i

any_none : (f : Balance → Bool) (xs : List Balance) → AllByRecursion (λ (x : Balance). f x ≡ false) xs → list_any f xs ≡ false
any_none f [] h = refl
any_none f (x ∷ xs) h = λ i. h.0 i || any_none f xs h.1 i

all_told : (P Q : Balance → Type 0) → ((x : Balance) → P x → Q x) → (xs : List Balance) → AllByRecursion P xs → AllByRecursion Q xs
all_told P Q k [] h = tt
all_told P Q k (x ∷ xs) h = (k x h.0, all_told P Q k xs h.1)

-- the flaws of an entry, told by the holdings of the earlier ones
pub flaws_same : (rows : List AssetRow) (earlier : List Balance) (b : Balance) (keys : List HoldingKey) → AllByRecursion (IsListed rows) earlier
    → ((q : HoldingKey) → is_held keys q ≡ list_any (of_holding rows q) earlier) → flaws_beside (row_number rows b) keys b ≡ account_flaws rows earlier b
flaws_same rows earlier b keys listed held = by (row_number rows b) refl
  where
    by : (o : Option ℕ) → row_number rows b ≡ o → flaws_beside o keys b ≡ account_flaws rows earlier b
    by None e =
        let none : false ≡ list_any (λ (o : Balance). same_holding o b) earlier = sym (any_none (λ (o : Balance). same_holding o b) earlier (all_told (IsListed rows) (λ (o : Balance). same_holding o b ≡ false) (λ o l. other_at rows o b e l) earlier listed)) in
        let bad : true ≡ not (list_any (is_row_of b.asset) rows) = sym (not_from_false (list_any (is_row_of b.asset) rows) (sym (found_at (is_row_of b.asset) rows) ∙ ap is_some e)) in
        λ i. record { repeated = none i; bad = bad i; past = false }
    by (Some n) e =
        let same : is_held keys (holding_key_of n b) ≡ list_any (λ (o : Balance). same_holding o b) earlier =
        held (holding_key_of n b) ∙ any_same (of_holding rows (holding_key_of n b)) (λ (o : Balance). same_holding o b) earlier
        (all_told (IsListed rows) (λ (o : Balance). of_holding rows (holding_key_of n b) o ≡ same_holding o b) (λ o l. same_at rows o b n e l) earlier listed) in
        let bad : false ≡ not (list_any (is_row_of b.asset) rows) = sym (not_from_true (list_any (is_row_of b.asset) rows) (sym (found_at (is_row_of b.asset) rows) ∙ ap is_some e)) in
        λ i. record { repeated = same i; bad = bad i; past = false }

-- ---- one more entry

any_push : (f : Balance → Bool) (xs : List Balance) (x : Balance) → list_any f (xs ++ x ∷ []) ≡ (f x || list_any f xs)
any_push f [] x = refl
any_push f (y ∷ ys) x = ap (λ b. f y || b) (any_push f ys x) ∙ swapped (f y) (f x) (list_any f ys)
  where
    swapped : (a b c : Bool) → (a || (b || c)) ≡ (b || (a || c))
    swapped true true c = refl
    swapped true false c = refl
    swapped false true c = refl
    swapped false false c = refl

all_push : (P : Balance → Type 0) (xs : List Balance) (x : Balance) → AllByRecursion P xs → P x → AllByRecursion P (xs ++ x ∷ [])
all_push P [] x h p = (p, tt)
all_push P (y ∷ ys) x h p = (h.0, all_push P ys x h.1 p)

pub held_more : (rows : List AssetRow) (old new : List HoldingKey) (xs : List Balance) (k : ℕ) (x : Balance) → k < length xs → x ≡ get_or xs k x
    → ((q : HoldingKey) → is_held new q ≡ (is_of_holding (row_number rows x) x q || is_held old q)) → ((q : HoldingKey) → is_held old q ≡ list_any (of_holding rows q) (take k xs))
    → (q : HoldingKey) → is_held new q ≡ list_any (of_holding rows q) (take (k + 1) xs)
held_more rows old new xs k x l e added held q = rw (take_more xs k x l, ← e) (added q ∙ ap (λ b. of_holding rows q x || b) (held q) ∙ sym (any_push (of_holding rows q) (take k xs) x))

pub listed_more : (rows : List AssetRow) (xs : List Balance) (k : ℕ) (x : Balance) → k < length xs → x ≡ get_or xs k x → AllByRecursion (IsListed rows) (take k xs) → IsListed rows x → AllByRecursion (IsListed rows) (take (k + 1) xs)
listed_more rows xs k x l e h p = rw (take_more xs k x l, ← e) (all_push (IsListed rows) (take k xs) x h p)

-- an entry without a flaw is listed
pub listed_of : (rows : List AssetRow) (place : Place) (keys : List HoldingKey) (b : Balance) → flaw_at place (flaws_beside (row_number rows b) keys b) ≡ Ok tt → IsListed rows b
listed_of rows place keys b e = by (row_number rows b) (ap (λ (r : Result (Unit {0}) NetworkFault). is_ok r) e)
  where
    by : (o : Option ℕ) → is_ok (flaw_at place (flaws_beside o keys b)) ≡ true → is_some o ≡ true
    by None h = absurd (false≢true h)
    by (Some n) h = refl

pub stops_with : (stop : Stop) (told answer : Result (Unit {0}) NetworkFault) → FailsWith stop told → ((fault : NetworkFault) → told ≡ Err fault → answer ≡ Err fault) → FailsWith stop answer
stops_with (Fault fault) told answer s k = k fault s
stops_with Memory told answer s k = tt
