-- The location that a text is of: the function that computes it finds it, and finds no other.
use Rattle.std.proofs.Common.{◌≡◌, ◌∙◌, ℕ, ◌+◌, ◌-◌, ◌<◌, ◌≤◌, ◌^◌, List, [], ◌∷◌, ◌++◌, length, drop, map, Bool, true, false, ◌&&◌, cond, eqb, Option, Some, None, refl, ap, sym, subst, arith, length-append, codes}
use Rattle.std.specs.Prelude.{bytes_eq, nat_lt, nat_le, decimal}
use Rattle.std.specs.Result.{result_ok}
use Rattle.std.specs.List.{AllByRecursion, list_all, slice_split, find}
use Rattle.std.specs.Str.Parse.{digits_value}
use Rattle.std.proofs.lemmas.Bool.{and_parts, and_from, lt-ltb, ltb-true}
use Rattle.std.proofs.lemmas.Bool.Decides.{nat_tests}
use Rattle.std.proofs.lemmas.Slice.Eq.{bytes_eq-Decides}
use Rattle.std.proofs.lemmas.List.{append-nil}
use Rattle.std.proofs.lemmas.Fmt.{decimal_is_IsNumeral_wide}
use Rattle.std.proofs.Math.Seq.{take-append_seam, drop-append_seam}
use Rattle.hex.specs.Hex.{encode_lower}
use Rattle.locations.specs.declared.grammar.NetworkId.TheVariants.{ByGenesis, ByFork, Polkadot, Kusama, Westend, Rococo, Wococo, Ethereum, BitcoinCore, BitcoinCash}
use Rattle.locations.specs.declared.grammar.Junction.{Junction}
use Rattle.locations.specs.declared.grammar.Junction.TheVariants.{Parachain, AccountId32, AccountIndex64, AccountKey20, PalletInstance, GeneralIndex, GeneralKey, OnlyChild, Plurality, GlobalConsensus}
use Rattle.locations.specs.declared.relative.Location.{Location}
use Rattle.locations.proofs.Lemmas.OrderLaws.{junction_decides}
use Rattle.location_wire.specs.Spelling.{junction, FitsJunction}
use Rattle.location_wire.specs.Reading.{junction_at}
use Rattle.location_wire.proofs.Lemmas.FieldLaws.{junction_reads}
use Rattle.location_wire.specs.Texts.{hex_text, junction_text, location_text, IsJunction, IsTextOf}
use Rattle.document_entries.specs.LocationTexts.{inside, number_inside, bytes_or_none, hex_bytes, spelled_one, candidates, is_again, is_junction, junction_of, before, junctions_of, location_with_parents, location_of_parts, is_text_of, where_text, parsed_location}
use Rattle.location_wire.proofs.Lemmas.Slashes.{decode_spelled, location_parts}
use Rattle.plain_lists.proofs.Lemmas.Facts.{bytes_themselves as same_bytes}

-- ---- the first of a list that passes

pub record Found {X : Type 0} (p : X → Bool) (xs : List X) : Type 0 where
  pub first : X
  pub found : find p xs ≡ Some first
  pub passed : p first ≡ true

found_here : {X : Type 0} (p : X → Bool) (x : X) (xs : List X) → p x ≡ true → Found p (x ∷ xs)
found_here p x xs e = record { first = x; found = ap (λ b. cond b (Some x) (find p xs)) e; passed = e }

found_later : {X : Type 0} (p : X → Bool) (x : X) (xs : List X) → Found p xs → Found p (x ∷ xs)
found_later p x xs later =
    elim (p x) as (λ b. p x ≡ b → Found p (x ∷ xs)) [
      | true ↦ λ e. found_here p x xs e
      | false ↦ λ e. record { first = later.first; found = ap (λ b. cond b (Some x) (find p xs)) e ∙ later.found; passed = later.passed }
    ] refl

none_some : {X : Type 0} {B : Type 0} (x : X) → None ≡ Some x → B
none_some x e = absurd (cc e)

find_passes : {X : Type 0} (p : X → Bool) (xs : List X) (x : X) → find p xs ≡ Some x → p x ≡ true
find_passes p [] x e = none_some x e
find_passes p (y ∷ ys) x e =
    elim (p y) as (λ b. p y ≡ b → cond b (Some y) (find p ys) ≡ Some x → p x ≡ true) [
      | true ↦ λ t is. let same : y ≡ x = cc is in ap p (sym same) ∙ t
      | false ↦ λ t is. find_passes p ys x is
    ] refl e

-- ---- junctions

all_below : (xs : List ℕ) → AllByRecursion (λ b. b < 256) xs → list_all (λ b. nat_lt b 256) xs ≡ true
all_below [] h = refl
all_below (x ∷ xs) h = and_from (nat_lt x 256) (list_all (λ b. nat_lt b 256) xs) (lt-ltb x 256 h.0) (all_below xs h.1)

are_below : (xs : List ℕ) → list_all (λ b. nat_lt b 256) xs ≡ true → AllByRecursion (λ b. b < 256) xs
are_below [] h = tt
are_below (x ∷ xs) h = let p = and_parts (nat_lt x 256) (list_all (λ b. nat_lt b 256) xs) h in (ltb-true x 256 p.0, are_below xs p.1)

read_back : (j : Junction) → FitsJunction j → junction_at (junction j) ≡ Some (j, [])
read_back j h = subst (λ (bytes : List ℕ). junction_at bytes ≡ Some (j, [])) (append-nil (junction j)) (junction_reads.again j [] h)

pub junction_passes : (j : Junction) → IsJunction j → is_junction j ≡ true
junction_passes j h = and_from (is_again j (junction_at (junction j))) (list_all (λ b. nat_lt b 256) (junction j)) (ap (is_again j) (read_back j h.0) ∙ (junction_decides j j).1 refl) (all_below (junction j) h.1)

again_fits : (j : Junction) (o : Option (Junction × List ℕ)) → junction_at (junction j) ≡ o → is_again j o ≡ true → FitsJunction j
again_fits j None e t = absurd (cc t)
again_fits j (Some read) e t =
    let fits : FitsJunction read.0 = (junction_reads.takes (junction j) read.0 read.1 e).1 in
    subst FitsJunction (sym ((junction_decides j read.0).0 t)) fits

pub junction_fits : (j : Junction) → is_junction j ≡ true → IsJunction j
junction_fits j t =
    let p = and_parts (is_again j (junction_at (junction j))) (list_all (λ b. nat_lt b 256) (junction j)) t in
    (again_fits j (junction_at (junction j)) refl p.0, are_below (junction j) p.1)

abbrev pub passes : List ℕ → Junction → Bool
passes part j = is_junction j && bytes_eq (junction_text j) part

own_passes : (j : Junction) → IsJunction j → passes (junction_text j) j ≡ true
own_passes j h = and_from (is_junction j) (bytes_eq (junction_text j) (junction_text j)) (junction_passes j h) (same_bytes (junction_text j))

-- ---- each junction is among the candidates of its text

inside_is : (front middle : List ℕ) (k last : ℕ) → length front ≡ k → inside k (front ++ middle ++ last ∷ []) ≡ middle
inside_is front middle k last e =
    let whole : length (front ++ middle ++ last ∷ []) - 1 ≡ length (front ++ middle) = omega (arith, length-append (front ++ middle) (last ∷ []), length-append front middle) in
    rw (whole, ← e) (ap (drop (length front)) (take-append_seam (front ++ middle) (last ∷ [])) ∙ drop-append_seam front middle)

number_is : (front : List ℕ) (k n : ℕ) → length front ≡ k → n < 10 ^ 64 → number_inside k (front ++ decimal n ++ codes ")") ≡ n
number_is front k n e l = ap (digits_value 10) (inside_is front (decimal n) k 41 e) ∙ (decimal_is_IsNumeral_wide n l).1

here : (part : List ℕ) (j k : Junction) (ks : List Junction) → passes part j ≡ true → k ≡ j → Found (passes part) (k ∷ ks)
here part j k ks t e = found_here (passes part) k ks (ap (passes part) e ∙ t)

abbrev past9 : (part : List ℕ) → Found (passes part) (spelled_one (junction_at (hex_bytes (drop 2 part)))) → Found (passes part) (candidates part)
past9 part f =
    found_later (passes part) _ _ (found_later (passes part) _ _ (found_later (passes part) _ _ (found_later (passes part) _ _ (found_later (passes part) _ _
    (found_later (passes part) _ _ (found_later (passes part) _ _ (found_later (passes part) _ _ (found_later (passes part) _ _ f))))))))

hex_back : (j : Junction) → IsJunction j → hex_bytes (encode_lower (junction j)) ≡ junction j
hex_back j h = ap (λ r. bytes_or_none (result_ok r)) (decode_spelled (junction j) h.1)

spelled_found : (j : Junction) → IsJunction j → junction_text j ≡ hex_text (junction j) → Found (passes (junction_text j)) (candidates (junction_text j))
spelled_found j h e =
    let bytes : hex_bytes (drop 2 (junction_text j)) ≡ junction j = ap (λ (t : List ℕ). hex_bytes (drop 2 t)) e ∙ hex_back j h in
    let read : junction_at (hex_bytes (drop 2 (junction_text j))) ≡ Some (j, []) = ap junction_at bytes ∙ read_back j h.0 in
    past9 (junction_text j) (subst (λ o. Found (passes (junction_text j)) (spelled_one o)) (sym read) (found_here (passes (junction_text j)) j [] (own_passes j h)))

pub candidate_found : (j : Junction) → IsJunction j → Found (passes (junction_text j)) (candidates (junction_text j))
unfolding junction_text junction
candidate_found (Parachain n) h = here _ (Parachain n) _ _ (own_passes (Parachain n) h) (ap Parachain (number_is (codes "Parachain(") 10 n refl (omega (arith, h.0))))
candidate_found (PalletInstance n) h = found_later _ _ _ (here _ (PalletInstance n) _ _ (own_passes (PalletInstance n) h) (ap PalletInstance (number_is (codes "PalletInstance(") 15 n refl (omega (arith, h.0)))))
candidate_found (GeneralIndex n) h = found_later _ _ _ (found_later _ _ _ (here _ (GeneralIndex n) _ _ (own_passes (GeneralIndex n) h) (ap GeneralIndex (number_is (codes "GeneralIndex(") 13 n refl (omega (arith, h.0))))))
candidate_found (AccountId32 None id) h =
    found_later _ _ _ (found_later _ _ _ (found_later _ _ _ (here _ (AccountId32 None id) _ _ (own_passes (AccountId32 None id) h)
    (ap (AccountId32 None) (ap hex_bytes (inside_is (codes "AccountId32(0x") (encode_lower id) 14 41 refl) ∙ ap (λ r. bytes_or_none (result_ok r)) (decode_spelled id h.1.1.1))))))
candidate_found (AccountId32 (Some net) id) h = spelled_found (AccountId32 (Some net) id) h refl
candidate_found (AccountIndex64 net index) h = spelled_found (AccountIndex64 net index) h refl
candidate_found (AccountKey20 net key) h = spelled_found (AccountKey20 net key) h refl
candidate_found (GeneralKey len key) h = spelled_found (GeneralKey len key) h refl
candidate_found OnlyChild h = spelled_found OnlyChild h refl
candidate_found (Plurality id share) h = spelled_found (Plurality id share) h refl
candidate_found (GlobalConsensus Polkadot) h = found_later _ _ _ (found_later _ _ _ (found_later _ _ _ (found_later _ _ _ (found_here _ _ _ (own_passes (GlobalConsensus Polkadot) h)))))
candidate_found (GlobalConsensus Kusama) h = found_later _ _ _ (found_later _ _ _ (found_later _ _ _ (found_later _ _ _ (found_later _ _ _ (found_here _ _ _ (own_passes (GlobalConsensus Kusama) h))))))
candidate_found (GlobalConsensus Westend) h = found_later _ _ _ (found_later _ _ _ (found_later _ _ _ (found_later _ _ _ (found_later _ _ _ (found_later _ _ _ (found_here _ _ _ (own_passes (GlobalConsensus Westend) h)))))))
candidate_found (GlobalConsensus Rococo) h = found_later _ _ _ (found_later _ _ _ (found_later _ _ _ (found_later _ _ _ (found_later _ _ _ (found_later _ _ _ (found_later _ _ _ (found_here _ _ _ (own_passes (GlobalConsensus Rococo) h))))))))
candidate_found (GlobalConsensus Wococo) h = found_later _ _ _ (found_later _ _ _ (found_later _ _ _ (found_later _ _ _ (found_later _ _ _ (found_later _ _ _ (found_later _ _ _ (found_later _ _ _ (found_here _ _ _ (own_passes (GlobalConsensus Wococo) h)))))))))
candidate_found (GlobalConsensus (ByGenesis hash)) h = spelled_found (GlobalConsensus (ByGenesis hash)) h refl
candidate_found (GlobalConsensus (ByFork number hash)) h = spelled_found (GlobalConsensus (ByFork number hash)) h refl
candidate_found (GlobalConsensus (Ethereum chain)) h = spelled_found (GlobalConsensus (Ethereum chain)) h refl
candidate_found (GlobalConsensus BitcoinCore) h = spelled_found (GlobalConsensus BitcoinCore) h refl
candidate_found (GlobalConsensus BitcoinCash) h = spelled_found (GlobalConsensus BitcoinCash) h refl

-- ---- one text, one location

abbrev pub OneLocation : Type 0
OneLocation = (text : List ℕ) (l m : Location) → IsTextOf l text → IsTextOf m text → l ≡ m

abbrev alone : Junction → Location
alone j = record { parents = 0; interior = j ∷ [] }

one_junction : OneLocation → (j k : Junction) → IsJunction j → IsJunction k → junction_text j ≡ junction_text k → j ≡ k
one_junction one j k h i e =
    let of_j : IsTextOf (alone j) (location_text (alone j)) = ((omega arith, omega arith, (h, tt)), refl) in
    let of_k : IsTextOf (alone k) (location_text (alone j)) = ((omega arith, omega arith, (i, tt)), ap (λ (t : List ℕ). decimal 0 ++ (codes "/" ++ t ++ [])) e) in
    let same : alone j ≡ alone k = one (location_text (alone j)) (alone j) (alone k) of_j of_k in
    let lists : j ∷ [] ≡ k ∷ [] = ap (λ (l : Location). l.interior) same in
    cc lists

part_passes : (part : List ℕ) (k : Junction) → passes part k ≡ true → IsJunction k × (junction_text k ≡ part)
part_passes part k t =
    let p = and_parts (is_junction k) (bytes_eq (junction_text k) part) t in
    (junction_fits k p.0, (bytes_eq-Decides (junction_text k) part).0 p.1)

junction_is : OneLocation → (j : Junction) → IsJunction j → junction_of (junction_text j) ≡ Some j
unfolding junction_of
junction_is one j h =
    let found = candidate_found j h in
    let k = part_passes (junction_text j) found.first found.passed in
    found.found ∙ ap Some (one_junction one found.first j k.0 h k.1)

junctions_are : OneLocation → (js : List Junction) → AllByRecursion IsJunction js → junctions_of (map junction_text js) ≡ Some js
unfolding junctions_of
junctions_are one [] h = refl
junctions_are one (j ∷ js) h = rw (junction_is one j h.0, junctions_are one js h.1) refl

junction_read : (part : List ℕ) (j : Junction) → junction_of part ≡ Some j → IsJunction j
unfolding junction_of
junction_read part j e = (part_passes part j (find_passes (passes part) (candidates part) j e)).0

junctions_step : (o : Option Junction) (r : Option (List Junction)) (js : List Junction) → ((j : Junction) → o ≡ Some j → IsJunction j) → ((ks : List Junction) → r ≡ Some ks → AllByRecursion IsJunction ks) → before o r ≡ Some js → AllByRecursion IsJunction js
junctions_step None r js f g e = none_some js e
junctions_step (Some j) None js f g e = none_some js e
junctions_step (Some j) (Some ks) js f g e = let same : j ∷ ks ≡ js = cc e in subst (λ (xs : List Junction). AllByRecursion IsJunction xs) same (f j refl, g ks refl)

junctions_read : (parts : List (List ℕ)) (js : List Junction) → junctions_of parts ≡ Some js → AllByRecursion IsJunction js
unfolding junctions_of
junctions_read [] js e = let same : [] ≡ js = cc e in subst (λ (xs : List Junction). AllByRecursion IsJunction xs) same tt
junctions_read (part ∷ parts) js e = junctions_step (junction_of part) (junctions_of parts) js (junction_read part) (junctions_read parts) e

-- ---- locations

text_passes : (text : List ℕ) (l : Location) → IsTextOf l text → is_text_of text l ≡ true
text_passes text l h =
    and_from (nat_lt l.parents 256) (nat_le (length l.interior) 8 && bytes_eq (location_text l) text) (lt-ltb l.parents 256 (omega (arith, h.0.0)))
    (and_from (nat_le (length l.interior) 8) (bytes_eq (location_text l) text) (few (length l.interior) h.0.1) ((bytes_eq-Decides (location_text l) text).1 (sym h.1)))
  where
    few : (n : ℕ) → n ≤ 8 → nat_le n 8 ≡ true
    few n l = grind (arith, nat_tests)

-- the location of a text is found
pub location_found : OneLocation → (text : List ℕ) (l : Location) → IsTextOf l text → parsed_location text ≡ Some l
unfolding parsed_location
location_found one text l h =
    let parts : slice_split (λ b. eqb b 47) text ≡ decimal l.parents ∷ map junction_text l.interior = ap (slice_split (λ b. eqb b 47)) h.1 ∙ location_parts l h.0 in
    let parents : digits_value 10 (decimal l.parents) ≡ l.parents = (decimal_is_IsNumeral_wide l.parents (omega (arith, h.0.0))).1 in
    rw (parts, junctions_are one l.interior h.0.2, parents, text_passes text l h) refl

placed_fits : (parents : ℕ) (r : Option (List Junction)) (l : Location) → ((js : List Junction) → r ≡ Some js → AllByRecursion IsJunction js) → location_with_parents parents r ≡ Some l → AllByRecursion IsJunction l.interior
placed_fits parents None l f e = none_some l e
placed_fits parents (Some js) l f e = let same : js ≡ l.interior = cc e in subst (λ (xs : List Junction). AllByRecursion IsJunction xs) same (f js refl)

parts_fit : (parts : List (List ℕ)) (l : Location) → location_of_parts parts ≡ Some l → AllByRecursion IsJunction l.interior
parts_fit [] l e = none_some l e
parts_fit (first ∷ parts) l e = placed_fits (digits_value 10 first) (junctions_of parts) l (junctions_read parts) e

where_fits : (text : List ℕ) (o : Option Location) (l : Location) → where_text text o ≡ Some l → (o ≡ Some l) × (is_text_of text l ≡ true)
where_fits text None l e = none_some l e
where_fits text (Some m) l e =
    elim (is_text_of text m) as (λ b. is_text_of text m ≡ b → cond b (Some m) None ≡ Some l → (Some m ≡ Some l) × (is_text_of text l ≡ true)) [
      | true ↦ λ t is. let same : m ≡ l = cc is in (is, ap (is_text_of text) (sym same) ∙ t)
      | false ↦ λ t is. none_some l is
    ] refl e

-- and what is found is the location of the text
pub location_is : (text : List ℕ) (l : Location) → parsed_location text ≡ Some l → IsTextOf l text
unfolding parsed_location
location_is text l e =
    let found = where_fits text (location_of_parts (slice_split (λ b. eqb b 47) text)) l e in
    let p = and_parts (nat_lt l.parents 256) (nat_le (length l.interior) 8 && bytes_eq (location_text l) text) found.1 in
    let q = and_parts (nat_le (length l.interior) 8) (bytes_eq (location_text l) text) p.1 in
    ((ltb-true l.parents 256 p.0, few (length l.interior) q.0, parts_fit (slice_split (λ b. eqb b 47) text) l found.0), sym ((bytes_eq-Decides (location_text l) text).0 q.1))
  where
    few : (n : ℕ) → nat_le n 8 ≡ true → n ≤ 8
    few n t = grind (arith, nat_tests)

-- a text of no location gives none
pub location_none : (text : List ℕ) → ((l : Location) → IsTextOf l text → ⊥) → parsed_location text ≡ None
location_none text none = by (parsed_location text) refl
  where
    by : (o : Option Location) → parsed_location text ≡ o → o ≡ None
    by None e = refl
    by (Some l) e = absurd (none l (location_is text l e))
