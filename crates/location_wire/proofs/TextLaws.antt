-- What the texts of junctions and locations look like, and what reads them back.
use Rattle.std.proofs.Common.{◌≡◌, ℕ, zero, suc, ◌+◌, ◌*◌, ◌/◌, ◌^◌, ◌<◌, ◌≤◌, Bool, true, false, cond, not, eqb, ltb, List, [], ◌∷◌, ◌++◌, length, get_or, map, Option, Some, None, ◌⊎◌, inl, inr, Result, Ok, Err, refl, take, drop, lit<, sym, ap, subst, ◌∙◌, append_assoc, arith}
use Rattle.std.specs.Prelude.{codes, IfSome}
use Rattle.std.specs.Option.{MatchOption, option_map}
use Rattle.std.specs.Result.{result_ok}
use Rattle.std.specs.List.{AllByRecursion, slice_split}
use Rattle.std.specs.Fmt.{decimal}
use Rattle.std.specs.Str.Parse.{ParsesUnsigned, digits_value}
use Rattle.std.specs.Borrow.{Bor}
use Rattle.std.proofs.lemmas.Bool.{and_parts, eqb-false}
use Rattle.std.proofs.lemmas.List.{append-nil, append_cancel_right}
use Rattle.std.proofs.lemmas.Fmt.{decimal_is_IsNumeral_wide, parse-decimal_wide}
use Rattle.hex.specs.Hex.{encode_lower, lower_digits, decode_of, decode_sized}
use Rattle.hex.proofs.HexLemmas.{length-encode_with, decode_of-ok, decode_sized-ok, decode_sized-twice}
use Rattle.std.proofs.lemmas.Str.Pattern.{IsSplitOnceResult, split_after}
use Rattle.scale_codec.specs.declared.faults.NoSpelling.{NoSpelling}
use Rattle.scale_codec.specs.Spelling.{fixed, size, long, compact}
use Rattle.scale_codec.specs.Answers.{Got}
use Rattle.locations.specs.declared.grammar.NetworkId.{NetworkId}
use Rattle.locations.specs.declared.grammar.NetworkId.TheVariants.{Polkadot, Kusama, Westend, Rococo, Wococo}
use Rattle.locations.specs.declared.grammar.Junction.{Junction}
use Rattle.locations.specs.declared.grammar.Junction.TheVariants.{Parachain, AccountId32, PalletInstance, GeneralIndex, GlobalConsensus}
use Rattle.location_wire.specs.Spelling.{junction, FitsJunction}
use Rattle.location_wire.specs.Reading.{junction_at}
use Rattle.location_wire.proofs.Lemmas.FieldLaws.{junction_reads}
use Rattle.locations.specs.declared.relative.Location.{Location}
use Rattle.location_wire.specs.Texts.{hex_text, network_name, named, shown, junction_text, lacks, IsJunction, IsLocation, IsTextOf}
use Rattle.location_wire.proofs.Lemmas.Slashes.{AreBytes, decode_spelled, location_parts}
use Rattle.plain_lists.proofs.Lemmas.Facts.{other_byte as not_byte, same_some}

-- ---- numbers

pub number_read : {E : Type 0} (k n : ℕ) (text : List ℕ) (r : Result ℕ E) (o : Option ℕ) → ParsesUnsigned k 10 text r → o ≡ result_ok r → n < 2 ^ k → n < 10 ^ 64 → text ≡ decimal n → o ≡ Some n
number_read k n text r o h is fits few e = is ∙ ap result_ok (parse-decimal_wide k n text r fits few e h)

-- ---- the names

abbrev pub Number : (ℕ → Junction) → List ℕ → Junction → List ℕ × List ℕ → Type 0
Number f name j x = (n : ℕ) × (j ≡ f n) × (x ≡ (name, decimal n))

abbrev pub Account : Junction → List ℕ × List ℕ → Type 0
Account j x = (id : List ℕ) × (j ≡ AccountId32 None id) × (x ≡ (codes "AccountId32", hex_text id))

abbrev pub Network : Junction → List ℕ × List ℕ → Type 0
Network j x = (net : NetworkId) × (j ≡ GlobalConsensus net) × (x.0 ≡ codes "GlobalConsensus") × (network_name net ≡ Some x.1)

network_which : (net : NetworkId) (o : Option (List ℕ)) (x : List ℕ × List ℕ) → network_name net ≡ o → option_map (λ name. (codes "GlobalConsensus", name)) o ≡ Some x → Network (GlobalConsensus net) x
network_which net (Some name) x is e =
    let p = same_some (codes "GlobalConsensus", name) x e in
    (net, refl, ap (λ (y : List ℕ × List ℕ). y.0) (sym p), is ∙ ap (λ (y : List ℕ × List ℕ). Some y.1) p)
network_which net None x is e = absurd (cc e)

-- which junctions are written by a name
pub which : (j : Junction) (x : List ℕ × List ℕ) → named j ≡ Some x
    → Number Parachain (codes "Parachain") j x ⊎ (Number PalletInstance (codes "PalletInstance") j x ⊎ (Number GeneralIndex (codes "GeneralIndex") j x ⊎ (Account j x ⊎ Network j x)))
which (Parachain n) x e = inl (n, refl, sym (same_some _ x e))
which (PalletInstance n) x e = inr (inl (n, refl, sym (same_some _ x e)))
which (GeneralIndex n) x e = inr (inr (inl (n, refl, sym (same_some _ x e))))
which (AccountId32 None id) x e = inr (inr (inr (inl (id, refl, sym (same_some _ x e)))))
which (AccountId32 (Some net) id) x e = absurd (cc e)
which (GlobalConsensus net) x e = inr (inr (inr (inr (network_which net (network_name net) x refl e))))
which _ x e = absurd (cc e)

-- the third letter of each name is its own
third : {x y : List ℕ × List ℕ} → x ≡ y → get_or x.0 2 0 ≡ get_or y.0 2 0
third e = ap (λ (x : List ℕ × List ℕ). get_or x.0 2 0) e

second : {x y : List ℕ × List ℕ} → x ≡ y → x.1 ≡ y.1
second e = ap (λ (x : List ℕ × List ℕ). x.1) e

pub is_parachain : (j : Junction) (inside : List ℕ) → named j ≡ Some (codes "Parachain", inside) → (n : ℕ) × (j ≡ Parachain n) × (inside ≡ decimal n)
is_parachain j inside e =
    elim (which j (codes "Parachain", inside) e) [
      | inl h ↦ (h.0, h.1, second h.2)
      | inr (inl h) ↦ absurd (eqb-false 114 108 refl (third h.2))
      | inr (inr (inl h)) ↦ absurd (eqb-false 114 110 refl (third h.2))
      | inr (inr (inr (inl h))) ↦ absurd (eqb-false 114 99 refl (third h.2))
      | inr (inr (inr (inr h))) ↦ absurd (eqb-false 114 111 refl (ap (λ (y : List ℕ). get_or y 2 0) h.2))
    ]

pub is_pallet : (j : Junction) (inside : List ℕ) → named j ≡ Some (codes "PalletInstance", inside) → (n : ℕ) × (j ≡ PalletInstance n) × (inside ≡ decimal n)
is_pallet j inside e =
    elim (which j (codes "PalletInstance", inside) e) [
      | inl h ↦ absurd (eqb-false 108 114 refl (third h.2))
      | inr (inl h) ↦ (h.0, h.1, second h.2)
      | inr (inr (inl h)) ↦ absurd (eqb-false 108 110 refl (third h.2))
      | inr (inr (inr (inl h))) ↦ absurd (eqb-false 108 99 refl (third h.2))
      | inr (inr (inr (inr h))) ↦ absurd (eqb-false 108 111 refl (ap (λ (y : List ℕ). get_or y 2 0) h.2))
    ]

pub is_general : (j : Junction) (inside : List ℕ) → named j ≡ Some (codes "GeneralIndex", inside) → (n : ℕ) × (j ≡ GeneralIndex n) × (inside ≡ decimal n)
is_general j inside e =
    elim (which j (codes "GeneralIndex", inside) e) [
      | inl h ↦ absurd (eqb-false 110 114 refl (third h.2))
      | inr (inl h) ↦ absurd (eqb-false 110 108 refl (third h.2))
      | inr (inr (inl h)) ↦ (h.0, h.1, second h.2)
      | inr (inr (inr (inl h))) ↦ absurd (eqb-false 110 99 refl (third h.2))
      | inr (inr (inr (inr h))) ↦ absurd (eqb-false 110 111 refl (ap (λ (y : List ℕ). get_or y 2 0) h.2))
    ]

pub is_account : (j : Junction) (inside : List ℕ) → named j ≡ Some (codes "AccountId32", inside) → (id : List ℕ) × (j ≡ AccountId32 None id) × (inside ≡ hex_text id)
is_account j inside e =
    elim (which j (codes "AccountId32", inside) e) [
      | inl h ↦ absurd (eqb-false 99 114 refl (third h.2))
      | inr (inl h) ↦ absurd (eqb-false 99 108 refl (third h.2))
      | inr (inr (inl h)) ↦ absurd (eqb-false 99 110 refl (third h.2))
      | inr (inr (inr (inl h))) ↦ (h.0, h.1, second h.2)
      | inr (inr (inr (inr h))) ↦ absurd (eqb-false 99 111 refl (ap (λ (y : List ℕ). get_or y 2 0) h.2))
    ]

pub is_global : (j : Junction) (inside : List ℕ) → named j ≡ Some (codes "GlobalConsensus", inside) → (net : NetworkId) × (j ≡ GlobalConsensus net) × (network_name net ≡ Some inside)
is_global j inside e =
    elim (which j (codes "GlobalConsensus", inside) e) [
      | inl h ↦ absurd (eqb-false 111 114 refl (third h.2))
      | inr (inl h) ↦ absurd (eqb-false 111 108 refl (third h.2))
      | inr (inr (inl h)) ↦ absurd (eqb-false 111 110 refl (third h.2))
      | inr (inr (inr (inl h))) ↦ absurd (eqb-false 111 99 refl (third h.2))
      | inr (inr (inr (inr h))) ↦ (h.0, h.1, h.3)
    ]

-- no name has a parenthesis in it, or a 0 at its front
pub named_name : (j : Junction) (x : List ℕ × List ℕ) → named j ≡ Some x → (lacks 40 x.0 ≡ true) × (get_or x.0 0 0 ≡ 48 → ⊥)
named_name j x e =
    elim (which j x e) [
      | inl h ↦ name_ok _ _ h.2 refl (λ k. omega arith)
      | inr (inl h) ↦ name_ok _ _ h.2 refl (λ k. omega arith)
      | inr (inr (inl h)) ↦ name_ok _ _ h.2 refl (λ k. omega arith)
      | inr (inr (inr (inl h))) ↦ name_ok _ _ h.2 refl (λ k. omega arith)
      | inr (inr (inr (inr h))) ↦ rw h.2 (refl, λ k. omega arith)
    ]
  where
    name_ok : (x y : List ℕ × List ℕ) → x ≡ y → lacks 40 y.0 ≡ true → (get_or y.0 0 0 ≡ 48 → ⊥) → (lacks 40 x.0 ≡ true) × (get_or x.0 0 0 ≡ 48 → ⊥)
    name_ok x y e h k = subst (λ (z : List ℕ × List ℕ). (lacks 40 z.0 ≡ true) × (get_or z.0 0 0 ≡ 48 → ⊥)) (sym e) (h, k)

-- ---- a junction's text by what it begins with

pub text_named : (j : Junction) (x : List ℕ × List ℕ) → named j ≡ Some x → junction_text j ≡ x.0 ++ codes "(" ++ x.1 ++ codes ")"
unfolding junction_text
text_named j x e = ap (shown j) e

pub text_spelled : (j : Junction) → named j ≡ None → junction_text j ≡ codes "0x" ++ encode_lower (junction j)
unfolding junction_text
text_spelled j e = ap (shown j) e

first_of : (x y : ℕ) (xs ys : List ℕ) → x ∷ xs ≡ y ∷ ys → x ≡ y
first_of x y xs ys e = cc

named_front : (name inside : List ℕ) → 48 ≡ get_or (name ++ codes "(" ++ inside ++ codes ")") 0 0 → (get_or name 0 0 ≡ 48 → ⊥) → ⊥
named_front [] inside h k = omega arith
named_front (c ∷ name) inside h k = k (sym h)

named_not_0x : (j : Junction) (x : List ℕ × List ℕ) → named j ≡ Some x → (digits : List ℕ) → codes "0x" ++ digits ≡ junction_text j → ⊥
named_not_0x j x is digits e =
    let both : 48 ≡ get_or (x.0 ++ codes "(" ++ x.1 ++ codes ")") 0 0 = ap (λ (t : List ℕ). get_or t 0 0) (e ∙ text_named j x is) in
    named_front x.0 x.1 both (named_name j x is).1

-- after 0x comes the spelling
pub text_behind_0x : (j : Junction) (digits : List ℕ) → codes "0x" ++ digits ≡ junction_text j → digits ≡ encode_lower (junction j)
text_behind_0x j digits e = by_name (named j) refl
  where
    by_name : (o : Option (List ℕ × List ℕ)) → named j ≡ o → digits ≡ encode_lower (junction j)
    by_name None is = ap (drop 2) (e ∙ text_spelled j is)
    by_name (Some x) is = absurd (named_not_0x j x is digits e)

-- without 0x at its front it is written by a name
pub text_by_name : (j : Junction) → ((rest : List ℕ) → junction_text j ≡ codes "0x" ++ rest → ⊥) → (x : List ℕ × List ℕ) × (named j ≡ Some x)
text_by_name j h = by_name (named j) refl
  where
    by_name : (o : Option (List ℕ × List ℕ)) → named j ≡ o → (x : List ℕ × List ℕ) × (named j ≡ Some x)
    by_name (Some x) is = (x, is)
    by_name None is = absurd (h (encode_lower (junction j)) (text_spelled j is))

-- ---- hex

-- ---- each name with what is in its parentheses

abbrev pub Read : (ℕ → Junction) → Option ℕ → Junction → Type 0
Read f o j = (n : ℕ) × (o ≡ Some n) × (f n ≡ j)

pub parachain_read : {E : Type 0} (j : Junction) (inside : List ℕ) (r : Result ℕ E) (o : Option ℕ) → IsJunction j → named j ≡ Some (codes "Parachain", inside) → ParsesUnsigned 32 10 inside r → o ≡ result_ok r → Read Parachain o j
parachain_read j inside r o h e parsed is =
    let p = is_parachain j inside e in
    let fits : p.0 < 2 ^ 32 = subst FitsJunction p.1 h.0 in
    (p.0, number_read 32 p.0 inside r o parsed is fits (omega (arith, fits)) p.2, sym p.1)

pub pallet_read : {E : Type 0} (j : Junction) (inside : List ℕ) (r : Result ℕ E) (o : Option ℕ) → IsJunction j → named j ≡ Some (codes "PalletInstance", inside) → ParsesUnsigned 8 10 inside r → o ≡ result_ok r → Read PalletInstance o j
pallet_read j inside r o h e parsed is =
    let p = is_pallet j inside e in
    let fits : p.0 < 2 ^ 8 = subst FitsJunction p.1 h.0 in
    (p.0, number_read 8 p.0 inside r o parsed is fits (omega (arith, fits)) p.2, sym p.1)

pub general_read : {E : Type 0} (j : Junction) (inside : List ℕ) (r : Result ℕ E) (o : Option ℕ) → IsJunction j → named j ≡ Some (codes "GeneralIndex", inside) → ParsesUnsigned 128 10 inside r → o ≡ result_ok r → Read GeneralIndex o j
general_read j inside r o h e parsed is =
    let p = is_general j inside e in
    let fits : p.0 < 2 ^ 128 = subst FitsJunction p.1 h.0 in
    (p.0, number_read 128 p.0 inside r o parsed is fits (omega (arith, fits)) p.2, sym p.1)

-- what was read, and what was to be read
pub read_as : {X : Type 0} (o : Option X) (x n : X) → o ≡ Some x → o ≡ Some n → x ≡ n
read_as o x n was is = same_some x n (sym was ∙ is)

decode_sized_spelled : (xs : List ℕ) → AreBytes xs → length xs ≡ 32 → decode_sized (encode_lower xs) 32 ≡ Ok xs
decode_sized_spelled xs h n = decode_sized-twice (encode_lower xs) 32 (omega (arith, length-encode_with lower_digits xs)) ∙ decode_spelled xs h

-- the digits of an account
pub account_read : (j : Junction) (inside digits : List ℕ) (o : Option (List ℕ)) → IsJunction j → named j ≡ Some (codes "AccountId32", inside) → inside ≡ codes "0x" ++ digits → o ≡ result_ok (decode_sized digits 32)
    → (id : List ℕ) × (o ≡ Some id) × (AccountId32 None id ≡ j)
unfolding junction
account_read j inside digits o h e front is =
    let p = is_account j inside e in
    let all : IsJunction (AccountId32 None p.0) = subst IsJunction p.1 h in
    let bytes : AreBytes p.0 = all.1.1.1 in
    let text : digits ≡ encode_lower p.0 = ap (drop 2) (sym front ∙ p.2) in
    let back : decode_sized digits 32 ≡ Ok p.0 = rw text (decode_sized_spelled p.0 bytes all.0.1) in
    (p.0, is ∙ ap result_ok back, sym p.1)

-- ---- the parts around the parentheses

by_index : (c : ℕ) (xs : List ℕ) → lacks c xs ≡ true → (i : ℕ) → i < length xs → get_or xs i 0 ≡ c → ⊥
by_index c [] h i lt e = absurd (omega arith)
by_index c (x ∷ xs) h zero lt e = let p = and_parts (not (eqb x c)) (lacks c xs) h in eqb-false x c (not_byte c x p.0) e
by_index c (x ∷ xs) h (suc i) lt e = let p = and_parts (not (eqb x c)) (lacks c xs) h in by_index c xs p.1 i (omega arith) e

-- the text before the first parenthesis, and after it
pub cut_at : (part name inside : List ℕ) (r : Option (Bor (List ℕ) × Bor (List ℕ))) → IsSplitOnceResult 40 part r → lacks 40 name ≡ true → part ≡ name ++ codes "(" ++ inside ++ codes ")"
    → MatchOption r ⊥ (λ x. (x.0.now ≡ name) × (x.1.now ≡ inside ++ codes ")"))
cut_at part name inside r h lack e =
    let text : part ≡ name ++ 40 ∷ (inside ++ codes ")") = e ∙ append_assoc (name ++ codes "(") inside (codes ")") ∙ append_assoc name (codes "(") (inside ++ codes ")") in
    split_after 40 part name (inside ++ codes ")") r h (lit< tt) text (by_index 40 name lack)

-- ---- answers of readers

pub got_value : {X : Type 0} (r : Result X NoSpelling) (read : Option (X × List ℕ)) (new : List ℕ) (x : X) (rest : List ℕ) → Got r read new → read ≡ Some (x, rest) → result_ok r ≡ Some x
got_value {X} (Ok y) read new x rest got is = ap (λ (p : X × List ℕ). Some p.0) (same_some (y, new) (x, rest) (sym got ∙ is))
got_value (Err e) read new x rest got is = absurd (cc (got, is))

-- what the spelling of a junction is read as
pub spelled_read : (j : Junction) (bytes : List ℕ) (r : Result Junction NoSpelling) (new : List ℕ) → IsJunction j → bytes ≡ junction j → Got r (junction_at bytes) new → result_ok r ≡ Some j
spelled_read j bytes r new h is got =
    got_value r (junction_at bytes) new j [] got (ap junction_at (is ∙ sym (append-nil (junction j))) ∙ junction_reads.again j [] h.0)

-- ---- the junctions, one by one

-- the text at an index is that of the junction at that index
pub picked : (parts : List (Bor (List ℕ))) (js : List Junction) (i : ℕ) (d : Bor (List ℕ)) → i < length parts → map (λ x. x.now) parts ≡ map junction_text js → AllByRecursion IsJunction js
    → (j : Junction) × IsJunction j × ((get_or parts i d).now ≡ junction_text j) × (take i js ++ j ∷ [] ≡ take (i + 1) js)
picked [] js i d lt e all = absurd (omega arith)
picked (p ∷ parts) [] i d lt e all = absurd (cc e)
picked (p ∷ parts) (j ∷ js) zero d lt e all = (j, all.0, cc e, refl)
picked (p ∷ parts) (j ∷ js) (suc i) d lt e all =
    let rest : map (λ x. x.now) parts ≡ map junction_text js = cc e in
    let h = picked parts js i d (omega arith) rest all.1 in
    let n : suc i + 1 ≡ suc (i + 1) = omega arith in
    (h.0, h.1, h.2, rw n (ap (λ (ks : List Junction). j ∷ ks) h.3))

-- ---- a location's text in its parts

pub no_parts : (parts : List (Bor (List ℕ))) (y : List ℕ) (ys : List (List ℕ)) → map (λ x. x.now) parts ≡ y ∷ ys → length parts ≡ 0 → ⊥
no_parts [] y ys e n = absurd (cc e)
no_parts (p ∷ parts) y ys e n = omega arith

pub first_part : (parts steps : List (Bor (List ℕ))) (first : Bor (List ℕ)) (y : List ℕ) (ys : List (List ℕ)) → map (λ x. x.now) parts ≡ y ∷ ys → parts ≡ first ∷ steps → (first.now ≡ y) × (map (λ x. x.now) steps ≡ ys)
first_part parts steps first y ys e is =
    let h : first.now ∷ map (λ x. x.now) steps ≡ y ∷ ys = ap (λ (ps : List (Bor (List ℕ))). map (λ x. x.now) ps) (sym is) ∙ e in
    (cc h, cc h)

pub parents_read : {E : Type 0} (l : Location) (text : List ℕ) (r : Result ℕ E) → IsLocation l → ParsesUnsigned 8 10 text r → text ≡ decimal l.parents → r ≡ Ok l.parents
parents_read l text r h parsed e = parse-decimal_wide 8 l.parents text r h.0 (omega (arith, h.0)) e parsed

-- ---- what is read is a value of the types

AreBytes-append : (xs ys : List ℕ) → AreBytes xs → AreBytes ys → AreBytes (xs ++ ys)
AreBytes-append [] ys h k = k
AreBytes-append (x ∷ xs) ys h k = (h.0, AreBytes-append xs ys h.1 k)

AreBytes-front : (xs ys : List ℕ) → AreBytes (xs ++ ys) → AreBytes xs
AreBytes-front [] ys h = tt
AreBytes-front (x ∷ xs) ys h = (h.0, AreBytes-front xs ys h.1)

fixed_bytes : (k n : ℕ) → AreBytes (fixed k n)
fixed_bytes zero n = tt
fixed_bytes (suc k) n = (omega arith, fixed_bytes k (n / 256))

either_bytes : (b : Bool) (xs ys : List ℕ) → AreBytes xs → AreBytes ys → AreBytes (cond b xs ys)
either_bytes true xs ys h k = h
either_bytes false xs ys h k = k

size_most : (most n : ℕ) → size most n ≤ most
size_most zero n = omega arith
size_most (suc most) n = size_step (eqb n 0) (size most (n / 256)) most (size_most most (n / 256))
  where
    size_step : (b : Bool) (s m : ℕ) → s ≤ m → cond b 0 (suc s) ≤ suc m
    size_step true s m h = omega arith
    size_step false s m h = omega arith

compact_bytes : (n : ℕ) → AreBytes (compact n)
unfolding compact
compact_bytes n =
    either_bytes (ltb n 64) (fixed 1 (4 * n)) (cond (ltb n 16384) (fixed 2 (4 * n + 1)) (cond (ltb n 1073741824) (fixed 4 (4 * n + 2)) (long n))) (fixed_bytes 1 (4 * n))
    (either_bytes (ltb n 16384) (fixed 2 (4 * n + 1)) (cond (ltb n 1073741824) (fixed 4 (4 * n + 2)) (long n)) (fixed_bytes 2 (4 * n + 1))
    (either_bytes (ltb n 1073741824) (fixed 4 (4 * n + 2)) (long n) (fixed_bytes 4 (4 * n + 2)) (omega (arith, size_most 16 n), fixed_bytes (size 16 n) n)))

pub parachain_fits : (n : ℕ) → n < 2 ^ 32 → IsJunction (Parachain n)
unfolding junction
parachain_fits n h = (h, (lit< tt, compact_bytes n))

pub pallet_fits : (n : ℕ) → n < 2 ^ 8 → IsJunction (PalletInstance n)
unfolding junction
pallet_fits n h = (h, (lit< tt, (h, tt)))

pub general_fits : (n : ℕ) → n < 2 ^ 128 → IsJunction (GeneralIndex n)
unfolding junction
general_fits n h = (h, (lit< tt, compact_bytes n))

bytes_from : (xs : List ℕ) → ((i : ℕ) → get_or xs i 0 < 256) → AreBytes xs
bytes_from [] h = tt
bytes_from (x ∷ xs) h = (h 0, bytes_from xs (λ i. h (suc i)))

ok_of : {X E : Type 0} (r : Result X E) (o : Option X) (x : X) → o ≡ result_ok r → o ≡ Some x → r ≡ Ok x
ok_of (Ok y) o x is was = ap Ok (same_some y x (sym is ∙ was))
ok_of (Err e) o x is was = absurd (cc (is, was))

pub account_fits : (digits id : List ℕ) (o : Option (List ℕ)) → o ≡ result_ok (decode_sized digits 32) → o ≡ Some id → IsJunction (AccountId32 None id)
unfolding junction
account_fits digits id o is was =
    let sized = ok_of (decode_sized digits 32) o id is was in
    let long = decode_sized-ok digits 32 id sized in
    let ok = decode_of-ok digits id (sym (decode_sized-twice digits 32 long) ∙ sized) in
    ((tt, omega (arith, long, ok.2)), (lit< tt, (lit< tt, bytes_from id ok.3)))

pub global_fits : (net : NetworkId) (name : List ℕ) → network_name net ≡ Some name → IsJunction (GlobalConsensus net)
unfolding junction
global_fits Polkadot name e = (tt, (lit< tt, (lit< tt, tt)))
global_fits Kusama name e = (tt, (lit< tt, (lit< tt, tt)))
global_fits Westend name e = (tt, (lit< tt, (lit< tt, tt)))
global_fits Rococo name e = (tt, (lit< tt, (lit< tt, tt)))
global_fits Wococo name e = (tt, (lit< tt, (lit< tt, tt)))
global_fits _ name e = absurd (cc e)

pub spelled_fits : (bytes front : List ℕ) (r : Result Junction NoSpelling) (new : List ℕ) → ((i : ℕ) → get_or bytes i 0 < 256) → front ≡ bytes → Got r (junction_at front) new → IfSome (result_ok r) IsJunction
spelled_fits bytes front (Ok j) new h is got =
    let t = junction_reads.takes front j new got in
    (t.1, AreBytes-front (junction j) new (subst AreBytes (sym is ∙ t.0) (bytes_from bytes h)))
spelled_fits bytes front (Err e) new h is got = tt

pub one_more : (js : List Junction) (j : Junction) → AllByRecursion IsJunction js → IsJunction j → AllByRecursion IsJunction (js ++ j ∷ [])
one_more [] j h k = (k, tt)
one_more (x ∷ js) j h k = (h.0, one_more js j h.1 k)

-- ---- a text is that of one location

decimal_same : (m n : ℕ) → m < 10 ^ 64 → n < 10 ^ 64 → decimal m ≡ decimal n → m ≡ n
decimal_same m n h k e = sym (decimal_is_IsNumeral_wide m h).1 ∙ ap (digits_value 10) e ∙ (decimal_is_IsNumeral_wide n k).1

encode_same : (xs ys : List ℕ) → AreBytes xs → AreBytes ys → encode_lower xs ≡ encode_lower ys → xs ≡ ys
encode_same xs ys h k e = let both = sym (decode_spelled xs h) ∙ ap decode_of e ∙ decode_spelled ys k in cc both

-- the first two letters tell the networks apart
abbrev network_of : List ℕ → NetworkId
network_of name = let key = 256 * get_or name 0 0 + get_or name 1 0 in cond (eqb key 20591) Polkadot (cond (eqb key 19317) Kusama (cond (eqb key 22373) Westend (cond (eqb key 21103) Rococo Wococo)))

network_back : (net : NetworkId) (name : List ℕ) → network_name net ≡ Some name → network_of name ≡ net
network_back Polkadot name e = ap network_of (sym (same_some _ name e))
network_back Kusama name e = ap network_of (sym (same_some _ name e))
network_back Westend name e = ap network_of (sym (same_some _ name e))
network_back Rococo name e = ap network_of (sym (same_some _ name e))
network_back Wococo name e = ap network_of (sym (same_some _ name e))
network_back _ name e = absurd (cc e)

abbrev Named : (ℕ → Junction) → Type 0
Named f = (n : ℕ) → IsJunction (f n) → n < 10 ^ 64

number_same : (f : ℕ → Junction) → Named f → (j k : Junction) (m n : ℕ) (inside : List ℕ) → IsJunction j → IsJunction k → j ≡ f m → k ≡ f n → inside ≡ decimal m → inside ≡ decimal n → j ≡ k
number_same f few j k m n inside h i jm kn em en =
    let same : m ≡ n = decimal_same m n (few m (subst IsJunction jm h)) (few n (subst IsJunction kn i)) (sym em ∙ en) in
    jm ∙ ap f same ∙ sym kn

account_same : (j k : Junction) (a b : List ℕ) → IsJunction j → IsJunction k → j ≡ AccountId32 None a → k ≡ AccountId32 None b → hex_text a ≡ hex_text b → j ≡ k
unfolding junction
account_same j k a b h i ja kb e =
    let x : IsJunction (AccountId32 None a) = subst IsJunction ja h in
    let y : IsJunction (AccountId32 None b) = subst IsJunction kb i in
    let same : a ≡ b = encode_same a b x.1.1.1 y.1.1.1 (ap (drop 2) e) in
    ja ∙ ap (AccountId32 None) same ∙ sym kb

named_same : (j k : Junction) (x : List ℕ × List ℕ) → IsJunction j → IsJunction k → named j ≡ Some x → named k ≡ Some x → j ≡ k
named_same j k x h i e f =
    elim (which j x e) [
      | inl p ↦ let q = is_parachain k (decimal p.0) (f ∙ ap Some p.2) in number_same Parachain (λ n g. omega (arith, g.0)) j k p.0 q.0 (decimal p.0) h i p.1 q.1 refl q.2
      | inr (inl p) ↦ let q = is_pallet k (decimal p.0) (f ∙ ap Some p.2) in number_same PalletInstance (λ n g. omega (arith, g.0)) j k p.0 q.0 (decimal p.0) h i p.1 q.1 refl q.2
      | inr (inr (inl p)) ↦ let q = is_general k (decimal p.0) (f ∙ ap Some p.2) in number_same GeneralIndex (λ n g. omega (arith, g.0)) j k p.0 q.0 (decimal p.0) h i p.1 q.1 refl q.2
      | inr (inr (inr (inl p))) ↦ let q = is_account k (hex_text p.0) (f ∙ ap Some p.2) in account_same j k p.0 q.0 h i p.1 q.1 q.2
      | inr (inr (inr (inr p))) ↦
          let q = is_global k x.1 (f ∙ ap (λ (name : List ℕ). Some (name, x.1)) p.2) in
          let same : p.0 ≡ q.0 = sym (network_back p.0 x.1 p.3) ∙ network_back q.0 x.1 q.2 in
          p.1 ∙ ap GlobalConsensus same ∙ sym q.1
    ]

-- before the first parenthesis, and after it
cut_same : (a b c d : List ℕ) → lacks 40 a ≡ true → lacks 40 c ≡ true → a ++ 40 ∷ b ≡ c ++ 40 ∷ d → (a ≡ c) × (b ≡ d)
cut_same [] b [] d h k e = (refl, cc e)
cut_same [] b (y ∷ c) d h k e = let p = and_parts (not (eqb y 40)) (lacks 40 c) k in absurd (eqb-false y 40 (not_byte 40 y p.0) (cc e))
cut_same (x ∷ a) b [] d h k e = let p = and_parts (not (eqb x 40)) (lacks 40 a) h in absurd (eqb-false x 40 (not_byte 40 x p.0) (cc e))
cut_same (x ∷ a) b (y ∷ c) d h k e =
    let p = and_parts (not (eqb x 40)) (lacks 40 a) h in
    let q = and_parts (not (eqb y 40)) (lacks 40 c) k in
    let tail : a ++ 40 ∷ b ≡ c ++ 40 ∷ d = cc e in
    let head : x ≡ y = cc e in
    let rest = cut_same a b c d p.1 q.1 tail in
    (rw (head, rest.0) refl, rest.1)

regrouped : (name inside : List ℕ) → name ++ codes "(" ++ inside ++ codes ")" ≡ name ++ 40 ∷ (inside ++ codes ")")
regrouped name inside = append_assoc (name ++ codes "(") inside (codes ")") ∙ append_assoc name (codes "(") (inside ++ codes ")")

pair_same : (x y : List ℕ × List ℕ) → x.0 ≡ y.0 → x.1 ≡ y.1 → x ≡ y
pair_same x y h k = ap (λ (a : List ℕ). let p : List ℕ × List ℕ = (a, x.1) in p) h ∙ ap (λ (b : List ℕ). let p : List ℕ × List ℕ = (y.0, b) in p) k

pub junction_same : (j k : Junction) → IsJunction j → IsJunction k → junction_text j ≡ junction_text k → j ≡ k
junction_same j k h i e = by_name (named j) refl
  where
    by_name : (o : Option (List ℕ × List ℕ)) → named j ≡ o → j ≡ k
    by_name None is =
        let digits = text_behind_0x k (encode_lower (junction j)) (sym (text_spelled j is) ∙ e) in
        let text : junction j ≡ junction k = encode_same (junction j) (junction k) h.1 i.1 digits in
        let both = sym (junction_reads.again j [] h.0) ∙ ap (λ (t : List ℕ). junction_at (t ++ [])) text ∙ junction_reads.again k [] i.0 in
        ap (λ (p : Junction × List ℕ). p.0) (same_some (j, []) (k, []) both)
    by_name (Some x) is =
        let y = text_by_name k (λ rest f. named_not_0x j x is rest (sym (e ∙ f))) in
        let whole = sym (regrouped x.0 x.1) ∙ sym (text_named j x is) ∙ e ∙ text_named k y.0 y.1 ∙ regrouped y.0.0 y.0.1 in
        let parts = cut_same x.0 (x.1 ++ codes ")") y.0.0 (y.0.1 ++ codes ")") (named_name j x is).0 (named_name k y.0 y.1).0 whole in
        let inside : x.1 ≡ y.0.1 = append_cancel_right x.1 y.0.1 (codes ")") parts.1 in
        let same : x ≡ y.0 = pair_same x y.0 parts.0 inside in
        named_same j k x h i is (y.1 ∙ ap Some (sym same))

junctions_same : (js ks : List Junction) → AllByRecursion IsJunction js → AllByRecursion IsJunction ks → map junction_text js ≡ map junction_text ks → js ≡ ks
junctions_same [] [] h i e = refl
junctions_same [] (k ∷ ks) h i e = absurd (cc e)
junctions_same (j ∷ js) [] h i e = absurd (cc e)
junctions_same (j ∷ js) (k ∷ ks) h i e =
    let head : junction_text j ≡ junction_text k = cc e in
    let tail : map junction_text js ≡ map junction_text ks = cc e in
    rw (junction_same j k h.0 i.0 head, junctions_same js ks h.1 i.1 tail) refl

pub one_location : (text : List ℕ) (l m : Location) → IsTextOf l text → IsTextOf m text → l ≡ m
one_location text l m h k =
    let parts : decimal l.parents ∷ map junction_text l.interior ≡ decimal m.parents ∷ map junction_text m.interior =
    sym (location_parts l h.0) ∙ ap (slice_split (λ b. eqb b 47)) (sym h.1 ∙ k.1) ∙ location_parts m k.0 in
    let first : decimal l.parents ≡ decimal m.parents = cc parts in
    let rest : map junction_text l.interior ≡ map junction_text m.interior = cc parts in
    let parents : l.parents ≡ m.parents = decimal_same l.parents m.parents (omega (arith, h.0.0)) (omega (arith, k.0.0)) first in
    let interior : l.interior ≡ m.interior = junctions_same l.interior m.interior h.0.2 k.0.2 rest in
    rw (parents, interior) refl
