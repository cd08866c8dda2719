-- The parts of a location's text between its slashes, and what reads hexadecimal digits back.
use Rattle.std.proofs.Common.{◌≡◌, ℕ, zero, suc, ◌+◌, ◌/◌, ◌%◌, ◌^◌, ◌<◌, true, false, not, eqb, List, [], ◌∷◌, ◌++◌, get_or, map, Some, None, Ok, refl, lit<, sym, ap, ◌∙◌, arith}
use Rattle.std.specs.Prelude.{codes}
use Rattle.std.specs.List.{AllByRecursion, slice_split}
use Rattle.std.specs.Fmt.{decimal}
use Rattle.std.proofs.lemmas.Bool.{and_parts, and_from, ne_eqb}
use Rattle.std.proofs.lemmas.List.{append-nil}
use Rattle.std.proofs.lemmas.List.Elements.{All-from_recursion}
use Rattle.std.proofs.lemmas.List.Splits.{slice_split_at, slice_split_none}
use Rattle.std.proofs.lemmas.Fmt.{decimal_by_steps_wide}
use Rattle.hex.specs.Hex.{encode_lower, encode_with, lower_digits, hex_digit_value, IsBytes, decode_of}
use Rattle.hex.proofs.HexLemmas.{IsDigits-lower_digits, decode_of-encode_lower}
use Rattle.scale_codec.specs.Spelling.{joined}
use Rattle.locations.specs.declared.grammar.NetworkId.TheVariants.{ByGenesis, ByFork, Polkadot, Kusama, Westend, Rococo, Wococo, Ethereum, BitcoinCore, BitcoinCash}
use Rattle.locations.specs.declared.grammar.Junction.{Junction}
use Rattle.locations.specs.declared.grammar.Junction.TheVariants.{Parachain, AccountId32, AccountIndex64, AccountKey20, PalletInstance, GeneralIndex, GeneralKey, OnlyChild, Plurality, GlobalConsensus}
use Rattle.location_wire.specs.Spelling.{junction}
use Rattle.locations.specs.declared.relative.Location.{Location}
use Rattle.location_wire.specs.Texts.{hex_text, shown, junction_text, path_step_text, location_text, lacks, IsJunction, IsLocation}
use Rattle.plain_lists.proofs.Lemmas.Facts.{other_byte as not_byte}

-- ---- bytes that a text lacks

lacks-append : (c : ℕ) (xs ys : List ℕ) → lacks c xs ≡ true → lacks c ys ≡ true → lacks c (xs ++ ys) ≡ true
lacks-append c [] ys h k = k
lacks-append c (x ∷ xs) ys h k =
    let p = and_parts (not (eqb x c)) (lacks c xs) h in
    and_from (not (eqb x c)) (lacks c (xs ++ ys)) p.0 (lacks-append c xs ys p.1 k)

lacks-cons : (c x : ℕ) (xs : List ℕ) → (x ≡ c → ⊥) → lacks c xs ≡ true → lacks c (x ∷ xs) ≡ true
lacks-cons c x xs h k = and_from (not (eqb x c)) (lacks c xs) (ap not (ne_eqb x c h)) k

lacks-decimal : (c n : ℕ) → c < 48 → n < 10 ^ 64 → lacks c (decimal n) ≡ true
lacks-decimal c n low lt =
    decimal_by_steps_wide (λ n ds. lacks c ds ≡ true)
    (λ n few. lacks-cons c (48 + n) [] (λ e. omega arith) refl)
    (λ n ds more h. lacks-append c ds ((48 + n % 10) ∷ []) h (lacks-cons c (48 + n % 10) [] (λ e. omega arith) refl)) n lt

no_slash : (d : ℕ) → d < 16 → get_or lower_digits d 0 ≡ 47 → ⊥
no_slash d lt e = let h : hex_digit_value 47 ≡ Some d = ap hex_digit_value (sym e) ∙ IsDigits-lower_digits d lt in absurd (cc h)

abbrev pub AreBytes : List ℕ → Type 0
AreBytes xs = AllByRecursion (λ b. b < 256) xs

lacks-encode : (xs : List ℕ) → AreBytes xs → lacks 47 (encode_lower xs) ≡ true
unfolding encode_with
lacks-encode [] h = refl
lacks-encode (b ∷ xs) h =
    lacks-cons 47 (get_or lower_digits (b / 16) 0) (get_or lower_digits (b % 16) 0 ∷ encode_lower xs) (no_slash (b / 16) (omega (arith, h.0)))
    (lacks-cons 47 (get_or lower_digits (b % 16) 0) (encode_lower xs) (no_slash (b % 16) (omega arith)) (lacks-encode xs h.1))

lacks-hex : (xs : List ℕ) → AreBytes xs → lacks 47 (hex_text xs) ≡ true
lacks-hex xs h = lacks-append 47 (codes "0x") (encode_lower xs) refl (lacks-encode xs h)

lacks-spelled : (j : Junction) → IsJunction j → lacks 47 (shown j None) ≡ true
lacks-spelled j h = lacks-hex (junction j) h.1

lacks-named : (name inside : List ℕ) → lacks 47 name ≡ true → lacks 47 inside ≡ true → lacks 47 (name ++ codes "(" ++ inside ++ codes ")") ≡ true
lacks-named name inside h k = lacks-append 47 (name ++ codes "(" ++ inside) (codes ")") (lacks-append 47 (name ++ codes "(") inside (lacks-append 47 name (codes "(") h refl) k) refl

pub lacks-junction_text : (j : Junction) → IsJunction j → lacks 47 (junction_text j) ≡ true
unfolding junction_text junction
lacks-junction_text (Parachain id) h = lacks-named (codes "Parachain") (decimal id) refl (lacks-decimal 47 id (omega arith) (omega (arith, h.0)))
lacks-junction_text (PalletInstance index) h = lacks-named (codes "PalletInstance") (decimal index) refl (lacks-decimal 47 index (omega arith) (omega (arith, h.0)))
lacks-junction_text (GeneralIndex index) h = lacks-named (codes "GeneralIndex") (decimal index) refl (lacks-decimal 47 index (omega arith) (omega (arith, h.0)))
lacks-junction_text (AccountId32 None id) h = lacks-named (codes "AccountId32") (hex_text id) refl (lacks-hex id h.1.1.1)
lacks-junction_text (AccountId32 (Some net) id) h = lacks-spelled (AccountId32 (Some net) id) h
lacks-junction_text (AccountIndex64 net index) h = lacks-spelled (AccountIndex64 net index) h
lacks-junction_text (AccountKey20 net key) h = lacks-spelled (AccountKey20 net key) h
lacks-junction_text (GeneralKey len key) h = lacks-spelled (GeneralKey len key) h
lacks-junction_text OnlyChild h = lacks-spelled OnlyChild h
lacks-junction_text (Plurality id share) h = lacks-spelled (Plurality id share) h
lacks-junction_text (GlobalConsensus Polkadot) h = refl
lacks-junction_text (GlobalConsensus Kusama) h = refl
lacks-junction_text (GlobalConsensus Westend) h = refl
lacks-junction_text (GlobalConsensus Rococo) h = refl
lacks-junction_text (GlobalConsensus Wococo) h = refl
lacks-junction_text (GlobalConsensus (ByGenesis hash)) h = lacks-spelled (GlobalConsensus (ByGenesis hash)) h
lacks-junction_text (GlobalConsensus (ByFork number hash)) h = lacks-spelled (GlobalConsensus (ByFork number hash)) h
lacks-junction_text (GlobalConsensus (Ethereum chain)) h = lacks-spelled (GlobalConsensus (Ethereum chain)) h
lacks-junction_text (GlobalConsensus BitcoinCore) h = lacks-spelled (GlobalConsensus BitcoinCore) h
lacks-junction_text (GlobalConsensus BitcoinCash) h = lacks-spelled (GlobalConsensus BitcoinCash) h

-- ---- the parts between the slashes

lacking : (c : ℕ) (xs : List ℕ) → lacks c xs ≡ true → AllByRecursion (λ x. eqb x c ≡ false) xs
lacking c [] h = tt
lacking c (x ∷ xs) h = let p = and_parts (not (eqb x c)) (lacks c xs) h in (not_byte c x p.0, lacking c xs p.1)

pub split_steps : (xs : List ℕ) (js : List Junction) → lacks 47 xs ≡ true → AllByRecursion IsJunction js
    → slice_split (λ b. eqb b 47) (xs ++ joined (map path_step_text js)) ≡ xs ∷ map junction_text js
split_steps xs [] h all =
    ap (slice_split (λ b. eqb b 47)) (append-nil xs) ∙ slice_split_none (λ b. eqb b 47) xs (All-from_recursion (λ x. eqb x 47 ≡ false) xs (lacking 47 xs h))
split_steps xs (j ∷ js) h all =
    slice_split_at (λ b. eqb b 47) xs 47 (junction_text j ++ joined (map path_step_text js)) (All-from_recursion (λ x. eqb x 47 ≡ false) xs (lacking 47 xs h)) refl
    ∙ ap (λ (ps : List (List ℕ)). xs ∷ ps) (split_steps (junction_text j) js (lacks-junction_text j all.0) all.1)

pub bytes_at : (xs : List ℕ) → AreBytes xs → IsBytes xs
bytes_at [] h i = lit< tt
bytes_at (x ∷ xs) h zero = h.0
bytes_at (x ∷ xs) h (suc i) = bytes_at xs h.1 i

pub decode_spelled : (xs : List ℕ) → AreBytes xs → decode_of (encode_lower xs) ≡ Ok xs
decode_spelled xs h = decode_of-encode_lower xs (bytes_at xs h)

pub location_parts : (l : Location) → IsLocation l → slice_split (λ b. eqb b 47) (location_text l) ≡ decimal l.parents ∷ map junction_text l.interior
location_parts l h = split_steps (decimal l.parents) l.interior (lacks-decimal 47 l.parents (omega arith) (omega (arith, h.0))) h.2
