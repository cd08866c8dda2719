-- Locations and paths.
use Rattle.std.proofs.Common.{◌≡◌, ◌∙◌, ℕ, ◌+◌, ◌%◌, ◌<◌, ◌≤◌, ◌^◌, List, [], ◌∷◌, ◌++◌, length, get_or, map, Option, Some, None, refl, sym, ap, subst, lit<, arith, length-append}
use Rattle.std.specs.Prelude.{codes, decimal}
use Rattle.std.specs.List.{AllByRecursion}
use Rattle.std.proofs.lemmas.List.{append-nil}
use Rattle.std.proofs.lemmas.Fmt.{decimal_by_steps_wide, decimal_digit}
use Rattle.scale_codec.specs.Spelling.{joined}
use Rattle.locations.specs.declared.grammar.Junction.{Junction}
use Rattle.locations.specs.declared.relative.Location.{Location}
use Rattle.location_wire.specs.Spelling.{junction, FitsJunction, junctions, FitsJunctions, location, FitsLocation}
use Rattle.location_wire.specs.Texts.{IsJunction, IsLocation, named, shown, junction_text, path_step_text, path_text, location_text}
use Rattle.tree_reading.specs.Puts.{AreBytes}
use Rattle.tree_reading.proofs.Bytes.{bytes_front, bytes_back}

-- ---- values of the types

junctions_are : (js : List Junction) → AllByRecursion FitsJunction js → AreBytes (joined (map junction js)) → AllByRecursion IsJunction js
junctions_are [] fits bytes = tt
junctions_are (j ∷ js) fits bytes =
    let rest = joined (map junction js) in
    ((fits.0, bytes_front (junction j) rest bytes), junctions_are js fits.1 (bytes_back (junction j) rest bytes))

pub is_location : (l : Location) → FitsLocation l → AreBytes (location l) → IsLocation l
is_location l fits bytes = (fits.0, fits.1.0, junctions_are l.interior fits.1.1 bytes.1.1)

-- from where a path begins
abbrev pub as_place : List Junction → Location
as_place path = record { parents = 0; interior = path }

pub is_place : (path : List Junction) → FitsJunctions path → AreBytes (junctions path) → IsLocation (as_place path)
is_place path fits bytes = (lit< tt, fits.0, junctions_are path fits.1 bytes.1)

pub one_fits : (j : Junction) → FitsJunction j → FitsJunctions (j ∷ [])
one_fits j fits = (omega arith, (fits, tt))

pub one_bytes : (j : Junction) → AreBytes (junction j) → AreBytes (junctions (j ∷ []))
one_bytes j bytes = (lit< tt, subst AreBytes (sym (append-nil (junction j))) bytes)

-- ---- texts

pub place_text_is : (l : Location) (text : List ℕ) → l.parents ≡ 0 → text ≡ joined (map path_step_text l.interior) → codes "0" ++ text ≡ location_text l
place_text_is l text none e = ap (λ t. codes "0" ++ t) e ∙ ap (λ t. t ++ joined (map path_step_text l.interior)) (sym (decimal_digit 0 (lit< tt)) ∙ ap decimal (sym none))

some_shown : (j : Junction) (o : Option (List ℕ × List ℕ)) → 0 < length (shown j o)
some_shown j None = omega arith
some_shown j (Some x) = omega (arith, length-append (x.0 ++ codes "(" ++ x.1) (codes ")"))

some_text : (j : Junction) → 0 < length (junction_text j)
unfolding junction_text
some_text j = some_shown j (named j)

no_text : (text : List ℕ) → 0 < length text → [] ≡ text → ⊥
no_text [] some e = omega (arith, some)
no_text (b ∷ text) some e = absurd (cc e)

-- a slash alone is the path of no junctions
pub slash_alone : (path : List Junction) → codes "/" ≡ path_text path → [] ≡ path
slash_alone [] e = refl
slash_alone (j ∷ js) e =
    let rest : [] ≡ junction_text j ++ joined (map path_step_text js) = cc e in
    absurd (no_text (junction_text j ++ joined (map path_step_text js)) (omega (arith, length-append (junction_text j) (joined (map path_step_text js)), some_text j)) rest)

-- any other path has some
pub path_steps : (path : List Junction) (text : List ℕ) → (text ≡ codes "/" → ⊥) → text ≡ path_text path → text ≡ joined (map path_step_text path)
path_steps [] text other e = absurd (other e)
path_steps (j ∷ js) text other e = e

-- ---- a number begins with a digit

IsFrontDigit : List ℕ → Type 0
IsFrontDigit [] = ⊥
IsFrontDigit (b ∷ bs) = (48 ≤ b) × (b ≤ 57)

front_stays : (ds more : List ℕ) → IsFrontDigit ds → IsFrontDigit (ds ++ more)
unfolding IsFrontDigit
front_stays [] more h = absurd h
front_stays (d ∷ ds) more h = h

front_digit : (n : ℕ) → n < 10 ^ 64 → IsFrontDigit (decimal n)
unfolding IsFrontDigit
front_digit n lt = decimal_by_steps_wide (λ n ds. IsFrontDigit ds) (λ n few. (omega arith, omega (arith, few))) (λ n ds more h. front_stays ds ((48 + n % 10) ∷ []) h) n lt

no_number : (b : ℕ) (ds word rest : List ℕ) → IsFrontDigit ds → 57 < b → b ∷ word ≡ ds ++ rest → ⊥
unfolding IsFrontDigit
no_number b [] word rest h letter e = h
no_number b (d ∷ ds) word rest h letter e = let same : b ≡ d = ap (λ t. get_or t 0 0) e in omega (arith, same, h.1, letter)

-- a word that begins with a letter is no number with something behind it
pub no_word : (b n : ℕ) (word rest : List ℕ) → n < 10 ^ 64 → 57 < b → b ∷ word ≡ decimal n ++ rest → ⊥
no_word b n word rest lt letter e = no_number b (decimal n) word rest (front_digit n lt) letter e

pub zero_up : (path : List Junction) → (as_place path).parents ≡ 0
zero_up path = refl

pub place_steps : (path : List Junction) (text : List ℕ) → text ≡ joined (map path_step_text path) → text ≡ joined (map path_step_text (as_place path).interior)
place_steps path text e = e
