-- Lists whose items have a row each, and words of rows.
use Rattle.std.proofs.Common.{◌≡◌, ◌∙◌, ℕ, ◌+◌, ◌%◌, ◌<◌, ◌^◌, true, List, [], ◌∷◌, ◌++◌, length, get_or, map, refl, sym, ap, subst, append_assoc, arith, length-append}
use Rattle.std.specs.Prelude.{codes, decimal, flat_map}
use Rattle.std.specs.List.{AllByRecursion, list_all}
use Rattle.std.proofs.lemmas.Bool.{and_parts}
use Rattle.std.proofs.lemmas.Fmt.{decimal_by_steps_wide}
use Rattle.std.proofs.lemmas.List.{length-map}
use Rattle.scale_codec.specs.Spelling.{compact, counted, joined}
use Rattle.asset_lists.specs.declared.units.AssetId.{AssetId}
use Rattle.asset_lists.specs.declared.units.AssetId.TheVariants.{Concrete, Abstract}
use Rattle.asset_lists.specs.declared.units.Asset.{Asset}
use Rattle.locations.specs.declared.relative.Location.{Location}
use Rattle.location_wire.specs.Texts.{hex_text, path_step_text}
use Rattle.asset_wire.specs.Spelling.{asset_id, asset, fun}
use Rattle.operands.specs.declared.pallet.PalletInfo.{PalletInfo}
use Rattle.operands.specs.declared.version.Version.{Version}
use Rattle.operands.specs.declared.version.Version.TheVariants.{V3, V4}
use Rattle.xcm_format.specs.Parts.{pallet_info, FitsPallet}
use Rattle.message_text.specs.Lines.{line}
use Rattle.message_text.specs.Words.{id_text, fun_text, asset_text}
use Rattle.message_text.specs.Fields.{pallet_text}
use Rattle.tree_reading.specs.declared.kinds.Words.{Words}
use Rattle.tree_reading.specs.declared.kinds.Words.TheVariants as kinds
use Rattle.tree_reading.specs.Rows.{is_solid, IsSolid, IsWords}
use Rattle.tree_reading.specs.Puts.{AreBytes}
use Rattle.tree_reading.specs.Assets.{FitsPlaceId, FitsPlaceAsset}
use Rattle.tree_reading.specs.Kinds.{Says}
use Rattle.tree_reading.specs.Took.{AreItems, rows_text, items_said}
use Rattle.tree_reading.specs.FieldRows.{SaysList}
use Rattle.tree_reading.proofs.Bytes.{bytes_front, bytes_back}
use Rattle.tree_reading.proofs.Solid.{solid_decimal}
use Rattle.tree_reading.proofs.Visible.{IsPlain, plain_words}

-- ---- words

-- it begins with a byte that is no space
abbrev pub IsFront : List ℕ → Type 0
IsFront [] = ⊥
IsFront (b ∷ bs) = is_solid b ≡ true

no_space : (b : ℕ) → is_solid b ≡ true → b ≡ 32 → ⊥
no_space b h e = let space : is_solid 32 ≡ true = subst (λ n. is_solid n ≡ true) e h in absurd (cc space)

pub words_by : (front more : List ℕ) → IsFront front → IsPlain (front ++ more) → IsWords (front ++ more)
words_by [] more h plain = absurd h
words_by (b ∷ bs) more h plain = record { plain = plain; front = λ rest e. no_space b h (ap (λ t. get_or t 0 0) e) }

front_solid : (text : List ℕ) → IsSolid text → 0 < length text → IsFront text
front_solid [] h some = absurd (omega (arith, some))
front_solid (b ∷ bs) h some = (and_parts (is_solid b) (list_all is_solid bs) h).0

front_more : (text more : List ℕ) → IsFront text → IsFront (text ++ more)
front_more [] more h = absurd h
front_more (b ∷ bs) more h = h

some_decimal : (n : ℕ) → n < 10 ^ 64 → 0 < length (decimal n)
some_decimal n lt = decimal_by_steps_wide (λ n ds. 0 < length ds) (λ n few. omega arith) (λ n ds more h. omega (arith, h, length-append ds ((48 + n % 10) ∷ []))) n lt

front_decimal : (n : ℕ) → n < 10 ^ 64 → IsFront (decimal n)
front_decimal n lt = front_solid (decimal n) (solid_decimal n lt) (some_decimal n lt)

few_parents : (v : Version) (place : Location) → FitsPlaceId v (Concrete place) → place.parents < 10 ^ 64
few_parents V3 place fits = omega (arith, fits.1.0)
few_parents V4 place fits = omega (arith, fits.1.0)

front_id : (v : Version) (id : AssetId) → FitsPlaceId v id → AreBytes (asset_id v id) → IsFront (id_text id)
unfolding id_text
front_id v (Concrete place) fits all = front_more (decimal place.parents) (joined (map path_step_text place.interior)) (front_decimal place.parents (few_parents v place fits))
front_id v (Abstract b) fits all = absurd (cc fits.0)

-- ---- items

abbrev pub IsItem : {X : Type 0} → Version → Words → (X → List ℕ) → (X → List ℕ) → X → Type 0
IsItem v kind text spelling x = IsWords (text x) × Says v kind (text x) (spelling x)

id_bytes : (v : Version) (a : Asset) → AreBytes (asset v a) → AreBytes (asset_id v a.id)
unfolding asset
id_bytes v a h = bytes_front (asset_id v a.id) (fun a.fun) h

pub asset_item : (v : Version) (a : Asset) → FitsPlaceAsset v a → AreBytes (asset v a) → IsItem v kinds.Asset asset_text (asset v) a
asset_item v a fits all =
    let says : Says v kinds.Asset (asset_text a) (asset v a) = record { value = a; fits = fits; all = all; is = refl; spelled = refl } in
    let text : asset_text a ≡ id_text a.id ++ (codes " " ++ fun_text a.fun) = append_assoc (id_text a.id) (codes " ") (fun_text a.fun) in
    let plain = plain_words v kinds.Asset (asset_text a) (asset v a) says in
    (subst IsWords (sym text) (words_by (id_text a.id) (codes " " ++ fun_text a.fun) (front_id v a.id (fits.0, fits.1.0) (id_bytes v a all)) (subst IsPlain text plain)), says)

pallet_words : (p : PalletInfo) → FitsPallet p → IsPlain (pallet_text p) → IsWords (pallet_text p)
unfolding pallet_text
pallet_words p fits plain =
    words_by (decimal p.index) (codes " " ++ (hex_text p.name ++ (codes " " ++ (hex_text p.module_name ++ (codes " " ++ (decimal p.major ++ (codes "." ++ (decimal p.minor ++ (codes "." ++ decimal p.patch)))))))))
    (front_decimal p.index (omega (arith, fits.0))) plain

pub pallet_item : (v : Version) (p : PalletInfo) → FitsPallet p → AreBytes (pallet_info p) → IsItem v kinds.Pallet pallet_text pallet_info p
pallet_item v p fits all =
    let says : Says v kinds.Pallet (pallet_text p) (pallet_info p) = record { value = p; fits = fits; all = all; is = refl; spelled = refl } in
    (pallet_words p fits (plain_words v kinds.Pallet (pallet_text p) (pallet_info p) says), says)

-- ---- lists

module _ {X : Type 0} (v : Version) (kind : Words) (text spelling : X → List ℕ) (Fits : X → Type 0) (item : (x : X) → Fits x → AreBytes (spelling x) → IsItem v kind text spelling x) where
  abbrev pairs : List X → List (List ℕ × List ℕ)
  pairs xs = map (λ x. (text x, spelling x)) xs

  items_are : (xs : List X) → AllByRecursion Fits xs → AreBytes (joined (map spelling xs)) → AreItems v kind (pairs xs)
  items_are [] fits all = tt
  items_are (x ∷ xs) fits all =
      let i = item x fits.0 (bytes_front (spelling x) (joined (map spelling xs)) all) in
      ((i.0, i.1), items_are xs fits.1 (bytes_back (spelling x) (joined (map spelling xs)) all))

  rows_are : (level : ℕ) (xs : List X) → flat_map (λ x. line level (text x)) xs ≡ rows_text level (pairs xs)
  rows_are level [] = refl
  rows_are level (x ∷ xs) = ap (λ t. line level (text x) ++ t) (rows_are level xs)

  said_is : (xs : List X) → joined (map spelling xs) ≡ items_said (pairs xs)
  said_is [] = refl
  said_is (x ∷ xs) = ap (λ t. spelling x ++ t) (said_is xs)

  -- how many, and these
  pub list_says : (level : ℕ) (xs : List X) → length xs < 2 ^ 32 → AllByRecursion Fits xs → AreBytes (counted compact spelling xs) → SaysList v kind level (flat_map (λ x. line level (text x)) xs) (counted compact spelling xs)
  list_says level xs few fits all =
      let long : length (pairs xs) ≡ length xs = length-map xs (λ x. (text x, spelling x)) in
      record {
        items = pairs xs;
        are = items_are xs fits (bytes_back (compact (length xs)) (joined (map spelling xs)) all);
        few = omega (arith, long, few);
        is = rows_are level xs;
        spelled = ap (λ t. compact (length xs) ++ t) (said_is xs) ∙ ap (λ (n : ℕ). compact n ++ items_said (pairs xs)) (sym long);
      }
