-- The fields of each instruction are those of its index.
use Rattle.std.proofs.Common.{◌≡◌, ◌∙◌, ℕ, ◌+◌, ◌<◌, ◌^◌, Bool, true, List, [], ◌∷◌, ◌++◌, length, Option, refl, sym, subst, append_assoc, arith, inl, inr}
use Rattle.std.specs.Prelude.{codes, decimal, flat_map, IfSome}
use Rattle.std.specs.List.{AllByRecursion}
use Rattle.std.proofs.lemmas.List.{append-nil}
use Rattle.std.proofs.lemmas.Bool.{and_parts}
use Rattle.scale_codec.specs.Spelling.{compact, counted, flag, optional}
use Rattle.locations.specs.declared.grammar.NetworkId.{NetworkId}
use Rattle.locations.specs.declared.grammar.Junction.{Junction}
use Rattle.locations.specs.declared.relative.Location.{Location}
use Rattle.location_wire.specs.Spelling.{network, FitsNetwork, junction, FitsJunction, junctions, FitsJunctions, location, FitsLocation}
use Rattle.location_wire.specs.Texts.{hex_text, path_text, location_text}
use Rattle.asset_lists.specs.declared.units.Asset.{Asset}
use Rattle.asset_lists.specs.declared.filters.Wild.{Wild}
use Rattle.asset_lists.specs.declared.filters.Filter.TheVariants as filters
use Rattle.asset_wire.specs.Spelling.{FitsAsset, asset, assets, FitsAssets, wild, FitsWild, filter}
use Rattle.operands.specs.Texts.{weight_text}
use Rattle.operands.specs.declared.weight.Weight.{Weight}
use Rattle.operands.specs.declared.weight.WeightLimit.{WeightLimit}
use Rattle.operands.specs.declared.origin.OriginKind.{OriginKind}
use Rattle.operands.specs.declared.error.XcmError.{XcmError}
use Rattle.operands.specs.declared.status.MaybeError.{MaybeError}
use Rattle.operands.specs.declared.query.QueryInfo.{QueryInfo}
use Rattle.operands.specs.declared.query.Response.{Response}
use Rattle.operands.specs.declared.query.Response.TheVariants as responses
use Rattle.operands.specs.declared.version.Version.{Version}
use Rattle.xcm_program.specs.declared.instruction.Instruction.TheOpen.{Instruction-F}
use Rattle.xcm_program.specs.Conversions.{is_concrete_id, have_concrete_ids, wild_is_concrete, filter_is_concrete, response_is_concrete}
use Rattle.xcm_program.specs.Indices.{index}
use Rattle.xcm_format.specs.Parts.{weight, FitsWeight, weight_limit, FitsLimit, origin_kind, failure, FitsFailure, bytes, maybe_error, FitsMaybeError, pallet_info, FitsPallet, query_info, FitsInfo, response, FitsResponse}
use Rattle.xcm_format.specs.Programs.{head}
use Rattle.message_text.specs.Names.{name_text}
use Rattle.message_text.specs.Lines.{line}
use Rattle.message_text.specs.Words.{flag_text, origin_kind_text, limit_text, status_text, place_text, failure_text, junction_path_text, network_text, asset_text}
use Rattle.message_text.specs.Fields.{assets_field, wild_text, filter_field, info_field, pallet_text, response_name, response_value, response_lines, response_field}
use Rattle.message_text.specs.Messages.{own_fields}
use Rattle.tree_reading.specs.declared.kinds.Words.{Words}
use Rattle.tree_reading.specs.declared.kinds.Words.TheVariants as words
use Rattle.tree_reading.specs.declared.table.Kind.{Kind}
use Rattle.tree_reading.specs.declared.table.Kind.TheVariants as kinds
use Rattle.tree_reading.specs.Rows.{IsWords}
use Rattle.tree_reading.specs.Puts.{AreBytes}
use Rattle.tree_reading.specs.Assets.{FitsPlaceAsset}
use Rattle.tree_reading.specs.Responses.{FitsValued, valued_text}
use Rattle.tree_reading.specs.Kinds.{Says}
use Rattle.tree_reading.specs.Table.{fields_at_index}
use Rattle.tree_reading.specs.FieldRows.{SaysList, SaysRow, SaysAssets, SaysInfo, SaysAnswer, SaysResponse, SaysField, SaysFields}
use Rattle.tree_reading.specs.Programs.{HasHead}
use Rattle.tree_reading.proofs.Bytes.{bytes_front, bytes_back}
use Rattle.tree_reading.proofs.Visible.{IsPlain, plain_both, plain_words}
use Rattle.tree_reading.proofs.ListRows.{IsFront, words_by, asset_item, pallet_item, list_says}

-- ---- names

-- a plain name that begins with no space
abbrev pub IsName : List ℕ → Type 0
IsName text = IsFront text × IsPlain text

pub name_words : (name : List ℕ) → IsName name → IsWords name
name_words name n = subst IsWords (append-nil name) (words_by name [] n.0 (subst IsPlain (sym (append-nil name)) n.1))

row_words : (name : List ℕ) → IsName name → (value : List ℕ) → IsPlain value → IsWords (name ++ 32 ∷ value)
row_words name n value plain = words_by name (32 ∷ value) n.0 (plain_both name (32 ∷ value) n.1 plain)

-- ---- rows of fields

abbrev row_text : ℕ → List ℕ → List ℕ → List ℕ
row_text n name value = line n (name ++ (codes " " ++ value))

row_says : (v : Version) (kind : Words) (n : ℕ) (name : List ℕ) → IsName name → (value said : List ℕ) → Says v kind value said → SaysRow v kind n name (row_text n name value) said
row_says v kind n name named value said says = record { value = value; are = row_words name named value (plain_words v kind value said says); says = says; is = refl }

-- ---- lists of assets

place_assets : (v : Version) (list : List Asset) → AllByRecursion (FitsAsset v) list → have_concrete_ids list ≡ true → AllByRecursion (FitsPlaceAsset v) list
place_assets v [] fits concrete = tt
place_assets v (a ∷ list) fits concrete = let c = and_parts (is_concrete_id a.id) (have_concrete_ids list) concrete in ((c.0, fits.0), place_assets v list fits.1 c.1)

asset_list : (v : Version) (n : ℕ) (list : List Asset) → FitsAssets v list → have_concrete_ids list ≡ true → AreBytes (assets v list) → SaysList v words.Asset n (flat_map (λ a. line n (asset_text a)) list) (assets v list)
asset_list v n list fits concrete all = list_says v words.Asset asset_text (asset v) (FitsPlaceAsset v) (asset_item v) n list (omega (arith, fits.0.few)) (place_assets v list fits.1 concrete) all

abbrev list_text : ℕ → List ℕ → List Asset → List ℕ
list_text n name list = line n name ++ flat_map (λ a. line (n + 1) (asset_text a)) list

assets_says : (v : Version) (n : ℕ) (name : List ℕ) → IsName name → (list : List Asset) → FitsAssets v list → have_concrete_ids list ≡ true → AreBytes (assets v list) → SaysAssets v n name (list_text n name list) (assets v list)
assets_says v n name named list fits concrete all = record { below = flat_map (λ a. line (n + 1) (asset_text a)) list; named = name_words name named; list = asset_list v (n + 1) list fits concrete all; is = refl }

-- ---- queries, and what answers them

info_says : (v : Version) (n : ℕ) (q : QueryInfo) → FitsInfo q → AreBytes (query_info q) → SaysInfo v n (codes "info") (info_field n q) (query_info q)
unfolding info_field query_info name_text
info_says v n q fits all =
    let two = bytes_front (location q.destination ++ compact q.query_id) (weight q.max_weight) all in
    record {
      place = row_text (n + 1) (codes "destination") (location_text q.destination);
      query = row_text (n + 1) (codes "query_id") (decimal q.query_id);
      most = row_text (n + 1) (codes "max_weight") (weight_text q.max_weight);
      place_said = location q.destination;
      query_said = compact q.query_id;
      most_said = weight q.max_weight;
      named = name_words (codes "info") (refl, refl);
      place_says = row_says v words.Location (n + 1) (codes "destination") (refl, refl) (location_text q.destination) (location q.destination)
          (record { value = q.destination; fits = fits.0; all = bytes_front (location q.destination) (compact q.query_id) two; is = refl; spelled = refl });
      query_says = row_says v words.Number64 (n + 1) (codes "query_id") (refl, refl) (decimal q.query_id) (compact q.query_id)
          (record { value = q.query_id; fits = omega (arith, fits.1); all = bytes_back (location q.destination) (compact q.query_id) two; is = refl; spelled = refl });
      most_says = row_says v words.Weight (n + 1) (codes "max_weight") (refl, refl) (weight_text q.max_weight) (weight q.max_weight)
          (record { value = q.max_weight; fits = fits.2; all = bytes_back (location q.destination ++ compact q.query_id) (weight q.max_weight) all; is = refl; spelled = refl });
      is = refl;
      spelled = refl;
    }

valued_says : (v : Version) (answer : Response) → FitsValued answer → AreBytes (response v answer) → Says v words.Valued (valued_text answer) (response v answer)
valued_says v answer fits all = record { value = answer; fits = fits; all = all; is = refl; spelled = refl }

answer_says : (v : Version) (n : ℕ) (answer : Response) → FitsResponse v answer → response_is_concrete answer ≡ true → AreBytes (response v answer) → SaysAnswer v n (valued_text answer) (response_lines n answer) (response v answer)
unfolding response_name response_value response_lines
answer_says v n responses.Null fits concrete all = inl (refl, refl, refl)
answer_says v n (responses.Assets list) fits concrete all = inr (inl (refl, record { rest = assets v list; says = asset_list v n list fits concrete all.1; is = refl }))
answer_says v n (responses.PalletsInfo pallets) fits concrete all =
    inr (inr (inl (refl, record { rest = counted compact pallet_info pallets; says = list_says v words.Pallet pallet_text pallet_info FitsPallet (pallet_item v) n pallets (omega (arith, fits.0)) fits.1 all.1; is = refl })))
answer_says v n (responses.ExecutionResult failed) fits concrete all = inr (inr (inr (valued_says v (responses.ExecutionResult failed) fits all, refl)))
answer_says v n (responses.Version version) fits concrete all = inr (inr (inr (valued_says v (responses.Version version) fits all, refl)))
answer_says v n (responses.DispatchResult status) fits concrete all = inr (inr (inr (valued_says v (responses.DispatchResult status) fits all, refl)))

plain_answer : (v : Version) (answer : Response) → FitsResponse v answer → AreBytes (response v answer) → IsPlain (valued_text answer)
unfolding response_name response_value
plain_answer v responses.Null fits all = refl
plain_answer v (responses.Assets list) fits all = refl
plain_answer v (responses.PalletsInfo pallets) fits all = refl
plain_answer v (responses.ExecutionResult failed) fits all = plain_words v words.Valued (valued_text (responses.ExecutionResult failed)) (response v (responses.ExecutionResult failed)) (valued_says v (responses.ExecutionResult failed) fits all)
plain_answer v (responses.Version version) fits all = plain_words v words.Valued (valued_text (responses.Version version)) (response v (responses.Version version)) (valued_says v (responses.Version version) fits all)
plain_answer v (responses.DispatchResult status) fits all = plain_words v words.Valued (valued_text (responses.DispatchResult status)) (response v (responses.DispatchResult status)) (valued_says v (responses.DispatchResult status) fits all)

response_says : (v : Version) (n : ℕ) (answer : Response) → FitsResponse v answer → response_is_concrete answer ≡ true → AreBytes (response v answer) → SaysResponse v n (codes "response") (response_field n answer) (response v answer)
unfolding name_text
response_says v n answer fits concrete all =
    record { value = valued_text answer; below = response_lines (n + 1) answer; are = row_words (codes "response") (refl, refl) (valued_text answer) (plain_answer v answer fits all); says = answer_says v (n + 1) answer fits concrete all; is = refl }

-- ---- a field, where its spelling is of bytes

record IsField (v : Version) (n : ℕ) (name : List ℕ) (kind : Kind) (text said : List ℕ) : Type 0 where
  pub says : AreBytes said → SaysField v kind n name text said

assets_field_is : (v : Version) (n : ℕ) (name : List ℕ) → IsName name → (list : List Asset) → FitsAssets v list → have_concrete_ids list ≡ true → IsField v n name kinds.Assets (list_text n name list) (assets v list)
assets_field_is v n name named list fits concrete = record { says = assets_says v n name named list fits concrete }

definite_field_is : (v : Version) (n : ℕ) (name : List ℕ) → IsName name → (list : List Asset) → FitsAssets v list → have_concrete_ids list ≡ true → IsField v n name kinds.Filter (list_text n name list) (filter v (filters.Definite list))
definite_field_is v n name named list fits concrete = record { says = λ all. inl (record { rest = assets v list; says = assets_says v n name named list fits concrete all.1; is = refl }) }

wild_field_is : (v : Version) (n : ℕ) (name : List ℕ) → IsName name → (which : Wild) → FitsWild v which → wild_is_concrete which ≡ true → IsField v n name kinds.Filter (row_text n name (wild_text which)) (filter v (filters.Wild which))
wild_field_is v n name named which fits concrete = record {
  says = λ all. inr (record {
    rest = wild v which;
    says = row_says v words.Wild n name named (wild_text which) (wild v which) (record { value = which; fits = (concrete, fits); all = all.1; is = refl; spelled = refl });
    is = refl;
  });
}

info_field_is : (v : Version) (n : ℕ) (query : QueryInfo) → FitsInfo query → IsField v n (codes "info") kinds.Info (info_field n query) (query_info query)
info_field_is v n query fits = record { says = info_says v n query fits }

response_field_is : (v : Version) (n : ℕ) (answer : Response) → FitsResponse v answer → response_is_concrete answer ≡ true → IsField v n (codes "response") kinds.Response (response_field n answer) (response v answer)
response_field_is v n answer fits concrete = record { says = response_says v n answer fits concrete }

location_field_is : (v : Version) (n : ℕ) (name : List ℕ) → IsName name → (place : Location) → FitsLocation place → IsField v n name (kinds.Row words.Location) (row_text n name (location_text place)) (location place)
location_field_is v n name named place fits = record { says = λ all. row_says v words.Location n name named (location_text place) (location place) (record { value = place; fits = fits; all = all; is = refl; spelled = refl }) }

place_field_is : (v : Version) (n : ℕ) (name : List ℕ) → IsName name → (asker : Option Location) → IfSome asker FitsLocation → IsField v n name (kinds.Row words.LocationOrNone) (row_text n name (place_text asker)) (optional location asker)
place_field_is v n name named asker fits = record { says = λ all. row_says v words.LocationOrNone n name named (place_text asker) (optional location asker) (record { value = asker; fits = fits; all = all; is = refl; spelled = refl }) }

asset_field_is : (v : Version) (n : ℕ) (name : List ℕ) → IsName name → (goods : Asset) → FitsAsset v goods → is_concrete_id goods.id ≡ true → IsField v n name (kinds.Row words.Asset) (row_text n name (asset_text goods)) (asset v goods)
asset_field_is v n name named goods fits concrete = record { says = λ all. row_says v words.Asset n name named (asset_text goods) (asset v goods) (record { value = goods; fits = (concrete, fits); all = all; is = refl; spelled = refl }) }

number32_field_is : (v : Version) (n : ℕ) (name : List ℕ) → IsName name → (k : ℕ) → k < 2 ^ 32 → IsField v n name (kinds.Row words.Number32) (row_text n name (decimal k)) (compact k)
number32_field_is v n name named k fits = record { says = λ all. row_says v words.Number32 n name named (decimal k) (compact k) (record { value = k; fits = omega (arith, fits); all = all; is = refl; spelled = refl }) }

number64_field_is : (v : Version) (n : ℕ) (name : List ℕ) → IsName name → (k : ℕ) → k < 2 ^ 64 → IsField v n name (kinds.Row words.Number64) (row_text n name (decimal k)) (compact k)
number64_field_is v n name named k fits = record { says = λ all. row_says v words.Number64 n name named (decimal k) (compact k) (record { value = k; fits = omega (arith, fits); all = all; is = refl; spelled = refl }) }

weight_field_is : (v : Version) (n : ℕ) (name : List ℕ) → IsName name → (w : Weight) → FitsWeight w → IsField v n name (kinds.Row words.Weight) (row_text n name (weight_text w)) (weight w)
weight_field_is v n name named w fits = record { says = λ all. row_says v words.Weight n name named (weight_text w) (weight w) (record { value = w; fits = fits; all = all; is = refl; spelled = refl }) }

limit_field_is : (v : Version) (n : ℕ) (name : List ℕ) → IsName name → (most : WeightLimit) → FitsLimit most → IsField v n name (kinds.Row words.Limit) (row_text n name (limit_text most)) (weight_limit most)
limit_field_is v n name named most fits = record { says = λ all. row_says v words.Limit n name named (limit_text most) (weight_limit most) (record { value = most; fits = fits; all = all; is = refl; spelled = refl }) }

origin_field_is : (v : Version) (n : ℕ) (name : List ℕ) → IsName name → (kind : OriginKind) → IsField v n name (kinds.Row words.OriginKind) (row_text n name (origin_kind_text kind)) (origin_kind kind)
origin_field_is v n name named kind = record { says = λ all. row_says v words.OriginKind n name named (origin_kind_text kind) (origin_kind kind) (record { value = kind; fits = tt; all = all; is = refl; spelled = refl }) }

bytes_field_is : (v : Version) (n : ℕ) (name : List ℕ) → IsName name → (b : List ℕ) → IsField v n name (kinds.Row words.Bytes) (row_text n name (hex_text b)) (bytes b)
bytes_field_is v n name named b = record { says = λ all. row_says v words.Bytes n name named (hex_text b) (bytes b) (record { value = b; fits = tt; all = all; is = refl; spelled = refl }) }

topic_field_is : (v : Version) (n : ℕ) (name : List ℕ) → IsName name → (b : List ℕ) → length b ≡ 32 → IsField v n name (kinds.Row words.Topic) (row_text n name (hex_text b)) b
topic_field_is v n name named b fits = record { says = λ all. row_says v words.Topic n name named (hex_text b) b (record { value = b; fits = fits; all = all; is = refl; spelled = refl }) }

path_field_is : (v : Version) (n : ℕ) (name : List ℕ) → IsName name → (path : List Junction) → FitsJunctions path → IsField v n name (kinds.Row words.Path) (row_text n name (path_text path)) (junctions path)
path_field_is v n name named path fits = record { says = λ all. row_says v words.Path n name named (path_text path) (junctions path) (record { value = path; fits = fits; all = all; is = refl; spelled = refl }) }

junction_field_is : (v : Version) (n : ℕ) (name : List ℕ) → IsName name → (step : Junction) → FitsJunction step → IsField v n name (kinds.Row words.Junction) (row_text n name (junction_path_text step)) (junction step)
junction_field_is v n name named step fits = record { says = λ all. row_says v words.Junction n name named (junction_path_text step) (junction step) (record { value = step; fits = fits; all = all; is = refl; spelled = refl }) }

network_field_is : (v : Version) (n : ℕ) (name : List ℕ) → IsName name → (net : NetworkId) → FitsNetwork net → IsField v n name (kinds.Row words.Network) (row_text n name (network_text net)) (network net)
network_field_is v n name named net fits = record { says = λ all. row_says v words.Network n name named (network_text net) (network net) (record { value = net; fits = fits; all = all; is = refl; spelled = refl }) }

flag_field_is : (v : Version) (n : ℕ) (name : List ℕ) → IsName name → (b : Bool) → IsField v n name (kinds.Row words.Flag) (row_text n name (flag_text b)) (flag b)
flag_field_is v n name named b = record { says = λ all. row_says v words.Flag n name named (flag_text b) (flag b) (record { value = b; fits = tt; all = all; is = refl; spelled = refl }) }

failure_field_is : (v : Version) (n : ℕ) (name : List ℕ) → IsName name → (failed : Option (ℕ × XcmError)) → IfSome failed FitsFailure → IsField v n name (kinds.Row words.Failure) (row_text n name (failure_text failed)) (optional failure failed)
failure_field_is v n name named failed fits = record { says = λ all. row_says v words.Failure n name named (failure_text failed) (optional failure failed) (record { value = failed; fits = fits; all = all; is = refl; spelled = refl }) }

status_field_is : (v : Version) (n : ℕ) (name : List ℕ) → IsName name → (status : MaybeError) → FitsMaybeError status → IsField v n name (kinds.Row words.Status) (row_text n name (status_text status)) (maybe_error status)
status_field_is v n name named status fits = record { says = λ all. row_says v words.Status n name named (status_text status) (maybe_error status) (record { value = status; fits = fits; all = all; is = refl; spelled = refl }) }

-- ---- fields one after the other

record AreFields (v : Version) (n : ℕ) (fields : List (List ℕ × Kind)) (text said : List ℕ) : Type 0 where
  pub says : AreBytes said → SaysFields v n fields text said

no_fields : (v : Version) (n : ℕ) → AreFields v n [] [] []
no_fields v n = record { says = λ all. (refl, refl) }

module _ {v : Version} {n : ℕ} where
  one_field : {a : List ℕ} {k : Kind} {t s : List ℕ} → IsField v n a k t s → AreFields v n ((a, k) ∷ []) t s
  one_field {a} {k} {t} {s} f = record { says = λ all. record { first = t; later = []; first_said = s; later_said = []; first_says = f.says all; later_says = (refl, refl); is = sym (append-nil t); spelled = sym (append-nil s) } }

  -- one before others
  before : {a : List ℕ} {k : Kind} {t s : List ℕ} {fs : List (List ℕ × Kind)} {u r : List ℕ} (said : List ℕ) → said ≡ s ++ r → IsField v n a k t s → AreFields v n fs u r → AreFields v n ((a, k) ∷ fs) (t ++ u) said
  before {a} {k} {t} {s} {fs} {u} {r} said is f g = record {
    says = λ all. let parts = subst AreBytes is all in
        record { first = t; later = u; first_said = s; later_said = r; first_says = f.says (bytes_front s r parts); later_says = g.says (bytes_back s r parts); is = refl; spelled = is };
  }

  two_fields : {a b : List ℕ} {j k : Kind} {t u s r : List ℕ} → IsField v n a j t s → IsField v n b k u r → AreFields v n ((a, j) ∷ (b, k) ∷ []) (t ++ u) (s ++ r)
  two_fields {a} {b} {j} {k} {t} {u} {s} {r} f g = before (s ++ r) refl f (one_field g)

  three_fields : {a b c : List ℕ} {i j k : Kind} {t u w p q r : List ℕ} → IsField v n a i t p → IsField v n b j u q → IsField v n c k w r → AreFields v n ((a, i) ∷ (b, j) ∷ (c, k) ∷ []) (t ++ (u ++ w)) (p ++ q ++ r)
  three_fields {a} {b} {c} {i} {j} {k} {t} {u} {w} {p} {q} {r} f g h = before (p ++ q ++ r) (append_assoc p q r) f (two_fields g h)

  four_fields : {a b c d : List ℕ} {h i j k : Kind} {t u w x p q r s : List ℕ} → IsField v n a h t p → IsField v n b i u q → IsField v n c j w r → IsField v n d k x s
      → AreFields v n ((a, h) ∷ (b, i) ∷ (c, j) ∷ (d, k) ∷ []) (t ++ (u ++ (w ++ x))) (p ++ q ++ r ++ s)
  four_fields {a} {b} {c} {d} {h} {i} {j} {k} {t} {u} {w} {x} {p} {q} {r} {s} e f g l =
      before (p ++ q ++ r ++ s) (append_assoc (p ++ q) r s ∙ append_assoc p q (r ++ s)) e (before (q ++ (r ++ s)) refl f (two_fields g l))

  five_fields : {a b c d e : List ℕ} {g h i j k : Kind} {t u w x y p q r s z : List ℕ} → IsField v n a g t p → IsField v n b h u q → IsField v n c i w r → IsField v n d j x s → IsField v n e k y z
      → AreFields v n ((a, g) ∷ (b, h) ∷ (c, i) ∷ (d, j) ∷ (e, k) ∷ []) (t ++ (u ++ (w ++ (x ++ y)))) (p ++ q ++ r ++ s ++ z)
  five_fields {a} {b} {c} {d} {e} {g} {h} {i} {j} {k} {t} {u} {w} {x} {y} {p} {q} {r} {s} {z} f1 f2 f3 f4 f5 =
      before (p ++ q ++ r ++ s ++ z) (append_assoc (p ++ q ++ r) s z ∙ append_assoc (p ++ q) r (s ++ z) ∙ append_assoc p q (r ++ (s ++ z))) f1
      (before (q ++ (r ++ (s ++ z))) refl f2 (before (r ++ (s ++ z)) refl f3 (two_fields f4 f5)))

-- ---- all instructions

-- an index, and what the fields say
pub record IsHead (v : Version) (n : ℕ) (fields : List (List ℕ × Kind)) (text : List ℕ) (index : ℕ) (whole : List ℕ) : Type 0 where
  pub said : List ℕ
  pub is : whole ≡ index ∷ said
  pub says : SaysFields v n fields text said

says : {v : Version} {n : ℕ} {fields : List (List ℕ × Kind)} {text : List ℕ} {k : ℕ} {said : List ℕ} → AreFields v n fields text said → AreBytes said → IsHead v n fields text k (k ∷ said)
says {v} {n} {fields} {text} {k} {said} f all = record { said = said; is = refl; says = f.says all }

pub head_fields : {X : Type 0} (v : Version) (n : ℕ) (l : Instruction-F X) → HasHead v l → IsHead v n (fields_at_index (index l)) (own_fields n l) (index l) (head v l)
unfolding fields_at_index own_fields head name_text assets_field filter_field
head_fields v n (Instruction-F.WithdrawAsset list) h = says (one_field (assets_field_is v n (codes "assets") (refl, refl) list h.fits h.concrete)) h.all.1
head_fields v n (Instruction-F.ReserveAssetDeposited list) h = says (one_field (assets_field_is v n (codes "assets") (refl, refl) list h.fits h.concrete)) h.all.1
head_fields v n (Instruction-F.ReceiveTeleportedAsset list) h = says (one_field (assets_field_is v n (codes "assets") (refl, refl) list h.fits h.concrete)) h.all.1
head_fields v n (Instruction-F.QueryResponse id answer w asker) h = says (four_fields (number64_field_is v n (codes "query_id") (refl, refl) id h.fits.0) (response_field_is v n answer h.fits.1 h.concrete) (weight_field_is v n (codes "max_weight") (refl, refl) w h.fits.2) (place_field_is v n (codes "querier") (refl, refl) asker h.fits.3)) h.all.1
head_fields v n (Instruction-F.TransferAsset list place) h = says (two_fields (assets_field_is v n (codes "assets") (refl, refl) list h.fits.0 h.concrete) (location_field_is v n (codes "beneficiary") (refl, refl) place h.fits.1)) h.all.1
head_fields v n (Instruction-F.TransferReserveAsset list place _) h = says (two_fields (assets_field_is v n (codes "assets") (refl, refl) list h.fits.0 h.concrete) (location_field_is v n (codes "dest") (refl, refl) place h.fits.1)) h.all.1
head_fields v n (Instruction-F.Transact kind w call) h = says (three_fields (origin_field_is v n (codes "origin_kind") (refl, refl) kind) (weight_field_is v n (codes "require_weight_at_most") (refl, refl) w h.fits.0) (bytes_field_is v n (codes "call") (refl, refl) call)) h.all.1
head_fields v n (Instruction-F.HrmpNewChannelOpenRequest sender size capacity) h = says (three_fields (number32_field_is v n (codes "sender") (refl, refl) sender h.fits.0) (number32_field_is v n (codes "max_message_size") (refl, refl) size h.fits.1) (number32_field_is v n (codes "max_capacity") (refl, refl) capacity h.fits.2)) h.all.1
head_fields v n (Instruction-F.HrmpChannelAccepted recipient) h = says (one_field (number32_field_is v n (codes "recipient") (refl, refl) recipient h.fits)) h.all.1
head_fields v n (Instruction-F.HrmpChannelClosing initiator sender recipient) h = says (three_fields (number32_field_is v n (codes "initiator") (refl, refl) initiator h.fits.0) (number32_field_is v n (codes "sender") (refl, refl) sender h.fits.1) (number32_field_is v n (codes "recipient") (refl, refl) recipient h.fits.2)) h.all.1
head_fields v n Instruction-F.ClearOrigin h = says (no_fields v n) h.all.1
head_fields v n (Instruction-F.DescendOrigin path) h = says (one_field (path_field_is v n (codes "interior") (refl, refl) path h.fits)) h.all.1
head_fields v n (Instruction-F.ReportError query) h = says (one_field (info_field_is v n query h.fits)) h.all.1
head_fields v n (Instruction-F.DepositAsset (filters.Definite some) place) h = says (two_fields (definite_field_is v n (codes "assets") (refl, refl) some h.fits.0 h.concrete) (location_field_is v n (codes "beneficiary") (refl, refl) place h.fits.1)) h.all.1
head_fields v n (Instruction-F.DepositAsset (filters.Wild which) place) h = says (two_fields (wild_field_is v n (codes "assets") (refl, refl) which h.fits.0 h.concrete) (location_field_is v n (codes "beneficiary") (refl, refl) place h.fits.1)) h.all.1
head_fields v n (Instruction-F.DepositReserveAsset (filters.Definite some) place _) h = says (two_fields (definite_field_is v n (codes "assets") (refl, refl) some h.fits.0 h.concrete) (location_field_is v n (codes "dest") (refl, refl) place h.fits.1)) h.all.1
head_fields v n (Instruction-F.DepositReserveAsset (filters.Wild which) place _) h = says (two_fields (wild_field_is v n (codes "assets") (refl, refl) which h.fits.0 h.concrete) (location_field_is v n (codes "dest") (refl, refl) place h.fits.1)) h.all.1
head_fields v n (Instruction-F.ExchangeAsset (filters.Definite some) list maximal) h = says (three_fields (definite_field_is v n (codes "give") (refl, refl) some h.fits.0 (and_parts (filter_is_concrete (filters.Definite some)) (have_concrete_ids list) h.concrete).0) (assets_field_is v n (codes "want") (refl, refl) list h.fits.1 (and_parts (filter_is_concrete (filters.Definite some)) (have_concrete_ids list) h.concrete).1) (flag_field_is v n (codes "maximal") (refl, refl) maximal)) h.all.1
head_fields v n (Instruction-F.ExchangeAsset (filters.Wild which) list maximal) h = says (three_fields (wild_field_is v n (codes "give") (refl, refl) which h.fits.0 (and_parts (filter_is_concrete (filters.Wild which)) (have_concrete_ids list) h.concrete).0) (assets_field_is v n (codes "want") (refl, refl) list h.fits.1 (and_parts (filter_is_concrete (filters.Wild which)) (have_concrete_ids list) h.concrete).1) (flag_field_is v n (codes "maximal") (refl, refl) maximal)) h.all.1
head_fields v n (Instruction-F.InitiateReserveWithdraw (filters.Definite some) place _) h = says (two_fields (definite_field_is v n (codes "assets") (refl, refl) some h.fits.0 h.concrete) (location_field_is v n (codes "reserve") (refl, refl) place h.fits.1)) h.all.1
head_fields v n (Instruction-F.InitiateReserveWithdraw (filters.Wild which) place _) h = says (two_fields (wild_field_is v n (codes "assets") (refl, refl) which h.fits.0 h.concrete) (location_field_is v n (codes "reserve") (refl, refl) place h.fits.1)) h.all.1
head_fields v n (Instruction-F.InitiateTeleport (filters.Definite some) place _) h = says (two_fields (definite_field_is v n (codes "assets") (refl, refl) some h.fits.0 h.concrete) (location_field_is v n (codes "dest") (refl, refl) place h.fits.1)) h.all.1
head_fields v n (Instruction-F.InitiateTeleport (filters.Wild which) place _) h = says (two_fields (wild_field_is v n (codes "assets") (refl, refl) which h.fits.0 h.concrete) (location_field_is v n (codes "dest") (refl, refl) place h.fits.1)) h.all.1
head_fields v n (Instruction-F.ReportHolding query (filters.Definite some)) h = says (two_fields (info_field_is v n query h.fits.0) (definite_field_is v n (codes "assets") (refl, refl) some h.fits.1 h.concrete)) h.all.1
head_fields v n (Instruction-F.ReportHolding query (filters.Wild which)) h = says (two_fields (info_field_is v n query h.fits.0) (wild_field_is v n (codes "assets") (refl, refl) which h.fits.1 h.concrete)) h.all.1
head_fields v n (Instruction-F.BuyExecution fees most) h = says (two_fields (asset_field_is v n (codes "fees") (refl, refl) fees h.fits.0 h.concrete) (limit_field_is v n (codes "limit") (refl, refl) most h.fits.1)) h.all.1
head_fields v n Instruction-F.RefundSurplus h = says (no_fields v n) h.all.1
head_fields v n (Instruction-F.SetErrorHandler _) h = says (no_fields v n) h.all.1
head_fields v n (Instruction-F.SetAppendix _) h = says (no_fields v n) h.all.1
head_fields v n Instruction-F.ClearError h = says (no_fields v n) h.all.1
head_fields v n (Instruction-F.ClaimAsset list place) h = says (two_fields (assets_field_is v n (codes "assets") (refl, refl) list h.fits.0 h.concrete) (location_field_is v n (codes "ticket") (refl, refl) place h.fits.1)) h.all.1
head_fields v n (Instruction-F.Trap code) h = says (one_field (number64_field_is v n (codes "code") (refl, refl) code h.fits)) h.all.1
head_fields v n (Instruction-F.SubscribeVersion id w) h = says (two_fields (number64_field_is v n (codes "query_id") (refl, refl) id h.fits.0) (weight_field_is v n (codes "max_response_weight") (refl, refl) w h.fits.1)) h.all.1
head_fields v n Instruction-F.UnsubscribeVersion h = says (no_fields v n) h.all.1
head_fields v n (Instruction-F.BurnAsset list) h = says (one_field (assets_field_is v n (codes "assets") (refl, refl) list h.fits h.concrete)) h.all.1
head_fields v n (Instruction-F.ExpectAsset list) h = says (one_field (assets_field_is v n (codes "assets") (refl, refl) list h.fits h.concrete)) h.all.1
head_fields v n (Instruction-F.ExpectOrigin place) h = says (one_field (place_field_is v n (codes "origin") (refl, refl) place h.fits)) h.all.1
head_fields v n (Instruction-F.ExpectError failed) h = says (one_field (failure_field_is v n (codes "error") (refl, refl) failed h.fits)) h.all.1
head_fields v n (Instruction-F.ExpectTransactStatus status) h = says (one_field (status_field_is v n (codes "status") (refl, refl) status h.fits)) h.all.1
head_fields v n (Instruction-F.QueryPallet text query) h = says (two_fields (bytes_field_is v n (codes "module_name") (refl, refl) text) (info_field_is v n query h.fits.1)) h.all.1
head_fields v n (Instruction-F.ExpectPallet place text module_text major minor) h = says (five_fields (number32_field_is v n (codes "index") (refl, refl) place h.fits.0) (bytes_field_is v n (codes "name") (refl, refl) text) (bytes_field_is v n (codes "module_name") (refl, refl) module_text) (number32_field_is v n (codes "crate_major") (refl, refl) major h.fits.3) (number32_field_is v n (codes "min_crate_minor") (refl, refl) minor h.fits.4)) h.all.1
head_fields v n (Instruction-F.ReportTransactStatus query) h = says (one_field (info_field_is v n query h.fits)) h.all.1
head_fields v n Instruction-F.ClearTransactStatus h = says (no_fields v n) h.all.1
head_fields v n (Instruction-F.UniversalOrigin step) h = says (one_field (junction_field_is v n (codes "junction") (refl, refl) step h.fits)) h.all.1
head_fields v n (Instruction-F.ExportMessage net path _) h = says (two_fields (network_field_is v n (codes "network") (refl, refl) net h.fits.0) (path_field_is v n (codes "destination") (refl, refl) path h.fits.1)) h.all.1
head_fields v n (Instruction-F.LockAsset goods place) h = says (two_fields (asset_field_is v n (codes "asset") (refl, refl) goods h.fits.0 h.concrete) (location_field_is v n (codes "unlocker") (refl, refl) place h.fits.1)) h.all.1
head_fields v n (Instruction-F.UnlockAsset goods place) h = says (two_fields (asset_field_is v n (codes "asset") (refl, refl) goods h.fits.0 h.concrete) (location_field_is v n (codes "target") (refl, refl) place h.fits.1)) h.all.1
head_fields v n (Instruction-F.NoteUnlockable goods place) h = says (two_fields (asset_field_is v n (codes "asset") (refl, refl) goods h.fits.0 h.concrete) (location_field_is v n (codes "owner") (refl, refl) place h.fits.1)) h.all.1
head_fields v n (Instruction-F.RequestUnlock goods place) h = says (two_fields (asset_field_is v n (codes "asset") (refl, refl) goods h.fits.0 h.concrete) (location_field_is v n (codes "locker") (refl, refl) place h.fits.1)) h.all.1
head_fields v n (Instruction-F.SetFeesMode jit_withdraw) h = says (one_field (flag_field_is v n (codes "jit_withdraw") (refl, refl) jit_withdraw)) h.all.1
head_fields v n (Instruction-F.SetTopic topic) h = says (one_field (topic_field_is v n (codes "topic") (refl, refl) topic h.fits)) h.all.1
head_fields v n Instruction-F.ClearTopic h = says (no_fields v n) h.all.1
head_fields v n (Instruction-F.AliasOrigin place) h = says (one_field (location_field_is v n (codes "target") (refl, refl) place h.fits)) h.all.1
head_fields v n (Instruction-F.UnpaidExecution most place) h = says (two_fields (limit_field_is v n (codes "limit") (refl, refl) most h.fits.0) (place_field_is v n (codes "check_origin") (refl, refl) place h.fits.1)) h.all.1
