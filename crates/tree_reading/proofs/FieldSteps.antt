-- Fields as they are read, one after the other.
use Rattle.std.proofs.Common.{◌≡◌, ◌∙◌, ℕ, zero, suc, ◌+◌, ◌<◌, ◌≤◌, false, eqb, length-append, inl, inr, List, [], ◌∷◌, ◌++◌, length, map, drop, get_or, refl, sym, ap, append_assoc, arith}
use Rattle.std.specs.Prelude.{codes, decimal}
use Rattle.std.specs.Borrow.{Bor}
use Rattle.std.proofs.lemmas.List.{append-nil}
use Rattle.operands.specs.declared.query.Response.{Response}
use Rattle.operands.specs.declared.query.Response.TheVariants as responses
use Rattle.operands.specs.declared.version.Version.{Version}
use Rattle.message_text.specs.Fields.{response_name, response_value}
use Rattle.message_text.specs.Words.{failure_text, status_text}
use Rattle.tree_reading.specs.declared.kinds.Words.TheVariants as words
use Rattle.tree_reading.specs.declared.table.Kind.{Kind}
use Rattle.tree_reading.specs.Rows.{IsOutside}
use Rattle.tree_reading.specs.Responses.{FitsValued, valued_text}
use Rattle.tree_reading.specs.Kinds.{Says}
use Rattle.tree_reading.specs.FieldRows.{SaysList, SaysAs, SaysAnswer, SaysField, SaysFields}
use Rattle.tree_reading.proofs.Behind.{unlike}
use Rattle.tree_reading.proofs.Following.{outside_fields}

-- ---- answers, by what is on their row

-- it begins with none of the letters that names of values begin with
abbrev Begins : List ℕ → Type 0
Begins text = (eqb (get_or text 0 0) 69 ≡ false) × (eqb (get_or text 0 0) 86 ≡ false) × (eqb (get_or text 0 0) 68 ≡ false)

no_value : (text : List ℕ) (answer : Response) → FitsValued answer → Begins text → text ≡ valued_text answer → ⊥
unfolding response_name response_value
no_value text responses.Null fits other e = fits
no_value text (responses.Assets list) fits other e = fits
no_value text (responses.PalletsInfo list) fits other e = fits
no_value text (responses.ExecutionResult o) fits other e = unlike text (codes "ExecutionResult " ++ failure_text o) 0 e other.0
no_value text (responses.Version n) fits other e = unlike text (codes "Version " ++ decimal n) 0 e other.1
no_value text (responses.DispatchResult s) fits other e = unlike text (codes "DispatchResult " ++ status_text s) 0 e other.2

pub answer_null : (v : Version) (level : ℕ) (text below said : List ℕ) → text ≡ codes "Null" → SaysAnswer v level text below said → (below ≡ []) × (said ≡ 0 ∷ [])
answer_null v level text below said is (inl a) = (a.1, a.2)
answer_null v level text below said is (inr (inl a)) = absurd (unlike (codes "Null") (codes "Assets") 0 (sym is ∙ a.0) refl)
answer_null v level text below said is (inr (inr (inl a))) = absurd (unlike (codes "Null") (codes "PalletsInfo") 0 (sym is ∙ a.0) refl)
answer_null v level text below said is (inr (inr (inr a))) = absurd (no_value (codes "Null") a.0.value a.0.fits (refl, refl, refl) (sym is ∙ a.0.is))

pub answer_assets : (v : Version) (level : ℕ) (text below said : List ℕ) → text ≡ codes "Assets" → SaysAnswer v level text below said → SaysAs 1 (SaysList v words.Asset level below) said
answer_assets v level text below said is (inl a) = absurd (unlike (codes "Assets") (codes "Null") 0 (sym is ∙ a.0) refl)
answer_assets v level text below said is (inr (inl a)) = a.1
answer_assets v level text below said is (inr (inr (inl a))) = absurd (unlike (codes "Assets") (codes "PalletsInfo") 0 (sym is ∙ a.0) refl)
answer_assets v level text below said is (inr (inr (inr a))) = absurd (no_value (codes "Assets") a.0.value a.0.fits (refl, refl, refl) (sym is ∙ a.0.is))

pub answer_pallets : (v : Version) (level : ℕ) (text below said : List ℕ) → text ≡ codes "PalletsInfo" → SaysAnswer v level text below said → SaysAs 4 (SaysList v words.Pallet level below) said
answer_pallets v level text below said is (inl a) = absurd (unlike (codes "PalletsInfo") (codes "Null") 0 (sym is ∙ a.0) refl)
answer_pallets v level text below said is (inr (inl a)) = absurd (unlike (codes "PalletsInfo") (codes "Assets") 0 (sym is ∙ a.0) refl)
answer_pallets v level text below said is (inr (inr (inl a))) = a.1
answer_pallets v level text below said is (inr (inr (inr a))) = absurd (no_value (codes "PalletsInfo") a.0.value a.0.fits (refl, refl, refl) (sym is ∙ a.0.is))

pub answer_valued : (v : Version) (level : ℕ) (text below said : List ℕ) → (text ≡ codes "Null" → ⊥) → (text ≡ codes "Assets" → ⊥) → (text ≡ codes "PalletsInfo" → ⊥) → SaysAnswer v level text below said
    → Says v words.Valued text said × (below ≡ [])
answer_valued v level text below said null assets pallets (inl a) = absurd (null a.0)
answer_valued v level text below said null assets pallets (inr (inl a)) = absurd (assets a.0)
answer_valued v level text below said null assets pallets (inr (inr (inl a))) = absurd (pallets a.0)
answer_valued v level text below said null assets pallets (inr (inr (inr a))) = a

-- ---- fields still to be read

-- a field as its name and its kind
abbrev pub seen : Bor (List ℕ) × Kind → List ℕ × Kind
seen f = (f.0.now, f.1)

pub record FieldsLeft (v : Version) (level : ℕ) (fields : List (Bor (List ℕ) × Kind)) (rest rows old out said : List ℕ) : Type 0 where
  pub todo : List ℕ
  pub todo_said : List ℕ
  pub says : SaysFields v level (map seen fields) todo todo_said
  pub rows_are : rows ≡ todo ++ rest
  pub out_is : out ++ todo_said ≡ old ++ said

-- the next of them
pub record FieldNext (v : Version) (level : ℕ) (field : Bor (List ℕ) × Kind) (fields : List (Bor (List ℕ) × Kind)) (rest rows old out said : List ℕ) : Type 0 where
  pub first : List ℕ
  pub first_said : List ℕ
  pub after : List ℕ
  pub says : SaysField v field.1 level field.0.now first first_said
  pub outside : IsOutside (level + 1) after
  pub is : rows ≡ first ++ after
  pub goes_on : (rows_then out_then : List ℕ) → rows_then ≡ after → out_then ≡ out ++ first_said → FieldsLeft v level fields rest rows_then old out_then said

pub field_next : (v : Version) (level : ℕ) (field : Bor (List ℕ) × Kind) (fields : List (Bor (List ℕ) × Kind)) (rest rows old out said : List ℕ) → FieldsLeft v level (field ∷ fields) rest rows old out said → IsOutside (level + 1) rest
    → FieldNext v level field fields rest rows old out said
field_next v level field fields rest rows old out said l outside =
    let s = l.says in
    record {
      first = s.first;
      first_said = s.first_said;
      after = s.later ++ rest;
      says = s.first_says;
      outside = outside_fields v level (map seen fields) s.later s.later_said rest s.later_says outside;
      is = l.rows_are ∙ ap (λ t. t ++ rest) s.is ∙ append_assoc s.first s.later rest;
      goes_on = λ rows_then out_then a b. record {
        todo = s.later;
        todo_said = s.later_said;
        says = s.later_says;
        rows_are = a;
        out_is = ap (λ t. t ++ s.later_said) b ∙ append_assoc out s.first_said s.later_said ∙ ap (λ t. out ++ t) (sym s.spelled) ∙ l.out_is;
      };
    }

pub fields_done : (v : Version) (level : ℕ) (rest rows old out said : List ℕ) → FieldsLeft v level [] rest rows old out said → (rows ≡ rest) × (out ≡ old ++ said)
fields_done v level rest rows old out said l = (l.rows_are ∙ ap (λ t. t ++ rest) l.says.0, sym (append-nil out) ∙ ap (λ t. out ++ t) (sym l.says.1) ∙ l.out_is)

-- the fields from a place on
pub fields_from : (fields : List (Bor (List ℕ) × Kind)) (k : ℕ) (d : Bor (List ℕ) × Kind) → k < length fields → drop k fields ≡ get_or fields k d ∷ drop (k + 1) fields
fields_from [] k d lt = absurd (omega (arith, lt))
fields_from (f ∷ fields) zero d lt = refl
fields_from (f ∷ fields) (suc k) d lt =
    let more : suc (k + 1) ≡ suc k + 1 = omega arith in
    fields_from fields k d (omega (arith, lt)) ∙ ap (λ (n : ℕ). get_or fields k d ∷ drop n (f ∷ fields)) more

pub fields_out : (fields : List (Bor (List ℕ) × Kind)) (k : ℕ) → length fields ≤ k → drop k fields ≡ []
fields_out [] zero le = refl
fields_out [] (suc k) le = refl
fields_out (f ∷ fields) zero le = absurd (omega (arith, le))
fields_out (f ∷ fields) (suc k) le = fields_out fields k (omega (arith, le))

-- no text is its own front
pub no_longer : (name value : List ℕ) → name ≡ name ++ 32 ∷ value → ⊥
no_longer name value e = omega (arith, ap length e, length-append name (32 ∷ value))
