-- A list as it is read, row by row.
use Rattle.std.proofs.Common.{◌≡◌, ◌∙◌, ℕ, ◌+◌, Bool, true, false, List, [], ◌∷◌, ◌++◌, length, refl, sym, ap, subst, append_assoc, arith}
use Rattle.std.proofs.lemmas.List.{append-nil}
use Rattle.operands.specs.declared.version.Version.{Version}
use Rattle.message_text.specs.Lines.{line}
use Rattle.tree_reading.specs.declared.kinds.Words.{Words}
use Rattle.tree_reading.specs.Rows.{IsWords, IsOutside}
use Rattle.tree_reading.specs.Kinds.{Says}
use Rattle.tree_reading.specs.Took.{AreItems, rows_text, items_said}

abbrev pub Pairs : Type 0
Pairs = List (List ℕ × List ℕ)

-- what is still to be read of a list
pub record Remains (v : Version) (kind : Words) (level : ℕ) (items : Pairs) (rest rows old out : List ℕ) (count : ℕ) : Type 0 where
  pub todo : Pairs
  pub are : AreItems v kind todo
  pub rows_are : rows ≡ rows_text level todo ++ rest
  pub out_is : out ++ items_said todo ≡ old ++ items_said items
  pub count_is : count + length todo ≡ length items

pub begins : (v : Version) (kind : Words) (level : ℕ) (items : Pairs) (rest rows old : List ℕ) → AreItems v kind items → rows ≡ rows_text level items ++ rest → Remains v kind level items rest rows old old 0
begins v kind level items rest rows old are e = record { todo = items; are = are; rows_are = e; out_is = refl; count_is = omega arith }

abbrev pub Finds : ℕ → List ℕ → Bool → Type 0
Finds level rows has = (words rest : List ℕ) → IsWords words → rows ≡ line level words ++ rest → has ≡ true

abbrev pub Ends : ℕ → List ℕ → Bool → Type 0
Ends level rows has = IsOutside level rows → has ≡ false

-- the next row, where there is one
pub record Next (v : Version) (kind : Words) (level : ℕ) (items : Pairs) (rest rows old out : List ℕ) (count : ℕ) : Type 0 where
  pub words : List ℕ
  pub said : List ℕ
  pub after : List ℕ
  pub are : IsWords words
  pub says : Says v kind words said
  pub is : rows ≡ line level words ++ after
  pub goes_on : (rows_then out_then : List ℕ) → rows_then ≡ after → out_then ≡ out ++ said → Remains v kind level items rest rows_then old out_then (count + 1)

next_of : (v : Version) (kind : Words) (level : ℕ) (items : Pairs) (rest rows old out : List ℕ) (count : ℕ) (todo : Pairs) → AreItems v kind todo → rows ≡ rows_text level todo ++ rest → out ++ items_said todo ≡ old ++ items_said items
    → count + length todo ≡ length items → (has : Bool) → Ends level rows has → has ≡ true → IsOutside level rest → Next v kind level items rest rows old out count
next_of v kind level items rest rows old out count [] are r o n has ends found outside = let none = ends (subst (IsOutside level) (sym r) outside) in absurd (cc (none, found))
next_of v kind level items rest rows old out count (x ∷ todo) are r o n has ends found outside = record {
  words = x.0;
  said = x.1;
  after = rows_text level todo ++ rest;
  are = are.0.0;
  says = are.0.1;
  is = r ∙ append_assoc (line level x.0) (rows_text level todo) rest;
  goes_on = λ rows_then out_then a b. record {
    todo = todo;
    are = are.1;
    rows_are = a;
    out_is = ap (λ t. t ++ items_said todo) b ∙ append_assoc out x.1 (items_said todo) ∙ o;
    count_is = omega (arith, n);
  };
}

pub next : (v : Version) (kind : Words) (level : ℕ) (items : Pairs) (rest rows old out : List ℕ) (count : ℕ) → Remains v kind level items rest rows old out count → (has : Bool) → Ends level rows has → has ≡ true → IsOutside level rest
    → Next v kind level items rest rows old out count
next v kind level items rest rows old out count r has ends found outside = next_of v kind level items rest rows old out count r.todo r.are r.rows_are r.out_is r.count_is has ends found outside

done_of : (v : Version) (kind : Words) (level : ℕ) (items : Pairs) (rest rows old out : List ℕ) (count : ℕ) (todo : Pairs) → AreItems v kind todo → rows ≡ rows_text level todo ++ rest → out ++ items_said todo ≡ old ++ items_said items
    → count + length todo ≡ length items → (has : Bool) → Finds level rows has → has ≡ false → (count ≡ length items) × (rows ≡ rest) × (out ≡ old ++ items_said items)
done_of v kind level items rest rows old out count [] are r o n has finds none = (omega (arith, n), r, sym (append-nil out) ∙ o)
done_of v kind level items rest rows old out count (x ∷ todo) are r o n has finds none =
    let found = finds x.0 (rows_text level todo ++ rest) are.0.0 (r ∙ append_assoc (line level x.0) (rows_text level todo) rest) in
    absurd (cc (found, none))

pub done : (v : Version) (kind : Words) (level : ℕ) (items : Pairs) (rest rows old out : List ℕ) (count : ℕ) → Remains v kind level items rest rows old out count → (has : Bool) → Finds level rows has → has ≡ false
    → (count ≡ length items) × (rows ≡ rest) × (out ≡ old ++ items_said items)
done v kind level items rest rows old out count r has finds none = done_of v kind level items rest rows old out count r.todo r.are r.rows_are r.out_is r.count_is has finds none
