-- Instructions and programs as they are read.
use Rattle.std.proofs.Common.{◌≡◌, ◌∙◌, ℕ, ◌+◌, ◌≤◌, Bool, true, false, List, [], ◌∷◌, ◌++◌, length, map, Option, Some, None, Result, Ok, Err, refl, sym, ap, subst, append_assoc, arith}
use Rattle.std.specs.Prelude.{codes, is_some, OnOk}
use Rattle.std.specs.List.{AllByRecursion}
use Rattle.std.proofs.lemmas.Bool.{and_parts}
use Rattle.std.proofs.lemmas.List.{append-nil, length-map}
use Rattle.scale_codec.specs.Spelling.{compact, joined}
use Rattle.operands.specs.declared.version.Version.{Version}
use Rattle.xcm_program.specs.declared.instruction.Instruction.{Instruction, out-Instruction}
use Rattle.xcm_program.specs.declared.instruction.Instruction.TheOpen.{Instruction-F}
use Rattle.xcm_program.specs.Measure.{inner_of, deep_count_one, deep_count, depth_one, depth, greatest}
use Rattle.xcm_program.specs.Conversions.{names_concrete_ids, is_convertible_one, is_convertible}
use Rattle.xcm_program.specs.Texts.{instruction_name}
use Rattle.xcm_program.proofs.Lemmas.{deep_count_one-is, deep_count_inside, depth_one-is, depth_inside, convertible_inside, is_convertible_one-is}
use Rattle.xcm_format.specs.Programs.{head, behind, instruction_spelling, program_spelling, FitsInstruction}
use Rattle.xcm_format.proofs.Lemmas.{texts, spelling-is, Inside, fits_open}
use Rattle.message_text.specs.Names.{name_text}
use Rattle.message_text.specs.Lines.{line}
use Rattle.message_text.specs.Messages.{own_fields, instruction_text, program_text}
use Rattle.message_text.proofs.Lemmas.{none_text, some_text}
use Rattle.tree_reading.specs.declared.expected.TreeFault.{TreeFault}
use Rattle.tree_reading.specs.Rows.{IsWords, IsOutside}
use Rattle.tree_reading.specs.Puts.{AreBytes}
use Rattle.tree_reading.specs.Took.{Took}
use Rattle.tree_reading.specs.Programs.{HasTree, HasRows, HasHead, TookCounted}
use Rattle.tree_reading.proofs.Bytes.{bytes_front, bytes_back}
use Rattle.tree_reading.proofs.ListRows.{IsFront, words_by}
use Rattle.tree_reading.proofs.Visible.{IsPlain}
use Rattle.tree_reading.proofs.Following.{outside_more, outside_line}
use Rattle.tree_reading.proofs.HeadFields.{name_words}

-- ---- names

name_front : {X : Type 0} (l : Instruction-F X) → IsFront (instruction_name l) × IsPlain (instruction_name l)
name_front (Instruction-F.WithdrawAsset list) = (refl, refl)
name_front _ = (refl, refl)

pub instruction_words : {X : Type 0} (l : Instruction-F X) → IsWords (instruction_name l)
instruction_words l =
    let n = name_front l in
    subst IsWords (append-nil (instruction_name l)) (words_by (instruction_name l) [] n.0 (subst IsPlain (sym (append-nil (instruction_name l))) n.1))

-- ---- one layer of an instruction

pub head_of : (v : Version) (i : Instruction) → HasRows v i → HasHead v (out-Instruction i)
head_of v i h =
    let l = out-Instruction i in
    record {
      fits = (fits_open v i h.fits).0;
      concrete = (and_parts (names_concrete_ids l) (convertible_inside (inner_of i)) (sym (is_convertible_one-is i) ∙ h.convertible)).0;
      all = bytes_front (head v l) (behind (texts v (inner_of i))) (subst AreBytes (spelling-is v i) h.all);
    }

pub inside_of : (v : Version) (i : Instruction) (p : List Instruction) → inner_of i ≡ Some p → HasRows v i → HasTree v p
inside_of v i p is h =
    let l = out-Instruction i in
    let convertible = (and_parts (names_concrete_ids l) (convertible_inside (inner_of i)) (sym (is_convertible_one-is i) ∙ h.convertible)).1 in
    let all = bytes_back (head v l) (behind (texts v (inner_of i))) (subst AreBytes (spelling-is v i) h.all) in
    record {
      fits = subst (Inside v) is (fits_open v i h.fits).1;
      convertible = subst (λ (o : Option (List Instruction)). convertible_inside o ≡ true) is convertible;
      all = subst (λ (o : Option (List Instruction)). AreBytes (behind (texts v o))) is all;
    }

pub spelled_by : (v : Version) (i : Instruction) (o : Option (List Instruction)) → inner_of i ≡ o → instruction_spelling v i ≡ head v (out-Instruction i) ++ behind (texts v o)
spelled_by v i o is = spelling-is v i ∙ ap (λ (o : Option (List Instruction)). head v (out-Instruction i) ++ behind (texts v o)) is

pub counted_by : (i : Instruction) (o : Option (List Instruction)) → inner_of i ≡ o → deep_count_one i ≡ 1 + deep_count_inside o
counted_by i o is = deep_count_one-is i ∙ ap (λ (o : Option (List Instruction)). 1 + deep_count_inside o) is

pub depth_by : (i : Instruction) (o : Option (List Instruction)) → inner_of i ≡ o → depth_one i ≡ depth_inside o
depth_by i o is = depth_one-is i ∙ ap depth_inside is

pub some_counted : (i : Instruction) → deep_count_one i ≤ 0 → ⊥
some_counted i few = omega (arith, deep_count_one-is i, few)

-- what comes after the fields: the program inside, below its name, and the rest
abbrev pub after_fields : Option (List Instruction) → ℕ → List ℕ → List ℕ
after_fields None level rest = rest
after_fields (Some p) level rest = line (level + 1) (codes "xcm") ++ (program_text (level + 2) p ++ rest)

rows_by : (i : Instruction) (level : ℕ) (rest : List ℕ) (o : Option (List Instruction)) → inner_of i ≡ o
    → instruction_text i level ++ rest ≡ line level (instruction_name (out-Instruction i)) ++ (own_fields (level + 1) (out-Instruction i) ++ after_fields o level rest)
unfolding name_text
rows_by i level rest None is =
    let l = out-Instruction i in
    ap (λ t. t ++ rest) (none_text i level is) ∙ append_assoc (line level (instruction_name l)) (own_fields (level + 1) l) rest
rows_by i level rest (Some p) is =
    let l = out-Instruction i in
    let name = line (level + 1) (codes "xcm") in
    let inside = program_text (level + 2) p in
    ap (λ t. t ++ rest) (some_text i level p is)
    ∙ append_assoc (line level (instruction_name l)) (own_fields (level + 1) l ++ (name ++ inside)) rest
    ∙ ap (λ t. line level (instruction_name l) ++ t) (append_assoc (own_fields (level + 1) l) (name ++ inside) rest ∙ ap (λ t. own_fields (level + 1) l ++ t) (append_assoc name inside rest))

pub rows_of : (i : Instruction) (level : ℕ) (rest : List ℕ)
    → instruction_text i level ++ rest ≡ line level (instruction_name (out-Instruction i)) ++ (own_fields (level + 1) (out-Instruction i) ++ after_fields (inner_of i) level rest)
rows_of i level rest = rows_by i level rest (inner_of i) refl

pub outside_after : (o : Option (List Instruction)) (level : ℕ) (rest : List ℕ) → IsOutside (level + 1) rest → IsOutside (level + 2) (after_fields o level rest)
outside_after None level rest outside = outside_more (level + 1) (level + 2) rest outside (omega arith)
outside_after (Some p) level rest outside = outside_line (level + 2) (level + 1) (codes "xcm") (after_fields (Some p) level rest) (program_text (level + 2) p ++ rest) (name_words (codes "xcm") (refl, refl)) (omega arith) refl

pub none_inside : (o : Option (List Instruction)) (nests : Bool) → nests ≡ is_some o → nests ≡ false → o ≡ None
none_inside None nests is not = refl
none_inside (Some p) nests is not = absurd (cc (is, not))

pub some_inside : (o : Option (List Instruction)) (nests : Bool) → nests ≡ is_some o → nests ≡ true → (p : List Instruction) × (o ≡ Some p)
some_inside None nests is so = absurd (cc (is, so))
some_inside (Some p) nests is so = (p, refl)

-- ---- what was read of an instruction

-- nothing is inside
pub took_plain : (v : Version) (i : Instruction) (level : ℕ) (rest rows old out : List ℕ) (old_left left : ℕ) → inner_of i ≡ None
    → rows ≡ after_fields (inner_of i) level rest → out ≡ old ++ head v (out-Instruction i) → left + 1 ≡ old_left
    → (rows ≡ rest) × (out ≡ old ++ instruction_spelling v i) × (left + deep_count_one i ≡ old_left)
took_plain v i level rest rows old out old_left left none after put less =
    let l = out-Instruction i in
    let spelled : instruction_spelling v i ≡ head v l = spelled_by v i None none ∙ append-nil (head v l) in (
      after ∙ ap (λ (o : Option (List Instruction)). after_fields o level rest) none,
      put ∙ ap (λ t. old ++ t) (sym spelled),
      omega (arith, counted_by i None none, less),
    )

-- the name of the program inside is next
pub inside_rows : (i : Instruction) (p : List Instruction) (level : ℕ) (rest rows : List ℕ) → inner_of i ≡ Some p → rows ≡ after_fields (inner_of i) level rest
    → rows ≡ line (level + 1) (codes "xcm") ++ (program_text (level + 2) p ++ rest)
inside_rows i p level rest rows some after = after ∙ ap (λ (o : Option (List Instruction)). after_fields o level rest) some

-- the program inside was read
pub took_nested : {A : Type 0} (v : Version) (i : Instruction) (p : List Instruction) (rest : List ℕ) (result : Result A TreeFault) (rows old mid new : List ℕ) (old_left mid_left left : ℕ) → inner_of i ≡ Some p
    → mid ≡ old ++ head v (out-Instruction i) → mid_left + 1 ≡ old_left → Took rest (program_spelling v p) result rows mid new → OnOk result (left + deep_count p ≡ mid_left)
    → TookCounted rest (instruction_spelling v i) (deep_count_one i) result rows old new old_left left
took_nested v i p rest (Ok x) rows old mid new old_left mid_left left some put less took count =
    let l = out-Instruction i in (
      took.0,
      took.1 ∙ ap (λ t. t ++ program_spelling v p) put ∙ append_assoc old (head v l) (program_spelling v p) ∙ ap (λ t. old ++ t) (sym (spelled_by v i (Some p) some)),
      omega (arith, counted_by i (Some p) some, less, count),
    )
took_nested v i p rest (Err stop) rows old mid new old_left mid_left left some put less took count = took

-- the limits of the program inside
pub few_inside : (i : Instruction) (p : List Instruction) (old_left mid_left : ℕ) → inner_of i ≡ Some p → deep_count_one i ≤ old_left → mid_left + 1 ≡ old_left → deep_count p ≤ mid_left
few_inside i p old_left mid_left some few less = omega (arith, counted_by i (Some p) some, few, less)

pub low_inside : (i : Instruction) (p : List Instruction) (d : ℕ) → inner_of i ≡ Some p → depth_one i ≤ d → depth p ≤ d
low_inside i p d some low = subst (λ n. n ≤ d) (depth_by i (Some p) some) low

-- ---- programs

abbrev pub spellings : Version → List Instruction → List ℕ
spellings v p = joined (map (instruction_spelling v) p)

each_has : (v : Version) (p : List Instruction) → AllByRecursion (FitsInstruction v) p → is_convertible p ≡ true → AreBytes (spellings v p) → AllByRecursion (HasRows v) p
each_has v [] fits convertible all = tt
each_has v (i ∷ p) fits convertible all =
    let c = and_parts (is_convertible_one i) (is_convertible p) convertible in
    let this : HasRows v i = record { fits = fits.0; convertible = c.0; all = bytes_front (instruction_spelling v i) (spellings v p) all } in
    (this, each_has v p fits.1 c.1 (bytes_back (instruction_spelling v i) (spellings v p) all))

pub instructions_of : (v : Version) (p : List Instruction) → HasTree v p → AllByRecursion (HasRows v) p
instructions_of v p h = each_has v p h.fits.1 h.convertible (bytes_back (compact (length (map (instruction_spelling v) p))) (spellings v p) h.all)

pub counted_spelling : (v : Version) (p : List Instruction) → program_spelling v p ≡ compact (length p) ++ spellings v p
counted_spelling v p = ap (λ (n : ℕ). compact n ++ spellings v p) (length-map p (instruction_spelling v))

-- what is still to be read of a program
pub record Waits (v : Version) (level depth : ℕ) (program : List Instruction) (rest rows old out : List ℕ) (old_left left count : ℕ) : Type 0 where
  pub todo : List Instruction
  pub are : AllByRecursion (HasRows v) todo
  pub low : greatest (map depth_one todo) ≤ depth
  pub few : deep_count todo ≤ left
  pub rows_are : rows ≡ program_text level todo ++ rest
  pub out_is : out ++ spellings v todo ≡ old ++ spellings v program
  pub left_is : left + deep_count program ≡ old_left + deep_count todo
  pub count_is : count + length todo ≡ length program

pub waits_first : (v : Version) (level depth : ℕ) (program : List Instruction) (rest rows old : List ℕ) (left : ℕ) → AllByRecursion (HasRows v) program → deep_count program ≤ left
    → greatest (map depth_one program) ≤ depth → rows ≡ program_text level program ++ rest → Waits v level depth program rest rows old old left left 0
waits_first v level depth program rest rows old left are few low e = record { todo = program; are = are; low = low; few = few; rows_are = e; out_is = refl; left_is = refl; count_is = omega arith }

-- a program's text begins with a row at its level, where it has any
pub text_front : (i : Instruction) (level : ℕ) (rest : List ℕ) → (more : List ℕ) × (instruction_text i level ++ rest ≡ line level (instruction_name (out-Instruction i)) ++ more)
text_front i level rest = (own_fields (level + 1) (out-Instruction i) ++ after_fields (inner_of i) level rest, rows_of i level rest)

outside_program : (p : List Instruction) (level : ℕ) (rest : List ℕ) → IsOutside level rest → IsOutside (level + 1) (program_text level p ++ rest)
outside_program [] level rest outside = outside_more level (level + 1) rest outside (omega arith)
outside_program (i ∷ p) level rest outside =
    let front = text_front i level (program_text level p ++ rest) in
    outside_line (level + 1) level (instruction_name (out-Instruction i)) (program_text level (i ∷ p) ++ rest) front.0 (instruction_words (out-Instruction i)) (omega arith)
    (append_assoc (instruction_text i level) (program_text level p) rest ∙ front.1)

abbrev pub Finds : ℕ → List ℕ → Bool → Type 0
Finds level rows has = (words rest : List ℕ) → IsWords words → rows ≡ line level words ++ rest → has ≡ true

abbrev pub Ends : ℕ → List ℕ → Bool → Type 0
Ends level rows has = IsOutside level rows → has ≡ false

-- the next instruction, where there is one
pub record Next (v : Version) (level depth : ℕ) (program : List Instruction) (rest rows old out : List ℕ) (old_left left count : ℕ) : Type 0 where
  pub instruction : Instruction
  pub after : List ℕ
  pub has : HasRows v instruction
  pub few : deep_count_one instruction ≤ left
  pub low : depth_one instruction ≤ depth
  pub outside : IsOutside (level + 1) after
  pub is : rows ≡ instruction_text instruction level ++ after
  pub goes_on : (rows_then out_then : List ℕ) (left_then : ℕ) → rows_then ≡ after → out_then ≡ out ++ instruction_spelling v instruction → left_then + deep_count_one instruction ≡ left
      → Waits v level depth program rest rows_then old out_then old_left left_then (count + 1)

next_of : (v : Version) (level depth : ℕ) (program : List Instruction) (rest rows old out : List ℕ) (old_left left count : ℕ) (todo : List Instruction) → AllByRecursion (HasRows v) todo → greatest (map depth_one todo) ≤ depth
    → deep_count todo ≤ left → rows ≡ program_text level todo ++ rest → out ++ spellings v todo ≡ old ++ spellings v program → left + deep_count program ≡ old_left + deep_count todo → count + length todo ≡ length program
    → (has : Bool) → Ends level rows has → has ≡ true → IsOutside level rest → Next v level depth program rest rows old out old_left left count
next_of v level depth program rest rows old out old_left left count [] are low few r o n c has ends found outside = let none = ends (subst (IsOutside level) (sym r) outside) in absurd (cc (none, found))
next_of v level depth program rest rows old out old_left left count (i ∷ todo) are low few r o n c has ends found outside = record {
  instruction = i;
  after = program_text level todo ++ rest;
  has = are.0;
  few = omega (arith, few);
  low = omega (arith, low);
  outside = outside_program todo level rest outside;
  is = r ∙ append_assoc (instruction_text i level) (program_text level todo) rest;
  goes_on = λ rows_then out_then left_then a b less. record {
    todo = todo;
    are = are.1;
    low = omega (arith, low);
    few = omega (arith, few, less);
    rows_are = a;
    out_is = ap (λ t. t ++ spellings v todo) b ∙ append_assoc out (instruction_spelling v i) (spellings v todo) ∙ o;
    left_is = omega (arith, n, less);
    count_is = omega (arith, c);
  };
}

pub next : (v : Version) (level depth : ℕ) (program : List Instruction) (rest rows old out : List ℕ) (old_left left count : ℕ) → Waits v level depth program rest rows old out old_left left count
    → (has : Bool) → Ends level rows has → has ≡ true → IsOutside level rest → Next v level depth program rest rows old out old_left left count
next v level depth program rest rows old out old_left left count w has ends found outside =
    next_of v level depth program rest rows old out old_left left count w.todo w.are w.low w.few w.rows_are w.out_is w.left_is w.count_is has ends found outside

done_of : (v : Version) (level : ℕ) (program : List Instruction) (rest rows old out : List ℕ) (old_left left count : ℕ) (todo : List Instruction) → rows ≡ program_text level todo ++ rest
    → out ++ spellings v todo ≡ old ++ spellings v program → left + deep_count program ≡ old_left + deep_count todo → count + length todo ≡ length program → (has : Bool) → Finds level rows has → has ≡ false
    → (count ≡ length program) × (rows ≡ rest) × (out ≡ old ++ spellings v program) × (left + deep_count program ≡ old_left)
done_of v level program rest rows old out old_left left count [] r o n c has finds none = (omega (arith, c), r, sym (append-nil out) ∙ o, omega (arith, n))
done_of v level program rest rows old out old_left left count (i ∷ todo) r o n c has finds none =
    let front = text_front i level (program_text level todo ++ rest) in
    let found = finds (instruction_name (out-Instruction i)) front.0 (instruction_words (out-Instruction i)) (r ∙ append_assoc (instruction_text i level) (program_text level todo) rest ∙ front.1) in
    absurd (cc (found, none))

pub done : (v : Version) (level depth : ℕ) (program : List Instruction) (rest rows old out : List ℕ) (old_left left count : ℕ) → Waits v level depth program rest rows old out old_left left count
    → (has : Bool) → Finds level rows has → has ≡ false → (count ≡ length program) × (rows ≡ rest) × (out ≡ old ++ spellings v program) × (left + deep_count program ≡ old_left)
done v level depth program rest rows old out old_left left count w has finds none = done_of v level program rest rows old out old_left left count w.todo w.rows_are w.out_is w.left_is w.count_is has finds none
