-- What is read before and after other rows.
use Rattle.std.proofs.Common.{◌≡◌, ◌∙◌, ℕ, ◌+◌, ◌<◌, ◌≤◌, List, [], ◌∷◌, ◌++◌, Result, Ok, Err, sym, ap, subst, append_assoc, arith, inl, inr}
use Rattle.std.proofs.lemmas.List.{append-nil}
use Rattle.operands.specs.declared.version.Version.{Version}
use Rattle.message_text.specs.Lines.{line}
use Rattle.tree_reading.specs.declared.expected.TreeFault.{TreeFault}
use Rattle.tree_reading.specs.declared.table.Kind.{Kind}
use Rattle.tree_reading.specs.declared.table.Kind.TheVariants as kinds
use Rattle.tree_reading.specs.Rows.{IsWords, IsOutside}
use Rattle.tree_reading.specs.Took.{Took}
use Rattle.tree_reading.specs.FieldRows.{SaysField, SaysFields}

-- after something else was appended
pub took_after : {A : Type 0} (rest front said : List ℕ) (result : Result A TreeFault) (new_rows old mid new : List ℕ) → mid ≡ old ++ front → Took rest said result new_rows mid new → Took rest (front ++ said) result new_rows old new
took_after rest front said (Ok x) new_rows old mid new put t = (t.0, t.1 ∙ ap (λ m. m ++ said) put ∙ append_assoc old front said)
took_after rest front said (Err stop) new_rows old mid new put t = t

-- what was said by its parts
pub took_as : {A : Type 0} (rest front inner said : List ℕ) (result : Result A TreeFault) (new_rows old mid new : List ℕ) → said ≡ front ++ inner → mid ≡ old ++ front → Took rest inner result new_rows mid new → Took rest said result new_rows old new
took_as rest front inner said result new_rows old mid new is put t = subst (λ (w : List ℕ). Took rest w result new_rows old new) (sym is) (took_after rest front inner result new_rows old mid new put t)

-- where no row was taken
pub took_rest : {A : Type 0} (rows rest said : List ℕ) (result : Result A TreeFault) (old new : List ℕ) → rows ≡ rest → Took rows said result rows old new → Took rest said result rows old new
took_rest rows rest said (Ok x) old new is t = (is, t.1)
took_rest rows rest said (Err stop) old new is t = t

-- ---- what is outside

pub outside_more : (level more : ℕ) (text : List ℕ) → IsOutside level text → level ≤ more → IsOutside more text
outside_more level more text (inl none) le = inl none
outside_more level more text (inr b) le = inr (record { lower = b.lower; words = b.words; rest = b.rest; less = omega (arith, b.less, le); are = b.are; is = b.is })

pub outside_line : (level lower : ℕ) (words text rest : List ℕ) → IsWords words → lower < level → text ≡ line lower words ++ rest → IsOutside level text
outside_line level lower words text rest are less is = inr (record { lower = lower; words = words; rest = rest; less = less; are = are; is = is })

-- a text that begins with a row at this level
pub record Begins (level : ℕ) (text : List ℕ) : Type 0 where
  pub words : List ℕ
  pub rest : List ℕ
  pub are : IsWords words
  pub is : text ≡ line level words ++ rest

pub begins_then : (level : ℕ) (text rest : List ℕ) → Begins level text → IsOutside (level + 1) (text ++ rest)
begins_then level text rest b = outside_line (level + 1) level b.words (text ++ rest) (b.rest ++ rest) b.are (omega arith) (ap (λ t. t ++ rest) b.is ∙ append_assoc (line level b.words) b.rest rest)

begins_line : (level : ℕ) (words text : List ℕ) → IsWords words → text ≡ line level words → Begins level text
begins_line level words text are is = record { words = words; rest = []; are = are; is = is ∙ sym (append-nil (line level words)) }

-- each field does
pub begins_field : (v : Version) (kind : Kind) (level : ℕ) (name text said : List ℕ) → SaysField v kind level name text said → Begins level text
begins_field v (kinds.Row words) level name text said s = begins_line level (name ++ 32 ∷ s.value) text s.are s.is
begins_field v kinds.Assets level name text said s = record { words = name; rest = s.below; are = s.named; is = s.is }
begins_field v kinds.Filter level name text said (inl s) = record { words = name; rest = s.says.below; are = s.says.named; is = s.says.is }
begins_field v kinds.Filter level name text said (inr s) = begins_line level (name ++ 32 ∷ s.says.value) text s.says.are s.says.is
begins_field v kinds.Info level name text said s = record { words = name; rest = s.place ++ (s.query ++ s.most); are = s.named; is = s.is }
begins_field v kinds.Response level name text said s = record { words = name ++ 32 ∷ s.value; rest = s.below; are = s.are; is = s.is }

-- what follows a field: the others, or what is outside
pub outside_fields : (v : Version) (level : ℕ) (fs : List (List ℕ × Kind)) (text said rest : List ℕ) → SaysFields v level fs text said → IsOutside (level + 1) rest → IsOutside (level + 1) (text ++ rest)
outside_fields v level [] text said rest s outside = subst (λ t. IsOutside (level + 1) (t ++ rest)) (sym s.0) outside
outside_fields v level (f ∷ fs) text said rest s outside =
    let b = begins_field v f.1 level f.0 s.first s.first_said s.first_says in
    outside_line (level + 1) level b.words (text ++ rest) (b.rest ++ (s.later ++ rest)) b.are (omega arith)
    (ap (λ t. t ++ rest) (s.is ∙ ap (λ t. t ++ s.later) b.is ∙ append_assoc (line level b.words) b.rest s.later) ∙ append_assoc (line level b.words) (b.rest ++ s.later) rest ∙ ap (λ t. line level b.words ++ t) (append_assoc b.rest s.later rest))
