-- The rows of a tree.
use Rattle.std.specs.Prelude.{◌≡◌, ◌≢◌, ◌⊎◌, ◌<◌, ◌&&◌, ℕ, Bool, true, List, [], ◌∷◌, ◌++◌, nat_le, nat_lt, ◌==◌, not}
use Rattle.std.specs.List.{list_all}
use Rattle.message_text.specs.Lines.{line}

-- a byte of a text of one line
abbrev pub is_visible : ℕ → Bool
is_visible b = nat_le 32 b && nat_lt b 127

-- the same without spaces
abbrev pub is_solid : ℕ → Bool
is_solid b = nat_le 33 b && nat_lt b 127

-- a text without spaces
abbrev pub IsSolid : List ℕ → Type 0
IsSolid text = list_all is_solid text ≡ true

-- a text without spaces and dots
abbrev pub is_dotless : ℕ → Bool
is_dotless b = is_solid b && not (b == 46)

abbrev pub IsDotless : List ℕ → Type 0
IsDotless text = list_all is_dotless text ≡ true

-- what a row may say: plain bytes, the first of which is no space
pub record IsWords (words : List ℕ) : Type 0 where
  pub plain : list_all is_visible words ≡ true
  pub front : (rest : List ℕ) → words ≢ 32 ∷ rest

-- the text begins with a row at a lower level
pub record BeginsAbove (level : ℕ) (text : List ℕ) : Type 0 where
  pub lower : ℕ
  pub words : List ℕ
  pub rest : List ℕ
  pub less : lower < level
  pub are : IsWords words
  pub is : text ≡ line lower words ++ rest

-- no row at this level comes, nor one at a higher
abbrev pub IsOutside : ℕ → List ℕ → Type 0
IsOutside level text = (text ≡ []) ⊎ BeginsAbove level text
