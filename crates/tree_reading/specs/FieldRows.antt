-- The rows of a field, and what they say. What belongs to a field is one level deeper. Source: this project's own rule; what is said is spelled as the
-- XCM format has it.
use Rattle.std.specs.Prelude.{◌≡◌, ◌<◌, ◌^◌, ◌+◌, ◌⊎◌, ℕ, List, [], ◌∷◌, ◌++◌, length, codes}
use Rattle.operands.specs.declared.version.Version.{Version}
use Rattle.message_text.specs.Lines.{line}
use Rattle.tree_reading.specs.declared.kinds.Words.{Words}
use Rattle.tree_reading.specs.declared.kinds.Words.TheVariants as words
use Rattle.tree_reading.specs.declared.table.Kind.{Kind}
use Rattle.tree_reading.specs.declared.table.Kind.TheVariants as kinds
use Rattle.tree_reading.specs.Rows.{IsWords}
use Rattle.tree_reading.specs.Kinds.{Says}
use Rattle.tree_reading.specs.Took.{AreItems, rows_text, list_said}

-- a row for each item of a list, and their number before what they say
pub record SaysList (v : Version) (kind : Words) (level : ℕ) (text said : List ℕ) : Type 0 where
  pub items : List (List ℕ × List ℕ)
  pub are : AreItems v kind items
  pub few : length items < 2 ^ 32
  pub is : text ≡ rows_text level items
  pub spelled : said ≡ list_said items

-- the name and the text of a value on one row
pub record SaysRow (v : Version) (kind : Words) (level : ℕ) (name text said : List ℕ) : Type 0 where
  pub value : List ℕ
  pub are : IsWords (name ++ 32 ∷ value)
  pub says : Says v kind value said
  pub is : text ≡ line level (name ++ 32 ∷ value)

-- the name, and a list of assets below it
pub record SaysAssets (v : Version) (level : ℕ) (name text said : List ℕ) : Type 0 where
  pub below : List ℕ
  pub named : IsWords name
  pub list : SaysList v words.Asset (level + 1) below said
  pub is : text ≡ line level name ++ below

-- an index, and what follows it
pub record SaysAs (index : ℕ) (Saying : List ℕ → Type 0) (said : List ℕ) : Type 0 where
  pub rest : List ℕ
  pub says : Saying rest
  pub is : said ≡ index ∷ rest

-- just these assets, or what the wildcard means
abbrev pub SaysFilter : Version → ℕ → List ℕ → List ℕ → List ℕ → Type 0
SaysFilter v level name text said = SaysAs 0 (SaysAssets v level name text) said ⊎ SaysAs 1 (SaysRow v words.Wild level name text) said

-- where a response goes, what it answers, and what it may weigh
pub record SaysInfo (v : Version) (level : ℕ) (name text said : List ℕ) : Type 0 where
  pub place : List ℕ
  pub query : List ℕ
  pub most : List ℕ
  pub place_said : List ℕ
  pub query_said : List ℕ
  pub most_said : List ℕ
  pub named : IsWords name
  pub place_says : SaysRow v words.Location (level + 1) (codes "destination") place place_said
  pub query_says : SaysRow v words.Number64 (level + 1) (codes "query_id") query query_said
  pub most_says : SaysRow v words.Weight (level + 1) (codes "max_weight") most most_said
  pub is : text ≡ line level name ++ (place ++ (query ++ most))
  pub spelled : said ≡ place_said ++ query_said ++ most_said

-- a response: what is on the row of its name, and what is below
abbrev pub SaysAnswer : Version → ℕ → List ℕ → List ℕ → List ℕ → Type 0
SaysAnswer v level text below said = ((text ≡ codes "Null") × (below ≡ []) × (said ≡ 0 ∷ []))
    ⊎ (((text ≡ codes "Assets") × SaysAs 1 (SaysList v words.Asset level below) said)
    ⊎ (((text ≡ codes "PalletsInfo") × SaysAs 4 (SaysList v words.Pallet level below) said)
    ⊎ (Says v words.Valued text said × (below ≡ []))))

pub record SaysResponse (v : Version) (level : ℕ) (name text said : List ℕ) : Type 0 where
  pub value : List ℕ
  pub below : List ℕ
  pub are : IsWords (name ++ 32 ∷ value)
  pub says : SaysAnswer v (level + 1) value below said
  pub is : text ≡ line level (name ++ 32 ∷ value) ++ below

-- a field, by its kind
abbrev pub SaysField : Version → Kind → ℕ → List ℕ → List ℕ → List ℕ → Type 0
SaysField v (kinds.Row kind) level name text said = SaysRow v kind level name text said
SaysField v kinds.Assets level name text said = SaysAssets v level name text said
SaysField v kinds.Filter level name text said = SaysFilter v level name text said
SaysField v kinds.Info level name text said = SaysInfo v level name text said
SaysField v kinds.Response level name text said = SaysResponse v level name text said

-- one field, and what comes after it
pub record SaysFirst (First Later : List ℕ → List ℕ → Type 0) (text said : List ℕ) : Type 0 where
  pub first : List ℕ
  pub later : List ℕ
  pub first_said : List ℕ
  pub later_said : List ℕ
  pub first_says : First first first_said
  pub later_says : Later later later_said
  pub is : text ≡ first ++ later
  pub spelled : said ≡ first_said ++ later_said

-- fields, by their names and kinds
abbrev pub SaysFields : Version → ℕ → List (List ℕ × Kind) → List ℕ → List ℕ → Type 0
SaysFields v level [] text said = (text ≡ []) × (said ≡ [])
SaysFields v level (f ∷ fs) text said = SaysFirst (SaysField v f.1 level f.0) (SaysFields v level fs) text said
