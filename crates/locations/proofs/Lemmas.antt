-- For proofs alone: a reader may skip this file. The law of paths, proved over the closed form of reanchoring, and
-- the facts on paths and reanchoring that proofs of other crates cite.
pub mod OrderLaws
use Rattle.std.proofs.Common.{◌≡◌, ◌≢◌, refl, sym, ap, ◌∙◌, subst, ℕ, zero, suc, ◌+◌, ◌-◌, ◌<◌, ◌≤◌, ◌⊎◌, inl, inr, Bool, true, false, not, ◌&&◌, cond, List, [], ◌∷◌, ◌++◌, length, take, drop, replicate, get_or, Option, Some, Ok, Err, arith, append_assoc, length-append, length-drop, length-take-le, true≢false}
use Rattle.std.proofs.Math.Seq.{take-append-add, take-add}
use Rattle.std.proofs.lemmas.List.{length-replicate, take-append-le, take-take, append_cancel_left, take-append-drop}
use Rattle.std.proofs.lemmas.List.Elements.{All-take, All-drop, All-append}
use Rattle.std.proofs.lemmas.List.Sums.{common_prefix_len-le}
use Rattle.std.proofs.lemmas.Bool.{cond-true, cond-false, lt-ltb, le-ltb, leb-true, cases_lt, cases_order, and_parts, and_from}
use Rattle.std.proofs.lemmas.Option.{slice_get-get_or}
use Rattle.std.specs.declared.result.Result.{Result}
use Rattle.std.specs.Bool.{nat_lt, nat_le}
use Rattle.std.specs.List.{All, slice_get, slice_index_or, list_all, common_prefix_len}
use Rattle.locations.specs.declared.grammar.Junction.{Junction}
use Rattle.locations.specs.declared.grammar.Junction.TheVariants.{OnlyChild}
use Rattle.locations.specs.declared.relative.Location.{Location}
use Rattle.locations.specs.declared.faults.LocationFault.{LocationFault}
use Rattle.locations.specs.declared.faults.LocationFault.TheVariants.{Full, TooHigh}
use Rattle.locations.proofs.Lemmas.OrderLaws.{junction_decides}
use Rattle.locations.specs.Chains.{last, without_last, same_junction, HasPath, path_of, TurnsAway, IsNormal, same_first, turns_back, is_normal, IsNear}
use Rattle.locations.specs.Steps.{last_known, shortened}
use Rattle.locations.specs.Reanchoring.{raised_parents, way_down, reanchored}
use Rattle.locations.specs.PathLaw.{HasSamePath, KeepsPath, KeepsNormal, HasOneName}

-- a choice by an order of numbers, where the order is known
pub below : {X : Type 0} (a b : ℕ) (x y : X) → a < b → cond (nat_lt a b) x y ≡ x
below a b x y h = cond-true (nat_lt a b) x y (lt-ltb a b h)

pub not_below : {X : Type 0} (a b : ℕ) (x y : X) → b ≤ a → cond (nat_lt a b) x y ≡ y
not_below a b x y h = cond-false (nat_lt a b) x y (le-ltb a b h)

-- as many as are asked for
pub length-last_known : (n : ℕ) (context : List Junction) → length (last_known n context) ≡ n
length-last_known n context =
    omega (
      arith,
      length-append (replicate (n - length context) OnlyChild) (last n context),
      length-replicate (n - length context) OnlyChild,
      length-drop (length context - n) context,
    )

-- how many junctions two lists have in common from the front on
abbrev pub together : List Junction → List Junction → ℕ
together = common_prefix_len same_junction

-- a location from its parts
abbrev pub place : ℕ → List Junction → Location
place parents interior = record { parents = parents; interior = interior }

-- ---- the element at an index of a concatenated list
module _ {X : Type 0} where
  pub get_in_take : (n : ℕ) (xs : List X) (i : ℕ) → i < n → slice_get (take n xs) i ≡ slice_get xs i
  get_in_take zero xs i h = absurd (omega (arith, h))
  get_in_take (suc n) [] i h = refl
  get_in_take (suc n) (x ∷ xs) zero h = refl
  get_in_take (suc n) (x ∷ xs) (suc i) h = get_in_take n xs i (omega (arith, h))

  pub get_in_front : (xs ys : List X) (i : ℕ) → i < length xs → slice_get (xs ++ ys) i ≡ slice_get xs i
  get_in_front [] ys i h = absurd (omega (arith, h))
  get_in_front (x ∷ xs) ys zero h = refl
  get_in_front (x ∷ xs) ys (suc i) h = get_in_front xs ys i (omega (arith, h))

  pub get_behind : (xs ys : List X) (n i : ℕ) → n ≡ length xs + i → slice_get (xs ++ ys) n ≡ slice_get ys i
  get_behind [] ys n i e = ap (slice_get ys) (omega (arith, e))
  get_behind (x ∷ xs) ys zero i e = absurd (omega (arith, e))
  get_behind (x ∷ xs) ys (suc n) i e = get_behind xs ys n i (omega (arith, e))

  pub get_of_drop : (k : ℕ) (xs : List X) → slice_get (drop k xs) 0 ≡ slice_get xs k
  get_of_drop zero [] = refl
  get_of_drop zero (x ∷ xs) = refl
  get_of_drop (suc k) [] = refl
  get_of_drop (suc k) (x ∷ xs) = get_of_drop k xs

-- ---- the two forms of a result

inside_ok : (a b : Location) → ◌≡◌ {A = Result Location LocationFault} (Ok a) (Ok b) → a ≡ b
inside_ok a b same = cc

no_answer : (fault : LocationFault) (x : Location) → ◌≡◌ {A = Result Location LocationFault} (Err fault) (Ok x) → ⊥
no_answer fault x same = cc

-- above all that location and target share, or down from there
abbrev pub IsAbove : Location → Location → Location → Type 0
IsAbove l target r = (target.parents < l.parents) × (r ≡ place (raised_parents l target) l.interior)

abbrev pub IsDown : List Junction → Location → Location → Location → Type 0
IsDown context l target r = (l.parents ≤ target.parents)
    × (r ≡ shortened (together target.interior (way_down l target context)) (place (length target.interior) (way_down l target context)))

up_form : (context : List Junction) (l target r : Location) → target.parents ≤ 8 → target.parents < l.parents
    → reanchored l target context ≡ Ok r → IsAbove l target r
up_form context l target r near up seen =
    let chosen = sym (not_below 8 target.parents (Err Full) _ near ∙ below target.parents l.parents _ _ up) ∙ seen in
    elim (cases_lt 255 (raised_parents l target)) [
      | inl high ↦ absurd (no_answer TooHigh r (sym (below 255 (raised_parents l target) (Err TooHigh) _ high) ∙ chosen))
      | inr low ↦ (up, sym (inside_ok _ r (sym (not_below 255 (raised_parents l target) (Err TooHigh) _ low) ∙ chosen)))
    ]

down_form : (context : List Junction) (l target r : Location) → target.parents ≤ 8 → l.parents ≤ target.parents
    → reanchored l target context ≡ Ok r → IsDown context l target r
down_form context l target r near down seen =
    let chosen = sym (not_below 8 target.parents (Err Full) _ near ∙ not_below target.parents l.parents _ _ down) ∙ seen in
    elim (cases_lt 8 (length (way_down l target context))) [
      | inl long ↦ absurd (no_answer Full r (sym (below 8 (length (way_down l target context)) (Err Full) _ long) ∙ chosen))
      | inr short ↦ (down, sym (inside_ok _ r (sym (not_below 8 (length (way_down l target context)) (Err Full) _ short) ∙ chosen)))
    ]

pub forms : (context : List Junction) (l target r : Location) → reanchored l target context ≡ Ok r
    → IsAbove l target r ⊎ IsDown context l target r
forms context l target r seen =
    elim (cases_lt 8 target.parents) [
      | inl far ↦ absurd (no_answer Full r (sym (below 8 target.parents (Err Full) _ far) ∙ seen))
      | inr near ↦ elim (cases_lt target.parents l.parents) [
        | inl up ↦ inl (up_form context l target r near up seen)
        | inr down ↦ inr (down_form context l target r near down seen)
      ]
    ]

-- ---- the path

-- the context down to the highest point that the target reaches
length-without_last : (n : ℕ) (chain : List Junction) → length (without_last n chain) ≡ length chain - n
length-without_last n chain = length-take-le (length chain - n) chain (omega arith)

length-path_of : (context : List Junction) (l : Location) → length (path_of context l) ≡ (length context - l.parents) + length l.interior
length-path_of context l =
    omega (arith, length-append (without_last l.parents context) l.interior, length-without_last l.parents context)

-- one junction more, where the two are the same
take_one_more : (b : Bool) (x y : Junction) (xs ys : List Junction) (k : ℕ) → (b ≡ true → x ≡ y) → take k xs ≡ take k ys
    → take (cond b (1 + k) 0) (x ∷ xs) ≡ take (cond b (1 + k) 0) (y ∷ ys)
take_one_more true x y xs ys k same rest =
    let more : 1 + k ≡ suc k = omega arith in
    ap (λ n. take n (x ∷ xs)) more ∙ (λ i. same refl i ∷ rest i) ∙ sym (ap (λ n. take n (y ∷ ys)) more)
take_one_more false x y xs ys k same rest = refl

-- the junctions that two lists have in common
take_together : (xs ys : List Junction) → take (together xs ys) xs ≡ take (together xs ys) ys
take_together [] ys = refl
take_together (x ∷ xs) [] = refl
take_together (x ∷ xs) (y ∷ ys) =
    take_one_more (same_junction x y) x y xs ys (together xs ys) ((junction_decides x y).0) (take_together xs ys)

up_path : (context : List Junction) (l target : Location) → HasPath context l → HasPath context target → target.parents < l.parents
    → HasSamePath context l target (place (raised_parents l target) l.interior)
up_path context l target placed target_placed up =
    let long = length-path_of context target in
    let shared = length-without_last target.parents context in
    let left : length (path_of context target) - raised_parents l target ≡ length context - l.parents = omega (arith, long) in
    let few : length context - l.parents ≤ length (without_last target.parents context) = omega (arith, shared) in
    let kept : take (length context - l.parents) (path_of context target) ≡ without_last l.parents context =
    take-append-le (length context - l.parents) (without_last target.parents context) target.interior few
    ∙ take-take (length context - l.parents) (length context - target.parents) context (omega arith) in
    record {
      placed = omega (arith, long);
      same = ap (λ n. take n (path_of context target) ++ l.interior) left ∙ ap (λ chain. chain ++ l.interior) kept;
    }

-- what the target reaches is known where it has a path
known : (context : List Junction) (n : ℕ) → n ≤ length context → last_known n context ≡ drop (length context - n) context
known context n within =
    ap (λ k. replicate k OnlyChild ++ last n context) (let none : n - length context ≡ 0 = omega arith in none)

-- the way down, after what is shared, is the path
down_way : (context : List Junction) (l target : Location) → HasPath context target → l.parents ≤ target.parents
    → without_last target.parents context ++ way_down l target context ≡ path_of context l
down_way context l target target_placed down =
    let n = length context in
    let q = target.parents in
    let p = l.parents in
    let sum : (n - q) + (q - p) ≡ n - p = omega arith in
    ap (λ end. without_last q context ++ (take (q - p) end ++ l.interior)) (known context q target_placed)
    ∙ sym (append_assoc (take (n - q) context) (take (q - p) (drop (n - q) context)) l.interior)
    ∙ ap (λ front. front ++ l.interior) (sym (take-add (n - q) (q - p) context))
    ∙ ap (λ k. take k context ++ l.interior) sum

down_path : (context : List Junction) (l target : Location) → HasPath context target → l.parents ≤ target.parents
    → HasSamePath context l target
    (shortened (together target.interior (way_down l target context)) (place (length target.interior) (way_down l target context)))
down_path context l target target_placed down =
    let way = way_down l target context in
    let k = together target.interior way in
    let within = (common_prefix_len-le same_junction target.interior way).0 in
    let long = length-path_of context target in
    let front = length-without_last target.parents context in
    let left : length (path_of context target) - (length target.interior - k) ≡ length (without_last target.parents context) + k = omega (arith, long, front, within) in
    record {
      placed = omega (arith, long, within);
      same =
          ap (λ n. take n (path_of context target) ++ drop k way) left
          ∙ ap (λ chain. chain ++ drop k way) (take-append-add (without_last target.parents context) target.interior k)
          ∙ ap (λ chain. (without_last target.parents context ++ chain) ++ drop k way) (take_together target.interior way)
          ∙ append_assoc (without_last target.parents context) (take k way) (drop k way)
          ∙ ap (λ chain. without_last target.parents context ++ chain) (take-append-drop k way)
          ∙ down_way context l target target_placed down;
    }

pub keeps_path : KeepsPath
keeps_path context l target r seen =
    elim (forms context l target r seen.seen) [
      | inl h ↦ subst (HasSamePath context l target) (sym h.1) (up_path context l target seen.placed seen.target_placed h.0)
      | inr h ↦ subst (HasSamePath context l target) (sym h.1) (down_path context l target seen.target_placed h.0)
    ]

-- ---- normal names

some_inside : (a b : Junction) → ◌≡◌ {A = Option Junction} (Some a) (Some b) → a ≡ b
some_inside a b same = cc

apart_one_more : (b : Bool) (x y a : Junction) (xs ys : List Junction) (k : ℕ) → (b ≡ false → x ≡ y → ⊥)
    → (slice_get xs k ≡ Some a → slice_get ys k ≡ Some a → ⊥)
    → slice_get (x ∷ xs) (cond b (1 + k) 0) ≡ Some a → slice_get (y ∷ ys) (cond b (1 + k) 0) ≡ Some a → ⊥
apart_one_more true x y a xs ys k differ rest left right =
    let more : 1 + k ≡ suc k = omega arith in
    rest (sym (ap (slice_get (x ∷ xs)) more) ∙ left) (sym (ap (slice_get (y ∷ ys)) more) ∙ right)
apart_one_more false x y a xs ys k differ rest left right = differ refl (some_inside x y (left ∙ sym right))

-- after what they have in common, two lists don't go on alike
apart_after : (xs ys : List Junction) (a : Junction) → slice_get xs (together xs ys) ≡ Some a → slice_get ys (together xs ys) ≡ Some a → ⊥
apart_after [] ys a left right = cc
apart_after (x ∷ xs) [] a left right = cc
apart_after (x ∷ xs) (y ∷ ys) a left right =
    apart_one_more (same_junction x y) x y a xs ys (together xs ys)
    (λ unlike same. let alike : same_junction x y ≡ true = (junction_decides x y).1 same in cc)
    (apart_after xs ys a) left right

-- a location that rises above all that is shared turns away as it did
up_turns : (context : List Junction) (l target : Location) → HasPath context l → HasPath context target → target.parents < l.parents
    → TurnsAway context l → TurnsAway (path_of context target) (place (raised_parents l target) l.interior)
up_turns context l target placed target_placed up turned first raised starts back =
    let long = length-path_of context target in
    let shared = length-without_last target.parents context in
    let left : length (path_of context target) - raised_parents l target ≡ length context - l.parents = omega (arith, long) in
    let kept : slice_get (path_of context target) (length context - l.parents) ≡ slice_get context (length context - l.parents) =
    get_in_front (without_last target.parents context) target.interior (length context - l.parents) (omega (arith, shared))
    ∙ get_in_take (length context - target.parents) context (length context - l.parents) (omega arith) in
    turned first (omega arith) starts (sym kept ∙ sym (ap (slice_get (path_of context target)) left) ∙ back)

down_turns : (context : List Junction) (l target : Location) → HasPath context target
    → TurnsAway (path_of context target)
    (shortened (together target.interior (way_down l target context)) (place (length target.interior) (way_down l target context)))
down_turns context l target target_placed first raised starts back =
    let way = way_down l target context in
    let k = together target.interior way in
    let within = (common_prefix_len-le same_junction target.interior way).0 in
    let long = length-path_of context target in
    let front = length-without_last target.parents context in
    let left : length (path_of context target) - (length target.interior - k) ≡ length (without_last target.parents context) + k = omega (arith, long, front, within) in
    apart_after target.interior way first
    (sym (get_behind (without_last target.parents context) target.interior _ k left) ∙ back)
    (sym (get_of_drop k way) ∙ starts)

-- no junction on the way down is unknown
way_named : (context : List Junction) (l target : Location) → HasPath context target → All (λ j. j ≢ OnlyChild) context
    → All (λ j. j ≢ OnlyChild) l.interior → All (λ j. j ≢ OnlyChild) (way_down l target context)
way_named context l target target_placed named own =
    All-append (λ j. j ≢ OnlyChild) (take (target.parents - l.parents) (last_known target.parents context)) l.interior
    (All-take (λ j. j ≢ OnlyChild) (target.parents - l.parents) (last_known target.parents context)
    (subst (All (λ j. j ≢ OnlyChild)) (sym (known context target.parents target_placed))
    (All-drop (λ j. j ≢ OnlyChild) (length context - target.parents) context named)))
    own

pub keeps_normal : KeepsNormal
keeps_normal context l target r seen named normal =
    elim (forms context l target r seen.seen) [
      | inl h ↦ subst (IsNormal (path_of context target)) (sym h.1) (record {
        inside = (up_path context l target seen.placed seen.target_placed h.0).placed;
        named = normal.named;
        turned = up_turns context l target seen.placed seen.target_placed h.0 normal.turned;
      })
      | inr h ↦ subst (IsNormal (path_of context target)) (sym h.1) (record {
        inside = (down_path context l target seen.target_placed h.0).placed;
        named = All-drop (λ j. j ≢ OnlyChild) (together target.interior (way_down l target context)) (way_down l target context)
            (way_named context l target seen.target_placed named normal.named);
        turned = down_turns context l target seen.target_placed;
      })
    ]

-- of two names of one location, the one with more parents leads back
not_fewer : (context : List Junction) (l m : Location) → HasPath context m → TurnsAway context m
    → path_of context l ≡ path_of context m → l.parents < m.parents → ⊥
not_fewer context l m placed turned same fewer =
    let at = length context - m.parents in
    let first = get_or context at OnlyChild in
    let shared = length-without_last l.parents context in
    let own = length-without_last m.parents context in
    let there : slice_get context at ≡ Some first = slice_get-get_or context at OnlyChild (omega arith) in
    let through_l : slice_get (path_of context l) at ≡ slice_get context at =
    get_in_front (without_last l.parents context) l.interior at (omega (arith, shared))
    ∙ get_in_take (length context - l.parents) context at (omega arith) in
    let through_m : slice_get (path_of context m) at ≡ slice_get m.interior 0 =
    get_behind (without_last m.parents context) m.interior at 0 (omega (arith, own)) in
    turned first (omega arith) (sym through_m ∙ sym (ap (λ path. slice_get path at) same) ∙ through_l ∙ there) there

one_name : (context : List Junction) (l m : Location) → path_of context l ≡ path_of context m → l.parents ≡ m.parents → l ≡ m
one_name context l m same level =
    let ends : without_last m.parents context ++ l.interior ≡ without_last m.parents context ++ m.interior =
    sym (ap (λ n. without_last n context ++ l.interior) level) ∙ same in
    let interior = append_cancel_left (without_last m.parents context) l.interior m.interior ends in
    λ i. record { parents = level i; interior = interior i }

pub has_one_name : HasOneName
has_one_name context l m normal_l normal_m same =
    elim (cases_order l.parents m.parents) [
      | inl level ↦ one_name context l m same level
      | inr apart ↦ elim apart [
        | inl fewer ↦ absurd (not_fewer context l m normal_m.inside normal_m.turned same fewer)
        | inr more ↦ absurd (not_fewer context m l normal_l.inside normal_l.turned (sym same) more)
      ]
    ]

-- ---- a name exists
-- where location and target have a path, the path is short and the target near, the target can name the location
pub reanchors : (context : List Junction) (l target : Location) → HasPath context l → IsNear context target → length context ≤ 2 → length (path_of context l) ≤ 8
    → (r : Location) × (reanchored l target context ≡ Ok r)
reanchors context l target placed near few short =
    let q_few : target.parents ≤ 1 = near.few_parents in
    let t_few : length target.interior ≤ 1 = near.few_junctions in
    let q_in : target.parents ≤ length context = near.placed in
    let known : length (last_known target.parents context) ≡ target.parents = length-last_known target.parents context in
    let kept : length (take (length context - l.parents) context) ≡ length context - l.parents = length-take-le (length context - l.parents) context (omega arith) in
    let path : length (path_of context l) ≡ length (take (length context - l.parents) context) + length l.interior = length-append (take (length context - l.parents) context) l.interior in
    let first = not_below {X = Result Location LocationFault} 8 target.parents (Err Full) _ (omega (arith, q_few)) in
    elim (cases_lt target.parents l.parents) [
      | inl up ↦
          (_, first ∙ below target.parents l.parents _ _ up ∙ not_below 255 (raised_parents l target) (Err TooHigh) _ (omega (arith, t_few, placed, few)))
      | inr down ↦
          let front : length (take (target.parents - l.parents) (last_known target.parents context)) ≡ target.parents - l.parents = length-take-le (target.parents - l.parents) (last_known target.parents context) (omega (arith, known)) in
          let way : length (way_down l target context) ≡ length (take (target.parents - l.parents) (last_known target.parents context)) + length l.interior = length-append (take (target.parents - l.parents) (last_known target.parents context)) l.interior in
          (_, first ∙ not_below target.parents l.parents _ _ down ∙ not_below 8 (length (way_down l target context)) (Err Full) _ (omega (arith, front, way, path, kept, short, q_in)))
    ]

-- ---- the test of normal names
all_at : {A : Type 0} (p : A → Bool) (xs : List A) → list_all p xs ≡ true → (k : ℕ) (d : A) → k < length xs → p (slice_index_or xs k d) ≡ true
all_at p [] e k d within = absurd (omega (arith, within))
all_at p (x ∷ xs) e zero d within = (and_parts (p x) (list_all p xs) e).0
all_at p (x ∷ xs) e (suc k) d within = all_at p xs (and_parts (p x) (list_all p xs) e).1 k d (omega (arith, within))

pub normal_told : (context : List Junction) (l : Location) → is_normal context l ≡ true → IsNormal context l
normal_told context l passes =
    let first = and_parts (nat_le l.parents (length context)) (list_all (λ j. not (same_junction j OnlyChild)) l.interior && not (turns_back context l)) passes in
    let rest = and_parts (list_all (λ j. not (same_junction j OnlyChild)) l.interior) (not (turns_back context l)) first.1 in
    record {
      inside = leb-true l.parents (length context) first.0;
      named = λ k d within same.
          let test : not (same_junction (slice_index_or l.interior k d) OnlyChild) ≡ true = all_at (λ j. not (same_junction j OnlyChild)) l.interior rest.0 k d within in
          true≢false (sym test ∙ ap not ((junction_decides (slice_index_or l.interior k d) OnlyChild).1 same));
      turned = λ first some at back.
          let same : same_first (slice_get l.interior 0) (slice_get context (length context - l.parents)) ≡ true =
          ap (λ o. same_first o (slice_get context (length context - l.parents))) at ∙ ap (same_first (Some first)) back ∙ (junction_decides first first).1 refl in
          let turns : turns_back context l ≡ true = and_from (nat_lt 0 l.parents) (same_first (slice_get l.interior 0) (slice_get context (length context - l.parents))) (lt-ltb 0 l.parents some) same in
          true≢false (sym rest.1 ∙ ap not turns);
    }
