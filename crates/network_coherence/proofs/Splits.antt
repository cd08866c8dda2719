-- Two lists, each in two parts.
use Rattle.std.specs.Prelude.{◌≡◌, ◌≢◌, ℕ, ◌+◌, ◌-◌, ◌<◌, ◌≤◌, ◌↔◌, Bool, true, false, IsTrue, refl, List, [], ◌∷◌, ◌++◌, length, take, drop}
use Rattle.std.specs.Ordering.{eq_by_cmp}
use Rattle.std.specs.Cmp.{both_ways}
use Rattle.std.proofs.Common.{get_or, true≢false, sym, ap, ◌∙◌, arith, append_assoc, length-append, length-drop}
use Rattle.std.proofs.Math.Seq.{take-append_seam, drop-append_seam}
use Rattle.std.proofs.lemmas.List.{take-append-drop, take-append-le, drop-append-le, take_more, take_all}
use Rattle.locations.specs.declared.grammar.Junction.{Junction}
use Rattle.locations.specs.declared.relative.Location.{Location}
use Rattle.locations.specs.Order.{junctions_cmp}
use Rattle.locations.proofs.Lemmas.OrderLaws.{junctions_decides}
use Rattle.locations.specs.Chains.{path_of, without_last}

-- ---- two lists, element by element
never : (P : Type 0) → (P → ⊥) → IsTrue false ↔ P
never P no_such = (λ e. absurd (true≢false (sym e)), λ p. absurd (no_such p))

module _ {X : Type 0} (xs ys : List X) where
  pub other_length : (length xs ≡ length ys → ⊥) → IsTrue false ↔ (xs ≡ ys)
  other_length apart = never (xs ≡ ys) (λ same. apart (ap length same))

  pub one_other : (k : ℕ) (d : X) (answer : Bool) → IsTrue answer ↔ (get_or xs k d ≡ get_or ys k d) → answer ≡ false → IsTrue false ↔ (xs ≡ ys)
  one_other k d answer says not_so = never (xs ≡ ys) (λ same. true≢false (sym (says.1 (ap (λ (zs : List X). get_or zs k d) same)) ∙ not_so))

  pub one_more : (k : ℕ) (d : X) → k < length xs → length xs ≡ length ys → get_or xs k d ≡ get_or ys k d → take k xs ≡ take k ys → take (k + 1) xs ≡ take (k + 1) ys
  one_more k d inside long same so_far =
      take_more xs k d inside ∙ (λ i. so_far i ++ same i ∷ []) ∙ sym (take_more ys k d (omega (arith, inside, long)))

  pub all_same : (k : ℕ) → length xs ≤ k → length xs ≡ length ys → take k xs ≡ take k ys → IsTrue true ↔ (xs ≡ ys)
  all_same k past long so_far = (λ e. sym (take_all k xs past) ∙ so_far ∙ take_all k ys (omega (arith, past, long)), λ same. refl)

-- ---- two lists, each in two parts
module _ {X : Type 0} (front back long short : List X) (within : length front ≤ length long) where
  -- how much of the longer front is in the other back
  abbrev pub rest : List X
  rest = drop (length front) long

  pub same_parts : front ≡ take (length front) long → take (length rest) back ≡ rest → drop (length rest) back ≡ short → front ++ back ≡ long ++ short
  same_parts start middle end =
      ap (λ xs. xs ++ back) start
      ∙ ap (λ xs. take (length front) long ++ xs) (sym (take-append-drop (length rest) back) ∙ (λ i. middle i ++ end i))
      ∙ sym (append_assoc (take (length front) long) rest short)
      ∙ ap (λ xs. xs ++ short) (take-append-drop (length front) long)

  lengths : front ++ back ≡ long ++ short → length front + length back ≡ length long + length short
  lengths same = sym (length-append front back) ∙ ap length same ∙ length-append long short

  pub not_short : front ++ back ≡ long ++ short → length rest ≤ length back
  not_short same = let all = lengths same in let left = length-drop (length front) long in omega (arith, all, left, within)

  pub start_same : front ++ back ≡ long ++ short → front ≡ take (length front) long
  start_same same = sym (take-append_seam front back) ∙ ap (take (length front)) same ∙ take-append-le (length front) long short within

  back_same : front ++ back ≡ long ++ short → back ≡ rest ++ short
  back_same same = sym (drop-append_seam front back) ∙ ap (drop (length front)) same ∙ drop-append-le (length front) long short within

  pub middle_same : front ++ back ≡ long ++ short → take (length rest) back ≡ rest
  middle_same same = ap (take (length rest)) (back_same same) ∙ take-append_seam rest short

  pub end_same : front ++ back ≡ long ++ short → drop (length rest) back ≡ short
  end_same same = ap (drop (length rest)) (back_same same) ∙ drop-append_seam rest short

  -- ---- answers
  answered : (answer : Bool) (P : Type 0) → IsTrue answer ↔ P → answer ≡ false → P → ⊥
  answered answer P says not_so p = true≢false (sym (says.1 p) ∙ not_so)

  pub other_starts : (start : List X) (answer : Bool) → start ≡ take (length front) long → IsTrue answer ↔ (front ≡ start) → answer ≡ false → IsTrue false ↔ (front ++ back ≡ long ++ short)
  other_starts start answer is says not_so = never _ (λ same. answered answer (front ≡ start) says not_so (start_same same ∙ sym is))

  pub short_back : (r : List X) → r ≡ rest → length back < length r → IsTrue false ↔ (front ++ back ≡ long ++ short)
  short_back r is few = never _ (λ same. let enough = not_short same in let long_rest : length r ≡ length rest = ap length is in omega (arith, enough, few, long_rest))

  pub other_middles : (r middle : List X) (answer : Bool) → r ≡ rest → middle ≡ take (length r) back → IsTrue answer ↔ (middle ≡ r) → answer ≡ false → IsTrue false ↔ (front ++ back ≡ long ++ short)
  other_middles r middle answer is is_middle says not_so =
      never _ (λ same. answered answer (middle ≡ r) says not_so (is_middle ∙ ap (λ (xs : List X). take (length xs) back) is ∙ middle_same same ∙ sym is))

  pub ends : (start r middle end : List X) (answer : Bool) → start ≡ take (length front) long → front ≡ start → r ≡ rest → middle ≡ take (length r) back → middle ≡ r → end ≡ drop (length r) back
      → IsTrue answer ↔ (end ≡ short) → IsTrue answer ↔ (front ++ back ≡ long ++ short)
  ends start r middle end answer is_start starts is is_middle middles is_end says =
      let ending : end ≡ drop (length rest) back = is_end ∙ ap (λ (xs : List X). drop (length xs) back) is in
      let mid : take (length rest) back ≡ rest = ap (λ (xs : List X). take (length xs) back) (sym is) ∙ sym is_middle ∙ middles ∙ is in
      (λ e. same_parts (starts ∙ is_start) mid (sym ending ∙ says.0 e), λ same. says.1 (ending ∙ end_same same))

-- an answer on two paths, each in two parts
pub path_answer : (answer : Bool) (context other_context front back other_front other_back : List Junction) (id other_id : Location)
    → front ≡ without_last id.parents context → back ≡ id.interior → other_front ≡ without_last other_id.parents other_context → other_back ≡ other_id.interior
    → IsTrue answer ↔ (front ++ back ≡ other_front ++ other_back) → answer ≡ eq_by_cmp junctions_cmp (path_of context id) (path_of other_context other_id)
path_answer answer context other_context front back other_front other_back id other_id is_front is_back is_other_front is_other_back says =
    let first : front ++ back ≡ path_of context id = λ i. is_front i ++ is_back i in
    let second : other_front ++ other_back ≡ path_of other_context other_id = λ i. is_other_front i ++ is_other_back i in
    let decides = junctions_decides (path_of context id) (path_of other_context other_id) in
    both_ways answer (eq_by_cmp junctions_cmp (path_of context id) (path_of other_context other_id))
    (λ e. decides.1 (sym first ∙ says.0 e ∙ second)) (λ e. says.1 (first ∙ decides.0 e ∙ sym second))

-- ends that differ make two paths differ
pub paths_apart : (context other_context back other_back : List Junction) (id other_id : Location) → back ≡ id.interior → other_back ≡ other_id.interior
    → ((front other_front : List Junction) → front ++ back ≢ other_front ++ other_back) → false ≡ eq_by_cmp junctions_cmp (path_of context id) (path_of other_context other_id)
paths_apart context other_context back other_back id other_id is_back is_other_back apart =
    let front = without_last id.parents context in
    let other_front = without_last other_id.parents other_context in
    path_answer false context other_context front back other_front other_back id other_id refl is_back refl is_other_back
    (never (front ++ back ≡ other_front ++ other_back) (apart front other_front))
