-- The two laws of whole programs, to a depth and within a number of instructions.
-- ---- an instruction that is made of a layer
use Rattle.std.proofs.Common.{◌≡◌, ℕ, zero, suc, ◌+◌, ◌-◌, ◌≤◌, ◌^◌, max, false, eqb, List, [], ◌∷◌, ◌++◌, length, map, Option, Some, None, refl, sym, ap, subst, ◌∙◌, append_assoc, arith}
use Rattle.std.proofs.lemmas.Bool.{eqb-false, ne_eqb}
use Rattle.std.proofs.lemmas.List.{length-map, append-nil}
use Rattle.std.specs.List.{AllByRecursion}
use Rattle.std.specs.Option.{option_map}
use Rattle.scale_codec.specs.Spelling.{compact, joined, IsPrefixFree}
use Rattle.scale_codec.specs.Reading.{◌>>=◌, Reads, below_at, repeated}
use Rattle.scale_codec.proofs.Lemmas.Steps.{bind_some, unless}
use Rattle.scale_codec.proofs.Lemmas.Compact.{c32}
use Rattle.operands.specs.declared.version.Version.{Version}
use Rattle.xcm_program.specs.declared.instruction.Instruction.{Instruction, out-Instruction, roll-Instruction, out-roll-Instruction, roll-out-Instruction}
use Rattle.xcm_program.specs.Measure.{inner, inner_of, with_inner, greatest, deep_count_one, deep_count, depth_one, depth}
use Rattle.xcm_format.specs.Programs.{head, FitsHead, behind, instruction_spelling, program_spelling, FitsInstruction, FitsProgram}
use Rattle.xcm_format.specs.Messages.{IsReadable}
use Rattle.xcm_program.proofs.Lemmas.{deep_count_inside, deep_count_one-is, depth_inside, depth_one-is, inner-with, with-back, with-none}
use Rattle.xcm_format.proofs.Lemmas.{head-with, FitsHead-with, texts, spelling-is, Inside, fits_open, fits_made}
use Rattle.instruction_reading.specs.Reading.{Layer, head_at}
use Rattle.versioned_xcm.proofs.Lemmas.HeadLaws.HeadLaws.{head_takes, head_again}
use Rattle.versioned_xcm.specs.Programs.{Nested, closed, instruction_at, instruction_step, items_at, program_at, readable_at}
use Rattle.plain_lists.proofs.Lemmas.Facts.{same_some}

spelling-roll : (v : Version) (l : Layer) → instruction_spelling v (roll-Instruction l) ≡ head v l ++ behind (texts v (inner l))
spelling-roll v l = spelling-is v (roll-Instruction l) ∙ ap (λ (k : Layer). head v k ++ behind (texts v (inner k))) (out-roll-Instruction l)

count-roll : (l : Layer) → deep_count_one (roll-Instruction l) ≡ 1 + deep_count_inside (inner l)
count-roll l = deep_count_one-is (roll-Instruction l) ∙ ap (λ (k : Layer). 1 + deep_count_inside (inner k)) (out-roll-Instruction l)

depth-roll : (l : Layer) → depth_one (roll-Instruction l) ≡ depth_inside (inner l)
depth-roll l = depth_one-is (roll-Instruction l) ∙ ap (λ (k : Layer). depth_inside (inner k)) (out-roll-Instruction l)

-- ---- what is read was written so

-- d: how deep, b: how many instructions there might be, c: how many there may still be
pub record TookProgram (v : Version) (d b : ℕ) (bytes : List ℕ) (p : List Instruction) (c : ℕ) (rest : List ℕ) : Type 0 where
  pub text : bytes ≡ program_spelling v p ++ rest
  pub fits : FitsProgram v p
  pub count : deep_count p + c ≡ b
  pub depth : depth p ≤ d

pub record TookOne (v : Version) (d b : ℕ) (bytes : List ℕ) (i : Instruction) (c : ℕ) (rest : List ℕ) : Type 0 where
  pub text : bytes ≡ instruction_spelling v i ++ rest
  pub fits : FitsInstruction v i
  pub count : deep_count_one i + c ≡ b
  pub depth : depth_one i ≤ d

pub record TookItems (v : Version) (d b n : ℕ) (bytes : List ℕ) (p : List Instruction) (c : ℕ) (rest : List ℕ) : Type 0 where
  pub text : bytes ≡ joined (map (instruction_spelling v) p) ++ rest
  pub fits : AllByRecursion (FitsInstruction v) p
  pub long : length p ≡ n
  pub count : deep_count p + c ≡ b
  pub depth : greatest (map depth_one p) ≤ d

abbrev Found : Type 0 → Type 0
Found X = X × (ℕ × List ℕ)

abbrev Takes : Version → ℕ → Nested → Type 0
Takes v d nested = (b : ℕ) (bytes : List ℕ) (x : Found (List Instruction)) → nested b bytes ≡ Some x → TookProgram v d b bytes x.0 x.1.0 x.1.1

-- with no program inside
took_plain : (v : Version) (d b : ℕ) (bytes : List ℕ) (l : Layer) (rest : List ℕ) → inner l ≡ None → bytes ≡ head v l ++ rest → FitsHead v l → TookOne v d (suc b) bytes (roll-Instruction l) b rest
took_plain v d b bytes l rest none text fits = record {
  text = text ∙ ap (λ (t : List ℕ). t ++ rest) (sym (spelling-roll v l ∙ ap (λ (o : Option (List Instruction)). head v l ++ behind (texts v o)) none ∙ append-nil (head v l)));
  fits = fits_made v l fits (subst (λ (o : Option (List Instruction)). Inside v o) (sym none) tt);
  count = omega (arith, count-roll l, ap deep_count_inside none);
  depth = omega (arith, depth-roll l, ap depth_inside none);
}

-- with one
took_nested : (v : Version) (d b : ℕ) (bytes : List ℕ) (l : Layer) (q : List Instruction) (mid : List ℕ) (p : List Instruction) (c : ℕ) (rest : List ℕ) → inner l ≡ Some q → bytes ≡ head v l ++ mid → FitsHead v l
    → TookProgram v d b mid p c rest → TookOne v d (suc b) bytes (roll-Instruction (with_inner l p)) c rest
took_nested v d b bytes l q mid p c rest some text fits t =
    let k = with_inner l p in
    let inside : inner k ≡ Some p = inner-with l q p some in
    let is : instruction_spelling v (roll-Instruction k) ≡ head v l ++ program_spelling v p = spelling-roll v k ∙ ap (λ (o : Option (List Instruction)). head v k ++ behind (texts v o)) inside ∙ ap (λ (w : List ℕ). w ++ program_spelling v p) (head-with v l p) in
    record {
      text = text ∙ ap (λ (w : List ℕ). head v l ++ w) t.text ∙ sym (append_assoc (head v l) (program_spelling v p) rest) ∙ ap (λ (w : List ℕ). w ++ rest) (sym is);
      fits = fits_made v k (FitsHead-with v l p fits) (subst (λ (o : Option (List Instruction)). Inside v o) (sym inside) t.fits);
      count = omega (arith, count-roll k, ap deep_count_inside inside, t.count);
      depth = omega (arith, depth-roll k, ap depth_inside inside, t.depth);
    }

closed_takes : (v : Version) (d : ℕ) (nested : Nested) → Takes v d nested → (b : ℕ) (bytes : List ℕ) (h : Layer × List ℕ) (x : Found Instruction) → bytes ≡ head v h.0 ++ h.1 → FitsHead v h.0
    → (o : Option (List Instruction)) → inner h.0 ≡ o → closed nested b h o ≡ Some x → TookOne v d (suc b) bytes x.0 x.1.0 x.1.1
closed_takes v d nested takes b bytes h x text fits None is e =
    subst (λ (y : Found Instruction). TookOne v d (suc b) bytes y.0 y.1.0 y.1.1) (same_some (roll-Instruction h.0, (b, h.1)) x e) (took_plain v d b bytes h.0 h.1 is text fits)
closed_takes v d nested takes b bytes h x text fits (Some q) is e =
    let a = bind_some (nested b h.1) (λ p. Some (roll-Instruction (with_inner h.0 p.0), p.1)) x e in
    let t = takes b h.1 a.0 a.1 in
    subst (λ (y : Found Instruction). TookOne v d (suc b) bytes y.0 y.1.0 y.1.1) (same_some (roll-Instruction (with_inner h.0 a.0.0), a.0.1) x a.2) (took_nested v d b bytes h.0 q h.1 a.0.0 a.0.1.0 a.0.1.1 is text fits t)

instruction_takes : (v : Version) (d : ℕ) (nested : Nested) → Takes v d nested → (b : ℕ) (bytes : List ℕ) (x : Found Instruction) → instruction_at v nested b bytes ≡ Some x → TookOne v d b bytes x.0 x.1.0 x.1.1
unfolding instruction_at
instruction_takes v d nested takes b bytes x e =
    let g = unless (eqb b 0) (head_at v bytes >>= λ h. closed nested (b - 1) h (inner h.0)) x e in
    let some : b ≡ 0 → ⊥ = eqb-false _ _ g.0 in
    let a = bind_some (head_at v bytes) (λ h. closed nested (b - 1) h (inner h.0)) x g.1 in
    let t = head_takes v bytes a.0.0 a.0.1 a.1 in
    let is : suc (b - 1) ≡ b = omega arith in
    subst (λ (n : ℕ). TookOne v d n bytes x.0 x.1.0 x.1.1) is (closed_takes v d nested takes (b - 1) bytes a.0 x t.0 t.1 (inner a.0.0) refl a.2)

items_takes : (v : Version) (d : ℕ) (nested : Nested) → Takes v d nested → (n b : ℕ) (bytes : List ℕ) (x : Found (List Instruction)) → items_at v nested n b bytes ≡ Some x → TookItems v d b n bytes x.0 x.1.0 x.1.1
unfolding repeated
items_takes v d nested takes zero b bytes x e =
    subst (λ (y : Found (List Instruction)). TookItems v d b 0 bytes y.0 y.1.0 y.1.1) (same_some ([], (b, bytes)) x e) (record { text = refl; fits = tt; long = refl; count = omega arith; depth = omega arith })
items_takes v d nested takes (suc n) b bytes x e =
    let a = bind_some (instruction_at v nested b bytes) (λ i. repeated (instruction_step v nested) n i.1 >>= λ is. Some (i.0 ∷ is.0, is.1)) x e in
    let c = bind_some (items_at v nested n a.0.1.0 a.0.1.1) (λ is. Some (a.0.0 ∷ is.0, is.1)) x a.2 in
    let t = instruction_takes v d nested takes b bytes a.0 a.1 in
    let u = items_takes v d nested takes n a.0.1.0 a.0.1.1 c.0 c.1 in
    subst (λ (y : Found (List Instruction)). TookItems v d b (suc n) bytes y.0 y.1.0 y.1.1) (same_some (a.0.0 ∷ c.0.0, c.0.1) x c.2) (record {
      text = t.text ∙ ap (λ (w : List ℕ). instruction_spelling v a.0.0 ++ w) u.text ∙ sym (append_assoc (instruction_spelling v a.0.0) (joined (map (instruction_spelling v) c.0.0)) c.0.1.1);
      fits = (t.fits, u.fits);
      long = ap suc u.long;
      count = omega (arith, t.count, u.count);
      depth = omega (arith, t.depth, u.depth);
    })

pub program_takes : (v : Version) (d : ℕ) → Takes v d (program_at v d)
unfolding program_at
program_takes v zero b bytes x e = absurd cc
program_takes v (suc d) b bytes x e =
    let a = bind_some (below_at (2 ^ 32) bytes) (λ n. items_at v (program_at v d) n.0 b n.1) x e in
    let n = c32.takes bytes a.0.0 a.0.1 a.1 in
    let t = items_takes v d (program_at v d) (program_takes v d) a.0.0 b a.0.1 x a.2 in
    let long : length (map (instruction_spelling v) x.0) ≡ a.0.0 = length-map x.0 (instruction_spelling v) ∙ t.long in
    record {
      text = n.0 ∙ ap (λ (w : List ℕ). compact a.0.0 ++ w) t.text ∙ sym (append_assoc (compact a.0.0) (joined (map (instruction_spelling v) x.0)) x.1.1)
          ∙ ap (λ (m : ℕ). (compact m ++ joined (map (instruction_spelling v) x.0)) ++ x.1.1) (sym long);
      fits = (omega (arith, n.1, t.long), t.fits);
      count = t.count;
      depth = omega (arith, t.depth);
    }

-- an instruction is one of those that there might be
pub one_less : (v : Version) (d b : ℕ) (bytes : List ℕ) (x : Found Instruction) → instruction_at v (program_at v d) b bytes ≡ Some x → x.1.0 + 1 ≤ b
one_less v d b bytes x e = omega (arith, (instruction_takes v d (program_at v d) (program_takes v d) b bytes x e).count, deep_count_one-is x.0)

-- and there is none where there may be no more
pub none_left : (v : Version) (nested : Nested) (b : ℕ) (bytes : List ℕ) → b ≡ 0 → instruction_at v nested b bytes ≡ None
unfolding instruction_at
none_left v nested b bytes e = rw e refl

-- ---- what is spelled so is read

abbrev Again : Version → ℕ → Nested → Type 0
Again v d nested = (b : ℕ) (p : List Instruction) (rest : List ℕ) → FitsProgram v p → deep_count p ≤ b → depth p ≤ d
    → nested b (program_spelling v p ++ rest) ≡ Some (p, (b - deep_count p, rest))

closed_again : (v : Version) (d : ℕ) (nested : Nested) → Again v d nested → (b : ℕ) (i : Instruction) (rest : List ℕ) → deep_count_one i ≤ suc b → depth_one i ≤ d
    → (o : Option (List Instruction)) → inner_of i ≡ o → Inside v o
    → closed nested b (with_inner (out-Instruction i) [], behind (texts v o) ++ rest) (inner (with_inner (out-Instruction i) [])) ≡ Some (i, (suc b - deep_count_one i, rest))
closed_again v d nested again b i rest few low None is fits =
    let l = out-Instruction i in
    let same : with_inner l [] ≡ l = with-none l [] is in
    let left : b ≡ suc b - deep_count_one i = omega (arith, deep_count_one-is i, ap deep_count_inside is) in
    rw (same, is) (ap (λ (j : Instruction). Some (j, (b, rest))) (roll-out-Instruction i) ∙ ap (λ (n : ℕ). Some (i, (n, rest))) left)
closed_again v d nested again b i rest few low (Some p) is fits =
    let l = out-Instruction i in
    let inside : inner (with_inner l []) ≡ Some [] = inner-with l p [] is in
    let back : with_inner (with_inner l []) p ≡ l = with-back l [] p is in
    let n = deep_count_one-is i in
    let m = ap deep_count_inside is in
    let deep : depth p ≤ d = omega (arith, depth_one-is i, ap depth_inside is) in
    let left : b - deep_count p ≡ suc b - deep_count_one i = omega (arith, n, m) in
    let read : nested b (program_spelling v p ++ rest) ≡ Some (p, (b - deep_count p, rest)) = again b p rest fits (omega (arith, n, m)) deep in
    rw (inside, read, back) (ap (λ (j : Instruction). Some (j, (b - deep_count p, rest))) (roll-out-Instruction i) ∙ ap (λ (k : ℕ). Some (i, (k, rest))) left)

instruction_again : (v : Version) (d : ℕ) (nested : Nested) → Again v d nested → (b : ℕ) (i : Instruction) (rest : List ℕ) → FitsInstruction v i → deep_count_one i ≤ b → depth_one i ≤ d
    → instruction_at v nested b (instruction_spelling v i ++ rest) ≡ Some (i, (b - deep_count_one i, rest))
unfolding instruction_at
instruction_again v d nested again zero i rest fits few low = absurd (omega (arith, deep_count_one-is i))
instruction_again v d nested again (suc b) i rest fits few low =
    let some : eqb (suc b) 0 ≡ false = ne_eqb (suc b) 0 (omega arith) in
    let back : suc b - 1 ≡ b = omega arith in
    let l = out-Instruction i in
    let f = fits_open v i fits in
    let text : instruction_spelling v i ++ rest ≡ head v l ++ (behind (texts v (inner_of i)) ++ rest) = ap (λ (w : List ℕ). w ++ rest) (spelling-is v i) ∙ append_assoc (head v l) (behind (texts v (inner_of i))) rest in
    ap (instruction_at v nested (suc b)) text
    ∙ rw (head_again v l (behind (texts v (inner_of i)) ++ rest) f.0, some, back) (closed_again v d nested again b i rest few low (inner_of i) refl f.1)

items_again : (v : Version) (d : ℕ) (nested : Nested) → Again v d nested → (p : List Instruction) (b : ℕ) (rest : List ℕ) → AllByRecursion (FitsInstruction v) p → deep_count p ≤ b → greatest (map depth_one p) ≤ d
    → items_at v nested (length p) b (joined (map (instruction_spelling v) p) ++ rest) ≡ Some (p, (b - deep_count p, rest))
unfolding repeated
items_again v d nested again [] b rest fits few low = let e : b - 0 ≡ b = omega arith in rw e refl
items_again v d nested again (i ∷ p) b rest fits few low =
    let e : b - deep_count_one i - deep_count p ≡ b - (deep_count_one i + deep_count p) = omega arith in
    ap (items_at v nested (suc (length p)) b) (append_assoc (instruction_spelling v i) (joined (map (instruction_spelling v) p)) rest)
    ∙ rw (instruction_again v d nested again b i (joined (map (instruction_spelling v) p) ++ rest) fits.0 (omega arith) (omega arith), items_again v d nested again p (b - deep_count_one i) rest fits.1 (omega arith) (omega arith), e) refl

pub program_again : (v : Version) (d : ℕ) → Again v d (program_at v d)
unfolding program_at
program_again v zero b p rest fits few low = absurd (omega arith)
program_again v (suc d) b p rest fits few low =
    let long : length (map (instruction_spelling v) p) ≡ length p = length-map p (instruction_spelling v) in
    let text : program_spelling v p ++ rest ≡ compact (length p) ++ (joined (map (instruction_spelling v) p) ++ rest) = append_assoc (compact (length (map (instruction_spelling v) p))) (joined (map (instruction_spelling v) p)) rest
    ∙ ap (λ (n : ℕ). compact n ++ (joined (map (instruction_spelling v) p) ++ rest)) long in
    ap (program_at v (suc d) b) text
    ∙ rw (c32.again (length p) (joined (map (instruction_spelling v) p) ++ rest) fits.0) (items_again v d (program_at v d) (program_again v d) p b rest fits.1 few (omega arith))

-- ---- one level of reading

pub program_at_is : (v : Version) (d b : ℕ) (bytes : List ℕ) → (d ≡ 0 → ⊥) → program_at v d b bytes ≡ (below_at (2 ^ 32) bytes >>= λ n. items_at v (program_at v (d - 1)) n.0 b n.1)
unfolding program_at
program_at_is v zero b bytes some = absurd (some refl)
program_at_is v (suc d) b bytes some = let e : suc d - 1 ≡ d = omega arith in rw e refl

pub program_at_none : (v : Version) (d b : ℕ) (bytes : List ℕ) → d ≡ 0 → program_at v d b bytes ≡ None
unfolding program_at
program_at_none v d b bytes e = rw e refl

pub program_at_fails : (v : Version) (d b : ℕ) (bytes : List ℕ) → (d ≡ 0 → ⊥) → below_at (2 ^ 32) bytes ≡ None → program_at v d b bytes ≡ None
program_at_fails v d b bytes some e = program_at_is v d b bytes some ∙ rw e refl

pub program_at_counts : (v : Version) (d b : ℕ) (bytes : List ℕ) (n : ℕ) (rest : List ℕ) → (d ≡ 0 → ⊥) → below_at (2 ^ 32) bytes ≡ Some (n, rest)
    → repeated (instruction_step v (program_at v (d - 1))) n (b, rest) ≡ program_at v d b bytes
program_at_counts v d b bytes n rest some e = sym (program_at_is v d b bytes some ∙ rw e refl)

-- ---- within the limits

-- what a map made
some_under : {A B : Type 0} (o : Option A) (f : A → B) (y : B) → option_map f o ≡ Some y → (x : A) × (o ≡ Some x) × (f x ≡ y)
some_under (Some x) f y e = (x, refl, same_some (f x) y e)
some_under None f y e = absurd cc

pub program_reads : (v : Version) → Reads (program_spelling v) (IsReadable v) (readable_at v)
unfolding readable_at
program_reads v = record {
  takes = λ bytes p rest e.
      let a = some_under (program_at v 8 100 bytes) (λ x. (x.0, x.1.1)) (p, rest) e in
      let t = program_takes v 8 100 bytes a.0 a.1 in
      let found : (bytes ≡ program_spelling v a.0.0 ++ a.0.1.1) × IsReadable v a.0.0 = (t.text, record { fits = t.fits; small = record { few = omega (arith, t.count); low = t.depth } }) in
      subst (λ (y : List Instruction × List ℕ). (bytes ≡ program_spelling v y.0 ++ y.1) × IsReadable v y.0) a.2 found;
  again = λ p rest r. ap (option_map (λ x. (x.0, x.1.1))) (program_again v 8 100 p rest r.fits r.small.few r.small.low);
}

pub readable_when : (v : Version) (bytes : List ℕ) (p : List Instruction) (left : ℕ) (rest : List ℕ) → program_at v 8 100 bytes ≡ Some (p, (left, rest)) → readable_at v bytes ≡ Some (p, rest)
unfolding readable_at
readable_when v bytes p left rest e = ap (option_map (λ x. (x.0, x.1.1))) e

pub readable_unless : (v : Version) (bytes : List ℕ) → program_at v 8 100 bytes ≡ None → readable_at v bytes ≡ None
unfolding readable_at
readable_unless v bytes e = ap (option_map (λ x. (x.0, x.1.1))) e

-- ---- no spelling begins another

pub one_front : (v : Version) (p q : List Instruction) (x y : List ℕ) → FitsProgram v p → FitsProgram v q → program_spelling v p ++ x ≡ program_spelling v q ++ y → (p ≡ q) × (x ≡ y)
one_front v p q x y fp fq e =
    let d = max (depth p) (depth q) in
    let b = max (deep_count p) (deep_count q) in
    let rp = program_again v d b p x fp (omega arith) (omega arith) in
    let rq = program_again v d b q y fq (omega arith) (omega arith) in
    let same = same_some (p, (b - deep_count p, x)) (q, (b - deep_count q, y)) (sym rp ∙ ap (program_at v d b) e ∙ rq) in
    (ap (λ (z : Found (List Instruction)). z.0) same, ap (λ (z : Found (List Instruction)). z.1.1) same)

pub no_prefix : (v : Version) → IsPrefixFree (program_spelling v) (FitsProgram v)
no_prefix v p q s t x y a b e =
    let f = one_front v p q x y a.0 b.0 (ap (λ (w : List ℕ). w ++ x) (sym a.1) ∙ e ∙ ap (λ (w : List ℕ). w ++ y) b.1) in
    (f.0, a.1 ∙ ap (program_spelling v) f.0 ∙ sym b.1, f.1)

one_instruction_front : (v : Version) (i j : Instruction) (x y : List ℕ) → FitsInstruction v i → FitsInstruction v j → instruction_spelling v i ++ x ≡ instruction_spelling v j ++ y → (i ≡ j) × (x ≡ y)
one_instruction_front v i j x y fi fj e =
    let d = max (depth_one i) (depth_one j) in
    let b = max (deep_count_one i) (deep_count_one j) in
    let ri = instruction_again v d (program_at v d) (program_again v d) b i x fi (omega arith) (omega arith) in
    let rj = instruction_again v d (program_at v d) (program_again v d) b j y fj (omega arith) (omega arith) in
    let same = same_some (i, (b - deep_count_one i, x)) (j, (b - deep_count_one j, y)) (sym ri ∙ ap (instruction_at v (program_at v d) b) e ∙ rj) in
    (ap (λ (z : Found Instruction). z.0) same, ap (λ (z : Found Instruction). z.1.1) same)

pub no_instruction_prefix : (v : Version) → IsPrefixFree (instruction_spelling v) (FitsInstruction v)
no_instruction_prefix v i j s t x y a b e =
    let f = one_instruction_front v i j x y a.0 b.0 (ap (λ (w : List ℕ). w ++ x) (sym a.1) ∙ e ∙ ap (λ (w : List ℕ). w ++ y) b.1) in
    (f.0, a.1 ∙ ap (instruction_spelling v) f.0 ∙ sym b.1, f.1)
