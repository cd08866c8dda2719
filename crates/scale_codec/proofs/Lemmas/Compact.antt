-- Compact numbers: the reader takes the shortest form of each, and nothing else.
-- ---- how many bytes
use Rattle.std.proofs.Common.{◌≡◌, ℕ, zero, suc, ◌+◌, ◌-◌, ◌*◌, ◌/◌, ◌%◌, ◌^◌, ◌<◌, ◌≤◌, ◌⊎◌, inl, inr, false, cond, ltb, eqb, List, ◌∷◌, ◌++◌, Some, None, refl, sym, ap, subst, ◌∙◌, arith}
use Rattle.std.proofs.lemmas.Bool.{lt-ltb, le-ltb, ltb-true, ltb-false, cases_lt, ne_eqb}
use Rattle.scale_codec.specs.Spelling.{fixed, size, long, compact}
use Rattle.scale_codec.specs.Reading.{◌>>=◌, Reads, u8_at, fixed_at, least, long_at, compact_after, compact_at, below_at}
use Rattle.scale_codec.proofs.Lemmas.Powers.{step, mono, four_bytes}
use Rattle.scale_codec.proofs.Lemmas.Steps.{bind_some, passed, unless}
use Rattle.scale_codec.proofs.Lemmas.NumberLaws.{byte_takes, byte_again, fixed_takes, fixed_again, least_takes, least_again}
use Rattle.plain_lists.proofs.Lemmas.Facts.{same_some}

-- a number of k bytes, of which the last is not 0
abbrev pub HasSize : ℕ → ℕ → Type 0
HasSize k n = (0 < k) × (256 ^ (k - 1) ≤ n) × (n < 256 ^ k)

size-zero : (most : ℕ) → size most 0 ≡ 0
size-zero zero = refl
size-zero (suc most) = refl

size-is : (most k n : ℕ) → k ≤ most → HasSize k n → size most n ≡ k
size-is zero k n le h = absurd (omega arith)
size-is (suc most) zero n le h = absurd (omega arith)
size-is (suc most) (suc zero) n le h =
    let some : eqb n 0 ≡ false = ne_eqb n 0 (omega arith) in
    let none : n / 256 ≡ 0 = omega arith in
    rw (some, none) (ap suc (size-zero most))
size-is (suc most) (suc (suc k)) n le h =
    let e : suc (suc k) - 1 ≡ suc k = omega arith in
    let d : suc k - 1 ≡ k = omega arith in
    let low : 256 ^ suc k ≤ n = rw e at h.1 in
    let some : eqb n 0 ≡ false = ne_eqb n 0 (omega (arith, mono 0 (suc k))) in
    let inside : HasSize (suc k) (n / 256) = (omega arith, rw d (omega (arith, step k)), omega (arith, step (suc k))) in
    rw some (ap suc (size-is most (suc k) (n / 256) (omega arith) inside))

-- a number above 0 has a size
size-has : (most n : ℕ) → 0 < n → n < 256 ^ most → HasSize (size most n) n × (size most n ≤ most)
size-has zero n some lt = absurd (omega arith)
size-has (suc most) n some lt =
    let here : eqb n 0 ≡ false = ne_eqb n 0 (omega arith) in
    rw here (elim (cases_lt n 256) [
      | inl one ↦
          let none : n / 256 ≡ 0 = omega arith in
          rw (none, size-zero most) ((omega arith, omega arith, omega arith), omega arith)
      | inr more ↦
          let h = size-has most (n / 256) (omega arith) (omega (arith, step most)) in
          let k = size most (n / 256) in
          let e : suc k - 1 ≡ k = omega arith in
          let f : k ≡ suc (k - 1) = omega (arith, h.0.0) in
          let low : 256 ^ k ≤ n = rw f (omega (arith, step (k - 1), h.0.1)) in
          ((omega arith, rw e low, omega (arith, step k, h.0.2)), omega (arith, h.1))
    ])

-- ---- each of the four forms

after_one : (b : ℕ) (rest : List ℕ) → b % 4 ≡ 0 → compact_after b rest ≡ Some (b / 4, rest)
unfolding compact_after
after_one b rest e = rw e refl

after_two : (b : ℕ) (rest : List ℕ) → b % 4 ≡ 1 → compact_after b rest ≡ (fixed_at 1 rest >>= λ x. least 64 (b / 4 + 64 * x.0, x.1))
unfolding compact_after
after_two b rest e = rw e refl

after_four : (b : ℕ) (rest : List ℕ) → b % 4 ≡ 2 → compact_after b rest ≡ (fixed_at 3 rest >>= λ x. least 16384 (b / 4 + 64 * x.0, x.1))
unfolding compact_after
after_four b rest e = rw e refl

after_long : (b : ℕ) (rest : List ℕ) → b % 4 ≡ 3 → compact_after b rest ≡ cond (ltb 12 (b / 4)) None (long_at (b / 4 + 4) rest)
unfolding compact_after
after_long b rest e = rw e refl

front : (b : ℕ) (rest : List ℕ) → b < 256 → compact_at (b ∷ rest) ≡ compact_after b rest
unfolding compact_at
front b rest lt = rw (byte_again b rest lt) refl

-- the forms by the number
is_one : (n : ℕ) → n < 64 → compact n ≡ fixed 1 (4 * n)
unfolding compact
is_one n lt = rw (lt-ltb n 64 lt) refl

is_two : (n : ℕ) → 64 ≤ n → n < 16384 → compact n ≡ fixed 2 (4 * n + 1)
unfolding compact
is_two n le lt = rw (le-ltb n 64 le, lt-ltb n 16384 lt) refl

is_four : (n : ℕ) → 16384 ≤ n → n < 1073741824 → compact n ≡ fixed 4 (4 * n + 2)
unfolding compact
is_four n le lt =
    let a : 64 ≤ n = omega arith in
    rw (le-ltb n 64 a, le-ltb n 16384 le, lt-ltb n 1073741824 lt) refl

is_long : (n : ℕ) → 1073741824 ≤ n → compact n ≡ long n
unfolding compact
is_long n le =
    let a : 64 ≤ n = omega arith in
    let b : 16384 ≤ n = omega arith in
    rw (le-ltb n 64 a, le-ltb n 16384 b, le-ltb n 1073741824 le) refl

-- ---- what was written is read again

again_small : (n more k low : ℕ) (rest : List ℕ) (b y : ℕ) → b < 256 → compact_after b (fixed k y ++ rest) ≡ (fixed_at k (fixed k y ++ rest) >>= λ x. least low (b / 4 + 64 * x.0, x.1))
    → y < 256 ^ k → b / 4 + 64 * y ≡ n → low ≤ n → compact_at (b ∷ (fixed k y ++ rest)) ≡ Some (n, rest)
again_small n more k low rest b y lt form fits is le =
    front b (fixed k y ++ rest) lt ∙ form ∙ rw (fixed_again k y rest fits, is) (least_again low (n, rest) le)

again_long : (n k : ℕ) (rest : List ℕ) → 1073741824 ≤ n → HasSize k n → 4 ≤ k → k ≤ 16 → compact_at ((4 * (k - 4) + 3) ∷ (fixed k n ++ rest)) ≡ Some (n, rest)
unfolding long_at
again_long n k rest le has few many =
    let lt : 4 * (k - 4) + 3 < 256 = omega arith in
    let mode : (4 * (k - 4) + 3) % 4 ≡ 3 = omega arith in
    let low : ltb 12 ((4 * (k - 4) + 3) / 4) ≡ false = le-ltb _ _ (omega arith) in
    let is : (4 * (k - 4) + 3) / 4 + 4 ≡ k = omega arith in
    front (4 * (k - 4) + 3) (fixed k n ++ rest) lt ∙ after_long (4 * (k - 4) + 3) (fixed k n ++ rest) mode
    ∙ rw (low, is, fixed_again k n rest has.2, least_again 1073741824 (n, rest) le) (least_again (256 ^ (k - 1)) (n, rest) has.1)

pub compact_again : (n : ℕ) (rest : List ℕ) → n < 2 ^ 128 → compact_at (compact n ++ rest) ≡ Some (n, rest)
compact_again n rest lt =
    elim (cases_lt n 64) [
      | inl one ↦
          let b : (4 * n) % 256 ≡ 4 * n = omega arith in
          let c : (4 * n) / 4 ≡ n = omega arith in
          rw (is_one n one, b) (front (4 * n) rest (omega arith) ∙ after_one (4 * n) rest (omega arith) ∙ rw c refl)
      | inr above ↦ elim (cases_lt n 16384) [
        | inl two ↦ rw (is_two n above two) (again_small n 0 1 64 rest ((4 * n + 1) % 256) ((4 * n + 1) / 256) (omega arith) (after_two _ _ (omega arith)) (omega arith) (omega arith) above)
        | inr higher ↦ elim (cases_lt n 1073741824) [
          | inl four ↦ rw (is_four n higher four) (again_small n 0 3 16384 rest ((4 * n + 2) % 256) ((4 * n + 2) / 256) (omega arith) (after_four _ _ (omega arith)) (omega arith) (omega arith) higher)
          | inr most ↦
              let h = size-has 16 n (omega arith) lt in
              rw (is_long n most) (again_long n (size 16 n) rest most h.0 (four_bytes (size 16 n) n most h.0.2) h.1)
        ]
      ]
    ]

-- ---- what is read was written so

mod_four : (b : ℕ) → (b % 4 ≡ 0) ⊎ ((b % 4 ≡ 1) ⊎ ((b % 4 ≡ 2) ⊎ (b % 4 ≡ 3)))
mod_four b =
    elim (cases_lt (b % 4) 1) [
      | inl a ↦ inl (omega arith)
      | inr a ↦ inr (elim (cases_lt (b % 4) 2) [
        | inl c ↦ inl (omega arith)
        | inr c ↦ inr (elim (cases_lt (b % 4) 3) [ inl d ↦ inl (omega arith) | inr d ↦ inr (omega arith) ])
      ])
    ]

abbrev Taken : ℕ → List ℕ → ℕ × List ℕ → Type 0
Taken b bytes x = (b ∷ bytes ≡ compact x.0 ++ x.1) × (x.0 < 2 ^ 128)

takes_small : (k low : ℕ) (b : ℕ) (bytes : List ℕ) (x : ℕ × List ℕ) → (fixed_at k bytes >>= λ y. least low (b / 4 + 64 * y.0, y.1)) ≡ Some x
    → ((y : ℕ) (rest : List ℕ) → y < 256 ^ k → low ≤ b / 4 + 64 * y → bytes ≡ fixed k y ++ rest → Taken b bytes (b / 4 + 64 * y, rest)) → Taken b bytes x
takes_small k low b bytes x e then =
    let a = bind_some (fixed_at k bytes) (λ y. least low (b / 4 + 64 * y.0, y.1)) x e in
    let f = fixed_takes k bytes a.0.0 a.0.1 a.1 in
    let l = least_takes low (b / 4 + 64 * a.0.0, a.0.1) x a.2 in
    subst (Taken b bytes) l.1 (then a.0.0 a.0.1 f.1 l.0 f.0)

takes_long : (b : ℕ) (bytes : List ℕ) (x : ℕ × List ℕ) → b % 4 ≡ 3 → b < 256 → b / 4 ≤ 12 → long_at (b / 4 + 4) bytes ≡ Some x → Taken b bytes x
unfolding long_at
takes_long b bytes x mode lt few e =
    let k = b / 4 + 4 in
    let a = bind_some (fixed_at k bytes) (λ x. least 1073741824 x >>= λ y. least (256 ^ (k - 1)) y) x e in
    let c = bind_some (least 1073741824 a.0) (λ y. least (256 ^ (k - 1)) y) x a.2 in
    let l = least_takes 1073741824 a.0 c.0 c.1 in
    let m = least_takes (256 ^ (k - 1)) c.0 x c.2 in
    let f = fixed_takes k bytes a.0.0 a.0.1 a.1 in
    let same : a.0 ≡ x = l.1 ∙ m.1 in
    let tight : 256 ^ (k - 1) ≤ a.0.0 = subst (λ (y : ℕ × List ℕ). 256 ^ (k - 1) ≤ y.0) (sym l.1) m.0 in
    let has : size 16 a.0.0 ≡ k = size-is 16 k a.0.0 (omega arith) (omega arith, tight, f.1) in
    let first : 4 * (k - 4) + 3 ≡ b = omega arith in
    let text : b ∷ bytes ≡ compact a.0.0 ++ a.0.1 = rw (is_long a.0.0 l.0, has, first) (ap (λ (t : List ℕ). b ∷ t) f.0) in
    subst (Taken b bytes) same (text, omega (arith, f.1, mono k 16 (omega arith)))

taken_one : (b : ℕ) (bytes : List ℕ) (x : ℕ × List ℕ) → b < 256 → b % 4 ≡ 0 → Some (b / 4, bytes) ≡ Some x → Taken b bytes x
taken_one b bytes x lt mode e =
    let same : (4 * (b / 4)) % 256 ≡ b = omega arith in
    subst (Taken b bytes) (same_some (b / 4, bytes) x e) (rw (is_one (b / 4) (omega arith), same) refl, omega arith)

taken_two : (b : ℕ) (bytes : List ℕ) → b < 256 → b % 4 ≡ 1 → (y : ℕ) (rest : List ℕ) → y < 256 ^ 1 → 64 ≤ b / 4 + 64 * y → bytes ≡ fixed 1 y ++ rest → Taken b bytes (b / 4 + 64 * y, rest)
taken_two b bytes lt mode y rest fits le e =
    let m : 4 * (b / 4 + 64 * y) + 1 ≡ b + 256 * y = omega arith in
    let r : (b + 256 * y) % 256 ≡ b = omega arith in
    let q : (b + 256 * y) / 256 ≡ y = omega arith in
    (rw (is_two (b / 4 + 64 * y) le (omega arith), m, r, q) (ap (λ (t : List ℕ). b ∷ t) e), omega arith)

taken_four : (b : ℕ) (bytes : List ℕ) → b < 256 → b % 4 ≡ 2 → (y : ℕ) (rest : List ℕ) → y < 256 ^ 3 → 16384 ≤ b / 4 + 64 * y → bytes ≡ fixed 3 y ++ rest → Taken b bytes (b / 4 + 64 * y, rest)
taken_four b bytes lt mode y rest fits le e =
    let m : 4 * (b / 4 + 64 * y) + 2 ≡ b + 256 * y = omega arith in
    let r : (b + 256 * y) % 256 ≡ b = omega arith in
    let q : (b + 256 * y) / 256 ≡ y = omega arith in
    (rw (is_four (b / 4 + 64 * y) le (omega arith), m, r, q) (ap (λ (t : List ℕ). b ∷ t) e), omega arith)

taken_after : (b : ℕ) (bytes : List ℕ) (x : ℕ × List ℕ) → b < 256 → compact_after b bytes ≡ Some x → Taken b bytes x
taken_after b bytes x lt e =
    elim (mod_four b) [
      | inl m ↦ taken_one b bytes x lt m (sym (after_one b bytes m) ∙ e)
      | inr (inl m) ↦ takes_small 1 64 b bytes x (sym (after_two b bytes m) ∙ e) (taken_two b bytes lt m)
      | inr (inr (inl m)) ↦ takes_small 3 16384 b bytes x (sym (after_four b bytes m) ∙ e) (taken_four b bytes lt m)
      | inr (inr (inr m)) ↦
          let g = unless (ltb 12 (b / 4)) (long_at (b / 4 + 4) bytes) x (sym (after_long b bytes m) ∙ e) in
          takes_long b bytes x m lt (ltb-false _ _ g.0) g.1
    ]

pub compact_takes : (bytes : List ℕ) (n : ℕ) (rest : List ℕ) → compact_at bytes ≡ Some (n, rest) → (bytes ≡ compact n ++ rest) × (n < 2 ^ 128)
unfolding compact_at
compact_takes bytes n rest e =
    let a = bind_some (u8_at bytes) (λ b. compact_after b.0 b.1) (n, rest) e in
    let b = byte_takes bytes a.0.0 a.0.1 a.1 in
    let t = taken_after a.0.0 a.0.1 (n, rest) b.1 a.2 in
    (b.0 ∙ t.0, t.1)

pub compact_reads : Reads compact (λ n. n < 2 ^ 128) compact_at
compact_reads = record { takes = compact_takes; again = compact_again }

below_takes : (limit : ℕ) (bytes : List ℕ) (n : ℕ) (rest : List ℕ) → below_at limit bytes ≡ Some (n, rest) → (bytes ≡ compact n ++ rest) × (n < limit)
below_takes limit bytes n rest e =
    let a = bind_some (compact_at bytes) (λ x. cond (ltb x.0 limit) (Some x) None) (n, rest) e in
    let g = passed (ltb a.0.0 limit) a.0 (n, rest) a.2 in
    let t = compact_takes bytes a.0.0 a.0.1 a.1 in
    subst (λ (y : ℕ × List ℕ). (bytes ≡ compact y.0 ++ y.1) × (y.0 < limit)) g.1 (t.0, ltb-true _ _ g.0)

pub below_reads : (limit : ℕ) → limit ≤ 2 ^ 128 → Reads compact (λ n. n < limit) (below_at limit)
below_reads limit le = record {
  takes = below_takes limit;
  again = λ n rest lt. rw (compact_again n rest (omega arith), lt-ltb n limit lt) refl;
}

-- the ranges of the format
pub c32 : Reads compact (λ n. n < 2 ^ 32) (below_at (2 ^ 32))
c32 = below_reads (2 ^ 32) (omega arith)

pub c64 : Reads compact (λ n. n < 2 ^ 64) (below_at (2 ^ 64))
c64 = below_reads (2 ^ 64) (omega arith)

pub c128 : Reads compact (λ n. n < 2 ^ 128) (below_at (2 ^ 128))
c128 = below_reads (2 ^ 128) (omega arith)
