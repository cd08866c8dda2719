-- The readers take what is spelled, and nothing else.
use Rattle.std.proofs.Common.{◌≡◌, ℕ, zero, suc, ◌+◌, ◌*◌, ◌/◌, ◌%◌, ◌^◌, ◌<◌, ◌≤◌, false, ltb, List, [], ◌∷◌, ◌++◌, length, take, drop, Some, refl, sym, ap, subst, ◌∙◌, arith, length-append}
use Rattle.std.proofs.lemmas.Bool.{lt-ltb, le-ltb, ltb-true, ltb-false}
use Rattle.std.proofs.lemmas.List.{take_at, drop_at, take-append-drop, length-take-le}
use Rattle.scale_codec.specs.Spelling.{fixed}
use Rattle.scale_codec.specs.Reading.{◌>>=◌, Reads, u8_at, fixed_at, least, take_at as bytes_at}
use Rattle.scale_codec.proofs.Lemmas.Powers.{step}
use Rattle.scale_codec.proofs.Lemmas.Steps.{bind_some, guarded, passed}
use Rattle.plain_lists.proofs.Lemmas.Facts.{same_some}

pub byte_takes : (bytes : List ℕ) (b : ℕ) (rest : List ℕ) → u8_at bytes ≡ Some (b, rest) → (bytes ≡ b ∷ rest) × (b < 256)
byte_takes [] b rest e = absurd cc
byte_takes (c ∷ bytes) b rest e =
    let g = passed (ltb c 256) (c, bytes) (b, rest) e in
    let c-is : c ≡ b = ap (λ (p : ℕ × List ℕ). p.0) g.1 in
    let rest-is : bytes ≡ rest = ap (λ (p : ℕ × List ℕ). p.1) g.1 in
    (rw (c-is, rest-is) refl, rw (← c-is) (ltb-true c 256 g.0))

pub byte_again : (b : ℕ) (rest : List ℕ) → b < 256 → u8_at (b ∷ rest) ≡ Some (b, rest)
byte_again b rest lt = rw (lt-ltb b 256 lt) refl

pub byte_reads : Reads (λ b. b ∷ []) (λ b. b < 256) u8_at
byte_reads = record { takes = byte_takes; again = byte_again }

pub fixed_takes : (k : ℕ) (bytes : List ℕ) (n : ℕ) (rest : List ℕ) → fixed_at k bytes ≡ Some (n, rest) → (bytes ≡ fixed k n ++ rest) × (n < 256 ^ k)
unfolding fixed_at
fixed_takes zero bytes n rest e =
    let g = same_some (0, bytes) (n, rest) e in
    subst (λ (p : ℕ × List ℕ). (bytes ≡ p.1) × (p.0 < 1)) g (refl, omega arith)
fixed_takes (suc k) bytes n rest e =
    let a = bind_some (u8_at bytes) (λ low. fixed_at k low.1 >>= λ high. Some (low.0 + 256 * high.0, high.1)) (n, rest) e in
    let b = bind_some (fixed_at k a.0.1) (λ high. Some (a.0.0 + 256 * high.0, high.1)) (n, rest) a.2 in
    let g = same_some (a.0.0 + 256 * b.0.0, b.0.1) (n, rest) b.2 in
    let low = byte_takes bytes a.0.0 a.0.1 a.1 in
    let high = fixed_takes k a.0.1 b.0.0 b.0.1 b.1 in
    let r : (a.0.0 + 256 * b.0.0) % 256 ≡ a.0.0 = omega (arith, low.1) in
    let q : (a.0.0 + 256 * b.0.0) / 256 ≡ b.0.0 = omega (arith, low.1) in
    let here : bytes ≡ fixed (suc k) (a.0.0 + 256 * b.0.0) ++ b.0.1 = rw (r, q) (low.0 ∙ ap (λ (t : List ℕ). a.0.0 ∷ t) high.0) in
    subst (λ (p : ℕ × List ℕ). (bytes ≡ fixed (suc k) p.0 ++ p.1) × (p.0 < 256 ^ suc k)) g (here, omega (arith, step k, low.1, high.1))

pub fixed_again : (k n : ℕ) (rest : List ℕ) → n < 256 ^ k → fixed_at k (fixed k n ++ rest) ≡ Some (n, rest)
unfolding fixed_at
fixed_again zero n rest lt = let e : n ≡ 0 = omega arith in rw e refl
fixed_again (suc k) n rest lt =
    let small : n % 256 < 256 = omega arith in
    let high : n / 256 < 256 ^ k = omega (arith, step k) in
    let whole : n % 256 + 256 * (n / 256) ≡ n = omega arith in
    rw (byte_again (n % 256) (fixed k (n / 256) ++ rest) small, fixed_again k (n / 256) rest high, whole) refl

pub fixed_reads : (k : ℕ) → Reads (fixed k) (λ n. n < 256 ^ k) (fixed_at k)
fixed_reads k = record { takes = fixed_takes k; again = fixed_again k }

pub u32_reads : Reads (fixed 4) (λ n. n < 2 ^ 32) (fixed_at 4)
u32_reads = fixed_reads 4

pub u64_reads : Reads (fixed 8) (λ n. n < 2 ^ 64) (fixed_at 8)
u64_reads = fixed_reads 8

pub least_takes : (low : ℕ) (x y : ℕ × List ℕ) → least low x ≡ Some y → (low ≤ x.0) × (x ≡ y)
least_takes low x y e = let g = guarded (ltb x.0 low) x y e in (ltb-false x.0 low g.0, g.1)

pub least_again : (low : ℕ) (x : ℕ × List ℕ) → low ≤ x.0 → least low x ≡ Some x
least_again low x le = rw (le-ltb x.0 low le) refl

bytes_takes : (n : ℕ) (bytes x rest : List ℕ) → bytes_at n bytes ≡ Some (x, rest) → (bytes ≡ x ++ rest) × (length x ≡ n)
bytes_takes n bytes x rest e =
    let g = guarded (ltb (length bytes) n) (take n bytes, drop n bytes) (x, rest) e in
    let le : n ≤ length bytes = ltb-false _ _ g.0 in
    subst (λ (p : List ℕ × List ℕ). (bytes ≡ p.0 ++ p.1) × (length p.0 ≡ n)) g.1 (sym (take-append-drop n bytes), length-take-le n bytes le)

bytes_again : (n : ℕ) (x rest : List ℕ) → length x ≡ n → bytes_at n (x ++ rest) ≡ Some (x, rest)
bytes_again n x rest e =
    let long : ltb (length (x ++ rest)) n ≡ false = le-ltb _ _ (omega (arith, length-append x rest)) in
    rw (long, take_at x rest n e, drop_at x rest n e) refl

pub bytes_reads : (n : ℕ) → Reads (λ x. x) (λ x. length x ≡ n) (bytes_at n)
bytes_reads n = record { takes = bytes_takes n; again = bytes_again n }
