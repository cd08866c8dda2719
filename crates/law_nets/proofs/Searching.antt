-- Search among values that can be enumerated: where one passes a test, one that passes is found. A reader may skip this file.
use Rattle.std.proofs.Common.{◌≡◌, ◌∙◌, ◌⊎◌, inl, inr, ⊎_elim, ℕ, zero, suc, ◌+◌, ◌≤◌, ◌<◌, Bool, true, false, List, [], ◌∷◌, Option, Some, None, refl, sym, ap, subst, arith}
use Rattle.std.specs.Prelude.{is_some, nat_le}
use Rattle.std.specs.Option.{option_map, option_and_then}
use Rattle.std.specs.Coded.{Coded-set, coded_bool, Π_prop, ×_prop}
use Rattle.std.proofs.Math.Logic.{∥∥₁_elim}
use Rattle.std.proofs.Math.Path.{Σ_path, to_path_p}
use Rattle.std.proofs.lemmas.Bool.{leb-true, leb-false, true_from_ne_false, false≢true}

-- ---- the first of two
first_of : {A : Type 0} → Bool → A → Option A → Option A
first_of true a o = Some a
first_of false a o = o

first_sound : {A : Type 0} (b : Bool) (a : A) (o : Option A) (x : A) → first_of b a o ≡ Some x → ((b ≡ true) × (a ≡ x)) ⊎ (o ≡ Some x)
unfolding first_of
first_sound true a o x e = inl (refl, cc)
first_sound false a o x e = inr e

first_there : {A : Type 0} (b : Bool) (a : A) (o : Option A) → b ≡ true → is_some (first_of b a o) ≡ true
unfolding first_of
first_there true a o e = refl
first_there false a o e = absurd cc

later_there : {A : Type 0} (b : Bool) (a : A) (o : Option A) → is_some o ≡ true → is_some (first_of b a o) ≡ true
unfolding first_of
later_there true a o e = refl
later_there false a o e = e

-- ---- an answer, changed
map_sound : {A B : Type 0} (f : A → B) (o : Option A) (x : B) → option_map f o ≡ Some x → (a : A) × (o ≡ Some a) × (f a ≡ x)
map_sound f None x e = absurd cc
map_sound f (Some a) x e = (a, refl, cc)

map_there : {A B : Type 0} (f : A → B) (o : Option A) → is_some o ≡ true → is_some (option_map f o) ≡ true
map_there f None e = absurd cc
map_there f (Some a) e = refl

both_sound : {A B : Type 0} (o : Option A) (g : A → Option B) (x : A × B) → option_and_then (λ a. option_map (λ b. (a, b)) (g a)) o ≡ Some x → g x.0 ≡ Some x.1
both_sound None g x e = absurd cc
both_sound (Some a) g x e =
    let h = map_sound (λ b. (a, b)) (g a) x e in
    ap g (sym (ap (λ p. p.0) h.2)) ∙ h.1 ∙ ap (λ p. Some p.1) h.2

both_there : {A B : Type 0} (o : Option A) (g : A → Option B) → is_some o ≡ true → ((a : A) → o ≡ Some a → is_some (g a) ≡ true) → is_some {T = A × B} (option_and_then (λ a. option_map (λ b. (a, b)) (g a)) o) ≡ true
both_there None g e h = absurd cc
both_there (Some a) g e h = map_there (λ b. (a, b)) (g a) (h a refl)

-- ---- a search: at each stage among finitely many values, and each value from its own stage on
abbrev Find : Type 0 → Type 0
Find A = (A → Bool) → ℕ → Option A

abbrev IsSound : {A : Type 0} → Find A → Type 0
IsSound {A} find = (p : A → Bool) (n : ℕ) (a : A) → find p n ≡ Some a → p a ≡ true

abbrev IsComplete : {A : Type 0} → Find A → (A → ℕ) → Type 0
IsComplete {A} find stage = (p : A → Bool) (a : A) (n : ℕ) → stage a ≤ n → p a ≡ true → is_some (find p n) ≡ true

pub record Search (A : Type 0) : Type 0 where
  pub find : Find A
  pub stage : A → ℕ
  pub sound : IsSound find
  pub complete : IsComplete find stage

-- ---- numbers
find_ℕ : Find ℕ
find_ℕ p zero = None
find_ℕ p (suc n) = first_of (p n) n (find_ℕ p n)

sound_ℕ : IsSound find_ℕ
unfolding find_ℕ
sound_ℕ p zero a e = absurd cc
sound_ℕ p (suc n) a e = ⊎_elim (λ h. subst (λ x. p x ≡ true) h.1 h.0) (λ h. sound_ℕ p n a h) (first_sound (p n) n (find_ℕ p n) a e)

complete_by : (p : ℕ → Bool) (a k : ℕ) (b : Bool) → nat_le (suc a) k ≡ b → suc a ≤ suc k → (suc a ≤ k → is_some (find_ℕ p k) ≡ true) → p a ≡ true → is_some (find_ℕ p (suc k)) ≡ true
unfolding find_ℕ
complete_by p a k true e le rest h = later_there (p k) k (find_ℕ p k) (rest (leb-true (suc a) k e))
complete_by p a k false e le rest h =
    let more = leb-false (suc a) k e in
    let same : a ≡ k = omega (arith, more, le) in
    first_there (p k) k (find_ℕ p k) (subst (λ x. p x ≡ true) same h)

complete_ℕ : (p : ℕ → Bool) (a n : ℕ) → suc a ≤ n → p a ≡ true → is_some (find_ℕ p n) ≡ true
complete_ℕ p a zero le h = absurd (omega (arith, le))
complete_ℕ p a (suc k) le h = complete_by p a k (nat_le (suc a) k) refl le (λ less. complete_ℕ p a k less h) h

pub numbers : Search ℕ
numbers = record {
  find = find_ℕ;
  stage = suc;
  sound = sound_ℕ;
  complete = complete_ℕ;
}

-- ---- pairs
abbrev find_both : {A B : Type 0} → Find A → Find B → Find (A × B)
find_both first second p n =
    option_and_then (λ a. option_map (λ b. (a, b)) (second (λ b. p (a, b)) n)) (first (λ a. is_some (second (λ b. p (a, b)) n)) n)

module _ {A B : Type 0} (first : Find A) (second : Find B) where
  sound_both : IsSound second → IsSound (find_both first second)
  sound_both h p n x e = h (λ b. p (x.0, b)) n x.1 (both_sound (first (λ a. is_some (second (λ b. p (a, b)) n)) n) (λ a. second (λ b. p (a, b)) n) x e)

  there_both : IsSound first → (p : A × B → Bool) (n : ℕ) (a : A) (b : B) → ((q : A → Bool) → q a ≡ true → is_some (first q n) ≡ true) → ((q : B → Bool) → q b ≡ true → is_some (second q n) ≡ true)
      → p (a, b) ≡ true → is_some (find_both first second p n) ≡ true
  there_both sound p n a b one two h =
      let q : A → Bool = λ x. is_some (second (λ y. p (x, y)) n) in
      both_there (first q n) (λ x. second (λ y. p (x, y)) n) (one q (two (λ y. p (a, y)) h)) (λ x e. sound q n x e)

pub pairs : {A B : Type 0} → Search A → Search B → Search (A × B)
pairs s t = record {
  find = find_both s.find t.find;
  stage = λ x. s.stage x.0 + t.stage x.1;
  sound = sound_both s.find t.find t.sound;
  complete = λ p x n le h.
      there_both s.find t.find s.sound p n x.0 x.1 (λ q e. s.complete q x.0 n (omega (arith, le)) e) (λ q e. t.complete q x.1 n (omega (arith, le)) e) h;
}

-- ---- values that a search's values represent
pub standing_for : {A B : Type 0} → Search A → (to : B → A) (from : A → B) → ((b : B) → from (to b) ≡ b) → Search B
standing_for s to from back = record {
  find = λ p n. option_map from (s.find (λ a. p (from a)) n);
  stage = λ b. s.stage (to b);
  sound = λ p n b e.
      let h = map_sound from (s.find (λ a. p (from a)) n) b e in
      subst (λ x. p x ≡ true) h.2 (s.sound (λ a. p (from a)) n h.0 h.1);
  complete = λ p b n le h. map_there from (s.find (λ a. p (from a)) n) (s.complete (λ a. p (from a)) (to b) n le (ap p (back b) ∙ h));
}

-- ---- lists
abbrev joined : {A : Type 0} → A × List A → List A
joined x = x.0 ∷ x.1

module _ {A : Type 0} (s : Search A) where
  find_l : ℕ → Find (List A)
  find_l zero p n = first_of (p []) [] None
  find_l (suc k) p n = first_of (p []) [] (option_map joined (find_both s.find (find_l k) (λ x. p (joined x)) n))

  sound_l : (k : ℕ) → IsSound (find_l k)
  unfolding find_l
  sound_l zero p n xs e = ⊎_elim (λ h. subst (λ x. p x ≡ true) h.1 h.0) (λ h. absurd cc) (first_sound (p []) [] None xs e)
  sound_l (suc k) p n xs e =
      ⊎_elim (λ h. subst (λ x. p x ≡ true) h.1 h.0)
      (λ h. let m = map_sound joined (find_both s.find (find_l k) (λ x. p (joined x)) n) xs h in
      subst (λ x. p x ≡ true) m.2 (sound_both s.find (find_l k) (sound_l k) (λ x. p (joined x)) n m.0 m.1))
      (first_sound (p []) [] (option_map joined (find_both s.find (find_l k) (λ x. p (joined x)) n)) xs e)

  stage_l : List A → ℕ
  stage_l [] = 0
  stage_l (x ∷ xs) = suc (s.stage x + stage_l xs)

  complete_l : (k : ℕ) (p : List A → Bool) (xs : List A) (n : ℕ) → stage_l xs ≤ k → stage_l xs ≤ n → p xs ≡ true → is_some (find_l k p n) ≡ true
  unfolding find_l stage_l
  complete_l zero p [] n deep le h = first_there (p []) [] None h
  complete_l zero p (x ∷ xs) n deep le h = absurd (omega (arith, deep))
  complete_l (suc k) p [] n deep le h = first_there (p []) [] (option_map joined (find_both s.find (find_l k) (λ y. p (joined y)) n)) h
  complete_l (suc k) p (x ∷ xs) n deep le h =
      let all = find_both s.find (find_l k) (λ y. p (joined y)) n in
      later_there (p []) [] (option_map joined all) (map_there joined all
      (there_both s.find (find_l k) s.sound (λ y. p (joined y)) n x xs (λ q e. s.complete q x n (omega (arith, le)) e) (λ q e. complete_l k q xs n (omega (arith, deep)) (omega (arith, le)) e) h))

  pub lists : Search (List A)
  lists = record {
    find = λ p n. find_l n p n;
    stage = stage_l;
    sound = λ p n. sound_l n p n;
    complete = λ p xs n le h. complete_l n p xs n le le h;
  }

-- ---- the least number that passes a test
abbrev IsLeast : (ℕ → Bool) → ℕ → Type 0
IsLeast p n = (p n ≡ true) × ((m : ℕ) → m < n → p m ≡ false)

abbrev Least : (ℕ → Bool) → Type 0
Least p = (n : ℕ) × IsLeast p n

IsLeast-prop : (p : ℕ → Bool) (n : ℕ) → IsProp (IsLeast p n)
IsLeast-prop p n = ×_prop (Coded-set coded_bool (p n) true) (Π_prop (λ (m : ℕ). Π_prop (λ (le : m < n). Coded-set coded_bool (p m) false)))

not_less : (p : ℕ → Bool) (a b : Least p) → a.0 ≤ b.0
not_less p a b = leb-true a.0 b.0 (true_from_ne_false (nat_le a.0 b.0) (λ e. false≢true (sym (a.1.1 b.0 (leb-false a.0 b.0 e)) ∙ b.1.0)))

Least-prop : (p : ℕ → Bool) → IsProp (Least p)
Least-prop p a b = let one = not_less p a b in let two = not_less p b a in
    let same : a.0 ≡ b.0 = omega (arith, one, two) in
    Σ_path same (to_path_p (λ i. IsLeast p (same i)) (IsLeast-prop p b.0 _ b.1))

below_more : (p : ℕ → Bool) (k : ℕ) → p k ≡ false → ((m : ℕ) → m < k → p m ≡ false) → (m : ℕ) → m < suc k → p m ≡ false
below_more p k here below m le = by_test (nat_le k m) refl
  where
    by_test : (b : Bool) → nat_le k m ≡ b → p m ≡ false
    by_test true e = let more = leb-true k m e in let same : k ≡ m = omega (arith, more, le) in subst (λ x. p x ≡ false) same here
    by_test false e = below m (leb-false k m e)

first_by : (p : ℕ → Bool) (k : ℕ) (b : Bool) → p k ≡ b → ((m : ℕ) → m < k → p m ≡ false) → (((m : ℕ) → m < suc k → p m ≡ false) → Least p) → Least p
first_by p k true e below rest = (k, (e, below))
first_by p k false e below rest = rest (below_more p k e below)

first_from : (p : ℕ → Bool) (d k : ℕ) → p (d + k) ≡ true → ((m : ℕ) → m < k → p m ≡ false) → Least p
first_from p zero k h below =
    let same : 0 + k ≡ k = omega arith in
    (k, (subst (λ x. p x ≡ true) same h, below))
first_from p (suc d) k h below =
    let same : suc d + k ≡ d + suc k = omega arith in
    first_by p k (p k) refl below (first_from p d (suc k) (subst (λ x. p x ≡ true) same h))

found_at : {A : Type 0} (o : Option A) → is_some o ≡ true → (a : A) × (o ≡ Some a)
found_at None e = absurd cc
found_at (Some a) e = (a, refl)

-- where some value passes the test, one is found
pub found : {A : Type 0} → Search A → (p : A → Bool) → ∥ ((a : A) × (p a ≡ true)) ∥₁ → (a : A) × (p a ≡ true)
found {A} s p some =
    let q : ℕ → Bool = λ n. is_some (s.find p n) in
    let none : (m : ℕ) → m < 0 → q m ≡ false = λ m le. absurd (omega (arith, le)) in
    let same : (n : ℕ) → n + 0 ≡ n = λ n. omega arith in
    let first : Least q = ∥∥₁_elim some (Least-prop q)
    (λ x. first_from q (s.stage x.0) 0 (subst (λ n. q n ≡ true) (sym (same (s.stage x.0))) (s.complete p x.0 (s.stage x.0) (omega arith) x.1)) none) in
    let at = found_at (s.find p first.0) first.1.0 in
    (at.0, s.sound p first.0 at.0 at.1)
