-- One lemma for each way to put a reader together.
use Rattle.std.proofs.Common.{◌≡◌, ℕ, zero, suc, ◌+◌, ◌≤◌, Bool, true, false, cond, leb, List, [], ◌∷◌, ◌++◌, length, map, Option, Some, None, refl, sym, ap, subst, ◌∙◌, append_assoc, arith}
use Rattle.std.proofs.lemmas.Bool.{leb-true, le-leb}
use Rattle.std.specs.Prelude.{IfSome}
use Rattle.std.specs.List.{AllByRecursion}
use Rattle.scale_codec.specs.Spelling.{flag, optional, joined, counted, measured}
use Rattle.scale_codec.specs.Reading.{◌>>=◌, Reader, Reads, u8_at, take_at, pure_reader, made1, made2, made3, made4, made5, both_at, guarded_at, reader_by_index, indexed_at, flag_at, optional_at, repeated, counted_at, measured_at}
use Rattle.scale_codec.proofs.Lemmas.Steps.{bind_some, passed}
use Rattle.scale_codec.proofs.Lemmas.NumberLaws.{byte_takes, bytes_reads}
use Rattle.plain_lists.proofs.Lemmas.Facts.{same_some}

-- one fact and the others
infixr 10 ◌&◌
abbrev pub ◌&◌ : {A B : Type 0} → A → B → A × B
a & b = (a, b)

-- ---- the same reader, the same values

module _ {X : Type 0} (t : X → List ℕ) (F : X → Type 0) where
  -- of a reader that does the same
  pub reads_as : (r s : Reader X) → ((bytes : List ℕ) → r bytes ≡ s bytes) → Reads t F s → Reads t F r
  reads_as r s same h = record {
    takes = λ bytes x rest e. h.takes bytes x rest (sym (same bytes) ∙ e);
    again = λ x rest fits. same (t x ++ rest) ∙ h.again x rest fits;
  }

  -- of values that another fact describes
  pub reads_fits : (G : X → Type 0) (r : Reader X) → ((x : X) → F x → G x) → ((x : X) → G x → F x) → Reads t F r → Reads t G r
  reads_fits G r to from h = record {
    takes = λ bytes x rest e. let g = h.takes bytes x rest e in (g.0, to x g.1);
    again = λ x rest fits. h.again x rest (from x fits);
  }

  -- of values that pass a test too
  pub guarded_reads : (P : X → Type 0) (test : X → Bool) (r : Reader X) → ((x : X) → test x ≡ true → P x) → ((x : X) → P x → test x ≡ true) → Reads t F r → Reads t (λ x. F x × P x) (guarded_at test r)
  guarded_reads P test r sound complete h = record {
    takes = λ bytes x rest e.
        let a = bind_some (r bytes) (λ x. cond (test x.0) (Some x) None) (x, rest) e in
        let p = passed (test a.0.0) a.0 (x, rest) a.2 in
        let g = h.takes bytes a.0.0 a.0.1 a.1 in
        subst (λ (y : X × List ℕ). (bytes ≡ t y.0 ++ y.1) × (F y.0 × P y.0)) p.1 (g.0, (g.1, sound a.0.0 p.0));
    again = λ x rest fits. rw (h.again x rest fits.0, complete x fits.1) refl;
  }

-- ---- one field

module _ {A X : Type 0} (ta : A → List ℕ) (Fa : A → Type 0) (a : Reader A) (ra : Reads ta Fa a) (f : A → X) where
  pub made1_takes : (bytes : List ℕ) (z : X) (rest : List ℕ) → made1 a f bytes ≡ Some (z, rest)
      → (x : A) × (f x ≡ z) × (bytes ≡ ta x ++ rest) × Fa x
  made1_takes bytes z rest e =
      let s = bind_some (a bytes) (λ x. Some (f x.0, x.1)) (z, rest) e in
      let g = same_some (f s.0.0, s.0.1) (z, rest) s.2 in
      let t = ra.takes bytes s.0.0 s.0.1 s.1 in
      (s.0.0, ap (λ (p : X × List ℕ). p.0) g, t.0 ∙ ap (λ (p : X × List ℕ). ta s.0.0 ++ p.1) g, t.1)

  pub made1_again : (x : A) (rest : List ℕ) → Fa x → made1 a f (ta x ++ rest) ≡ Some (f x, rest)
  made1_again x rest fits = rw (ra.again x rest fits) refl

  -- a value that is its field
  pub made1_reads : (g : X → A) → ((x : A) → g (f x) ≡ x) → ((z : X) → f (g z) ≡ z) → Reads (λ z. ta (g z)) (λ z. Fa (g z)) (made1 a f)
  made1_reads g there back = record {
    takes = λ bytes z rest e.
        let s = made1_takes bytes z rest e in
        let is : s.0 ≡ g z = sym (there s.0) ∙ ap g s.1 in
        (s.2 ∙ ap (λ (x : A). ta x ++ rest) is, subst Fa is s.3);
    again = λ z rest fits. made1_again (g z) rest fits ∙ ap (λ (y : X). Some (y, rest)) (back z);
  }

-- ---- several fields: the reader of one field that is all of them

bind-bind : {A B C : Type 0} (o : Option A) (f : A → Option B) (g : B → Option C) → ((o >>= f) >>= g) ≡ (o >>= λ x. f x >>= g)
bind-bind (Some x) f g = refl
bind-bind None f g = refl

bind-same : {A B : Type 0} (o : Option A) (f g : A → Option B) → ((x : A) → f x ≡ g x) → (o >>= f) ≡ (o >>= g)
bind-same (Some x) f g h = h x
bind-same None f g h = refl

under_both : {A B C : Type 0} (a : Reader A) (b : Reader B) (k : (A × B) × List ℕ → Option C) (bytes : List ℕ) → (both_at a b bytes >>= k) ≡ (a bytes >>= λ x. b x.1 >>= λ y. k ((x.0, y.0), y.1))
under_both {A} {B} {C} a b k bytes =
    bind-bind (a bytes) (λ x. b x.1 >>= λ y. Some ((x.0, y.0), y.1)) k
    ∙ bind-same (a bytes) (λ x. (b x.1 >>= λ y. Some ((x.0, y.0), y.1)) >>= k) (λ x. b x.1 >>= λ y. k ((x.0, y.0), y.1)) (λ x. bind-bind (b x.1) (λ y. Some ((x.0, y.0), y.1)) k)

module _ {A B : Type 0} (ta : A → List ℕ) (Fa : A → Type 0) (a : Reader A) (ra : Reads ta Fa a) (tb : B → List ℕ) (Fb : B → Type 0) (b : Reader B) (rb : Reads tb Fb b) where
  pub both_reads : Reads (λ (p : A × B). ta p.0 ++ tb p.1) (λ p. Fa p.0 × Fb p.1) (both_at a b)
  both_reads = record {
    takes = λ bytes p rest e.
        let s = bind_some (a bytes) (λ x. b x.1 >>= λ y. Some ((x.0, y.0), y.1)) (p, rest) e in
        let r = bind_some (b s.0.1) (λ y. Some ((s.0.0, y.0), y.1)) (p, rest) s.2 in
        let g = same_some ((s.0.0, r.0.0), r.0.1) (p, rest) r.2 in
        let t = ra.takes bytes s.0.0 s.0.1 s.1 in
        let u = rb.takes s.0.1 r.0.0 r.0.1 r.1 in
        let text : bytes ≡ (ta s.0.0 ++ tb r.0.0) ++ r.0.1 = t.0 ∙ ap (λ (w : List ℕ). ta s.0.0 ++ w) u.0 ∙ sym (append_assoc (ta s.0.0) (tb r.0.0) r.0.1) in
        subst (λ (q : (A × B) × List ℕ). (bytes ≡ (ta q.0.0 ++ tb q.0.1) ++ q.1) × (Fa q.0.0 × Fb q.0.1)) g (text, (t.1, u.1));
    again = λ p rest fits. rw (append_assoc (ta p.0) (tb p.1) rest, ra.again p.0 (tb p.1 ++ rest) fits.0, rb.again p.1 rest fits.1) refl;
  }

abbrev two : {A B X : Type 0} → (A → B → X) → A × B → X
two f p = f p.0 p.1

abbrev three : {A B C X : Type 0} → (A → B → C → X) → (A × B) × C → X
three f p = f p.0.0 p.0.1 p.1

abbrev four : {A B C D X : Type 0} → (A → B → C → D → X) → ((A × B) × C) × D → X
four f p = f p.0.0.0 p.0.0.1 p.0.1 p.1

abbrev five : {A B C D E X : Type 0} → (A → B → C → D → E → X) → (((A × B) × C) × D) × E → X
five f p = f p.0.0.0.0 p.0.0.0.1 p.0.0.1 p.0.1 p.1

made2-is : {A B X : Type 0} (a : Reader A) (b : Reader B) (f : A → B → X) (bytes : List ℕ) → made2 a b f bytes ≡ made1 (both_at a b) (two f) bytes
made2-is a b f bytes = sym (under_both a b (λ p. Some (two f p.0, p.1)) bytes)

made3-is : {A B C X : Type 0} (a : Reader A) (b : Reader B) (c : Reader C) (f : A → B → C → X) (bytes : List ℕ) → made3 a b c f bytes ≡ made1 (both_at (both_at a b) c) (three f) bytes
made3-is a b c f bytes = sym (under_both (both_at a b) c (λ p. Some (three f p.0, p.1)) bytes ∙ under_both a b (λ p. c p.1 >>= λ z. Some (three f (p.0, z.0), z.1)) bytes)

made4-is : {A B C D X : Type 0} (a : Reader A) (b : Reader B) (c : Reader C) (d : Reader D) (f : A → B → C → D → X) (bytes : List ℕ) → made4 a b c d f bytes ≡ made1 (both_at (both_at (both_at a b) c) d) (four f) bytes
made4-is a b c d f bytes = sym (
    under_both (both_at (both_at a b) c) d (λ p. Some (four f p.0, p.1)) bytes
    ∙ under_both (both_at a b) c (λ p. d p.1 >>= λ w. Some (four f (p.0, w.0), w.1)) bytes
    ∙ under_both a b (λ p. c p.1 >>= λ z. d z.1 >>= λ w. Some (four f ((p.0, z.0), w.0), w.1)) bytes
    )

made5-is : {A B C D E X : Type 0} (a : Reader A) (b : Reader B) (c : Reader C) (d : Reader D) (e : Reader E) (f : A → B → C → D → E → X) (bytes : List ℕ) → made5 a b c d e f bytes ≡ made1 (both_at (both_at (both_at (both_at a b) c) d) e) (five f) bytes
made5-is a b c d e f bytes = sym (
    under_both (both_at (both_at (both_at a b) c) d) e (λ p. Some (five f p.0, p.1)) bytes
    ∙ under_both (both_at (both_at a b) c) d (λ p. e p.1 >>= λ v. Some (five f (p.0, v.0), v.1)) bytes
    ∙ under_both (both_at a b) c (λ p. d p.1 >>= λ w. e w.1 >>= λ v. Some (five f ((p.0, w.0), v.0), v.1)) bytes
    ∙ under_both a b (λ p. c p.1 >>= λ z. d z.1 >>= λ w. e w.1 >>= λ v. Some (five f (((p.0, z.0), w.0), v.0), v.1)) bytes
    )

-- ---- so many fields. The reader of fields in order, and the value of a record g of which is its fields

module _ {A B X : Type 0} (ta : A → List ℕ) (Fa : A → Type 0) (a : Reader A) (ra : Reads ta Fa a) (tb : B → List ℕ) (Fb : B → Type 0) (b : Reader B) (rb : Reads tb Fb b) (f : A → B → X) where
  pub made2_again : (x : A) (y : B) (rest : List ℕ) → Fa x → Fb y → made2 a b f ((ta x ++ tb y) ++ rest) ≡ Some (f x y, rest)
  made2_again x y rest fa fb =
      made2-is a b f ((ta x ++ tb y) ++ rest)
      ∙ made1_again (λ (p : A × B). ta p.0 ++ tb p.1) (λ p. Fa p.0 × Fb p.1) (both_at a b) (both_reads ta Fa a ra tb Fb b rb) (two f) (x, y) rest (fa, fb)

  pub made2_reads : (g : X → A × B) → ((p : A × B) → g (f p.0 p.1) ≡ p) → ((z : X) → f (g z).0 (g z).1 ≡ z) → Reads (λ z. ta (g z).0 ++ tb (g z).1) (λ z. Fa (g z).0 × Fb (g z).1) (made2 a b f)
  made2_reads g there back =
      reads_as _ _ (made2 a b f) (made1 (both_at a b) (two f)) (made2-is a b f)
      (made1_reads (λ (p : A × B). ta p.0 ++ tb p.1) (λ p. Fa p.0 × Fb p.1) (both_at a b) (both_reads ta Fa a ra tb Fb b rb) (two f) g there back)

module _ {A B C X : Type 0} (ta : A → List ℕ) (Fa : A → Type 0) (a : Reader A) (ra : Reads ta Fa a) (tb : B → List ℕ) (Fb : B → Type 0) (b : Reader B) (rb : Reads tb Fb b) (tc : C → List ℕ) (Fc : C → Type 0) (c : Reader C) (rc : Reads tc Fc c) (f : A → B → C → X) where
  pub made3_again : (x : A) (y : B) (z : C) (rest : List ℕ) → Fa x → Fb y → Fc z → made3 a b c f ((ta x ++ tb y ++ tc z) ++ rest) ≡ Some (f x y z, rest)
  made3_again x y z rest fa fb fc =
      made3-is a b c f ((ta x ++ tb y ++ tc z) ++ rest)
      ∙ made1_again (λ (p : (A × B) × C). ta p.0.0 ++ tb p.0.1 ++ tc p.1) (λ p. (Fa p.0.0 × Fb p.0.1) × Fc p.1) (both_at (both_at a b) c) (both_reads (λ (p : A × B). ta p.0 ++ tb p.1) (λ p. Fa p.0 × Fb p.1) (both_at a b) (both_reads ta Fa a ra tb Fb b rb) tc Fc c rc) (three f) ((x, y), z) rest ((fa, fb), fc)

  pub made3_reads : (g : X → (A × B) × C) → ((p : (A × B) × C) → g (f p.0.0 p.0.1 p.1) ≡ p) → ((z : X) → f (g z).0.0 (g z).0.1 (g z).1 ≡ z) → Reads (λ z. ta (g z).0.0 ++ tb (g z).0.1 ++ tc (g z).1) (λ z. (Fa (g z).0.0 × Fb (g z).0.1) × Fc (g z).1) (made3 a b c f)
  made3_reads g there back =
      reads_as _ _ (made3 a b c f) (made1 (both_at (both_at a b) c) (three f)) (made3-is a b c f)
      (made1_reads (λ (p : (A × B) × C). ta p.0.0 ++ tb p.0.1 ++ tc p.1) (λ p. (Fa p.0.0 × Fb p.0.1) × Fc p.1) (both_at (both_at a b) c) (both_reads (λ (p : A × B). ta p.0 ++ tb p.1) (λ p. Fa p.0 × Fb p.1) (both_at a b) (both_reads ta Fa a ra tb Fb b rb) tc Fc c rc) (three f) g there back)

module _ {A B C D X : Type 0} (ta : A → List ℕ) (Fa : A → Type 0) (a : Reader A) (ra : Reads ta Fa a) (tb : B → List ℕ) (Fb : B → Type 0) (b : Reader B) (rb : Reads tb Fb b) (tc : C → List ℕ) (Fc : C → Type 0) (c : Reader C) (rc : Reads tc Fc c) (td : D → List ℕ) (Fd : D → Type 0) (d : Reader D) (rd : Reads td Fd d) (f : A → B → C → D → X) where
  pub made4_again : (x : A) (y : B) (z : C) (w : D) (rest : List ℕ) → Fa x → Fb y → Fc z → Fd w → made4 a b c d f ((ta x ++ tb y ++ tc z ++ td w) ++ rest) ≡ Some (f x y z w, rest)
  made4_again x y z w rest fa fb fc fd =
      made4-is a b c d f ((ta x ++ tb y ++ tc z ++ td w) ++ rest)
      ∙ made1_again (λ (p : ((A × B) × C) × D). ta p.0.0.0 ++ tb p.0.0.1 ++ tc p.0.1 ++ td p.1) (λ p. ((Fa p.0.0.0 × Fb p.0.0.1) × Fc p.0.1) × Fd p.1) (both_at (both_at (both_at a b) c) d) (both_reads (λ (p : (A × B) × C). ta p.0.0 ++ tb p.0.1 ++ tc p.1) (λ p. (Fa p.0.0 × Fb p.0.1) × Fc p.1) (both_at (both_at a b) c) (both_reads (λ (p : A × B). ta p.0 ++ tb p.1) (λ p. Fa p.0 × Fb p.1) (both_at a b) (both_reads ta Fa a ra tb Fb b rb) tc Fc c rc) td Fd d rd) (four f) (((x, y), z), w) rest (((fa, fb), fc), fd)

  pub made4_reads : (g : X → ((A × B) × C) × D) → ((p : ((A × B) × C) × D) → g (f p.0.0.0 p.0.0.1 p.0.1 p.1) ≡ p) → ((z : X) → f (g z).0.0.0 (g z).0.0.1 (g z).0.1 (g z).1 ≡ z) → Reads (λ z. ta (g z).0.0.0 ++ tb (g z).0.0.1 ++ tc (g z).0.1 ++ td (g z).1) (λ z. ((Fa (g z).0.0.0 × Fb (g z).0.0.1) × Fc (g z).0.1) × Fd (g z).1) (made4 a b c d f)
  made4_reads g there back =
      reads_as _ _ (made4 a b c d f) (made1 (both_at (both_at (both_at a b) c) d) (four f)) (made4-is a b c d f)
      (made1_reads (λ (p : ((A × B) × C) × D). ta p.0.0.0 ++ tb p.0.0.1 ++ tc p.0.1 ++ td p.1) (λ p. ((Fa p.0.0.0 × Fb p.0.0.1) × Fc p.0.1) × Fd p.1) (both_at (both_at (both_at a b) c) d) (both_reads (λ (p : (A × B) × C). ta p.0.0 ++ tb p.0.1 ++ tc p.1) (λ p. (Fa p.0.0 × Fb p.0.1) × Fc p.1) (both_at (both_at a b) c) (both_reads (λ (p : A × B). ta p.0 ++ tb p.1) (λ p. Fa p.0 × Fb p.1) (both_at a b) (both_reads ta Fa a ra tb Fb b rb) tc Fc c rc) td Fd d rd) (four f) g there back)

module _ {A B C D E X : Type 0} (ta : A → List ℕ) (Fa : A → Type 0) (a : Reader A) (ra : Reads ta Fa a) (tb : B → List ℕ) (Fb : B → Type 0) (b : Reader B) (rb : Reads tb Fb b) (tc : C → List ℕ) (Fc : C → Type 0) (c : Reader C) (rc : Reads tc Fc c) (td : D → List ℕ) (Fd : D → Type 0) (d : Reader D) (rd : Reads td Fd d) (te : E → List ℕ) (Fe : E → Type 0) (e : Reader E) (re : Reads te Fe e) (f : A → B → C → D → E → X) where
  pub made5_again : (x : A) (y : B) (z : C) (w : D) (v : E) (rest : List ℕ) → Fa x → Fb y → Fc z → Fd w → Fe v → made5 a b c d e f ((ta x ++ tb y ++ tc z ++ td w ++ te v) ++ rest) ≡ Some (f x y z w v, rest)
  made5_again x y z w v rest fa fb fc fd fe =
      made5-is a b c d e f ((ta x ++ tb y ++ tc z ++ td w ++ te v) ++ rest)
      ∙ made1_again (λ (p : (((A × B) × C) × D) × E). ta p.0.0.0.0 ++ tb p.0.0.0.1 ++ tc p.0.0.1 ++ td p.0.1 ++ te p.1) (λ p. (((Fa p.0.0.0.0 × Fb p.0.0.0.1) × Fc p.0.0.1) × Fd p.0.1) × Fe p.1) (both_at (both_at (both_at (both_at a b) c) d) e) (both_reads (λ (p : ((A × B) × C) × D). ta p.0.0.0 ++ tb p.0.0.1 ++ tc p.0.1 ++ td p.1) (λ p. ((Fa p.0.0.0 × Fb p.0.0.1) × Fc p.0.1) × Fd p.1) (both_at (both_at (both_at a b) c) d) (both_reads (λ (p : (A × B) × C). ta p.0.0 ++ tb p.0.1 ++ tc p.1) (λ p. (Fa p.0.0 × Fb p.0.1) × Fc p.1) (both_at (both_at a b) c) (both_reads (λ (p : A × B). ta p.0 ++ tb p.1) (λ p. Fa p.0 × Fb p.1) (both_at a b) (both_reads ta Fa a ra tb Fb b rb) tc Fc c rc) td Fd d rd) te Fe e re) (five f) ((((x, y), z), w), v) rest ((((fa, fb), fc), fd), fe)

  pub made5_reads : (g : X → (((A × B) × C) × D) × E) → ((p : (((A × B) × C) × D) × E) → g (f p.0.0.0.0 p.0.0.0.1 p.0.0.1 p.0.1 p.1) ≡ p) → ((z : X) → f (g z).0.0.0.0 (g z).0.0.0.1 (g z).0.0.1 (g z).0.1 (g z).1 ≡ z) → Reads (λ z. ta (g z).0.0.0.0 ++ tb (g z).0.0.0.1 ++ tc (g z).0.0.1 ++ td (g z).0.1 ++ te (g z).1) (λ z. (((Fa (g z).0.0.0.0 × Fb (g z).0.0.0.1) × Fc (g z).0.0.1) × Fd (g z).0.1) × Fe (g z).1) (made5 a b c d e f)
  made5_reads g there back =
      reads_as _ _ (made5 a b c d e f) (made1 (both_at (both_at (both_at (both_at a b) c) d) e) (five f)) (made5-is a b c d e f)
      (made1_reads (λ (p : (((A × B) × C) × D) × E). ta p.0.0.0.0 ++ tb p.0.0.0.1 ++ tc p.0.0.1 ++ td p.0.1 ++ te p.1) (λ p. (((Fa p.0.0.0.0 × Fb p.0.0.0.1) × Fc p.0.0.1) × Fd p.0.1) × Fe p.1) (both_at (both_at (both_at (both_at a b) c) d) e) (both_reads (λ (p : ((A × B) × C) × D). ta p.0.0.0 ++ tb p.0.0.1 ++ tc p.0.1 ++ td p.1) (λ p. ((Fa p.0.0.0 × Fb p.0.0.1) × Fc p.0.1) × Fd p.1) (both_at (both_at (both_at a b) c) d) (both_reads (λ (p : (A × B) × C). ta p.0.0 ++ tb p.0.1 ++ tc p.1) (λ p. (Fa p.0.0 × Fb p.0.1) × Fc p.1) (both_at (both_at a b) c) (both_reads (λ (p : A × B). ta p.0 ++ tb p.1) (λ p. Fa p.0 × Fb p.1) (both_at a b) (both_reads ta Fa a ra tb Fb b rb) tc Fc c rc) td Fd d rd) te Fe e re) (five f) g there back)

-- ---- an index, and the form at it

module _ {X : Type 0} (text : X → List ℕ) (Fits : X → Type 0) where
  -- what r reads is spelled with k in front
  pub record Formed (k : ℕ) (r : Reader X) : Type 0 where
    pub takes : (bytes : List ℕ) (x : X) (rest : List ℕ) → r bytes ≡ Some (x, rest) → (k ∷ bytes ≡ text x ++ rest) × Fits x

  abbrev pub AllFormed : ℕ → List (Reader X) → Type 0
  AllFormed k [] = Unit {0}
  AllFormed k (r ∷ rs) = Formed k r × AllFormed (suc k) rs

  pub chosen_takes : (rs : List (Reader X)) (s : ℕ) → AllFormed s rs → (k : ℕ) (bytes : List ℕ) (x : X) (rest : List ℕ) → reader_by_index rs k bytes ≡ Some (x, rest)
      → ((s + k) ∷ bytes ≡ text x ++ rest) × Fits x
  chosen_takes [] s all k bytes x rest e = absurd cc
  chosen_takes (r ∷ rs) s all zero bytes x rest e =
      let n : s + 0 ≡ s = omega arith in
      rw n (all.0.takes bytes x rest e)
  chosen_takes (r ∷ rs) s all (suc k) bytes x rest e =
      let n : s + suc k ≡ suc s + k = omega arith in
      rw n (chosen_takes rs (suc s) all.1 k bytes x rest e)

  pub indexed_takes : (rs : List (Reader X)) → AllFormed 0 rs → (bytes : List ℕ) (x : X) (rest : List ℕ) → indexed_at rs bytes ≡ Some (x, rest) → (bytes ≡ text x ++ rest) × Fits x
  indexed_takes rs all bytes x rest e =
      let a = bind_some (u8_at bytes) (λ k. reader_by_index rs k.0 k.1) (x, rest) e in
      let b = byte_takes bytes a.0.0 a.0.1 a.1 in
      let t = chosen_takes rs 0 all a.0.0 a.0.1 x rest a.2 in
      let n : 0 + a.0.0 ≡ a.0.0 = omega arith in
      (b.0 ∙ rw n at t.0, t.1)

  -- one of several forms: each form is at its index, and each value is read again
  pub indexed_reads : (rs : List (Reader X)) → AllFormed 0 rs → ((x : X) (rest : List ℕ) → Fits x → indexed_at rs (text x ++ rest) ≡ Some (x, rest)) → Reads text Fits (indexed_at rs)
  indexed_reads rs all again = record { takes = indexed_takes rs all; again = again }

  pub formed_as : (k : ℕ) (r s : Reader X) → ((bytes : List ℕ) → r bytes ≡ s bytes) → Formed k s → Formed k r
  formed_as k r s same h = record { takes = λ bytes x rest e. h.takes bytes x rest (sym (same bytes) ∙ e) }

  pub formed0 : (k : ℕ) (x : X) → text x ≡ k ∷ [] → Fits x → Formed k (pure_reader x)
  formed0 k x is fits = record {
    takes = λ bytes y rest e.
        let g = same_some (x, bytes) (y, rest) e in
        subst (λ (p : X × List ℕ). (k ∷ bytes ≡ text p.0 ++ p.1) × Fits p.0) g (sym (ap (λ (t : List ℕ). t ++ bytes) is), fits);
  }

  pub formed1 : {A : Type 0} (ta : A → List ℕ) (Fa : A → Type 0) (a : Reader A) → Reads ta Fa a → (f : A → X) (k : ℕ)
      → ((x : A) → text (f x) ≡ k ∷ ta x) → ((x : A) → Fa x → Fits (f x)) → Formed k (made1 a f)
  formed1 ta Fa a ra f k is fits = record {
    takes = λ bytes z rest e.
        let t = made1_takes ta Fa a ra f bytes z rest e in
        subst (λ (y : X). (k ∷ bytes ≡ text y ++ rest) × Fits y) t.1 (ap (λ (w : List ℕ). k ∷ w) t.2 ∙ sym (ap (λ (w : List ℕ). w ++ rest) (is t.0)), fits t.0 t.3);
  }

  pub formed2 : {A B : Type 0} (ta : A → List ℕ) (Fa : A → Type 0) (a : Reader A) → Reads ta Fa a → (tb : B → List ℕ) (Fb : B → Type 0) (b : Reader B) → Reads tb Fb b → (f : A → B → X) (k : ℕ)
      → ((x : A) (y : B) → text (f x y) ≡ k ∷ (ta x ++ tb y)) → ((x : A) (y : B) → Fa x → Fb y → Fits (f x y)) → Formed k (made2 a b f)
  formed2 {A} {B} ta Fa a ra tb Fb b rb f k is fits =
      formed_as k (made2 a b f) (made1 (both_at a b) (two f)) (made2-is a b f)
      (formed1 (λ (p : A × B). ta p.0 ++ tb p.1) (λ p. Fa p.0 × Fb p.1) (both_at a b) (both_reads ta Fa a ra tb Fb b rb) (two f) k (λ p. is p.0 p.1) (λ p h. fits p.0 p.1 h.0 h.1))

  pub formed3 : {A B C : Type 0} (ta : A → List ℕ) (Fa : A → Type 0) (a : Reader A) → Reads ta Fa a → (tb : B → List ℕ) (Fb : B → Type 0) (b : Reader B) → Reads tb Fb b → (tc : C → List ℕ) (Fc : C → Type 0) (c : Reader C) → Reads tc Fc c → (f : A → B → C → X) (k : ℕ)
      → ((x : A) (y : B) (z : C) → text (f x y z) ≡ k ∷ (ta x ++ tb y ++ tc z)) → ((x : A) (y : B) (z : C) → Fa x → Fb y → Fc z → Fits (f x y z)) → Formed k (made3 a b c f)
  formed3 {A} {B} {C} ta Fa a ra tb Fb b rb tc Fc c rc f k is fits =
      formed_as k (made3 a b c f) (made1 (both_at (both_at a b) c) (three f)) (made3-is a b c f)
      (formed1 (λ (p : (A × B) × C). ta p.0.0 ++ tb p.0.1 ++ tc p.1) (λ p. (Fa p.0.0 × Fb p.0.1) × Fc p.1) (both_at (both_at a b) c) (both_reads (λ (p : A × B). ta p.0 ++ tb p.1) (λ p. Fa p.0 × Fb p.1) (both_at a b) (both_reads ta Fa a ra tb Fb b rb) tc Fc c rc) (three f) k (λ p. is p.0.0 p.0.1 p.1) (λ p h. fits p.0.0 p.0.1 p.1 h.0.0 h.0.1 h.1))

  pub formed4 : {A B C D : Type 0} (ta : A → List ℕ) (Fa : A → Type 0) (a : Reader A) → Reads ta Fa a → (tb : B → List ℕ) (Fb : B → Type 0) (b : Reader B) → Reads tb Fb b → (tc : C → List ℕ) (Fc : C → Type 0) (c : Reader C) → Reads tc Fc c → (td : D → List ℕ) (Fd : D → Type 0) (d : Reader D) → Reads td Fd d → (f : A → B → C → D → X) (k : ℕ)
      → ((x : A) (y : B) (z : C) (w : D) → text (f x y z w) ≡ k ∷ (ta x ++ tb y ++ tc z ++ td w)) → ((x : A) (y : B) (z : C) (w : D) → Fa x → Fb y → Fc z → Fd w → Fits (f x y z w)) → Formed k (made4 a b c d f)
  formed4 {A} {B} {C} {D} ta Fa a ra tb Fb b rb tc Fc c rc td Fd d rd f k is fits =
      formed_as k (made4 a b c d f) (made1 (both_at (both_at (both_at a b) c) d) (four f)) (made4-is a b c d f)
      (formed1 (λ (p : ((A × B) × C) × D). ta p.0.0.0 ++ tb p.0.0.1 ++ tc p.0.1 ++ td p.1) (λ p. ((Fa p.0.0.0 × Fb p.0.0.1) × Fc p.0.1) × Fd p.1) (both_at (both_at (both_at a b) c) d) (both_reads (λ (p : (A × B) × C). ta p.0.0 ++ tb p.0.1 ++ tc p.1) (λ p. (Fa p.0.0 × Fb p.0.1) × Fc p.1) (both_at (both_at a b) c) (both_reads (λ (p : A × B). ta p.0 ++ tb p.1) (λ p. Fa p.0 × Fb p.1) (both_at a b) (both_reads ta Fa a ra tb Fb b rb) tc Fc c rc) td Fd d rd) (four f) k (λ p. is p.0.0.0 p.0.0.1 p.0.1 p.1) (λ p h. fits p.0.0.0 p.0.0.1 p.0.1 p.1 h.0.0.0 h.0.0.1 h.0.1 h.1))

  pub formed5 : {A B C D E : Type 0} (ta : A → List ℕ) (Fa : A → Type 0) (a : Reader A) → Reads ta Fa a → (tb : B → List ℕ) (Fb : B → Type 0) (b : Reader B) → Reads tb Fb b → (tc : C → List ℕ) (Fc : C → Type 0) (c : Reader C) → Reads tc Fc c → (td : D → List ℕ) (Fd : D → Type 0) (d : Reader D) → Reads td Fd d → (te : E → List ℕ) (Fe : E → Type 0) (e : Reader E) → Reads te Fe e → (f : A → B → C → D → E → X) (k : ℕ)
      → ((x : A) (y : B) (z : C) (w : D) (v : E) → text (f x y z w v) ≡ k ∷ (ta x ++ tb y ++ tc z ++ td w ++ te v)) → ((x : A) (y : B) (z : C) (w : D) (v : E) → Fa x → Fb y → Fc z → Fd w → Fe v → Fits (f x y z w v)) → Formed k (made5 a b c d e f)
  formed5 {A} {B} {C} {D} {E} ta Fa a ra tb Fb b rb tc Fc c rc td Fd d rd te Fe e re f k is fits =
      formed_as k (made5 a b c d e f) (made1 (both_at (both_at (both_at (both_at a b) c) d) e) (five f)) (made5-is a b c d e f)
      (formed1 (λ (p : (((A × B) × C) × D) × E). ta p.0.0.0.0 ++ tb p.0.0.0.1 ++ tc p.0.0.1 ++ td p.0.1 ++ te p.1) (λ p. (((Fa p.0.0.0.0 × Fb p.0.0.0.1) × Fc p.0.0.1) × Fd p.0.1) × Fe p.1) (both_at (both_at (both_at (both_at a b) c) d) e) (both_reads (λ (p : ((A × B) × C) × D). ta p.0.0.0 ++ tb p.0.0.1 ++ tc p.0.1 ++ td p.1) (λ p. ((Fa p.0.0.0 × Fb p.0.0.1) × Fc p.0.1) × Fd p.1) (both_at (both_at (both_at a b) c) d) (both_reads (λ (p : (A × B) × C). ta p.0.0 ++ tb p.0.1 ++ tc p.1) (λ p. (Fa p.0.0 × Fb p.0.1) × Fc p.1) (both_at (both_at a b) c) (both_reads (λ (p : A × B). ta p.0 ++ tb p.1) (λ p. Fa p.0 × Fb p.1) (both_at a b) (both_reads ta Fa a ra tb Fb b rb) tc Fc c rc) td Fd d rd) te Fe e re) (five f) k (λ p. is p.0.0.0.0 p.0.0.0.1 p.0.0.1 p.0.1 p.1) (λ p h. fits p.0.0.0.0 p.0.0.0.1 p.0.0.1 p.0.1 p.1 h.0.0.0.0 h.0.0.0.1 h.0.0.1 h.0.1 h.1))

-- ---- flags and options

pub flag_reads : Reads flag (λ _. Unit {0}) flag_at
flag_reads = indexed_reads flag (λ _. Unit {0}) (pure_reader false ∷ pure_reader true ∷ [])
    (formed0 flag (λ _. Unit {0}) 0 false refl tt & formed0 flag (λ _. Unit {0}) 1 true refl tt & tt)
    flag_again
  where
    flag_again : (b : Bool) (rest : List ℕ) → Unit {0} → flag_at (flag b ++ rest) ≡ Some (b, rest)
    flag_again false rest fits = refl
    flag_again true rest fits = refl

module _ {X : Type 0} (t : X → List ℕ) (F : X → Type 0) (r : Reader X) (rr : Reads t F r) where
  optional_again : (o : Option X) (rest : List ℕ) → IfSome o F → optional_at r (optional t o ++ rest) ≡ Some (o, rest)
  optional_again None rest fits = refl
  optional_again (Some x) rest fits = made1_again t F r rr Some x rest fits

  pub optional_reads : Reads (optional t) (λ o. IfSome o F) (optional_at r)
  optional_reads = indexed_reads (optional t) (λ o. IfSome o F) (pure_reader None ∷ made1 r Some ∷ [])
      (formed0 (optional t) (λ o. IfSome o F) 0 None refl tt & formed1 (optional t) (λ o. IfSome o F) t F r rr Some 1 (λ _. refl) (λ _ h. h) & tt)
      optional_again

-- ---- several of one kind

module _ {X : Type 0} (t : X → List ℕ) (F : X → Type 0) (r : Reader X) (rr : Reads t F r) where
  repeated_takes : (n : ℕ) (bytes : List ℕ) (xs : List X) (rest : List ℕ) → repeated r n bytes ≡ Some (xs, rest)
      → (bytes ≡ joined (map t xs) ++ rest) × ((length xs ≡ n) × AllByRecursion F xs)
  unfolding repeated
  repeated_takes zero bytes xs rest e =
      subst (λ (p : List X × List ℕ). (bytes ≡ joined (map t p.0) ++ p.1) × ((length p.0 ≡ 0) × AllByRecursion F p.0)) (same_some ([], bytes) (xs, rest) e) (refl, (refl, tt))
  repeated_takes (suc n) bytes xs rest e =
      let a = bind_some (r bytes) (λ x. repeated r n x.1 >>= λ ys. Some (x.0 ∷ ys.0, ys.1)) (xs, rest) e in
      let b = bind_some (repeated r n a.0.1) (λ ys. Some (a.0.0 ∷ ys.0, ys.1)) (xs, rest) a.2 in
      let g = same_some (a.0.0 ∷ b.0.0, b.0.1) (xs, rest) b.2 in
      let u = rr.takes bytes a.0.0 a.0.1 a.1 in
      let v = repeated_takes n a.0.1 b.0.0 b.0.1 b.1 in
      let text : bytes ≡ (t a.0.0 ++ joined (map t b.0.0)) ++ b.0.1 = u.0 ∙ ap (λ (w : List ℕ). t a.0.0 ++ w) v.0 ∙ sym {a = (t a.0.0 ++ joined (map t b.0.0)) ++ b.0.1} (append_assoc (t a.0.0) (joined (map t b.0.0)) b.0.1) in
      subst (λ (p : List X × List ℕ). (bytes ≡ joined (map t p.0) ++ p.1) × ((length p.0 ≡ suc n) × AllByRecursion F p.0)) g (text, (ap suc v.1.0, (u.1, v.1.1)))

  repeated_again : (xs : List X) (rest : List ℕ) → AllByRecursion F xs → repeated r (length xs) (joined (map t xs) ++ rest) ≡ Some (xs, rest)
  unfolding repeated
  repeated_again [] rest fits = refl
  repeated_again (x ∷ xs) rest fits =
      rw (append_assoc (t x) (joined (map t xs)) rest, rr.again x (joined (map t xs) ++ rest) fits.0, repeated_again xs rest fits.1) refl

  pub repeated_reads : (n : ℕ) → Reads (λ xs. joined (map t xs)) (λ xs. (length xs ≡ n) × AllByRecursion F xs) (repeated r n)
  repeated_reads n = record {
    takes = repeated_takes n;
    again = λ xs rest fits. subst (λ (m : ℕ). repeated r m (joined (map t xs) ++ rest) ≡ Some (xs, rest)) fits.0 (repeated_again xs rest fits.1);
  }

module _ (tc : ℕ → List ℕ) (Fc : ℕ → Type 0) (count : Reader ℕ) (rc : Reads tc Fc count) where
  -- how many, and these
  pub counted_reads : {X : Type 0} (t : X → List ℕ) (F : X → Type 0) (r : Reader X) → Reads t F r → Reads (counted tc t) (λ xs. Fc (length xs) × AllByRecursion F xs) (counted_at count r)
  counted_reads {X} t F r rr = record {
    takes = λ bytes xs rest e.
        let a = bind_some (count bytes) (λ n. repeated r n.0 n.1) (xs, rest) e in
        let c = rc.takes bytes a.0.0 a.0.1 a.1 in
        let u = (repeated_reads t F r rr a.0.0).takes a.0.1 xs rest a.2 in
        let text : bytes ≡ (tc a.0.0 ++ joined (map t xs)) ++ rest = c.0 ∙ ap (λ (w : List ℕ). tc a.0.0 ++ w) u.0 ∙ sym (append_assoc (tc a.0.0) (joined (map t xs)) rest) in
        subst (λ (n : ℕ). (bytes ≡ (tc n ++ joined (map t xs)) ++ rest) × (Fc n × AllByRecursion F xs)) (sym u.1.0) (text, (c.1, u.1.1));
    again = λ xs rest fits.
        rw (append_assoc (tc (length xs)) (joined (map t xs)) rest, rc.again (length xs) (joined (map t xs) ++ rest) fits.0, (repeated_reads t F r rr (length xs)).again xs rest (refl, fits.1)) refl;
  }

  -- how many bytes, and these as they are
  pub measured_reads : Reads (measured tc) (λ bytes. Fc (length bytes)) (measured_at count)
  measured_reads = record {
    takes = λ bytes x rest e.
        let a = bind_some (count bytes) (λ n. take_at n.0 n.1) (x, rest) e in
        let c = rc.takes bytes a.0.0 a.0.1 a.1 in
        let u = (bytes_reads a.0.0).takes a.0.1 x rest a.2 in
        let text : bytes ≡ (tc a.0.0 ++ x) ++ rest = c.0 ∙ ap (λ (w : List ℕ). tc a.0.0 ++ w) u.0 ∙ sym (append_assoc (tc a.0.0) x rest) in
        subst (λ (n : ℕ). (bytes ≡ (tc n ++ x) ++ rest) × Fc n) (sym u.1) (text, c.1);
    again = λ x rest fits.
        rw (append_assoc (tc (length x)) x rest, rc.again (length x) (x ++ rest) fits, (bytes_reads (length x)).again x rest refl) refl;
  }

  -- at most so many
  pub at_most_reads : (most : ℕ) → ((n : ℕ) → n ≤ most → Fc n) → Reads tc (λ n. n ≤ most) (guarded_at (λ n. leb n most) count)
  at_most_reads most few =
      reads_fits tc (λ n. Fc n × (n ≤ most)) (λ n. n ≤ most) (guarded_at (λ n. leb n most) count) (λ _ h. h.1) (λ n h. (few n h, h))
      (guarded_reads tc Fc (λ n. n ≤ most) (λ n. leb n most) count (λ n h. leb-true n most h) (λ n h. le-leb n most h) rc)
