-- Lemmas that proofs cite, in this crate and above it: changes of a chain one after another, and worlds of which one member or two were
-- written. A reader of the contracts may skip this file.
use Rattle.std.proofs.Common.{◌≡◌, ◌⊎◌, ⊎_elim, inl, inr, ℕ, List, Option, Some, None, refl, sym, ap, ◌∙◌, subst, arith}
use Rattle.std.specs.Prelude.{slice_get, slice_set}
use Rattle.amounts.proofs.Lemmas.{amount-merge}
use Rattle.chain_ids.specs.declared.chain.ChainId.{ChainId}
use Rattle.asset_bundles.specs.Bundles.{Bundle}
use Rattle.asset_bundles.specs.Books.{Burns, Book, Booked, WithRoom, burned_for}
use Rattle.asset_bundles.specs.declared.book.Cause.{Cause}
use Rattle.asset_bundles.proofs.Lemmas.{burn_keys}
use Rattle.asset_pools.specs.Spending.{IsPoolAccount, IsSpeaker, Spends}
use Rattle.asset_pools.proofs.Lemmas.SpendingLaws.{spends_then, spends_others}
use Rattle.exec_base.specs.declared.settings.Settings.{Settings}
use Rattle.exec_base.specs.Part.{ChainPart, book_of}
use Rattle.network_steps.specs.Acting.{booking_lost}
use Rattle.network_steps.specs.Steps.{without_message}
use Rattle.network_steps.specs.Worlds.{Member, World}
use Rattle.network_steps.proofs.Lemmas.StepLaws.{same_one, set_read}
use Rattle.law_authority.specs.Origins.{SpendsOf, SpendsOnly, KeepsBurns}

-- ---- one book of burns
pub same_burns : (b : Burns) → KeepsBurns b b
same_burns b burn = omega arith

pub then_burns : (a b c : Burns) → KeepsBurns a b → KeepsBurns b c → KeepsBurns a c
then_burns a b c one two burn = let x = one burn in let y = two burn in omega (arith, x, y)

pub booked_burns : (book : Book) (more : Burns) → KeepsBurns book.burns (Booked book more).burns
unfolding Booked
booked_burns book more burn = let both = amount-merge burn_keys book.burns (WithRoom book.burns more) burn in omega (arith, both)

-- ---- one chain
pub same_spends : (may : List ℕ → Type 0) (p : ChainPart) → SpendsOf may p p
same_spends may p = record { settings = refl; spends = spends_others may p.pools p.held p.held (λ who unit less. absurd (omega (arith, less))); burns = same_burns p.burns }

pub then_spends : (may : List ℕ → Type 0) (p q r : ChainPart) → SpendsOf may p q → SpendsOf may q r → SpendsOf may p r
then_spends may p q r h k = record {
  settings = k.settings ∙ h.settings;
  spends = spends_then may p.pools p.held q.held r.held h.spends (subst (λ (x : Settings). Spends may x.pools q.held r.held) h.settings k.spends);
  burns = then_burns p.burns q.burns r.burns h.burns k.burns;
}

-- a sender whose message is taken out, and who books what is lost of it
pub lost_spends : (may : List ℕ → Type 0) (to : ChainId) (goods : Bundle) (p : ChainPart) → SpendsOf may p (booking_lost goods (without_message to p))
lost_spends may to goods p = let same = same_spends may p in record { settings = same.settings; spends = same.spends; burns = booked_burns (book_of p) (burned_for Cause.LostTeleport goods) }

-- where others may have less too
pub spends_more : (may more : List ℕ → Type 0) (p q : ChainPart) → ((who : List ℕ) → may who → more who) → SpendsOf may p q → SpendsOf more p q
spends_more may more p q also h = record {
  settings = h.settings;
  spends = record {
    lowers = λ who unit less. ⊎_elim (λ (m : may who). inl (also who m)) (λ (pool : IsPoolAccount p.pools who). inr pool) (h.spends.lowers who unit less);
    products = λ few place pool at other. h.spends.products few place pool at (λ m. other (also _ m));
  };
  burns = h.burns;
}

no_speaker : (s : Option (List ℕ)) (who : List ℕ) → IsSpeaker None who → IsSpeaker s who
no_speaker s who e = absurd cc

pub none_spends : (s : Option (List ℕ)) (p q : ChainPart) → SpendsOnly None p q → SpendsOnly s p q
none_spends s p q h = spends_more (IsSpeaker None) (IsSpeaker s) p q (no_speaker s) h

-- ---- a world in which only some are spent
abbrev pub OnlySpends : World → World → (ℕ → Member → List ℕ → Type 0) → Type 0
OnlySpends old new Speaks = (place : ℕ) (before now : Member) → slice_get old place ≡ Some before → slice_get new place ≡ Some now → SpendsOf (Speaks place before) before.part now.part

pub none_spent : (w : World) (Speaks : ℕ → Member → List ℕ → Type 0) → OnlySpends w w Speaks
none_spent w Speaks = λ place before now at there. subst (λ (n : Member). SpendsOf (Speaks place before) before.part n.part) (same_one (slice_get w place) before now at there) (same_spends (Speaks place before) before.part)

-- one member was written
pub one_spent : (w : World) (i : ℕ) (m y : Member) (Speaks : ℕ → Member → List ℕ → Type 0) → slice_get w i ≡ Some m → SpendsOf (Speaks i m) m.part y.part → OnlySpends w (slice_set w i y) Speaks
one_spent w i m y Speaks is spent = λ place before now at there.
    ⊎_elim
    (λ (e : (place ≡ i) × (now ≡ y)).
    let same : before ≡ m = same_one (slice_get w place) before m at (ap (slice_get w) e.0 ∙ is) in
    subst (λ (n : Member). SpendsOf (Speaks place before) before.part n.part) (sym e.1)
    (subst (λ (b : Member). SpendsOf (Speaks place b) b.part y.part) (sym same) (subst (λ (k : ℕ). SpendsOf (Speaks k m) m.part y.part) (sym e.0) spent)))
    (λ (e : slice_get w place ≡ Some now). none_spent w Speaks place before now at e) (set_read w i place y now there)

-- one member was written of which no account has less, and then another
pub two_spent : (w : World) (i j : ℕ) (s s' r y : Member) (Speaks : ℕ → Member → List ℕ → Type 0) → slice_get w i ≡ Some s → slice_get w j ≡ Some r → SpendsOf (Speaks i s) s.part s'.part
    → SpendsOf (Speaks j r) r.part y.part → OnlySpends w (slice_set (slice_set w i s') j y) Speaks
two_spent w i j s s' r y Speaks is_s is_r kept spent = λ place before now at there.
    ⊎_elim
    (λ (e : (place ≡ j) × (now ≡ y)).
    let same : before ≡ r = same_one (slice_get w place) before r at (ap (slice_get w) e.0 ∙ is_r) in
    subst (λ (n : Member). SpendsOf (Speaks place before) before.part n.part) (sym e.1)
    (subst (λ (b : Member). SpendsOf (Speaks place b) b.part y.part) (sym same) (subst (λ (k : ℕ). SpendsOf (Speaks k r) r.part y.part) (sym e.0) spent)))
    (λ (e : slice_get (slice_set w i s') place ≡ Some now). one_spent w i s s' Speaks is_s kept place before now at e) (set_read (slice_set w i s') j place y now there)
