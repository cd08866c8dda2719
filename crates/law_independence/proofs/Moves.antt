-- What an act that isn't refused does to a world: it puts a new part at its chain, and frames the chain that it takes from. Two of them at different
-- chains come to the same world in both orders, where neither depends on the other's frame.
use Rattle.std.proofs.Common.{◌≡◌, ℕ, zero, suc, true, false, List, [], ◌∷◌, Option, Some, None, refl, sym, ap, ◌∙◌, subst, ⊎_elim}
use Rattle.std.specs.Prelude.{◌==◌, if◌then◌else◌, slice_get, slice_set}
use Rattle.std.specs.Option.{option_map, option_map_or}
use Rattle.std.proofs.lemmas.Bool.{cases_eq, eqb-true, eq-eqb}
use Rattle.chain_ids.specs.declared.chain.ChainId.{ChainId}
use Rattle.asset_bundles.specs.Bundles.{Bundle}
use Rattle.exec_base.specs.declared.event.Event.{Event}
use Rattle.exec_base.specs.Part.{ChainPart}
use Rattle.network_steps.specs.declared.step_result.StepResult.{StepResult}
use Rattle.network_steps.specs.Worlds.{Member, World, with_part, Stepped}
use Rattle.network_steps.proofs.Lemmas.Steps.{change_at}
use Rattle.law_independence.proofs.Calls.{framed}
use Rattle.plain_lists.proofs.Lemmas.Facts.{false_not_true as false_not}

-- ---- what is read of a world in which a member was written
pub set_here : (w : World) (c : ℕ) (y z : Member) → slice_get w c ≡ Some z → slice_get (slice_set w c y) c ≡ Some y
set_here [] c y z e = absurd cc
set_here (x ∷ xs) zero y z e = refl
set_here (x ∷ xs) (suc c) y z e = set_here xs c y z e

pub set_other : (w : World) (c d : ℕ) (y : Member) → (d ≡ c → ⊥) → slice_get (slice_set w c y) d ≡ slice_get w d
set_other [] c d y n = refl
set_other (x ∷ xs) zero zero y n = absurd (n refl)
set_other (x ∷ xs) zero (suc d) y n = refl
set_other (x ∷ xs) (suc c) zero y n = refl
set_other (x ∷ xs) (suc c) (suc d) y n = set_other xs c d y (λ e. n (ap suc e))

pub set_back : (w : World) (c : ℕ) (m : Member) → slice_get w c ≡ Some m → slice_set w c m ≡ w
set_back [] c m e = absurd cc
set_back (x ∷ xs) zero m e = ap (λ (y : Member). y ∷ xs) (sym (same x m e))
  where
    same : (a b : Member) → Some a ≡ Some b → a ≡ b
    same a b e = cc
set_back (x ∷ xs) (suc c) m e = ap (λ (ys : World). x ∷ ys) (set_back xs c m e)

pub same_world : (v w : World) → ((p : ℕ) → slice_get v p ≡ slice_get w p) → v ≡ w
same_world [] [] same = refl
same_world [] (y ∷ ys) same = absurd (let e : None ≡ Some y = same 0 in cc)
same_world (x ∷ xs) [] same = absurd (let e : Some x ≡ None = same 0 in cc)
same_world (x ∷ xs) (y ∷ ys) same = ap (λ (a : Member). a ∷ xs) (one x y (same 0)) ∙ ap (λ (zs : World). y ∷ zs) (same_world xs ys (λ p. same (suc p)))
  where
    one : (a b : Member) → Some a ≡ Some b → a ≡ b
    one a b e = cc

-- ---- a frame at an index
abbrev pub framed_member : ChainId → Bundle → Member → Member
framed_member to lost m = with_part (framed to lost m.part) m

-- the index of the chain that is taken from, and the chain to which the channel leads
abbrev pub Source : Type 0
Source = Option (ℕ × ChainId)

abbrev pub framed_at : Source → Bundle → ℕ → Member → Member
framed_at None lost place m = m
framed_at (Some s) lost place m = if place == s.0 then framed_member s.1 lost m else m

abbrev pub framed_world : Source → Bundle → World → World
framed_world None lost w = w
framed_world (Some s) lost w = change_at w s.0 (framed_member s.1 lost)

same_option : (o : Option Member) → o ≡ option_map (λ (m : Member). m) o
same_option None = refl
same_option (Some m) = refl

change_here : (w : World) (k : ℕ) (f : Member → Member) → slice_get (change_at w k f) k ≡ option_map f (slice_get w k)
change_here w k f = elim (slice_get w k) as (λ o. slice_get w k ≡ o → slice_get (option_map_or (λ (m : Member). slice_set w k (f m)) o w) k ≡ option_map f o) [
  | None ↦ λ e. e
  | Some m ↦ λ e. set_here w k (f m) m e
] refl

change_other : (w : World) (k p : ℕ) (f : Member → Member) → (p ≡ k → ⊥) → slice_get (change_at w k f) p ≡ slice_get w p
change_other w k p f n = elim (slice_get w k) as (λ o. slice_get (option_map_or (λ (m : Member). slice_set w k (f m)) o w) p ≡ slice_get w p) [
  | None ↦ refl
  | Some m ↦ set_other w k p (f m) n
]

change_read : (w : World) (k p : ℕ) (f : Member → Member) → slice_get (change_at w k f) p ≡ option_map (λ (m : Member). if p == k then f m else m) (slice_get w p)
change_read w k p f =
    elim (p == k) as (λ b. (p == k) ≡ b → slice_get (change_at w k f) p ≡ option_map (λ (m : Member). if b then f m else m) (slice_get w p)) [
      | true ↦ λ t. subst (λ (q : ℕ). slice_get (change_at w k f) q ≡ option_map f (slice_get w q)) (sym (eqb-true p k t)) (change_here w k f)
      | false ↦ λ t. change_other w k p f (λ e. false_not (p == k) t (eq-eqb p k e)) ∙ same_option (slice_get w p)
    ] refl

pub framed_read : (source : Source) (lost : Bundle) (w : World) (p : ℕ) → slice_get (framed_world source lost w) p ≡ option_map (framed_at source lost p) (slice_get w p)
framed_read None lost w p = same_option (slice_get w p)
framed_read (Some s) lost w p = change_read w s.0 p (framed_member s.1 lost)

-- ---- moves
-- what an act leaves of its own member
pub record Left : Type 0 where
  pub answer : StepResult
  pub trace : List Event
  pub part : ChainPart
  -- the teleport that was lost
  pub lost : Bundle

pub record Move : Type 0 where
  pub place : ℕ
  pub run : Member → Left
  pub source : Source

abbrev pub moved_member : Move → Member → Member
moved_member a m = with_part (a.run m).part m

abbrev pub moved_world : Move → World → Member → World
moved_world a w m = slice_set (framed_world a.source (a.run m).lost w) a.place (moved_member a m)

abbrev pub moved : Move → World → Member → Stepped
moved a w m = record { answer = (a.run m).answer; trace = (a.run m).trace; world = moved_world a w m }

pub moved_here : (a : Move) (w : World) (m : Member) → slice_get w a.place ≡ Some m → slice_get (moved_world a w m) a.place ≡ Some (moved_member a m)
moved_here a w m e =
    set_here (framed_world a.source (a.run m).lost w) a.place (moved_member a m) (framed_at a.source (a.run m).lost a.place m)
    (framed_read a.source (a.run m).lost w a.place ∙ ap (option_map (framed_at a.source (a.run m).lost a.place)) e)

pub moved_other : (a : Move) (w : World) (m : Member) (p : ℕ) → (p ≡ a.place → ⊥) → slice_get (moved_world a w m) p ≡ option_map (framed_at a.source (a.run m).lost p) (slice_get w p)
moved_other a w m p n = set_other (framed_world a.source (a.run m).lost w) a.place p (moved_member a m) n ∙ framed_read a.source (a.run m).lost w p

-- a run doesn't depend on a change of its member
pub record IsSteady (run : Member → Left) (change : Member → Member) (m : Member) : Type 0 where
  pub answer : (run (change m)).answer ≡ (run m).answer
  pub trace : (run (change m)).trace ≡ (run m).trace
  pub lost : (run (change m)).lost ≡ (run m).lost
  pub part : with_part (run (change m)).part (change m) ≡ change (with_part (run m).part m)

pub steady_alone : (run : Member → Left) (m : Member) → IsSteady run (λ (m : Member). m) m
steady_alone run m = record { answer = refl; trace = refl; lost = refl; part = refl }

-- ---- two moves
abbrev pub DoFramesSwap : Source → Source → Type 0
DoFramesSwap s t = (lost more : Bundle) (p : ℕ) (m : Member) → framed_at t more p (framed_at s lost p m) ≡ framed_at s lost p (framed_at t more p m)

module _ (w : World) (a b : Move) (m n : Member) (apart : a.place ≡ b.place → ⊥) (at_m : slice_get w a.place ≡ Some m) (at_n : slice_get w b.place ≡ Some n)
    (steady_m : (lost : Bundle) → IsSteady a.run (framed_at b.source lost a.place) m) (steady_n : (lost : Bundle) → IsSteady b.run (framed_at a.source lost b.place) n) (swap : DoFramesSwap a.source b.source) where
  abbrev pub m_later : Member
  m_later = framed_at b.source (b.run n).lost a.place m

  abbrev pub n_later : Member
  n_later = framed_at a.source (a.run m).lost b.place n

  pub at_n_later : slice_get (moved_world a w m) b.place ≡ Some n_later
  at_n_later = moved_other a w m b.place (λ e. apart (sym e)) ∙ ap (option_map (framed_at a.source (a.run m).lost b.place)) at_n

  pub at_m_later : slice_get (moved_world b w n) a.place ≡ Some m_later
  at_m_later = moved_other b w n a.place apart ∙ ap (option_map (framed_at b.source (b.run n).lost a.place)) at_m

  abbrev first_last : World
  first_last = moved_world b (moved_world a w m) n_later

  abbrev last_first : World
  last_first = moved_world a (moved_world b w n) m_later

  at_second : slice_get first_last b.place ≡ slice_get last_first b.place
  at_second =
      moved_here b (moved_world a w m) n_later at_n_later
      ∙ ap Some (let s = steady_n (a.run m).lost in s.part)
      ∙ ap (λ (lost : Bundle). Some (framed_at a.source lost b.place (moved_member b n))) (sym (let s = steady_m (b.run n).lost in s.lost))
      ∙ sym (moved_other a (moved_world b w n) m_later b.place (λ e. apart (sym e)) ∙ ap (option_map (framed_at a.source (a.run m_later).lost b.place)) (moved_here b w n at_n))

  at_first : slice_get first_last a.place ≡ slice_get last_first a.place
  at_first =
      moved_other b (moved_world a w m) n_later a.place apart
      ∙ ap (option_map (framed_at b.source (b.run n_later).lost a.place)) (moved_here a w m at_m)
      ∙ ap (λ (lost : Bundle). Some (framed_at b.source lost a.place (moved_member a m))) (let s = steady_n (a.run m).lost in s.lost)
      ∙ ap Some (sym (let s = steady_m (b.run n).lost in s.part))
      ∙ sym (moved_here a (moved_world b w n) m_later at_m_later)

  swap_option : (lost more : Bundle) (p : ℕ) (o : Option Member) → option_map (framed_at b.source more p) (option_map (framed_at a.source lost p) o) ≡ option_map (framed_at a.source lost p) (option_map (framed_at b.source more p) o)
  swap_option lost more p None = refl
  swap_option lost more p (Some m) = ap Some (swap lost more p m)

  elsewhere : (p : ℕ) → (p ≡ a.place → ⊥) → (p ≡ b.place → ⊥) → slice_get first_last p ≡ slice_get last_first p
  elsewhere p not_a not_b =
      moved_other b (moved_world a w m) n_later p not_b
      ∙ ap (λ (lost : Bundle). option_map (framed_at b.source lost p) (slice_get (moved_world a w m) p)) (let s = steady_n (a.run m).lost in s.lost)
      ∙ ap (option_map (framed_at b.source (b.run n).lost p)) (moved_other a w m p not_a)
      ∙ swap_option (a.run m).lost (b.run n).lost p (slice_get w p)
      ∙ ap (option_map (framed_at a.source (a.run m).lost p)) (sym (moved_other b w n p not_b))
      ∙ ap (λ (lost : Bundle). option_map (framed_at a.source lost p) (slice_get (moved_world b w n) p)) (sym (let s = steady_m (b.run n).lost in s.lost))
      ∙ sym (moved_other a (moved_world b w n) m_later p not_a)

  pub moves_swap : moved_world b (moved_world a w m) n_later ≡ moved_world a (moved_world b w n) m_later
  moves_swap = same_world first_last last_first at_each
    where
      not_first : (p : ℕ) → (p ≡ a.place → ⊥) → slice_get first_last p ≡ slice_get last_first p
      not_first p not_a = ⊎_elim (λ (e : p ≡ b.place). subst (λ (q : ℕ). slice_get first_last q ≡ slice_get last_first q) (sym e) at_second) (λ (not_b : p ≡ b.place → ⊥). elsewhere p not_a not_b) (cases_eq p b.place)

      at_each : (p : ℕ) → slice_get first_last p ≡ slice_get last_first p
      at_each p = ⊎_elim (λ (e : p ≡ a.place). subst (λ (q : ℕ). slice_get first_last q ≡ slice_get last_first q) (sym e) at_first) (not_first p) (cases_eq p a.place)
