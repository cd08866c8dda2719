-- A drain, delivery by delivery.
use Rattle.std.proofs.Common.{◌≡◌, ◌∙◌, ◌≤◌, ◌<◌, ◌+◌, ℕ, zero, suc, List, [], ◌∷◌, ◌++◌, length, length-append, Option, Some, None, true, refl, sym, ap, append_assoc, append-nil, arith}
use Rattle.std.specs.Prelude.{flat_map, is_some}
use Rattle.std.proofs.lemmas.Grind.{flat_map-append}
use Rattle.channel_parts.specs.Channels.{Waiting}
use Rattle.network_steps.specs.Worlds.{World, Stepped}
use Rattle.network_steps.specs.Sends.{deliveries_left}
use Rattle.network_steps.specs.Steps.{Link, deliver, waiting, next_channel, deliveries, drain, world_behind}
use Rattle.step_text.specs.Steps.{drained_line}
use Rattle.report_blocks.specs.Blocks.{lines_of_step, drain_lines}
use Rattle.report_blocks.proofs.Apart.{found_waits}

abbrev pub lines_of : Link × Stepped → List ℕ
lines_of d = lines_of_step d.1

-- so many deliveries were made, and their lines are written; the drain goes on with what is left
pub record Drains (order : List Link) (start now : World) (written : List ℕ) (count : ℕ) : Type 0 where
  pub made : List (Link × Stepped)
  pub left : ℕ
  pub goes : drain order start ≡ made ++ deliveries left order now
  pub enough : deliveries_left now ≤ left
  pub lines : written ≡ flat_map lines_of made
  pub counted : count ≡ length made
  pub behind : world_behind start (drain order start) ≡ world_behind now (deliveries left order now)

pub drains_start : (order : List Link) (start : World) (written : List ℕ) → written ≡ [] → Drains order start start written 0
drains_start order start written none = record {
  made = [];
  left = deliveries_left start;
  goes = refl;
  enough = omega arith;
  lines = none;
  counted = refl;
  behind = refl;
}

some_of : (o : Option Waiting) → is_some o ≡ true → (x : Waiting) × (o ≡ Some x)
some_of None e = absurd cc
some_of (Some x) e = (x, refl)

one_more : (left : ℕ) (order : List Link) (w : World) (link : Link) → 0 < left → next_channel order w ≡ Some link
    → (rest : ℕ) × (left ≡ suc rest) × (deliveries left order w ≡ (link, deliver w link.0 link.1) ∷ deliveries rest order (deliver w link.0 link.1).world)
unfolding deliveries
one_more zero order w link some e = absurd (omega (arith, some))
one_more (suc rest) order w link some e = (rest, refl, rw e refl)

pub drains_on : (order : List Link) (start now : World) (written more : List ℕ) (count : ℕ) (link : Link) → Drains order start now written count → next_channel order now ≡ Some link
    → ((x : Waiting) → waiting now link.0 link.1 ≡ Some x → 1 + deliveries_left (deliver now link.0 link.1).world ≤ deliveries_left now)
    → more ≡ written ++ lines_of_step (deliver now link.0 link.1) → Drains order start (deliver now link.0 link.1).world more (count + 1)
drains_on order start now written more count link d e lowers m =
    let x = some_of (waiting now link.0 link.1) (found_waits order now link e) in
    let low = lowers x.0 x.1 in
    let some : 0 < d.left = omega (arith, low, d.enough) in
    let one = one_more d.left order now link some e in
    let step : Link × Stepped = (link, deliver now link.0 link.1) in
    record {
      made = d.made ++ step ∷ [];
      left = one.0;
      goes = d.goes ∙ ap (λ l. d.made ++ l) one.2 ∙ sym (append_assoc d.made (step ∷ []) (deliveries one.0 order (deliver now link.0 link.1).world));
      enough = omega (arith, low, d.enough, one.1);
      lines = m ∙ ap (λ t. t ++ lines_of_step (deliver now link.0 link.1)) d.lines ∙ ap (λ t. flat_map lines_of d.made ++ t) (sym (append-nil (lines_of step))) ∙ sym (flat_map-append lines_of d.made (step ∷ []));
      counted = omega (arith, d.counted, length-append d.made (step ∷ []));
      behind = d.behind ∙ ap (world_behind now) one.2;
    }

-- how many deliveries may still be made falls
pub drains_lower : (order : List Link) (now : World) (link : Link) → next_channel order now ≡ Some link
    → ((x : Waiting) → waiting now link.0 link.1 ≡ Some x → 1 + deliveries_left (deliver now link.0 link.1).world ≤ deliveries_left now)
    → deliveries_left (deliver now link.0 link.1).world < deliveries_left now
drains_lower order now link e lowers =
    let x = some_of (waiting now link.0 link.1) (found_waits order now link e) in
    let low = lowers x.0 x.1 in
    omega (arith, low)

none_left : (left : ℕ) (order : List Link) (w : World) → next_channel order w ≡ None → deliveries left order w ≡ []
unfolding deliveries
none_left zero order w e = refl
none_left (suc rest) order w e = rw e refl

pub drains_end : (order : List Link) (start now : World) (written : List ℕ) (count : ℕ) → (d : Drains order start now written count) → next_channel order now ≡ None
    → (drain order start ≡ d.made) × (world_behind start (drain order start) ≡ now)
drains_end order start now written count d e =
    let none = none_left d.left order now e in
    (d.goes ∙ ap (λ l. d.made ++ l) none ∙ append-nil d.made, d.behind ∙ ap (world_behind now) none)

-- where no message waits any more, the lines are those of the drain
pub drained_text : (order : List Link) (start now : World) (written whole : List ℕ) (count : ℕ) → Drains order start now written count → next_channel order now ≡ None
    → whole ≡ written ++ drained_line count → whole ≡ drain_lines (drain order start)
drained_text order start now written whole count d e w =
    let made = (drains_end order start now written count d e).0 in
    w ∙ ap (λ t. t ++ drained_line count) d.lines ∙ ap (λ n. flat_map lines_of d.made ++ drained_line n) d.counted ∙ ap drain_lines (sym made)
