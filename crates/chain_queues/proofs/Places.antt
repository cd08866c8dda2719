-- The index of the channel to a chain, among the queues and among what they mean.
use Rattle.std.proofs.Common.{◌≡◌, ℕ, zero, suc, ◌+◌, ◌<◌, true, false, cond, List, [], ◌∷◌, length, map, get_or, set, Some, None, refl, sym, ap, ◌∙◌, arith}
use Rattle.std.specs.Prelude.{◌≤◌, ◌==◌, nat_lt, not, if◌then◌else◌}
use Rattle.std.specs.List.{position, position_or_len}
use Rattle.std.proofs.lemmas.List.{length-map, map-set}
use Rattle.plain_lists.specs.Firsts.{change_first}
use Rattle.plain_lists.proofs.Lemmas.Firsts.{found_at, found_nowhere, changed_at, changed_nowhere}
use Rattle.chain_ids.specs.declared.chain.ChainId.{ChainId}
use Rattle.channel_parts.specs.Channels.{Outgoing}
use Rattle.chain_queues.specs.declared.faults.PushFault.TheVariants.{TooLarge, Full}
use Rattle.chain_queues.specs.declared.queues.Queue.{Queue}
use Rattle.chain_queues.specs.Queues.{waiting_of, outgoing_of, leads_to, is_led_to, channel_to, push_refusal}

got : (qs : List Queue) (k : ℕ) (q : Queue) → q ≡ get_or qs k q → outgoing_of q ≡ get_or (map outgoing_of qs) k (outgoing_of q)
got [] k q e = refl
got (x ∷ qs) zero q e = ap outgoing_of e
got (x ∷ qs) (suc k) q e = got qs k q e

module _ (to : ChainId) where
  as_far : (qs : List Queue) → position_or_len (leads_to to) (map outgoing_of qs) ≡ position_or_len (is_led_to to) qs
  as_far [] = refl
  as_far (q ∷ qs) = ap (λ n. cond (not (is_led_to to q)) (1 + n) 0) (as_far qs)

  place : (qs : List Queue) → position (leads_to to) (map outgoing_of qs) ≡ position (is_led_to to) qs
  place qs = ap (λ n. cond (nat_lt n (length (map outgoing_of qs))) (Some n) None) (as_far qs)
      ∙ ap (λ l. cond (nat_lt (position_or_len (is_led_to to) qs) l) (Some (position_or_len (is_led_to to) qs)) None) (length-map qs outgoing_of)

  -- no queue leads there
  pub nowhere : (qs : List Queue) → position (is_led_to to) qs ≡ None → channel_to to (map outgoing_of qs) ≡ None
  nowhere qs e = found_nowhere (leads_to to) (map outgoing_of qs) (place qs ∙ e)

  pub stays : (g : Outgoing → Outgoing) (qs : List Queue) → position (is_led_to to) qs ≡ None → map outgoing_of qs ≡ change_first (leads_to to) g (map outgoing_of qs)
  stays g qs e = sym (changed_nowhere (leads_to to) g (map outgoing_of qs) (place qs ∙ e))

  -- the queue at the index is the channel
  pub somewhere : (qs : List Queue) (k : ℕ) (q : Queue) → position (is_led_to to) qs ≡ Some k → q ≡ get_or qs k q → channel_to to (map outgoing_of qs) ≡ Some (outgoing_of q)
  somewhere qs k q e at = found_at (leads_to to) (map outgoing_of qs) k (outgoing_of q) (place qs ∙ e) (got qs k q at)

  pub changes : (g : Outgoing → Outgoing) (qs : List Queue) (k : ℕ) (q new : Queue) → position (is_led_to to) qs ≡ Some k → q ≡ get_or qs k q → outgoing_of new ≡ g (outgoing_of q)
      → map outgoing_of (set qs k new) ≡ change_first (leads_to to) g (map outgoing_of qs)
  changes g qs k q new e at same =
      map-set outgoing_of qs k new ∙ ap (λ c. set (map outgoing_of qs) k c) same ∙ changed_at (leads_to to) g (map outgoing_of qs) k (outgoing_of q) (place qs ∙ e) (got qs k q at)

-- ---- what one queue refuses

long : (q : Queue) → length (map waiting_of q.waiting.items) ≡ length q.waiting.items
long q = length-map q.waiting.items waiting_of

pub too_large : (size : ℕ) (q : Queue) → q.channel.max_size < size → push_refusal size (Some (outgoing_of q)) ≡ Some TooLarge
too_large size q lt =
    let b : nat_lt q.channel.max_size size ≡ true = grind (arith, lt) in
    ap (λ b. if b then Some TooLarge else (if length (map waiting_of q.waiting.items) == q.channel.capacity then Some Full else None)) b

within_size : (size : ℕ) (q : Queue) → size ≤ q.channel.max_size → push_refusal size (Some (outgoing_of q)) ≡ (if length q.waiting.items == q.channel.capacity then Some Full else None)
within_size size q le =
    let b : nat_lt q.channel.max_size size ≡ false = grind (arith, le) in
    ap (λ b. if b then Some TooLarge else (if length (map waiting_of q.waiting.items) == q.channel.capacity then Some Full else None)) b
    ∙ ap (λ (n : ℕ). if n == q.channel.capacity then Some Full else None) (long q)

pub full : (size : ℕ) (q : Queue) → size ≤ q.channel.max_size → (length q.waiting.items == q.channel.capacity) ≡ true → push_refusal size (Some (outgoing_of q)) ≡ Some Full
full size q le b = within_size size q le ∙ ap (λ b. if b then Some Full else None) b

pub taken : (size : ℕ) (q : Queue) → size ≤ q.channel.max_size → (length q.waiting.items == q.channel.capacity) ≡ false → push_refusal size (Some (outgoing_of q)) ≡ None
taken size q le b = within_size size q le ∙ ap (λ b. if b then Some Full else None) b

-- where a message would be taken, fewer wait than the capacity
pub has_room : (size : ℕ) (q : Queue) → push_refusal size (Some (outgoing_of q)) ≡ None → length q.waiting.items ≤ q.channel.capacity → length q.waiting.items < q.channel.capacity
has_room size q none le =
    let e : (if nat_lt q.channel.max_size size then Some TooLarge else (if length q.waiting.items == q.channel.capacity then Some Full else None)) ≡ None =
    ap (λ (n : ℕ). if nat_lt q.channel.max_size size then Some TooLarge else (if n == q.channel.capacity then Some Full else None)) (sym (long q)) ∙ none in
    grind (arith, e, le)
