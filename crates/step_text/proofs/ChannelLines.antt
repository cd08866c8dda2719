-- The lines of the bytes that wait in a channel, and those of the messages that they mean.
use Rattle.std.proofs.Common.{◌≡◌, ◌++◌, ℕ, true, List, [], ◌∷◌, map, flat_map, refl, ap, arith}
use Rattle.std.specs.Prelude.{IsTrue, ◌==◌}
use Rattle.std.specs.List.{AllByRecursion}
use Rattle.std.proofs.lemmas.List.Elements.{recursion_from_All}
use Rattle.operands.specs.declared.version.Version.{Version}
use Rattle.chain_ids.specs.declared.chain.ChainId.{ChainId}
use Rattle.xcm_format.specs.Messages.{version_byte}
use Rattle.chain_queues.specs.Decoded.{decodes, is_spelled_in}
use Rattle.chain_queues.specs.Queues.{waiting_of, outgoing_of}
use Rattle.chain_queues.specs.declared.queues.Queued.{Queued}
use Rattle.chain_queues.specs.declared.queues.Queue.{Queue}
use Rattle.step_text.specs.Blocks.{queued_line, waiting_line, channel_text, IsSpelledIn}

same_byte : (n m : ℕ) → (n == m) ≡ true → n ≡ m
same_byte n m h = grind (arith, h)

spelled_in : (v : Version) (bytes : List ℕ) → is_spelled_in v bytes ≡ true → IsSpelledIn v bytes
spelled_in v [] h = absurd cc
spelled_in v (byte ∷ rest) h = (rest, ap (λ n. n ∷ rest) (same_byte byte (version_byte v) h))

-- the law of what waits
abbrev IsLaw : Type 0
IsLaw = (v : Version) (from to : ChainId) (q : Queued) → IsTrue (decodes q.bytes.items) → IsSpelledIn v q.bytes.items → queued_line from to q ≡ waiting_line v from to (waiting_of q)

lines_are : IsLaw → (v : Version) (from to : ChainId) (qs : List Queued) → AllByRecursion (λ (q : Queued). IsTrue (is_spelled_in v q.bytes.items)) qs
    → flat_map (queued_line from to) qs ≡ flat_map (waiting_line v from to) (map waiting_of qs)
lines_are law v from to [] h = refl
lines_are law v from to (q ∷ qs) h = λ i. law v from to q q.message (spelled_in v q.bytes.items h.0) i ++ lines_are law v from to qs h.1 i

pub channel_is : IsLaw → (from : ChainId) (queue : Queue) → flat_map (queued_line from queue.channel.to) queue.waiting.items ≡ channel_text from (outgoing_of queue)
channel_is law from queue =
    let v = queue.channel.version in
    lines_are law v from queue.channel.to queue.waiting.items (recursion_from_All (λ (q : Queued). IsTrue (is_spelled_in v q.bytes.items)) queue.waiting.items queue.spelled)
