-- The text of a channel, found among those of its chain.
use Rattle.std.proofs.Common.{◌≡◌, ◌∙◌, List, [], map, Option, Some, None, refl, sym, ap}
use Rattle.std.specs.Prelude.{find}
use Rattle.std.specs.Option.{option_map, option_and_then, option_map_or}
use Rattle.chain_ids.specs.declared.chain.ChainId.{ChainId}
use Rattle.channel_parts.specs.Channels.{Outgoing}
use Rattle.chain_queues.specs.declared.queues.Queue.{Queue}
use Rattle.chain_queues.specs.Queues.{channel_to, leads_to, is_led_to, outgoing_of}
use Rattle.exec_base.specs.Part.{ChainPart}
use Rattle.step_text.specs.Blocks.{channel_text, is_part_of, link_text, queue_lines}
use Rattle.plain_lists.proofs.Lemmas.Facts.{find_mapped as find_map}

-- the channel to a chain, found among the queues
pub queue_is : (qs : List Queue) (cs : List Outgoing) (to : ChainId) (o : Option Queue) → map outgoing_of qs ≡ cs → o ≡ find (is_led_to to) qs → channel_to to cs ≡ option_map outgoing_of o
queue_is qs cs to o same e = ap (channel_to to) (sym same) ∙ find_map outgoing_of (leads_to to) qs ∙ ap (option_map outgoing_of) (sym e)

-- what waits in a channel, by the chain that it leads from
pub text_is : {A : Type 0} (part : A → ChainPart) (states : List A) (from to : ChainId) (o : Option A) → o ≡ find (λ x. is_part_of from (part x)) states
    → option_map_or (λ (c : Outgoing). channel_text from c) (option_and_then (λ (p : ChainPart). channel_to to p.channels) (option_map part o)) [] ≡ link_text (map part states) (from, to)
text_is part states from to o e =
    ap (λ (o : Option ChainPart). option_map_or (λ (c : Outgoing). channel_text from c) (option_and_then (λ (p : ChainPart). channel_to to p.channels) o) [])
    (ap (option_map part) e ∙ sym (find_map part (is_part_of from) states))

pub text_at : {A : Type 0} (part : A → ChainPart) (states : List A) (from to : ChainId) (x : A) (q : Option Outgoing) → Some x ≡ find (λ x. is_part_of from (part x)) states → channel_to to (part x).channels ≡ q
    → option_map_or (λ (c : Outgoing). channel_text from c) q [] ≡ link_text (map part states) (from, to)
text_at part states from to x q e at = ap (λ (q : Option Outgoing). option_map_or (λ (c : Outgoing). channel_text from c) q []) (sym at) ∙ text_is part states from to (Some x) e

-- the lines of the bytes that a channel keeps are those of its messages
pub lines_are : (from : ChainId) (o : Option Queue) → ((from : ChainId) (q : Queue) → queue_lines from (Some q) ≡ channel_text from (outgoing_of q))
    → queue_lines from o ≡ option_map_or (λ (c : Outgoing). channel_text from c) (option_map outgoing_of o) []
lines_are from None law = refl
lines_are from (Some q) law = law from q
