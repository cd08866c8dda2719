-- The bytes of a message that waits, and the message that they mean.
use Rattle.std.proofs.Common.{◌≡◌, ◌∙◌, ℕ, List, ◌∷◌, refl, sym, ap, true, true≢false, Result, Ok, Err, IsTrue}
use Rattle.std.specs.Prelude.{is_ok, MatchResult}
use Rattle.operands.specs.declared.version.Version.{Version}
use Rattle.operands.specs.declared.version.Version.TheVariants.{V3, V4}
use Rattle.chain_ids.specs.declared.chain.ChainId.{ChainId}
use Rattle.xcm_program.specs.declared.instruction.Instruction.{Instruction}
use Rattle.xcm_format.specs.Messages.{message, version_byte}
use Rattle.xcm_format.specs.Programs.{program_spelling}
use Rattle.versioned_xcm.specs.declared.faults.MessageFault.{MessageFault}
use Rattle.versioned_xcm.specs.Message.{IsDecoded, IsCause}
use Rattle.versioned_xcm.specs.Reading.{message_of}
use Rattle.chain_queues.specs.Decoded.{decodes, program_read}
use Rattle.chain_queues.specs.Queues.{waiting_of}
use Rattle.chain_queues.specs.declared.queues.Queued.{Queued}
use Rattle.step_text.specs.Lines.{queue_line}
use Rattle.step_text.specs.Blocks.{queued_line, waiting_line, IsSpelledIn}

-- two versions with one byte before it
same_front : (v w : Version) (rest behind : List ℕ) → version_byte v ∷ rest ≡ version_byte w ∷ behind → v ≡ w
same_front V3 V3 rest behind e = refl
same_front V3 V4 rest behind e = absurd cc
same_front V4 V3 rest behind e = absurd cc
same_front V4 V4 rest behind e = refl

message_is : (v : Version) (program : List Instruction) → message v program ≡ version_byte v ∷ program_spelling v program
unfolding message
message_is v program = refl

-- the message of what was read of the bytes is the bytes
spelled : (v : Version) (bytes : List ℕ) (r : Result (List Instruction) MessageFault) → is_ok r ≡ true → MatchResult r (IsDecoded bytes) (IsCause bytes) → IsSpelledIn v bytes
    → bytes ≡ message v (program_read r)
spelled v bytes (Err fault) ok h s = absurd (true≢false (sym ok))
spelled v bytes (Ok program) ok h s =
    let w = h.message.0 in
    let text : bytes ≡ message w program = h.message.1.text in
    let same : v ≡ w = same_front v w s.0 (program_spelling w program) (sym s.1 ∙ text ∙ message_is w program) in
    text ∙ ap (λ u. message u program) (sym same)

pub queued_is : ((bytes : List ℕ) → MatchResult (message_of bytes) (IsDecoded bytes) (IsCause bytes)) → (v : Version) (from to : ChainId) (q : Queued) → IsTrue (decodes q.bytes.items)
    → IsSpelledIn v q.bytes.items → queued_line from to q ≡ waiting_line v from to (waiting_of q)
queued_is law v from to q ok s = ap (queue_line from to q.number) (spelled v q.bytes.items (message_of q.bytes.items) ok (law q.bytes.items) s)
