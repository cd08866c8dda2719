-- What is known of a program that decodes. This project's own rule.
use Rattle.std.proofs.Common.{ℕ, List}
use Rattle.std.specs.Prelude.{MatchResult}
use Rattle.versioned_xcm.specs.Message.{IsDecoded, IsCause}
use Rattle.versioned_xcm.specs.Reading.{message_of}

-- the law of messages
abbrev pub Decodes : Type 0
Decodes = (bytes : List ℕ) → MatchResult (message_of bytes) (IsDecoded bytes) (IsCause bytes)
