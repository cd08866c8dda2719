-- What a line after the network asks for. Source: this project's own rule.
use Rattle.std.specs.Prelude.{ℕ, ◌==◌, ◌||◌, nat_eq, List, [], ◌∷◌, length, drop, slice_index, Bool, Option, Some, None, codes, bytes_eq, if◌then◌else◌}
use Rattle.std.specs.Borrow.{Bor}
use Rattle.std.specs.List.{starts_with}
use Rattle.std.specs.Option.{option_map}
use Rattle.std.specs.Result.{result_ok}
use Rattle.hex.specs.Hex.{decode_of, decode_sized}
use Rattle.input_lines.specs.Numbers.{read_number}
use Rattle.chain_ids.specs.declared.chain.ChainId.{ChainId}
use Rattle.chain_ids.specs.declared.chain.ChainId.TheVariants.{Relay, Para}
use Rattle.input_lines.specs.declared.line.Line.{Line}
use Rattle.input_lines.specs.declared.line.Line.TheVariants.{NoStep, Step, Refused}
use Rattle.input_lines.specs.declared.step.Step.TheVariants.{Exec, Deliver, Claim, Drain, Balances, Traps, Queues, Supply}

-- an empty line or a comment
abbrev pub is_no_step : List ℕ → Bool
is_no_step text = length text == 0 || slice_index text 0 == 35

-- the bytes before the first space, and those after it
unfoldable pub split_word : List ℕ → Option (List ℕ × List ℕ)
split_word [] = None
split_word (b ∷ rest) = if b == 32 then Some ([], rest) else option_map (λ x. (b ∷ x.0, x.1)) (split_word rest)

-- hex digits, without the `0x` that may come before
abbrev pub without_prefix : List ℕ → List ℕ
without_prefix text = if starts_with nat_eq text (codes "0x") then drop 2 text else text

-- `relay`, or a parachain's number below 2^32 in decimal
abbrev pub chain_word : List ℕ → Option ChainId
chain_word text = if bytes_eq text (codes "relay") then Some Relay else option_map Para (read_number text)

-- the 32 bytes of 64 hex digits
abbrev pub account_word : List ℕ → Option (List ℕ)
account_word text = result_ok (decode_sized (without_prefix text) 32)

-- the bytes of an even number of hex digits; without a digit there is the `0x`
abbrev pub message_word : List ℕ → Option (List ℕ)
message_word text = if length text == 0 then None else result_ok (decode_of (without_prefix text))

-- all three words have to be in form
abbrev pub exec_of : Option ChainId → Option (List ℕ) → Option (List ℕ) → Line
exec_of (Some chain) (Some account) (Some message) = Step (Exec chain account message)
exec_of (Some chain) (Some account) None = Refused
exec_of (Some chain) None message = Refused
exec_of None account message = Refused

-- an account and a message, after a chain
abbrev pub exec_tail : Option ChainId → Option (List ℕ × List ℕ) → Line
exec_tail chain None = Refused
exec_tail chain (Some words) = exec_of chain (account_word words.0) (message_word words.1)

-- a chain, and the words after it
abbrev pub exec_words : Option (List ℕ × List ℕ) → Line
exec_words None = Refused
exec_words (Some words) = exec_tail (chain_word words.0) (split_word words.1)

-- both chains have to be in form
abbrev pub deliver_of : Option ChainId → Option ChainId → Line
deliver_of (Some from) (Some to) = Step (Deliver from to)
deliver_of (Some from) None = Refused
deliver_of None to = Refused

-- a chain, and another after it
abbrev pub deliver_words : Option (List ℕ × List ℕ) → Line
deliver_words None = Refused
deliver_words (Some words) = deliver_of (chain_word words.0) (chain_word words.1)

-- all three words have to be in form
abbrev pub claim_of : Option ChainId → Option ChainId → Option (List ℕ) → Line
claim_of (Some from) (Some to) (Some message) = Step (Claim from to message)
claim_of (Some from) (Some to) None = Refused
claim_of (Some from) None message = Refused
claim_of None to message = Refused

-- another chain and a message, after a chain
abbrev pub claim_tail : Option ChainId → Option (List ℕ × List ℕ) → Line
claim_tail from None = Refused
claim_tail from (Some words) = claim_of from (chain_word words.0) (message_word words.1)

-- a chain, and the words after it
abbrev pub claim_words : Option (List ℕ × List ℕ) → Line
claim_words None = Refused
claim_words (Some words) = claim_tail (chain_word words.0) (split_word words.1)

-- a line of one word
abbrev pub lone_word : List ℕ → Line
lone_word text =
    if bytes_eq text (codes "drain") then Step Drain
    else (if bytes_eq text (codes "balances") then Step Balances
    else (if bytes_eq text (codes "traps") then Step Traps
    else (if bytes_eq text (codes "queues") then Step Queues
    else (if bytes_eq text (codes "supply") then Step Supply else Refused))))

-- what a line asks for
unfoldable pub read_line : List ℕ → Line
read_line text =
    if is_no_step text then NoStep
    else (if starts_with nat_eq text (codes "exec ") then exec_words (split_word (drop 5 text))
    else (if starts_with nat_eq text (codes "deliver ") then deliver_words (split_word (drop 8 text))
    else (if starts_with nat_eq text (codes "claim ") then claim_words (split_word (drop 6 text)) else lone_word text)))

-- a split as a call answers it
abbrev pub split_values : Option (Bor (List ℕ) × Bor (List ℕ)) → Option (List ℕ × List ℕ)
split_values o = option_map (λ x. (x.0.now, x.1.now)) o
