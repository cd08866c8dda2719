-- The texts of steps read back.
use Rattle.std.proofs.Common.{◌≡◌, ◌∙◌, ℕ, suc, ◌<◌, ◌/◌, ◌%◌, List, [], ◌∷◌, ◌++◌, length, get_or, true, false, ◌||◌, Option, Some, refl, ap, arith, eqb}
use Rattle.std.proofs.lemmas.Bool.{and_parts, cond-false, ne_eqb}
use Rattle.std.proofs.lemmas.Bool.Decides.{nat_tests}
use Rattle.std.proofs.lemmas.Slice.Eq.{bytes_eq-Decides}
use Rattle.std.proofs.lemmas.Fmt.{digits_decimal}
use Rattle.std.specs.Prelude.{codes, decimal, bytes_eq}
use Rattle.std.specs.Str.{all_ascii_digits}
use Rattle.std.specs.Char.{is_ascii_digit}
use Rattle.std.specs.Option.{option_map}
use Rattle.std.specs.Result.{result_ok}
use Rattle.hex.specs.Hex.{IsBytes, encode_with, encode_lower, lower_digits, hex_digit_value}
use Rattle.hex.proofs.HexLemmas.{decode_of-encode_lower, decode_pairs-encode_with, length-encode_with, IsDigits-lower_digits}
use Rattle.hex.proofs.Pairs.{decode_sized-pairs}
use Rattle.input_lines.specs.Step.{split_word, chain_word, account_word, message_word, exec_words, exec_tail, exec_of, deliver_of, deliver_words, claim_of, claim_tail, claim_words, read_line}
use Rattle.input_lines.specs.Meaning.{ChainFits, exec_line, deliver_line, claim_line}
use Rattle.chain_ids.specs.Texts.{chain_text}
use Rattle.chain_ids.specs.declared.chain.ChainId.{ChainId}
use Rattle.chain_ids.specs.declared.chain.ChainId.TheVariants.{Relay, Para}
use Rattle.input_lines.specs.declared.line.Line.TheVariants.{Step}
use Rattle.input_lines.specs.declared.step.Step.TheVariants.{Exec, Deliver, Claim}
use Rattle.input_lines.proofs.FirstWord.{at_space, past_other}
use Rattle.input_lines.proofs.Decimals.{number_is}
use Rattle.plain_lists.proofs.Lemmas.Facts.{false_where_not_true as false_from, decimal_numerals as own}

abbrev NoSpace : List ℕ → Type 0
NoSpace [] = Unit {0}
NoSpace (b ∷ rest) = (b ≡ 32 → ⊥) × NoSpace rest

-- a word ends at the first space
split_behind : (word rest : List ℕ) → NoSpace word → split_word (word ++ 32 ∷ rest) ≡ Some (word, rest)
split_behind [] rest h = at_space 32 rest refl
split_behind (b ∷ word) rest h =
    past_other b (word ++ 32 ∷ rest) h.0 ∙ ap (option_map (λ x. (b ∷ x.0, x.1))) (split_behind word rest h.1)

digit_no_space : (c : ℕ) → is_ascii_digit c ≡ true → c ≡ 32 → ⊥
digit_no_space c h e = grind (arith, nat_tests)

digits_no_space : (ds : List ℕ) → all_ascii_digits ds ≡ true → NoSpace ds
digits_no_space [] h = tt
digits_no_space (c ∷ cs) h =
    let parts = and_parts (is_ascii_digit c) (all_ascii_digits cs) h in
    (digit_no_space c parts.0, digits_no_space cs parts.1)

glyph_no_space : (d : ℕ) → d < 16 → get_or lower_digits d 0 ≡ 32 → ⊥
glyph_no_space d l e =
    let h : hex_digit_value 32 ≡ Some d = rw e at (IsDigits-lower_digits d l) in cc

hex_no_space : (bytes : List ℕ) → IsBytes bytes → NoSpace (encode_lower bytes)
unfolding encode_with
hex_no_space [] h = tt
hex_no_space (b ∷ rest) h =
    (glyph_no_space (b / 16) (omega (arith, h 0)), (glyph_no_space (b % 16) (omega arith), hex_no_space rest (λ i. h (suc i))))

chain_no_space : (chain : ChainId) → ChainFits chain → NoSpace (chain_text chain)
chain_no_space Relay f = grind arith
chain_no_space (Para number) f = digits_no_space (decimal number) (digits_decimal own number (omega arith))

not_relay : (ds : List ℕ) → all_ascii_digits ds ≡ true → bytes_eq ds (codes "relay") ≡ true → ⊥
not_relay ds h e =
    let same : ds ≡ codes "relay" = (bytes_eq-Decides ds (codes "relay")).0 e in
    let wrong : all_ascii_digits (codes "relay") ≡ true = rw same at h in cc

chain_back : (chain : ChainId) → ChainFits chain → chain_word (chain_text chain) ≡ Some chain
chain_back Relay f = refl
chain_back (Para number) f =
    let digits = digits_decimal own number (omega arith) in
    cond-false (bytes_eq (decimal number) (codes "relay")) _ _ (false_from _ (not_relay (decimal number) digits))
    ∙ ap (option_map Para) (number_is number f)

account_back : (account : List ℕ) → length account ≡ 32 → IsBytes account → account_word (codes "0x" ++ encode_lower account) ≡ Some account
account_back account l h =
    let size = length-encode_with lower_digits account in
    ap result_ok (decode_sized-pairs (encode_lower account) 32 (omega (arith, size, l)) (omega (arith, size, l)) ∙ decode_pairs-encode_with lower_digits IsDigits-lower_digits 0 account h)

message_back : (message : List ℕ) → IsBytes message → message_word (codes "0x" ++ encode_lower message) ≡ Some message
message_back message h =
    cond-false (eqb (length (codes "0x" ++ encode_lower message)) 0) _ _ (ne_eqb _ 0 (λ e. omega (arith, e)))
    ∙ ap result_ok (decode_of-encode_lower message h)

all_read : (chain : Option ChainId) (account message : Option (List ℕ)) (c : ChainId) (a m : List ℕ) → chain ≡ Some c → account ≡ Some a → message ≡ Some m
    → exec_of chain account message ≡ Step (Exec c a m)
all_read chain account message c a m ec ea em = rw (ec, ea, em) refl

behind_exec : (words : List ℕ) → read_line (codes "exec " ++ words) ≡ exec_words (split_word words)
unfolding read_line
behind_exec words =
    let full : eqb (length (codes "exec " ++ words)) 0 ≡ false = ne_eqb _ 0 (λ e. omega (arith, e)) in
    cond-false (eqb (length (codes "exec " ++ words)) 0 || false) _ _ (ap (λ b. b || false) full)

pub read_back : (chain : ChainId) (account message : List ℕ) → ChainFits chain → length account ≡ 32 → IsBytes account → IsBytes message
    → read_line (exec_line chain account message) ≡ Step (Exec chain account message)
read_back chain account message f l a m =
    let last = codes "0x" ++ encode_lower message in
    let middle = codes "0x" ++ encode_lower account in
    let first = split_behind (chain_text chain) (middle ++ 32 ∷ last) (chain_no_space chain f) in
    let second = split_behind middle last (grind arith, (grind arith, hex_no_space account a)) in
    behind_exec (chain_text chain ++ 32 ∷ (middle ++ 32 ∷ last))
    ∙ ap exec_words first
    ∙ ap (exec_tail (chain_word (chain_text chain))) second
    ∙ all_read _ _ _ chain account message (chain_back chain f) (account_back account l a) (message_back message m)

-- ---- deliveries and claims

behind_deliver : (words : List ℕ) → read_line (codes "deliver " ++ words) ≡ deliver_words (split_word words)
unfolding read_line
behind_deliver words =
    let full : eqb (length (codes "deliver " ++ words)) 0 ≡ false = ne_eqb _ 0 (λ e. omega (arith, e)) in
    cond-false (eqb (length (codes "deliver " ++ words)) 0 || false) _ _ (ap (λ b. b || false) full)

behind_claim : (words : List ℕ) → read_line (codes "claim " ++ words) ≡ claim_words (split_word words)
unfolding read_line
behind_claim words =
    let full : eqb (length (codes "claim " ++ words)) 0 ≡ false = ne_eqb _ 0 (λ e. omega (arith, e)) in
    cond-false (eqb (length (codes "claim " ++ words)) 0 || false) _ _ (ap (λ b. b || false) full)

both_read : (from to : Option ChainId) (f t : ChainId) → from ≡ Some f → to ≡ Some t → deliver_of from to ≡ Step (Deliver f t)
both_read from to f t ef et = rw (ef, et) refl

claim_read : (from to : Option ChainId) (message : Option (List ℕ)) (f t : ChainId) (m : List ℕ) → from ≡ Some f → to ≡ Some t → message ≡ Some m
    → claim_of from to message ≡ Step (Claim f t m)
claim_read from to message f t m ef et em = rw (ef, et, em) refl

pub deliver_back : (from to : ChainId) → ChainFits from → ChainFits to → read_line (deliver_line from to) ≡ Step (Deliver from to)
deliver_back from to ff ft =
    behind_deliver (chain_text from ++ 32 ∷ chain_text to)
    ∙ ap deliver_words (split_behind (chain_text from) (chain_text to) (chain_no_space from ff))
    ∙ both_read _ _ from to (chain_back from ff) (chain_back to ft)

pub claim_back : (from to : ChainId) (message : List ℕ) → ChainFits from → ChainFits to → IsBytes message → read_line (claim_line from to message) ≡ Step (Claim from to message)
claim_back from to message ff ft m =
    let last = codes "0x" ++ encode_lower message in
    let first = split_behind (chain_text from) (chain_text to ++ 32 ∷ last) (chain_no_space from ff) in
    let second = split_behind (chain_text to) last (chain_no_space to ft) in
    behind_claim (chain_text from ++ 32 ∷ (chain_text to ++ 32 ∷ last))
    ∙ ap claim_words first
    ∙ ap (claim_tail (chain_word (chain_text from))) second
    ∙ claim_read _ _ _ from to message (chain_back from ff) (chain_back to ft) (message_back message m)
