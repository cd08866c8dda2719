-- What is decoded, and what is answered to a tree.
use Rattle.std.proofs.Common.{◌≡◌, ◌∙◌, ◌⊎◌, inl, inr, ℕ, ◌<◌, ◌≤◌, ◌^◌, true, List, [], ◌∷◌, ◌++◌, length, refl, sym, ap, subst, append_assoc, Result, Ok, Err, IfOk, String, Global, string_bytes, arith}
use Rattle.std.specs.Prelude.{slice_index, codes, decimal}
use Rattle.operands.specs.declared.version.Version.{Version}
use Rattle.xcm_program.specs.declared.instruction.Instruction.{Instruction}
use Rattle.xcm_program.specs.Measure.{deep_count}
use Rattle.xcm_program.specs.Conversions.{is_convertible}
use Rattle.xcm_format.specs.Programs.{program_spelling}
use Rattle.xcm_format.specs.Messages.{version_byte, message, IsSmall, IsMessageIn}
use Rattle.message_text.specs.Messages.{program_text}
use Rattle.versioned_xcm.specs.declared.faults.MessageFault.{MessageFault}
use Rattle.versioned_xcm.specs.declared.faults.MessageFault.TheVariants.{Memory}
use Rattle.versioned_xcm.specs.Message.{IsDecoded}
use Rattle.versioned_xcm.specs.Reading.{message_of}
use Rattle.xcm_explain.specs.Blocks.{message_tree, decoded_block, message_block}
use Rattle.tree_reading.specs.declared.expected.Expected.{Expected}
use Rattle.tree_reading.specs.declared.expected.TreeFault.{TreeFault}
use Rattle.tree_reading.specs.declared.expected.TreeFault.TheVariants.{Memory as TreeMemory}
use Rattle.tree_reading.specs.declared.trees.Numbered.{Numbered}
use Rattle.tree_reading.specs.Puts.{AreBytes}
use Rattle.tree_reading.specs.Programs.{HasTree}
use Rattle.tree_reading.specs.Trees.{tree_text, IsNumbered}
use Rattle.xcm_compose.specs.Answers.{IsExplained, IsTreeOf, HasNoMessage, IsOnly, IsTreeRefused, IsJudged, IsAnswer, message_line, refused_line}

-- ---- what is decoded has a first byte, and is small

message_begins : (v : Version) (program : List Instruction) → 0 < length (message v program)
unfolding message
message_begins v program = omega arith

pub decoded_begins : (bytes : List ℕ) (program : List Instruction) → IsDecoded bytes program → 0 < length bytes
decoded_begins bytes program d = rw d.message.1.text (message_begins d.message.0 program)

pub decoded_few : (bytes : List ℕ) (program : List Instruction) → IsDecoded bytes program → deep_count program ≤ 100
decoded_few bytes program d = d.message.1.readable.small.few

pub decoded_read : (bytes : List ℕ) (program : List Instruction) (result : Result (List Instruction) MessageFault) → (result ≡ Err Memory) ⊎ (result ≡ message_of bytes) → result ≡ Ok program → message_of bytes ≡ Ok program
decoded_read bytes program result (inl e) o = absurd (let f : Ok program ≡ Err Memory = sym o ∙ e in cc)
decoded_read bytes program result (inr e) o = sym e ∙ o

-- the tree of what was decoded
pub explains : (number : ℕ) (bytes text : List ℕ) (program : List Instruction) → IsDecoded bytes program → message_of bytes ≡ Ok program → text ≡ message_tree number (slice_index bytes 0) (program_text 1 program) → IsExplained number bytes text
explains number bytes text program d r t = record {
  program = program;
  message = d;
  tree = t;
  explained = t ∙ ap (decoded_block number bytes) (sym r);
}

-- what is refused is the message of no program
pub undecoded : (bytes : List ℕ) (fault : MessageFault) (result : Result (List Instruction) MessageFault) → (result ≡ Err Memory) ⊎ (result ≡ message_of bytes) → result ≡ Err fault → (fault ≡ Memory → ⊥)
    → ((v : Version) (bytes : List ℕ) (program : List Instruction) → IsMessageIn v bytes program → is_convertible program ≡ true → message_of bytes ≡ Ok program) → (program : List Instruction) → IsDecoded bytes program → ⊥
undecoded bytes fault result (inl e) is other again program d = other (let f : Err fault ≡ Err Memory = sym is ∙ e in cc)
undecoded bytes fault result (inr e) is other again program d =
    let read = again d.message.0 bytes program d.message.1 d.convertible in
    absurd (let f : Err fault ≡ Ok program = sym is ∙ e ∙ read in cc)

-- ---- what a tree of a message says

message_bytes : (v : Version) (program : List Instruction) → AreBytes (message v program) → AreBytes (program_spelling v program)
unfolding message
message_bytes v program h = h.1

first_byte : (v : Version) (program : List Instruction) → slice_index (message v program) 0 ≡ version_byte v
unfolding message
first_byte v program = refl

headed : (number : ℕ) (v : Version) (program : List Instruction) → message_tree number (version_byte v) (program_text 1 program) ≡ tree_text number v program
headed number v program =
    let front : List ℕ = codes " version " ++ decimal (version_byte v) in
    let rest : List ℕ = program_text 1 program in
    ap (λ t. codes "message " ++ t) (sym (append_assoc (decimal number ++ front) (codes "\n") rest ∙ append_assoc (decimal number) front (codes "\n" ++ rest)))

-- the version, and the program that the tree says
record IsSaid (number : ℕ) (bytes tree : List ℕ) : Type 0 where
  pub version : Version
  pub program : List Instruction
  pub has : HasTree version program
  pub small : IsSmall program
  pub text : tree ≡ tree_text number version program
  pub bytes_are : bytes ≡ message version program

said : (number : ℕ) (bytes tree : List ℕ) → IsTreeOf number bytes tree → IsSaid number bytes tree
said number bytes tree told =
    let x = told.explained in
    let m = x.message.message.1 in
    let v = x.message.message.0 in
    let first : slice_index bytes 0 ≡ version_byte v = ap (λ b. slice_index b 0) m.text ∙ first_byte v x.program in
    record {
      version = v;
      program = x.program;
      has = record { fits = m.readable.fits; convertible = x.message.convertible; all = message_bytes v x.program (subst AreBytes m.text told.all) };
      small = m.readable.small;
      text = x.tree ∙ ap (λ b. message_tree number b (program_text 1 x.program)) first ∙ headed number v x.program;
      bytes_are = m.text;
    }

pub made_only : (tree : List ℕ) (made : Numbered) → ((number : ℕ) (v : Version) (program : List Instruction) → number < 2 ^ 64 → HasTree v program → IsSmall program → tree ≡ tree_text number v program → IsNumbered number v program made)
    → IsOnly made.number made.bytes.items tree
made_only tree made h n b told =
    let s = said n b tree told in
    let x = h n s.version s.program told.small s.has s.small s.text in
    (x.number, x.bytes ∙ sym s.bytes_are)

pub refused_has_none : (tree : List ℕ) (stop : TreeFault) → ((number : ℕ) (v : Version) (program : List Instruction) → number < 2 ^ 64 → HasTree v program → IsSmall program → tree ≡ tree_text number v program → stop ≡ TreeMemory)
    → (stop ≡ TreeMemory → ⊥) → HasNoMessage tree
refused_has_none tree stop h other n b told = let s = said n b tree told in other (h n s.version s.program told.small s.has s.small s.text)

-- ---- what is answered

pub refuses_tree : {E : Type 0} (tree : List ℕ) (line : ℕ) (expected : Expected) (result : Result (String Global) E) → HasNoMessage tree → IfOk result (λ text. string_bytes text ≡ refused_line line expected)
    → IfOk result (λ text. IsTreeRefused tree (string_bytes text))
refuses_tree tree line expected (Ok text) none e = record { line = line; expected = expected; refused = e; none = none }
refuses_tree tree line expected (Err e) none t = tt

pub judges_refused : {E : Type 0} (tree : List ℕ) (result : Result (String Global) E) → IfOk result (λ text. IsTreeRefused tree (string_bytes text)) → IfOk result (λ text. IsJudged tree (string_bytes text))
judges_refused tree (Ok text) r = inr r
judges_refused tree (Err e) t = tt

-- where the bytes are the message of no program
pub undecoded_none : (number : ℕ) (bytes tree : List ℕ) → IsOnly number bytes tree → ((program : List Instruction) → IsDecoded bytes program → ⊥) → HasNoMessage tree
undecoded_none number bytes tree only none n b told =
    let x = told.explained in
    none x.program (subst (λ (t : List ℕ). IsDecoded t x.program) (sym (only n b told).1) x.message)

-- where the tree of the bytes is another
pub differing_none : (number : ℕ) (bytes tree shown : List ℕ) → IsExplained number bytes shown → IsOnly number bytes tree → (shown ≡ tree → ⊥) → HasNoMessage tree
differing_none number bytes tree shown x only other n b told =
    let same = only n b told in
    other (x.explained ∙ ap (λ k. message_block k bytes) same.0 ∙ ap (message_block n) same.1 ∙ sym told.explained.explained)

pub composes_tree : {E : Type 0} (tree : List ℕ) (number : ℕ) (bytes shown : List ℕ) (result : Result (String Global) E) → IsExplained number bytes shown → IsOnly number bytes tree → shown ≡ tree
    → IfOk result (λ text. string_bytes text ≡ message_line bytes) → IfOk result (λ text. IsJudged tree (string_bytes text))
composes_tree tree number bytes shown (Ok text) x only same e = inl (record { number = number; bytes = bytes; explained = rw same at x; only = only; line = e })
composes_tree tree number bytes shown (Err e) x only same t = tt

-- where there is a tree
pub answers : {E : Type 0} (tree : List ℕ) (result : Result (String Global) E) → 0 < length tree → IfOk result (λ text. IsJudged tree (string_bytes text)) → IfOk result (λ text. IsAnswer tree (string_bytes text))
answers [] result l e = absurd (omega arith)
answers (b ∷ tree) (Ok text) l e = e
answers (b ∷ tree) (Err e) l t = tt
