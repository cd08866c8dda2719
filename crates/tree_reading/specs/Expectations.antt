-- What a refusal of a row says was expected there. Source: this project's own rule.
use Rattle.std.specs.Prelude.{ℕ, List, ◌++◌, codes}
use Rattle.tree_reading.specs.declared.expected.Expected.{Expected}
use Rattle.tree_reading.specs.declared.expected.Expected.TheVariants.{Heading, Instruction, NoMore, NoDeeper, Field, Asset, Pallet, End, Message, Same}

abbrev pub expectation_text : Expected → List ℕ
expectation_text Heading = codes "message NUMBER version 3 or 4"
expectation_text Instruction = codes "an instruction"
expectation_text NoMore = codes "at most 100 instructions"
expectation_text NoDeeper = codes "at most 8 levels"
expectation_text (Field name) = codes "the field " ++ name.now
expectation_text Asset = codes "an asset"
expectation_text Pallet = codes "a pallet"
expectation_text End = codes "the end of the tree"
expectation_text Message = codes "the tree of a message"
expectation_text Same = codes "the line as explain writes it"
