-- The parts of a pallet's text, from its end. Source: this project's own rule; the spellings are those of the XCM format.
use Rattle.std.specs.Prelude.{List, ℕ, ◌++◌, codes, decimal}
use Rattle.scale_codec.specs.Spelling.{compact}
use Rattle.location_wire.specs.Texts.{hex_text}
use Rattle.operands.specs.declared.pallet.PalletInfo.{PalletInfo}
use Rattle.xcm_format.specs.Parts.{bytes}

abbrev pub minor_text : PalletInfo → List ℕ
minor_text p = decimal p.minor ++ (codes "." ++ decimal p.patch)

abbrev pub minor_version : PalletInfo → List ℕ
minor_version p = compact p.minor ++ compact p.patch

abbrev pub crate_text : PalletInfo → List ℕ
crate_text p = decimal p.major ++ (codes "." ++ minor_text p)

abbrev pub crate_version : PalletInfo → List ℕ
crate_version p = compact p.major ++ minor_version p

abbrev pub module_text : PalletInfo → List ℕ
module_text p = hex_text p.module_name ++ (codes " " ++ crate_text p)

abbrev pub module_pallet : PalletInfo → List ℕ
module_pallet p = bytes p.module_name ++ crate_version p

abbrev pub named_text : PalletInfo → List ℕ
named_text p = hex_text p.name ++ (codes " " ++ module_text p)

abbrev pub named_pallet : PalletInfo → List ℕ
named_pallet p = bytes p.name ++ module_pallet p
