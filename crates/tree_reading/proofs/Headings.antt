-- The heading of a tree.
use Rattle.std.proofs.Common.{◌≡◌, ◌∙◌, ℕ, ◌<◌, ◌^◌, Bool, true, List, [], ◌∷◌, ◌++◌, refl, sym, ap, lit<, arith}
use Rattle.std.specs.Prelude.{codes, decimal, ◌≢◌}
use Rattle.std.specs.List.{list_all}
use Rattle.std.proofs.lemmas.Bool.{and_parts, and_from}
use Rattle.std.proofs.lemmas.Bool.Decides.{nat_tests}
use Rattle.std.proofs.lemmas.Fmt.{decimal_digit}
use Rattle.std.proofs.lemmas.List.{append_cancel_left}
use Rattle.operands.specs.declared.version.Version.{Version}
use Rattle.operands.specs.declared.version.Version.TheVariants.{V3, V4}
use Rattle.xcm_format.specs.Messages.{version_byte}
use Rattle.tree_reading.specs.Rows.{is_visible, is_solid, IsSolid, IsWords}
use Rattle.tree_reading.specs.Trees.{version_words, heading_words}
use Rattle.tree_reading.proofs.Solid.{all-append, solid_decimal}
use Rattle.tree_reading.proofs.Behind.{unlike}

-- ---- versions

pub third : (text : List ℕ) (v : Version) → text ≡ codes "3" → text ≡ decimal (version_byte v) → V3 ≡ v
third text V3 is e = refl
third text V4 is e = absurd (unlike (codes "3") (codes "4") 0 (sym is ∙ e ∙ decimal_digit 4 (lit< tt)) refl)

pub fourth : (text : List ℕ) (v : Version) → text ≡ codes "4" → text ≡ decimal (version_byte v) → V4 ≡ v
fourth text V3 is e = absurd (unlike (codes "4") (codes "3") 0 (sym is ∙ e ∙ decimal_digit 3 (lit< tt)) refl)
fourth text V4 is e = refl

pub no_other : (text : List ℕ) (v : Version) → (text ≡ codes "3" → ⊥) → (text ≡ codes "4" → ⊥) → text ≡ decimal (version_byte v) → ⊥
no_other text V3 a b e = a (e ∙ decimal_digit 3 (lit< tt))
no_other text V4 a b e = b (e ∙ decimal_digit 4 (lit< tt))

-- ---- parts of a heading

pub behind_message : (words rest : List ℕ) (n : ℕ) (v : Version) → words ≡ codes "message " ++ rest → words ≡ heading_words n v → rest ≡ decimal n ++ 32 ∷ version_words v
behind_message words rest n v is e = append_cancel_left (codes "message ") rest (decimal n ++ 32 ∷ version_words v) (sym is ∙ e)

pub behind_version : (words rest : List ℕ) (v : Version) → words ≡ codes "version " ++ rest → words ≡ version_words v → rest ≡ decimal (version_byte v)
behind_version words rest v is e = append_cancel_left (codes "version ") rest (decimal (version_byte v)) (sym is ∙ e)

-- ---- a heading is the words of a row

solid_visible : (xs : List ℕ) → IsSolid xs → list_all is_visible xs ≡ true
solid_visible [] h = refl
solid_visible (b ∷ xs) h = let a = and_parts (is_solid b) (list_all is_solid xs) h in and_from (is_visible b) (list_all is_visible xs) (one b a.0) (solid_visible xs a.1)
  where
    one : (b : ℕ) → is_solid b ≡ true → is_visible b ≡ true
    one b h = grind (arith, nat_tests, h)

plain_decimal : (n : ℕ) → n < 10 ^ 64 → list_all is_visible (decimal n) ≡ true
plain_decimal n lt = solid_visible (decimal n) (solid_decimal n lt)

plain_version : (v : Version) → list_all is_visible (version_words v) ≡ true
plain_version V3 = all-append is_visible (codes "version ") (decimal 3) refl (plain_decimal 3 (lit< tt))
plain_version V4 = all-append is_visible (codes "version ") (decimal 4) refl (plain_decimal 4 (lit< tt))

pub heading_is_words : (n : ℕ) (v : Version) → n < 2 ^ 64 → IsWords (heading_words n v)
heading_is_words n v lt = record {
  plain = all-append is_visible (codes "message ") (decimal n ++ (codes " " ++ version_words v)) refl
      (all-append is_visible (decimal n) (codes " " ++ version_words v) (plain_decimal n (omega arith)) (all-append is_visible (codes " ") (version_words v) refl (plain_version v)));
  front = λ rest e. unlike (heading_words n v) (32 ∷ rest) 0 e refl;
}
