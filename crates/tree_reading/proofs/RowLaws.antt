-- Rows.
use Rattle.std.proofs.Common.{◌≡◌, ℕ, zero, suc, ◌<◌, Bool, true, false, cond, List, [], ◌∷◌, ◌++◌, length, take, drop, get_or, Option, Some, None, refl, sym, ap, ◌∙◌, append_assoc, length-append, length-drop, drop-cons, add-one, ◌+◌, ◌⊎◌, inl, inr, arith}
use Rattle.std.specs.Prelude.{codes, ◌==◌, not, nat_lt, position, ◌-◌}
use Rattle.std.proofs.Math.Seq.{take-append_seam, drop-append-add, take-length}
use Rattle.std.proofs.lemmas.List.{take-append-drop}
use Rattle.std.proofs.lemmas.List.Quantifiers.{position-Some}
use Rattle.std.proofs.lemmas.Bool.{and_parts, eqb-true, lt-ltb}
use Rattle.std.proofs.lemmas.Bool.Decides.{nat_tests}
use Rattle.std.proofs.lemmas.Str.{IsUtf8-from_ascii}
use Rattle.std.proofs.lemmas.Str.Ascii.{IsAscii-nil, IsAscii-cons}
use Rattle.std.specs.Option.{MatchOption}
use Rattle.std.specs.Borrow.{Bor}
use Rattle.std.specs.List.{list_all, position_or_len}
use Rattle.std.specs.Str.{IsUtf8, IsAscii}
use Rattle.message_text.specs.Lines.{indent, line}
use Rattle.tree_reading.specs.Rows.{is_visible, IsWords, BeginsAbove, IsOutside}
use Rattle.tree_reading.proofs.Solid.{all-append}

pub plain_indent : (level : ℕ) → list_all is_visible (indent level) ≡ true
plain_indent zero = refl
plain_indent (suc level) = plain_indent level

pub plain_row : (level : ℕ) (words : List ℕ) → IsWords words → list_all is_visible (indent level ++ words) ≡ true
plain_row level words w = all-append is_visible (indent level) words (plain_indent level) w.plain

pub row_cut : (level : ℕ) (bs words rest : List ℕ) → bs ≡ line level words ++ rest → bs ≡ (indent level ++ words) ++ 10 ∷ rest
row_cut level bs words rest e = e ∙ append_assoc (indent level) (words ++ codes "\n") rest ∙ ap (λ t. indent level ++ t) (append_assoc words (codes "\n") rest) ∙ sym (append_assoc (indent level) words (10 ∷ rest))

-- what is cut off where these bytes, that are visible, stand before a line feed
abbrev pub CutsAt : List ℕ → Option (Bor (List ℕ) × Bor (List ℕ)) → Type 0
CutsAt bs r = (row rest : List ℕ) → list_all is_visible row ≡ true → bs ≡ row ++ 10 ∷ rest → MatchOption r ⊥ (λ x. (x.0.now ≡ row) × (x.1.now ≡ rest))

pub row_split : (level : ℕ) (bs words rest : List ℕ) (r : Option (Bor (List ℕ) × Bor (List ℕ))) → CutsAt bs r → IsWords words → bs ≡ line level words ++ rest
    → MatchOption r ⊥ (λ x. (x.0.now ≡ indent level ++ words) × (x.1.now ≡ rest))
row_split level bs words rest r h w e = h (indent level ++ words) rest (plain_row level words w) (row_cut level bs words rest e)

-- the row before what is outside is at a lower level
pub outside_row : (level : ℕ) (bs : List ℕ) (r : Option (Bor (List ℕ) × Bor (List ℕ))) (x : Bor (List ℕ) × Bor (List ℕ)) → CutsAt bs r → bs ≡ x.0.now ++ 10 ∷ x.1.now → r ≡ Some x → IsOutside level bs
    → (lower : ℕ) × (words : List ℕ) × (lower < level) × IsWords words × (x.0.now ≡ indent lower ++ words)
outside_row level bs r x h cut is (inl e) =
    let long : length bs ≡ length x.0.now + length (10 ∷ x.1.now) = ap length cut ∙ length-append x.0.now (10 ∷ x.1.now) in
    absurd (omega (arith, long, ap length e))
outside_row level bs r x h cut is (inr b) =
    let split = rw is at (row_split b.lower bs b.words b.rest r h b.are b.is) in
    (b.lower, b.words, b.less, b.are, split.0)

-- where a row stands as a text
pub seen : (level : ℕ) (words bytes : List ℕ) → IsWords words → bytes ≡ indent level ++ words → list_all is_visible bytes ≡ true
seen level words bytes w e = ap (list_all is_visible) e ∙ plain_row level words w

visible_ascii : (bs : List ℕ) → list_all is_visible bs ≡ true → IsAscii bs
visible_ascii [] h = IsAscii-nil
visible_ascii (b ∷ bs) h = let a = and_parts (is_visible b) (list_all is_visible bs) h in IsAscii-cons b bs (low b a.0) (visible_ascii bs a.1)
  where
    low : (b : ℕ) → is_visible b ≡ true → b < 128
    low b h = grind (arith, nat_tests, h)

pub visible_utf8 : (bs : List ℕ) → list_all is_visible bs ≡ true → IsUtf8 bs
visible_utf8 bs h = IsUtf8-from_ascii bs (visible_ascii bs h)

-- ---- where the first line feed is

pub feed_after : (row rest : List ℕ) → list_all is_visible row ≡ true → position_or_len (λ b. b == 10) (row ++ 10 ∷ rest) ≡ length row
feed_after [] rest h = refl
feed_after (b ∷ row) rest h =
    let a = and_parts (is_visible b) (list_all is_visible row) h in
    let other : (b == 10) ≡ false = not_feed b a.0 in
    let one : 1 + length row ≡ suc (length row) = omega arith in
    ap (λ t. cond (not t) (1 + position_or_len (λ x. x == 10) (row ++ 10 ∷ rest)) 0) other ∙ ap (λ n. 1 + n) (feed_after row rest a.1) ∙ one
  where
    not_feed : (b : ℕ) → is_visible b ≡ true → (b == 10) ≡ false
    not_feed b h = grind (arith, nat_tests, h)

pub feed_before : (bs row rest : List ℕ) → list_all is_visible row ≡ true → bs ≡ row ++ 10 ∷ rest → position (λ b. b == 10) bs ≡ Some (length row)
feed_before bs row rest h e =
    let whole : List ℕ = row ++ 10 ∷ rest in
    let at : position_or_len (λ b. b == 10) whole ≡ length row = feed_after row rest h in
    let lt : nat_lt (length row) (length whole) ≡ true = lt-ltb (length row) (length whole) (omega (arith, length-append row (10 ∷ rest))) in
    ap (position (λ b. b == 10)) e ∙ ap (λ k. cond (nat_lt k (length whole)) (Some k) None) at ∙ ap (λ t. cond t (Some (length row)) None) lt

-- the first line feed cuts the text
pub feed_cuts : (bs : List ℕ) (at : ℕ) → position (λ b. b == 10) bs ≡ Some at → bs ≡ take at bs ++ 10 ∷ drop (at + 1) bs
feed_cuts bs at e =
    let p = position-Some (λ b. b == 10) bs at 0 e in
    let lt : at < length bs = p.0 in
    let feed : get_or bs at 0 ≡ 10 = eqb-true (get_or bs at 0) 10 p.1 in
    sym (take-append-drop at bs) ∙ ap (λ t. take at bs ++ t) (drop-cons bs at 0 lt ∙ ap (λ b. b ∷ drop (suc at) bs) feed ∙ ap (λ n. 10 ∷ drop n bs) (sym (add-one at)))

pub cut_parts : (bs row rest : List ℕ) (at : ℕ) → list_all is_visible row ≡ true → bs ≡ row ++ 10 ∷ rest → position (λ b. b == 10) bs ≡ Some at → (take at bs ≡ row) × (drop (at + 1) bs ≡ rest)
cut_parts bs row rest at h e is =
    let same : at ≡ length row = cc (is, feed_before bs row rest h e) in (
      ap (λ n. take n bs) same ∙ ap (take (length row)) e ∙ take-append_seam row (10 ∷ rest),
      ap (λ n. drop (n + 1) bs) same ∙ ap (drop (length row + 1)) e ∙ drop-append-add row (10 ∷ rest) 1,
    )

-- a slice from a place on is the rest
pub slice_rest : (n : ℕ) (bs : List ℕ) → take (length bs - n) (drop n bs) ≡ drop n bs
slice_rest n bs = ap (λ k. take k (drop n bs)) (sym (length-drop n bs)) ∙ take-length (drop n bs)
