use Rattle.std.proofs.Common.{◌≡◌, ◌∙◌, ℕ, List, [], ◌∷◌, ◌++◌, refl, sym, ap}
use Rattle.std.specs.Prelude.{codes, decimal}
use Rattle.std.proofs.lemmas.List.{append-nil}
use Rattle.asset_lists.specs.declared.filters.Wild.{Wild}
use Rattle.asset_lists.specs.declared.filters.Wild.TheVariants.{All, AllOf, AllCounted, AllOfCounted}
use Rattle.asset_wire.specs.Spelling.{wild}
use Rattle.operands.specs.declared.version.Version.{Version}
use Rattle.message_text.specs.Words.{id_text, wild_fun_text}
use Rattle.message_text.specs.Fields.{wild_text}
use Rattle.tree_reading.specs.Puts.{AreBytes}
use Rattle.tree_reading.specs.Assets.{FitsPlaceWild, FitsSomeWild}
use Rattle.tree_reading.proofs.Behind.{unlike, IsEnd, put_behind}
use Rattle.tree_reading.proofs.assets.put_wild.Goals as goal

all : (v : Version) (x : Wild) → codes "All" ≡ wild_text x → 0 ∷ [] ≡ wild v x
unfolding wild_text
all v All e = refl
all v (AllOf id kind) e = absurd (unlike (codes "All") (codes "AllOf " ++ (id_text id ++ (codes " " ++ wild_fun_text kind))) 3 e refl)
all v (AllCounted n) e = absurd (unlike (codes "All") (codes "AllCounted " ++ decimal n) 3 e refl)
all v (AllOfCounted id kind n) e = absurd (unlike (codes "All") (codes "AllOfCounted " ++ (id_text id ++ (codes " " ++ (wild_fun_text kind ++ (codes " " ++ decimal n))))) 3 e refl)

some : (v : Version) (text old : List ℕ) → (text ≡ codes "All" → ⊥) → (x : Wild) → FitsPlaceWild v x → AreBytes (wild v x) → text ≡ wild_text x → IsEnd (FitsSomeWild v) wild_text (wild v) (wild v) x text old old
unfolding wild_text
some v text old other All fits bytes e = absurd (other e)
some v text old other (AllOf id kind) fits bytes e = record { value = AllOf id kind; fits = fits; bytes = bytes; words = e; front = []; put = sym (append-nil old); spelled = refl }
some v text old other (AllCounted n) fits bytes e = record { value = AllCounted n; fits = fits; bytes = bytes; words = e; front = []; put = sym (append-nil old); spelled = refl }
some v text old other (AllOfCounted id kind n) fits bytes e = record { value = AllOfCounted id kind n; fits = fits; bytes = bytes; words = e; front = []; put = sym (append-nil old); spelled = refl }

pub returns-in_ok-put_u8-in-All : goal.returns-in_ok-put_u8-in-All
returns-in_ok-put_u8-in-All c = λ x fits bytes e. (refl, c.in_ok-put_u8-in-All.ensures.ok ∙ ap (λ t. c.args.out.now ++ t) (all c.args.version x (sym c.in-All.is ∙ e)))

pub returns-in_default : goal.returns-in_default
returns-in_default c =
    let v = c.args.version in
    put_behind (FitsPlaceWild v) wild_text (wild v) (FitsSomeWild v) wild_text (wild v) c.args.text.now c.args.text.now c.put_some_wild.result c.args.out.now c.args.out.now c.put_some_wild.new.out
    (some v c.args.text.now c.args.out.now c.in_default.not-All)
    c.put_some_wild.ensures
