use Rattle.std.proofs.Common.{◌≡◌, ◌∙◌, ◌≤◌, ℕ, List, [], ◌∷◌, ◌++◌, refl, sym, ap, subst, arith, append_assoc}
use Rattle.std.specs.Prelude.{codes, decimal}
use Rattle.std.proofs.lemmas.List.{append_cancel_left}
use Rattle.scale_codec.specs.Spelling.{compact}
use Rattle.asset_lists.specs.declared.filters.Wild.{Wild}
use Rattle.asset_lists.specs.declared.filters.Wild.TheVariants.{All, AllOf, AllCounted, AllOfCounted}
use Rattle.asset_wire.specs.Spelling.{asset_id, wild_fun, wild}
use Rattle.operands.specs.declared.version.Version.{Version}
use Rattle.message_text.specs.Words.{id_text, wild_fun_text}
use Rattle.message_text.specs.Fields.{wild_text}
use Rattle.tree_reading.specs.Puts.{AreBytes}
use Rattle.tree_reading.specs.Assets.{FitsKindOf, kind_of_text, kind_of_spelling, FitsCountOf, count_of_text, count_of_spelling, FitsSomeWild}
use Rattle.tree_reading.proofs.Behind.{unlike, IsEnd, put_behind}
use Rattle.tree_reading.proofs.assets.put_some_wild.Goals as goal

abbrev Lacks : List ℕ → List ℕ → Type 0
Lacks front text = (rest : List ℕ) → text ≡ front ++ rest → ⊥

of_count : (v : Version) (text inner old mid : List ℕ) → text ≡ codes "AllCounted " ++ inner → mid ≡ old ++ 2 ∷ [] → (x : Wild) → FitsSomeWild v x → AreBytes (wild v x) → text ≡ wild_text x
    → IsEnd (λ n. n ≤ 4294967295) decimal compact (wild v) x inner old mid
unfolding wild_text
of_count v text inner old mid is put All fits bytes e = absurd fits
of_count v text inner old mid is put (AllOf id kind) fits bytes e = absurd (unlike (codes "AllCounted " ++ inner) (codes "AllOf " ++ (id_text id ++ (codes " " ++ wild_fun_text kind))) 3 (sym is ∙ e) refl)
of_count v text inner old mid is put (AllCounted n) fits bytes e = record { value = n; fits = omega (arith, fits.1); bytes = bytes.1; words = append_cancel_left (codes "AllCounted ") inner (decimal n) (sym is ∙ e); front = 2 ∷ []; put = put; spelled = refl }
of_count v text inner old mid is put (AllOfCounted id kind n) fits bytes e = absurd (unlike (codes "AllCounted " ++ inner) (codes "AllOfCounted " ++ (id_text id ++ (codes " " ++ wild_fun_text kind ++ (codes " " ++ decimal n)))) 3 (sym is ∙ e) refl)

of_kind : (v : Version) (text inner old mid : List ℕ) → text ≡ codes "AllOf " ++ inner → mid ≡ old ++ 1 ∷ [] → (x : Wild) → FitsSomeWild v x → AreBytes (wild v x) → text ≡ wild_text x
    → IsEnd (FitsKindOf v) kind_of_text (kind_of_spelling v) (wild v) x inner old mid
unfolding wild_text
of_kind v text inner old mid is put All fits bytes e = absurd fits
of_kind v text inner old mid is put (AllOf id kind) fits bytes e = record { value = (id, kind); fits = fits; bytes = bytes.1; words = append_cancel_left (codes "AllOf ") inner (id_text id ++ (codes " " ++ wild_fun_text kind)) (sym is ∙ e); front = 1 ∷ []; put = put; spelled = refl }
of_kind v text inner old mid is put (AllCounted n) fits bytes e = absurd (unlike (codes "AllOf " ++ inner) (codes "AllCounted " ++ decimal n) 3 (sym is ∙ e) refl)
of_kind v text inner old mid is put (AllOfCounted id kind n) fits bytes e = absurd (unlike (codes "AllOf " ++ inner) (codes "AllOfCounted " ++ (id_text id ++ (codes " " ++ wild_fun_text kind ++ (codes " " ++ decimal n)))) 5 (sym is ∙ e) refl)

of_both : (v : Version) (text inner old mid : List ℕ) → text ≡ codes "AllOfCounted " ++ inner → mid ≡ old ++ 3 ∷ [] → (x : Wild) → FitsSomeWild v x → AreBytes (wild v x) → text ≡ wild_text x
    → IsEnd (FitsCountOf v) count_of_text (count_of_spelling v) (wild v) x inner old mid
unfolding wild_text
of_both v text inner old mid is put All fits bytes e = absurd fits
of_both v text inner old mid is put (AllOf id kind) fits bytes e = absurd (unlike (codes "AllOfCounted " ++ inner) (codes "AllOf " ++ (id_text id ++ (codes " " ++ wild_fun_text kind))) 5 (sym is ∙ e) refl)
of_both v text inner old mid is put (AllCounted n) fits bytes e = absurd (unlike (codes "AllOfCounted " ++ inner) (codes "AllCounted " ++ decimal n) 3 (sym is ∙ e) refl)
of_both v text inner old mid is put (AllOfCounted id kind n) fits bytes e =
    let spelled = append_assoc (asset_id v id) (wild_fun kind) (compact n) in
    record {
      value = (id, (kind, n));
      fits = ((fits.0, fits.1.0), omega (arith, fits.1.1));
      bytes = subst AreBytes spelled bytes.1;
      words = append_cancel_left (codes "AllOfCounted ") inner (id_text id ++ (codes " " ++ (wild_fun_text kind ++ (codes " " ++ decimal n)))) (sym is ∙ e);
      front = 3 ∷ [];
      put = put;
      spelled = ap (λ t. 3 ∷ t) spelled;
    }

none_of : (v : Version) (text : List ℕ) → Lacks (codes "AllCounted ") text → Lacks (codes "AllOf ") text → Lacks (codes "AllOfCounted ") text → (x : Wild) → FitsSomeWild v x → text ≡ wild_text x → ⊥
unfolding wild_text
none_of v text a b c All fits e = fits
none_of v text a b c (AllOf id kind) fits e = b (id_text id ++ (codes " " ++ wild_fun_text kind)) e
none_of v text a b c (AllCounted n) fits e = a (decimal n) e
none_of v text a b c (AllOfCounted id kind n) fits e = c (id_text id ++ (codes " " ++ (wild_fun_text kind ++ (codes " " ++ decimal n)))) e

pub returns-in-Some : goal.returns-in-Some
returns-in-Some c =
    let v = c.args.version in
    put_behind (FitsSomeWild v) wild_text (wild v) (λ n. n ≤ 4294967295) decimal compact c.args.text.now c.in-Some.count.now c.put_number.result c.args.out.now c.put_u8.new.self c.put_number.new.out
    (of_count v c.args.text.now c.in-Some.count.now c.args.out.now c.put_u8.new.self c.in-Some.ensures c.in_ok-put_u8.ensures.ok)
    c.put_number.ensures

pub returns-in-Some-after : goal.returns-in-Some-after
returns-in-Some-after c =
    let v = c.args.version in
    put_behind (FitsSomeWild v) wild_text (wild v) (FitsKindOf v) kind_of_text (kind_of_spelling v) c.args.text.now c.in-Some-after.kind.now c.put_kind_of.result c.args.out.now c.put_u8-in-Some-after.new.self c.put_kind_of.new.out
    (of_kind v c.args.text.now c.in-Some-after.kind.now c.args.out.now c.put_u8-in-Some-after.new.self c.in-Some-after.ensures c.in_ok-put_u8-2.ensures.ok)
    c.put_kind_of.ensures

pub returns-in_ok-put_u8-in-Some-after-2 : goal.returns-in_ok-put_u8-in-Some-after-2
returns-in_ok-put_u8-in-Some-after-2 c =
    let v = c.args.version in
    put_behind (FitsSomeWild v) wild_text (wild v) (FitsCountOf v) count_of_text (count_of_spelling v) c.args.text.now c.in-Some-after-2.counting.now c.put_count_of.result c.args.out.now c.put_u8-in-Some-after-2.new.self c.put_count_of.new.out
    (of_both v c.args.text.now c.in-Some-after-2.counting.now c.args.out.now c.put_u8-in-Some-after-2.new.self c.in-Some-after-2.ensures c.in_ok-put_u8-in-Some-after-2.ensures.ok)
    c.put_count_of.ensures

pub returns-in-None : goal.returns-in-None
returns-in-None c = λ x fits bytes e. absurd (none_of c.args.version c.args.text.now c.in_default.ensures c.in_default-after.ensures c.in-None.ensures x fits e)
