use Rattle.std.proofs.Common.{◌≡◌, ◌∙◌, ℕ, List, [], ◌∷◌, ◌++◌, refl, sym, arith}
use Rattle.std.specs.Prelude.{codes, decimal, ⊤}
use Rattle.std.proofs.lemmas.List.{append-nil, append_cancel_left}
use Rattle.scale_codec.specs.Spelling.{compact}
use Rattle.location_wire.specs.Texts.{hex_text}
use Rattle.asset_lists.specs.declared.units.Fun.{Fun}
use Rattle.asset_lists.specs.declared.units.Fun.TheVariants.{Fungible, NonFungible}
use Rattle.asset_wire.specs.Spelling.{instance, fun, FitsFun, FitsAmount}
use Rattle.message_text.specs.Words.{fun_text}
use Rattle.tree_reading.specs.Puts.{AreBytes}
use Rattle.tree_reading.proofs.Behind.{IsEnd, put_behind}
use Rattle.tree_reading.proofs.Paths.{no_word}
use Rattle.tree_reading.proofs.assets.put_fun.Goals as goal

of_instance : (text inner old : List ℕ) → text ≡ codes "instance " ++ inner → (x : Fun) → FitsFun x → AreBytes (fun x) → text ≡ fun_text x → IsEnd (λ (b : List ℕ). ⊤) hex_text (λ b. 1 ∷ b) fun x inner old old
unfolding fun_text
of_instance text inner old is (Fungible n) fits bytes e = absurd (no_word 105 n (codes "nstance " ++ inner) [] (omega (arith, fits.0)) (omega arith) (sym is ∙ e ∙ sym (append-nil (decimal n))))
of_instance text inner old is (NonFungible which) fits bytes e = record { value = instance which; fits = tt; bytes = bytes; words = append_cancel_left (codes "instance ") inner (hex_text (instance which)) (sym is ∙ e); front = []; put = sym (append-nil old); spelled = refl }

of_amount : (text old : List ℕ) → ((rest : List ℕ) → text ≡ codes "instance " ++ rest → ⊥) → (x : Fun) → FitsFun x → AreBytes (fun x) → text ≡ fun_text x → IsEnd FitsAmount decimal (λ n. 0 ∷ compact n) fun x text old old
unfolding fun_text
of_amount text old none (Fungible n) fits bytes e = record { value = n; fits = fits; bytes = bytes; words = e; front = []; put = sym (append-nil old); spelled = refl }
of_amount text old none (NonFungible which) fits bytes e = absurd (none (hex_text (instance which)) e)

pub returns-in-Some : goal.returns-in-Some
returns-in-Some c =
    put_behind FitsFun fun_text fun (λ (b : List ℕ). ⊤) hex_text (λ b. 1 ∷ b) c.args.text.now c.in-Some.instance.now c.put_instance.result c.args.out.now c.args.out.now c.put_instance.new.out
    (of_instance c.args.text.now c.in-Some.instance.now c.args.out.now c.in-Some.ensures)
    c.put_instance.ensures

pub returns-in-None : goal.returns-in-None
returns-in-None c =
    put_behind FitsFun fun_text fun FitsAmount decimal (λ n. 0 ∷ compact n) c.args.text.now c.args.text.now c.put_amount.result c.args.out.now c.args.out.now c.put_amount.new.out
    (of_amount c.args.text.now c.args.out.now c.in-None.ensures)
    c.put_amount.ensures
