-- How a `Listed` holds its elements, so that a type may contain itself through one.
-- Contracts see a `Listed` as a list: its shape is the list with the elements left out, and its elements are in order.
--     the_former, the_weighed, the_empty     those of lists
--     the_items, the_items_listed     the elements, which are the whole value
--     the_places     in memory it owns and lends what its one field, a `Vec`, owns and lends, element by element
--     the_codes_placed     its code is the list of the codes of its elements
use mathlib.Core.Path.{◌≡◌, refl, sym}
use mathlib.Core.List.{List, []}
use mathlib.Core.Former.{Former, children, this, list, via}
use base.Stored.{code_map}
use denote.Hole.Carrier.{listed, list-listed}
use denote.Hole.Fix.{over}
use denote.HoleLaws.{Alike}
use denote.HolePlaces.{Laid, Recodes, laid, struct_places}
use denote.Model.Placed.{view_places}
use denote.Param.Weighed.{Weighed, w_list}
use denote.RattleType.{RattleType}
use Rattle.std.specs.contracts.alloc.Global as global
use Rattle.std.specs.contracts.impls.GlobalAllocator.TheImpl as global_alloc
use Rattle.std.specs.contracts.vec.Vec as vec
use Rattle.std.specs.declared.alloc.Global.{Global}
use Rattle.std.specs.declared.vec.Vec.{Vec}
use Rattle.std.specs.formers.vec.Vec as vec_former
use Rattle.plain_lists.specs.contracts.listed.Listed as contracts
use Rattle.plain_lists.specs.contracts.listed.Listed.TheInside as inside
use Rattle.plain_lists.specs.declared.listed.Listed.TheInside.{Inside}
use Rattle.plain_lists.specs.declared.listed.Listed.TheView.{invariant, view}

abbrev pub the_former : Former {0} → Former {0}
the_former g = list g

abbrev pub the_weighed : {g : Former {0}} → Weighed g → Weighed (the_former g)
the_weighed w = w_list w

pub the_empty : List ⊥
the_empty = []

abbrev pub the_items : (X : Type 0) → List X → List X
the_items X xs = xs

pub the_items_listed : (X : Type 0) (xs : List X) → listed _ (children (the_former this) X xs) ≡ the_items X xs
the_items_listed X xs = list-listed X xs

-- the one field, as a `Vec`, and the struct made of one
abbrev to_vec : (X : Type 0) → Inside X → Vec X Global
to_vec X fields = fields.items

abbrev of_vec : (X : Type 0) → Vec X Global → Inside X
of_vec X v = record { items = v }

-- the struct's fields hold elements as the `Vec` does
abbrev fields_former : Former {0}
fields_former = via (vec_former.the_former this Global) Inside to_vec of_vec (λ X fields. refl) (λ X v. refl)

abbrev vec_row : RattleType → RattleType
vec_row R = vec.the_row R global.the_row global_alloc.ghosts

module _ (R R' : RattleType) (h : R.Denot → R'.Denot) where
  vec_laid : Alike R R' h → Laid (vec_row R) (vec_row R') (vec_former.mapped h)
  vec_laid alike = laid _ _ _ (vec_former.the_places global.the_row global_alloc.ghosts R R' h alike)

  fields_places : Alike R R' h → Alike (inside.the_row R) (inside.the_row R') (fields_former.map R.Denot R'.Denot h)
  fields_places alike = struct_places (inside.the_type R) (inside.the_type R') (vec_former.mapped h, tt) _ (λ fields. refl) refl (vec_laid alike, tt)

  pub the_places : Alike R R' h → Alike (contracts.the_row R) (contracts.the_row R') ((the_former this).map R.Denot R'.Denot h)
  the_places alike = view_places fields_former (list this) view (λ X Y k fields. refl) (λ X fields. refl)
      R.Denot R'.Denot h (contracts.the_row R).coded (contracts.the_row R').coded (invariant R.Denot) (invariant R'.Denot)
      (λ fields p q. refl) (λ fields p q. refl) (λ fields holds. tt) (λ fields holds. tt)
      (over (inside.the_row R)) (over (inside.the_row R')) (fields_places alike)

  pub the_codes_placed : Recodes R R' h → Recodes (contracts.the_row R) (contracts.the_row R') ((the_former this).map R.Denot R'.Denot h)
  the_codes_placed same xs = sym (code_map R.coded.code R'.coded.code h (λ x. sym (same x)) xs)
