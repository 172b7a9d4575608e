-- A row of a shaped set is of a class of the unit, and a place past the objects leads nowhere.
use Rattle.std.proofs.Common.{◌≡◌, ◌<◌, ◌≤◌, ℕ, Bool, true, false, List, [], ◌∷◌, ◌++◌, length, refl, ap, sym, subst, ◌∙◌}
use Rattle.std.specs.Prelude.{nat_lt, Option, Some, if◌then◌else◌, is_some}
use Rattle.std.specs.List.{flat_map, enumerate_from}
use Rattle.std.specs.Option.{unwrap_or}
use Rattle.std.specs.Ordering.{is_eq}
use Rattle.std.specs.Cmp.{Equal-is}
use Rattle.std.specs.FinMap.Entries.{find as entry_found}
use Rattle.std.proofs.lemmas.Bool.{true≢false, ltb-true, and_parts}
use Rattle.jpa_value.specs.declared.value.Identity.{Identity}
use Rattle.jpa_value.specs.Value.{identity_cmp}
use Rattle.jpa_value.proofs.Orders.{identity_exact}
use Rattle.jpa_model.specs.declared.unit.PersistenceUnit.{PersistenceUnit}
use Rattle.jpa_model.specs.declared.unit.Relation.{Relation}
use Rattle.jpa_model.specs.Chains.{relations_of}
use Rattle.jpa_stored.specs.declared.objects.stored.Stored.{Stored}
use Rattle.jpa_stored.specs.objects.Sets.{StoredSet, stored_at, all_shaped, is_shaped}
use Rattle.jpa_work.specs.context.Work.{Work, object, state_of}
use Rattle.jpa_cascade.specs.declared.Node.{Node}
use Rattle.jpa_cascade.specs.declared.Operation.{Operation}
use Rattle.jpa_cascade.specs.Waves.{goes_along, goes_from, reaches_unread, nodes_held, live_targets_along, targets}
use Rattle.jpa_cascade.proofs.Ended.{either_way}
use Rattle.jpa_cascade.proofs.Cascades.{held_there}

found_shaped : (m : PersistenceUnit) (id : Identity) (x : Stored) (e : Identity × Stored) (o : Option Stored) (b : Bool) → is_eq (identity_cmp id e.0) ≡ b → (o ≡ Some x → is_shaped m id x ≡ true) →
    is_shaped m e.0 e.1 ≡ true → (if b then Some e.1 else o) ≡ Some x → is_shaped m id x ≡ true
found_shaped m id x e o true t k h g =
    let same : id ≡ e.0 = identity_exact id e.0 ((Equal-is (identity_cmp id e.0)).0 t) in
    subst (λ i. is_shaped m i x ≡ true) (sym same) (subst (λ y. is_shaped m e.0 y ≡ true) (ap (λ o'. unwrap_or o' x) g) h)
found_shaped m id x e o false t k h g = k g

row_shaped : (m : PersistenceUnit) (s : StoredSet) (id : Identity) (x : Stored) → all_shaped m s ≡ true → stored_at s id ≡ Some x → is_shaped m id x ≡ true
row_shaped m [] id x h e = absurd (true≢false (sym (ap is_some e)))
row_shaped m (y ∷ ys) id x h e =
    let a = and_parts (is_shaped m y.0 y.1) (all_shaped m ys) h in
    found_shaped m id x y (entry_found identity_cmp id ys) (is_eq (identity_cmp id y.0)) refl (row_shaped m ys id x a.1) a.0 e

pub row_class : (m : PersistenceUnit) (s : StoredSet) (id : Identity) (x : Stored) → all_shaped m s ≡ true → stored_at s id ≡ Some x → x.class < length m.entities
row_class m s id x h e = ltb-true x.class (length m.entities) (and_parts (nat_lt x.class (length m.entities)) _ (row_shaped m s id x h e)).0

-- ---- past the objects

all_none : (f : ℕ × Relation → List Node) → ((p : ℕ × Relation) → f p ≡ []) → (ps : List (ℕ × Relation)) → flat_map f ps ≡ []
all_none f none [] = refl
all_none f none (p ∷ ps) = ap (λ ns. ns ++ flat_map f ps) (none p) ∙ all_none f none ps

pub nothing_past : (m : PersistenceUnit) (op : Operation) (w : Work) (n : ℕ) → length w.objects ≤ n → targets m op w (Node.Live n) ≡ []
nothing_past m op w n past =
    either_way (goes_from op (state_of w n)) _
    (all_none (live_targets_along m op w n) (λ p. either_way (goes_along op p.1) _ (ap (nodes_held m w (reaches_unread op) n p.0) (held_there w n p.0 past))) (enumerate_from 0 (relations_of m (object w n).class)))
