-- What holds of the machine between calls holds over the first run.
use Rattle.std.proofs.Common.{ap, arith, subst, sym, ◌∙◌, ◌<◌}
use Rattle.std.specs.List.{filter, Contains}
use Rattle.std.specs.Str.{is_utf8}
use Rattle.std.proofs.lemmas.Str.{is_utf8-from_IsUtf8, IsUtf8-from_ascii}
use Rattle.std.specs.Prelude.{codes, slice_index, slice_get, is_some, List, Some, ◌↔◌, ◌&&◌, ◌||◌, ◌≡◌, refl, nat_lt, ℕ, zero, suc, pos, false, true, [], ◌∷◌}
use Rattle.std.proofs.lemmas.Bool.{false≢true, ltb-true, ne_eqb}
use Rattle.jpa_value.specs.declared.value.Value.{Value}
use Rattle.jpa_model.specs.Chains.{attributes_of, is_kind_of, relations_of, root_of, root_class}
use Rattle.jpa_behaviour.proofs.Regular.{regular_without}
use Rattle.jpa_behaviour.specs.Behaviour.{IsRegular}
use Rattle.jpa_stored.specs.objects.Sets.{is_key_of}
use Rattle.jpa_rows.specs.rows.Cells.{Cell, CanBeHeld, StandFor, is_own_cell}
use Rattle.jpa_model.specs.declared.unit.Attribute.{Attribute}
use Rattle.jpa_model.specs.declared.unit.Relation.{Relation}
use Rattle.jpql_bulk.specs.kept.Fits.{AreInherited}
use Rattle.jpa_operations.specs.fetch.Orderly.{IsOrderly}
use Rattle.jpa_machine.specs.machine.Step.{machine_after}
use Rattle.jpa_machine.specs.machine.Invariant.{IsMachine}
use Rattle.jpa_machine.proofs.samples.Sample.{P1}
use Rattle.jpa_machine.proofs.samples.FirstRun.{fresh, first_run, after_first, person_cells, first_cells, set_key}
use Rattle.jpa_machine.proofs.samples.States.{removing, reviving}
use Rattle.jpa_machine.proofs.machine.Settled.{opened_holds}
use Rattle.jpa_machine.proofs.machine.Outcome.{machine_after_keeps}

persons_orderly : IsOrderly P1.model
persons_orderly =
    record {
      rooted = rooted;
      generated = generated;
      kinds = λ class r x e kind l h. none_at class r x e;
      tables = λ class r x e other l h. none_at class r x e;
      places = λ class r x e other l h. none_at class r x e;
    }
  where
    relations : (class : ℕ) → relations_of P1.model class ≡ []
    relations zero = refl
    relations (suc class) = refl

    none_at : {A : Type 0} (class r : ℕ) (x : Relation) → slice_get (relations_of P1.model class) r ≡ Some x → A
    none_at class r x e = absurd (false≢true (ap is_some (subst (λ (rs : List Relation). slice_get rs r ≡ Some x) (relations class) e)))

    rooted : (class : ℕ) → nat_lt class 1 ≡ true → nat_lt (root_class P1.model class) 1 ≡ true
    rooted zero h = refl
    rooted (suc class) h = h

    generated : (class k : ℕ) → (root_of P1.model class).generated ≡ true → is_key_of (root_of P1.model class) (Value.Int (pos k) ∷ []) ≡ true
    generated zero k h = refl
    generated (suc class) k h = absurd (false≢true h)

persons_regular : IsRegular P1
persons_regular = regular_without P1.model

persons_inherited : AreInherited P1.model
persons_inherited = record { roots = roots; attributes = attributes; relations = relations }
  where
    itself : (class kind : ℕ) → nat_lt kind 1 ≡ true → is_kind_of P1.model kind class ≡ true → class ≡ kind
    itself zero zero l h = refl
    itself (suc class) zero l h = absurd (false≢true (sym (ap (λ b. b || false) (ne_eqb zero (suc class) (λ z. omega (arith, z)))) ∙ h))
    itself class (suc kind) l h = absurd (omega (arith, ltb-true (suc kind) 1 l))

    roots : (class kind : ℕ) → nat_lt kind 1 ≡ true → is_kind_of P1.model kind class ≡ true → root_of P1.model kind ≡ root_of P1.model class
    roots class kind l h = ap (root_of P1.model) (sym (itself class kind l h))

    attributes : (class kind i : ℕ) (a : Attribute) → nat_lt kind 1 ≡ true → is_kind_of P1.model kind class ≡ true →
        slice_get (attributes_of P1.model class) i ≡ Some a → slice_get (attributes_of P1.model kind) i ≡ Some a
    attributes class kind i a l h e = subst (λ k. slice_get (attributes_of P1.model k) i ≡ Some a) (itself class kind l h) e

    relations : (class kind r : ℕ) (x : Relation) → nat_lt kind 1 ≡ true → is_kind_of P1.model kind class ≡ true →
        slice_get (relations_of P1.model class) r ≡ Some x → slice_get (relations_of P1.model kind) r ≡ Some x
    relations class kind r x l h e = subst (λ k. slice_get (relations_of P1.model k) r ≡ Some x) (itself class kind l h) e

ada_text : is_utf8 (codes "Ada") ≡ true
ada_text = is_utf8-from_IsUtf8 (codes "Ada") (IsUtf8-from_ascii (codes "Ada") below)
  where
    below : (i : ℕ) → slice_index (codes "Ada") i < 128
    below zero = omega arith
    below (suc zero) = omega arith
    below (suc (suc zero)) = omega arith
    below (suc (suc (suc i))) = omega arith

-- an empty store, and what the first run commits
empty_held : CanBeHeld P1 [] (1 ∷ [])
empty_held = record { representable = refl; numbered = refl; rising = tt; shaped = refl; sound = refl; converted = refl; given = refl }

committed_held : CanBeHeld P1 after_first.committed after_first.stored_numbers
committed_held = record { representable = ap (λ b. ((b && true) && true) && true) ada_text; numbered = refl; rising = tt; shaped = refl; sound = refl; converted = refl; given = refl }

-- between any two calls
first_holds : IsMachine P1 after_first
first_holds = machine_after_keeps persons_orderly persons_regular persons_inherited fresh first_run (ap (λ b. b && true) ada_text) refl (opened_holds empty_held)

set_key_holds : IsMachine P1 (machine_after P1 after_first set_key)
set_key_holds = machine_after_keeps persons_orderly persons_regular persons_inherited after_first set_key refl refl first_holds

-- also where rows leave
removing_holds : IsMachine P1 (machine_after P1 after_first removing)
removing_holds = machine_after_keeps persons_orderly persons_regular persons_inherited after_first removing refl refl first_holds

reviving_holds : IsMachine P1 (machine_after P1 after_first reviving)
reviving_holds = machine_after_keeps persons_orderly persons_regular persons_inherited after_first reviving refl refl first_holds

-- its cells stand for what was committed, whatever stands in tables of others
abbrev foreign : Cell
foreign = record { table = 9; row = []; column = pos 0; bytes = [] }

own_cells : filter (is_own_cell P1.model) (foreign ∷ person_cells 0 (codes "Ada")) ≡ person_cells 0 (codes "Ada")
own_cells = refl

first_stands : StandFor P1 (foreign ∷ person_cells 0 (codes "Ada")) after_first.committed after_first.stored_numbers
first_stands =
    record {
      rows = λ c. subst (λ xs. Contains (filter (is_own_cell P1.model) (foreign ∷ person_cells 0 (codes "Ada"))) c ↔ Contains xs c) (own_cells ∙ sym first_cells) (λ h. h, λ h. h);
      held = committed_held;
    }
