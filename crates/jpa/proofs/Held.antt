-- What an opened provider says of its unit, and what is held of it after the run.
use Rattle.std.proofs.Common.{◌≡◌, ◌⊎◌, ◌&&◌, ◌∙◌, inl, inr, refl, sym, subst, Bool, true, false, ℕ, List, Option, Result, Ok, Err, OnOk}
use Rattle.sqlite_trees.specs.declared.store.Store.{Ghosts}
use Rattle.sqlite.specs.Held.{Held}
use Rattle.jpa_model.specs.declared.unit.PersistenceUnit.{PersistenceUnit}
use Rattle.jpa_behaviour.specs.Registered.{Registered, world_of}
use Rattle.jpa_stored.specs.objects.Sets.{StoredSet}
use Rattle.jpa_json.specs.functions.Functions.{meaning}
use Rattle.jpa_json.specs.functions.Known.{names_are_known}
use Rattle.jpa_json.specs.declared.functions.make.Listener.{Listener}
use Rattle.jpa_json.specs.declared.functions.make.Converter.{Converter}
use Rattle.jpa_program.specs.Opening.{HoldsCells}
use Rattle.jpa_value.specs.declared.refusal.Cause.{Cause}
use Rattle.jpa_value.specs.declared.refusal.MappingFault.{MappingFault}
use Rattle.jpa_description.specs.declared.history.history.History.{History}
use Rattle.jpa_behaviour.specs.Served.{world_of_unit}
use Rattle.jpa_opening.specs.migration.Migration.{defaults_pass}
use Rattle.jpql_trees.specs.declared.tree.Language.{Language}
use Rattle.jpa.specs.Served.{ProgramUnit, unit_from, HoldsUnit, is_servable, IsServable, GivesServable}

module _ {S : Type 0} (g : Ghosts S) where
  -- what holds of the provider's unit holds of the one that it was opened with
  pub holds_unit :
      (unit : ProgramUnit) (model : PersistenceUnit) (registry : Registered Listener Converter) (conn last : Held S) (set : StoredSet) (numbers : List ℕ)
      → model ≡ unit.metamodel → registry ≡ unit.registry → last ≡ conn → HoldsCells g (world_of meaning model registry) conn set numbers → HoldsUnit g unit last
  holds_unit unit model registry conn last set numbers is_model is_registry same stands =
      let holds : HoldsCells g (world_of meaning model registry) last set numbers = subst (λ k. HoldsCells g (world_of meaning model registry) k set numbers) (sym same) stands in
      let of_model : HoldsCells g (world_of meaning unit.metamodel registry) last set numbers = subst (λ m. HoldsCells g (world_of meaning m registry) last set numbers) is_model holds in
      (set, numbers, subst (λ r. HoldsCells g (world_of meaning unit.metamodel r) last set numbers) is_registry of_model)

module _ {A E : Type 0} (answer : Result A E) (function memory : E) where
  -- both tests, of which the second is made where the first passes
  either_fails : (known pass : Bool) → (known ≡ false → answer ≡ Err function) → (known ≡ true → pass ≡ false → (answer ≡ Err function) ⊎ (answer ≡ Err memory)) → known && pass ≡ false
      → (answer ≡ Err function) ⊎ (answer ≡ Err memory)
  either_fails true pass unknown thrown fails = thrown refl fails
  either_fails false pass unknown thrown fails = inl (unknown refl)

  accepted : (a : A) → answer ≡ Ok a → (answer ≡ Err function) ⊎ (answer ≡ Err memory) → ⊥
  accepted a is (inl e) = cc
  accepted a is (inr e) = cc

  both_pass : (a : A) (known pass : Bool) → answer ≡ Ok a → (known ≡ false → answer ≡ Err function) → (known ≡ true → pass ≡ false → (answer ≡ Err function) ⊎ (answer ≡ Err memory)) → known && pass ≡ true
  both_pass a true true is unknown thrown = refl
  both_pass a true false is unknown thrown = absurd (accepted a is (thrown refl refl))
  both_pass a false pass is unknown thrown = absurd (accepted a is (inl (unknown refl)))

  module _ (unit : ProgramUnit) (history : History) (unknown : names_are_known unit.registry unit.metamodel ≡ false → answer ≡ Err function)
      (thrown : names_are_known unit.registry unit.metamodel ≡ true → defaults_pass (world_of_unit meaning unit) history ≡ false → (answer ≡ Err function) ⊎ (answer ≡ Err memory)) where
    -- a unit that can't be served is refused so, or for want of memory
    pub unservable : is_servable unit history ≡ false → (answer ≡ Err function) ⊎ (answer ≡ Err memory)
    unservable = either_fails (names_are_known unit.registry unit.metamodel) (defaults_pass (world_of_unit meaning unit) history) unknown thrown

    -- an answer that no refusal of the unit allows comes of a unit that can be served
    pub servable : (a : A) → answer ≡ Ok a → IsServable unit history
    servable a is = both_pass a (names_are_known unit.registry unit.metamodel) (defaults_pass (world_of_unit meaning unit) history) is unknown thrown

-- what serves the unit that bytes give ends well only where they give one that can be served
pub gives_servable : {A E : Type 0} (language : Language) (mapping : Option (List ℕ)) (unit : ProgramUnit) (history : History) (answer : Result A E) → Ok (unit, history) ≡ unit_from language mapping → OnOk answer (IsServable unit history) → OnOk answer (GivesServable language mapping)
gives_servable language mapping unit history (Ok a) is serves = (unit, history, sym is, serves)
gives_servable language mapping unit history (Err e) is serves = serves

-- the unit that bytes give can be served where no refusal of it was told
pub asked_unit : {A : Type 0} (language : Language) (mapping : Option (List ℕ)) (unit : ProgramUnit) (history : History) (answer : Result A Cause) → Ok (unit, history) ≡ unit_from language mapping
    → (names_are_known unit.registry unit.metamodel ≡ false → answer ≡ Err (Cause.Mapping MappingFault.Function))
    → (names_are_known unit.registry unit.metamodel ≡ true → defaults_pass (world_of_unit meaning unit) history ≡ false → (answer ≡ Err (Cause.Mapping MappingFault.Function)) ⊎ (answer ≡ Err Cause.OutOfMemory))
    → (a : A) → answer ≡ Ok a → GivesServable language mapping
asked_unit language mapping unit history answer is unknown thrown a ok = (unit, history, sym is, servable answer (Cause.Mapping MappingFault.Function) Cause.OutOfMemory unit history unknown thrown a ok)
