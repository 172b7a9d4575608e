-- A world without stored functions, and the world of a registry, keep what a world of registered functions keeps.
use Rattle.std.proofs.Common.{◌≡◌, ◌∙◌, ap, sym, refl, Bool, true, false, Option, Some, None}
use Rattle.std.specs.Prelude.{◌↔◌, is_some, if◌then◌else◌}
use Rattle.std.proofs.lemmas.Bool.{false≢true}
use Rattle.std.proofs.lemmas.Option.{none-some, same_Some}
use Rattle.jpa_value.specs.declared.value.Value.{Value}
use Rattle.jpa_model.specs.declared.unit.PersistenceUnit.{PersistenceUnit}
use Rattle.jpa_behaviour.specs.declared.Image.{Image}
use Rattle.jpa_behaviour.specs.Behaviour.{AnswersConvertible, IsRegular, is_convertible, sees_representable, answers_representable, without_functions}
use Rattle.jpa_behaviour.specs.Registered.{Registered, Meaning, ConvertersAreInverse, ListenersAnswerRepresentable, counted, known_as, heard_by, column_by, attribute_by, world_of}

no_answer : (v : Value) → None ≡ Some v → ⊥
no_answer v e = false≢true (ap is_some e)

pub no_converter_answers : (m : PersistenceUnit) → AnswersConvertible (without_functions m)
no_converter_answers m = (λ name v c e. absurd (no_answer c e), λ name c v e. absurd (no_answer v e))

pub regular_without : (m : PersistenceUnit) → IsRegular (without_functions m)
regular_without m =
    record {
      convertible = no_converter_answers m;
      inverse = λ name v c h k. (λ e. absurd (no_answer c e), λ e. absurd (no_answer v e));
      heard = λ name image h. refl;
    }

-- ---- an answer that counts was given, and is convertible

record Counts (o : Option Value) (v : Value) : Type 0 where
  given : o ≡ Some v
  convertible : is_convertible v ≡ true

counts_if : (b : Bool) (u v : Value) → is_convertible u ≡ b → (if b then Some u else None) ≡ Some v → Counts (Some u) v
counts_if true u v h e = let same = same_Some u v e in record { given = e; convertible = sym (ap is_convertible same) ∙ h }
counts_if false u v h e = absurd (none-some v e)

counts : (o : Option Value) (v : Value) → counted o ≡ Some v → Counts o v
counts None v e = absurd (none-some v e)
counts (Some u) v e = counts_if (is_convertible u) u v refl e

counted_if : (b : Bool) (v : Value) → b ≡ true → (if b then Some v else None) ≡ Some v
counted_if true v h = refl
counted_if false v h = absurd (false≢true h)

-- an answer that is convertible counts
as_given : (o : Option Value) (v : Value) → o ≡ Some v → is_convertible v ≡ true → counted o ≡ Some v
as_given o v e h = ap counted e ∙ counted_if (is_convertible v) v h

module _ {L C : Type 0} (f : Meaning L C) where
  column_convertible : (c : Option C) (v d : Value) → column_by f c v ≡ Some d → is_convertible d ≡ true
  column_convertible None v d e = absurd (none-some d e)
  column_convertible (Some c) v d e = (counts (f.column c v) d e).convertible

  attribute_convertible : (c : Option C) (d v : Value) → attribute_by f c d ≡ Some v → is_convertible v ≡ true
  attribute_convertible None d v e = absurd (none-some v e)
  attribute_convertible (Some c) d v e = (counts (f.attribute c d) v e).convertible

  both_inverse : ConvertersAreInverse f → (c : Option C) (v d : Value) → is_convertible v ≡ true → is_convertible d ≡ true
      → (column_by f c v ≡ Some d) ↔ (attribute_by f c d ≡ Some v)
  both_inverse inverse None v d h g = (λ e. absurd (none-some d e), λ e. absurd (none-some v e))
  both_inverse inverse (Some c) v d h g = (
    λ e. as_given (f.attribute c d) v ((inverse c v d h g).0 (counts (f.column c v) d e).given) h,
    λ e. as_given (f.column c v) d ((inverse c v d h g).1 (counts (f.attribute c d) v e).given) g,
  )

  heard_representable : ListenersAnswerRepresentable f → (l : Option L) (image : Image) → sees_representable image ≡ true → answers_representable (heard_by f l image) ≡ true
  heard_representable representable None image h = refl
  heard_representable representable (Some l) image h = representable l image h

  -- with any entities, what is registered makes a regular world
  pub regular_of : ConvertersAreInverse f → ListenersAnswerRepresentable f → (m : PersistenceUnit) (r : Registered L C) → IsRegular (world_of f m r)
  regular_of inverse representable m r =
      record {
        convertible = (
          λ name v c e. column_convertible (known_as name r.converters) v c e,
          λ name c v e. attribute_convertible (known_as name r.converters) c v e,
        );
        inverse = λ name v c h g. both_inverse inverse (known_as name r.converters) v c h g;
        heard = λ name image h. heard_representable representable (known_as name r.listeners) image h;
      }
