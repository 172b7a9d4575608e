-- Samples of the definitions.
use Rattle.std.specs.Prelude.{◌≡◌, ℕ, pos, negsuc, Bool, true, false, codes, List, [], ◌∷◌, Some, Ok, Err}
use Rattle.std.proofs.Common.{refl}
use Rattle.jpa_value.specs.declared.value.Value.{Value}
use Rattle.jpa_value.specs.declared.event.LifecycleEvent.{LifecycleEvent}
use Rattle.jpa_value.specs.declared.refusal.Argument.{Argument}
use Rattle.jpa_value.specs.declared.refusal.PersistenceFault.{PersistenceFault}
use Rattle.jpa_value.specs.declared.refusal.Cause.{Cause}
use Rattle.jpql_trees.specs.declared.tree.Language.{Language}
use Rattle.jpa_behaviour.specs.declared.Image.{Image}
use Rattle.jpa_behaviour.specs.declared.Heard.{Heard}
use Rattle.jpa_behaviour.specs.Registered.{Registered, Meaning, added, known_as, heard_in, column_in, attribute_in, if_known, or_thrown}
use Rattle.jpa_behaviour.specs.Samples.{sets, flip}

-- ---- two listeners and two converters, of which two have one name

-- listeners are texts, which they set as the name; one converter turns integers round, one leaves values as they are
abbrev meaning : Meaning (List ℕ) Bool
meaning = record {
  heard = λ text image. sets (codes "name") text;
  column = λ turns v. elim turns [ true ↦ flip v | false ↦ Some v ];
  attribute = λ turns v. elim turns [ true ↦ flip v | false ↦ Some v ];
}

abbrev registered : Registered (List ℕ) Bool
registered = record {
  listeners = (record { name = codes "one"; what = codes "A" }) ∷ (record { name = codes "two"; what = codes "B" }) ∷ [];
  converters = (record { name = codes "one"; what = true }) ∷ (record { name = codes "same"; what = false }) ∷ [];
  language = Language.Profile;
}

abbrev seen : Image
seen = record { entity = codes "Person"; event = LifecycleEvent.PrePersist; values = [] }

first_is_added : added {T = Bool} (codes "one") true [] ≡ Ok ((record { name = codes "one"; what = true }) ∷ [])
first_is_added = refl

second_is_refused : added (codes "one") false registered.converters ≡ Err (Cause.IllegalArgument Argument.Second)
second_is_refused = refl

other_sort_is_added : added (codes "same") (codes "C") [] ≡ Ok ((record { name = codes "same"; what = codes "C" }) ∷ [])
other_sort_is_added = refl

each_its_own : (heard_in meaning registered (codes "one") seen ≡ sets (codes "name") (codes "A")) × (heard_in meaning registered (codes "two") seen ≡ sets (codes "name") (codes "B"))
each_its_own = (refl, refl)

nobody : heard_in meaning registered (codes "three") seen ≡ Heard.Assign []
nobody = refl

unknown_name : if_known {A = Heard} (known_as (codes "three") registered.listeners) (Ok (Heard.Assign [])) ≡ Err (Cause.IllegalArgument Argument.Name)
unknown_name = refl

one_is_turned : column_in meaning registered (codes "one") (Value.Int (pos 1)) ≡ Some (Value.Int (negsuc 1))
one_is_turned = refl

and_back : attribute_in meaning registered (codes "one") (Value.Int (negsuc 1)) ≡ Some (Value.Int (pos 1))
and_back = refl

null_is_thrown : or_thrown (column_in meaning registered (codes "same") Value.Null) ≡ Err (Cause.Persistence PersistenceFault.Converter)
null_is_thrown = refl

no_text_is_turned : or_thrown (column_in meaning registered (codes "one") (Value.Text (codes "A"))) ≡ Err (Cause.Persistence PersistenceFault.Converter)
no_text_is_turned = refl
