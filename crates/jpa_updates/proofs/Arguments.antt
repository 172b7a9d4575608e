-- What stands for parameters is of their sorts.
use Rattle.std.proofs.Common.{◌≡◌, refl, subst, ℕ, ◌<◌, Bool, true, false, List, [], ◌∷◌, length}
use Rattle.std.specs.Prelude.{◌&&◌, ◌==◌, not, if◌then◌else◌, Option, Some, None}
use Rattle.std.proofs.lemmas.Bool.{and_from, and_parts, eq-eqb, false≢true}
use Rattle.std.proofs.lemmas.List.Elements.{All-head, All-tail}
use Rattle.jpa_value.specs.declared.value.Value.{Value}
use Rattle.jpa_value.specs.declared.value.Identity.{Identity}
use Rattle.jpa_value.specs.Value.{fits, is_null}
use Rattle.jpa_model.specs.declared.unit.PersistenceUnit.{PersistenceUnit}
use Rattle.jpa_model.specs.declared.unit.Part.{Part}
use Rattle.jpa_model.specs.Chains.{root_of}
use Rattle.jpa_stored.specs.objects.Sets.{each_fits, is_key_of}
use Rattle.jpa_work.specs.declared.heap.Handed.{Handed}
use Rattle.jpa_work.specs.heap.Objects.{is_whole}
use Rattle.jpa_work.specs.heap.Shape.{IsInHeap}
use Rattle.jpa_work.specs.context.Work.{Work, object}
use Rattle.jpql_meaning.specs.declared.eval.datum.Datum.{Datum}
use Rattle.jpql_bulk.specs.kept.Fits.{is_of, are_of}
use Rattle.jpa_asked.specs.declared.asked.Binding.{Binding}
use Rattle.jpa_asked.specs.Asking.{sort_of_value, sort_of, datum_of, datum_of_identity, sorts_of, onto, arguments_of}
use Rattle.jpa_asked.specs.Premises.{AreInHeap}
use Rattle.jpa_updates.specs.Held.{HaveKeys}

none_some : {A : Type 0} (x : A) → None ≡ Some x → ⊥
none_some x e = absurd cc

some_same : {A : Type 0} (x y : A) → Some x ≡ Some y → x ≡ y
some_same x y e = cc

-- a key whose parts fit, none of them null
whole_key : (ps : List Part) (vs : List Value) → each_fits (λ (part : Part) v. fits part.kind v) ps vs ≡ true → is_whole vs ≡ true
    → each_fits (λ (part : Part) v. fits part.kind v && not (is_null v)) ps vs ≡ true
whole_key [] [] h k = refl
whole_key [] (v ∷ vs) h k = absurd (false≢true h)
whole_key (p ∷ ps) [] h k = absurd (false≢true h)
whole_key (p ∷ ps) (v ∷ vs) h k =
    let a = and_parts (fits p.kind v) _ h in
    let b = and_parts (not (is_null v)) (is_whole vs) k in
    and_from (fits p.kind v && not (is_null v)) _ (and_from (fits p.kind v) (not (is_null v)) a.0 b.0) (whole_key ps vs a.1 b.1)

value_of : (m : PersistenceUnit) (v : Value) → is_of m (sort_of_value v) (Datum.Plain v) ≡ true
value_of m Value.Null = refl
value_of m (Value.Int n) = refl
value_of m (Value.Text t) = refl
value_of m (Value.Bytes t) = refl

module _ (m : PersistenceUnit) (w : Work) (keys : HaveKeys m w) where
  named_by : (n : ℕ) → n < length w.objects → (b : Bool) → is_whole (object w n).key ≡ b → (d : Datum)
      → datum_of_identity (if b then Some (record { table = (root_of m (object w n).class).table; key = (object w n).key }) else None) ≡ Some d → is_of m (sort_of m w (Handed.Object n)) d ≡ true
  named_by n l false whole d e = absurd (none_some d e)
  named_by n l true whole d e =
      let root = root_of m (object w n).class in
      let id : Identity = record { table = root.table; key = (object w n).key } in
      subst (λ y. is_of m (sort_of m w (Handed.Object n)) y ≡ true) (some_same (Datum.Entity id) d e)
      (and_from (root.table == root.table) (is_key_of root (object w n).key) (eq-eqb root.table root.table refl) (whole_key root.key (object w n).key (keys n l) whole))

  datum_is : (b : Handed) → IsInHeap w.objects b → (d : Datum) → datum_of m w b ≡ Some d → is_of m (sort_of m w b) d ≡ true
  datum_is (Handed.Plain v) l d e = subst (λ y. is_of m (sort_of_value v) y ≡ true) (some_same (Datum.Plain v) d e) (value_of m v)
  datum_is (Handed.Object n) l d e = named_by n l (is_whole (object w n).key) refl d e

  onto_is : (b : Binding) (bs : List Binding) (o : Option Datum) (rest : Option (List Datum)) (ds : List Datum) → onto o rest ≡ Some ds
      → ((d : Datum) → o ≡ Some d → is_of m (sort_of m w b.value) d ≡ true) → ((es : List Datum) → rest ≡ Some es → are_of m (sorts_of m bs w) es ≡ true)
      → are_of m (sorts_of m (b ∷ bs) w) ds ≡ true
  onto_is b bs None rest ds e first later = absurd (none_some ds e)
  onto_is b bs (Some d) None ds e first later = absurd (none_some ds e)
  onto_is b bs (Some d) (Some es) ds e first later =
      subst (λ ys. are_of m (sorts_of m (b ∷ bs) w) ys ≡ true) (some_same (d ∷ es) ds e)
      (and_from (is_of m (sort_of m w b.value) d) (are_of m (sorts_of m bs w) es) (first d refl) (later es refl))

  pub arguments_are : (bindings : List Binding) → AreInHeap w.objects bindings → (ds : List Datum) → arguments_of m bindings w ≡ Some ds → are_of m (sorts_of m bindings w) ds ≡ true
  arguments_are [] bound ds e = subst (λ ys. are_of m [] ys ≡ true) (some_same [] ds e) refl
  arguments_are (b ∷ bs) bound ds e =
      onto_is b bs (datum_of m w b.value) (arguments_of m bs w) ds e
      (λ d h. datum_is b.value (All-head (λ (x : Binding). IsInHeap w.objects x.value) b bs bound) d h)
      (λ es h. arguments_are bs (All-tail (λ (x : Binding). IsInHeap w.objects x.value) b bs bound) es h)
