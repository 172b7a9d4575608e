-- An object that enters a context without an instance of its identity is of another identity than each that is there.
use Rattle.std.proofs.Common.{◌≡◌, ◌∙◌, ℕ, Bool, true, false, cond, List, [], ◌∷◌, ap, sym, Option, Some, None}
use Rattle.std.specs.Prelude.{◌==◌, find, if◌then◌else◌, is_some}
use Rattle.std.specs.List.{AllByRecursion}
use Rattle.std.proofs.lemmas.Bool.{true≢false}
use Rattle.std.proofs.lemmas.List.Elements.{recursion_from_All}
use Rattle.jpa_value.specs.declared.value.Identity.{Identity}
use Rattle.jpa_value.specs.Value.{same_identity}
use Rattle.jpa_model.specs.declared.unit.PersistenceUnit.{PersistenceUnit}
use Rattle.jpa_work.specs.declared.heap.LiveObject.{LiveObject}
use Rattle.jpa_work.specs.heap.Objects.{identity_of, is_whole}
use Rattle.jpa_work.specs.declared.context.Entry.{Entry}
use Rattle.jpa_work.specs.declared.context.Lock.{Lock}
use Rattle.jpa_work.specs.context.Undo.{IsKeyed, IsPlaced}
use Rattle.jpa_work.specs.context.Work.{Work, object, entered, has_identity, identity_at, object_in}
use Rattle.jpa_operations.specs.ops.Names.{are_one, has_distinct_entries, name_of}
use Rattle.jpa_operations.specs.ops.States.{has_instance}
use Rattle.jpa_operations.proofs.ops.Names.{same_object}
use Rattle.jpa_operations.proofs.ops.Ready.{distinct_push}

-- an object with a whole key has its name
pub named : (m : PersistenceUnit) (x : LiveObject) → is_whole x.key ≡ true → identity_of m x ≡ Some (name_of m x)
named m x whole = ap (λ (b : Bool). if b then Some (name_of m x) else None) whole

module _ (m : PersistenceUnit) (w : Work) (id : Identity) where
  abbrev IsOther : Entry → Type 0
  IsOther e = same_identity (name_of m (object w e.object)) id ≡ false

  others : (es : List Entry) → AllByRecursion (IsKeyed w.objects) es → is_some (object_in (find (λ (e : Entry). has_identity (identity_at m w e.object) id) es)) ≡ false → AllByRecursion IsOther es
  others [] k h = tt
  others (e ∷ es) k h =
      let keyed = k.0 in
      let own : has_identity (identity_at m w e.object) id ≡ same_identity (name_of m (object w e.object)) id =
      ap (λ (o : Option Identity). has_identity o id) (named m (object w e.object) (ap is_whole keyed.same ∙ keyed.whole)) in
      by (has_identity (identity_at m w e.object) id) own h (others es k.1)
    where
      by : (b : Bool) → b ≡ same_identity (name_of m (object w e.object)) id →
          is_some (object_in (cond b (Some e) (find (λ (x : Entry). has_identity (identity_at m w x.object) id) es))) ≡ false →
          (is_some (object_in (find (λ (x : Entry). has_identity (identity_at m w x.object) id) es)) ≡ false → AllByRecursion IsOther es) →
          IsOther e × AllByRecursion IsOther es
      by true same found rest = absurd (true≢false found)
      by false same found rest = (sym same, rest found)

module _ (m : PersistenceUnit) (w : Work) (n : ℕ) (h : IsPlaced m w) (whole : is_whole (object w n).key ≡ true) (free : has_instance m w (identity_at m w n) ≡ false) where
  apart : AllByRecursion (IsOther m w (name_of m (object w n))) w.context
  apart =
      others m w (name_of m (object w n)) w.context (recursion_from_All (IsKeyed w.objects) w.context h.keyed)
      (sym (ap (has_instance m w) (named m (object w n) whole)) ∙ free)

  objects_apart : (es : List Entry) → AllByRecursion (IsOther m w (name_of m (object w n))) es → AllByRecursion (λ (e : Entry). (e.object == n) ≡ false) es
  objects_apart [] k = tt
  objects_apart (e ∷ es) k = (same_object m w e.object n k.0, objects_apart es k.1)

  -- it has no entry yet
  pub entered_apart : AllByRecursion (λ (e : Entry). (e.object == n) ≡ false) w.context
  entered_apart = objects_apart w.context apart

  -- and entries of different identities are so still
  pub entered_names : has_distinct_entries m w ≡ true → has_distinct_entries m (entered n w) ≡ true
  entered_names d = distinct_push (are_one m w) w.context (record { object = n; key = (object w n).key; lock = Lock.Unlocked; base = None }) d apart
