-- Entries of different identities name different objects, and stay so while their objects keep class and key.
use Rattle.std.proofs.Common.{◌≡◌, ◌∙◌, ℕ, Bool, true, false, List, [], ◌∷◌, refl, ap, sym, subst}
use Rattle.std.specs.Prelude.{All, ◌==◌, ◌||◌, ◌&&◌, not}
use Rattle.std.specs.List.{AllByRecursion, list_any}
use Rattle.std.proofs.lemmas.List.Elements.{recursion_from_All}
use Rattle.std.specs.Cmp.{tied_itself}
use Rattle.std.specs.Ordering.{is_eq}
use Rattle.std.proofs.lemmas.Bool.{and_parts, and_from, or_parts, or_from, not-true, not_from_false, false≢true, eqb-true}
use Rattle.jpa_value.specs.declared.value.Identity.{Identity}
use Rattle.jpa_value.specs.Value.{same_identity}
use Rattle.jpa_value.proofs.Orders.{identity_total}
use Rattle.jpa_model.specs.declared.unit.PersistenceUnit.{PersistenceUnit}
use Rattle.jpa_model.specs.Chains.{root_of}
use Rattle.jpa_stored.specs.objects.Sets.{all_distinct}
use Rattle.jpa_work.specs.declared.context.Entry.{Entry}
use Rattle.jpa_work.specs.context.Undo.{IsKeyed, IsPlaced}
use Rattle.jpa_work.specs.context.Work.{Work, object}
use Rattle.jpa_operations.specs.fetch.Grown.{HasGrown}
use Rattle.jpa_operations.specs.ops.Names.{name_of, are_one, has_distinct_entries}

pub itself : (id : Identity) → same_identity id id ≡ true
itself id = ap is_eq (tied_itself identity_total id)

pub same_object : (m : PersistenceUnit) (w : Work) (n k : ℕ) → same_identity (name_of m (object w n)) (name_of m (object w k)) ≡ false → (n == k) ≡ false
same_object m w n k h = by (n == k) refl
  where
    by : (b : Bool) → (n == k) ≡ b → (n == k) ≡ false
    by false e = e
    by true e = absurd (false≢true (sym h ∙ ap (λ i. same_identity (name_of m (object w n)) (name_of m (object w i))) (sym (eqb-true n k e)) ∙ itself (name_of m (object w n))))

others : (m : PersistenceUnit) (w : Work) (e : Entry) (es : List Entry) → list_any (are_one m w e) es ≡ false → list_any (λ b. e.object == b.object) es ≡ false
others m w e [] h = refl
others m w e (d ∷ es) h =
    let p = or_parts (are_one m w e d) (list_any (are_one m w e) es) h in
    or_from (e.object == d.object) (list_any (λ b. e.object == b.object) es) (same_object m w e.object d.object p.0) (others m w e es p.1)

distinct_in : (m : PersistenceUnit) (w : Work) (es : List Entry) → all_distinct (are_one m w) es ≡ true → all_distinct (λ (a b : Entry). a.object == b.object) es ≡ true
distinct_in m w [] h = refl
distinct_in m w (e ∷ es) h =
    let p = and_parts (not (list_any (are_one m w e) es)) (all_distinct (are_one m w) es) h in
    and_from (not (list_any (λ b. e.object == b.object) es)) (all_distinct (λ (a b : Entry). a.object == b.object) es)
    (not_from_false (list_any (λ b. e.object == b.object) es) (others m w e es (not-true (list_any (are_one m w e) es) p.0))) (distinct_in m w es p.1)

pub distinct_objects : (m : PersistenceUnit) (w : Work) → has_distinct_entries m w ≡ true → all_distinct (λ (a b : Entry). a.object == b.object) w.context ≡ true
distinct_objects m w h = distinct_in m w w.context h

-- ---- while objects keep class and key

module _ (m : PersistenceUnit) (w v : Work) where
  abbrev IsNamedAlike : Entry → Type 0
  IsNamedAlike e = name_of m (object v e.object) ≡ name_of m (object w e.object)

  any_alike : (e : Entry) (es : List Entry) → IsNamedAlike e → AllByRecursion IsNamedAlike es → list_any (are_one m v e) es ≡ list_any (are_one m w e) es
  any_alike e [] same h = refl
  any_alike e (d ∷ es) same h = λ i. same_identity (same i) (h.0 i) || any_alike e es same h.1 i

  distinct_alike : (es : List Entry) → AllByRecursion IsNamedAlike es → all_distinct (are_one m v) es ≡ all_distinct (are_one m w) es
  distinct_alike [] h = refl
  distinct_alike (e ∷ es) h = λ i. not (any_alike e es h.0 h.1 i) && distinct_alike es h.1 i

  alike : IsPlaced m w → IsPlaced m v → HasGrown w v → v.context ≡ w.context → All IsNamedAlike w.context
  alike h g grown same i d l =
      let k = h.keyed i d l in
      let j = subst (λ es. All (IsKeyed v.objects) es) same g.keyed i d l in
      let class = grown.classes _ (h.entries i d l) in
      let key = j.same ∙ sym k.same in
      λ t. record { table = (root_of m (class t)).table; key = key t }

  -- entries of different identities are so where the context is the same
  pub names_kept : IsPlaced m w → IsPlaced m v → HasGrown w v → v.context ≡ w.context → has_distinct_entries m v ≡ has_distinct_entries m w
  names_kept h g grown same =
      ap (λ (es : List Entry). all_distinct (are_one m v) es) same ∙ distinct_alike w.context (recursion_from_All IsNamedAlike w.context (alike h g grown same))
