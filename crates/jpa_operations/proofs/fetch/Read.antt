-- What reading a relation does to a work.
use Rattle.std.proofs.Common.{◌≡◌, ◌<◌, ◌∙◌, ℕ, Bool, true, false, List, length, refl, ap, sym, subst}
use Rattle.std.specs.Prelude.{All, ◌==◌, if◌then◌else◌}
use Rattle.std.proofs.lemmas.List.{length-set}
use Rattle.std.proofs.lemmas.List.Elements.{All-get_or, All-set}
use Rattle.jpa_value.specs.declared.value.Identity.{Identity}
use Rattle.jpa_model.specs.declared.unit.PersistenceUnit.{PersistenceUnit}
use Rattle.jpa_work.specs.declared.heap.Collection.{Collection}
use Rattle.jpa_work.specs.declared.heap.Held.{Held}
use Rattle.jpa_work.specs.declared.heap.LiveObject.{LiveObject}
use Rattle.jpa_work.specs.heap.Objects.{no_object, with_held}
use Rattle.jpa_work.specs.heap.Shape.{HasShape}
use Rattle.jpa_work.specs.declared.context.Entry.{Entry}
use Rattle.jpa_work.specs.context.Work.{Work, object}
use Rattle.jpa_operations.specs.fetch.Grown.{HasGrown, IsLinked, IsReady}
use Rattle.jpa_operations.specs.fetch.Members.{with_members, with_read, with_relation}
use Rattle.jpa_operations.proofs.fetch.Based.{changed_if}
use Rattle.jpa_operations.proofs.fetch.Grown.{HoldsWithin, grown_map, grown_on, grown_set, placed_map, placed_set, ready_on}

-- ---- an object holds something else in a relation

held_shape : (m : PersistenceUnit) (x : LiveObject) (r : ℕ) (held : Held) → HasShape m x → HasShape m (with_held x r held)
held_shape m x r held h = record { class = h.class; key = h.key; values = h.values; relations = length-set x.relations r held ∙ h.relations }

held_links : (os : List LiveObject) (x : LiveObject) (r : ℕ) (held : Held) → HoldsWithin (length os) held → IsLinked os x → IsLinked os (with_held x r held)
held_links os x r held own h = All-set (HoldsWithin (length os)) x.relations r held own h

relation_grown : (w : Work) (n r : ℕ) (held : Held) → n < length w.objects → HoldsWithin (length w.objects) held → HasGrown w (with_relation n r held w)
relation_grown w n r held l own =
    grown_set w n (with_held (object w n) r held) refl l (λ links. held_links w.objects (object w n) r held own (All-get_or (IsLinked w.objects) w.objects n no_object l links))

relation_ready : (m : PersistenceUnit) (w : Work) (n r : ℕ) (held : Held) → IsReady m w → n < length w.objects → HoldsWithin (length w.objects) held → IsReady m (with_relation n r held w)
relation_ready m w n r held h l own =
    let y = with_held (object w n) r held in
    ready_on m w (with_relation n r held w) h (placed_set m w n y h.placed l (held_shape m (object w n) r held (All-get_or (HasShape m) w.objects n no_object l (h.placed).objects)) refl) (relation_grown w n r held l own)

-- ---- its base knows what was read

module _ (n r : ℕ) (ids : List Identity) where
  abbrev pub read_into : Entry → Entry
  read_into e = record e { base = with_members r ids e.base }

  same_object : (e : Entry) → (changed_if n read_into e).object ≡ e.object
  same_object e = by (e.object == n)
    where
      by : (b : Bool) → (if b then read_into e else e).object ≡ e.object
      by true = refl
      by false = refl

  same_key : (e : Entry) → (changed_if n read_into e).key ≡ e.key
  same_key e = by (e.object == n)
    where
      by : (b : Bool) → (if b then read_into e else e).key ≡ e.key
      by true = refl
      by false = refl

  read_grown : (w : Work) → HasGrown w (with_read n r ids w)
  read_grown w = grown_map w (changed_if n read_into) same_object

  read_ready : (m : PersistenceUnit) (w : Work) → IsReady m w → IsReady m (with_read n r ids w)
  read_ready m w h = ready_on m w (with_read n r ids w) h (placed_map m w (changed_if n read_into) same_object same_key h.placed) (read_grown w)

-- ---- a collection was fetched

module _ (m : PersistenceUnit) (n r : ℕ) (ids : List Identity) (ks : List ℕ) (w u v : Work) (l : n < length w.objects) (own : All (λ k. k < length w.objects) ks)
    (held : u ≡ with_relation n r (Held.Many (Collection.Fetched ks)) w) (read : v ≡ with_read n r ids u) where
  fetched : v ≡ with_read n r ids (with_relation n r (Held.Many (Collection.Fetched ks)) w)
  fetched = read ∙ ap (with_read n r ids) held

  pub fetched_grown : HasGrown w v
  fetched_grown =
      let mid = with_relation n r (Held.Many (Collection.Fetched ks)) w in
      subst (HasGrown w) (sym fetched) (grown_on w mid (with_read n r ids mid) (relation_grown w n r (Held.Many (Collection.Fetched ks)) l own) (read_grown n r ids mid))

  pub fetched_ready : IsReady m w → IsReady m v
  fetched_ready h =
      let mid = with_relation n r (Held.Many (Collection.Fetched ks)) w in
      subst (IsReady m) (sym fetched) (read_ready n r ids m mid (relation_ready m w n r (Held.Many (Collection.Fetched ks)) h l own))
