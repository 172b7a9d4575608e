-- What was neither marked nor touched since the call began is untouched: at which places a walk need not look.
use Rattle.std.proofs.Common.{◌≡◌, ◌∙◌, ◌≢◌, ◌⊎◌, inl, inr, ℕ, zero, suc, ◌+◌, ◌<◌, ◌≤◌, Bool, true, false, List, [], ◌∷◌, length, get_or, cond, refl, ap, sym, subst, arith, Some}
use Rattle.std.specs.Prelude.{◌==◌, ◌||◌, not}
use Rattle.std.specs.List.{position_from}
use Rattle.std.proofs.lemmas.Bool.{false≢true, eq-eqb, ne_eqb, cases_lt}
use Rattle.std.proofs.lemmas.List.{get_or_past}
use Rattle.std.proofs.lemmas.List.Elements.{recursion_from_All}
use Rattle.jpa_value.specs.declared.value.Identity.{Identity}
use Rattle.jpa_model.specs.declared.unit.PersistenceUnit.{PersistenceUnit}
use Rattle.jpa_work.specs.declared.heap.LiveObject.{LiveObject}
use Rattle.jpa_work.specs.heap.Objects.{no_object}
use Rattle.jpa_work.specs.declared.context.Entry.{Entry}
use Rattle.jpa_work.specs.declared.context.work.UnitOfWork.{UnitOfWork}
use Rattle.jpa_work.specs.context.Marks.{is_listed, is_marked}
use Rattle.jpa_work.specs.context.Places.{entry_place}
use Rattle.jpa_work.specs.context.Undo.{now, since, undone, Since}
use Rattle.jpa_work.specs.context.Work.{Work, base_in, base_of, is_managed, object, state_from, state_of}
use Rattle.jpa_operations.specs.fetch.Grown.{AreDistinct}
use Rattle.jpa_flush.specs.flush.Flush.{links_stored}
use Rattle.jpa_flush.specs.flush.Marked.{AreLooked, AreMarked, AreMarkedBefore, AreRising, IsUntouched, before, has_no_orphan, is_linked, is_linked_if_managed}
use Rattle.jpa_flush.specs.flush.Touched.{HaveBelow, HaveFrom, HaveTouched, IsKnown, IsLinkedStill}
use Rattle.jpa_flush.proofs.flush.Entered.{find_at}
use Rattle.jpa_flush.proofs.flush.Noted.{since_by}
use Rattle.jpa_flush.proofs.flush.Silent.{calm_orphans, calm_parts, later_or, linked_stored}
use Rattle.jpa_flush.proofs.flush.TurnsOfUpdates.{other_object}
use Rattle.jpa_flush.proofs.flush.Untouched.{calm_on, linked_on}

-- ---- an object's first entry is the only one

place_from : (n : ℕ) (xs : List Entry) (j k : ℕ) (d : Entry) → k < length xs → (get_or xs k d).object ≡ n → ((i : ℕ) → i < k → (get_or xs i d).object ≢ n) → position_from (λ (e : Entry). e.object == n) j xs ≡ Some (j + k)
place_from n [] j k d l own others = absurd (omega (arith, l))
place_from n (x ∷ xs) j zero d l own others =
    ap (λ b. cond b (Some j) (position_from (λ (e : Entry). e.object == n) (j + 1) xs)) (eq-eqb x.object n own) ∙ ap Some (omega arith)
place_from n (x ∷ xs) j (suc k) d l own others =
    ap (λ b. cond b (Some j) (position_from (λ (e : Entry). e.object == n) (j + 1) xs)) (ne_eqb x.object n (others 0 (omega arith)))
    ∙ place_from n xs (j + 1) k d (omega (arith, l)) own (λ i h. others (suc i) (omega (arith, h)))
    ∙ ap Some (omega arith)

pub place_of : (es : List Entry) (k : ℕ) (d : Entry) → AreDistinct es → k < length es → entry_place (get_or es k d).object es ≡ Some k
place_of es k d distinct l =
    place_from (get_or es k d).object es 0 k d l refl (λ i h e. other_object es i k d d distinct (λ same. omega (arith, h, same)) (omega (arith, h, l)) l e)
    ∙ ap Some (omega arith)

-- ---- a managed object stands in the heap

within_heap : (w : Work) (n : ℕ) → is_managed (state_of w n) ≡ true → n < length w.objects
within_heap w n managed = by (cases_lt n (length w.objects))
  where
    by : (n < length w.objects) ⊎ (length w.objects ≤ n) → n < length w.objects
    by (inl l) = l
    by (inr past) = absurd (false≢true (ap (λ (x : LiveObject). is_managed (state_from w.manager x.life)) (sym (get_or_past w.objects n no_object past)) ∙ managed))

-- ---- at other places

module _ (m : PersistenceUnit) (u : UnitOfWork) (places : List ℕ) (distinct : AreDistinct u.context.now) (marked : AreMarkedBefore m u) (known : IsKnown u) (have : HaveTouched u places) where
  -- the entry at a place that is not one of these
  module _ (linked : Bool) (still : linked ≡ true → IsLinkedStill u) (i : ℕ) (d : Entry) (l : i < length u.context.now) (apart : is_listed places i ≡ false) where
    abbrev e : Entry
    e = get_or u.context.now i d

    never : {A : Type 0} → is_listed places i ≡ true → A
    never h = absurd (false≢true (sym apart ∙ h))

    kept : i < length u.context.since
    kept = by (cases_lt i (length u.context.since))
      where
        by : (i < length u.context.since) ⊎ (length u.context.since ≤ i) → i < length u.context.since
        by (inl less) = less
        by (inr more) = never (have.added i more l)

    -- stood there
    stood : get_or u.context.since i d ≡ e
    stood =
        let os = have.entries.0 in
        since_by (λ (x : Entry). x ≡ e) u.context.now u.context.since os i d have.entries.1 kept
        (recursion_from_All (λ (o : ℕ × Entry). o.0 ≡ i → o.1 ≡ e) os
        (λ k o h same. never (subst (λ j. is_listed places j ≡ true) same (have.entries.2 k o h)))) refl

    -- its object is as it was
    place : entry_place e.object u.context.now ≡ Some i
    place = place_of u.context.now i d distinct l

    same_object : is_managed (state_of (before u) e.object) ≡ true → object (now u) e.object ≡ object (before u) e.object
    same_object managed =
        let os = have.objects.0 in
        let n = e.object in
        sym (since_by (λ (x : LiveObject). x ≡ object (now u) n) u.objects.now u.objects.since os n no_object have.objects.1 (within_heap (before u) n managed)
        (recursion_from_All (λ (o : ℕ × LiveObject). o.0 ≡ n → o.1 ≡ object (now u) n) os
        (λ k o h same. never (have.objects.2 k o h i (ap (λ j. entry_place j u.context.now) same ∙ place)))) refl)

    -- it was not marked
    unmarked : is_marked u.context.marks e.object ≡ false
    unmarked = by (is_listed (u.context.marks).objects e.object) refl
      where
        by : (b : Bool) → is_listed (u.context.marks).objects e.object ≡ b → is_marked u.context.marks e.object ≡ false
        by true h = never (have.marked e.object h i place)
        by false h = λ j. known.some j || h j

    untouched : IsUntouched m (now u) linked e
    untouched =
        let w = before u in
        let u0 = subst (λ (x : Entry). is_marked u.context.marks x.object ≡ false → IsUntouched m w (u.context.marks).linked x) stood (marked i d kept) unmarked in
        let parts = calm_parts m w e u0.calm in
        let same = same_object parts.managed in
        record {
          calm = calm_on m known.names e same u0.calm;
          links = λ h. linked_on m known.names (still h).leads e.object same parts.named (u0.links (still h).linked);
        }

  -- the found places are those at which a walk looks
  pub untouched_elsewhere : (linked : Bool) (len : ℕ) (found : List ℕ) → (linked ≡ true → IsLinkedStill u) → len ≡ length u.context.now → AreRising len found → HaveBelow len places found →
      AreLooked (IsUntouched m (now u) linked) u.context.now found
  untouched_elsewhere linked len found still same rising all =
      record {
        rising = subst (λ n. AreRising n found) same rising;
        others = λ i d l apart. untouched linked still i d l (missing i (omega (arith, l, same)) apart (is_listed places i) refl);
      }
    where
      missing : (i : ℕ) → i < len → is_listed found i ≡ false → (b : Bool) → is_listed places i ≡ b → is_listed places i ≡ false
      missing i l apart true h = absurd (false≢true (sym apart ∙ all i l h))
      missing i l apart false h = h

-- where each place is looked at, none is elsewhere
pub none_elsewhere : (Silent : Entry → Type 0) (es : List Entry) (len : ℕ) (found : List ℕ) → len ≡ length es → AreRising len found → HaveFrom 0 len found → AreLooked Silent es found
none_elsewhere Silent es len found same rising all =
    record {
      rising = subst (λ n. AreRising n found) same rising;
      others = λ k d l apart. absurd (false≢true (sym apart ∙ all k (omega arith) (omega (arith, l, same))));
    }

-- ---- what is known of untouched entries

pub looked_as : (P Q : Entry → Type 0) (es : List Entry) (places : List ℕ) → ((k : ℕ) (d : Entry) → k < length es → P (get_or es k d) → Q (get_or es k d)) → AreLooked P es places → AreLooked Q es places
looked_as P Q es places f looked = record { rising = looked.rising; others = λ k d l apart. f k d l (looked.others k d l apart) }

module _ (m : PersistenceUnit) (w : Work) where
  module _ (linked : Bool) (es : List Entry) (places : List ℕ) (looked : AreLooked (IsUntouched m w linked) es places) where
    pub linked_looked : linked ≡ true → AreLooked (λ (e : Entry). is_linked_if_managed m w e.object ≡ true) es places
    linked_looked h =
        looked_as (IsUntouched m w linked) (λ (e : Entry). is_linked_if_managed m w e.object ≡ true) es places
        (λ k d l u. later_or (not (is_managed (state_of w (get_or es k d).object))) (is_linked m w (get_or es k d).object) (u.links h)) looked

    pub stored_looked : linked ≡ true → AreLooked (λ (e : Entry). links_stored m w e ≡ true) es places
    stored_looked h = looked_as (IsUntouched m w linked) (λ (e : Entry). links_stored m w e ≡ true) es places (λ k d l u. linked_stored m w (get_or es k d) (u.links h)) looked

  -- the base of an object is that of its entry
  own_base : (k : ℕ) (d : Entry) → AreDistinct w.context → k < length w.context → base_of w (get_or w.context k d).object ≡ (get_or w.context k d).base
  own_base k d distinct l =
      ap base_in (find_at (get_or w.context k d).object w.context k d l refl
      (λ i h e. other_object w.context i k d d distinct (λ same. omega (arith, h, same)) (omega (arith, h, l)) l e))

  pub unorphaned_looked : (linked : Bool) (places : List ℕ) → AreDistinct w.context → AreLooked (IsUntouched m w linked) w.context places → AreLooked (λ (e : Entry). has_no_orphan m w e.object ≡ true) w.context places
  unorphaned_looked linked places distinct =
      looked_as (IsUntouched m w linked) (λ (e : Entry). has_no_orphan m w e.object ≡ true) w.context places
      (λ k d l u. ap (λ (ids : List Identity). length ids == 0) (calm_orphans m w (get_or w.context k d) u.calm (own_base k d distinct l)))

-- ---- an operation leaves what marks say of the work before

pub marked_still : (m : PersistenceUnit) (u v : UnitOfWork) → since v ≡ since u → AreMarkedBefore m u → AreMarkedBefore m v
marked_still m u v same = subst (λ (s : Since). AreMarked m (undone s.manager s) s.marks) (sym same)
