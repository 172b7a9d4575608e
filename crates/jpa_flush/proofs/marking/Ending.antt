-- The marks at a commit's end say of the context as the commit leaves it what the next flush needs to know.
use Rattle.std.proofs.Common.{◌≡◌, ◌≢◌, ◌∙◌, ◌⊎◌, inl, inr, ℕ, ◌<◌, Bool, true, false, not, List, [], ◌∷◌, map, length, get_or, refl, ap, sym, subst, arith}
use Rattle.std.specs.Prelude.{◌==◌, ◌||◌, if◌then◌else◌}
use Rattle.std.specs.List.{All, AllByRecursion, filter, list_all, list_any}
use Rattle.std.proofs.lemmas.Bool.{and_from, and_parts, cases_eq, eq-eqb, eqb-true, false≢true}
use Rattle.std.proofs.lemmas.List.{get_or_default}
use Rattle.std.proofs.lemmas.List.Elements.{All-from_recursion, recursion_from_All}
use Rattle.jpa_model.specs.declared.unit.PersistenceUnit.{PersistenceUnit}
use Rattle.jpa_work.specs.declared.context.Entry.{Entry}
use Rattle.jpa_work.specs.context.Marks.{Marked, Marks, is_listed, is_marked}
use Rattle.jpa_work.specs.context.Work.{Work, is_managed, is_removed, state_of, unlocked}
use Rattle.jpa_operations.specs.fetch.Grown.{AreDistinct}
use Rattle.jpa_flush.specs.flush.Marked.{AreLooked, AreMarked, GoesOn, IsUntouched, LeadsStill, is_calm, is_linked, is_linked_if_managed, is_unlocked}
use Rattle.jpa_flush.proofs.flush.Silent.{calm_parts}
use Rattle.jpa_flush.proofs.flush.Untouched.{calm_on, linked_on}
use Rattle.jpa_flush.proofs.flush.TurnsOfUpdates.{other_object}
use Rattle.jpa_flush.specs.marking.Committed.{AreCalledFor, LeavesNoMark, IsOver, IsSeenAt, MarksMore, are_linked_unless_marked}
use Rattle.jpa_flush.specs.marking.Shared.{ended}

-- ---- marks that are added

either : (a b : Bool) → b ≡ true → (a || b) ≡ true
either true b h = refl
either false b h = h

pub marks_more : (n : ℕ) (a b : Marks) → Marked n a b → MarksMore a b
marks_more n a b h k marked = (λ i. h.all i || h.objects k i) ∙ by a.all (is_listed a.objects k) (n == k) marked
  where
    by : (all listed own : Bool) → (all || listed) ≡ true → (all || (own || listed)) ≡ true
    by true listed own e = refl
    by false listed own e = either own listed e

pub is_marked_then : (n : ℕ) (a b : Marks) → Marked n a b → is_marked b n ≡ true
is_marked_then n a b h = (λ i. h.all i || h.objects n i) ∙ either a.all ((n == n) || is_listed a.objects n) (ap (λ t. t || is_listed a.objects n) (eq-eqb n n refl))

-- what is known of an entry at its place
pub seen_at : (m : PersistenceUnit) (w : Work) (k : Marks) (p : ℕ) (e : Entry) → p < length w.context → e ≡ get_or w.context p e → IsOver m w e ⊎ (is_marked k e.object ≡ true) → IsSeenAt m w k p
seen_at m w k p e l is h d = subst (λ (x : Entry). IsOver m w x ⊎ (is_marked k x.object ≡ true)) (is ∙ get_or_default w.context p e d l) h

pub seen_more : (m : PersistenceUnit) (w : Work) (a b : Marks) → MarksMore a b → (p : ℕ) → IsSeenAt m w a p → IsSeenAt m w b p
seen_more m w a b more p h d = by (get_or w.context p d) (h d)
  where
    by : (e : Entry) → IsOver m w e ⊎ (is_marked a e.object ≡ true) → IsOver m w e ⊎ (is_marked b e.object ≡ true)
    by e (inl over) = inl over
    by e (inr marked) = inr (more e.object marked)

-- ---- no mark too much

pub called_more : (m : PersistenceUnit) (w : Work) (a b : Marks) (p : ℕ) (e : Entry) → p < length w.context → e ≡ get_or w.context p e → (IsOver m w e → ⊥) → Marked e.object a b → AreCalledFor m w a → AreCalledFor m w b
called_more m w a b p e l is left marked h n listed = by (e.object == n) refl (sym (marked.objects n) ∙ listed)
  where
    same : (d : Entry) → e ≡ get_or w.context p d
    same d = is ∙ get_or_default w.context p e d l

    by : (t : Bool) → (e.object == n) ≡ t → (t || is_listed a.objects n) ≡ true → (i : ℕ) × (i < length w.context) × ((d : Entry) → ((get_or w.context i d).object ≡ n) × (IsOver m w (get_or w.context i d) → ⊥))
    by true own x = (p, l, λ d. (ap (λ (y : Entry). y.object) (sym (same d)) ∙ eqb-true e.object n own, λ over. left (subst (IsOver m w) (sym (same d)) over)))
    by false own x = h n x

pub none_called : (m : PersistenceUnit) (w : Work) (k : Marks) → k.objects ≡ [] → AreCalledFor m w k
none_called m w k none n listed = absurd (false≢true (ap (λ xs. is_listed xs n) (sym none) ∙ listed))

pub none_left : (m : PersistenceUnit) (w : Work) (k : Marks) → AreDistinct w.context → AreCalledFor m w k → LeavesNoMark m w k
none_left m w k distinct h off i d l over = by (is_listed k.objects (get_or w.context i d).object) refl
  where
    n : ℕ
    n = (get_or w.context i d).object

    at : (p : ℕ) → p < length w.context → ((e : Entry) → ((get_or w.context p e).object ≡ n) × (IsOver m w (get_or w.context p e) → ⊥)) → (i ≡ p) ⊎ (i ≢ p) → is_marked k n ≡ false
    at p within g (inl same) = absurd ((g d).1 (subst (λ j. IsOver m w (get_or w.context j d)) same over))
    at p within g (inr apart) = absurd (other_object w.context i p d d distinct apart l within (sym (g d).0))

    by : (t : Bool) → is_listed k.objects n ≡ t → is_marked k n ≡ false
    by true listed = let c = h n listed in at c.0 c.1 c.2 (cases_eq i c.0)
    by false free = λ j. off j || free j

-- ---- what a commit leaves of the entries

all_left : (P : Entry → Type 0) (gone : Entry → Bool) (es : List Entry) → AllByRecursion (λ e. gone e ≡ false → P (unlocked e)) es → AllByRecursion P (map unlocked (filter (λ e. not (gone e)) es))
all_left P gone [] h = tt
all_left P gone (e ∷ es) h = by (gone e) h.0 (all_left P gone es h.1)
  where
    by : (b : Bool) → (b ≡ false → P (unlocked e)) → AllByRecursion P (map unlocked (filter (λ x. not (gone x)) es)) →
        AllByRecursion P (map unlocked (if not b then e ∷ filter (λ x. not (gone x)) es else filter (λ x. not (gone x)) es))
    by true own rest = rest
    by false own rest = (own refl, rest)

module _ (m : PersistenceUnit) (w : Work) where
  goes_on : GoesOn w (ended w)
  goes_on = record { manager = refl; count = omega arith; names = λ k l old. record { class = refl; key = refl; old = old } }

  leads_still : LeadsStill w (ended w)
  leads_still b k named leads = leads

  -- an entry's lock makes no difference to its object
  managed_unlocked : (e : Entry) → is_calm m w e ≡ true → is_calm m w (unlocked e) ≡ true
  managed_unlocked e h =
      let p = and_parts (is_managed (state_of w e.object)) _ h in
      let q = and_parts (is_unlocked e.lock) _ p.1 in
      and_from (is_managed (state_of w e.object)) _ p.0 q.1

  untouched_left : (linked : Bool) (e : Entry) → is_calm m w (unlocked e) ≡ true → (linked ≡ true → is_linked m w e.object ≡ true) → IsUntouched m (ended w) linked (unlocked e)
  untouched_left linked e calm leads =
      record {
        calm = calm_on m goes_on (unlocked e) refl calm;
        links = λ l. linked_on m goes_on leads_still e.object refl (calm_parts m w (unlocked e) calm).named (leads l);
      }

  -- ---- what was looked at, and what wasn't

  seen : (P : ℕ → Type 0) (places : List ℕ) (i : ℕ) → AllByRecursion P places → list_any (λ p. p == i) places ≡ true → P i
  seen P [] i h among = absurd (false≢true among)
  seen P (p ∷ places) i h among = by (p == i) refl among (λ e. seen P places i h.1 e)
    where
      by : (b : Bool) → (p == i) ≡ b → (b || list_any (λ q. q == i) places) ≡ true → (list_any (λ q. q == i) places ≡ true → P i) → P i
      by true is e rest = subst P (eqb-true p i is) h.0
      by false is e rest = rest e

  module _ (all : Bool) (places : List ℕ) (k : Marks) (looked : AreLooked (IsUntouched m w all) w.context places) (each : All (IsSeenAt m w k) places) where
    -- an entry without a mark that stays is calm once unlocked, and is linked or was not looked at
    left_at : (i : ℕ) (d : Entry) → i < length w.context → is_removed (state_of w (get_or w.context i d).object) ≡ false → is_marked k (get_or w.context i d).object ≡ false →
        (is_calm m w (unlocked (get_or w.context i d)) ≡ true) × ((all ≡ true → is_linked m w (get_or w.context i d).object ≡ true))
    left_at i d l stays unmarked = by (list_any (λ p. p == i) places) refl
      where
        of : IsOver m w (get_or w.context i d) ⊎ (is_marked k (get_or w.context i d).object ≡ true) → (is_calm m w (unlocked (get_or w.context i d)) ≡ true) × ((all ≡ true → is_linked m w (get_or w.context i d).object ≡ true))
        of (inl (inl removed)) = absurd (false≢true (sym stays ∙ removed))
        of (inl (inr calm)) = (calm.0, (λ e. calm.1))
        of (inr marked) = absurd (false≢true (sym unmarked ∙ marked))

        by : (b : Bool) → list_any (λ p. p == i) places ≡ b → (is_calm m w (unlocked (get_or w.context i d)) ≡ true) × ((all ≡ true → is_linked m w (get_or w.context i d).object ≡ true))
        by true among = of (seen (IsSeenAt m w k) places i (recursion_from_All (IsSeenAt m w k) places each) among d)
        by false apart = let u = looked.others i d l apart in (managed_unlocked (get_or w.context i d) u.calm, u.links)

    -- so it is linked, where all others are, or where each was tried
    linked_at : (i : ℕ) (d : Entry) → i < length w.context → is_removed (state_of w (get_or w.context i d).object) ≡ false → is_marked k (get_or w.context i d).object ≡ false → (all || are_linked_unless_marked m w k) ≡ true →
        is_linked m w (get_or w.context i d).object ≡ true
    linked_at i d l stays unmarked h = by all refl h
      where
        e : Entry
        e = get_or w.context i d

        tried : (b c : Bool) → b ≡ false → c ≡ true → (b || (not c || is_linked m w e.object)) ≡ true → is_linked m w e.object ≡ true
        tried true c f t g = absurd (false≢true (sym f))
        tried false true f t g = g
        tried false false f t g = absurd (false≢true t)

        by : (b : Bool) → all ≡ b → (b || are_linked_unless_marked m w k) ≡ true → is_linked m w e.object ≡ true
        by true is g = (left_at i d l stays unmarked).1 is
        by false is g =
            tried (is_marked k e.object) (is_managed (state_of w e.object)) unmarked (calm_parts m w (unlocked e) (left_at i d l stays unmarked).0).managed
            (All-from_recursion (λ (x : Entry). (is_marked k x.object || is_linked_if_managed m w x.object) ≡ true) w.context (by_recursion w.context g) i d l)
          where
            by_recursion : (es : List Entry) → list_all (λ (x : Entry). is_marked k x.object || is_linked_if_managed m w x.object) es ≡ true → AllByRecursion (λ (x : Entry). (is_marked k x.object || is_linked_if_managed m w x.object) ≡ true) es
            by_recursion [] q = tt
            by_recursion (x ∷ es) q =
                let p = and_parts (is_marked k x.object || is_linked_if_managed m w x.object) (list_all (λ (y : Entry). is_marked k y.object || is_linked_if_managed m w y.object) es) q in
                (p.0, by_recursion es p.1)

    pub left_marked : (linked : Bool) → linked ≡ (all || are_linked_unless_marked m w k) → AreMarked m (ended w) (record k { linked = linked })
    left_marked linked is =
        All-from_recursion (λ (x : Entry). is_marked k x.object ≡ false → IsUntouched m (ended w) linked x) (ended w).context
        (all_left (λ (x : Entry). is_marked k x.object ≡ false → IsUntouched m (ended w) linked x) (λ (x : Entry). is_removed (state_of w x.object)) w.context
        (recursion_from_All (λ (x : Entry). is_removed (state_of w x.object) ≡ false → is_marked k x.object ≡ false → IsUntouched m (ended w) linked (unlocked x)) w.context
        (λ i d l stays unmarked. untouched_left linked (get_or w.context i d) (left_at i d l stays unmarked).0 (λ t. linked_at i d l stays unmarked (sym is ∙ t)))))
