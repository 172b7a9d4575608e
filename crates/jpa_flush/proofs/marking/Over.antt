-- Entries that are looked at, one place after the other.
use Rattle.std.proofs.Common.{◌≡◌, ◌∙◌, ◌≢◌, ◌⊎◌, inl, inr, ℕ, ◌<◌, ◌≤◌, Bool, true, false, not, length, get_or, refl, ap, sym, subst, arith}
use Rattle.std.specs.Prelude.{◌==◌, ◌&&◌, ◌||◌, Option, Some, None}
use Rattle.std.proofs.lemmas.Bool.{cases_eq, eq-eqb, false≢true, ne_eqb}
use Rattle.std.proofs.lemmas.List.{get_or_default}
use Rattle.jpa_model.specs.declared.unit.PersistenceUnit.{PersistenceUnit}
use Rattle.jpa_work.specs.declared.context.Entry.{Entry}
use Rattle.jpa_work.specs.context.Marks.{Marked, Marks, Unmarked, is_listed, is_marked}
use Rattle.jpa_work.specs.context.Places.{entry_place}
use Rattle.jpa_work.specs.context.Work.{Work}
use Rattle.jpa_operations.specs.fetch.Grown.{AreDistinct}
use Rattle.jpa_flush.specs.flush.Marked.{IsUntouched}
use Rattle.jpa_flush.proofs.flush.Choosing.{place_of}
use Rattle.jpa_flush.proofs.flush.TurnsOfUpdates.{other_object}
use Rattle.jpa_flush.specs.marking.Anew.{IsGoneOver, IsTold}

-- ---- none, fewer, and some after others

pub over_none : (m : PersistenceUnit) (w : Work) (k : Marks) (P : ℕ → Type 0) → ((i : ℕ) → i < length w.context → P i) → IsGoneOver m w P k k
over_none m w k P all = record { all = refl; linked = refl; each = λ i d l. inr (refl, all i l) }

pub over_weaker : (m : PersistenceUnit) (w : Work) (P Q : ℕ → Type 0) (a b : Marks) → ((i : ℕ) → i < length w.context → P i → Q i) → IsGoneOver m w P a b → IsGoneOver m w Q a b
over_weaker m w P Q a b f h = record { all = h.all; linked = h.linked; each = λ i d l. by (get_or w.context i d) i l (h.each i d l) }
  where
    by : (e : Entry) (i : ℕ) → i < length w.context → IsTold m w b e ⊎ ((is_marked b e.object ≡ is_marked a e.object) × P i) → IsTold m w b e ⊎ ((is_marked b e.object ≡ is_marked a e.object) × Q i)
    by e i l (inl told) = inl told
    by e i l (inr x) = inr (x.0, f i l x.1)

pub over_both : (m : PersistenceUnit) (w : Work) (P Q : ℕ → Type 0) (a b c : Marks) → IsGoneOver m w P a b → IsGoneOver m w Q b c → IsGoneOver m w (λ i. P i × Q i) a c
over_both m w P Q a b c h k =
    record { all = k.all ∙ h.all; linked = k.linked ∙ h.linked; each = λ i d l. by (get_or w.context i d) (P i) (Q i) (h.each i d l) (k.each i d l) }
  where
    by : (e : Entry) (R S : Type 0) → IsTold m w b e ⊎ ((is_marked b e.object ≡ is_marked a e.object) × R) → IsTold m w c e ⊎ ((is_marked c e.object ≡ is_marked b e.object) × S) → IsTold m w c e ⊎ ((is_marked c e.object ≡ is_marked a e.object) × (R × S))
    by e R S x (inl told) = inl told
    by e R S (inl told) (inr y) = inl (record {
      looked = λ unmarked. subst (λ l. IsUntouched m w l e) (sym k.linked) (told.looked (sym y.0 ∙ unmarked));
      taken = λ off untouched. y.0 ∙ told.taken (sym k.all ∙ off) (subst (λ l. IsUntouched m w l e) k.linked untouched);
    })
    by e R S (inr x) (inr y) = inr (y.0 ∙ x.0, (x.1, y.1))

-- ---- the entry at a place

module _ (m : PersistenceUnit) (w : Work) (place : ℕ) (e : Entry) (a b : Marks) (distinct : AreDistinct w.context) (within : place < length w.context) (is : e ≡ get_or w.context place e) where
  over_at : b.all ≡ a.all → b.linked ≡ a.linked → IsTold m w b e → ((n : ℕ) → n ≢ e.object → is_marked b n ≡ is_marked a n) → IsGoneOver m w (λ i. i ≢ place) a b
  over_at all linked told others = record { all = all; linked = linked; each = λ i d l. by i d l (cases_eq i place) }
    where
      by : (i : ℕ) (d : Entry) → i < length w.context → (i ≡ place) ⊎ (i ≢ place) → IsTold m w b (get_or w.context i d) ⊎ ((is_marked b (get_or w.context i d).object ≡ is_marked a (get_or w.context i d).object) × (i ≢ place))
      by i d l (inl same) = inl (subst (λ j. IsTold m w b (get_or w.context j d)) (sym same) (subst (IsTold m w b) (get_or_default w.context place e d within) (subst (IsTold m w b) is told)))
      by i d l (inr apart) =
          inr (others (get_or w.context i d).object (λ q. other_object w.context i place d e distinct apart l within (q ∙ ap (λ (x : Entry). x.object) is)), apart)

  apart : (n : ℕ) → n ≢ e.object → (e.object == n) ≡ false
  apart n other = ne_eqb e.object n (λ q. other (sym q))

  -- it was found untouched
  pub over_untouched : IsUntouched m w a.linked e → Unmarked e.object a b → IsGoneOver m w (λ i. i ≢ place) a b
  over_untouched untouched u =
      over_at u.all u.linked
      (record {
        looked = λ unmarked. subst (λ l. IsUntouched m w l e) (sym u.linked) untouched;
        taken = λ off again. (λ i. off i || u.objects e.object i) ∙ ap (λ t. not t && is_listed a.objects e.object) (eq-eqb e.object e.object refl);
      })
      (λ n other. (λ i. u.all i || u.objects n i) ∙ ap (λ t. a.all || (not t && is_listed a.objects n)) (apart n other))

  -- it is marked
  pub over_marked : (IsUntouched m w a.linked e → ⊥) → Marked e.object a b → IsGoneOver m w (λ i. i ≢ place) a b
  over_marked touched k =
      over_at k.all k.linked
      (record {
        looked = λ unmarked. absurd (false≢true (sym unmarked ∙ (λ i. k.all i || k.objects e.object i) ∙ ap (λ t. a.all || (t || is_listed a.objects e.object)) (eq-eqb e.object e.object refl) ∙ both a.all));
        taken = λ off untouched. absurd (touched (subst (λ l. IsUntouched m w l e) k.linked untouched));
      })
      (λ n other. (λ i. k.all i || k.objects n i) ∙ ap (λ t. a.all || (t || is_listed a.objects n)) (apart n other))
    where
      both : (t : Bool) → (t || true) ≡ true
      both true = refl
      both false = refl

-- there is none
pub over_past : (m : PersistenceUnit) (w : Work) (place : ℕ) (k : Marks) → length w.context ≤ place → IsGoneOver m w (λ i. i ≢ place) k k
over_past m w place k past = over_none m w k (λ i. i ≢ place) (λ i l same. omega (arith, l, same, past))

-- ---- the entry of an object

abbrev pub IsOfAnother : Work → ℕ → ℕ → Type 0
IsOfAnother w n i = (d : Entry) → (get_or w.context i d).object ≢ n

module _ (m : PersistenceUnit) (w : Work) (n : ℕ) (distinct : AreDistinct w.context) where
  at_its_place : (o : Option ℕ) (i : ℕ) (d : Entry) → i < length w.context → entry_place n w.context ≡ o → (get_or w.context i d).object ≡ n → Some i ≡ o
  at_its_place o i d l is own = sym (place_of w.context i d distinct l) ∙ ap (λ k. entry_place k w.context) own ∙ is

  pub over_placed : (place : ℕ) (a b : Marks) → entry_place n w.context ≡ Some place → IsGoneOver m w (λ i. i ≢ place) a b → IsGoneOver m w (IsOfAnother w n) a b
  over_placed place a b is = over_weaker m w (λ i. i ≢ place) (IsOfAnother w n) a b (λ i l apart d own. let same = at_its_place (Some place) i d l is own in apart (cc same))

  pub over_unplaced : (k : Marks) → entry_place n w.context ≡ None → IsGoneOver m w (IsOfAnother w n) k k
  over_unplaced k is = over_none m w k (IsOfAnother w n) (λ i l d own. let same = at_its_place None i d l is own in cc same)
