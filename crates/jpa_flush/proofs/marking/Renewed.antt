-- Marks that are made anew where touched entries were looked at say of the work as it is what they said of the work as it was kept.
use Rattle.std.proofs.Common.{◌≡◌, ◌∙◌, ◌≢◌, ◌⊎◌, inl, inr, ℕ, ◌<◌, ◌≤◌, Bool, true, false, List, [], ◌∷◌, length, take, get_or, refl, ap, sym}
use Rattle.std.specs.List.{All, AllByRecursion}
use Rattle.std.proofs.lemmas.Bool.{cases_lt, false≢true}
use Rattle.std.proofs.lemmas.List.{get_or_default, get_or_past}
use Rattle.jpa_work.specs.undo.Undo.{put_back}
use Rattle.jpa_model.specs.declared.unit.PersistenceUnit.{PersistenceUnit}
use Rattle.jpa_work.specs.declared.heap.LiveObject.{LiveObject}
use Rattle.jpa_work.specs.heap.Objects.{no_object}
use Rattle.jpa_work.specs.declared.context.Entry.{Entry}
use Rattle.jpa_work.specs.declared.context.work.UnitOfWork.{UnitOfWork}
use Rattle.jpa_work.specs.context.Marks.{Marks, is_marked}
use Rattle.jpa_work.specs.context.Undo.{now}
use Rattle.jpa_work.specs.context.Work.{Work, is_managed, state_from, state_of}
use Rattle.jpa_flush.specs.flush.Marked.{AreMarked, GoesOn, IsAnew, LeadsStill, before, is_calm}
use Rattle.jpa_flush.proofs.flush.Noted.{marks_go_on, since_by}
use Rattle.jpa_flush.proofs.flush.Silent.{calm_parts}
use Rattle.jpa_flush.specs.marking.Anew.{IsGoneOver, IsMissed, IsTold, TakesMarksAway}

-- ---- what undo lists did not note stands

none_noted : {T : Type 0} (i : ℕ) (P : T → Type 0) (os : List (ℕ × T)) → AllByRecursion (λ (o : ℕ × T). o.0 ≢ i) os → AllByRecursion (λ (o : ℕ × T). o.0 ≡ i → P o.1) os
none_noted i P [] h = tt
none_noted i P (o ∷ os) h = ((λ e. absurd (h.0 e)), none_noted i P os h.1)

pub stands_at : {T : Type 0} (items old : List T) (os : List (ℕ × T)) (i : ℕ) (d : T) → old ≡ take (length old) (put_back items os) → AllByRecursion (λ (o : ℕ × T). o.0 ≢ i) os → i < length old → get_or old i d ≡ get_or items i d
stands_at {T} items old os i d back apart l = since_by (λ (x : T). x ≡ get_or items i d) items old os i d back l (none_noted i (λ (x : T). x ≡ get_or items i d) os apart) refl

-- ---- what is managed has a place

pub managed_within : (w : Work) (n : ℕ) → is_managed (state_of w n) ≡ true → n < length w.objects
managed_within w n managed = by (cases_lt n (length w.objects))
  where
    by : (n < length w.objects) ⊎ (length w.objects ≤ n) → n < length w.objects
    by (inl l) = l
    by (inr past) = absurd (false≢true (ap (λ (x : LiveObject). is_managed (state_from w.manager x.life)) (sym (get_or_past w.objects n no_object past)) ∙ managed))

-- ---- the marks

module _ (m : PersistenceUnit) (u : UnitOfWork) (old mid new : Marks) (same : (n : ℕ) → is_marked mid n ≡ is_marked old n) (before_all : AreMarked m (before u) old) (over : IsGoneOver m (now u) (IsMissed u) mid new) where
  -- an entry that was missed and has no mark stands as it did, and had none
  missed : (i : ℕ) (d : Entry) → i < length u.context.now → is_marked new (get_or u.context.now i d).object ≡ false → is_marked new (get_or u.context.now i d).object ≡ is_marked mid (get_or u.context.now i d).object → IsMissed u i →
      IsAnew m (before u) (now u) old new (get_or u.context.now i d)
  missed i d l unmarked kept h =
      let e = get_or u.context.now i d in
      let stood : get_or u.context.since i e ≡ e = h.0 e h.1.1 ∙ get_or_default u.context.now i e d l in
      let was : is_marked old e.object ≡ false = sym (same e.object) ∙ sym kept ∙ unmarked in
      let calm : is_calm m (before u) (get_or u.context.since i e) ≡ true = (before_all i e h.1.1 (ap (λ (x : Entry). is_marked old x.object) stood ∙ was)).calm in
      let managed = (calm_parts m (before u) e (ap (is_calm m (before u)) (sym stood) ∙ calm)).managed in
      inr (inr (i, h.1.1, stood, sym (h.1.0 d (managed_within (before u) e.object managed)), was))

  each : All (IsAnew m (before u) (now u) old new) u.context.now
  each i d l = by (is_marked new (get_or u.context.now i d).object) refl (over.each i d l)
    where
      by : (b : Bool) → is_marked new (get_or u.context.now i d).object ≡ b →
          IsTold m (now u) new (get_or u.context.now i d) ⊎ ((is_marked new (get_or u.context.now i d).object ≡ is_marked mid (get_or u.context.now i d).object) × IsMissed u i) →
          IsAnew m (before u) (now u) old new (get_or u.context.now i d)
      by true marked x = inr (inl marked)
      by false unmarked (inl told) = inl (told.looked unmarked)
      by false unmarked (inr x) = missed i d l unmarked x.0 x.1

  pub renewed : GoesOn (before u) (now u) → (new.linked ≡ true → old.linked ≡ true) → (new.linked ≡ true → LeadsStill (before u) (now u)) → AreMarked m (now u) new
  renewed on was leads = marks_go_on m (before u) (now u) old new on was leads before_all each

-- what was gone over has no mark more than a flush needs
pub taken_away : (m : PersistenceUnit) (u : UnitOfWork) (old new : Marks) → IsGoneOver m (now u) (IsMissed u) old new → TakesMarksAway m u new
taken_away m u old new over off i d l touched untouched = by (over.each i d l)
  where
    by : IsTold m (now u) new (get_or u.context.now i d) ⊎ ((is_marked new (get_or u.context.now i d).object ≡ is_marked old (get_or u.context.now i d).object) × IsMissed u i) →
        is_marked new (get_or u.context.now i d).object ≡ false
    by (inl told) = told.taken off untouched
    by (inr x) = absurd (touched x.1)

-- where each object is marked nothing is said
pub all_told : (m : PersistenceUnit) (u : UnitOfWork) (k : Marks) → k.all ≡ true → TakesMarksAway m u k
all_told m u k all off i d l touched untouched = absurd (false≢true (sym off ∙ all))
