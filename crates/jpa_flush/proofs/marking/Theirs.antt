-- A call of one manager leaves the marks of another one, where it noted none of its objects.
use Rattle.std.proofs.Common.{◌≡◌, ◌∙◌, ◌≢◌, ◌⊎◌, inl, inr, ℕ, ◌<◌, ◌≤◌, Bool, true, false, List, [], ◌∷◌, length, get_or, refl, ap, sym, subst}
use Rattle.std.specs.Prelude.{◌==◌, not, if◌then◌else◌}
use Rattle.std.specs.List.{All, AllByRecursion}
use Rattle.std.proofs.lemmas.Bool.{and_parts, false≢true, eqb-true, ltb-true, cases_lt}
use Rattle.std.proofs.lemmas.List.{get_or_default, get_or_past}
use Rattle.jpa_model.specs.declared.unit.PersistenceUnit.{PersistenceUnit}
use Rattle.jpa_work.specs.declared.heap.Life.{Life}
use Rattle.jpa_work.specs.declared.heap.LiveObject.{LiveObject}
use Rattle.jpa_work.specs.heap.Objects.{is_new, no_object}
use Rattle.jpa_work.specs.declared.context.Entry.{Entry}
use Rattle.jpa_work.specs.declared.context.EntityState.{EntityState}
use Rattle.jpa_work.specs.context.Marks.{Marks, is_marked}
use Rattle.jpa_work.specs.context.Work.{Work, is_managed, object, state_from}
use Rattle.jpa_flush.specs.flush.Marked.{AreMarked, AreNoted, GoesOn, IsAnew, LeadsStill, is_free_for, keeps_others, may_lead}
use Rattle.jpa_flush.proofs.flush.Noted.{marks_go_on, since_by}
use Rattle.jpa_flush.proofs.flush.Silent.{calm_parts}
use Rattle.jpa_flush.specs.marking.Shared.{OthersGoOn, seen_by}

module _ (k : ℕ) (w v : Work) (os : List (ℕ × LiveObject)) (back : AreNoted w v os) (other : k ≢ w.manager) (on : GoesOn w v)
    (free : AllByRecursion (λ (o : ℕ × LiveObject). keeps_others w.manager o.1 (object v o.0) ≡ true) os) where
  each_at : (P Q : ℕ × LiveObject → Type 0) → ((o : ℕ × LiveObject) → P o → Q o) → (ns : List (ℕ × LiveObject)) → AllByRecursion P ns → AllByRecursion Q ns
  each_at P Q f [] h = tt
  each_at P Q f (n ∷ ns) h = (f n h.0, each_at P Q f ns h.1)

  -- an object that is free for one manager is not managed by another
  not_theirs : (life : Life) → is_free_for w.manager life ≡ true → is_managed (state_from k life) ≡ false
  not_theirs Life.New h = refl
  not_theirs (Life.Managed j) h = by (j == k) refl
    where
      by : (b : Bool) → (j == k) ≡ b → is_managed (if b then EntityState.Managed else EntityState.Detached) ≡ false
      by true e = absurd (other (sym (eqb-true j k e) ∙ eqb-true j w.manager h))
      by false e = refl
  not_theirs (Life.Removed j) h = by (j == k)
    where
      by : (b : Bool) → is_managed (if b then EntityState.Removed else EntityState.Detached) ≡ false
      by true = refl
      by false = refl
  not_theirs Life.Detached h = refl

  -- what the other manager manages is as it was
  theirs : (n : ℕ) → n < length w.objects → is_managed (state_from k (object w n).life) ≡ true → object w n ≡ object v n
  theirs n l =
      since_by (λ (x : LiveObject). is_managed (state_from k x.life) ≡ true → x ≡ object v n) v.objects w.objects os n no_object back l
      (each_at (λ o. keeps_others w.manager o.1 (object v o.0) ≡ true) (λ o. o.0 ≡ n → is_managed (state_from k (o.1).life) ≡ true → o.1 ≡ object v n)
      (λ o kept e managed. absurd (false≢true (sym (not_theirs (o.1).life (and_parts (is_free_for w.manager (o.1).life) _ kept).0) ∙ managed))) os free)
      (λ managed. refl)

  -- an object that is free for one manager and not new is detached for another
  free_state : (life : Life) → is_free_for w.manager life ≡ true → is_new life ≡ false → state_from k life ≡ EntityState.Detached
  free_state Life.New h old = absurd (false≢true (sym old))
  free_state (Life.Managed j) h old = by (j == k) refl
    where
      by : (b : Bool) → (j == k) ≡ b → (if b then EntityState.Managed else EntityState.Detached) ≡ EntityState.Detached
      by true e = absurd (other (sym (eqb-true j k e) ∙ eqb-true j w.manager h))
      by false e = refl
  free_state (Life.Removed j) h old = by (j == k) refl
    where
      by : (b : Bool) → (j == k) ≡ b → (if b then EntityState.Removed else EntityState.Detached) ≡ EntityState.Detached
      by true e = absurd (other (sym (eqb-true j k e) ∙ eqb-true j w.manager h))
      by false e = refl
  free_state Life.Detached h old = refl

  leads_still : (es : List Entry) → LeadsStill (seen_by k es w) (seen_by k es v)
  leads_still es b j named leads =
      let p = and_parts _ _ named in
      let l = ltb-true j (length w.objects) p.0 in
      let old = not_new (is_new (object w j).life) p.1 in
      let still = (on.names j l old).old in
      since_by (λ (x : LiveObject). is_new x.life ≡ false → may_lead b (state_from k x.life) ≡ true → may_lead b (state_from k (object v j).life) ≡ true) v.objects w.objects os j no_object back l
      (each_at (λ o. keeps_others w.manager o.1 (object v o.0) ≡ true)
      (λ o. o.0 ≡ j → is_new (o.1).life ≡ false → may_lead b (state_from k (o.1).life) ≡ true → may_lead b (state_from k (object v j).life) ≡ true)
      (λ o kept e was may.
      let q = and_parts (is_free_for w.manager (o.1).life) (is_free_for w.manager (object v o.0).life) kept in
      ap (may_lead b) (free_state (object v j).life (subst (λ i. is_free_for w.manager (object v i).life ≡ true) e q.1) still)
      ∙ sym (ap (may_lead b) (free_state (o.1).life q.0 was)) ∙ may) os free)
      (λ was may. may) old leads
    where
      not_new : (b : Bool) → not b ≡ true → b ≡ false
      not_new true h = absurd (false≢true h)
      not_new false h = refl

  theirs_on : (es : List Entry) → GoesOn (seen_by k es w) (seen_by k es v)
  theirs_on es = record { manager = refl; count = on.count; names = on.names }

  within : (n : ℕ) → is_managed (state_from k (object w n).life) ≡ true → n < length w.objects
  within n managed = by (cases_lt n (length w.objects))
    where
      by : (n < length w.objects) ⊎ (length w.objects ≤ n) → n < length w.objects
      by (inl l) = l
      by (inr past) = absurd (false≢true (ap (λ (x : LiveObject). is_managed (state_from k x.life)) (sym (get_or_past w.objects n no_object past)) ∙ managed))

  pub others_by : (m : PersistenceUnit) (es : List Entry) (marks : Marks) → AreMarked m (seen_by k es w) marks → AreMarked m (seen_by k es v) marks
  others_by m es marks h = marks_go_on m (seen_by k es w) (seen_by k es v) marks marks (theirs_on es) (λ linked. linked) (λ linked. leads_still es) h anew
    where
      by : (i : ℕ) (d : Entry) → i < length es → (b : Bool) → is_marked marks (get_or es i d).object ≡ b → IsAnew m (seen_by k es w) (seen_by k es v) marks marks (get_or es i d)
      by i d l true marked = inr (inl marked)
      by i d l false unmarked =
          let e = get_or es i d in
          let managed = (calm_parts m (seen_by k es w) e (h i d l unmarked).calm).managed in
          inr (inr (i, l, get_or_same es i d l, sym (theirs e.object (within e.object managed) managed), unmarked))
        where
          get_or_same : (xs : List Entry) (i : ℕ) (d : Entry) → i < length xs → get_or xs i (get_or xs i d) ≡ get_or xs i d
          get_or_same xs i d l = get_or_default xs i (get_or xs i d) d l

      anew : All (IsAnew m (seen_by k es w) (seen_by k es v) marks marks) es
      anew i d l = by i d l (is_marked marks (get_or es i d).object) refl

pub others_go_on : OthersGoOn
others_go_on m k es marks w v os back other on free h = others_by k w v os back other on free m es marks h
