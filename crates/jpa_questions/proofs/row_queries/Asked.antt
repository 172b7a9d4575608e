-- What a statement gives over the set that decides it.
use Rattle.std.specs.Prelude.{◌≡◌, ℕ, ◌⊎◌, true, List, Option, Some, None, option_map, Result, Ok, Err, IfSome, IfOk, IfErr, MatchResult}
use Rattle.std.proofs.Common.{refl, sym, ap, subst, ◌∙◌, inl, inr}
use Rattle.jpa_value.specs.declared.value.Identity.{Identity}
use Rattle.jpa_value.specs.declared.refusal.Cause.{Cause}
use Rattle.jpa_value.specs.declared.refusal.Cause.TheVariants as cause
use Rattle.jpa_model.specs.declared.unit.PersistenceUnit.{PersistenceUnit}
use Rattle.jpa_behaviour.specs.Behaviour.{World}
use Rattle.jpa_stored.specs.declared.objects.stored.Stored.{Stored}
use Rattle.jpa_stored.specs.objects.Sets.{StoredSet, is_shaped, stored_at}
use Rattle.jpa_rows.proofs.laws.Facts.{and_both}
use Rattle.jpa_rows.specs.rows.Cells.{CanBeHeld}
use Rattle.jpa_rows.specs.rows.Faults.{IsStoreCause}
use Rattle.jpa_questions.specs.by_key.ByKey.{only, pairless}
use Rattle.jpa_questions.specs.by_key.Laws.{KeyLaws}
use Rattle.jpa_open.specs.Opened.{Opened, now, unwritten}
use Rattle.jpql_meaning.specs.eval.Answers.{Answer, gives}
use Rattle.jpql_meaning.specs.declared.eval.datum.Datum.{Datum}
use Rattle.jpql_meaning.specs.plan.Selection.{selected}
use Rattle.jpql_run.specs.Keys.{CanBeLookedUp}
use Rattle.jpql_trees.specs.declared.typed.typed.TypedSelect.{TypedSelect}
use Rattle.jpa_questions.specs.row_queries.Unread.{IsReadingCause}
use Rattle.jpa_questions.proofs.row_queries.Looks.{IsOwnCause}
use Rattle.jpa_questions.specs.row_queries.Answered.{Answers, IsAskingCause, Refuses}

-- a set that a store can hold is found by its keys
pub held_looked_up : {world : World} {set : StoredSet} {numbers : List ℕ} → CanBeHeld world set numbers → CanBeLookedUp world.model set
held_looked_up held = record { rising = held.rising; shaped = held.shaped }

-- and so is one object
pub alone_looked_up : (m : PersistenceUnit) (id : Identity) (object : Option Stored) → IfSome object (λ x. is_shaped m id x ≡ true) → CanBeLookedUp m (only id object)
alone_looked_up m id None h = record { rising = tt; shaped = refl }
alone_looked_up m id (Some x) h = record { rising = tt; shaped = and_both (is_shaped m id x) true h refl }

-- ---- the set as it is opened

pub opened_as : (r : Result Opened Cause) (s t : StoredSet) → s ≡ t → IfOk r (λ o. o ≡ unwritten s) → IfErr r (λ e. e ≡ cause.OutOfMemory) → MatchResult r (λ o. now o ≡ t) IsStoreCause
opened_as (Ok o) s t is ok err = ap now ok ∙ is
opened_as (Err e) s t is ok err = inl err

pub opened_of : (P : StoredSet → Type 0) (r : Result Opened Cause) (s : StoredSet) → P s → IfOk r (λ o. o ≡ unwritten s) → IfOk r (λ o. P (now o))
opened_of P (Ok o) s there ok = subst P (sym (ap now ok)) there
opened_of P (Err e) s there ok = tt

pub opened_looked : (m : PersistenceUnit) (r : Result Opened Cause) (s : StoredSet) → CanBeLookedUp m s → IfOk r (λ o. o ≡ unwritten s) → IfOk r (λ o. CanBeLookedUp m (now o))
opened_looked m = opened_of (CanBeLookedUp m)

module _ (m : PersistenceUnit) (ps : List Datum) (q : TypedSelect) (set : StoredSet) where
  -- over this set the statement gives what it gives over the one that is seen
  abbrev pub GivesSame : Opened → Type 0
  GivesSame o = selected m (now o) ps q ≡ selected m set ps q

  pub asked_whole : (r : Result Opened Cause) → MatchResult r (λ o. now o ≡ set) IsStoreCause → MatchResult r GivesSame IsStoreCause
  asked_whole (Ok o) h = ap (λ s. selected m s ps q) h
  asked_whole (Err e) h = h

  pub asked_alone : (id : Identity) → KeyLaws m ps q id → CanBeLookedUp m set → (r : Result Opened Cause) → MatchResult r (λ o. now o ≡ only id (option_map (pairless m) (stored_at set id))) IsStoreCause
      → MatchResult r GivesSame IsStoreCause
  asked_alone id laws there (Ok o) h = ap (λ s. selected m s ps q) h ∙ sym (laws.alone set there)
  asked_alone id laws there (Err e) h = h

-- ---- what is answered

refuses_store : {A : Type 0} (wanted : Answer A) (e : Cause) → IsStoreCause e → Refuses e wanted
refuses_store wanted e (inl memory) = subst (λ x. Refuses x wanted) (sym memory) tt
refuses_store wanted e (inr fault) = subst (λ x. Refuses x wanted) (sym fault) tt

pub err_answers : {A : Type 0} (wanted : Answer A) (r : Result A Cause) (e : Cause) → r ≡ Err e → IsStoreCause e → Answers r wanted
err_answers wanted r e is h = subst (λ s. Answers s wanted) (sym is) (refuses_store wanted e h)

pub answers_rows : {A : Type 0} (wanted : Answer A) (rows : A) (r : Result A Cause) → wanted ≡ gives rows → IfOk r (λ x. x ≡ rows) → IfErr r (λ e. e ≡ cause.OutOfMemory) → Answers r wanted
answers_rows wanted rows (Ok x) is ok err = is ∙ ap gives (sym ok)
answers_rows wanted rows (Err e) is ok err = refuses_store wanted e (inl err)

pub asking : (e : Cause) → (e ≡ cause.OutOfMemory) ⊎ (e ≡ cause.Overflow) → IsAskingCause e
asking e (inl memory) = inl (inl (inl memory))
asking e (inr overflow) = inr overflow

pub reading_asking : (e : Cause) → IsReadingCause e → IsAskingCause e
reading_asking e h = inl h

pub own_asking : (e : Cause) → (e ≡ cause.OutOfMemory) ⊎ (e ≡ cause.Overflow) → IsOwnCause e
own_asking e (inl memory) = inl memory
own_asking e (inr overflow) = inr (inr overflow)
