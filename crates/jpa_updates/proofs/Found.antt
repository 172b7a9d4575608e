-- What a statement finds, as a call tells it.
use Rattle.std.proofs.Common.{◌≡◌, ◌∙◌, refl, ap, sym, subst, ℕ, List}
use Rattle.std.specs.Prelude.{Option, Some, None, Result, Err}
use Rattle.jpa_value.specs.declared.refusal.Cause.{Cause}
use Rattle.jpa_value.specs.declared.value.Value.{Value}
use Rattle.jpa_model.specs.declared.unit.PersistenceUnit.{PersistenceUnit}
use Rattle.jpa_behaviour.specs.Registered.{Meaning, Registered, world_of}
use Rattle.jpql_meaning.specs.eval.Answers.{Answer, gives}
use Rattle.jpql_meaning.specs.plan.Bulk.{or_refuse}
use Rattle.jpql_bulk.specs.declared.bulk.refused.Refused.{Refused}
use Rattle.jpql_bulk.specs.bulk.Assigns.{Refuses}
use Rattle.jpql_bulk.specs.bulk.Causes.{cause_of}
use Rattle.jpql_bulk.specs.bulk.Throwing as registered
use Rattle.jpql_bulk.specs.kept.Fits as kept
use Rattle.jpa_updates.specs.Changing.{AnswersAs}

-- converters that are registered throw as those of their world
pub throws_same : {L C : Type 0} (f : Meaning L C) (m : PersistenceUnit) (r : Registered L C) → kept.throws_in (world_of f m r) ≡ registered.throws_in f r
throws_same f m r = λ i a v. same a.converter v i
  where
    same : (o : Option (List ℕ)) (v : Value) → kept.throws_by (world_of f m r) o v ≡ registered.throws_by f r o v
    same None v = refl
    same (Some name) v = refl

-- what was refused to be assigned
pub refused_as : {B V : Type 0} (view : V → B) (e : Refused) (wanted : Result B Cause) → Refuses e wanted → AnswersAs view (Err (cause_of e)) wanted
refused_as view Refused.Memory wanted h = tt
refused_as view Refused.Limit wanted h = h
refused_as view Refused.Converter wanted h = h
refused_as view Refused.Null wanted h = h

-- then it goes on with what was found
pub found_then : {A B : Type 0} (found : Answer A) (go : A → Result B Cause) (a : A) → found ≡ gives a → or_refuse found go ≡ go a
found_then found go a e = ap (λ x. or_refuse x go) e

-- what was found, and refused to be assigned
pub assign_refused : {A B V : Type 0} (view : V → B) (r : Cause) (e : Refused) (found : Answer A) (go : A → Result B Cause) (a : A) (wanted : Result B Cause)
    → r ≡ cause_of e → found ≡ gives a → go a ≡ wanted → Refuses e wanted → AnswersAs view (Err r) (or_refuse found go)
assign_refused view r e found go a wanted re fe ge h =
    subst (λ k. AnswersAs view (Err k) (or_refuse found go)) (sym re)
    (subst (AnswersAs view (Err (cause_of e))) (sym (found_then found go a fe ∙ ge)) (refused_as view e wanted h))
