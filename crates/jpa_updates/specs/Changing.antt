-- What code finds that a statement changes, and writes, beside what is meant.
use Rattle.std.specs.Prelude.{◌≡◌, ℕ, List, [], ◌∷◌, Option, Result, Ok, Err, map}
use Rattle.jpa_value.specs.declared.refusal.Cause.{Cause}
use Rattle.jpa_value.specs.declared.value.Identity.{Identity}
use Rattle.jpa_stored.specs.declared.objects.stored.Stored.{Stored}
use Rattle.jpa_stored.specs.objects.Sets.{StoredSet, without}
use Rattle.jpa_constraints.specs.declared.change.Change.{Change}
use Rattle.jpa_constraints.specs.Changed.{class_at}
use Rattle.jpql_meaning.specs.declared.eval.failure.Failure.{Failure}

-- the same, unless memory ran out
abbrev pub AnswersAs : {A B : Type 0} → (A → B) → Result A Cause → Result B Cause → Type 0
AnswersAs view (Ok a) wanted = wanted ≡ Ok (view a)
AnswersAs view (Err Cause.OutOfMemory) wanted = Unit {0}
AnswersAs view (Err Cause.StoreFault) wanted = ⊥
AnswersAs view (Err r) wanted = wanted ≡ Err r

-- ---- where a set is changed

-- an identity, with the class of what stands there
abbrev pub Place : Type 0
Place = Identity × Option ℕ

-- an identity, with the class of what stands under it
abbrev pub place_in : StoredSet → Identity → Place
place_in s id = (id, class_at s id)

-- where a change is, with the class of what stood there
abbrev pub place_of : Change → Place
place_of c = (c.id.now, c.class_before)

-- the changes are at these identities of a set
abbrev pub ArePlaces : StoredSet → List Identity → List Change → Type 0
ArePlaces s ids changes = map place_of changes ≡ map (place_in s) ids

-- the identity of an entry
abbrev pub name_of : Identity × Stored → Identity
name_of e = e.0

-- ---- what is taken out, one after another

-- a set without these identities, one after the other
abbrev pub take_each : List Identity → StoredSet → StoredSet
take_each [] s = s
take_each (id ∷ ids) s = take_each ids (without (id ∷ []) s)

-- ---- why nothing was computed

-- the cause that a failure is told by
abbrev pub failure_cause : Failure → Cause
failure_cause Failure.Memory = Cause.OutOfMemory
failure_cause Failure.Overflow = Cause.Overflow

-- a thing as it is
abbrev pub same : {A : Type 0} → A → A
same a = a
