-- UPDATE and DELETE (chapter 4.11): what they make of a set, by the old set.
use Rattle.std.specs.Prelude.{ℕ, Bool, true, false, not, ◌||◌, nat_lt, List, [], ◌∷◌, map, length, slice_get, slice_set}
use Rattle.std.specs.Prelude.{Option, Some, None, option_map, if◌then◌else◌, Result, Ok, Err}
use Rattle.std.specs.List.{list_any, filter}
use Rattle.jpa_value.specs.declared.value.Value.{Value}
use Rattle.jpa_value.specs.declared.refusal.Cause.{Cause}
use Rattle.jpa_value.specs.declared.refusal.PersistenceFault.{PersistenceFault}
use Rattle.jpa_value.specs.Limits.{most_bytes}
use Rattle.jpa_value.specs.Value.{bytes_in}
use Rattle.jpa_model.specs.declared.unit.PersistenceUnit.{PersistenceUnit}
use Rattle.jpa_model.specs.declared.unit.Attribute.{Attribute}
use Rattle.jpa_model.specs.declared.unit.Member.{Member}
use Rattle.jpa_model.specs.Chains.{attributes_of}
use Rattle.jpa_stored.specs.declared.objects.stored.Stored.{Stored}
use Rattle.jpa_stored.specs.objects.Sets.{StoredSet, put_all, without}
use Rattle.jpql_trees.specs.declared.typed.typed.TypedValue.{TypedValue}
use Rattle.jpql_trees.specs.declared.typed.typed.TypedCondition.{TypedCondition}
use Rattle.jpql_trees.specs.declared.typed.typed.TypedAssignment.{TypedAssignment}
use Rattle.jpql_meaning.specs.declared.eval.datum.Datum.{Datum}
use Rattle.jpql_meaning.specs.eval.Answers.{Answer, gives, overflows, ◌>>=◌, under, every, if_any}
use Rattle.jpql_meaning.specs.eval.Data.{null}
use Rattle.jpql_meaning.specs.plan.Paths.{Entry, Tuple, objects}
use Rattle.jpql_meaning.specs.plan.Meaning.{alone, kept, drops_any, truth_of_any, value, value_drops, condition}

-- the set then, and how many objects the statement concerned
abbrev pub Changed : Type 0
Changed = StoredSet × ℕ

infixl 10 ◌and_then◌
-- goes on with a result; a refusal stays
abbrev pub ◌and_then◌ : {A B : Type 0} → Result A Cause → (A → Result B Cause) → Result B Cause
(Ok a) and_then go = go a
(Err r) and_then go = Err r

-- ---- one assignment, and those of an object, as written

-- whether a value has more bytes than one may have
abbrev pub is_too_long : Value → Bool
is_too_long v = nat_lt most_bytes (length (bytes_in v))

-- nothing where the test is true, else this cause
abbrev pub require : Bool → Cause → Result (Unit {0}) Cause
require true r = Ok tt
require false r = Err r

-- whether an attribute's converter throws for a value; null is not passed to it
abbrev pub Throws : Type 0
Throws = Attribute → Value → Bool

-- whether an attribute's converter throws for a value that is not null (chapter 3.8)
abbrev pub throws_at : Throws → Option Attribute → Value → Bool
throws_at throws None v = false
throws_at throws (Some a) Value.Null = false
throws_at throws (Some a) v = throws a v

-- an object with this value of an attribute, unless it is too long or its converter throws
abbrev pub with_attribute : PersistenceUnit → Throws → Stored → ℕ → Datum → Result Stored Cause
with_attribute m throws x i (Datum.Plain v) =
    require (not (is_too_long v)) Cause.Limit and_then λ _.
    require (not (throws_at throws (slice_get (attributes_of m x.class) i) v))
    (Cause.Persistence PersistenceFault.Converter) and_then λ _.
    Ok (record x { values = slice_set x.values i v })
with_attribute m throws x i (Datum.Entity id) = Ok x

-- an object with this version, which is to be an integer
abbrev pub with_version : Stored → Datum → Result Stored Cause
with_version x (Datum.Plain (Value.Int n)) = Ok (record x { version = Some n })
with_version x _ = Err (Cause.Persistence PersistenceFault.Null)

-- an object with a link to this entity, or to none for null
abbrev pub with_link : Stored → ℕ → Datum → Stored
with_link x r (Datum.Entity id) = record x { owned = slice_set x.owned r (id ∷ []) }
with_link x r (Datum.Plain v) = record x { owned = slice_set x.owned r [] }

-- an object after an assignment; a key part stays as it is (chapter 4.11)
abbrev pub assigned : PersistenceUnit → Throws → Stored → Member → Datum → Result Stored Cause
assigned m throws x (Member.KeyPart i) d = Ok x
assigned m throws x Member.Version d = with_version x d
assigned m throws x (Member.Attribute i) d = with_attribute m throws x i d
assigned m throws x (Member.Relation r) d = Ok (with_link x r d)

-- an object after assignments, in turn
abbrev pub all_assigned : PersistenceUnit → Throws → Stored → List (Member × Datum) → Result Stored Cause
all_assigned m throws x [] = Ok x
all_assigned m throws x (a ∷ all) = assigned m throws x a.0 a.1 and_then λ y. all_assigned m throws y all

-- by object in rising order
abbrev pub each_assigned : PersistenceUnit → Throws → List (Entry × List (Member × Datum)) → Result (List Entry) Cause
each_assigned m throws [] = Ok []
each_assigned m throws (p ∷ ps) =
    all_assigned m throws (p.0).1 p.1 and_then λ x. each_assigned m throws ps and_then λ more. Ok
    ((((p.0).0), x) ∷ more)

-- ---- statements

-- Overflow comes before the other refusals
abbrev pub or_refuse : {A B : Type 0} → Answer A → (A → Result B Cause) → Result B Cause
or_refuse (gives a) go = go a
or_refuse overflows go = Err Cause.Overflow

module _ (m : PersistenceUnit) (s : StoredSet) (parameters : List Datum) where
  -- whether an assigned value has a null step in a path
  abbrev pub assignment_drops : Tuple → TypedAssignment → Bool
  assignment_drops t a = of a.value
    where
      of : Option TypedValue → Bool
      of None = false
      of (Some v) = value_drops m s parameters v t

  -- the tuple of an object, which has no variable where a DELETE leaves it out
  abbrev pub tuple_of : Bool → Entry → Tuple
  tuple_of is_named e = if is_named then Some e ∷ [] else []

  -- the objects of the class whose tuple has no null step and for which WHERE is true, rising
  abbrev pub concerned : ℕ → Bool → (Tuple → Bool) → Option TypedCondition → Answer (List Entry)
  concerned class is_named drops where_ =
      let test = option_map (condition m s parameters) where_ in
      kept (λ e. truth_of_any test (alone (tuple_of is_named e)))
      (filter (λ e. not (drops (tuple_of is_named e) || drops_any test (tuple_of is_named e))) (objects m s class))

  -- what each assignment gives for an object
  abbrev pub assignment_datum : Entry → TypedAssignment → Answer (Member × Datum)
  assignment_datum e a =
      under (λ d. (a.member, d)) (if_any null (λ v. value m s parameters v (alone (Some e ∷ []))) a.value)

  -- an object with what each assignment gives for it
  abbrev pub assignments_for : List TypedAssignment → Entry → Answer (Entry × List (Member × Datum))
  assignments_for all e = under (λ given. (e, given)) (every (map (assignment_datum e) all))

  -- an UPDATE: what values were before is assigned to the objects concerned (chapter 4.11)
  abbrev pub updated : Throws → ℕ → List TypedAssignment → Option TypedCondition → Result Changed Cause
  updated throws class all where_ =
      or_refuse (concerned class true (λ t. list_any (assignment_drops t) all) where_
      >>= λ found. every (map (assignments_for all) found)) (λ given.
      each_assigned m throws given and_then λ entries. Ok (put_all entries s, length entries))

  -- a DELETE: the objects concerned are taken out (chapter 4.11)
  abbrev pub deleted : ℕ → Bool → Option TypedCondition → Result Changed Cause
  deleted class is_named where_ =
      or_refuse (concerned class is_named (λ t. false) where_)
      (λ found. Ok (without (map (λ (e : Entry). e.0) found) s, length found))
