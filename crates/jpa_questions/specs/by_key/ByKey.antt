-- The one object that a statement asks by its key: it is one block of one variable, with `WHERE
-- variable.key = x`, the key of one
-- part, and x a literal or a parameter (chapters 4.4.2 and 4.6.7).
use Rattle.std.specs.Prelude.{ℕ, Bool, true, false, not, ◌&&◌, ◌||◌, ◌==◌, nat_lt, List, [], ◌∷◌, length}
use Rattle.std.specs.Prelude.{slice_index_or, Option, Some, None, option_and_then, if◌then◌else◌}
use Rattle.jpa_value.specs.declared.value.Identity.{Identity}
use Rattle.jpa_value.specs.declared.value.Value.{Value}
use Rattle.jpa_model.specs.declared.unit.Member.{Member}
use Rattle.jpa_model.specs.declared.unit.PersistenceUnit.{PersistenceUnit}
use Rattle.jpa_model.specs.declared.unit.Relation.{Relation}
use Rattle.jpa_model.specs.declared.unit.Side.{Side}
use Rattle.jpa_model.specs.Chains.{is_kind_of, relations_of, root_of}
use Rattle.jpa_stored.specs.declared.objects.stored.Stored.{Stored}
use Rattle.jpa_stored.specs.objects.Sets.{StoredSet}
use Rattle.jpql_trees.specs.declared.tree.Comparison.{Comparison}
use Rattle.jpql_trees.specs.declared.typed.path.Step.{Step}
use Rattle.jpql_trees.specs.declared.typed.path.TypedPath.{TypedPath}
use Rattle.jpql_trees.specs.declared.typed.typed.TypedValue.{TypedValue, TypedValue-F, fold-TypedValue}
use Rattle.jpql_trees.specs.declared.typed.typed.TypedValue.TheOpen as part
use Rattle.jpql_trees.specs.declared.typed.typed.TypedCondition.{TypedCondition, TypedCondition-F, fold-TypedCondition}
use Rattle.jpql_trees.specs.declared.typed.typed.TypedCondition.TheOpen as test
use Rattle.jpql_trees.specs.declared.typed.typed.TypedCondition.TheOpen.{TypedBlock-F, TypedJoin-F, TypedSource-F}
use Rattle.jpql_trees.specs.declared.typed.typed.TypedCondition.TheViews.{out-TypedSource}
use Rattle.jpql_trees.specs.declared.typed.typed.TypedJoin.{TypedJoin}
use Rattle.jpql_trees.specs.declared.typed.typed.TypedOrigin.{TypedOrigin}
use Rattle.jpql_trees.specs.declared.typed.typed.TypedSelect.{TypedSelect}
use Rattle.jpql_trees.specs.declared.typed.typed.TypedSource.{TypedSource}
use Rattle.jpql_meaning.specs.declared.eval.datum.Datum.{Datum}
use Rattle.jpql_meaning.specs.eval.Data.{null}
use Rattle.jpa_questions.specs.by_key.Own.{all_below, is_own_select}

-- ---- FROM: one variable, without joins

-- the class that a range without joins ranges over, unless over a relation (chapter 4.4.3)
abbrev pub range_of : TypedOrigin → List TypedJoin → Option ℕ
range_of (TypedOrigin.Entity class) [] = Some class
range_of (TypedOrigin.Entity class) (j ∷ js) = None
range_of (TypedOrigin.Related of step) js = None

-- the class that FROM has one variable of, without joins (chapter 4.4)
abbrev pub ranged : List TypedSource → Option ℕ
ranged [] = None
ranged (x ∷ []) = range_of (out-TypedSource x).origin (out-TypedSource x).joins
ranged (x ∷ y ∷ xs) = None

-- ---- WHERE: the first part of its key is equated with a literal or a parameter

-- the value that a datum is, none where it is an entity
abbrev pub plain : Datum → Option Value
plain (Datum.Plain v) = Some v
plain (Datum.Entity id) = None

-- whether a member is the first part of the key (chapter 2.4)
abbrev pub is_first_part : Member → Bool
is_first_part (Member.KeyPart i) = i == 0
is_first_part Member.Version = false
is_first_part (Member.Attribute i) = false
is_first_part (Member.Relation r) = false

-- whether steps are one alone, to the first part of the key (chapter 4.4.4)
abbrev pub is_key : List Step → Bool
is_key [] = false
is_key (step ∷ []) = is_first_part step.member
is_key (step ∷ after ∷ steps) = false

-- whether a path leads from the first variable to the first part of its key (chapter 4.4.4)
abbrev pub is_key_path : TypedPath → Bool
is_key_path p = (p.variable == 0) && is_key p.steps

-- whether a value is itself a path to the first part of the variable's key (chapter 4.4.4)
abbrev pub named_step : TypedValue-F Bool → Bool
named_step (part.Integer n) = false
named_step (part.Text t) = false
named_step (part.Parameter place) = false
named_step (part.Path p) = is_key_path p
named_step (part.Signed sign a) = false
named_step (part.Arithmetic op a b) = false
named_step (part.Call f all) = false
named_step (part.Size p) = false
named_step (part.Aggregate g distinct a) = false

-- the value is the variable's key
abbrev pub names_key : TypedValue → Bool
names_key = fold-TypedValue Bool named_step

module _ (ps : List Datum) where
  -- the value for the parameter at a place, null if none is given, unless an entity (chapter 4.6.4)
  abbrev pub parameter_at : ℕ → Option Value
  parameter_at place = plain (slice_index_or ps place null)

  -- the value of a literal or a parameter, none of any other expression (chapters 4.6.1 and 4.6.4)
  abbrev pub given_step : TypedValue-F (Option Value) → Option Value
  given_step (part.Integer n) = Some (Value.Int n)
  given_step (part.Text t) = Some (Value.Text t)
  given_step (part.Parameter place) = parameter_at place
  given_step (part.Path p) = None
  given_step (part.Signed sign a) = None
  given_step (part.Arithmetic op a b) = None
  given_step (part.Call f all) = None
  given_step (part.Size p) = None
  given_step (part.Aggregate g distinct a) = None

  -- what a literal or a parameter gives, which is no entity
  abbrev pub given : TypedValue → Option Value
  given = fold-TypedValue (Option Value) given_step

  -- what the key is to equal, on either side, if a literal or a parameter gives it (chapter 4.6.7)
  abbrev pub equated : TypedValue → TypedValue → Option Value
  equated a b = if names_key a then given b else if names_key b then given a else None

  -- what a comparison asks the key to be, which = alone does (chapter 4.6.7)
  abbrev pub compared_with : Comparison → TypedValue → TypedValue → Option Value
  compared_with Comparison.Equal a b = equated a b
  compared_with _ a b = None

  -- what a condition asks the key to be, which a single comparison alone does (chapter 4.6.7)
  abbrev pub asked_step : TypedCondition-F (Option Value) Bool Bool Bool → Option Value
  asked_step (test.Or a b) = None
  asked_step (test.And a b) = None
  asked_step (test.Not a) = None
  asked_step (test.Compare op a b) = compared_with op a b
  asked_step (test.Between a low high) = None
  asked_step (test.In a all) = None
  asked_step (test.Like a pattern escape) = None
  asked_step (test.IsNull a) = None
  asked_step (test.IsEmpty p) = None
  asked_step (test.Member a p) = None
  asked_step (test.Exists b) = None
  asked_step (test.Rows against op a b) = None
  asked_step (test.«Type» place classes) = None

  -- a nested SELECT tells nothing of the key (chapter 4.6.16)
  abbrev pub block_step : TypedBlock-F (Option Value) Bool Bool Bool → Bool
  block_step b = false

  -- a join tells nothing of the key (chapter 4.4.5)
  abbrev pub join_step : TypedJoin-F (Option Value) Bool Bool Bool → Bool
  join_step j = false

  -- a range tells nothing of the key (chapter 4.4.3)
  abbrev pub source_step : TypedSource-F (Option Value) Bool Bool Bool → Bool
  source_step x = false

  -- what a condition asks the key to be
  abbrev pub asked : TypedCondition → Option Value
  asked = fold-TypedCondition (Option Value) Bool Bool Bool asked_step block_step join_step source_step

  -- what WHERE asks the key to be, where there is one (chapter 4.5)
  abbrev pub asked_if_any : Option TypedCondition → Option Value
  asked_if_any None = None
  asked_if_any (Some c) = asked c

-- ---- the hierarchy: keys of one part

module _ (m : PersistenceUnit) where
  -- a class below this one has this table, and a key of one part
  abbrev pub is_keyed : ℕ → ℕ → ℕ → Bool
  is_keyed class table kind =
      not (is_kind_of m kind class) || (((root_of m kind).table == table) && (length (root_of m kind).key == 1))

  -- the table that has the rows of a class
  abbrev pub keyed_table : ℕ → Option ℕ
  keyed_table class =
      if nat_lt class (length m.entities) && all_below (is_keyed class (root_of m class).table) (length m.entities)
      then Some (root_of m class).table else None

-- ---- the identity

-- the identity with a table and a key of this one part (chapter 2.4)
abbrev pub identity_with : ℕ → Value → Identity
identity_with table v = record { table = table; key = v ∷ [] }

-- the identity with a table and a key part, where there are both (chapter 2.4)
abbrev pub identity_in : Option ℕ → Option Value → Option Identity
identity_in (Some table) (Some v) = Some (identity_with table v)
identity_in (Some table) None = None
identity_in None v = None

-- the identity of the only object that decides what a statement gives, where it asks one by its key
abbrev pub key_of : PersistenceUnit → List Datum → TypedSelect → Option Identity
key_of m ps q =
    if is_own_select m q then identity_in (option_and_then (keyed_table m) (ranged q.sources))
    (asked_if_any ps q.filter) else None

-- the set of what stands under the identity
abbrev pub only : Identity → Option Stored → StoredSet
only id None = []
only id (Some x) = (id, x) ∷ []

-- ---- what the object's own row tells of it

-- whether a side is the owning one of many-to-many, whose pairs are rows of a join table (chapter 2.10)
abbrev pub has_pairs : Side → Bool
has_pairs (Side.ManyToOne c) = false
has_pairs (Side.OneToOne c) = false
has_pairs (Side.OneToOneInverse owner) = false
has_pairs (Side.OneToMany owner) = false
has_pairs (Side.ManyToMany table) = true
has_pairs (Side.ManyToManyInverse owner) = false

-- what is owned in these relations, without pairs
abbrev pub without_pairs : List Relation → List (List Identity) → List (List Identity)
without_pairs [] owned = owned
without_pairs (r ∷ relations) [] = []
without_pairs (r ∷ relations) (ids ∷ owned) = (if has_pairs r.side then [] else ids) ∷ without_pairs relations owned

-- the object as its own row tells it: without the pairs that it owns (chapter 2.10)
abbrev pub pairless : PersistenceUnit → Stored → Stored
pairless m x = record x { owned = without_pairs (relations_of m x.class) x.owned }
