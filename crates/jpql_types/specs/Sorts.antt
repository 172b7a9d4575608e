-- What values are of, and which go together (chapters 4.6, 4.7 and 4.9.5).
use Rattle.std.specs.Prelude.{ℕ, ◌-◌, ◌==◌, length, Bool, true, false, ◌&&◌, List, [], ◌∷◌, slice_get, Option, Some}
use Rattle.std.specs.Prelude.{None, option_map, if◌then◌else◌}
use Rattle.std.specs.List.{list_all}
use Rattle.jpa_value.specs.declared.value.Kind.{Kind}
use Rattle.jpa_model.specs.Chains.{root_of, root_class, attributes_of}
use Rattle.jpa_model.specs.declared.unit.PersistenceUnit.{PersistenceUnit}
use Rattle.jpa_model.specs.declared.unit.Member.{Member}
use Rattle.jpql_trees.specs.declared.tree.Function.{Function}
use Rattle.jpql_trees.specs.declared.tree.Against.{Against}
use Rattle.jpql_trees.specs.declared.tree.Aggregate.{Aggregate}
use Rattle.jpql_trees.specs.declared.tree.Comparison.{Comparison}
use Rattle.jpql_trees.specs.tree.Steps.{◌>>=◌}
use Rattle.jpql_trees.specs.tree.Calls.{takes}
use Rattle.jpql_trees.specs.declared.typed.path.Step.{Step}
use Rattle.jpql_trees.specs.declared.typed.path.TypedPath.{TypedPath}
use Rattle.jpql_types.specs.declared.sort.Sort.{Sort}
use Rattle.jpql_types.specs.Scope.{when, target_of_one, target_of_many}

-- the sort of whole numbers
abbrev pub integer : Sort
integer = Sort.Basic Kind.Int

-- the sort of texts
abbrev pub text : Sort
text = Sort.Basic Kind.Text

-- whether two kinds of basic values are the same
abbrev pub same_kind : Kind → Kind → Bool
same_kind Kind.Int Kind.Int = true
same_kind Kind.Text Kind.Text = true
same_kind Kind.Bytes Kind.Bytes = true
same_kind _ _ = false

-- whether two sorts are one: null goes with all, the others with their own
abbrev pub goes_with : Sort → Sort → Bool
goes_with Sort.Null b = true
goes_with a Sort.Null = true
goes_with (Sort.Basic a) (Sort.Basic b) = same_kind a b
goes_with (Sort.Entity a) (Sort.Entity b) = a == b
goes_with _ _ = false

-- integers, texts and bytes, which have an order
abbrev pub is_basic : Sort → Bool
is_basic (Sort.Entity c) = false
is_basic _ = true

-- of two that go together, the one that is known
abbrev pub known_of : Sort → Sort → Sort
known_of Sort.Null b = b
known_of a b = a

-- the one sort of all of them, after some that are of this one
abbrev pub joined_with : Sort → List Sort → Option Sort
joined_with s [] = Some s
joined_with s (b ∷ all) = if goes_with s b then joined_with (known_of s b) all else None

-- the one sort of all of these, if there is one; of none it is that of null
abbrev pub joined : List Sort → Option Sort
joined = joined_with Sort.Null

-- COALESCE, NULLIF, CASE and BETWEEN join no entities
abbrev pub joined_basic : List Sort → Option Sort
joined_basic all = joined all >>= λ s. when (is_basic s) s

-- arguments of these sorts; how many there must be, `takes` says
abbrev pub fit : List Sort → List Sort → Bool
fit asked [] = true
fit [] (s ∷ all) = false
fit (a ∷ asked) (s ∷ all) = goes_with a s && fit asked all

-- = and <> compare one sort, the others one with an order
abbrev pub are_comparable : Comparison → Sort → Sort → Bool
are_comparable Comparison.Equal a b = goes_with a b
are_comparable Comparison.Different a b = goes_with a b
are_comparable _ a b = goes_with a b && is_basic a && is_basic b

-- ---- CASE, of its WHENs with their THENs in turn, and of its ELSE (chapter 4.7.4)

-- what stands behind WHEN
abbrev pub whens : {A : Type 0} → List A → List A
whens [] = []
whens (otherwise ∷ []) = []
whens (w ∷ a ∷ more) = w ∷ whens more

-- what stands behind THEN and ELSE
abbrev pub outcomes : {A : Type 0} → List A → List A
outcomes [] = []
outcomes (otherwise ∷ []) = otherwise ∷ []
outcomes (w ∷ a ∷ more) = a ∷ outcomes more

-- CASE of a value, which comes first: it is of one sort with what stands behind WHEN
abbrev pub match_sort : List Sort → Option Sort
match_sort [] = None
match_sort (s ∷ all) = joined (s ∷ whens all) >>= λ t. joined_basic (outcomes all)

-- what a test gives of the first two values, where they may be compared
abbrev pub comparison_sort : Comparison → List Sort → Option Sort
comparison_sort op [] = None
comparison_sort op (a ∷ []) = None
comparison_sort op (a ∷ b ∷ all) = when (are_comparable op a b) integer

-- What a function gives of arguments of these sorts, however many. A test inside a CASE gives an
-- integer, and takes what the same test takes in a condition (chapter 4.6); but its ESCAPE may be any
-- text, of which one that isn't one character escapes nothing.
abbrev pub given_sort : Function → List Sort → Option Sort
given_sort Function.Length all = when (fit (text ∷ []) all) integer
given_sort Function.Concat all = when (list_all (goes_with text) all) text
given_sort Function.Substring all = when (fit (text ∷ integer ∷ integer ∷ []) all) text
given_sort Function.Locate all = when (fit (text ∷ text ∷ integer ∷ []) all) integer
given_sort Function.Abs all = when (fit (integer ∷ []) all) integer
given_sort Function.Mod all = when (fit (integer ∷ integer ∷ []) all) integer
given_sort Function.Coalesce all = joined_basic all
given_sort Function.NullIf all = joined_basic all
given_sort Function.Upper all = when (fit (text ∷ []) all) text
given_sort Function.Lower all = when (fit (text ∷ []) all) text
given_sort (Function.Trim sides) all = when (fit (text ∷ text ∷ []) all) text
given_sort Function.Case all = joined_basic (outcomes all)
given_sort Function.Match all = match_sort all
given_sort (Function.Test op) all = comparison_sort op all
given_sort Function.IsBetween all = joined_basic all >>= λ s. Some integer
given_sort Function.IsAmong all = joined all >>= λ s. Some integer
given_sort Function.IsLike all = when (fit (text ∷ text ∷ text ∷ []) all) integer
given_sort Function.IsNull all = Some integer
given_sort Function.And all = when (fit (integer ∷ integer ∷ []) all) integer
given_sort Function.Or all = when (fit (integer ∷ integer ∷ []) all) integer
given_sort Function.Not all = when (fit (integer ∷ []) all) integer

-- and where it takes as many as these, by the grammar's own table
abbrev pub call_sort : Function → List Sort → Option Sort
call_sort function all = if takes function (length all) then given_sort function all else None

-- what an aggregate gives of values of a sort, where it takes them (chapter 4.9.5)
abbrev pub aggregate_sort : Aggregate → Sort → Option Sort
aggregate_sort Aggregate.Count s = Some integer
aggregate_sort Aggregate.Sum s = when (goes_with integer s) integer
aggregate_sort Aggregate.Min s = when (is_basic s) s
aggregate_sort Aggregate.Max s = when (is_basic s) s

-- what a value is compared with of rows of a sort: the rows themselves, or what an aggregate gives of
-- them (chapters 4.6.9, 4.6.15 and 4.9.5)
abbrev pub sort_against : Against → Sort → Option Sort
sort_against Against.Any s = Some s
sort_against Against.All s = Some s
sort_against (Against.One g distinct) s = aggregate_sort g s

-- arithmetic is of integers
abbrev pub arithmetic_sort : List Sort → Option Sort
arithmetic_sort all = when (list_all (goes_with integer) all) integer

-- what a step leads to, other than a collection
abbrev pub step_sort : PersistenceUnit → Step → Option Sort
step_sort m s = of s.member
  where
    of : Member → Option Sort
    of (Member.KeyPart i) = option_map (λ part. Sort.Basic part.kind) (slice_get (root_of m s.class).key i)
    of Member.Version = Some integer
    of (Member.Attribute i) = option_map (λ a. Sort.Basic a.kind) (slice_get (attributes_of m s.class) i)
    of (Member.Relation r) = option_map (λ c. Sort.Entity (root_class m c)) (target_of_one m s)

-- the last of the steps, if there is one
abbrev pub last : List Step → Option Step
last steps = slice_get steps (length steps - 1)

-- the sort of what a path leads to; without steps that is its variable's object
abbrev pub path_sort : PersistenceUnit → TypedPath → Option Sort
path_sort m p = at_end (last p.steps)
  where
    at_end : Option Step → Option Sort
    at_end None = Some (Sort.Entity (root_class m p.class))
    at_end (Some s) = step_sort m s

-- the class of the collection that a path leads to
abbrev pub collection_class : PersistenceUnit → TypedPath → Option ℕ
collection_class m p = last p.steps >>= target_of_many m
