-- What a call asks, judged before anything is done: the text, what is bound to its parameters, and
-- the sort of the statement (Jakarta Persistence 3.1, chapters 3.10.1 queries, 3.10.12 parameters,
-- 4.6.4 input parameters).
use Rattle.std.specs.Prelude.{◌≡◌, ℕ, ◌==◌, ◌+◌, Bool, ◌&&◌, List, [], ◌∷◌, map, sum, if◌then◌else◌, Option, Some}
use Rattle.std.specs.Prelude.{None, Result, Ok, Err}
use Rattle.std.specs.List.{list_any}
use Rattle.jpa_value.specs.declared.value.Kind.{Kind}
use Rattle.jpa_value.specs.declared.value.Value.{Value}
use Rattle.jpa_value.specs.declared.value.Identity.{Identity}
use Rattle.jpa_value.specs.declared.refusal.Cause.{Cause}
use Rattle.jpa_value.specs.declared.refusal.Argument.{Argument}
use Rattle.jpa_model.specs.declared.unit.PersistenceUnit.{PersistenceUnit}
use Rattle.jpa_model.specs.Chains.{root_class}
use Rattle.jpa_work.specs.declared.heap.Handed.{Handed}
use Rattle.jpa_work.specs.context.Work.{Work, object, identity_at}
use Rattle.jpa_work.specs.context.Steps.{◌>>=◌, ◌>>◌, Op, Done, give, refuse, require, read}
use Rattle.jpql_grammar.specs.declared.grammar.lists.GivenList.{GivenList}
use Rattle.jpql_trees.specs.declared.tree.Language.{Language}
use Rattle.jpql_trees.specs.declared.tree.Query.{Query}
use Rattle.jpql_trees.specs.tree.Names.{Text}
use Rattle.jpql_types.specs.declared.sort.Sort.{Sort}
use Rattle.jpql_trees.specs.declared.typed.typed.Typed.{Typed}
use Rattle.jpql_trees.specs.declared.typed.typed.TypedSelect.{TypedSelect}
use Rattle.jpql_types.specs.Statements.{checked}
use Rattle.jpql_meaning.specs.declared.eval.datum.Datum.{Datum}
use Rattle.jpa_asked.specs.declared.asked.Binding.{Binding}
use Rattle.jpa_asked.specs.declared.asked.Reading.{Reading}
use Rattle.jpa_asked.specs.declared.asked.Statement.{Statement}
use Rattle.jpa_asked.specs.Reading.{tokens_in, query_of, are_used_in, is_within, declares_few}

-- what is there is given, else the call is refused
abbrev pub give_or : {A : Type 0} → Cause → Option A → Op A
give_or r (Some x) = give x
give_or r None = refuse r

-- a result is given, or its refusal
abbrev pub given : {A : Type 0} → Result A Cause → Op A
given (Ok x) = give x
given (Err r) = refuse r

-- what a text says; that it is outside the language's grammar, or lacks a list, is told later. Limit
-- is told at once
abbrev pub read_of : Language → List GivenList → Text → Op Reading
read_of l lists text = do
  require (is_within l lists text) Cause.Limit
  require (declares_few (query_of l lists text)) Cause.Limit
  give (record { tree = query_of l lists text; uses_lists = are_used_in lists (tokens_in l text) })

-- the text is read, and this is its tree
abbrev pub ReadsAs : Language → List GivenList → Text → Work → Query → Type 0
ReadsAs l lists text w query = (said : Reading) × (read_of l lists text w ≡ Done said w) × (said.tree ≡ Some query)

-- ---- what is bound to a parameter

-- the sort of a value that is bound to a parameter
abbrev pub sort_of_value : Value → Sort
sort_of_value Value.Null = Sort.Null
sort_of_value (Value.Int n) = Sort.Basic Kind.Int
sort_of_value (Value.Text bytes) = Sort.Basic Kind.Text
sort_of_value (Value.Bytes bytes) = Sort.Basic Kind.Bytes

-- a value is of its kind, an object of its hierarchy
abbrev pub sort_of : PersistenceUnit → Work → Handed → Sort
sort_of m w (Handed.Plain v) = sort_of_value v
sort_of m w (Handed.Object n) = Sort.Entity (root_class m (object w n).class)

-- an object stands for its identity, where its key is whole
abbrev pub datum_of_identity : Option Identity → Option Datum
datum_of_identity None = None
datum_of_identity (Some id) = Some (Datum.Entity id)

-- what stands for a parameter: a value, or an object's identity
abbrev pub datum_of : PersistenceUnit → Work → Handed → Option Datum
datum_of m w (Handed.Plain v) = Some (Datum.Plain v)
datum_of m w (Handed.Object n) = datum_of_identity (identity_at m w n)

-- the sorts of what is bound to parameters
abbrev pub sorts_of : PersistenceUnit → List Binding → Work → List (Text × Sort)
sorts_of m bindings w = map (λ (b : Binding). (b.name, sort_of m w b.value)) bindings

-- a datum before the others
abbrev pub onto : Option Datum → Option (List Datum) → Option (List Datum)
onto None ds = None
onto (Some d) None = None
onto (Some d) (Some ds) = Some (d ∷ ds)

-- what stands for the parameters, where each object has an identity
abbrev pub arguments_of : PersistenceUnit → List Binding → Work → Option (List Datum)
arguments_of m [] w = Some []
arguments_of m (b ∷ bs) w = onto (datum_of m w b.value) (arguments_of m bs w)

-- ---- lists

-- whether a name has a comma, as those of a list's values alone have
abbrev pub has_comma : Text → Bool
has_comma name = list_any (λ b. b == 44) name

-- how many names have one
abbrev pub values_bound : List Binding → ℕ
values_bound [] = 0
values_bound (b ∷ bs) = (if has_comma b.name then 1 else 0) + values_bound bs

-- how many values lists have
abbrev pub values_given : List GivenList → ℕ
values_given lists = sum (map (λ (l : GivenList). l.count) lists)

-- whether the values of lists alone have names with a comma, so that no name stands twice
abbrev pub are_apart : List GivenList → List Binding → Bool
are_apart lists bindings = values_bound bindings == values_given lists

-- ---- the statement

-- A statement of a language, typed, with what stands for its parameters by place: objects stand for
-- what they are before a flush. Each list stands in the text, and has its names for itself.
abbrev pub statement_of : Language → PersistenceUnit → Reading → List GivenList → List Binding → Op Statement
statement_of l m said lists bindings = do
  query ← give_or (Cause.IllegalArgument Argument.Syntax) said.tree
  sorts ← read (sorts_of m bindings)
  typed ← given (checked l m query sorts)
  require (said.uses_lists && are_apart lists bindings) (Cause.IllegalArgument Argument.Parameter)
  found ← read (arguments_of m bindings)
  arguments ← give_or (Cause.IllegalArgument Argument.Parameter) found
  give (record { typed = typed; arguments = arguments })

-- the SELECT that a statement is, if it is one
abbrev pub select_in : Typed → Option TypedSelect
select_in (Typed.Select q) = Some q
select_in (Typed.Update class assignments filter) = None
select_in (Typed.Delete class is_named filter) = None
