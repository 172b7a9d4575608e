-- What a text asks with its parameters, and why it is refused (Jakarta Persistence 3.1, chapters
-- 3.10.1 queries, 3.10.12 parameters, 4.6.4 input parameters, 4.6.9 IN and collections).
use Rattle.std.specs.Prelude.{◌≡◌, ◌⊎◌, ◌==◌, ℕ, suc, Bool, true, false, not, ◌&&◌, nat_le, List, [], ◌∷◌, ◌++◌, length}
use Rattle.std.specs.Prelude.{map, if◌then◌else◌, Result, Ok, Err}
use Rattle.std.specs.List.{list_all, list_any}
use Rattle.jpa_value.specs.declared.value.Kind.{Kind}
use Rattle.jpa_value.specs.declared.value.Value.{Value}
use Rattle.jpa_value.specs.declared.refusal.Cause.{Cause}
use Rattle.jpa_value.specs.declared.refusal.Argument.{Argument}
use Rattle.jpa_value.specs.declared.refusal.State.{State}
use Rattle.jpa_model.specs.declared.unit.PersistenceUnit.{PersistenceUnit}
use Rattle.jpa_behaviour.specs.Behaviour.{is_short}
use Rattle.jpa_json.specs.readers.Outcome.{and_then}
use Rattle.jpql_trees.specs.declared.tree.Language.{Language}
use Rattle.jpql_trees.specs.declared.tree.Query.{Query}
use Rattle.jpql_trees.specs.tree.Names.{Text}
use Rattle.jpql_grammar.specs.declared.grammar.lists.GivenList.{GivenList}
use Rattle.jpql_grammar.specs.grammar.Lists.{value_name}
use Rattle.jpql_text.specs.text.Answers.{IsRead, IsRefused, UsesLists}
use Rattle.jpql_text.specs.text.Together.{most_list_values}
use Rattle.jpql_types.specs.declared.sort.Sort.{Sort}
use Rattle.jpql_trees.specs.declared.typed.typed.Typed.{Typed}
use Rattle.jpql_trees.specs.declared.typed.typed.TypedSelect.{TypedSelect}
use Rattle.jpql_types.specs.Statements.{checked}
use Rattle.jpql_meaning.specs.declared.eval.datum.Datum.{Datum}
use Rattle.jpa_questions.specs.declared.questions.bound.Bound.{Bound}
use Rattle.jpa_questions.specs.declared.questions.parameter.Parameter.{Parameter}
use Rattle.jpa_questions.specs.declared.questions.parameter.ParameterValue.{ParameterValue}
use Rattle.jpa_questions.specs.declared.questions.parameter.ParameterValue.TheVariants.{Single, Collection}
use Rattle.jpa_questions.specs.declared.questions.question.Question.{Question}

-- what a value is of (chapter 4.6.4)
abbrev pub sort_of : Value → Sort
sort_of Value.Null = Sort.Null
sort_of (Value.Int n) = Sort.Basic Kind.Int
sort_of (Value.Text bytes) = Sort.Basic Kind.Text
sort_of (Value.Bytes bytes) = Sort.Basic Kind.Bytes

-- what a parameter is of, by its name
abbrev pub named_sort : Bound → Text × Sort
named_sort b = (b.name, sort_of b.value)

-- what stands for a parameter
abbrev pub argument_of : Bound → Datum
argument_of b = Datum.Plain b.value

-- ---- what is bound

-- the values of a collection by their names, from its so many-th
abbrev pub values_from : Text → ℕ → List Value → List Bound
values_from name place [] = []
values_from name place (v ∷ vs) = record { name = value_name name place; value = v } ∷ values_from name (suc place) vs

-- what is bound for a parameter: a value to its own name, those of a collection to the names that their
-- places give
abbrev pub bound_by : Text → ParameterValue → List Bound
bound_by name (Single v) = record { name = name; value = v } ∷ []
bound_by name (Collection vs) = values_from name 1 vs

-- what is bound for all parameters
abbrev pub bound_of : List Parameter → List Bound
bound_of [] = []
bound_of (p ∷ ps) = bound_by p.name p.value ++ bound_of ps

-- a parameter before others, where a collection is handed in for it
abbrev pub with_list : Text → ParameterValue → List GivenList → List GivenList
with_list name (Single v) ls = ls
with_list name (Collection vs) ls = record { name = name; count = length vs } ∷ ls

-- the parameters that collections are handed in for, each with how many values it has
abbrev pub lists_of : List Parameter → List GivenList
lists_of [] = []
lists_of (p ∷ ps) = with_list p.name p.value (lists_of ps)

-- whether a value has at most as many bytes as one may have, and a collection not too many values
abbrev pub is_short_value : ParameterValue → Bool
is_short_value (Single v) = is_short v
is_short_value (Collection vs) = nat_le (length vs) most_list_values && list_all is_short vs

-- whether what is handed in for each parameter is short enough
abbrev pub are_short : List Parameter → Bool
are_short = list_all (λ (p : Parameter). is_short_value p.value)

-- whether a name has a comma, as the values of collections have
abbrev pub has_comma : Text → Bool
has_comma name = list_any (λ b. b == 44) name

-- whether a parameter has no comma in its name, as no parameter of a text has
abbrev pub has_no_comma : Parameter → Bool
has_no_comma p = not (has_comma p.name)

-- ---- the question

-- the SELECT that a statement is; another one is refused
abbrev pub select_in : Typed → Result TypedSelect Cause
select_in (Typed.Select q) = Ok q
select_in (Typed.Update class assignments filter) = Err (Cause.IllegalState State.Statement)
select_in (Typed.Delete class is_named filter) = Err (Cause.IllegalState State.Statement)

-- the same, where each collection stands behind IN, and no name is one that its values have
abbrev pub select_if : Bool → Typed → Result TypedSelect Cause
select_if fits typed = if fits then select_in typed else Err (Cause.IllegalArgument Argument.Parameter)

module _ (m : PersistenceUnit) (l : Language) (text : Text) (ps : List Parameter) where
  -- What a tree asks with the parameters: a well-typed SELECT, or the refusal. The flag says that each
  -- collection stands behind IN.
  abbrev pub select_of : Bool → Query → Result TypedSelect Cause
  select_of uses tree =
      and_then (checked l m tree (map named_sort (bound_of ps))) (select_if (uses && list_all has_no_comma ps))

  -- the text has this tree in the language, and so it says of each collection whether it stands behind IN
  abbrev pub HasTree : Bool → Query → Type 0
  HasTree uses tree = IsRead l (lists_of ps) text tree × UsesLists l (lists_of ps) text uses

  -- the text has a tree in the language, whose SELECT this is
  abbrev pub Selects : TypedSelect → Type 0
  Selects q = (tree : Query) × (uses : Bool) × HasTree uses tree × (select_of uses tree ≡ Ok q)

  -- the text is refused, or what its tree asks is
  abbrev pub IsTextRefused : Cause → Type 0
  IsTextRefused cause =
      IsRefused l (lists_of ps) text cause
      ⊎ ((tree : Query) × (uses : Bool) × HasTree uses tree × (select_of uses tree ≡ Err cause))

  -- the parameters are short enough, the text asks this SELECT, and these stand for its parameters
  -- by place
  pub record IsAsked (q : Question) : Type 0 where
    pub short : are_short ps ≡ true
    pub select : Selects q.select
    pub arguments : q.arguments ≡ map argument_of (bound_of ps)

  -- a parameter is too long, or else the text is refused; or memory is wanting
  abbrev pub IsUnasked : Cause → Type 0
  IsUnasked cause = (cause ≡ Cause.OutOfMemory)
      ⊎ (((are_short ps ≡ false) × (cause ≡ Cause.Limit)) ⊎ ((are_short ps ≡ true) × IsTextRefused cause))
