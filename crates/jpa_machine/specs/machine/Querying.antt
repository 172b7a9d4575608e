-- query, querySingle and executeUpdate with what their calls hand in (Jakarta Persistence 3.1,
-- chapters 3.10.1, 3.10.12 parameters, 4.6.9 IN and collections).
use Rattle.std.specs.Prelude.{ℕ, suc, ℤ, Bool, ◌&&◌, nat_le, List, [], ◌∷◌, ◌++◌, length, Option, Some, None}
use Rattle.std.specs.List.{list_all}
use Rattle.jpa_value.specs.declared.refusal.Cause.{Cause}
use Rattle.jpa_behaviour.specs.Behaviour.{World}
use Rattle.jpa_work.specs.declared.heap.Handed.{Handed}
use Rattle.jpa_work.specs.heap.Objects.{place_of}
use Rattle.jpa_work.specs.context.Steps.{◌>>=◌, ◌>>◌, Op, give, read, require}
use Rattle.jpa_protocol.specs.declared.call.Given.{Given}
use Rattle.jpa_protocol.specs.declared.call.Parameter.{Parameter}
use Rattle.jpa_protocol.specs.declared.call.ParameterValue.{ParameterValue}
use Rattle.jpa_protocol.specs.declared.call.ParameterValue.TheVariants.{Single, Collection}
use Rattle.jpa_protocol.specs.declared.reply.Answer.{Answer}
use Rattle.jpql_trees.specs.declared.tree.Language.{Language}
use Rattle.jpql_grammar.specs.declared.grammar.lists.GivenList.{GivenList}
use Rattle.jpql_grammar.specs.grammar.Lists.{value_name}
use Rattle.jpql_text.specs.text.Together.{most_list_values}
use Rattle.jpa_asked.specs.declared.asked.Asked.{Asked}
use Rattle.jpa_asked.specs.declared.asked.Binding.{Binding}
use Rattle.jpa_queries.specs.Queries.{query, query_single}
use Rattle.jpa_updates.specs.Updates.{execute_update}
use Rattle.jpa_machine.specs.machine.Calls.{give_or, is_short_given, told_as}

-- ---- parameters

-- what is handed in for a parameter, among so many objects
abbrev pub object_handed : Option ℕ → Option Handed
object_handed None = None
object_handed (Some k) = Some (Handed.Object k)

-- what is handed in for a parameter: a value, or an object that there is
abbrev pub handed_in : ℕ → Given → Option Handed
handed_in count (Given.Plain v) = Some (Handed.Plain v)
handed_in count (Given.Object n) = object_handed (place_of count n)

-- the values of a collection by their names, from its so many-th
abbrev pub values_from : List ℕ → ℕ → List Given → List (List ℕ × Given)
values_from name place [] = []
values_from name place (g ∷ gs) = (value_name name place, g) ∷ values_from name (suc place) gs

-- the values that are handed in for a parameter, by their names: one by the parameter's own, those of
-- a collection by the names that their places give
abbrev pub values_by_name : List ℕ → ParameterValue → List (List ℕ × Given)
values_by_name name (Single g) = (name, g) ∷ []
values_by_name name (Collection gs) = values_from name 1 gs

-- all values that are handed in for parameters, by their names
abbrev pub values_of : List Parameter → List (List ℕ × Given)
values_of [] = []
values_of (p ∷ ps) = values_by_name p.name p.value ++ values_of ps

-- a parameter before others, where a collection is handed in for it
abbrev pub with_list : List ℕ → ParameterValue → List GivenList → List GivenList
with_list name (Single g) ls = ls
with_list name (Collection gs) ls = record { name = name; count = length gs } ∷ ls

-- the parameters that collections are handed in for, each with how many values it has
abbrev pub lists_of : List Parameter → List GivenList
lists_of [] = []
lists_of (p ∷ ps) = with_list p.name p.value (lists_of ps)

-- a binding before others, where there are both
abbrev pub before : List ℕ → Option Handed → Option (List Binding) → Option (List Binding)
before name None bs = None
before name (Some h) None = None
before name (Some h) (Some bs) = Some (record { name = name; value = h } ∷ bs)

-- what is bound to names; none where a number names no object
abbrev pub bindings_in : ℕ → List (List ℕ × Given) → Option (List Binding)
bindings_in count [] = Some []
bindings_in count (v ∷ vs) = before v.0 (handed_in count v.1) (bindings_in count vs)

-- whether each value has at most as many bytes as one may have, and a collection not too many values
abbrev pub is_short_value : ParameterValue → Bool
is_short_value (Single g) = is_short_given g
is_short_value (Collection gs) = nat_le (length gs) most_list_values && list_all is_short_given gs

-- whether what is handed in for each parameter is short enough
abbrev pub are_short : List Parameter → Bool
are_short ps = list_all (λ (p : Parameter). is_short_value p.value) ps

-- each object is there, then each value and collection is short enough
abbrev pub bound : List Parameter → Op (List Binding)
bound parameters = do
  found ← read (λ w. bindings_in (length w.objects) (values_of parameters))
  bindings ← give_or Cause.NoSuchObject found
  require (are_short parameters) Cause.Limit
  give bindings

-- ---- calls

-- a statement's text with its language, the collections and what is bound to its parameters, how many
-- rows are skipped, and how many are told at most
abbrev pub asked_of : Language → List ℕ → List Parameter → Option ℤ → Option ℤ → Op Asked
asked_of language text parameters first max = do
  bindings ← bound parameters
  give
      (record {
        language = language;
        lists = lists_of parameters;
        text = text;
        bindings = bindings;
        first = first;
        max = max;
      })

-- the call query: the rows of a SELECT (chapter 3.10.1)
abbrev pub query_call : List ℕ → List Parameter → Option ℤ → Option ℤ → Bool → World → Op Answer
query_call text parameters first max flushes world = do
  call ← asked_of world.language text parameters first max
  told_as Answer.Rows (query world flushes call)

-- the call querySingle: the one row of a SELECT (chapter 3.10.1)
abbrev pub query_single_call : List ℕ → List Parameter → Option ℤ → Option ℤ → Bool → World → Op Answer
query_single_call text parameters first max flushes world = do
  call ← asked_of world.language text parameters first max
  told_as Answer.Row (query_single world flushes call)

-- an UPDATE or DELETE (chapter 4.11): how many objects it concerned
abbrev pub update_call : List ℕ → List Parameter → Bool → Bool → World → Op Answer
update_call text parameters is_active flushes world = do
  bindings ← bound parameters
  told_as Answer.Number (execute_update world is_active flushes world.language (lists_of parameters) text bindings)
