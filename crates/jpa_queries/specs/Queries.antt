-- query and querySingle of a manager (Jakarta Persistence 3.1, chapters 3.10.1, 3.10.8 flush mode,
-- 4.2.1 SELECT statements, 4.9 SELECT clause).
use Rattle.std.specs.Prelude.{suc, ℤ, pos, negsuc, Bool, true, false, List, [], ◌∷◌, take, drop, Option, Some, None}
use Rattle.std.specs.Prelude.{◌&&◌}
use Rattle.jpa_value.specs.declared.refusal.Cause.{Cause}
use Rattle.jpa_value.specs.declared.refusal.Argument.{Argument}
use Rattle.jpa_value.specs.declared.refusal.State.{State}
use Rattle.jpa_model.specs.declared.unit.PersistenceUnit.{PersistenceUnit}
use Rattle.jpa_behaviour.specs.Behaviour.{World}
use Rattle.jpa_protocol.specs.declared.reply.Item.{Item}
use Rattle.jpa_work.specs.context.Steps.{◌>>=◌, ◌>>◌, Op, give, refuse, require}
use Rattle.jpa_operations.specs.fetch.Load.{reach}
use Rattle.jpa_operations.specs.fetch.Members.{collect}
use Rattle.jpa_flush.specs.flush.Flush.{flush_if}
use Rattle.jpql_trees.specs.declared.typed.typed.TypedSelect.{TypedSelect}
use Rattle.jpql_meaning.specs.declared.eval.datum.Datum.{Datum}
use Rattle.jpql_meaning.specs.eval.Answers.{Answer, gives, overflows}
use Rattle.jpql_meaning.specs.plan.Selection.{selected}
use Rattle.jpa_asked.specs.declared.asked.Asked.{Asked}
use Rattle.jpa_asked.specs.declared.asked.Statement.{Statement}
use Rattle.jpa_asked.specs.Asking.{give_or, read_of, statement_of, select_in}

-- ---- the cut

-- a number of rows, where one is asked, is not negative
abbrev pub is_count : Option ℤ → Bool
is_count None = true
is_count (Some (pos n)) = true
is_count (Some (negsuc n)) = false

-- rows without the first so many
abbrev pub skipped : {A : Type 0} → Option ℤ → List A → List A
skipped None rows = rows
skipped (Some (pos n)) rows = drop n rows
skipped (Some (negsuc n)) rows = rows

-- at most so many rows
abbrev pub limited : {A : Type 0} → Option ℤ → List A → List A
limited None rows = rows
limited (Some (pos n)) rows = take n rows
limited (Some (negsuc n)) rows = rows

-- the first rows are skipped, then at most so many are kept
abbrev pub cut : {A : Type 0} → Option ℤ → Option ℤ → List A → List A
cut first max rows = limited max (skipped first rows)

-- ---- the rows

-- an answer is given, and Overflow is refused
abbrev pub answer : {A : Type 0} → Answer A → Op A
answer (gives x) = give x
answer overflows = refuse Cause.Overflow

-- the SELECT that a statement is, with what stands for its parameters
abbrev pub select_asked : Statement → Op (TypedSelect × List Datum)
select_asked statement = do
  select ← give_or (Cause.IllegalState State.Statement) (select_in statement.typed)
  give (select, statement.arguments)

-- a SELECT, with what stands for its parameters
abbrev pub judged : PersistenceUnit → Asked → Op (TypedSelect × List Datum)
judged m call = do
  said ← read_of call.language call.lists call.text
  require (is_count call.first && is_count call.max) (Cause.IllegalArgument Argument.Range)
  statement ← statement_of call.language m said call.lists call.bindings
  select_asked statement

-- what a SELECT gives over the set that the manager sees
abbrev pub table_of : PersistenceUnit → TypedSelect → List Datum → Op (List (List Datum))
table_of m select arguments w = answer (selected m w.view arguments select) w

-- and these of its rows
abbrev pub rows_found : PersistenceUnit → TypedSelect → List Datum → Option ℤ → Option ℤ → Op (List (List Datum))
rows_found m select arguments first max = do
  rows ← table_of m select arguments
  give (cut first max rows)

-- the rows that are asked, with identities for entities
abbrev pub rows_asked : World → Bool → Asked → Op (List (List Datum))
rows_asked world flushes call = do
  q ← judged world.model call
  flush_if flushes world
  rows_found world.model q.0 q.1 call.first call.max

-- ---- the results

-- a value stands for itself; an entity is the context's instance in whatever state, else it is
-- loaded
abbrev pub item_of : World → Datum → Op Item
item_of world (Datum.Plain v) = give (Item.Value v)
item_of world (Datum.Entity id) = do
  n ← reach world Cause.EntityNotFound id
  give (Item.Object (suc n))

-- a row as it is answered
abbrev pub row_of : World → List Datum → Op (List Item)
row_of world = collect (item_of world)

-- the rows that a SELECT gives, with objects for entities (chapter 3.10.1)
abbrev pub query : World → Bool → Asked → Op (List (List Item))
query world flushes call = do
  rows ← rows_asked world flushes call
  collect (row_of world) rows

-- the one row; none is NoResult, more are NonUniqueResult (chapter 3.10.1)
abbrev pub the_one : List (List Datum) → Op (List Datum)
the_one [] = refuse Cause.NoResult
the_one (row ∷ []) = give row
the_one (row ∷ other ∷ rows) = refuse Cause.NonUniqueResult

-- the one row, as it is answered
abbrev pub single_row : World → List (List Datum) → Op (List Item)
single_row world rows = do
  row ← the_one rows
  row_of world row

-- the one row that a SELECT gives (chapter 3.10.1)
abbrev pub query_single : World → Bool → Asked → Op (List Item)
query_single world flushes call = do
  rows ← rows_asked world flushes call
  single_row world rows
