-- The first rows of a SELECT, and what they are found by without making all.
use Rattle.std.specs.Prelude.{◌≡◌, ◌≤◌, ℕ, Bool, true, false, All, List, [], ◌∷◌, length, map, take, Option, Some, None}
use Rattle.std.specs.List.Sorted.{IsSortedBy}
use Rattle.jpa_open.specs.Opened.{now}
use Rattle.jpql_trees.specs.declared.typed.path.TypedPath.{TypedPath}
use Rattle.jpql_trees.specs.declared.typed.typed.TypedCondition.{TypedCondition}
use Rattle.jpql_trees.specs.declared.typed.typed.TypedKey.{TypedKey}
use Rattle.jpql_trees.specs.declared.typed.typed.TypedSelect.{TypedSelect}
use Rattle.jpql_trees.specs.declared.typed.typed.TypedSorted.{TypedSorted}
use Rattle.jpql_trees.specs.declared.typed.typed.TypedSource.{TypedSource}
use Rattle.jpql_meaning.specs.declared.eval.datum.Datum.{Datum}
use Rattle.jpql_meaning.specs.eval.Answers.{every, gives, under}
use Rattle.jpql_meaning.specs.plan.Meaning.{Case, alone}
use Rattle.jpql_meaning.specs.plan.Paths.{Entry, Tuple}
use Rattle.jpql_meaning.specs.plan.Selection.{Row, in_order, precedes, is_grouping, selected}
use Rattle.jpql_run.specs.declared.fronts.Side.{Side}
use Rattle.jpql_run.specs.declared.run.Run.{Run}
use Rattle.jpql_run.specs.declared.value_fronts.ValueOrder.{ValueOrder}
use Rattle.jpql_run.specs.Equations.{IsKeyPart}
use Rattle.jpql_run.specs.Fronts.{IsFront}
use Rattle.jpql_run.specs.Keys.{NeverOverflows}
use Rattle.jpql_run.specs.ValueFronts.{IsFrontBy, LeadsFrom}
use Rattle.jpql_select.specs.select.Selects.{key_datum, key_given, row_of}
use Rattle.jpql_select.specs.select.Tables.{items_in}
use Rattle.jpql_select.specs.declared.first.fronts.Way.{Way}

-- the first so many, or all
abbrev pub first_of : {A : Type 0} → Option ℕ → List A → List A
first_of None rows = rows
first_of (Some n) rows = take n rows

-- a key of ORDER BY is the same whatever the items of the row are, and can't overflow
abbrev pub GoesByTuple : TypedKey → Type 0
GoesByTuple key = (run : Run) (items : List Datum) (at : Case) → key_datum run items at key
    ≡ gives (key_given run [] at key)

-- A statement of which any row may be left out: each is of one tuple and no other row's double, its
-- items and keys can't overflow, and its place is known without the items.
pub record IsFit (q : TypedSelect) : Type 0 where
  pub alone : is_grouping q ≡ false
  pub all : q.is_distinct ≡ false
  pub given : All NeverOverflows q.items
  pub placed : All GoesByTuple q.order

-- Rows that are in the order of their keys, and at most so many.
pub record AreInFront (keys : List TypedKey) (count : ℕ) (rows : List Row) : Type 0 where
  pub sorted : IsSortedBy (precedes keys) rows
  pub few : length rows ≤ count

-- ---- tuples of a front

-- A key of ORDER BY is the first part of the first variable's key, falling or not.
pub record IsFirstPart (is_descending : Bool) (key : TypedKey) : Type 0 where
  pub path : TypedPath
  pub along : key.by ≡ TypedSorted.Path path
  pub way : key.is_descending ≡ is_descending
  pub of_first : path.variable ≡ 0
  pub leads : IsKeyPart 0 path

-- ORDER BY begins at this side of the order of identities: there is none, or it is by that part alone
abbrev pub GoesBy : Side → List TypedKey → Type 0
GoesBy Side.First [] = Unit {0}
GoesBy Side.First (key ∷ []) = IsFirstPart false key
GoesBy Side.Last (key ∷ []) = IsFirstPart true key
GoesBy _ _ = ⊥

-- A key of ORDER BY is what the first variable has as a member, whose values rise or fall.
pub record IsByValue (o : ValueOrder) (key : TypedKey) : Type 0 where
  pub path : TypedPath
  pub along : key.by ≡ TypedSorted.Path path
  pub way : key.is_descending ≡ o.is_descending
  pub leads : LeadsFrom 0 path o.member

-- ORDER BY begins with such a key
abbrev pub GoesByValue : ValueOrder → List TypedKey → Type 0
GoesByValue o [] = ⊥
GoesByValue o (key ∷ keys) = IsByValue o key

-- ORDER BY goes by the way in which objects come
abbrev pub GoesWay : Way → List TypedKey → Type 0
GoesWay (Way.Identities side) keys = GoesBy side keys
GoesWay (Way.Values order) keys = GoesByValue order keys

-- objects of the first element of FROM are those of a front of it
abbrev pub IsFrontOn : Run → List TypedSource → Option TypedCondition → Way → List Entry → Type 0
IsFrontOn run sources c (Way.Identities side) es = IsFront run sources c side es
IsFrontOn run sources c (Way.Values order) es = IsFrontBy run sources c order es

-- of these tuples the first rows are those of all
abbrev pub AreEnough : Run → TypedSelect → ℕ → List Tuple → Type 0
AreEnough run q n ts =
    under (take n) (selected run.metamodel.now (now run.set.now) run.parameters.now q)
    ≡ under items_in (under (λ rows. take n (in_order q.order rows)) (every (map (row_of run q) (map alone ts))))

-- of these tuples the first rows are those of all, as many as they are
abbrev pub AreFirst : Run → TypedSelect → List Tuple → Type 0
AreFirst run q ts = (n : ℕ) → n ≤ length ts → AreEnough run q n ts
