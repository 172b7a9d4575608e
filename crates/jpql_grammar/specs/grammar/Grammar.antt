-- The grammar of conditions and statements. A derivation says which case of which line was taken. Its
-- `write` is the tokens that it stands for, in front of those that follow. Its `tree` is the statement.
-- Parentheses leave no node.
use Rattle.std.specs.Prelude.{◌≡◌, Bool, true, false, List, [], ◌∷◌, map, Option, Some, None, option_map}
use Rattle.jpql_grammar.specs.declared.grammar.token.Keyword.{Keyword}
use Rattle.jpql_grammar.specs.declared.grammar.token.Keyword.TheVariants as k
use Rattle.jpql_grammar.specs.declared.grammar.token.Mark.TheVariants as m
use Rattle.jpql_grammar.specs.declared.grammar.token.Token.{Token}
use Rattle.jpql_grammar.specs.declared.grammar.token.Token.TheVariants as t
use Rattle.jpql_trees.specs.declared.tree.Aggregate.{Aggregate}
use Rattle.jpql_trees.specs.declared.tree.Against.{Against}
use Rattle.jpql_trees.specs.declared.tree.Against.TheVariants as against
use Rattle.jpql_trees.specs.declared.tree.Comparison.{Comparison}
use Rattle.jpql_trees.specs.declared.tree.Comparison.TheVariants as c
use Rattle.jpql_trees.specs.declared.tree.Item.{Item}
use Rattle.jpql_trees.specs.declared.tree.Origin.{Origin}
use Rattle.jpql_trees.specs.declared.tree.Origin.TheVariants as from
use Rattle.jpql_trees.specs.declared.tree.Condition.{Condition}
use Rattle.jpql_trees.specs.declared.tree.Condition.TheVariants as is
use Rattle.jpql_trees.specs.declared.tree.Block.{Block, roll-Block}
use Rattle.jpql_trees.specs.declared.tree.Source.{Source, roll-Source}
use Rattle.jpql_trees.specs.declared.tree.Join.{Join, roll-Join}
use Rattle.jpql_trees.specs.declared.tree.SortKey.{SortKey}
use Rattle.jpql_trees.specs.declared.tree.Assignment.{Assignment}
use Rattle.jpql_trees.specs.declared.tree.Query.{Query}
use Rattle.jpql_trees.specs.declared.tree.Query.TheVariants as q
use Rattle.jpql_trees.specs.tree.Names.{Text}
use Rattle.jpql_grammar.specs.grammar.Parts.{Name, name_token, name_text, Steps, write_path, path_tree, aggregate_word}
use Rattle.jpql_grammar.specs.grammar.Parts.{Quantifier°, write_quantifier, quantifier_tree, turned, sorted_by}
use Rattle.jpql_grammar.specs.grammar.Tests.{Written, write_word, is_written, comparison_mark, condition_of}
use Rattle.jpql_grammar.specs.grammar.ValueGrammar.{Value°, sum, no_sums, product, no_times, unsigned, path}
use Rattle.jpql_grammar.specs.grammar.ValueGrammar.{write_value}
use Rattle.jpql_grammar.specs.grammar.ValueGrammar.{value_tree, Tested°, write_tested, tested_tree}

-- ---- names and lists

-- [AS] name
pub record Named : Type 0 where
  pub as_word : Written
  pub name : Text

-- [AS] name
abbrev pub write_named : Named → List Token → List Token
write_named n rest = write_word k.As n.as_word (t.Word n.name ∷ rest)

-- item = value [[AS] name]
pub record Item° : Type 0 where
  pub value : Value°
  pub name : Option Named

-- [[AS] name]
abbrev pub write_optional_name : Option Named → List Token → List Token
write_optional_name None rest = rest
write_optional_name (Some n) rest = write_named n rest

-- the name, where one is written
abbrev pub optional_name : Option Named → Option Text
optional_name None = None
optional_name (Some n) = Some n.name

-- value [[AS] name]
abbrev pub write_item : Item° → List Token → List Token
write_item i rest = write_value i.value (write_optional_name i.name rest)

-- an item: its value, and its name if it has one
abbrev pub item_tree : Item° → Item
item_tree i = record { value = value_tree i.value; name = optional_name i.name }

-- {"," more}
abbrev pub write_others : {A : Type 0} → (A → List Token → List Token) → List A → List Token → List Token
write_others write [] rest = rest
write_others write (a ∷ others) rest = t.Mark m.Comma ∷ write a (write_others write others rest)

-- a NOT inside a test is a NOT of it
abbrev pub negated : Written → Condition → Condition
negated None test = test
negated (Some w) test = is.Not test

-- INNER, LEFT [OUTER], or nothing
pub data Side : Type 0 where
  inner : Written → Side
  left : Text → Written → Side

-- the tokens of a join's side
abbrev pub write_side : Side → List Token → List Token
write_side (inner w) rest = write_word k.Inner w rest
write_side (left w outer) rest = t.Key k.Left w ∷ write_word k.Outer outer rest

-- whether a join is LEFT
abbrev pub is_left : Side → Bool
is_left (inner w) = false
is_left (left w outer) = true

-- range = Entity [AS] var, and in a nested SELECT also var "." name [AS] var
pub data Range : Type 0 where
  entity : Name → Named → Range
  related : Text → Name → Named → Range

-- the tokens of a range
abbrev pub write_range : Range → List Token → List Token
write_range (entity e n) rest = name_token e ∷ write_named n rest
write_range (related w r n) rest = t.Word w ∷ t.Mark m.Dot ∷ name_token r ∷ write_named n rest

-- what a range ranges over: an entity, or a relation of a variable
abbrev pub range_origin : Range → Origin
range_origin (entity e n) = from.Entity (name_text e)
range_origin (related w r n) = from.Related w (name_text r)

-- the variable that a range declares
abbrev pub range_variable : Range → Text
range_variable (entity e n) = n.name
range_variable (related w r n) = n.name

mutual
  -- cond = and {OR and}
  pub data Cond° : Type 0 where
    cond : And° → Ors° → Cond°

  -- {OR and}
  pub data Ors° : Type 0 where
    no_ors : Ors°
    or : Text → And° → Ors° → Ors°

  -- and = not {AND not}
  pub data And° : Type 0 where
    conj : Not° → Ands° → And°

  -- {AND not}
  pub data Ands° : Type 0 where
    no_ands : Ands°
    and : Text → Not° → Ands° → Ands°

  -- not = [NOT] test
  pub data Not° : Type 0 where
    maybe_not : Written → Test° → Not°

  -- a test: one of these lines, or a condition in parentheses (chapter 4.6)
  pub data Test° : Type 0 where
    -- "(" cond ")"
    inside : Cond° → Test°
    -- a test of values
    tested : Tested° → Test°
    -- path IS [NOT] EMPTY
    empty : Steps → Text → Written → Text → Test°
    -- value [NOT] MEMBER [OF] path
    member : Value° → Written → Text → Written → Steps → Test°
    -- EXISTS "(" sub ")"
    exists : Text → Sub° → Test°
    -- value op (ALL | ANY | SOME) "(" sub ")"
    quantified : Value° → Comparison → Quantifier° → Sub° → Test°
    -- value [NOT] IN "(" sub ")"
    among_rows : Value° → Written → Text → Sub° → Test°
    -- value op "(" scalar ")"
    scalar_right : Value° → Comparison → Scalar° → Test°
    -- "(" scalar ")" op value
    scalar_left : Scalar° → Comparison → Value° → Test°
    -- TYPE "(" var ")" ("=" | "<>") Entity
    type_is : Text → Text → Name → Test°
    type_is_not : Text → Text → Name → Test°
    -- TYPE "(" var ")" [NOT] IN "(" Entity {"," Entity} ")"
    type_among : Text → Text → Written → Text → Name → List Name → Test°

  -- sub = SELECT [DISTINCT] item FROM subrange {join} {"," subrange {join}} [WHERE cond]
  pub data Sub° : Type 0 where
    sub : Text → Written → Item° → Text → Source° → Sources° → Where° → Sub°

  -- scalar = SELECT aggregate "(" [DISTINCT] value ")" FROM subrange {join} {..} [WHERE cond]
  pub data Scalar° : Type 0 where
    scalar : Text → Aggregate → Text → Written → Value° → Text → Source° → Sources° → Where° → Scalar°

  -- range {join}
  pub data Source° : Type 0 where
    source : Range → Joins° → Source°

  -- {"," range {join}}
  pub data Sources° : Type 0 where
    no_sources : Sources°
    sources : Source° → Sources° → Sources°

  -- {join}
  pub data Joins° : Type 0 where
    no_joins : Joins°
    joins : Join° → Joins° → Joins°

  -- join = [INNER | LEFT [OUTER]] JOIN var "." name [AS] var [ON cond]
  pub data Join° : Type 0 where
    join : Side → Text → Text → Name → Named → On° → Join°

  -- [ON cond]
  pub data On° : Type 0 where
    no_on : On°
    on : Text → Cond° → On°

  -- [WHERE cond]
  pub data Where° : Type 0 where
    no_where : Where°
    filter : Text → Cond° → Where°

abbrev mutual
  -- the tokens of a condition
  pub write_cond : Cond° → List Token → List Token
  write_cond (cond a os) rest = write_and a (write_ors os rest)

  -- the tokens of what is joined by OR
  pub write_ors : Ors° → List Token → List Token
  write_ors no_ors rest = rest
  write_ors (or w a os) rest = t.Key k.Or w ∷ write_and a (write_ors os rest)

  -- the tokens of a conjunction
  pub write_and : And° → List Token → List Token
  write_and (conj n ns) rest = write_not n (write_ands ns rest)

  -- the tokens of what is joined by AND
  pub write_ands : Ands° → List Token → List Token
  write_ands no_ands rest = rest
  write_ands (and w n ns) rest = t.Key k.And w ∷ write_not n (write_ands ns rest)

  -- the tokens of a test with its NOT
  pub write_not : Not° → List Token → List Token
  write_not (maybe_not n x) rest = write_word k.Not n (write_test x rest)

  -- the tokens of a test
  pub write_test : Test° → List Token → List Token
  write_test (inside x) rest = t.Mark m.Open ∷ write_cond x (t.Mark m.Close ∷ rest)
  write_test (tested x) rest = write_tested x rest
  write_test (empty p w n u) rest = write_path p (t.Key k.Is w ∷ write_word k.Not n (t.Key k.Empty u ∷ rest))
  write_test (member a n w of p) rest =
      write_value a (write_word k.Not n (t.Key k.Member w ∷ write_word k.Of of (write_path p rest)))
  write_test (exists w b) rest = t.Key k.Exists w ∷ t.Mark m.Open ∷ write_sub b (t.Mark m.Close ∷ rest)
  write_test (quantified a op q b) rest =
      write_value a (t.Mark (comparison_mark op)
      ∷ write_quantifier q (t.Mark m.Open ∷ write_sub b (t.Mark m.Close ∷ rest)))
  write_test (among_rows a n w b) rest =
      write_value a (write_word k.Not n (t.Key k.In w ∷ t.Mark m.Open ∷ write_sub b (t.Mark m.Close ∷ rest)))
  write_test (scalar_right a op s) rest =
      write_value a (t.Mark (comparison_mark op) ∷ t.Mark m.Open ∷ write_scalar s (t.Mark m.Close ∷ rest))
  write_test (scalar_left s op a) rest =
      t.Mark m.Open ∷ write_scalar s (t.Mark m.Close ∷ t.Mark (comparison_mark op) ∷ write_value a rest)
  write_test (type_is w x e) rest =
      t.Key k.Type w ∷ t.Mark m.Open ∷ t.Word x ∷ t.Mark m.Close ∷ t.Mark m.Equal ∷ name_token e ∷ rest
  write_test (type_is_not w x e) rest =
      t.Key k.Type w ∷ t.Mark m.Open ∷ t.Word x ∷ t.Mark m.Close ∷ t.Mark m.Different ∷ name_token e ∷ rest
  write_test (type_among w x n u e es) rest = t.Key k.Type w ∷ t.Mark m.Open ∷ t.Word x ∷ t.Mark m.Close
      ∷ write_word k.Not n (t.Key k.In u ∷ t.Mark m.Open ∷ name_token e ∷ write_others (λ e rest. name_token e ∷ rest)
      es (t.Mark m.Close ∷ rest))

  -- the tokens of a nested SELECT
  pub write_sub : Sub° → List Token → List Token
  write_sub (sub w d i u x xs f) rest =
      t.Key k.Select w ∷ write_word k.Distinct d
      (write_item i (t.Key k.From u ∷ write_source x (write_sources xs (write_where f rest))))

  -- the tokens of a nested SELECT of an aggregate
  pub write_scalar : Scalar° → List Token → List Token
  write_scalar (scalar w g u d a v x xs f) rest =
      t.Key k.Select w ∷ t.Key (aggregate_word g) u ∷ t.Mark m.Open
      ∷ write_word k.Distinct d
      (write_value a (t.Mark m.Close ∷ t.Key k.From v ∷ write_source x (write_sources xs (write_where f rest))))

  -- the tokens of a range and its joins
  pub write_source : Source° → List Token → List Token
  write_source (source r js) rest = write_range r (write_joins js rest)

  -- the tokens of the ranges that are left
  pub write_sources : Sources° → List Token → List Token
  write_sources no_sources rest = rest
  write_sources (sources x xs) rest = t.Mark m.Comma ∷ write_source x (write_sources xs rest)

  -- the tokens of joins
  pub write_joins : Joins° → List Token → List Token
  write_joins no_joins rest = rest
  write_joins (joins j js) rest = write_join j (write_joins js rest)

  -- the tokens of a join
  pub write_join : Join° → List Token → List Token
  write_join (join l w x r n o) rest =
      write_side l (t.Key k.Join w ∷ t.Word x ∷ t.Mark m.Dot ∷ name_token r ∷ write_named n (write_on o rest))

  -- the tokens of ON
  pub write_on : On° → List Token → List Token
  write_on no_on rest = rest
  write_on (on w x) rest = t.Key k.On w ∷ write_cond x rest

  -- the tokens of WHERE
  pub write_where : Where° → List Token → List Token
  write_where no_where rest = rest
  write_where (filter w x) rest = t.Key k.Where w ∷ write_cond x rest

abbrev mutual
  -- the tree of a condition; OR goes from the left
  pub cond_tree : Cond° → Condition
  cond_tree (cond a os) = ors_tree (and_tree a) os

  -- what stands before, and what OR joins to it, from the left
  pub ors_tree : Condition → Ors° → Condition
  ors_tree before no_ors = before
  ors_tree before (or w a os) = ors_tree (is.Or before (and_tree a)) os

  -- the tree of a conjunction; AND goes from the left
  pub and_tree : And° → Condition
  and_tree (conj n ns) = ands_tree (not_tree n) ns

  -- what stands before, and what AND joins to it, from the left
  pub ands_tree : Condition → Ands° → Condition
  ands_tree before no_ands = before
  ands_tree before (and w n ns) = ands_tree (is.And before (not_tree n)) ns

  -- the tree of a test with its NOT
  pub not_tree : Not° → Condition
  not_tree (maybe_not n x) = negated n (test_tree x)

  -- the tree of a test
  pub test_tree : Test° → Condition
  test_tree (inside x) = cond_tree x
  test_tree (tested x) = condition_of (tested_tree x)
  test_tree (empty p w n u) = negated n (is.IsEmpty (path_tree p))
  test_tree (member a n w of p) = negated n (is.Member (value_tree a) (path_tree p))
  test_tree (exists w b) = is.Exists (sub_tree b)
  test_tree (quantified a op q b) = is.Rows (quantifier_tree q) op (value_tree a) (sub_tree b)
  test_tree (among_rows a n w b) = negated n (is.Rows against.Any c.Equal (value_tree a) (sub_tree b))
  test_tree (scalar_right a op s) = is.Rows (scalar_tree s).0 op (value_tree a) (scalar_tree s).1
  test_tree (scalar_left s op a) = is.Rows (scalar_tree s).0 (turned op) (value_tree a) (scalar_tree s).1
  test_tree (type_is w x e) = is.Type x (name_text e ∷ [])
  test_tree (type_is_not w x e) = is.Not (is.Type x (name_text e ∷ []))
  test_tree (type_among w x n u e es) = negated n (is.Type x (name_text e ∷ map name_text es))

  -- the tree of a nested SELECT
  pub sub_tree : Sub° → Block
  sub_tree (sub w d i u x xs f) =
      roll-Block (record {
        is_distinct = is_written d;
        item = item_tree i;
        sources = source_tree x ∷ sources_trees xs;
        filter = where_tree f;
      })

  -- the aggregate of a nested SELECT, and the SELECT of what that is of
  pub scalar_tree : Scalar° → Against × Block
  scalar_tree (scalar w g u d a v x xs f) = (
    against.One g (is_written d),
    roll-Block (record {
      is_distinct = false;
      item = record { value = value_tree a; name = None };
      sources = source_tree x ∷ sources_trees xs;
      filter = where_tree f;
    }),
  )

  -- the tree of a range and its joins
  pub source_tree : Source° → Source
  source_tree (source r js) =
      roll-Source (record { origin = range_origin r; variable = range_variable r; joins = joins_trees js })

  -- the trees of the ranges that are left
  pub sources_trees : Sources° → List Source
  sources_trees no_sources = []
  sources_trees (sources x xs) = source_tree x ∷ sources_trees xs

  -- the trees of joins
  pub joins_trees : Joins° → List Join
  joins_trees no_joins = []
  joins_trees (joins j js) = join_tree j ∷ joins_trees js

  -- the tree of a join
  pub join_tree : Join° → Join
  join_tree (join l w x r n o) =
      roll-Join (record { is_left = is_left l; of = x; relation = name_text r; variable = n.name; on = on_tree o })

  -- the condition behind ON, where it is written
  pub on_tree : On° → Option Condition
  on_tree no_on = None
  on_tree (on w x) = Some (cond_tree x)

  -- the condition behind WHERE, where it is written
  pub where_tree : Where° → Option Condition
  where_tree no_where = None
  where_tree (filter w x) = Some (cond_tree x)

-- ---- statements

-- key = value [ASC | DESC]
pub data Direction : Type 0 where
  unwritten : Direction
  ascending : Text → Direction
  descending : Text → Direction

-- the tokens of a direction
abbrev pub write_direction : Direction → List Token → List Token
write_direction unwritten rest = rest
write_direction (ascending w) rest = t.Key k.Asc w ∷ rest
write_direction (descending w) rest = t.Key k.Desc w ∷ rest

-- whether DESC is written
abbrev pub is_descending : Direction → Bool
is_descending unwritten = false
is_descending (ascending w) = false
is_descending (descending w) = true

-- value [ASC | DESC] (chapter 4.10)
pub data Key° : Type 0 where
  key : Value° → Direction → Key°

-- the tokens of a key
abbrev pub write_key : Key° → List Token → List Token
write_key (key a d) rest = write_value a (write_direction d rest)

-- the path that is all of a value, without parentheses, if one is
abbrev pub bare_steps : Value° → Option Steps
bare_steps (sum (product (unsigned (path p)) no_times) no_sums) = Some p
bare_steps _ = None

-- a key: what it goes by, and whether it descends
abbrev pub key_tree : Key° → SortKey
key_tree (key a d) =
    record { by = sorted_by (option_map path_tree (bare_steps a)) (value_tree a); is_descending = is_descending d }

-- GROUP BY path {"," path}, ORDER BY key {"," key}, HAVING cond
pub data Clause (A : Type 0) : Type 0 where
  no_clause : Clause A
  clause : Text → Text → A → List A → Clause A

-- the tokens of a clause with BY, where it is written
abbrev pub write_clause : {A : Type 0} → Keyword → (A → List Token → List Token) → Clause A → List Token → List Token
write_clause kind write no_clause rest = rest
write_clause kind write (clause w u a all) rest = t.Key kind w ∷ t.Key k.By u ∷ write a (write_others write all rest)

-- the trees of a clause with BY; none where it isn't written
abbrev pub clause_trees : {A B : Type 0} → (A → B) → Clause A → List B
clause_trees tree no_clause = []
clause_trees tree (clause w u a all) = tree a ∷ map tree all

-- [HAVING cond] (chapter 4.8)
pub data Having° : Type 0 where
  no_having : Having°
  having : Text → Cond° → Having°

-- the tokens of HAVING
abbrev pub write_having : Having° → List Token → List Token
write_having no_having rest = rest
write_having (having w x) rest = t.Key k.Having w ∷ write_cond x rest

-- the condition behind HAVING, where it is written
abbrev pub having_tree : Having° → Option Condition
having_tree no_having = None
having_tree (having w x) = Some (cond_tree x)

-- what is set, and to what: a value, or NULL
pub data Set° : Type 0 where
  to_value : Text → Name → Value° → Set°
  to_null : Text → Name → Text → Set°

-- the tokens of an assignment
abbrev pub write_set : Set° → List Token → List Token
write_set (to_value x n a) rest = t.Word x ∷ t.Mark m.Dot ∷ name_token n ∷ t.Mark m.Equal ∷ write_value a rest
write_set (to_null x n w) rest = t.Word x ∷ t.Mark m.Dot ∷ name_token n ∷ t.Mark m.Equal ∷ t.Key k.Null w ∷ rest

-- an assignment: variable, name, and the value if it isn't NULL
abbrev pub set_tree : Set° → Assignment
set_tree (to_value x n a) = record { variable = x; name = name_text n; value = Some (value_tree a) }
set_tree (to_null x n w) = record { variable = x; name = name_text n; value = None }

-- FROM of a SELECT that isn't nested has ranges of entities alone
pub data From° : Type 0 where
  from_entity : Name → Named → Joins° → From°

-- the tokens of a range of an entity and its joins
abbrev pub write_from : From° → List Token → List Token
write_from (from_entity e n js) rest = name_token e ∷ write_named n (write_joins js rest)

-- the tree of a range of an entity and its joins
abbrev pub from_tree : From° → Source
from_tree (from_entity e n js) =
    roll-Source (record { origin = from.Entity (name_text e); variable = n.name; joins = joins_trees js })

-- a statement: SELECT, UPDATE or DELETE (chapter 4.2)
pub data Statement° : Type 0 where
  -- SELECT [DISTINCT] item {"," item} FROM from [WHERE cond] [GROUP BY ..] [HAVING cond] [ORDER BY
  -- ..]
  select : Text → Written → Item° → List Item° → Text → From° → List From° → Where° → Clause Steps → Having° →
      Clause Key° → Statement°
  -- UPDATE Entity [AS] var SET var "." name "=" (value | NULL) {..} [WHERE cond]
  update : Text → Name → Named → Text → Set° → List Set° → Where° → Statement°
  -- DELETE FROM Entity [[AS] var] [WHERE cond]
  delete : Text → Text → Name → Option Named → Where° → Statement°

-- the tokens of a statement
abbrev pub write_statement : Statement° → List Token
write_statement (select w d i is u x xs f gs h ks) =
    t.Key k.Select w ∷ write_word k.Distinct d
    (write_item i (write_others write_item is (t.Key k.From u ∷ write_from x (write_others write_from xs
    (write_where f (write_clause k.Group write_path gs (write_having h (write_clause k.Order write_key ks []))))))))
write_statement (update w e n u a all f) =
    t.Key k.Update w ∷ name_token e
    ∷ write_named n (t.Key k.Set u ∷ write_set a (write_others write_set all (write_where f [])))
write_statement (delete w u e n f) =
    t.Key k.Delete w ∷ t.Key k.From u ∷ name_token e ∷ write_optional_name n (write_where f [])

-- the tree of a statement
abbrev pub statement_tree : Statement° → Query
statement_tree (select w d i is u x xs f gs h ks) =
    q.Select (record {
      is_distinct = is_written d;
      items = item_tree i ∷ map item_tree is;
      sources = from_tree x ∷ map from_tree xs;
      filter = where_tree f;
      groups = clause_trees path_tree gs;
      having = having_tree h;
      order = clause_trees key_tree ks;
    })
statement_tree (update w e n u a all f) = q.Update (name_text e) n.name (set_tree a ∷ map set_tree all) (where_tree f)
statement_tree (delete w u e n f) = q.Delete (name_text e) (optional_name n) (where_tree f)

-- The tokens are those of a statement of the grammar, and this is its tree.
abbrev pub IsStatement : List Token → Query → Type 0
IsStatement tokens query = (d : Statement°) × (write_statement d ≡ tokens) × (statement_tree d ≡ query)
