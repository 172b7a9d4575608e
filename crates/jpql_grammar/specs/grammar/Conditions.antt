-- How conditions and nested SELECTs are read from tokens, from the left: each function gives the
-- tree and the tokens after it.
use Rattle.std.specs.Prelude.{ℕ, zero, suc, Bool, true, false, ◌&&◌, ◌||◌, List, [], ◌∷◌, ◌++◌, drop, length, Option}
use Rattle.std.specs.Prelude.{Some, None, if◌then◌else◌}
use Rattle.jpql_grammar.specs.declared.grammar.token.Keyword.{Keyword}
use Rattle.jpql_grammar.specs.declared.grammar.token.Keyword.TheVariants as k
use Rattle.jpql_grammar.specs.declared.grammar.token.Mark.TheVariants as m
use Rattle.jpql_grammar.specs.declared.grammar.token.Token.{Token}
use Rattle.jpql_grammar.specs.declared.grammar.token.Token.TheVariants as t
use Rattle.jpql_trees.specs.declared.tree.Aggregate.{Aggregate}
use Rattle.jpql_trees.specs.declared.tree.Aggregate.TheVariants as g
use Rattle.jpql_trees.specs.declared.tree.Against.{Against}
use Rattle.jpql_trees.specs.declared.tree.Against.TheVariants as against
use Rattle.jpql_trees.specs.declared.tree.Comparison.{Comparison}
use Rattle.jpql_trees.specs.declared.tree.Comparison.TheVariants as c
use Rattle.jpql_trees.specs.declared.tree.Path.{Path}
use Rattle.jpql_trees.specs.declared.tree.Value.{Value}
use Rattle.jpql_trees.specs.declared.tree.Value.TheVariants as v
use Rattle.jpql_trees.specs.declared.tree.Item.{Item}
use Rattle.jpql_trees.specs.declared.tree.Origin.{Origin}
use Rattle.jpql_trees.specs.declared.tree.Origin.TheVariants as from
use Rattle.jpql_trees.specs.declared.tree.Condition.{Condition}
use Rattle.jpql_trees.specs.declared.tree.Condition.TheVariants as is
use Rattle.jpql_trees.specs.declared.tree.Block.{Block, roll-Block}
use Rattle.jpql_trees.specs.declared.tree.Source.{Source, roll-Source}
use Rattle.jpql_trees.specs.declared.tree.Join.{Join, roll-Join}
use Rattle.jpql_trees.specs.tree.Names.{Text}
use Rattle.jpql_trees.specs.tree.Steps.{◌>>=◌}
use Rattle.jpql_grammar.specs.grammar.Parts.{turned}
use Rattle.jpql_grammar.specs.grammar.Tests.{negated_if, condition_of}
use Rattle.jpql_grammar.specs.grammar.Values.{Read, sees, after, is_word, after_word, optional_word, name_at}
use Rattle.jpql_grammar.specs.grammar.Values.{variable_at, path_at, list_at, closed, comparison_at, sees_comparison}
use Rattle.jpql_grammar.specs.grammar.Values.{tested_at, opens_condition, value_at}

-- ---- tests of paths

-- whether a variable comes next
abbrev pub begins_variable : List Token → Bool
begins_variable [] = false
begins_variable (t.Word w ∷ rest) = true
begins_variable (_ ∷ rest) = false

-- a value that is a path, where it is written as one
abbrev pub bare_path : Bool → Value → Option Path
bare_path true (v.Path p) = Some p
bare_path true _ = None
bare_path false _ = None

-- whether a test of a path follows a value: IS [NOT] EMPTY, or [NOT] MEMBER
abbrev pub path_follows : List Token → Bool
path_follows ts =
    if is_word k.Is ts then is_word k.Empty (optional_word k.Not (drop 1 ts)).1
    else is_word k.Member (optional_word k.Not ts).1

-- `a` is the value that the test begins with
module _ (a : Value) where
  -- [NOT] EMPTY, after IS, where the value is written as a path or not (chapter 4.6.12)
  unfoldable pub empty_at : Bool → Read Condition
  empty_at bare ts = let no = optional_word k.Not ts in
      after_word k.Empty no.1 >>= λ rest. bare_path bare a >>= λ p. Some (negated_if no.0 (is.IsEmpty p), rest)

  -- [NOT] MEMBER [OF] path (chapter 4.6.13)
  unfoldable pub member_at : Read Condition
  member_at ts = let no = optional_word k.Not ts in
      after_word k.Member no.1 >>= λ more. path_at (optional_word k.Of more).1
      >>= λ p. Some (negated_if no.0 (is.Member a p.0), p.1)

  -- a test of a path
  unfoldable pub path_tested_at : Bool → Read Condition
  path_tested_at bare ts = if is_word k.Is ts then empty_at bare (drop 1 ts) else member_at ts

-- a test of values behind its first value, where values nest so deep (chapters 4.6.7 to 4.6.11)
unfoldable pub value_tested_at : ℕ → Value → Read Condition
value_tested_at n a ts = tested_at (value_at n) a ts >>= λ x. Some (condition_of x.0, x.1)

-- ---- TYPE, after the word

-- [NOT] IN "(" Entity {"," Entity} ")" (chapter 4.7.5)
unfoldable pub entities_at : Text → Read Condition
entities_at x ts =
    let no = optional_word k.Not ts in
    after_word k.In no.1 >>= λ a. after m.Open a >>= λ b. closed (list_at name_at b)
    >>= λ all. Some (negated_if no.0 (is.Type x all.0), all.1)

-- an entity, after "=" or "<>" (chapter 4.7.5)
unfoldable pub type_is_at : Bool → Text → Read Condition
type_is_at negated x ts = name_at ts >>= λ e. Some (negated_if negated (is.Type x (e.0 ∷ [])), e.1)

-- what follows TYPE "(" var ")": a comparison with an entity, or a list
unfoldable pub entity_at : Text → Read Condition
entity_at x ts =
    if sees m.Equal ts then type_is_at false x (drop 1 ts)
    else if sees m.Different ts then type_is_at true x (drop 1 ts)
    else entities_at x ts

-- "(" var ")" and what follows, after TYPE (chapter 4.7.5)
unfoldable pub typed_at : Read Condition
typed_at ts = after m.Open ts >>= λ a. variable_at a >>= λ x. after m.Close x.1 >>= λ b. entity_at x.0 b

-- ---- what stands beside rows

-- ALL, ANY or SOME (chapter 4.6.15)
unfoldable pub quantifier_at : Read Against
quantifier_at [] = None
quantifier_at (t.Key k.All w ∷ rest) = Some (against.All, rest)
quantifier_at (t.Key k.Any w ∷ rest) = Some (against.Any, rest)
quantifier_at (t.Key k.Some w ∷ rest) = Some (against.Any, rest)
quantifier_at (_ ∷ rest) = None

-- the word of an aggregate (chapter 4.9.5)
unfoldable pub aggregate_at : Read Aggregate
aggregate_at [] = None
aggregate_at (t.Key k.Count w ∷ rest) = Some (g.Count, rest)
aggregate_at (t.Key k.Sum w ∷ rest) = Some (g.Sum, rest)
aggregate_at (t.Key k.Min w ∷ rest) = Some (g.Min, rest)
aggregate_at (t.Key k.Max w ∷ rest) = Some (g.Max, rest)
aggregate_at (_ ∷ rest) = None

-- `n` is how deep values may nest
module _ (n : ℕ) where
  -- [DISTINCT] value ")"
  unfoldable pub operand_at : Read (Bool × Value)
  operand_at ts =
      let d = optional_word k.Distinct ts in closed (value_at n d.1) >>= λ a. Some ((d.0, a.0), a.1)

  -- aggregate "(" [DISTINCT] value ")": the aggregate, and what it is of
  unfoldable pub aggregated_at : Read (Against × Value)
  aggregated_at ts = aggregate_at ts >>= λ h. after m.Open h.1 >>= λ more. operand_at more
      >>= λ a. Some ((against.One h.0 a.0.0, a.0.1), a.1)

  -- op value
  unfoldable pub opposed_at : Read (Comparison × Value)
  opposed_at ts = comparison_at ts >>= λ op. value_at n op.1 >>= λ a. Some ((op.0, a.0), a.1)

-- whether "(" SELECT comes next
abbrev pub begins_rows : List Token → Bool
begins_rows ts = sees m.Open ts && is_word k.Select (drop 1 ts)

-- what comes after "(" SELECT
abbrev pub selected : List Token → Option (List Token)
selected ts = after m.Open ts >>= λ more. after_word k.Select more

-- whether ALL, ANY or SOME comes next
abbrev pub quantifies : List Token → Bool
quantifies ts = is_word k.All ts || is_word k.Any ts || is_word k.Some ts

-- whether rows follow a value: a comparison with ALL, ANY, SOME or "(" SELECT behind it, or [NOT] IN
-- with "(" SELECT
abbrev pub rows_follow : List Token → Bool
rows_follow ts =
    if sees_comparison ts then quantifies (drop 1 ts) || begins_rows (drop 1 ts)
    else (let no = optional_word k.Not ts in is_word k.In no.1 && begins_rows (drop 1 no.1))

-- ---- items, names

-- [AS] name
unfoldable pub named_at : Read Text
named_at ts = variable_at (optional_word k.As ts).1

-- [[AS] name]
unfoldable pub optional_name_at : Read (Option Text)
optional_name_at ts =
    if is_word k.As ts || begins_variable ts then (named_at ts >>= λ w. Some (Some w.0, w.1)) else Some (None, ts)

-- value [[AS] name] (chapter 4.9)
unfoldable pub item_at : ℕ → Read Item
item_at n ts = value_at n ts >>= λ a. optional_name_at a.1 >>= λ w. Some (record { value = a.0; name = w.0 }, w.1)

-- a variable and a dot
abbrev pub begins_related : List Token → Bool
begins_related ts = begins_variable ts && sees m.Dot (drop 1 ts)

-- var "." name
unfoldable pub related_at : Read (Text × Text)
related_at ts = variable_at ts >>= λ x. after m.Dot x.1 >>= λ more. name_at more >>= λ r. Some ((x.0, r.0), r.1)

-- what a variable of FROM ranges over; in a nested SELECT also a relation
unfoldable pub origin_at : Bool → Read Origin
origin_at nested ts =
    if nested && begins_related ts then (related_at ts >>= λ r. Some (from.Related r.0.0 r.0.1, r.1))
    else name_at ts >>= λ e. Some (from.Entity e.0, e.1)

-- whether a join comes next
abbrev pub begins_join : List Token → Bool
begins_join ts = is_word k.Join ts || is_word k.Inner ts || is_word k.Left ts

-- [INNER | LEFT [OUTER]] JOIN
unfoldable pub side_at : Read Bool
side_at ts =
    if is_word k.Left ts then (after_word k.Join (optional_word k.Outer (drop 1 ts)).1 >>= λ rest. Some (true, rest))
    else after_word k.Join (optional_word k.Inner ts).1 >>= λ rest. Some (false, rest)

-- ---- conditions

-- `inner` reads a condition inside parentheses, or after a word
module _ (inner : Read Condition) where
  -- [WHERE cond], [ON cond], [HAVING cond]
  unfoldable pub clause_at : Keyword → Read (Option Condition)
  clause_at word ts = if is_word word ts then (inner (drop 1 ts) >>= λ a. Some (Some a.0, a.1)) else Some (None, ts)

  -- [INNER | LEFT [OUTER]] JOIN var "." name [AS] var [ON cond] (chapter 4.4.5)
  unfoldable pub join_at : Read Join
  join_at ts = side_at ts >>= λ left. related_at left.1 >>= λ r. named_at r.1 >>= λ w. clause_at k.On w.1 >>= λ on.
      Some (roll-Join (record { is_left = left.0; of = r.0.0; relation = r.0.1; variable = w.0; on = on.0 }), on.1)

  -- {join}, at most so many, after those that were found
  unfoldable pub joins_at : ℕ → List Join → Read (List Join)
  joins_at zero found ts = Some (found, ts)
  joins_at (suc j) found ts =
      if begins_join ts then (join_at ts >>= λ a. joins_at j (found ++ a.0 ∷ []) a.1) else Some (found, ts)

  -- a range and its joins (chapter 4.4.3)
  unfoldable pub source_at : Bool → Read Source
  source_at nested ts = origin_at nested ts >>= λ o. named_at o.1 >>= λ w. joins_at (length w.1) [] w.1 >>= λ js.
      Some (roll-Source (record { origin = o.0; variable = w.0; joins = js.0 }), js.1)

-- `n` is how deep values may nest
module _ (n : ℕ) (inner : Read Condition) where
  -- FROM subrange {join} {..} [WHERE cond], behind the item of a nested SELECT
  unfoldable pub ranges_at : Read (List Source × Option Condition)
  ranges_at ts = after_word k.From ts >>= λ more. list_at (source_at inner true) more
      >>= λ xs. clause_at inner k.Where xs.1 >>= λ f. Some ((xs.0, f.0), f.1)

  -- after SELECT
  unfoldable pub block_at : Read Block
  block_at ts =
      let d = optional_word k.Distinct ts in
      item_at n d.1 >>= λ i. ranges_at i.1 >>= λ r.
      Some (roll-Block (record { is_distinct = d.0; item = i.0; sources = r.0.0; filter = r.0.1 }), r.1)

  -- after SELECT, of an aggregate
  unfoldable pub scalar_at : Read (Against × Block)
  scalar_at ts = aggregated_at n ts >>= λ a. ranges_at a.1 >>= λ r.
      Some (
        (
          a.0.0,
          roll-Block (record {
            is_distinct = false;
            item = record { value = a.0.1; name = None };
            sources = r.0.0;
            filter = r.0.1;
          }),
        ),
        r.1,
      )

  -- "(" SELECT .. ")" (chapter 4.6.16)
  unfoldable pub subquery_at : Read Block
  subquery_at ts = selected ts >>= λ more. closed (block_at more)

  -- "(" SELECT aggregate .. ")"
  unfoldable pub enclosed_at : Read (Against × Block)
  enclosed_at ts = selected ts >>= λ more. closed (scalar_at more)

  -- after EXISTS
  unfoldable pub exists_at : Read Condition
  exists_at ts = subquery_at ts >>= λ x. Some (is.Exists x.0, x.1)

  -- "(" scalar ")", or (ALL | ANY | SOME) "(" rows ")", behind a comparison
  unfoldable pub against_at : Read (Against × Block)
  against_at ts =
      if begins_rows ts then enclosed_at ts
      else quantifier_at ts >>= λ q. subquery_at q.1 >>= λ b. Some ((q.0, b.0), b.1)

  -- "(" scalar ")" op value
  unfoldable pub scalar_first_at : Read Condition
  scalar_first_at ts = enclosed_at ts >>= λ s. opposed_at n s.1 >>= λ a.
      Some (is.Rows s.0.0 (turned a.0.0) a.0.1 s.0.1, a.1)

  -- op (ALL | ANY | SOME) "(" rows ")", op "(" scalar ")" (chapters 4.6.15 and 4.6.16)
  unfoldable pub beside_at : Value → Read Condition
  beside_at a ts = comparison_at ts >>= λ op. against_at op.1 >>= λ b. Some (is.Rows b.0.0 op.0 a b.0.1, b.1)

  -- [NOT] IN "(" rows ")" (chapter 4.6.9)
  unfoldable pub among_rows_at : Value → Read Condition
  among_rows_at a ts = let no = optional_word k.Not ts in
      after_word k.In no.1 >>= λ more. subquery_at more >>= λ b.
      Some (negated_if no.0 (is.Rows against.Any c.Equal a b.0), b.1)

  -- what follows a value: rows, a test of a path, or a test of values
  unfoldable pub follows_at : Value → Bool → Read Condition
  follows_at a bare ts =
      if rows_follow ts then (if sees_comparison ts then beside_at a ts else among_rows_at a ts)
      else if path_follows ts then path_tested_at a bare ts
      else value_tested_at n a ts

  -- a value, and the test of it
  unfoldable pub valued_at : Read Condition
  valued_at ts = value_at n ts >>= λ a. follows_at a.0 (begins_variable ts) a.1

  -- a test that TYPE or a value begins
  unfoldable pub simple_at : Read Condition
  simple_at ts = if is_word k.Type ts then typed_at (drop 1 ts) else valued_at ts

  -- "(" scalar ")" and what follows, "(" cond ")", EXISTS, or a test that TYPE or a value begins
  unfoldable pub test_at : Read Condition
  test_at ts =
      if begins_rows ts then scalar_first_at ts
      else if opens_condition ts then closed (inner (drop 1 ts))
      else if is_word k.Exists ts then exists_at (drop 1 ts)
      else simple_at ts

  -- [NOT] test (chapter 4.6.5)
  unfoldable pub not_at : Read Condition
  not_at ts = if is_word k.Not ts then (test_at (drop 1 ts) >>= λ a. Some (is.Not a.0, a.1)) else test_at ts

  -- {AND not}, at most so many, after what stands before
  unfoldable pub ands_at : ℕ → Condition → Read Condition
  ands_at zero before ts = Some (before, ts)
  ands_at (suc j) before ts =
      if is_word k.And ts then (not_at (drop 1 ts) >>= λ a. ands_at j (is.And before a.0) a.1) else Some (before, ts)

  -- not {AND not} (chapter 4.6.5)
  unfoldable pub and_at : Read Condition
  and_at ts = not_at ts >>= λ a. ands_at (length a.1) a.0 a.1

  -- {OR and}, at most so many, after what stands before
  unfoldable pub ors_at : ℕ → Condition → Read Condition
  ors_at zero before ts = Some (before, ts)
  ors_at (suc j) before ts =
      if is_word k.Or ts then (and_at (drop 1 ts) >>= λ a. ors_at j (is.Or before a.0) a.1) else Some (before, ts)

  -- and {OR and} (chapter 4.6.5)
  unfoldable pub cond_level_at : Read Condition
  cond_level_at ts = and_at ts >>= λ a. ors_at (length a.1) a.0 a.1

-- with conditions nested below this
unfoldable pub cond_at : ℕ → Read Condition
cond_at zero ts = None
cond_at (suc n) ts = cond_level_at n (cond_at n) ts
