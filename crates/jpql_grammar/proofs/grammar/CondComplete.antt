-- What the grammar writes as a condition or a nested SELECT is read, with its tree.
use Rattle.std.proofs.Common.{◌≡◌, ℕ, zero, suc, ◌≤◌, Bool, true, false, List, [], ◌∷◌, ◌++◌, map, length, Option, Some, None, refl, ap, ◌∙◌, arith, append-nil, append_assoc}
use Rattle.jpql_grammar.specs.declared.grammar.token.Keyword.{Keyword}
use Rattle.jpql_grammar.specs.declared.grammar.token.Keyword.TheVariants as k
use Rattle.jpql_grammar.specs.declared.grammar.token.Mark.TheVariants as m
use Rattle.jpql_grammar.specs.declared.grammar.token.Token.{Token}
use Rattle.jpql_grammar.specs.declared.grammar.token.Token.TheVariants as t
use Rattle.jpql_trees.specs.declared.tree.Aggregate.{Aggregate}
use Rattle.jpql_trees.specs.declared.tree.Aggregate.TheVariants as aggregate
use Rattle.jpql_trees.specs.declared.tree.Against.TheVariants as against
use Rattle.jpql_trees.specs.declared.tree.Comparison.{Comparison}
use Rattle.jpql_trees.specs.declared.tree.Condition.{Condition}
use Rattle.jpql_trees.specs.declared.tree.Join.{Join}
use Rattle.jpql_trees.specs.tree.Names.{Text}
use Rattle.jpql_grammar.specs.grammar.Parts.{Steps, write_path, Name, plain, word, name_token, name_text, aggregate_word, Quantifier°, every, any, some, write_quantifier, quantifier_tree}
use Rattle.jpql_grammar.specs.grammar.Tests.{Written, write_word, is_written, comparison_mark}
use Rattle.jpql_grammar.specs.grammar.ValueGrammar.{Value°, Tested°, write_value, write_tested, value_tree}
use Rattle.jpql_grammar.specs.grammar.Grammar.{Named, write_named, write_optional_name, optional_name, Item°, write_item, write_others, item_tree, Side, inner, left, write_side, is_left, Range, entity, related, write_range, Cond°, cond, Ors°, no_ors, or, And°, conj, Ands°, no_ands, and, Not°, maybe_not, Test°, inside, tested, empty, member, exists, quantified, among_rows, scalar_right, scalar_left, type_is, type_is_not, type_among, Sub°, sub, Scalar°, scalar, Source°, source, Sources°, no_sources, sources, Joins°, no_joins, joins, Join°, join, On°, no_on, on, Where°, no_where, filter, write_cond, write_ors, write_and, write_ands, write_not, write_test, write_sub, write_scalar, write_source, write_sources, write_joins, write_join, write_on, write_where, cond_tree, ors_tree, and_tree, ands_tree, not_tree, test_tree, sub_tree, scalar_tree, source_tree, sources_trees, joins_trees, join_tree, on_tree, where_tree}
use Rattle.jpql_grammar.specs.grammar.Values.{goes_on_at, Read, sees, is_word, variable_at, list_at, closed}
use Rattle.jpql_grammar.specs.grammar.Conditions.{begins_variable, simple_at, named_at, optional_name_at, item_at, begins_related, related_at, origin_at, begins_join, side_at, clause_at, join_at, joins_at, source_at, quantifier_at, aggregate_at, operand_at, aggregated_at, opposed_at, begins_rows, quantifies, rows_follow, ranges_at, block_at, scalar_at, subquery_at, enclosed_at, exists_at, against_at, scalar_first_at, beside_at, among_rows_at, follows_at, test_at, not_at, ands_at, and_at, ors_at, cond_level_at, cond_at}
use Rattle.jpql_grammar.specs.grammar.Same.{same_keyword}
use Rattle.jpql_grammar.proofs.grammar.Skips.{opened, close, comma, value_skip, quantifier_skip, scalar_skip, named_skip, word_skip, item_skip, side_skip, source_skip, sources_skip, on_skip, not_skip, and_skip}
use Rattle.jpql_grammar.proofs.grammar.Calls.{is_call}
use Rattle.jpql_grammar.proofs.grammar.Tools.{word_complete}
use Rattle.jpql_grammar.proofs.grammar.PartsComplete.{Ends, After, ends_key, list_complete, ends_close, value_no_word, value_no_exists, value_no_distinct}
use Rattle.jpql_grammar.proofs.grammar.Behind.{value_opens, cond_opens}
use Rattle.jpql_grammar.proofs.grammar.TestedComplete.{comparison_ends, comparison_seen, comparison_goes, comparison_complete, first_value, behind_value, tested_written, tested_no_word, behind_goes}
use Rattle.jpql_grammar.proofs.grammar.ValuesComplete.{value_read}
use Rattle.jpql_grammar.proofs.grammar.TestsComplete.{value_no_rows, follows_complete, tested_complete, empty_complete, member_complete, name_complete, type_complete, type_not_complete, type_among_complete}

-- ---- what may follow a condition, or a part of FROM

unfoldable pub stops_word : Keyword → Bool
stops_word k.Where = true
stops_word k.Group = true
stops_word k.Having = true
stops_word k.Order = true
stops_word k.Join = true
stops_word k.Inner = true
stops_word k.Left = true
stops_word _ = false

unfoldable pub stops : List Token → Bool
unfolding stops_word
stops [] = true
stops (t.Mark m.Close ∷ ts) = true
stops (t.Mark m.Comma ∷ ts) = true
stops (t.Key j w ∷ ts) = stops_word j
stops (_ ∷ ts) = false

pub record Stopped (ts : List Token) : Type 0 where
  pub after : After ts
  pub and : is_word k.And ts ≡ false
  pub or : is_word k.Or ts ≡ false
  pub on : is_word k.On ts ≡ false

pub stopped : (ts : List Token) → stops ts ≡ true → Stopped ts
unfolding stops stops_word
stopped [] h = record { after = record { ends = record { dot = refl; star = refl; plus = refl; minus = refl }; escape = refl; goes = refl }; and = refl; or = refl; on = refl }
stopped (t.Mark m.Close ∷ ts) h = record { after = record { ends = record { dot = refl; star = refl; plus = refl; minus = refl }; escape = refl; goes = refl }; and = refl; or = refl; on = refl }
stopped (t.Mark m.Comma ∷ ts) h = record { after = record { ends = record { dot = refl; star = refl; plus = refl; minus = refl }; escape = refl; goes = refl }; and = refl; or = refl; on = refl }
stopped (t.Key k.Where w ∷ ts) h = record { after = record { ends = ends_key; escape = refl; goes = refl }; and = refl; or = refl; on = refl }
stopped (t.Key k.Group w ∷ ts) h = record { after = record { ends = ends_key; escape = refl; goes = refl }; and = refl; or = refl; on = refl }
stopped (t.Key k.Having w ∷ ts) h = record { after = record { ends = ends_key; escape = refl; goes = refl }; and = refl; or = refl; on = refl }
stopped (t.Key k.Order w ∷ ts) h = record { after = record { ends = ends_key; escape = refl; goes = refl }; and = refl; or = refl; on = refl }
stopped (t.Key k.Join w ∷ ts) h = record { after = record { ends = ends_key; escape = refl; goes = refl }; and = refl; or = refl; on = refl }
stopped (t.Key k.Inner w ∷ ts) h = record { after = record { ends = ends_key; escape = refl; goes = refl }; and = refl; or = refl; on = refl }
stopped (t.Key k.Left w ∷ ts) h = record { after = record { ends = ends_key; escape = refl; goes = refl }; and = refl; or = refl; on = refl }
stopped (t.Key _ w ∷ ts) h = absurd cc
stopped (_ ∷ ts) h = absurd cc

-- ---- names, items, relations

pub named_complete : (n : Named) (rest : List Token) → named_at (write_named n rest) ≡ Some (n.name, rest)
unfolding named_at variable_at
named_complete n rest = rw (word_complete k.As n.as_word (t.Word n.name ∷ rest) refl)

-- what may follow an item
pub record AfterItem (ts : List Token) : Type 0 where
  pub ends : Ends ts
  pub as_word : is_word k.As ts ≡ false
  pub variable : begins_variable ts ≡ false

named_begun : (w : Written) (n : Text) (rest : List Token) → optional_name_at (write_named (record { as_word = w; name = n }) rest) ≡ Some (Some n, rest)
unfolding optional_name_at
named_begun None n rest = rw (named_complete (record { as_word = None; name = n }) rest)
named_begun (Some w) n rest = rw (named_complete (record { as_word = Some w; name = n }) rest)

pub optional_name_complete : (n : Option Named) (rest : List Token) → is_word k.As rest ≡ false → begins_variable rest ≡ false
    → optional_name_at (write_optional_name n rest) ≡ Some (optional_name n, rest)
unfolding optional_name_at
optional_name_complete None rest e f = rw (e, f)
optional_name_complete (Some n) rest e f = named_begun n.as_word n.name rest

named_ends : (w : Written) (n : Text) (rest : List Token) → Ends (write_named (record { as_word = w; name = n }) rest)
named_ends None n rest = record { dot = refl; star = refl; plus = refl; minus = refl }
named_ends (Some w) n rest = ends_key

optional_name_ends : (n : Option Named) (rest : List Token) → Ends rest → Ends (write_optional_name n rest)
optional_name_ends None rest e = e
optional_name_ends (Some n) rest e = named_ends n.as_word n.name rest

pub item_complete : (n : ℕ) (i : Item°) (rest : List Token) → length (write_item i rest) ≤ n → AfterItem rest
    → item_at n (write_item i rest) ≡ Some (item_tree i, rest)
unfolding item_at
item_complete n i rest h e =
    rw (value_read n i.value (write_optional_name i.name rest) h (optional_name_ends i.name rest e.ends), optional_name_complete i.name rest e.as_word e.variable)

pub related_complete : (x : Text) (r : Name) (rest : List Token) → related_at (t.Word x ∷ t.Mark m.Dot ∷ name_token r ∷ rest) ≡ Some ((x, name_text r), rest)
unfolding related_at variable_at
related_complete x r rest = rw (name_complete r rest)

side_complete : (l : Side) (w : Text) (rest : List Token) → side_at (write_side l (t.Key k.Join w ∷ rest)) ≡ Some (is_left l, rest)
unfolding side_at
side_complete (inner None) w rest = refl
side_complete (inner (Some v)) w rest = refl
side_complete (left v None) w rest = refl
side_complete (left v (Some u)) w rest = refl

side_begins : (l : Side) (w : Text) (rest : List Token) → begins_join (write_side l (t.Key k.Join w ∷ rest)) ≡ true
side_begins (inner None) w rest = refl
side_begins (inner (Some v)) w rest = refl
side_begins (left v outer) w rest = refl

side_stops : (l : Side) (w : Text) (rest : List Token) → stops (write_side l (t.Key k.Join w ∷ rest)) ≡ true
unfolding stops stops_word
side_stops (inner None) w rest = refl
side_stops (inner (Some v)) w rest = refl
side_stops (left v outer) w rest = refl

joins_stop : (js : Joins°) (rest : List Token) → stops rest ≡ true → stops (write_joins js rest) ≡ true
joins_stop no_joins rest e = e
joins_stop (joins (join l w x r n o) js) rest e = side_stops l w _

join_begins : (x : Join°) (rest : List Token) → begins_join (write_join x rest) ≡ true
join_begins (join l w x r n o) rest = side_begins l w _

join_longer : (x : Join°) (rest : List Token) → suc (length rest) ≤ length (write_join x rest)
join_longer (join l w x r n o) rest =
    omega (arith, (side_skip l (t.Key k.Join w ∷ t.Word x ∷ t.Mark m.Dot ∷ name_token r ∷ write_named n (write_on o rest))).long, (named_skip n (write_on o rest)).long, (on_skip o rest).long)

entity_begins : (e : Name) (n : Named) (rest : List Token) → begins_related (name_token e ∷ write_named n rest) ≡ false
entity_begins (word j w) n rest = refl
entity_begins (plain w) n rest = named_no_dot n.as_word n.name rest
  where
    named_no_dot : (w : Written) (n : Text) (rest : List Token) → sees m.Dot (write_named (record { as_word = w; name = n }) rest) ≡ false
    named_no_dot None n rest = refl
    named_no_dot (Some w) n rest = refl

sources_list : Sources° → List Source°
sources_list no_sources = []
sources_list (sources x xs) = x ∷ sources_list xs

sources_written : (xs : Sources°) (rest : List Token) → write_sources xs rest ≡ write_others write_source (sources_list xs) rest
unfolding sources_list
sources_written no_sources rest = refl
sources_written (sources x xs) rest = ap (λ ts. comma (write_source x ts)) (sources_written xs rest)

sources_treed : (xs : Sources°) → sources_trees xs ≡ map source_tree (sources_list xs)
unfolding sources_list
sources_treed no_sources = refl
sources_treed (sources x xs) = ap (λ ys. source_tree x ∷ ys) (sources_treed xs)

-- what may follow a source, beside a comma
pub record AfterSource (ts : List Token) : Type 0 where
  pub stop : stops ts ≡ true
  pub no_join : begins_join ts ≡ false

pub after_source_comma : (ts : List Token) → AfterSource (comma ts)
unfolding stops stops_word
after_source_comma ts = record { stop = refl; no_join = refl }

-- `below` reads conditions of at most n tokens
module _ (below : Read Condition) (n : ℕ)
    (nested : (d : Cond°) (rest : List Token) → length (write_cond d rest) ≤ n → stops rest ≡ true → below (write_cond d rest) ≡ Some (cond_tree d, rest)) where
  on_complete : (o : On°) (rest : List Token) → length (write_on o rest) ≤ n → stops rest ≡ true → clause_at below k.On (write_on o rest) ≡ Some (on_tree o, rest)
  unfolding clause_at
  on_complete no_on rest h e = rw ((stopped rest e).on)
  on_complete (on w x) rest h e = rw (nested x rest (omega arith) e)

  pub where_complete : (f : Where°) (rest : List Token) → length (write_where f rest) ≤ n → stops rest ≡ true → is_word k.Where rest ≡ false
      → clause_at below k.Where (write_where f rest) ≡ Some (where_tree f, rest)
  unfolding clause_at
  where_complete no_where rest h e last = rw last
  where_complete (filter w x) rest h e last = rw (nested x rest (omega arith) e)

  join_complete : (x : Join°) (rest : List Token) → length (write_join x rest) ≤ n → stops rest ≡ true → join_at below (write_join x rest) ≡ Some (join_tree x, rest)
  unfolding join_at
  join_complete (join l w x r a o) rest h e =
      let side = (side_skip l (t.Key k.Join w ∷ t.Word x ∷ t.Mark m.Dot ∷ name_token r ∷ write_named a (write_on o rest))).long in
      let named = (named_skip a (write_on o rest)).long in
      rw (side_complete l w (t.Word x ∷ t.Mark m.Dot ∷ name_token r ∷ write_named a (write_on o rest)), related_complete x r (write_named a (write_on o rest)), named_complete a (write_on o rest), on_complete o rest (omega (arith, side, named)) e)

  joins_complete : (js : Joins°) (i : ℕ) (found : List Join) (rest : List Token) → length (write_joins js rest) ≤ i → length (write_joins js rest) ≤ n → AfterSource rest
      → joins_at below i found (write_joins js rest) ≡ Some (found ++ joins_trees js, rest)
  unfolding joins_at
  joins_complete no_joins zero found rest l h e = rw append-nil
  joins_complete no_joins (suc i) found rest l h e = rw (e.no_join) (rw append-nil)
  joins_complete (joins x js) zero found rest l h e = absurd (omega (arith, join_longer x (write_joins js rest)))
  joins_complete (joins x js) (suc i) found rest l h e =
      let longer = join_longer x (write_joins js rest) in
      rw (join_begins x (write_joins js rest), join_complete x (write_joins js rest) h (joins_stop js rest e.stop))
      (joins_complete js i (found ++ join_tree x ∷ []) rest (omega (arith, longer)) (omega (arith, longer)) e ∙ rw append_assoc)

  all_joins_complete : (js : Joins°) (rest : List Token) → length (write_joins js rest) ≤ n → AfterSource rest
      → joins_at below (length (write_joins js rest)) [] (write_joins js rest) ≡ Some (joins_trees js, rest)
  all_joins_complete js rest h e = joins_complete js (length (write_joins js rest)) [] rest (omega arith) h e

  range_complete : (r : Range) (js : Joins°) (rest : List Token) → length (write_range r (write_joins js rest)) ≤ n → AfterSource rest
      → source_at below true (write_range r (write_joins js rest)) ≡ Some (source_tree (source r js), rest)
  unfolding source_at origin_at
  range_complete (entity e a) js rest h f =
      rw (entity_begins e a (write_joins js rest), name_complete e (write_named a (write_joins js rest)), named_complete a (write_joins js rest), all_joins_complete js rest (omega (arith, (named_skip a (write_joins js rest)).long)) f)
  range_complete (related x r a) js rest h f =
      rw (related_complete x r (write_named a (write_joins js rest)), named_complete a (write_joins js rest), all_joins_complete js rest (omega (arith, (named_skip a (write_joins js rest)).long)) f)

  source_complete : (x : Source°) (rest : List Token) → length (write_source x rest) ≤ n → AfterSource rest → source_at below true (write_source x rest) ≡ Some (source_tree x, rest)
  source_complete (source r js) rest h f = range_complete r js rest h f

  pub entity_source_complete : (e : Name) (a : Named) (js : Joins°) (rest : List Token) → length (name_token e ∷ write_named a (write_joins js rest)) ≤ n → AfterSource rest
      → source_at below false (name_token e ∷ write_named a (write_joins js rest)) ≡ Some (source_tree (source (entity e a) js), rest)
  unfolding source_at origin_at
  entity_source_complete e a js rest h f =
      rw (name_complete e (write_named a (write_joins js rest)), named_complete a (write_joins js rest), all_joins_complete js rest (omega (arith, (named_skip a (write_joins js rest)).long)) f)

  sources_complete : (x : Source°) (xs : Sources°) (rest : List Token) → length (write_source x (write_sources xs rest)) ≤ n → AfterSource rest → sees m.Comma rest ≡ false
      → list_at (source_at below true) (write_source x (write_sources xs rest)) ≡ Some (source_tree x ∷ sources_trees xs, rest)
  sources_complete x xs rest h f e =
      rw (sources_treed xs, sources_written xs rest)
      (list_complete (source_at below true) write_source source_tree AfterSource n after_source_comma source_skip source_complete x (sources_list xs) rest (rw (← sources_written xs rest) h) f e)

-- what may follow a nested SELECT
pub record AfterBlock (ts : List Token) : Type 0 where
  pub source : AfterSource ts
  pub comma : sees m.Comma ts ≡ false
  pub filter : is_word k.Where ts ≡ false

where_after_source : (f : Where°) (rest : List Token) → AfterBlock rest → (source : AfterSource (write_where f rest)) × (sees m.Comma (write_where f rest) ≡ false)
unfolding stops stops_word
where_after_source no_where rest e = (e.source, e.comma)
where_after_source (filter w x) rest e = (record { stop = refl; no_join = refl }, refl)

after_item_from : (w : Text) (rest : List Token) → AfterItem (t.Key k.From w ∷ rest)
after_item_from w rest = record { ends = ends_key; as_word = refl; variable = refl }

after_block_close : (rest : List Token) → AfterBlock (close rest)
unfolding stops stops_word
after_block_close rest = record { source = record { stop = refl; no_join = refl }; comma = refl; filter = refl }

stops_close : (rest : List Token) → stops (close rest) ≡ true
unfolding stops
stops_close rest = refl

-- no other word begins a test
test_no_word : (j : Keyword) → is_call j ≡ false → same_keyword j k.Exists ≡ false → same_keyword j k.Type ≡ false → (x : Test°) (rest : List Token) → is_word j (write_test x rest) ≡ false
test_no_word j e f g (inside x) rest = refl
test_no_word j e f g (tested x) rest = tested_no_word j e x rest
test_no_word j e f g (empty p w n u) rest = refl
test_no_word j e f g (member a n w of p) rest = value_no_word j e a _
test_no_word j e f g (exists w b) rest = f
test_no_word j e f g (quantified a op q b) rest = value_no_word j e a _
test_no_word j e f g (among_rows a n w b) rest = value_no_word j e a _
test_no_word j e f g (scalar_right a op s) rest = value_no_word j e a _
test_no_word j e f g (scalar_left s op a) rest = refl
test_no_word j e f g (type_is w x y) rest = g
test_no_word j e f g (type_is_not w x y) rest = g
test_no_word j e f g (type_among w x n u y ys) rest = g

test_no_not : (x : Test°) (rest : List Token) → is_word k.Not (write_test x rest) ≡ false
test_no_not = test_no_word k.Not refl refl refl

-- SELECT begins no condition
cond_no_select : (x : Cond°) (rest : List Token) → is_word k.Select (write_cond x rest) ≡ false
cond_no_select (cond (conj (maybe_not None x) ns) os) rest = test_no_word k.Select refl refl refl x _
cond_no_select (cond (conj (maybe_not (Some w) x) ns) os) rest = refl

-- ---- what stands beside rows

aggregate_complete : (h : Aggregate) (w : Text) (rest : List Token) → aggregate_at (t.Key (aggregate_word h) w ∷ rest) ≡ Some (h, rest)
unfolding aggregate_at
aggregate_complete aggregate.Count w rest = refl
aggregate_complete aggregate.Sum w rest = refl
aggregate_complete aggregate.Min w rest = refl
aggregate_complete aggregate.Max w rest = refl

quantifier_complete : (q : Quantifier°) (rest : List Token) → quantifier_at (write_quantifier q rest) ≡ Some (quantifier_tree q, rest)
unfolding quantifier_at
quantifier_complete (every w) rest = refl
quantifier_complete (any w) rest = refl
quantifier_complete (some w) rest = refl

quantifier_quantifies : (q : Quantifier°) (rest : List Token) → quantifies (write_quantifier q rest) ≡ true
quantifier_quantifies (every w) rest = refl
quantifier_quantifies (any w) rest = refl
quantifier_quantifies (some w) rest = refl

quantifier_no_rows : (q : Quantifier°) (rest : List Token) → begins_rows (write_quantifier q rest) ≡ false
quantifier_no_rows (every w) rest = refl
quantifier_no_rows (any w) rest = refl
quantifier_no_rows (some w) rest = refl

sub_begins : (b : Sub°) (rest : List Token) → begins_rows (opened (write_sub b rest)) ≡ true
sub_begins (sub w d i u x xs f) rest = refl

scalar_begins : (s : Scalar°) (rest : List Token) → begins_rows (opened (write_scalar s rest)) ≡ true
scalar_begins (scalar w g u d a v x xs f) rest = refl

quantified_follows : (op : Comparison) (q : Quantifier°) (rest : List Token) → rows_follow (t.Mark (comparison_mark op) ∷ write_quantifier q rest) ≡ true
quantified_follows op q rest = rw (comparison_seen op (write_quantifier q rest), quantifier_quantifies q rest)

scalar_follows : (op : Comparison) (s : Scalar°) (rest : List Token) → rows_follow (t.Mark (comparison_mark op) ∷ opened (write_scalar s rest)) ≡ true
scalar_follows op s rest = rw (comparison_seen op (opened (write_scalar s rest)), scalar_begins s rest)

-- values of n tokens are read, and `below` reads conditions of fewer
module _ (n : ℕ) (below : Read Condition)
    (nested : (d : Cond°) (rest : List Token) → suc (length (write_cond d rest)) ≤ n → stops rest ≡ true → below (write_cond d rest) ≡ Some (cond_tree d, rest)) where
  ranges_complete : (v : Text) (x : Source°) (xs : Sources°) (f : Where°) (rest : List Token)
      → length (t.Key k.From v ∷ write_source x (write_sources xs (write_where f rest))) ≤ n → AfterBlock rest
      → ranges_at n below (t.Key k.From v ∷ write_source x (write_sources xs (write_where f rest))) ≡ Some ((source_tree x ∷ sources_trees xs, where_tree f), rest)
  unfolding ranges_at
  ranges_complete v x xs f rest h e =
      let more = write_source x (write_sources xs (write_where f rest)) in
      let fewer : (d : Cond°) (rest : List Token) → length (write_cond d rest) ≤ length more → stops rest ≡ true → below (write_cond d rest) ≡ Some (cond_tree d, rest) =
      λ d rest l. nested d rest (omega (arith, l, h)) in
      let long = (source_skip x (write_sources xs (write_where f rest))).long in
      let longer = (sources_skip xs (write_where f rest)).long in
      let g = where_after_source f rest e in
      rw (sources_complete below (length more) fewer x xs (write_where f rest) (omega arith) g.0 g.1, where_complete below (length more) fewer f rest (omega (arith, long, longer)) e.source.stop e.filter)

  block_complete : (u : Text) (d : Written) (i : Item°) (v : Text) (x : Source°) (xs : Sources°) (f : Where°) (rest : List Token)
      → length (write_word k.Distinct d (write_item i (t.Key k.From v ∷ write_source x (write_sources xs (write_where f rest))))) ≤ n → AfterBlock rest
      → block_at n below (write_word k.Distinct d (write_item i (t.Key k.From v ∷ write_source x (write_sources xs (write_where f rest))))) ≡ Some (sub_tree (sub u d i v x xs f), rest)
  unfolding block_at
  block_complete u d i v x xs f rest h e =
      let more = t.Key k.From v ∷ write_source x (write_sources xs (write_where f rest)) in
      let long = (word_skip k.Distinct d (write_item i more)).long in
      let longer = (item_skip i more).long in
      rw (
        word_complete k.Distinct d (write_item i more) (value_no_distinct i.value (write_optional_name i.name more)),
        item_complete n i more (omega (arith, long)) (after_item_from v _),
        ranges_complete v x xs f rest (omega (arith, long, longer)) e,
      )

  subquery_complete : (b : Sub°) (rest : List Token) → length (opened (write_sub b (close rest))) ≤ n → subquery_at n below (opened (write_sub b (close rest))) ≡ Some (sub_tree b, rest)
  unfolding subquery_at closed
  subquery_complete (sub u d i v x xs f) rest h = rw (block_complete u d i v x xs f (close rest) (omega arith) (after_block_close rest))

  aggregated_complete : (h : Aggregate) (u : Text) (d : Written) (a : Value°) (rest : List Token) → length (write_word k.Distinct d (write_value a (close rest))) ≤ n
      → aggregated_at n (t.Key (aggregate_word h) u ∷ opened (write_word k.Distinct d (write_value a (close rest)))) ≡ Some ((against.One h (is_written d), value_tree a), rest)
  unfolding aggregated_at operand_at closed
  aggregated_complete h u d a rest l =
      let long = (word_skip k.Distinct d (write_value a (close rest))).long in
      rw (
        aggregate_complete h u (opened (write_word k.Distinct d (write_value a (close rest)))),
        word_complete k.Distinct d (write_value a (close rest)) (value_no_distinct a (close rest)),
        value_read n a (close rest) (omega (arith, long)) (ends_close rest),
      )

  enclosed_complete : (s : Scalar°) (rest : List Token) → length (opened (write_scalar s (close rest))) ≤ n → enclosed_at n below (opened (write_scalar s (close rest))) ≡ Some (scalar_tree s, rest)
  unfolding enclosed_at scalar_at closed
  enclosed_complete (scalar w h u d a v x xs f) rest l =
      let more = t.Key k.From v ∷ write_source x (write_sources xs (write_where f (close rest))) in
      let long = (word_skip k.Distinct d (write_value a (close more))).long in
      let longer = (value_skip a (close more)).long in
      rw (aggregated_complete h u d a more (omega arith), ranges_complete v x xs f (close rest) (omega (arith, long, longer)) (after_block_close rest))

  exists_complete : (w : Text) (b : Sub°) (rest : List Token) → length (write_test (exists w b) rest) ≤ n → test_at n below (write_test (exists w b) rest) ≡ Some (test_tree (exists w b), rest)
  unfolding test_at exists_at
  exists_complete w b rest h = rw (subquery_complete b rest (omega arith))

  scalar_left_complete : (s : Scalar°) (op : Comparison) (a : Value°) (rest : List Token) → length (write_test (scalar_left s op a) rest) ≤ n → Ends rest
      → test_at n below (write_test (scalar_left s op a) rest) ≡ Some (test_tree (scalar_left s op a), rest)
  unfolding test_at scalar_first_at opposed_at
  scalar_left_complete s op a rest h e =
      let more = t.Mark (comparison_mark op) ∷ write_value a rest in
      let long = (scalar_skip s (close more)).long in
      rw (scalar_begins s (close more), enclosed_complete s more h, comparison_complete op (write_value a rest), value_read n a rest (omega (arith, long)) e)

  -- a test that a value begins
  begun : (a : Value°) (rest : List Token) (x : Condition × List Token) → goes_on_at rest ≡ true → simple_at n below (write_value a rest) ≡ Some x → test_at n below (write_value a rest) ≡ Some x
  unfolding test_at
  begun a rest x g h = rw (value_no_rows a rest, value_opens a rest g, value_no_exists a rest) h

  -- and what follows the value
  followed : (a : Value°) (rest : List Token) (x : Condition × List Token) → length (write_value a rest) ≤ n → Ends rest → goes_on_at rest ≡ true
      → follows_at n below (value_tree a) (begins_variable (write_value a rest)) rest ≡ Some x → test_at n below (write_value a rest) ≡ Some x
  followed a rest x h e g t = begun a rest x g (follows_complete below n a rest x h e t)

  begun_tested : (d : Tested°) (rest : List Token) → length (write_tested d rest) ≤ n → After rest → test_at n below (write_tested d rest) ≡ Some (test_tree (tested d), rest)
  begun_tested d rest h e =
      let read = tested_complete below n d rest h e in
      rw (tested_written d rest) (begun (first_value d) (behind_value d rest) (test_tree (tested d), rest) (behind_goes d rest) (rw (← tested_written d rest) read))

  member_begun : (a : Value°) (neg : Written) (w : Text) (of : Written) (p : Steps) (rest : List Token) → length (write_test (member a neg w of p) rest) ≤ n → Ends rest
      → test_at n below (write_test (member a neg w of p) rest) ≡ Some (test_tree (member a neg w of p), rest)
  member_begun a None w of p rest h e =
      begun a (t.Key k.Member w ∷ write_word k.Of of (write_path p rest)) _ refl (member_complete below n a None w of p rest h e)
  member_begun a (Some v) w of p rest h e =
      begun a (t.Key k.Not v ∷ t.Key k.Member w ∷ write_word k.Of of (write_path p rest)) _ refl (member_complete below n a (Some v) w of p rest h e)

  quantified_complete : (a : Value°) (op : Comparison) (q : Quantifier°) (b : Sub°) (rest : List Token) → length (write_test (quantified a op q b) rest) ≤ n
      → test_at n below (write_test (quantified a op q b) rest) ≡ Some (test_tree (quantified a op q b), rest)
  unfolding follows_at beside_at against_at
  quantified_complete a op q b rest h =
      let rows = opened (write_sub b (close rest)) in
      let more = t.Mark (comparison_mark op) ∷ write_quantifier q rows in
      let long = (value_skip a more).long in
      let longer = (quantifier_skip q rows).long in
      followed a more _ h (comparison_ends op (write_quantifier q rows)) (comparison_goes op (write_quantifier q rows))
      (rw (quantified_follows op q rows, comparison_seen op (write_quantifier q rows), comparison_complete op (write_quantifier q rows), quantifier_no_rows q rows, quantifier_complete q rows, subquery_complete b rest (omega (arith, long, longer))))

  scalar_right_complete : (a : Value°) (op : Comparison) (s : Scalar°) (rest : List Token) → length (write_test (scalar_right a op s) rest) ≤ n
      → test_at n below (write_test (scalar_right a op s) rest) ≡ Some (test_tree (scalar_right a op s), rest)
  unfolding follows_at beside_at against_at
  scalar_right_complete a op s rest h =
      let rows = opened (write_scalar s (close rest)) in
      let more = t.Mark (comparison_mark op) ∷ rows in
      let long = (value_skip a more).long in
      followed a more _ h (comparison_ends op rows) (comparison_goes op rows)
      (rw (scalar_follows op s (close rest), comparison_seen op rows, comparison_complete op rows, scalar_begins s (close rest), enclosed_complete s rest (omega (arith, long))))

  among_rows_complete : (a : Value°) (neg : Written) (w : Text) (b : Sub°) (rest : List Token) → length (write_test (among_rows a neg w b) rest) ≤ n
      → test_at n below (write_test (among_rows a neg w b) rest) ≡ Some (test_tree (among_rows a neg w b), rest)
  unfolding follows_at among_rows_at
  among_rows_complete a None w b rest h =
      let rows = opened (write_sub b (close rest)) in
      let long = (value_skip a (t.Key k.In w ∷ rows)).long in
      followed a (t.Key k.In w ∷ rows) _ h ends_key refl (rw (sub_begins b (close rest), subquery_complete b rest (omega (arith, long))))
  among_rows_complete a (Some v) w b rest h =
      let rows = opened (write_sub b (close rest)) in
      let long = (value_skip a (t.Key k.Not v ∷ t.Key k.In w ∷ rows)).long in
      followed a (t.Key k.Not v ∷ t.Key k.In w ∷ rows) _ h ends_key refl (rw (sub_begins b (close rest), subquery_complete b rest (omega (arith, long))))

  test_complete : (x : Test°) (rest : List Token) → length (write_test x rest) ≤ n → After rest → test_at n below (write_test x rest) ≡ Some (test_tree x, rest)
  unfolding test_at closed
  test_complete (inside x) rest h e = rw (cond_no_select x (close rest), cond_opens x rest e.goes, nested x (close rest) (omega arith) (stops_close rest))
  test_complete (tested x) rest h e = begun_tested x rest h e
  test_complete (empty p w v u) rest h e = empty_complete below n p v w u rest h
  test_complete (member a w v of p) rest h e = member_begun a w v of p rest h e.ends
  test_complete (exists w b) rest h e = exists_complete w b rest h
  test_complete (quantified a op q b) rest h e = quantified_complete a op q b rest h
  test_complete (among_rows a w v b) rest h e = among_rows_complete a w v b rest h
  test_complete (scalar_right a op s) rest h e = scalar_right_complete a op s rest h
  test_complete (scalar_left s op a) rest h e = scalar_left_complete s op a rest h e.ends
  test_complete (type_is w x y) rest h e = type_complete below n w x y rest
  test_complete (type_is_not w x y) rest h e = type_not_complete below n w x y rest
  test_complete (type_among w x v u y ys) rest h e = type_among_complete below n w x v u y ys rest

  not_complete : (x : Not°) (rest : List Token) → length (write_not x rest) ≤ n → After rest → not_at n below (write_not x rest) ≡ Some (not_tree x, rest)
  unfolding not_at
  not_complete (maybe_not None x) rest h e = rw (test_no_not x rest) (test_complete x rest h e)
  not_complete (maybe_not (Some w) x) rest h e = rw (test_complete x rest (omega arith) e)

  ands_after : (ns : Ands°) (rest : List Token) → After rest → After (write_ands ns rest)
  ands_after no_ands rest e = e
  ands_after (and w x ns) rest e = record { ends = ends_key; escape = refl; goes = refl }

  ands_complete : (ns : Ands°) (i : ℕ) (before : Condition) (rest : List Token) → length (write_ands ns rest) ≤ i → length (write_ands ns rest) ≤ n → After rest → is_word k.And rest ≡ false
      → ands_at n below i before (write_ands ns rest) ≡ Some (ands_tree before ns, rest)
  unfolding ands_at
  ands_complete no_ands zero before rest l h e last = refl
  ands_complete no_ands (suc i) before rest l h e last = rw last
  ands_complete (and w x ns) zero before rest l h e last = absurd (omega arith)
  ands_complete (and w x ns) (suc i) before rest l h e last =
      let past = not_skip x (write_ands ns rest) in
      rw (not_complete x (write_ands ns rest) (omega arith) (ands_after ns rest e))
      (ands_complete ns i _ rest (omega (arith, past.long)) (omega (arith, past.long)) e last)

  and_complete : (a : And°) (rest : List Token) → length (write_and a rest) ≤ n → After rest → is_word k.And rest ≡ false → and_at n below (write_and a rest) ≡ Some (and_tree a, rest)
  unfolding and_at
  and_complete (conj x ns) rest h e last =
      rw (not_complete x (write_ands ns rest) h (ands_after ns rest e))
      (ands_complete ns (length (write_ands ns rest)) (not_tree x) rest (omega arith) (omega (arith, (not_skip x (write_ands ns rest)).long)) e last)

  ors_after : (os : Ors°) (rest : List Token) → stops rest ≡ true → (e : After (write_ors os rest)) × (is_word k.And (write_ors os rest) ≡ false)
  ors_after no_ors rest e = let s = stopped rest e in (s.after, s.and)
  ors_after (or w a os) rest e = (record { ends = ends_key; escape = refl; goes = refl }, refl)

  ors_complete : (os : Ors°) (i : ℕ) (before : Condition) (rest : List Token) → length (write_ors os rest) ≤ i → length (write_ors os rest) ≤ n → stops rest ≡ true
      → ors_at n below i before (write_ors os rest) ≡ Some (ors_tree before os, rest)
  unfolding ors_at
  ors_complete no_ors zero before rest l h e = refl
  ors_complete no_ors (suc i) before rest l h e = rw ((stopped rest e).or)
  ors_complete (or w a os) zero before rest l h e = absurd (omega arith)
  ors_complete (or w a os) (suc i) before rest l h e =
      let past = and_skip a (write_ors os rest) in
      let g = ors_after os rest e in
      rw (and_complete a (write_ors os rest) (omega arith) g.0 g.1)
      (ors_complete os i _ rest (omega (arith, past.long)) (omega (arith, past.long)) e)

  cond_level_complete : (d : Cond°) (rest : List Token) → length (write_cond d rest) ≤ n → stops rest ≡ true → cond_level_at n below (write_cond d rest) ≡ Some (cond_tree d, rest)
  unfolding cond_level_at
  cond_level_complete (cond a os) rest h e =
      let g = ors_after os rest e in
      rw (and_complete a (write_ors os rest) h g.0 g.1)
      (ors_complete os (length (write_ors os rest)) (and_tree a) rest (omega arith) (omega (arith, (and_skip a (write_ors os rest)).long)) e)

-- more than there are tokens
pub cond_read : (n : ℕ) (d : Cond°) (rest : List Token) → suc (length (write_cond d rest)) ≤ n → stops rest ≡ true
    → cond_at n (write_cond d rest) ≡ Some (cond_tree d, rest)
unfolding cond_at
cond_read zero d rest h e = absurd (omega arith)
cond_read (suc n) d rest h e = cond_level_complete n (cond_at n) (cond_read n) d rest (omega arith) e
