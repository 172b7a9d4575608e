-- What the grammar writes as a statement is read, with its tree.
use Rattle.std.proofs.Common.{◌≡◌, ℕ, ◌≤◌, suc, true, false, List, [], ◌∷◌, length, map, Option, Some, refl, arith}
use Rattle.jpql_grammar.specs.declared.grammar.token.Keyword.{Keyword}
use Rattle.jpql_grammar.specs.declared.grammar.token.Keyword.TheVariants as k
use Rattle.jpql_grammar.specs.declared.grammar.token.Mark.TheVariants as m
use Rattle.jpql_grammar.specs.declared.grammar.token.Token.{Token}
use Rattle.jpql_grammar.specs.declared.grammar.token.Token.TheVariants as t
use Rattle.jpql_trees.specs.tree.Names.{Text}
use Rattle.jpql_grammar.specs.grammar.Parts.{Name, Steps, write_path, path_tree}
use Rattle.jpql_grammar.specs.grammar.Tests.{Written}
use Rattle.jpql_grammar.specs.grammar.ValueGrammar.{write_value}
use Rattle.jpql_grammar.specs.grammar.Grammar.{write_others, Named, write_named, write_optional_name, Item°, write_item, item_tree, Cond°, write_cond, cond_tree, Where°, no_where, filter, write_where, Direction, unwritten, ascending, descending, write_direction, is_descending, Key°, write_key, key_tree, Clause, no_clause, clause, write_clause, clause_trees, Having°, no_having, having, write_having, having_tree, Set°, to_value, to_null, write_set, set_tree, From°, from_entity, write_from, from_tree, Statement°, select, update, delete, write_statement, statement_tree}
use Rattle.jpql_grammar.specs.grammar.Values.{Read, sees, is_word, path_at, list_at}
use Rattle.jpql_grammar.specs.grammar.Conditions.{begins_variable, item_at, clause_at, source_at, cond_at}
use Rattle.jpql_grammar.specs.grammar.Statements.{direction_at, key_at, by_at, select_at, new_value_at, assignment_at, update_at, delete_at, statement_at, whole_at}
use Rattle.jpql_grammar.proofs.grammar.Skips.{Skips, comma, name_skip, named_skip, word_skip, path_skip, item_skip, optional_name_skip, others_skip, where_skip, key_skip, clause_skip, having_skip, set_skip, from_skip}
use Rattle.jpql_grammar.proofs.grammar.Tools.{word_complete, same_keyword_refl}
use Rattle.jpql_grammar.proofs.grammar.PartsComplete.{Ends, ends_key, ends_comma, list_complete, path_complete, value_no_null, value_no_distinct}
use Rattle.jpql_grammar.proofs.grammar.ValuesComplete.{value_read}
use Rattle.jpql_grammar.proofs.grammar.TestsSound.{bare_is}
use Rattle.jpql_grammar.proofs.grammar.TestsComplete.{name_complete}
use Rattle.jpql_grammar.proofs.grammar.CondComplete.{stops, stops_word, AfterItem, AfterSource, after_source_comma, item_complete, related_complete, named_complete, optional_name_complete, where_complete, entity_source_complete, cond_read}

-- ---- ORDER BY, GROUP BY, HAVING

-- what may follow a key of ORDER BY
record AfterKey (ts : List Token) : Type 0 where
  pub ends : Ends ts
  pub ascending : is_word k.Asc ts ≡ false
  pub descending : is_word k.Desc ts ≡ false

direction_complete : (d : Direction) (rest : List Token) → AfterKey rest → direction_at (write_direction d rest) ≡ (is_descending d, rest)
direction_complete unwritten rest e = rw (e.ascending, e.descending)
direction_complete (ascending w) rest e = refl
direction_complete (descending w) rest e = refl

direction_ends : (d : Direction) (rest : List Token) → AfterKey rest → Ends (write_direction d rest)
direction_ends unwritten rest e = e.ends
direction_ends (ascending w) rest e = ends_key
direction_ends (descending w) rest e = ends_key

by_complete : {A D : Type 0} (most : ℕ) (kind : Keyword) (one : Read A) (write : D → List Token → List Token) (tree : D → A) (Follow : List Token → Type 0)
    (before_comma : (ts : List Token) → Follow (comma ts)) (skip : (d : D) (rest : List Token) → Skips (write d rest) rest)
    (complete : (d : D) (rest : List Token) → length (write d rest) ≤ most → Follow rest → one (write d rest) ≡ Some (tree d, rest))
    (x : Clause D) (rest : List Token) → length (write_clause kind write x rest) ≤ most → Follow rest → sees m.Comma rest ≡ false → is_word kind rest ≡ false
    → by_at kind one (write_clause kind write x rest) ≡ Some (clause_trees tree x, rest)
unfolding by_at
by_complete most kind one write tree Follow before_comma skip complete no_clause rest h f e last = rw last
by_complete most kind one write tree Follow before_comma skip complete (clause w u d ds) rest h f e last =
    rw (same_keyword_refl kind, list_complete one write tree Follow most before_comma skip complete d ds rest (omega arith) f e)

-- ---- what may follow a part of a statement

record Part (ts : List Token) : Type 0 where
  pub source : AfterSource ts
  pub comma : sees m.Comma ts ≡ false
  pub dot : sees m.Dot ts ≡ false
  pub filter : is_word k.Where ts ≡ false

record BeforeHaving (ts : List Token) : Type 0 where
  pub part : Part ts
  pub group : is_word k.Group ts ≡ false

record BeforeOrder (ts : List Token) : Type 0 where
  pub before : BeforeHaving ts
  pub having : is_word k.Having ts ≡ false

nothing_left : BeforeOrder []
unfolding stops stops_word
nothing_left = record { before = record { part = record { source = record { stop = refl; no_join = refl }; comma = refl; dot = refl; filter = refl }; group = refl }; having = refl }

before_order : (x : Clause Key°) → BeforeOrder (write_clause k.Order write_key x [])
unfolding stops stops_word
before_order no_clause = nothing_left
before_order (clause w u d ds) = record { before = record { part = record { source = record { stop = refl; no_join = refl }; comma = refl; dot = refl; filter = refl }; group = refl }; having = refl }

before_having : (x : Having°) (rest : List Token) → BeforeOrder rest → BeforeHaving (write_having x rest)
unfolding stops stops_word
before_having no_having rest e = e.before
before_having (having w x) rest e = record { part = record { source = record { stop = refl; no_join = refl }; comma = refl; dot = refl; filter = refl }; group = refl }

before_group : (x : Clause Steps) (rest : List Token) → BeforeHaving rest → Part (write_clause k.Group write_path x rest)
unfolding stops stops_word
before_group no_clause rest e = e.part
before_group (clause w u d ds) rest e = record { source = record { stop = refl; no_join = refl }; comma = refl; dot = refl; filter = refl }

before_where : (f : Where°) (rest : List Token) → Part rest → (source : AfterSource (write_where f rest)) × (sees m.Comma (write_where f rest) ≡ false)
unfolding stops stops_word
before_where no_where rest e = (e.source, e.comma)
before_where (filter w x) rest e = (record { stop = refl; no_join = refl }, refl)

where_ends : (f : Where°) → Ends (write_where f [])
where_ends no_where = record { dot = refl; star = refl; plus = refl; minus = refl }
where_ends (filter w x) = ends_key

where_no_comma : (f : Where°) → sees m.Comma (write_where f []) ≡ false
where_no_comma no_where = refl
where_no_comma (filter w x) = refl

where_no_name : (f : Where°) → (is_word k.As (write_where f []) ≡ false) × (begins_variable (write_where f []) ≡ false)
where_no_name no_where = (refl, refl)
where_no_name (filter w x) = (refl, refl)

after_item_comma : (ts : List Token) → AfterItem (comma ts)
after_item_comma ts = record { ends = record { dot = refl; star = refl; plus = refl; minus = refl }; as_word = refl; variable = refl }

after_key_comma : (ts : List Token) → AfterKey (comma ts)
after_key_comma ts = record { ends = ends_comma ts; ascending = refl; descending = refl }

-- ---- statements

-- there are so many tokens at most
module _ (most n : ℕ) (room : suc most ≤ n) where
  conditions : (d : Cond°) (rest : List Token) → length (write_cond d rest) ≤ most → stops rest ≡ true → cond_at n (write_cond d rest) ≡ Some (cond_tree d, rest)
  conditions d rest h e = cond_read n d rest (omega (arith, h, room)) e

  key_complete : (x : Key°) (rest : List Token) → length (write_key x rest) ≤ most → AfterKey rest → key_at n (write_key x rest) ≡ Some (key_tree x, rest)
  unfolding key_at
  key_complete (Key°.key a d) rest h e =
      rw (value_read n a (write_direction d rest) (omega (arith, h, room)) (direction_ends d rest e), bare_is a (write_direction d rest), direction_complete d rest e)

  having_complete : (x : Having°) (rest : List Token) → length (write_having x rest) ≤ most → stops rest ≡ true → is_word k.Having rest ≡ false
      → clause_at (cond_at n) k.Having (write_having x rest) ≡ Some (having_tree x, rest)
  unfolding clause_at
  having_complete no_having rest h e last = rw last
  having_complete (having w x) rest h e last = rw (conditions x rest (omega (arith, h)) e)

  from_complete : (x : From°) (rest : List Token) → length (write_from x rest) ≤ most → AfterSource rest → source_at (cond_at n) false (write_from x rest) ≡ Some (from_tree x, rest)
  from_complete (from_entity e a js) rest h f = entity_source_complete (cond_at n) most conditions e a js rest h f

  items_complete : (i : Item°) (is : List Item°) (w : Text) (rest : List Token) → length (write_item i (write_others write_item is (t.Key k.From w ∷ rest))) ≤ most
      → list_at (item_at n) (write_item i (write_others write_item is (t.Key k.From w ∷ rest))) ≡ Some (item_tree i ∷ map item_tree is, t.Key k.From w ∷ rest)
  items_complete i is w rest h =
      list_complete (item_at n) write_item item_tree AfterItem most after_item_comma item_skip (λ i rest l. item_complete n i rest (omega (arith, l, room))) i is (t.Key k.From w ∷ rest) h
      (record { ends = ends_key; as_word = refl; variable = refl }) refl

  -- the parts of a SELECT after FROM
  select_complete : (w : Text) (d : Written) (i : Item°) (is : List Item°) (u : Text) (x : From°) (xs : List From°) (f : Where°) (gs : Clause Steps) (h : Having°) (ks : Clause Key°)
      → length (write_statement (select w d i is u x xs f gs h ks)) ≤ most
      → statement_at n (write_statement (select w d i is u x xs f gs h ks)) ≡ Some (statement_tree (select w d i is u x xs f gs h ks), [])
  unfolding statement_at select_at
  select_complete w d i is u x xs f gs h ks deep =
      let r4 = write_clause k.Order write_key ks [] in
      let r3 = write_having h r4 in
      let r2 = write_clause k.Group write_path gs r3 in
      let r1 = write_where f r2 in
      let more = t.Key k.From u ∷ write_from x (write_others write_from xs r1) in
      let e4 = before_order ks in
      let e3 = before_having h r4 e4 in
      let e2 = before_group gs r3 e3 in
      let e1 = before_where f r2 e2 in
      let h1 = (word_skip k.Distinct d (write_item i (write_others write_item is more))).long in
      let h2 = (item_skip i (write_others write_item is more)).long in
      let h3 = (others_skip write_item item_skip is more).long in
      let h4 = (from_skip x (write_others write_from xs r1)).long in
      let h5 = (others_skip write_from from_skip xs r1).long in
      let h6 = (where_skip f r2).long in
      let h7 = (clause_skip k.Group write_path path_skip gs r3).long in
      let h8 = (having_skip h r4).long in
      rw (
        word_complete k.Distinct d (write_item i (write_others write_item is more)) (value_no_distinct i.value (write_optional_name i.name (write_others write_item is more))),
        items_complete i is u (write_from x (write_others write_from xs r1)) (omega (arith, deep, h1)),
        list_complete (source_at (cond_at n) false) write_from from_tree AfterSource most after_source_comma from_skip from_complete x xs r1 (omega (arith, deep, h1, h2, h3)) e1.0 e1.1,
        where_complete (cond_at n) most conditions f r2 (omega (arith, deep, h1, h2, h3, h4, h5)) e2.source.stop e2.filter,
        by_complete most k.Group path_at write_path path_tree (λ ts. sees m.Dot ts ≡ false) (λ ts. refl) path_skip (λ p rest deep e. path_complete p rest e) gs r3 (omega (arith, deep, h1, h2, h3, h4, h5, h6)) e3.part.dot e3.part.comma e3.group,
        having_complete h r4 (omega (arith, deep, h1, h2, h3, h4, h5, h6, h7)) e4.before.part.source.stop e4.having,
        by_complete most k.Order (key_at n) write_key key_tree AfterKey after_key_comma key_skip key_complete ks [] (omega (arith, deep, h1, h2, h3, h4, h5, h6, h7, h8))
            (record { ends = record { dot = refl; star = refl; plus = refl; minus = refl }; ascending = refl; descending = refl }) refl refl,
      )

  set_complete : (x : Set°) (rest : List Token) → length (write_set x rest) ≤ most → Ends rest → assignment_at n (write_set x rest) ≡ Some (set_tree x, rest)
  unfolding assignment_at new_value_at
  set_complete (to_value x a d) rest h e =
      let h1 = (name_skip a (t.Mark m.Equal ∷ write_value d rest)).long in
      rw (related_complete x a (t.Mark m.Equal ∷ write_value d rest), value_no_null d rest, value_read n d rest (omega (arith, h, h1, room)) e)
  set_complete (to_null x a w) rest h e = rw (related_complete x a (t.Mark m.Equal ∷ t.Key k.Null w ∷ rest))

  update_complete : (w : Text) (e : Name) (a : Named) (u : Text) (s : Set°) (ss : List Set°) (f : Where°) → length (write_statement (update w e a u s ss f)) ≤ most
      → statement_at n (write_statement (update w e a u s ss f)) ≡ Some (statement_tree (update w e a u s ss f), [])
  unfolding statement_at update_at
  update_complete w e a u s ss f deep =
      let r1 = write_where f [] in
      let more = t.Key k.Set u ∷ write_set s (write_others write_set ss r1) in
      let h1 = (name_skip e (write_named a more)).long in
      let h2 = (named_skip a more).long in
      let h3 = (set_skip s (write_others write_set ss r1)).long in
      let h4 = (others_skip write_set set_skip ss r1).long in
      rw (
        name_complete e (write_named a more),
        named_complete a more,
        list_complete (assignment_at n) write_set set_tree Ends most ends_comma set_skip set_complete s ss r1 (omega (arith, deep, h1, h2)) (where_ends f) (where_no_comma f),
        where_complete (cond_at n) most conditions f [] (omega (arith, deep, h1, h2, h3, h4)) nothing_left.before.part.source.stop refl,
      )

  delete_complete : (w u : Text) (e : Name) (a : Option Named) (f : Where°) → length (write_statement (delete w u e a f)) ≤ most
      → statement_at n (write_statement (delete w u e a f)) ≡ Some (statement_tree (delete w u e a f), [])
  unfolding statement_at delete_at
  delete_complete w u e a f deep =
      let r1 = write_where f [] in
      let h1 = (name_skip e (write_optional_name a r1)).long in
      let h2 = (optional_name_skip a r1).long in
      rw (
        name_complete e (write_optional_name a r1),
        optional_name_complete a r1 (where_no_name f).0 (where_no_name f).1,
        where_complete (cond_at n) most conditions f [] (omega (arith, deep, h1, h2)) nothing_left.before.part.source.stop refl,
      )

  statement_complete : (d : Statement°) → length (write_statement d) ≤ most → statement_at n (write_statement d) ≡ Some (statement_tree d, [])
  statement_complete (select w d i is u x xs f gs h ks) e = select_complete w d i is u x xs f gs h ks e
  statement_complete (update w e a u s ss f) h = update_complete w e a u s ss f h
  statement_complete (delete w u e a f) h = delete_complete w u e a f h

  -- A statement of the grammar is read as a whole, with its tree.
  pub whole_complete : (d : Statement°) → length (write_statement d) ≤ most → whole_at n (write_statement d) ≡ Some (statement_tree d)
  unfolding whole_at
  whole_complete d h = rw (statement_complete d h)
