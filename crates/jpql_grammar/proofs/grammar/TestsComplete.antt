-- What the grammar writes as a test of a path, of values or of TYPE is read, with its tree.
use Rattle.std.proofs.Common.{◌≡◌, ℕ, ◌≤◌, true, false, List, [], ◌∷◌, length, map, Some, None, refl, arith}
use Rattle.jpql_grammar.specs.declared.grammar.token.Keyword.TheVariants as k
use Rattle.jpql_grammar.specs.declared.grammar.token.Mark.TheVariants as m
use Rattle.jpql_grammar.specs.declared.grammar.token.Token.{Token}
use Rattle.jpql_grammar.specs.declared.grammar.token.Token.TheVariants as t
use Rattle.jpql_trees.specs.declared.tree.Comparison.{Comparison}
use Rattle.jpql_trees.specs.declared.tree.Comparison.TheVariants as c
use Rattle.jpql_trees.specs.declared.tree.Condition.{Condition}
use Rattle.jpql_trees.specs.declared.tree.Condition.TheVariants as is
use Rattle.jpql_trees.specs.tree.Names.{Text}
use Rattle.jpql_grammar.specs.grammar.Parts.{Name, plain, word, name_token, name_text, Steps, write_path, path_tree}
use Rattle.jpql_grammar.specs.grammar.Tests.{Written, write_word, is_written, comparison_mark, negated_if, condition_of}
use Rattle.jpql_grammar.specs.grammar.ValueGrammar.{Value°, sum, product, unsigned, positive, negative, no_sums, no_times, integer, text, parameter, path, call, group, Tested°, compare, between, among, among_none, like, null, write_value, write_times, write_sums, write_more, write_tested, value_tree, tested_tree}
use Rattle.jpql_grammar.specs.grammar.Grammar.{write_others, negated, tested, empty, member, type_is, type_is_not, type_among, write_test, test_tree}
use Rattle.jpql_grammar.specs.grammar.Values.{Read, sees_comparison, name_at, variable_at, list_at, closed, value_at}
use Rattle.jpql_grammar.specs.grammar.Conditions.{begins_variable, path_follows, empty_at, member_at, path_tested_at, begins_rows, rows_follow, value_tested_at, follows_at, valued_at, entities_at, type_is_at, entity_at, typed_at, simple_at}
use Rattle.jpql_grammar.proofs.grammar.Skips.{opened, close, name_skip, value_skip}
use Rattle.jpql_grammar.proofs.grammar.Tools.{word_complete}
use Rattle.jpql_grammar.proofs.grammar.Calls.{of_call}
use Rattle.jpql_grammar.proofs.grammar.PartsComplete.{Ends, After, ends_key, list_complete, path_complete, value_no_word, value_no_type}
use Rattle.jpql_grammar.proofs.grammar.TestedComplete.{comparison_seen, first_value, behind_value, tested_written, behind_ends, follows_tested}
use Rattle.jpql_grammar.proofs.grammar.ValuesComplete.{value_read}

-- no rows begin a value
pub value_no_rows : (x : Value°) (rest : List Token) → begins_rows (write_value x rest) ≡ false
value_no_rows (sum (product (unsigned (integer n)) us) ps) rest = refl
value_no_rows (sum (product (unsigned (text w)) us) ps) rest = refl
value_no_rows (sum (product (unsigned (parameter w)) us) ps) rest = refl
value_no_rows (sum (product (unsigned (path p)) us) ps) rest = refl
value_no_rows (sum (product (unsigned (call x)) us) ps) rest = of_call begins_rows false (λ j w ts b. refl) x (write_times us (write_sums ps rest))
value_no_rows (sum (product (unsigned (group a)) us) ps) rest = value_no_word k.Select refl a (close (write_times us (write_sums ps rest)))
value_no_rows (sum (product (positive a) us) ps) rest = refl
value_no_rows (sum (product (negative a) us) ps) rest = refl

negated_complete : (n : Written) (x : Condition) → negated_if (is_written n) x ≡ negated n x
negated_complete None x = refl
negated_complete (Some w) x = refl

-- a value that is written as a path
abbrev of_path : Steps → Value°
of_path p = sum (product (unsigned (path p)) no_times) no_sums

-- a comparison with a value has no rows behind it
value_follows : (op : Comparison) (b : Value°) (rest : List Token) → rows_follow (t.Mark (comparison_mark op) ∷ write_value b rest) ≡ false
value_follows op b rest =
    rw (comparison_seen op (write_value b rest), value_no_word k.All refl b rest, value_no_word k.Any refl b rest, value_no_word k.Some refl b rest, value_no_rows b rest)

comparison_no_path : (op : Comparison) (rest : List Token) → path_follows (t.Mark (comparison_mark op) ∷ rest) ≡ false
comparison_no_path c.Equal rest = refl
comparison_no_path c.Different rest = refl
comparison_no_path c.Less rest = refl
comparison_no_path c.AtMost rest = refl
comparison_no_path c.Greater rest = refl
comparison_no_path c.AtLeast rest = refl

-- behind the first value of a test of values stand no rows
behind_no_rows : (d : Tested°) (rest : List Token) → rows_follow (behind_value d rest) ≡ false
behind_no_rows (compare op a b) rest = value_follows op b rest
behind_no_rows (between a None w b u d) rest = refl
behind_no_rows (between a (Some n) w b u d) rest = refl
behind_no_rows (among a None w b all) rest = value_no_word k.Select refl b (write_more all (close rest))
behind_no_rows (among a (Some n) w b all) rest = value_no_word k.Select refl b (write_more all (close rest))
behind_no_rows (among_none a None w) rest = refl
behind_no_rows (among_none a (Some n) w) rest = refl
behind_no_rows (like a None w b e) rest = refl
behind_no_rows (like a (Some n) w b e) rest = refl
behind_no_rows (null a w n u) rest = refl

-- and no test of a path
behind_no_path : (d : Tested°) (rest : List Token) → path_follows (behind_value d rest) ≡ false
behind_no_path (compare op a b) rest = comparison_no_path op (write_value b rest)
behind_no_path (between a None w b u d) rest = refl
behind_no_path (between a (Some n) w b u d) rest = refl
behind_no_path (among a None w b all) rest = refl
behind_no_path (among a (Some n) w b all) rest = refl
behind_no_path (among_none a None w) rest = refl
behind_no_path (among_none a (Some n) w) rest = refl
behind_no_path (like a None w b e) rest = refl
behind_no_path (like a (Some n) w b e) rest = refl
behind_no_path (null a w None u) rest = refl
behind_no_path (null a w (Some n) u) rest = refl

-- values of n tokens are read, and `below` reads conditions
module _ (below : Read Condition) (n : ℕ) where
  -- a test is read by what follows its value
  pub follows_complete : (a : Value°) (rest : List Token) (x : Condition × List Token) → length (write_value a rest) ≤ n → Ends rest
      → follows_at n below (value_tree a) (begins_variable (write_value a rest)) rest ≡ Some x → simple_at n below (write_value a rest) ≡ Some x
  unfolding simple_at valued_at
  follows_complete a rest x h e t = rw (value_no_type a rest, value_read n a rest h e) t

  -- a test of values
  pub tested_complete : (d : Tested°) (rest : List Token) → length (write_tested d rest) ≤ n → After rest
      → simple_at n below (write_tested d rest) ≡ Some (test_tree (tested d), rest)
  unfolding follows_at value_tested_at
  tested_complete d rest h e =
      let long : length (write_value (first_value d) (behind_value d rest)) ≤ n = rw (← tested_written d rest) h in
      rw (tested_written d rest) (follows_complete (first_value d) (behind_value d rest) (test_tree (tested d), rest) long (behind_ends d rest)
      (rw (behind_no_rows d rest, behind_no_path d rest, follows_tested (value_at n) n (value_read n) d rest h e)))

  pub empty_complete : (p : Steps) (neg : Written) (w u : Text) (rest : List Token) → length (write_test (empty p w neg u) rest) ≤ n
      → simple_at n below (write_test (empty p w neg u) rest) ≡ Some (test_tree (empty p w neg u), rest)
  unfolding follows_at path_tested_at empty_at
  empty_complete p neg w u rest h =
      follows_complete (of_path p) (t.Key k.Is w ∷ write_word k.Not neg (t.Key k.Empty u ∷ rest)) _ h ends_key
      (rw (word_complete k.Not neg (t.Key k.Empty u ∷ rest) refl) (rw (negated_complete neg (is.IsEmpty (path_tree p)))))

  pub member_complete : (a : Value°) (neg : Written) (w : Text) (of : Written) (p : Steps) (rest : List Token) → length (write_test (member a neg w of p) rest) ≤ n → Ends rest
      → simple_at n below (write_test (member a neg w of p) rest) ≡ Some (test_tree (member a neg w of p), rest)
  unfolding follows_at path_tested_at member_at
  member_complete a None w of p rest h e =
      follows_complete a (t.Key k.Member w ∷ write_word k.Of of (write_path p rest)) _ h ends_key
      (rw (word_complete k.Of of (write_path p rest) refl, path_complete p rest e.dot))
  member_complete a (Some v) w of p rest h e =
      follows_complete a (t.Key k.Not v ∷ t.Key k.Member w ∷ write_word k.Of of (write_path p rest)) _ h ends_key
      (rw (word_complete k.Of of (write_path p rest) refl, path_complete p rest e.dot))

-- ---- TYPE

pub name_complete : (e : Name) (rest : List Token) → name_at (name_token e ∷ rest) ≡ Some (name_text e, rest)
unfolding name_at
name_complete (plain w) rest = refl
name_complete (word j w) rest = refl

abbrev write_name : Name → List Token → List Token
write_name e rest = name_token e ∷ rest

-- entities, up to the parenthesis that closes
names_list : (e : Name) (es : List Name) (rest : List Token) → list_at name_at (write_name e (write_others write_name es (close rest))) ≡ Some (name_text e ∷ map name_text es, close rest)
names_list e es rest =
    list_complete name_at write_name name_text (λ ts. Unit {0}) (length (write_name e (write_others write_name es (close rest)))) (λ ts. tt) name_skip (λ d rest h f. name_complete d rest) e es (close rest) (omega arith) tt refl

pub type_complete : (below : Read Condition) (n : ℕ) (w x : Text) (e : Name) (rest : List Token) → simple_at n below (write_test (type_is w x e) rest) ≡ Some (test_tree (type_is w x e), rest)
unfolding simple_at typed_at variable_at entity_at type_is_at
type_complete below n w x e rest = rw (name_complete e rest)

pub type_not_complete : (below : Read Condition) (n : ℕ) (w x : Text) (e : Name) (rest : List Token) → simple_at n below (write_test (type_is_not w x e) rest) ≡ Some (test_tree (type_is_not w x e), rest)
unfolding simple_at typed_at variable_at entity_at type_is_at
type_not_complete below n w x e rest = rw (name_complete e rest)

pub type_among_complete : (below : Read Condition) (n : ℕ) (w x : Text) (neg : Written) (u : Text) (e : Name) (es : List Name) (rest : List Token)
    → simple_at n below (write_test (type_among w x neg u e es) rest) ≡ Some (test_tree (type_among w x neg u e es), rest)
unfolding simple_at typed_at variable_at entity_at entities_at closed
type_among_complete below n w x None u e es rest = rw (names_list e es rest)
type_among_complete below n w x (Some v) u e es rest = rw (names_list e es rest)
