-- What the grammar writes as a test of values is read behind its first value, with its tree.
use Rattle.std.proofs.Common.{◌≡◌, ℕ, ◌≤◌, true, false, List, [], ◌∷◌, length, Option, Some, None, refl, arith}
use Rattle.jpql_grammar.specs.declared.grammar.token.Keyword.{Keyword}
use Rattle.jpql_grammar.specs.declared.grammar.token.Keyword.TheVariants as k
use Rattle.jpql_grammar.specs.declared.grammar.token.Mark.TheVariants as m
use Rattle.jpql_grammar.specs.declared.grammar.token.Token.{Token}
use Rattle.jpql_grammar.specs.declared.grammar.token.Token.TheVariants as t
use Rattle.jpql_trees.specs.declared.tree.Comparison.{Comparison}
use Rattle.jpql_trees.specs.declared.tree.Comparison.TheVariants as c
use Rattle.jpql_trees.specs.tree.Names.{Text}
use Rattle.jpql_grammar.specs.grammar.Tests.{Written, write_word, is_written, comparison_mark, write_escape, escape_text}
use Rattle.jpql_trees.specs.declared.tree.Value.{Value}
use Rattle.jpql_grammar.specs.grammar.ValueGrammar.{Value°, sum, product, unsigned, positive, negative, integer, text, parameter, path, call, group, Tested°, compare, between, among, among_none, like, null, write_value, write_times, write_sums, write_more, write_tested, value_tree, tested_tree}
use Rattle.jpql_grammar.specs.grammar.Values.{Read, sees, is_word, closed, comparison_at, sees_comparison, goes_on_at, escape_at, compared_at, between_at, among_at, like_at, null_at, worded_at, tested_at}
use Rattle.jpql_grammar.proofs.grammar.Skips.{opened, close, value_skip}
use Rattle.jpql_grammar.proofs.grammar.Tools.{word_complete}
use Rattle.jpql_grammar.proofs.grammar.Calls.{is_call, of_call}
use Rattle.jpql_grammar.proofs.grammar.PartsComplete.{Ends, After, ends_key, value_no_word, values_complete}

pub comparison_ends : (op : Comparison) (rest : List Token) → Ends (t.Mark (comparison_mark op) ∷ rest)
comparison_ends c.Equal rest = record { dot = refl; star = refl; plus = refl; minus = refl }
comparison_ends c.Different rest = record { dot = refl; star = refl; plus = refl; minus = refl }
comparison_ends c.Less rest = record { dot = refl; star = refl; plus = refl; minus = refl }
comparison_ends c.AtMost rest = record { dot = refl; star = refl; plus = refl; minus = refl }
comparison_ends c.Greater rest = record { dot = refl; star = refl; plus = refl; minus = refl }
comparison_ends c.AtLeast rest = record { dot = refl; star = refl; plus = refl; minus = refl }

pub comparison_seen : (op : Comparison) (rest : List Token) → sees_comparison (t.Mark (comparison_mark op) ∷ rest) ≡ true
comparison_seen c.Equal rest = refl
comparison_seen c.Different rest = refl
comparison_seen c.Less rest = refl
comparison_seen c.AtMost rest = refl
comparison_seen c.Greater rest = refl
comparison_seen c.AtLeast rest = refl

pub comparison_goes : (op : Comparison) (rest : List Token) → goes_on_at (t.Mark (comparison_mark op) ∷ rest) ≡ true
comparison_goes c.Equal rest = refl
comparison_goes c.Different rest = refl
comparison_goes c.Less rest = refl
comparison_goes c.AtMost rest = refl
comparison_goes c.Greater rest = refl
comparison_goes c.AtLeast rest = refl

pub comparison_complete : (op : Comparison) (rest : List Token) → comparison_at (t.Mark (comparison_mark op) ∷ rest) ≡ Some (op, rest)
unfolding comparison_at
comparison_complete c.Equal rest = refl
comparison_complete c.Different rest = refl
comparison_complete c.Less rest = refl
comparison_complete c.AtMost rest = refl
comparison_complete c.Greater rest = refl
comparison_complete c.AtLeast rest = refl

escape_complete : (e : Option (Text × Text)) (rest : List Token) → is_word k.Escape rest ≡ false → escape_at (write_escape e rest) ≡ Some (escape_text e, rest)
unfolding escape_at
escape_complete (Some e) rest h = refl
escape_complete None [] h = refl
escape_complete None (x ∷ rest) h = rw h

escape_ends : (e : Option (Text × Text)) (rest : List Token) → Ends rest → Ends (write_escape e rest)
escape_ends None rest h = h
escape_ends (Some e) rest h = ends_key

-- no value begins with a parenthesis that closes
value_no_close : (x : Value°) (rest : List Token) → sees m.Close (write_value x rest) ≡ false
value_no_close (sum (product (unsigned (integer n)) us) ps) rest = refl
value_no_close (sum (product (unsigned (text w)) us) ps) rest = refl
value_no_close (sum (product (unsigned (parameter w)) us) ps) rest = refl
value_no_close (sum (product (unsigned (path p)) us) ps) rest = refl
value_no_close (sum (product (unsigned (call x)) us) ps) rest = of_call (sees m.Close) false (λ j w ts b. refl) x (write_times us (write_sums ps rest))
value_no_close (sum (product (unsigned (group a)) us) ps) rest = refl
value_no_close (sum (product (positive a) us) ps) rest = refl
value_no_close (sum (product (negative a) us) ps) rest = refl

-- ---- a test is its first value, and what stands behind that

abbrev pub first_value : Tested° → Value°
first_value (compare op a b) = a
first_value (between a n w b u d) = a
first_value (among a n w b all) = a
first_value (among_none a n w) = a
first_value (like a n w b e) = a
first_value (null a w n u) = a

abbrev pub behind_value : Tested° → List Token → List Token
behind_value (compare op a b) rest = t.Mark (comparison_mark op) ∷ write_value b rest
behind_value (between a n w b u d) rest = write_word k.Not n (t.Key k.Between w ∷ write_value b (t.Key k.And u ∷ write_value d rest))
behind_value (among a n w b all) rest = write_word k.Not n (t.Key k.In w ∷ opened (write_value b (write_more all (close rest))))
behind_value (among_none a n w) rest = write_word k.Not n (t.Key k.In w ∷ opened (close rest))
behind_value (like a n w b e) rest = write_word k.Not n (t.Key k.Like w ∷ write_value b (write_escape e rest))
behind_value (null a w n u) rest = t.Key k.Is w ∷ write_word k.Not n (t.Key k.Null u ∷ rest)

pub tested_written : (d : Tested°) (rest : List Token) → write_tested d rest ≡ write_value (first_value d) (behind_value d rest)
tested_written (compare op a b) rest = refl
tested_written (between a n w b u d) rest = refl
tested_written (among a n w b all) rest = refl
tested_written (among_none a n w) rest = refl
tested_written (like a n w b e) rest = refl
tested_written (null a w n u) rest = refl

-- no other word begins it
pub tested_no_word : (j : Keyword) → is_call j ≡ false → (d : Tested°) (rest : List Token) → is_word j (write_tested d rest) ≡ false
tested_no_word j e d rest = rw (tested_written d rest) (value_no_word j e (first_value d) (behind_value d rest))

pub behind_ends : (d : Tested°) (rest : List Token) → Ends (behind_value d rest)
behind_ends (compare op a b) rest = comparison_ends op (write_value b rest)
behind_ends (between a None w b u d) rest = ends_key
behind_ends (between a (Some n) w b u d) rest = ends_key
behind_ends (among a None w b all) rest = ends_key
behind_ends (among a (Some n) w b all) rest = ends_key
behind_ends (among_none a None w) rest = ends_key
behind_ends (among_none a (Some n) w) rest = ends_key
behind_ends (like a None w b e) rest = ends_key
behind_ends (like a (Some n) w b e) rest = ends_key
behind_ends (null a w n u) rest = ends_key

pub behind_goes : (d : Tested°) (rest : List Token) → goes_on_at (behind_value d rest) ≡ true
behind_goes (compare op a b) rest = comparison_goes op (write_value b rest)
behind_goes (between a None w b u d) rest = refl
behind_goes (between a (Some n) w b u d) rest = refl
behind_goes (among a None w b all) rest = refl
behind_goes (among a (Some n) w b all) rest = refl
behind_goes (among_none a None w) rest = refl
behind_goes (among_none a (Some n) w) rest = refl
behind_goes (like a None w b e) rest = refl
behind_goes (like a (Some n) w b e) rest = refl
behind_goes (null a w n u) rest = refl

-- `inner` reads values of at most n tokens
module _ (inner : Read Value) (n : ℕ)
    (nested : (d : Value°) (rest : List Token) → length (write_value d rest) ≤ n → Ends rest → inner (write_value d rest) ≡ Some (value_tree d, rest)) where
  pub follows_tested : (d : Tested°) (rest : List Token) → length (write_tested d rest) ≤ n → After rest
      → tested_at inner (value_tree (first_value d)) (behind_value d rest) ≡ Some (tested_tree d, rest)
  unfolding tested_at compared_at between_at among_at like_at null_at worded_at closed
  follows_tested (compare op a b) rest h e =
      let long = (value_skip a (t.Mark (comparison_mark op) ∷ write_value b rest)).long in
      rw (comparison_seen op (write_value b rest), comparison_complete op (write_value b rest), nested b rest (omega (arith, long)) e.ends)
  follows_tested (between a None w b u d) rest h e =
      let more = t.Key k.And u ∷ write_value d rest in
      let long = (value_skip a (t.Key k.Between w ∷ write_value b more)).long in
      rw (nested b more (omega (arith, long)) ends_key, nested d rest (omega (arith, long, (value_skip b more).long)) e.ends)
  follows_tested (between a (Some v) w b u d) rest h e =
      let more = t.Key k.And u ∷ write_value d rest in
      let long = (value_skip a (t.Key k.Not v ∷ t.Key k.Between w ∷ write_value b more)).long in
      rw (nested b more (omega (arith, long)) ends_key, nested d rest (omega (arith, long, (value_skip b more).long)) e.ends)
  follows_tested (among a None w b all) rest h e =
      let more = write_more all (close rest) in
      let long = (value_skip a (t.Key k.In w ∷ opened (write_value b more))).long in
      rw (value_no_close b more, values_complete inner n nested b all rest (omega (arith, long)))
  follows_tested (among a (Some v) w b all) rest h e =
      let more = write_more all (close rest) in
      let long = (value_skip a (t.Key k.Not v ∷ t.Key k.In w ∷ opened (write_value b more))).long in
      rw (value_no_close b more, values_complete inner n nested b all rest (omega (arith, long)))
  follows_tested (among_none a None w) rest h e = refl
  follows_tested (among_none a (Some v) w) rest h e = refl
  follows_tested (like a None w b x) rest h e =
      let more = write_escape x rest in
      let long = (value_skip a (t.Key k.Like w ∷ write_value b more)).long in
      rw (nested b more (omega (arith, long)) (escape_ends x rest e.ends), escape_complete x rest e.escape)
  follows_tested (like a (Some v) w b x) rest h e =
      let more = write_escape x rest in
      let long = (value_skip a (t.Key k.Not v ∷ t.Key k.Like w ∷ write_value b more)).long in
      rw (nested b more (omega (arith, long)) (escape_ends x rest e.ends), escape_complete x rest e.escape)
  follows_tested (null a w neg u) rest h e = rw (word_complete k.Not neg (t.Key k.Null u ∷ rest) refl)
