-- What the grammar writes as a value is read, with its tree.
use Rattle.std.proofs.Common.{◌≡◌, ℕ, zero, suc, ◌≤◌, false, List, [], ◌∷◌, length, arith, Some, refl}
use Rattle.jpql_grammar.specs.declared.grammar.token.Mark.TheVariants as m
use Rattle.jpql_grammar.specs.declared.grammar.token.Token.{Token}
use Rattle.jpql_trees.specs.declared.tree.Value.{Value}
use Rattle.jpql_trees.specs.declared.tree.Aggregate.TheVariants as g
use Rattle.jpql_grammar.specs.grammar.ValueGrammar.{Value°, sum, Sums°, no_sums, plus, minus, Product°, product, Times°, no_times, times, Unary°, unsigned, positive, negative, Atom°, integer, text, parameter, path, call, group, Call°, length_of, concat, substring_from, substring, locate, locate_from, abs, modulo, size, coalesce, null_if, upper, lower, trim, aggregate, aggregate_distinct, case_when, case_of, When°, no_more, more, write_value, write_sums, write_product, write_times, write_unary, write_atom, write_call, write_when, value_tree, sums_tree, product_tree, times_tree, unary_tree, atom_tree, call_tree, more_trees, when_tree}
use Rattle.jpql_grammar.specs.grammar.Values.{Read, sees, closed, trim_at, call_at, word_at, atom_at, unary_at, times_at, product_at, sums_at, level_at, value_at, when_at}
use Rattle.jpql_grammar.proofs.grammar.Skips.{close, trimming_skip, product_skip, unary_skip}
use Rattle.jpql_grammar.proofs.grammar.PartsComplete.{Ends, sums_no_dot, sums_no_star, times_no_dot, path_complete, atom_no_plus, atom_no_minus, value_no_distinct, trimming_complete, ends_close, two_more, value_some, values_complete}
use Rattle.jpql_grammar.proofs.grammar.WhensComplete.{AfterWhen, case_when_complete, case_of_complete, when_level_complete}

-- `inner` reads what stands inside parentheses or CASE, of at most n tokens, and `when` what stands behind
-- WHEN
module _ (inner : Read Value) (n : ℕ)
    (nested : (d : Value°) (rest : List Token) → length (write_value d rest) ≤ n → Ends rest → inner (write_value d rest) ≡ Some (value_tree d, rest))
    (when : Read Value)
    (deeper : (d : When°) (rest : List Token) → suc (length (write_when d rest)) ≤ n → AfterWhen rest → when (write_when d rest) ≡ Some (when_tree d, rest)) where
  call_complete : (d : Call°) (rest : List Token) → length (write_call d rest) ≤ suc n
      → atom_at inner when (write_call d rest) ≡ Some (call_tree d, rest)
  unfolding atom_at word_at call_at trim_at closed
  call_complete (length_of w a) rest h = rw (values_complete inner n nested a no_more rest (omega arith))
  call_complete (concat w a b all) rest h = rw (values_complete inner n nested a (more b all) rest (omega arith)) (rw (two_more (more_trees all)))
  call_complete (substring_from w a b) rest h = rw (values_complete inner n nested a (more b no_more) rest (omega arith))
  call_complete (substring w a b d) rest h = rw (values_complete inner n nested a (more b (more d no_more)) rest (omega arith))
  call_complete (locate w a b) rest h = rw (values_complete inner n nested a (more b no_more) rest (omega arith))
  call_complete (locate_from w a b d) rest h = rw (values_complete inner n nested a (more b (more d no_more)) rest (omega arith))
  call_complete (abs w a) rest h = rw (values_complete inner n nested a no_more rest (omega arith))
  call_complete (modulo w a b) rest h = rw (values_complete inner n nested a (more b no_more) rest (omega arith))
  call_complete (size w p) rest h = rw (path_complete p (close rest) refl)
  call_complete (coalesce w a b all) rest h = rw (values_complete inner n nested a (more b all) rest (omega arith)) (rw (two_more (more_trees all)))
  call_complete (null_if w a b) rest h = rw (values_complete inner n nested a (more b no_more) rest (omega arith))
  call_complete (upper w a) rest h = rw (values_complete inner n nested a no_more rest (omega arith))
  call_complete (lower w a) rest h = rw (values_complete inner n nested a no_more rest (omega arith))
  call_complete (trim w x a) rest h =
      rw (trimming_complete x a rest, nested a (close rest) (omega (arith, (trimming_skip x (write_value a (close rest))).long)) (ends_close rest))
  call_complete (aggregate g.Count w a) rest h = rw (value_no_distinct a (close rest), nested a (close rest) (omega arith) (ends_close rest))
  call_complete (aggregate g.Sum w a) rest h = rw (value_no_distinct a (close rest), nested a (close rest) (omega arith) (ends_close rest))
  call_complete (aggregate g.Min w a) rest h = rw (value_no_distinct a (close rest), nested a (close rest) (omega arith) (ends_close rest))
  call_complete (aggregate g.Max w a) rest h = rw (value_no_distinct a (close rest), nested a (close rest) (omega arith) (ends_close rest))
  call_complete (aggregate_distinct g.Count w d a) rest h = rw (nested a (close rest) (omega arith) (ends_close rest))
  call_complete (aggregate_distinct g.Sum w d a) rest h = rw (nested a (close rest) (omega arith) (ends_close rest))
  call_complete (aggregate_distinct g.Min w d a) rest h = rw (nested a (close rest) (omega arith) (ends_close rest))
  call_complete (aggregate_distinct g.Max w d a) rest h = rw (nested a (close rest) (omega arith) (ends_close rest))
  call_complete (case_when w u d v a bs) rest h = case_when_complete inner n nested when deeper u d v a bs rest (omega arith)
  call_complete (case_of w x u b v a bs) rest h = case_of_complete inner n nested when deeper x u b v a bs rest (omega arith)

  atom_complete : (d : Atom°) (rest : List Token) → length (write_atom d rest) ≤ suc n → sees m.Dot rest ≡ false
      → atom_at inner when (write_atom d rest) ≡ Some (atom_tree d, rest)
  unfolding atom_at word_at closed
  atom_complete (integer i) rest h e = refl
  atom_complete (text w) rest h e = refl
  atom_complete (parameter w) rest h e = refl
  atom_complete (path p) rest h e = rw (path_complete p rest e)
  atom_complete (call c) rest h e = call_complete c rest h
  atom_complete (group a) rest h e = rw (nested a (close rest) (omega arith) (ends_close rest))

  unary_complete : (d : Unary°) (rest : List Token) → length (write_unary d rest) ≤ suc n → sees m.Dot rest ≡ false
      → unary_at inner when (write_unary d rest) ≡ Some (unary_tree d, rest)
  unfolding unary_at
  unary_complete (unsigned a) rest h e = rw (atom_no_plus a rest, atom_no_minus a rest) (atom_complete a rest h e)
  unary_complete (positive a) rest h e = rw (atom_complete a rest (omega arith) e)
  unary_complete (negative a) rest h e = rw (atom_complete a rest (omega arith) e)

  times_complete : (d : Times°) (j : ℕ) (before : Value) (rest : List Token) → length (write_times d rest) ≤ suc n → length (write_times d rest) ≤ j → sees m.Dot rest ≡ false → sees m.Star rest ≡ false
      → times_at inner when j before (write_times d rest) ≡ Some (times_tree before d, rest)
  unfolding times_at
  times_complete no_times zero before rest h l e star = refl
  times_complete no_times (suc j) before rest h l e star = rw star
  times_complete (times u us) zero before rest h l e star = absurd (omega arith)
  times_complete (times u us) (suc j) before rest h l e star =
      let past = unary_skip u (write_times us rest) in
      rw (unary_complete u (write_times us rest) (omega arith) (times_no_dot us rest e))
      (times_complete us j _ rest (omega (arith, past.long)) (omega (arith, past.long)) e star)

  product_complete : (d : Product°) (rest : List Token) → length (write_product d rest) ≤ suc n → sees m.Dot rest ≡ false → sees m.Star rest ≡ false
      → product_at inner when (write_product d rest) ≡ Some (product_tree d, rest)
  unfolding product_at
  product_complete (product u us) rest h e star =
      rw (unary_complete u (write_times us rest) h (times_no_dot us rest e))
      (times_complete us (length (write_times us rest)) (unary_tree u) rest (omega (arith, (unary_skip u (write_times us rest)).long)) (omega arith) e star)

  sums_complete : (d : Sums°) (j : ℕ) (before : Value) (rest : List Token) → length (write_sums d rest) ≤ suc n → length (write_sums d rest) ≤ j → Ends rest
      → sums_at inner when j before (write_sums d rest) ≡ Some (sums_tree before d, rest)
  unfolding sums_at
  sums_complete no_sums zero before rest h l e = refl
  sums_complete no_sums (suc j) before rest h l e = rw (e.plus, e.minus)
  sums_complete (plus p ps) zero before rest h l e = absurd (omega arith)
  sums_complete (minus p ps) zero before rest h l e = absurd (omega arith)
  sums_complete (plus p ps) (suc j) before rest h l e =
      let past = product_skip p (write_sums ps rest) in
      rw (product_complete p (write_sums ps rest) (omega arith) (sums_no_dot ps rest e.dot) (sums_no_star ps rest e.star))
      (sums_complete ps j _ rest (omega (arith, past.long)) (omega (arith, past.long)) e)
  sums_complete (minus p ps) (suc j) before rest h l e =
      let past = product_skip p (write_sums ps rest) in
      rw (product_complete p (write_sums ps rest) (omega arith) (sums_no_dot ps rest e.dot) (sums_no_star ps rest e.star))
      (sums_complete ps j _ rest (omega (arith, past.long)) (omega (arith, past.long)) e)

  level_complete : (d : Value°) (rest : List Token) → length (write_value d rest) ≤ suc n → Ends rest → level_at inner when (write_value d rest) ≡ Some (value_tree d, rest)
  unfolding level_at
  level_complete (sum p ps) rest h e =
      rw (product_complete p (write_sums ps rest) h (sums_no_dot ps rest e.dot) (sums_no_star ps rest e.star))
      (sums_complete ps (length (write_sums ps rest)) (product_tree p) rest (omega (arith, (product_skip p (write_sums ps rest)).long)) (omega arith) e)

mutual
  unfolding value_at

  -- n tokens and more than there are
  pub value_read : (n : ℕ) (d : Value°) (rest : List Token) → length (write_value d rest) ≤ n → Ends rest
      → value_at n (write_value d rest) ≡ Some (value_tree d, rest)
  value_read zero d rest h e = absurd (omega (arith, value_some d rest))
  value_read (suc n) d rest h e = level_complete (value_at n) n (value_read n) (when_at n) (when_read n) d rest h e

  -- and behind WHEN more than there are
  when_read : (n : ℕ) (d : When°) (rest : List Token) → suc (length (write_when d rest)) ≤ n → AfterWhen rest
      → when_at n (write_when d rest) ≡ Some (when_tree d, rest)
  when_read zero d rest h e = absurd (omega arith)
  when_read (suc n) d rest h e = when_level_complete (value_at n) n (value_read n) (when_at n) (when_read n) d rest (omega arith) e
