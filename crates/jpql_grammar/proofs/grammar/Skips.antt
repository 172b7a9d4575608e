-- What the grammar writes has parentheses that close one another, and is passed over where a parenthesis
-- is sought that closes.
use Rattle.std.proofs.Common.{◌≡◌, ◌∙◌, ℕ, zero, suc, ◌≤◌, false, List, [], ◌∷◌, length, Option, Some, None, refl, arith, ℤ}
use Rattle.jpql_grammar.specs.declared.grammar.token.Keyword.{Keyword}
use Rattle.jpql_grammar.specs.declared.grammar.token.Keyword.TheVariants as k
use Rattle.jpql_grammar.specs.declared.grammar.token.Mark.{Mark}
use Rattle.jpql_grammar.specs.declared.grammar.token.Mark.TheVariants as m
use Rattle.jpql_grammar.specs.declared.grammar.token.Token.{Token}
use Rattle.jpql_grammar.specs.declared.grammar.token.Token.TheVariants as t
use Rattle.jpql_trees.specs.declared.tree.Comparison.{Comparison}
use Rattle.jpql_trees.specs.declared.tree.Comparison.TheVariants as c
use Rattle.jpql_grammar.specs.grammar.Same.{same_mark}
use Rattle.jpql_grammar.specs.grammar.Tests.{Written, write_word, comparison_mark, write_escape}
use Rattle.jpql_grammar.specs.grammar.ValueGrammar.{Value°, sum, Sums°, no_sums, plus, minus, Product°, product, Times°, no_times, times, Unary°, unsigned, positive, negative, Atom°, integer, text, parameter, path, call, group, Call°, length_of, concat, substring_from, substring, locate, locate_from, abs, modulo, size, coalesce, null_if, upper, lower, trim, aggregate, aggregate_distinct, More°, no_more, more, write_value, write_sums, write_product, write_times, write_unary, write_atom, write_call, write_more, compare, between, among, among_none, like, null, case_when, case_of, Branches°, no_branches, branches, Matches°, no_matches, matches, When°, when, WhenOrs°, no_when_ors, when_or, WhenAnd°, when_conj, WhenAnds°, no_when_ands, when_and, WhenNot°, maybe_when_not, WhenTest°, when_inside, when_tested, Tested°, write_branches, write_matches, write_when, write_when_ors, write_when_and, write_when_ands, write_when_not, write_when_test, write_tested}
use Rattle.jpql_grammar.specs.grammar.Nesting.{past_close}
use Rattle.jpql_grammar.specs.grammar.Grammar.{Named, write_named, write_optional_name, Item°, write_item, write_others, Side, inner, left, write_side, Range, entity, related, write_range, Cond°, cond, Ors°, no_ors, or, And°, conj, Ands°, no_ands, and, Not°, maybe_not, Test°, inside, tested, empty, member, exists, quantified, among_rows, scalar_right, scalar_left, type_is, type_is_not, type_among, Sub°, sub, Scalar°, scalar, Source°, source, Sources°, no_sources, sources, Joins°, no_joins, joins, Join°, join, On°, no_on, on, Where°, no_where, filter, write_cond, write_ors, write_and, write_ands, write_not, write_test, write_sub, write_scalar, write_source, write_sources, write_joins, write_join, write_on, write_where, Direction, unwritten, ascending, descending, write_direction, Key°, write_key, Clause, no_clause, clause, write_clause, Having°, no_having, having, write_having, Set°, to_value, to_null, write_set, From°, from_entity, write_from}
use Rattle.jpql_trees.specs.tree.Names.{Text}
use Rattle.jpql_grammar.specs.grammar.Parts.{Name, plain, word, name_token, Steps, write_names, write_path, Taken°, taken_text, taken_parameter, Trimming°, unwritten_trimming, sided, unsided, write_taken, write_trimming, Quantifier°, every, any, some, write_quantifier}

abbrev pub opened : List Token → List Token
opened rest = t.Mark m.Open ∷ rest

abbrev pub close : List Token → List Token
close rest = t.Mark m.Close ∷ rest

abbrev pub comma : List Token → List Token
comma rest = t.Mark m.Comma ∷ rest

-- from these tokens on to those after a part of them
pub record Skips (ts rest : List Token) : Type 0 where
  pub long : length rest ≤ length ts
  pub past : (d : ℕ) → past_close d ts ≡ past_close d rest

pub stay : {ts : List Token} → Skips ts ts
stay = record { long = omega arith; past = λ d. refl }

pub chain : {ts mid rest : List Token} → Skips ts mid → Skips mid rest → Skips ts rest
chain a b = record { long = omega (arith, a.long, b.long); past = λ d. a.past d ∙ b.past d }

-- over a token that is no parenthesis
pub pass : {x : Token} {ts rest : List Token} → ((d : ℕ) → past_close d (x ∷ ts) ≡ past_close d ts) → Skips ts rest → Skips (x ∷ ts) rest
pass {ts} e a = record { long = omega (arith, a.long); past = λ d. e d ∙ a.past d }

-- over a parenthesis and the one that closes it
pub over : {ts mid rest : List Token} → Skips ts (close mid) → Skips mid rest → Skips (opened ts) rest
unfolding past_close
over a b = record { long = omega (arith, a.long, b.long); past = λ d. a.past (suc d) ∙ b.past d }

key_past : (j : Keyword) (w : Text) (ts : List Token) (d : ℕ) → past_close d (t.Key j w ∷ ts) ≡ past_close d ts
unfolding past_close
key_past j w ts zero = refl
key_past j w ts (suc d) = refl

pub key : {j : Keyword} {w : Text} {ts rest : List Token} → Skips ts rest → Skips (t.Key j w ∷ ts) rest
key {j} {w} {ts} a = pass (key_past j w ts) a

bare_past : (w : Text) (ts : List Token) (d : ℕ) → past_close d (t.Word w ∷ ts) ≡ past_close d ts
unfolding past_close
bare_past w ts zero = refl
bare_past w ts (suc d) = refl

pub bare : {w : Text} {ts rest : List Token} → Skips ts rest → Skips (t.Word w ∷ ts) rest
bare {w} {ts} a = pass (bare_past w ts) a

number_past : (n : ℤ) (ts : List Token) (d : ℕ) → past_close d (t.Number n ∷ ts) ≡ past_close d ts
unfolding past_close
number_past n ts zero = refl
number_past n ts (suc d) = refl

quoted_past : (w : Text) (ts : List Token) (d : ℕ) → past_close d (t.Quoted w ∷ ts) ≡ past_close d ts
unfolding past_close
quoted_past w ts zero = refl
quoted_past w ts (suc d) = refl

parameter_past : (w : Text) (ts : List Token) (d : ℕ) → past_close d (t.Parameter w ∷ ts) ≡ past_close d ts
unfolding past_close
parameter_past w ts zero = refl
parameter_past w ts (suc d) = refl

mark_past : (x : Mark) → same_mark m.Open x ≡ false → same_mark m.Close x ≡ false → (ts : List Token) (d : ℕ) → past_close d (t.Mark x ∷ ts) ≡ past_close d ts
unfolding past_close
mark_past m.Open e f ts d = absurd cc
mark_past m.Close e f ts d = absurd cc
mark_past x e f ts zero = refl
mark_past x e f ts (suc d) = refl

pub mark : {x : Mark} {ts rest : List Token} → same_mark m.Open x ≡ false → same_mark m.Close x ≡ false → Skips ts rest → Skips (t.Mark x ∷ ts) rest
mark {x} {ts} e f a = pass (mark_past x e f ts) a

-- ---- words

pub word_skip : (j : Keyword) (w : Written) (rest : List Token) → Skips (write_word j w rest) rest
word_skip j None rest = stay
word_skip j (Some w) rest = key stay

pub comparison_skip : (op : Comparison) (rest : List Token) → Skips (t.Mark (comparison_mark op) ∷ rest) rest
comparison_skip c.Equal rest = mark refl refl stay
comparison_skip c.Different rest = mark refl refl stay
comparison_skip c.Less rest = mark refl refl stay
comparison_skip c.AtMost rest = mark refl refl stay
comparison_skip c.Greater rest = mark refl refl stay
comparison_skip c.AtLeast rest = mark refl refl stay

pub escape_skip : (e : Option (Text × Text)) (rest : List Token) → Skips (write_escape e rest) rest
escape_skip None rest = stay
escape_skip (Some e) rest = key (pass (quoted_past e.1 rest) stay)

-- ---- names, paths and values

pub name_skip : (n : Name) (rest : List Token) → Skips (name_token n ∷ rest) rest
name_skip (plain w) rest = bare stay
name_skip (word k w) rest = key stay

pub names_skip : (ns : List Name) (rest : List Token) → Skips (write_names ns rest) rest
names_skip [] rest = stay
names_skip (n ∷ ns) rest = mark refl refl (chain (name_skip n (write_names ns rest)) (names_skip ns rest))

pub path_skip : (p : Steps) (rest : List Token) → Skips (write_path p rest) rest
path_skip p rest = bare (names_skip p.names rest)

taken_skip : (x : Option Taken°) (rest : List Token) → Skips (write_taken x rest) rest
taken_skip None rest = stay
taken_skip (Some (taken_text w)) rest = pass (quoted_past w rest) stay
taken_skip (Some (taken_parameter w)) rest = pass (parameter_past w rest) stay

pub trimming_skip : (x : Trimming°) (rest : List Token) → Skips (write_trimming x rest) rest
trimming_skip unwritten_trimming rest = stay
trimming_skip (sided h w x u) rest = key (chain (taken_skip x (t.Key k.From u ∷ rest)) (key stay))
trimming_skip (unsided x u) rest = chain (taken_skip (Some x) (t.Key k.From u ∷ rest)) (key stay)

mutual
  pub value_skip : (x : Value°) (rest : List Token) → Skips (write_value x rest) rest
  value_skip (sum p ps) rest = chain (product_skip p (write_sums ps rest)) (sums_skip ps rest)

  pub sums_skip : (x : Sums°) (rest : List Token) → Skips (write_sums x rest) rest
  sums_skip no_sums rest = stay
  sums_skip (plus p ps) rest = mark refl refl (chain (product_skip p (write_sums ps rest)) (sums_skip ps rest))
  sums_skip (minus p ps) rest = mark refl refl (chain (product_skip p (write_sums ps rest)) (sums_skip ps rest))

  pub product_skip : (x : Product°) (rest : List Token) → Skips (write_product x rest) rest
  product_skip (product u us) rest = chain (unary_skip u (write_times us rest)) (times_skip us rest)

  pub times_skip : (x : Times°) (rest : List Token) → Skips (write_times x rest) rest
  times_skip no_times rest = stay
  times_skip (times u us) rest = mark refl refl (chain (unary_skip u (write_times us rest)) (times_skip us rest))

  pub unary_skip : (x : Unary°) (rest : List Token) → Skips (write_unary x rest) rest
  unary_skip (unsigned a) rest = atom_skip a rest
  unary_skip (positive a) rest = mark refl refl (atom_skip a rest)
  unary_skip (negative a) rest = mark refl refl (atom_skip a rest)

  pub atom_skip : (x : Atom°) (rest : List Token) → Skips (write_atom x rest) rest
  atom_skip (integer n) rest = pass (number_past n rest) stay
  atom_skip (text w) rest = pass (quoted_past w rest) stay
  atom_skip (parameter w) rest = pass (parameter_past w rest) stay
  atom_skip (path p) rest = path_skip p rest
  atom_skip (call c) rest = call_skip c rest
  atom_skip (group a) rest = over (value_skip a (close rest)) stay

  pub call_skip : (x : Call°) (rest : List Token) → Skips (write_call x rest) rest
  call_skip (length_of w a) rest = key (over (value_skip a (close rest)) stay)
  call_skip (concat w a b all) rest = key (over (chain (value_skip a (comma (write_value b (write_more all (close rest))))) (mark refl refl (chain (value_skip b (write_more all (close rest))) (more_skip all (close rest))))) stay)
  call_skip (substring_from w a b) rest = key (over (chain (value_skip a (comma (write_value b (close rest)))) (mark refl refl (value_skip b (close rest)))) stay)
  call_skip (substring w a b d) rest = key (over (chain (value_skip a (comma (write_value b (comma (write_value d (close rest)))))) (mark refl refl (chain (value_skip b (comma (write_value d (close rest)))) (mark refl refl (value_skip d (close rest)))))) stay)
  call_skip (locate w a b) rest = key (over (chain (value_skip a (comma (write_value b (close rest)))) (mark refl refl (value_skip b (close rest)))) stay)
  call_skip (locate_from w a b d) rest = key (over (chain (value_skip a (comma (write_value b (comma (write_value d (close rest)))))) (mark refl refl (chain (value_skip b (comma (write_value d (close rest)))) (mark refl refl (value_skip d (close rest)))))) stay)
  call_skip (abs w a) rest = key (over (value_skip a (close rest)) stay)
  call_skip (modulo w a b) rest = key (over (chain (value_skip a (comma (write_value b (close rest)))) (mark refl refl (value_skip b (close rest)))) stay)
  call_skip (size w p) rest = key (over (path_skip p (close rest)) stay)
  call_skip (coalesce w a b all) rest = key (over (chain (value_skip a (comma (write_value b (write_more all (close rest))))) (mark refl refl (chain (value_skip b (write_more all (close rest))) (more_skip all (close rest))))) stay)
  call_skip (null_if w a b) rest = key (over (chain (value_skip a (comma (write_value b (close rest)))) (mark refl refl (value_skip b (close rest)))) stay)
  call_skip (upper w a) rest = key (over (value_skip a (close rest)) stay)
  call_skip (lower w a) rest = key (over (value_skip a (close rest)) stay)
  call_skip (trim w x a) rest = key (over (chain (trimming_skip x (write_value a (close rest))) (value_skip a (close rest))) stay)
  call_skip (aggregate h w a) rest = key (over (value_skip a (close rest)) stay)
  call_skip (aggregate_distinct h w d a) rest = key (over (key (value_skip a (close rest))) stay)
  call_skip (case_when w u d v a bs) rest =
      key (key (chain (when_skip d (t.Key k.Then v ∷ write_value a (write_branches bs rest))) (key (chain (value_skip a (write_branches bs rest)) (branches_skip bs rest)))))
  call_skip (case_of w x u b v a bs) rest =
      key (chain (value_skip x (t.Key k.When u ∷ write_value b (t.Key k.Then v ∷ write_value a (write_matches bs rest))))
      (key (chain (value_skip b (t.Key k.Then v ∷ write_value a (write_matches bs rest))) (key (chain (value_skip a (write_matches bs rest)) (matches_skip bs rest))))))

  pub more_skip : (x : More°) (rest : List Token) → Skips (write_more x rest) rest
  more_skip no_more rest = stay
  more_skip (more a all) rest = mark refl refl (chain (value_skip a (write_more all rest)) (more_skip all rest))

  pub branches_skip : (x : Branches°) (rest : List Token) → Skips (write_branches x rest) rest
  branches_skip (no_branches w a u) rest = key (chain (value_skip a (t.Key k.End u ∷ rest)) (key stay))
  branches_skip (branches u d v a bs) rest =
      key (chain (when_skip d (t.Key k.Then v ∷ write_value a (write_branches bs rest))) (key (chain (value_skip a (write_branches bs rest)) (branches_skip bs rest))))

  pub matches_skip : (x : Matches°) (rest : List Token) → Skips (write_matches x rest) rest
  matches_skip (no_matches w a u) rest = key (chain (value_skip a (t.Key k.End u ∷ rest)) (key stay))
  matches_skip (matches u b v a bs) rest =
      key (chain (value_skip b (t.Key k.Then v ∷ write_value a (write_matches bs rest))) (key (chain (value_skip a (write_matches bs rest)) (matches_skip bs rest))))

  pub when_skip : (x : When°) (rest : List Token) → Skips (write_when x rest) rest
  when_skip (when a os) rest = chain (when_and_skip a (write_when_ors os rest)) (when_ors_skip os rest)

  pub when_ors_skip : (x : WhenOrs°) (rest : List Token) → Skips (write_when_ors x rest) rest
  when_ors_skip no_when_ors rest = stay
  when_ors_skip (when_or w a os) rest = key (chain (when_and_skip a (write_when_ors os rest)) (when_ors_skip os rest))

  pub when_and_skip : (x : WhenAnd°) (rest : List Token) → Skips (write_when_and x rest) rest
  when_and_skip (when_conj n ns) rest = chain (when_not_skip n (write_when_ands ns rest)) (when_ands_skip ns rest)

  pub when_ands_skip : (x : WhenAnds°) (rest : List Token) → Skips (write_when_ands x rest) rest
  when_ands_skip no_when_ands rest = stay
  when_ands_skip (when_and w n ns) rest = key (chain (when_not_skip n (write_when_ands ns rest)) (when_ands_skip ns rest))

  pub when_not_skip : (x : WhenNot°) (rest : List Token) → Skips (write_when_not x rest) rest
  when_not_skip (maybe_when_not n x) rest = chain (word_skip k.Not n (write_when_test x rest)) (when_test_skip x rest)

  pub when_test_skip : (x : WhenTest°) (rest : List Token) → Skips (write_when_test x rest) rest
  when_test_skip (when_inside x) rest = over (when_skip x (close rest)) stay
  when_test_skip (when_tested x) rest = tested_skip x rest

  pub tested_skip : (x : Tested°) (rest : List Token) → Skips (write_tested x rest) rest
  tested_skip (compare op a b) rest = chain (value_skip a (t.Mark (comparison_mark op) ∷ write_value b rest)) (chain (comparison_skip op (write_value b rest)) (value_skip b rest))
  tested_skip (between a n w b u d) rest =
      chain (value_skip a (write_word k.Not n (t.Key k.Between w ∷ write_value b (t.Key k.And u ∷ write_value d rest))))
      (chain (word_skip k.Not n (t.Key k.Between w ∷ write_value b (t.Key k.And u ∷ write_value d rest))) (key (chain (value_skip b (t.Key k.And u ∷ write_value d rest)) (key (value_skip d rest)))))
  tested_skip (among a n w b all) rest =
      chain (value_skip a (write_word k.Not n (t.Key k.In w ∷ opened (write_value b (write_more all (close rest))))))
      (chain (word_skip k.Not n (t.Key k.In w ∷ opened (write_value b (write_more all (close rest))))) (key (over (chain (value_skip b (write_more all (close rest))) (more_skip all (close rest))) stay)))
  tested_skip (among_none a n w) rest =
      chain (value_skip a (write_word k.Not n (t.Key k.In w ∷ opened (close rest)))) (chain (word_skip k.Not n (t.Key k.In w ∷ opened (close rest))) (key (over stay stay)))
  tested_skip (like a n w b e) rest =
      chain (value_skip a (write_word k.Not n (t.Key k.Like w ∷ write_value b (write_escape e rest))))
      (chain (word_skip k.Not n (t.Key k.Like w ∷ write_value b (write_escape e rest))) (key (chain (value_skip b (write_escape e rest)) (escape_skip e rest))))
  tested_skip (null a w n u) rest =
      chain (value_skip a (t.Key k.Is w ∷ write_word k.Not n (t.Key k.Null u ∷ rest))) (key (chain (word_skip k.Not n (t.Key k.Null u ∷ rest)) (key stay)))

-- ---- names, items

pub named_skip : (n : Named) (rest : List Token) → Skips (write_named n rest) rest
named_skip n rest = chain (word_skip k.As n.as_word (t.Word n.name ∷ rest)) (bare stay)

pub optional_name_skip : (n : Option Named) (rest : List Token) → Skips (write_optional_name n rest) rest
optional_name_skip None rest = stay
optional_name_skip (Some n) rest = named_skip n rest

pub item_skip : (i : Item°) (rest : List Token) → Skips (write_item i rest) rest
item_skip i rest = chain (value_skip i.value (write_optional_name i.name rest)) (optional_name_skip i.name rest)

pub others_skip : {A : Type 0} (write : A → List Token → List Token) → ((a : A) (rest : List Token) → Skips (write a rest) rest)
    → (all : List A) (rest : List Token) → Skips (write_others write all rest) rest
others_skip write one [] rest = stay
others_skip write one (a ∷ all) rest = mark refl refl (chain (one a (write_others write all rest)) (others_skip write one all rest))

pub quantifier_skip : (x : Quantifier°) (rest : List Token) → Skips (write_quantifier x rest) rest
quantifier_skip (every w) rest = key stay
quantifier_skip (any w) rest = key stay
quantifier_skip (some w) rest = key stay

pub side_skip : (l : Side) (rest : List Token) → Skips (write_side l rest) rest
side_skip (inner w) rest = word_skip k.Inner w rest
side_skip (left w outer) rest = key (word_skip k.Outer outer rest)

pub range_skip : (r : Range) (rest : List Token) → Skips (write_range r rest) rest
range_skip (entity e n) rest = chain (name_skip e (write_named n rest)) (named_skip n rest)
range_skip (related w r n) rest = bare (mark refl refl (chain (name_skip r (write_named n rest)) (named_skip n rest)))

-- ---- conditions

mutual
  pub cond_skip : (x : Cond°) (rest : List Token) → Skips (write_cond x rest) rest
  cond_skip (cond a os) rest = chain (and_skip a (write_ors os rest)) (ors_skip os rest)

  pub ors_skip : (x : Ors°) (rest : List Token) → Skips (write_ors x rest) rest
  ors_skip no_ors rest = stay
  ors_skip (or w a os) rest = key (chain (and_skip a (write_ors os rest)) (ors_skip os rest))

  pub and_skip : (x : And°) (rest : List Token) → Skips (write_and x rest) rest
  and_skip (conj n ns) rest = chain (not_skip n (write_ands ns rest)) (ands_skip ns rest)

  pub ands_skip : (x : Ands°) (rest : List Token) → Skips (write_ands x rest) rest
  ands_skip no_ands rest = stay
  ands_skip (and w n ns) rest = key (chain (not_skip n (write_ands ns rest)) (ands_skip ns rest))

  pub not_skip : (x : Not°) (rest : List Token) → Skips (write_not x rest) rest
  not_skip (maybe_not n x) rest = chain (word_skip k.Not n (write_test x rest)) (test_skip x rest)

  pub test_skip : (x : Test°) (rest : List Token) → Skips (write_test x rest) rest
  test_skip (inside x) rest = over (cond_skip x (close rest)) stay
  test_skip (tested x) rest = tested_skip x rest
  test_skip (empty p w n u) rest =
      chain (path_skip p (t.Key k.Is w ∷ write_word k.Not n (t.Key k.Empty u ∷ rest))) (key (chain (word_skip k.Not n (t.Key k.Empty u ∷ rest)) (key stay)))
  test_skip (member a n w of p) rest =
      chain (value_skip a (write_word k.Not n (t.Key k.Member w ∷ write_word k.Of of (write_path p rest))))
      (chain (word_skip k.Not n (t.Key k.Member w ∷ write_word k.Of of (write_path p rest))) (key (chain (word_skip k.Of of (write_path p rest)) (path_skip p rest))))
  test_skip (exists w b) rest = key (over (sub_skip b (close rest)) stay)
  test_skip (quantified a op q b) rest =
      chain (value_skip a (t.Mark (comparison_mark op) ∷ write_quantifier q (opened (write_sub b (close rest)))))
      (chain (comparison_skip op (write_quantifier q (opened (write_sub b (close rest))))) (chain (quantifier_skip q (opened (write_sub b (close rest)))) (over (sub_skip b (close rest)) stay)))
  test_skip (among_rows a n w b) rest =
      chain (value_skip a (write_word k.Not n (t.Key k.In w ∷ opened (write_sub b (close rest)))))
      (chain (word_skip k.Not n (t.Key k.In w ∷ opened (write_sub b (close rest)))) (key (over (sub_skip b (close rest)) stay)))
  test_skip (scalar_right a op s) rest =
      chain (value_skip a (t.Mark (comparison_mark op) ∷ opened (write_scalar s (close rest))))
      (chain (comparison_skip op (opened (write_scalar s (close rest)))) (over (scalar_skip s (close rest)) stay))
  test_skip (scalar_left s op a) rest =
      over (scalar_skip s (close (t.Mark (comparison_mark op) ∷ write_value a rest))) (chain (comparison_skip op (write_value a rest)) (value_skip a rest))
  test_skip (type_is w x e) rest = key (over (bare stay) (mark refl refl (name_skip e rest)))
  test_skip (type_is_not w x e) rest = key (over (bare stay) (mark refl refl (name_skip e rest)))
  test_skip (type_among w x n u e es) rest =
      key (over (bare stay) (chain (word_skip k.Not n (t.Key k.In u ∷ opened (name_token e ∷ write_others (λ e rest. name_token e ∷ rest) es (close rest))))
      (key (over (chain (name_skip e (write_others (λ e rest. name_token e ∷ rest) es (close rest))) (others_skip (λ e rest. name_token e ∷ rest) name_skip es (close rest))) stay))))

  pub sub_skip : (x : Sub°) (rest : List Token) → Skips (write_sub x rest) rest
  sub_skip (sub w d i u x xs f) rest =
      key (chain (word_skip k.Distinct d (write_item i (t.Key k.From u ∷ write_source x (write_sources xs (write_where f rest)))))
      (chain (item_skip i (t.Key k.From u ∷ write_source x (write_sources xs (write_where f rest))))
      (key (chain (source_skip x (write_sources xs (write_where f rest))) (chain (sources_skip xs (write_where f rest)) (where_skip f rest))))))

  pub scalar_skip : (x : Scalar°) (rest : List Token) → Skips (write_scalar x rest) rest
  scalar_skip (scalar w g u d a v x xs f) rest =
      let more = t.Key k.From v ∷ write_source x (write_sources xs (write_where f rest)) in
      key (key (over (chain (word_skip k.Distinct d (write_value a (close more))) (value_skip a (close more)))
      (key (chain (source_skip x (write_sources xs (write_where f rest))) (chain (sources_skip xs (write_where f rest)) (where_skip f rest))))))

  pub source_skip : (x : Source°) (rest : List Token) → Skips (write_source x rest) rest
  source_skip (source r js) rest = chain (range_skip r (write_joins js rest)) (joins_skip js rest)

  pub sources_skip : (x : Sources°) (rest : List Token) → Skips (write_sources x rest) rest
  sources_skip no_sources rest = stay
  sources_skip (sources x xs) rest = mark refl refl (chain (source_skip x (write_sources xs rest)) (sources_skip xs rest))

  pub joins_skip : (x : Joins°) (rest : List Token) → Skips (write_joins x rest) rest
  joins_skip no_joins rest = stay
  joins_skip (joins j js) rest = chain (join_skip j (write_joins js rest)) (joins_skip js rest)

  pub join_skip : (x : Join°) (rest : List Token) → Skips (write_join x rest) rest
  join_skip (join l w x r n o) rest =
      chain (side_skip l (t.Key k.Join w ∷ t.Word x ∷ t.Mark m.Dot ∷ name_token r ∷ write_named n (write_on o rest)))
      (key (bare (mark refl refl (chain (name_skip r (write_named n (write_on o rest))) (chain (named_skip n (write_on o rest)) (on_skip o rest))))))

  pub on_skip : (x : On°) (rest : List Token) → Skips (write_on x rest) rest
  on_skip no_on rest = stay
  on_skip (on w x) rest = key (cond_skip x rest)

  pub where_skip : (x : Where°) (rest : List Token) → Skips (write_where x rest) rest
  where_skip no_where rest = stay
  where_skip (filter w x) rest = key (cond_skip x rest)

-- ---- parts of statements

direction_skip : (d : Direction) (rest : List Token) → Skips (write_direction d rest) rest
direction_skip unwritten rest = stay
direction_skip (ascending w) rest = key stay
direction_skip (descending w) rest = key stay

pub key_skip : (x : Key°) (rest : List Token) → Skips (write_key x rest) rest
key_skip (Key°.key a d) rest = chain (value_skip a (write_direction d rest)) (direction_skip d rest)

pub clause_skip : {A : Type 0} (kind : Keyword) (write : A → List Token → List Token) → ((a : A) (rest : List Token) → Skips (write a rest) rest)
    → (x : Clause A) (rest : List Token) → Skips (write_clause kind write x rest) rest
clause_skip kind write one no_clause rest = stay
clause_skip kind write one (clause w u a all) rest = key (key (chain (one a (write_others write all rest)) (others_skip write one all rest)))

pub having_skip : (x : Having°) (rest : List Token) → Skips (write_having x rest) rest
having_skip no_having rest = stay
having_skip (having w x) rest = key (cond_skip x rest)

pub set_skip : (x : Set°) (rest : List Token) → Skips (write_set x rest) rest
set_skip (to_value x n a) rest = bare (mark refl refl (chain (name_skip n (t.Mark m.Equal ∷ write_value a rest)) (mark refl refl (value_skip a rest))))
set_skip (to_null x n w) rest = bare (mark refl refl (chain (name_skip n (t.Mark m.Equal ∷ t.Key k.Null w ∷ rest)) (mark refl refl (key stay))))

pub from_skip : (x : From°) (rest : List Token) → Skips (write_from x rest) rest
from_skip (from_entity e n js) rest = chain (name_skip e (write_named n (write_joins js rest))) (chain (named_skip n (write_joins js rest)) (joins_skip js rest))
