-- The grammar of values, and of the tests that stand behind WHEN. A derivation says which case of which
-- line was taken. Its `write` is the tokens that it stands for, in front of those that follow. Its
-- `tree` is the value. Parentheses leave no node.
use Rattle.std.specs.Prelude.{false, true, List, [], ◌∷◌, ℤ, Option}
use Rattle.jpql_grammar.specs.declared.grammar.tested.Tested.{Tested}
use Rattle.jpql_grammar.specs.declared.grammar.tested.Tested.TheVariants as test
use Rattle.jpql_grammar.specs.declared.grammar.token.Keyword.TheVariants as k
use Rattle.jpql_grammar.specs.declared.grammar.token.Mark.TheVariants as m
use Rattle.jpql_grammar.specs.declared.grammar.token.Token.{Token}
use Rattle.jpql_grammar.specs.declared.grammar.token.Token.TheVariants as t
use Rattle.jpql_trees.specs.declared.tree.Function.TheVariants as f
use Rattle.jpql_trees.specs.declared.tree.Aggregate.{Aggregate}
use Rattle.jpql_trees.specs.declared.tree.Sign.TheVariants as s
use Rattle.jpql_trees.specs.declared.tree.Arithmetic.TheVariants as o
use Rattle.jpql_trees.specs.declared.tree.Comparison.{Comparison}
use Rattle.jpql_trees.specs.declared.tree.Value.{Value}
use Rattle.jpql_trees.specs.declared.tree.Value.TheVariants as v
use Rattle.jpql_trees.specs.tree.Names.{Text}
use Rattle.jpql_grammar.specs.grammar.Parts.{Steps, write_path, path_tree, aggregate_word, Trimming°, write_trimming}
use Rattle.jpql_grammar.specs.grammar.Parts.{trimming_tree, trimmed_value}
use Rattle.jpql_grammar.specs.grammar.Tests.{Written, write_word, is_written, comparison_mark, write_escape}
use Rattle.jpql_grammar.specs.grammar.Tests.{escape_text}
use Rattle.jpql_grammar.specs.grammar.Tests.{denied_if, value_of}

-- Each keyword comes with how it is written.
mutual
  -- value = product {("+" | "-") product}
  pub data Value° : Type 0 where
    sum : Product° → Sums° → Value°

  -- {("+" | "-") product}
  pub data Sums° : Type 0 where
    no_sums : Sums°
    plus : Product° → Sums° → Sums°
    minus : Product° → Sums° → Sums°

  -- product = unary {"*" unary}
  pub data Product° : Type 0 where
    product : Unary° → Times° → Product°

  -- {"*" unary}
  pub data Times° : Type 0 where
    no_times : Times°
    times : Unary° → Times° → Times°

  -- unary = ["+" | "-"] atom
  pub data Unary° : Type 0 where
    unsigned : Atom° → Unary°
    positive : Atom° → Unary°
    negative : Atom° → Unary°

  -- atom = integer | text | parameter | path | call | "(" value ")"
  pub data Atom° : Type 0 where
    integer : ℤ → Atom°
    text : Text → Atom°
    parameter : Text → Atom°
    path : Steps → Atom°
    call : Call° → Atom°
    group : Value° → Atom°

  -- a call of a function or an aggregate, or CASE (chapters 4.7.2, 4.7.4 and 4.9.5)
  pub data Call° : Type 0 where
    -- LENGTH(v)
    length_of : Text → Value° → Call°
    -- CONCAT(v, v {, v})
    concat : Text → Value° → Value° → More° → Call°
    -- SUBSTRING(v, v [, v])
    substring_from : Text → Value° → Value° → Call°
    substring : Text → Value° → Value° → Value° → Call°
    -- LOCATE(v, v [, v])
    locate : Text → Value° → Value° → Call°
    locate_from : Text → Value° → Value° → Value° → Call°
    -- ABS(v)
    abs : Text → Value° → Call°
    -- MOD(v, v)
    modulo : Text → Value° → Value° → Call°
    -- SIZE(path)
    size : Text → Steps → Call°
    -- COALESCE(v, v {, v})
    coalesce : Text → Value° → Value° → More° → Call°
    -- NULLIF(v, v)
    null_if : Text → Value° → Value° → Call°
    -- UPPER(v)
    upper : Text → Value° → Call°
    -- LOWER(v)
    lower : Text → Value° → Call°
    -- TRIM(v), TRIM((LEADING | TRAILING | BOTH) [t] FROM v), TRIM(t FROM v)
    trim : Text → Trimming° → Value° → Call°
    -- COUNT([DISTINCT] v) and so on
    aggregate : Aggregate → Text → Value° → Call°
    aggregate_distinct : Aggregate → Text → Text → Value° → Call°
    -- CASE WHEN when THEN v {WHEN when THEN v} ELSE v END
    case_when : Text → Text → When° → Text → Value° → Branches° → Call°
    -- CASE v WHEN v THEN v {WHEN v THEN v} ELSE v END
    case_of : Text → Value° → Text → Value° → Text → Value° → Matches° → Call°

  -- {, v}
  pub data More° : Type 0 where
    no_more : More°
    more : Value° → More° → More°

  -- {WHEN when THEN v} ELSE v END
  pub data Branches° : Type 0 where
    no_branches : Text → Value° → Text → Branches°
    branches : Text → When° → Text → Value° → Branches° → Branches°

  -- {WHEN v THEN v} ELSE v END
  pub data Matches° : Type 0 where
    no_matches : Text → Value° → Text → Matches°
    matches : Text → Value° → Text → Value° → Matches° → Matches°

  -- when = wand {OR wand}
  pub data When° : Type 0 where
    when : WhenAnd° → WhenOrs° → When°

  -- {OR wand}
  pub data WhenOrs° : Type 0 where
    no_when_ors : WhenOrs°
    when_or : Text → WhenAnd° → WhenOrs° → WhenOrs°

  -- wand = wnot {AND wnot}
  pub data WhenAnd° : Type 0 where
    when_conj : WhenNot° → WhenAnds° → WhenAnd°

  -- {AND wnot}
  pub data WhenAnds° : Type 0 where
    no_when_ands : WhenAnds°
    when_and : Text → WhenNot° → WhenAnds° → WhenAnds°

  -- wnot = [NOT] wtest
  pub data WhenNot° : Type 0 where
    maybe_when_not : Written → WhenTest° → WhenNot°

  -- wtest = "(" when ")" | a test of values
  pub data WhenTest° : Type 0 where
    when_inside : When° → WhenTest°
    when_tested : Tested° → WhenTest°

  -- a test of values (chapters 4.6.7 to 4.6.11)
  pub data Tested° : Type 0 where
    -- value op value
    compare : Comparison → Value° → Value° → Tested°
    -- value [NOT] BETWEEN value AND value
    between : Value° → Written → Text → Value° → Text → Value° → Tested°
    -- value [NOT] IN "(" value {"," value} ")"
    among : Value° → Written → Text → Value° → More° → Tested°
    -- value [NOT] IN "(" ")", which no text writes: a list without a value stands for it
    among_none : Value° → Written → Text → Tested°
    -- value [NOT] LIKE value [ESCAPE text]
    like : Value° → Written → Text → Value° → Option (Text × Text) → Tested°
    -- value IS [NOT] NULL
    null : Value° → Text → Written → Text → Tested°

abbrev mutual
  -- the tokens of a value
  pub write_value : Value° → List Token → List Token
  write_value (sum p ps) rest = write_product p (write_sums ps rest)

  -- the tokens of what is added and subtracted
  pub write_sums : Sums° → List Token → List Token
  write_sums no_sums rest = rest
  write_sums (plus p ps) rest = t.Mark m.Plus ∷ write_product p (write_sums ps rest)
  write_sums (minus p ps) rest = t.Mark m.Minus ∷ write_product p (write_sums ps rest)

  -- the tokens of a product
  pub write_product : Product° → List Token → List Token
  write_product (product u us) rest = write_unary u (write_times us rest)

  -- the tokens of the factors behind the first
  pub write_times : Times° → List Token → List Token
  write_times no_times rest = rest
  write_times (times u us) rest = t.Mark m.Star ∷ write_unary u (write_times us rest)

  -- the tokens of an atom with its sign
  pub write_unary : Unary° → List Token → List Token
  write_unary (unsigned a) rest = write_atom a rest
  write_unary (positive a) rest = t.Mark m.Plus ∷ write_atom a rest
  write_unary (negative a) rest = t.Mark m.Minus ∷ write_atom a rest

  -- the tokens of an atom
  pub write_atom : Atom° → List Token → List Token
  write_atom (integer n) rest = t.Number n ∷ rest
  write_atom (text w) rest = t.Quoted w ∷ rest
  write_atom (parameter w) rest = t.Parameter w ∷ rest
  write_atom (path p) rest = write_path p rest
  write_atom (call c) rest = write_call c rest
  write_atom (group a) rest = t.Mark m.Open ∷ write_value a (t.Mark m.Close ∷ rest)

  -- the tokens of a call
  pub write_call : Call° → List Token → List Token
  write_call (length_of w a) rest = t.Key k.Length w ∷ t.Mark m.Open ∷ write_value a (t.Mark m.Close ∷ rest)
  write_call (concat w a b all) rest =
      t.Key k.Concat w ∷ t.Mark m.Open
      ∷ write_value a (t.Mark m.Comma ∷ write_value b (write_more all (t.Mark m.Close ∷ rest)))
  write_call (substring_from w a b) rest =
      t.Key k.Substring w ∷ t.Mark m.Open ∷ write_value a (t.Mark m.Comma ∷ write_value b (t.Mark m.Close ∷ rest))
  write_call (substring w a b d) rest =
      t.Key k.Substring w ∷ t.Mark m.Open
      ∷ write_value a (t.Mark m.Comma ∷ write_value b (t.Mark m.Comma ∷ write_value d (t.Mark m.Close ∷ rest)))
  write_call (locate w a b) rest =
      t.Key k.Locate w ∷ t.Mark m.Open ∷ write_value a (t.Mark m.Comma ∷ write_value b (t.Mark m.Close ∷ rest))
  write_call (locate_from w a b d) rest =
      t.Key k.Locate w ∷ t.Mark m.Open
      ∷ write_value a (t.Mark m.Comma ∷ write_value b (t.Mark m.Comma ∷ write_value d (t.Mark m.Close ∷ rest)))
  write_call (abs w a) rest = t.Key k.Abs w ∷ t.Mark m.Open ∷ write_value a (t.Mark m.Close ∷ rest)
  write_call (modulo w a b) rest =
      t.Key k.Mod w ∷ t.Mark m.Open ∷ write_value a (t.Mark m.Comma ∷ write_value b (t.Mark m.Close ∷ rest))
  write_call (size w p) rest = t.Key k.Size w ∷ t.Mark m.Open ∷ write_path p (t.Mark m.Close ∷ rest)
  write_call (coalesce w a b all) rest =
      t.Key k.Coalesce w ∷ t.Mark m.Open
      ∷ write_value a (t.Mark m.Comma ∷ write_value b (write_more all (t.Mark m.Close ∷ rest)))
  write_call (null_if w a b) rest =
      t.Key k.NullIf w ∷ t.Mark m.Open ∷ write_value a (t.Mark m.Comma ∷ write_value b (t.Mark m.Close ∷ rest))
  write_call (upper w a) rest = t.Key k.Upper w ∷ t.Mark m.Open ∷ write_value a (t.Mark m.Close ∷ rest)
  write_call (lower w a) rest = t.Key k.Lower w ∷ t.Mark m.Open ∷ write_value a (t.Mark m.Close ∷ rest)
  write_call (trim w x a) rest =
      t.Key k.Trim w ∷ t.Mark m.Open ∷ write_trimming x (write_value a (t.Mark m.Close ∷ rest))
  write_call (aggregate f w a) rest = t.Key (aggregate_word f) w ∷ t.Mark m.Open ∷ write_value a (t.Mark m.Close ∷ rest)
  write_call (aggregate_distinct f w d a) rest =
      t.Key (aggregate_word f) w ∷ t.Mark m.Open ∷ t.Key k.Distinct d ∷ write_value a (t.Mark m.Close ∷ rest)
  write_call (case_when w u d v a bs) rest =
      t.Key k.Case w ∷ t.Key k.When u ∷ write_when d (t.Key k.Then v ∷ write_value a (write_branches bs rest))
  write_call (case_of w x u b v a bs) rest =
      t.Key k.Case w
      ∷ write_value x (t.Key k.When u ∷ write_value b (t.Key k.Then v ∷ write_value a (write_matches bs rest)))

  -- the tokens of the arguments that are left
  pub write_more : More° → List Token → List Token
  write_more no_more rest = rest
  write_more (more a all) rest = t.Mark m.Comma ∷ write_value a (write_more all rest)

  -- the tokens of the branches that are left, up to END
  pub write_branches : Branches° → List Token → List Token
  write_branches (no_branches w a u) rest = t.Key k.Else w ∷ write_value a (t.Key k.End u ∷ rest)
  write_branches (branches u d v a bs) rest =
      t.Key k.When u ∷ write_when d (t.Key k.Then v ∷ write_value a (write_branches bs rest))

  -- the same where the branches have values
  pub write_matches : Matches° → List Token → List Token
  write_matches (no_matches w a u) rest = t.Key k.Else w ∷ write_value a (t.Key k.End u ∷ rest)
  write_matches (matches u b v a bs) rest =
      t.Key k.When u ∷ write_value b (t.Key k.Then v ∷ write_value a (write_matches bs rest))

  -- the tokens of what stands behind WHEN
  pub write_when : When° → List Token → List Token
  write_when (when a os) rest = write_when_and a (write_when_ors os rest)

  -- the tokens of what is joined by OR
  pub write_when_ors : WhenOrs° → List Token → List Token
  write_when_ors no_when_ors rest = rest
  write_when_ors (when_or w a os) rest = t.Key k.Or w ∷ write_when_and a (write_when_ors os rest)

  -- the tokens of a conjunction
  pub write_when_and : WhenAnd° → List Token → List Token
  write_when_and (when_conj n ns) rest = write_when_not n (write_when_ands ns rest)

  -- the tokens of what is joined by AND
  pub write_when_ands : WhenAnds° → List Token → List Token
  write_when_ands no_when_ands rest = rest
  write_when_ands (when_and w n ns) rest = t.Key k.And w ∷ write_when_not n (write_when_ands ns rest)

  -- the tokens of a test with its NOT
  pub write_when_not : WhenNot° → List Token → List Token
  write_when_not (maybe_when_not n x) rest = write_word k.Not n (write_when_test x rest)

  -- the tokens of a test behind WHEN
  pub write_when_test : WhenTest° → List Token → List Token
  write_when_test (when_inside x) rest = t.Mark m.Open ∷ write_when x (t.Mark m.Close ∷ rest)
  write_when_test (when_tested x) rest = write_tested x rest

  -- the tokens of a test of values
  pub write_tested : Tested° → List Token → List Token
  write_tested (compare op a b) rest = write_value a (t.Mark (comparison_mark op) ∷ write_value b rest)
  write_tested (between a n w b u d) rest =
      write_value a (write_word k.Not n (t.Key k.Between w ∷ write_value b (t.Key k.And u ∷ write_value d rest)))
  write_tested (among a n w b all) rest =
      write_value a (write_word k.Not n
      (t.Key k.In w ∷ t.Mark m.Open ∷ write_value b (write_more all (t.Mark m.Close ∷ rest))))
  write_tested (among_none a n w) rest =
      write_value a (write_word k.Not n (t.Key k.In w ∷ t.Mark m.Open ∷ t.Mark m.Close ∷ rest))
  write_tested (like a n w b e) rest =
      write_value a (write_word k.Not n (t.Key k.Like w ∷ write_value b (write_escape e rest)))
  write_tested (null a w n u) rest = write_value a (t.Key k.Is w ∷ write_word k.Not n (t.Key k.Null u ∷ rest))

abbrev mutual
  -- the tree of a value; sums go from the left
  pub value_tree : Value° → Value
  value_tree (sum p ps) = sums_tree (product_tree p) ps

  -- what stands before, and the sums after it, from the left
  pub sums_tree : Value → Sums° → Value
  sums_tree left no_sums = left
  sums_tree left (plus p ps) = sums_tree (v.Arithmetic o.Plus left (product_tree p)) ps
  sums_tree left (minus p ps) = sums_tree (v.Arithmetic o.Minus left (product_tree p)) ps

  -- the tree of a product; factors go from the left
  pub product_tree : Product° → Value
  product_tree (product u us) = times_tree (unary_tree u) us

  -- what stands before, and the factors after it, from the left
  pub times_tree : Value → Times° → Value
  times_tree left no_times = left
  times_tree left (times u us) = times_tree (v.Arithmetic o.Times left (unary_tree u)) us

  -- the tree of an atom with its sign
  pub unary_tree : Unary° → Value
  unary_tree (unsigned a) = atom_tree a
  unary_tree (positive a) = v.Signed s.Plus (atom_tree a)
  unary_tree (negative a) = v.Signed s.Minus (atom_tree a)

  -- the tree of an atom; parentheses leave no node
  pub atom_tree : Atom° → Value
  atom_tree (integer n) = v.Integer n
  atom_tree (text w) = v.Text w
  atom_tree (parameter w) = v.Parameter w
  atom_tree (path p) = v.Path (path_tree p)
  atom_tree (call c) = call_tree c
  atom_tree (group a) = value_tree a

  -- the tree of a call
  pub call_tree : Call° → Value
  call_tree (length_of w a) = v.Call f.Length (value_tree a ∷ [])
  call_tree (concat w a b all) = v.Call f.Concat (value_tree a ∷ value_tree b ∷ more_trees all)
  call_tree (substring_from w a b) = v.Call f.Substring (value_tree a ∷ value_tree b ∷ [])
  call_tree (substring w a b d) = v.Call f.Substring (value_tree a ∷ value_tree b ∷ value_tree d ∷ [])
  call_tree (locate w a b) = v.Call f.Locate (value_tree a ∷ value_tree b ∷ [])
  call_tree (locate_from w a b d) = v.Call f.Locate (value_tree a ∷ value_tree b ∷ value_tree d ∷ [])
  call_tree (abs w a) = v.Call f.Abs (value_tree a ∷ [])
  call_tree (modulo w a b) = v.Call f.Mod (value_tree a ∷ value_tree b ∷ [])
  call_tree (size w p) = v.Size (path_tree p)
  call_tree (coalesce w a b all) = v.Call f.Coalesce (value_tree a ∷ value_tree b ∷ more_trees all)
  call_tree (null_if w a b) = v.Call f.NullIf (value_tree a ∷ value_tree b ∷ [])
  call_tree (upper w a) = v.Call f.Upper (value_tree a ∷ [])
  call_tree (lower w a) = v.Call f.Lower (value_tree a ∷ [])
  call_tree (trim w x a) = trimmed_value (trimming_tree x) (value_tree a)
  call_tree (aggregate h w a) = v.Aggregate h false (value_tree a)
  call_tree (aggregate_distinct h w d a) = v.Aggregate h true (value_tree a)
  call_tree (case_when w u d y a bs) = v.Call f.Case (when_tree d ∷ value_tree a ∷ branches_trees bs)
  call_tree (case_of w x u b y a bs) =
      v.Call f.Match (value_tree x ∷ value_tree b ∷ value_tree a ∷ matches_trees bs)

  -- the trees of the arguments that are left
  pub more_trees : More° → List Value
  more_trees no_more = []
  more_trees (more a all) = value_tree a ∷ more_trees all

  -- the trees of the branches that are left: of each what is tested and its value, and the value behind ELSE
  pub branches_trees : Branches° → List Value
  branches_trees (no_branches w a u) = value_tree a ∷ []
  branches_trees (branches u d v a bs) = when_tree d ∷ value_tree a ∷ branches_trees bs

  -- the same where the branches have values
  pub matches_trees : Matches° → List Value
  matches_trees (no_matches w a u) = value_tree a ∷ []
  matches_trees (matches u b v a bs) = value_tree b ∷ value_tree a ∷ matches_trees bs

  -- the tree of what stands behind WHEN; OR goes from the left
  pub when_tree : When° → Value
  when_tree (when a os) = when_ors_tree (when_and_tree a) os

  -- what stands before, and what OR joins to it, from the left
  pub when_ors_tree : Value → WhenOrs° → Value
  when_ors_tree before no_when_ors = before
  when_ors_tree before (when_or w a os) = when_ors_tree (v.Call f.Or (before ∷ when_and_tree a ∷ [])) os

  -- the tree of a conjunction; AND goes from the left
  pub when_and_tree : WhenAnd° → Value
  when_and_tree (when_conj n ns) = when_ands_tree (when_not_tree n) ns

  -- what stands before, and what AND joins to it, from the left
  pub when_ands_tree : Value → WhenAnds° → Value
  when_ands_tree before no_when_ands = before
  when_ands_tree before (when_and w n ns) = when_ands_tree (v.Call f.And (before ∷ when_not_tree n ∷ [])) ns

  -- the tree of a test with its NOT
  pub when_not_tree : WhenNot° → Value
  when_not_tree (maybe_when_not n x) = denied_if (is_written n) (when_test_tree x)

  -- the tree of a test behind WHEN
  pub when_test_tree : WhenTest° → Value
  when_test_tree (when_inside x) = when_tree x
  when_test_tree (when_tested x) = value_of (tested_tree x)

  -- the tree of a test of values
  pub tested_tree : Tested° → Tested
  tested_tree (compare op a b) = test.Compare op (value_tree a) (value_tree b)
  tested_tree (between a n w b u d) = test.Between (is_written n) (value_tree a) (value_tree b) (value_tree d)
  tested_tree (among a n w b all) = test.In (is_written n) (value_tree a) (value_tree b ∷ more_trees all)
  tested_tree (among_none a n w) = test.In (is_written n) (value_tree a) []
  tested_tree (like a n w b e) = test.Like (is_written n) (value_tree a) (value_tree b) (escape_text e)
  tested_tree (null a w n u) = test.IsNull (is_written n) (value_tree a)
