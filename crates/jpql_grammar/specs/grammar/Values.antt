-- How values, and the tests that stand behind WHEN, are read from tokens, from the left: each function
-- gives the tree and the tokens after it.
use Rattle.std.specs.Prelude.{ℕ, zero, suc, Bool, true, false, not, ◌&&◌, ◌||◌, List, [], ◌∷◌, ◌++◌, drop}
use Rattle.std.specs.Prelude.{length, Option, Some, None, is_some, if◌then◌else◌}
use Rattle.jpql_grammar.specs.declared.grammar.tested.Tested.{Tested}
use Rattle.jpql_grammar.specs.declared.grammar.tested.Tested.TheVariants as test
use Rattle.jpql_grammar.specs.declared.grammar.token.Keyword.{Keyword}
use Rattle.jpql_grammar.specs.declared.grammar.token.Keyword.TheVariants as k
use Rattle.jpql_grammar.specs.declared.grammar.token.Mark.{Mark}
use Rattle.jpql_grammar.specs.declared.grammar.token.Mark.TheVariants as m
use Rattle.jpql_grammar.specs.declared.grammar.token.Token.{Token}
use Rattle.jpql_grammar.specs.declared.grammar.token.Token.TheVariants as t
use Rattle.jpql_trees.specs.declared.tree.Function.TheVariants as f
use Rattle.jpql_trees.specs.declared.tree.Trimmed.{Trimmed}
use Rattle.jpql_trees.specs.declared.tree.Trimmed.TheVariants as side
use Rattle.jpql_trees.specs.declared.tree.Aggregate.TheVariants as g
use Rattle.jpql_trees.specs.declared.tree.Sign.TheVariants as s
use Rattle.jpql_trees.specs.declared.tree.Arithmetic.TheVariants as o
use Rattle.jpql_trees.specs.declared.tree.Comparison.{Comparison}
use Rattle.jpql_trees.specs.declared.tree.Comparison.TheVariants as c
use Rattle.jpql_trees.specs.declared.tree.Path.{Path}
use Rattle.jpql_trees.specs.declared.tree.Value.{Value}
use Rattle.jpql_trees.specs.declared.tree.Value.TheVariants as v
use Rattle.jpql_trees.specs.tree.Steps.{◌>>=◌}
use Rattle.jpql_trees.specs.tree.Calls.{takes}
use Rattle.jpql_grammar.specs.grammar.Same.{same_mark, same_keyword}
use Rattle.jpql_trees.specs.tree.Names.{Text}
use Rattle.jpql_grammar.specs.grammar.Parts.{trimmed_value}
use Rattle.jpql_grammar.specs.grammar.Nesting.{past_close}
use Rattle.jpql_grammar.specs.grammar.Tests.{denied_if, value_of}
use Rattle.jpql_grammar.specs.declared.grammar.token.Callee.{Callee}
use Rattle.jpql_grammar.specs.declared.grammar.token.Callee.TheVariants as calls

-- what reads an A off the front of tokens: it and the tokens after it, or nothing
abbrev pub Read : Type 0 → Type 0
Read A = List Token → Option (A × List Token)

-- ---- marks and words

-- whether a token is this mark
abbrev pub is_mark : Mark → Token → Bool
is_mark m (t.Mark n) = same_mark m n
is_mark m _ = false

-- whether this mark comes next
abbrev pub sees : Mark → List Token → Bool
sees m [] = false
sees m (x ∷ rest) = is_mark m x

-- what comes after this mark
abbrev pub after : Mark → List Token → Option (List Token)
after m ts = if sees m ts then Some (drop 1 ts) else None

-- whether a token is this word of the grammar
abbrev pub is_key : Keyword → Token → Bool
is_key k (t.Key j w) = same_keyword k j
is_key k _ = false

-- whether this word comes next
abbrev pub is_word : Keyword → List Token → Bool
is_word k [] = false
is_word k (x ∷ rest) = is_key k x

-- what comes after this word
abbrev pub after_word : Keyword → List Token → Option (List Token)
after_word k ts = if is_word k ts then Some (drop 1 ts) else None

-- whether this word comes next, and what comes after it
abbrev pub optional_word : Keyword → List Token → Bool × List Token
optional_word k ts = if is_word k ts then (true, drop 1 ts) else (false, ts)

-- ---- names, paths, lists

-- the name that a token can be: any word
abbrev pub name_of : Token → Option Text
name_of (t.Word w) = Some w
name_of (t.Key k w) = Some w
name_of _ = None

-- the variable that a token can be: a word that isn't the grammar's
abbrev pub variable_of : Token → Option Text
variable_of (t.Word w) = Some w
variable_of _ = None

-- a name
unfoldable pub name_at : Read Text
name_at [] = None
name_at (x ∷ rest) = name_of x >>= λ w. Some (w, rest)

-- a variable (chapter 4.4.2)
unfoldable pub variable_at : Read Text
variable_at [] = None
variable_at (x ∷ rest) = variable_of x >>= λ w. Some (w, rest)

-- {"." name}, at most so many, after those that were found
unfoldable pub names_at : ℕ → List Text → Read (List Text)
names_at zero found ts = Some (found, ts)
names_at (suc n) found ts =
    if sees m.Dot ts then (name_at (drop 1 ts) >>= λ r. names_at n (found ++ r.0 ∷ []) r.1) else Some (found, ts)

-- var {"." name} (chapter 4.4.4)
unfoldable pub path_at : Read Path
path_at ts = variable_at ts >>= λ x. names_at (length x.1) [] x.1
    >>= λ r. Some (record { variable = x.0; names = r.0 }, r.1)

-- {"," one}, after those that were found
unfoldable pub others_at : {A : Type 0} → Read A → ℕ → List A → Read (List A)
others_at one zero found ts = Some (found, ts)
others_at one (suc n) found ts =
    if sees m.Comma ts then (one (drop 1 ts) >>= λ a. others_at one n (found ++ a.0 ∷ []) a.1) else Some (found, ts)

-- one {"," one}
unfoldable pub list_at : {A : Type 0} → Read A → Read (List A)
list_at one ts = one ts >>= λ a. others_at one (length a.1) (a.0 ∷ []) a.1

-- what was read, and a parenthesis that closes
unfoldable pub closed : {A : Type 0} → Option (A × List Token) → Option (A × List Token)
closed read = read >>= λ a. after m.Close a.1 >>= λ rest. Some (a.0, rest)

-- ---- tests of values

-- the comparison that a mark is, if it is one (chapter 4.6.7)
abbrev pub comparison_of : Mark → Option Comparison
comparison_of m.Equal = Some c.Equal
comparison_of m.Different = Some c.Different
comparison_of m.Less = Some c.Less
comparison_of m.AtMost = Some c.AtMost
comparison_of m.Greater = Some c.Greater
comparison_of m.AtLeast = Some c.AtLeast
comparison_of _ = None

-- whether a mark is a comparison
abbrev pub is_comparison : Mark → Bool
is_comparison m.Equal = true
is_comparison m.Different = true
is_comparison m.Less = true
is_comparison m.AtMost = true
is_comparison m.Greater = true
is_comparison m.AtLeast = true
is_comparison _ = false

-- a comparison
unfoldable pub comparison_at : Read Comparison
comparison_at [] = None
comparison_at (t.Mark x ∷ rest) = comparison_of x >>= λ op. Some (op, rest)
comparison_at (_ ∷ rest) = None

-- whether a comparison comes next
abbrev pub sees_comparison : List Token → Bool
sees_comparison [] = false
sees_comparison (t.Mark x ∷ rest) = is_comparison x
sees_comparison (_ ∷ rest) = false

-- [ESCAPE text]
unfoldable pub escape_at : Read (Option Text)
escape_at [] = Some (None, [])
escape_at (x ∷ ts) = if is_word k.Escape (x ∷ ts) then quoted ts else Some (None, x ∷ ts)
  where
    quoted : Read (Option Text)
    quoted (t.Quoted w ∷ rest) = Some (Some w, rest)
    quoted _ = None

-- `inner` reads the values of the test, and `a` is the value that it begins with
module _ (inner : Read Value) (a : Value) where
  -- op value (chapter 4.6.7)
  unfoldable pub compared_at : Read Tested
  compared_at ts = comparison_at ts >>= λ op. inner op.1 >>= λ b. Some (test.Compare op.0 a b.0, b.1)

  -- value AND value, after BETWEEN (chapter 4.6.8)
  unfoldable pub between_at : Bool → Read Tested
  between_at negated ts = inner ts >>= λ b. after_word k.And b.1 >>= λ more. inner more
      >>= λ d. Some (test.Between negated a b.0 d.0, d.1)

  -- "(" [value {"," value}] ")", after IN (chapter 4.6.9)
  unfoldable pub among_at : Bool → Read Tested
  among_at negated ts = after m.Open ts >>= λ more.
      if sees m.Close more then Some (test.In negated a [], drop 1 more)
      else (closed (list_at inner more) >>= λ all. Some (test.In negated a all.0, all.1))

  -- value [ESCAPE text], after LIKE (chapter 4.6.10)
  unfoldable pub like_at : Bool → Read Tested
  like_at negated ts = inner ts >>= λ b. escape_at b.1 >>= λ e. Some (test.Like negated a b.0 e.0, e.1)

  -- [NOT] NULL, after IS (chapter 4.6.11)
  unfoldable pub null_at : Read Tested
  null_at ts = let no = optional_word k.Not ts in
      after_word k.Null no.1 >>= λ rest. Some (test.IsNull no.0 a, rest)

  -- a test that begins with BETWEEN, IN or LIKE, behind a NOT or not
  unfoldable pub worded_at : Bool → Read Tested
  worded_at negated ts =
      if is_word k.Between ts then between_at negated (drop 1 ts)
      else if is_word k.In ts then among_at negated (drop 1 ts)
      else if is_word k.Like ts then like_at negated (drop 1 ts)
      else None

  -- what follows the value
  unfoldable pub tested_at : Read Tested
  tested_at ts =
      if sees_comparison ts then compared_at ts
      else if is_word k.Is ts then null_at (drop 1 ts)
      else (let no = optional_word k.Not ts in worded_at no.0 no.1)

-- ---- "(" before a test or a value

-- words that go on a test behind its value
abbrev pub is_test_word : Keyword → Bool
is_test_word k.Not = true
is_test_word k.Is = true
is_test_word k.In = true
is_test_word k.Between = true
is_test_word k.Like = true
is_test_word k.Member = true
is_test_word _ = false

-- whether a mark goes on a value, or a test behind its value
abbrev pub is_test_mark : Mark → Bool
is_test_mark m.Plus = true
is_test_mark m.Minus = true
is_test_mark m.Star = true
is_test_mark x = is_comparison x

-- whether what comes next goes on a value, or a test behind its value
abbrev pub goes_on_at : List Token → Bool
goes_on_at [] = false
goes_on_at (t.Mark x ∷ rest) = is_test_mark x
goes_on_at (t.Key j w ∷ rest) = is_test_word j
goes_on_at (_ ∷ rest) = false

-- "(" opens a test where what follows the one that closes it goes on no value
abbrev pub opens_condition : List Token → Bool
opens_condition ts = sees m.Open ts && not (goes_on_at (past_close 0 (drop 1 ts)))

-- ---- behind WHEN

-- `inner` reads values, and `below` what stands in parentheses behind WHEN
module _ (inner below : Read Value) where
  -- "(" when ")", or a test of values
  unfoldable pub when_test_at : Read Value
  when_test_at ts =
      if opens_condition ts then closed (below (drop 1 ts))
      else inner ts >>= λ a. tested_at inner a.0 a.1 >>= λ x. Some (value_of x.0, x.1)

  -- [NOT] test
  unfoldable pub when_not_at : Read Value
  when_not_at ts =
      if is_word k.Not ts then (when_test_at (drop 1 ts) >>= λ a. Some (denied_if true a.0, a.1)) else when_test_at ts

  -- {AND not}, at most so many, after what stands before
  unfoldable pub when_ands_at : ℕ → Value → Read Value
  when_ands_at zero before ts = Some (before, ts)
  when_ands_at (suc j) before ts = if is_word k.And ts
      then (when_not_at (drop 1 ts) >>= λ a. when_ands_at j (v.Call f.And (before ∷ a.0 ∷ [])) a.1)
      else Some (before, ts)

  -- not {AND not}
  unfoldable pub when_and_at : Read Value
  when_and_at ts = when_not_at ts >>= λ a. when_ands_at (length a.1) a.0 a.1

  -- {OR and}, at most so many, after what stands before
  unfoldable pub when_ors_at : ℕ → Value → Read Value
  when_ors_at zero before ts = Some (before, ts)
  when_ors_at (suc j) before ts = if is_word k.Or ts
      then (when_and_at (drop 1 ts) >>= λ a. when_ors_at j (v.Call f.Or (before ∷ a.0 ∷ [])) a.1)
      else Some (before, ts)

  -- and {OR and}
  unfoldable pub when_level_at : Read Value
  when_level_at ts = when_and_at ts >>= λ a. when_ors_at (length a.1) a.0 a.1

-- ---- CASE

-- `inner` reads a value inside CASE, or inside parentheses
module _ (inner : Read Value) where
  -- ELSE value END, after what was found
  unfoldable pub otherwise_at : List Value → Read (List Value)
  otherwise_at found ts = after_word k.Else ts >>= λ more. inner more >>= λ e. after_word k.End e.1
      >>= λ rest. Some (found ++ e.0 ∷ [], rest)

  -- {WHEN one THEN value} ELSE value END, at most so many, after what was found
  unfoldable pub branches_at : Read Value → ℕ → List Value → Read (List Value)
  branches_at one zero found ts = otherwise_at found ts
  branches_at one (suc j) found ts = if is_word k.When ts
      then (one (drop 1 ts) >>= λ w. after_word k.Then w.1 >>= λ more. inner more
      >>= λ a. branches_at one j (found ++ w.0 ∷ a.0 ∷ []) a.1)
      else otherwise_at found ts

  -- value WHEN value THEN value {..} ELSE value END, after CASE (chapter 4.7.4)
  unfoldable pub match_at : Read Value
  match_at ts = inner ts >>= λ x. if is_word k.When x.1
      then (branches_at inner (length x.1) (x.0 ∷ []) x.1 >>= λ all. Some (v.Call f.Match all.0, all.1))
      else None

  -- what stands after CASE, where `when` reads what stands behind WHEN (chapter 4.7.4)
  unfoldable pub case_at : Read Value → Read Value
  case_at when ts = if is_word k.When ts
      then (branches_at when (length ts) [] ts >>= λ all. Some (v.Call f.Case all.0, all.1))
      else match_at ts

-- ---- values

-- what a word calls, before a parenthesis
abbrev pub callee_of : Keyword → Callee
callee_of k.Length = calls.Function f.Length
callee_of k.Concat = calls.Function f.Concat
callee_of k.Substring = calls.Function f.Substring
callee_of k.Locate = calls.Function f.Locate
callee_of k.Abs = calls.Function f.Abs
callee_of k.Mod = calls.Function f.Mod
callee_of k.Size = calls.Size
callee_of k.Coalesce = calls.Function f.Coalesce
callee_of k.NullIf = calls.Function f.NullIf
callee_of k.Upper = calls.Function f.Upper
callee_of k.Lower = calls.Function f.Lower
callee_of k.Trim = calls.Trim
callee_of k.Count = calls.Aggregate g.Count
callee_of k.Sum = calls.Aggregate g.Sum
callee_of k.Min = calls.Aggregate g.Min
callee_of k.Max = calls.Aggregate g.Max
callee_of _ = calls.Other

-- a text or a parameter, where one comes next
abbrev pub taken_at : List Token → Option Value × List Token
taken_at [] = (None, [])
taken_at (t.Quoted w ∷ rest) = (Some (v.Text w), rest)
taken_at (t.Parameter w ∷ rest) = (Some (v.Parameter w), rest)
taken_at (x ∷ rest) = (None, x ∷ rest)

-- [t] FROM, behind a side of TRIM
unfoldable pub sided_at : Trimmed → Read (Trimmed × Option Value)
sided_at x ts = let off = taken_at ts in after_word k.From off.1 >>= λ rest. Some ((x, off.0), rest)

-- t FROM in TRIM, where they come next
unfoldable pub unsided_at : Read (Trimmed × Option Value)
unsided_at ts = let off = taken_at ts in
    if is_some off.0 && is_word k.From off.1 then Some ((side.Both, off.0), drop 1 off.1)
    else Some ((side.Both, None), ts)

-- what stands before the value that TRIM trims: the side, and what is taken off where it is written
unfoldable pub trimming_at : Read (Trimmed × Option Value)
trimming_at ts =
    if is_word k.Leading ts then sided_at side.Leading (drop 1 ts)
    else if is_word k.Trailing ts then sided_at side.Trailing (drop 1 ts)
    else if is_word k.Both ts then sided_at side.Both (drop 1 ts)
    else unsided_at ts

-- `inner` reads a value inside parentheses
module _ (inner : Read Value) where
  -- what TRIM trims, and how, and the parenthesis that closes (chapter 4.7.2)
  unfoldable pub trim_at : Read Value
  trim_at ts = trimming_at ts >>= λ how. closed (inner how.1)
      >>= λ a. Some (trimmed_value how.0 a.0, a.1)

  -- the arguments of a call and the parenthesis that closes (chapter 4.7)
  unfoldable pub call_at : Callee → Read Value
  call_at (calls.Function h) ts =
      closed (list_at inner ts) >>= λ all. if takes h (length all.0) then Some (v.Call h all.0, all.1) else None
  call_at calls.Size ts = closed (path_at ts) >>= λ p. Some (v.Size p.0, p.1)
  call_at (calls.Aggregate h) ts =
      let d = optional_word k.Distinct ts in closed (inner d.1) >>= λ a. Some (v.Aggregate h d.0 a.0, a.1)
  call_at calls.Trim ts = trim_at ts
  call_at calls.Other ts = None

-- `inner` reads a value inside parentheses or CASE, and `when` what stands behind WHEN
module _ (inner when : Read Value) where
  -- what begins with a token: a literal, a parameter, a path, CASE, a call or a value in parentheses
  unfoldable pub word_at : Token → Read Value
  word_at (t.Number n) rest = Some (v.Integer n, rest)
  word_at (t.Quoted w) rest = Some (v.Text w, rest)
  word_at (t.Parameter w) rest = Some (v.Parameter w, rest)
  word_at (t.Word w) rest = path_at (t.Word w ∷ rest) >>= λ p. Some (v.Path p.0, p.1)
  word_at (t.Key j w) rest =
      if same_keyword k.Case j then case_at inner when rest
      else (after m.Open rest >>= λ ts. call_at inner (callee_of j) ts)
  word_at (t.Mark x) rest = if same_mark m.Open x then closed (inner rest) else None

  -- an atom: a value without sign and operator outside parentheses
  unfoldable pub atom_at : Read Value
  atom_at [] = None
  atom_at (x ∷ rest) = word_at x rest

  -- ["+" | "-"] atom (chapter 4.7.1)
  unfoldable pub unary_at : Read Value
  unary_at ts =
      if sees m.Plus ts then (atom_at (drop 1 ts) >>= λ a. Some (v.Signed s.Plus a.0, a.1))
      else if sees m.Minus ts then (atom_at (drop 1 ts) >>= λ a. Some (v.Signed s.Minus a.0, a.1))
      else atom_at ts

  -- {"*" unary}, at most so many, after what stands before
  unfoldable pub times_at : ℕ → Value → Read Value
  times_at zero before ts = Some (before, ts)
  times_at (suc n) before ts = if sees m.Star ts
      then (unary_at (drop 1 ts) >>= λ a. times_at n (v.Arithmetic o.Times before a.0) a.1) else Some (before, ts)

  -- unary {"*" unary} (chapter 4.7.1)
  unfoldable pub product_at : Read Value
  product_at ts = unary_at ts >>= λ a. times_at (length a.1) a.0 a.1

  -- {("+" | "-") product}, at most so many, after what stands before
  unfoldable pub sums_at : ℕ → Value → Read Value
  sums_at zero before ts = Some (before, ts)
  sums_at (suc n) before ts =
      if sees m.Plus ts then (product_at (drop 1 ts) >>= λ a. sums_at n (v.Arithmetic o.Plus before a.0) a.1)
      else if sees m.Minus ts then (product_at (drop 1 ts) >>= λ a. sums_at n (v.Arithmetic o.Minus before a.0) a.1)
      else Some (before, ts)

  -- product {("+" | "-") product} (chapter 4.7.1)
  unfoldable pub level_at : Read Value
  level_at ts = product_at ts >>= λ a. sums_at (length a.1) a.0 a.1

unfoldable mutual
  -- with values nested below this
  pub value_at : ℕ → Read Value
  value_at zero ts = None
  value_at (suc n) ts = level_at (value_at n) (when_at n) ts

  -- what stands behind WHEN, with values nested below this
  pub when_at : ℕ → Read Value
  when_at zero ts = None
  when_at (suc n) ts = when_level_at (value_at n) (when_at n) ts
