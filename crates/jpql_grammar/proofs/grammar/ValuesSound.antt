-- What is read as a value is written by the grammar, with its tree.
use Rattle.std.proofs.Common.{◌≡◌, ℕ, zero, suc, Bool, true, false, ◌&&◌, ◌||◌, ◌≤◌, arith, List, [], ◌∷◌, drop, length, subst, Option, Some, None, is_some, refl, ap, ◌∙◌, nat_eq}
use Rattle.std.proofs.lemmas.Bool.{eqb-true, leb-true}
use Rattle.jpql_grammar.specs.declared.grammar.token.Callee.TheVariants as calls
use Rattle.jpql_grammar.specs.declared.grammar.token.Keyword.{Keyword}
use Rattle.jpql_grammar.specs.declared.grammar.token.Keyword.TheVariants as k
use Rattle.jpql_grammar.specs.declared.grammar.token.Mark.TheVariants as m
use Rattle.jpql_grammar.specs.declared.grammar.token.Token.{Token}
use Rattle.jpql_grammar.specs.declared.grammar.token.Token.TheVariants as t
use Rattle.jpql_trees.specs.declared.tree.Value.{Value}
use Rattle.jpql_trees.specs.declared.tree.Value.TheVariants as v
use Rattle.jpql_trees.specs.declared.tree.Arithmetic.TheVariants as o
use Rattle.jpql_trees.specs.declared.tree.Sign.TheVariants as s
use Rattle.jpql_trees.specs.declared.tree.Function.{Function}
use Rattle.jpql_trees.specs.declared.tree.Function.TheVariants as f
use Rattle.jpql_trees.specs.declared.tree.Trimmed.{Trimmed}
use Rattle.jpql_trees.specs.declared.tree.Trimmed.TheVariants as side
use Rattle.jpql_trees.specs.declared.tree.Aggregate.{Aggregate}
use Rattle.jpql_trees.specs.declared.tree.Aggregate.TheVariants as g
use Rattle.jpql_trees.specs.tree.Names.{Text}
use Rattle.jpql_trees.specs.tree.Calls.{takes}
use Rattle.jpql_grammar.specs.grammar.Same.{same_mark, same_keyword}
use Rattle.jpql_grammar.specs.grammar.Parts.{aggregate_word, Taken°, taken_text, taken_parameter, unwritten_trimming, sided, unsided, side_word, write_taken, write_trimming, optional_taken, trimming_tree, trimmed_value, write_path, path_tree}
use Rattle.jpql_grammar.specs.grammar.Tests.{Written, write_word, is_written}
use Rattle.jpql_grammar.specs.grammar.ValueGrammar.{Value°, sum, no_sums, plus, minus, product, no_times, times, unsigned, positive, negative, integer, text, parameter, path, call, group, Call°, length_of, concat, substring_from, substring, locate, locate_from, abs, modulo, size, coalesce, null_if, upper, lower, trim, aggregate, aggregate_distinct, More°, write_value, write_sums, write_product, write_times, write_unary, write_atom, write_call, write_more, write_when, value_tree, sums_tree, product_tree, times_tree, unary_tree, atom_tree, call_tree, more_trees, when_tree}
use Rattle.jpql_grammar.specs.grammar.Values.{Read, callee_of, is_word, after_word, taken_at, sided_at, unsided_at, trimming_at, trim_at, optional_word, sees, after, path_at, list_at, closed, call_at, word_at, atom_at, unary_at, times_at, product_at, sums_at, level_at, value_at, when_at}
use Rattle.jpql_grammar.proofs.grammar.Tools.{mark_is, keyword_is, step, choice, same, sees_is, after_is, word_is, after_word_is, optional_word_is}
use Rattle.jpql_grammar.proofs.grammar.PartsSound.{Wrote, nothing, around, leaf, path_sound, write_list, list_trees, list_sound, write_closed, closed_sound, more_of, more_of_written, more_of_treed}
use Rattle.jpql_grammar.proofs.grammar.WhensSound.{case_sound, when_level_sound}

times_glued : (before a : Value) (ts mid : List Token) (x : Value × List Token) → sees m.Star ts ≡ true
    → Wrote write_unary unary_tree (drop 1 ts) (a, mid) → Wrote write_times (times_tree (v.Arithmetic o.Times before a)) mid x → Wrote write_times (times_tree before) ts x
times_glued before a ts mid x b (u, eu, tu) (us, es, tus) = (times u us, rw (es, eu) (sees_is m.Star ts b), rw tu tus)

product_glued : (a : Value) (ts mid : List Token) (x : Value × List Token) → Wrote write_unary unary_tree ts (a, mid) → Wrote write_times (times_tree a) mid x
    → Wrote write_product product_tree ts x
product_glued a ts mid x (u, eu, tu) (us, es, tus) = (product u us, rw es eu, rw tu tus)

plus_glued : (before a : Value) (ts mid : List Token) (x : Value × List Token) → sees m.Plus ts ≡ true
    → Wrote write_product product_tree (drop 1 ts) (a, mid) → Wrote write_sums (sums_tree (v.Arithmetic o.Plus before a)) mid x → Wrote write_sums (sums_tree before) ts x
plus_glued before a ts mid x b (u, eu, tu) (us, es, tus) = (plus u us, rw (es, eu) (sees_is m.Plus ts b), rw tu tus)

minus_glued : (before a : Value) (ts mid : List Token) (x : Value × List Token) → sees m.Minus ts ≡ true
    → Wrote write_product product_tree (drop 1 ts) (a, mid) → Wrote write_sums (sums_tree (v.Arithmetic o.Minus before a)) mid x → Wrote write_sums (sums_tree before) ts x
minus_glued before a ts mid x b (u, eu, tu) (us, es, tus) = (minus u us, rw (es, eu) (sees_is m.Minus ts b), rw tu tus)

value_glued : (a : Value) (ts mid : List Token) (x : Value × List Token) → Wrote write_product product_tree ts (a, mid) → Wrote write_sums (sums_tree a) mid x
    → Wrote write_value value_tree ts x
value_glued a ts mid x (u, eu, tu) (us, es, tus) = (sum u us, rw es eu, rw tu tus)

-- ---- calls, by how many arguments they take

module _ (h : Function) (word : Token) where
  abbrev Called : List Token → Value × List Token → Type 0
  Called ts x = Wrote write_atom atom_tree (word ∷ t.Mark m.Open ∷ ts) x

  abbrev Answered : List Value × List Token → Value × List Token → Type 0
  Answered all x = Some (v.Call h all.0, all.1) ≡ Some x

  one_glued : (wrap : Value° → Call°) → ((a : Value°) (rest : List Token) → write_call (wrap a) rest ≡ word ∷ t.Mark m.Open ∷ write_value a (t.Mark m.Close ∷ rest))
      → ((a : Value°) → call_tree (wrap a) ≡ v.Call h (value_tree a ∷ []))
      → (ts : List Token) (all : List Value × List Token) (x : Value × List Token) → Wrote (write_closed (write_list write_value)) (list_trees value_tree) ts all → length all.0 ≡ 1 → Answered all x → Called ts x
  one_glued wrap written tree ts all x ((a, []), e, t) n q =
      leaf write_atom atom_tree (call (wrap a)) _ _ _ x q (written a all.1 ∙ rw e) (tree a ∙ rw t)
  one_glued wrap written tree ts all x ((a, b ∷ bs), e, t) n q = let l = ap length t in absurd (omega arith)

  two_glued : (wrap : Value° → Value° → Call°)
      → ((a b : Value°) (rest : List Token) → write_call (wrap a b) rest ≡ word ∷ t.Mark m.Open ∷ write_value a (t.Mark m.Comma ∷ write_value b (t.Mark m.Close ∷ rest)))
      → ((a b : Value°) → call_tree (wrap a b) ≡ v.Call h (value_tree a ∷ value_tree b ∷ []))
      → (ts : List Token) (all : List Value × List Token) (x : Value × List Token) → Wrote (write_closed (write_list write_value)) (list_trees value_tree) ts all → length all.0 ≡ 2 → Answered all x → Called ts x
  two_glued wrap written tree ts all x ((a, []), e, t) n q = let l = ap length t in absurd (omega arith)
  two_glued wrap written tree ts all x ((a, b ∷ []), e, t) n q =
      leaf write_atom atom_tree (call (wrap a b)) _ _ _ x q (written a b all.1 ∙ rw e) (tree a b ∙ rw t)
  two_glued wrap written tree ts all x ((a, b ∷ d ∷ ds), e, t) n q = let l = ap length t in absurd (omega arith)

  three_glued : (wrap : Value° → Value° → Value° → Call°)
      → ((a b d : Value°) (rest : List Token) → write_call (wrap a b d) rest ≡ word ∷ t.Mark m.Open ∷ write_value a (t.Mark m.Comma ∷ write_value b (t.Mark m.Comma ∷ write_value d (t.Mark m.Close ∷ rest))))
      → ((a b d : Value°) → call_tree (wrap a b d) ≡ v.Call h (value_tree a ∷ value_tree b ∷ value_tree d ∷ []))
      → (ts : List Token) (all : List Value × List Token) (x : Value × List Token) → Wrote (write_closed (write_list write_value)) (list_trees value_tree) ts all → length all.0 ≡ 3 → Answered all x → Called ts x
  three_glued wrap written tree ts all x ((a, []), e, t) n q = let l = ap length t in absurd (omega arith)
  three_glued wrap written tree ts all x ((a, b ∷ []), e, t) n q = let l = ap length t in absurd (omega arith)
  three_glued wrap written tree ts all x ((a, b ∷ d ∷ []), e, t) n q =
      leaf write_atom atom_tree (call (wrap a b d)) _ _ _ x q (written a b d all.1 ∙ rw e) (tree a b d ∙ rw t)
  three_glued wrap written tree ts all x ((a, b ∷ d ∷ g ∷ gs), e, t) n q = let l = ap length t in absurd (omega arith)

  many_glued : (wrap : Value° → Value° → More° → Call°)
      → ((a b : Value°) (ds : More°) (rest : List Token) → write_call (wrap a b ds) rest ≡ word ∷ t.Mark m.Open ∷ write_value a (t.Mark m.Comma ∷ write_value b (write_more ds (t.Mark m.Close ∷ rest))))
      → ((a b : Value°) (ds : More°) → call_tree (wrap a b ds) ≡ v.Call h (value_tree a ∷ value_tree b ∷ more_trees ds))
      → (ts : List Token) (all : List Value × List Token) (x : Value × List Token) → Wrote (write_closed (write_list write_value)) (list_trees value_tree) ts all → 2 ≤ length all.0 → Answered all x → Called ts x
  many_glued wrap written tree ts all x ((a, []), e, t) n q = let l = ap length t in absurd (omega arith)
  many_glued wrap written tree ts all x ((a, b ∷ ds), e, u) n q =
      leaf write_atom atom_tree (call (wrap a b (more_of ds))) _ _ _ x q (written a b (more_of ds) all.1 ∙ rw (more_of_written ds (t.Mark m.Close ∷ all.1)) (rw e)) (tree a b (more_of ds) ∙ rw (more_of_treed ds) (rw u))

aggregate_glued : (h : Aggregate) (w : Text) (ts : List Token) (d : Bool × List Token) (a x : Value × List Token)
    → (u : Written) × (write_word k.Distinct u d.1 ≡ ts) × (is_written u ≡ d.0)
    → Wrote (write_closed write_value) value_tree d.1 a → Some (v.Aggregate h d.0 a.0, a.1) ≡ Some x
    → Wrote write_atom atom_tree (t.Key (aggregate_word h) w ∷ t.Mark m.Open ∷ ts) x
aggregate_glued h w ts d a x (None, eu, tu) (y, e, t) q = leaf write_atom atom_tree (call (aggregate h w y)) _ _ _ x q (rw (e, eu)) (rw (tu, t))
aggregate_glued h w ts d a x (Some u, eu, tu) (y, e, t) q = leaf write_atom atom_tree (call (aggregate_distinct h w u y)) _ _ _ x q (rw (e, eu)) (rw (tu, t))

-- ---- what stands before the value of TRIM

taken_is : (ts : List Token) → (x : Option Taken°) × (write_taken x (taken_at ts).1 ≡ ts) × (optional_taken x ≡ (taken_at ts).0)
taken_is [] = (None, refl, refl)
taken_is (t.Quoted w ∷ ts) = (Some (taken_text w), refl, refl)
taken_is (t.Parameter w ∷ ts) = (Some (taken_parameter w), refl, refl)
taken_is (t.Word w ∷ ts) = (None, refl, refl)
taken_is (t.Key j w ∷ ts) = (None, refl, refl)
taken_is (t.Number n ∷ ts) = (None, refl, refl)
taken_is (t.Mark y ∷ ts) = (None, refl, refl)

abbrev Trims : List Token → (Trimmed × Option Value) × List Token → Type 0
Trims = Wrote write_trimming trimming_tree

sided_sound : (h : Trimmed) (ts : List Token) (how : (Trimmed × Option Value) × List Token) → is_word (side_word h) ts ≡ true
    → sided_at h (drop 1 ts) ≡ Some how → Trims ts how
unfolding sided_at
sided_sound h ts how b e =
    let (w, ew) = word_is (side_word h) ts b in
    let (x, ex, tx) = taken_is (drop 1 ts) in
    step (after_word k.From (taken_at (drop 1 ts)).1) _ _ e (λ rest er hr. let (u, eu) = after_word_is k.From (taken_at (drop 1 ts)).1 rest er in
    leaf write_trimming trimming_tree (sided h w x u) _ rest ts how hr (rw (eu, ex) ew) (rw tx))

unsided_glued : (ts : List Token) (off : Option Value × List Token) (how : (Trimmed × Option Value) × List Token)
    → (x : Option Taken°) × (write_taken x off.1 ≡ ts) × (optional_taken x ≡ off.0)
    → (is_some off.0 && is_word k.From off.1) ≡ true → Some ((side.Both, off.0), drop 1 off.1) ≡ Some how → Trims ts how
unsided_glued ts (None, rest) how x b h = absurd cc
unsided_glued ts (Some a, rest) how (None, ex, tx) b h = absurd cc
unsided_glued ts (Some a, rest) how (Some x, ex, tx) b h =
    let (u, eu) = word_is k.From rest b in
    leaf write_trimming trimming_tree (unsided x u) _ (drop 1 rest) ts how h (rw eu ex) (rw tx)

unsided_sound : (ts : List Token) (how : (Trimmed × Option Value) × List Token) → unsided_at ts ≡ Some how → Trims ts how
unfolding unsided_at
unsided_sound ts how e = choice (is_some (taken_at ts).0 && is_word k.From (taken_at ts).1) _ _ _ e
    (λ b h. unsided_glued ts (taken_at ts) how (taken_is ts) b h)
    (λ b h. nothing write_trimming trimming_tree unwritten_trimming (side.Both, None) ts how h refl refl)

trimming_sound : (ts : List Token) (how : (Trimmed × Option Value) × List Token) → trimming_at ts ≡ Some how → Trims ts how
unfolding trimming_at
trimming_sound ts how e = choice (is_word k.Leading ts) _ _ _ e (λ b h. sided_sound side.Leading ts how b h)
    (λ b1 h1. choice (is_word k.Trailing ts) _ _ _ h1 (λ b h. sided_sound side.Trailing ts how b h)
    (λ b2 h2. choice (is_word k.Both ts) _ _ _ h2 (λ b h. sided_sound side.Both ts how b h) (λ b h. unsided_sound ts how h)))

trim_glued : (w : Text) (ts : List Token) (how : (Trimmed × Option Value) × List Token) (a x : Value × List Token) → Trims ts how
    → Wrote (write_closed write_value) value_tree how.1 a → Some (trimmed_value how.0 a.0, a.1) ≡ Some x
    → Wrote write_atom atom_tree (t.Key k.Trim w ∷ t.Mark m.Open ∷ ts) x
trim_glued w ts how a x (d, ed, td) (y, e, ty) q = leaf write_atom atom_tree (call (trim w d y)) _ _ _ x q (rw (e, ed)) (rw (td, ty))

no_call : (inner : Read Value) (ts : List Token) (x : Value × List Token) → call_at inner calls.Other ts ≡ Some x → ⊥
unfolding call_at
no_call inner ts x e = cc

pub either : {P : Type 0} (a b : Bool) → (a || b) ≡ true → (a ≡ true → P) → (b ≡ true → P) → P
either true b e first second = first refl
either false b e first second = second e

module _ (inner : Read Value) (nested : (ts : List Token) (x : Value × List Token) → inner ts ≡ Some x → Wrote write_value value_tree ts x) where
  function_sound : (h : Function) (word : Token) (ts : List Token) (x : Value × List Token) → call_at inner (calls.Function h) ts ≡ Some x
      → ((all : List Value × List Token) → Wrote (write_closed (write_list write_value)) (list_trees value_tree) ts all → takes h (length all.0) ≡ true → Answered h word all x → Called h word ts x)
      → Called h word ts x
  unfolding call_at
  function_sound h key ts x e glue = step (closed (list_at inner ts)) _ _ e (λ all ea ha. choice (takes h (length all.0)) _ _ _ ha
      (λ b q. glue all (closed_sound (write_list write_value) (list_trees value_tree) ts (list_at inner ts) (list_sound inner write_value value_tree nested ts) all ea) b q)
      (λ b q. absurd cc))

  size_sound : (w : Text) (ts : List Token) (x : Value × List Token) → call_at inner calls.Size ts ≡ Some x → Wrote write_atom atom_tree (t.Key k.Size w ∷ t.Mark m.Open ∷ ts) x
  unfolding call_at
  size_sound w ts x e = step (closed (path_at ts)) _ _ e (λ p ep hp. let d = closed_sound write_path path_tree ts (path_at ts) (path_sound ts) p ep in
      leaf write_atom atom_tree (call (size w d.0)) _ _ _ x hp (rw (d.1)) (rw (d.2)))

  aggregate_sound : (h : Aggregate) (w : Text) (ts : List Token) (x : Value × List Token) → call_at inner (calls.Aggregate h) ts ≡ Some x
      → Wrote write_atom atom_tree (t.Key (aggregate_word h) w ∷ t.Mark m.Open ∷ ts) x
  unfolding call_at
  aggregate_sound h w ts x e = let d = optional_word k.Distinct ts in step (closed (inner d.1)) _ _ e (λ a ea ha.
      aggregate_glued h w ts d a x (optional_word_is k.Distinct ts) (closed_sound write_value value_tree d.1 (inner d.1) (nested d.1) a ea) ha)

  trim_sound : (w : Text) (ts : List Token) (x : Value × List Token) → call_at inner calls.Trim ts ≡ Some x → Wrote write_atom atom_tree (t.Key k.Trim w ∷ t.Mark m.Open ∷ ts) x
  unfolding call_at trim_at
  trim_sound w ts x e = step (trimming_at ts) _ _ e (λ how eh hh. step (closed (inner how.1)) _ _ hh (λ a ea ha.
      trim_glued w ts how a x (trimming_sound ts how eh) (closed_sound write_value value_tree how.1 (inner how.1) (nested how.1) a ea) ha))

  call_sound : (word : Keyword) (w : Text) (ts : List Token) (x : Value × List Token) → call_at inner (callee_of word) ts ≡ Some x
      → Wrote write_atom atom_tree (t.Key word w ∷ t.Mark m.Open ∷ ts) x
  call_sound k.Length w ts x e = function_sound f.Length (t.Key k.Length w) ts x e (λ all d b q.
      one_glued f.Length (t.Key k.Length w) (length_of w) (λ a rest. refl) (λ a. refl) ts all x d (eqb-true _ _ b) q)
  call_sound k.Abs w ts x e = function_sound f.Abs (t.Key k.Abs w) ts x e (λ all d b q.
      one_glued f.Abs (t.Key k.Abs w) (abs w) (λ a rest. refl) (λ a. refl) ts all x d (eqb-true _ _ b) q)
  call_sound k.Concat w ts x e = function_sound f.Concat (t.Key k.Concat w) ts x e (λ all d b q.
      many_glued f.Concat (t.Key k.Concat w) (concat w) (λ a b ds rest. refl) (λ a b ds. refl) ts all x d (leb-true _ _ b) q)
  call_sound k.Coalesce w ts x e = function_sound f.Coalesce (t.Key k.Coalesce w) ts x e (λ all d b q.
      many_glued f.Coalesce (t.Key k.Coalesce w) (coalesce w) (λ a b ds rest. refl) (λ a b ds. refl) ts all x d (leb-true _ _ b) q)
  call_sound k.Mod w ts x e = function_sound f.Mod (t.Key k.Mod w) ts x e (λ all d b q.
      two_glued f.Mod (t.Key k.Mod w) (modulo w) (λ a b rest. refl) (λ a b. refl) ts all x d (eqb-true _ _ b) q)
  call_sound k.NullIf w ts x e = function_sound f.NullIf (t.Key k.NullIf w) ts x e (λ all d b q.
      two_glued f.NullIf (t.Key k.NullIf w) (null_if w) (λ a b rest. refl) (λ a b. refl) ts all x d (eqb-true _ _ b) q)
  call_sound k.Substring w ts x e = function_sound f.Substring (t.Key k.Substring w) ts x e (λ all d b q. either (nat_eq (length all.0) 2) (nat_eq (length all.0) 3) b
      (λ two. two_glued f.Substring (t.Key k.Substring w) (substring_from w) (λ a b rest. refl) (λ a b. refl) ts all x d (eqb-true _ _ two) q)
      (λ three. three_glued f.Substring (t.Key k.Substring w) (substring w) (λ a b d rest. refl) (λ a b d. refl) ts all x d (eqb-true _ _ three) q))
  call_sound k.Locate w ts x e = function_sound f.Locate (t.Key k.Locate w) ts x e (λ all d b q. either (nat_eq (length all.0) 2) (nat_eq (length all.0) 3) b
      (λ two. two_glued f.Locate (t.Key k.Locate w) (locate w) (λ a b rest. refl) (λ a b. refl) ts all x d (eqb-true _ _ two) q)
      (λ three. three_glued f.Locate (t.Key k.Locate w) (locate_from w) (λ a b d rest. refl) (λ a b d. refl) ts all x d (eqb-true _ _ three) q))
  call_sound k.Upper w ts x e = function_sound f.Upper (t.Key k.Upper w) ts x e (λ all d b q.
      one_glued f.Upper (t.Key k.Upper w) (upper w) (λ a rest. refl) (λ a. refl) ts all x d (eqb-true _ _ b) q)
  call_sound k.Lower w ts x e = function_sound f.Lower (t.Key k.Lower w) ts x e (λ all d b q.
      one_glued f.Lower (t.Key k.Lower w) (lower w) (λ a rest. refl) (λ a. refl) ts all x d (eqb-true _ _ b) q)
  call_sound k.Trim w ts x e = trim_sound w ts x e
  call_sound k.Size w ts x e = size_sound w ts x e
  call_sound k.Count w ts x e = aggregate_sound g.Count w ts x e
  call_sound k.Sum w ts x e = aggregate_sound g.Sum w ts x e
  call_sound k.Min w ts x e = aggregate_sound g.Min w ts x e
  call_sound k.Max w ts x e = aggregate_sound g.Max w ts x e
  call_sound key w ts x e = absurd (no_call inner ts x e)

-- and `when` what stands behind WHEN
module _ (inner : Read Value) (nested : (ts : List Token) (x : Value × List Token) → inner ts ≡ Some x → Wrote write_value value_tree ts x)
    (when : Read Value) (deeper : (ts : List Token) (x : Value × List Token) → when ts ≡ Some x → Wrote write_when when_tree ts x) where
  key_sound : (j : Keyword) (w : Text) (ts : List Token) (x : Value × List Token) → word_at inner when (t.Key j w) ts ≡ Some x → Wrote write_atom atom_tree (t.Key j w ∷ ts) x
  unfolding word_at
  key_sound j w ts x h = choice (same_keyword k.Case j) _ _ _ h
      (λ b h1. subst (λ j. Wrote write_atom atom_tree (t.Key j w ∷ ts) x) (keyword_is k.Case j b) (case_sound inner nested when deeper w ts x h1))
      (λ b h1. step (after m.Open ts) _ _ h1 (λ rest er hr. rw (← after_is m.Open ts rest er) (call_sound inner nested j w rest x hr)))

  atom_sound : (ts : List Token) (x : Value × List Token) → atom_at inner when ts ≡ Some x → Wrote write_atom atom_tree ts x
  unfolding atom_at word_at
  atom_sound [] x h = absurd cc
  atom_sound (t.Number n ∷ ts) x h = leaf write_atom atom_tree (integer n) _ _ _ x h refl refl
  atom_sound (t.Quoted w ∷ ts) x h = leaf write_atom atom_tree (text w) _ _ _ x h refl refl
  atom_sound (t.Parameter w ∷ ts) x h = leaf write_atom atom_tree (parameter w) _ _ _ x h refl refl
  atom_sound (t.Word w ∷ ts) x h = step (path_at (t.Word w ∷ ts)) _ _ h (λ p ep hp.
      around write_path path_tree write_atom atom_tree path v.Path (t.Word w ∷ ts) (t.Word w ∷ ts) p.0 p.1 p.1 x (path_sound (t.Word w ∷ ts) p ep) hp (λ d e. e) (λ d. refl))
  atom_sound (t.Key j w ∷ ts) x h = key_sound j w ts x h
  atom_sound (t.Mark y ∷ ts) x h = choice (same_mark m.Open y) _ _ _ h
      (λ b h1. let d = closed_sound write_value value_tree ts (inner ts) (nested ts) x h1 in (group d.0, rw (d.1, mark_is m.Open y b), d.2))
      (λ b h1. absurd cc)

  unary_sound : (ts : List Token) (x : Value × List Token) → unary_at inner when ts ≡ Some x → Wrote write_unary unary_tree ts x
  unfolding unary_at
  unary_sound ts x h = choice (sees m.Plus ts) _ _ _ h
      (λ b h1. step (atom_at inner when (drop 1 ts)) _ _ h1 (λ a ea ha.
      around write_atom atom_tree write_unary unary_tree positive (v.Signed s.Plus) ts (drop 1 ts) a.0 a.1 a.1 x (atom_sound (drop 1 ts) a ea) ha (λ d e. rw e (sees_is m.Plus ts b)) (λ d. refl)))
      (λ b h1. choice (sees m.Minus ts) _ _ _ h1
      (λ c h2. step (atom_at inner when (drop 1 ts)) _ _ h2 (λ a ea ha.
      around write_atom atom_tree write_unary unary_tree negative (v.Signed s.Minus) ts (drop 1 ts) a.0 a.1 a.1 x (atom_sound (drop 1 ts) a ea) ha (λ d e. rw e (sees_is m.Minus ts c)) (λ d. refl)))
      (λ c h2. let d = atom_sound ts x h2 in (unsigned d.0, d.1, d.2)))

  times_sound : (n : ℕ) (before : Value) (ts : List Token) (x : Value × List Token) → times_at inner when n before ts ≡ Some x
      → Wrote write_times (times_tree before) ts x
  unfolding times_at
  times_sound zero before ts x h = nothing write_times (times_tree before) no_times before ts x h refl refl
  times_sound (suc n) before ts x h = choice (sees m.Star ts) _ _ _ h
      (λ b h1. step (unary_at inner when (drop 1 ts)) _ _ h1 (λ a ea ha.
      times_glued before a.0 ts a.1 x b (unary_sound (drop 1 ts) a ea) (times_sound n _ a.1 x ha)))
      (λ b h1. nothing write_times (times_tree before) no_times before ts x h1 refl refl)

  product_sound : (ts : List Token) (x : Value × List Token) → product_at inner when ts ≡ Some x → Wrote write_product product_tree ts x
  unfolding product_at
  product_sound ts x h = step (unary_at inner when ts) _ _ h (λ a ea ha. product_glued a.0 ts a.1 x (unary_sound ts a ea) (times_sound (length a.1) a.0 a.1 x ha))

  sums_sound : (n : ℕ) (before : Value) (ts : List Token) (x : Value × List Token) → sums_at inner when n before ts ≡ Some x
      → Wrote write_sums (sums_tree before) ts x
  unfolding sums_at
  sums_sound zero before ts x h = nothing write_sums (sums_tree before) no_sums before ts x h refl refl
  sums_sound (suc n) before ts x h = choice (sees m.Plus ts) _ _ _ h
      (λ b h1. step (product_at inner when (drop 1 ts)) _ _ h1 (λ a ea ha.
      plus_glued before a.0 ts a.1 x b (product_sound (drop 1 ts) a ea) (sums_sound n _ a.1 x ha)))
      (λ b h1. choice (sees m.Minus ts) _ _ _ h1
      (λ c h2. step (product_at inner when (drop 1 ts)) _ _ h2 (λ a ea ha.
      minus_glued before a.0 ts a.1 x c (product_sound (drop 1 ts) a ea) (sums_sound n _ a.1 x ha)))
      (λ c h2. nothing write_sums (sums_tree before) no_sums before ts x h2 refl refl))

  level_sound : (ts : List Token) (x : Value × List Token) → level_at inner when ts ≡ Some x → Wrote write_value value_tree ts x
  unfolding level_at
  level_sound ts x h = step (product_at inner when ts) _ _ h (λ a ea ha. value_glued a.0 ts a.1 x (product_sound ts a ea) (sums_sound (length a.1) a.0 a.1 x ha))

mutual
  unfolding value_at

  pub value_sound : (n : ℕ) (ts : List Token) (x : Value × List Token) → value_at n ts ≡ Some x → Wrote write_value value_tree ts x
  value_sound zero ts x h = absurd cc
  value_sound (suc n) ts x h = level_sound (value_at n) (value_sound n) (when_at n) (when_sound n) ts x h

  when_sound : (n : ℕ) (ts : List Token) (x : Value × List Token) → when_at n ts ≡ Some x → Wrote write_when when_tree ts x
  when_sound zero ts x h = absurd cc
  when_sound (suc n) ts x h = when_level_sound (value_at n) (value_sound n) (when_at n) (when_sound n) ts x h
