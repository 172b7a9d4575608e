-- What is read as a test of values is written by the grammar, with its tree.
use Rattle.std.proofs.Common.{◌≡◌, Bool, true, false, List, [], ◌∷◌, drop, subst, Option, Some, None, refl, sym}
use Rattle.jpql_grammar.specs.declared.grammar.tested.Tested.{Tested}
use Rattle.jpql_grammar.specs.declared.grammar.tested.Tested.TheVariants as test
use Rattle.jpql_grammar.specs.declared.grammar.token.Keyword.TheVariants as k
use Rattle.jpql_grammar.specs.declared.grammar.token.Mark.TheVariants as m
use Rattle.jpql_grammar.specs.declared.grammar.token.Token.{Token}
use Rattle.jpql_grammar.specs.declared.grammar.token.Token.TheVariants as t
use Rattle.jpql_trees.specs.declared.tree.Comparison.{Comparison}
use Rattle.jpql_trees.specs.declared.tree.Value.{Value}
use Rattle.jpql_trees.specs.tree.Names.{Text}
use Rattle.jpql_grammar.specs.grammar.Tests.{Written, write_word, is_written, comparison_mark, write_escape, escape_text}
use Rattle.jpql_grammar.specs.grammar.ValueGrammar.{Value°, Tested°, compare, between, among, among_none, like, null, write_value, write_tested, value_tree, tested_tree}
use Rattle.jpql_grammar.specs.grammar.Values.{Read, sees, after, is_word, after_word, optional_word, list_at, closed, comparison_at, sees_comparison, escape_at, compared_at, between_at, among_at, like_at, null_at, worded_at, tested_at}
use Rattle.jpql_grammar.proofs.grammar.Skips.{close}
use Rattle.jpql_grammar.proofs.grammar.Tools.{step, choice, same, sees_is, after_is, word_is, after_word_is, optional_word_is}
use Rattle.jpql_grammar.proofs.grammar.PartsSound.{Wrote, leaf, write_list, list_trees, list_sound, write_closed, closed_sound, more_of, more_of_written, more_of_treed}

pub comparison_sound : (ts : List Token) (x : Comparison × List Token) → comparison_at ts ≡ Some x → t.Mark (comparison_mark x.0) ∷ x.1 ≡ ts
unfolding comparison_at
comparison_sound [] x h = absurd cc
comparison_sound (t.Word w ∷ ts) x h = absurd cc
comparison_sound (t.Key w u ∷ ts) x h = absurd cc
comparison_sound (t.Number n ∷ ts) x h = absurd cc
comparison_sound (t.Quoted w ∷ ts) x h = absurd cc
comparison_sound (t.Parameter w ∷ ts) x h = absurd cc
comparison_sound (t.Mark m.Equal ∷ ts) x h = let e = same _ _ h in rw (← e)
comparison_sound (t.Mark m.Different ∷ ts) x h = let e = same _ _ h in rw (← e)
comparison_sound (t.Mark m.Less ∷ ts) x h = let e = same _ _ h in rw (← e)
comparison_sound (t.Mark m.AtMost ∷ ts) x h = let e = same _ _ h in rw (← e)
comparison_sound (t.Mark m.Greater ∷ ts) x h = let e = same _ _ h in rw (← e)
comparison_sound (t.Mark m.AtLeast ∷ ts) x h = let e = same _ _ h in rw (← e)
comparison_sound (t.Mark _ ∷ ts) x h = absurd cc

escape_sound : (ts : List Token) (x : Option Text × List Token) → escape_at ts ≡ Some x → Wrote write_escape escape_text ts x
unfolding escape_at
escape_sound [] x h = leaf write_escape escape_text None None [] [] x h refl refl
escape_sound (t.Key k.Escape w ∷ t.Quoted q ∷ ts) x h = leaf write_escape escape_text (Some (w, q)) (Some q) ts _ x h refl refl
escape_sound (t.Key k.Escape w ∷ []) x h = absurd cc
escape_sound (t.Key k.Escape w ∷ _ ∷ ts) x h = absurd cc
escape_sound (y ∷ ts) x h = leaf write_escape escape_text None None (y ∷ ts) (y ∷ ts) x h refl refl

-- the tokens behind a value, of which those of the test are read
abbrev pub Asks : Value° → List Token → Tested × List Token → Type 0
Asks d ts x = Wrote write_tested tested_tree (write_value d ts) x

compared_glued : (d : Value°) (ts : List Token) (op : Comparison × List Token) (b : Value × List Token) (x : Tested × List Token)
    → t.Mark (comparison_mark op.0) ∷ op.1 ≡ ts → Wrote write_value value_tree op.1 b
    → Some (test.Compare op.0 (value_tree d) b.0, b.1) ≡ Some x → Asks d ts x
compared_glued d ts op b x eo (e, ee, te) h =
    leaf write_tested tested_tree (compare op.0 d e) (test.Compare op.0 (value_tree d) b.0) b.1 (write_value d ts) x h (rw (ee, eo)) (rw te)

between_glued : (d : Value°) (n : Written) (w : Text) (ts : List Token) (b : Value × List Token) (more : List Token) (y : Value × List Token) (x : Tested × List Token)
    → Wrote write_value value_tree ts b → (u : Text) × (t.Key k.And u ∷ more ≡ b.1) → Wrote write_value value_tree more y
    → Some (test.Between (is_written n) (value_tree d) b.0 y.0, y.1) ≡ Some x → Asks d (write_word k.Not n (t.Key k.Between w ∷ ts)) x
between_glued d n w ts b more y x (db, eb, tb) (u, eu) (dy, ey, ty) h =
    leaf write_tested tested_tree (between d n w db u dy) _ y.1 _ x h (rw (ey, eu, eb)) (rw (tb, ty))

among_glued : (d : Value°) (n : Written) (w : Text) (ts more : List Token) (all : List Value × List Token) (x : Tested × List Token)
    → t.Mark m.Open ∷ more ≡ ts → Wrote (write_closed (write_list write_value)) (list_trees value_tree) more all
    → Some (test.In (is_written n) (value_tree d) all.0, all.1) ≡ Some x → Asks d (write_word k.Not n (t.Key k.In w ∷ ts)) x
among_glued d n w ts more all x o ((b, bs), eb, tb) h =
    leaf write_tested tested_tree (among d n w b (more_of bs)) _ all.1 _ x h (rw (more_of_written bs (close all.1), eb, o)) (rw (more_of_treed bs) (rw tb))

none_glued : (d : Value°) (n : Written) (w : Text) (ts more : List Token) (x : Tested × List Token)
    → t.Mark m.Open ∷ more ≡ ts → t.Mark m.Close ∷ drop 1 more ≡ more → Some (test.In (is_written n) (value_tree d) [], drop 1 more) ≡ Some x
    → Asks d (write_word k.Not n (t.Key k.In w ∷ ts)) x
none_glued d n w ts more x o c h = leaf write_tested tested_tree (among_none d n w) _ (drop 1 more) _ x h (rw (c, o)) refl

like_glued : (d : Value°) (n : Written) (w : Text) (ts : List Token) (b : Value × List Token) (e : Option Text × List Token) (x : Tested × List Token)
    → Wrote write_value value_tree ts b → Wrote write_escape escape_text b.1 e
    → Some (test.Like (is_written n) (value_tree d) b.0 e.0, e.1) ≡ Some x → Asks d (write_word k.Not n (t.Key k.Like w ∷ ts)) x
like_glued d n w ts b e x (db, eb, tb) (de, ee, te) h = leaf write_tested tested_tree (like d n w db de) _ e.1 _ x h (rw (ee, eb)) (rw (tb, te))

null_glued : (d : Value°) (w u : Text) (ts mid : List Token) (b : Bool) (x : Tested × List Token)
    → (n : Written) × (write_word k.Not n (t.Key k.Null u ∷ mid) ≡ ts) × (is_written n ≡ b)
    → Some (test.IsNull b (value_tree d), mid) ≡ Some x → Asks d (t.Key k.Is w ∷ ts) x
null_glued d w u ts mid b x (n, en, tn) h = leaf write_tested tested_tree (null d w n u) _ mid _ x h (rw en) (rw tn)

-- a NOT that may be left out, before tokens that are these
pub not_before : (ts mid rest : List Token) (b : Bool) → (n : Written) × (write_word k.Not n mid ≡ ts) × (is_written n ≡ b) → rest ≡ mid
    → (n : Written) × (write_word k.Not n rest ≡ ts) × (is_written n ≡ b)
not_before ts mid rest b (n, en, tn) e = (n, rw e en, tn)

-- `inner` reads values
module _ (inner : Read Value) (nested : (ts : List Token) (x : Value × List Token) → inner ts ≡ Some x → Wrote write_value value_tree ts x) where
  compared_sound : (d : Value°) (ts : List Token) (x : Tested × List Token) → compared_at inner (value_tree d) ts ≡ Some x → Asks d ts x
  unfolding compared_at
  compared_sound d ts x h = step (comparison_at ts) _ _ h (λ op eo ho. step (inner op.1) _ _ ho (λ b eb hb.
      compared_glued d ts op b x (comparison_sound ts op eo) (nested op.1 b eb) hb))

  between_sound : (d : Value°) (neg : Written) (w : Text) (ts : List Token) (x : Tested × List Token) → between_at inner (value_tree d) (is_written neg) ts ≡ Some x
      → Asks d (write_word k.Not neg (t.Key k.Between w ∷ ts)) x
  unfolding between_at
  between_sound d neg w ts x h = step (inner ts) _ _ h (λ b eb hb. step (after_word k.And b.1) _ _ hb (λ more em hm. step (inner more) _ _ hm (λ y ey hy.
      between_glued d neg w ts b more y x (nested ts b eb) (after_word_is k.And b.1 more em) (nested more y ey) hy)))

  among_sound : (d : Value°) (neg : Written) (w : Text) (ts : List Token) (x : Tested × List Token) → among_at inner (value_tree d) (is_written neg) ts ≡ Some x
      → Asks d (write_word k.Not neg (t.Key k.In w ∷ ts)) x
  unfolding among_at
  among_sound d neg w ts x h = step (after m.Open ts) _ _ h (λ more em hm. choice (sees m.Close more) _ _ _ hm
      (λ b hb. none_glued d neg w ts more x (after_is m.Open ts more em) (sees_is m.Close more b) hb)
      (λ b hb. step (closed (list_at inner more)) _ _ hb (λ all ea ha.
      among_glued d neg w ts more all x (after_is m.Open ts more em)
      (closed_sound (write_list write_value) (list_trees value_tree) more (list_at inner more) (list_sound inner write_value value_tree nested more) all ea) ha)))

  like_sound : (d : Value°) (neg : Written) (w : Text) (ts : List Token) (x : Tested × List Token) → like_at inner (value_tree d) (is_written neg) ts ≡ Some x
      → Asks d (write_word k.Not neg (t.Key k.Like w ∷ ts)) x
  unfolding like_at
  like_sound d neg w ts x h = step (inner ts) _ _ h (λ b eb hb. step (escape_at b.1) _ _ hb (λ e ee he.
      like_glued d neg w ts b e x (nested ts b eb) (escape_sound b.1 e ee) he))

  null_sound : (d : Value°) (w : Text) (ts : List Token) (x : Tested × List Token) → null_at inner (value_tree d) ts ≡ Some x → Asks d (t.Key k.Is w ∷ ts) x
  unfolding null_at
  null_sound d w ts x h = let neg = optional_word k.Not ts in step (after_word k.Null neg.1) _ _ h (λ rest er hr.
      let (u, eu) = after_word_is k.Null neg.1 rest er in
      null_glued d w u ts rest neg.0 x (not_before ts neg.1 (t.Key k.Null u ∷ rest) neg.0 (optional_word_is k.Not ts) eu) hr)

  worded_sound : (d : Value°) (neg : Written) (ts : List Token) (x : Tested × List Token) → worded_at inner (value_tree d) (is_written neg) ts ≡ Some x
      → Asks d (write_word k.Not neg ts) x
  unfolding worded_at
  worded_sound d neg ts x h = choice (is_word k.Between ts) _ _ _ h
      (λ b h1. let (w, ew) = word_is k.Between ts b in subst (λ us. Asks d (write_word k.Not neg us) x) ew (between_sound d neg w (drop 1 ts) x h1))
      (λ b h1. choice (is_word k.In ts) _ _ _ h1
      (λ b h2. let (w, ew) = word_is k.In ts b in subst (λ us. Asks d (write_word k.Not neg us) x) ew (among_sound d neg w (drop 1 ts) x h2))
      (λ b h2. choice (is_word k.Like ts) _ _ _ h2
      (λ b h3. let (w, ew) = word_is k.Like ts b in subst (λ us. Asks d (write_word k.Not neg us) x) ew (like_sound d neg w (drop 1 ts) x h3))
      (λ b h3. absurd cc)))

  negated_glued : (d : Value°) (ts mid : List Token) (b : Bool) (x : Tested × List Token)
      → (n : Written) × (write_word k.Not n mid ≡ ts) × (is_written n ≡ b) → worded_at inner (value_tree d) b mid ≡ Some x → Asks d ts x
  negated_glued d ts mid b x (n, en, tn) h =
      subst (λ us. Asks d us x) en (worded_sound d n mid x (subst (λ b. worded_at inner (value_tree d) b mid ≡ Some x) (sym tn) h))

  pub tested_sound : (d : Value°) (ts : List Token) (x : Tested × List Token) → tested_at inner (value_tree d) ts ≡ Some x → Asks d ts x
  unfolding tested_at
  tested_sound d ts x h = choice (sees_comparison ts) _ _ _ h
      (λ b h1. compared_sound d ts x h1)
      (λ b h1. choice (is_word k.Is ts) _ _ _ h1
      (λ b h2. let (w, ew) = word_is k.Is ts b in subst (λ us. Asks d us x) ew (null_sound d w (drop 1 ts) x h2))
      (λ b h2. negated_glued d ts (optional_word k.Not ts).1 (optional_word k.Not ts).0 x (optional_word_is k.Not ts) h2))
