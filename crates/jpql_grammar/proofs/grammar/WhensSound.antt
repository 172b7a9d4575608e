-- What is read behind WHEN, and as CASE, is written by the grammar, with its tree.
use Rattle.std.proofs.Common.{◌≡◌, ℕ, zero, suc, true, not, ◌&&◌, List, [], ◌∷◌, ◌++◌, drop, length, subst, Option, Some, None, refl, sym, ◌∙◌, append_assoc}
use Rattle.jpql_grammar.specs.declared.grammar.tested.Tested.{Tested}
use Rattle.jpql_grammar.specs.declared.grammar.token.Keyword.TheVariants as k
use Rattle.jpql_grammar.specs.declared.grammar.token.Mark.TheVariants as m
use Rattle.jpql_grammar.specs.declared.grammar.token.Token.{Token}
use Rattle.jpql_grammar.specs.declared.grammar.token.Token.TheVariants as t
use Rattle.jpql_trees.specs.declared.tree.Function.TheVariants as f
use Rattle.jpql_trees.specs.declared.tree.Value.{Value}
use Rattle.jpql_trees.specs.declared.tree.Value.TheVariants as v
use Rattle.jpql_trees.specs.tree.Names.{Text}
use Rattle.jpql_grammar.specs.grammar.Tests.{denied_if, value_of}
use Rattle.jpql_grammar.specs.grammar.ValueGrammar.{Value°, call, case_when, case_of, Branches°, no_branches, branches, Matches°, no_matches, matches, When°, when, no_when_ors, when_or, when_conj, no_when_ands, when_and, maybe_when_not, when_inside, when_tested, write_value, write_atom, write_branches, write_matches, write_when, write_when_ors, write_when_and, write_when_ands, write_when_not, write_when_test, write_tested, value_tree, atom_tree, branches_trees, matches_trees, when_tree, when_ors_tree, when_and_tree, when_ands_tree, when_not_tree, when_test_tree, tested_tree}
use Rattle.jpql_grammar.specs.grammar.Nesting.{past_close}
use Rattle.jpql_grammar.specs.grammar.Values.{Read, sees, is_word, after_word, closed, goes_on_at, opens_condition, tested_at, when_test_at, when_not_at, when_ands_at, when_and_at, when_ors_at, when_level_at, otherwise_at, branches_at, match_at, case_at}
use Rattle.jpql_grammar.proofs.grammar.Tools.{step, choice, both, sees_is, word_is, after_word_is}
use Rattle.jpql_grammar.proofs.grammar.PartsSound.{Wrote, nothing, leaf, write_closed, closed_sound}
use Rattle.jpql_grammar.proofs.grammar.TestedSound.{tested_sound}

-- `inner` reads values, and `below` what stands behind WHEN
module _ (inner : Read Value) (nested : (ts : List Token) (x : Value × List Token) → inner ts ≡ Some x → Wrote write_value value_tree ts x)
    (below : Read Value) (deeper : (ts : List Token) (x : Value × List Token) → below ts ≡ Some x → Wrote write_when when_tree ts x) where
  inside_glued : (ts : List Token) (x : Value × List Token) → sees m.Open ts ≡ true → Wrote (write_closed write_when) when_tree (drop 1 ts) x → Wrote write_when_test when_test_tree ts x
  inside_glued ts x o (d, ed, td) = (when_inside d, rw ed (sees_is m.Open ts o), td)

  asked_glued : (ts us : List Token) (y : Tested × List Token) (x : Value × List Token) → us ≡ ts → Wrote write_tested tested_tree us y
      → Some (value_of y.0, y.1) ≡ Some x → Wrote write_when_test when_test_tree ts x
  asked_glued ts us y x e (z, ez, tz) h = leaf write_when_test when_test_tree (when_tested z) (value_of y.0) y.1 ts x h (ez ∙ e) (rw tz)

  valued_glued : (ts : List Token) (a : Value × List Token) (y : Tested × List Token) (x : Value × List Token) → Wrote write_value value_tree ts a
      → tested_at inner a.0 a.1 ≡ Some y → Some (value_of y.0, y.1) ≡ Some x → Wrote write_when_test when_test_tree ts x
  valued_glued ts a y x (d, ed, td) ey h =
      asked_glued ts (write_value d a.1) y x ed (tested_sound inner nested d a.1 y (rw td ey)) h

  when_test_sound : (ts : List Token) (x : Value × List Token) → when_test_at inner below ts ≡ Some x → Wrote write_when_test when_test_tree ts x
  unfolding when_test_at
  when_test_sound ts x h = choice (opens_condition ts) _ _ _ h
      (λ b h1. both (sees m.Open ts) (not (goes_on_at (past_close 0 (drop 1 ts)))) b (λ o u.
      inside_glued ts x o (closed_sound write_when when_tree (drop 1 ts) (below (drop 1 ts)) (deeper (drop 1 ts)) x h1)))
      (λ b h1. step (inner ts) _ _ h1 (λ a ea ha. step (tested_at inner a.0 a.1) _ _ ha (λ y ey hy. valued_glued ts a y x (nested ts a ea) ey hy)))

  not_glued : (ts : List Token) (a x : Value × List Token) → (w : Text) × (t.Key k.Not w ∷ drop 1 ts ≡ ts) → Wrote write_when_test when_test_tree (drop 1 ts) a
      → Some (denied_if true a.0, a.1) ≡ Some x → Wrote write_when_not when_not_tree ts x
  not_glued ts a x (w, ew) (d, ed, td) h = leaf write_when_not when_not_tree (maybe_when_not (Some w) d) (denied_if true a.0) a.1 ts x h (rw ed ew) (rw td)

  when_not_sound : (ts : List Token) (x : Value × List Token) → when_not_at inner below ts ≡ Some x → Wrote write_when_not when_not_tree ts x
  unfolding when_not_at
  when_not_sound ts x h = choice (is_word k.Not ts) _ _ _ h
      (λ b h1. step (when_test_at inner below (drop 1 ts)) _ _ h1 (λ a ea ha. not_glued ts a x (word_is k.Not ts b) (when_test_sound (drop 1 ts) a ea) ha))
      (λ b h1. let d = when_test_sound ts x h1 in (maybe_when_not None d.0, d.1, d.2))

  ands_glued : (before : Value) (ts : List Token) (a x : Value × List Token) → (w : Text) × (t.Key k.And w ∷ drop 1 ts ≡ ts)
      → Wrote write_when_not when_not_tree (drop 1 ts) a → Wrote write_when_ands (when_ands_tree (v.Call f.And (before ∷ a.0 ∷ []))) a.1 x → Wrote write_when_ands (when_ands_tree before) ts x
  ands_glued before ts a x (w, ew) (d, ed, td) (e, ee, te) = (when_and w d e, rw (ee, ed) ew, rw td te)

  when_ands_sound : (j : ℕ) (before : Value) (ts : List Token) (x : Value × List Token) → when_ands_at inner below j before ts ≡ Some x → Wrote write_when_ands (when_ands_tree before) ts x
  unfolding when_ands_at
  when_ands_sound zero before ts x h = nothing write_when_ands (when_ands_tree before) no_when_ands before ts x h refl refl
  when_ands_sound (suc j) before ts x h = choice (is_word k.And ts) _ _ _ h
      (λ b h1. step (when_not_at inner below (drop 1 ts)) _ _ h1 (λ a ea ha. ands_glued before ts a x (word_is k.And ts b) (when_not_sound (drop 1 ts) a ea) (when_ands_sound j _ a.1 x ha)))
      (λ b h1. nothing write_when_ands (when_ands_tree before) no_when_ands before ts x h1 refl refl)

  and_glued : (ts : List Token) (a x : Value × List Token) → Wrote write_when_not when_not_tree ts a → Wrote write_when_ands (when_ands_tree a.0) a.1 x → Wrote write_when_and when_and_tree ts x
  and_glued ts a x (d, ed, td) (e, ee, te) = (when_conj d e, rw ee ed, rw td te)

  when_and_sound : (ts : List Token) (x : Value × List Token) → when_and_at inner below ts ≡ Some x → Wrote write_when_and when_and_tree ts x
  unfolding when_and_at
  when_and_sound ts x h = step (when_not_at inner below ts) _ _ h (λ a ea ha. and_glued ts a x (when_not_sound ts a ea) (when_ands_sound (length a.1) a.0 a.1 x ha))

  ors_glued : (before : Value) (ts : List Token) (a x : Value × List Token) → (w : Text) × (t.Key k.Or w ∷ drop 1 ts ≡ ts)
      → Wrote write_when_and when_and_tree (drop 1 ts) a → Wrote write_when_ors (when_ors_tree (v.Call f.Or (before ∷ a.0 ∷ []))) a.1 x → Wrote write_when_ors (when_ors_tree before) ts x
  ors_glued before ts a x (w, ew) (d, ed, td) (e, ee, te) = (when_or w d e, rw (ee, ed) ew, rw td te)

  when_ors_sound : (j : ℕ) (before : Value) (ts : List Token) (x : Value × List Token) → when_ors_at inner below j before ts ≡ Some x → Wrote write_when_ors (when_ors_tree before) ts x
  unfolding when_ors_at
  when_ors_sound zero before ts x h = nothing write_when_ors (when_ors_tree before) no_when_ors before ts x h refl refl
  when_ors_sound (suc j) before ts x h = choice (is_word k.Or ts) _ _ _ h
      (λ b h1. step (when_and_at inner below (drop 1 ts)) _ _ h1 (λ a ea ha. ors_glued before ts a x (word_is k.Or ts b) (when_and_sound (drop 1 ts) a ea) (when_ors_sound j _ a.1 x ha)))
      (λ b h1. nothing write_when_ors (when_ors_tree before) no_when_ors before ts x h1 refl refl)

  when_glued : (ts : List Token) (a x : Value × List Token) → Wrote write_when_and when_and_tree ts a → Wrote write_when_ors (when_ors_tree a.0) a.1 x → Wrote write_when when_tree ts x
  when_glued ts a x (d, ed, td) (e, ee, te) = (when d e, rw ee ed, rw td te)

  pub when_level_sound : (ts : List Token) (x : Value × List Token) → when_level_at inner below ts ≡ Some x → Wrote write_when when_tree ts x
  unfolding when_level_at
  when_level_sound ts x h = step (when_and_at inner below ts) _ _ h (λ a ea ha. when_glued ts a x (when_and_sound ts a ea) (when_ors_sound (length a.1) a.0 a.1 x ha))

  -- ---- CASE

  -- ELSE value END
  otherwise_glued : (found : List Value) (ts more rest : List Token) (e : Value × List Token) (x : List Value × List Token)
      → (w : Text) × (t.Key k.Else w ∷ more ≡ ts) → Wrote write_value value_tree more e → (u : Text) × (t.Key k.End u ∷ rest ≡ e.1)
      → Some (found ++ e.0 ∷ [], rest) ≡ Some x
      → Wrote write_branches (λ bs. found ++ branches_trees bs) ts x × Wrote write_matches (λ bs. found ++ matches_trees bs) ts x
  otherwise_glued found ts more rest e x (w, ew) (d, ed, td) (u, eu) h = (
    leaf write_branches (λ bs. found ++ branches_trees bs) (no_branches w d u) (found ++ e.0 ∷ []) rest ts x h (rw (eu, ed, ew)) (rw td),
    leaf write_matches (λ bs. found ++ matches_trees bs) (no_matches w d u) (found ++ e.0 ∷ []) rest ts x h (rw (eu, ed, ew)) (rw td),
  )

  otherwise_sound : (found : List Value) (ts : List Token) (x : List Value × List Token) → otherwise_at inner found ts ≡ Some x
      → Wrote write_branches (λ bs. found ++ branches_trees bs) ts x × Wrote write_matches (λ bs. found ++ matches_trees bs) ts x
  unfolding otherwise_at
  otherwise_sound found ts x h = step (after_word k.Else ts) _ _ h (λ more em hm. step (inner more) _ _ hm (λ e ee he. step (after_word k.End e.1) _ _ he (λ rest er hr.
      otherwise_glued found ts more rest e x (after_word_is k.Else ts more em) (nested more e ee) (after_word_is k.End e.1 rest er) hr)))

  branches_glued : (found : List Value) (ts more : List Token) (w a : Value × List Token) (x : List Value × List Token)
      → (u : Text) × (t.Key k.When u ∷ drop 1 ts ≡ ts) → Wrote write_when when_tree (drop 1 ts) w → (y : Text) × (t.Key k.Then y ∷ more ≡ w.1)
      → Wrote write_value value_tree more a → Wrote write_branches (λ bs. (found ++ w.0 ∷ a.0 ∷ []) ++ branches_trees bs) a.1 x → Wrote write_branches (λ bs. found ++ branches_trees bs) ts x
  branches_glued found ts more w a x (u, eu) (d, ed, td) (y, ey) (e, ee, te) (bs, eb, tb) =
      (branches u d y e bs, rw (eb, ee, ey, ed) eu, rw (td, te) (sym (append_assoc found (w.0 ∷ a.0 ∷ []) (branches_trees bs)) ∙ tb))

  branches_sound : (j : ℕ) (found : List Value) (ts : List Token) (x : List Value × List Token) → branches_at inner below j found ts ≡ Some x → Wrote write_branches (λ bs. found ++ branches_trees bs) ts x
  unfolding branches_at
  branches_sound zero found ts x h = (otherwise_sound found ts x h).0
  branches_sound (suc j) found ts x h = choice (is_word k.When ts) _ _ _ h
      (λ b h1. step (below (drop 1 ts)) _ _ h1 (λ w ew hw. step (after_word k.Then w.1) _ _ hw (λ more em hm. step (inner more) _ _ hm (λ a ea ha.
      branches_glued found ts more w a x (word_is k.When ts b) (deeper (drop 1 ts) w ew) (after_word_is k.Then w.1 more em) (nested more a ea) (branches_sound j (found ++ w.0 ∷ a.0 ∷ []) a.1 x ha)))))
      (λ b h1. (otherwise_sound found ts x h1).0)

  matches_glued : (found : List Value) (ts more : List Token) (w a : Value × List Token) (x : List Value × List Token)
      → (u : Text) × (t.Key k.When u ∷ drop 1 ts ≡ ts) → Wrote write_value value_tree (drop 1 ts) w → (y : Text) × (t.Key k.Then y ∷ more ≡ w.1)
      → Wrote write_value value_tree more a → Wrote write_matches (λ bs. (found ++ w.0 ∷ a.0 ∷ []) ++ matches_trees bs) a.1 x → Wrote write_matches (λ bs. found ++ matches_trees bs) ts x
  matches_glued found ts more w a x (u, eu) (d, ed, td) (y, ey) (e, ee, te) (bs, eb, tb) =
      (matches u d y e bs, rw (eb, ee, ey, ed) eu, rw (td, te) (sym (append_assoc found (w.0 ∷ a.0 ∷ []) (matches_trees bs)) ∙ tb))

  matches_sound : (j : ℕ) (found : List Value) (ts : List Token) (x : List Value × List Token) → branches_at inner inner j found ts ≡ Some x → Wrote write_matches (λ bs. found ++ matches_trees bs) ts x
  unfolding branches_at
  matches_sound zero found ts x h = (otherwise_sound found ts x h).1
  matches_sound (suc j) found ts x h = choice (is_word k.When ts) _ _ _ h
      (λ b h1. step (inner (drop 1 ts)) _ _ h1 (λ w ew hw. step (after_word k.Then w.1) _ _ hw (λ more em hm. step (inner more) _ _ hm (λ a ea ha.
      matches_glued found ts more w a x (word_is k.When ts b) (nested (drop 1 ts) w ew) (after_word_is k.Then w.1 more em) (nested more a ea) (matches_sound j (found ++ w.0 ∷ a.0 ∷ []) a.1 x ha)))))
      (λ b h1. (otherwise_sound found ts x h1).1)

  -- CASE of tests: WHEN comes next, so there is a branch
  searched_glued : (w : Text) (ts : List Token) (all : List Value × List Token) (x : Value × List Token) → is_word k.When ts ≡ true
      → Wrote write_branches (λ bs. [] ++ branches_trees bs) ts all → Some (v.Call f.Case all.0, all.1) ≡ Some x → Wrote write_atom atom_tree (t.Key k.Case w ∷ ts) x
  searched_glued w ts all x b (no_branches y a z, e, tb) h = let never = subst (λ us. is_word k.When us ≡ true) (sym e) b in absurd cc
  searched_glued w ts all x b (branches u d y a bs, e, tb) h = leaf write_atom atom_tree (call (case_when w u d y a bs)) (v.Call f.Case all.0) all.1 _ x h (rw e) (rw tb)

  -- CASE of a value
  matched_glued : (w : Text) (ts : List Token) (a : Value × List Token) (all : List Value × List Token) (x : Value × List Token) → Wrote write_value value_tree ts a
      → is_word k.When a.1 ≡ true → Wrote write_matches (λ bs. (a.0 ∷ []) ++ matches_trees bs) a.1 all → Some (v.Call f.Match all.0, all.1) ≡ Some x
      → Wrote write_atom atom_tree (t.Key k.Case w ∷ ts) x
  matched_glued w ts a all x (d, ed, td) b (no_matches y o z, e, tb) h = let never = subst (λ us. is_word k.When us ≡ true) (sym e) b in absurd cc
  matched_glued w ts a all x (d, ed, td) b (matches u c y o bs, e, tb) h =
      leaf write_atom atom_tree (call (case_of w d u c y o bs)) (v.Call f.Match all.0) all.1 _ x h (rw (e, ed)) (rw td (rw tb))

  pub case_sound : (w : Text) (ts : List Token) (x : Value × List Token) → case_at inner below ts ≡ Some x → Wrote write_atom atom_tree (t.Key k.Case w ∷ ts) x
  unfolding case_at match_at
  case_sound w ts x h = choice (is_word k.When ts) _ _ _ h
      (λ b h1. step (branches_at inner below (length ts) [] ts) _ _ h1 (λ all ea ha. searched_glued w ts all x b (branches_sound (length ts) [] ts all ea) ha))
      (λ b h1. step (inner ts) _ _ h1 (λ a ea ha. choice (is_word k.When a.1) _ _ _ ha
      (λ c h2. step (branches_at inner inner (length a.1) (a.0 ∷ []) a.1) _ _ h2 (λ all el hl. matched_glued w ts a all x (nested ts a ea) c (matches_sound (length a.1) (a.0 ∷ []) a.1 all el) hl))
      (λ c h2. absurd cc)))
