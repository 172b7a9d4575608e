-- What the grammar writes behind WHEN, and as CASE, is read, with its tree.
use Rattle.std.proofs.Common.{◌≡◌, ℕ, zero, suc, ◌≤◌, false, List, [], ◌∷◌, ◌++◌, length, Some, None, refl, ◌∙◌, arith, append_assoc}
use Rattle.jpql_grammar.specs.declared.grammar.token.Keyword.TheVariants as k
use Rattle.jpql_grammar.specs.declared.grammar.token.Mark.TheVariants as m
use Rattle.jpql_grammar.specs.declared.grammar.token.Token.{Token}
use Rattle.jpql_grammar.specs.declared.grammar.token.Token.TheVariants as t
use Rattle.jpql_trees.specs.declared.tree.Function.TheVariants as f
use Rattle.jpql_trees.specs.declared.tree.Value.{Value}
use Rattle.jpql_trees.specs.declared.tree.Value.TheVariants as v
use Rattle.jpql_trees.specs.tree.Names.{Text}
use Rattle.jpql_grammar.specs.grammar.Tests.{value_of}
use Rattle.jpql_grammar.specs.grammar.ValueGrammar.{Value°, Branches°, no_branches, branches, Matches°, no_matches, matches, When°, when, WhenOrs°, no_when_ors, when_or, WhenAnd°, when_conj, WhenAnds°, no_when_ands, when_and, WhenNot°, maybe_when_not, WhenTest°, when_inside, when_tested, write_value, write_branches, write_matches, write_when, write_when_ors, write_when_and, write_when_ands, write_when_not, write_when_test, value_tree, branches_trees, matches_trees, when_tree, when_ors_tree, when_and_tree, when_ands_tree, when_not_tree, when_test_tree, tested_tree}
use Rattle.jpql_grammar.specs.grammar.Values.{Read, is_word, closed, when_test_at, when_not_at, when_ands_at, when_and_at, when_ors_at, when_level_at, otherwise_at, branches_at, match_at, case_at}
use Rattle.jpql_grammar.proofs.grammar.Skips.{close, value_skip, when_skip, when_not_skip, when_and_skip}
use Rattle.jpql_grammar.proofs.grammar.PartsComplete.{Ends, After, ends_key, ends_close, value_no_word}
use Rattle.jpql_grammar.proofs.grammar.Behind.{value_opens, when_opens}
use Rattle.jpql_grammar.proofs.grammar.TestedComplete.{first_value, behind_value, tested_written, tested_no_word, behind_ends, behind_goes, follows_tested}

-- what may follow what stands behind WHEN
pub record AfterWhen (ts : List Token) : Type 0 where
  pub after : After ts
  pub and : is_word k.And ts ≡ false
  pub or : is_word k.Or ts ≡ false

pub when_then : (w : Text) (rest : List Token) → AfterWhen (t.Key k.Then w ∷ rest)
when_then w rest = record { after = record { ends = ends_key; escape = refl; goes = refl }; and = refl; or = refl }

pub when_close : (rest : List Token) → AfterWhen (close rest)
when_close rest = record { after = record { ends = ends_close rest; escape = refl; goes = refl }; and = refl; or = refl }

when_test_no_not : (x : WhenTest°) (rest : List Token) → is_word k.Not (write_when_test x rest) ≡ false
when_test_no_not (when_inside x) rest = refl
when_test_no_not (when_tested x) rest = tested_no_word k.Not refl x rest

ands_after : (ns : WhenAnds°) (rest : List Token) → After rest → After (write_when_ands ns rest)
ands_after no_when_ands rest e = e
ands_after (when_and w x ns) rest e = record { ends = ends_key; escape = refl; goes = refl }

ors_after : (os : WhenOrs°) (rest : List Token) → AfterWhen rest → (e : After (write_when_ors os rest)) × (is_word k.And (write_when_ors os rest) ≡ false)
ors_after no_when_ors rest e = (e.after, e.and)
ors_after (when_or w a os) rest e = (record { ends = ends_key; escape = refl; goes = refl }, refl)

branches_end : (bs : Branches°) (rest : List Token) → Ends (write_branches bs rest)
branches_end (no_branches w a u) rest = ends_key
branches_end (branches u d v a bs) rest = ends_key

matches_end : (bs : Matches°) (rest : List Token) → Ends (write_matches bs rest)
matches_end (no_matches w a u) rest = ends_key
matches_end (matches u b v a bs) rest = ends_key

-- `inner` reads values of at most n tokens, and `below` what stands behind WHEN, of fewer
module _ (inner : Read Value) (n : ℕ)
    (nested : (d : Value°) (rest : List Token) → length (write_value d rest) ≤ n → Ends rest → inner (write_value d rest) ≡ Some (value_tree d, rest))
    (below : Read Value)
    (deeper : (d : When°) (rest : List Token) → suc (length (write_when d rest)) ≤ n → AfterWhen rest → below (write_when d rest) ≡ Some (when_tree d, rest)) where
  when_test_complete : (x : WhenTest°) (rest : List Token) → length (write_when_test x rest) ≤ n → After rest → when_test_at inner below (write_when_test x rest) ≡ Some (when_test_tree x, rest)
  unfolding when_test_at closed
  when_test_complete (when_inside x) rest h e = rw (when_opens x rest e.goes, deeper x (close rest) (omega arith) (when_close rest))
  when_test_complete (when_tested x) rest h e =
      let a = first_value x in
      let more = behind_value x rest in
      let long : length (write_value a more) ≤ n = rw (← tested_written x rest) h in
      rw (tested_written x rest) (rw (value_opens a more (behind_goes x rest), nested a more long (behind_ends x rest)) (rw (follows_tested inner n nested x rest h e)))

  when_not_complete : (x : WhenNot°) (rest : List Token) → length (write_when_not x rest) ≤ n → After rest → when_not_at inner below (write_when_not x rest) ≡ Some (when_not_tree x, rest)
  unfolding when_not_at
  when_not_complete (maybe_when_not None x) rest h e = rw (when_test_no_not x rest) (when_test_complete x rest h e)
  when_not_complete (maybe_when_not (Some w) x) rest h e = rw (when_test_complete x rest (omega arith) e)

  when_ands_complete : (ns : WhenAnds°) (i : ℕ) (before : Value) (rest : List Token) → length (write_when_ands ns rest) ≤ i → length (write_when_ands ns rest) ≤ n → After rest → is_word k.And rest ≡ false
      → when_ands_at inner below i before (write_when_ands ns rest) ≡ Some (when_ands_tree before ns, rest)
  unfolding when_ands_at
  when_ands_complete no_when_ands zero before rest l h e last = refl
  when_ands_complete no_when_ands (suc i) before rest l h e last = rw last
  when_ands_complete (when_and w x ns) zero before rest l h e last = absurd (omega arith)
  when_ands_complete (when_and w x ns) (suc i) before rest l h e last =
      let long = (when_not_skip x (write_when_ands ns rest)).long in
      rw (when_not_complete x (write_when_ands ns rest) (omega arith) (ands_after ns rest e))
      (when_ands_complete ns i _ rest (omega (arith, long)) (omega (arith, long)) e last)

  when_and_complete : (a : WhenAnd°) (rest : List Token) → length (write_when_and a rest) ≤ n → After rest → is_word k.And rest ≡ false → when_and_at inner below (write_when_and a rest) ≡ Some (when_and_tree a, rest)
  unfolding when_and_at
  when_and_complete (when_conj x ns) rest h e last =
      rw (when_not_complete x (write_when_ands ns rest) h (ands_after ns rest e))
      (when_ands_complete ns (length (write_when_ands ns rest)) (when_not_tree x) rest (omega arith) (omega (arith, (when_not_skip x (write_when_ands ns rest)).long)) e last)

  when_ors_complete : (os : WhenOrs°) (i : ℕ) (before : Value) (rest : List Token) → length (write_when_ors os rest) ≤ i → length (write_when_ors os rest) ≤ n → AfterWhen rest
      → when_ors_at inner below i before (write_when_ors os rest) ≡ Some (when_ors_tree before os, rest)
  unfolding when_ors_at
  when_ors_complete no_when_ors zero before rest l h e = refl
  when_ors_complete no_when_ors (suc i) before rest l h e = rw (e.or)
  when_ors_complete (when_or w a os) zero before rest l h e = absurd (omega arith)
  when_ors_complete (when_or w a os) (suc i) before rest l h e =
      let long = (when_and_skip a (write_when_ors os rest)).long in
      let g = ors_after os rest e in
      rw (when_and_complete a (write_when_ors os rest) (omega arith) g.0 g.1)
      (when_ors_complete os i _ rest (omega (arith, long)) (omega (arith, long)) e)

  pub when_level_complete : (d : When°) (rest : List Token) → length (write_when d rest) ≤ n → AfterWhen rest → when_level_at inner below (write_when d rest) ≡ Some (when_tree d, rest)
  unfolding when_level_at
  when_level_complete (when a os) rest h e =
      let g = ors_after os rest e in
      rw (when_and_complete a (write_when_ors os rest) h g.0 g.1)
      (when_ors_complete os (length (write_when_ors os rest)) (when_and_tree a) rest (omega arith) (omega (arith, (when_and_skip a (write_when_ors os rest)).long)) e)

  -- ---- CASE

  otherwise_complete : (w : Text) (a : Value°) (u : Text) (found : List Value) (rest : List Token) → length (write_value a (t.Key k.End u ∷ rest)) ≤ n
      → otherwise_at inner found (t.Key k.Else w ∷ write_value a (t.Key k.End u ∷ rest)) ≡ Some (found ++ value_tree a ∷ [], rest)
  unfolding otherwise_at
  otherwise_complete w a u found rest h = rw (nested a (t.Key k.End u ∷ rest) h ends_key)

  branches_complete : (bs : Branches°) (i : ℕ) (found : List Value) (rest : List Token) → length (write_branches bs rest) ≤ i → length (write_branches bs rest) ≤ n
      → branches_at inner below i found (write_branches bs rest) ≡ Some (found ++ branches_trees bs, rest)
  unfolding branches_at
  branches_complete (no_branches w a u) zero found rest l h = otherwise_complete w a u found rest (omega arith)
  branches_complete (no_branches w a u) (suc i) found rest l h = otherwise_complete w a u found rest (omega arith)
  branches_complete (branches u d v a bs) zero found rest l h = absurd (omega arith)
  branches_complete (branches u d v a bs) (suc i) found rest l h =
      let more = write_branches bs rest in
      let long = (when_skip d (t.Key k.Then v ∷ write_value a more)).long in
      let longer = (value_skip a more).long in
      rw (deeper d (t.Key k.Then v ∷ write_value a more) (omega arith) (when_then v (write_value a more)), nested a more (omega (arith, long)) (branches_end bs rest))
      (branches_complete bs i (found ++ when_tree d ∷ value_tree a ∷ []) rest (omega (arith, long, longer)) (omega (arith, long, longer)) ∙ rw append_assoc)

  matches_complete : (bs : Matches°) (i : ℕ) (found : List Value) (rest : List Token) → length (write_matches bs rest) ≤ i → length (write_matches bs rest) ≤ n
      → branches_at inner inner i found (write_matches bs rest) ≡ Some (found ++ matches_trees bs, rest)
  unfolding branches_at
  matches_complete (no_matches w a u) zero found rest l h = otherwise_complete w a u found rest (omega arith)
  matches_complete (no_matches w a u) (suc i) found rest l h = otherwise_complete w a u found rest (omega arith)
  matches_complete (matches u b v a bs) zero found rest l h = absurd (omega arith)
  matches_complete (matches u b v a bs) (suc i) found rest l h =
      let more = write_matches bs rest in
      let long = (value_skip b (t.Key k.Then v ∷ write_value a more)).long in
      let longer = (value_skip a more).long in
      rw (nested b (t.Key k.Then v ∷ write_value a more) (omega arith) ends_key, nested a more (omega (arith, long)) (matches_end bs rest))
      (matches_complete bs i (found ++ value_tree b ∷ value_tree a ∷ []) rest (omega (arith, long, longer)) (omega (arith, long, longer)) ∙ rw append_assoc)

  pub case_when_complete : (u : Text) (d : When°) (w : Text) (a : Value°) (bs : Branches°) (rest : List Token)
      → length (t.Key k.When u ∷ write_when d (t.Key k.Then w ∷ write_value a (write_branches bs rest))) ≤ n
      → case_at inner below (t.Key k.When u ∷ write_when d (t.Key k.Then w ∷ write_value a (write_branches bs rest))) ≡ Some (v.Call f.Case (when_tree d ∷ value_tree a ∷ branches_trees bs), rest)
  unfolding case_at
  case_when_complete u d w a bs rest h =
      rw (branches_complete (branches u d w a bs) (length (write_branches (branches u d w a bs) rest)) [] rest (omega arith) h)

  pub case_of_complete : (x : Value°) (u : Text) (b : Value°) (w : Text) (a : Value°) (bs : Matches°) (rest : List Token)
      → length (write_value x (t.Key k.When u ∷ write_value b (t.Key k.Then w ∷ write_value a (write_matches bs rest)))) ≤ n
      → case_at inner below (write_value x (t.Key k.When u ∷ write_value b (t.Key k.Then w ∷ write_value a (write_matches bs rest)))) ≡ Some (v.Call f.Match (value_tree x ∷ value_tree b ∷ value_tree a ∷ matches_trees bs), rest)
  unfolding case_at match_at
  case_of_complete x u b w a bs rest h =
      let more = write_matches (matches u b w a bs) rest in
      rw (value_no_word k.When refl x more, nested x more h ends_key)
      (rw (matches_complete (matches u b w a bs) (length more) (value_tree x ∷ []) rest (omega arith) (omega (arith, (value_skip x more).long))))
