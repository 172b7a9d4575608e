-- What is read as a test of a value or of TYPE is written by the grammar, with its tree.
use Rattle.std.proofs.Common.{◌≡◌, Bool, true, false, List, [], ◌∷◌, drop, subst, Option, Some, None, option_map, refl, sym, ◌∙◌}
use Rattle.jpql_grammar.specs.declared.grammar.token.Keyword.TheVariants as k
use Rattle.jpql_grammar.specs.declared.grammar.token.Mark.TheVariants as m
use Rattle.jpql_grammar.specs.declared.grammar.token.Token.{Token}
use Rattle.jpql_grammar.specs.declared.grammar.token.Token.TheVariants as t
use Rattle.jpql_trees.specs.declared.tree.Arithmetic.{Arithmetic}
use Rattle.jpql_trees.specs.declared.tree.Path.{Path}
use Rattle.jpql_trees.specs.declared.tree.Value.{Value}
use Rattle.jpql_trees.specs.declared.tree.Value.TheVariants as v
use Rattle.jpql_trees.specs.declared.tree.Condition.{Condition}
use Rattle.jpql_trees.specs.declared.tree.Condition.TheVariants as is
use Rattle.jpql_trees.specs.tree.Names.{Text}
use Rattle.jpql_grammar.specs.grammar.Parts.{Name, name_token, name_text, Steps, write_path, path_tree}
use Rattle.jpql_grammar.specs.grammar.Tests.{Written, write_word, is_written, negated_if}
use Rattle.jpql_grammar.specs.grammar.ValueGrammar.{Value°, sum, Sums°, no_sums, plus, minus, product, Times°, no_times, times, unsigned, positive, negative, integer, text, parameter, path, call, group, write_value, write_times, write_sums, value_tree, times_tree, sums_tree}
use Rattle.jpql_grammar.specs.grammar.Grammar.{bare_steps, negated, write_others, empty, member, type_is, type_is_not, type_among, write_test, test_tree}
use Rattle.jpql_grammar.specs.grammar.Values.{sees, after, is_word, after_word, optional_word, name_at, variable_at, path_at, list_at, closed}
use Rattle.jpql_grammar.specs.grammar.Conditions.{begins_variable, bare_path, empty_at, member_at, path_tested_at, entities_at, type_is_at, entity_at, typed_at}
use Rattle.jpql_grammar.proofs.grammar.Skips.{opened, close}
use Rattle.jpql_grammar.proofs.grammar.Tools.{step, choice, same, sees_is, after_is, word_is, after_word_is, optional_word_is, name_sound, variable_sound}
use Rattle.jpql_grammar.proofs.grammar.Calls.{of_call}
use Rattle.jpql_grammar.proofs.grammar.PartsSound.{Wrote, path_sound, list_sound, closed_sound, write_list, list_trees, write_closed, leaf}
use Rattle.jpql_grammar.proofs.grammar.TestedSound.{not_before}

-- ---- tests of paths

-- the words of a NOT, as it is written or not
pub negated_is : (n : Written) (b : Bool) (x : Condition) → is_written n ≡ b → negated n x ≡ negated_if b x
negated_is None true x e = absurd cc
negated_is None false x e = refl
negated_is (Some w) true x e = refl
negated_is (Some w) false x e = absurd cc

-- a value that is written as a path is one
arithmetic_sums : (ps : Sums°) (op : Arithmetic) (a b : Value) → bare_path true (sums_tree (v.Arithmetic op a b) ps) ≡ None
arithmetic_sums no_sums op a b = refl
arithmetic_sums (plus p ps) op a b = arithmetic_sums ps _ _ _
arithmetic_sums (minus p ps) op a b = arithmetic_sums ps _ _ _

arithmetic_times : (us : Times°) (op : Arithmetic) (a b : Value) → bare_path true (times_tree (v.Arithmetic op a b) us) ≡ None
arithmetic_times no_times op a b = refl
arithmetic_times (times u us) op a b = arithmetic_times us _ _ _

-- the path that all of a value is, by its tokens and its tree, is the one that the grammar has
not_path : (b : Bool) (a : Value) → b ≡ false → bare_path b a ≡ None
not_path true a e = cc
not_path false a e = refl

pub bare_is : (d : Value°) (rest : List Token) → bare_path (begins_variable (write_value d rest)) (value_tree d) ≡ option_map path_tree (bare_steps d)
bare_is (sum (product (unsigned (path q)) no_times) no_sums) rest = refl
bare_is (sum (product (unsigned (path q)) no_times) (plus a ps)) rest = arithmetic_sums ps _ _ _
bare_is (sum (product (unsigned (path q)) no_times) (minus a ps)) rest = arithmetic_sums ps _ _ _
bare_is (sum (product (unsigned (path q)) (times u us)) no_sums) rest = arithmetic_times us _ _ _
bare_is (sum (product (unsigned (path q)) (times u us)) (plus a ps)) rest = arithmetic_sums ps _ _ _
bare_is (sum (product (unsigned (path q)) (times u us)) (minus a ps)) rest = arithmetic_sums ps _ _ _
bare_is (sum (product (unsigned (integer i)) us) ps) rest = refl
bare_is (sum (product (unsigned (text w)) us) ps) rest = refl
bare_is (sum (product (unsigned (parameter w)) us) ps) rest = refl
bare_is (sum (product (unsigned (call x)) us) ps) rest = not_path _ _ (of_call begins_variable false (λ j w ts b. refl) x (write_times us (write_sums ps rest)))
bare_is (sum (product (unsigned (group a)) us) ps) rest = refl
bare_is (sum (product (positive a) us) ps) rest = refl
bare_is (sum (product (negative a) us) ps) rest = refl

bare_written : (d : Value°) (p : Path) → option_map path_tree (bare_steps d) ≡ Some p
    → (q : Steps) × ((rest : List Token) → write_path q rest ≡ write_value d rest) × (path_tree q ≡ p)
bare_written (sum (product (unsigned (path q)) no_times) no_sums) p h = (q, λ rest. refl, same _ _ h)
bare_written (sum (product (unsigned (path q)) no_times) (plus a ps)) p h = absurd cc
bare_written (sum (product (unsigned (path q)) no_times) (minus a ps)) p h = absurd cc
bare_written (sum (product (unsigned (path q)) (times u us)) no_sums) p h = absurd cc
bare_written (sum (product (unsigned (path q)) (times u us)) (plus a ps)) p h = absurd cc
bare_written (sum (product (unsigned (path q)) (times u us)) (minus a ps)) p h = absurd cc
bare_written (sum (product (unsigned (integer i)) us) ps) p h = absurd cc
bare_written (sum (product (unsigned (text w)) us) ps) p h = absurd cc
bare_written (sum (product (unsigned (parameter w)) us) ps) p h = absurd cc
bare_written (sum (product (unsigned (call x)) us) ps) p h = absurd cc
bare_written (sum (product (unsigned (group a)) us) ps) p h = absurd cc
bare_written (sum (product (positive a) us) ps) p h = absurd cc
bare_written (sum (product (negative a) us) ps) p h = absurd cc

bare_sound : (d : Value°) (rest : List Token) (p : Path) → bare_path (begins_variable (write_value d rest)) (value_tree d) ≡ Some p
    → (q : Steps) × ((rest : List Token) → write_path q rest ≡ write_value d rest) × (path_tree q ≡ p)
bare_sound d rest p h = bare_written d p (sym (bare_is d rest) ∙ h)

empty_glued : (d : Value°) (w u : Text) (ts mid : List Token) (b : Bool) (p : Path) (x : Condition × List Token)
    → (n : Written) × (write_word k.Not n (t.Key k.Empty u ∷ mid) ≡ ts) × (is_written n ≡ b)
    → (q : Steps) × ((rest : List Token) → write_path q rest ≡ write_value d rest) × (path_tree q ≡ p)
    → Some (negated_if b (is.IsEmpty p), mid) ≡ Some x → Wrote write_test test_tree (write_value d (t.Key k.Is w ∷ ts)) x
empty_glued d w u ts mid b p x (n, en, tn) (q, eq, tq) h =
    leaf write_test test_tree (empty q w n u) (negated_if b (is.IsEmpty p)) mid (write_value d (t.Key k.Is w ∷ ts)) x h (rw en (eq (t.Key k.Is w ∷ ts))) (rw tq (negated_is n b _ tn))

empty_sound : (d : Value°) (w : Text) (ts : List Token) (x : Condition × List Token)
    → empty_at (value_tree d) (begins_variable (write_value d (t.Key k.Is w ∷ ts))) ts ≡ Some x → Wrote write_test test_tree (write_value d (t.Key k.Is w ∷ ts)) x
unfolding empty_at
empty_sound d w ts x h = let neg = optional_word k.Not ts in
    step (after_word k.Empty neg.1) _ _ h (λ rest er hr. step (bare_path (begins_variable (write_value d (t.Key k.Is w ∷ ts))) (value_tree d)) _ _ hr (λ p ep hp.
    let (u, eu) = after_word_is k.Empty neg.1 rest er in
    empty_glued d w u ts rest neg.0 p x (not_before ts neg.1 (t.Key k.Empty u ∷ rest) neg.0 (optional_word_is k.Not ts) eu) (bare_sound d (t.Key k.Is w ∷ ts) p ep) hp))

member_glued : (d : Value°) (ts mid more rest : List Token) (b c : Bool) (p : Path × List Token) (x : Condition × List Token)
    → (n : Written) × (write_word k.Not n mid ≡ ts) × (is_written n ≡ b) → (w : Text) × (t.Key k.Member w ∷ more ≡ mid)
    → (of : Written) × (write_word k.Of of rest ≡ more) × (is_written of ≡ c) → Wrote write_path path_tree rest p
    → Some (negated_if b (is.Member (value_tree d) p.0), p.1) ≡ Some x → Wrote write_test test_tree (write_value d ts) x
member_glued d ts mid more rest b c p x (n, en, tn) (w, ew) (of, eo, to) (q, eq, tq) h =
    leaf write_test test_tree (member d n w of q) (negated_if b (is.Member (value_tree d) p.0)) p.1 (write_value d ts) x h (rw (eq, eo, ew, en)) (rw tq (negated_is n b _ tn))

member_sound : (d : Value°) (ts : List Token) (x : Condition × List Token) → member_at (value_tree d) ts ≡ Some x → Wrote write_test test_tree (write_value d ts) x
unfolding member_at
member_sound d ts x h = let neg = optional_word k.Not ts in
    step (after_word k.Member neg.1) _ _ h (λ more em hm. let of = optional_word k.Of more in step (path_at of.1) _ _ hm (λ p ep hp.
    member_glued d ts neg.1 more of.1 neg.0 of.0 p x (optional_word_is k.Not ts) (after_word_is k.Member neg.1 more em) (optional_word_is k.Of more) (path_sound of.1 p ep) hp))

pub path_tested_sound : (d : Value°) (ts : List Token) (x : Condition × List Token) → path_tested_at (value_tree d) (begins_variable (write_value d ts)) ts ≡ Some x
    → Wrote write_test test_tree (write_value d ts) x
unfolding path_tested_at
path_tested_sound d ts x h = choice (is_word k.Is ts) _ _ _ h
    (λ b h1. let (w, ew) = word_is k.Is ts b in
    subst (λ us. Wrote write_test test_tree (write_value d us) x) ew (empty_sound d w (drop 1 ts) x (rw ew h1)))
    (λ b h1. member_sound d ts x h1)

-- ---- TYPE

abbrev pub write_name : Name → List Token → List Token
write_name e rest = name_token e ∷ rest

entities_glued : (w x : Text) (ts mid more rest : List Token) (b : Bool) (all : List Text × List Token) (y : Condition × List Token)
    → (n : Written) × (write_word k.Not n mid ≡ ts) × (is_written n ≡ b) → (u : Text) × (t.Key k.In u ∷ more ≡ mid) → t.Mark m.Open ∷ rest ≡ more
    → Wrote (write_closed (write_list write_name)) (list_trees name_text) rest all
    → Some (negated_if b (is.Type x all.0), all.1) ≡ Some y → Wrote write_test test_tree (t.Key k.Type w ∷ opened (t.Word x ∷ close ts)) y
entities_glued w x ts mid more rest b all y (n, en, tn) (u, eu) eo ((e, es), ee, te) h =
    leaf write_test test_tree (type_among w x n u e es) (negated_if b (is.Type x all.0)) all.1 _ y h (rw (ee, eo, eu, en)) (rw te (negated_is n b _ tn))

entities_sound : (w x : Text) (ts : List Token) (y : Condition × List Token) → entities_at x ts ≡ Some y → Wrote write_test test_tree (t.Key k.Type w ∷ opened (t.Word x ∷ close ts)) y
unfolding entities_at
entities_sound w x ts y h = let neg = optional_word k.Not ts in
    step (after_word k.In neg.1) _ _ h (λ more em hm. step (after m.Open more) _ _ hm (λ rest er hr. step (closed (list_at name_at rest)) _ _ hr (λ all ea ha.
    entities_glued w x ts neg.1 more rest neg.0 all y (optional_word_is k.Not ts) (after_word_is k.In neg.1 more em) (after_is m.Open more rest er)
    (closed_sound (write_list write_name) (list_trees name_text) rest (list_at name_at rest) (list_sound name_at write_name name_text name_sound rest) all ea) ha)))

type_is_glued : (w x : Text) (ts : List Token) (e : Text × List Token) (y : Condition × List Token) → (n : Name) × (name_token n ∷ e.1 ≡ ts) × (name_text n ≡ e.0)
    → Some (is.Type x (e.0 ∷ []), e.1) ≡ Some y → Wrote write_test test_tree (t.Key k.Type w ∷ opened (t.Word x ∷ close (t.Mark m.Equal ∷ ts))) y
type_is_glued w x ts e y (n, en, tn) h = leaf write_test test_tree (type_is w x n) (is.Type x (e.0 ∷ [])) e.1 _ y h (rw en) (rw tn)

type_is_not_glued : (w x : Text) (ts : List Token) (e : Text × List Token) (y : Condition × List Token) → (n : Name) × (name_token n ∷ e.1 ≡ ts) × (name_text n ≡ e.0)
    → Some (is.Not (is.Type x (e.0 ∷ [])), e.1) ≡ Some y → Wrote write_test test_tree (t.Key k.Type w ∷ opened (t.Word x ∷ close (t.Mark m.Different ∷ ts))) y
type_is_not_glued w x ts e y (n, en, tn) h = leaf write_test test_tree (type_is_not w x n) (is.Not (is.Type x (e.0 ∷ []))) e.1 _ y h (rw en) (rw tn)

-- the tokens of the test, of which those before these are read
abbrev Typed : Text → Text → List Token → Condition × List Token → Type 0
Typed w x ts y = Wrote write_test test_tree (t.Key k.Type w ∷ opened (t.Word x ∷ close ts)) y

entity_sound : (w x : Text) (ts : List Token) (y : Condition × List Token) → entity_at x ts ≡ Some y → Typed w x ts y
unfolding entity_at type_is_at
entity_sound w x ts y h = choice (sees m.Equal ts) _ _ _ h
    (λ b h1. step (name_at (drop 1 ts)) _ _ h1 (λ e ee he. subst (λ us. Typed w x us y) (sees_is m.Equal ts b) (type_is_glued w x (drop 1 ts) e y (name_sound (drop 1 ts) e ee) he)))
    (λ b h1. choice (sees m.Different ts) _ _ _ h1
    (λ b h2. step (name_at (drop 1 ts)) _ _ h2 (λ e ee he. subst (λ us. Typed w x us y) (sees_is m.Different ts b) (type_is_not_glued w x (drop 1 ts) e y (name_sound (drop 1 ts) e ee) he)))
    (λ b h2. entities_sound w x ts y h2))

typed_glued : (w : Text) (ts more rest : List Token) (x : Text × List Token) (y : Condition × List Token)
    → t.Mark m.Open ∷ more ≡ ts → t.Word x.0 ∷ x.1 ≡ more → t.Mark m.Close ∷ rest ≡ x.1 → Typed w x.0 rest y → Wrote write_test test_tree (t.Key k.Type w ∷ ts) y
typed_glued w ts more rest x y eo ex ec (d, ed, td) = (d, rw ed (rw (ec, ex, eo)), td)

pub typed_sound : (w : Text) (ts : List Token) (y : Condition × List Token) → typed_at ts ≡ Some y → Wrote write_test test_tree (t.Key k.Type w ∷ ts) y
unfolding typed_at
typed_sound w ts y h = step (after m.Open ts) _ _ h (λ more em hm. step (variable_at more) _ _ hm (λ x ex hx. step (after m.Close x.1) _ _ hx (λ rest er hr.
    typed_glued w ts more rest x y (after_is m.Open ts more em) (variable_sound more x ex) (after_is m.Close x.1 rest er) (entity_sound w x.0 rest y hr))))
