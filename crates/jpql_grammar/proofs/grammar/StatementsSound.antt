-- What is read as a statement is written by the grammar, with its tree.
use Rattle.std.proofs.Common.{◌≡◌, ℕ, Bool, true, false, List, [], ◌∷◌, ◌++◌, drop, length, subst, Option, Some, None, refl, ap, sym, ◌∙◌}
use Rattle.jpql_grammar.specs.declared.grammar.token.Keyword.{Keyword}
use Rattle.jpql_grammar.specs.declared.grammar.token.Keyword.TheVariants as k
use Rattle.jpql_grammar.specs.declared.grammar.token.Mark.TheVariants as m
use Rattle.jpql_grammar.specs.declared.grammar.token.Token.{Token}
use Rattle.jpql_grammar.specs.declared.grammar.token.Token.TheVariants as t
use Rattle.jpql_trees.specs.declared.tree.Path.{Path}
use Rattle.jpql_trees.specs.declared.tree.Value.{Value}
use Rattle.jpql_trees.specs.declared.tree.Item.{Item}
use Rattle.jpql_trees.specs.declared.tree.Origin.{Origin}
use Rattle.jpql_trees.specs.declared.tree.Origin.TheVariants as from
use Rattle.jpql_trees.specs.declared.tree.Condition.{Condition}
use Rattle.jpql_trees.specs.declared.tree.Source.{Source, roll-Source}
use Rattle.jpql_trees.specs.declared.tree.Join.{Join}
use Rattle.jpql_trees.specs.declared.tree.SortKey.{SortKey}
use Rattle.jpql_trees.specs.declared.tree.Assignment.{Assignment}
use Rattle.jpql_trees.specs.declared.tree.Query.{Query}
use Rattle.jpql_trees.specs.declared.tree.Query.TheVariants as q
use Rattle.jpql_trees.specs.tree.Names.{Text}
use Rattle.jpql_grammar.specs.grammar.Parts.{Name, name_token, name_text, write_path, path_tree, sorted_by}
use Rattle.jpql_grammar.specs.grammar.Tests.{Written, write_word, is_written}
use Rattle.jpql_grammar.specs.grammar.ValueGrammar.{Value°, write_value, value_tree}
use Rattle.jpql_grammar.specs.grammar.Grammar.{write_named, write_optional_name, optional_name, write_item, item_tree, write_joins, joins_trees, Direction, unwritten, ascending, descending, write_direction, is_descending, Key°, write_key, key_tree, no_clause, clause, write_clause, clause_trees, Having°, no_having, having, write_having, having_tree, to_value, to_null, write_set, set_tree, from_entity, write_from, from_tree, select, update, delete, IsStatement}
use Rattle.jpql_grammar.specs.grammar.Values.{Read, after, is_word, after_word, optional_word, name_at, path_at, list_at, value_at}
use Rattle.jpql_grammar.specs.grammar.Conditions.{begins_variable, bare_path, named_at, optional_name_at, item_at, related_at, origin_at, clause_at, joins_at, source_at, cond_at}
use Rattle.jpql_grammar.specs.grammar.Statements.{direction_at, key_at, by_at, select_at, new_value_at, assignment_at, update_at, delete_at, statement_at, where_ended, whole_at}
use Rattle.jpql_grammar.proofs.grammar.Tools.{step, choice, same, after_is, word_is, after_word_is, optional_word_is, name_sound}
use Rattle.jpql_grammar.proofs.grammar.TestsSound.{bare_is}
use Rattle.jpql_grammar.proofs.grammar.PartsSound.{Wrote, path_sound, list_sound, write_list, list_trees, nothing, leaf}
use Rattle.jpql_grammar.proofs.grammar.ValuesSound.{value_sound}
use Rattle.jpql_grammar.proofs.grammar.CondSound.{named_sound, optional_name_sound, item_sound, of_name, write_related, related_tree, related_sound, Clause°, write_clause°, clause_tree, where_of, where_of_is, clause_sound, joins_sound, cond_sound}

-- ---- ORDER BY, GROUP BY, HAVING

direction_sound : (ts : List Token) → (w : Direction) × (write_direction w (direction_at ts).1 ≡ ts) × (is_descending w ≡ (direction_at ts).0)
direction_sound ts = by_test (is_word k.Asc ts) refl (is_word k.Desc ts) refl
  where
    by_test : (a : Bool) → is_word k.Asc ts ≡ a → (d : Bool) → is_word k.Desc ts ≡ d
        → (w : Direction) × (write_direction w (direction_at ts).1 ≡ ts) × (is_descending w ≡ (direction_at ts).0)
    by_test true e d f = let (w, ew) = word_is k.Asc ts e in (ascending w, rw e ew, rw e)
    by_test false e true f = let (w, ew) = word_is k.Desc ts f in (descending w, rw (e, f) ew, rw (e, f))
    by_test false e false f = (unwritten, rw (e, f), rw (e, f))

key_glued : (ts : List Token) (a : Value × List Token) (d : Bool × List Token) (y : SortKey × List Token) → Wrote write_value value_tree ts a
    → (w : Direction) × (write_direction w d.1 ≡ a.1) × (is_descending w ≡ d.0)
    → Some (record { by = sorted_by (bare_path (begins_variable ts) a.0) a.0; is_descending = d.0 }, d.1) ≡ Some y → Wrote write_key key_tree ts y
key_glued ts a d y (e, ee, te) (w, ew, tw) h =
    leaf write_key key_tree (Key°.key e w) (record { by = sorted_by (bare_path (begins_variable ts) a.0) a.0; is_descending = d.0 }) d.1 ts y h (rw ew ee)
    (rw (← te, ← ee, tw) (ap (λ p. record { by = sorted_by p (value_tree e); is_descending = d.0 }) (sym (bare_is e a.1))))

key_sound : (n : ℕ) (ts : List Token) (y : SortKey × List Token) → key_at n ts ≡ Some y → Wrote write_key key_tree ts y
unfolding key_at
key_sound n ts y h = step (value_at n ts) _ _ h (λ a ea ha. key_glued ts a (direction_at a.1) y (value_sound n ts a ea) (direction_sound a.1) ha)

by_glued : {A D : Type 0} (word : Keyword) (write : D → List Token → List Token) (tree : D → A) (ts more : List Token) (x : List A × List Token)
    → (w : Text) × (t.Key word w ∷ drop 1 ts ≡ ts) → (u : Text) × (t.Key k.By u ∷ more ≡ drop 1 ts) → Wrote (write_list write) (list_trees tree) more x
    → Wrote (write_clause word write) (clause_trees tree) ts x
by_glued word write tree ts more x (w, ew) (u, eu) ((d, ds), ed, td) = (clause w u d ds, rw (ed, eu) ew, td)

by_sound : {A D : Type 0} (word : Keyword) (one : Read A) (write : D → List Token → List Token) (tree : D → A)
    → ((ts : List Token) (x : A × List Token) → one ts ≡ Some x → Wrote write tree ts x)
    → (ts : List Token) (x : List A × List Token) → by_at word one ts ≡ Some x → Wrote (write_clause word write) (clause_trees tree) ts x
unfolding by_at
by_sound word one write tree sound ts x h = choice (is_word word ts) _ _ _ h
    (λ b h1. step (after_word k.By (drop 1 ts)) _ _ h1 (λ more em hm.
    by_glued word write tree ts more x (word_is word ts b) (after_word_is k.By (drop 1 ts) more em) (list_sound one write tree sound more x hm)))
    (λ b h1. nothing (write_clause word write) (clause_trees tree) no_clause [] ts x h1 refl refl)

having_of : Clause° → Having°
having_of None = no_having
having_of (Some c) = having c.0 c.1

having_of_is : (c : Clause°) (rest : List Token) → (write_having (having_of c) rest ≡ write_clause° k.Having c rest) × (having_tree (having_of c) ≡ clause_tree c)
unfolding having_of
having_of_is None rest = (refl, refl)
having_of_is (Some c) rest = (refl, refl)

-- ---- FROM

entity_sound : (ts : List Token) (x : Origin × List Token) → origin_at false ts ≡ Some x → (e : Name) × (name_token e ∷ x.1 ≡ ts) × (from.Entity (name_text e) ≡ x.0)
unfolding origin_at
entity_sound ts x h = step (name_at ts) _ _ h (λ e ee he. entity_glued e (name_sound ts e ee) (same _ _ he))
  where
    entity_glued : (e : Text × List Token) → (n : Name) × (name_token n ∷ e.1 ≡ ts) × (name_text n ≡ e.0) → (from.Entity e.0, e.1) ≡ x
        → (n : Name) × (name_token n ∷ x.1 ≡ ts) × (from.Entity (name_text n) ≡ x.0)
    entity_glued e (n, en, tn) h = (n, subst (λ (p : Origin × List Token). name_token n ∷ p.1 ≡ ts) h en, rw tn (ap (λ (p : Origin × List Token). p.0) h))

from_glued : (ts : List Token) (o : Origin × List Token) (w : Text × List Token) (js : List Join × List Token) (x : Source × List Token)
    → (e : Name) × (name_token e ∷ o.1 ≡ ts) × (from.Entity (name_text e) ≡ o.0) → Wrote write_named (λ n. n.name) o.1 w → Wrote write_joins (λ js. [] ++ joins_trees js) w.1 js
    → Some (roll-Source (record { origin = o.0; variable = w.0; joins = js.0 }), js.1) ≡ Some x → Wrote write_from from_tree ts x
from_glued ts o w js x (e, eo, to) (n, en, tn) (d, ed, td) h =
    leaf write_from from_tree (from_entity e n d) _ js.1 ts x h (rw (ed, en, eo)) (rw (to, tn, td))

from_sound : (n : ℕ) (ts : List Token) (x : Source × List Token) → source_at (cond_at n) false ts ≡ Some x → Wrote write_from from_tree ts x
unfolding source_at
from_sound n ts x h = step (origin_at false ts) _ _ h (λ o eo ho. step (named_at o.1) _ _ ho (λ w ew hw. step (joins_at (cond_at n) (length w.1) [] w.1) _ _ hw (λ js ej hj.
    from_glued ts o w js x (entity_sound ts o eo) (named_sound o.1 w ew) (joins_sound (cond_at n) (cond_sound n) (length w.1) [] w.1 js ej) hj)))

-- ---- statements

-- nothing stands after the last part
ended : {A D : Type 0} (write : D → List Token → List Token) (d : D) (a : A) (rest ts : List Token) (x : A × List Token)
    → Some (a, rest) ≡ Some x → x.1 ≡ [] → write d rest ≡ ts → (write d [] ≡ ts) × (a ≡ x.0)
ended write d a rest ts x h e w = let same_pair = same _ _ h in
    (subst (λ r. write d r ≡ ts) (ap (λ (p : _ × List Token). p.1) same_pair ∙ e) w, ap (λ (p : _ × List Token). p.0) same_pair)

select_glued : (w : Text) (ts mid more : List Token) (d : Bool) (is : List Item × List Token) (xs : List Source × List Token) (f : Option Condition × List Token)
    (gs : List Path × List Token) (h : Option Condition × List Token) (ks : List SortKey × List Token) (x : Query × List Token)
    → (a : Written) × (write_word k.Distinct a mid ≡ ts) × (is_written a ≡ d) → Wrote (write_list write_item) (list_trees item_tree) mid is → (u : Text) × (t.Key k.From u ∷ more ≡ is.1)
    → Wrote (write_list write_from) (list_trees from_tree) more xs → Wrote (write_clause° k.Where) clause_tree xs.1 f
    → Wrote (write_clause k.Group write_path) (clause_trees path_tree) f.1 gs → Wrote (write_clause° k.Having) clause_tree gs.1 h → Wrote (write_clause k.Order write_key) (clause_trees key_tree) h.1 ks
    → Some (q.Select (record { is_distinct = d; items = is.0; sources = xs.0; filter = f.0; groups = gs.0; having = h.0; order = ks.0 }), ks.1) ≡ Some x → x.1 ≡ []
    → IsStatement (t.Key k.Select w ∷ ts) x.0
select_glued w ts mid more d is xs f gs h ks x (a, ea, ta) ((i, ii), ei, ti) (u, eu) ((y, ys), ey, ty) (c, ec, tc) (g, eg, tg) (v, ev, tv) (o, eo, to) s e =
    let end = ended (write_clause k.Order write_key) o _ ks.1 h.1 x s e eo in
    let wh = where_of_is c f.1 in
    let hv = having_of_is v h.1 in (
      select w a i ii u y ys (where_of c) g (having_of v) o,
      rw (end.0, hv.0, ev, eg, wh.0, ec, ey, eu, ei, ea),
      rw (hv.1, wh.1) (rw (ta, ti, ty, tc, tg, tv, to) (end.1)),
    )

select_sound : (n : ℕ) (w : Text) (ts : List Token) (x : Query × List Token) → select_at n ts ≡ Some x → x.1 ≡ [] → IsStatement (t.Key k.Select w ∷ ts) x.0
unfolding select_at
select_sound n w ts x hx e = let d = optional_word k.Distinct ts in
    step (list_at (item_at n) d.1) _ _ hx (λ is ei hi. step (after_word k.From is.1) _ _ hi (λ more em hm. step (list_at (source_at (cond_at n) false) more) _ _ hm (λ xs es hs.
    step (clause_at (cond_at n) k.Where xs.1) _ _ hs (λ f ef hf. step (by_at k.Group path_at f.1) _ _ hf (λ gs eg hg. step (clause_at (cond_at n) k.Having gs.1) _ _ hg (λ h eh hh.
    step (by_at k.Order (key_at n) h.1) _ _ hh (λ ks ek hk.
    select_glued w ts d.1 more d.0 is xs f gs h ks x (optional_word_is k.Distinct ts) (list_sound (item_at n) write_item item_tree (item_sound n) d.1 is ei) (after_word_is k.From is.1 more em)
    (list_sound (source_at (cond_at n) false) write_from from_tree (from_sound n) more xs es) (clause_sound (cond_at n) (cond_sound n) k.Where xs.1 f ef)
    (by_sound k.Group path_at write_path path_tree path_sound f.1 gs eg) (clause_sound (cond_at n) (cond_sound n) k.Having gs.1 h eh) (by_sound k.Order (key_at n) write_key key_tree (key_sound n) h.1 ks ek) hk e)))))))

-- a value, or NULL
data New° : Type 0 where
  new_null : Text → New°
  new_value : Value° → New°

abbrev write_new : New° → List Token → List Token
write_new (new_null w) rest = t.Key k.Null w ∷ rest
write_new (new_value d) rest = write_value d rest

abbrev new_tree : New° → Option Value
new_tree (new_null w) = None
new_tree (new_value d) = Some (value_tree d)

new_glued : (ts : List Token) (a : Value × List Token) (x : Option Value × List Token) → Wrote write_value value_tree ts a → Some (Some a.0, a.1) ≡ Some x → Wrote write_new new_tree ts x
new_glued ts a x (d, ed, td) h = leaf write_new new_tree (new_value d) (Some a.0) a.1 ts x h ed (rw td)

new_sound : (n : ℕ) (ts : List Token) (x : Option Value × List Token) → new_value_at n ts ≡ Some x → Wrote write_new new_tree ts x
unfolding new_value_at
new_sound n ts x h = choice (is_word k.Null ts) _ _ _ h
    (λ b h1. let (w, ew) = word_is k.Null ts b in leaf write_new new_tree (new_null w) None (drop 1 ts) ts x h1 ew refl)
    (λ b h1. step (value_at n ts) _ _ h1 (λ a ea ha. new_glued ts a x (value_sound n ts a ea) ha))

set_glued : (ts more : List Token) (r : (Text × Text) × List Token) (a : Option Value × List Token) (x : Assignment × List Token)
    → Wrote write_related related_tree ts r → t.Mark m.Equal ∷ more ≡ r.1 → Wrote write_new new_tree more a
    → Some (record { variable = r.0.0; name = r.0.1; value = a.0 }, a.1) ≡ Some x → Wrote write_set set_tree ts x
set_glued ts more r a x (of_name y n, en, tn) em (new_null w, ea, ta) h = leaf write_set set_tree (to_null y n w) _ a.1 ts x h (rw (ea, em, en)) (rw (← tn, ta))
set_glued ts more r a x (of_name y n, en, tn) em (new_value d, ea, ta) h = leaf write_set set_tree (to_value y n d) _ a.1 ts x h (rw (ea, em, en)) (rw (← tn, ta))

set_sound : (n : ℕ) (ts : List Token) (x : Assignment × List Token) → assignment_at n ts ≡ Some x → Wrote write_set set_tree ts x
unfolding assignment_at
set_sound n ts x h = step (related_at ts) _ _ h (λ r er hr. step (after m.Equal r.1) _ _ hr (λ more em hm. step (new_value_at n more) _ _ hm (λ a ea ha.
    set_glued ts more r a x (related_sound ts r er) (after_is m.Equal r.1 more em) (new_sound n more a ea) ha)))

update_glued : (w : Text) (ts more : List Token) (e a : Text × List Token) (all : List Assignment × List Token) (f : Option Condition × List Token) (x : Query × List Token)
    → (n : Name) × (name_token n ∷ e.1 ≡ ts) × (name_text n ≡ e.0) → Wrote write_named (λ n. n.name) e.1 a → (u : Text) × (t.Key k.Set u ∷ more ≡ a.1)
    → Wrote (write_list write_set) (list_trees set_tree) more all → Wrote (write_clause° k.Where) clause_tree all.1 f
    → Some (q.Update e.0 a.0 all.0 f.0, f.1) ≡ Some x → x.1 ≡ [] → IsStatement (t.Key k.Update w ∷ ts) x.0
update_glued w ts more e a all f x (n, en, tn) (y, ey, ty) (u, eu) ((s, ss), es, ts') (c, ec, tc) h z =
    let end = ended (write_clause° k.Where) c _ f.1 all.1 x h z ec in
    let wh = where_of_is c [] in
    (update w n y u s ss (where_of c), rw (wh.0, end.0, es, eu, ey, en), rw (wh.1) (rw (tn, ty, ts', tc) (end.1)))

update_sound : (n : ℕ) (w : Text) (ts : List Token) (x : Query × List Token) → update_at n ts ≡ Some x → x.1 ≡ [] → IsStatement (t.Key k.Update w ∷ ts) x.0
unfolding update_at
update_sound n w ts x h z = step (name_at ts) _ _ h (λ e ee he. step (named_at e.1) _ _ he (λ a ea ha. step (after_word k.Set a.1) _ _ ha (λ more em hm.
    step (list_at (assignment_at n) more) _ _ hm (λ all el hl. step (clause_at (cond_at n) k.Where all.1) _ _ hl (λ f ef hf.
    update_glued w ts more e a all f x (name_sound ts e ee) (named_sound e.1 a ea) (after_word_is k.Set a.1 more em)
    (list_sound (assignment_at n) write_set set_tree (set_sound n) more all el) (clause_sound (cond_at n) (cond_sound n) k.Where all.1 f ef) hf z)))))

delete_glued : (w : Text) (ts more : List Token) (e : Text × List Token) (a : Option Text × List Token) (f : Option Condition × List Token) (x : Query × List Token)
    → (u : Text) × (t.Key k.From u ∷ more ≡ ts) → (n : Name) × (name_token n ∷ e.1 ≡ more) × (name_text n ≡ e.0) → Wrote write_optional_name optional_name e.1 a
    → Wrote (write_clause° k.Where) clause_tree a.1 f → Some (q.Delete e.0 a.0 f.0, f.1) ≡ Some x → x.1 ≡ [] → IsStatement (t.Key k.Delete w ∷ ts) x.0
delete_glued w ts more e a f x (u, eu) (n, en, tn) (y, ey, ty) (c, ec, tc) h z =
    let end = ended (write_clause° k.Where) c _ f.1 a.1 x h z ec in
    let wh = where_of_is c [] in
    (delete w u n y (where_of c), rw (wh.0, end.0, ey, en, eu), rw (wh.1) (rw (tn, ty, tc) (end.1)))

delete_sound : (n : ℕ) (w : Text) (ts : List Token) (x : Query × List Token) → delete_at n ts ≡ Some x → x.1 ≡ [] → IsStatement (t.Key k.Delete w ∷ ts) x.0
unfolding delete_at
delete_sound n w ts x h z = step (after_word k.From ts) _ _ h (λ more em hm. step (name_at more) _ _ hm (λ e ee he. step (optional_name_at e.1) _ _ he (λ a ea ha.
    step (clause_at (cond_at n) k.Where a.1) _ _ ha (λ f ef hf.
    delete_glued w ts more e a f x (after_word_is k.From ts more em) (name_sound more e ee) (optional_name_sound e.1 a ea) (clause_sound (cond_at n) (cond_sound n) k.Where a.1 f ef) hf z))))

statement_sound : (n : ℕ) (ts : List Token) (x : Query × List Token) → statement_at n ts ≡ Some x → x.1 ≡ [] → IsStatement ts x.0
unfolding statement_at
statement_sound n ts x h z = choice (is_word k.Select ts) _ _ _ h
    (λ b h1. let (w, ew) = word_is k.Select ts b in subst (λ us. IsStatement us x.0) ew (select_sound n w (drop 1 ts) x h1 z))
    (λ b h1. choice (is_word k.Update ts) _ _ _ h1
    (λ b h2. let (w, ew) = word_is k.Update ts b in subst (λ us. IsStatement us x.0) ew (update_sound n w (drop 1 ts) x h2 z))
    (λ b h2. choice (is_word k.Delete ts) _ _ _ h2
    (λ b h3. let (w, ew) = word_is k.Delete ts b in subst (λ us. IsStatement us x.0) ew (delete_sound n w (drop 1 ts) x h3 z))
    (λ b h3. absurd cc)))

all_read : (q : Query) (rest : List Token) (x : Query) → where_ended q rest ≡ Some x → (rest ≡ []) × (q ≡ x)
all_read q [] x h = (refl, same _ _ h)
all_read q (_ ∷ _) x h = absurd cc

-- What is read as a whole is a statement, and this is its tree.
pub whole_sound : (n : ℕ) (ts : List Token) (x : Query) → whole_at n ts ≡ Some x → IsStatement ts x
unfolding whole_at
whole_sound n ts x h = step (statement_at n ts) _ _ h (λ y ey hy. let read = all_read y.0 y.1 x hy in
    subst (λ z. IsStatement ts z) read.1 (statement_sound n ts y ey read.0))
