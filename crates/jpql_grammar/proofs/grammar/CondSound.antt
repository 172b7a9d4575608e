-- What is read as a condition or a nested SELECT is written by the grammar, with its tree.
use Rattle.std.proofs.Common.{◌≡◌, ℕ, zero, suc, Bool, true, false, not, ◌&&◌, ◌||◌, List, [], ◌∷◌, ◌++◌, map, drop, length, subst, Option, Some, None, refl, ap, sym, ◌∙◌, append-nil, append_assoc}
use Rattle.jpql_grammar.specs.declared.grammar.tested.Tested.{Tested}
use Rattle.jpql_grammar.specs.declared.grammar.token.Keyword.{Keyword}
use Rattle.jpql_grammar.specs.declared.grammar.token.Keyword.TheVariants as k
use Rattle.jpql_grammar.specs.declared.grammar.token.Mark.TheVariants as m
use Rattle.jpql_grammar.specs.declared.grammar.token.Token.{Token}
use Rattle.jpql_grammar.specs.declared.grammar.token.Token.TheVariants as t
use Rattle.jpql_trees.specs.declared.tree.Aggregate.{Aggregate}
use Rattle.jpql_trees.specs.declared.tree.Against.{Against}
use Rattle.jpql_trees.specs.declared.tree.Against.TheVariants as against
use Rattle.jpql_trees.specs.declared.tree.Comparison.{Comparison}
use Rattle.jpql_trees.specs.declared.tree.Comparison.TheVariants as c
use Rattle.jpql_trees.specs.declared.tree.Value.{Value}
use Rattle.jpql_trees.specs.declared.tree.Item.{Item}
use Rattle.jpql_trees.specs.declared.tree.Origin.{Origin}
use Rattle.jpql_trees.specs.declared.tree.Origin.TheVariants as from
use Rattle.jpql_trees.specs.declared.tree.Condition.{Condition}
use Rattle.jpql_trees.specs.declared.tree.Condition.TheVariants as is
use Rattle.jpql_trees.specs.declared.tree.Block.{Block, roll-Block}
use Rattle.jpql_trees.specs.declared.tree.Source.{Source, roll-Source}
use Rattle.jpql_trees.specs.declared.tree.Join.{Join, roll-Join}
use Rattle.jpql_trees.specs.tree.Names.{Text}
use Rattle.jpql_grammar.specs.grammar.Parts.{Name, name_token, name_text, aggregate_word, every, any, some, write_quantifier, quantifier_tree, turned}
use Rattle.jpql_grammar.specs.grammar.Tests.{condition_of, comparison_mark, Written, write_word, is_written, negated_if}
use Rattle.jpql_grammar.specs.grammar.ValueGrammar.{Value°, write_value, value_tree}
use Rattle.jpql_grammar.specs.grammar.Nesting.{past_close}
use Rattle.jpql_grammar.specs.grammar.Grammar.{write_others, write_named, write_optional_name, optional_name, write_item, item_tree, Side, inner, left, write_side, is_left, entity, related, Cond°, cond, no_ors, or, conj, no_ands, and, maybe_not, inside, tested, exists, quantified, among_rows, scalar_right, scalar_left, sub, scalar, Source°, source, Sources°, no_sources, sources, no_joins, joins, join, On°, no_on, on, Where°, no_where, filter, write_cond, write_ors, write_and, write_ands, write_not, write_test, write_sub, write_scalar, write_source, write_sources, write_joins, write_join, write_on, write_where, cond_tree, ors_tree, and_tree, ands_tree, not_tree, test_tree, sub_tree, scalar_tree, source_tree, sources_trees, joins_trees, join_tree, on_tree, where_tree}
use Rattle.jpql_grammar.specs.grammar.Values.{goes_on_at, tested_at, Read, sees, after, is_word, after_word, optional_word, name_at, variable_at, list_at, closed, value_at, opens_condition, comparison_at, sees_comparison}
use Rattle.jpql_grammar.specs.grammar.Conditions.{path_follows, value_tested_at, begins_variable, named_at, optional_name_at, item_at, begins_related, related_at, origin_at, begins_join, side_at, clause_at, join_at, joins_at, source_at, quantifier_at, aggregate_at, operand_at, aggregated_at, opposed_at, begins_rows, selected, rows_follow, ranges_at, block_at, scalar_at, subquery_at, enclosed_at, exists_at, against_at, scalar_first_at, beside_at, among_rows_at, follows_at, valued_at, simple_at, test_at, not_at, ands_at, and_at, ors_at, cond_level_at, cond_at}
use Rattle.jpql_grammar.proofs.grammar.Tools.{step, choice, both, same, sees_is, after_is, word_is, after_word_is, optional_word_is, name_sound, variable_sound}
use Rattle.jpql_grammar.proofs.grammar.TestsSound.{negated_is, path_tested_sound, typed_sound}
use Rattle.jpql_grammar.proofs.grammar.TestedSound.{Asks, comparison_sound, tested_sound}
use Rattle.jpql_grammar.proofs.grammar.PartsSound.{Wrote, list_sound, closed_sound, write_list, list_trees, write_closed, nothing, leaf}
use Rattle.jpql_grammar.proofs.grammar.ValuesSound.{value_sound}

-- ---- names, items, relations

pub named_sound : (ts : List Token) (x : Text × List Token) → named_at ts ≡ Some x → Wrote write_named (λ n. n.name) ts x
unfolding named_at
named_sound ts x h = let (w, ew, tw) = optional_word_is k.As ts in
    (record { as_word = w; name = x.0 }, rw (variable_sound (optional_word k.As ts).1 x h) ew, refl)

pub optional_name_sound : (ts : List Token) (x : Option Text × List Token) → optional_name_at ts ≡ Some x → Wrote write_optional_name optional_name ts x
unfolding optional_name_at
optional_name_sound ts x h = choice (is_word k.As ts || begins_variable ts) _ _ _ h
    (λ b h1. step (named_at ts) _ _ h1 (λ w ew hw. named_glued w (named_sound ts w ew) hw))
    (λ b h1. nothing write_optional_name optional_name None None ts x h1 refl refl)
  where
    named_glued : (w : Text × List Token) → Wrote write_named (λ n. n.name) ts w → Some (Some w.0, w.1) ≡ Some x → Wrote write_optional_name optional_name ts x
    named_glued w (n, en, tn) h = leaf write_optional_name optional_name (Some n) (Some w.0) w.1 ts x h en (rw tn)

item_glued : (ts : List Token) (a : Value × List Token) (w : Option Text × List Token) (x : Item × List Token)
    → Wrote write_value value_tree ts a → Wrote write_optional_name optional_name a.1 w → Some (record { value = a.0; name = w.0 }, w.1) ≡ Some x → Wrote write_item item_tree ts x
item_glued ts a w x (d, ed, td) (n, en, tn) h = leaf write_item item_tree (record { value = d; name = n }) (record { value = a.0; name = w.0 }) w.1 ts x h (rw (en, ed)) (rw (td, tn))

pub item_sound : (n : ℕ) (ts : List Token) (x : Item × List Token) → item_at n ts ≡ Some x → Wrote write_item item_tree ts x
unfolding item_at
item_sound n ts x h = step (value_at n ts) _ _ h (λ a ea ha. step (optional_name_at a.1) _ _ ha (λ w ew hw. item_glued ts a w x (value_sound n ts a ea) (optional_name_sound a.1 w ew) hw))

-- a variable, a dot and a name
pub data Related° : Type 0 where
  of_name : Text → Name → Related°

abbrev pub write_related : Related° → List Token → List Token
write_related (of_name x r) rest = t.Word x ∷ t.Mark m.Dot ∷ name_token r ∷ rest

abbrev pub related_tree : Related° → Text × Text
related_tree (of_name x r) = (x, name_text r)

related_glued : (ts more : List Token) (a r : Text × List Token) (x : (Text × Text) × List Token) → t.Word a.0 ∷ a.1 ≡ ts → t.Mark m.Dot ∷ more ≡ a.1
    → (n : Name) × (name_token n ∷ r.1 ≡ more) × (name_text n ≡ r.0) → Some ((a.0, r.0), r.1) ≡ Some x → Wrote write_related related_tree ts x
related_glued ts more a r x ea em (n, en, tn) h = leaf write_related related_tree (of_name a.0 n) (a.0, r.0) r.1 ts x h (rw (en, em, ea)) (rw tn)

pub related_sound : (ts : List Token) (x : (Text × Text) × List Token) → related_at ts ≡ Some x → Wrote write_related related_tree ts x
unfolding related_at
related_sound ts x h = step (variable_at ts) _ _ h (λ a ea ha. step (after m.Dot a.1) _ _ ha (λ more em hm. step (name_at more) _ _ hm (λ r er hr.
    related_glued ts more a r x (variable_sound ts a ea) (after_is m.Dot a.1 more em) (name_sound more r er) hr)))

-- what a variable ranges over, without the variable
pub data Origin° : Type 0 where
  of_entity : Name → Origin°
  of_relation : Text → Name → Origin°

abbrev pub write_origin : Origin° → List Token → List Token
write_origin (of_entity e) rest = name_token e ∷ rest
write_origin (of_relation x r) rest = t.Word x ∷ t.Mark m.Dot ∷ name_token r ∷ rest

abbrev pub origin_tree : Origin° → Origin
origin_tree (of_entity e) = from.Entity (name_text e)
origin_tree (of_relation x r) = from.Related x (name_text r)

relation_glued : (ts : List Token) (r : (Text × Text) × List Token) (x : Origin × List Token) → Wrote write_related related_tree ts r
    → Some (from.Related r.0.0 r.0.1, r.1) ≡ Some x → Wrote write_origin origin_tree ts x
relation_glued ts r x (of_name y n, en, tn) h = leaf write_origin origin_tree (of_relation y n) (from.Related r.0.0 r.0.1) r.1 ts x h en (rw (← tn))

entity_glued : (ts : List Token) (e : Text × List Token) (x : Origin × List Token) → (n : Name) × (name_token n ∷ e.1 ≡ ts) × (name_text n ≡ e.0)
    → Some (from.Entity e.0, e.1) ≡ Some x → Wrote write_origin origin_tree ts x
entity_glued ts e x (n, en, tn) h = leaf write_origin origin_tree (of_entity n) (from.Entity e.0) e.1 ts x h en (rw tn)

pub origin_sound : (nested : Bool) (ts : List Token) (x : Origin × List Token) → origin_at nested ts ≡ Some x → Wrote write_origin origin_tree ts x
unfolding origin_at
origin_sound nested ts x h = choice (nested && begins_related ts) _ _ _ h
    (λ b h1. step (related_at ts) _ _ h1 (λ r er hr. relation_glued ts r x (related_sound ts r er) hr))
    (λ b h1. step (name_at ts) _ _ h1 (λ e ee he. entity_glued ts e x (name_sound ts e ee) he))

-- [INNER | LEFT [OUTER]] JOIN
abbrev write_sided : Side × Text → List Token → List Token
write_sided l rest = write_side l.0 (t.Key k.Join l.1 ∷ rest)

abbrev sided_tree : Side × Text → Bool
sided_tree l = is_left l.0

left_glued : (ts mid rest : List Token) (b : Bool) (x : Bool × List Token) → (w : Text) × (t.Key k.Left w ∷ drop 1 ts ≡ ts)
    → (o : Written) × (write_word k.Outer o mid ≡ drop 1 ts) × (is_written o ≡ b) → (j : Text) × (t.Key k.Join j ∷ rest ≡ mid)
    → Some (true, rest) ≡ Some x → Wrote write_sided sided_tree ts x
left_glued ts mid rest b x (w, ew) (o, eo, to) (j, ej) h = leaf write_sided sided_tree (left w o, j) true rest ts x h (rw (ej, eo) ew) refl

inner_glued : (ts mid rest : List Token) (b : Bool) (x : Bool × List Token)
    → (o : Written) × (write_word k.Inner o mid ≡ ts) × (is_written o ≡ b) → (j : Text) × (t.Key k.Join j ∷ rest ≡ mid)
    → Some (false, rest) ≡ Some x → Wrote write_sided sided_tree ts x
inner_glued ts mid rest b x (o, eo, to) (j, ej) h = leaf write_sided sided_tree (inner o, j) false rest ts x h (rw (ej, eo)) refl

side_sound : (ts : List Token) (x : Bool × List Token) → side_at ts ≡ Some x → Wrote write_sided sided_tree ts x
unfolding side_at
side_sound ts x h = choice (is_word k.Left ts) _ _ _ h
    (λ b h1. let o = optional_word k.Outer (drop 1 ts) in step (after_word k.Join o.1) _ _ h1 (λ rest er hr.
    left_glued ts o.1 rest o.0 x (word_is k.Left ts b) (optional_word_is k.Outer (drop 1 ts)) (after_word_is k.Join o.1 rest er) hr))
    (λ b h1. let o = optional_word k.Inner ts in step (after_word k.Join o.1) _ _ h1 (λ rest er hr.
    inner_glued ts o.1 rest o.0 x (optional_word_is k.Inner ts) (after_word_is k.Join o.1 rest er) hr))

-- ---- conditions after a word

abbrev pub Clause° : Type 0
Clause° = Option (Text × Cond°)

abbrev pub write_clause° : Keyword → Clause° → List Token → List Token
write_clause° word None rest = rest
write_clause° word (Some c) rest = t.Key word c.0 ∷ write_cond c.1 rest

abbrev pub clause_tree : Clause° → Option Condition
clause_tree None = None
clause_tree (Some c) = Some (cond_tree c.1)

pub on_of : Clause° → On°
on_of None = no_on
on_of (Some c) = on c.0 c.1

pub on_of_is : (c : Clause°) (rest : List Token) → (write_on (on_of c) rest ≡ write_clause° k.On c rest) × (on_tree (on_of c) ≡ clause_tree c)
unfolding on_of
on_of_is None rest = (refl, refl)
on_of_is (Some c) rest = (refl, refl)

pub where_of : Clause° → Where°
where_of None = no_where
where_of (Some c) = filter c.0 c.1

pub where_of_is : (c : Clause°) (rest : List Token) → (write_where (where_of c) rest ≡ write_clause° k.Where c rest) × (where_tree (where_of c) ≡ clause_tree c)
unfolding where_of
where_of_is None rest = (refl, refl)
where_of_is (Some c) rest = (refl, refl)

sources_of : List Source° → Sources°
sources_of [] = no_sources
sources_of (x ∷ xs) = sources x (sources_of xs)

sources_of_written : (xs : List Source°) (rest : List Token) → write_sources (sources_of xs) rest ≡ write_others write_source xs rest
unfolding sources_of
sources_of_written [] rest = refl
sources_of_written (x ∷ xs) rest = ap (λ ts. t.Mark m.Comma ∷ write_source x ts) (sources_of_written xs rest)

sources_of_treed : (xs : List Source°) → sources_trees (sources_of xs) ≡ map source_tree xs
unfolding sources_of
sources_of_treed [] = refl
sources_of_treed (x ∷ xs) = ap (λ ys. source_tree x ∷ ys) (sources_of_treed xs)

-- FROM, its ranges and WHERE
data Ranges° : Type 0 where
  ranges : Text → Source° → Sources° → Where° → Ranges°

abbrev write_ranges : Ranges° → List Token → List Token
write_ranges (ranges v x xs f) rest = t.Key k.From v ∷ write_source x (write_sources xs (write_where f rest))

abbrev ranges_trees : Ranges° → List Source × Option Condition
ranges_trees (ranges v x xs f) = (source_tree x ∷ sources_trees xs, where_tree f)

module _ (below : Read Condition) (nested : (ts : List Token) (x : Condition × List Token) → below ts ≡ Some x → Wrote write_cond cond_tree ts x) where
  clause_glued : (word : Keyword) (ts : List Token) (a : Condition × List Token) (x : Option Condition × List Token) → (w : Text) × (t.Key word w ∷ drop 1 ts ≡ ts)
      → Wrote write_cond cond_tree (drop 1 ts) a → Some (Some a.0, a.1) ≡ Some x → Wrote (write_clause° word) clause_tree ts x
  clause_glued word ts a x (w, ew) (d, ed, td) h = leaf (write_clause° word) clause_tree (Some (w, d)) (Some a.0) a.1 ts x h (rw ed ew) (rw td)

  pub clause_sound : (word : Keyword) (ts : List Token) (x : Option Condition × List Token) → clause_at below word ts ≡ Some x → Wrote (write_clause° word) clause_tree ts x
  unfolding clause_at
  clause_sound word ts x h = choice (is_word word ts) _ _ _ h
      (λ b h1. step (below (drop 1 ts)) _ _ h1 (λ a ea ha. clause_glued word ts a x (word_is word ts b) (nested (drop 1 ts) a ea) ha))
      (λ b h1. nothing (write_clause° word) clause_tree None None ts x h1 refl refl)

  join_glued : (ts : List Token) (l : Bool × List Token) (r : (Text × Text) × List Token) (w : Text × List Token) (o : Option Condition × List Token) (x : Join × List Token)
      → Wrote write_sided sided_tree ts l → Wrote write_related related_tree l.1 r → Wrote write_named (λ n. n.name) r.1 w → Wrote (write_clause° k.On) clause_tree w.1 o
      → Some (roll-Join (record { is_left = l.0; of = r.0.0; relation = r.0.1; variable = w.0; on = o.0 }), o.1) ≡ Some x → Wrote write_join join_tree ts x
  join_glued ts l r w o x ((s, j), es, ls) (of_name y n, en, tn) (a, ea, ta) (c, ec, tc) h =
      let is = on_of_is c o.1 in
      leaf write_join join_tree (join s j y n a (on_of c)) _ o.1 ts x h (rw (is.0, ec, ea, en, es)) (rw (is.1, ls, tc, ta, ← tn))

  join_sound : (ts : List Token) (x : Join × List Token) → join_at below ts ≡ Some x → Wrote write_join join_tree ts x
  unfolding join_at
  join_sound ts x h = step (side_at ts) _ _ h (λ l el hl. step (related_at l.1) _ _ hl (λ r er hr. step (named_at r.1) _ _ hr (λ w ew hw. step (clause_at below k.On w.1) _ _ hw (λ o eo ho.
      join_glued ts l r w o x (side_sound ts l el) (related_sound l.1 r er) (named_sound r.1 w ew) (clause_sound k.On w.1 o eo) ho))))

  joins_glued : (found : List Join) (ts : List Token) (a : Join × List Token) (x : List Join × List Token) → Wrote write_join join_tree ts a
      → Wrote write_joins (λ js. (found ++ a.0 ∷ []) ++ joins_trees js) a.1 x → Wrote write_joins (λ js. found ++ joins_trees js) ts x
  joins_glued found ts a x (d, ed, td) (ds, es, ts') = (joins d ds, rw es ed, rw td (sym (append_assoc found (a.0 ∷ []) (joins_trees ds)) ∙ ts'))

  pub joins_sound : (n : ℕ) (found : List Join) (ts : List Token) (x : List Join × List Token) → joins_at below n found ts ≡ Some x → Wrote write_joins (λ js. found ++ joins_trees js) ts x
  unfolding joins_at
  joins_sound zero found ts x h = nothing write_joins (λ js. found ++ joins_trees js) no_joins found ts x h refl (append-nil found)
  joins_sound (suc n) found ts x h = choice (begins_join ts) _ _ _ h
      (λ b h1. step (join_at below ts) _ _ h1 (λ a ea ha. joins_glued found ts a x (join_sound ts a ea) (joins_sound n (found ++ a.0 ∷ []) a.1 x ha)))
      (λ b h1. nothing write_joins (λ js. found ++ joins_trees js) no_joins found ts x h1 refl (append-nil found))

  -- an origin, its variable and its joins
  source_glued : (ts : List Token) (o : Origin × List Token) (w : Text × List Token) (js : List Join × List Token) (x : Source × List Token)
      → Wrote write_origin origin_tree ts o → Wrote write_named (λ n. n.name) o.1 w → Wrote write_joins (λ js. [] ++ joins_trees js) w.1 js
      → Some (roll-Source (record { origin = o.0; variable = w.0; joins = js.0 }), js.1) ≡ Some x → Wrote write_source source_tree ts x
  source_glued ts o w js x (of_entity e, eo, to) (n, en, tn) (d, ed, td) h =
      leaf write_source source_tree (source (entity e n) d) _ js.1 ts x h (rw (ed, en, eo)) (rw (to, tn, td))
  source_glued ts o w js x (of_relation y r, eo, to) (n, en, tn) (d, ed, td) h =
      leaf write_source source_tree (source (related y r n) d) _ js.1 ts x h (rw (ed, en, eo)) (rw (to, tn, td))

  pub source_sound : (ts : List Token) (x : Source × List Token) → source_at below true ts ≡ Some x → Wrote write_source source_tree ts x
  unfolding source_at
  source_sound ts x h = step (origin_at true ts) _ _ h (λ o eo ho. step (named_at o.1) _ _ ho (λ w ew hw. step (joins_at below (length w.1) [] w.1) _ _ hw (λ js ej hj.
      source_glued ts o w js x (origin_sound true ts o eo) (named_sound o.1 w ew) (joins_sound (length w.1) [] w.1 js ej) hj)))

  ranges_glued : (ts more : List Token) (xs : List Source × List Token) (f : Option Condition × List Token) (x : (List Source × Option Condition) × List Token)
      → (v : Text) × (t.Key k.From v ∷ more ≡ ts) → Wrote (write_list write_source) (list_trees source_tree) more xs → Wrote (write_clause° k.Where) clause_tree xs.1 f
      → Some ((xs.0, f.0), f.1) ≡ Some x → Wrote write_ranges ranges_trees ts x
  ranges_glued ts more xs f x (v, ev) ((y, ys), ey, ty) (c, ec, tc) h =
      let is = where_of_is c f.1 in
      leaf write_ranges ranges_trees (ranges v y (sources_of ys) (where_of c)) (xs.0, f.0) f.1 ts x h
      (rw (is.0, ec, sources_of_written ys xs.1, ey, ev)) (rw (is.1, sources_of_treed ys) (rw (ty, tc)))

-- ---- what stands beside rows

quantifier_sound : (ts : List Token) (x : Against × List Token) → quantifier_at ts ≡ Some x → Wrote write_quantifier quantifier_tree ts x
unfolding quantifier_at
quantifier_sound [] x h = absurd cc
quantifier_sound (t.Key k.All w ∷ ts) x h = leaf write_quantifier quantifier_tree (every w) against.All ts _ x h refl refl
quantifier_sound (t.Key k.Any w ∷ ts) x h = leaf write_quantifier quantifier_tree (any w) against.Any ts _ x h refl refl
quantifier_sound (t.Key k.Some w ∷ ts) x h = leaf write_quantifier quantifier_tree (some w) against.Any ts _ x h refl refl
quantifier_sound (t.Key _ w ∷ ts) x h = absurd cc
quantifier_sound (_ ∷ ts) x h = absurd cc

aggregate_sound : (ts : List Token) (x : Aggregate × List Token) → aggregate_at ts ≡ Some x → (w : Text) × (t.Key (aggregate_word x.0) w ∷ x.1 ≡ ts)
unfolding aggregate_at
aggregate_sound [] x h = absurd cc
aggregate_sound (t.Key k.Count w ∷ ts) x h = let e = same _ _ h in (w, rw (← e))
aggregate_sound (t.Key k.Sum w ∷ ts) x h = let e = same _ _ h in (w, rw (← e))
aggregate_sound (t.Key k.Min w ∷ ts) x h = let e = same _ _ h in (w, rw (← e))
aggregate_sound (t.Key k.Max w ∷ ts) x h = let e = same _ _ h in (w, rw (← e))
aggregate_sound (t.Key _ w ∷ ts) x h = absurd cc
aggregate_sound (_ ∷ ts) x h = absurd cc

-- [DISTINCT] value ")"
abbrev write_operand : Written × Value° → List Token → List Token
write_operand d rest = write_word k.Distinct d.0 (write_value d.1 (t.Mark m.Close ∷ rest))

abbrev operand_tree : Written × Value° → Bool × Value
operand_tree d = (is_written d.0, value_tree d.1)

operand_glued : (ts mid : List Token) (b : Bool) (a : Value × List Token) (x : (Bool × Value) × List Token)
    → (w : Written) × (write_word k.Distinct w mid ≡ ts) × (is_written w ≡ b) → Wrote (write_closed write_value) value_tree mid a → Some ((b, a.0), a.1) ≡ Some x → Wrote write_operand operand_tree ts x
operand_glued ts mid b a x (w, ew, tw) (d, ed, td) h = leaf write_operand operand_tree (w, d) (b, a.0) a.1 ts x h (rw (ed, ew)) (rw (tw, td))

operand_sound : (n : ℕ) (ts : List Token) (x : (Bool × Value) × List Token) → operand_at n ts ≡ Some x → Wrote write_operand operand_tree ts x
unfolding operand_at
operand_sound n ts x h = let d = optional_word k.Distinct ts in step (closed (value_at n d.1)) _ _ h (λ a ea ha.
    operand_glued ts d.1 d.0 a x (optional_word_is k.Distinct ts) (closed_sound write_value value_tree d.1 (value_at n d.1) (value_sound n d.1) a ea) ha)

-- aggregate "(" [DISTINCT] value ")"
data Aggregated° : Type 0 where
  aggregated : Aggregate → Text → Written → Value° → Aggregated°

abbrev write_aggregated : Aggregated° → List Token → List Token
write_aggregated (aggregated h u d a) rest = t.Key (aggregate_word h) u ∷ t.Mark m.Open ∷ write_word k.Distinct d (write_value a (t.Mark m.Close ∷ rest))

abbrev aggregated_tree : Aggregated° → Against × Value
aggregated_tree (aggregated h u d a) = (against.One h (is_written d), value_tree a)

aggregated_glued : (ts more : List Token) (h : Aggregate × List Token) (a : (Bool × Value) × List Token) (x : (Against × Value) × List Token)
    → (u : Text) × (t.Key (aggregate_word h.0) u ∷ h.1 ≡ ts) → t.Mark m.Open ∷ more ≡ h.1 → Wrote write_operand operand_tree more a
    → Some ((against.One h.0 a.0.0, a.0.1), a.1) ≡ Some x → Wrote write_aggregated aggregated_tree ts x
aggregated_glued ts more h a x (u, eu) eo ((w, d), ed, td) e =
    leaf write_aggregated aggregated_tree (aggregated h.0 u w d) (against.One h.0 a.0.0, a.0.1) a.1 ts x e (rw (ed, eo, eu)) (rw (← td))

aggregated_sound : (n : ℕ) (ts : List Token) (x : (Against × Value) × List Token) → aggregated_at n ts ≡ Some x → Wrote write_aggregated aggregated_tree ts x
unfolding aggregated_at
aggregated_sound n ts x e = step (aggregate_at ts) _ _ e (λ h eh hh. step (after m.Open h.1) _ _ hh (λ more em hm. step (operand_at n more) _ _ hm (λ a ea ha.
    aggregated_glued ts more h a x (aggregate_sound ts h eh) (after_is m.Open h.1 more em) (operand_sound n more a ea) ha)))

-- op value
abbrev write_opposed : Comparison × Value° → List Token → List Token
write_opposed d rest = t.Mark (comparison_mark d.0) ∷ write_value d.1 rest

abbrev opposed_tree : Comparison × Value° → Comparison × Value
opposed_tree d = (d.0, value_tree d.1)

opposed_glued : (ts : List Token) (op : Comparison × List Token) (a : Value × List Token) (x : (Comparison × Value) × List Token)
    → t.Mark (comparison_mark op.0) ∷ op.1 ≡ ts → Wrote write_value value_tree op.1 a → Some ((op.0, a.0), a.1) ≡ Some x → Wrote write_opposed opposed_tree ts x
opposed_glued ts op a x eo (d, ed, td) h = leaf write_opposed opposed_tree (op.0, d) (op.0, a.0) a.1 ts x h (rw (ed, eo)) (rw td)

opposed_sound : (n : ℕ) (ts : List Token) (x : (Comparison × Value) × List Token) → opposed_at n ts ≡ Some x → Wrote write_opposed opposed_tree ts x
unfolding opposed_at
opposed_sound n ts x h = step (comparison_at ts) _ _ h (λ op eo ho. step (value_at n op.1) _ _ ho (λ a ea ha.
    opposed_glued ts op a x (comparison_sound ts op eo) (value_sound n op.1 a ea) ha))

-- a SELECT in parentheses
abbrev write_selected : {D : Type 0} → (D → List Token → List Token) → D → List Token → List Token
write_selected write d rest = t.Mark m.Open ∷ write d (t.Mark m.Close ∷ rest)

-- `one` reads what follows SELECT
selected_sound : {D A : Type 0} (write : D → List Token → List Token) (tree : D → A) (one : Read A)
    → ((u : Text) (ts : List Token) (x : A × List Token) → one ts ≡ Some x → Wrote write tree (t.Key k.Select u ∷ ts) x)
    → (ts rest : List Token) (x : A × List Token) → selected ts ≡ Some rest → closed (one rest) ≡ Some x → Wrote (write_selected write) tree ts x
selected_sound write tree one sound ts rest x s h = step (after m.Open ts) _ _ s (λ more em hm.
    glued more (after_is m.Open ts more em) (after_word_is k.Select more rest hm))
  where
    glued : (more : List Token) → t.Mark m.Open ∷ more ≡ ts → (u : Text) × (t.Key k.Select u ∷ rest ≡ more) → Wrote (write_selected write) tree ts x
    glued more eo (u, eu) =
        let (d, ed, td) = closed_sound write tree (t.Key k.Select u ∷ rest) (one rest) (λ a ea. sound u rest a ea) x h in
        (d, rw (ed, eu, eo), td)

module _ (n : ℕ) (below : Read Condition) (nested : (ts : List Token) (x : Condition × List Token) → below ts ≡ Some x → Wrote write_cond cond_tree ts x) where
  ranges_sound : (ts : List Token) (x : (List Source × Option Condition) × List Token) → ranges_at n below ts ≡ Some x → Wrote write_ranges ranges_trees ts x
  unfolding ranges_at
  ranges_sound ts x h = step (after_word k.From ts) _ _ h (λ more em hm. step (list_at (source_at below true) more) _ _ hm (λ xs es hs. step (clause_at below k.Where xs.1) _ _ hs (λ f ef hf.
      ranges_glued below nested ts more xs f x (after_word_is k.From ts more em)
      (list_sound (source_at below true) write_source source_tree (source_sound below nested) more xs es) (clause_sound below nested k.Where xs.1 f ef) hf)))

  block_glued : (u : Text) (ts mid : List Token) (d : Bool) (i : Item × List Token) (r : (List Source × Option Condition) × List Token) (x : Block × List Token)
      → (w : Written) × (write_word k.Distinct w mid ≡ ts) × (is_written w ≡ d) → Wrote write_item item_tree mid i → Wrote write_ranges ranges_trees i.1 r
      → Some (roll-Block (record { is_distinct = d; item = i.0; sources = r.0.0; filter = r.0.1 }), r.1) ≡ Some x → Wrote write_sub sub_tree (t.Key k.Select u ∷ ts) x
  block_glued u ts mid d i r x (w, ew, tw) (a, ea, ta) (ranges v y ys f, er, tr) h =
      leaf write_sub sub_tree (sub u w a v y ys f) _ r.1 _ x h (rw (er, ea, ew)) (rw (tw, ta, ← tr))

  block_sound : (u : Text) (ts : List Token) (x : Block × List Token) → block_at n below ts ≡ Some x → Wrote write_sub sub_tree (t.Key k.Select u ∷ ts) x
  unfolding block_at
  block_sound u ts x h = let d = optional_word k.Distinct ts in
      step (item_at n d.1) _ _ h (λ i ei hi. step (ranges_at n below i.1) _ _ hi (λ r er hr.
      block_glued u ts d.1 d.0 i r x (optional_word_is k.Distinct ts) (item_sound n d.1 i ei) (ranges_sound i.1 r er) hr))

  scalar_glued : (w : Text) (ts : List Token) (a : (Against × Value) × List Token) (r : (List Source × Option Condition) × List Token) (x : (Against × Block) × List Token)
      → Wrote write_aggregated aggregated_tree ts a → Wrote write_ranges ranges_trees a.1 r
      → Some ((a.0.0, roll-Block (record { is_distinct = false; item = record { value = a.0.1; name = None }; sources = r.0.0; filter = r.0.1 })), r.1) ≡ Some x
      → Wrote write_scalar scalar_tree (t.Key k.Select w ∷ ts) x
  scalar_glued w ts a r x (aggregated h u d b, eb, tb) (ranges v y ys f, er, tr) e =
      leaf write_scalar scalar_tree (scalar w h u d b v y ys f) _ r.1 _ x e (rw (er, eb)) (rw (← tb, ← tr))

  scalar_sound : (w : Text) (ts : List Token) (x : (Against × Block) × List Token) → scalar_at n below ts ≡ Some x → Wrote write_scalar scalar_tree (t.Key k.Select w ∷ ts) x
  unfolding scalar_at
  scalar_sound w ts x e = step (aggregated_at n ts) _ _ e (λ a ea ha. step (ranges_at n below a.1) _ _ ha (λ r er hr.
      scalar_glued w ts a r x (aggregated_sound n ts a ea) (ranges_sound a.1 r er) hr))

  subquery_sound : (ts : List Token) (x : Block × List Token) → subquery_at n below ts ≡ Some x → Wrote (write_selected write_sub) sub_tree ts x
  unfolding subquery_at
  subquery_sound ts x h = step (selected ts) _ _ h (λ more em hm. selected_sound write_sub sub_tree (block_at n below) block_sound ts more x em hm)

  enclosed_sound : (ts : List Token) (x : (Against × Block) × List Token) → enclosed_at n below ts ≡ Some x → Wrote (write_selected write_scalar) scalar_tree ts x
  unfolding enclosed_at
  enclosed_sound ts x h = step (selected ts) _ _ h (λ more em hm. selected_sound write_scalar scalar_tree (scalar_at n below) scalar_sound ts more x em hm)

  exists_glued : (w : Text) (ts : List Token) (b : Block × List Token) (x : Condition × List Token)
      → Wrote (write_selected write_sub) sub_tree ts b → Some (is.Exists b.0, b.1) ≡ Some x → Wrote write_test test_tree (t.Key k.Exists w ∷ ts) x
  exists_glued w ts b x (d, ed, td) h = leaf write_test test_tree (exists w d) (is.Exists b.0) b.1 _ x h (rw ed) (rw td)

  exists_sound : (w : Text) (ts : List Token) (x : Condition × List Token) → exists_at n below ts ≡ Some x → Wrote write_test test_tree (t.Key k.Exists w ∷ ts) x
  unfolding exists_at
  exists_sound w ts x h = step (subquery_at n below ts) _ _ h (λ b eb hb. exists_glued w ts b x (subquery_sound ts b eb) hb)

  scalar_first_glued : (ts : List Token) (s : (Against × Block) × List Token) (a : (Comparison × Value) × List Token) (x : Condition × List Token)
      → Wrote (write_selected write_scalar) scalar_tree ts s → Wrote write_opposed opposed_tree s.1 a
      → Some (is.Rows s.0.0 (turned a.0.0) a.0.1 s.0.1, a.1) ≡ Some x → Wrote write_test test_tree ts x
  scalar_first_glued ts s a x (d, ed, td) ((op, b), eb, tb) h =
      leaf write_test test_tree (scalar_left d op b) (is.Rows s.0.0 (turned a.0.0) a.0.1 s.0.1) a.1 ts x h (rw (eb, ed)) (rw (← td, ← tb))

  scalar_first_sound : (ts : List Token) (x : Condition × List Token) → scalar_first_at n below ts ≡ Some x → Wrote write_test test_tree ts x
  unfolding scalar_first_at
  scalar_first_sound ts x h = step (enclosed_at n below ts) _ _ h (λ s es hs. step (opposed_at n s.1) _ _ hs (λ a ea ha.
      scalar_first_glued ts s a x (enclosed_sound ts s es) (opposed_sound n s.1 a ea) ha))

  -- behind a value and a comparison
  beside_scalar : (d : Value°) (ts : List Token) (op : Comparison × List Token) (s : (Against × Block) × List Token) (x : Condition × List Token)
      → t.Mark (comparison_mark op.0) ∷ op.1 ≡ ts → Wrote (write_selected write_scalar) scalar_tree op.1 s
      → Some (is.Rows s.0.0 op.0 (value_tree d) s.0.1, s.1) ≡ Some x → Wrote write_test test_tree (write_value d ts) x
  beside_scalar d ts op s x eo (e, ee, te) h =
      leaf write_test test_tree (scalar_right d op.0 e) (is.Rows s.0.0 op.0 (value_tree d) s.0.1) s.1 (write_value d ts) x h (rw (ee, eo)) (rw (← te))

  beside_rows : (d : Value°) (ts : List Token) (op : Comparison × List Token) (q : Against × List Token) (b : Block × List Token) (y : (Against × Block) × List Token) (x : Condition × List Token)
      → t.Mark (comparison_mark op.0) ∷ op.1 ≡ ts → Wrote write_quantifier quantifier_tree op.1 q → Wrote (write_selected write_sub) sub_tree q.1 b
      → Some ((q.0, b.0), b.1) ≡ Some y → Some (is.Rows y.0.0 op.0 (value_tree d) y.0.1, y.1) ≡ Some x → Wrote write_test test_tree (write_value d ts) x
  beside_rows d ts op q b y x eo (p, ep, tp) (e, ee, te) hy h =
      leaf write_test test_tree (quantified d op.0 p e) (is.Rows q.0 op.0 (value_tree d) b.0) b.1 (write_value d ts) x
      (subst (λ (z : (Against × Block) × List Token). Some (is.Rows z.0.0 op.0 (value_tree d) z.0.1, z.1) ≡ Some x) (sym (same _ _ hy)) h) (rw (ee, ep, eo)) (rw (tp, te))

  beside_against : (d : Value°) (ts : List Token) (op : Comparison × List Token) (y : (Against × Block) × List Token) (x : Condition × List Token)
      → t.Mark (comparison_mark op.0) ∷ op.1 ≡ ts → against_at n below op.1 ≡ Some y
      → Some (is.Rows y.0.0 op.0 (value_tree d) y.0.1, y.1) ≡ Some x → Wrote write_test test_tree (write_value d ts) x
  unfolding against_at
  beside_against d ts op y x eo ey h = choice (begins_rows op.1) _ _ _ ey
      (λ b h1. beside_scalar d ts op y x eo (enclosed_sound op.1 y h1) h)
      (λ b h1. step (quantifier_at op.1) _ _ h1 (λ q eq hq. step (subquery_at n below q.1) _ _ hq (λ r er hr.
      beside_rows d ts op q r y x eo (quantifier_sound op.1 q eq) (subquery_sound q.1 r er) hr h)))

  beside_sound : (d : Value°) (ts : List Token) (x : Condition × List Token) → beside_at n below (value_tree d) ts ≡ Some x → Wrote write_test test_tree (write_value d ts) x
  unfolding beside_at
  beside_sound d ts x h = step (comparison_at ts) _ _ h (λ op eo ho. step (against_at n below op.1) _ _ ho (λ y ey hy.
      beside_against d ts op y x (comparison_sound ts op eo) ey hy))

  among_rows_glued : (d : Value°) (ts mid more : List Token) (neg : Bool) (b : Block × List Token) (x : Condition × List Token)
      → (n : Written) × (write_word k.Not n mid ≡ ts) × (is_written n ≡ neg) → (w : Text) × (t.Key k.In w ∷ more ≡ mid) → Wrote (write_selected write_sub) sub_tree more b
      → Some (negated_if neg (is.Rows against.Any c.Equal (value_tree d) b.0), b.1) ≡ Some x → Wrote write_test test_tree (write_value d ts) x
  among_rows_glued d ts mid more neg b x (n, en, tn) (w, ew) (e, ee, te) h =
      leaf write_test test_tree (among_rows d n w e) (negated_if neg (is.Rows against.Any c.Equal (value_tree d) b.0)) b.1 (write_value d ts) x h (rw (ee, ew, en)) (rw te (negated_is n neg _ tn))

  among_rows_sound : (d : Value°) (ts : List Token) (x : Condition × List Token) → among_rows_at n below (value_tree d) ts ≡ Some x → Wrote write_test test_tree (write_value d ts) x
  unfolding among_rows_at
  among_rows_sound d ts x h = let neg = optional_word k.Not ts in
      step (after_word k.In neg.1) _ _ h (λ more em hm. step (subquery_at n below more) _ _ hm (λ b eb hb.
      among_rows_glued d ts neg.1 more neg.0 b x (optional_word_is k.Not ts) (after_word_is k.In neg.1 more em) (subquery_sound more b eb) hb))

  tested_glued : (d : Value°) (ts : List Token) (y : Tested × List Token) (x : Condition × List Token) → Asks d ts y
      → Some (condition_of y.0, y.1) ≡ Some x → Wrote write_test test_tree (write_value d ts) x
  tested_glued d ts y x (z, ez, tz) h = leaf write_test test_tree (tested z) (condition_of y.0) y.1 (write_value d ts) x h ez (rw tz)

  follows_sound : (d : Value°) (ts : List Token) (x : Condition × List Token) → follows_at n below (value_tree d) (begins_variable (write_value d ts)) ts ≡ Some x
      → Wrote write_test test_tree (write_value d ts) x
  unfolding follows_at value_tested_at
  follows_sound d ts x h = choice (rows_follow ts) _ _ _ h
      (λ b h1. choice (sees_comparison ts) _ _ _ h1 (λ b h2. beside_sound d ts x h2) (λ b h2. among_rows_sound d ts x h2))
      (λ b h1. choice (path_follows ts) _ _ _ h1
      (λ b h2. path_tested_sound d ts x h2)
      (λ b h2. step (tested_at (value_at n) (value_tree d) ts) _ _ h2 (λ y ey hy. tested_glued d ts y x (tested_sound (value_at n) (value_sound n) d ts y ey) hy)))

  valued_glued : (ts : List Token) (a : Value × List Token) (x : Condition × List Token) → Wrote write_value value_tree ts a
      → follows_at n below a.0 (begins_variable ts) a.1 ≡ Some x → Wrote write_test test_tree ts x
  valued_glued ts a x (d, ed, td) h =
      subst (λ us. Wrote write_test test_tree us x) ed (follows_sound d a.1 x (rw (td, ed) h))

  simple_sound : (ts : List Token) (x : Condition × List Token) → simple_at n below ts ≡ Some x → Wrote write_test test_tree ts x
  unfolding simple_at valued_at
  simple_sound ts x h = choice (is_word k.Type ts) _ _ _ h
      (λ b h1. let (w, ew) = word_is k.Type ts b in subst (λ us. Wrote write_test test_tree us x) ew (typed_sound w (drop 1 ts) x h1))
      (λ b h1. step (value_at n ts) _ _ h1 (λ a ea ha. valued_glued ts a x (value_sound n ts a ea) ha))

  inside_glued : (ts : List Token) (x : Condition × List Token) → sees m.Open ts ≡ true → Wrote (write_closed write_cond) cond_tree (drop 1 ts) x → Wrote write_test test_tree ts x
  inside_glued ts x o (d, ed, td) = (inside d, rw ed (sees_is m.Open ts o), td)

  test_sound : (ts : List Token) (x : Condition × List Token) → test_at n below ts ≡ Some x → Wrote write_test test_tree ts x
  unfolding test_at
  test_sound ts x h = choice (begins_rows ts) _ _ _ h
      (λ b h1. scalar_first_sound ts x h1)
      (λ b h1. choice (opens_condition ts) _ _ _ h1
      (λ b h2. both (sees m.Open ts) (not (goes_on_at (past_close 0 (drop 1 ts)))) b (λ o u.
      inside_glued ts x o (closed_sound write_cond cond_tree (drop 1 ts) (below (drop 1 ts)) (nested (drop 1 ts)) x h2)))
      (λ b h2. choice (is_word k.Exists ts) _ _ _ h2
      (λ b h3. let (w, ew) = word_is k.Exists ts b in subst (λ us. Wrote write_test test_tree us x) ew (exists_sound w (drop 1 ts) x h3))
      (λ b h3. simple_sound ts x h3)))

  not_glued : (ts : List Token) (a x : Condition × List Token) → (w : Text) × (t.Key k.Not w ∷ drop 1 ts ≡ ts) → Wrote write_test test_tree (drop 1 ts) a
      → Some (is.Not a.0, a.1) ≡ Some x → Wrote write_not not_tree ts x
  not_glued ts a x (w, ew) (d, ed, td) h = leaf write_not not_tree (maybe_not (Some w) d) (is.Not a.0) a.1 ts x h (rw ed ew) (rw td)

  not_sound : (ts : List Token) (x : Condition × List Token) → not_at n below ts ≡ Some x → Wrote write_not not_tree ts x
  unfolding not_at
  not_sound ts x h = choice (is_word k.Not ts) _ _ _ h
      (λ b h1. step (test_at n below (drop 1 ts)) _ _ h1 (λ a ea ha. not_glued ts a x (word_is k.Not ts b) (test_sound (drop 1 ts) a ea) ha))
      (λ b h1. let d = test_sound ts x h1 in (maybe_not None d.0, d.1, d.2))

  ands_glued : (before : Condition) (ts : List Token) (a x : Condition × List Token) → (w : Text) × (t.Key k.And w ∷ drop 1 ts ≡ ts)
      → Wrote write_not not_tree (drop 1 ts) a → Wrote write_ands (ands_tree (is.And before a.0)) a.1 x → Wrote write_ands (ands_tree before) ts x
  ands_glued before ts a x (w, ew) (d, ed, td) (e, ee, te) = (and w d e, rw (ee, ed) ew, rw td te)

  ands_sound : (j : ℕ) (before : Condition) (ts : List Token) (x : Condition × List Token) → ands_at n below j before ts ≡ Some x → Wrote write_ands (ands_tree before) ts x
  unfolding ands_at
  ands_sound zero before ts x h = nothing write_ands (ands_tree before) no_ands before ts x h refl refl
  ands_sound (suc j) before ts x h = choice (is_word k.And ts) _ _ _ h
      (λ b h1. step (not_at n below (drop 1 ts)) _ _ h1 (λ a ea ha. ands_glued before ts a x (word_is k.And ts b) (not_sound (drop 1 ts) a ea) (ands_sound j _ a.1 x ha)))
      (λ b h1. nothing write_ands (ands_tree before) no_ands before ts x h1 refl refl)

  and_glued : (ts : List Token) (a x : Condition × List Token) → Wrote write_not not_tree ts a → Wrote write_ands (ands_tree a.0) a.1 x → Wrote write_and and_tree ts x
  and_glued ts a x (d, ed, td) (e, ee, te) = (conj d e, rw ee ed, rw td te)

  and_sound : (ts : List Token) (x : Condition × List Token) → and_at n below ts ≡ Some x → Wrote write_and and_tree ts x
  unfolding and_at
  and_sound ts x h = step (not_at n below ts) _ _ h (λ a ea ha. and_glued ts a x (not_sound ts a ea) (ands_sound (length a.1) a.0 a.1 x ha))

  ors_glued : (before : Condition) (ts : List Token) (a x : Condition × List Token) → (w : Text) × (t.Key k.Or w ∷ drop 1 ts ≡ ts)
      → Wrote write_and and_tree (drop 1 ts) a → Wrote write_ors (ors_tree (is.Or before a.0)) a.1 x → Wrote write_ors (ors_tree before) ts x
  ors_glued before ts a x (w, ew) (d, ed, td) (e, ee, te) = (or w d e, rw (ee, ed) ew, rw td te)

  ors_sound : (j : ℕ) (before : Condition) (ts : List Token) (x : Condition × List Token) → ors_at n below j before ts ≡ Some x → Wrote write_ors (ors_tree before) ts x
  unfolding ors_at
  ors_sound zero before ts x h = nothing write_ors (ors_tree before) no_ors before ts x h refl refl
  ors_sound (suc j) before ts x h = choice (is_word k.Or ts) _ _ _ h
      (λ b h1. step (and_at n below (drop 1 ts)) _ _ h1 (λ a ea ha. ors_glued before ts a x (word_is k.Or ts b) (and_sound (drop 1 ts) a ea) (ors_sound j _ a.1 x ha)))
      (λ b h1. nothing write_ors (ors_tree before) no_ors before ts x h1 refl refl)

  cond_glued : (ts : List Token) (a x : Condition × List Token) → Wrote write_and and_tree ts a → Wrote write_ors (ors_tree a.0) a.1 x → Wrote write_cond cond_tree ts x
  cond_glued ts a x (d, ed, td) (e, ee, te) = (cond d e, rw ee ed, rw td te)

  cond_level_sound : (ts : List Token) (x : Condition × List Token) → cond_level_at n below ts ≡ Some x → Wrote write_cond cond_tree ts x
  unfolding cond_level_at
  cond_level_sound ts x h = step (and_at n below ts) _ _ h (λ a ea ha. cond_glued ts a x (and_sound ts a ea) (ors_sound (length a.1) a.0 a.1 x ha))

pub cond_sound : (n : ℕ) (ts : List Token) (x : Condition × List Token) → cond_at n ts ≡ Some x → Wrote write_cond cond_tree ts x
unfolding cond_at
cond_sound zero ts x h = absurd cc
cond_sound (suc n) ts x h = cond_level_sound n (cond_at n) (cond_sound n) ts x h
