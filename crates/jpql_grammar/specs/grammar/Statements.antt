-- How statements are read from tokens.
use Rattle.std.specs.Prelude.{ℕ, suc, length, Bool, false, List, [], ◌∷◌, drop, Option, Some, None, if◌then◌else◌}
use Rattle.jpql_grammar.specs.declared.grammar.token.Keyword.{Keyword}
use Rattle.jpql_grammar.specs.declared.grammar.token.Keyword.TheVariants as k
use Rattle.jpql_grammar.specs.declared.grammar.token.Mark.TheVariants as m
use Rattle.jpql_grammar.specs.declared.grammar.token.Token.{Token}
use Rattle.jpql_trees.specs.declared.tree.Value.{Value}
use Rattle.jpql_trees.specs.declared.tree.Condition.{Condition}
use Rattle.jpql_trees.specs.declared.tree.SortKey.{SortKey}
use Rattle.jpql_trees.specs.declared.tree.Assignment.{Assignment}
use Rattle.jpql_trees.specs.declared.tree.Query.{Query}
use Rattle.jpql_trees.specs.declared.tree.Query.TheVariants as q
use Rattle.jpql_trees.specs.tree.Steps.{◌>>=◌}
use Rattle.jpql_grammar.specs.grammar.Values.{Read, after, is_word, after_word, optional_word, name_at, path_at}
use Rattle.jpql_grammar.specs.grammar.Values.{list_at}
use Rattle.jpql_grammar.specs.grammar.Values.{value_at}
use Rattle.jpql_grammar.specs.grammar.Conditions.{named_at, optional_name_at, item_at, related_at, clause_at, source_at}
use Rattle.jpql_grammar.specs.grammar.Conditions.{begins_variable, bare_path, cond_at}
use Rattle.jpql_grammar.specs.grammar.Parts.{sorted_by}

-- [ASC | DESC]
abbrev pub direction_at : List Token → Bool × List Token
direction_at ts = if is_word k.Asc ts then (false, drop 1 ts) else optional_word k.Desc ts

-- [GROUP BY one {"," one}], [ORDER BY one {"," one}]
unfoldable pub by_at : {A : Type 0} → Keyword → Read A → Read (List A)
by_at word one ts = if is_word word ts then (after_word k.By (drop 1 ts) >>= λ more. list_at one more)
    else Some ([], ts)

-- a statement after which no tokens are left
abbrev pub where_ended : Query → List Token → Option Query
where_ended q [] = Some q
where_ended q (_ ∷ _) = None

-- `n` is how deep conditions and values may nest
module _ (n : ℕ) where
  -- a clause with a condition, where its word comes next
  abbrev pub filter_at : Keyword → Read (Option Condition)
  filter_at = clause_at (cond_at n)

  -- value [ASC | DESC] (chapter 4.10)
  unfoldable pub key_at : Read SortKey
  key_at ts = value_at n ts >>= λ a. let d = direction_at a.1 in
      Some (record { by = sorted_by (bare_path (begins_variable ts) a.0) a.0; is_descending = d.0 }, d.1)

  -- what follows the word SELECT (chapter 4.2.1)
  unfoldable pub select_at : Read Query
  select_at ts =
      let d = optional_word k.Distinct ts in
      list_at (item_at n) d.1 >>= λ is. after_word k.From is.1 >>= λ more. list_at (source_at (cond_at n) false) more
      >>= λ xs.
      filter_at k.Where xs.1 >>= λ f. by_at k.Group path_at f.1 >>= λ gs. filter_at k.Having gs.1
      >>= λ h. by_at k.Order key_at h.1 >>= λ ks.
      Some (
        q.Select (record {
          is_distinct = d.0;
          items = is.0;
          sources = xs.0;
          filter = f.0;
          groups = gs.0;
          having = h.0;
          order = ks.0;
        }),
        ks.1,
      )

  -- a value, or NULL
  unfoldable pub new_value_at : Read (Option Value)
  new_value_at ts = if is_word k.Null ts then Some (None, drop 1 ts) else value_at n ts >>= λ a. Some (Some a.0, a.1)

  -- var "." name "=" (value | NULL) (chapter 4.11)
  unfoldable pub assignment_at : Read Assignment
  assignment_at ts = related_at ts >>= λ r. after m.Equal r.1 >>= λ more. new_value_at more >>= λ a.
      Some (record { variable = r.0.0; name = r.0.1; value = a.0 }, a.1)

  -- what follows the word UPDATE (chapter 4.11)
  unfoldable pub update_at : Read Query
  update_at ts = name_at ts >>= λ e. named_at e.1 >>= λ w. after_word k.Set w.1 >>= λ more. list_at assignment_at more
      >>= λ all. filter_at k.Where all.1 >>= λ f.
      Some (q.Update e.0 w.0 all.0 f.0, f.1)

  -- what follows the word DELETE (chapter 4.11)
  unfoldable pub delete_at : Read Query
  delete_at ts = after_word k.From ts >>= λ more. name_at more >>= λ e. optional_name_at e.1
      >>= λ w. filter_at k.Where w.1 >>= λ f.
      Some (q.Delete e.0 w.0 f.0, f.1)

  -- a statement (chapter 4.2)
  unfoldable pub statement_at : Read Query
  statement_at ts =
      if is_word k.Select ts then select_at (drop 1 ts)
      else if is_word k.Update ts then update_at (drop 1 ts)
      else if is_word k.Delete ts then delete_at (drop 1 ts)
      else None

  -- the statement that all the tokens are
  unfoldable pub whole_at : List Token → Option Query
  whole_at ts = statement_at ts >>= λ x. where_ended x.0 x.1

-- the statement that all these tokens are; no part of it nests deeper than there are tokens
abbrev pub statement_of : List Token → Option Query
statement_of ts = whole_at (suc (length ts)) ts
