-- What names no variable around it, part by part, as code looks at it.
use Rattle.std.proofs.Common.{◌≡◌, ◌∙◌, refl, ap, sym, ℕ, Bool, true, false, List, [], ◌∷◌, Option, Some, None, map, nat_le}
use Rattle.std.specs.Prelude.{◌&&◌, option_map}
use Rattle.std.specs.List.{list_all}
use Rattle.jpql_trees.specs.declared.tree.Function.{Function}
use Rattle.jpql_trees.specs.declared.typed.typed.TypedValue.{TypedValue, TypedValue-F}
use Rattle.jpql_trees.specs.declared.typed.typed.TypedValue.TheFolds as values
use Rattle.jpql_trees.specs.declared.typed.typed.TypedValue.TheOpen as part
use Rattle.jpql_trees.specs.declared.typed.typed.TypedValue.TheVariants as v
use Rattle.jpql_trees.specs.declared.typed.typed.TypedValue.TheViews.{roll-TypedValue}
use Rattle.jpql_trees.specs.declared.typed.typed.TypedCondition.{TypedCondition}
use Rattle.jpql_trees.specs.declared.typed.typed.TypedCondition.TheOpen.{TypedBlock-F, TypedJoin-F, TypedSource-F}
use Rattle.jpql_trees.specs.declared.typed.typed.TypedCondition.TheViews.{out-TypedBlock, out-TypedJoin, out-TypedSource, roll-out-TypedBlock, roll-out-TypedJoin, roll-out-TypedSource}
use Rattle.jpql_trees.specs.declared.typed.typed.TypedCondition.TheFolds as folds
use Rattle.jpql_trees.specs.declared.typed.typed.TypedBlock.{TypedBlock, roll-TypedBlock}
use Rattle.jpql_trees.specs.declared.typed.typed.TypedJoin.{TypedJoin, roll-TypedJoin}
use Rattle.jpql_trees.specs.declared.typed.typed.TypedSource.{TypedSource, roll-TypedSource}
use Rattle.jpql_meaning.specs.plan.Alone.{value_step, condition_step, block_step, join_step, source_step, is_alone_value, is_alone, is_alone_block, is_alone_join, is_alone_source, is_alone_origin, is_any_alone}
use Rattle.jpql_run.proofs.CalmValues.{all_made}

module _ (n : ℕ) where
  value_at : (w : TypedValue-F TypedValue) → is_alone_value n (roll-TypedValue w) ≡ value_step n (values.map-TypedValue TypedValue Bool (is_alone_value n) w)
  value_at w = values.fold-roll-TypedValue Bool (value_step n) w

  pub alone_of_call : (f : Function) (all : List TypedValue) → is_alone_value n (v.Call f all) ≡ list_all (is_alone_value n) all
  alone_of_call f all = ap (is_alone_value n) (sym (v.rolls-Call f all)) ∙ value_at (part.Call f all) ∙ all_made (is_alone_value n) all

  -- a condition where there is one
  abbrev pub alone_if : Option TypedCondition → Bool
  alone_if c = is_any_alone (option_map (is_alone n) c)

  abbrev block_parts : TypedBlock-F TypedCondition TypedBlock TypedJoin TypedSource → TypedBlock-F Bool Bool Bool Bool
  block_parts w = folds.map-TypedBlock TypedCondition TypedBlock TypedJoin TypedSource Bool Bool Bool Bool (is_alone n) (is_alone_block n) (is_alone_join n) (is_alone_source n) w

  block_at : (w : TypedBlock-F TypedCondition TypedBlock TypedJoin TypedSource) → is_alone_block n (roll-TypedBlock w) ≡ block_step n (block_parts w)
  block_at w = folds.fold-roll-TypedBlock Bool Bool Bool Bool (condition_step n) (block_step n) (join_step n) (source_step n) w

  block_of : (item : TypedValue) (xs : List TypedSource) (c : Option TypedCondition) (w : TypedBlock-F TypedCondition TypedBlock TypedJoin TypedSource) → w ≡ record { item = item; sources = xs; filter = c } →
      block_step n (block_parts w) ≡ (is_alone_value n item && (list_all (is_alone_source n) xs && alone_if c))
  block_of item xs None w e = ap (λ u. block_step n (block_parts u)) e ∙ ap (λ b. is_alone_value n item && (b && true)) (all_made (is_alone_source n) xs)
  block_of item xs (Some c) w e = ap (λ u. block_step n (block_parts u)) e ∙ ap (λ b. is_alone_value n item && (b && is_alone n c)) (all_made (is_alone_source n) xs)

  pub alone_of_block : (b : TypedBlock) → is_alone_block n b ≡ (is_alone_value n (out-TypedBlock b).item && (list_all (is_alone_source n) (out-TypedBlock b).sources && alone_if (out-TypedBlock b).filter))
  alone_of_block b = ap (is_alone_block n) (sym (roll-out-TypedBlock b)) ∙ block_at (out-TypedBlock b) ∙ block_of (out-TypedBlock b).item (out-TypedBlock b).sources (out-TypedBlock b).filter (out-TypedBlock b) refl

  abbrev join_parts : TypedJoin-F TypedCondition TypedBlock TypedJoin TypedSource → TypedJoin-F Bool Bool Bool Bool
  join_parts w = folds.map-TypedJoin TypedCondition TypedBlock TypedJoin TypedSource Bool Bool Bool Bool (is_alone n) (is_alone_block n) (is_alone_join n) (is_alone_source n) w

  join_at : (w : TypedJoin-F TypedCondition TypedBlock TypedJoin TypedSource) → is_alone_join n (roll-TypedJoin w) ≡ join_step n (join_parts w)
  join_at w = folds.fold-roll-TypedJoin Bool Bool Bool Bool (condition_step n) (block_step n) (join_step n) (source_step n) w

  join_of : (c : Option TypedCondition) (w : TypedJoin-F TypedCondition TypedBlock TypedJoin TypedSource) → w.on ≡ c → join_step n (join_parts w) ≡ (nat_le n w.of && alone_if c)
  join_of None w e = ap (λ o. join_step n (join_parts (record w { on = o }))) e
  join_of (Some c) w e = ap (λ o. join_step n (join_parts (record w { on = o }))) e

  pub alone_of_join : (j : TypedJoin) → is_alone_join n j ≡ (nat_le n (out-TypedJoin j).of && alone_if (out-TypedJoin j).on)
  alone_of_join j = ap (is_alone_join n) (sym (roll-out-TypedJoin j)) ∙ join_at (out-TypedJoin j) ∙ join_of (out-TypedJoin j).on (out-TypedJoin j) refl

  source_at : (w : TypedSource-F TypedCondition TypedBlock TypedJoin TypedSource)
      → is_alone_source n (roll-TypedSource w) ≡ source_step n (folds.map-TypedSource TypedCondition TypedBlock TypedJoin TypedSource Bool Bool Bool Bool (is_alone n) (is_alone_block n) (is_alone_join n) (is_alone_source n) w)
  source_at w = folds.fold-roll-TypedSource Bool Bool Bool Bool (condition_step n) (block_step n) (join_step n) (source_step n) w

  pub alone_of_source : (x : TypedSource) → is_alone_source n x ≡ (is_alone_origin n (out-TypedSource x).origin && list_all (is_alone_join n) (out-TypedSource x).joins)
  alone_of_source x =
      ap (is_alone_source n) (sym (roll-out-TypedSource x)) ∙ source_at (out-TypedSource x)
      ∙ ap (λ b. is_alone_origin n (out-TypedSource x).origin && b) (all_made (is_alone_join n) (out-TypedSource x).joins)
