-- What is made of the parts of values and conditions, a list of them at a time.
use Rattle.std.proofs.Common.{rules, ◌≡◌, ◌++◌, Bool, List, map, Option, Some, None, option_map, refl, ◌∙◌}
use Rattle.std.specs.List.{flat_map, list_any}
use Rattle.std.proofs.lemmas.List.Folds.{flat_map-map}
use Rattle.jpa_model.proofs.Distinct.{list_any-map}
use Rattle.jpql_trees.specs.declared.tree.Function.{Function}
use Rattle.jpql_trees.specs.declared.tree.Value.{Value}
use Rattle.jpql_trees.specs.declared.tree.Value.TheVariants as v
use Rattle.jpql_trees.specs.declared.tree.Value.TheFolds as value
use Rattle.jpql_trees.specs.declared.tree.Condition.{Condition}
use Rattle.jpql_trees.specs.declared.tree.Condition.TheFolds as condition
use Rattle.jpql_trees.specs.declared.tree.Block.{Block, out-Block}
use Rattle.jpql_trees.specs.declared.tree.Source.{Source, out-Source}
use Rattle.jpql_trees.specs.tree.Names.{Text}
use Rattle.jpql_types.specs.declared.names.Names.{Names}
use Rattle.jpql_types.specs.Names.{joined_lists, or_nothing, of_variable, in_value, in_item, in_condition, in_filter, in_join, in_source, in_block}
use Rattle.jpql_types.specs.Statements.{has_aggregate, names_variable}

pub joined-map : {A : Type 0} (f : A → List Text) (xs : List A) → joined_lists (map f xs) ≡ flat_map f xs
joined-map f xs = flat_map-map (λ (names : List Text). names) f xs

-- ---- calls

call_parts : (f : Function) (values : List Value) → in_value Names.Parameters (v.Call f values) ≡ joined_lists (map (in_value Names.Parameters) values)
call_parts f values = search (rules, value.the_lemmas)

pub call_names : (f : Function) (values : List Value) → in_value Names.Parameters (v.Call f values) ≡ flat_map (in_value Names.Parameters) values
call_names f values = call_parts f values ∙ joined-map (in_value Names.Parameters) values

call_any : (f : Function) (values : List Value) → has_aggregate (v.Call f values) ≡ list_any (λ a. a) (map has_aggregate values)
call_any f values = search (rules, value.the_lemmas)

pub call_has_aggregate : (f : Function) (values : List Value) → has_aggregate (v.Call f values) ≡ list_any has_aggregate values
call_has_aggregate f values = call_any f values ∙ list_any-map (λ (a : Bool). a) has_aggregate values

call_any_named : (f : Function) (values : List Value) → names_variable (v.Call f values) ≡ list_any (λ a. a) (map names_variable values)
call_any_named f values = search (rules, value.the_lemmas)

pub call_names_variable : (f : Function) (values : List Value) → names_variable (v.Call f values) ≡ list_any names_variable values
call_names_variable f values = call_any_named f values ∙ list_any-map (λ (a : Bool). a) names_variable values

-- ---- nested SELECTs and FROM

filter_names : (which : Names) (filter : Option Condition) → or_nothing (option_map (in_condition which) filter) ≡ in_filter which filter
filter_names which None = refl
filter_names which (Some c) = refl

block_parts : (which : Names) (b : Block)
    → in_block which b ≡ in_item which (out-Block b).item ++ joined_lists (map (in_source which) (out-Block b).sources) ++ or_nothing (option_map (in_condition which) (out-Block b).filter)
block_parts which b = search (rules, condition.the_lemmas)

pub block_names : (which : Names) (b : Block)
    → in_block which b ≡ in_item which (out-Block b).item ++ flat_map (in_source which) (out-Block b).sources ++ in_filter which (out-Block b).filter
block_names which b = rw (block_parts which b) (rw (joined-map (in_source which) (out-Block b).sources) (rw (filter_names which (out-Block b).filter)))

source_parts : (which : Names) (s : Source) → in_source which s ≡ of_variable which (out-Source s).variable ++ joined_lists (map (in_join which) (out-Source s).joins)
source_parts which s = search (rules, condition.the_lemmas)

pub source_names : (which : Names) (s : Source) → in_source which s ≡ of_variable which (out-Source s).variable ++ flat_map (in_join which) (out-Source s).joins
source_names which s = rw (source_parts which s) (rw (joined-map (in_join which) (out-Source s).joins))
