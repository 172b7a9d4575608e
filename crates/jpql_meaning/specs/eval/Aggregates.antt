-- Aggregates (chapter 4.9.5): nulls are left out, then with DISTINCT what came before; a sum is
-- judged by its exact total.
use Rattle.std.specs.Prelude.{ℤ, pos, ◌+ℤ◌, Bool, false, not, List, [], ◌∷◌, length, unwrap_or, if◌then◌else◌}
use Rattle.std.specs.List.{list_any, filter}
use Rattle.jpql_trees.specs.declared.tree.Aggregate.{Aggregate}
use Rattle.jpql_trees.specs.declared.tree.Comparison.{Comparison}
use Rattle.jpql_meaning.specs.declared.eval.datum.Datum.{Datum}
use Rattle.jpql_meaning.specs.eval.Answers.{Answer, gives}
use Rattle.jpql_meaning.specs.eval.Data.{null, is_nothing, same_datum, datum_cmp, holds}
use Rattle.jpql_meaning.specs.eval.Numbers.{number, integer}
use Rattle.jpql_meaning.specs.eval.Calls.{integer_in}

-- without those that are the same as one before
abbrev pub first_ones : {A : Type 0} → (A → A → Bool) → List A → List A → List A
first_ones same seen [] = []
first_ones same seen (a ∷ all) =
    if list_any (λ b. same b a) seen then first_ones same seen all else (a ∷ first_ones same (a ∷ seen) all)

-- a list without those that are the same as one before
abbrev pub once : {A : Type 0} → (A → A → Bool) → List A → List A
once same = first_ones same []

-- what an aggregate goes by: all that is not null, under DISTINCT each once (chapter 4.9.5)
abbrev pub counted : Bool → List Datum → List Datum
counted distinct all =
    let there = filter (λ a. not (is_nothing a)) all in if distinct then once same_datum there else there

-- the sum of integers, however great; other data count as 0
abbrev pub total : List Datum → ℤ
total [] = pos 0
total (a ∷ all) = unwrap_or (integer_in a) (pos 0) +ℤ total all

-- the one that comes first by a comparison; of none it is null
abbrev pub best_of : Comparison → Datum → List Datum → Datum
best_of by a [] = a
best_of by a (b ∷ all) = if holds by false (datum_cmp b a) then best_of by b all else best_of by a all

-- the one that comes first by a comparison; of none it is null
abbrev pub best : Comparison → List Datum → Datum
best by [] = null
best by (a ∷ all) = best_of by a all

-- SUM: Overflow where the total leaves 64 bits; of none it is null (chapter 4.9.5)
abbrev pub sum : List Datum → Answer Datum
sum [] = gives null
sum (a ∷ all) = integer (total (a ∷ all))

-- what an aggregate gives of these data (chapter 4.9.5)
abbrev pub aggregated : Aggregate → List Datum → Answer Datum
aggregated Aggregate.Count all = gives (number (pos (length all)))
aggregated Aggregate.Sum all = sum all
aggregated Aggregate.Min all = gives (best Comparison.Less all)
aggregated Aggregate.Max all = gives (best Comparison.Greater all)
