-- A value compared with the rows of a subquery (chapters 4.6.9, 4.6.15 and 4.6.16).
use Rattle.std.specs.Prelude.{List, map}
use Rattle.jpql_trees.specs.declared.tree.Against.{Against}
use Rattle.jpql_trees.specs.declared.tree.Comparison.{Comparison}
use Rattle.jpql_meaning.specs.declared.eval.datum.Datum.{Datum}
use Rattle.jpql_meaning.specs.declared.eval.datum.Truth.{Truth}
use Rattle.jpql_meaning.specs.eval.Answers.{Answer, gives, under}
use Rattle.jpql_meaning.specs.eval.Truths.{any3, all3}
use Rattle.jpql_meaning.specs.eval.Data.{compared}
use Rattle.jpql_meaning.specs.eval.Aggregates.{counted, aggregated}

-- whether a comparison holds with any of rows, with all of them, or with what an aggregate gives of
-- them; of no rows ANY is false and ALL true
abbrev pub judged : Against → Comparison → Datum → List Datum → Answer Truth
judged Against.Any op x rows = gives (any3 (map (compared op x) rows))
judged Against.All op x rows = gives (all3 (map (compared op x) rows))
judged (Against.One g distinct) op x rows = under (compared op x) (aggregated g (counted distinct rows))
