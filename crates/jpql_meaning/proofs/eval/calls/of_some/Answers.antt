use Rattle.std.proofs.Common.{◌≡◌, refl, List, [], ◌∷◌, ◌≤◌, length, map, arith}
use Rattle.jpql_trees.specs.declared.tree.Function.{Function}
use Rattle.jpql_meaning.specs.declared.eval.seen.Seen.{Seen}
use Rattle.jpql_meaning.specs.eval.Answers.{gives}
use Rattle.jpql_meaning.specs.eval.Calls.{of_some}
use Rattle.jpql_meaning.specs.eval.Data.{null}
use Rattle.jpql_meaning.specs.eval.Seen.{seen}
use Rattle.jpql_meaning.proofs.eval.calls.of_some.Goals as goal

-- of four and more
of_more : (f : Function) (all : List Seen) → 4 ≤ length all → of_some f (map seen all) ≡ gives null
of_more f [] h = absurd (omega arith)
of_more f (a ∷ []) h = absurd (omega arith)
of_more f (a ∷ b ∷ []) h = absurd (omega arith)
of_more f (a ∷ b ∷ c ∷ []) h = absurd (omega arith)
of_more f (a ∷ b ∷ c ∷ d ∷ all) h = refl

pub returns-in-len4-up : goal.returns-in-len4-up
returns-in-len4-up c = of_more c.args.function c.args.all.now c.in-len4-up.len_at_least
