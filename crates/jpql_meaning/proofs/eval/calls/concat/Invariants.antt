use Rattle.std.proofs.Common.{◌≡◌, ◌++◌, drop, map, option_map, string_bytes}
use Rattle.jpql_meaning.specs.eval.Calls.{joined_texts}
use Rattle.jpql_meaning.specs.eval.Seen.{seen}
use Rattle.jpql_meaning.proofs.eval.calls.concat.Given as goal

abbrev pub invariant-loop-one : goal.invariant-loop-one
invariant-loop-one l = joined_texts (map seen l.all) ≡ option_map (λ more. string_bytes l.joined ++ more) (joined_texts (map seen (drop l.one-index l.all)))
