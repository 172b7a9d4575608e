use Rattle.std.proofs.Common.{◌≡◌, ◌≤◌, false, drop}
use Rattle.jpql_grammar.specs.grammar.Limits.{nests_over}
use Rattle.jpql_text.proofs.text.limits.nests_over.Given as goal

abbrev pub invariant-loop-byte : goal.invariant-loop-byte
invariant-loop-byte l = (l.opened ≤ 32) × (nests_over 32 false 0 l.text ≡ nests_over 32 l.is_quoted l.opened (drop l.byte-index l.text))
