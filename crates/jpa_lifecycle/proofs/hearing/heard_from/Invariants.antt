use Rattle.std.proofs.Common.{◌≡◌, ◌≤◌, take, drop, []}
use Rattle.jpa_lifecycle.specs.Callbacks.{heard_from}
use Rattle.jpa_lifecycle.proofs.hearing.heard_from.Given as goal

-- the classes from the lowest so far are kept
abbrev pub invariant-loop-i : goal.invariant-loop-i
invariant-loop-i l = record {
  behind : l.first ≤ l.i;
  rest : heard_from (drop l.first (take l.i l.chain)) l.metamodel (drop l.i l.chain) ≡ heard_from [] l.metamodel l.chain;
}
