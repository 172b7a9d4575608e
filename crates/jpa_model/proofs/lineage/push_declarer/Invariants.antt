use Rattle.std.proofs.Common.{◌≡◌, ◌++◌, map, drop}
use Rattle.jpa_model.proofs.lineage.push_declarer.Given as goal

abbrev pub invariant-loop-relation : goal.invariant-loop-relation
invariant-loop-relation l =
    l.declarers ++ map (λ r. l.class) (drop l._relation-index l.relations) ≡ l.fn.declarers ++ map (λ r. l.class) l.relations
