use Rattle.std.proofs.Common.{◌≡◌, drop}
use Rattle.std.specs.List.{list_any}
use Rattle.jpa_value.specs.Value.{same_identity}
use Rattle.jpql_run.specs.Objects.{identities}
use Rattle.jpql_run.proofs.collections.is_among.Given as goal

abbrev pub invariant-loop-other : goal.invariant-loop-other
invariant-loop-other l = list_any (same_identity l.id) (identities l.ids) ≡ list_any (same_identity l.id) (identities (drop l.other-index l.ids))
