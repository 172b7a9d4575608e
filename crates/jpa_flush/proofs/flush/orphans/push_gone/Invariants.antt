use Rattle.std.proofs.Common.{◌≡◌, ◌++◌, drop}
use Rattle.std.specs.Prelude.{not}
use Rattle.std.specs.List.{filter, list_any}
use Rattle.jpa_value.specs.declared.value.Identity.{Identity}
use Rattle.jpa_value.specs.Value.{same_identity}
use Rattle.jpa_flush.proofs.flush.orphans.push_gone.Given as goal

abbrev pub invariant-loop-id : goal.invariant-loop-id
invariant-loop-id l =
    let gone = filter (λ (id : Identity). not (list_any (same_identity id) l.held)) in
    l.orphans ++ gone (drop l.id-index l.before) ≡ l.initial.orphans ++ gone l.before
