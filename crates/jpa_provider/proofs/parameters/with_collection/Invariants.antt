use Rattle.std.proofs.Common.{◌≡◌, ◌++◌, suc, drop, length}
use Rattle.std.specs.Option.{option_map}
use Rattle.jpa_machine.specs.machine.Querying.{bindings_in, values_from}
use Rattle.jpa_provider.proofs.parameters.with_collection.Given as goal

-- those so far, before what the rest makes, are all
abbrev pub invariant-loop-place : goal.invariant-loop-place
invariant-loop-place l =
    let count = length l.work.objects.now in
    option_map (λ bs. l.all ++ bs) (bindings_in count (values_from l.name (suc l.place) (drop l.place l.values))) ≡ option_map (λ bs. l.fn.bindings ++ bs) (bindings_in count (values_from l.name 1 l.values))
