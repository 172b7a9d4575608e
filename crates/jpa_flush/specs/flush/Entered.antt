-- The objects of a plan: each has an entry in the context.
use Rattle.std.specs.Prelude.{Bool, ◌==◌, List}
use Rattle.std.specs.List.{list_all, list_any}
use Rattle.jpa_work.specs.declared.context.Entry.{Entry}
use Rattle.jpa_flush.specs.declared.flush.planning.Planned.{Planned}

-- whether a planned object has an entry
abbrev pub has_entry : List Entry → Planned → Bool
has_entry es p = list_any (λ (e : Entry). e.object == p.object) es

-- whether each object of a plan has an entry
abbrev pub are_entered : List Planned → List Entry → Bool
are_entered plan es = list_all (has_entry es) plan
