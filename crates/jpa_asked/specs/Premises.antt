-- What code stands on.
use Rattle.std.specs.Prelude.{List}
use Rattle.std.specs.List.{All}
use Rattle.jpa_work.specs.declared.heap.LiveObject.{LiveObject}
use Rattle.jpa_work.specs.heap.Shape.{IsInHeap}
use Rattle.jpa_asked.specs.declared.asked.Binding.{Binding}

-- the objects that are bound stand in the heap
abbrev pub AreInHeap : List LiveObject → List Binding → Type 0
AreInHeap objects = All (λ (b : Binding). IsInHeap objects b.value)
