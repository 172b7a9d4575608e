-- An object that is taken out and put back detached.
use Rattle.std.proofs.Common.{◌≡◌, ◌∙◌, ℕ, List, ap, sym, Some}
use Rattle.std.specs.Prelude.{slice_get, slice_set}
use Rattle.std.proofs.lemmas.List.{set-set}
use Rattle.std.proofs.lemmas.Option.{get_or_from_slice_get}
use Rattle.jpa_work.specs.declared.heap.Life.{Life}
use Rattle.jpa_work.specs.declared.heap.LiveObject.{LiveObject}
use Rattle.jpa_work.specs.heap.Objects.{no_object, object_at, with_life}

pub put_back : (os : List LiveObject) (n : ℕ) (x blank : LiveObject) → slice_get os n ≡ Some x →
    slice_set (slice_set os n blank) n (record x { life = Life.Detached }) ≡ slice_set os n (with_life (object_at os n) Life.Detached)
put_back os n x blank at =
    set-set os n blank (record x { life = Life.Detached })
    ∙ ap (λ (y : LiveObject). slice_set os n (record y { life = Life.Detached })) (sym (get_or_from_slice_get os n x no_object at))
