-- What a commit leaves of the marks of its manager: of objects that leave, and of what is calm and
-- linked once locks are over, none (Jakarta Persistence 3.1, chapters 3.2.4 and 3.4).
use Rattle.std.specs.Prelude.{◌≡◌, ◌<◌, ◌⊎◌, ◌||◌, ℕ, Bool, true, false, length, slice_index_or}
use Rattle.std.specs.List.{list_all}
use Rattle.jpa_model.specs.declared.unit.PersistenceUnit.{PersistenceUnit}
use Rattle.jpa_work.specs.declared.context.Entry.{Entry}
use Rattle.jpa_work.specs.context.Marks.{Marks, is_listed, is_marked}
use Rattle.jpa_work.specs.context.Work.{Work, is_removed, state_of, unlocked}
use Rattle.jpa_flush.specs.flush.Marked.{is_calm, is_linked, is_linked_if_managed}

-- the object leaves, or once unlocked it is calm and linked
abbrev pub IsOver : PersistenceUnit → Work → Entry → Type 0
IsOver m w e = (is_removed (state_of w e.object) ≡ true)
    ⊎ ((is_calm m w (unlocked e) ≡ true) × (is_linked m w e.object ≡ true))

-- of the entry at a place that is so, or its object is marked
abbrev pub IsSeenAt : PersistenceUnit → Work → Marks → ℕ → Type 0
IsSeenAt m w k p =
    (d : Entry) → IsOver m w (slice_index_or w.context p d) ⊎ (is_marked k (slice_index_or w.context p d).object ≡ true)

-- of each of these objects something is left to look at
abbrev pub AreCalledFor : PersistenceUnit → Work → Marks → Type 0
AreCalledFor m w k =
    (n : ℕ) → is_listed k.objects n ≡ true → (i : ℕ) × (i < length w.context)
    × ((d : Entry) → ((slice_index_or w.context i d).object ≡ n) × (IsOver m w (slice_index_or w.context i d) → ⊥))

-- an entry of which nothing is left to look at has no mark, unless each object is marked
abbrev pub LeavesNoMark : PersistenceUnit → Work → Marks → Type 0
LeavesNoMark m w k =
    k.all ≡ false → (i : ℕ) (d : Entry) → i < length w.context → IsOver m w (slice_index_or w.context i d) →
    is_marked k (slice_index_or w.context i d).object ≡ false

-- what is marked stays so
abbrev pub MarksMore : Marks → Marks → Type 0
MarksMore old new = (n : ℕ) → is_marked old n ≡ true → is_marked new n ≡ true

-- each managed object of the context that is not marked is linked
abbrev pub are_linked_unless_marked : PersistenceUnit → Work → Marks → Bool
are_linked_unless_marked m w k =
    list_all (λ (e : Entry). is_marked k e.object || is_linked_if_managed m w e.object) w.context
