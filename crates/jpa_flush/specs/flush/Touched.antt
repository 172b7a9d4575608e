-- The entries at which a walk looks in the place of all: those of marked objects, and what a call
-- noted since it began.
use Rattle.std.specs.Prelude.{◌≡◌, ◌<◌, ◌≤◌, ℕ, true, false, All, List, length, take, Some}
use Rattle.jpa_work.specs.undo.Undo.{put_back}
use Rattle.jpa_work.specs.declared.heap.LiveObject.{LiveObject}
use Rattle.jpa_work.specs.declared.context.Entry.{Entry}
use Rattle.jpa_work.specs.declared.context.work.UnitOfWork.{UnitOfWork}
use Rattle.jpa_work.specs.context.Marks.{is_listed}
use Rattle.jpa_work.specs.context.Places.{entry_place}
use Rattle.jpa_work.specs.context.Undo.{now}
use Rattle.jpa_flush.specs.flush.Marked.{GoesOn, LeadsStill, before}

-- what was among these is so still
abbrev pub Keeps : List ℕ → List ℕ → Type 0
Keeps old new = (k : ℕ) → is_listed old k ≡ true → is_listed new k ≡ true

-- each place within so many that is among these is among those
abbrev pub HaveBelow : ℕ → List ℕ → List ℕ → Type 0
HaveBelow n old new = (k : ℕ) → k < n → is_listed old k ≡ true → is_listed new k ≡ true

-- the places from one on, below another
abbrev pub HaveFrom : ℕ → ℕ → List ℕ → Type 0
HaveFrom first end' places = (k : ℕ) → first ≤ k → k < end' → is_listed places k ≡ true

-- an object's place, where it has an entry
abbrev pub HasPlaceOf : List Entry → List ℕ → ℕ → Type 0
HasPlaceOf es places n = (i : ℕ) → entry_place n es ≡ Some i → is_listed places i ≡ true

-- the place of each of these objects
abbrev pub HavePlacesOf : List Entry → List ℕ → List ℕ → Type 0
HavePlacesOf es places objects = (n : ℕ) → is_listed objects n ≡ true → HasPlaceOf es places n

-- notes of what was overwritten of a list, as undoing gives it and as it is
abbrev pub AreNotesOf : {T : Type 0} → List T → List T → List (ℕ × T) → Type 0
AreNotesOf since now os = since ≡ take (length since) (put_back now os)

-- the places of each marked object, of each object and entry that was overwritten, and of each
-- entry that was added
pub record HaveTouched (u : UnitOfWork) (places : List ℕ) : Type 0 where
  pub marked : HavePlacesOf u.context.now places (u.context.marks).objects
  pub objects : (os : List (ℕ × LiveObject)) × AreNotesOf u.objects.since u.objects.now os
      × All (λ o. HasPlaceOf u.context.now places o.0) os
  pub entries : (os : List (ℕ × Entry)) × AreNotesOf u.context.since u.context.now os
      × All (λ o. is_listed places o.0 ≡ true) os
  pub added : HaveFrom (length u.context.since) (length u.context.now) places

-- what the marks say is known: not each object is marked, and none that is not new took another key
pub record IsKnown (u : UnitOfWork) : Type 0 where
  pub some : (u.context.marks).all ≡ false
  pub names : GoesOn (before u) (now u)

-- so is where the others lead, and that may be led to still
pub record IsLinkedStill (u : UnitOfWork) : Type 0 where
  pub linked : (u.context.marks).linked ≡ true
  pub leads : LeadsStill (before u) (now u)
