-- What is judged of the rows of a store.
use Rattle.std.specs.Prelude.{◌≡◌, ℕ, List, [], ◌∷◌, take, drop}
use Rattle.jpa_behaviour.specs.Behaviour.{World}
use Rattle.jpa_stored.specs.objects.Sets.{StoredSet}
use Rattle.jpa_rows.specs.rows.Cells.{CanBeHeld}
use Rattle.jpa_rows.specs.rows.Rows.{Rows}
use Rattle.jpa_object_rows.specs.meaning.Sets.{rows_of}
use Rattle.jpa_opening.specs.reader.Sound.{IsSoundRow, AreSoundRows}
use Rattle.jpa_opening.specs.declared.reader.judge.Committed.{Committed}
use Rattle.jpa_opening.specs.declared.reader.judge.Judged.{Judged}

-- these rows are those of the set and of the numbers, which a store can hold
pub record AreHeld (world : World) (rows : Rows) (c : Committed) : Type 0 where
  pub sound : AreSoundRows world rows
  pub held : CanBeHeld world c.set c.numbers
  pub same : rows ≡ rows_of world c.set c.numbers

-- this row is the first that is not sound
abbrev pub StartsUnsound : World → Rows → Type 0
StartsUnsound world [] = ⊥
StartsUnsound world (e ∷ rows) = IsSoundRow world e.0 e.1 → ⊥

-- the rows before this place are sound, and the row there is not
pub record IsFirstDamaged (world : World) (rows : Rows) (place : ℕ) : Type 0 where
  pub before : AreSoundRows world (take place rows)
  pub damaged : StartsUnsound world (drop place rows)

-- each row is sound, and yet they are those of no set and no numbers
pub record AreOfNone (world : World) (rows : Rows) : Type 0 where
  pub sound : AreSoundRows world rows
  pub none : (set : StoredSet) (numbers : List ℕ) → CanBeHeld world set numbers → rows ≡ rows_of world set numbers → ⊥

-- what a judgment says of rows: what they hold, the first damaged one, or that they are of no set
abbrev pub IsJudged : World → Rows → Judged → Type 0
IsJudged world rows (Judged.Held c) = AreHeld world rows c
IsJudged world rows (Judged.Damaged place) = IsFirstDamaged world rows place
IsJudged world rows Judged.Unsound = AreOfNone world rows
