-- A look at the row of the revision, and then what is asked.
use Rattle.std.specs.Prelude.{◌≡◌, ℕ, List, [], Result, Ok, Err}
use Rattle.std.proofs.Common.{ap, inl, refl, subst, sym, ◌∙◌}
use Rattle.jpa_value.specs.declared.refusal.Cause.{Cause}
use Rattle.jpa_behaviour.specs.Behaviour.{World}
use Rattle.jpa_stored.specs.objects.Sets.{StoredSet}
use Rattle.jpa_rows.specs.overlay.Overlay.{Changes, rows_under}
use Rattle.jpa_rows.specs.declared.rows.reader.RowReader.{Ghosts}
use Rattle.jpa_rows.specs.rows.Faults.{faults_after}
use Rattle.jpa_rows.specs.rows.Rows.{Rows}
use Rattle.jpa_opening.specs.reader.OfSet.{AreOf}
use Rattle.jpa_model.specs.declared.unit.PersistenceUnit.{PersistenceUnit}
use Rattle.jpa_object_rows.specs.meaning.Raw.{AreRowsOf}
use Rattle.jpa_rows.specs.rows.Tables.{schema_of}
use Rattle.jpa_questions.specs.row_queries.Seen.{SeesRows, SeesSet}
use Rattle.jpa_rows.specs.rows.Looks.{LooksAtOneRow, LooksOnly}
use Rattle.jpa_rows.proofs.rows.Looks.{done, looks_then, looks_told}
use Rattle.jpa_questions.specs.questions.Asking.{LooksAtTwoRows}

-- want of memory counts no fault
pub memory_none : (A : Type 0) (e : Cause) → e ≡ Cause.OutOfMemory → (n : ℕ) → faults_after {T = A} (Err e) n ≡ n
memory_none A e is n = subst (λ x. faults_after {T = A} (Err x) n ≡ n) (sym is) refl

module _ {S A B : Type 0} (store : Ghosts S) (old mid new : S) where
  -- two looks, of which the first is answered
  pub looks_both : (x : A) (first : Result A Cause) (r : Result B Cause) → first ≡ Ok x → LooksOnly store first old mid → LooksOnly store r mid new → LooksOnly store r old new
  looks_both x first r is one two = looks_then store r old mid new (looks_told store first done old mid one (one.told ∙ ap (λ s. faults_after s (store.faults old)) is)) two

module _ {S : Type 0} (store : Ghosts S) (old mid new : S) where
  pub rows_both : LooksAtOneRow store old mid → LooksAtOneRow store mid new → LooksAtTwoRows store old new
  rows_both one two = record { between = store.row_selects mid; first = one.row; second = two.row; tables = two.tables ∙ one.tables }

pub rows_first : {S : Type 0} (store : Ghosts S) (old mid : S) → LooksAtOneRow store old mid → LooksAtTwoRows store old mid
rows_first store old mid one = record { between = store.row_selects mid; first = one.row; second = inl refl; tables = one.tables }

-- the set that is seen first is seen afterwards
pub sees_then : {S : Type 0} (store : Ghosts S) (world : World) (changes : Changes) (old mid : S) (set : StoredSet) (numbers : List ℕ) → changes ≡ [] → ((rows : Rows) → store.holds old rows → store.holds mid rows)
    → SeesSet store world [] old set numbers → SeesSet store world changes mid set numbers
sees_then store world changes old mid set numbers none kept sees = record {
  rows = sees.rows;
  rising = sees.rising;
  held = kept sees.rows sees.held;
  of = subst (λ (ch : Changes). AreOf world (rows_under ch sees.rows) set numbers) (sym none) sees.of;
}

-- and so are the rows
abbrev pub rows_seen_then : {S : Type 0} (store : Ghosts S) (m : PersistenceUnit) (changes : Changes) (old mid : S) → changes ≡ [] → ((rows : Rows) → store.holds old rows → store.holds mid rows)
    → SeesRows store m [] old → SeesRows store m changes mid
rows_seen_then store m changes old mid none kept sees = record {
  rows = sees.rows;
  rising = sees.rising;
  held = kept sees.rows sees.held;
  named = subst (λ (ch : Changes). AreRowsOf (schema_of m) (rows_under ch sees.rows)) (sym none) sees.named;
}
