-- Rows that were read whole, and what their judgment says.
use Rattle.std.specs.Prelude.{◌≡◌, ◌⊎◌, ℕ, List}
use Rattle.std.proofs.Common.{inl, inr}
use Rattle.jpa_value.specs.declared.refusal.Cause.{Cause}
use Rattle.jpa_behaviour.specs.Behaviour.{World}
use Rattle.jpa_stored.specs.objects.Sets.{StoredSet}
use Rattle.jpa_rows.specs.rows.Faults.{IsStoreCause}
use Rattle.jpa_rows.specs.rows.Rows.{Rows}
use Rattle.jpa_opening.specs.reader.OfSet.{AreOf, TellsNone}
use Rattle.jpa_questions.specs.row_queries.Unread.{IsDamage}

-- rows of a set are refused for want of memory alone
pub refused_as : (world : World) (found : Rows) (set : StoredSet) (numbers : List ℕ) → AreOf world found set numbers → (e : Cause) → (e ≡ Cause.OutOfMemory) ⊎ TellsNone world found e → IsStoreCause e
refused_as world found set numbers of e (inl memory) = inl memory
refused_as world found set numbers of e (inr none) = absurd (none.none set numbers of)

pub tells_damage : (world : World) (found : Rows) (e : Cause) → (e ≡ Cause.OutOfMemory) ⊎ TellsNone world found e → (e ≡ Cause.OutOfMemory) ⊎ IsDamage e
tells_damage world found e (inl memory) = inl memory
tells_damage world found e (inr none) = inr (none.table, none.bytes, none.damaged)
