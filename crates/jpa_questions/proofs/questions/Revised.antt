-- The rows of a set that a store can hold are of the unit's revision, and what a refusal of another one says.
use Rattle.std.specs.Prelude.{◌≡◌, ◌⊎◌, ◌==◌, ℕ, Bool, true, false, not, is_some, Result, Ok, Err, IfErr}
use Rattle.std.proofs.Common.{refl, sym, ap, subst, ◌∙◌, inl, inr, cond, List, []}
use Rattle.std.specs.FinMap.{find, put}
use Rattle.jpa_value.specs.Value.{identity_cmp}
use Rattle.jpa_value.specs.declared.refusal.Cause.{Cause}
use Rattle.jpa_model.specs.declared.unit.PersistenceUnit.{PersistenceUnit}
use Rattle.jpa_model.specs.Kept.{IsDescribed}
use Rattle.jpa_behaviour.specs.Behaviour.{World}
use Rattle.jpa_stored.specs.objects.Sets.{StoredSet}
use Rattle.jpa_object_rows.specs.meaning.Objects.{number_id, number_row}
use Rattle.jpa_rows.specs.rows.NextNumbers.{base_of}
use Rattle.jpa_object_rows.specs.meaning.Sets.{rows_of}
use Rattle.jpa_object_rows.proofs.meaning.Bytes.Described.{unambiguous}
use Rattle.jpa_object_rows.proofs.meaning.Bytes.Rounds.{held_storable}
use Rattle.jpa_object_rows.proofs.meaning.Marked.{revision_found}
use Rattle.jpa_rows.specs.rows.Cells.{CanBeHeld}
use Rattle.jpa_rows.specs.rows.Faults.{IsStoreCause}
use Rattle.jpa_rows.specs.rows.Rows.{Rows}
use Rattle.jpql_meaning.specs.eval.Answers.{Answer}
use Rattle.jpa_questions.specs.row_queries.Answered.{Answers, Refuses, IsAskingCause}
use Rattle.jpa_questions.specs.questions.Revisions.{AreOfRevision, IsOtherRevision, TellsMark, TellsRevision}

base_marked : (m : PersistenceUnit) (first : Bool) → m.revision == 1 ≡ first → is_some (find identity_cmp (number_id 0) (base_of m)) ≡ not first
base_marked m true e = ap (λ b. is_some (find identity_cmp (number_id 0) (cond b [] (put identity_cmp (number_id 0) (number_row m.revision) [])))) e
base_marked m false e = ap (λ b. is_some (find identity_cmp (number_id 0) (cond b [] (put identity_cmp (number_id 0) (number_row m.revision) [])))) e

pub of_revision : (world : World) → IsDescribed world.model → (set : StoredSet) (numbers : List ℕ) → CanBeHeld world set numbers → (rows : Rows) → rows ≡ rows_of world set numbers → AreOfRevision world.model rows
of_revision world described set numbers held rows is =
    ap (λ (rs : Rows). is_some (find identity_cmp (number_id 0) rs)) is
    ∙ ap is_some (revision_found world (unambiguous world.model described) set numbers (held_storable world set numbers held))
    ∙ base_marked world.model (world.model.revision == 1) refl

-- ---- what a look at the row of the revision tells

true_false : true ≡ false → ⊥
true_false e = cc

apart : (b c : Bool) → b ≡ c → b ≡ not c → ⊥
apart b true same other = true_false (sym same ∙ other)
apart b false same other = true_false (sym other ∙ same)

-- the mark was judged of the row that stands there
pub told_revision : {A : Type 0} (m : PersistenceUnit) (rows : Rows) (r : Result A Cause) (there : Bool) → there ≡ is_some (find identity_cmp (number_id 0) rows) → TellsMark m there r → TellsRevision m rows r
told_revision m rows (Ok x) there is mark = sym is ∙ mark
told_revision m rows (Err cause) there is (inl memory) = inl (inl memory)
told_revision m rows (Err cause) there is (inr (other, mark)) = inr (other, λ of. apart (is_some (find identity_cmp (number_id 0) rows)) (m.revision == 1) (sym is ∙ mark) of)

-- ---- a refusal of the revision, passed on

module _ (m : PersistenceUnit) (rows : Rows) (cause : Cause) (told : IsStoreCause cause ⊎ (IsOtherRevision cause × (AreOfRevision m rows → ⊥))) where
  pub refused_answer : {B : Type 0} (wanted : Answer B) → AreOfRevision m rows → Answers (Err cause) wanted
  refused_answer wanted of = by told
    where
      by : IsStoreCause cause ⊎ (IsOtherRevision cause × (AreOfRevision m rows → ⊥)) → Refuses cause wanted
      by (inl (inl memory)) = subst (λ c. Refuses c wanted) (sym memory) tt
      by (inl (inr fault)) = subst (λ c. Refuses c wanted) (sym fault) tt
      by (inr (other, none)) = absurd (none of)

  pub refused_revision : IsStoreCause cause ⊎ IsOtherRevision cause
  refused_revision = elim told [ inl store ↦ inl store | inr other ↦ inr other.0 ]

  pub refused_asking : IsAskingCause cause
  refused_asking = elim told [ inl store ↦ inl (inl store) | inr other ↦ inl (inr (0, _, other.0)) ]
