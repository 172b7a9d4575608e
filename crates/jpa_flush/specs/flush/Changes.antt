-- What a plan changes of a set: where it writes or takes out, and of which class what stood there
-- was.
use Rattle.std.specs.Prelude.{◌≡◌, ℕ, T, true, All, List, [], ◌∷◌, map, Option, Some, None}
use Rattle.std.specs.List.{flat_map}
use Rattle.std.specs.FinMap.Entries.{is_sorted}
use Rattle.jpa_value.specs.declared.value.Identity.{Identity}
use Rattle.jpa_value.specs.Value.{identity_cmp}
use Rattle.jpa_model.specs.declared.unit.PersistenceUnit.{PersistenceUnit}
use Rattle.jpa_stored.specs.objects.Sets.{StoredSet, IsSound}
use Rattle.jpa_constraints.specs.declared.change.Change.{Change}
use Rattle.jpa_work.specs.context.Work.{Work, row_at}
use Rattle.jpa_operations.specs.fetch.Grown.{IsReady}
use Rattle.jpa_operations.specs.ops.Names.{has_distinct_entries}
use Rattle.jpa_flush.specs.declared.flush.planning.Planned.{Planned}
use Rattle.jpa_flush.specs.declared.flush.writing.Written.{Written}
use Rattle.jpa_flush.specs.flush.Plan.{class_there, write_each, written_by}

-- an identity with the class of what stood there, where there is an identity
abbrev pub place_in : Option Identity → Option ℕ → List (Identity × Option ℕ)
place_in None class = []
place_in (Some id) class = (id, class) ∷ []

-- where something was written or taken out, each with the class of what stood there
abbrev pub places_of : List Written → List (Identity × Option ℕ)
places_of xs = flat_map (λ (x : Written). place_in x.id x.class_before) xs

-- where a change is, with the class of what stood there
abbrev pub place_of : Change → Identity × Option ℕ
place_of c = (c.id.now, c.class_before)

-- the changes are where something was written or taken out
abbrev pub AreChangesOf : List Written → List Change → Type 0
AreChangesOf xs changes = map place_of changes ≡ places_of xs

-- the set is what a plan made of the sound one that a work saw, and these are its written objects
pub record IsWritten (m : PersistenceUnit) (w : Work) (plan : List Planned) (xs : List Written) (after : StoredSet)
    : Type 0 where
  pub rising : T (is_sorted identity_cmp w.view)
  pub sound : IsSound m w.view
  pub objects : xs ≡ written_by plan
  pub classes : All (λ x. x.class_before ≡ class_there (row_at w x.id)) xs
  pub set : after ≡ write_each plan w.view

-- what writing stands on: the work and its set are in order, and nothing comes twice
pub record IsWritable (m : PersistenceUnit) (w : Work) : Type 0 where
  pub ready : IsReady m w
  pub sound : IsSound m w.view
  pub rising : T (is_sorted identity_cmp w.view)
  pub distinct : has_distinct_entries m w ≡ true
