-- What the steps to a mapping's unit refuse.
use Rattle.std.proofs.Common.{◌≡◌, ◌⊎◌, ◌∙◌, inl, inr, refl, sym, subst, ℕ, Bool, cond, true, false, List, Option, Some, None, Result, Ok, Err, IfErr, ok_or}
use Rattle.jpa_value.specs.declared.refusal.Cause.{Cause}
use Rattle.jpa_value.specs.declared.refusal.MappingFault.{MappingFault}
use Rattle.jpa_model.specs.Described.{checked, unit_of}
use Rattle.jpa_model.specs.WellFormed.{is_well_formed}
use Rattle.jpa_model.specs.declared.draft.Draft.{Draft}
use Rattle.jpa_model.specs.declared.unit.PersistenceUnit.{PersistenceUnit}
use Rattle.jpa_description.specs.history.Condition.{checked_history, has_changes, history_of}
use Rattle.jpa_description.specs.declared.history.draft.DraftHistory.{DraftHistory}
use Rattle.serde_json.specs.Data.{Data, null, boolean, number, string, array, object}
use Rattle.jpa_json.specs.readers.JsonOf.{json_of, text_data}
use Rattle.jpa_json.specs.readers.Outcome.{and_then}
use Rattle.jpa_json.specs.mapping.MappingOf.{drafts_of, drafts_in, checked_mapping, mapping_of}
use Rattle.jpa_json.specs.functions.FunctionsIn.{functions_at, functions_in}
use Rattle.jpa.specs.Served.{IsMappingCause}

-- where it refuses, it refuses the mapping
abbrev pub RefusesMapping : {A : Type 0} → Result A Cause → Type 0
RefusesMapping result = IfErr result IsMappingCause

of_fault : {A : Type 0} (fault : MappingFault) (found : Option A) → RefusesMapping (ok_or found (Cause.Mapping fault))
of_fault fault (Some x) = tt
of_fault fault None = inr (fault, refl)

of_steps : {A B : Type 0} (first : Result A Cause) (next : A → Result B Cause) → RefusesMapping first → ((a : A) → RefusesMapping (next a)) → RefusesMapping (and_then first next)
of_steps (Ok a) next here there = there a
of_steps (Err cause) next here there = here

of_check : (draft : Draft) → RefusesMapping (checked draft)
of_check draft = go (is_well_formed draft)
  where
    go : (test : Bool) → RefusesMapping (cond test (Ok (unit_of draft)) (Err (Cause.Mapping MappingFault.Model)))
    go true = tt
    go false = inr (MappingFault.Model, refl)

of_history : (m : PersistenceUnit) (e : DraftHistory) → RefusesMapping (checked_history m e)
of_history m e = go (has_changes m e)
  where
    go : (test : Bool) → RefusesMapping (cond test (Ok (history_of e)) (Err (Cause.Mapping MappingFault.Model)))
    go true = tt
    go false = inr (MappingFault.Model, refl)

of_mapping : (bytes : List ℕ) → RefusesMapping (mapping_of bytes)
unfolding mapping_of drafts_in
of_mapping bytes = of_steps (drafts_in bytes) checked_mapping
    (of_steps (json_of bytes) _ (of_fault MappingFault.Json (text_data bytes)) (λ d. of_fault MappingFault.Shape (drafts_of d)))
    (λ drafts. of_steps (checked drafts.draft) _ (of_check drafts.draft) (λ m. of_steps (checked_history m drafts.history) _ (of_history m drafts.history) (λ h. tt)))

of_functions_at : (json : Data) → RefusesMapping (functions_at json)
of_functions_at null = inr (MappingFault.Shape, refl)
of_functions_at (boolean b) = inr (MappingFault.Shape, refl)
of_functions_at (number n) = inr (MappingFault.Shape, refl)
of_functions_at (string s) = inr (MappingFault.Shape, refl)
of_functions_at (array ds) = inr (MappingFault.Shape, refl)
of_functions_at (object ms) = of_fault MappingFault.Function _

of_functions : (bytes : List ℕ) → RefusesMapping (functions_in bytes)
unfolding functions_in
of_functions bytes = of_steps (json_of bytes) functions_at (of_fault MappingFault.Json (text_data bytes)) of_functions_at

-- a cause that is no want of memory is that of the definition
as_wanted : {A : Type 0} (cause : Cause) (wanted : Result A Cause) → (cause ≡ Cause.OutOfMemory) ⊎ (Err cause ≡ wanted) → RefusesMapping wanted → IsMappingCause cause
as_wanted cause wanted (inl lacks) refuses = inl lacks
as_wanted cause wanted (inr is) refuses = subst RefusesMapping (sym is) refuses

pub mapping_refused : (bytes : List ℕ) (cause : Cause) → (cause ≡ Cause.OutOfMemory) ⊎ (Err cause ≡ mapping_of bytes) → IsMappingCause cause
mapping_refused bytes cause is = as_wanted cause (mapping_of bytes) is (of_mapping bytes)

pub functions_refused : (bytes : List ℕ) (cause : Cause) → (cause ≡ Cause.OutOfMemory) ⊎ (Err cause ≡ functions_in bytes) → IsMappingCause cause
functions_refused bytes cause is = as_wanted cause (functions_in bytes) is (of_functions bytes)

-- a refusal of what is defined as one tells that one, or want of memory
pub told_as_wanted : {A : Type 0} (told cause : Cause) (wanted : Result A Cause) → (told ≡ Cause.OutOfMemory) ⊎ (Err told ≡ wanted) → wanted ≡ Err cause → (told ≡ Cause.OutOfMemory) ⊎ (told ≡ cause)
told_as_wanted told cause wanted (inl lacks) is = inl lacks
told_as_wanted told cause wanted (inr tells) is = inr (let same = tells ∙ is in cc)
