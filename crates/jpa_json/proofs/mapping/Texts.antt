-- What bytes give, case by case.
use Rattle.std.proofs.Common.{◌≡◌, inl, inr, ℕ, List, Result, Ok, Err, refl, ap}
use Rattle.std.specs.Option.{ok_or}
use Rattle.jpa_value.specs.declared.refusal.Cause.{Cause}
use Rattle.jpa_value.specs.declared.refusal.MappingFault.{MappingFault}
use Rattle.jpa_model.specs.Described.{IsUnlessMemory}
use Rattle.serde_json.specs.Data.{Data}
use Rattle.serde_json.specs.View.{view}
use Rattle.serde_json.specs.declared.value.Value.{Value}
use Rattle.jpa_json.specs.readers.JsonOf.{text_data}
use Rattle.jpa_json.specs.readers.Outcome.{Gives, same, or_refuse, and_then}
use Rattle.jpa_json.specs.declared.readers.unread.Unread.{Unread}
use Rattle.jpa_json.proofs.readers.Refusals.{found, refused}
use Rattle.jpa_json.specs.mapping.MappingOf.{drafts_of, drafts_in, checked_mapping, mapping_of}
use Rattle.jpa_json.specs.declared.mapping.reading.Drafts.{Drafts}
use Rattle.jpa_json.specs.declared.mapping.reading.Mapping.{Mapping}

-- what refuses the first step refuses the whole
pub step_refused : {A B : Type 0} (first : Result A Cause) (next : A → Result B Cause) (cause : Cause) → IsUnlessMemory {A = A} (Err cause) first → IsUnlessMemory {A = B} (Err cause) (and_then first next)
step_refused first next cause (inl memory) = inl memory
step_refused first next cause (inr bad) = inr (ap (λ r. and_then r next) bad)

-- the second step says what the whole says
pub step_taken : {A B : Type 0} (first : Result A Cause) (next : A → Result B Cause) (a : A) (r : Result B Cause) → Ok a ≡ first → IsUnlessMemory r (next a) → IsUnlessMemory r (and_then first next)
step_taken first next a r e h = rw (← e) h

-- a text that is refused is a description that is refused
pub drafts_refused : (bytes : List ℕ) (r : Result Value Unread) (cause : Cause) → Gives view r (text_data bytes) → Err cause ≡ or_refuse (Cause.Mapping MappingFault.Json) r → IsUnlessMemory {A = Drafts} (Err cause) (drafts_in bytes)
unfolding drafts_in
drafts_refused bytes r cause h e = elim (refused view (Cause.Mapping MappingFault.Json) r (text_data bytes) cause h e) [
  | inl memory ↦ inl memory
  | inr bad ↦ inr (ap (λ json. and_then json (λ d. ok_or (drafts_of d) (Cause.Mapping MappingFault.Shape))) bad)
]

shaped : (d : Data) (r : Result Drafts Unread) → Gives same r (drafts_of d) → IsUnlessMemory (or_refuse (Cause.Mapping MappingFault.Shape) r) (ok_or (drafts_of d) (Cause.Mapping MappingFault.Shape))
shaped d (Ok drafts) h = rw h refl
shaped d (Err Unread.Form) h = inr (rw h refl)
shaped d (Err Unread.OutOfMemory) h = inl refl

pub drafts_answered : (bytes : List ℕ) (j : Result Value Unread) (json : Value) (r : Result Drafts Unread) → Gives view j (text_data bytes) → Ok json ≡ or_refuse (Cause.Mapping MappingFault.Json) j → Gives same r (drafts_of (view json))
    → IsUnlessMemory (or_refuse (Cause.Mapping MappingFault.Shape) r) (drafts_in bytes)
unfolding drafts_in
drafts_answered bytes j json r got e h = rw (← found view (Cause.Mapping MappingFault.Json) j (text_data bytes) json got e) (shaped (view json) r h)

-- a description that is refused is a mapping that is refused
pub mapping_refused : (bytes : List ℕ) (cause : Cause) → IsUnlessMemory {A = Drafts} (Err cause) (drafts_in bytes) → IsUnlessMemory {A = Mapping} (Err cause) (mapping_of bytes)
unfolding mapping_of
mapping_refused bytes cause h = step_refused (drafts_in bytes) checked_mapping cause h

pub mapping_answered : (bytes : List ℕ) (drafts : Drafts) (r : Result Mapping Cause) → Ok drafts ≡ drafts_in bytes → IsUnlessMemory r (checked_mapping drafts) → IsUnlessMemory r (mapping_of bytes)
unfolding mapping_of
mapping_answered bytes drafts r e h = step_taken (drafts_in bytes) checked_mapping drafts r e h
