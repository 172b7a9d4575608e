-- The numbers, names, details and texts of refusals.
use Rattle.std.specs.Prelude.{ℕ, List, ◌++◌, codes, decimal, Option, Some, None}
use Rattle.hex.specs.Hex.{encode_lower}
use Rattle.jpa_value.specs.declared.refusal.Argument.{Argument}
use Rattle.jpa_value.specs.declared.refusal.State.{State}
use Rattle.jpa_value.specs.declared.refusal.PersistenceFault.{PersistenceFault}
use Rattle.jpa_value.specs.declared.refusal.MappingFault.{MappingFault}
use Rattle.jpa_value.specs.declared.refusal.Cause.{Cause}
use Rattle.jpa_value.specs.declared.refusal.Refusal.{Refusal}

-- what is wrong with an argument, as IllegalArgument tells it
abbrev pub argument_name : Argument → List ℕ
argument_name Argument.Entity = codes "entity"
argument_name Argument.Name = codes "name"
argument_name Argument.Type = codes "type"
argument_name Argument.Key = codes "key"
argument_name Argument.Version = codes "version"
argument_name Argument.State = codes "state"
argument_name Argument.Range = codes "range"
argument_name Argument.Syntax = codes "syntax"
argument_name Argument.Typing = codes "typing"
argument_name Argument.Parameter = codes "parameter"
argument_name Argument.Second = codes "second"

-- which state is wrong, as IllegalState tells it
abbrev pub state_name : State → List ℕ
state_name State.Active = codes "active"
state_name State.Inactive = codes "inactive"
state_name State.Unfetched = codes "unfetched"
state_name State.Reference = codes "reference"
state_name State.Statement = codes "statement"

-- what can't be stored, as Persistence tells it
abbrev pub persist_name : PersistenceFault → List ℕ
persist_name PersistenceFault.Key = codes "key"
persist_name PersistenceFault.Null = codes "null"
persist_name PersistenceFault.Reference = codes "reference"
persist_name PersistenceFault.Unique = codes "unique"
persist_name PersistenceFault.Generator = codes "generator"
persist_name PersistenceFault.Version = codes "version"
persist_name PersistenceFault.Converter = codes "converter"
persist_name PersistenceFault.Callback = codes "callback"

-- what is wrong with a mapping, as Mapping tells it
abbrev pub mapping_name : MappingFault → List ℕ
mapping_name MappingFault.Json = codes "json"
mapping_name MappingFault.Shape = codes "shape"
mapping_name MappingFault.Model = codes "model"
mapping_name MappingFault.Function = codes "function"

-- the number of a cause; 14 is that of Rollback
abbrev pub cause_number : Cause → ℕ
cause_number Cause.OutOfMemory = 1
cause_number Cause.StoreFault = 2
cause_number Cause.BadLine = 3
cause_number Cause.NoSuchManager = 4
cause_number Cause.NoSuchObject = 5
cause_number (Cause.IllegalArgument argument) = 6
cause_number (Cause.IllegalState state) = 7
cause_number Cause.TransactionRequired = 8
cause_number Cause.EntityExists = 9
cause_number Cause.EntityNotFound = 10
cause_number Cause.OptimisticLock = 11
cause_number (Cause.Persistence persist) = 12
cause_number (Cause.Listener text) = 13
cause_number Cause.NoResult = 15
cause_number Cause.NonUniqueResult = 16
cause_number Cause.Overflow = 17
cause_number Cause.Busy = 18
cause_number Cause.Limit = 19
cause_number (Cause.Mapping fault) = 20
cause_number (Cause.Damaged table row) = 21

-- the name of a cause
abbrev pub cause_name : Cause → List ℕ
cause_name Cause.OutOfMemory = codes "OutOfMemory"
cause_name Cause.StoreFault = codes "StoreFault"
cause_name Cause.BadLine = codes "BadLine"
cause_name Cause.NoSuchManager = codes "NoSuchManager"
cause_name Cause.NoSuchObject = codes "NoSuchObject"
cause_name (Cause.IllegalArgument argument) = codes "IllegalArgument"
cause_name (Cause.IllegalState state) = codes "IllegalState"
cause_name Cause.TransactionRequired = codes "TransactionRequired"
cause_name Cause.EntityExists = codes "EntityExists"
cause_name Cause.EntityNotFound = codes "EntityNotFound"
cause_name Cause.OptimisticLock = codes "OptimisticLock"
cause_name (Cause.Persistence persist) = codes "Persistence"
cause_name (Cause.Listener text) = codes "Listener"
cause_name Cause.NoResult = codes "NoResult"
cause_name Cause.NonUniqueResult = codes "NonUniqueResult"
cause_name Cause.Overflow = codes "Overflow"
cause_name Cause.Busy = codes "Busy"
cause_name Cause.Limit = codes "Limit"
cause_name (Cause.Mapping fault) = codes "Mapping"
cause_name (Cause.Damaged table row) = codes "Damaged"

-- a damaged row: its table's number, a colon, its bytes in hexadecimal digits
abbrev pub place_text : ℕ → List ℕ → List ℕ
place_text table row = decimal table ++ codes ":" ++ encode_lower row

-- the detail, where there is one
abbrev pub cause_detail : Cause → Option (List ℕ)
cause_detail (Cause.IllegalArgument argument) = Some (argument_name argument)
cause_detail (Cause.IllegalState state) = Some (state_name state)
cause_detail (Cause.Persistence persist) = Some (persist_name persist)
cause_detail (Cause.Listener text) = Some text
cause_detail (Cause.Mapping fault) = Some (mapping_name fault)
cause_detail (Cause.Damaged table row) = Some (place_text table row)
cause_detail _ = None

-- Name, or Name(detail)
abbrev pub with_detail : List ℕ → Option (List ℕ) → List ℕ
with_detail name None = name
with_detail name (Some detail) = name ++ codes "(" ++ detail ++ codes ")"

-- the text of a cause: its name, and its detail if it has one
abbrev pub cause_text : Cause → List ℕ
cause_text cause = with_detail (cause_name cause) (cause_detail cause)

-- the number of a refusal
abbrev pub refusal_number : Refusal → ℕ
refusal_number (Refusal.Because cause) = cause_number cause
refusal_number Refusal.RollbackMarked = 14
refusal_number (Refusal.Rollback cause) = 14

-- the name of a refusal
abbrev pub refusal_name : Refusal → List ℕ
refusal_name (Refusal.Because cause) = cause_name cause
refusal_name Refusal.RollbackMarked = codes "Rollback"
refusal_name (Refusal.Rollback cause) = codes "Rollback"

-- what made a commit roll back is told by its own text
abbrev pub refusal_detail : Refusal → Option (List ℕ)
refusal_detail (Refusal.Because cause) = cause_detail cause
refusal_detail Refusal.RollbackMarked = Some (codes "marked")
refusal_detail (Refusal.Rollback cause) = Some (cause_text cause)

-- the text of a refusal: its name, and its detail if it has one
abbrev pub refusal_text : Refusal → List ℕ
refusal_text refusal = with_detail (refusal_name refusal) (refusal_detail refusal)
