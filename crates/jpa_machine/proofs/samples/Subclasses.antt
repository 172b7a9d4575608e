-- Subclasses in the table of their root: new ones, found by their class and by others, changed and removed, and who hears.
use Rattle.std.specs.Prelude.{codes, ◌≡◌, refl, ℕ, pos, Bool, true, false, Option, Some, None, List, [], ◌∷◌, ◌++◌}
use Rattle.jpa_value.specs.declared.value.Value.{Value}
use Rattle.jpa_value.specs.declared.value.Kind.{Kind}
use Rattle.jpa_value.specs.declared.refusal.Cause.{Cause}
use Rattle.jpa_value.specs.declared.refusal.Argument.{Argument}
use Rattle.jpa_value.specs.declared.refusal.Refusal.{Refusal}
use Rattle.jpa_value.specs.declared.event.LifecycleEvent.{LifecycleEvent}
use Rattle.jpa_model.specs.declared.draft.Draft.{Draft}
use Rattle.jpa_model.specs.declared.draft.DraftAttribute.{DraftAttribute}
use Rattle.jpa_model.specs.declared.draft.DraftEntity.{DraftEntity}
use Rattle.jpa_model.specs.declared.draft.DraftListener.{DraftListener}
use Rattle.jpa_model.specs.declared.draft.DraftOrigin.{DraftOrigin}
use Rattle.jpa_model.specs.declared.draft.DraftVersion.{DraftVersion}
use Rattle.jpa_model.specs.declared.unit.PersistenceUnit.{PersistenceUnit}
use Rattle.jpa_model.specs.Described.{unit_of}
use Rattle.jpa_model.specs.Kept.{IsDescribed}
use Rattle.jpa_behaviour.specs.Behaviour.{World, without_functions}
use Rattle.jpa_rows.specs.rows.Cells.{Cell, rows}
use Rattle.jpa_protocol.specs.declared.call.Call.{Call}
use Rattle.jpa_protocol.specs.declared.event.Told.{Told}
use Rattle.jpa_protocol.specs.declared.reply.Answer.{Answer}
use Rattle.jpa_protocol.specs.declared.reply.Reply.{Reply}
use Rattle.jpa_machine.specs.machine.Machine.{Machine, opened}
use Rattle.jpa_machine.specs.machine.Step.{replies_of, machine_after}
use Rattle.jpa_operations.specs.fetch.Orderly.{IsOrderly}
use Rattle.jpa_machine.proofs.machine.Units.{described_orderly}
use Rattle.jpql_bulk.specs.kept.Fits.{AreInherited}
use Rattle.jpql_bulk.proofs.kept.Inherited.{described_inherited}
use Rattle.jpa_machine.proofs.samples.Sample.{text, int, saw, ok, quiet, no}

-- ---- hierarchies

abbrev root_in : ℕ → Bool → Option DraftVersion → DraftOrigin
root_in table generated version =
    DraftOrigin.Root (record { table = pos table; key = record { name = codes "id"; kind = Kind.Int } ∷ []; embedded = None; generated = generated; version = version })

abbrev class_with : List ℕ → DraftOrigin → List DraftAttribute → DraftEntity
class_with name origin attributes =
    record { name = name; origin = origin; discriminator = None; attributes = attributes; relations = []; listeners = []; callbacks = []; exclude_default = false; exclude_super = false }

abbrev attribute_in : List ℕ → Kind → ℕ → DraftAttribute
attribute_in name kind column = record { name = name; kind = kind; column = pos column; required = false; converter = None }

-- payments by card and by cheque
abbrev payments : Draft
payments =
    record {
      revision = pos 1;
      listeners = [];
      entities =
          class_with (codes "Payment") (root_in 1 true (Some (record { name = codes "version"; column = pos 1 }))) (attribute_in (codes "amount") Kind.Int 2 ∷ [])
          ∷ class_with (codes "Card") (DraftOrigin.Extends (codes "Payment")) (attribute_in (codes "holder") Kind.Text 3 ∷ [])
          ∷ class_with (codes "Cheque") (DraftOrigin.Extends (codes "Payment")) (attribute_in (codes "bank") Kind.Text 4 ∷ []) ∷ [];
    }

abbrev unit : PersistenceUnit
unit = unit_of payments

described : IsDescribed unit
described = (payments, (refl, refl))

pub payments_orderly : IsOrderly unit
payments_orderly = described_orderly unit described

pub payments_inherited : AreInherited unit
payments_inherited = described_inherited unit described

abbrev pub H : World
H = without_functions unit

abbrev pub fresh : Machine
fresh = opened [] (1 ∷ 1 ∷ 1 ∷ [])

abbrev cells_of : Machine → List Cell
cells_of M = rows H M.committed M.stored_numbers

-- ---- what is called and answered

abbrev pub find : List ℕ → ℕ → Call
find class key = Call.Find (pos 1) class (int key ∷ [])

abbrev set : ℕ → List ℕ → List ℕ → Call
set object name bytes = Call.SetValue (pos object) name (text bytes)

abbrev loaded : ℕ → Reply
loaded n = ok (saw LifecycleEvent.PostLoad n ∷ []) (Answer.Object n)

abbrev tells : List Told → Reply
tells events = ok events Answer.Null

abbrev refused : Cause → Reply
refused cause = no [] (Refusal.Because cause)

abbrev unnamed : Reply
unnamed = refused (Cause.IllegalArgument Argument.Name)

-- ---- new ones: the root's generator gives the keys of all, and each has the attributes of its own chain alone

abbrev making : List Call
making =
    Call.CreateEntityManager ∷ Call.NewObject (codes "Card") ∷ Call.SetValue (pos 1) (codes "amount") (int 5) ∷ set 1 (codes "holder") (codes "Ada")
    ∷ Call.NewObject (codes "Cheque") ∷ set 2 (codes "bank") (codes "B") ∷ Call.NewObject (codes "Payment") ∷ set 1 (codes "bank") (codes "B") ∷ set 3 (codes "holder") (codes "Bob")
    ∷ Call.Begin (pos 1) ∷ Call.Persist (pos 1) (pos 1) ∷ Call.Persist (pos 1) (pos 2) ∷ Call.Persist (pos 1) (pos 3) ∷ Call.Commit (pos 1) ∷ Call.Get (pos 2) (codes "id") ∷ []

making_replies : replies_of H fresh making ≡
    ok [] (Answer.Number 1) ∷ ok [] (Answer.Object 1) ∷ quiet ∷ quiet
    ∷ ok [] (Answer.Object 2) ∷ quiet ∷ ok [] (Answer.Object 3) ∷ unnamed ∷ unnamed
    ∷ quiet ∷ tells (saw LifecycleEvent.PrePersist 1 ∷ []) ∷ tells (saw LifecycleEvent.PrePersist 2 ∷ []) ∷ tells (saw LifecycleEvent.PrePersist 3 ∷ [])
    ∷ tells (saw LifecycleEvent.PostPersist 1 ∷ saw LifecycleEvent.PostPersist 2 ∷ saw LifecycleEvent.PostPersist 3 ∷ []) ∷ ok [] (Answer.Value (Value.Int (pos 2))) ∷ []
making_replies = refl

abbrev made : Machine
made = machine_after H fresh making

abbrev number : ℕ → List ℕ
number n = 1 ∷ 128 ∷ 0 ∷ 0 ∷ 0 ∷ 0 ∷ 0 ∷ 0 ∷ n ∷ []

abbrev cell_in : ℕ → ℕ → ℕ → List ℕ → Cell
cell_in table key column bytes = record { table = table; row = number key; column = pos column; bytes = bytes }

abbrev card_cells : ℕ → List ℕ → List Cell
card_cells version holder =
    cell_in 1 1 0 (2 ∷ codes "Card") ∷ cell_in 1 1 1 (number version) ∷ cell_in 1 1 2 (number 5) ∷ cell_in 1 1 3 (2 ∷ holder) ∷ []

abbrev other_cells : List Cell
other_cells =
    cell_in 1 2 0 (2 ∷ codes "Cheque") ∷ cell_in 1 2 1 (number 0) ∷ cell_in 1 2 4 (2 ∷ codes "B") ∷ cell_in 1 3 0 (2 ∷ codes "Payment") ∷ cell_in 1 3 1 (number 0)
    ∷ []

abbrev next_cell : Cell
next_cell = cell_in 0 1 0 (number 4)

made_cells : cells_of made ≡ next_cell ∷ card_cells 0 (codes "Ada") ++ other_cells
made_cells = refl

-- ---- find

-- by its class and those above it; for any other class there is none, and nothing is loaded
finding : replies_of H made
    (Call.Clear (pos 1) ∷ find (codes "Cheque") 1 ∷ find (codes "Payment") 1 ∷ Call.Get (pos 4) (codes "holder") ∷ find (codes "Card") 1 ∷ find (codes "Cheque") 1
    ∷ find (codes "Card") 3 ∷ find (codes "Payment") 3 ∷ find (codes "Card") 3 ∷ find (codes "Payment") 4 ∷ []) ≡
    quiet ∷ quiet ∷ loaded 4 ∷ ok [] (Answer.Value (Value.Text (codes "Ada"))) ∷ ok [] (Answer.Object 4) ∷ quiet
    ∷ quiet ∷ loaded 5 ∷ quiet ∷ quiet ∷ []
finding = refl

referring : replies_of H made
    (Call.GetReference (pos 1) (codes "Payment") (int 2 ∷ []) ∷ Call.GetReference (pos 1) (codes "Card") (int 2 ∷ []) ∷ Call.Clear (pos 1)
    ∷ Call.GetReference (pos 1) (codes "Card") (int 2 ∷ []) ∷ Call.GetReference (pos 1) (codes "Cheque") (int 2 ∷ []) ∷ []) ≡
    ok [] (Answer.Object 2) ∷ refused Cause.EntityNotFound ∷ quiet ∷ refused Cause.EntityNotFound ∷ loaded 4 ∷ []
referring = refl

-- ---- a change raises the version of the hierarchy

abbrev changing : List Call
changing = set 1 (codes "holder") (codes "Eve") ∷ Call.Begin (pos 1) ∷ Call.Commit (pos 1) ∷ Call.Get (pos 1) (codes "version") ∷ []

changing_replies : replies_of H made changing ≡
    quiet ∷ quiet ∷ tells (saw LifecycleEvent.PreUpdate 1 ∷ saw LifecycleEvent.PostUpdate 1 ∷ []) ∷ ok [] (Answer.Value (Value.Int (pos 1))) ∷ []
changing_replies = refl

changed_cells : cells_of (machine_after H made changing) ≡ next_cell ∷ card_cells 1 (codes "Eve") ++ other_cells
changed_cells = refl

refreshing : replies_of H made (set 1 (codes "holder") (codes "Eve") ∷ Call.Refresh (pos 1) (pos 1) ∷ Call.Get (pos 1) (codes "holder") ∷ []) ≡
    quiet ∷ tells (saw LifecycleEvent.PostLoad 1 ∷ []) ∷ ok [] (Answer.Value (Value.Text (codes "Ada"))) ∷ []
refreshing = refl

-- ---- what is removed is found by no class

abbrev removing : List Call
removing =
    Call.Begin (pos 1) ∷ Call.Remove (pos 1) (pos 1) ∷ find (codes "Payment") 1 ∷ Call.Flush (pos 1) ∷ find (codes "Card") 1 ∷ Call.Commit (pos 1) ∷ find (codes "Payment") 1
    ∷ find (codes "Payment") 2 ∷ []

removing_replies : replies_of H made removing ≡
    quiet ∷ tells (saw LifecycleEvent.PreRemove 1 ∷ []) ∷ quiet ∷ tells (saw LifecycleEvent.PostRemove 1 ∷ []) ∷ quiet ∷ quiet ∷ quiet
    ∷ ok [] (Answer.Object 2) ∷ []
removing_replies = refl

removed_cells : cells_of (machine_after H made removing) ≡ next_cell ∷ other_cells
removed_cells = refl

-- ---- an identity is one over the whole hierarchy

abbrev bases : Draft
bases =
    record {
      revision = pos 1;
      listeners = [];
      entities = class_with (codes "Base") (root_in 5 false None) [] ∷ class_with (codes "Sub") (DraftOrigin.Extends (codes "Base")) [] ∷ [];
    }

abbrev B : World
B = without_functions (unit_of bases)

abbrev no_bases : Machine
no_bases = opened [] (1 ∷ 1 ∷ [])

abbrev new_with : List ℕ → ℕ → ℕ → List Call
new_with class object key = Call.NewObject class ∷ Call.SetValue (pos object) (codes "id") (int key) ∷ []

abbrev base_and_sub : List Call
base_and_sub =
    Call.CreateEntityManager ∷ new_with (codes "Base") 1 1 ++ new_with (codes "Sub") 2 2 ++ Call.Begin (pos 1) ∷ Call.Persist (pos 1) (pos 1) ∷ Call.Persist (pos 1) (pos 2) ∷ Call.Commit (pos 1)
    ∷ find (codes "Sub") 1 ∷ find (codes "Base") 2 ∷ []

base_and_sub_replies : replies_of B no_bases base_and_sub ≡
    ok [] (Answer.Number 1) ∷ ok [] (Answer.Object 1) ∷ quiet ∷ ok [] (Answer.Object 2) ∷ quiet ∷ quiet
    ∷ tells (saw LifecycleEvent.PrePersist 1 ∷ []) ∷ tells (saw LifecycleEvent.PrePersist 2 ∷ []) ∷ tells (saw LifecycleEvent.PostPersist 1 ∷ saw LifecycleEvent.PostPersist 2 ∷ [])
    ∷ quiet ∷ ok [] (Answer.Object 2) ∷ []
base_and_sub_replies = refl

abbrev both : Machine
both = machine_after B no_bases base_and_sub

base_and_sub_cells : rows B both.committed both.stored_numbers ≡ cell_in 5 1 0 (2 ∷ codes "Base") ∷ cell_in 5 2 0 (2 ∷ codes "Sub") ∷ []
base_and_sub_cells = refl

-- in a context, and among the rows
taken : replies_of B both
    (new_with (codes "Sub") 3 1 ++ Call.Persist (pos 1) (pos 3) ∷ Call.Clear (pos 1) ∷ Call.Begin (pos 1) ∷ Call.Persist (pos 1) (pos 3) ∷ Call.Commit (pos 1) ∷ []) ≡
    ok [] (Answer.Object 3) ∷ quiet ∷ refused Cause.EntityExists ∷ quiet ∷ quiet ∷ tells (saw LifecycleEvent.PrePersist 3 ∷ []) ∷ no [] (Refusal.Rollback Cause.EntityExists) ∷ []
taken = refl

-- a row that is of another class than the object by now
replaced : replies_of B both
    (Call.CreateEntityManager ∷ Call.Find (pos 2) (codes "Base") (int 1 ∷ []) ∷ Call.Begin (pos 2) ∷ Call.Remove (pos 2) (pos 3) ∷ Call.Commit (pos 2)
    ∷ new_with (codes "Sub") 4 1 ++ Call.Begin (pos 2) ∷ Call.Persist (pos 2) (pos 4) ∷ Call.Commit (pos 2)
    ∷ Call.Refresh (pos 1) (pos 1) ∷ find (codes "Sub") 1 ∷ Call.Clear (pos 1) ∷ find (codes "Sub") 1 ∷ find (codes "Base") 1 ∷ []) ≡
    ok [] (Answer.Number 2) ∷ loaded 3 ∷ quiet ∷ tells (saw LifecycleEvent.PreRemove 3 ∷ []) ∷ tells (saw LifecycleEvent.PostRemove 3 ∷ [])
    ∷ ok [] (Answer.Object 4) ∷ quiet ∷ quiet ∷ tells (saw LifecycleEvent.PrePersist 4 ∷ []) ∷ tells (saw LifecycleEvent.PostPersist 4 ∷ [])
    ∷ refused Cause.EntityNotFound ∷ quiet ∷ quiet ∷ loaded 5 ∷ ok [] (Answer.Object 5) ∷ []
replaced = refl

-- ---- who hears: default listeners, those of the hierarchy, then its callbacks; and with what is excluded

abbrev hears : List ℕ → List DraftListener
hears name = record { name = name; events = codes "PrePersist" ∷ [] } ∷ []

abbrev heard_bases : Bool → Draft
heard_bases excluded =
    record {
      revision = pos 1;
      listeners = hears (codes "d");
      entities =
          record (class_with (codes "Base") (root_in 5 false None) []) { listeners = hears (codes "b"); callbacks = hears (codes "cb"); exclude_default = excluded }
          ∷ record (class_with (codes "Sub") (DraftOrigin.Extends (codes "Base")) []) { listeners = hears (codes "s"); callbacks = hears (codes "cs"); exclude_super = excluded } ∷ [];
    }

heard_described : (excluded : Bool) → IsDescribed (unit_of (heard_bases excluded))
heard_described true = (heard_bases true, (refl, refl))
heard_described false = (heard_bases false, (refl, refl))

abbrev persisting : List Call
persisting =
    Call.CreateEntityManager ∷ new_with (codes "Base") 1 1 ++ new_with (codes "Sub") 2 2 ++ Call.Persist (pos 1) (pos 1) ∷ Call.Persist (pos 1) (pos 2) ∷ []

abbrev persisted_with : List (List ℕ) → List (List ℕ) → List Reply
persisted_with base sub =
    ok [] (Answer.Number 1) ∷ ok [] (Answer.Object 1) ∷ quiet ∷ ok [] (Answer.Object 2) ∷ quiet
    ∷ tells (record { event = LifecycleEvent.PrePersist; object = 1; ran = base } ∷ []) ∷ tells (record { event = LifecycleEvent.PrePersist; object = 2; ran = sub } ∷ []) ∷ []

all_hear : replies_of (without_functions (unit_of (heard_bases false))) no_bases persisting ≡
    persisted_with (codes "d" ∷ codes "b" ∷ codes "cb" ∷ []) (codes "d" ∷ codes "b" ∷ codes "s" ∷ codes "cb" ∷ codes "cs" ∷ [])
all_hear = refl

some_hear : replies_of (without_functions (unit_of (heard_bases true))) no_bases persisting ≡
    persisted_with (codes "b" ∷ codes "cb" ∷ []) (codes "s" ∷ codes "cb" ∷ codes "cs" ∷ [])
some_hear = refl
