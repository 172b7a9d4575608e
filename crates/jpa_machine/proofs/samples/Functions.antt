-- Converters, listeners, cascades and links, with the calls that there are.
use Rattle.std.specs.Prelude.{codes, ◌==◌, if◌then◌else◌, ◌+ℤ◌, ◌-ℤ◌, slice_index_or, ◌≡◌, refl, ℕ, pos, negsuc, Bool, true, false, Option, Some, None, List, [], ◌∷◌, ◌++◌}
use Rattle.std.specs.List.{filter}
use Rattle.jpa_value.specs.declared.value.Value.{Value}
use Rattle.jpa_value.specs.declared.value.Kind.{Kind}
use Rattle.jpa_value.specs.declared.refusal.Cause.{Cause}
use Rattle.jpa_value.specs.declared.refusal.PersistenceFault.{PersistenceFault}
use Rattle.jpa_value.specs.declared.refusal.State.{State}
use Rattle.jpa_value.specs.declared.refusal.Refusal.{Refusal}
use Rattle.jpa_value.specs.declared.event.LifecycleEvent.{LifecycleEvent}
use Rattle.jpa_model.specs.declared.unit.PersistenceUnit.{PersistenceUnit}
use Rattle.jpa_model.specs.declared.unit.Listener.{Listener}
use Rattle.jpa_model.specs.declared.unit.Origin.{Origin}
use Rattle.jpa_model.specs.declared.unit.Side.{Side}
use Rattle.jpa_model.specs.Chains.{same_name, no_cascade}
use Rattle.jpa_behaviour.specs.declared.Heard.{Heard}
use Rattle.jpa_behaviour.specs.declared.Image.{Image}
use Rattle.jpa_behaviour.specs.declared.Named.{Named}
use Rattle.jpa_behaviour.specs.Behaviour.{World}
use Rattle.jpa_lifecycle.specs.Callbacks.{order}
use Rattle.jpa_rows.specs.rows.Cells.{rows}
use Rattle.jpa_protocol.specs.declared.call.Call.{Call}
use Rattle.jpa_protocol.specs.declared.call.Given.{Given}
use Rattle.jpa_protocol.specs.declared.event.Told.{Told}
use Rattle.jpa_protocol.specs.declared.reply.Answer.{Answer}
use Rattle.jpa_machine.specs.machine.Machine.{Machine, opened}
use Rattle.jpa_machine.specs.machine.Step.{replies_of, machine_after}
use Rattle.jpa_machine.proofs.samples.Sample.{person_entity, order_entity, name_attribute, amount_attribute, person_relation, all_cascades, world_of, P, text, int, saw, ok, quiet, no}

abbrev both_fresh : Machine
both_fresh = opened [] (1 ∷ 1 ∷ [])

-- ---- converters

-- i becomes -1-i, and back
abbrev flipped : List ℕ → Value → Option Value
flipped name (Value.Int n) = Some (Value.Int (negsuc 0 -ℤ n))
flipped name v = None

abbrev F : World
F = record (world_of (person_entity [] [] [] ∷ order_entity (amount_attribute (Some (codes "flip")) ∷ []) [] ∷ [])) { column = flipped; attribute = flipped }

abbrev order_calls : List Call
order_calls =
    Call.CreateEntityManager ∷ Call.NewObject (codes "Order") ∷ Call.SetValue (pos 1) (codes "number") (int 10) ∷ Call.SetValue (pos 1) (codes "amount") (int 1)
    ∷ Call.Begin (pos 1) ∷ Call.Persist (pos 1) (pos 1) ∷ Call.Commit (pos 1) ∷ []

abbrev key_ten : List ℕ
key_ten = 1 ∷ 128 ∷ 0 ∷ 0 ∷ 0 ∷ 0 ∷ 0 ∷ 0 ∷ 10 ∷ []

flipped_cells : rows F (machine_after F both_fresh order_calls).committed (1 ∷ 1 ∷ []) ≡
    record { table = 2; row = key_ten; column = pos 0; bytes = 2 ∷ codes "Order" }
    ∷ record { table = 2; row = key_ten; column = pos 1; bytes = 1 ∷ 127 ∷ 255 ∷ 255 ∷ 255 ∷ 255 ∷ 255 ∷ 255 ∷ 254 ∷ [] } ∷ []
flipped_cells = refl

-- "Ada" becomes 1, every other value is thrown
abbrev tabled : List ℕ → Value → Option Value
tabled name (Value.Text bytes) = if same_name bytes (codes "Ada") then Some (Value.Int (pos 1)) else None
tabled name v = None

abbrev untabled : List ℕ → Value → Option Value
untabled name (Value.Int (pos n)) = if n == 1 then Some (Value.Text (codes "Ada")) else None
untabled name v = None

abbrev G : World
G = record (world_of (person_entity (name_attribute (Some (codes "table")) ∷ []) [] [] ∷ [])) { column = tabled; attribute = untabled }

thrown : replies_of G (opened [] (1 ∷ []))
    (Call.CreateEntityManager ∷ Call.NewObject (codes "Person") ∷ Call.SetValue (pos 1) (codes "name") (text (codes "Ada")) ∷ Call.Begin (pos 1) ∷ Call.Persist (pos 1) (pos 1) ∷ Call.Commit (pos 1)
    ∷ Call.NewObject (codes "Person") ∷ Call.SetValue (pos 2) (codes "name") (text (codes "Bob")) ∷ Call.Begin (pos 1) ∷ Call.Persist (pos 1) (pos 2) ∷ Call.Commit (pos 1) ∷ []) ≡
    ok [] (Answer.Number 1) ∷ ok [] (Answer.Object 1) ∷ quiet ∷ quiet ∷ ok (saw LifecycleEvent.PrePersist 1 ∷ []) Answer.Null ∷ ok (saw LifecycleEvent.PostPersist 1 ∷ []) Answer.Null
    ∷ ok [] (Answer.Object 2) ∷ quiet ∷ quiet ∷ ok (saw LifecycleEvent.PrePersist 2 ∷ []) Answer.Null ∷ no [] (Refusal.Rollback (Cause.Persistence PersistenceFault.Converter)) ∷ []
thrown = refl

-- ---- listeners

abbrev value_named : List ℕ → List Named → Value
value_named name values = (slice_index_or (filter (λ v. same_name v.name name) values) 0 (record { name = []; value = Value.Null })).value

abbrev one_more : Value → Value
one_more Value.Null = Value.Int (pos 1)
one_more (Value.Int n) = Value.Int (n +ℤ pos 1)
one_more v = v

abbrev required_answer : Value → Heard
required_answer Value.Null = Heard.Throw (codes "require name")
required_answer v = Heard.Assign []

abbrev listening : List ℕ → Image → Heard
listening name image =
    if same_name name (codes "bump") then Heard.Assign (record { name = codes "hits"; value = one_more (value_named (codes "hits") image.values) } ∷ [])
    else if same_name name (codes "need") then required_answer (value_named (codes "name") image.values)
    else Heard.Assign []

abbrev hears : LifecycleEvent → List ℕ → Listener
hears event name = record { name = name; events = event ∷ [] }

abbrev hears_update : List ℕ → Listener
hears_update = hears LifecycleEvent.PreUpdate

abbrev H : World
H =
    record (world_of (person_entity (name_attribute None ∷ record { name = codes "hits"; kind = Kind.Int; column = 3; required = false; converter = None } ∷ []) []
    (hears_update (codes "bump") ∷ hears_update (codes "need") ∷ hears_update (codes "seen") ∷ []) ∷ []))
    { heard = listening }

abbrev ran : LifecycleEvent → ℕ → List (List ℕ) → Told
ran event n names = record { event = event; object = n; ran = names }

-- nothing runs after a throw; nothing that listeners gave stays
listener_throws : replies_of H (opened [] (1 ∷ []))
    (Call.CreateEntityManager ∷ Call.NewObject (codes "Person") ∷ Call.SetValue (pos 1) (codes "name") (text (codes "Ada")) ∷ Call.NewObject (codes "Person") ∷ Call.SetValue (pos 2) (codes "name") (text (codes "Bob"))
    ∷ Call.Begin (pos 1) ∷ Call.Persist (pos 1) (pos 1) ∷ Call.Persist (pos 1) (pos 2) ∷ Call.Commit (pos 1)
    ∷ Call.Begin (pos 1) ∷ Call.SetValue (pos 1) (codes "name") (text (codes "A2")) ∷ Call.SetValue (pos 2) (codes "name") (Given.Plain Value.Null) ∷ Call.Commit (pos 1) ∷ []) ≡
    ok [] (Answer.Number 1) ∷ ok [] (Answer.Object 1) ∷ quiet ∷ ok [] (Answer.Object 2) ∷ quiet
    ∷ quiet ∷ ok (saw LifecycleEvent.PrePersist 1 ∷ []) Answer.Null ∷ ok (saw LifecycleEvent.PrePersist 2 ∷ []) Answer.Null
    ∷ ok (saw LifecycleEvent.PostPersist 1 ∷ saw LifecycleEvent.PostPersist 2 ∷ []) Answer.Null
    ∷ quiet ∷ quiet ∷ quiet
    ∷ no (ran LifecycleEvent.PreUpdate 1 (codes "bump" ∷ codes "need" ∷ codes "seen" ∷ []) ∷ ran LifecycleEvent.PreUpdate 2 (codes "bump" ∷ codes "need" ∷ []) ∷ [])
    (Refusal.Rollback (Cause.Listener (codes "require name"))) ∷ []
listener_throws = refl

-- default listeners, listeners of the hierarchy, then callbacks; and with both exclusions
abbrev hears_persist : List ℕ → Listener
hears_persist = hears LifecycleEvent.PrePersist

abbrev hierarchy : Bool → Bool → PersistenceUnit
hierarchy no_default no_super =
    record {
      revision = 1;
      listeners = hears_persist (codes "d") ∷ [];
      entities = record (person_entity [] [] (hears_persist (codes "b") ∷ [])) { callbacks = hears_persist (codes "cb") ∷ []; exclude_default = no_default }
          ∷ record (order_entity [] []) { origin = Origin.Extends 0; listeners = hears_persist (codes "s") ∷ []; callbacks = hears_persist (codes "cs") ∷ []; exclude_super = no_super } ∷ [];
    }

order_whole : order (hierarchy false false) 1 LifecycleEvent.PrePersist ≡ codes "d" ∷ codes "b" ∷ codes "s" ∷ codes "cb" ∷ codes "cs" ∷ []
order_whole = refl

order_cut : order (hierarchy true true) 1 LifecycleEvent.PrePersist ≡ codes "s" ∷ codes "cb" ∷ codes "cs" ∷ []
order_cut = refl

-- ---- cascades and links

abbrev linked : List Call
linked =
    Call.CreateEntityManager ∷ Call.NewObject (codes "Person") ∷ Call.NewObject (codes "Order") ∷ Call.SetValue (pos 2) (codes "number") (int 10)
    ∷ Call.SetValue (pos 2) (codes "person") (Given.Object (pos 1)) ∷ Call.Begin (pos 1) ∷ []

-- persist goes along a link that cascades it
abbrev K : World
K = world_of (person_entity [] [] [] ∷ order_entity [] (person_relation all_cascades ∷ []) ∷ [])

cascaded : replies_of K (machine_after K both_fresh linked) (Call.Persist (pos 1) (pos 2) ∷ Call.Commit (pos 1) ∷ []) ≡
    ok (saw LifecycleEvent.PrePersist 2 ∷ saw LifecycleEvent.PrePersist 1 ∷ []) Answer.Null
    ∷ ok (saw LifecycleEvent.PostPersist 2 ∷ saw LifecycleEvent.PostPersist 1 ∷ []) Answer.Null ∷ []
cascaded = refl

abbrev key_one : List ℕ
key_one = 1 ∷ 128 ∷ 0 ∷ 0 ∷ 0 ∷ 0 ∷ 0 ∷ 0 ∷ 1 ∷ []

linked_cells : rows K (machine_after K both_fresh (linked ++ Call.Persist (pos 1) (pos 2) ∷ Call.Commit (pos 1) ∷ [])).committed (1 ∷ 1 ∷ []) ≡
    record { table = 1; row = key_one; column = pos 0; bytes = 2 ∷ codes "Person" }
    ∷ record { table = 1; row = key_one; column = pos 1; bytes = 1 ∷ 128 ∷ 0 ∷ 0 ∷ 0 ∷ 0 ∷ 0 ∷ 0 ∷ 0 ∷ [] }
    ∷ record { table = 2; row = key_ten; column = pos 0; bytes = 2 ∷ codes "Order" }
    ∷ record { table = 2; row = key_ten; column = pos 2; bytes = 4 ∷ key_one } ∷ []
linked_cells = refl

-- without the cascade, a link to what is not persisted is refused at the flush
unsaved : replies_of P (machine_after P both_fresh linked) (Call.Persist (pos 1) (pos 2) ∷ Call.Commit (pos 1) ∷ []) ≡
    ok (saw LifecycleEvent.PrePersist 2 ∷ []) Answer.Null ∷ no [] (Refusal.Rollback (Cause.IllegalState State.Reference)) ∷ []
unsaved = refl

-- a oneToOne target has one owner
abbrev O : World
O =
    world_of (person_entity [] [] []
    ∷ order_entity [] (record { name = codes "person"; side = Side.OneToOne (record { column = 2; required = false }); target = 0; cascade = no_cascade; orphan_removal = false } ∷ []) ∷ [])

two_owners : replies_of O (machine_after O both_fresh linked)
    (Call.Persist (pos 1) (pos 1) ∷ Call.Persist (pos 1) (pos 2) ∷ Call.NewObject (codes "Order") ∷ Call.SetValue (pos 3) (codes "number") (int 11)
    ∷ Call.SetValue (pos 3) (codes "person") (Given.Object (pos 1)) ∷ Call.Persist (pos 1) (pos 3) ∷ Call.Commit (pos 1) ∷ []) ≡
    ok (saw LifecycleEvent.PrePersist 1 ∷ []) Answer.Null ∷ ok (saw LifecycleEvent.PrePersist 2 ∷ []) Answer.Null ∷ ok [] (Answer.Object 3) ∷ quiet ∷ quiet
    ∷ ok (saw LifecycleEvent.PrePersist 3 ∷ []) Answer.Null ∷ no [] (Refusal.Rollback (Cause.Persistence PersistenceFault.Unique)) ∷ []
two_owners = refl
