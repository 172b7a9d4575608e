-- Which attributes may be asked to be looked up (the call is this provider's own).
use Rattle.std.specs.Prelude.{ℕ, List, Option, Some, None, Result, Ok, Err}
use Rattle.jpa_value.specs.declared.refusal.Argument.{Argument}
use Rattle.jpa_value.specs.declared.refusal.Cause.{Cause}
use Rattle.jpa_model.specs.declared.unit.Member.{Member}
use Rattle.jpa_model.specs.Chains.{class_of, member_of}
use Rattle.jpa_behaviour.specs.Behaviour.{World}
use Rattle.jpa_protocol.specs.declared.reply.Answer.{Answer}
use Rattle.jpa_machine.specs.machine.Machine.{Machine}

-- a part of the key and an attribute may be, a version and a relation may not
abbrev pub indexed : Option Member → Result Answer Cause
indexed (Some (Member.KeyPart i)) = Ok Answer.Null
indexed (Some (Member.Attribute i)) = Ok Answer.Null
indexed (Some Member.Version) = Err (Cause.IllegalArgument Argument.Name)
indexed (Some (Member.Relation i)) = Err (Cause.IllegalArgument Argument.Name)
indexed None = Err (Cause.IllegalArgument Argument.Name)

-- a member of an entity by its name, else IllegalArgument(entity)
abbrev pub index_of : World → Option ℕ → List ℕ → Result Answer Cause
index_of world None name = Err (Cause.IllegalArgument Argument.Entity)
index_of world (Some class) name = indexed (member_of world.model class name)

-- the call index: it has no meaning but whom it refuses
abbrev pub index_on : List ℕ → List ℕ → World → Machine → Result Answer Cause
index_on entity name world M = index_of world (class_of world.model entity) name
