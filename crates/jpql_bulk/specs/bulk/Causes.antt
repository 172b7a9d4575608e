-- Why nothing was assigned, as a call tells it.
use Rattle.jpa_value.specs.declared.refusal.Cause.{Cause}
use Rattle.jpa_value.specs.declared.refusal.PersistenceFault.{PersistenceFault}
use Rattle.jpql_bulk.specs.declared.bulk.refused.Refused.{Refused}

-- the cause that a refusal is told by
abbrev pub cause_of : Refused → Cause
cause_of Refused.Memory = Cause.OutOfMemory
cause_of Refused.Limit = Cause.Limit
cause_of Refused.Converter = Cause.Persistence PersistenceFault.Converter
cause_of Refused.Null = Cause.Persistence PersistenceFault.Null
