-- What items are computed for, as the code has it.
use Rattle.jpql_meaning.specs.plan.Meaning as meaning
use Rattle.jpql_select.specs.declared.select.case.Case.{Case}

-- a tuple with its group, as the meaning has it
abbrev pub case_in : Case → meaning.Case
case_in c = record { tuple = c.tuple.now; group = c.group.now }
