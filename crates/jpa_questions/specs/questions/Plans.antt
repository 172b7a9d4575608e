-- How a question is answered, in lines of words.
use Rattle.std.specs.Prelude.{ℕ, Bool, true, false, List, [], ◌∷◌, ◌++◌, codes, if◌then◌else◌, Option, Some, None}
use Rattle.std.specs.List.{flat_map}
use Rattle.jpa_value.specs.declared.value.Identity.{Identity}
use Rattle.jpa_model.specs.declared.unit.Entity.{Entity}
use Rattle.jpa_model.specs.declared.unit.Origin.{Origin}
use Rattle.jpa_model.specs.declared.unit.PersistenceUnit.{PersistenceUnit}
use Rattle.jpa_questions.specs.by_key.ByKey.{key_of}
use Rattle.jpql_meaning.specs.declared.eval.datum.Datum.{Datum}
use Rattle.jpa_questions.specs.questions.Lines.{row_text}
use Rattle.jpa_questions.specs.declared.questions.question.Question.{Question}

-- whether an origin begins a hierarchy, and has a table (chapter 2.11)
abbrev pub is_root_in : Origin → Bool
is_root_in (Origin.Root root) = true
is_root_in (Origin.Extends parent) = false

-- whether an entity begins a hierarchy, and has a table (chapter 2.11)
abbrev pub is_root : Entity → Bool
is_root e = is_root_in e.origin

-- what is told of an entity whose rows are all read; a subclass has no rows of its own
abbrev pub entity_line : Entity → List ℕ
entity_line e = if is_root e then codes "reads all rows of " ++ e.name ++ 10 ∷ [] else []

-- what is told before an object that is looked up
abbrev pub look_up : List ℕ
look_up = codes "looks up by its key "

-- what is told of an object that is looked up, by the line of a row that has it alone
abbrev pub looked_up : PersistenceUnit → List Datum → List ℕ
looked_up m row = look_up ++ row_text m row

-- what is told of the object that is asked by its key, or of all tables
abbrev pub told_by : PersistenceUnit → Option Identity → List ℕ
told_by m (Some id) = looked_up m (Datum.Entity id ∷ [])
told_by m None = flat_map entity_line m.entities

-- how a question is answered: the object that it asks by its key is looked up (chapters 4.4.2 and
-- 4.6.7), else all rows are read
abbrev pub plan_text : PersistenceUnit → Question → List ℕ
plan_text m q = told_by m (key_of m q.arguments q.select)
