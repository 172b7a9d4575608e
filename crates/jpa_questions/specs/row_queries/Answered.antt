-- What a result says of the answer that is wanted.
use Rattle.std.specs.Prelude.{◌≡◌, ◌⊎◌, Result, Ok, Err, IfErr}
use Rattle.jpa_value.specs.declared.refusal.Cause.{Cause}
use Rattle.jpa_value.specs.declared.refusal.Cause.TheVariants as cause
use Rattle.jpa_rows.specs.rows.Rows.{Rows, AreRising}
use Rattle.jpa_rows.specs.declared.rows.reader.RowReader.{Ghosts}
use Rattle.jpa_questions.specs.row_queries.Unread.{IsReadingCause}
use Rattle.jpql_meaning.specs.eval.Answers.{Answer, gives, overflows}

-- what a refusal says of the wanted answer: Overflow is the answer, want of memory and a fault of the store say
-- nothing, and nothing else is refused
abbrev pub Refuses : {A : Type 0} → Cause → Answer A → Type 0
Refuses cause.OutOfMemory wanted = Unit {0}
Refuses cause.StoreFault wanted = Unit {0}
Refuses cause.Overflow wanted = wanted ≡ overflows
Refuses _ wanted = ⊥

-- the rows are the wanted ones, or it is refused so
abbrev pub Answers : {A : Type 0} → Result A Cause → Answer A → Type 0
Answers (Ok rows) wanted = wanted ≡ gives rows
Answers (Err c) wanted = Refuses c wanted

-- why a statement is not answered: its rows are not read, or it overflows
abbrev pub IsAskingCause : Cause → Type 0
IsAskingCause c = IsReadingCause c ⊎ (c ≡ cause.Overflow)

-- where the store is clean at the end, and held rows in their order, it is refused for these causes alone
abbrev pub RefusesOnly : {S A : Type 0} → Ghosts S → (Cause → Type 0) → Result A Cause → S → S → Type 0
RefusesOnly store causes answer old new =
    store.clean new → (rows : Rows) → AreRising rows → store.holds old rows → IfErr answer causes
