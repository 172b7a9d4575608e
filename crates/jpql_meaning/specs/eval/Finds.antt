-- What code answers, beside an answer: the same, unless memory ran out.
use Rattle.std.specs.Prelude.{◌≡◌, Result, Ok, Err}
use Rattle.jpql_meaning.specs.eval.Answers.{Answer, gives, overflows}
use Rattle.jpql_meaning.specs.declared.eval.failure.Failure.{Failure}

-- what a failure says of the wanted answer: Memory says nothing, Overflow that it is that
abbrev pub Fails : {A : Type 0} → Failure → Answer A → Type 0
Fails Failure.Memory wanted = Unit {0}
Fails Failure.Overflow wanted = wanted ≡ overflows

-- a result is the wanted answer, as `view` sees it; a failure says of it what `Fails` says
abbrev pub Finds : {A B : Type 0} → (A → B) → Result A Failure → Answer B → Type 0
Finds view (Ok a) wanted = wanted ≡ gives (view a)
Finds view (Err e) wanted = Fails e wanted

-- a thing as it is
abbrev pub same : {A : Type 0} → A → A
same a = a
