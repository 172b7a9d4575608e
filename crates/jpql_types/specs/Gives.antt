-- What typing answers, beside what it is to give: the same, unless memory ran out.
use Rattle.std.specs.Prelude.{◌≡◌, Bool, true, false, Option, Some, None, Result, Ok, Err}
use Rattle.jpql_types.specs.declared.error.TypingError.{TypingError}

-- what an error says of the wanted answer: Memory says nothing, Typing that there is none
abbrev pub Fails : {A : Type 0} → TypingError → Option A → Type 0
Fails TypingError.Memory wanted = Unit {0}
Fails TypingError.Typing wanted = wanted ≡ None

-- a result is the wanted answer, as `view` sees it; an error says of it what `Fails` says
abbrev pub Gives : {A B : Type 0} → (A → B) → Result A TypingError → Option B → Type 0
Gives view (Ok a) wanted = wanted ≡ Some (view a)
Gives view (Err e) wanted = Fails e wanted

-- what an error says of a judgment: Memory says nothing, Typing that it is false
abbrev pub Refuses : TypingError → Bool → Type 0
Refuses TypingError.Memory is_typed = Unit {0}
Refuses TypingError.Typing is_typed = is_typed ≡ false

-- an answer where it is well typed, and none where it isn't
abbrev pub IsJudged : {A : Type 0} → Result A TypingError → Bool → Type 0
IsJudged (Ok a) is_typed = is_typed ≡ true
IsJudged (Err e) is_typed = Refuses e is_typed
