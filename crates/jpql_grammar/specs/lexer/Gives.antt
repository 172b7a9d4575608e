-- What a reader answers, beside what reading gives: the same, unless memory ran out.
use Rattle.std.specs.Prelude.{◌≡◌, Option, Some, None, Result, Ok, Err}
use Rattle.jpql_grammar.specs.declared.lexer.error.ReadError.{ReadError}
use Rattle.jpql_grammar.specs.declared.lexer.error.ReadError.TheVariants.{Memory, Syntax}

-- what an error says of what was read: Memory says nothing, Syntax that there is nothing
abbrev pub Fails : {Y : Type 0} → ReadError → Option Y → Type 0
Fails Memory read = Unit {0}
Fails Syntax read = read ≡ None

-- a result is what was read, as `view` sees it; an error says of it what `Fails` says
abbrev pub Gives : {X Y : Type 0} → (X → Y) → Result X ReadError → Option Y → Type 0
Gives view (Ok x) read = read ≡ Some (view x)
Gives view (Err e) read = Fails e read
