-- What reading a text answers.
use Rattle.std.specs.Prelude.{◌≡◌, ℕ, ◌≤◌, ◌<◌, ◌⊎◌, Bool, true, false, List, length, Option}
use Rattle.std.specs.Prelude.{Result, Ok, Err, IfOk, IfErr, Some, None, if◌then◌else◌}
use Rattle.jpa_value.specs.declared.refusal.Argument.TheVariants as argument
use Rattle.jpa_value.specs.declared.refusal.Cause.{Cause}
use Rattle.jpa_value.specs.declared.refusal.Cause.TheVariants as cause
use Rattle.jpql_grammar.specs.declared.grammar.lists.GivenList.{GivenList}
use Rattle.jpql_grammar.specs.declared.grammar.token.Token.{Token}
use Rattle.jpql_trees.specs.declared.tree.Language.{Language}
use Rattle.jpql_trees.specs.declared.tree.Query.{Query}
use Rattle.jpql_trees.specs.tree.Names.{Text}
use Rattle.jpa_value.specs.Limits.{most_query_bytes, most_open_parentheses, most_query_variables}
use Rattle.jpql_grammar.specs.grammar.Limits.{nests_over}
use Rattle.jpql_trees.specs.tree.Variables.{declared_variables}
use Rattle.jpql_trees.specs.tree.Steps.{◌>>=◌}
use Rattle.jpql_grammar.specs.grammar.Lists.{spread, are_used}
use Rattle.jpql_grammar.specs.grammar.Statements.{statement_of}
use Rattle.jpql_grammar.specs.grammar.Text.{IsText}
use Rattle.jpql_grammar.specs.grammar.Queries.{IsQuery, speaks}
use Rattle.jpql_grammar.specs.declared.lexer.error.ReadError.{ReadError}
use Rattle.jpql_grammar.specs.declared.lexer.error.ReadError.TheVariants.{Memory, Syntax}
use Rattle.jpql_text.specs.text.Together.{most_values_together, values_together, most_cases, cases_in}

-- a statement, where the language has it
abbrev pub spoken : Language → Query → Option Query
spoken l query = if speaks l query then Some query else None

-- the statement of the language that tokens are, where lists stand for their values
abbrev pub statement_in : Language → List GivenList → List Token → Option Query
statement_in l lists tokens = spread lists tokens >>= statement_of >>= spoken l

-- ---- the limits

-- collections become few enough values in these tokens, and there are few enough words CASE
abbrev pub AreFew : List GivenList → List Token → Type 0
AreFew lists tokens = (values_together lists tokens ≤ most_values_together) × (cases_in tokens ≤ most_cases)

-- collections become too many values, or there are too many words CASE
abbrev pub AreTooMany : List GivenList → List Token → Type 0
AreTooMany lists tokens = (most_values_together < values_together lists tokens) ⊎ (most_cases < cases_in tokens)

-- Where collections are handed in for these parameters, the text is within the limits that are told
-- before it is read: at most 16,384 bytes, at most 32 parentheses open at one place, and in its tokens at
-- most 65,536 values of collections, together, and at most 64 words CASE.
abbrev pub IsWithin : Language → List GivenList → Text → Type 0
IsWithin l lists text = (length text ≤ most_query_bytes)
    × (nests_over most_open_parentheses false 0 text ≡ false)
    × ((tokens : List Token) → IsText l text tokens → AreFew lists tokens)

-- The text is one of the language's grammar, where collections are handed in for these parameters,
-- within the limits, with at most 8 variables, and this is its tree.
abbrev pub IsRead : Language → List GivenList → Text → Query → Type 0
IsRead l lists text query =
    IsQuery l lists text query × IsWithin l lists text × (declared_variables query ≤ most_query_variables)

-- a text is too long, nests too deep, has collections become too many values or too many words CASE, or
-- is a query of the language with too many variables
abbrev pub IsOverLimit : Language → List GivenList → Text → Type 0
IsOverLimit l lists text = (most_query_bytes < length text)
    ⊎ ((nests_over most_open_parentheses false 0 text ≡ true)
    ⊎ (((tokens : List Token) × IsText l text tokens × AreTooMany lists tokens)
    ⊎ ((query : Query) × IsQuery l lists text query × (most_query_variables < declared_variables query))))

-- ---- what is answered

-- why a text is refused that isn't read as a statement
abbrev pub cause_of : ReadError → Cause
cause_of Memory = cause.OutOfMemory
cause_of Syntax = cause.IllegalArgument argument.Syntax

-- why a text is refused in the language
abbrev pub IsRefused : Language → List GivenList → Text → Cause → Type 0
IsRefused l lists text cause.OutOfMemory = Unit {0}
IsRefused l lists text cause.Limit = IsOverLimit l lists text
IsRefused l lists text (cause.IllegalArgument argument.Syntax) =
    IsWithin l lists text × ((query : Query) → IsQuery l lists text query → ⊥)
IsRefused l lists text _ = ⊥

-- a text's tree, or why it is refused; a text that has a tree within the limits is refused for want of
-- memory alone
pub record IsAnswered (l : Language) (lists : List GivenList) (text : Text) (answer : Result Query Cause) : Type 0 where
  pub read : IfOk answer (IsRead l lists text)
  pub refused : IfErr answer (IsRefused l lists text)
  pub only : (query : Query) → IsRead l lists text query → (answer ≡ Ok query) ⊎ (answer ≡ Err cause.OutOfMemory)

-- whether each list stands somewhere behind IN in the text; of a text without tokens this is so
pub record UsesLists (l : Language) (lists : List GivenList) (text : Text) (uses : Bool) : Type 0 where
  pub used : (tokens : List Token) → IsText l text tokens → uses ≡ are_used lists tokens
  pub none : ((tokens : List Token) → IsText l text tokens → ⊥) → uses ≡ true
