-- Parameters in the words of a command line, each as NAME=VALUE (Jakarta Persistence 3.1, chapters
-- 3.10.12, 4.6.9 IN and collections).
use Rattle.std.specs.Prelude.{◌≡◌, ◌==◌, ℕ, Bool, true, false, not, nat_lt, List, [], ◌∷◌, ◌++◌, length}
use Rattle.std.specs.Prelude.{Option, Some, None, if◌then◌else◌}
use Rattle.std.specs.List.{after_first, before_first, list_any, position_or_len}
use Rattle.std.specs.Str.{bytes_eq}
use Rattle.serde_json.specs.Data.{Data, null, boolean, number, string, array, object}
use Rattle.jpa_value.specs.declared.value.Value.{Value}
use Rattle.jpa_json.specs.declared.readers.unread.Unread.{Unread}
use Rattle.jpa_json.specs.readers.JsonOf.{text_data}
use Rattle.jpa_json.specs.readers.Members.{each}
use Rattle.jpa_json.specs.readers.Outcome.{◌>>=◌, guard}
use Rattle.jpa_json.specs.readers.Values.{value_of}
use Rattle.jpql_trees.specs.declared.tree.Language.{Language}
use Rattle.jpa_questions.specs.declared.questions.parameter.Misgiven.{Misgiven}
use Rattle.jpa_questions.specs.declared.questions.parameter.Parameter.{Parameter}
use Rattle.jpa_questions.specs.declared.questions.parameter.ParameterValue.{ParameterValue}
use Rattle.jpa_questions.specs.declared.questions.parameter.ParameterValue.TheVariants.{Single, Collection}

-- whether a byte is =
abbrev pub is_mark : ℕ → Bool
is_mark b = b == 61

-- what stands before and behind the first = of a word, where there is one
abbrev pub cut : List ℕ → Option (List ℕ × List ℕ)
cut word = if nat_lt (position_or_len is_mark word) (length word) then
    Some (before_first is_mark word, after_first is_mark word) else None

-- null, an integer of 64 bits, a text, or bytes as {"hex":"0aff"}
abbrev pub plain_of : Data → Option Value
plain_of null = Some Value.Null
plain_of (boolean b) = value_of (boolean b)
plain_of (number n) = value_of (number n)
plain_of (string s) = value_of (string s)
plain_of (array ds) = value_of (array ds)
plain_of (object ms) = value_of (object ms)

-- what stands for a parameter: a value, or a collection of values in an array
unfoldable pub parameter_value : Data → Option ParameterValue
parameter_value (array ds) = do
  all ← each plain_of ds
  Some (Collection all)
parameter_value d = do
  value ← plain_of d
  Some (Single value)

-- a collection for a parameter is the wider language's alone
abbrev pub speaks : Language → ParameterValue → Bool
speaks Language.Wide value = true
speaks Language.Profile (Single value) = true
speaks Language.Profile (Collection all) = false

-- what a text of JSON says in a language for a parameter
unfoldable pub value_in : Language → List ℕ → Option ParameterValue
value_in language text = do
  d ← text_data text
  value ← parameter_value d
  spoken ← guard (speaks language value)
  Some value

-- a name is not empty, and behind = stands what is handed in for it
abbrev pub parameter_in : Language → Option (List ℕ × List ℕ) → Option Parameter
parameter_in language None = None
parameter_in language (Some (name, text)) = do
  named ← guard (not (length name == 0))
  value ← value_in language text
  Some (record { name = name; value = value })

-- the parameter that a word gives
abbrev pub parameter_of : Language → List ℕ → Option Parameter
parameter_of language word = parameter_in language (cut word)

-- whether a parameter of this name is among these
abbrev pub is_given : List ℕ → List Parameter → Bool
is_given name = list_any (λ (p : Parameter). bytes_eq p.name name)

-- these parameters, and the one that a word gives, if no other has its name
abbrev pub with_word : Language → List Parameter → List ℕ → Option (List Parameter)
with_word language ps word = do
  p ← parameter_of language word
  new ← guard (not (is_given p.name ps))
  Some (ps ++ p ∷ [])

-- these parameters, and those that words give
abbrev pub with_words : Language → List Parameter → List (List ℕ) → Option (List Parameter)
with_words language ps [] = Some ps
with_words language ps (word ∷ words) = with_word language ps word >>= λ more. with_words language more words

-- the parameters that words give in a language, in their order, each name once
abbrev pub parameters_of : Language → List (List ℕ) → Option (List Parameter)
parameters_of language words = with_words language [] words

-- a word is told that gives no parameter, or one of a name that another gives; for want of memory
-- nothing is said
abbrev pub IsMisgiven : Unread → List ℕ → Misgiven → Type 0
IsMisgiven Unread.Form word (Misgiven.Word told) = told ≡ word
IsMisgiven Unread.OutOfMemory word (Misgiven.Word told) = ⊥
IsMisgiven unread word Misgiven.OutOfMemory = Unit {0}

-- words of which one is told give no parameters; for want of memory nothing is said
abbrev pub Misgives : Language → List (List ℕ) → Misgiven → Type 0
Misgives language words (Misgiven.Word word) = parameters_of language words ≡ None
Misgives language words Misgiven.OutOfMemory = Unit {0}
