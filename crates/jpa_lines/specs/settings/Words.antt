-- The command line: options with values, and flags. How words are read is clap's, and so are the
-- faults of words.
use Rattle.std.specs.Prelude.{◌≡◌, ◌⊎◌, ◌||◌, Bool, List, [], ◌∷◌, ◌++◌, Option, Some, None, true, false, codes}
use Rattle.std.specs.Prelude.{if◌then◌else◌, is_none, length, not, option_map, unwrap_or, ◌&&◌, ◌==◌}
use Rattle.std.specs.Str.{bytes_eq}
use Rattle.std.specs.String.{string_bytes}
use Rattle.clap.specs.Words.{App, Kinds, Rule, Text, all_of, fault_of, first_of, first_value, found_of, matched_of}
use Rattle.clap.specs.Words.{matches_of, new_app, new_rule, raw_values, with_rule}
use Rattle.clap.specs.declared.builder.action.ArgAction.TheVariants.{Append, SetTrue}
use Rattle.clap.specs.declared.error.kind.ErrorKind.{ErrorKind}
use Rattle.clap.specs.declared.parser.matches.ArgMatches.{ArgMatches}
use Rattle.clap.specs.declared.error.kind.ErrorKind.TheVariants.{DisplayHelp, DisplayVersion}
use Rattle.jpa_value.specs.declared.refusal.Cause.{Cause}
use Rattle.jpa_value.specs.declared.refusal.Refusal.{Refusal}
use Rattle.jpa_lines.specs.declared.settings.settings.Settings.{Settings}
use Rattle.jpa_lines.specs.declared.settings.stop.Stop.{Stop}

-- an option with a value
abbrev pub option_rule : Text → Rule
option_rule name = record (new_rule name) { long = Some name; value_names = 1 }

-- an option with a value, which may stand more than once
abbrev pub repeated_rule : Text → Rule
repeated_rule name = record (option_rule name) { action = Some Append }

-- a flag, which has no value
abbrev pub flag_rule : Text → Rule
flag_rule name = record (new_rule name) { long = Some name; action = Some SetTrue }

-- the program, which tells its version
abbrev pub plain : App
plain = let bare = new_app (codes "jpa") in record bare { top = record bare.top { has_version = true } }

-- the program with its files: its options --mapping and --db
abbrev pub with_files : App
with_files = with_rule (with_rule plain (option_rule (codes "mapping"))) (option_rule (codes "db"))

-- the program with its files and with a question: --query, --param, --explain and --index
abbrev pub with_question : App
with_question =
    let asked = with_rule (with_rule with_files (option_rule (codes "query"))) (repeated_rule (codes "param")) in
    with_rule (with_rule asked (flag_rule (codes "explain"))) (repeated_rule (codes "index"))

-- the same with the language of queries and its grammar: --language and --grammar
abbrev pub command : App
command = with_rule (with_rule with_question (option_rule (codes "language"))) (flag_rule (codes "grammar"))

-- the value that the words give an option, if they give one; the first word is the program's own
-- name
abbrev pub value_of : Text → List Text → Option Text
value_of name words = first_of name (matches_of command words)

-- the values that the words give an option, in their order
abbrev pub values_of : Text → List Text → List Text
values_of name words = unwrap_or (all_of name (matches_of command words)) []

-- whether a flag's value says that it stands there
abbrev pub is_set : Option Text → Bool
is_set (Some value) = bytes_eq value (codes "true")
is_set None = false

-- whether the words have a flag
abbrev pub has_flag : Text → List Text → Bool
has_flag name words = is_set (value_of name words)

-- clap counts a request among the faults: one for the help or for the version
abbrev pub is_request : ErrorKind → Bool
is_request DisplayHelp = true
is_request DisplayVersion = true
is_request _ = false

-- clap finds one fault, which is a request just where `asked` is true
abbrev pub IsFound : Bool → Kinds → Type 0
IsFound asked faults = (kind : ErrorKind) × (faults ≡ kind ∷ []) × (is_request kind ≡ asked)

-- what the program's end tells of the faults in its words: the text that a request is for, what is
-- said of any other fault, or that memory lacks
abbrev pub Tells : Kinds → Stop → Type 0
Tells faults (Stop.Shown text) = IsFound true faults
Tells faults (Stop.Words text) = IsFound false faults
Tells faults (Stop.Refused refusal) = refusal ≡ Refusal.Because Cause.OutOfMemory
Tells faults _ = ⊥

-- ---- options that need another one

-- where more is told, as clap says it of its faults
abbrev pub hint : Text
hint = 10 ∷ 10 ∷ codes "For more information, try '--help'." ++ 10 ∷ []

-- what is said of a query without a store's file
abbrev pub query_needs_db : Text
query_needs_db = codes "error: '--query <TEXT>' needs '--db <FILE>'" ++ hint

-- what is said of a parameter without a query
abbrev pub param_needs_query : Text
param_needs_query = codes "error: '--param <NAME=VALUE>' needs '--query <TEXT>'" ++ hint

-- what is said of a plan without a query
abbrev pub explain_needs_query : Text
explain_needs_query = codes "error: '--explain' needs '--query <TEXT>'" ++ hint

-- what is said of an index that is none of a plan without a store's file
abbrev pub index_needs_plan : Text
index_needs_plan = codes "error: '--index <ENTITY.NAME>' needs '--explain' without '--db <FILE>'" ++ hint

-- what is said of the grammar beside another option than a language
abbrev pub grammar_stands_alone : Text
grammar_stands_alone = codes "error: '--grammar' stands alone, or with '--language <NAME>'" ++ hint

-- what is said of a language that there isn't
abbrev pub language_is_unknown : Text
language_is_unknown = codes "error: '--language <NAME>' is 'profile' or 'wide'" ++ hint

-- whether this names a language of queries
abbrev pub is_language : Text → Bool
is_language name = bytes_eq name (codes "profile") || bytes_eq name (codes "wide")

-- what is said of a language that there isn't, where one is named
abbrev pub unknown : Option Text → Option Text
unknown None = None
unknown (Some name) = if is_language name then None else Some language_is_unknown

-- what is said of parameters or of a plan without a query
abbrev pub stray : List Text → Bool → Option Text
stray (param ∷ params) explain = Some param_needs_query
stray [] explain = if explain then Some explain_needs_query else None

-- a query asks a store's file, but for its plan; parameters and a plan are those of a query; what is said
-- else
abbrev pub needing : Option Text → Option Text → List Text → Bool → Option Text
needing (Some query) (Some db) params explain = None
needing (Some query) None params explain = if explain then None else Some query_needs_db
needing None db params explain = stray params explain

-- whether nothing is said of what is served or asked
abbrev pub is_bare : Settings → Bool
is_bare s = is_none s.mapping && is_none s.db && is_none s.query && (length s.params == 0) && not s.explain
    && (length s.indexes == 0)

-- the grammar goes with a language alone, and no option stands without the one that it needs; what is
-- said else
abbrev pub alone : Settings → Option Text
alone s = if s.grammar && not (is_bare s) then Some grammar_stands_alone else needing s.query s.db s.params s.explain

-- an index is one of a plan without a store's file; what is said else
abbrev pub stray_index : Settings → Option Text
stray_index s = if (length s.indexes == 0) || (s.explain && is_none s.db) then None else Some index_needs_plan

-- what is said first, else the other
abbrev pub said_first : Option Text → Option Text → Option Text
said_first None other = other
said_first (Some said) other = Some said

-- each option stands with those that it goes with, and the language of queries is one; what is said
-- else
abbrev pub lacking : Settings → Option Text
lacking s = said_first (said_first (alone s) (stray_index s)) (unknown s.language)

-- what clap found of the options
abbrev pub found : ArgMatches → Settings
found matches = record {
  mapping = first_value (found_of matches) (codes "mapping");
  db = first_value (found_of matches) (codes "db");
  query = first_value (found_of matches) (codes "query");
  params = unwrap_or (option_map raw_values (matched_of (found_of matches) (codes "param"))) [];
  explain = is_set (first_value (found_of matches) (codes "explain"));
  indexes = unwrap_or (option_map raw_values (matched_of (found_of matches) (codes "index"))) [];
  language = first_value (found_of matches) (codes "language");
  grammar = is_set (first_value (found_of matches) (codes "grammar"));
}

-- what the words say
abbrev pub said : List Text → Settings
said words = record {
  mapping = value_of (codes "mapping") words;
  db = value_of (codes "db") words;
  query = value_of (codes "query") words;
  params = values_of (codes "param") words;
  explain = has_flag (codes "explain") words;
  indexes = values_of (codes "index") words;
  language = value_of (codes "language") words;
  grammar = has_flag (codes "grammar") words;
}

-- what the words lack
abbrev pub lack_of : List Text → Option Text
lack_of words = lacking (said words)

-- clap finds no fault in the words, and they lack no option
pub record AreTaken (words : List Text) : Type 0 where
  pub faultless : fault_of command words ≡ []
  pub whole : lack_of words ≡ None

-- the program ends with this text for a command line that is refused
abbrev pub SaysWords : Text → Stop → Type 0
SaysWords said (Stop.Words text) = string_bytes text ≡ said
SaysWords said _ = ⊥

-- clap finds no fault in the words, which lack an option, and this is what is said of it
abbrev pub TellsLack : List Text → Stop → Type 0
TellsLack words stop =
    (fault_of command words ≡ []) × ((said : Text) × (lack_of words ≡ Some said) × SaysWords said stop)

-- what the program's end tells of words that are refused: of clap's fault, or of an option that
-- lacks
abbrev pub TellsOf : List Text → Stop → Type 0
TellsOf words stop = Tells (fault_of command words) stop ⊎ TellsLack words stop
