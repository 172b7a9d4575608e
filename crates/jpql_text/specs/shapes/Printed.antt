-- What the grammar of a language has, as a line of JSON: its words, functions and limits.
use Rattle.std.specs.Prelude.{ℕ, List, [], ◌∷◌, ◌++◌, map, codes, Option, Some, None}
use Rattle.std.specs.List.{flat_map}
use Rattle.serde_json.specs.Data.{Data, Members, null, number, string, array, object, unsigned, member, no_members}
use Rattle.serde_json.specs.View.{items_of}
use Rattle.serde_json.specs.Written.{compact_text}
use Rattle.jpa_value.specs.Limits.{most_query_bytes, most_open_parentheses, most_query_variables}
use Rattle.jpql_trees.specs.declared.tree.Aggregate.{Aggregate}
use Rattle.jpql_trees.specs.declared.tree.Function.{Function}
use Rattle.jpql_trees.specs.declared.tree.Function.TheVariants as f
use Rattle.jpql_trees.specs.declared.tree.Language.{Language}
use Rattle.jpql_trees.specs.declared.tree.Language.TheVariants as language
use Rattle.jpql_trees.specs.declared.tree.Trimmed.TheVariants as side
use Rattle.jpql_trees.specs.tree.Names.{Text}
use Rattle.jpql_grammar.specs.declared.grammar.token.Callee.{Callee}
use Rattle.jpql_grammar.specs.declared.grammar.token.Callee.TheVariants as calls
use Rattle.jpql_grammar.specs.declared.grammar.token.Keyword.{Keyword}
use Rattle.jpql_grammar.specs.grammar.Text.{keywords, spelling}
use Rattle.jpql_grammar.specs.grammar.Values.{callee_of}
use Rattle.jpql_text.specs.text.Together.{most_list_values, most_values_together, most_cases}
use Rattle.jpql_text.specs.shapes.Shapes.{ArgumentKind, Shape, shape}
use Rattle.jpql_text.specs.shapes.Shapes as kind

-- the name of a language
abbrev pub language_name : Language → Text
language_name language.Profile = codes "profile"
language_name language.Wide = codes "wide"

-- the name of what an argument is
abbrev pub kind_name : ArgumentKind → Text
kind_name kind.text = codes "text"
kind_name kind.integer = codes "integer"
kind_name kind.any = codes "any"

-- a list of texts
abbrev pub texts_data : List Text → Data
texts_data all = array (items_of (map string all))

-- a bound, null where there is none
abbrev pub most_data : Option ℕ → Data
most_data (Some n) = number (unsigned n)
most_data None = null

-- a function by its name, with its shape
abbrev pub shape_data : Text → Shape → Data
shape_data name h =
    object (member (codes "name") (string name)
    (member (codes "arguments") (texts_data (map kind_name h.arguments))
    (member (codes "least") (number (unsigned h.least))
    (member (codes "most") (most_data h.most)
    (member (codes "result") (string (kind_name h.result)) no_members)))))

-- a function that has a shape, told
abbrev pub shape_told : Text → Option Shape → List Data
shape_told name (Some h) = shape_data name h ∷ []
shape_told name None = []

-- the function that a word calls, told; TRIM is one of whatever sides
abbrev pub function_told : Text → Callee → List Data
function_told name (calls.Function function) = shape_told name (shape function)
function_told name calls.Trim = shape_told name (shape (f.Trim side.Both))
function_told name _ = []

-- the aggregate that a word calls, told (chapter 4.9.5)
abbrev pub aggregate_told : Text → Callee → List Data
aggregate_told name (calls.Aggregate aggregate) = string name ∷ []
aggregate_told name _ = []

-- what words call, told, in their order
abbrev pub all_told : (Text → Callee → List Data) → List Keyword → Data
all_told told words = array (items_of (flat_map (λ k. told (spelling k) (callee_of k)) words))

-- the limit of words CASE, which the wide language alone has
abbrev pub cases_told : Language → Members
cases_told language.Profile = no_members
cases_told language.Wide = member (codes "cases") (number (unsigned most_cases)) no_members

-- the limits of a query: of its text's bytes, of parentheses that are open at some place, of the
-- variables that it declares, of the values of a collection, of those that collections become in it
-- together, and of its words CASE
abbrev pub limits_data : Language → Data
limits_data l =
    object (member (codes "bytes") (number (unsigned most_query_bytes))
    (member (codes "parentheses") (number (unsigned most_open_parentheses))
    (member (codes "variables") (number (unsigned most_query_variables))
    (member (codes "list") (number (unsigned most_list_values))
    (member (codes "listsTogether") (number (unsigned most_values_together)) (cases_told l))))))

-- what the grammar of a language has (chapter 4.4.1)
abbrev pub grammar_data : Language → Data
grammar_data l =
    object (member (codes "language") (string (language_name l))
    (member (codes "keywords") (texts_data (map spelling (keywords l)))
    (member (codes "functions") (all_told function_told (keywords l))
    (member (codes "aggregates") (all_told aggregate_told (keywords l))
    (member (codes "limits") (limits_data l) no_members)))))

-- the same as compact JSON, and a line feed
abbrev pub grammar_text : Language → Text
grammar_text l = compact_text (grammar_data l) ++ 10 ∷ []
