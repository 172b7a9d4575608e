-- Functions (chapter 4.7.2 to 4.7.4): of a null argument each is null, but COALESCE, NULLIF, CASE and the
-- tests inside one.
use Rattle.std.specs.Prelude.{ℤ, pos, List, [], ◌∷◌, ◌++◌, length, Option, Some, None, option_map, if◌then◌else◌, chars}
use Rattle.std.specs.StrCase.Lower.{str_to_lowercase}
use Rattle.std.specs.StrCase.Upper.{str_to_uppercase}
use Rattle.jpa_value.specs.declared.value.Value.{Value}
use Rattle.jpql_trees.specs.declared.tree.Comparison.{Comparison}
use Rattle.jpql_trees.specs.declared.tree.Function.{Function}
use Rattle.jpql_trees.specs.declared.tree.Trimmed.{Trimmed}
use Rattle.jpql_meaning.specs.declared.eval.datum.Datum.{Datum}
use Rattle.jpql_meaning.specs.eval.Answers.{Answer, gives}
use Rattle.jpql_meaning.specs.declared.eval.datum.Truth.{Truth}
use Rattle.jpql_meaning.specs.eval.Truths.{truth_of, not3, and3, or3, is_yes}
use Rattle.jpql_meaning.specs.eval.Data.{null, is_nothing, compared, between}
use Rattle.jpql_meaning.specs.eval.Cases.{truth_datum, truth_in, chosen, chosen_of, is_among}
use Rattle.jpql_meaning.specs.eval.Numbers.{number, absolute, modulo}
use Rattle.jpql_meaning.specs.eval.Texts.{Text, substring, locate, is_like}
use Rattle.jpql_meaning.specs.eval.Trims.{trimmed, blank}

-- the text that a datum is, if it is one
abbrev pub text_in : Datum → Option Text
text_in (Datum.Plain (Value.Text t)) = Some t
text_in _ = None

-- the integer that a datum is, if it is one
abbrev pub integer_in : Datum → Option ℤ
integer_in (Datum.Plain (Value.Int n)) = Some n
integer_in _ = None

-- what is made of an operand, where it is of the kind
abbrev pub of_one : {A : Type 0} → (A → Datum) → Option A → Datum
of_one make None = null
of_one make (Some a) = make a

-- a text as a datum
abbrev pub text : Text → Datum
text t = Datum.Plain (Value.Text t)

-- the first that isn't null
abbrev pub coalesce : List Datum → Datum
coalesce [] = null
coalesce (a ∷ all) = if is_nothing a then coalesce all else a

-- null where both are equal, else the first
abbrev pub null_if : Datum → Datum → Datum
null_if a b = if is_yes (compared Comparison.Equal a b) then null else a

-- two texts as one, where there are both
abbrev pub put_text : Option Text → Option Text → Option Text
put_text None more = None
put_text (Some t) more = option_map (λ others. t ++ others) more

-- texts as one, where each datum is one
abbrev pub joined_texts : List Datum → Option Text
joined_texts [] = Some []
joined_texts (a ∷ all) = put_text (text_in a) (joined_texts all)

-- LENGTH: the number of characters of a text (chapter 4.7.2)
abbrev pub length_of : Datum → Datum
length_of a = of_one (λ t. number (pos (length (chars t)))) (text_in a)

-- SUBSTRING from a position to the end (chapter 4.7.2)
abbrev pub substring_of : Datum → Datum → Datum
substring_of a from = of_one (λ t. of_one (λ f. text (substring t f None)) (integer_in from)) (text_in a)

-- SUBSTRING from a position, of so many characters (chapter 4.7.2)
abbrev pub substring_upto : Datum → Datum → Datum → Datum
substring_upto a from n =
    of_one (λ t. of_one (λ f. of_one (λ k. text (substring t f (Some k))) (integer_in n)) (integer_in from)) (text_in a)

-- LOCATE: where a text stands in another, from a position on (chapter 4.7.2)
abbrev pub locate_from : Datum → Datum → Datum → Datum
locate_from x a from =
    of_one (λ s. of_one (λ t. of_one (λ f. number (pos (locate s t f))) (integer_in from)) (text_in a)) (text_in x)

-- UPPER: each character in upper case, by Unicode's full mapping (chapter 4.7.2)
abbrev pub upper_of : Datum → Datum
upper_of a = of_one (λ t. text (str_to_uppercase t)) (text_in a)

-- LOWER: each character in lower case, by Unicode's full mapping (chapter 4.7.2)
abbrev pub lower_of : Datum → Datum
lower_of a = of_one (λ t. text (str_to_lowercase t)) (text_in a)

-- TRIM: a text without another at its sides (chapter 4.7.2)
abbrev pub trim_of : Trimmed → Datum → Datum → Datum
trim_of side a off = of_one (λ o. of_one (λ t. text (trimmed side o t)) (text_in a)) (text_in off)

-- LIKE of a null operand is unknown
abbrev pub of_texts : (Text → Text → Truth) → Option Text → Option Text → Truth
of_texts judge (Some a) (Some b) = judge a b
of_texts judge _ _ = Truth.Unknown

-- LIKE of a text and a pattern (chapter 4.6.10)
abbrev pub like : Option Text → Datum → Datum → Truth
like escape a pattern = of_texts (λ t p. truth_of (is_like t p escape)) (text_in a) (text_in pattern)

-- of one operand, of two, of three
abbrev pub of_operand : Function → Datum → Answer Datum
of_operand Function.Length a = gives (length_of a)
of_operand Function.Abs a = absolute a
of_operand Function.Upper a = gives (upper_of a)
of_operand Function.Lower a = gives (lower_of a)
of_operand (Function.Trim side) a = gives (trim_of side a (text blank))
of_operand Function.IsNull a = gives (truth_datum (truth_of (is_nothing a)))
of_operand Function.Not a = gives (truth_datum (not3 (truth_in a)))
of_operand _ a = gives null

-- a function of two operands; a function that takes another number gives null
abbrev pub of_two : Function → Datum → Datum → Answer Datum
of_two Function.Substring a from = gives (substring_of a from)
of_two Function.Locate x a = gives (locate_from x a (number (pos 1)))
of_two Function.Mod a b = modulo a b
of_two Function.NullIf a b = gives (null_if a b)
of_two (Function.Trim side) a off = gives (trim_of side a off)
of_two (Function.Test op) a b = gives (truth_datum (compared op a b))
of_two Function.IsLike a pattern = gives (truth_datum (like None a pattern))
of_two Function.And a b = gives (truth_datum (and3 (truth_in a) (truth_in b)))
of_two Function.Or a b = gives (truth_datum (or3 (truth_in a) (truth_in b)))
of_two _ a b = gives null

-- a function of three operands; a function that takes another number gives null
abbrev pub of_three : Function → Datum → Datum → Datum → Answer Datum
of_three Function.Substring a from n = gives (substring_upto a from n)
of_three Function.Locate x a from = gives (locate_from x a from)
of_three Function.IsBetween a low high = gives (truth_datum (between a low high))
of_three Function.IsLike a pattern escape = gives (truth_datum (like (text_in escape) a pattern))
of_three _ a b c = gives null

-- a function of one to three operands; of another number it gives null
abbrev pub of_some : Function → List Datum → Answer Datum
of_some f [] = gives null
of_some f (a ∷ []) = of_operand f a
of_some f (a ∷ b ∷ []) = of_two f a b
of_some f (a ∷ b ∷ c ∷ []) = of_three f a b c
of_some f (a ∷ b ∷ c ∷ d ∷ all) = gives null

-- what a function gives of its arguments (chapters 4.7.2 and 4.7.4)
abbrev pub applied : Function → List Datum → Answer Datum
applied Function.Concat all = gives (of_one text (joined_texts all))
applied Function.Coalesce all = gives (coalesce all)
applied Function.Case all = gives (chosen all)
applied Function.Match all = gives (chosen_of all)
applied Function.IsAmong all = gives (is_among all)
applied f all = of_some f all
