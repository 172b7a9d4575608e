-- What LIKE leaves a text to be, by the plain bytes that its pattern begins with (chapter 4.6.10).
use Rattle.std.specs.Prelude.{◌≡◌, ◌<◌, ◌+◌, ℕ, true, false, List, [], ◌∷◌, ◌++◌, length, take, Option}
use Rattle.std.specs.List.{AllByRecursion}
use Rattle.std.specs.Cmp.Lexicographic.{slice_cmp}
use Rattle.std.specs.Ordering.{is_le, nat_cmp}
use Rattle.jpa_value.specs.declared.value.Value.{Value}
use Rattle.jpa_model.specs.declared.unit.Member.{Member}
use Rattle.jpa_stored.specs.ordered.Values.{lies_in_any, own_value}
use Rattle.jpa_stored.specs.declared.ordered.cut.Cut.{Cut}
use Rattle.jpa_stored.specs.declared.ordered.cut.Span.{Span}
use Rattle.jpql_trees.specs.declared.typed.typed.TypedValue.{TypedValue}
use Rattle.jpql_meaning.specs.eval.Texts.{Text, escape_of, is_escape, mark_of}
use Rattle.jpql_meaning.specs.declared.eval.datum.Datum.{Datum}
use Rattle.jpql_meaning.specs.declared.eval.patterns.Mark.{Mark}
use Rattle.jpql_meaning.specs.plan.Paths.{Entry}
use Rattle.jpql_run.specs.Bounds.{AlwaysGives}
use Rattle.jpql_run.specs.Spans.{cut_at}
use Rattle.jpql_run.specs.declared.run.Run.{Run}

-- a byte isn't the escape character
abbrev pub IsOther : Option Text → ℕ → Type 0
IsOther escape b = is_escape (escape_of escape) b ≡ false

-- a byte of a pattern is a character that stands for itself
abbrev pub IsPlain : Option Text → ℕ → Type 0
IsPlain escape b = (b < 127) × (mark_of b ≡ Mark.Plain b) × IsOther escape b

-- a pattern begins with these bytes, each of which stands for itself
abbrev pub IsFront : Option Text → Text → List ℕ → Type 0
IsFront escape pattern front = AllByRecursion (IsPlain escape) front × ((rest : Text) × (pattern ≡ front ++ rest))

-- and so does the pattern that a value always gives
abbrev pub IsFrontOf : Run → TypedValue → Option Text → List ℕ → Type 0
IsFrontOf run w escape front =
    (pattern : Text) × AlwaysGives run w (Datum.Plain (Value.Text pattern)) × IsFront escape pattern front

-- a place is behind all texts that begin so: it is that of the same bytes with a greater last one
abbrev pub IsBehind : List ℕ → Cut → Type 0
IsBehind front at = (before : List ℕ) × (last : ℕ) × (front ≡ before ++ last ∷ [])
    × (at ≡ cut_at (Value.Text (before ++ (last + 1) ∷ [])) false)

-- no text that begins so, and goes on with this or what is behind it, lies in none of these spans
abbrev pub CoversBegun : List ℕ → List ℕ → List Span → Type 0
CoversBegun front next spans =
    (member : Member) (e : Entry) (rest : List ℕ) → lies_in_any member spans e ≡ false →
    own_value member e ≡ Value.Text (front ++ rest) → is_le (slice_cmp nat_cmp next rest) ≡ true → ⊥

-- the same of each of so many first parts of a front, where the text goes on with a byte from 127 on
abbrev pub CoversOthers : List ℕ → ℕ → List Span → Type 0
CoversOthers front count spans = (i : ℕ) → i < count → CoversBegun (take i front) (127 ∷ []) spans

-- no text that may be like a pattern with this front lies in none of these spans
abbrev pub CoversLike : List ℕ → List Span → Type 0
CoversLike front spans = CoversOthers front (length front) spans × CoversBegun front [] spans
