-- What functions give is of the sort that typing says.
use Rattle.std.proofs.Common.{◌≡◌, refl, sym, subst, ℤ, pos, Bool, true, false, List, [], ◌∷◌, length}
use Rattle.std.specs.Prelude.{nat_abs, nat_eq, int_rem, neg_ℤ, if◌then◌else◌, Option, Some, None}
use Rattle.std.specs.List.{list_all}
use Rattle.std.proofs.lemmas.Bool.{and_parts}
use Rattle.jpa_value.specs.declared.value.Value.{Value}
use Rattle.jpa_value.specs.Value.{is_i64}
use Rattle.jpa_rows.proofs.laws.Facts.{some_none, value_in}
use Rattle.jpa_stored.specs.objects.Sets.{each_fits}
use Rattle.jpql_trees.specs.declared.tree.Function.{Function}
use Rattle.jpql_trees.specs.declared.tree.Trimmed.{Trimmed}
use Rattle.jpql_trees.specs.declared.tree.Arithmetic.{Arithmetic}
use Rattle.jpql_trees.specs.declared.tree.Sign.{Sign}
use Rattle.jpql_trees.specs.declared.tree.Comparison.{Comparison}
use Rattle.jpql_trees.specs.tree.Calls.{takes}
use Rattle.jpql_types.specs.declared.sort.Sort.{Sort}
use Rattle.jpql_types.specs.Scope.{when}
use Rattle.jpql_types.specs.Sorts as sorts
use Rattle.jpql_meaning.specs.declared.eval.datum.Datum.{Datum}
use Rattle.jpql_meaning.specs.eval.Answers.{Answer, gives, overflows, ◌>>=◌}
use Rattle.jpql_meaning.specs.declared.eval.datum.Truth.{Truth}
use Rattle.jpql_meaning.specs.eval.Data.{null, is_nothing, among, between, compared}
use Rattle.jpql_meaning.specs.eval.Truths.{and3, is_yes, not3, or3, truth_of}
use Rattle.jpql_meaning.specs.eval.Numbers.{number, integer, arithmetic, signed, absolute, modulo, calculate}
use Rattle.jpql_meaning.specs.eval.Calls as calls
use Rattle.jpql_meaning.specs.eval.Cases as cases
use Rattle.jpql_meaning.specs.eval.Trims.{blank}
use Rattle.jpql_bulk.specs.kept.Fits.{is_of_sort}
use Rattle.jpql_bulk.proofs.kept.Sorts.{null_of, basic_each}
use Rattle.jpql_bulk.proofs.kept.Cases.{chosen_is, compared_integer, integer_then, matched_is, truth_of_sort}

-- a datum that is given is of the sort
abbrev pub gives_of : Sort → Answer Datum → Bool
gives_of s (gives d) = is_of_sort s d
gives_of s overflows = true

pub given_of : (s : Sort) (a : Answer Datum) (d : Datum) → gives_of s a ≡ true → a ≡ gives d → is_of_sort s d ≡ true
given_of s (gives x) d h e = let same : x ≡ d = cc in subst (λ y. is_of_sort s y ≡ true) same h
given_of s overflows d h e = absurd cc

pub given_in : (x d : Datum) → gives x ≡ gives d → x ≡ d
given_in x d e = cc

-- what is computed of whatever was given is of the sort
abbrev pub then_computed : {A : Type 0} → Answer A → (A → Answer Datum) → Answer Datum
then_computed a go = a >>= go

pub then_of : {A : Type 0} (s : Sort) (a : Answer A) (go : A → Answer Datum) → ((x : A) → gives_of s (go x) ≡ true) → gives_of s (then_computed a go) ≡ true
then_of s (gives x) go h = h x
then_of s overflows go h = refl

pub then_given : {A : Type 0} (s : Sort) (a : Answer A) (go : A → Answer Datum) → ((x : A) → a ≡ gives x → gives_of s (go x) ≡ true) → gives_of s (then_computed a go) ≡ true
then_given s (gives x) go h = h x refl
then_given s overflows go h = refl

-- ---- integers

integer_if : (n : ℤ) (b : Bool) → gives_of sorts.integer (if b then gives (number n) else overflows) ≡ true
integer_if n true = refl
integer_if n false = refl

integer_of : (n : ℤ) → gives_of sorts.integer (integer n) ≡ true
integer_of n = integer_if n (is_i64 n)

pub signed_of : (sign : Sign) (d : Datum) → gives_of sorts.integer (signed sign d) ≡ true
signed_of Sign.Plus (Datum.Plain (Value.Int n)) = integer_of n
signed_of Sign.Minus (Datum.Plain (Value.Int n)) = integer_of (neg_ℤ n)
signed_of Sign.Plus (Datum.Plain Value.Null) = refl
signed_of Sign.Plus (Datum.Plain (Value.Text t)) = refl
signed_of Sign.Plus (Datum.Plain (Value.Bytes t)) = refl
signed_of Sign.Plus (Datum.Entity id) = refl
signed_of Sign.Minus (Datum.Plain Value.Null) = refl
signed_of Sign.Minus (Datum.Plain (Value.Text t)) = refl
signed_of Sign.Minus (Datum.Plain (Value.Bytes t)) = refl
signed_of Sign.Minus (Datum.Entity id) = refl

pub arithmetic_of : (op : Arithmetic) (a b : Datum) → gives_of sorts.integer (arithmetic op a b) ≡ true
arithmetic_of op (Datum.Plain (Value.Int a)) (Datum.Plain (Value.Int b)) = integer_of (calculate op a b)
arithmetic_of op (Datum.Plain (Value.Int a)) (Datum.Plain Value.Null) = refl
arithmetic_of op (Datum.Plain (Value.Int a)) (Datum.Plain (Value.Text t)) = refl
arithmetic_of op (Datum.Plain (Value.Int a)) (Datum.Plain (Value.Bytes t)) = refl
arithmetic_of op (Datum.Plain (Value.Int a)) (Datum.Entity id) = refl
arithmetic_of op (Datum.Plain Value.Null) b = refl
arithmetic_of op (Datum.Plain (Value.Text t)) b = refl
arithmetic_of op (Datum.Plain (Value.Bytes t)) b = refl
arithmetic_of op (Datum.Entity id) b = refl

absolute_of : (d : Datum) → gives_of sorts.integer (absolute d) ≡ true
absolute_of (Datum.Plain (Value.Int n)) = integer_of (pos (nat_abs n))
absolute_of (Datum.Plain Value.Null) = refl
absolute_of (Datum.Plain (Value.Text t)) = refl
absolute_of (Datum.Plain (Value.Bytes t)) = refl
absolute_of (Datum.Entity id) = refl

rest_of : (n : ℤ) (b : Bool) → gives_of sorts.integer (if b then gives null else integer n) ≡ true
rest_of n true = refl
rest_of n false = integer_of n

modulo_of : (a b : Datum) → gives_of sorts.integer (modulo a b) ≡ true
modulo_of (Datum.Plain (Value.Int a)) (Datum.Plain (Value.Int b)) = rest_of (int_rem a b) (nat_eq (nat_abs b) 0)
modulo_of (Datum.Plain (Value.Int a)) (Datum.Plain Value.Null) = refl
modulo_of (Datum.Plain (Value.Int a)) (Datum.Plain (Value.Text t)) = refl
modulo_of (Datum.Plain (Value.Int a)) (Datum.Plain (Value.Bytes t)) = refl
modulo_of (Datum.Plain (Value.Int a)) (Datum.Entity id) = refl
modulo_of (Datum.Plain Value.Null) b = refl
modulo_of (Datum.Plain (Value.Text t)) b = refl
modulo_of (Datum.Plain (Value.Bytes t)) b = refl
modulo_of (Datum.Entity id) b = refl

-- ---- of operands where they are of the kind

one_of : {A : Type 0} (s : Sort) (make : A → Datum) (o : Option A) → ((x : A) → is_of_sort s (make x) ≡ true) → is_of_sort s (calls.of_one make o) ≡ true
one_of s make None h = null_of s
one_of s make (Some x) h = h x

length_of : (a : Datum) → is_of_sort sorts.integer (calls.length_of a) ≡ true
length_of a = one_of sorts.integer _ (calls.text_in a) (λ t. refl)

substring_of : (a from : Datum) → is_of_sort sorts.text (calls.substring_of a from) ≡ true
substring_of a from = one_of sorts.text _ (calls.text_in a) (λ t. one_of sorts.text _ (calls.integer_in from) (λ f. refl))

substring_upto : (a from n : Datum) → is_of_sort sorts.text (calls.substring_upto a from n) ≡ true
substring_upto a from n = one_of sorts.text _ (calls.text_in a) (λ t. one_of sorts.text _ (calls.integer_in from) (λ f. one_of sorts.text _ (calls.integer_in n) (λ k. refl)))

upper_of : (a : Datum) → is_of_sort sorts.text (calls.upper_of a) ≡ true
upper_of a = one_of sorts.text _ (calls.text_in a) (λ t. refl)

lower_of : (a : Datum) → is_of_sort sorts.text (calls.lower_of a) ≡ true
lower_of a = one_of sorts.text _ (calls.text_in a) (λ t. refl)

trim_of : (sides : Trimmed) (a off : Datum) → is_of_sort sorts.text (calls.trim_of sides a off) ≡ true
trim_of sides a off = one_of sorts.text _ (calls.text_in off) (λ o. one_of sorts.text _ (calls.text_in a) (λ t. refl))

locate_from : (x a from : Datum) → is_of_sort sorts.integer (calls.locate_from x a from) ≡ true
locate_from x a from = one_of sorts.integer _ (calls.text_in x) (λ s. one_of sorts.integer _ (calls.text_in a) (λ t. one_of sorts.integer _ (calls.integer_in from) (λ f. refl)))

-- ---- of values of one sort

coalesce_of : (s : Sort) (ds : List Datum) → list_all (is_of_sort s) ds ≡ true → is_of_sort s (calls.coalesce ds) ≡ true
coalesce_of s [] h = null_of s
coalesce_of s (d ∷ ds) h =
    let a = and_parts (is_of_sort s d) (list_all (is_of_sort s) ds) h in
    by_test (is_nothing d) a.0 (coalesce_of s ds a.1)
  where
    by_test : (b : Bool) → is_of_sort s d ≡ true → is_of_sort s (calls.coalesce ds) ≡ true → is_of_sort s (if b then calls.coalesce ds else d) ≡ true
    by_test true own later = later
    by_test false own later = own

null_if_of : (s : Sort) (a b : Datum) → is_of_sort s a ≡ true → is_of_sort s (calls.null_if a b) ≡ true
null_if_of s a b h = by_test (is_yes (compared Comparison.Equal a b))
  where
    by_test : (t : Bool) → is_of_sort s (if t then null else a) ≡ true
    by_test true = null_of s
    by_test false = h

-- ---- all functions of one to three operands

some_of : (s : Sort) (f : Function) → ((a : Datum) → gives_of s (calls.of_operand f a) ≡ true) → ((a b : Datum) → gives_of s (calls.of_two f a b) ≡ true)
    → ((a b c : Datum) → gives_of s (calls.of_three f a b c) ≡ true) → (ds : List Datum) → gives_of s (calls.of_some f ds) ≡ true
some_of s f one two three [] = null_of s
some_of s f one two three (a ∷ []) = one a
some_of s f one two three (a ∷ b ∷ []) = two a b
some_of s f one two three (a ∷ b ∷ c ∷ []) = three a b c
some_of s f one two three (a ∷ b ∷ c ∷ d ∷ ds) = null_of s

nulls_of : (s : Sort) (ds : List Datum) → list_all (is_of_sort s) ds ≡ true → gives_of s (calls.applied Function.NullIf ds) ≡ true
nulls_of s [] h = null_of s
nulls_of s (a ∷ []) h = null_of s
nulls_of s (a ∷ b ∷ []) h = null_if_of s a b (and_parts (is_of_sort s a) _ h).0
nulls_of s (a ∷ b ∷ c ∷ []) h = null_of s
nulls_of s (a ∷ b ∷ c ∷ d ∷ ds) h = null_of s

among_of : (ds : List Datum) → is_of_sort sorts.integer (cases.is_among ds) ≡ true
among_of [] = refl
among_of (x ∷ ds) = truth_of_sort (among x ds)

when_is : (b : Bool) (s r : Sort) → when b s ≡ Some r → s ≡ r
when_is true s r e = value_in s r e
when_is false s r e = absurd (some_none r (sym e))

-- what is of the sort of a function is of the sort that typing says
whenever : (b : Bool) (s r : Sort) (a : Answer Datum) → when b s ≡ Some r → gives_of s a ≡ true → gives_of r a ≡ true
whenever b s r a e h = subst (λ t. gives_of t a ≡ true) (when_is b s r e) h

-- a test is of the sort of integers
tested : (s r : Sort) (f : Function) (ds : List Datum) → s ≡ r → gives_of s (calls.of_some f ds) ≡ true → gives_of r (calls.of_some f ds) ≡ true
tested s r f ds e h = subst (λ t. gives_of t (calls.of_some f ds) ≡ true) e h

given_by : (f : Function) (ss : List Sort) (ds : List Datum) (r : Sort) → sorts.given_sort f ss ≡ Some r → each_fits is_of_sort ss ds ≡ true → gives_of r (calls.applied f ds) ≡ true
given_by Function.Length ss ds r e h = whenever _ sorts.integer r (calls.applied Function.Length ds) e (some_of sorts.integer Function.Length length_of (λ a b. refl) (λ a b c. refl) ds)
given_by Function.Concat ss ds r e h = whenever _ sorts.text r (calls.applied Function.Concat ds) e (one_of sorts.text calls.text (calls.joined_texts ds) (λ t. refl))
given_by Function.Substring ss ds r e h = whenever _ sorts.text r (calls.applied Function.Substring ds) e (some_of sorts.text Function.Substring (λ a. refl) substring_of substring_upto ds)
given_by Function.Locate ss ds r e h = whenever _ sorts.integer r (calls.applied Function.Locate ds) e (some_of sorts.integer Function.Locate (λ a. refl) (λ a b. locate_from a b (number (pos 1))) locate_from ds)
given_by Function.Abs ss ds r e h = whenever _ sorts.integer r (calls.applied Function.Abs ds) e (some_of sorts.integer Function.Abs absolute_of (λ a b. refl) (λ a b c. refl) ds)
given_by Function.Mod ss ds r e h = whenever _ sorts.integer r (calls.applied Function.Mod ds) e (some_of sorts.integer Function.Mod (λ a. refl) modulo_of (λ a b c. refl) ds)
given_by Function.Coalesce ss ds r e h = coalesce_of r ds (basic_each r ss ds e h)
given_by Function.NullIf ss ds r e h = nulls_of r ds (basic_each r ss ds e h)
given_by Function.Upper ss ds r e h = whenever _ sorts.text r (calls.applied Function.Upper ds) e (some_of sorts.text Function.Upper upper_of (λ a b. refl) (λ a b c. refl) ds)
given_by Function.Lower ss ds r e h = whenever _ sorts.text r (calls.applied Function.Lower ds) e (some_of sorts.text Function.Lower lower_of (λ a b. refl) (λ a b c. refl) ds)
given_by (Function.Trim sides) ss ds r e h =
    whenever _ sorts.text r (calls.applied (Function.Trim sides) ds) e
    (some_of sorts.text (Function.Trim sides) (λ a. trim_of sides a (calls.text blank)) (trim_of sides) (λ a b c. refl) ds)
given_by Function.Case ss ds r e h = matched_is r (cases.truth_datum Truth.Yes) ss ds e h
given_by Function.Match ss ds r e h = chosen_is r ss ds e h
given_by (Function.Test op) ss ds r e h =
    tested sorts.integer r (Function.Test op) ds (compared_integer op ss r e)
    (some_of sorts.integer (Function.Test op) (λ a. refl) (λ a b. truth_of_sort (compared op a b)) (λ a b c. refl) ds)
given_by Function.IsBetween ss ds r e h =
    tested sorts.integer r Function.IsBetween ds (integer_then (sorts.joined_basic ss) r e)
    (some_of sorts.integer Function.IsBetween (λ a. refl) (λ a b. refl) (λ a low high. truth_of_sort (between a low high)) ds)
given_by Function.IsAmong ss ds r e h =
    subst (λ t. is_of_sort t (cases.is_among ds) ≡ true) (integer_then (sorts.joined ss) r e) (among_of ds)
given_by Function.IsLike ss ds r e h =
    whenever _ sorts.integer r (calls.applied Function.IsLike ds) e
    (some_of sorts.integer Function.IsLike (λ a. refl) (λ a b. truth_of_sort (calls.like None a b)) (λ a b c. truth_of_sort (calls.like (calls.text_in c) a b)) ds)
given_by Function.IsNull ss ds r e h =
    tested sorts.integer r Function.IsNull ds (value_in sorts.integer r e)
    (some_of sorts.integer Function.IsNull (λ a. truth_of_sort (truth_of (is_nothing a))) (λ a b. refl) (λ a b c. refl) ds)
given_by Function.And ss ds r e h =
    whenever _ sorts.integer r (calls.applied Function.And ds) e
    (some_of sorts.integer Function.And (λ a. refl) (λ a b. truth_of_sort (and3 (cases.truth_in a) (cases.truth_in b))) (λ a b c. refl) ds)
given_by Function.Or ss ds r e h =
    whenever _ sorts.integer r (calls.applied Function.Or ds) e
    (some_of sorts.integer Function.Or (λ a. refl) (λ a b. truth_of_sort (or3 (cases.truth_in a) (cases.truth_in b))) (λ a b c. refl) ds)
given_by Function.Not ss ds r e h =
    whenever _ sorts.integer r (calls.applied Function.Not ds) e
    (some_of sorts.integer Function.Not (λ a. truth_of_sort (not3 (cases.truth_in a))) (λ a b. refl) (λ a b c. refl) ds)

-- where a function takes so many
pub call_of : (f : Function) (ss : List Sort) (ds : List Datum) (r : Sort) → sorts.call_sort f ss ≡ Some r → each_fits is_of_sort ss ds ≡ true → gives_of r (calls.applied f ds) ≡ true
call_of f ss ds r e h = by_test (takes f (length ss)) e
  where
    by_test : (b : Bool) → (if b then sorts.given_sort f ss else None) ≡ Some r → gives_of r (calls.applied f ds) ≡ true
    by_test true g = given_by f ss ds r g h
    by_test false g = absurd (some_none r (sym g))
