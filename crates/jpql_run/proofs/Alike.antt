-- What lies in none of the spans of a pattern's front isn't like it.
use Rattle.std.proofs.Common.{arith, ◌≡◌, ◌∙◌, ◌<◌, ◌≤◌, ◌+◌, ◌-◌, refl, ap, sym, subst, ℕ, zero, suc, Bool, true, false, cond, not, List, [], ◌∷◌, ◌++◌, length, take, drop, get_or, Option, Some, None, inl, inr, nat_eq}
use Rattle.std.specs.Prelude.{◌⊎◌, ◌&&◌, ◌==◌, nat_lt, if◌then◌else◌, IfSome}
use Rattle.std.specs.Cmp.{tied_itself, nat_cmp_total}
use Rattle.std.specs.Cmp.Lexicographic.{slice_cmp}
use Rattle.std.specs.List.{AllByRecursion}
use Rattle.std.specs.Str.{chars, chars_after}
use Rattle.std.specs.declared.cmp.Ordering.{Ordering}
use Rattle.std.specs.declared.cmp.Ordering.TheVariants.{Less, Equal, Greater}
use Rattle.std.specs.Ordering.{bool_cmp, is_gt, is_le, nat_cmp, ordering_then}
use Rattle.std.proofs.lemmas.Bool.{cases_lt, false≢true}
use Rattle.std.proofs.lemmas.List.{append_assoc, take-append-drop}
use Rattle.std.proofs.lemmas.Str.{chars-nil}
use Rattle.jpa_value.specs.declared.value.Value.{Value}
use Rattle.jpa_value.specs.Value.{identity_cmp, value_cmp}
use Rattle.jpa_model.specs.declared.unit.Member.{Member}
use Rattle.jpa_model.specs.declared.unit.PersistenceUnit.{PersistenceUnit}
use Rattle.jpa_stored.specs.objects.Sets.{StoredSet}
use Rattle.jpa_stored.specs.ordered.Values.{at_object, cut_cmp, goes_on, has_begun, least, lies_in_any, own_value}
use Rattle.jpa_stored.specs.declared.ordered.cut.Cut.{Cut}
use Rattle.jpa_stored.specs.declared.ordered.cut.Span.{Span}
use Rattle.jpa_open.specs.Opened.{now}
use Rattle.jpql_trees.specs.declared.typed.path.TypedPath.{TypedPath}
use Rattle.jpql_trees.specs.declared.typed.typed.TypedCondition.TheVariants as is
use Rattle.jpql_trees.specs.declared.typed.typed.TypedValue.{TypedValue}
use Rattle.jpql_trees.specs.declared.typed.typed.TypedValue.TheVariants as v
use Rattle.jpql_meaning.specs.eval.Texts.{Text, escape_of, is_escape, is_like, is_matched, mark_of, marks, only, takes_plain}
use Rattle.jpql_meaning.specs.eval.Answers.{both, gives}
use Rattle.jpql_meaning.specs.eval.Calls.{like}
use Rattle.jpql_meaning.specs.eval.Truths.{truth_of}
use Rattle.jpql_meaning.specs.declared.eval.datum.Datum.{Datum}
use Rattle.jpql_meaning.specs.declared.eval.datum.Truth.{Truth}
use Rattle.jpql_meaning.specs.declared.eval.patterns.Mark.{Mark}
use Rattle.jpql_meaning.specs.plan.Meaning.{alone, value}
use Rattle.jpql_meaning.specs.plan.Paths.{Entry, Tuple, with_object}
use Rattle.jpql_run.specs.Ends.{IsOwn, LeadsTo}
use Rattle.jpql_run.specs.Likes.{CoversBegun, CoversLike, CoversOthers, IsBehind, IsFront, IsFrontOf, IsOther, IsPlain}
use Rattle.jpql_run.specs.Refused.{Refuses}
use Rattle.jpql_run.specs.Spans.{AsksSpans, cut_at}
use Rattle.jpql_run.specs.declared.run.Run.{Run}
use Rattle.jpql_run.proofs.Found.{yes_inside}
use Rattle.jpql_run.proofs.Lookups.{new_path}
use Rattle.jpql_run.proofs.Outside.{both_true, in_one, lowest, out_before}
use Rattle.jpql_run.proofs.Truths.{truth_of_like}

-- ---- the characters of a text whose first byte is one

nat_lt_true : (a b : ℕ) → a < b → nat_lt a b ≡ true
nat_lt_true a b l = grind arith

nat_lt_false : (a b : ℕ) → b ≤ a → nat_lt a b ≡ false
nat_lt_false a b l = grind arith

nat_eq_false : (a b : ℕ) → b < a → nat_eq a b ≡ false
nat_eq_false a b l = grind arith

pub chars_plain : (b : ℕ) (bs : List ℕ) → b < 128 → chars (b ∷ bs) ≡ b ∷ chars bs
unfolding chars
chars_plain b bs l = by (nat_lt b 128) (nat_lt_true b 128 l) bs
  where
    by : (t : Bool) → t ≡ true → (ds : List ℕ)
        → chars_after (cond t 0 (cond (nat_lt b 224) 1 (cond (nat_lt b 240) 2 3))) (cond t b (cond (nat_lt b 224) (b - 192) (cond (nat_lt b 240) (b - 224) (b - 240)))) ds ≡ b ∷ chars ds
    by false e ds = absurd (false≢true e)
    by true e [] = refl
    by true e (d ∷ ds) = refl

-- ---- the marks of a plain byte

marks_plain : (escape : Option ℕ) (b : ℕ) (cs : List ℕ) → mark_of b ≡ Mark.Plain b → is_escape escape b ≡ false → marks escape (b ∷ cs) ≡ Mark.Plain b ∷ marks escape cs
marks_plain escape b [] plain other = ap (λ t. if t then Mark.Plain b ∷ [] else (mark_of b ∷ [])) other ∙ ap (λ m. m ∷ []) plain
marks_plain escape b (c ∷ cs) plain other =
    ap (λ t. if t then Mark.Plain c ∷ marks escape cs else (mark_of b ∷ marks escape (c ∷ cs))) other ∙ ap (λ m. m ∷ marks escape (c ∷ cs)) plain

first_same : (b c : ℕ) (more : Bool) → (nat_eq b c && more) ≡ true → (b ≡ c) × (more ≡ true)
first_same b c more e = by (nat_eq b c) refl e
  where
    by : (t : Bool) → nat_eq b c ≡ t → (t && more) ≡ true → (b ≡ c) × (more ≡ true)
    by true same k = (grind arith, k)
    by false same k = absurd (false≢true k)

-- ---- what is like a pattern begins with its front, or differs from it by a byte behind ASCII

abbrev pub MayBegin : List ℕ → List ℕ → Type 0
MayBegin front t =
    ((i : ℕ) × (i < length front) × ((rest : List ℕ) × (t ≡ take i front ++ rest) × (is_le (slice_cmp nat_cmp (127 ∷ []) rest) ≡ true)))
    ⊎ ((rest : List ℕ) × (t ≡ front ++ rest))

one_further : (b : ℕ) (front t : List ℕ) → MayBegin front t → MayBegin (b ∷ front) (b ∷ t)
one_further b front t (inl (i, l, (rest, is, far))) = inl (suc i, omega (arith, l), (rest, ap (λ u. b ∷ u) is, far))
one_further b front t (inr (rest, is)) = inr (rest, ap (λ u. b ∷ u) is)

last_or_behind : (c : ℕ) (t : List ℕ) → 127 < c → is_le (slice_cmp nat_cmp (127 ∷ []) (c ∷ t)) ≡ true
last_or_behind c t l = ap (λ o. is_le (ordering_then o (slice_cmp nat_cmp [] t))) less
  where
    less : nat_cmp 127 c ≡ Less
    less = ap (λ x. cond x Less (cond (127 == c) Equal Greater)) (nat_lt_true 127 c l)

-- whether what is behind the front of a pattern matches these characters
abbrev takes_rest : Option Text → List ℕ → Text → List ℕ → Bool
takes_rest escape front rest = is_matched (marks (escape_of escape) (chars (front ++ rest)))

pub matched_begins : (escape : Option Text) (front rest t : List ℕ) → AllByRecursion (IsPlain escape) front
    → is_matched (marks (escape_of escape) (chars (front ++ rest))) (chars t) ≡ true → MayBegin front t
matched_begins escape [] rest t plain e = inr (t, refl)
matched_begins escape (b ∷ front) rest t plain e =
    let first = plain.0 in
    by t (λ u. matched_begins escape front rest u plain.1) (sym (ap (λ cs. is_matched (marks (escape_of escape) cs) (chars t)) (chars_plain b (front ++ rest) (omega (arith, first.0)))
    ∙ ap (λ ms. is_matched ms (chars t)) (marks_plain (escape_of escape) b (chars (front ++ rest)) first.1 first.2)) ∙ e)
  where
    by : (u : List ℕ) → ((v : List ℕ) → takes_rest escape front rest (chars v) ≡ true → MayBegin front v) → takes_plain b (takes_rest escape front rest) (chars u) ≡ true → MayBegin (b ∷ front) u
    by [] more k = absurd (false≢true (ap (takes_plain b (takes_rest escape front rest)) (sym chars-nil) ∙ k))
    by (c ∷ u) more k = elim (cases_lt c 128) [
      | inl low ↦ (
          let both = first_same b c (takes_rest escape front rest (chars u)) (ap (takes_plain b (takes_rest escape front rest)) (sym (chars_plain c u low)) ∙ k) in
          subst (λ d. MayBegin (b ∷ front) (d ∷ u)) both.0 (one_further b front u (more u both.1)))
      | inr high ↦ inl (0, omega arith, (c ∷ u, refl, last_or_behind c u (omega (arith, high))))
    ]

-- ---- the front as a loop finds it

pub other_one : (escape : Option Text) (bytes : List ℕ) (b : ℕ) → escape ≡ Some bytes → 1 ≤ length bytes → length bytes < 2 → get_or bytes 0 0 < 128 → not (nat_eq (get_or bytes 0 0) b) ≡ true → IsOther escape b
other_one escape [] b is some one low apart = absurd (omega (arith, some))
other_one escape (x ∷ y ∷ more) b is some one low apart = absurd (omega (arith, one))
other_one escape (x ∷ []) b is some one low apart =
    ap (λ o. is_escape (escape_of o) b) is ∙ ap (λ cs. is_escape (only cs) b) (chars_plain x [] low ∙ ap (λ cs. x ∷ cs) chars-nil) ∙ turned
  where
    turned : nat_eq b x ≡ false
    turned = grind (arith, apart)

-- the bytes before an index are plain
abbrev pub PlainBefore : Option Text → List ℕ → ℕ → Type 0
PlainBefore escape bytes i = (k : ℕ) → k < i → IsPlain escape (get_or bytes k 0)

plain_taken : (escape : Option Text) (bytes : List ℕ) (i : ℕ) → PlainBefore escape bytes i → AllByRecursion (IsPlain escape) (take i bytes)
plain_taken escape bytes zero plain = tt
plain_taken escape [] (suc i) plain = tt
plain_taken escape (b ∷ bytes) (suc i) plain = (plain 0 (omega arith), plain_taken escape bytes i (λ k l. plain (suc k) (omega (arith, l))))

pub front_taken : (escape : Option Text) (bytes : List ℕ) (i : ℕ) → PlainBefore escape bytes i → IsFront escape bytes (take i bytes)
front_taken escape bytes i plain = (plain_taken escape bytes i plain, (drop i bytes, sym (take-append-drop i bytes)))

-- ---- the span of what begins so

same_front : (front next rest : List ℕ) → slice_cmp nat_cmp (front ++ next) (front ++ rest) ≡ slice_cmp nat_cmp next rest
same_front [] next rest = refl
same_front (b ∷ front) next rest = ap (λ o. ordering_then o (slice_cmp nat_cmp (front ++ next) (front ++ rest))) (tied_itself nat_cmp_total b) ∙ same_front front next rest

greater_last : (n : ℕ) (rest : List ℕ) → slice_cmp nat_cmp ((n + 1) ∷ []) (n ∷ rest) ≡ Greater
greater_last n rest = ap (λ o. ordering_then o (slice_cmp nat_cmp [] rest)) greater
  where
    greater : nat_cmp (n + 1) n ≡ Greater
    greater = ap (λ x. cond x Less (cond ((n + 1) == n) Equal Greater)) (nat_lt_false (n + 1) n (omega arith)) ∙ ap (λ x. cond x Equal Greater) (nat_eq_false (n + 1) n (omega arith))

begun_by : (o p : Ordering) → is_le o ≡ true → is_le p ≡ true → is_le (ordering_then (ordering_then o (bool_cmp false false)) p) ≡ true
begun_by Less p h k = refl
begun_by Equal p h k = k
begun_by Greater p h k = absurd (false≢true h)

on_by : (o p : Ordering) → o ≡ Greater → is_gt (ordering_then (ordering_then o (bool_cmp false false)) p) ≡ true
on_by o p h = ap (λ r. is_gt (ordering_then (ordering_then r (bool_cmp false false)) p)) h

behind_last : (before rest : List ℕ) (last : ℕ) → slice_cmp nat_cmp (before ++ (last + 1) ∷ []) ((before ++ last ∷ []) ++ rest) ≡ Greater
behind_last before rest last =
    ap (slice_cmp nat_cmp (before ++ (last + 1) ∷ [])) (append_assoc before (last ∷ []) rest) ∙ same_front before ((last + 1) ∷ []) (last ∷ rest) ∙ greater_last last rest

pub span_covers : (front next : List ℕ) (span : Span) → IfSome span.from (λ at. at ≡ cut_at (Value.Text (front ++ next)) false) → IfSome span.to (IsBehind front) → CoversBegun front next (span ∷ [])
span_covers front next span is_from is_to member e rest out has far =
    false≢true (sym (in_one member e span out) ∙ both_true (has_begun span.from (at_object member e)) (goes_on span.to (at_object member e)) (begun span.from is_from) (on span.to is_to))
  where
    begun : (cut : Option Cut) → IfSome cut (λ at. at ≡ cut_at (Value.Text (front ++ next)) false) → has_begun cut (at_object member e) ≡ true
    begun None h = refl
    begun (Some c) h =
        ap (λ x. is_le (cut_cmp x (at_object member e))) h
        ∙ begun_by (value_cmp (Value.Text (front ++ next)) (own_value member e)) (identity_cmp least.owner e.0)
        (ap (λ x. is_le (value_cmp (Value.Text (front ++ next)) x)) has ∙ ap is_le (same_front front next rest) ∙ far) (lowest e.0)

    on : (cut : Option Cut) → IfSome cut (IsBehind front) → goes_on cut (at_object member e) ≡ true
    on None h = refl
    on (Some c) (before, last, is, at) =
        ap (λ x. is_gt (cut_cmp x (at_object member e))) at
        ∙ on_by (value_cmp (Value.Text (before ++ (last + 1) ∷ [])) (own_value member e)) (identity_cmp least.owner e.0)
        (ap (value_cmp (Value.Text (before ++ (last + 1) ∷ []))) (has ∙ ap (λ f. Value.Text (f ++ rest)) is) ∙ behind_last before rest last)

-- ---- all spans of a front

pub covers_more : (front : List ℕ) (i : ℕ) (spans : List Span) (span : Span) → CoversOthers front i spans → CoversBegun (take i front) (127 ∷ []) (span ∷ []) → CoversOthers front (i + 1) (spans ++ span ∷ [])
covers_more front i spans span before covers k below member e rest out has far =
    let parts = out_before member e spans (span ∷ []) out in
    elim (cases_lt k i) [
      | inl less ↦ before k less member e rest parts.0 has far
      | inr not_less ↦ covers member e rest parts.1 (has ∙ ap (λ n. Value.Text (take n front ++ rest)) (omega (arith, below, not_less))) far
    ]

-- what has its span keeps it beside others
pub begun_with : (front next : List ℕ) (spans more : List Span) → CoversBegun front next spans → CoversBegun front next (spans ++ more)
begun_with front next spans more covers member e rest out has far = covers member e rest (out_before member e spans more out).0 has far

-- and so what lies in none of them begins otherwise
pub none_begins : (front : List ℕ) (spans : List Span) (member : Member) (e : Entry) (t : List ℕ) → CoversLike front spans → lies_in_any member spans e ≡ false → own_value member e ≡ Value.Text t → MayBegin front t → ⊥
none_begins front spans member e t covers out has (inl (i, l, (rest, is, far))) = covers.0 i l member e rest out (has ∙ ap Value.Text is) far
none_begins front spans member e t covers out has (inr (rest, is)) = covers.1 member e rest out (has ∙ ap Value.Text is) (from_nothing rest)
  where
    from_nothing : (r : List ℕ) → is_le (slice_cmp nat_cmp [] r) ≡ true
    from_nothing [] = refl
    from_nothing (x ∷ r) = refl

-- ---- as a run finds it

told_true : (b : Bool) → truth_of b ≡ Truth.Yes → b ≡ true
told_true true e = refl
told_true false e = absurd cc

-- a text alone is like a pattern
text_like : (escape : Option Text) (v : Value) (pattern : Text) → like escape (Datum.Plain v) (Datum.Plain (Value.Text pattern)) ≡ Truth.Yes → (t : Text) × (v ≡ Value.Text t) × (is_like t pattern escape ≡ true)
text_like escape Value.Null pattern e = absurd cc
text_like escape (Value.Int n) pattern e = absurd cc
text_like escape (Value.Bytes b) pattern e = absurd cc
text_like escape (Value.Text t) pattern e = (t, refl, told_true (is_like t pattern escape) e)

module _ (m : PersistenceUnit) (s : StoredSet) (ps : List Datum) where
  -- LIKE of a pattern that is known is refused of what has no text that is like it
  like_refused : (t : Tuple) (e : Entry) (member : Member) (p : TypedPath) (w : TypedValue) (escape : Option Text) (pattern : Text) → p.variable ≡ length t → LeadsTo member p
      → ((u : Tuple) → value m s ps w (alone u) ≡ gives (Datum.Plain (Value.Text pattern))) → ((x : Text) → own_value member e ≡ Value.Text x → is_like x pattern escape ≡ true → ⊥)
      → Refuses m s ps (is.Like (v.Path p) w escape) (with_object t (Some e))
  like_refused t e member p w escape pattern here leads known never rest told =
      let at = alone (with_object t (Some e) ++ rest) in
      let found = text_like escape (own_value member e) pattern (ap yes_inside (
      ap (λ d. both (like escape) d (gives (Datum.Plain (Value.Text pattern)))) (sym (new_path m s ps t e p here rest ∙ ap gives (leads m s e)))
      ∙ ap (both (like escape) (value m s ps (v.Path p) at)) (sym (known (with_object t (Some e) ++ rest)))
      ∙ sym (truth_of_like m s ps at (v.Path p) w escape) ∙ told)) in
      never found.0 found.1 found.2

pub of_like : (run : Run) (t : Tuple) (member : Member) (a w : TypedValue) (escape : Option Text) (front : List ℕ) (spans : List Span) → IsOwn (length t) member a → IsFrontOf run w escape front → CoversLike front spans
    → AsksSpans run (is.Like a w escape ∷ []) t member spans
of_like run t member a w escape front spans own begins covers e out =
    let m = run.metamodel.now in
    let s = now run.set.now in
    let ps = run.parameters.now in
    let pattern = begins.0 in
    let is_front : IsFront escape pattern front = begins.2 in
    let rest = is_front.1.0 in
    inl (subst (λ (x : TypedValue). Refuses m s ps (is.Like x w escape) (with_object t (Some e))) (sym own.1)
    (like_refused m s ps t e member own.0 w escape pattern own.2 own.3 begins.1
    (λ x has matched. none_begins front spans member e x covers out has
    (matched_begins escape front rest x is_front.0 (ap (λ q. is_like x q escape) (sym is_front.1.1) ∙ matched)))))
