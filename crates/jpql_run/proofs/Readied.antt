-- Conditions made ready: with rows that are the same for all tuples they say what they said before.
use Rattle.std.proofs.Common.{rules, ◌≡◌, ◌∙◌, refl, ap, sym, ℕ, true, List, length, map}
use Rattle.std.specs.Borrow.{Bor}
use Rattle.jpa_open.specs.Opened.{now}
use Rattle.jpql_trees.specs.declared.tree.Against.{Against}
use Rattle.jpql_trees.specs.declared.tree.Comparison.{Comparison}
use Rattle.jpql_trees.specs.declared.typed.typed.TypedBlock.{TypedBlock}
use Rattle.jpql_trees.specs.declared.typed.typed.TypedCondition.{TypedCondition}
use Rattle.jpql_trees.specs.declared.typed.typed.TypedCondition.TheFolds as folds
use Rattle.jpql_trees.specs.declared.typed.typed.TypedCondition.TheVariants as is
use Rattle.jpql_trees.specs.declared.typed.typed.TypedValue.{TypedValue}
use Rattle.jpql_meaning.specs.declared.eval.datum.Datum.{Datum}
use Rattle.jpql_meaning.specs.declared.eval.datum.Truth.{Truth}
use Rattle.jpql_meaning.specs.declared.eval.failure.Failure.{Failure}
use Rattle.jpql_meaning.specs.eval.Answers.{Answer, gives, overflows, ◌>>=◌, under, both}
use Rattle.jpql_meaning.specs.eval.Finds.{Fails}
use Rattle.jpql_meaning.specs.eval.Judged.{judged}
use Rattle.jpql_meaning.specs.eval.Truths.{not3, and3, or3}
use Rattle.jpql_meaning.specs.plan.Alone.{is_alone_block}
use Rattle.jpql_meaning.specs.plan.Meaning.{alone, on_answer}
use Rattle.jpql_meaning.specs.plan.Paths.{Tuple}
use Rattle.jpql_meaning.proofs.plan.AloneBlocks.{rows_alone}
use Rattle.jpql_run.specs.Ready.{Tells, asked, ready_truth}
use Rattle.jpql_run.specs.Runs as runs
use Rattle.jpql_run.specs.declared.run.Run.{Run}
use Rattle.jpql_run.specs.declared.rows_told.Told.{Told}
use Rattle.jpql_run.specs.declared.ready.Ready.{Ready}
use Rattle.jpql_run.specs.declared.ready.Ready.TheFolds as readies
use Rattle.jpql_run.specs.declared.ready.Ready.TheVariants as r
use Rattle.jpql_run.proofs.Truths.{truth_of_or, truth_of_and, truth_of_rows}
use Rattle.jpql_run.proofs.Turns.{fails_on}

-- ---- answers

pub both_over : {A B C : Type 0} (f : A → B → C) (a : Answer A) → both f a overflows ≡ overflows
both_over f (gives x) = refl
both_over f overflows = refl

told_under : {A B : Type 0} (f : A → Answer B) (g : A → B) → ((x : A) → f x ≡ gives (g x)) → (a : Answer A) → (a >>= f) ≡ under g a
told_under f g h (gives x) = h x
told_under f g h overflows = refl

all_over : {A B : Type 0} (f : A → Answer B) → ((x : A) → f x ≡ overflows) → (a : Answer A) → (a >>= f) ≡ overflows
all_over f h (gives x) = h x
all_over f h overflows = refl

module _ (run : Run) where
  -- ---- a value beside rows

  abbrev beside : Against → Comparison → TypedValue → TypedBlock → Tuple → Answer Truth
  beside against op v b t = runs.truth run (is.Rows against op v b) (alone t)

  rows_meant : (against : Against) (op : Comparison) (v : TypedValue) (b : TypedBlock) (t : Tuple)
      → beside against op v b t ≡ (runs.value_alone run v t >>= λ x. runs.rows run b t >>= judged against op x)
  rows_meant against op v b t = truth_of_rows run.metamodel.now (now run.set.now) run.parameters.now (alone t) against op v b

  with_rows : (against : Against) (op : Comparison) (v : TypedValue) (b : TypedBlock) (t : Tuple) (found : Answer (List Datum)) → runs.rows run b t ≡ found
      → beside against op v b t ≡ (runs.value_alone run v t >>= λ x. found >>= judged against op x)
  with_rows against op v b t found e = rows_meant against op v b t ∙ ap (λ all. runs.value_alone run v t >>= λ x. all >>= judged against op x) e

  -- the rows of the first tuple are those of each
  pub told_rows : (against : Against) (op : Comparison) (v : TypedValue) (b : TypedBlock) (first t : Tuple) (rows : List Datum) (told : Told)
      → is_alone_block (length first) b ≡ true → length t ≡ length first → runs.rows run b first ≡ gives rows
      → ((x : Datum) → judged against op x rows ≡ gives (asked told op x))
      → under (asked told op) (runs.value_alone run v t) ≡ beside against op v b t
  told_rows against op v b first t rows told h l e k =
      sym
      (with_rows against op v b t (gives rows)
      (rows_alone run.metamodel.now (now run.set.now) run.parameters.now (length first) b t first h l refl ∙ e)
      ∙ told_under (λ x. judged against op x rows) (asked told op) k (runs.value_alone run v t))

  pub rows_over : (against : Against) (op : Comparison) (v : TypedValue) (b : TypedBlock) (t : Tuple) → runs.rows run b t ≡ overflows → beside against op v b t ≡ overflows
  rows_over against op v b t e = with_rows against op v b t overflows e ∙ all_over (λ (x : Datum). overflows >>= judged against op x) (λ x. refl) (runs.value_alone run v t)

  pub judged_over : (against : Against) (op : Comparison) (v : TypedValue) (b : TypedBlock) (t : Tuple) (rows : List Datum) → runs.rows run b t ≡ gives rows
      → ((x : Datum) → judged against op x rows ≡ overflows) → beside against op v b t ≡ overflows
  judged_over against op v b t rows e k = with_rows against op v b t (gives rows) e ∙ all_over (λ x. judged against op x rows) k (runs.value_alone run v t)

  -- ---- connectives

  truth_of_not : (a : TypedCondition) (t : Tuple) → runs.truth run (is.Not a) (alone t) ≡ under not3 (runs.truth run a (alone t))
  truth_of_not a t = search (rules, folds.the_lemmas)

  ready_or : (a b : Ready) (t : Tuple) → ready_truth run (r.Or a b) t ≡ both or3 (ready_truth run a t) (ready_truth run b t)
  ready_or a b t = search (rules, readies.the_lemmas)

  ready_and : (a b : Ready) (t : Tuple) → ready_truth run (r.And a b) t ≡ both and3 (ready_truth run a t) (ready_truth run b t)
  ready_and a b t = search (rules, readies.the_lemmas)

  ready_not : (a : Ready) (t : Tuple) → ready_truth run (r.Not a) t ≡ under not3 (ready_truth run a t)
  ready_not a t = search (rules, readies.the_lemmas)

  pub tells_or : (c d : TypedCondition) (n : ℕ) (a b : Ready) → Tells run c n a → Tells run d n b → Tells run (is.Or c d) n (r.Or a b)
  tells_or c d n a b h k t l = ready_or a b t ∙ (λ i. both or3 (h t l i) (k t l i)) ∙ sym (truth_of_or run.metamodel.now (now run.set.now) run.parameters.now (alone t) c d)

  pub tells_and : (c d : TypedCondition) (n : ℕ) (a b : Ready) → Tells run c n a → Tells run d n b → Tells run (is.And c d) n (r.And a b)
  tells_and c d n a b h k t l = ready_and a b t ∙ (λ i. both and3 (h t l i) (k t l i)) ∙ sym (truth_of_and run.metamodel.now (now run.set.now) run.parameters.now (alone t) c d)

  pub tells_not : (c : TypedCondition) (n : ℕ) (a : Ready) → Tells run c n a → Tells run (is.Not c) n (r.Not a)
  tells_not c n a h t l = ready_not a t ∙ ap (under not3) (h t l) ∙ sym (truth_of_not c t)

  -- Overflow of a part

  pub or_left_over : (c d : TypedCondition) (t : Tuple) → runs.truth run c (alone t) ≡ overflows → runs.truth run (is.Or c d) (alone t) ≡ overflows
  or_left_over c d t e = truth_of_or run.metamodel.now (now run.set.now) run.parameters.now (alone t) c d ∙ ap (λ a. both or3 a (runs.truth run d (alone t))) e

  pub or_right_over : (c d : TypedCondition) (t : Tuple) → runs.truth run d (alone t) ≡ overflows → runs.truth run (is.Or c d) (alone t) ≡ overflows
  or_right_over c d t e =
      truth_of_or run.metamodel.now (now run.set.now) run.parameters.now (alone t) c d ∙ ap (both or3 (runs.truth run c (alone t))) e ∙ both_over or3 (runs.truth run c (alone t))

  pub and_left_over : (c d : TypedCondition) (t : Tuple) → runs.truth run c (alone t) ≡ overflows → runs.truth run (is.And c d) (alone t) ≡ overflows
  and_left_over c d t e = truth_of_and run.metamodel.now (now run.set.now) run.parameters.now (alone t) c d ∙ ap (λ a. both and3 a (runs.truth run d (alone t))) e

  pub and_right_over : (c d : TypedCondition) (t : Tuple) → runs.truth run d (alone t) ≡ overflows → runs.truth run (is.And c d) (alone t) ≡ overflows
  and_right_over c d t e =
      truth_of_and run.metamodel.now (now run.set.now) run.parameters.now (alone t) c d ∙ ap (both and3 (runs.truth run c (alone t))) e ∙ both_over and3 (runs.truth run c (alone t))

  pub not_over : (c : TypedCondition) (t : Tuple) → runs.truth run c (alone t) ≡ overflows → runs.truth run (is.Not c) (alone t) ≡ overflows
  not_over c t e = truth_of_not c t ∙ ap (under not3) e

  -- the same of a condition that is made of such parts

  abbrev FailsAt : Failure → TypedCondition → Tuple → Type 0
  FailsAt e c t = Fails e (runs.truth run c (alone t))

  pub or_left_fails : (e : Failure) (w a c d : TypedCondition) (t : Tuple) → w ≡ is.Or c d → a ≡ c → FailsAt e a t → FailsAt e w t
  or_left_fails e w a c d t i k =
      fails_on e (runs.truth run a (alone t)) (runs.truth run w (alone t))
      (λ h. ap (λ x. runs.truth run x (alone t)) i ∙ or_left_over c d t (ap (λ x. runs.truth run x (alone t)) (sym k) ∙ h))

  pub or_right_fails : (e : Failure) (w b c d : TypedCondition) (t : Tuple) → w ≡ is.Or c d → b ≡ d → FailsAt e b t → FailsAt e w t
  or_right_fails e w b c d t i k =
      fails_on e (runs.truth run b (alone t)) (runs.truth run w (alone t))
      (λ h. ap (λ x. runs.truth run x (alone t)) i ∙ or_right_over c d t (ap (λ x. runs.truth run x (alone t)) (sym k) ∙ h))

  pub and_left_fails : (e : Failure) (w a c d : TypedCondition) (t : Tuple) → w ≡ is.And c d → a ≡ c → FailsAt e a t → FailsAt e w t
  and_left_fails e w a c d t i k =
      fails_on e (runs.truth run a (alone t)) (runs.truth run w (alone t))
      (λ h. ap (λ x. runs.truth run x (alone t)) i ∙ and_left_over c d t (ap (λ x. runs.truth run x (alone t)) (sym k) ∙ h))

  pub and_right_fails : (e : Failure) (w b c d : TypedCondition) (t : Tuple) → w ≡ is.And c d → b ≡ d → FailsAt e b t → FailsAt e w t
  and_right_fails e w b c d t i k =
      fails_on e (runs.truth run b (alone t)) (runs.truth run w (alone t))
      (λ h. ap (λ x. runs.truth run x (alone t)) i ∙ and_right_over c d t (ap (λ x. runs.truth run x (alone t)) (sym k) ∙ h))

  pub not_fails : (e : Failure) (w a c : TypedCondition) (t : Tuple) → w ≡ is.Not c → a ≡ c → FailsAt e a t → FailsAt e w t
  not_fails e w a c t i k =
      fails_on e (runs.truth run a (alone t)) (runs.truth run w (alone t))
      (λ h. ap (λ x. runs.truth run x (alone t)) i ∙ not_over c t (ap (λ x. runs.truth run x (alone t)) (sym k) ∙ h))

  -- ---- what is made of a condition that is a value beside rows, or another one

  pub rows_fail : (e : Failure) (against : Against) (op : Comparison) (v : TypedValue) (b : TypedBlock) (t : Tuple) → Fails e (runs.rows run b t) → FailsAt e (is.Rows against op v b) t
  rows_fail e against op v b t = fails_on e (runs.rows run b t) (beside against op v b t) (rows_over against op v b t)

  pub told_fails : (e : Failure) (against : Against) (op : Comparison) (v : TypedValue) (b : TypedBlock) (t : Tuple) (rows : List Datum) → runs.rows run b t ≡ gives rows
      → ((x : Datum) → Fails e (judged against op x rows)) → FailsAt e (is.Rows against op v b) t
  told_fails Failure.Memory against op v b t rows e k = tt
  told_fails Failure.Overflow against op v b t rows e k = judged_over against op v b t rows e k

  pub ready_beside : (op : Comparison) (v : Bor TypedValue) (told : Told) (t : Tuple) → ready_truth run (r.Beside op v told) t ≡ under (asked told op) (runs.value_alone run v.now t)
  ready_beside op v told t = search (rules, readies.the_lemmas)

  pub tells_rows : (against : Against) (op : Comparison) (v : Bor TypedValue) (b : TypedBlock) (first : Tuple) (rows : List Datum) (told : Told)
      → is_alone_block (length first) b ≡ true → runs.rows run b first ≡ gives rows → ((x : Datum) → judged against op x rows ≡ gives (asked told op x))
      → Tells run (is.Rows against op v.now b) (length first) (r.Beside op v told)
  tells_rows against op v b first rows told h e k t l = ready_beside op v told t ∙ told_rows against op v.now b first t rows told h l e k

  pub tells_plain : (c : Bor TypedCondition) (n : ℕ) → Tells run c.now n (r.Plain c)
  tells_plain c n t l = search (rules, readies.the_lemmas)

  -- ---- what was made ready, asked part by part

  abbrev SaysAt : Ready → Tuple → Truth → Type 0
  SaysAt a t x = ready_truth run a t ≡ gives x

  same_part : (a b : Ready) (t : Tuple) (x : Truth) → a ≡ b → SaysAt a t x → SaysAt b t x
  same_part a b t x k h = ap (λ z. ready_truth run z t) (sym k) ∙ h

  pub says_or : (w a b c d : Ready) (t : Tuple) (x y : Truth) → w ≡ r.Or c d → a ≡ c → b ≡ d → SaysAt a t x → SaysAt b t y → SaysAt w t (or3 x y)
  says_or w a b c d t x y i k l h g = ap (λ z. ready_truth run z t) i ∙ ready_or c d t ∙ (λ j. both or3 (same_part a c t x k h j) (same_part b d t y l g j))

  pub says_and : (w a b c d : Ready) (t : Tuple) (x y : Truth) → w ≡ r.And c d → a ≡ c → b ≡ d → SaysAt a t x → SaysAt b t y → SaysAt w t (and3 x y)
  says_and w a b c d t x y i k l h g = ap (λ z. ready_truth run z t) i ∙ ready_and c d t ∙ (λ j. both and3 (same_part a c t x k h j) (same_part b d t y l g j))

  pub says_not : (w a c : Ready) (t : Tuple) (x : Truth) → w ≡ r.Not c → a ≡ c → SaysAt a t x → SaysAt w t (not3 x)
  says_not w a c t x i k h = ap (λ z. ready_truth run z t) i ∙ ready_not c t ∙ ap (under not3) (same_part a c t x k h)

  abbrev BreaksAt : Failure → Ready → Tuple → Type 0
  BreaksAt e a t = Fails e (ready_truth run a t)

  over_part : (a b : Ready) (t : Tuple) → a ≡ b → ready_truth run a t ≡ overflows → ready_truth run b t ≡ overflows
  over_part a b t k h = ap (λ z. ready_truth run z t) (sym k) ∙ h

  pub or_left_breaks : (e : Failure) (w a c d : Ready) (t : Tuple) → w ≡ r.Or c d → a ≡ c → BreaksAt e a t → BreaksAt e w t
  or_left_breaks e w a c d t i k =
      fails_on e (ready_truth run a t) (ready_truth run w t)
      (λ h. ap (λ z. ready_truth run z t) i ∙ ready_or c d t ∙ ap (λ z. both or3 z (ready_truth run d t)) (over_part a c t k h))

  pub or_right_breaks : (e : Failure) (w b c d : Ready) (t : Tuple) → w ≡ r.Or c d → b ≡ d → BreaksAt e b t → BreaksAt e w t
  or_right_breaks e w b c d t i k =
      fails_on e (ready_truth run b t) (ready_truth run w t)
      (λ h. ap (λ z. ready_truth run z t) i ∙ ready_or c d t ∙ ap (both or3 (ready_truth run c t)) (over_part b d t k h) ∙ both_over or3 (ready_truth run c t))

  pub and_left_breaks : (e : Failure) (w a c d : Ready) (t : Tuple) → w ≡ r.And c d → a ≡ c → BreaksAt e a t → BreaksAt e w t
  and_left_breaks e w a c d t i k =
      fails_on e (ready_truth run a t) (ready_truth run w t)
      (λ h. ap (λ z. ready_truth run z t) i ∙ ready_and c d t ∙ ap (λ z. both and3 z (ready_truth run d t)) (over_part a c t k h))

  pub and_right_breaks : (e : Failure) (w b c d : Ready) (t : Tuple) → w ≡ r.And c d → b ≡ d → BreaksAt e b t → BreaksAt e w t
  and_right_breaks e w b c d t i k =
      fails_on e (ready_truth run b t) (ready_truth run w t)
      (λ h. ap (λ z. ready_truth run z t) i ∙ ready_and c d t ∙ ap (both and3 (ready_truth run c t)) (over_part b d t k h) ∙ both_over and3 (ready_truth run c t))

  pub not_breaks : (e : Failure) (w a c : Ready) (t : Tuple) → w ≡ r.Not c → a ≡ c → BreaksAt e a t → BreaksAt e w t
  not_breaks e w a c t i k =
      fails_on e (ready_truth run a t) (ready_truth run w t) (λ h. ap (λ z. ready_truth run z t) i ∙ ready_not c t ∙ ap (under not3) (over_part a c t k h))

  pub ready_plain : (c : Bor TypedCondition) (t : Tuple) → ready_truth run (r.Plain c) t ≡ runs.truth run c.now (alone t)
  ready_plain c t = search (rules, readies.the_lemmas)

  pub beside_breaks : (e : Failure) (w : Ready) (op : Comparison) (v : Bor TypedValue) (told : Told) (t : Tuple) → w ≡ r.Beside op v told → Fails e (runs.value_alone run v.now t) → BreaksAt e w t
  beside_breaks e w op v told t i =
      fails_on e (runs.value_alone run v.now t) (ready_truth run w t) (λ h. ap (λ z. ready_truth run z t) i ∙ ready_beside op v told t ∙ ap (under (asked told op)) h)

  -- ---- what is made ready of a condition, by what is made ready of its parts

  same_told : (a b : Ready) (c d : TypedCondition) (t : Tuple) → a ≡ b → c ≡ d → ready_truth run b t ≡ runs.truth run c (alone t) → ready_truth run a t ≡ runs.truth run d (alone t)
  same_told a b c d t i k h = ap (λ z. ready_truth run z t) i ∙ h ∙ ap (λ z. runs.truth run z (alone t)) k

  pub made_or : (w p q c d : TypedCondition) (n : ℕ) (a b x y : Ready) → w ≡ is.Or c d → p ≡ c → q ≡ d → Tells run p n a → Tells run q n b → x ≡ a → y ≡ b → Tells run w n (r.Or x y)
  made_or w p q c d n a b x y i j k h g u v t l =
      tells_or c d n x y (λ s m. same_told x a p c s u j (h s m)) (λ s m. same_told y b q d s v k (g s m)) t l ∙ ap (λ z. runs.truth run z (alone t)) (sym i)

  pub made_and : (w p q c d : TypedCondition) (n : ℕ) (a b x y : Ready) → w ≡ is.And c d → p ≡ c → q ≡ d → Tells run p n a → Tells run q n b → x ≡ a → y ≡ b → Tells run w n (r.And x y)
  made_and w p q c d n a b x y i j k h g u v t l =
      tells_and c d n x y (λ s m. same_told x a p c s u j (h s m)) (λ s m. same_told y b q d s v k (g s m)) t l ∙ ap (λ z. runs.truth run z (alone t)) (sym i)

  pub made_not : (w p c : TypedCondition) (n : ℕ) (a x : Ready) → w ≡ is.Not c → p ≡ c → Tells run p n a → x ≡ a → Tells run w n (r.Not x)
  made_not w p c n a x i j h u t l = tells_not c n x (λ s m. same_told x a p c s u j (h s m)) t l ∙ ap (λ z. runs.truth run z (alone t)) (sym i)
