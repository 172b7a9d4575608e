-- The first rows of a statement of which any row may be left out: tuple by tuple.
use Rattle.std.proofs.Common.{◌≡◌, ◌∙◌, ap, sym, refl, arith, ℕ, Bool, true, false, ◌||◌, cond, List, [], ◌∷◌, map, take, Option, Some, None}
use Rattle.std.specs.Prelude.{All, is_some}
use Rattle.std.specs.List.{list_any}
use Rattle.std.proofs.lemmas.Bool.{false≢true}
use Rattle.std.proofs.lemmas.List.{take-take, take-map}
use Rattle.std.proofs.lemmas.List.Elements.{All-head, All-tail}
use Rattle.jpa_open.specs.Opened.{now}
use Rattle.jpql_trees.specs.declared.typed.typed.TypedCondition.{TypedCondition}
use Rattle.jpql_trees.specs.declared.typed.typed.TypedKey.{TypedKey}
use Rattle.jpql_trees.specs.declared.typed.typed.TypedSelect.{TypedSelect}
use Rattle.jpql_trees.specs.declared.typed.typed.TypedValue.{TypedValue}
use Rattle.jpql_meaning.specs.declared.eval.datum.Datum.{Datum}
use Rattle.jpql_meaning.specs.eval.Answers.{Answer, gives, overflows, ◌>>=◌, under, both, every}
use Rattle.jpql_meaning.specs.plan.Paths.{Tuple}
use Rattle.jpql_meaning.specs.plan.Meaning.{Case, alone, is_any, kept, truth_of_any}
use Rattle.jpql_meaning.specs.plan.Selection as selection
use Rattle.jpql_meaning.specs.plan.Selection.{Row, put_row, put_rows, in_order, has_aggregate, sorts_by_aggregate}
use Rattle.jpql_run.specs.declared.run.Run.{Run}
use Rattle.jpql_run.specs.Keys.{is_given, NeverOverflows}
use Rattle.jpql_run.specs.Runs as runs
use Rattle.jpql_select.specs.select.Selects.{key_datum, key_given, row_of, rows_of, cases_of, groups_of, tuples}
use Rattle.jpql_select.specs.select.Rows.{distinct}
use Rattle.jpql_select.specs.select.Tables.{items_in}
use Rattle.jpql_select.proofs.select.Behind.{same_given}
use Rattle.jpql_select.proofs.select.Given.{all_given}
use Rattle.jpql_select.proofs.select.Kept.{none_left_out}
use Rattle.jpql_select.specs.first.First.{GoesByTuple, IsFit}
use Rattle.jpql_select.proofs.first.Rows.{rows_front}

-- ---- answers

given_gives : {A : Type 0} (a : Answer A) → is_given a ≡ true → (x : A) × (a ≡ gives x)
given_gives (gives x) e = (x, refl)
given_gives overflows e = absurd (false≢true e)

abbrev given_or : {A : Type 0} → A → Answer A → A
given_or d (gives x) = x
given_or d overflows = d

-- ---- the row of a tuple

module _ (run : Run) (q : TypedSelect) where
  items_given : (vs : List TypedValue) → All NeverOverflows vs → (at : Case) → (ds : List Datum) × (every (map (λ v. runs.value run v at) vs) ≡ gives ds)
  items_given [] h at = ([], refl)
  items_given (v ∷ vs) h at =
      let one = given_gives (runs.value run v at) (All-head NeverOverflows v vs h run.metamodel.now (now run.set.now) run.parameters.now at) in
      let more = items_given vs (All-tail NeverOverflows v vs h) at in
      (one.0 ∷ more.0, λ i. both (λ x xs. x ∷ xs) (one.1 i) (more.1 i))

  -- keys that go by a tuple are given, whatever the items are
  pub keys_given : (ks : List TypedKey) → All GoesByTuple ks → (items : List Datum) (at : Case) → every (map (key_datum run items at) ks) ≡ gives (map (key_given run [] at) ks)
  keys_given ks h items at = all_given (key_datum run items at) (key_given run [] at) GoesByTuple (λ k g. g run items at) ks h

  -- so what keys give is that
  pub keys_are : IsFit q → (t : Tuple) (keys : List TypedKey) (ks : List Datum) → keys ≡ q.order → every (map (key_datum run [] (alone t)) keys) ≡ gives ks
      → ks ≡ map (key_given run [] (alone t)) q.order
  keys_are fit t keys ks is e =
      same_given ks (map (key_given run [] (alone t)) q.order)
      (sym e ∙ ap (λ os. every (map (key_datum run [] (alone t)) os)) is ∙ keys_given q.order fit.placed [] (alone t))

  -- and they don't overflow
  pub keys_fail : {A : Type 0} (a : Answer A) → IsFit q → (t : Tuple) (keys : List TypedKey) → keys ≡ q.order → every (map (key_datum run [] (alone t)) keys) ≡ overflows → a ≡ overflows
  keys_fail a fit t keys is e =
      absurd (false≢true (ap is_given (sym e ∙ ap (λ os. every (map (key_datum run [] (alone t)) os)) is ∙ keys_given q.order fit.placed [] (alone t))))

  -- with these items, and keys that need none
  pub row_made : IsFit q → (t : Tuple) (ds ks : List Datum) → every (map (λ v. runs.value run v (alone t)) q.items) ≡ gives ds
      → ks ≡ map (key_given run [] (alone t)) q.order → row_of run q (alone t) ≡ gives (record { items = ds; keys = ks })
  row_made fit t ds ks e k =
      ap (λ (a : Answer (List Datum)). a >>= λ items. under (λ keys. record { items = items; keys = keys }) (every (map (key_datum run items (alone t)) q.order))) e
      ∙ ap (under (λ keys. record { items = ds; keys = keys })) (keys_given q.order fit.placed ds (alone t) ∙ ap gives (sym k))

  -- there is one
  pub row_given : IsFit q → (t : Tuple) (ks : List Datum) → ks ≡ map (key_given run [] (alone t)) q.order
      → (row : Row) × ((row_of run q (alone t) ≡ gives row) × (row.keys ≡ ks))
  row_given fit t ks k =
      let items = items_given q.items fit.given (alone t) in
      (record { items = items.0; keys = ks }, (row_made fit t items.0 ks items.1 k, refl))

  -- ---- the rows of the statement

  none_written : (h : Option TypedCondition) → is_some h ≡ false → h ≡ None
  none_written None e = refl
  none_written (Some c) e = absurd (false≢true (sym e))

  or_left : (a b : Bool) → (a || b) ≡ false → a ≡ false
  or_left true b e = e
  or_left false b e = refl

  or_right : (a b : Bool) → (a || b) ≡ false → b ≡ false
  or_right true b e = absurd (false≢true (sym e))
  or_right false b e = e

  no_having : IsFit q → q.having ≡ None
  no_having fit =
      none_written q.having (or_right (is_any q.groups) (is_some q.having) (or_left (is_any q.groups || is_some q.having) (list_any has_aggregate q.items)
      (or_left ((is_any q.groups || is_some q.having) || list_any has_aggregate q.items) (list_any (λ key. sorts_by_aggregate key.by) q.order) fit.alone)))

  rows_alone : IsFit q → (all : List Tuple) → rows_of run q (cases_of run q all) ≡ every (map (row_of run q) (map alone all))
  rows_alone fit all =
      ap (λ b. rows_of run q (cond b (groups_of run q.groups all) (map alone all))) fit.alone
      ∙ ap (λ (h : Option TypedCondition). kept (truth_of_any (runs.any_condition run h)) (map alone all) >>= λ left. every (map (row_of run q) left)) (no_having fit)
      ∙ ap (λ (a : Answer (List Case)). a >>= λ left. every (map (row_of run q) left)) (none_left_out (truth_of_any None) (λ at. refl) (map alone all))

  cut_before : (n : ℕ) (a : Answer (List Row)) → under (take n) (under (λ rows. items_in (in_order q.order rows)) a)
      ≡ under items_in (under (λ rows. take n (in_order q.order rows)) a)
  cut_before n (gives rows) = ap gives (take-map (λ (r : Row). r.items) n (in_order q.order rows))
  cut_before n overflows = refl

  abbrev wanted : ℕ → Answer (List (List Datum))
  wanted n = under (take n) (selection.selected run.metamodel.now (now run.set.now) run.parameters.now q)

  -- the first rows, of its tuples
  pub firsts : IsFit q → (n : ℕ) (all : List Tuple) → tuples run q ≡ gives all
      → wanted n ≡ under items_in (under (λ rows. take n (in_order q.order rows)) (every (map (row_of run q) (map alone all))))
  firsts fit n all e =
      ap (λ (a : Answer (List Tuple)). under (take n) (a >>= λ ts. under (λ rows. items_in (in_order q.order (distinct q.is_distinct rows))) (rows_of run q (cases_of run q ts)))) e
      ∙ ap (λ b. under (take n) (under (λ rows. items_in (in_order q.order (distinct b rows))) (rows_of run q (cases_of run q all)))) fit.all
      ∙ ap (λ a. under (take n) (under (λ rows. items_in (in_order q.order rows)) a)) (rows_alone fit all)
      ∙ cut_before n (every (map (row_of run q) (map alone all)))

-- ---- one tuple after the other

module _ (keys : List TypedKey) (n : ℕ) where
  one_in : (best next : List Row) (a : Answer Row) (rest : Answer (List Row)) → under (λ row. take n (put_row keys row best)) a ≡ gives next
      → under (λ rows. take n (put_rows keys best rows)) (both (λ x xs. x ∷ xs) a rest) ≡ under (λ rows. take n (put_rows keys next rows)) rest
  one_in best next (gives row) (gives rows) e =
      let here = ap (given_or next) e in
      ap gives (rows_front keys n (put_row keys row best) next rows (sym (take-take n n (put_row keys row best) (omega arith)) ∙ ap (take n) here))
  one_in best next (gives row) overflows e = refl
  one_in best next overflows rest e = absurd (false≢true (ap is_given e))

  -- the first rows so far, and what is left
  abbrev pub Rest : (Case → Answer Row) → List Row → List Tuple → List Tuple → Type 0
  Rest of best rest all =
      under (λ rows. take n (in_order keys rows)) (every (map of (map alone all))) ≡ under (λ rows. take n (put_rows keys best rows)) (every (map of (map alone rest)))

  pub one_more : (of : Case → Answer Row) (best next : List Row) (all rest later : List Tuple) (t : Tuple) → rest ≡ t ∷ later
      → under (λ row. take n (put_row keys row best)) (of (alone t)) ≡ gives next → Rest of best rest all → Rest of next later all
  one_more of best next all rest later t at e h =
      h ∙ ap (λ ts. under (λ rows. take n (put_rows keys best rows)) (every (map of (map alone ts)))) at
      ∙ one_in best next (of (alone t)) (every (map of (map alone later))) e
