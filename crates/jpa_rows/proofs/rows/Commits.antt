-- How what a commit does goes up, from the store to those that call it.
use Rattle.std.proofs.Common.{◌≡◌, refl, sym, subst, inl, inr, ℕ, List}
use Rattle.std.specs.Prelude.{◌⊎◌, Result, Ok, Err, IsErr, OnOk, OnErr, sum_by}
use Rattle.jpa_rows.specs.declared.rows.row.RowChange.{RowChange}
use Rattle.jpa_rows.specs.declared.rows.source.RowSource.{Ghosts}
use Rattle.jpa_rows.specs.rows.Commits.{Commits, IsDifference, RunsDifference, RunsAtMost}
use Rattle.jpa_rows.proofs.laws.Facts.{true_false}
use Rattle.jpa_rows.specs.rows.Making.{Makes}
use Rattle.jpa_rows.specs.rows.Rows.{Rows, rows_after}
use Rattle.jpa_rows.specs.rows.Statements.{Counts, statements_of}

-- what a refusal brings
pub of_refusal : {A E P : Type 0} (r : Result A E) → IsErr r → OnErr r P → P
of_refusal (Ok a) refused p = absurd (true_false (sym refused))
of_refusal (Err e) refused p = p

module _ {S : Type 0} (store : Ghosts S) (faults_then : ℕ → ℕ) (before made : Rows) where
  -- it was refused before anything was tried
  pub untried : {A E : Type 0} (e : E) (source : S) → store.endures source source (λ _. ⊥) → store.faults source ≡ faults_then (store.faults source)
      → Commits {A = A} store faults_then (Err e) before made source source
  untried e source still told = record {
    makes = record {
      done = tt;
      kept = λ rows held. held;
      crash = λ held. store.wider source source (λ _. ⊥) (λ left. left ≡ made) (λ left none. absurd none) still;
      was_clean = λ clean. clean;
      same = refl;
      unread = refl;
      unmade = refl;
      told = told;
    };
    counted = tt;
    bounded = inl refl;
    unchanged = λ same. refl;
  }

  pub none_tried : {A E : Type 0} (r : Result A E) (source : S) → IsErr r → store.endures source source (λ _. ⊥) → store.faults source ≡ faults_then (store.faults source)
      → Commits store faults_then r before made source source
  none_tried (Ok a) source refused still told = absurd (true_false (sym refused))
  none_tried (Err e) source refused still told = untried e source still told

  module _ {A E : Type 0} (changes : List RowChange) (old new : S) (difference : IsDifference before made changes) where
    all_ran : (r : Result A E) → Counts r (store.writes old) (store.writes new) (sum_by statements_of changes) → OnOk r (RunsDifference before made (store.writes old) (store.writes new))
    all_ran (Ok a) counts = (changes, difference, counts.0)
    all_ran (Err e) counts = tt

    some_ran : (r : Result A E) → Counts r (store.writes old) (store.writes new) (sum_by statements_of changes) → OnErr r ((new ≡ old) ⊎ RunsAtMost before made (store.writes old) (store.writes new))
    some_ran (Ok a) counts = tt
    some_ran (Err e) counts = inr (changes, difference, counts.1, counts.2)

    -- the store made the changes of a difference
    pub makes_difference : (r : Result A E) → Makes store.schema store.holds store.clean store.faults store.reads store.creates store.endures faults_then r before (rows_after changes before) old new
        → Counts r (store.writes old) (store.writes new) (sum_by statements_of changes) → (before ≡ made → new ≡ old) → Commits store faults_then r before made old new
    makes_difference r makes counts unchanged = record {
      makes = subst (λ rows. Makes store.schema store.holds store.clean store.faults store.reads store.creates store.endures faults_then r before rows old new) difference.1 makes;
      counted = all_ran r counts;
      bounded = some_ran r counts;
      unchanged = unchanged;
    }
