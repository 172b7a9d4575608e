-- Looks one after another.
use Rattle.std.specs.Prelude.{◌≡◌, ◌⊎◌, ℕ, Result, Ok}
use Rattle.std.proofs.Common.{refl, sym, ap, ◌∙◌, inl, inr}
use Rattle.jpa_value.specs.declared.refusal.Cause.{Cause}
use Rattle.jpa_rows.specs.declared.rows.reader.RowReader.{Ghosts}
use Rattle.jpa_rows.specs.rows.Faults.{faults_after}
use Rattle.jpa_rows.specs.rows.Looks.{LooksOnly, LooksAtOneRow}

-- an answer, whichever it is
abbrev pub done : Result (Unit {0}) Cause
done = Ok tt

module _ {S : Type 0} (store : Ghosts S) where
  -- where nothing was looked at
  pub looks_none : {A : Type 0} (r : Result A Cause) (s : S) → faults_after r (store.faults s) ≡ store.faults s → store.endures s s (λ _. ⊥) → LooksOnly store r s s
  looks_none r s told still = record { kept = λ rows held. held; told = sym told; unwritten = refl; crash = still; was_clean = λ clean. clean; same = refl }

  pub none_at_one : (s : S) → LooksAtOneRow store s s
  none_at_one s = record { row = inl refl; tables = refl }

  -- two looks, the second of which is answered
  pub looks_then : {B : Type 0} (r : Result B Cause) (first mid last : S) → LooksOnly store done first mid → LooksOnly store r mid last → LooksOnly store r first last
  looks_then r first mid last one two = record {
    kept = λ rows held. two.kept rows (one.kept rows held);
    told = two.told ∙ ap (faults_after r) one.told;
    unwritten = two.unwritten ∙ one.unwritten;
    crash = store.wider first last (λ _. ⊥ ⊎ ⊥) (λ _. ⊥) (λ rows none. elim none [ inl x ↦ x | inr x ↦ x ]) (store.then first mid last (λ _. ⊥) (λ _. ⊥) one.same one.crash two.crash);
    was_clean = λ clean. one.was_clean (two.was_clean clean);
    same = two.same ∙ one.same;
  }

  -- another answer, that tells as many faults
  pub looks_told : {A B : Type 0} (r : Result A Cause) (s : Result B Cause) (old new : S) → LooksOnly store r old new → store.faults new ≡ faults_after s (store.faults old) → LooksOnly store s old new
  looks_told r s old new h told = record { kept = h.kept; told = told; unwritten = h.unwritten; crash = h.crash; was_clean = h.was_clean; same = h.same }

  -- what follows a look is no fault of the store
  pub looks_alike : {A B : Type 0} (r : Result A Cause) (s : Result B Cause) (old new : S) → ((n : ℕ) → faults_after s n ≡ faults_after r n) → LooksOnly store r old new → LooksOnly store s old new
  looks_alike r s old new alike h = looks_told r s old new h (h.told ∙ sym (alike (store.faults old)))
