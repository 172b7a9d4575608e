-- One reading after another: what both leave of the store.
use Rattle.std.specs.Prelude.{◌≡◌, ◌⊎◌, ℕ, ◌+◌, Bool, true, false, IsTrue, IsSome, Result, Ok, Err, IfErr}
use Rattle.std.proofs.Common.{refl, sym, ap, subst, ◌∙◌, arith, inl, inr}
use Rattle.sqlite_trees.specs.declared.store.Store.{Ghosts}
use Rattle.sqlite.specs.Held.{Held, state}
use Rattle.sqlite.proofs.StateLemmas.{survives_then}
use Rattle.jpa_value.specs.declared.refusal.Cause.{Cause}
use Rattle.jpa_cells.specs.meaning.Content.{Leaves}
use Rattle.jpa_cells.specs.meaning.Tables.{Tables}
use Rattle.jpa_cells.specs.meaning.Store.{up_to_greatest, Tells, faults_after, IsClean, IsOpen, Endures, HasFault}
use Rattle.jpa_cells.specs.rowspace.Space.{Space}
use Rattle.jpa_cells.proofs.rowspace.Holding.{clean_before, endures_self}
use Rattle.jpa_opening.specs.reader.Reads.{KeepsTables}

module _ {S : Type 0} (g : Ghosts S) where
  pub keeps_self : (space : Space S) → KeepsTables g space space
  keeps_self space = record { kept = λ clean live. (live, refl); content = λ clean live. (live, refl); crash = endures_self g space.store.conn (λ _. ⊥); others = refl }

  pub keeps_then : (a b c : Space S) → KeepsTables g a b → KeepsTables g b c → KeepsTables g a c
  keeps_then a b c one two = record {
    kept = λ clean live.
        let later = two.kept clean live in
        let earlier = one.kept (clean_before g b.store.conn c.store.conn (λ _. ⊥) two.crash clean) later.0 in
        (earlier.0, later.1 ∙ earlier.1);
    content = λ clean live.
        let later = two.content clean live in
        let earlier = one.content (clean_before g b.store.conn c.store.conn (λ _. ⊥) two.crash clean) later.0 in
        (earlier.0, later.1 ∙ earlier.1);
    crash = survives_then (state g a.store.conn) (state g b.store.conn) (state g c.store.conn) (Leaves (λ _. ⊥)) (Leaves (λ _. ⊥)) (Leaves (λ _. ⊥)) (λ _ db h. h) (λ _ db h. h) one.crash two.crash;
    others = two.others ∙ ap (λ (s : Space S). record s { store = record s.store { conn = c.store.conn; table_selects = c.store.table_selects; faults = c.store.faults } }) one.others;
  }

  -- no fault is forgotten
  pub fault_then : (a b c : Held S) (Commits : Tables → Type 0) → Endures g a b (λ _. ⊥) → Endures g b c Commits → IsClean g c → HasFault g b c → HasFault g a c
  fault_then a b c Commits one two clean (inl more) = let counts = one.counts in inl (omega (arith, counts, more))
  fault_then a b c Commits one two clean (inr (inl shut)) =
      elim (state g a).is_open as (λ o. (state g a).is_open ≡ o → HasFault g a c) [
        | true ↦ λ e.
            elim (one.closes (clean_before g b c Commits two clean) e) [
              | inl live ↦ absurd (not_shut _ live shut)
              | inr more ↦ let counts = two.counts in inl (omega (arith, counts, more))
            ]
        | false ↦ λ e. inr (inl e)
      ] refl
    where
      not_shut : (b : Bool) → IsTrue b → b ≡ false → ⊥
      not_shut b t f = cc
  fault_then a b c Commits one two clean (inr (inr some)) = inr (inr (subst IsSome one.limit some))

  pub open_then : (a b c : Held S) → Endures g b c (λ _. ⊥) → (IsClean g b → IsOpen g a × IsOpen g b) → IsClean g c → IsOpen g a
  open_then a b c e live clean = (live (clean_before g b c (λ _. ⊥) e clean)).0

-- ---- counts

pub counted_more : (first index now next : ℕ) → ((index ≡ 0) × (now ≡ first)) ⊎ (now ≡ up_to_greatest (first + index)) → next ≡ up_to_greatest (now + 1) → next ≡ up_to_greatest (first + (index + 1))
counted_more first index now next (inl h) e = let a = h.0 in let b = h.1 in omega arith
counted_more first index now next (inr h) e = omega arith

pub told_of : {T : Type 0} (r : Result T Cause) (old new : ℕ) → Tells r old new → new ≡ faults_after r old
told_of (Ok x) old new h = h
told_of (Err Cause.OutOfMemory) old new h = h
told_of (Err Cause.StoreFault) old new h = h
told_of (Err cause) old new h = absurd h

-- want of memory is no fault
pub no_fault : {T : Type 0} (r : Result T Cause) (old : ℕ) → IfErr r (λ cause. cause ≡ Cause.OutOfMemory) → old ≡ faults_after r old
no_fault (Ok x) old h = refl
no_fault (Err cause) old h = sym (ap (λ e. faults_after {T = ℕ} (Err e) old) h)
