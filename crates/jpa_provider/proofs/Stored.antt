-- What a call does to the store of rows: what its commit makes of it goes up, and what no commit reached stays.
use Rattle.std.proofs.Common.{◌≡◌, inl, inr, ℕ, ℤ, Bool, true, false, List, refl, ap, sym, subst}
use Rattle.std.specs.Prelude.{Some, Result, Ok, Err, IsErr, OnOk}
use Rattle.std.proofs.lemmas.Bool.{false≢true, true≢false}
use Rattle.jpa_value.specs.declared.refusal.Cause.{Cause}
use Rattle.jpa_behaviour.specs.Behaviour.{World}
use Rattle.jpa_rows.specs.rows.Rows.{Rows}
use Rattle.jpa_rows.specs.rows.Commits.{Commits}
use Rattle.jpa_rows.specs.declared.rows.source.RowSource.{Ghosts}
use Rattle.jpa_rows.proofs.rows.Commits.{of_refusal}
use Rattle.jpa_object_rows.specs.meaning.Sets.{rows_of}
use Rattle.jpa_protocol.specs.declared.call.Call.{Call}
use Rattle.jpa_protocol.specs.declared.event.Told.{Told}
use Rattle.jpa_protocol.specs.declared.reply.Reply.{Reply}
use Rattle.jpa_work.specs.context.Work.{Work}
use Rattle.jpa_work.specs.context.Steps.{Done}
use Rattle.jpa_machine.specs.machine.Faults.{tells_fault, faults_after_reply}
use Rattle.jpa_machine.specs.machine.Machine.{Machine, IsStoredAs}
use Rattle.jpa_machine.specs.machine.Routes.{is_commit}
use Rattle.jpa_machine.specs.machine.Step.{IsGivenUp}
use Rattle.jpa_provider.specs.declared.session.Status.{Status}
use Rattle.jpa_provider.specs.declared.session.Session.{Session}
use Rattle.jpa_provider.specs.Provided.{rows_kept, rows_made, StoresCall}
use Rattle.jpa_provider.specs.Serving.{machine_of, manager_in, named, Refuses}
use Rattle.jpa_provider.proofs.Commits.{committed_work, stored_outcome}
use Rattle.jpa_provider.proofs.Told.{none_more}

-- the rows of what the commit made of the manager's work
pub made_by : (world : World) (s : Session) (em : ℤ) (m : ℕ) → named s em ≡ Some m → (manager_in s.managers.items m).status ≡ Status.Active → (w : Work) → committed_work world (machine_of s) m ≡ Done tt w →
    rows_of world w.view w.numbers ≡ rows_made world (machine_of s) (Call.Commit em)
made_by world s em m e active w o =
    sym (ap (λ (made : Reply × Machine). rows_of world (made.1).committed (made.1).stored_numbers) (stored_outcome world s em m e active w o))

-- a commit whose flush was refused is refused
pub is_refused : (M N : Machine) (m : ℕ) (events : List Told) (r : Cause) (reply : Reply) → Refuses M m events r reply N → IsErr reply.answer
is_refused M N m events r reply (inl g) = subst (λ (x : Reply). IsErr x.answer) (sym g.1) refl
is_refused M N m events r reply (inr g) = subst (λ (x : Reply). IsErr x.answer) (sym g.1) refl

-- whichever call it was
pub either_way : {A : Type 0} (b : Bool) → (b ≡ true → A) → (b ≡ false → A) → A
either_way true f g = f refl
either_way false f g = g refl

on_refusal : {A E : Type 0} (P : Type 0) (r : Result A E) → IsErr r → OnOk r P
on_refusal P (Ok a) refused = absurd (false≢true refused)
on_refusal P (Err e) refused = tt

-- ---- a store beside a machine

module _ {R : Type 0} (world : World) (store : Ghosts R) (M N : Machine) where
  -- what a commit of rows did is what its call did
  pub goes_up : (em : ℤ) (reply : Reply) (old new : R) (before made : Rows) → before ≡ rows_kept world M → made ≡ rows_made world M (Call.Commit em)
      → Commits store (faults_after_reply reply) reply.answer before made old new → (IsErr reply.answer → IsGivenUp reply)
      → (store.clean old → store.holds old (rows_kept world M)) → (store.holds old (rows_kept world M) → store.holds new (rows_kept world N))
      → StoresCall world store M (Call.Commit em) reply N old new
  goes_up em reply old new before made kept stood did given_up had has =
      let commits : Commits store (faults_after_reply reply) reply.answer (rows_kept world M) (rows_made world M (Call.Commit em)) old new =
      subst (λ (p : Rows × Rows). Commits store (faults_after_reply reply) reply.answer p.0 p.1 old new) (λ i. (kept i, stood i)) did in
      let makes = commits.makes in
      record {
        same = makes.same;
        holds = λ clean. has (had (makes.was_clean clean));
        was_clean = makes.was_clean;
        crash = λ clean. makes.crash (had (makes.was_clean clean));
        others = λ other. absurd (true≢false other);
        counted = λ commit. commits.counted;
        bounded = λ commit refusal. of_refusal reply.answer refusal commits.bounded;
        refused = λ refusal. inl (given_up refusal);
        told = makes.told;
        unread = makes.unread;
        unmade = makes.unmade;
      }

  -- the store was not reached: by no call but commit, nor by one that was refused before
  pub left_alone : (call : Call) (reply : Reply) (rows : R) → store.endures rows rows (λ _. ⊥) → tells_fault reply ≡ false → (is_commit call ≡ true → IsErr reply.answer)
      → IsStoredAs M N → (store.clean rows → store.holds rows (rows_kept world M)) → StoresCall world store M call reply N rows rows
  left_alone call reply rows still untold refusal stored had = record {
    same = refl;
    holds = λ clean. subst (store.holds rows) (λ i. rows_of world (sym stored.committed i) (sym stored.numbers i)) (had clean);
    was_clean = λ clean. clean;
    crash = λ clean. store.wider rows rows (λ _. ⊥) (λ left. left ≡ rows_made world M call) (λ left none. absurd none) still;
    others = λ other. refl;
    counted = λ commit. on_refusal _ reply.answer (refusal commit);
    bounded = λ commit refused. inl refl;
    refused = λ refused. inr refl;
    told = none_more reply (store.faults rows) untold;
    unread = refl;
    unmade = refl;
  }
