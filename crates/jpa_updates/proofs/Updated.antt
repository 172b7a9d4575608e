-- What executeUpdate does, step by step.
use Rattle.std.proofs.Common.{◌≡◌, ap, ℕ, true, List}
use Rattle.std.specs.Prelude.{◌&&◌, not, Result, Ok, Err, OnOk}
use Rattle.std.specs.List.{list_any}
use Rattle.jpa_value.specs.declared.refusal.Cause.{Cause}
use Rattle.jpa_value.specs.declared.value.Identity.{Identity}
use Rattle.jpa_value.specs.Value.{same_identity}
use Rattle.jpa_stored.specs.objects.Sets.{StoredSet, put_all, without}
use Rattle.jpa_rows.specs.rows.Cells.{all_representable, names_representable, holds_representable}
use Rattle.jpa_work.specs.context.Work.{Work}
use Rattle.jpa_work.specs.context.Steps.{Outcome, Done, Op, after, IsRefusedAs, Meets}
use Rattle.jpa_protocol.specs.declared.event.Told.{Told}
use Rattle.jpql_meaning.specs.plan.Paths.{Entry}
use Rattle.jpql_bulk.proofs.kept.Items.{all_filtered}
use Rattle.jpql_bulk.proofs.kept.Puts.{all_put}

-- a refusal goes through what would follow
pub refused_after : {A B : Type 0} (r : Cause) (events : List Told) (o : Outcome A) (f : A → Op B) → IsRefusedAs r events o → IsRefusedAs r events (after o f)
refused_after Cause.OutOfMemory events o f h = tt
refused_after Cause.StoreFault events o f h = h
refused_after r events o f h = ap (λ p. after p f) h

-- ---- values of the program

pub put_representable : (es s : StoredSet) → all_representable es ≡ true → all_representable s ≡ true → all_representable (put_all es s) ≡ true
put_representable es s h k = all_put (λ (e : Entry). names_representable e.0 && holds_representable e.1) es s h k

pub taken_representable : (ids : List Identity) (s : StoredSet) → all_representable s ≡ true → all_representable (without ids s) ≡ true
taken_representable ids s h =
    all_filtered (λ (e : Entry). names_representable e.0 && holds_representable e.1) (λ (e : Entry). not (list_any (same_identity e.0) ids)) s h

-- the set that is seen after a statement that was done
pub if_done : (r : Result ℕ Cause) (v : Work) (o : Outcome ℕ) (P : StoredSet → Type 0) → Meets r v o → ((n : ℕ) → o ≡ Done n v → P v.view) → OnOk r (P v.view)
if_done (Ok n) v o P h k = k n h
if_done (Err r) v o P h k = tt
