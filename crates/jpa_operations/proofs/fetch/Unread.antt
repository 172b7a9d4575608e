-- How a relation that was not read is read.
use Rattle.std.proofs.Common.{◌≡◌, ◌∙◌, ℕ, Bool, true, List, ap, sym, subst}
use Rattle.jpa_value.specs.declared.refusal.Cause.{Cause}
use Rattle.jpa_value.specs.declared.refusal.State.{State}
use Rattle.jpa_value.specs.declared.value.Identity.{Identity}
use Rattle.jpa_behaviour.specs.Behaviour.{World}
use Rattle.jpa_work.specs.declared.heap.Collection.{Collection}
use Rattle.jpa_work.specs.declared.heap.Held.{Held}
use Rattle.jpa_protocol.specs.declared.event.Told.{Told}
use Rattle.jpa_work.specs.context.Steps.{Done, Op, after, require, IsRefusedAs}
use Rattle.jpa_work.specs.context.Work.{Work, state_of}
use Rattle.jpa_cascade.specs.Waves.{members_now}
use Rattle.jpa_operations.specs.fetch.Load.{reach}
use Rattle.jpa_operations.specs.fetch.Members.{collect, fetch_held, is_held, with_read, with_relation}
use Rattle.jpa_operations.proofs.fetch.Loaded.{refused_after}

-- the objects of the members stand in the relation, and the base knows the members
abbrev taken : ℕ → ℕ → List Identity → List ℕ → Op (List ℕ)
taken n r ids ks w = Done ks (with_read n r ids (with_relation n r (Held.Many (Collection.Fetched ks)) w))

abbrev each : World → List Identity → Op (List ℕ)
each world ids = collect (reach world Cause.EntityNotFound) ids

abbrev if_held : World → ℕ → ℕ → Bool → Op (List ℕ)
if_held world n r b w =
    after (require b (Cause.IllegalState State.Unfetched) w) (λ _ v. let ids = members_now world.model v n r in after (each world ids v) (taken n r ids))

module _ (world : World) (n r : ℕ) (w : Work) (ids : List Identity) (held : is_held (state_of w n) ≡ true) (read : ids ≡ members_now world.model w n r) where
  fetches : fetch_held world n r (Held.Many Collection.Unfetched) w ≡ after (each world ids w) (taken n r ids)
  fetches = ap (λ b. if_held world n r b w) held ∙ ap (λ is. after (each world is w) (taken n r is)) (sym read)

  -- each is reached
  pub fetches_done : (ks ys : List ℕ) (u v : Work) → collect (reach world Cause.EntityNotFound) ids w ≡ Done ks u → ys ≡ ks →
      v ≡ with_read n r ids (with_relation n r (Held.Many (Collection.Fetched ys)) u) → fetch_held world n r (Held.Many Collection.Unfetched) w ≡ Done ks v
  fetches_done ks ys u v done same set =
      fetches ∙ ap (λ o. after o (taken n r ids)) done ∙ ap (λ z. Done ks z) (sym (set ∙ ap (λ (is : List ℕ). with_read n r ids (with_relation n r (Held.Many (Collection.Fetched is)) u)) same))

  -- or one is refused
  pub fetches_refused : (cause : Cause) (events : List Told) → IsRefusedAs cause events (collect (reach world Cause.EntityNotFound) ids w) →
      IsRefusedAs cause events (fetch_held world n r (Held.Many Collection.Unfetched) w)
  fetches_refused cause events h = subst (IsRefusedAs cause events) (sym fetches) (refused_after cause events (each world ids w) (taken n r ids) h)
