-- The nodes of a cascade one after another.
use Rattle.std.proofs.Common.{◌≡◌, ◌∙◌, ℕ, ◌+◌, ◌<◌, List, drop, length, get_or, ap, sym, subst}
use Rattle.std.proofs.lemmas.List.{at_drop_more}
use Rattle.jpa_value.specs.declared.refusal.Cause.{Cause}
use Rattle.jpa_protocol.specs.declared.event.Told.{Told}
use Rattle.jpa_model.specs.declared.unit.PersistenceUnit.{PersistenceUnit}
use Rattle.jpa_work.specs.context.Steps.{Done, Op, after, each, IsRefusedAs}
use Rattle.jpa_work.specs.context.Work.{Work}
use Rattle.jpa_cascade.specs.declared.Node.{Node}
use Rattle.jpa_cascade.specs.declared.Operation.{Operation}
use Rattle.jpa_cascade.specs.There.{IsThere}
use Rattle.jpa_cascade.specs.Waves.{waves}
use Rattle.jpa_cascade.proofs.There.{waves_are_there}
use Rattle.jpa_operations.specs.fetch.Grown.{IsReady}
use Rattle.jpa_operations.proofs.ops.Ready.{linked_within}
use Rattle.jpa_operations.proofs.ops.Refused.{refused_after}

next : {X : Type 0} (f : X → Op (Unit {0})) (xs : List X) (i : ℕ) (x : X) (w : Work) → i < length xs → x ≡ get_or xs i x → each f (drop i xs) w ≡ after (f x w) (λ _. each f (drop (i + 1) xs))
next f xs i x w l read = at_drop_more (λ ys. each f ys w) xs i x l ∙ ap (λ y. after (f y w) (λ _. each f (drop (i + 1) xs))) (sym read)

pub next_done : {X : Type 0} (f : X → Op (Unit {0})) (xs : List X) (i : ℕ) (x : X) (w w' : Work) → i < length xs → x ≡ get_or xs i x → f x w ≡ Done tt w' →
    each f (drop (i + 1) xs) w' ≡ each f (drop i xs) w
next_done f xs i x w w' l read done = sym (next f xs i x w l read ∙ ap (λ o. after o (λ _. each f (drop (i + 1) xs))) done)

pub next_refused : {X : Type 0} (f : X → Op (Unit {0})) (xs : List X) (i : ℕ) (x : X) (w : Work) (r : Cause) (events : List Told) → i < length xs → x ≡ get_or xs i x → IsRefusedAs r events (f x w) →
    IsRefusedAs r events (each f (drop i xs) w)
next_refused f xs i x w r events l read h =
    subst (IsRefusedAs r events) (sym (next f xs i x w l read)) (refused_after r events (f x w) (λ _. each f (drop (i + 1) xs)) h)

-- each node was there as the operation began
pub node_there : (m : PersistenceUnit) (op : Operation) (w : Work) (start : ℕ) (nodes : List Node) (i : ℕ) (x : Node) → IsReady m w → start < length w.objects → nodes ≡ waves m op w start →
    i < length nodes → x ≡ get_or nodes i x → IsThere w x
node_there m op w start nodes i x h within same l read =
    let l' : i < length (waves m op w start) = subst (λ (xs : List Node). i < length xs) same l in
    let read' : x ≡ get_or (waves m op w start) i x = subst (λ (xs : List Node). x ≡ get_or xs i x) same read in
    subst (IsThere w) (sym read') (waves_are_there m op w start (linked_within w.objects h.linked) h.placed.entries within i x l')
