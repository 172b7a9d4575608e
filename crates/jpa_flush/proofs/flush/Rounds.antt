-- Operations one after another.
use Rattle.std.proofs.Common.{◌≡◌, ◌∙◌, ℕ, ◌+◌, ◌<◌, ◌≤◌, List, [], ◌∷◌, ◌++◌, map, take, drop, length, get_or, ap, sym, subst, arith}
use Rattle.std.specs.Prelude.{Option, All}
use Rattle.std.specs.List.{enumerate_from}
use Rattle.std.specs.Option.{option_to_list}
use Rattle.std.proofs.lemmas.List.{at_drop_more, take_more, take_all}
use Rattle.std.proofs.lemmas.List.Elements.{All-append, All-nil, All-cons}
use Rattle.std.proofs.lemmas.List.FromFn.{length-enumerate_from, get_or-enumerate_from}
use Rattle.jpa_value.specs.declared.value.Identity.{Identity}
use Rattle.jpa_value.specs.declared.refusal.Cause.{Cause}
use Rattle.jpa_protocol.specs.declared.event.Told.{Told}
use Rattle.jpa_model.specs.declared.unit.PersistenceUnit.{PersistenceUnit}
use Rattle.jpa_model.specs.declared.unit.Relation.{Relation}
use Rattle.jpa_model.specs.Chains.{no_relation}
use Rattle.jpa_behaviour.specs.Behaviour.{World}
use Rattle.jpa_work.specs.declared.context.Entry.{Entry}
use Rattle.jpa_work.specs.context.Work.{Work}
use Rattle.jpa_work.specs.context.Steps.{Outcome, Done, Op, after, each, IsRefusedAs}
use Rattle.jpa_flush.specs.declared.flush.steps.FlushAction.{FlushAction}
use Rattle.jpa_flush.specs.declared.flush.planning.Planned.{Planned}
use Rattle.jpa_flush.specs.flush.Flush.{pre_update_one}
use Rattle.jpa_flush.specs.flush.Plan.{step_of, update, insertion, replacement, removal, planned}
use Rattle.jpa_flush.proofs.flush.Actions.{one_updated, map_both}
use Rattle.jpa_flush.proofs.flush.Updated.{IsUpdated}

-- what is refused on the way is refused
pub refused_after : {A B : Type 0} (r : Cause) (events : List Told) (o : Outcome A) (f : A → Op B) → IsRefusedAs r events o → IsRefusedAs r events (after o f)
refused_after Cause.OutOfMemory events o f h = tt
refused_after Cause.StoreFault events o f h = h
refused_after r events o f h = ap (λ p. after p f) h

next : {X : Type 0} (f : X → Op (Unit {0})) (xs : List X) (i : ℕ) (x : X) (w : Work) → i < length xs → x ≡ get_or xs i x → each f (drop i xs) w ≡ after (f x w) (λ _. each f (drop (i + 1) xs))
next f xs i x w l read = at_drop_more (λ ys. each f ys w) xs i x l ∙ ap (λ y. after (f y w) (λ _. each f (drop (i + 1) xs))) (sym read)

pub next_done : {X : Type 0} (f : X → Op (Unit {0})) (xs : List X) (i : ℕ) (x : X) (w w' : Work) → i < length xs → x ≡ get_or xs i x → f x w ≡ Done tt w' →
    each f (drop (i + 1) xs) w' ≡ each f (drop i xs) w
next_done f xs i x w w' l read done = sym (next f xs i x w l read ∙ ap (λ o. after o (λ _. each f (drop (i + 1) xs))) done)

pub next_refused : {X : Type 0} (f : X → Op (Unit {0})) (xs : List X) (i : ℕ) (x : X) (w : Work) (r : Cause) (events : List Told) → i < length xs → x ≡ get_or xs i x → IsRefusedAs r events (f x w) →
    IsRefusedAs r events (each f (drop i xs) w)
next_refused f xs i x w r events l read h =
    subst (IsRefusedAs r events) (sym (next f xs i x w l read)) (refused_after r events (f x w) (λ _. each f (drop (i + 1) xs)) h)

-- ---- the plan by the next entry

step_within : (m : PersistenceUnit) (w : Work) (n k : ℕ) (s : FlushAction) → n < k → All (λ p. p.object < k) (option_to_list (planned m w n s))
step_within m w n k FlushAction.Keep l = All-nil (λ (p : Planned). p.object < k)
step_within m w n k FlushAction.Insert l = All-cons (λ (p : Planned). p.object < k) (insertion m w n) [] l (All-nil (λ (p : Planned). p.object < k))
step_within m w n k (FlushAction.Replace v) l = All-cons (λ (p : Planned). p.object < k) (replacement m w n v) [] l (All-nil (λ (p : Planned). p.object < k))
step_within m w n k (FlushAction.Drop v) l = All-cons (λ (p : Planned). p.object < k) (removal m w n) [] l (All-nil (λ (p : Planned). p.object < k))

pub within_round : (m : PersistenceUnit) (w : Work) (e : Entry) (plan plan' : List Planned) (o : Option Planned) → e.object < length w.objects → All (λ p. p.object < length w.objects) plan →
    o ≡ planned m w e.object (step_of m w e) → plan' ≡ plan ++ option_to_list o → All (λ p. p.object < length w.objects) plan'
within_round m w e plan plan' o l before this more =
    subst (λ (ps : List Planned). All (λ p. p.object < length w.objects) ps) (sym (more ∙ ap (λ x. plan ++ option_to_list x) this))
    (All-append (λ (p : Planned). p.object < length w.objects) plan (option_to_list (planned m w e.object (step_of m w e))) before (step_within m w e.object (length w.objects) (step_of m w e) l))

-- ---- what is owned, by the next relation

pub owned_round : (f : ℕ × Relation → List Identity) (rs : List Relation) (i : ℕ) (owned owned' : List (List Identity)) (ids : List Identity) → i < length rs →
    owned ≡ map f (take i (enumerate_from 0 rs)) → ids ≡ f (i, get_or rs i no_relation) → owned' ≡ owned ++ ids ∷ [] → owned' ≡ map f (take (i + 1) (enumerate_from 0 rs))
owned_round f rs i owned owned' ids l before this more =
    let ps = enumerate_from 0 rs in
    let within : i < length ps = subst (λ n. i < n) (sym (length-enumerate_from 0 rs)) l in
    let here : i ≡ 0 + i = omega arith in
    more
    ∙ (λ j. before j ++ this j ∷ [])
    ∙ ap (λ k. map f (take i ps) ++ f (k, get_or rs i no_relation) ∷ []) here
    ∙ ap (λ p. map f (take i ps) ++ f p ∷ []) (sym (get_or-enumerate_from 0 rs i (0, no_relation) l))
    ∙ sym (map_both f (take i ps) (get_or ps i (0, no_relation) ∷ []))
    ∙ ap (map f) (sym (take_more ps i (0, no_relation) within))

pub owned_whole : (f : ℕ × Relation → List Identity) (rs : List Relation) (i : ℕ) (owned : List (List Identity)) → length rs ≤ i → owned ≡ map f (take i (enumerate_from 0 rs)) → owned ≡ map f (enumerate_from 0 rs)
owned_whole f rs i owned l h = h ∙ ap (map f) (take_all i (enumerate_from 0 rs) (subst (λ n. n ≤ i) (sym (length-enumerate_from 0 rs)) l))

-- ---- PreUpdate

pub update_done : (world : World) (w0 w w' : Work) (i : ℕ) (e : Entry) → IsUpdated w0 w → i < length w.context → e ≡ get_or w.context i e →
    update world e.object (step_of world.model w e) w ≡ Done tt w' →
    each (pre_update_one world) (drop (i + 1) w0.context) w' ≡ each (pre_update_one world) (drop i w0.context) w
update_done world w0 w w' i e same l read done =
    ap (λ (es : List Entry). each (pre_update_one world) (drop (i + 1) es) w') (sym same.context)
    ∙ next_done (pre_update_one world) w.context i e w w' l read (one_updated world e w ∙ done)
    ∙ ap (λ (es : List Entry). each (pre_update_one world) (drop i es) w) same.context

pub update_refused : (world : World) (w0 w : Work) (i : ℕ) (e : Entry) (r : Cause) (events : List Told) (o : Outcome (Unit {0})) → IsUpdated w0 w →
    i < length w.context → e ≡ get_or w.context i e → each (pre_update_one world) (drop i w0.context) w ≡ o →
    IsRefusedAs r events (update world e.object (step_of world.model w e) w) → IsRefusedAs r events o
update_refused world w0 w i e r events o same l read rest h =
    subst (IsRefusedAs r events) (ap (λ (es : List Entry). each (pre_update_one world) (drop i es) w) same.context ∙ rest)
    (next_refused (pre_update_one world) w.context i e w r events l read (subst (IsRefusedAs r events) (sym (one_updated world e w)) h))
