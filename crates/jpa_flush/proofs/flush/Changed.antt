-- What a plan changes of a set is what its changes name.
use Rattle.std.proofs.Common.{◌≡◌, ◌∙◌, ℕ, false, List, [], ◌∷◌, ◌++◌, map, refl, ap, sym, subst, T}
use Rattle.std.specs.Prelude.{◌||◌, All, Option, Some, None, option_map, Result, Ok, Err, OnOk, IfErr}
use Rattle.std.specs.List.{list_any}
use Rattle.std.specs.FinMap.Entries.{is_sorted}
use Rattle.std.proofs.lemmas.List.Elements.{All-nil, All-cons, All-head, All-tail, All-append}
use Rattle.jpa_value.specs.declared.value.Identity.{Identity}
use Rattle.jpa_value.specs.declared.refusal.Cause.{Cause}
use Rattle.jpa_value.specs.declared.refusal.PersistenceFault.{PersistenceFault}
use Rattle.jpa_value.specs.Value.{identity_cmp, same_identity}
use Rattle.jpa_model.specs.declared.unit.PersistenceUnit.{PersistenceUnit}
use Rattle.jpa_stored.specs.objects.Sets.{StoredSet, IsSound, stored_at, fault_of}
use Rattle.jpa_constraints.specs.declared.change.Change.{Change}
use Rattle.jpa_constraints.specs.Changed.{class_at, is_changed, IsChanged}
use Rattle.jpa_work.specs.context.Work.{Work, row_at}
use Rattle.jpa_work.specs.context.Steps.{Refused, Meets, IsRefusedAs}
use Rattle.jpa_flush.specs.declared.flush.planning.Planned.{Planned}
use Rattle.jpa_flush.specs.declared.flush.writing.Written.{Written}
use Rattle.jpa_flush.specs.flush.Changes.{place_in, places_of, place_of, AreChangesOf, IsWritten}
use Rattle.jpa_flush.specs.flush.Flush.{Action, actions, listed, sound_or}
use Rattle.jpa_flush.specs.flush.Names.{targets}
use Rattle.jpa_flush.specs.flush.Plan.{class_there, item, plan_of, write_each, written_as, written_by}
use Rattle.jpa_flush.proofs.flush.Joined.{named, applied_found, unnamed_done, applied_rises}
use Rattle.jpa_flush.proofs.flush.Written.{writes_of, names_of, applied_each}

-- ---- the identities

abbrev Place : Type 0
Place = Identity × Option ℕ

abbrev name_in : Place → Identity
name_in p = p.0

first_place : (id : Option Identity) (class : Option ℕ) (ps : List Place) → map name_in (place_in id class ++ ps) ≡ listed id ++ map name_in ps
first_place None class ps = refl
first_place (Some id) class ps = refl

names_of_places : (plan : List Planned) → map name_in (places_of (written_by plan)) ≡ targets plan
names_of_places [] = refl
names_of_places (p ∷ ps) = first_place p.id p.class_before (places_of (written_by ps)) ∙ ap (λ ids. listed p.id ++ ids) (names_of_places ps)

changed_in : (q : Identity) (changes : List Change) → is_changed changes q ≡ list_any (same_identity q) (map name_in (map place_of changes))
changed_in q [] = refl
changed_in q (c ∷ cs) = ap (λ b. same_identity q c.id.now || b) (changed_in q cs)

is_named : (plan : List Planned) (changes : List Change) (q : Identity) → AreChangesOf (written_by plan) changes → is_changed changes q ≡ named q (writes_of plan)
is_named plan changes q h =
    changed_in q changes
    ∙ ap (λ ps. list_any (same_identity q) (map name_in ps)) h
    ∙ ap (list_any (same_identity q)) (names_of_places plan ∙ sym (names_of plan))

-- what no change names is as it was
elsewhere : (plan : List Planned) (changes : List Change) (s : StoredSet) (q : Identity) → AreChangesOf (written_by plan) changes → is_changed changes q ≡ false → stored_at (write_each plan s) q ≡ stored_at s q
elsewhere plan changes s q h apart =
    ap (λ (set : StoredSet). stored_at set q) (sym (applied_each plan s))
    ∙ applied_found q (writes_of plan) s
    ∙ unnamed_done q (writes_of plan) (stored_at s q) (sym (is_named plan changes q h) ∙ apart)

-- ---- the classes

abbrev HasClass : StoredSet → Place → Type 0
HasClass s p = p.1 ≡ class_at s p.0

abbrev IsOfClass : Work → Written → Type 0
IsOfClass w x = x.class_before ≡ class_there (row_at w x.id)

one_class : (w : Work) (id : Option Identity) (class : Option ℕ) → class ≡ class_there (row_at w id) → All (HasClass w.view) (place_in id class)
one_class w None class h = All-nil (HasClass w.view)
one_class w (Some id) class h = All-cons (HasClass w.view) (id, class) [] h (All-nil (HasClass w.view))

classes_of : (w : Work) (xs : List Written) → All (IsOfClass w) xs → All (HasClass w.view) (places_of xs)
classes_of w [] h = All-nil (HasClass w.view)
classes_of w (x ∷ xs) h =
    All-append (HasClass w.view) (place_in x.id x.class_before) (places_of xs) (one_class w x.id x.class_before (All-head (IsOfClass w) x xs h)) (classes_of w xs (All-tail (IsOfClass w) x xs h))

of_changes : (s : StoredSet) (changes : List Change) → All (HasClass s) (map place_of changes) → All (λ c. HasClass s (place_of c)) changes
of_changes s [] h = All-nil (λ (c : Change). HasClass s (place_of c))
of_changes s (c ∷ cs) h =
    All-cons (λ (d : Change). HasClass s (place_of d)) c cs (All-head (HasClass s) (place_of c) (map place_of cs) h) (of_changes s cs (All-tail (HasClass s) (place_of c) (map place_of cs) h))

-- ---- together

pub changed_from : (m : PersistenceUnit) (w : Work) (plan : List Planned) (xs : List Written) (changes : List Change) (after : StoredSet) → IsWritten m w plan xs after → AreChangesOf xs changes → IsChanged m changes after
changed_from m w plan xs changes after h named = (
  w.view,
  record {
    rising = h.rising;
    sound = h.sound;
    elsewhere = λ q apart. ap (λ (s : StoredSet). stored_at s q) h.set ∙ elsewhere plan changes w.view q (named ∙ ap places_of h.objects) apart;
    classes = of_changes w.view changes (subst (All (HasClass w.view)) (sym named) (classes_of w xs h.classes));
  },
)

pub written_rises : (plan : List Planned) (s : StoredSet) → T (is_sorted identity_cmp s) → T (is_sorted identity_cmp (write_each plan s))
written_rises plan s h = subst (λ (set : StoredSet). T (is_sorted identity_cmp set)) (applied_each plan s) (applied_rises (writes_of plan) s h)

-- the plan has the classes that the work sees
items_of_class : (m : PersistenceUnit) (w : Work) (as' : List (ℕ × Action)) → All (IsOfClass w) (written_by (map (item m w) as'))
items_of_class m w [] = All-nil (IsOfClass w)
items_of_class m w (a ∷ as') = All-cons (IsOfClass w) (written_as (item m w a)) (written_by (map (item m w) as')) refl (items_of_class m w as')

pub plan_of_class : (m : PersistenceUnit) (w : Work) → All (λ x. x.class_before ≡ class_there (row_at w x.id)) (written_by (plan_of m w))
plan_of_class m w = items_of_class m w (actions m w)

-- ---- what is judged

pub judged : (m : PersistenceUnit) (s : StoredSet) (w : Work) (r : Result (Unit {0}) Cause) → OnOk r (IsSound m s) → IfErr r (λ cause. option_map Cause.Persistence (fault_of m s) ≡ Some cause) → Meets r w (sound_or (fault_of m s) w)
judged m s w (Ok a) sound fault = ap (λ f. sound_or f w) sound
judged m s w (Err cause) sound fault = by (fault_of m s) fault
  where
    by : (f : Option PersistenceFault) → option_map Cause.Persistence f ≡ Some cause → IsRefusedAs {A = Unit {0}} cause w.events (sound_or f w)
    by None h = absurd cc
    by (Some f) h =
        let same : Cause.Persistence f ≡ cause = cc in
        subst (λ c. IsRefusedAs {A = Unit {0}} c w.events (Refused (Cause.Persistence f) w.events)) same refl
