-- What a commit does before it stores, step by step: the flush, what is current, the set that it makes.
use Rattle.std.proofs.Common.{◌≡◌, ◌∙◌, ℕ, Bool, true, false, cond, List, [], ◌∷◌, map, refl, ap, sym, subst, T}
use Rattle.std.specs.Prelude.{◌&&◌, ◌||◌, not, All, Option, Some, None, option_map, Result, Ok, Err, OnOk, IfErr}
use Rattle.std.specs.List.{list_any}
use Rattle.std.specs.FinMap.Entries.{is_sorted}
use Rattle.std.proofs.lemmas.List.Elements.{All-nil, All-cons}
use Rattle.jpa_value.specs.declared.value.Identity.{Identity}
use Rattle.jpa_value.specs.declared.refusal.Cause.{Cause}
use Rattle.jpa_value.specs.declared.refusal.PersistenceFault.{PersistenceFault}
use Rattle.jpa_value.specs.Value.{identity_cmp, same_identity}
use Rattle.jpa_model.specs.declared.unit.PersistenceUnit.{PersistenceUnit}
use Rattle.jpa_behaviour.specs.Behaviour.{World}
use Rattle.jpa_stored.specs.objects.Sets.{StoredSet, IsSound, stored_at, fault_of}
use Rattle.jpa_open.specs.Differences.{agrees, differing, merged}
use Rattle.jpa_open.proofs.MergedSets.{found_merged, is_differing}
use Rattle.jpa_constraints.specs.declared.change.Change.{Change}
use Rattle.jpa_constraints.specs.Changed.{class_at, is_changed, IsChanged}
use Rattle.jpa_open.specs.Opened.{SameElsewhere}
use Rattle.jpa_work.specs.context.Work.{Work}
use Rattle.jpa_work.specs.context.Steps.{◌>>=◌, ◌>>◌, Op, Done, Refused, IsRefusedAs, Meets, after, change, read, require}
use Rattle.jpa_flush.specs.flush.Changes.{place_of}
use Rattle.jpa_flush.specs.flush.Flush.{flush, reads_hold, sound_or}
use Rattle.jpa_updates.specs.Updates.{with_view}
use Rattle.jpa_machine.specs.machine.Transactions.{is_current, commit_work}

-- ---- where the set that a commit makes differs from what is committed

turned : (b : Bool) → not b ≡ false → b ≡ true
turned true e = refl
turned false e = absurd cc

pub same_elsewhere : (committed begun seen : StoredSet) (ids : List Identity) → ids ≡ differing begun seen → T (is_sorted identity_cmp seen) → SameElsewhere (merged committed begun seen) committed ids
same_elsewhere committed begun seen ids are rises q e =
    let same : agrees seen begun q ≡ true = turned (agrees seen begun q) (sym (is_differing begun seen rises q) ∙ ap (list_any (same_identity q)) (sym are) ∙ e) in
    found_merged committed begun seen rises q ∙ ap (λ b. cond b (stored_at committed q) (stored_at seen q)) same

-- ---- what is judged

abbrev pub place_at : StoredSet → Identity → Identity × Option ℕ
place_at set id = (id, class_at set id)

changed_at : (set : StoredSet) (q : Identity) (changes : List Change) (ids : List Identity) → map place_of changes ≡ map (place_at set) ids → is_changed changes q ≡ list_any (same_identity q) ids
changed_at set q [] [] e = refl
changed_at set q [] (id ∷ ids) e = absurd cc
changed_at set q (c ∷ cs) [] e = absurd cc
changed_at set q (c ∷ cs) (id ∷ ids) e =
    let first : place_of c ≡ place_at set id = cc in
    let rest : map place_of cs ≡ map (place_at set) ids = cc in
    λ i. same_identity q (first i).0 || changed_at set q cs ids rest i

classes_at : (set : StoredSet) (changes : List Change) (ids : List Identity) → map place_of changes ≡ map (place_at set) ids → All (λ (c : Change). c.class_before ≡ class_at set c.id.now) changes
classes_at set [] ids e = All-nil (λ (c : Change). c.class_before ≡ class_at set c.id.now)
classes_at set (c ∷ cs) [] e = absurd cc
classes_at set (c ∷ cs) (id ∷ ids) e =
    let first : place_of c ≡ place_at set id = cc in
    let rest : map place_of cs ≡ map (place_at set) ids = cc in
    All-cons (λ (d : Change). d.class_before ≡ class_at set d.id.now) c cs (ap (λ p. p.1) first ∙ ap (class_at set) (sym (ap (λ p. p.0) first))) (classes_at set cs ids rest)

pub changed_from : (m : PersistenceUnit) (before after : StoredSet) (changes : List Change) (ids : List Identity) → map place_of changes ≡ map (place_at before) ids →
    T (is_sorted identity_cmp before) → IsSound m before → SameElsewhere after before ids → IsChanged m changes after
changed_from m before after changes ids places rising sound same = (
  before,
  record {
    rising = rising;
    sound = sound;
    elsewhere = λ q apart. same q (sym (changed_at before q changes ids places) ∙ apart);
    classes = classes_at before changes ids places;
  },
)

-- the set is seen already where it is judged
pub seen_then : (m : PersistenceUnit) (s : StoredSet) (w : Work) (r : Result (Unit {0}) Cause) → OnOk r (IsSound m s) → IfErr r (λ cause. option_map Cause.Persistence (fault_of m s) ≡ Some cause) →
    Meets r (with_view s w) (after (sound_or (fault_of m s) w) (λ _. change (with_view s)))
seen_then m s w (Ok a) sound fault = ap (λ f. after (sound_or f w) (λ _. change (with_view s))) sound
seen_then m s w (Err cause) sound fault = by (fault_of m s) fault
  where
    by : (f : Option PersistenceFault) → option_map Cause.Persistence f ≡ Some cause → IsRefusedAs {A = Unit {0}} cause w.events (after (sound_or f w) (λ _. change (with_view s)))
    by None h = absurd cc
    by (Some f) h =
        let is : Cause.Persistence f ≡ cause = cc in
        subst (λ c. IsRefusedAs {A = Unit {0}} c w.events (Refused (Cause.Persistence f) w.events)) is refl

-- ---- the steps

module _ (world : World) (committed begun : StoredSet) where
  abbrev pub joining : Op (Unit {0})
  joining = do
    set ← read (λ w. merged committed begun w.view)
    sound_or (fault_of world.model set)
    change (with_view set)

  abbrev pub holding : Op (Unit {0})
  holding = do
    hold ← read (reads_hold world.model)
    require hold Cause.OptimisticLock
    joining

  abbrev pub deciding : Op (Unit {0})
  deciding = do
    current ← read (is_current world.model committed begun)
    require current Cause.OptimisticLock
    holding

  module _ (w v : Work) (done : flush world w ≡ Done tt v) where
    decided : commit_work world committed begun w ≡ deciding v
    decided = ap (λ o. after o (λ _. deciding)) done

    -- what was asked of it: whether what it changed and what it read is current
    abbrev pub Tells : Bool → Type 0
    Tells b = b ≡ (is_current world.model committed begun v && reads_hold world.model v)

    pub not_current : (b : Bool) → Tells b → b ≡ false → commit_work world committed begun w ≡ Refused Cause.OptimisticLock v.events
    not_current b told e = decided ∙ by_current (is_current world.model committed begun v) (sym told ∙ e)
      where
        by_hold : (b : Bool) → b ≡ false → after (require b Cause.OptimisticLock v) (λ _. joining) ≡ Refused Cause.OptimisticLock v.events
        by_hold false h = refl
        by_hold true h = absurd cc

        by_current : (a : Bool) → (a && reads_hold world.model v) ≡ false → after (require a Cause.OptimisticLock v) (λ _. holding) ≡ Refused Cause.OptimisticLock v.events
        by_current false h = refl
        by_current true h = by_hold (reads_hold world.model v) h

    pub joined : (b : Bool) → Tells b → b ≡ true → commit_work world committed begun w ≡ joining v
    joined b told e = decided ∙ by_current (is_current world.model committed begun v) (sym told ∙ e)
      where
        by_hold : (b : Bool) → b ≡ true → after (require b Cause.OptimisticLock v) (λ _. joining) ≡ joining v
        by_hold true h = refl
        by_hold false h = absurd cc

        by_current : (a : Bool) → (a && reads_hold world.model v) ≡ true → after (require a Cause.OptimisticLock v) (λ _. holding) ≡ joining v
        by_current true h = by_hold (reads_hold world.model v) h
        by_current false h = absurd cc
