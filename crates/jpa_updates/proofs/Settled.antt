-- A set that a statement changes: what its changes name, its order, and how it is judged.
use Rattle.std.proofs.Common.{◌≡◌, ◌∙◌, refl, ap, sym, subst, ℕ, Bool, true, false, not, ◌||◌, cond, T, List, [], ◌∷◌, map}
use Rattle.std.specs.Prelude.{All, Option, Some, None, option_map, Result, Ok, Err, OnOk, IfErr}
use Rattle.std.specs.List.{list_any}
use Rattle.std.specs.FinMap.Entries.{find-put, find-where_key, is_sorted, is_sorted-where_key}
use Rattle.std.specs.declared.cmp.Ordering.TheVariants.{Equal}
use Rattle.std.proofs.lemmas.Bool.{false≢true}
use Rattle.std.proofs.lemmas.List.Elements.{All-nil, All-cons, All-head, All-tail}
use Rattle.jpa_value.specs.declared.value.Identity.{Identity}
use Rattle.jpa_value.specs.declared.refusal.Cause.{Cause}
use Rattle.jpa_value.specs.declared.refusal.PersistenceFault.{PersistenceFault}
use Rattle.jpa_value.specs.Value.{identity_cmp, same_identity}
use Rattle.jpa_value.proofs.Orders.{identity_total, identity_exact}
use Rattle.jpa_model.specs.declared.unit.PersistenceUnit.{PersistenceUnit}
use Rattle.jpa_stored.specs.declared.objects.stored.Stored.{Stored}
use Rattle.jpa_stored.specs.objects.Sets.{StoredSet, stored_at, with_stored, put_all, without, fault_of, IsSound}
use Rattle.jpa_stored.proofs.objects.Puts.{rises}
use Rattle.jpa_constraints.specs.declared.change.Change.{Change}
use Rattle.jpa_constraints.specs.Changed.{class_at, is_changed, IsChanged}
use Rattle.jpa_work.specs.context.Work.{Work}
use Rattle.jpa_work.specs.context.Steps.{Done, Refused, Meets, IsRefusedAs, after}
use Rattle.jpa_flush.specs.flush.Flush.{sound_or}
use Rattle.jpa_updates.specs.Changing.{Place, ArePlaces, name_of, place_in, place_of, take_each}
use Rattle.jpa_updates.specs.Updates.{settle, with_view}
use Rattle.jpa_updates.proofs.Updated.{refused_after}

-- ---- what the changes name

abbrev place_name : Place → Identity
place_name p = p.0

changed_in : (q : Identity) (changes : List Change) → is_changed changes q ≡ list_any (same_identity q) (map place_name (map place_of changes))
changed_in q [] = refl
changed_in q (c ∷ cs) = ap (λ b. same_identity q c.id.now || b) (changed_in q cs)

names_of : (s : StoredSet) (ids : List Identity) → map place_name (map (place_in s) ids) ≡ ids
names_of s [] = refl
names_of s (id ∷ ids) = ap (λ more. id ∷ more) (names_of s ids)

is_named : (s : StoredSet) (ids : List Identity) (changes : List Change) (q : Identity) → ArePlaces s ids changes → is_changed changes q ≡ list_any (same_identity q) ids
is_named s ids changes q h = changed_in q changes ∙ ap (λ ps. list_any (same_identity q) (map place_name ps)) h ∙ ap (list_any (same_identity q)) (names_of s ids)

abbrev HasClass : StoredSet → Place → Type 0
HasClass s p = p.1 ≡ class_at s p.0

all_have : (s : StoredSet) (ids : List Identity) → All (HasClass s) (map (place_in s) ids)
all_have s [] = All-nil (HasClass s)
all_have s (id ∷ ids) = All-cons (HasClass s) (place_in s id) (map (place_in s) ids) refl (all_have s ids)

of_changes : (s : StoredSet) (changes : List Change) → All (HasClass s) (map place_of changes) → All (λ c. HasClass s (place_of c)) changes
of_changes s [] h = All-nil (λ (c : Change). HasClass s (place_of c))
of_changes s (c ∷ cs) h =
    All-cons (λ (d : Change). HasClass s (place_of d)) c cs (All-head (HasClass s) (place_of c) (map place_of cs) h) (of_changes s cs (All-tail (HasClass s) (place_of c) (map place_of cs) h))

changed_from : (m : PersistenceUnit) (s after : StoredSet) (ids : List Identity) (changes : List Change) → T (is_sorted identity_cmp s) → IsSound m s → ArePlaces s ids changes
    → ((q : Identity) → list_any (same_identity q) ids ≡ false → stored_at after q ≡ stored_at s q) → IsChanged m changes after
changed_from m s after ids changes rising sound h elsewhere = (
  s,
  record {
    rising = rising;
    sound = sound;
    elsewhere = λ q apart. elsewhere q (sym (is_named s ids changes q h) ∙ apart);
    classes = of_changes s changes (subst (All (HasClass s)) (sym h) (all_have s ids));
  },
)

-- ---- objects that are put

or_parts : (a b : Bool) → (a || b) ≡ false → (a ≡ false) × (b ≡ false)
or_parts true b h = absurd (false≢true (sym h))
or_parts false b h = (refl, h)

put_elsewhere : (es s : StoredSet) (q : Identity) → list_any (same_identity q) (map name_of es) ≡ false → stored_at (put_all es s) q ≡ stored_at s q
put_elsewhere [] s q h = refl
put_elsewhere (e ∷ es) s q h =
    let parts = or_parts (same_identity q e.0) (list_any (same_identity q) (map name_of es)) h in
    put_elsewhere es (with_stored e.0 e.1 s) q parts.1
    ∙ find-put identity_cmp identity_total q e.0 e.1 s ∙ ap (λ b. cond b (Some e.1) (stored_at s q)) parts.0

pub put_changed : (m : PersistenceUnit) (s es : StoredSet) (changes : List Change) → T (is_sorted identity_cmp s) → IsSound m s → ArePlaces s (map name_of es) changes → IsChanged m changes (put_all es s)
put_changed m s es changes rising sound h = changed_from m s (put_all es s) (map name_of es) changes rising sound h (put_elsewhere es s)

pub put_rises : (s es : StoredSet) → T (is_sorted identity_cmp s) → T (is_sorted identity_cmp (put_all es s))
put_rises s es h = rises es s h

-- ---- objects that are taken out

one_by_one : (a b : Bool) (x : Identity × Stored) (xs : StoredSet) → cond (not (a || b)) (x ∷ xs) xs ≡ cond (not (a || false)) (cond (not b) (x ∷ xs) xs) xs
one_by_one true b x xs = refl
one_by_one false b x xs = refl

taken_next : (id : Identity) (ids : List Identity) (s : StoredSet) → without ids (without (id ∷ []) s) ≡ without (id ∷ ids) s
taken_next id ids [] = refl
taken_next id ids (e ∷ es) = by_test (same_identity e.0 id) (taken_next id ids es)
  where
    by_test : (b : Bool) → without ids (without (id ∷ []) es) ≡ without (id ∷ ids) es
        → without ids (cond (not (b || false)) (e ∷ without (id ∷ []) es) (without (id ∷ []) es))
        ≡ cond (not (b || list_any (same_identity e.0) ids)) (e ∷ without (id ∷ ids) es) (without (id ∷ ids) es)
    by_test true h = h
    by_test false h = ap (λ rest. cond (not (list_any (same_identity e.0) ids)) (e ∷ rest) rest) h

nothing_taken : (s : StoredSet) → without [] s ≡ s
nothing_taken [] = refl
nothing_taken (e ∷ es) = ap (λ rest. e ∷ rest) (nothing_taken es)

pub taken_all : (ids : List Identity) (s : StoredSet) → take_each ids s ≡ without ids s
taken_all [] s = sym (nothing_taken s)
taken_all (id ∷ ids) s = taken_all ids (without (id ∷ []) s) ∙ taken_next id ids s

same_any : (q x : Identity) (ids : List Identity) → identity_cmp q x ≡ Equal → not (list_any (same_identity x) ids) ≡ not (list_any (same_identity q) ids)
same_any q x ids e = ap (λ (i : Identity). not (list_any (same_identity i) ids)) (sym (identity_exact q x e))

take_elsewhere : (ids : List Identity) (s : StoredSet) (q : Identity) → list_any (same_identity q) ids ≡ false → stored_at (without ids s) q ≡ stored_at s q
take_elsewhere ids s q h =
    find-where_key identity_cmp (λ id. not (list_any (same_identity id) ids)) q (λ x e. same_any q x ids e) s
    ∙ ap (λ b. cond (not b) (stored_at s q) None) h

pub take_changed : (m : PersistenceUnit) (s : StoredSet) (ids : List Identity) (changes : List Change) → T (is_sorted identity_cmp s) → IsSound m s → ArePlaces s ids changes → IsChanged m changes (without ids s)
take_changed m s ids changes rising sound h = changed_from m s (without ids s) ids changes rising sound h (take_elsewhere ids s)

pub take_rises : (s : StoredSet) (ids : List Identity) → T (is_sorted identity_cmp s) → T (is_sorted identity_cmp (without ids s))
take_rises s ids h = is_sorted-where_key identity_cmp (λ id. not (list_any (same_identity id) ids)) s h

-- ---- what is judged

pub judged : (m : PersistenceUnit) (s : StoredSet) (w : Work) (r : Result (Unit {0}) Cause) → OnOk r (IsSound m s) → IfErr r (λ cause. option_map Cause.Persistence (fault_of m s) ≡ Some cause)
    → Meets r w (sound_or (fault_of m s) w)
judged m s w (Ok a) sound fault = ap (λ f. sound_or f w) sound
judged m s w (Err cause) sound fault = by_fault (fault_of m s) fault
  where
    by_fault : (f : Option PersistenceFault) → option_map Cause.Persistence f ≡ Some cause → IsRefusedAs {A = Unit {0}} cause w.events (sound_or f w)
    by_fault None h = absurd cc
    by_fault (Some f) h =
        let same : Cause.Persistence f ≡ cause = cc in
        subst (λ c. IsRefusedAs {A = Unit {0}} c w.events (Refused (Cause.Persistence f) w.events)) same refl

-- ---- the set is seen where it is sound

view_of : (u v : Work) (n k : ℕ) → Done n u ≡ Done k v → v.view ≡ u.view
view_of u v n k e = let same : u ≡ v = cc in sym (ap (λ (x : Work). x.view) same)

module _ (m : PersistenceUnit) (s : StoredSet) (n : ℕ) (w : Work) where
  -- by whether there is a fault
  settled_as : (f : Option PersistenceFault) → fault_of m s ≡ f → settle m (s, n) w ≡ after (sound_or f w) (λ _ u. Done n (with_view s u))
  settled_as f e = ap (λ g. after (sound_or g w) (λ _ u. Done n (with_view s u))) e

  done_by : (f : Option PersistenceFault) → fault_of m s ≡ f → sound_or f (with_view s w) ≡ Done tt (with_view s w) → settle m (s, n) w ≡ Done n (with_view s w)
  done_by None e h = settled_as None e
  done_by (Some fault) e h = absurd cc

  refused_by : (f : Option PersistenceFault) → fault_of m s ≡ f → (r : Cause) → IsRefusedAs r w.events (sound_or f (with_view s w)) → IsRefusedAs r w.events (settle m (s, n) w)
  refused_by None e Cause.OutOfMemory h = tt
  refused_by None e Cause.StoreFault h = h
  refused_by None e r h = absurd cc
  refused_by (Some fault) e r h =
      subst (IsRefusedAs r w.events) (sym (settled_as (Some fault) e))
      (refused_after r w.events (Refused (Cause.Persistence fault) w.events) (λ _ u. Done n (with_view s u)) h)

  pub settle_done : (v : Work) → v ≡ with_view s w → sound_or (fault_of m v.view) v ≡ Done tt v → settle m (s, n) w ≡ Done n v
  settle_done v e h =
      subst (λ u. settle m (s, n) w ≡ Done n u) (sym e) (done_by (fault_of m s) refl (subst (λ u. sound_or (fault_of m u.view) u ≡ Done tt u) e h))

  pub settle_refused : (v : Work) (r : Cause) → v ≡ with_view s w → IsRefusedAs r v.events (sound_or (fault_of m v.view) v) → IsRefusedAs r v.events (settle m (s, n) w)
  settle_refused v r e h =
      subst (λ u. IsRefusedAs r u.events (settle m (s, n) w)) (sym e)
      (refused_by (fault_of m s) refl r (subst (λ u. IsRefusedAs r u.events (sound_or (fault_of m u.view) u)) e h))

  -- what is seen then
  seen_by : (f : Option PersistenceFault) → fault_of m s ≡ f → (k : ℕ) (v : Work) → settle m (s, n) w ≡ Done k v → v.view ≡ s
  seen_by None e k v h = let same : Done n (with_view s w) ≡ Done k v = sym (settled_as None e) ∙ h in view_of (with_view s w) v n k same
  seen_by (Some fault) e k v h = absurd (no_done (sym (settled_as (Some fault) e) ∙ h))
    where
      no_done : after (sound_or (Some fault) w) (λ _ u. Done n (with_view s u)) ≡ Done k v → ⊥
      no_done h = absurd cc

  pub seen_then : (k : ℕ) (v : Work) → settle m (s, n) w ≡ Done k v → v.view ≡ s
  seen_then k v h = seen_by (fault_of m s) refl k v h
