-- Bases that take at once what relations hold are those that take it once all is settled.
use Rattle.std.proofs.Common.{◌≡◌, ◌≢◌, ◌∙◌, ◌⊎◌, inl, inr, ℕ, ◌<◌, ◌≤◌, Bool, true, false, List, [], ◌∷◌, ◌++◌, map, length, refl, ap, sym, subst}
use Rattle.std.specs.Prelude.{◌==◌, ◌&&◌, ◌||◌, not, is_some, slice_set, Option, Some, None, if◌then◌else◌}
use Rattle.std.specs.List.{flat_map, list_all}
use Rattle.std.proofs.lemmas.Bool.{and_from, and_parts, cases_eq, cases_lt, cond_both, eqb-true}
use Rattle.std.proofs.lemmas.List.{get_or-set_same, get_or-set_other, set_past}
use Rattle.std.proofs.lemmas.List.Folds.{list_all-append}
use Rattle.jpa_value.specs.declared.value.Identity.{Identity}
use Rattle.jpa_model.specs.declared.unit.PersistenceUnit.{PersistenceUnit}
use Rattle.jpa_model.specs.Chains.{root_of}
use Rattle.jpa_stored.specs.declared.objects.stored.Stored.{Stored}
use Rattle.jpa_work.specs.declared.heap.Collection.{Collection}
use Rattle.jpa_work.specs.declared.heap.Held.{Held}
use Rattle.jpa_work.specs.declared.heap.Link.{Link}
use Rattle.jpa_work.specs.declared.heap.LiveObject.{LiveObject}
use Rattle.jpa_work.specs.heap.Objects.{no_object, object_at, is_whole}
use Rattle.jpa_work.specs.declared.context.Base.{Base}
use Rattle.jpa_work.specs.declared.context.Entry.{Entry}
use Rattle.jpa_work.specs.declared.context.EntityState.{EntityState}
use Rattle.jpa_work.specs.context.Work.{Work, object, state_of, state_from, is_managed, identity_at}
use Rattle.jpa_operations.specs.fetch.Grown.{IsReady}
use Rattle.jpa_flush.specs.declared.flush.planning.Planned.{Planned}
use Rattle.jpa_flush.specs.flush.Flush.{action_in, action_of, all_remembered, held_now, listed, members_held, remembered, remembered_in, replace_if, rising, settled}
use Rattle.jpa_flush.specs.flush.Flush as flushes
use Rattle.jpa_flush.specs.flush.Plan.{item, learned, learned_by, learned_entry, planned_of, plan_of, settled_by}
use Rattle.jpa_flush.proofs.flush.Actions.{all_planned}
use Rattle.jpa_flush.proofs.flush.Alike.{IsAlike, alike_entries, alike_none, alike_ready, alike_twice, placed_map}
use Rattle.jpa_flush.proofs.flush.Remembered.{with_members}
use Rattle.jpa_flush.proofs.flush.Settled.{learned_as, learned_if, learned_placed, one_alike, one_context}

-- ---- what relations hold does not hang on versions and entries

module _ (m : PersistenceUnit) (w v : Work) (h : IsAlike w v) where
  identity_alike : (k : ℕ) → identity_at m v k ≡ identity_at m w k
  identity_alike k =
      let s = h.objects k in
      λ i. if is_whole (s.key i) then Some (record { table = (root_of m (s.class i)).table; key = s.key i }) else None

  listed_alike : (ks : List ℕ) → flat_map (λ k. listed (identity_at m v k)) ks ≡ flat_map (λ k. listed (identity_at m w k)) ks
  listed_alike [] = refl
  listed_alike (k ∷ ks) = λ i. listed (identity_alike k i) ++ listed_alike ks i

  now_alike : (x : Held) → held_now m v x ≡ held_now m w x
  now_alike (Held.One Link.None) = refl
  now_alike (Held.One (Link.Object k)) = ap (λ o. Some (listed o)) (identity_alike k)
  now_alike (Held.One (Link.Key id)) = refl
  now_alike (Held.Many (Collection.Fetched ks)) = ap (λ ids. Some (rising ids)) (listed_alike ks)
  now_alike (Held.Many Collection.Unfetched) = refl

  each_alike : (hs : List Held) → map (held_now m v) hs ≡ map (held_now m w) hs
  each_alike [] = refl
  each_alike (x ∷ hs) = λ i. now_alike x i ∷ each_alike hs i

  pub members_alike : (n : ℕ) → members_held m v n ≡ members_held m w n
  members_alike n = ap (λ (hs : List Held). map (held_now m v) hs) (h.objects n).relations ∙ each_alike (object w n).relations

-- ---- nor do states

life_set : (xs : List LiveObject) (n k : ℕ) (y : LiveObject) → y.life ≡ (object_at xs n).life → (object_at (slice_set xs n y) k).life ≡ (object_at xs k).life
life_set xs n k y h = by (cases_eq k n) (cases_lt n (length xs))
  where
    by : (k ≡ n) ⊎ (k ≢ n) → (n < length xs) ⊎ (length xs ≤ n) → (object_at (slice_set xs n y) k).life ≡ (object_at xs k).life
    by (inr other) l = ap (λ (x : LiveObject). x.life) (get_or-set_other xs n k y no_object other)
    by (inl same) (inl l) =
        ap (λ i. (object_at (slice_set xs n y) i).life) same
        ∙ ap (λ (x : LiveObject). x.life) (get_or-set_same xs n y no_object l)
        ∙ h
        ∙ ap (λ i. (object_at xs i).life) (sym same)
    by (inl same) (inr past) = ap (λ (os : List LiveObject). (object_at os k).life) (set_past xs n y past)

pub state_settled : (n : ℕ) (o : Option Stored) (w : Work) (k : ℕ) → state_of (settled n o w) k ≡ state_of w k
state_settled n None w k = refl
state_settled n (Some x) w k = ap (state_from w.manager) (life_set w.objects n k (record (object w n) { version = x.version }) refl)

-- ---- what is written is of managed objects

abbrev pub is_of_managed : Work → Planned → Bool
is_of_managed w p = not (is_some p.stored) || is_managed (state_of w p.object)

abbrev pub are_of_managed : Work → List Planned → Bool
are_of_managed w plan = list_all (is_of_managed w) plan

managed_next : (n : ℕ) (o : Option Stored) (w : Work) (ps : List Planned) → are_of_managed (settled n o w) ps ≡ are_of_managed w ps
managed_next n o w [] = refl
managed_next n o w (p ∷ ps) = λ j. (not (is_some p.stored) || is_managed (state_settled n o w p.object j)) && managed_next n o w ps j

module _ (m : PersistenceUnit) (w : Work) (e : Entry) where
  replaced_managed : (t : Bool) (b : Base) → state_of w e.object ≡ EntityState.Managed → are_of_managed w (map (item m w) (flushes.planned m w e (replace_if t b))) ≡ true
  replaced_managed true b h = ap (λ s. is_managed s && true) h
  replaced_managed false b h = refl

  action_managed : (s : EntityState) (b : Option Base) → state_of w e.object ≡ s → are_of_managed w (map (item m w) (flushes.planned m w e (action_in m w e s b))) ≡ true
  action_managed EntityState.Managed None h = ap (λ s. is_managed s && true) h
  action_managed EntityState.Managed (Some b) h = replaced_managed (flushes.differs m w e.object b || flushes.is_write e.lock) b h
  action_managed EntityState.Removed (Some b) h = refl
  action_managed EntityState.Removed None h = refl
  action_managed EntityState.New b h = refl
  action_managed EntityState.Detached b h = refl

entries_managed : (m : PersistenceUnit) (w : Work) (es : List Entry) → are_of_managed w (flat_map (planned_of m w) es) ≡ true
entries_managed m w [] = refl
entries_managed m w (e ∷ es) =
    let rest = flat_map (planned_of m w) es in
    list_all-append (is_of_managed w) (planned_of m w e) rest
    ∙ and_from (are_of_managed w (planned_of m w e)) (are_of_managed w rest) (action_managed m w e (state_of w e.object) e.base refl) (entries_managed m w es)

pub plan_managed : (m : PersistenceUnit) (w : Work) → are_of_managed w (plan_of m w) ≡ true
plan_managed m w = ap (are_of_managed w) (sym (all_planned m w)) ∙ entries_managed m w w.context

-- ---- an entry remembers the same, whatever its new base remembered

module _ (m : PersistenceUnit) (v : Work) (n : ℕ) where
  object_kept : (e : Entry) → (remembered m v e).object ≡ e.object
  object_kept e = cond_both (is_managed (state_of v e.object)) (with_members (members_held m v e.object) e) e (λ (u : Entry). u.object ≡ e.object) (λ q. refl) (λ q. refl)

  none_there : (t : Bool) (ms : List (Option (List Identity))) (e : Entry) →
      (if t then with_members ms (record e { base = None }) else record e { base = None }) ≡ learned_as [] None (if t then with_members ms e else e)
  none_there true ms e = refl
  none_there false ms e = refl

  learned_there : (o : Option Stored) (ns : List (Option (List Identity))) (e : Entry) → e.object ≡ n → (not (is_some o) || is_managed (state_of v n)) ≡ true →
      remembered m v (learned_as ns o e) ≡ learned_as (members_held m v n) o (remembered m v e)
  learned_there None ns e own h = none_there (is_managed (state_of v e.object)) (members_held m v e.object) e
  learned_there (Some x) ns e own h =
      let managed : is_managed (state_of v e.object) ≡ true = ap (λ k. is_managed (state_of v k)) own ∙ h in
      ap (λ t. if t then with_members (members_held m v e.object) (learned_entry ns x e) else learned_entry ns x e) managed
      ∙ ap (λ k. learned_entry (members_held m v k) x e) own
      ∙ sym (ap (λ t. learned_entry (members_held m v n) x (if t then with_members (members_held m v e.object) e else e)) managed)

  remembers_learned : (o : Option Stored) (ns : List (Option (List Identity))) (e : Entry) → (not (is_some o) || is_managed (state_of v n)) ≡ true →
      remembered m v (learned_if ns n o e) ≡ learned_if (members_held m v n) n o (remembered m v e)
  remembers_learned o ns e h = by (e.object == n) refl
    where
      by : (b : Bool) → (e.object == n) ≡ b → remembered m v (learned_if ns n o e) ≡ learned_if (members_held m v n) n o (remembered m v e)
      by true q =
          ap (λ t. remembered m v (if t then learned_as ns o e else e)) q
          ∙ learned_there o ns e (eqb-true e.object n q) h
          ∙ sym (ap (λ t. if t then learned_as (members_held m v n) o (remembered m v e) else remembered m v e) (ap (λ k. k == n) (object_kept e) ∙ q))
      by false q =
          ap (λ t. remembered m v (if t then learned_as ns o e else e)) q
          ∙ sym (ap (λ t. if t then learned_as (members_held m v n) o (remembered m v e) else remembered m v e) (ap (λ k. k == n) (object_kept e) ∙ q))

  all_learned : (o : Option Stored) (ns : List (Option (List Identity))) (es : List Entry) → (not (is_some o) || is_managed (state_of v n)) ≡ true →
      map (remembered m v) (map (learned_if ns n o) es) ≡ map (learned_if (members_held m v n) n o) (map (remembered m v) es)
  all_learned o ns [] h = refl
  all_learned o ns (e ∷ es) h = λ j. remembers_learned o ns e h j ∷ all_learned o ns es h j

-- ---- what is remembered does not hang on what settled

pub remembered_settled : (m : PersistenceUnit) (n : ℕ) (o : Option Stored) (v : Work) (e : Entry) → remembered m (settled n o v) e ≡ remembered m v e
remembered_settled m n o v e = λ i. if is_managed (state_settled n o v e.object i) then with_members (members_alike m v (settled n o v) (one_alike n o v) e.object i) e else e

each_settled : (m : PersistenceUnit) (n : ℕ) (o : Option Stored) (v : Work) (es : List Entry) → map (remembered m (settled n o v)) es ≡ map (remembered m v) es
each_settled m n o v [] = refl
each_settled m n o v (e ∷ es) = λ i. remembered_settled m n o v e i ∷ each_settled m n o v es i

-- ---- so all remember the same

-- what has learned is what settled, but for its entries
pub as_settled : (m : PersistenceUnit) (n : ℕ) (o : Option Stored) (v : Work) (es : List Entry) →
    learned m n o (record v { context = es }) ≡ record (settled n o v) { context = map (learned_if (members_held m v n) n o) es }
as_settled m n None v es = refl
as_settled m n (Some x) v es = refl

next_alike : (m : PersistenceUnit) (n : ℕ) (o : Option Stored) (v : Work) (es : List Entry) → (not (is_some o) || is_managed (state_of v n)) ≡ true → map (remembered m v) es ≡ map (remembered m v) v.context →
    map (remembered m (settled n o v)) (map (learned_if (members_held m v n) n o) es) ≡ map (remembered m (settled n o v)) (settled n o v).context
next_alike m n o v es h same =
    let ms = members_held m v n in
    each_settled m n o v (map (learned_if ms n o) es)
    ∙ all_learned m v n o ms es h
    ∙ ap (map (learned_if ms n o)) same
    ∙ sym (all_learned m v n o [] v.context h)
    ∙ sym (each_settled m n o v (map (learned_if [] n o) v.context))
    ∙ ap (map (remembered m (settled n o v))) (sym (one_context n o v))

all_alike : (m : PersistenceUnit) (plan : List Planned) (v : Work) (es : List Entry) → are_of_managed v plan ≡ true → map (remembered m v) es ≡ map (remembered m v) v.context →
    all_remembered m (learned_by m plan (record v { context = es })) ≡ all_remembered m (settled_by plan v)
all_alike m [] v es h same = ap {A = List Entry} {B = Work} (λ us. record v { context = us }) same
all_alike m (p ∷ ps) v es h same =
    let parts = and_parts (is_of_managed v p) (are_of_managed v ps) h in
    ap (λ u. all_remembered m (learned_by m ps u)) (as_settled m p.object p.stored v es)
    ∙ all_alike m ps (settled p.object p.stored v) (map (learned_if (members_held m v p.object) p.object p.stored) es)
    (managed_next p.object p.stored v ps ∙ parts.1) (next_alike m p.object p.stored v es parts.0 same)

pub learned_remembered : (m : PersistenceUnit) (w : Work) (ps : List Planned) → ps ≡ plan_of m w → all_remembered m (learned_by m ps w) ≡ all_remembered m (settled_by (plan_of m w) w)
learned_remembered m w ps p = ap (λ xs. all_remembered m (learned_by m xs w)) p ∙ all_alike m (plan_of m w) w w.context (plan_managed m w) refl

-- ---- operations stand on it as on what was there

one_learned : (m : PersistenceUnit) (n : ℕ) (o : Option Stored) (w : Work) → IsAlike w (learned m n o w)
one_learned m n o w =
    let ms = members_held m w n in
    let es = map (learned_if ms n o) w.context in
    subst (IsAlike w) (sym (as_settled m n o w w.context))
    (alike_twice w (settled n o w) (record (settled n o w) { context = es }) (one_alike n o w)
    (alike_entries (settled n o w) es (placed_map (learned_if ms n o) (learned_placed ms n o) w.context ∙ sym (one_alike n o w).context)))

pub learned_ready : (m : PersistenceUnit) (n : ℕ) (o : Option Stored) (w v : Work) → v ≡ learned m n o w → IsReady m w → IsReady m v
learned_ready m n o w v same ready = subst (IsReady m) (sym same) (alike_ready m w (learned m n o w) (one_learned m n o w) ready)

pub learned_count : (m : PersistenceUnit) (n : ℕ) (o : Option Stored) (w : Work) → length (learned m n o w).objects ≡ length w.objects
learned_count m n o w = (one_learned m n o w).count

pub learned_context : (m : PersistenceUnit) (n : ℕ) (o : Option Stored) (w : Work) → (learned m n o w).context ≡ map (learned_if (members_held m w n) n o) w.context
learned_context m n o w = ap (λ (u : Work). u.context) (as_settled m n o w w.context)

pub learned_alike : (m : PersistenceUnit) (plan : List Planned) (w : Work) → IsAlike w (learned_by m plan w)
learned_alike m [] w = alike_none w
learned_alike m (p ∷ ps) w = alike_twice w (learned m p.object p.stored w) (learned_by m ps (learned m p.object p.stored w)) (one_learned m p.object p.stored w) (learned_alike m ps (learned m p.object p.stored w))

one_state : (m : PersistenceUnit) (n : ℕ) (o : Option Stored) (w : Work) (k : ℕ) → state_of (learned m n o w) k ≡ state_of w k
one_state m n o w k = ap (λ u. state_of u k) (as_settled m n o w w.context) ∙ state_settled n o w k

pub state_learned : (m : PersistenceUnit) (plan : List Planned) (w : Work) (k : ℕ) → state_of (learned_by m plan w) k ≡ state_of w k
state_learned m [] w k = refl
state_learned m (p ∷ ps) w k = state_learned m ps (learned m p.object p.stored w) k ∙ one_state m p.object p.stored w k

pub learned_by_ready : (m : PersistenceUnit) (w v : Work) (ps : List Planned) → v ≡ learned_by m ps w → IsReady m w → IsReady m v
learned_by_ready m w v ps same ready = subst (IsReady m) (sym same) (alike_ready m w (learned_by m ps w) (learned_alike m ps w) ready)
