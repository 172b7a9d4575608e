-- What holds while a manager is at work is kept by a flush, whoever hears.
use Rattle.std.proofs.Common.{◌≡◌, ◌≢◌, ◌<◌, ◌⊎◌, inl, inr, ℕ, Bool, true, false, List, [], ◌∷◌, length, map, refl, ap, sym, subst, ◌∙◌, arith}
use Rattle.std.specs.Prelude.{slice_set, Option, Some, None, ◌==◌, ◌&&◌, if◌then◌else◌}
use Rattle.std.specs.List.{AllByRecursion, list_all, flat_map, filter, zip}
use Rattle.std.specs.FinMap.Entries.{is_sorted-where_key}
use Rattle.std.proofs.lemmas.Bool.{false≢true, true≢false, eqb-true, and_parts, and_from}
use Rattle.std.proofs.lemmas.List.{length-set}
use Rattle.std.proofs.lemmas.List.Elements.{recursion_from_All}
use Rattle.jpa_value.specs.declared.value.Value.{Value}
use Rattle.jpa_value.specs.declared.value.Identity.{Identity}
use Rattle.jpa_value.specs.Value.{identity_cmp}
use Rattle.jpa_model.specs.declared.unit.PersistenceUnit.{PersistenceUnit}
use Rattle.jpa_model.specs.declared.unit.Attribute.{Attribute}
use Rattle.jpa_model.specs.Chains.{root_of, root_class, attributes_of}
use Rattle.jpa_behaviour.specs.Behaviour.{World, HearsRepresentable, IsRegular}
use Rattle.jpa_stored.specs.declared.objects.stored.Stored.{Stored}
use Rattle.jpa_stored.specs.objects.Sets.{StoredSet, without, fault_of, is_shaped}
use Rattle.jpa_rows.specs.rows.Cells.{CanBeHeld, version_representable, holds_representable, names_representable, passes, key_given_by}
use Rattle.jpa_work.specs.declared.heap.LiveObject.{LiveObject}
use Rattle.jpa_work.specs.heap.Objects.{object_at, no_object, is_whole}
use Rattle.jpa_work.specs.declared.context.Base.{Base}
use Rattle.jpa_work.specs.declared.context.Entry.{Entry}
use Rattle.jpa_work.specs.context.Work.{Work, object, state_from, state_of, is_managed, identity_at}
use Rattle.jpa_flush.specs.flush.Flush.{Action, written, actions, listed, replaces_row, flushed, settled, settled_entry, settled_all, remembered, remembered_in, members_held, pre_update, flush}
use Rattle.jpa_machine.specs.machine.Consistent.{IsConsistent, IsEntry, IsLive, Others, base_fits, name_of, version_fits}
use Rattle.jpa_machine.specs.machine.Going.{HoldsAfter}
use Rattle.jpa_operations.specs.fetch.Orderly.{IsOrderly}
use Rattle.jpa_machine.proofs.machine.Facts.{list_all_weaker}
use Rattle.jpa_machine.proofs.machine.Going.{More}
use Rattle.jpa_machine.proofs.machine.Changed.{object_read}
use Rattle.jpa_machine.proofs.machine.Flushing.{AreChecked, flush_law, pre_update_law, written_in}
use Rattle.jpa_machine.proofs.machine.Instances.{at_work, standing}
use Rattle.jpa_machine.proofs.machine.Kept.{base_same}
use Rattle.jpa_machine.proofs.machine.Loaded.{version_loads}
use Rattle.jpa_machine.proofs.machine.Owned.{remembered_known}
use Rattle.jpa_machine.proofs.machine.Planned.{Alike, IsPlanned, Writes, alike_at_work, alike_mapped, alike_same, context_planned, new_base, versioned, versioned_at_work}
use Rattle.jpa_machine.proofs.machine.Written.{IsFit, all_joined_hold, all_joined_rise, part_holds, name_is}

-- ---- what is written settles

-- objects keep class, key and life, and no number changes
record IsSame (before w : Work) : Type 0 where
  many : length w.objects ≡ length before.objects
  class : (k : ℕ) → (object w k).class ≡ (object before k).class
  key : (k : ℕ) → (object w k).key ≡ (object before k).key
  life : (k : ℕ) → (object w k).life ≡ (object before k).life
  manager : w.manager ≡ before.manager
  numbers : w.numbers ≡ before.numbers

same_itself : (w : Work) → IsSame w w
same_itself w = record { many = refl; class = λ k. refl; key = λ k. refl; life = λ k. refl; manager = refl; numbers = refl }

-- the base that an entry has, but for what it remembers of the relations: that of a managed object is remembered at the end
record IsAnew (m : PersistenceUnit) (before : Work) (e : Entry) : Type 0 where
  base : Base
  has : e.base ≡ Some base
  managed : is_managed (state_of before e.object) ≡ true
  class : (base.stored).class ≡ (object before e.object).class
  shaped : is_shaped m (name_of m (object before e.object)) base.stored ≡ true
  held : holds_representable base.stored ≡ true

abbrev IsBased : PersistenceUnit → Work → Entry → Type 0
IsBased m before e = (base_fits m (object before e.object) e.base ≡ true) ⊎ IsAnew m before e

all_mapped : {A : Type 0} (P : A → Type 0) (f : A → A) → ((x : A) → P x → P (f x)) → (xs : List A) → AllByRecursion P xs → AllByRecursion P (map f xs)
all_mapped P f k [] h = tt
all_mapped P f k (x ∷ xs) h = (k x h.0, all_mapped P f k xs h.1)

-- what is known as the plan settles: of the objects, beside the entries as they were, and of the entries
record IsSettling (world : World) (M : Others) (m : ℕ) (before w : Work) : Type 0 where
  same : IsSame before w
  at : IsConsistent world M m (record w { context = before.context })
  alike : Alike before.context w.context
  based : AllByRecursion (IsBased world.model before) w.context

same_two : (b : Bool) (x e : Entry) → (x.object ≡ e.object) × (x.key ≡ e.key) → ((if b then x else e).object ≡ e.object) × ((if b then x else e).key ≡ e.key)
same_two true x e q = q
same_two false x e q = (refl, refl)

based_if : (m : PersistenceUnit) (before : Work) (b : Bool) (x e : Entry) → (b ≡ true → IsBased m before x) → IsBased m before e → IsBased m before (if b then x else e)
based_if m before true x e k h = k refl
based_if m before false x e k h = h

module _ {world : World} {M : Others} {m : ℕ} {before : Work} where
  settled_one : {w : Work} (n : ℕ) (x : Option Stored) → n < length before.objects → ((s : Stored) → x ≡ Some s → Writes world before n s) → IsSettling world M m before w →
      IsSettling world M m before (settled n x w)
  settled_one {w} n None l h s =
      record {
        same = record { many = (s.same).many; class = (s.same).class; key = (s.same).key; life = (s.same).life; manager = (s.same).manager; numbers = (s.same).numbers };
        at = s.at;
        alike = alike_mapped (λ e. if e.object == n then record e { base = None } else e) (λ e. same_two (e.object == n) (record e { base = None }) e (refl, refl)) before.context w.context s.alike;
        based = all_mapped (IsBased world.model before) (λ e. if e.object == n then record e { base = None } else e)
            (λ e k. based_if world.model before (e.object == n) (record e { base = None }) e (λ q. inl refl) k) w.context s.based;
      }
  settled_one {w} n (Some x) l h s =
      let model = world.model in
      let same = s.same in
      let l' : n < length w.objects = let q = same.many in omega (arith, q, l) in
      let y = versioned (object w n) x.version in
      let wrote = h x refl in
      let rep : version_representable x.version ≡ true = (and_parts (version_representable x.version) _ wrote.held).0 in
      let fits = subst (λ j. version_fits (root_of model j).version x.version ≡ true) (sym (same.class n)) (version_loads (root_of model (object before n).class).version x.version wrote.version) in
      record {
        same =
            record {
              many = length-set w.objects n y ∙ same.many;
              class = λ k. read_same (λ (z : LiveObject). z.class) k l' refl ∙ same.class k;
              key = λ k. read_same (λ (z : LiveObject). z.key) k l' refl ∙ same.key k;
              life = λ k. read_same (λ (z : LiveObject). z.life) k l' refl ∙ same.life k;
              manager = same.manager;
              numbers = same.numbers;
            };
        at = versioned_at_work n x.version l' fits rep s.at;
        alike = alike_mapped (λ e. if e.object == n then settled_entry x e else e) (λ e. same_two (e.object == n) (settled_entry x e) e (refl, refl)) before.context w.context s.alike;
        based = all_mapped (IsBased model before) (λ e. if e.object == n then settled_entry x e else e)
            (λ e k. based_if model before (e.object == n) (settled_entry x e) e (λ q. inr (anew e (eqb-true e.object n q) wrote)) k) w.context s.based;
      }
    where
      anew : (e : Entry) → e.object ≡ n → Writes world before n x → IsAnew world.model before (settled_entry x e)
      anew e q wrote =
          let there = sym q in
          record {
            base = record { stored = x; members = [] };
            has = refl;
            managed = subst (λ j. is_managed (state_of before j) ≡ true) there wrote.managed;
            class = subst (λ j. x.class ≡ (object before j).class) there wrote.class;
            shaped = subst (λ j. is_shaped world.model (name_of world.model (object before j)) x ≡ true) there wrote.shaped;
            held = wrote.held;
          }

      read_same : {A : Type 0} (f : LiveObject → A) (k : ℕ) → n < length w.objects → f (versioned (object w n) x.version) ≡ f (object w n) →
          f (object_at (slice_set w.objects n (versioned (object w n) x.version)) k) ≡ f (object w k)
      read_same f k l e = by_cases (object_read w.objects n (versioned (object w n) x.version) l k)
        where
          by_cases : ((k ≡ n) × (object_at (slice_set w.objects n (versioned (object w n) x.version)) k ≡ versioned (object w n) x.version))
              ⊎ ((k ≢ n) × (object_at (slice_set w.objects n (versioned (object w n) x.version)) k ≡ object_at w.objects k)) →
              f (object_at (slice_set w.objects n (versioned (object w n) x.version)) k) ≡ f (object w k)
          by_cases (inl q) = ap f q.1 ∙ e ∙ sym (ap (λ j. f (object_at w.objects j)) q.0)
          by_cases (inr q) = ap f q.1

  settled_each : (plan : List (ℕ × Action)) (w : Work) → AllByRecursion (IsPlanned world before) plan → IsSettling world M m before w → IsSettling world M m before (settled_all world.model before plan w)
  settled_each [] w h s = s
  settled_each (a ∷ as') w h s =
      settled_each as' (settled a.0 (written world.model before a.0 a.1) w) h.1 (settled_one a.0 (written world.model before a.0 a.1) (h.0).0 (h.0).1 s)

all_based : (model : PersistenceUnit) (before : Work) (os : List LiveObject) (ns : List ℕ) (k : ℕ) (es : List Entry) → os ≡ before.objects → AllByRecursion (IsEntry model os ns k) es → AllByRecursion (IsBased model before) es
all_based model before os ns k [] e h = tt
all_based model before os ns k (x ∷ xs) e h = (inl (subst (λ ps. base_fits model (object_at ps x.object) x.base ≡ true) e (h.0).base), all_based model before os ns k xs e h.1)

-- ---- bases remember what the relations that were read hold now

module _ {world : World} {M : Others} {m : ℕ} {before w : Work} (s : IsSettling world M m before w) where
  same_state : (k : ℕ) → state_of w k ≡ state_of before k
  same_state k = λ i. state_from ((s.same).manager i) ((s.same).life k i)

  remembered_stored : (n : ℕ) (b : Base) → (b.stored).class ≡ (object before n).class → is_shaped world.model (name_of world.model (object before n)) b.stored ≡ true → holds_representable b.stored ≡ true →
      IsLive world.model w.objects (object w n) → base_fits world.model (object w n) (Some (record b { members = members_held world.model w n })) ≡ true
  remembered_stored n b class shaped held live =
      let c = (s.same).class n in
      let k = (s.same).key n in
      let name : name_of world.model (object before n) ≡ name_of world.model (object w n) = λ i. record { table = (root_of world.model (sym c i)).table; key = sym k i } in
      new_base world.model (object w n) b.stored (members_held world.model w n) (class ∙ sym c) (subst (λ j. is_shaped world.model j b.stored ≡ true) name shaped) held
      (remembered_known world.model w n live)

  remembered_known_base : (n : ℕ) (b : Option Base) → base_fits world.model (object before n) b ≡ true → IsLive world.model w.objects (object w n) →
      base_fits world.model (object w n) (remembered_in (members_held world.model w n) b) ≡ true
  remembered_known_base n None h live = refl
  remembered_known_base n (Some b) h live =
      let x = object before n in
      let a = and_parts ((b.stored).class == x.class) _ h in
      let c = and_parts (is_shaped world.model (name_of world.model x) b.stored) _ a.1 in
      let d = and_parts (holds_representable b.stored) _ c.1 in
      remembered_stored n b (eqb-true (b.stored).class x.class a.0) c.0 d.0 live

  remembered_base : (e : Entry) → IsBased world.model before e → IsLive world.model w.objects (object w e.object) →
      (b : Bool) → is_managed (state_of w e.object) ≡ b →
      base_fits world.model (object w e.object) (if b then record e { base = remembered_in (members_held world.model w e.object) e.base } else e).base ≡ true
  remembered_base e (inl h) live true t = remembered_known_base e.object e.base h live
  remembered_base e (inl h) live false t = base_same world.model (object before e.object) (object w e.object) e.base ((s.same).class e.object) ((s.same).key e.object) h
  remembered_base e (inr h) live true t =
      subst (λ o. base_fits world.model (object w e.object) (remembered_in (members_held world.model w e.object) o) ≡ true) (sym h.has)
      (remembered_stored e.object h.base h.class h.shaped h.held live)
  remembered_base e (inr h) live false t = absurd (true≢false (sym h.managed ∙ sym (ap is_managed (same_state e.object)) ∙ t))

  all_remember : (xs ys : List Entry) → Alike xs ys → AllByRecursion (IsEntry world.model w.objects w.numbers m) xs → AllByRecursion (IsBased world.model before) ys →
      AllByRecursion (λ (e : Entry). base_fits world.model (object w e.object) e.base ≡ true) (map (remembered world.model w) ys)
  all_remember [] [] a h g = tt
  all_remember [] (y ∷ ys) a h g = absurd a
  all_remember (x ∷ xs) [] a h g = absurd a
  all_remember (x ∷ xs) (y ∷ ys) a h g = (
    subst (λ j. base_fits world.model (object w j) (remembered world.model w y).base ≡ true) (sym (same_two (is_managed (state_of w y.object)) (record y { base = remembered_in (members_held world.model w y.object) y.base }) y (refl, refl)).0)
        (remembered_base y g.0 ((s.at).objects y.object no_object (subst (λ j. j < length w.objects) (sym a.0) (h.0).within)) (is_managed (state_of w y.object)) refl),
    all_remember xs ys a.2 h.1 g.1,
  )

  remembered_at_work : IsConsistent world M m (record w { context = map (remembered world.model w) w.context })
  remembered_at_work =
      alike_at_work {w = record w { context = before.context }} (map (remembered world.model w) w.context)
      (alike_mapped (remembered world.model w)
      (λ e. same_two (is_managed (state_of w e.object)) (record e { base = remembered_in (members_held world.model w e.object) e.base }) e (refl, refl)) before.context w.context s.alike)
      (all_remember before.context w.context s.alike (recursion_from_All (IsEntry world.model w.objects w.numbers m) before.context (s.at).entries) s.based) s.at

-- ---- the new set can be held

-- what is known of an entry of a set that can be held, in four tests
abbrev shape_test : World → Identity × Stored → Bool
shape_test world e = is_shaped world.model e.0 e.1

abbrev value_test : Identity × Stored → Bool
value_test e = names_representable e.0 && holds_representable e.1

abbrev pass_test : World → Identity × Stored → Bool
pass_test world e = list_all (λ (p : Attribute × Value). passes world p.0 p.1) (zip (attributes_of world.model (e.1).class) (e.1).values)

abbrev given_test : World → List ℕ → Identity × Stored → Bool
given_test world ns e = key_given_by ns (root_class world.model (e.1).class) (root_of world.model (e.1).class).generated (e.0).key

abbrev is_well : World → List ℕ → Identity × Stored → Bool
is_well world ns e = shape_test world e && (value_test e && (pass_test world e && given_test world ns e))

well_parts : (a b c d : Bool) → (a && (b && (c && d))) ≡ true → (a ≡ true) × (b ≡ true) × (c ≡ true) × (d ≡ true)
well_parts true true true true h = (refl, refl, refl, refl)
well_parts true true true false h = absurd (false≢true h)
well_parts true true false d h = absurd (false≢true h)
well_parts true false c d h = absurd (false≢true h)
well_parts false b c d h = absurd (false≢true h)

well_from : (a b c d : Bool) → a ≡ true → b ≡ true → c ≡ true → d ≡ true → (a && (b && (c && d))) ≡ true
well_from a b c d p q r s = and_from a _ p (and_from b _ q (and_from c d r s))

all_well : (world : World) (ns : List ℕ) (s : StoredSet) → list_all (shape_test world) s ≡ true → list_all value_test s ≡ true → list_all (pass_test world) s ≡ true → list_all (given_test world ns) s ≡ true →
    list_all (is_well world ns) s ≡ true
all_well world ns [] a b c d = refl
all_well world ns (e ∷ es) a b c d =
    let p = and_parts (shape_test world e) (list_all (shape_test world) es) a in
    let q = and_parts (value_test e) (list_all value_test es) b in
    let r = and_parts (pass_test world e) (list_all (pass_test world) es) c in
    let s = and_parts (given_test world ns e) (list_all (given_test world ns) es) d in
    and_from (is_well world ns e) (list_all (is_well world ns) es) (well_from (shape_test world e) (value_test e) (pass_test world e) (given_test world ns e) p.0 q.0 r.0 s.0)
    (all_well world ns es p.1 q.1 r.1 s.1)

well_fit : {world : World} (w : Work) (a : ℕ × Action) → IsPlanned world w a → IsFit (is_well world w.numbers) world.model w a
well_fit {world} w a h id x e q =
    let k = h.1 x q in
    subst (λ i. is_well world w.numbers (i, x) ≡ true) (sym (name_is world.model (object w a.0) (is_whole (object w a.0).key) id e))
    (let own : Identity × Stored = (name_of world.model (object w a.0), x) in
    well_from (shape_test world own) (value_test own) (pass_test world own) (given_test world w.numbers own) k.shaped
    (and_from (names_representable (name_of world.model (object w a.0))) (holds_representable x) k.named k.held) k.passed k.given)

all_fit : (world : World) (w : Work) (plan : List (ℕ × Action)) → AllByRecursion (IsPlanned world w) plan → AllByRecursion (IsFit (is_well world w.numbers) world.model w) plan
all_fit world w [] h = tt
all_fit world w (a ∷ as') h = (well_fit w a h.0, all_fit world w as' h.1)

flushed_held : {world : World} (w : Work) (plan : List (ℕ × Action)) → AllByRecursion (IsPlanned world w) plan → CanBeHeld world w.view w.numbers → fault_of world.model (flushed world.model w plan) ≡ None →
    CanBeHeld world (flushed world.model w plan) w.numbers
flushed_held {world} w plan h v sound =
    let ids = flat_map (λ (a : ℕ × Action). listed (identity_at world.model w a.0)) (filter (λ (a : ℕ × Action). replaces_row a.1) plan) in
    let s = without ids w.view in
    let well : list_all (is_well world w.numbers) (flushed world.model w plan) ≡ true =
    all_joined_hold (is_well world w.numbers) world.model w plan s (all_fit world w plan h)
    (part_holds (is_well world w.numbers) _ w.view (all_well world w.numbers w.view v.shaped v.representable v.converted v.given)) in
    let parts = λ (e : Identity × Stored) (q : is_well world w.numbers e ≡ true). well_parts (shape_test world e) (value_test e) (pass_test world e) (given_test world w.numbers e) q in
    record {
      representable = list_all_weaker (is_well world w.numbers) value_test (λ e q. (parts e q).1) (flushed world.model w plan) well;
      numbered = v.numbered;
      rising = all_joined_rise world.model w plan s (is_sorted-where_key identity_cmp _ w.view v.rising);
      shaped = list_all_weaker (is_well world w.numbers) (shape_test world) (λ e q. (parts e q).0) (flushed world.model w plan) well;
      sound = sound;
      converted = list_all_weaker (is_well world w.numbers) (pass_test world) (λ e q. (parts e q).2) (flushed world.model w plan) well;
      given = list_all_weaker (is_well world w.numbers) (given_test world w.numbers) (λ e q. (parts e q).3) (flushed world.model w plan) well;
    }

-- another view that can be held
pub viewed_at_work : {world : World} {M : Others} {m : ℕ} {w : Work} (s : StoredSet) → CanBeHeld world s w.numbers → IsConsistent world M m w → IsConsistent world M m (record w { view = s })
viewed_at_work s v h =
    record {
      manager = h.manager;
      objects = h.objects;
      entries = h.entries;
      distinct = h.distinct;
      others = h.others;
      placed = h.placed;
      view = v;
      numbered = h.numbered;
      raised = h.raised;
      few = h.few;
    }

-- ---- what is planned is written

written_at_work : {world : World} {M : Others} {m : ℕ} → IsOrderly world.model → IsRegular world → (w : Work) → IsConsistent world M m w → AreChecked world w →
    fault_of world.model (flushed world.model w (actions world.model w)) ≡ None → IsConsistent world M m (written_in world w) × More w (written_in world w)
written_at_work {world} {M} {m} orderly regular w h checked sound =
    let plan = actions world.model w in
    let entries = recursion_from_All (IsEntry world.model w.objects w.numbers m) w.context h.entries in
    let planned = context_planned world w m orderly regular.convertible (standing w h) w.context entries checked in
    let start : IsSettling world M m w w = record { same = same_itself w; at = h; alike = alike_same w.context; based = all_based world.model w w.objects w.numbers m w.context refl entries } in
    let s = settled_each plan w planned start in
    let same = s.same in
    let many = same.many in (
      viewed_at_work (flushed world.model w plan) (subst (CanBeHeld world (flushed world.model w plan)) (sym same.numbers) (flushed_held w plan planned h.view sound)) (remembered_at_work s),
      record { more = omega (arith, many); class = λ n l. same.class n },
    )

-- PreUpdate, of the objects of the context
pub pre_update_goes : {world : World} {M : Others} {m : ℕ} {w : Work} → IsOrderly world.model → HearsRepresentable world → IsConsistent world M m w →
    HoldsAfter (λ u w'. IsConsistent world M m w' × More w w') (pre_update world w)
pre_update_goes {world} {M} {m} {w} orderly heard h = pre_update_law (at_work M m orderly heard) w h

pub flush_goes : {world : World} {M : Others} {m : ℕ} {w : Work} → IsOrderly world.model → IsRegular world → IsConsistent world M m w →
    HoldsAfter (λ u w'. IsConsistent world M m w' × More w w') (flush world w)
flush_goes {world} {M} {m} {w} orderly regular h = flush_law (at_work M m orderly regular.heard) (written_at_work orderly regular) w h
