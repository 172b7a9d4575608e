-- What holds while a manager is at work is kept where an object takes its key.
use Rattle.jpa_value.specs.Limits.{most_objects}
use Rattle.std.proofs.Common.{◌≡◌, ◌≢◌, ◌<◌, ◌≤◌, ℕ, zero, suc, Bool, true, false, List, [], ◌∷◌, length, refl, ap, sym, subst, arith}
use Rattle.std.specs.Prelude.{slice_index_or, slice_set, slice_get, nat_lt, nat_le, not, Some, ◌==◌, ◌&&◌, if◌then◌else◌, pos, is_some}
use Rattle.std.specs.List.{list_all}
use Rattle.std.specs.Option.{unwrap_or}
use Rattle.std.proofs.lemmas.Bool.{false≢true, true≢false, ltb-true, lt-ltb, le-leb, eqb-true, and_parts, and_from}
use Rattle.std.proofs.lemmas.List.{get_or-set_same, length-set}
use Rattle.std.proofs.lemmas.List.Elements.{All-weaker}
use Rattle.jpa_value.specs.declared.value.Value.{Value}
use Rattle.jpa_value.specs.declared.refusal.Cause.{Cause}
use Rattle.jpa_value.specs.declared.refusal.PersistenceFault.{PersistenceFault}
use Rattle.jpa_value.specs.Value.{fits, is_null, is_i64}
use Rattle.jpa_model.specs.declared.unit.Entity.{Entity}
use Rattle.jpa_model.specs.declared.unit.Origin.{Origin}
use Rattle.jpa_model.specs.declared.unit.Part.{Part}
use Rattle.jpa_model.specs.Chains.{root_of, root_class, root_in, entity_at, no_entity}
use Rattle.jpa_behaviour.specs.Behaviour.{World}
use Rattle.jpa_stored.specs.objects.Sets.{each_fits, is_key_of}
use Rattle.jpa_rows.specs.rows.Cells.{are_numbers, is_next, key_given_by, is_given_before}
use Rattle.jpa_work.specs.declared.heap.Life.{Life}
use Rattle.jpa_work.specs.declared.heap.LiveObject.{LiveObject}
use Rattle.jpa_work.specs.heap.Objects.{object_at, no_object, is_whole}
use Rattle.jpa_work.specs.declared.context.EntityState.{EntityState}
use Rattle.jpa_work.specs.context.Work.{Work, object, state_from, told}
use Rattle.jpa_operations.specs.ops.States.{give_key, with_key, with_number, number_part, last_number}
use Rattle.jpa_protocol.specs.declared.event.Told.{Told}
use Rattle.jpa_machine.specs.machine.Consistent.{IsLive, IsEntry, is_held_by, stands_in}
use Rattle.jpa_operations.specs.fetch.Orderly.{IsOrderly}
use Rattle.jpa_machine.proofs.machine.Facts.{held_more, numbers_trans, numbers_same, each_fits_set, each_fits_length}
use Rattle.jpa_machine.specs.machine.Going.{HoldsAfter}
use Rattle.jpa_machine.proofs.machine.Going.{More, no_more, require_holds, require_holds_last}
use Rattle.jpa_machine.specs.machine.Consistent.{IsConsistent, contexts, Others}
use Rattle.jpa_machine.proofs.machine.Kept.{KeepsHeld, others_kept, entry_kept, distinct_kept}
use Rattle.jpa_machine.proofs.machine.Changed.{holds_apart, keeps_set, live_set, placed_set}

-- ---- an event is told

pub told_at_work : {world : World} {M : Others} {m : ℕ} {w : Work} (e : Told) → IsConsistent world M m w → IsConsistent world M m (told e w)
told_at_work e h =
    record {
      manager = h.manager;
      objects = h.objects;
      entries = h.entries;
      distinct = h.distinct;
      others = h.others;
      placed = h.placed;
      view = h.view;
      numbered = h.numbered;
      raised = h.raised;
      few = h.few;
    }

-- ---- states

abbrev pub state_code : EntityState → ℕ
state_code EntityState.New = 0
state_code EntityState.Managed = 1
state_code EntityState.Removed = 2
state_code EntityState.Detached = 3

if_code : (b : Bool) (s : EntityState) (n : ℕ) → state_code (if b then s else EntityState.Detached) ≡ n → n ≢ 3 → (b ≡ true) × (state_code s ≡ n)
if_code true s n e d = (refl, e)
if_code false s n e d = absurd (d (sym e))

pub life_new : (m : ℕ) (life : Life) → state_code (state_from m life) ≡ 0 → life ≡ Life.New
life_new m Life.New e = refl
life_new m (Life.Managed k) e = absurd (let h = (if_code (k == m) EntityState.Managed 0 e (λ z. omega (arith, z))).1 in omega (arith, h))
life_new m (Life.Removed k) e = absurd (let h = (if_code (k == m) EntityState.Removed 0 e (λ z. omega (arith, z))).1 in omega (arith, h))
life_new m Life.Detached e = absurd (omega (arith, e))

pub life_managed : (m : ℕ) (life : Life) → state_code (state_from m life) ≡ 1 → life ≡ Life.Managed m
life_managed m Life.New e = absurd (omega (arith, e))
life_managed m (Life.Managed k) e = ap Life.Managed (eqb-true k m (if_code (k == m) EntityState.Managed 1 e (λ z. omega (arith, z))).0)
life_managed m (Life.Removed k) e = absurd (let h = (if_code (k == m) EntityState.Removed 1 e (λ z. omega (arith, z))).1 in omega (arith, h))
life_managed m Life.Detached e = absurd (omega (arith, e))

pub life_removed : (m : ℕ) (life : Life) → state_code (state_from m life) ≡ 2 → life ≡ Life.Removed m
life_removed m Life.New e = absurd (omega (arith, e))
life_removed m (Life.Managed k) e = absurd (let h = (if_code (k == m) EntityState.Managed 2 e (λ z. omega (arith, z))).1 in omega (arith, h))
life_removed m (Life.Removed k) e = ap Life.Removed (eqb-true k m (if_code (k == m) EntityState.Removed 2 e (λ z. omega (arith, z))).0)
life_removed m Life.Detached e = absurd (omega (arith, e))

-- ---- a new object that changes, while numbers rise

pub new_apart : (k : ℕ) (life : Life) → life ≡ Life.New → is_held_by k life ≡ false
new_apart k life e = ap (is_held_by k) e

replaced_new : {world : World} {M : Others} {m : ℕ} {w : Work} (n : ℕ) (y : LiveObject) (ns : List ℕ) → IsConsistent world M m w → n < length w.objects → (object w n).life ≡ Life.New →
    y.class ≡ (object w n).class → y.life ≡ Life.New → IsLive world.model w.objects y → each_fits nat_le w.numbers ns ≡ true → are_numbers world.model ns ≡ true →
    IsConsistent world M m (record w { objects = slice_set w.objects n y; numbers = ns })
replaced_new {world} {M} {m} {w} n y ns h l new c new' live up numbered =
    let os = w.objects in
    let keeps : (k : ℕ) → KeepsHeld k os (slice_set os n y) = λ k. holds_apart os n y l k (new_apart k (object w n).life new) in
    record {
      manager = h.manager;
      objects = live_set os n y l world.model c h.objects live;
      entries = All-weaker (IsEntry world.model os w.numbers m) (IsEntry world.model (slice_set os n y) ns m) (λ e. entry_kept (keeps m) up) w.context h.entries;
      distinct = distinct_kept w.context (keeps m) h.entries h.distinct;
      others = λ k l' apart. others_kept (keeps k) up (h.others k l' apart);
      placed = placed_set os n y l (contexts M m w) h.placed (ap (stands_in (contexts M m w) n) new');
      view = held_more ns h.view up numbered;
      numbered = numbered;
      raised = numbers_trans M.numbers w.numbers ns h.raised up;
      few = subst (λ j. j ≤ most_objects) (sym (length-set os n y)) h.few;
    }

-- ---- keys

-- what holds once the key is there
pub record HasKey (world : World) (M : Others) (m n : ℕ) (w : Work) : Type 0 where
  pub at : IsConsistent world M m w
  pub within : n < length w.objects
  pub new : (object w n).life ≡ Life.New
  pub whole : is_key_of (root_of world.model (object w n).class) (object w n).key ≡ true
  pub given : key_given_by w.numbers (root_class world.model (object w n).class) (root_of world.model (object w n).class).generated (object w n).key ≡ true

-- a key of fitting parts of which none is null
pub whole_key : (ps : List Part) (vs : List Value) → each_fits (λ (part : Part) v. fits part.kind v) ps vs ≡ true → is_whole vs ≡ true →
    each_fits (λ (part : Part) v. fits part.kind v && not (is_null v)) ps vs ≡ true
whole_key [] [] h g = refl
whole_key [] (v ∷ vs) h g = absurd (false≢true h)
whole_key (p ∷ ps) [] h g = absurd (false≢true h)
whole_key (p ∷ ps) (v ∷ vs) h g =
    let a = and_parts (fits p.kind v) (each_fits (λ (part : Part) u. fits part.kind u) ps vs) h in
    let b = and_parts (not (is_null v)) (is_whole vs) g in
    and_from (fits p.kind v && not (is_null v)) (each_fits (λ (part : Part) u. fits part.kind u && not (is_null u)) ps vs)
    (and_from (fits p.kind v) (not (is_null v)) a.0 b.0) (whole_key ps vs a.1 b.1)

pub fitting_key : (ps : List Part) (vs : List Value) → each_fits (λ (part : Part) v. fits part.kind v && not (is_null v)) ps vs ≡ true →
    each_fits (λ (part : Part) v. fits part.kind v) ps vs ≡ true
fitting_key [] [] h = refl
fitting_key [] (v ∷ vs) h = absurd (false≢true h)
fitting_key (p ∷ ps) [] h = absurd (false≢true h)
fitting_key (p ∷ ps) (v ∷ vs) h =
    let a = and_parts (fits p.kind v && not (is_null v)) (each_fits (λ (part : Part) u. fits part.kind u && not (is_null u)) ps vs) h in
    and_from (fits p.kind v) (each_fits (λ (part : Part) u. fits part.kind u) ps vs) (and_parts (fits p.kind v) (not (is_null v)) a.0).0 (fitting_key ps vs a.1)

-- ---- the next number of a generator

-- the number before it was given is at least 1, and small enough to rise
generator_number : (o : Origin) (k : ℕ) → (root_in o).generated ≡ true → is_next o k ≡ true → nat_lt 0 k ≡ true
generator_number (Origin.Root r) k g h = by_flag r.generated g h
  where
    by_flag : (b : Bool) → b ≡ true → (if b then nat_lt 0 k && is_i64 (pos k) else k == 1) ≡ true → nat_lt 0 k ≡ true
    by_flag true g h = (and_parts (nat_lt 0 k) (is_i64 (pos k)) h).0
    by_flag false g h = absurd (false≢true g)
generator_number (Origin.Extends p) k g h = absurd (false≢true g)

next_number : (o : Origin) (k : ℕ) → (root_in o).generated ≡ true → k < last_number → is_next o (suc k) ≡ true
next_number (Origin.Root r) k g l = by_flag r.generated g
  where
    by_flag : (b : Bool) → b ≡ true → (if b then nat_lt 0 (suc k) && is_i64 (pos (suc k)) else suc k == 1) ≡ true
    by_flag true g = and_from (nat_lt 0 (suc k)) (is_i64 (pos (suc k))) (lt-ltb 0 (suc k) (omega arith)) (lt-ltb (suc k) 9223372036854775808 (omega (arith, l)))
    by_flag false g = absurd (false≢true g)
next_number (Origin.Extends p) k g l = absurd (false≢true g)

numbers_set : (ns : List ℕ) (r k : ℕ) → slice_index_or ns r 1 ≤ k → each_fits nat_le ns (slice_set ns r k) ≡ true
numbers_set [] r k l = refl
numbers_set (n ∷ ns) zero k l = and_from (nat_le n k) (each_fits nat_le ns ns) (le-leb n k l) (numbers_same ns)
numbers_set (n ∷ ns) (suc r) k l = and_from (nat_le n n) (each_fits nat_le ns (slice_set ns r k)) (le-leb n n (omega arith)) (numbers_set ns r k l)

entity_got : (es : List Entity) (r : ℕ) (e : Entity) → slice_get es r ≡ Some e → slice_index_or es r no_entity ≡ e
entity_got [] r e h = absurd (true≢false (sym (ap is_some h)))
entity_got (x ∷ xs) zero e h = ap (λ o. unwrap_or o e) h
entity_got (x ∷ xs) (suc r) e h = entity_got xs r e h

number_at : (es : List Entity) (ns : List ℕ) (r : ℕ) → r < length es → each_fits (λ (e : Entity) k. is_next e.origin k) es ns ≡ true →
    is_next (slice_index_or es r no_entity).origin (slice_index_or ns r 1) ≡ true
number_at [] ns r l h = absurd (omega (arith, l))
number_at (e ∷ es) [] r l h = absurd (false≢true h)
number_at (e ∷ es) (n ∷ ns) zero l h = (and_parts (is_next e.origin n) (each_fits (λ (e' : Entity) k. is_next e'.origin k) es ns) h).0
number_at (e ∷ es) (n ∷ ns) (suc r) l h =
    number_at es ns r (omega (arith, l)) (and_parts (is_next e.origin n) (each_fits (λ (e' : Entity) k. is_next e'.origin k) es ns) h).1

-- ---- the key of a new object

pub at_place : (os : List LiveObject) (n : ℕ) (y : LiveObject) → n < length os → object_at (slice_set os n y) n ≡ y
at_place os n y l = get_or-set_same os n y no_object l

unset_key : {world : World} {M : Others} {m n : ℕ} {w : Work} → IsConsistent world M m w → n < length w.objects → (object w n).life ≡ Life.New →
    (root_of world.model (object w n).class).generated ≡ false → is_whole (object w n).key ≡ true → HasKey world M m n w
unset_key {world} {M} {m} {n} {w} h l new g whole =
    let x = object w n in
    record {
      at = h;
      within = l;
      new = new;
      whole = whole_key (root_of world.model x.class).key x.key (h.objects n no_object l).key whole;
      given = ap (λ b. key_given_by w.numbers (root_class world.model x.class) b x.key) g;
    }

given_key : {world : World} {M : Others} {m n : ℕ} {w : Work} → IsOrderly world.model → IsConsistent world M m w → n < length w.objects → (object w n).life ≡ Life.New →
    (root_of world.model (object w n).class).generated ≡ true →
    slice_index_or w.numbers (root_class world.model (object w n).class) 1 < last_number →
    HasKey world M m n
    (with_number (root_class world.model (object w n).class) (suc (slice_index_or w.numbers (root_class world.model (object w n).class) 1))
    (with_key n (number_part (slice_index_or w.numbers (root_class world.model (object w n).class) 1)) w))
given_key {world} {M} {m} {n} {w} orderly h l new g few =
    let model = world.model in
    let x = object w n in
    let r = root_class model x.class in
    let k = slice_index_or w.numbers r 1 in
    let y : LiveObject = record x { key = number_part k } in
    let ns = slice_set w.numbers r (suc k) in
    let live = h.objects n no_object l in
    let rooted : r < length model.entities = ltb-true r (length model.entities) (orderly.rooted x.class live.class) in
    let here : y ≡ object_at (slice_set w.objects n y) n = sym (at_place w.objects n y l) in
    let is_one : nat_lt 0 k ≡ true = generator_number (entity_at model r).origin k g (number_at model.entities w.numbers r rooted h.numbered) in
    let within : r < length w.numbers = let e = each_fits_length _ model.entities w.numbers h.numbered in omega (arith, e, rooted) in
    let whole : is_key_of (root_of model x.class) (number_part k) ≡ true = orderly.generated x.class k g in
    let rises : slice_index_or ns r 1 ≡ suc k = get_or-set_same w.numbers r (suc k) 1 within in
    let is_given : is_given_before (slice_index_or ns r 1) (number_part k) ≡ true =
    and_from (nat_lt 0 k) (nat_lt k (slice_index_or ns r 1)) is_one (lt-ltb k (slice_index_or ns r 1) (omega (arith, rises))) in
    record {
      at = replaced_new n y ns h l new refl new
          (record {
            class = live.class;
            key = fitting_key (root_of model x.class).key (number_part k) whole;
            version = live.version;
            values = live.values;
            relations = live.relations;
            key_representable = and_from (is_i64 (pos k)) true (lt-ltb k 9223372036854775808 (omega (arith, few))) refl;
            version_representable = live.version_representable;
            values_representable = live.values_representable;
            links_representable = live.links_representable;
          })
          (numbers_set w.numbers r (suc k) (omega arith))
          (each_fits_set _ model.entities w.numbers r (suc k) h.numbered
          (λ e got. subst (λ (e' : Entity). is_next e'.origin (suc k) ≡ true) (entity_got model.entities r e got) (next_number (entity_at model r).origin k g few)));
      within = let e = length-set w.objects n y in omega (arith, e, l);
      new = subst (λ (z : LiveObject). z.life ≡ Life.New) here new;
      whole = subst (λ (z : LiveObject). is_key_of (root_of model z.class) z.key ≡ true) here whole;
      given = subst (λ (z : LiveObject). key_given_by ns (root_class model z.class) (root_of model z.class).generated z.key ≡ true) here
          (subst (λ b. key_given_by ns r b (number_part k) ≡ true) (sym g) is_given);
    }

pub give_key_holds : {world : World} {M : Others} {m : ℕ} {w : Work} → IsOrderly world.model → (n : ℕ) (b : Bool) → IsConsistent world M m w → n < length w.objects → (object w n).life ≡ Life.New →
    (root_of world.model (object w n).class).generated ≡ b → HoldsAfter (λ u w'. HasKey world M m n w' × More w w') (give_key world n b w)
give_key_holds {world} {M} {m} {w} orderly n false h l new g =
    require_holds_last _ (is_whole (object w n).key) (Cause.Persistence PersistenceFault.Key) w (λ whole. (unset_key h l new g whole, no_more w))
give_key_holds {world} {M} {m} {w} orderly n true h l new g =
    let k = slice_index_or w.numbers (root_class world.model (object w n).class) 1 in
    require_holds _ (list_all is_null (object w n).key) (Cause.Persistence PersistenceFault.Key) w _ (λ unset.
    require_holds _ (nat_lt k last_number) (Cause.Persistence PersistenceFault.Generator) w _ (λ few.
    (given_key orderly h l new g (ltb-true k last_number few), keeps_set w.objects n (record (object w n) { key = number_part k }) l refl)))
