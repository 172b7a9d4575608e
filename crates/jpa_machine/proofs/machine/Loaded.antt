-- What holds while a manager is at work is kept where a row is loaded.
use Rattle.jpa_value.specs.Limits.{most_objects}
use Rattle.std.proofs.Common.{◌≡◌, ◌<◌, ℕ, Bool, true, false, List, [], ◌∷◌, ◌++◌, length, map, refl, ap, sym, subst, ◌∙◌, arith}
use Rattle.std.specs.Prelude.{nat_lt, Option, Some, None, ◌==◌, ◌&&◌, if◌then◌else◌, ℤ, is_some}
use Rattle.std.specs.List.{AllByRecursion, list_all}
use Rattle.std.specs.Option.{unwrap_or}
use Rattle.std.specs.Ordering.{is_eq}
use Rattle.std.specs.declared.cmp.Ordering.{Ordering}
use Rattle.std.specs.declared.cmp.Ordering.TheVariants.{Less, Equal, Greater}
use Rattle.std.specs.FinMap.Entries.{find as entry_found}
use Rattle.std.proofs.lemmas.Bool.{false≢true, true≢false, eqb-true, eq-eqb, ne_eqb, and_parts, and_from}
use Rattle.std.proofs.lemmas.List.{length-append, get_or_push}
use Rattle.std.proofs.lemmas.List.Elements.{All-weaker, All-push, recursion_from_All}
use Rattle.jpa_value.specs.declared.value.Value.{Value}
use Rattle.jpa_value.specs.declared.value.Identity.{Identity}
use Rattle.jpa_value.specs.Value.{identity_cmp, is_representable, same_identity, fits}
use Rattle.jpa_value.proofs.Orders.{identity_exact}
use Rattle.jpa_model.specs.declared.unit.PersistenceUnit.{PersistenceUnit}
use Rattle.jpa_model.specs.declared.unit.VersionColumn.{VersionColumn}
use Rattle.jpa_model.specs.Chains.{root_of, root_class, attributes_of, relations_of}
use Rattle.jpa_behaviour.specs.Behaviour.{World}
use Rattle.jpa_stored.specs.declared.objects.stored.Stored.{Stored}
use Rattle.jpa_stored.specs.objects.Sets.{StoredSet, stored_at, each_fits, is_key_of, is_identity_of, is_shaped, version_there}
use Rattle.jpa_rows.specs.rows.Cells.{CanBeHeld, key_given_by, names_representable, holds_representable, version_representable}
use Rattle.jpa_work.specs.declared.heap.Life.{Life}
use Rattle.jpa_work.specs.declared.heap.LiveObject.{LiveObject}
use Rattle.jpa_work.specs.heap.Objects.{object_at, no_object}
use Rattle.jpa_work.specs.declared.context.Base.{Base}
use Rattle.jpa_work.specs.declared.context.Lock.{Lock}
use Rattle.jpa_work.specs.declared.context.Entry.{Entry}
use Rattle.jpa_work.specs.context.Work.{Work, identity_at, instance, row, has_identity, entered, with_base}
use Rattle.jpa_operations.specs.fetch.Load.{object_loaded, base_loaded, held_loaded, made}
use Rattle.jpa_machine.specs.machine.Consistent.{IsLive, IsEntry, is_held_by, stands_in, are_one, name_of, version_fits, held_fits, held_representable, known_fits, base_fits}
use Rattle.jpa_operations.specs.fetch.Orderly.{IsOrderly}
use Rattle.jpa_machine.proofs.machine.Related.{loaded_fits, loaded_representable, loaded_known}
use Rattle.jpa_machine.proofs.machine.Facts.{numbers_same}
use Rattle.jpa_machine.specs.machine.Consistent.{IsConsistent, contexts, Others}
use Rattle.jpa_machine.proofs.machine.Kept.{others_kept, entry_kept, distinct_kept, holds_more, live_more, placed_more}
use Rattle.jpa_machine.proofs.machine.Persisted.{fitting_key}
use Rattle.jpa_machine.proofs.machine.Entered.{distinct_push, none_found, apart_from, stands_pushed, stands_own, is_pushed, names_apart}

-- ---- what stands in a set

equal : (o : Ordering) → is_eq o ≡ true → o ≡ Equal
equal Less e = absurd (false≢true e)
equal Equal e = refl
equal Greater e = absurd (false≢true e)

pub same_exact : (a b : Identity) → same_identity a b ≡ true → a ≡ b
same_exact a b e = identity_exact a b (equal (identity_cmp a b) e)

row_step : (p : Identity × Stored → Bool) (id : Identity) (x : Stored) (e : Identity × Stored) (o : Option Stored) (b : Bool) → is_eq (identity_cmp id e.0) ≡ b →
    (o ≡ Some x → p (id, x) ≡ true) → p e ≡ true → (if b then Some e.1 else o) ≡ Some x → p (id, x) ≡ true
row_step p id x e o true t k h g = subst (λ i. p (i, x) ≡ true) (sym (same_exact id e.0 t)) (subst (λ y. p (e.0, y) ≡ true) (ap (λ o'. unwrap_or o' x) g) h)
row_step p id x e o false t k h g = k g

-- what holds of each entry holds of the row under an identity
pub row_holds : (p : Identity × Stored → Bool) (id : Identity) (x : Stored) (s : StoredSet) → list_all p s ≡ true → stored_at s id ≡ Some x → p (id, x) ≡ true
row_holds p id x [] h e = absurd (true≢false (sym (ap is_some e)))
row_holds p id x (y ∷ ys) h e =
    let a = and_parts (p y) (list_all p ys) h in
    row_step p id x y (entry_found identity_cmp id ys) (is_eq (identity_cmp id y.0)) refl (row_holds p id x ys a.1) a.0 e

-- ---- a row as an object

pub version_loads : (c : Option VersionColumn) (v : Option ℤ) → version_there c v ≡ true → version_fits c v ≡ true
version_loads None None h = refl
version_loads None (Some n) h = absurd (false≢true h)
version_loads (Some c) v h = refl

-- what is known of a row of a class
pub record IsRow (m : PersistenceUnit) (s : StoredSet) (ns : List ℕ) (id : Identity) (x : Stored) : Type 0 where
  pub class : nat_lt x.class (length m.entities) ≡ true
  pub table : (id.table == (root_of m x.class).table) ≡ true
  pub key : is_key_of (root_of m x.class) id.key ≡ true
  pub version : version_there (root_of m x.class).version x.version ≡ true
  pub values : each_fits (λ a v. fits a.kind v) (attributes_of m x.class) x.values ≡ true
  pub shaped : is_shaped m id x ≡ true
  pub given : key_given_by ns (root_class m x.class) (root_of m x.class).generated id.key ≡ true
  pub named : names_representable id ≡ true
  pub held : holds_representable x ≡ true
  pub relations : (os : List LiveObject) → each_fits (held_fits m os) (relations_of m x.class) (held_loaded m s id x) ≡ true
  pub links : list_all held_representable (held_loaded m s id x) ≡ true
  pub members : each_fits known_fits (relations_of m x.class) (base_loaded m s id x).members ≡ true

pub is_row : {world : World} {ns : List ℕ} → IsOrderly world.model → (id : Identity) (x : Stored) (s : StoredSet) → CanBeHeld world s ns → stored_at s id ≡ Some x → IsRow world.model s ns id x
is_row {world} {ns} orderly id x s h e =
    let m = world.model in
    let shaped = row_holds (λ (p : Identity × Stored). is_shaped m p.0 p.1) id x s h.shaped e in
    let a = and_parts (nat_lt x.class (length m.entities)) _ shaped in
    let b = and_parts (is_identity_of (root_of m x.class) id) _ a.1 in
    let c = and_parts (id.table == (root_of m x.class).table) (is_key_of (root_of m x.class) id.key) b.0 in
    let d = and_parts (version_there (root_of m x.class).version x.version) _ b.1 in
    let f = and_parts (each_fits (λ at v. fits at.kind v) (attributes_of m x.class) x.values) _ d.1 in
    let r = row_holds (λ (p : Identity × Stored). names_representable p.0 && holds_representable p.1) id x s h.representable e in
    let g = and_parts (names_representable id) (holds_representable x) r in
    record {
      class = a.0;
      table = c.0;
      key = c.1;
      version = d.0;
      values = f.0;
      shaped = shaped;
      given = row_holds (λ (p : Identity × Stored). key_given_by ns (root_class m (p.1).class) (root_of m (p.1).class).generated (p.0).key) id x s h.given e;
      named = g.0;
      held = g.1;
      relations = λ os. loaded_fits orderly h x f.1 g.1 os id;
      links = loaded_representable orderly h x f.1 g.1 id;
      members = loaded_known orderly h x f.1 g.1 id;
    }

-- the identity of a row is its object's
pub name_loaded : {m : PersistenceUnit} {ns : List ℕ} {id : Identity} {x : Stored} {s : StoredSet} (manager : ℕ) → IsRow m s ns id x → name_of m (object_loaded m manager s id x) ≡ id
name_loaded {m} {ns} {id} {x} {s} manager h = λ i. record { table = sym (eqb-true id.table (root_of m x.class).table h.table) i; key = id.key }

pub loaded_live : {m : PersistenceUnit} {ns : List ℕ} {id : Identity} {x : Stored} {s : StoredSet} (os : List LiveObject) (manager : ℕ) → IsRow m s ns id x →
    IsLive m os (object_loaded m manager s id x)
loaded_live {m} {ns} {id} {x} {s} os manager h =
    let r = and_parts (version_representable x.version) _ h.held in
    let v = and_parts (list_all is_representable x.values) _ r.1 in
    record {
      class = h.class;
      key = fitting_key (root_of m x.class).key id.key h.key;
      version = version_loads (root_of m x.class).version x.version h.version;
      values = h.values;
      relations = h.relations os;
      key_representable = h.named;
      version_representable = r.0;
      values_representable = v.0;
      links_representable = h.links;
    }

pub loaded_base : {m : PersistenceUnit} {ns : List ℕ} {id : Identity} {x : Stored} {s : StoredSet} (manager : ℕ) → IsRow m s ns id x →
    base_fits m (object_loaded m manager s id x) (Some (base_loaded m s id x)) ≡ true
loaded_base {m} {ns} {id} {x} {s} manager h =
    and_from (x.class == x.class) _ (eq-eqb x.class x.class refl)
    (and_from (is_shaped m (name_of m (object_loaded m manager s id x)) x) _ (subst (λ i. is_shaped m i x ≡ true) (sym (name_loaded manager h)) h.shaped)
    (and_from (holds_representable x) _ h.held h.members))

-- ---- a row is loaded

abbrev based : ℕ → Option Base → Entry → Entry
based n b e = if e.object == n then record e { base = b } else e

abbrev entry_with : ℕ → List Value → Option Base → Entry
entry_with n key b = record { object = n; key = key; lock = Lock.Unlocked; base = b }

based_last : (n : ℕ) (key : List Value) (b : Option Base) (es : List Entry) → AllByRecursion (λ (e : Entry). (e.object == n) ≡ false) es →
    map (based n b) (es ++ entry_with n key None ∷ []) ≡ es ++ entry_with n key b ∷ []
based_last n key b [] h = ap (λ t. (if t then entry_with n key b else entry_with n key None) ∷ []) (eq-eqb n n refl)
based_last n key b (e ∷ es) h = λ i. (ap (λ t. if t then record e { base = b } else e) h.0 i) ∷ (based_last n key b es h.1 i)

earlier : (m : PersistenceUnit) (os : List LiveObject) (ns : List ℕ) (k : ℕ) (es : List Entry) → AllByRecursion (IsEntry m os ns k) es → AllByRecursion (λ (e : Entry). (e.object == length os) ≡ false) es
earlier m os ns k [] h = tt
earlier m os ns k (e ∷ es) h = (let l = (h.0).within in ne_eqb e.object (length os) (λ q. omega (arith, l, q)), earlier m os ns k es h.1)

pub load_at_work : {world : World} {M : Others} {m : ℕ} {w : Work} → IsOrderly world.model → (id : Identity) (x : Stored) → IsConsistent world M m w → row w id ≡ Some x →
    is_some (instance world.model w id) ≡ false → length w.objects < most_objects →
    IsConsistent world M m (with_base (length w.objects) (Some (base_loaded world.model w.view id x)) (entered (length w.objects) (made (object_loaded world.model w.manager w.view id x) w)))
load_at_work {world} {M} {m} {w} orderly id x h e free few =
    let model = world.model in
    let os = w.objects in
    let n = length os in
    let obj = object_loaded model w.manager w.view id x in
    let ps = os ++ obj ∷ [] in
    let b = base_loaded model w.view id x in
    let key = (object_at ps n).key in
    let entry = entry_with n key (Some b) in
    let r = is_row orderly id x w.view h.view e in
    let old = recursion_from_All (IsEntry model os w.numbers m) w.context h.entries in
    let up = numbers_same w.numbers in
    let here : obj ≡ object_at ps n = sym (get_or_push os obj no_object n refl) in
    let name : name_of model (object_at ps n) ≡ id = ap (name_of model) (sym here) ∙ name_loaded w.manager r in
    let context : w.context ++ entry ∷ [] ≡ map (based n (Some b)) (w.context ++ entry_with n key None ∷ []) = sym (based_last n key (Some b) w.context (earlier model os w.numbers m w.context old)) in
    let at : IsConsistent world M m (record w { objects = ps; context = w.context ++ entry ∷ [] }) =
    record {
      manager = h.manager;
      objects = live_more model os obj h.objects (loaded_live ps w.manager r);
      entries = All-push (IsEntry model ps w.numbers m) w.context entry
          (All-weaker (IsEntry model os w.numbers m) (IsEntry model ps w.numbers m) (λ e'. entry_kept (holds_more m os obj) up) w.context h.entries)
          (record {
            within = let s = length-append os (obj ∷ []) in omega (arith, s);
            keyed = refl;
            held = subst (λ (z : LiveObject). is_held_by m z.life ≡ true) here (eq-eqb w.manager m h.manager);
            whole = subst (λ (z : LiveObject). is_key_of (root_of model z.class) z.key ≡ true) here r.key;
            given = subst (λ (z : LiveObject). key_given_by w.numbers (root_class model z.class) (root_of model z.class).generated z.key ≡ true) here r.given;
            base = subst (λ (z : LiveObject). base_fits model z (Some b) ≡ true) here (loaded_base w.manager r);
          });
      distinct = distinct_push (are_one model ps) w.context entry (distinct_kept w.context (holds_more m os obj) h.entries h.distinct)
          (names_apart model os ps w.numbers m n id w.context (holds_more m os obj) old name
          (apart_from model w m id w.context old (none_found (λ e'. has_identity (identity_at model w e'.object) id) w.context free)));
      others = λ k l' apart. others_kept (holds_more k os obj) up (h.others k l' apart);
      placed = placed_more (contexts M m (record w { context = w.context ++ entry ∷ [] })) os obj
          (λ k l'. stands_pushed M m w entry k (object_at os k).life (h.placed k l'))
          (subst (λ j. stands_in (contexts M m (record w { context = w.context ++ entry ∷ [] })) n (Life.Managed j) ≡ true) (sym h.manager)
          (stands_own M m (record w { context = w.context ++ entry ∷ [] }) n (is_pushed (λ e'. e'.object == n) w.context entry (eq-eqb n n refl))));
      view = h.view;
      numbered = h.numbered;
      raised = h.raised;
      few = let s = length-append os (obj ∷ []) in omega (arith, s, few);
    } in
    subst (λ es. IsConsistent world M m (record w { objects = ps; context = es })) context at
