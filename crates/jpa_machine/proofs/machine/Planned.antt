-- What a flush checks and plans, and what it leaves of the work.
use Rattle.std.proofs.Common.{◌≡◌, ◌<◌, ℕ, Bool, true, false, List, [], ◌∷◌, ◌++◌, length, map, refl, ap, sym, subst, ◌∙◌}
use Rattle.std.specs.Prelude.{nat_lt, not, Option, Some, None, ◌==◌, ◌&&◌, ◌||◌, if◌then◌else◌, ℤ, is_some}
use Rattle.std.specs.List.{AllByRecursion, list_any, list_all, flat_map, zip}
use Rattle.std.specs.Option.{unwrap_or}
use Rattle.std.proofs.lemmas.Bool.{false≢true, true≢false, eqb-true, eq-eqb, and_parts, and_from}
use Rattle.std.proofs.lemmas.List.Elements.{All-from_recursion, All-weaker, All-map, recursion_from_All}
use Rattle.jpa_value.specs.declared.value.Value.{Value}
use Rattle.jpa_value.specs.declared.refusal.Cause.{Cause}
use Rattle.jpa_value.specs.declared.refusal.PersistenceFault.{PersistenceFault}
use Rattle.jpa_value.specs.Value.{same_identity}
use Rattle.jpa_model.specs.declared.unit.PersistenceUnit.{PersistenceUnit}
use Rattle.jpa_model.specs.declared.unit.Attribute.{Attribute}
use Rattle.jpa_model.specs.Chains.{root_of, root_class, attributes_of, relations_of, is_versioned}
use Rattle.jpa_behaviour.specs.Behaviour.{World, AnswersConvertible}
use Rattle.jpa_stored.specs.declared.objects.stored.Stored.{Stored}
use Rattle.jpa_stored.specs.objects.Sets.{each_fits, all_distinct, is_shaped, is_identity_of, is_key_of, version_there}
use Rattle.jpa_rows.specs.rows.Cells.{version_representable, holds_representable, names_representable, passes, key_given_by}
use Rattle.jpa_work.specs.declared.heap.Life.{Life}
use Rattle.jpa_work.specs.declared.heap.LiveObject.{LiveObject}
use Rattle.jpa_work.specs.heap.Objects.{object_at, no_object}
use Rattle.jpa_work.specs.declared.context.Base.{Base}
use Rattle.jpa_work.specs.declared.context.Entry.{Entry}
use Rattle.jpa_work.specs.declared.context.EntityState.{EntityState}
use Rattle.jpa_value.specs.declared.value.Identity.{Identity}
use Rattle.jpa_work.specs.context.Work.{Work, is_managed, object, state_of, identity_at, row_at, with_object}
use Rattle.jpa_flush.specs.flush.Flush.{Action, Insert, Replace, Drop, replace_if, action_in, action_of, differs, is_write, check_action, row_is_base, all_convert, can_rise, stored_of, written, planned, first_version, raised}
use Rattle.jpa_machine.specs.machine.Consistent.{IsLive, IsEntry, are_one, is_held_by, name_of, stands_in, base_fits, known_fits, version_fits}
use Rattle.jpa_operations.specs.fetch.Orderly.{IsOrderly}
use Rattle.jpa_machine.specs.machine.Going.{HoldsAfter}
use Rattle.jpa_machine.proofs.machine.Going.{require_holds, require_holds_last}
use Rattle.jpa_machine.specs.machine.Consistent.{IsConsistent, contexts, Others}
use Rattle.jpa_machine.proofs.machine.Changed.{changed_at_work}
use Rattle.jpa_machine.proofs.machine.Members.{IsStanding}
use Rattle.jpa_machine.proofs.machine.Owned.{owned_fit, owned_representable}
use Rattle.jpa_machine.proofs.machine.Written.{first_fits, raised_fits, first_representable, raised_representable, all_pass_converted, stored_shaped, stored_representable}

-- ---- what the checks of an action leave known

abbrev pub Checked : World → Work → ℕ → Option Action → Type 0
Checked world w n None = Unit {0}
Checked world w n (Some Insert) = all_convert world (object w n) ≡ true
Checked world w n (Some (Replace b)) = (can_rise (b.stored).version ≡ true) × (all_convert world (object w n) ≡ true)
Checked world w n (Some (Drop b)) = Unit {0}

pub check_action_holds : (world : World) (w : Work) (e : Entry) (a : Option Action) → HoldsAfter (λ u w'. (w' ≡ w) × Checked world w e.object a) (check_action world e a w)
check_action_holds world w e None = (refl, tt)
check_action_holds world w e (Some Insert) =
    require_holds _ (not (is_some (row_at w (identity_at world.model w e.object)))) Cause.EntityExists w _ (λ free.
    require_holds_last _ (all_convert world (object w e.object)) (Cause.Persistence PersistenceFault.Converter) w (λ c. (refl, c)))
check_action_holds world w e (Some (Replace b)) =
    require_holds _ (row_is_base (row_at w (identity_at world.model w e.object)) b) Cause.OptimisticLock w _ (λ current.
    require_holds _ (can_rise (b.stored).version) (Cause.Persistence PersistenceFault.Version) w _ (λ rises.
    require_holds_last _ (all_convert world (object w e.object)) (Cause.Persistence PersistenceFault.Converter) w (λ c. (refl, (rises, c)))))
check_action_holds world w e (Some (Drop b)) =
    require_holds_last _ (row_is_base (row_at w (identity_at world.model w e.object)) b) Cause.OptimisticLock w (λ current. (refl, tt))

-- ---- what an action writes

-- the base that an action replaces
abbrev pub replaced : Option Action → Option Base
replaced None = None
replaced (Some Insert) = None
replaced (Some (Replace b)) = Some b
replaced (Some (Drop b)) = None

replaced_if : (m : PersistenceUnit) (x : LiveObject) (t : Bool) (b : Base) → base_fits m x (Some b) ≡ true → base_fits m x (replaced (replace_if t b)) ≡ true
replaced_if m x true b h = h
replaced_if m x false b h = refl

replaced_fits : (m : PersistenceUnit) (w : Work) (e : Entry) (s : EntityState) (b : Option Base) → base_fits m (object w e.object) b ≡ true →
    base_fits m (object w e.object) (replaced (action_in m w e s b)) ≡ true
replaced_fits m w e EntityState.Managed None h = refl
replaced_fits m w e EntityState.Managed (Some b) h = replaced_if m (object w e.object) (differs m w e.object b || is_write e.lock) b h
replaced_fits m w e EntityState.Removed None h = refl
replaced_fits m w e EntityState.Removed (Some b) h = refl
replaced_fits m w e EntityState.New b h = refl
replaced_fits m w e EntityState.Detached b h = refl

-- an action that writes is of a managed object
abbrev pub is_put : Option Action → Bool
is_put None = false
is_put (Some Insert) = true
is_put (Some (Replace b)) = true
is_put (Some (Drop b)) = false

put_managed : (m : PersistenceUnit) (w : Work) (e : Entry) (s : EntityState) (b : Option Base) → is_put (action_in m w e s b) ≡ true → is_managed s ≡ true
put_managed m w e EntityState.Managed b h = refl
put_managed m w e EntityState.Removed None h = absurd (false≢true h)
put_managed m w e EntityState.Removed (Some b) h = absurd (false≢true h)
put_managed m w e EntityState.New b h = absurd (false≢true h)
put_managed m w e EntityState.Detached b h = absurd (false≢true h)

-- what is known of a stored object that is written for an object
pub record Writes (world : World) (w : Work) (n : ℕ) (x : Stored) : Type 0 where
  pub managed : is_managed (state_of w n) ≡ true
  pub class : x.class ≡ (object w n).class
  pub shaped : is_shaped world.model (name_of world.model (object w n)) x ≡ true
  pub version : version_there (root_of world.model (object w n).class).version x.version ≡ true
  pub named : names_representable (name_of world.model (object w n)) ≡ true
  pub held : holds_representable x ≡ true
  pub passed : list_all (λ (p : Attribute × Value). passes world p.0 p.1) (zip (attributes_of world.model x.class) x.values) ≡ true
  pub given : key_given_by w.numbers (root_class world.model x.class) (root_of world.model x.class).generated (object w n).key ≡ true

abbrev pub IsPlanned : World → Work → ℕ × Action → Type 0
IsPlanned world w a = (a.0 < length w.objects) × ((x : Stored) → written world.model w a.0 a.1 ≡ Some x → Writes world w a.0 x)

stored_writes : {world : World} {w : Work} (orderly : IsOrderly world.model) (convertible : AnswersConvertible world) (stands : IsStanding world w) (n : ℕ) (v : Option ℤ) → n < length w.objects →
    is_managed (state_of w n) ≡ true → IsLive world.model w.objects (object w n) →
    is_key_of (root_of world.model (object w n).class) (object w n).key ≡ true →
    key_given_by w.numbers (root_class world.model (object w n).class) (root_of world.model (object w n).class).generated (object w n).key ≡ true →
    version_there (root_of world.model (object w n).class).version v ≡ true → version_representable v ≡ true → all_convert world (object w n) ≡ true →
    Writes world w n (stored_of world.model w n v)
stored_writes {world} {w} orderly convertible stands n v l managed live whole given there rep c =
    record {
      managed = managed;
      class = refl;
      shaped = stored_shaped world.model w n v live whole there (owned_fit orderly w stands n l);
      version = there;
      named = live.key_representable;
      held = stored_representable world.model w n v live rep (owned_representable orderly w stands n l);
      passed = all_pass_converted world convertible (zip (attributes_of world.model (object w n).class) (object w n).values) c;
      given = given;
    }

-- the version that a base had, raised
base_version : (m : PersistenceUnit) (x : LiveObject) (b : Base) → base_fits m x (Some b) ≡ true →
    (version_there (root_of m x.class).version (b.stored).version ≡ true) × (version_representable (b.stored).version ≡ true)
base_version m x b h =
    let a = and_parts ((b.stored).class == x.class) _ h in
    let c = and_parts (is_shaped m (name_of m x) b.stored) _ a.1 in
    let d = and_parts (holds_representable b.stored) _ c.1 in
    let s = and_parts (nat_lt (b.stored).class (length m.entities)) _ c.0 in
    let t = and_parts (is_identity_of (root_of m (b.stored).class) (name_of m x)) _ s.1 in
    let v = and_parts (version_there (root_of m (b.stored).class).version (b.stored).version) _ t.1 in
    let r = and_parts (version_representable (b.stored).version) _ d.0 in
    (subst (λ k. version_there (root_of m k).version (b.stored).version ≡ true) (eqb-true (b.stored).class x.class a.0) v.0, r.0)

pub entry_planned : (world : World) (w : Work) (k : ℕ) (orderly : IsOrderly world.model) (convertible : AnswersConvertible world) (stands : IsStanding world w) (e : Entry) (a : Option Action) →
    (is_put a ≡ true → is_managed (state_of w e.object) ≡ true) →
    IsEntry world.model w.objects w.numbers k e → IsLive world.model w.objects (object w e.object) → base_fits world.model (object w e.object) (replaced a) ≡ true → Checked world w e.object a →
    AllByRecursion (IsPlanned world w) (planned world.model w e a)
entry_planned world w k orderly convertible stands e None wanted h live b c = tt
entry_planned world w k orderly convertible stands e (Some Insert) wanted h live b c = (
  (
    h.within,
    λ x q. subst (Writes world w e.object) (ap (λ o. unwrap_or o x) q)
        (stored_writes orderly convertible stands e.object (first_version (is_versioned world.model (object w e.object).class)) h.within (wanted refl) live h.whole h.given
        (first_fits (root_of world.model (object w e.object).class).version) (first_representable (is_versioned world.model (object w e.object).class)) c),
  ),
  tt,
)
entry_planned world w k orderly convertible stands e (Some (Replace base)) wanted h live b c =
    let v = base_version world.model (object w e.object) base b in (
      (
        h.within,
        λ x q. subst (Writes world w e.object) (ap (λ o. unwrap_or o x) q)
            (stored_writes orderly convertible stands e.object (raised (base.stored).version) h.within (wanted refl) live h.whole h.given
            (raised_fits (root_of world.model (object w e.object).class).version (base.stored).version v.0) (raised_representable (base.stored).version v.1 c.0) c.1),
      ),
      tt,
    )
entry_planned world w k orderly convertible stands e (Some (Drop base)) wanted h live b c = ((h.within, λ x q. absurd (true≢false (sym (ap is_some q)))), tt)

pub all_appended : {A : Type 0} (P : A → Type 0) (xs ys : List A) → AllByRecursion P xs → AllByRecursion P ys → AllByRecursion P (xs ++ ys)
all_appended P [] ys h k = k
all_appended P (x ∷ xs) ys h k = (h.0, all_appended P xs ys h.1 k)

pub context_planned : (world : World) (w : Work) (k : ℕ) (orderly : IsOrderly world.model) (convertible : AnswersConvertible world) (stands : IsStanding world w) (es : List Entry) →
    AllByRecursion (IsEntry world.model w.objects w.numbers k) es →
    AllByRecursion (λ (e : Entry). Checked world w e.object (action_of world.model w e)) es →
    AllByRecursion (IsPlanned world w) (flat_map (λ (e : Entry). planned world.model w e (action_of world.model w e)) es)
context_planned world w k orderly convertible stands [] h c = tt
context_planned world w k orderly convertible stands (e ∷ es) h c =
    all_appended (IsPlanned world w) (planned world.model w e (action_of world.model w e)) _
    (entry_planned world w k orderly convertible stands e (action_of world.model w e) (put_managed world.model w e (state_of w e.object) e.base) h.0 (stands.objects e.object no_object (h.0).within)
    (replaced_fits world.model w e (state_of w e.object) e.base (h.0).base) c.0)
    (context_planned world w k orderly convertible stands es h.1 c.1)

-- ---- entries that change without changing their objects

any_mapped : (g : ℕ → Bool) (f : Entry → Entry) → ((e : Entry) → (f e).object ≡ e.object) → (es : List Entry) →
    list_any (λ (e : Entry). g e.object) (map f es) ≡ list_any (λ (e : Entry). g e.object) es
any_mapped g f same [] = refl
any_mapped g f same (e ∷ es) = ap (λ b. b || list_any (λ (e' : Entry). g e'.object) (map f es)) (ap g (same e)) ∙ ap (λ b. g e.object || b) (any_mapped g f same es)

distinct_mapped : (m : PersistenceUnit) (os : List LiveObject) (f : Entry → Entry) → ((e : Entry) → (f e).object ≡ e.object) → (es : List Entry) →
    all_distinct (are_one m os) (map f es) ≡ all_distinct (are_one m os) es
distinct_mapped m os f same [] = refl
distinct_mapped m os f same (e ∷ es) =
    let one : ℕ → ℕ → Bool = λ i j. same_identity (name_of m (object_at os i)) (name_of m (object_at os j)) in
    ap (λ b. not b && all_distinct (are_one m os) (map f es))
    (ap (λ i. list_any (λ (y : Entry). one i y.object) (map f es)) (same e) ∙ any_mapped (one e.object) f same es)
    ∙ ap (λ b. not (list_any (are_one m os e) es) && b) (distinct_mapped m os f same es)

stands_mapped : (M : Others) (m : ℕ) (w : Work) (f : Entry → Entry) → ((e : Entry) → (f e).object ≡ e.object) → (n : ℕ) (life : Life) → stands_in (contexts M m w) n life ≡ true →
    stands_in (contexts M m (record w { context = map f w.context })) n life ≡ true
stands_mapped M m w f same n life h = by_life life h
  where
    by_test : (b : Bool) (es : List Entry) → list_any (λ (e : Entry). e.object == n) (if b then w.context else es) ≡ true → list_any (λ (e : Entry). e.object == n) (if b then map f w.context else es) ≡ true
    by_test true es h = any_mapped (λ j. j == n) f same w.context ∙ h
    by_test false es h = h

    by_life : (life : Life) → stands_in (contexts M m w) n life ≡ true → stands_in (contexts M m (record w { context = map f w.context })) n life ≡ true
    by_life Life.New h = refl
    by_life (Life.Managed k) h = by_test (k == m) (M.context k) h
    by_life (Life.Removed k) h = by_test (k == m) (M.context k) h
    by_life Life.Detached h = refl

pub mapped_at_work : {world : World} {M : Others} {m : ℕ} {w : Work} (f : Entry → Entry) → ((e : Entry) → (f e).object ≡ e.object) →
    ((e : Entry) → IsEntry world.model w.objects w.numbers m e → IsEntry world.model w.objects w.numbers m (f e)) → IsConsistent world M m w → IsConsistent world M m (record w { context = map f w.context })
mapped_at_work {world} {M} {m} {w} f same keeps h =
    record {
      manager = h.manager;
      objects = h.objects;
      entries = All-map (IsEntry world.model w.objects w.numbers m) f w.context (All-weaker (IsEntry world.model w.objects w.numbers m) (λ (e : Entry). IsEntry world.model w.objects w.numbers m (f e)) keeps w.context h.entries);
      distinct = distinct_mapped world.model w.objects f same w.context ∙ h.distinct;
      others = h.others;
      placed = λ n l. stands_mapped M m w f same n (object w n).life (h.placed n l);
      view = h.view;
      numbered = h.numbered;
      raised = h.raised;
      few = h.few;
    }

-- ---- entries of the same objects and keys, with other bases and locks

abbrev pub Alike : List Entry → List Entry → Type 0
Alike [] [] = Unit {0}
Alike [] (y ∷ ys) = ⊥
Alike (x ∷ xs) [] = ⊥
Alike (x ∷ xs) (y ∷ ys) = (y.object ≡ x.object) × (y.key ≡ x.key) × Alike xs ys

pub alike_same : (es : List Entry) → Alike es es
alike_same [] = tt
alike_same (e ∷ es) = (refl, refl, alike_same es)

pub alike_mapped : (f : Entry → Entry) → ((e : Entry) → ((f e).object ≡ e.object) × ((f e).key ≡ e.key)) → (xs ys : List Entry) → Alike xs ys → Alike xs (map f ys)
alike_mapped f same [] [] h = tt
alike_mapped f same [] (y ∷ ys) h = absurd h
alike_mapped f same (x ∷ xs) [] h = absurd h
alike_mapped f same (x ∷ xs) (y ∷ ys) h = ((same y).0 ∙ h.0, (same y).1 ∙ h.1, alike_mapped f same xs ys h.2)

entry_alike : {m : PersistenceUnit} {os : List LiveObject} {ns : List ℕ} {k : ℕ} (x y : Entry) → y.object ≡ x.object → y.key ≡ x.key → base_fits m (object_at os y.object) y.base ≡ true → IsEntry m os ns k x →
    IsEntry m os ns k y
entry_alike {m} {os} {ns} {k} x y e q base h =
    let there = sym e in
    record {
      within = subst (λ j. j < length os) there h.within;
      keyed = subst (λ j. (object_at os j).key ≡ y.key) there (h.keyed ∙ sym q);
      held = subst (λ j. is_held_by k (object_at os j).life ≡ true) there h.held;
      whole = subst (λ j. is_key_of (root_of m (object_at os j).class) (object_at os j).key ≡ true) there h.whole;
      given = subst (λ j. key_given_by ns (root_class m (object_at os j).class) (root_of m (object_at os j).class).generated (object_at os j).key ≡ true) there h.given;
      base = base;
    }

all_alike : (m : PersistenceUnit) (os : List LiveObject) (ns : List ℕ) (k : ℕ) (xs ys : List Entry) → Alike xs ys → AllByRecursion (λ (e : Entry). base_fits m (object_at os e.object) e.base ≡ true) ys →
    AllByRecursion (IsEntry m os ns k) xs → AllByRecursion (IsEntry m os ns k) ys
all_alike m os ns k [] [] a b h = tt
all_alike m os ns k [] (y ∷ ys) a b h = absurd a
all_alike m os ns k (x ∷ xs) [] a b h = absurd a
all_alike m os ns k (x ∷ xs) (y ∷ ys) a b h = (entry_alike x y a.0 a.1 b.0 h.0, all_alike m os ns k xs ys a.2 b.1 h.1)

any_alike : (g : ℕ → Bool) (xs ys : List Entry) → Alike xs ys → list_any (λ (e : Entry). g e.object) ys ≡ list_any (λ (e : Entry). g e.object) xs
any_alike g [] [] a = refl
any_alike g [] (y ∷ ys) a = absurd a
any_alike g (x ∷ xs) [] a = absurd a
any_alike g (x ∷ xs) (y ∷ ys) a = ap (λ j. g j || list_any (λ (e : Entry). g e.object) ys) a.0 ∙ ap (λ b. g x.object || b) (any_alike g xs ys a.2)

distinct_alike : (m : PersistenceUnit) (os : List LiveObject) (xs ys : List Entry) → Alike xs ys → all_distinct (are_one m os) ys ≡ all_distinct (are_one m os) xs
distinct_alike m os [] [] a = refl
distinct_alike m os [] (y ∷ ys) a = absurd a
distinct_alike m os (x ∷ xs) [] a = absurd a
distinct_alike m os (x ∷ xs) (y ∷ ys) a =
    let one : ℕ → ℕ → Bool = λ i j. same_identity (name_of m (object_at os i)) (name_of m (object_at os j)) in
    ap (λ b. not b && all_distinct (are_one m os) ys) (ap (λ i. list_any (λ (e : Entry). one i e.object) ys) a.0 ∙ any_alike (one x.object) xs ys a.2)
    ∙ ap (λ b. not (list_any (are_one m os x) xs) && b) (distinct_alike m os xs ys a.2)

stands_alike : (M : Others) (m : ℕ) (w : Work) (es : List Entry) → Alike w.context es → (n : ℕ) (life : Life) → stands_in (contexts M m w) n life ≡ true →
    stands_in (contexts M m (record w { context = es })) n life ≡ true
stands_alike M m w es a n life h = by_life life h
  where
    by_test : (b : Bool) (others : List Entry) → list_any (λ (e : Entry). e.object == n) (if b then w.context else others) ≡ true → list_any (λ (e : Entry). e.object == n) (if b then es else others) ≡ true
    by_test true others h = any_alike (λ j. j == n) w.context es a ∙ h
    by_test false others h = h

    by_life : (life : Life) → stands_in (contexts M m w) n life ≡ true → stands_in (contexts M m (record w { context = es })) n life ≡ true
    by_life Life.New h = refl
    by_life (Life.Managed k) h = by_test (k == m) (M.context k) h
    by_life (Life.Removed k) h = by_test (k == m) (M.context k) h
    by_life Life.Detached h = refl

pub alike_at_work : {world : World} {M : Others} {m : ℕ} {w : Work} (es : List Entry) → Alike w.context es → AllByRecursion (λ (e : Entry). base_fits world.model (object w e.object) e.base ≡ true) es →
    IsConsistent world M m w → IsConsistent world M m (record w { context = es })
alike_at_work {world} {M} {m} {w} es a b h =
    let model = world.model in
    record {
      manager = h.manager;
      objects = h.objects;
      entries = All-from_recursion (IsEntry model w.objects w.numbers m) es (all_alike model w.objects w.numbers m w.context es a b (recursion_from_All (IsEntry model w.objects w.numbers m) w.context h.entries));
      distinct = distinct_alike model w.objects w.context es a ∙ h.distinct;
      others = h.others;
      placed = λ n l. stands_alike M m w es a n (object w n).life (h.placed n l);
      view = h.view;
      numbered = h.numbered;
      raised = h.raised;
      few = h.few;
    }

-- an entry with another base of its object
pub based_entry : {m : PersistenceUnit} {os : List LiveObject} {ns : List ℕ} {k : ℕ} (e : Entry) (b : Option Base) → base_fits m (object_at os e.object) b ≡ true → IsEntry m os ns k e →
    IsEntry m os ns k (record e { base = b })
based_entry e b f h = record { within = h.within; keyed = h.keyed; held = h.held; whole = h.whole; given = h.given; base = f }

-- ---- the new versions and bases

-- what is known of a stored object that becomes an object's base
pub record IsBase (m : PersistenceUnit) (x : LiveObject) (s : Stored) : Type 0 where
  pub class : s.class ≡ x.class
  pub shaped : is_shaped m (name_of m x) s ≡ true
  pub version : version_fits (root_of m x.class).version s.version ≡ true
  pub held : holds_representable s ≡ true

-- with what is remembered of its relations it is a base
pub new_base : (m : PersistenceUnit) (x : LiveObject) (s : Stored) (members : List (Option (List Identity))) → s.class ≡ x.class → is_shaped m (name_of m x) s ≡ true → holds_representable s ≡ true →
    each_fits known_fits (relations_of m x.class) members ≡ true → base_fits m x (Some (record { stored = s; members = members })) ≡ true
new_base m x s members class shaped held known =
    and_from (s.class == x.class) _ (eq-eqb s.class x.class class)
    (and_from (is_shaped m (name_of m x) s) _ shaped (and_from (holds_representable s) _ held known))

abbrev pub versioned : LiveObject → Option ℤ → LiveObject
versioned x v = record x { version = v }

-- one object takes the version written
pub versioned_at_work : {world : World} {M : Others} {m : ℕ} {w : Work} (n : ℕ) (v : Option ℤ) → n < length w.objects → version_fits (root_of world.model (object w n).class).version v ≡ true →
    version_representable v ≡ true → IsConsistent world M m w → IsConsistent world M m (with_object n (versioned (object w n) v) w)
versioned_at_work {world} {M} {m} {w} n v l fits rep h =
    changed_at_work n (versioned (object w n) v) l
    (record {
      class = refl;
      life = refl;
      key = λ old. refl;
      live = λ alive live.
          record {
            class = live.class;
            key = live.key;
            version = fits;
            values = live.values;
            relations = live.relations;
            key_representable = live.key_representable;
            version_representable = rep;
            values_representable = live.values_representable;
            links_representable = live.links_representable;
          };
    }) h
