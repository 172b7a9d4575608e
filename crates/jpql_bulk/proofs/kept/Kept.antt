-- What an UPDATE and a DELETE make of a set that a store can hold a store can hold, where it is sound.
use Rattle.std.proofs.Common.{◌≡◌, ◌∙◌, refl, ap, sym, subst, ℕ, Bool, true, false, T, List, [], ◌∷◌, ◌++◌, map, length}
use Rattle.std.specs.Prelude.{◌&&◌, not, if◌then◌else◌, Option, Some, None, unwrap_or, Result, Ok, Err}
use Rattle.std.specs.List.{AllByRecursion, filter, list_all, list_any, flat_map, zip}
use Rattle.std.specs.FinMap.Entries.{is_sorted, is_sorted-where_key}
use Rattle.std.proofs.lemmas.Bool.{and_from, and_parts, false≢true}
use Rattle.jpa_value.specs.declared.value.Value.{Value as Plain}
use Rattle.jpa_value.specs.declared.value.Identity.{Identity}
use Rattle.jpa_value.specs.declared.refusal.Cause.{Cause}
use Rattle.jpa_value.specs.declared.refusal.Argument.{Argument}
use Rattle.jpa_value.specs.Value.{identity_cmp, same_identity}
use Rattle.jpa_model.specs.declared.unit.PersistenceUnit.{PersistenceUnit}
use Rattle.jpa_model.specs.declared.unit.Attribute.{Attribute}
use Rattle.jpa_model.specs.declared.unit.Member.{Member}
use Rattle.jpa_model.specs.Chains.{class_of, root_of, root_class, attributes_of, is_kind_of, same_name}
use Rattle.jpa_model.specs.WellFormed.{is_some_that}
use Rattle.jpa_behaviour.specs.Behaviour.{World, AnswersConvertible}
use Rattle.jpa_rows.proofs.laws.Elements.{from_filter}
use Rattle.jpa_rows.proofs.laws.Lists.{all_from, all_where, each_passes}
use Rattle.jpa_stored.specs.declared.objects.stored.Stored.{Stored}
use Rattle.jpa_stored.specs.objects.Sets.{StoredSet, put_all, without, is_shaped, no_required_null, all_lead, no_shared_target, IsSound}
use Rattle.jpa_stored.proofs.objects.Puts.{rises}
use Rattle.jpa_rows.specs.rows.Cells.{CanBeHeld, all_representable, names_representable, holds_representable, passes, key_given_by}
use Rattle.jpql_trees.specs.declared.tree.Language.{Language}
use Rattle.jpql_trees.specs.declared.tree.Query.{Query}
use Rattle.jpql_trees.specs.declared.tree.Assignment.{Assignment}
use Rattle.jpql_trees.specs.declared.tree.Value.{Value}
use Rattle.jpql_trees.specs.declared.tree.Condition.{Condition}
use Rattle.jpql_trees.specs.tree.Names.{Text}
use Rattle.jpql_types.specs.declared.sort.Sort.{Sort}
use Rattle.jpql_trees.specs.declared.typed.typed.Typed.{Typed}
use Rattle.jpql_trees.specs.declared.typed.typed.TypedAssignment.{TypedAssignment}
use Rattle.jpql_trees.specs.declared.typed.typed.TypedCondition.{TypedCondition}
use Rattle.jpql_types.specs.Typing.{with_variable}
use Rattle.jpql_types.specs.Statements.{is_assignment_typed, is_update_typed, is_typed, has_distinct_names, are_given, are_distinct, checked}
use Rattle.jpql_types.specs.Trees.{typed_assignment, typed_statement, class_named}
use Rattle.jpql_meaning.specs.declared.eval.datum.Datum.{Datum}
use Rattle.jpql_meaning.specs.eval.Answers.{Answer, gives, overflows, ◌>>=◌, under, both, every}
use Rattle.jpql_meaning.specs.plan.Paths.{Entry, objects}
use Rattle.jpql_meaning.specs.plan.Bulk.{Changed, ◌and_then◌, all_assigned, each_assigned, or_refuse, concerned, assignment_drops, assignment_datum, assignments_for, updated, deleted}
use Rattle.jpql_bulk.specs.kept.Fits.{are_of, takes, throws_in, AreInherited}
use Rattle.jpql_bulk.specs.kept.Laws.{IsReady}
use Rattle.jpql_bulk.proofs.kept.Items.{all_weaker, all_both, all_filtered, all_parts, each_kept}
use Rattle.jpql_bulk.proofs.kept.Puts.{all_put}
use Rattle.jpql_bulk.proofs.kept.Standing.{IsBase, IsStanding, leads_of, shape_of, shaped_by}
use Rattle.jpql_bulk.proofs.kept.Settings.{names_set, assignments_take}
use Rattle.jpql_bulk.proofs.kept.Values.{names_of, is_given}
use Rattle.jpql_bulk.proofs.kept.Assigned.{all_assigned_well, same_ok, not_ok}

-- ---- a statement that was checked

-- an UPDATE of typed assignments, all of whose parameters are given
record IsSetting (m : PersistenceUnit) (sorts : List (Text × Sort)) (class : ℕ) (all : List TypedAssignment) : Type 0 where
  variable : Text
  assignments : List Assignment
  typed : list_all (is_assignment_typed m sorts (with_variable [] variable class)) assignments ≡ true
  given : list_all (is_given sorts) (flat_map names_set assignments) ≡ true
  same : map (typed_assignment m sorts (with_variable [] variable class)) assignments ≡ all

-- what holds of the names in all assignments of an UPDATE, and of others behind them, by what lists those of one
all_named : (p : Text → Bool) (all : List Assignment) (list : Assignment → List Text) (others : List Text) → list_all p (flat_map list all ++ others) ≡ true
    → ((a : Assignment) → list (record a { value = None }) ≡ []) → ((a : Assignment) (v : Value) → list (record a { value = Some v }) ≡ names_of v)
    → list_all p (flat_map names_set all) ≡ true
all_named p all list others h none some = subst (λ xs. list_all p xs ≡ true) (each all) (all_parts p (flat_map list all) others h).0
  where
    by_value : (a : Assignment) (o : Option Value) → list (record a { value = o }) ≡ names_set (record a { value = o })
    by_value a None = none a
    by_value a (Some v) = some a v

    each : (xs : List Assignment) → flat_map list xs ≡ flat_map names_set xs
    each [] = refl
    each (a ∷ xs) = λ i. by_value a a.value i ++ each xs i

update_given : (sorts : List (Text × Sort)) (entity x : Text) (assignments : List Assignment) (filter : Option Condition) → are_given sorts (Query.Update entity x assignments filter) ≡ true
    → list_all (is_given sorts) (flat_map names_set assignments) ≡ true
update_given sorts entity x assignments filter h = all_named (is_given sorts) assignments _ _ (and_parts _ _ h).0 (λ a. refl) (λ a v. refl)

abbrev class_in : Typed → ℕ
class_in (Typed.Select q) = 0
class_in (Typed.Update class all where_) = class
class_in (Typed.Delete class is_named where_) = class

abbrev all_in : Typed → List TypedAssignment
all_in (Typed.Select q) = []
all_in (Typed.Update class all where_) = all
all_in (Typed.Delete class is_named where_) = []

abbrev is_update : Typed → Bool
is_update (Typed.Select q) = false
is_update (Typed.Update class all where_) = true
is_update (Typed.Delete class is_named where_) = false

module _ (m : PersistenceUnit) (sorts : List (Text × Sort)) where
  record IsJudged (q : Query) (t : Typed) : Type 0 where
    language : Language
    typed : is_typed m sorts language q ≡ true
    given : are_given sorts q ≡ true
    tree : typed_statement m sorts q ≡ t

  judged_by : (l : Language) (q : Query) (t : Typed) (a b : Bool) → is_typed m sorts l q ≡ a → are_given sorts q ≡ b
      → (if not a then Err (Cause.IllegalArgument Argument.Typing) else if not b then Err (Cause.IllegalArgument Argument.Parameter) else Ok (typed_statement m sorts q)) ≡ Ok t
      → IsJudged q t
  judged_by l q t false b ae be e = absurd (not_ok _ t e)
  judged_by l q t true false ae be e = absurd (not_ok _ t e)
  judged_by l q t true true ae be e = record { language = l; typed = ae; given = be; tree = same_ok (typed_statement m sorts q) t e }

  judged : (l : Language) (q : Query) (t : Typed) → checked l m q sorts ≡ Ok t → IsJudged q t
  judged l q t e = judged_by l q t (is_typed m sorts l q) (are_given sorts q) refl refl e

  module _ (class : ℕ) (all : List TypedAssignment) (where_ : Option TypedCondition) where
    setting_by : (entity x : Text) (assignments : List Assignment) (filter : Option Condition) → are_given sorts (Query.Update entity x assignments filter) ≡ true
        → typed_statement m sorts (Query.Update entity x assignments filter) ≡ Typed.Update class all where_
        → (o : Option ℕ) → class_of m entity ≡ o → is_some_that (λ c. is_update_typed m sorts assignments filter (with_variable [] x c)) o ≡ true → IsSetting m sorts class all
    setting_by entity x assignments filter given tree None at h = absurd (false≢true h)
    setting_by entity x assignments filter given tree (Some c) at h =
        let class_is : class_named m sorts entity ≡ class = ap class_in tree in
        let found : class_named m sorts entity ≡ c = ap (λ o. unwrap_or o 0) at in
        let own : c ≡ class = sym found ∙ class_is in
        let parts = and_parts (list_all (is_assignment_typed m sorts (with_variable [] x c)) assignments && are_distinct same_name (map (λ (a : Assignment). a.name) assignments)) _ h in
        let first = and_parts (list_all (is_assignment_typed m sorts (with_variable [] x c)) assignments) _ parts.0 in
        record {
          variable = x;
          assignments = assignments;
          typed = subst (λ k. list_all (is_assignment_typed m sorts (with_variable [] x k)) assignments ≡ true) own first.0;
          given = update_given sorts entity x assignments filter given;
          same = subst (λ k. map (typed_assignment m sorts (with_variable [] x k)) assignments ≡ all) class_is (ap all_in tree);
        }

    setting : (q : Query) → IsJudged q (Typed.Update class all where_) → IsSetting m sorts class all
    setting (Query.Select q) h = absurd (false≢true (ap is_update h.tree))
    setting (Query.Update entity x assignments filter) h =
        setting_by entity x assignments filter h.given h.tree (class_of m entity) refl (and_parts (has_distinct_names h.language (Query.Update entity x assignments filter)) _ h.typed).1
    setting (Query.Delete entity x filter) h = absurd (false≢true (ap is_update h.tree))

-- ---- entries of a set that a store can hold

module _ (world : World) (numbers : List ℕ) where
  abbrev shape_test : Entry → Bool
  shape_test e = is_shaped world.model e.0 e.1

  abbrev pass_test : Entry → Bool
  pass_test e = list_all (λ (p : Attribute × Plain). passes world p.0 p.1) (zip (attributes_of world.model (e.1).class) (e.1).values)

  abbrev key_test : Entry → Bool
  key_test e = key_given_by numbers (root_class world.model (e.1).class) (root_of world.model (e.1).class).generated (e.0).key

  abbrev is_well : Entry → Bool
  is_well e = shape_test e && (pass_test e && key_test e)

  record IsHeld (s : StoredSet) : Type 0 where
    well : list_all is_well s ≡ true
    rising : T (is_sorted identity_cmp s)

  held_of : (s : StoredSet) → CanBeHeld world s numbers → IsHeld s
  held_of s h =
      record {
        well = all_both shape_test (λ e. pass_test e && key_test e) s h.shaped (all_both pass_test key_test s h.converted h.given);
        rising = h.rising;
      }

  held_by : (s after : StoredSet) → CanBeHeld world s numbers → IsHeld after → all_representable after ≡ true → IsSound world.model after → CanBeHeld world after numbers
  held_by s after h k representable sound =
      record {
        representable = representable;
        numbered = h.numbered;
        rising = k.rising;
        shaped = all_weaker is_well shape_test (λ e w. (and_parts (shape_test e) _ w).0) after k.well;
        sound = sound;
        converted = all_weaker is_well pass_test (λ e w. (and_parts (pass_test e) (key_test e) (and_parts (shape_test e) _ w).1).0) after k.well;
        given = all_weaker is_well key_test (λ e w. (and_parts (pass_test e) (key_test e) (and_parts (shape_test e) _ w).1).1) after k.well;
      }

  base_of : (s : StoredSet) → AreInherited world.model → CanBeHeld world s numbers → IsBase world.model s
  base_of s inherited h =
      record {
        inherited = inherited;
        shaped = h.shaped;
        leads = leads_of (no_required_null world.model s) (all_lead world.model s) (no_shared_target world.model s) h.sound;
        rising = h.rising;
      }

-- ---- UPDATE

abbrev counted : StoredSet → ℕ → Result Changed Cause
counted set n = Ok (set, n)

module _ (world : World) (s : StoredSet) (numbers : List ℕ) (sorts : List (Text × Sort)) (ds : List Datum) (class : ℕ) (all : List TypedAssignment) where
  -- an object that is concerned, with what its members take
  abbrev IsGiven : Entry × List (Member × Datum) → Type 0
  IsGiven p = IsStanding world.model s class p.0 × (list_all (λ (a : Member × Datum). takes world.model class a.0 a.1) p.1 ≡ true)

  module _ (base : IsBase world.model s) (fit : are_of world.model sorts ds ≡ true) (setting_is : IsSetting world.model sorts class all) (convertible : AnswersConvertible world) (held : IsHeld world numbers s) where
    concerned_stand : (drops : List (Option Entry) → Bool) (where_ : Option TypedCondition) (found : List Entry)
        → concerned world.model s ds class true drops where_ ≡ gives found → AllByRecursion (IsStanding world.model s class) found
    concerned_stand drops where_ found e =
        each_kept (IsStanding world.model s class) _ _ found
        (all_where (IsStanding world.model s class) _ (objects world.model s class)
        (all_from (IsStanding world.model s class) (objects world.model s class) (λ x h. from_filter (λ (d : Entry). is_kind_of world.model (d.1).class class) s x h))) e

    -- ---- what each is given

    one_given : (e : Entry) → IsStanding world.model s class e → (a : Answer (List (Member × Datum))) (rest : Answer (List (Entry × List (Member × Datum)))) (given : List (Entry × List (Member × Datum)))
        → both (λ y ys. y ∷ ys) (under (λ g. (e, g)) a) rest ≡ gives given
        → ((g : List (Member × Datum)) → a ≡ gives g → list_all (λ (d : Member × Datum). takes world.model class d.0 d.1) g ≡ true)
        → ((gs : List (Entry × List (Member × Datum))) → rest ≡ gives gs → AllByRecursion IsGiven gs) → AllByRecursion IsGiven given
    one_given e stands overflows rest given is first later = absurd cc
    one_given e stands (gives g) overflows given is first later = absurd cc
    one_given e stands (gives g) (gives gs) given is first later =
        let same : (e, g) ∷ gs ≡ given = cc in subst (AllByRecursion IsGiven) same ((stands, first g refl), later gs refl)

    each_given : (found : List Entry) → AllByRecursion (IsStanding world.model s class) found → (given : List (Entry × List (Member × Datum)))
        → every (map (assignments_for world.model s ds all) found) ≡ gives given → AllByRecursion IsGiven given
    each_given [] stand given is = let same : [] ≡ given = cc in subst (AllByRecursion IsGiven) same tt
    each_given (e ∷ found) stand given is =
        one_given e stand.0 (every (map (assignment_datum world.model s ds e) all)) (every (map (assignments_for world.model s ds all) found)) given is
        (λ g h. assignments_take base sorts ds fit class setting_is.variable e stand.0 setting_is.assignments setting_is.typed setting_is.given g
        (ap (λ as'. every (map (assignment_datum world.model s ds e) as')) setting_is.same ∙ h))
        (λ gs h. each_given found stand.1 gs h)

    -- ---- what is made of each

    made_well : (p : Entry × List (Member × Datum)) → IsGiven p → (x : Stored) → all_assigned world.model (throws_in world) (p.0).1 p.1 ≡ Ok x → is_well world numbers ((p.0).0, x) ≡ true
    made_well p h x e =
        let m = world.model in
        let stands = (h.0).0 in
        let old = each_passes (is_well world numbers) s held.well p.0 stands in
        let shaped = and_parts (shape_test world numbers p.0) _ old in
        let others = and_parts (pass_test world numbers p.0) (key_test world numbers p.0) shaped.1 in
        let made =
        all_assigned_well {world = world} convertible base.inherited (p.0).0 class ((p.0).1).class (h.0).1 p.1 (p.0).1 x
        (record { shape = shape_of m (p.0).0 (p.0).1 shaped.0; passed = others.0; same = refl }) h.1 e in
        and_from (shape_test world numbers ((p.0).0, x)) _ (shaped_by m (p.0).0 x made.shape)
        (and_from (pass_test world numbers ((p.0).0, x)) _ made.passed
        (subst (λ c. key_given_by numbers (root_class m c) (root_of m c).generated ((p.0).0).key ≡ true) (sym made.same) others.1))

    one_made : (p : Entry × List (Member × Datum)) (r : Result Stored Cause) (rest : Result (List Entry) Cause) (entries : List Entry)
        → (r and_then λ x. rest and_then λ more. Ok (((p.0).0, x) ∷ more)) ≡ Ok entries
        → ((x : Stored) → r ≡ Ok x → is_well world numbers ((p.0).0, x) ≡ true) → ((more : List Entry) → rest ≡ Ok more → list_all (is_well world numbers) more ≡ true)
        → list_all (is_well world numbers) entries ≡ true
    one_made p (Err r) rest entries is first later = absurd (not_ok r entries is)
    one_made p (Ok x) (Err r) entries is first later = absurd (not_ok r entries is)
    one_made p (Ok x) (Ok more) entries is first later =
        subst (λ es. list_all (is_well world numbers) es ≡ true) (same_ok (((p.0).0, x) ∷ more) entries is)
        (and_from (is_well world numbers ((p.0).0, x)) (list_all (is_well world numbers) more) (first x refl) (later more refl))

    each_made : (given : List (Entry × List (Member × Datum))) → AllByRecursion IsGiven given → (entries : List Entry)
        → each_assigned world.model (throws_in world) given ≡ Ok entries → list_all (is_well world numbers) entries ≡ true
    each_made [] h entries is = subst (λ es. list_all (is_well world numbers) es ≡ true) (same_ok [] entries is) refl
    each_made (p ∷ ps) h entries is =
        one_made p (all_assigned world.model (throws_in world) (p.0).1 p.1) (each_assigned world.model (throws_in world) ps) entries is
        (λ x e. made_well p h.0 x e) (λ more e. each_made ps h.1 more e)

    -- ---- the set then

    changed : (given : List (Entry × List (Member × Datum))) → AllByRecursion IsGiven given → (r : Result (List Entry) Cause) → each_assigned world.model (throws_in world) given ≡ r
        → (after : StoredSet) (n : ℕ) → (r and_then λ entries. counted (put_all entries s) (length entries)) ≡ Ok (after, n) → IsHeld world numbers after
    changed given h (Err r) e after n is = absurd (not_ok r (after, n) is)
    changed given h (Ok entries) e after n is =
        let same : put_all entries s ≡ after = ap (λ (c : Changed). c.0) (same_ok (put_all entries s, length entries) (after, n) is) in
        subst (IsHeld world numbers) same
        (record { well = all_put (is_well world numbers) entries s (each_made given h entries e) held.well; rising = rises entries s held.rising })

    given_then : (a : Answer (List Entry)) → ((found : List Entry) → a ≡ gives found → AllByRecursion (IsStanding world.model s class) found)
        → (after : StoredSet) (n : ℕ)
        → or_refuse {B = Changed} (a >>= λ found. every (map (assignments_for world.model s ds all) found)) (λ given. each_assigned world.model (throws_in world) given and_then λ entries. counted (put_all entries s) (length entries)) ≡ Ok (after, n)
        → IsHeld world numbers after
    given_then overflows stand after n is = absurd (not_ok Cause.Overflow (after, n) is)
    given_then (gives found) stand after n is = by_given (every (map (assignments_for world.model s ds all) found)) refl is
      where
        by_given : (b : Answer (List (Entry × List (Member × Datum)))) → every (map (assignments_for world.model s ds all) found) ≡ b
            → or_refuse {B = Changed} b (λ given. each_assigned world.model (throws_in world) given and_then λ entries. counted (put_all entries s) (length entries)) ≡ Ok (after, n) → IsHeld world numbers after
        by_given overflows e k = absurd (not_ok Cause.Overflow (after, n) k)
        by_given (gives given) e k = changed given (each_given found (stand found refl) given e) (each_assigned world.model (throws_in world) given) refl after n k

    updated_held : (where_ : Option TypedCondition) (after : StoredSet) (n : ℕ) → updated world.model s ds (throws_in world) class all where_ ≡ Ok (after, n) → IsHeld world numbers after
    updated_held where_ after n is =
        let drops = λ (t : List (Option Entry)). list_any (assignment_drops world.model s ds t) all in
        given_then (concerned world.model s ds class true drops where_) (λ found e. concerned_stand drops where_ found e) after n is

pub update_keeps : (world : World) (s : StoredSet) (numbers : List ℕ) (q : Query) (sorts : List (Text × Sort)) (ds : List Datum) (class : ℕ) (all : List TypedAssignment) (where_ : Option TypedCondition)
    → IsReady world s numbers q sorts ds (Typed.Update class all where_)
    → (after : StoredSet) (n : ℕ) → updated world.model s ds (throws_in world) class all where_ ≡ Ok (after, n)
    → all_representable after ≡ true → IsSound world.model after → CanBeHeld world after numbers
update_keeps world s numbers q sorts ds class all where_ ready after n is representable sound =
    let m = world.model in
    let setting_is = setting m sorts class all where_ q (judged m sorts ready.language q (Typed.Update class all where_) ready.checked) in
    held_by world numbers s after ready.held
    (updated_held world s numbers sorts ds class all (base_of world numbers s ready.inherited ready.held) ready.given setting_is ready.convertible (held_of world numbers s ready.held) where_ after n is)
    representable sound

-- ---- DELETE

abbrev is_left : List Identity → Entry → Bool
is_left ids e = not (list_any (same_identity e.0) ids)

part_held : (world : World) (s : StoredSet) (numbers : List ℕ) (ids : List Identity) → CanBeHeld world s numbers → IsSound world.model (without ids s) → CanBeHeld world (without ids s) numbers
part_held world s numbers ids h sound =
    record {
      representable = all_filtered (λ (e : Entry). names_representable e.0 && holds_representable e.1) (is_left ids) s h.representable;
      numbered = h.numbered;
      rising = is_sorted-where_key identity_cmp (λ id. not (list_any (same_identity id) ids)) s h.rising;
      shaped = all_filtered (shape_test world numbers) (is_left ids) s h.shaped;
      sound = sound;
      converted = all_filtered (pass_test world numbers) (is_left ids) s h.converted;
      given = all_filtered (key_test world numbers) (is_left ids) s h.given;
    }

pub delete_keeps : (world : World) (s : StoredSet) (numbers : List ℕ) (ds : List Datum) (class : ℕ) (is_named : Bool) (where_ : Option TypedCondition) → CanBeHeld world s numbers
    → (after : StoredSet) (n : ℕ) → deleted world.model s ds class is_named where_ ≡ Ok (after, n) → IsSound world.model after → CanBeHeld world after numbers
delete_keeps world s numbers ds class is_named where_ h after n is sound = by_found (concerned world.model s ds class is_named (λ t. false) where_) is
  where
    by_found : (a : Answer (List Entry)) → or_refuse {B = Changed} a (λ found. counted (without (map (λ (e : Entry). e.0) found) s) (length found)) ≡ Ok (after, n) → CanBeHeld world after numbers
    by_found overflows e = absurd (not_ok Cause.Overflow (after, n) e)
    by_found (gives found) e =
        let ids = map (λ (d : Entry). d.0) found in
        let same : without ids s ≡ after = ap (λ (c : Changed). c.0) (same_ok (without ids s, length found) (after, n) e) in
        subst (λ set. CanBeHeld world set numbers) same (part_held world s numbers ids h (subst (IsSound world.model) (sym same) sound))
