-- A statement that asks one object by its key gives over a set what it gives over that object's row alone, or over none.
use Rattle.std.proofs.Common.{rules, ◌≡◌, ◌∙◌, refl, ap, sym, subst, Bool, true, false, cond, List, [], ◌∷◌, map, Option, Some, None, option_map, inl, inr}
use Rattle.std.specs.Prelude.{◌&&◌, ◌⊎◌, T, is_some, not}
use Rattle.std.specs.Cmp.{tied_itself}
use Rattle.std.specs.FinMap.Entries.{is_sorted}
use Rattle.std.specs.List.{AllByRecursion, filter}
use Rattle.std.specs.Option.{option_to_list, unwrap_or}
use Rattle.std.specs.Ordering.{is_eq}
use Rattle.std.proofs.lemmas.Bool.{and_parts, false≢true}
use Rattle.jpa_value.specs.declared.value.Identity.{Identity}
use Rattle.jpa_value.specs.declared.value.Value.{Value}
use Rattle.jpa_value.specs.Value.{identity_cmp, same_identity}
use Rattle.jpa_value.proofs.Orders.{identity_total}
use Rattle.jpa_model.specs.declared.unit.PersistenceUnit.{PersistenceUnit}
use Rattle.jpa_model.specs.Chains.{is_kind_of}
use Rattle.jpa_stored.specs.declared.objects.stored.Stored.{Stored}
use Rattle.jpa_stored.specs.objects.Sets.{StoredSet, all_shaped, is_shaped, stored_at}
use Rattle.jpql_trees.specs.declared.tree.Comparison.{Comparison}
use Rattle.jpql_trees.specs.declared.typed.path.TypedPath.{TypedPath}
use Rattle.jpql_trees.specs.declared.typed.typed.TypedCondition.{TypedCondition}
use Rattle.jpql_trees.specs.declared.typed.typed.TypedCondition.TheViews.{out-TypedJoin, out-TypedSource}
use Rattle.jpql_trees.specs.declared.typed.typed.TypedJoin.{TypedJoin}
use Rattle.jpql_trees.specs.declared.typed.typed.TypedSelect.{TypedSelect}
use Rattle.jpql_trees.specs.declared.typed.typed.TypedSource.{TypedSource}
use Rattle.jpql_trees.specs.declared.typed.typed.TypedValue.TheFolds as values
use Rattle.jpql_trees.specs.declared.typed.typed.TypedValue.TheVariants as v
use Rattle.jpql_meaning.specs.declared.eval.datum.Datum.{Datum}
use Rattle.jpql_meaning.specs.eval.Answers.{Answer, gives, ◌>>=◌, under, each}
use Rattle.jpql_meaning.specs.declared.eval.datum.Truth.{Truth}
use Rattle.jpql_meaning.specs.plan.Paths.{Entry, Tuple, objects, path_datum}
use Rattle.jpql_meaning.specs.plan.Meaning.{alone, condition, in_turn, join, kept, origin_objects, truth_of_any, value}
use Rattle.jpql_meaning.specs.plan.Selection.{Row, cases_of, distinct, in_order, rows_of, select_drops, selected, selected_tuples}
use Rattle.jpql_run.specs.Keys.{CanBeLookedUp, IsAlwaysTold, IsAnyTold, NeverOverflows, has_identity, is_given}
use Rattle.jpql_run.specs.Lookups.{AsksPart}
use Rattle.jpql_run.specs.Refused.{Candidates, asked, joined_from, left_behind, left_from, ranged, with_each}
use Rattle.jpql_run.proofs.CalmValues.{calm_value}
use Rattle.jpql_run.proofs.Found.{found_of_kind, same_is, with_it}
use Rattle.jpql_run.proofs.Lookups.{by_key}
use Rattle.jpql_run.proofs.Refused.{leaving_out}
use Rattle.jpql_run.proofs.Told.{told_compare}
use Rattle.jpa_questions.specs.by_key.ByKey.{identity_with, only, pairless}
use Rattle.jpa_questions.specs.by_key.Laws.{LawsOfKeys}
use Rattle.jpa_questions.proofs.by_key.Asked.{Asks, AsksKey, asks_key, keyed_as, part_of}
use Rattle.jpa_questions.proofs.by_key.Conditions.{truth_if_any}
use Rattle.jpa_questions.proofs.by_key.Pairless.{each_pairless, filter_made, kept_made, pairless_entry, pairless_shaped, pairless_tuple, under_then}
use Rattle.jpa_questions.proofs.by_key.Selected.{drops_same, made_same, own_parts}

-- ---- the set of what stands under an identity

found_shaped : (m : PersistenceUnit) (id : Identity) (x : Stored) (e : Identity × Stored) (o : Option Stored) (b : Bool) → same_identity id e.0 ≡ b → (o ≡ Some x → is_shaped m id x ≡ true)
    → is_shaped m e.0 e.1 ≡ true → cond b (Some e.1) o ≡ Some x → is_shaped m id x ≡ true
found_shaped m id x e o true t k h g =
    subst (λ i. is_shaped m i x ≡ true) (sym (same_is id e.0 t)) (subst (λ y. is_shaped m e.0 y ≡ true) (ap (λ p. unwrap_or p x) g) h)
found_shaped m id x e o false t k h g = k g

shaped_there : (m : PersistenceUnit) (s : StoredSet) (id : Identity) (x : Stored) → all_shaped m s ≡ true → stored_at s id ≡ Some x → is_shaped m id x ≡ true
shaped_there m [] id x h e = absurd (false≢true (ap is_some e))
shaped_there m (y ∷ ys) id x h e =
    let parts = and_parts (is_shaped m y.0 y.1) (all_shaped m ys) h in
    found_shaped m id x y (stored_at ys id) (same_identity id y.0) refl (shaped_there m ys id x parts.1) parts.0 e

only_rises : (id : Identity) (o : Option Stored) → T (is_sorted identity_cmp (only id o))
only_rises id None = tt
only_rises id (Some x) = tt

only_shaped : (m : PersistenceUnit) (id : Identity) (o : Option Stored) → ((x : Stored) → o ≡ Some x → is_shaped m id x ≡ true) → all_shaped m (only id o) ≡ true
only_shaped m id None k = refl
only_shaped m id (Some x) k = ap (λ b. b && true) (k x refl)

only_there : (id : Identity) (o : Option Stored) → stored_at (only id o) id ≡ o
only_there id None = refl
only_there id (Some x) = ap (λ b. cond b (Some x) None) (ap is_eq (tied_itself identity_total id))

left_shaped : (m : PersistenceUnit) (id : Identity) (o : Option Stored) → ((x : Stored) → o ≡ Some x → is_shaped m id x ≡ true) → (y : Stored) → option_map (pairless m) o ≡ Some y → is_shaped m id y ≡ true
left_shaped m id None k y e = absurd (false≢true (ap is_some e))
left_shaped m id (Some x) k y e = subst (λ z. is_shaped m id z ≡ true) (ap (λ o. unwrap_or o y) e) (pairless_shaped m id x (k x refl))

-- ---- tuples

-- without anything that goes on, they stay
stay : (ts : List Tuple) → each (in_turn []) ts ≡ gives ts
stay [] = refl
stay (t ∷ ts) = ap (under (λ all. t ∷ all)) (stay ts)

never_path : (p : TypedPath) → NeverOverflows (v.Path p)
never_path p m s ps at = ap is_given by
  where
    by : value m s ps (v.Path p) at ≡ gives (path_datum m s at.tuple p)
    by = search (rules, values.the_lemmas)

-- a condition that asks a key can't overflow
always_told : (ps : List Datum) (c : TypedCondition) (x : Value) → AsksKey ps c x → IsAnyTold (Some c)
always_told ps c x h m s qs at = subst (λ d. IsAlwaysTold d) (sym h.is_equation) (told_compare Comparison.Equal h.left h.right (by h.sides)) m s qs at
  where
    key : NeverOverflows h.key
    key = subst NeverOverflows (sym (h.named).written) (never_path (h.named).path)

    other : NeverOverflows h.other
    other = calm_value h.other h.calm

    by : ((h.left ≡ h.key) × (h.right ≡ h.other)) ⊎ ((h.left ≡ h.other) × (h.right ≡ h.key)) → NeverOverflows h.left × NeverOverflows h.right
    by (inl e) = (subst NeverOverflows (sym e.0) key, subst NeverOverflows (sym e.1) other)
    by (inr e) = (subst NeverOverflows (sym e.0) other, subst NeverOverflows (sym e.1) key)

module _ (m : PersistenceUnit) (ps : List Datum) (q : TypedSelect) (id : Identity) (h : Asks m ps q id) where
  abbrev x : TypedSource
  x = (h.range).source

  abbrev conditions : List TypedCondition
  conditions = asked x [] (Some h.condition)

  abbrev those : StoredSet → List Entry
  those s = filter (has_identity id) (objects m s h.class)

  no_joins : (P : List TypedJoin → Type 0) → P [] → P (out-TypedSource x).joins
  no_joins P p = subst P (sym (h.range).joins) p

  module _ (s : StoredSet) (there : CanBeLookedUp m s) where
    asks_part : AsksPart m s ps conditions [] 0 h.part
    asks_part =
        let key = (h.asked).named in
        record {
          path = key.path;
          step = key.step;
          other = (h.asked).other;
          here = key.here;
          single = key.single;
          is_place = key.is_place;
          known = λ rest. (h.asked).gives_it m s (alone rest) ∙ sym ((h.asked).gives_it m s (alone []));
          given = (h.asked).gives_it m s (alone []);
          asked = λ t never. inl (part_of ps h.condition h.part h.asked m s ps t never);
        }

    are_candidates : Candidates m s ps conditions [] (ranged m s ps x []) (those s)
    are_candidates =
        subst (λ o. Candidates m s ps conditions [] (origin_objects m s ps o []) (those s)) (sym (h.range).origin)
        (subst (λ i. Candidates m s ps conditions [] (objects m s h.class) (filter (has_identity i) (objects m s h.class))) (sym h.identity)
        (by_key m s ps conditions [] h.class (identity_with h.table h.part) (keyed_as m h.class h.table h.keyed h.part) there.shaped (asks_part, tt)))

    abbrev test : Tuple → Answer Truth
    test t = truth_of_any (option_map (condition m s ps) q.filter) (alone t)

    -- WHERE is asked of the tuple of the one object
    tuples_there : selected_tuples m s ps q ≡ (each (in_turn []) (with_each [] (those s)) >>= λ ts. each (in_turn []) ts >>= λ all. kept test (filter (λ t. not (select_drops m s ps q t)) all))
    tuples_there =
        ap (λ xs. left_from m s ps [] xs q.filter (select_drops m s ps q)) (h.range).only
        ∙ ap (λ c. left_from m s ps [] (x ∷ []) c (select_drops m s ps q)) h.filter
        ∙ (leaving_out m s ps x [] (Some h.condition) (no_joins (AllByRecursion (λ j. IsAnyTold (out-TypedJoin j).on)) tt) tt (always_told ps h.condition h.part h.asked)).first [] (those s) (select_drops m s ps q) are_candidates
        ∙ ap (λ c. left_behind m s ps [] c (select_drops m s ps q) (joined_from m s ps x [] (those s))) (sym h.filter)
        ∙ ap (λ js. left_behind m s ps [] q.filter (select_drops m s ps q) (each (in_turn (map (join m s ps) js)) (with_each [] (those s)))) (h.range).joins

    -- and of no other
    pub tuples_are : selected_tuples m s ps q ≡ kept test (filter (λ t. not (select_drops m s ps q t)) (with_each [] (those s)))
    tuples_are =
        let left = λ (all : List Tuple). kept test (filter (λ t. not (select_drops m s ps q t)) all) in
        tuples_there ∙ ap (λ begun. begun >>= λ ts. each (in_turn []) ts >>= left) (stay (with_each [] (those s))) ∙ ap (λ begun. begun >>= left) (stay (with_each [] (those s)))

  module _ (s : StoredSet) (there : CanBeLookedUp m s) where
    abbrev found : Option Stored
    found = stored_at s id

    abbrev one : StoredSet
    one = only id (option_map (pairless m) found)

    one_there : CanBeLookedUp m one
    one_there = record {
      rising = only_rises id (option_map (pairless m) found);
      shaped = only_shaped m id (option_map (pairless m) found) (left_shaped m id found (λ y e. shaped_there m s id y there.shaped e));
    }

    abbrev kind : Entry → Bool
    kind e = is_kind_of m (e.1).class h.class

    left_of : (o : Option Stored) → filter kind (option_to_list (option_map (with_it id) (option_map (pairless m) o))) ≡ map (pairless_entry m) (filter kind (option_to_list (option_map (with_it id) o)))
    left_of None = refl
    left_of (Some y) = by (is_kind_of m y.class h.class)
      where
        by : (b : Bool) → cond b ((id, pairless m y) ∷ []) [] ≡ map (pairless_entry m) (cond b ((id, y) ∷ []) [])
        by true = refl
        by false = refl

    -- the object itself, without its pairs
    same_those : those one ≡ map (pairless_entry m) (those s)
    same_those =
        found_of_kind id kind one one_there.rising
        ∙ ap (λ o. filter kind (option_to_list (option_map (with_it id) o))) (only_there id (option_map (pairless m) found))
        ∙ left_of found
        ∙ ap (map (pairless_entry m)) (sym (found_of_kind id kind s there.rising))

    same_tuples : selected_tuples m one ps q ≡ under (map (pairless_tuple m)) (selected_tuples m s ps q)
    same_tuples =
        let own = own_parts m q h.own in
        let ts = with_each [] (those s) in
        let g = pairless_tuple m in
        let tested = test one one_there in
        let dropped = select_drops m one ps q in
        tuples_are one one_there
        ∙ ap (λ es. kept tested (filter (λ t. not (dropped t)) (with_each [] es))) same_those
        ∙ ap (λ all. kept tested (filter (λ t. not (dropped t)) all)) (each_pairless m (those s))
        ∙ ap (kept tested) (filter_made g (λ t. not (dropped t)) ts)
        ∙ kept_made g tested (filter (λ t. not (dropped (g t))) ts)
        ∙ (λ i. under (map g) (kept (λ t. sym (truth_if_any m s one ps q.filter own.filter (alone t)) i) (filter (λ t. not (sym (drops_same m s one ps q own t) i)) ts)))
        ∙ ap (under (map g)) (sym (tuples_are s there))

    pub alone_gives : selected m s ps q ≡ selected m one ps q
    alone_gives =
        let own = own_parts m q h.own in
        let made = λ (all : List Tuple). under (λ rows. map (λ (r : Row). r.items) (in_order q.order (distinct m one ps q.is_distinct rows))) (rows_of m one ps q (cases_of m one ps q all)) in
        (λ i. selected_tuples m s ps q >>= λ all. made_same m s one ps q own all i)
        ∙ sym (under_then (map (pairless_tuple m)) made (selected_tuples m s ps q))
        ∙ ap (λ ts. ts >>= made) (sym same_tuples)

pub laws_of_keys : LawsOfKeys
laws_of_keys m ps q id e =
    let h = asks_key m ps q id e in
    record {
      alone = λ s there. alone_gives m ps q id h s there;
      rooted = (h.class, h.within, h.of_root ∙ ap (λ i. i.table) (sym h.identity));
    }
