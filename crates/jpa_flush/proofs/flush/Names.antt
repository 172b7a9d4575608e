-- Entries of different identities: they name different objects, and what a flush writes of them has different identities.
use Rattle.std.proofs.Common.{◌≡◌, ◌∙◌, ◌⊎◌, inl, inr, ℕ, Bool, true, false, List, [], ◌∷◌, ◌++◌, map, refl, ap, sym}
use Rattle.std.specs.Prelude.{◌&&◌, ◌||◌, not, Option, Some, None, if◌then◌else◌}
use Rattle.std.specs.List.{list_any, flat_map}
use Rattle.std.proofs.lemmas.Bool.{and_parts, and_from, or_parts, or_from, not-true, not_from_false}
use Rattle.std.proofs.lemmas.Grind.{flat_map-append}
use Rattle.std.proofs.lemmas.List.Folds.{list_any-append}
use Rattle.jpa_value.specs.declared.value.Identity.{Identity}
use Rattle.jpa_value.specs.Value.{same_identity}
use Rattle.jpa_model.specs.declared.unit.PersistenceUnit.{PersistenceUnit}
use Rattle.jpa_stored.specs.objects.Sets.{all_distinct}
use Rattle.jpa_work.specs.declared.heap.LiveObject.{LiveObject}
use Rattle.jpa_work.specs.heap.Objects.{is_whole}
use Rattle.jpa_work.specs.declared.context.Entry.{Entry}
use Rattle.jpa_work.specs.context.Work.{Work, object}
use Rattle.jpa_flush.specs.declared.flush.planning.Planned.{Planned}
use Rattle.jpa_flush.specs.flush.Flush.{Action, listed, action_of}
use Rattle.jpa_flush.specs.flush.Flush as flushes
use Rattle.jpa_flush.specs.flush.Names.{targets, are_apart}
use Rattle.jpa_operations.specs.ops.Names.{name_of, are_one, has_distinct_entries}
use Rattle.jpa_flush.specs.flush.Plan.{item, planned_of, plan_of}
use Rattle.jpa_flush.proofs.flush.Actions.{all_planned}
use Rattle.jpa_flush.proofs.flush.Updated.{IsUpdated}

-- ---- PreUpdate leaves them different

one_after : (m : PersistenceUnit) (w v : Work) → IsUpdated w v → (n : ℕ) → name_of m (object v n) ≡ name_of m (object w n)
one_after m w v h n = ap (name_of m) (h.objects n).same

any_after : (m : PersistenceUnit) (w v : Work) → IsUpdated w v → (e : Entry) (es : List Entry) → list_any (are_one m v e) es ≡ list_any (are_one m w e) es
any_after m w v h e [] = refl
any_after m w v h e (d ∷ es) = λ j. same_identity (one_after m w v h e.object j) (one_after m w v h d.object j) || any_after m w v h e es j

all_after : (m : PersistenceUnit) (w v : Work) → IsUpdated w v → (es : List Entry) → all_distinct (are_one m v) es ≡ all_distinct (are_one m w) es
all_after m w v h [] = refl
all_after m w v h (e ∷ es) = λ j. not (any_after m w v h e es j) && all_after m w v h es j

pub updated_distinct : (m : PersistenceUnit) (w v : Work) → IsUpdated w v → has_distinct_entries m w ≡ true → has_distinct_entries m v ≡ true
updated_distinct m w v h d = ap (λ es. all_distinct (are_one m v) es) h.context ∙ all_after m w v h w.context ∙ d

-- ---- what is planned for an entry: nothing, or what is under its name

abbrev IsOwn : Identity → List Identity → Type 0
IsOwn name ids = (ids ≡ []) ⊎ (ids ≡ name ∷ [])

own_listed : (m : PersistenceUnit) (x : LiveObject) (b : Bool) → IsOwn (name_of m x) (listed (if b then Some (name_of m x) else None) ++ [])
own_listed m x true = inr refl
own_listed m x false = inl refl

own_planned : (m : PersistenceUnit) (w : Work) (e : Entry) (a : Option Action) → IsOwn (name_of m (object w e.object)) (targets (map (item m w) (flushes.planned m w e a)))
own_planned m w e None = inl refl
own_planned m w e (Some a) = own_listed m (object w e.object) (is_whole (object w e.object).key)

split_first : (m : PersistenceUnit) (w : Work) (e : Entry) (es : List Entry) → targets (flat_map (planned_of m w) (e ∷ es)) ≡ targets (planned_of m w e) ++ targets (flat_map (planned_of m w) es)
split_first m w e es = flat_map-append (λ (p : Planned). listed p.id) (planned_of m w e) (flat_map (planned_of m w) es)

own_apart : (id name : Identity) (ids : List Identity) → IsOwn name ids → same_identity id name ≡ false → list_any (same_identity id) ids ≡ false
own_apart id name ids (inl e) h = ap (list_any (same_identity id)) e
own_apart id name ids (inr e) h = ap (list_any (same_identity id)) e ∙ or_from (same_identity id name) false h refl

apart_from : (m : PersistenceUnit) (w : Work) (e : Entry) (es : List Entry) → list_any (are_one m w e) es ≡ false → list_any (same_identity (name_of m (object w e.object))) (targets (flat_map (planned_of m w) es)) ≡ false
apart_from m w e [] h = refl
apart_from m w e (d ∷ es) h =
    let id = name_of m (object w e.object) in
    let p = or_parts (are_one m w e d) (list_any (are_one m w e) es) h in
    ap (list_any (same_identity id)) (split_first m w d es)
    ∙ list_any-append (same_identity id) (targets (planned_of m w d)) (targets (flat_map (planned_of m w) es))
    ∙ or_from (list_any (same_identity id) (targets (planned_of m w d))) (list_any (same_identity id) (targets (flat_map (planned_of m w) es)))
    (own_apart id (name_of m (object w d.object)) (targets (planned_of m w d)) (own_planned m w d (action_of m w d)) p.0) (apart_from m w e es p.1)

own_distinct : (name : Identity) (ids rest : List Identity) → IsOwn name ids → list_any (same_identity name) rest ≡ false → all_distinct same_identity rest ≡ true → all_distinct same_identity (ids ++ rest) ≡ true
own_distinct name ids rest (inl e) h k = ap (λ xs. all_distinct same_identity (xs ++ rest)) e ∙ k
own_distinct name ids rest (inr e) h k =
    ap (λ xs. all_distinct same_identity (xs ++ rest)) e
    ∙ and_from (not (list_any (same_identity name) rest)) (all_distinct same_identity rest) (not_from_false (list_any (same_identity name) rest) h) k

planned_apart : (m : PersistenceUnit) (w : Work) (es : List Entry) → all_distinct (are_one m w) es ≡ true → are_apart (flat_map (planned_of m w) es) ≡ true
planned_apart m w [] h = refl
planned_apart m w (e ∷ es) h =
    let p = and_parts (not (list_any (are_one m w e) es)) (all_distinct (are_one m w) es) h in
    ap (all_distinct same_identity) (split_first m w e es)
    ∙ own_distinct (name_of m (object w e.object)) (targets (planned_of m w e)) (targets (flat_map (planned_of m w) es)) (own_planned m w e (action_of m w e))
    (apart_from m w e es (not-true (list_any (are_one m w e) es) p.0)) (planned_apart m w es p.1)

pub plan_apart : (m : PersistenceUnit) (w : Work) → has_distinct_entries m w ≡ true → are_apart (plan_of m w) ≡ true
plan_apart m w h = ap are_apart (sym (all_planned m w)) ∙ planned_apart m w w.context h
