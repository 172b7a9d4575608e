-- One entry of a context settles: the others stay, and so do the objects of all.
use Rattle.std.proofs.Common.{◌≡◌, ◌∙◌, ℕ, zero, suc, ◌<◌, true, false, List, [], ◌∷◌, ◌++◌, map, length, get_or, refl, ap, sym, subst, arith}
use Rattle.std.specs.Prelude.{◌==◌, ◌&&◌, ◌||◌, not, slice_get, slice_set, Option, Some, None}
use Rattle.std.specs.List.{list_any, flat_map}
use Rattle.std.specs.Option.{option_map}
use Rattle.std.proofs.lemmas.Bool.{both_ways, and_parts, and_from, or_parts, not-true, cond-true, cond-false, cond_both, eq-eqb, ne_eqb, eqb-false}
use Rattle.std.proofs.lemmas.List.{length-map}
use Rattle.std.proofs.lemmas.List.Folds.{list_any_at}
use Rattle.std.proofs.lemmas.Option.{slice_get-get_or, slice_get-map, slice_get_within, same_Some}
use Rattle.jpa_value.specs.declared.value.Identity.{Identity}
use Rattle.jpa_model.specs.declared.unit.PersistenceUnit.{PersistenceUnit}
use Rattle.jpa_stored.specs.declared.objects.stored.Stored.{Stored}
use Rattle.jpa_stored.specs.objects.Sets.{all_distinct}
use Rattle.jpa_work.specs.declared.context.Entry.{Entry}
use Rattle.jpa_work.specs.context.Work.{Work}
use Rattle.jpa_flush.specs.declared.flush.planning.Planned.{Planned}
use Rattle.jpa_flush.specs.flush.Entered.{are_entered, has_entry}
use Rattle.jpa_flush.specs.flush.Flush.{Action, action_of}
use Rattle.jpa_flush.specs.flush.Flush as flushes
use Rattle.jpa_flush.specs.flush.Plan.{item, planned_of, plan_of}
use Rattle.jpa_flush.proofs.flush.Settled.{learned_as, learned_if}
use Rattle.jpa_flush.proofs.flush.Actions.{all_planned}
use Rattle.jpa_flush.proofs.flush.Silent.{later_or}

abbrev pub AreDistinct : List Entry → Type 0
AreDistinct es = all_distinct (λ a b. a.object == b.object) es ≡ true

-- ---- an entry alone changes

others : (ms : List (Option (List Identity))) (n : ℕ) (x : Option Stored) (es : List Entry) → list_any (λ b. n == b.object) es ≡ false → map (learned_if ms n x) es ≡ es
others ms n x [] h = refl
others ms n x (e ∷ es) h =
    let apart = or_parts (n == e.object) (list_any (λ b. n == b.object) es) h in
    let same : learned_if ms n x e ≡ e = cond-false (e.object == n) (learned_as ms x e) e (ne_eqb e.object n (λ q. eqb-false n e.object (apart.0) (sym q))) in
    λ j. same j ∷ others ms n x es (apart.1) j

pub one_learned : (ms : List (Option (List Identity))) (x : Option Stored) (es : List Entry) (i : ℕ) (e : Entry) → AreDistinct es → i < length es → e ≡ get_or es i e → slice_set es i (learned_as ms x e) ≡ map (learned_if ms e.object x) es
one_learned ms x [] i e h l read = absurd (omega arith)
one_learned ms x (y ∷ ys) zero e h l read =
    let apart = not-true (list_any (λ b. y.object == b.object) ys) ((and_parts (not (list_any (λ b. y.object == b.object) ys)) (all_distinct (λ a b. a.object == b.object) ys) h).0) in
    let hit : learned_if ms y.object x y ≡ learned_as ms x y = cond-true (y.object == y.object) (learned_as ms x y) y (eq-eqb y.object y.object refl) in
    subst (λ (v : Entry). learned_as ms x v ∷ ys ≡ map (learned_if ms v.object x) (y ∷ ys)) (sym read) (λ j. sym hit j ∷ sym (others ms y.object x ys apart) j)
one_learned ms x (y ∷ ys) (suc i) e h l read =
    let parts = and_parts (not (list_any (λ b. y.object == b.object) ys)) (all_distinct (λ a b. a.object == b.object) ys) h in
    let apart = not-true (list_any (λ b. y.object == b.object) ys) (parts.0) in
    let within : i < length ys = omega (arith, l) in
    let other : (y.object ≡ e.object → ⊥) =
    λ q. both_ways (list_any (λ b. y.object == b.object) ys) apart
    (list_any_at (λ (b : Entry). y.object == b.object) ys i e within (eq-eqb y.object (get_or ys i e).object (q ∙ ap (λ (v : Entry). v.object) read))) in
    let same : learned_if ms e.object x y ≡ y = cond-false (y.object == e.object) (learned_as ms x y) y (ne_eqb y.object e.object other) in
    λ j. sym same j ∷ one_learned ms x ys i e (parts.1) within read j

-- what stands where an object is named
pub named_at : (es : List Entry) (i n : ℕ) (e : Entry) → slice_get (map (λ v. v.object) es) i ≡ Some n → e ≡ get_or es i e → (i < length es) × (e.object ≡ n)
named_at es i n e h read =
    let within : i < length es = subst (λ k. i < k) (length-map es (λ (v : Entry). v.object)) (slice_get_within (map (λ (v : Entry). v.object) es) i n h) in
    let there : Some (get_or es i e).object ≡ Some n = sym (slice_get-map (λ (v : Entry). v.object) es i ∙ ap (option_map (λ (v : Entry). v.object)) (slice_get-get_or es i e within)) ∙ h in
    (within, ap (λ (v : Entry). v.object) read ∙ same_Some (get_or es i e).object n there)

-- ---- the objects of the entries stay

learned_object : (ms : List (Option (List Identity))) (x : Option Stored) (e : Entry) → (learned_as ms x e).object ≡ e.object
learned_object ms None e = refl
learned_object ms (Some x) e = refl

same_object : (ms : List (Option (List Identity))) (n : ℕ) (x : Option Stored) (e : Entry) → (learned_if ms n x e).object ≡ e.object
same_object ms n x e = cond_both (e.object == n) (learned_as ms x e) e (λ (v : Entry). v.object ≡ e.object) (λ q. learned_object ms x e) (λ q. refl)

has_entry_after : (ms : List (Option (List Identity))) (n : ℕ) (x : Option Stored) (p : Planned) (es : List Entry) → has_entry (map (learned_if ms n x) es) p ≡ has_entry es p
has_entry_after ms n x p [] = refl
has_entry_after ms n x p (e ∷ es) = λ j. (same_object ms n x e j == p.object) || has_entry_after ms n x p es j

pub entered_after : (ms : List (Option (List Identity))) (n : ℕ) (x : Option Stored) (ps : List Planned) (es : List Entry) → are_entered ps (map (learned_if ms n x) es) ≡ are_entered ps es
entered_after ms n x [] es = refl
entered_after ms n x (p ∷ ps) es = λ j. has_entry_after ms n x p es j && entered_after ms n x ps es j

-- ---- each object that the flush plans has an entry

entered_more : (e : Entry) (ps : List Planned) (es : List Entry) → are_entered ps es ≡ true → are_entered ps (e ∷ es) ≡ true
entered_more e [] es h = refl
entered_more e (p ∷ ps) es h =
    let q = and_parts (has_entry es p) (are_entered ps es) h in
    and_from (has_entry (e ∷ es) p) (are_entered ps (e ∷ es)) (later_or (e.object == p.object) (has_entry es p) q.0) (entered_more e ps es q.1)

at_first : (m : PersistenceUnit) (w : Work) (e : Entry) (a : Option Action) (ps : List Planned) (es : List Entry) → are_entered ps es ≡ true → are_entered (map (item m w) (flushes.planned m w e a) ++ ps) (e ∷ es) ≡ true
at_first m w e None ps es h = entered_more e ps es h
at_first m w e (Some a) ps es h =
    let p = item m w (e.object, a) in
    and_from (has_entry (e ∷ es) p) (are_entered ps (e ∷ es)) (ap (λ b. b || has_entry es p) (eq-eqb e.object e.object refl)) (entered_more e ps es h)

planned_entered : (m : PersistenceUnit) (w : Work) (es : List Entry) → are_entered (flat_map (planned_of m w) es) es ≡ true
planned_entered m w [] = refl
planned_entered m w (e ∷ es) = at_first m w e (action_of m w e) (flat_map (planned_of m w) es) es (planned_entered m w es)

pub plan_entered : (m : PersistenceUnit) (w : Work) → are_entered (plan_of m w) w.context ≡ true
plan_entered m w = ap (λ ps. are_entered ps w.context) (sym (all_planned m w)) ∙ planned_entered m w w.context
