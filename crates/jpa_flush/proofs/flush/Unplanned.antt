-- What is to be remembered once a plan has settled: nothing of what is planned, and nothing of what is calm.
use Rattle.std.proofs.Common.{◌≡◌, ◌≢◌, ◌∙◌, ◌⊎◌, inl, inr, ℕ, suc, ◌<◌, Bool, true, false, List, [], ◌∷◌, map, length, get_or, refl, ap, sym, subst, arith}
use Rattle.std.specs.Prelude.{All, ◌==◌, ◌||◌, Option, Some, None, if◌then◌else◌}
use Rattle.std.specs.List.{flat_map, list_any}
use Rattle.std.proofs.lemmas.Bool.{cases_eq, cond-false, cond-true, cond_both, eq-eqb, eqb-false, eqb-true, false≢true, ne_eqb, or_from, or_parts}
use Rattle.std.proofs.lemmas.List.{length-map, get_or-map}
use Rattle.std.proofs.lemmas.List.Folds.{list_any-append}
use Rattle.jpa_value.specs.declared.value.Identity.{Identity}
use Rattle.jpa_value.specs.declared.value.Value.{Value}
use Rattle.jpa_model.specs.declared.unit.PersistenceUnit.{PersistenceUnit}
use Rattle.jpa_stored.specs.declared.objects.stored.Stored.{Stored}
use Rattle.jpa_work.specs.declared.context.Entry.{Entry}
use Rattle.jpa_work.specs.context.Indexed.{placed}
use Rattle.jpa_work.specs.context.Work.{Work, state_of, is_managed}
use Rattle.jpa_operations.specs.fetch.Grown.{AreDistinct}
use Rattle.jpa_flush.specs.declared.flush.planning.Planned.{Planned}
use Rattle.jpa_flush.specs.flush.Flush.{Action, action_of, members_held, remembered}
use Rattle.jpa_flush.specs.flush.Flush as flushes
use Rattle.jpa_flush.specs.flush.Marked.{AreLooked, AreRising, is_calm}
use Rattle.jpa_flush.specs.flush.Plan.{is_planned, item, learned, learned_by, learned_entry, planned_of, plan_of}
use Rattle.jpa_flush.proofs.flush.Actions.{all_planned}
use Rattle.jpa_flush.proofs.flush.Alike.{IsAlike}
use Rattle.jpa_flush.proofs.flush.Learned.{learned_alike, learned_context, members_alike, state_learned}
use Rattle.jpa_flush.proofs.flush.Remembered.{with_members}
use Rattle.jpa_flush.proofs.flush.Settled.{learned_as, learned_if}
use Rattle.jpa_flush.proofs.flush.Silent.{calm_action, calm_remembered}
use Rattle.jpa_flush.proofs.flush.TurnsOfUpdates.{other_object}

-- ---- the entries stay where they are, with their objects

same_length : (m : PersistenceUnit) (plan : List Planned) (w : Work) → length (learned_by m plan w).context ≡ length w.context
same_length m [] w = refl
same_length m (p ∷ ps) w =
    let n = p.object in
    same_length m ps (learned m n p.stored w) ∙ ap (λ (es : List Entry). length es) (learned_context m n p.stored w) ∙ length-map w.context (learned_if (members_held m w n) n p.stored)

abbrev object_in : ℕ × List Value → ℕ
object_in p = p.0

same_object : (w v : Work) → IsAlike w v → (k : ℕ) (d : Entry) → k < length w.context → k < length v.context → (get_or v.context k d).object ≡ (get_or w.context k d).object
same_object w v h k d l k' =
    ap object_in (sym (get_or-map placed v.context k d (placed d) k') ∙ ap (λ (ps : List (ℕ × List Value)). get_or ps k (placed d)) h.context ∙ get_or-map placed w.context k d (placed d) l)

-- ---- what no plan names stays

untouched : (m : PersistenceUnit) (plan : List Planned) (w : Work) (k : ℕ) (d : Entry) → k < length w.context → is_planned plan (get_or w.context k d) ≡ false → get_or (learned_by m plan w).context k d ≡ get_or w.context k d
untouched m [] w k d l h = refl
untouched m (p ∷ ps) w k d l h =
    let n = p.object in
    let o = p.stored in
    let ms = members_held m w n in
    let e = get_or w.context k d in
    let parts = or_parts (n == e.object) (is_planned ps e) h in
    let kept : learned_if ms n o e ≡ e = cond-false (e.object == n) (learned_as ms o e) e (ne_eqb e.object n (λ q. eqb-false n e.object parts.0 (sym q))) in
    let same : get_or (learned m n o w).context k d ≡ e = ap (λ (es : List Entry). get_or es k d) (learned_context m n o w) ∙ get_or-map (learned_if ms n o) w.context k d d l ∙ kept in
    untouched m ps (learned m n o w) k d (subst (λ i. k < i) (sym (same_length m (p ∷ []) w)) l) (ap (is_planned ps) same ∙ parts.1) ∙ same

-- ---- what is planned remembers what it holds

remembered_alike : (m : PersistenceUnit) (plan : List Planned) (w : Work) (e : Entry) → remembered m (learned_by m plan w) e ≡ remembered m w e
remembered_alike m plan w e =
    λ i. if is_managed (state_learned m plan w e.object i) then with_members (members_alike m w (learned_by m plan w) (learned_alike m plan w) e.object i) e else e

-- an entry that has just learned
knows : (m : PersistenceUnit) (w : Work) (o : Option Stored) (e : Entry) → remembered m w (learned_as (members_held m w e.object) o e) ≡ learned_as (members_held m w e.object) o e
knows m w None e =
    let y : Entry = record e { base = None } in
    cond_both (is_managed (state_of w e.object)) (with_members (members_held m w e.object) y) y (λ (u : Entry). u ≡ y) (λ q. refl) (λ q. refl)
knows m w (Some x) e =
    let y = learned_entry (members_held m w e.object) x e in
    cond_both (is_managed (state_of w e.object)) (with_members (members_held m w e.object) y) y (λ (u : Entry). u ≡ y) (λ q. refl) (λ q. refl)

named_any : (ps : List Planned) (x y : Entry) → x.object ≡ y.object → is_planned ps x ≡ is_planned ps y
named_any ps x y same = ap (λ n. list_any (λ (p : Planned). p.object == n) ps) same

-- the first of a plan, or one of the others
module _ (m : PersistenceUnit) (p : Planned) (ps : List Planned) (w : Work) (k : ℕ) (d : Entry) (l : k < length w.context) where
  abbrev n : ℕ
  n = p.object

  abbrev ms : List (Option (List Identity))
  ms = members_held m w n

  abbrev w1 : Work
  w1 = learned m n p.stored w

  abbrev v : Work
  v = learned_by m ps w1

  abbrev e : Entry
  e = get_or v.context k d

  abbrev e0 : Entry
  e0 = get_or w.context k d

  next_within : k < length w1.context
  next_within = subst (λ i. k < i) (sym (same_length m (p ∷ []) w)) l

  last_within : k < length v.context
  last_within = subst (λ i. k < i) (sym (same_length m ps w1)) next_within

  then_same : e.object ≡ (get_or w1.context k d).object
  then_same = same_object w1 v (learned_alike m ps w1) k d next_within last_within

  own : e.object ≡ e0.object
  own = then_same ∙ same_object w w1 (learned_alike m (p ∷ []) w) k d l next_within

  first : (b c : Bool) → (n == e.object) ≡ c → (c || b) ≡ true → b ≡ false → n ≡ e.object
  first b true q h f = eqb-true n e.object q
  first true false q h f = absurd (false≢true (sym f))
  first false false q h f = absurd (false≢true h)

  known_first : n ≡ e.object → is_planned ps e ≡ false → remembered m v e ≡ e
  known_first named q =
      let here : e0.object ≡ n = sym (named ∙ own) in
      let stays : e ≡ get_or w1.context k d = untouched m ps w1 k d next_within (named_any ps (get_or w1.context k d) e (sym then_same) ∙ q) in
      let was : get_or w1.context k d ≡ learned_if ms n p.stored e0 = ap (λ (es : List Entry). get_or es k d) (learned_context m n p.stored w) ∙ get_or-map (learned_if ms n p.stored) w.context k d d l in
      let made : e ≡ learned_as (members_held m w e0.object) p.stored e0 =
      stays ∙ was ∙ cond-true (e0.object == n) (learned_as ms p.stored e0) e0 (eq-eqb e0.object n here) ∙ ap (λ i. learned_as (members_held m w i) p.stored e0) (sym here) in
      remembered_alike m (p ∷ ps) w e ∙ ap (remembered m w) made ∙ knows m w p.stored e0 ∙ sym made

  known_next : (b : Bool) → is_planned ps e ≡ b → (is_planned ps e ≡ true → remembered m v e ≡ e) → (n == e.object || is_planned ps e) ≡ true → remembered m v e ≡ e
  known_next true q rest h = rest q
  known_next false q rest h = known_first (first (is_planned ps e) (n == e.object) refl h q) q

known : (m : PersistenceUnit) (plan : List Planned) (w : Work) (k : ℕ) (d : Entry) → k < length w.context → is_planned plan (get_or (learned_by m plan w).context k d) ≡ true →
    remembered m (learned_by m plan w) (get_or (learned_by m plan w).context k d) ≡ get_or (learned_by m plan w).context k d
known m [] w k d l h = absurd (false≢true h)
known m (p ∷ ps) w k d l h =
    let w1 = learned m p.object p.stored w in
    known_next m p ps w k d l (is_planned ps (get_or (learned_by m ps w1).context k d)) refl (known m ps w1 k d (next_within m p ps w k d l)) h

-- ---- what has no action is not planned

one_unplanned : (m : PersistenceUnit) (w : Work) (e x : Entry) (a : Option Action) → (x.object ≡ e.object → a ≡ None) → is_planned (map (item m w) (flushes.planned m w x a)) e ≡ false
one_unplanned m w e x None h = refl
one_unplanned m w e x (Some a) h = by (x.object == e.object) refl
  where
    by : (b : Bool) → (x.object == e.object) ≡ b → (x.object == e.object || false) ≡ false
    by true q = let no : Some a ≡ None = h (eqb-true x.object e.object q) in absurd cc
    by false q = ap (λ b. b || false) q

each_unplanned : (m : PersistenceUnit) (w : Work) (e : Entry) (es : List Entry) → ((i : ℕ) (d : Entry) → i < length es → (get_or es i d).object ≡ e.object → action_of m w (get_or es i d) ≡ None) → is_planned (flat_map (planned_of m w) es) e ≡ false
each_unplanned m w e [] h = refl
each_unplanned m w e (x ∷ xs) h =
    list_any-append (λ (p : Planned). p.object == e.object) (planned_of m w x) (flat_map (planned_of m w) xs)
    ∙ or_from (is_planned (planned_of m w x) e) (is_planned (flat_map (planned_of m w) xs) e) (one_unplanned m w e x (action_of m w x) (h 0 x (omega arith)))
    (each_unplanned m w e xs (λ i d l. h (suc i) d (omega (arith, l))))

-- ---- together

module _ (m : PersistenceUnit) (w : Work) (distinct : AreDistinct w.context) (places : List ℕ) (looked : AreLooked (λ e. is_calm m w e ≡ true) w.context places) (plan : List Planned) (is : plan ≡ plan_of m w) where
  calm_unplanned : (k : ℕ) (d : Entry) → k < length w.context → list_any (λ p. p == k) places ≡ false → is_planned plan (get_or w.context k d) ≡ false
  calm_unplanned k d l apart =
      ap (λ ps. is_planned ps (get_or w.context k d)) (is ∙ sym (all_planned m w))
      ∙ each_unplanned m w (get_or w.context k d) w.context (λ i c j same. by i c j same (cases_eq i k))
    where
      by : (i : ℕ) (c : Entry) → i < length w.context → (get_or w.context i c).object ≡ (get_or w.context k d).object → (i ≡ k) ⊎ (i ≢ k) → action_of m w (get_or w.context i c) ≡ None
      by i c j same (inl q) = calm_action m w (get_or w.context i c) (looked.others i c j (ap (λ n. list_any (λ p. p == n) places) q ∙ apart))
      by i c j same (inr q) = absurd (other_object w.context i k c d distinct q j l same)

  pub silent_elsewhere : AreLooked (λ e. remembered m (learned_by m plan w) e ≡ e) (learned_by m plan w).context places
  silent_elsewhere =
      record {
        rising = subst (λ n. AreRising n places) (sym (same_length m plan w)) looked.rising;
        others = λ k d l apart.
            let l0 : k < length w.context = subst (λ n. k < n) (same_length m plan w) l in
            subst (λ u. remembered m (learned_by m plan w) u ≡ u) (sym (untouched m plan w k d l0 (calm_unplanned k d l0 apart)))
            (remembered_alike m plan w (get_or w.context k d) ∙ calm_remembered m w (get_or w.context k d) (looked.others k d l0 apart));
      }

pub silent_planned : (m : PersistenceUnit) (w : Work) (plan : List Planned) → All (λ e. is_planned plan e ≡ true → remembered m (learned_by m plan w) e ≡ e) (learned_by m plan w).context
silent_planned m w plan k d l h = known m plan w k d (subst (λ n. k < n) (same_length m plan w) l) h
