-- What is to stand under identities, one by one: each is put, or taken out, where the committed set has what it had.
use Rattle.std.specs.Prelude.{◌≡◌, ℕ, zero, suc, ◌<◌, ◌+◌, Bool, true, false, not, List, [], ◌∷◌, ◌++◌, length, Option, Some, None}
use Rattle.std.proofs.Common.{refl, sym, ap, subst, ◌∙◌, arith, get_or, take}
use Rattle.std.proofs.lemmas.List.{take_more, length-map, get_or-map}
use Rattle.std.specs.List.{list_any, AllByRecursion}
use Rattle.std.specs.Option.{option_copied}
use Rattle.jpa_value.specs.declared.value.Identity.{Identity}
use Rattle.jpa_value.specs.Value.{same_identity}
use Rattle.jpa_behaviour.specs.Behaviour.{World}
use Rattle.jpa_stored.specs.declared.objects.stored.Stored.{Stored}
use Rattle.jpa_stored.specs.objects.Sets.{StoredSet, stored_at, all_distinct}
use Rattle.jpa_rows.proofs.laws.Facts.{and_first, and_second, true_false}
use Rattle.jpa_rows.proofs.laws.Elements.{Has}
use Rattle.jpa_rows.proofs.laws.Lists.{has_any, all_each}
use Rattle.jpa_rows.proofs.laws.Maps.{found_other, dropped_other, ties_back}
use Rattle.jpa_object_rows.proofs.meaning.Bytes.Classes.{item_at}
use Rattle.jpa_object_rows.proofs.meaning.Bytes.Orders.{identities}
use Rattle.jpa_object_rows.proofs.meaning.Bytes.SetLaws.{is_without}
use Rattle.jpa_object_rows.specs.declared.store.object_change.ObjectChange.{ObjectChange}
use Rattle.jpa_object_rows.specs.store.Written.{entry_in, entries_in, is_storable_if_any, with_or_without, set_after}

abbrev pub Entry : Type 0
Entry = Identity × Option Stored

after_last : (es : List Entry) (e : Entry) (set : StoredSet) → set_after (es ++ e ∷ []) set ≡ with_or_without e.0 e.1 (set_after es set)
after_last [] e set = refl
after_last (d ∷ es) e set = after_last es e (with_or_without d.0 d.1 set)

-- one identity more
pub after_more : (es : List Entry) (i : ℕ) (e : Entry) (set : StoredSet) → i < length es → e ≡ get_or es i e → set_after (take (i + 1) es) set ≡ with_or_without e.0 e.1 (set_after (take i es) set)
after_more es i e set l is =
    ap (λ ds. set_after ds set) (take_more es i e l ∙ ap (λ d. take i es ++ d ∷ []) (sym is)) ∙ after_last (take i es) e set

-- ---- one after another

-- what is to stand under another identity leaves what stands under this one
pub other_left : (q id : Identity) (x : Option Stored) (set : StoredSet) → same_identity q id ≡ false → stored_at (with_or_without id x set) q ≡ stored_at set q
other_left q id None set apart = ap (λ s. stored_at s q) (sym (is_without id set)) ∙ dropped_other identities q id set apart
other_left q id (Some x) set apart = found_other identities q id x set apart

AreOthers : Identity → List Entry → Type 0
AreOthers id = AllByRecursion (λ e. same_identity e.0 id ≡ false)

untouched : (es : List Entry) (id : Identity) (set : StoredSet) → AreOthers id es → stored_at (set_after es set) id ≡ stored_at set id
unfolding AreOthers
untouched [] id set h = refl
untouched (e ∷ es) id set h =
    untouched es id (with_or_without e.0 e.1 set) h.1 ∙ other_left id e.0 e.1 set (sym (ties_back identities id e.0) ∙ h.0)

not_any : (b : Bool) → not b ≡ true → b ≡ true → ⊥
not_any true h e = true_false (sym h)
not_any false h e = true_false (sym e)

is_other : (b : Bool) → (b ≡ true → ⊥) → b ≡ false
is_other true h = absurd (h refl)
is_other false h = refl

others : (es : List Entry) (i : ℕ) (d : Entry) → all_distinct (λ a b. same_identity a.0 b.0) es ≡ true → i < length es → AreOthers (get_or es i d).0 (take i es)
unfolding AreOthers
others [] i d h l = absurd (omega arith)
others (e ∷ es) zero d h l = tt
others (e ∷ es) (suc i) d h l =
    let later = λ (b : Entry). same_identity e.0 b.0 in (
      is_other (same_identity e.0 (get_or es i d).0) (λ same. not_any (list_any later es) (and_first (not (list_any later es)) _ h) (has_any later es (get_or es i d) (item_at es i d (omega arith)) same)),
      others es i d (and_second (not (list_any later es)) _ h) (omega arith),
    )

-- no identity comes twice: each is put over what the committed set has
pub still_committed : (es : List Entry) (i : ℕ) (e : Entry) (set : StoredSet) → all_distinct (λ a b. same_identity a.0 b.0) es ≡ true → i < length es → e ≡ get_or es i e
    → stored_at (set_after (take i es) set) e.0 ≡ stored_at set e.0
still_committed es i e set h l is = untouched (take i es) e.0 set (subst (λ (d : Entry). AreOthers d.0 (take i es)) (sym is) (others es i e h l))

-- ---- the same of changes

module _ (cs : List ObjectChange) (i : ℕ) (change : ObjectChange) (l : i < length cs) (is : change ≡ get_or cs i change) where
  below : i < length (entries_in cs)
  below = subst (λ n. i < n) (sym (length-map cs entry_in)) l

  entry_is : entry_in change ≡ get_or (entries_in cs) i (entry_in change)
  entry_is = ap entry_in is ∙ sym (get_or-map entry_in cs i change (entry_in change) l)

  pub change_more : (set : StoredSet) → set_after (take (i + 1) (entries_in cs)) set ≡ with_or_without change.id.now (option_copied change.object) (set_after (take i (entries_in cs)) set)
  change_more set = after_more (entries_in cs) i (entry_in change) set below entry_is

  pub change_committed : (set : StoredSet) → all_distinct (λ a b. same_identity a.0 b.0) (entries_in cs) ≡ true → stored_at (set_after (take i (entries_in cs)) set) change.id.now ≡ stored_at set change.id.now
  change_committed set distinct = still_committed (entries_in cs) i (entry_in change) set distinct below entry_is

  pub change_storable : (world : World) → AllByRecursion (λ (e : Entry). is_storable_if_any world e.0 e.1 ≡ true) (entries_in cs) → is_storable_if_any world change.id.now (option_copied change.object) ≡ true
  change_storable world all =
      all_each (λ (e : Entry). is_storable_if_any world e.0 e.1 ≡ true) (entries_in cs) all (entry_in change)
      (subst (λ (e : Entry). Has (entries_in cs) e) (sym entry_is) (item_at (entries_in cs) i (entry_in change) below))
