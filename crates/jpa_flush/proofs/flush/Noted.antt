-- The marks at the end of a call: what undo lists noted is looked at, and the rest is as it was.
use Rattle.std.proofs.Common.{◌≡◌, ◌∙◌, ◌⊎◌, ◌≢◌, inl, inr, ℕ, ◌<◌, ◌≤◌, Bool, true, false, not, List, [], ◌∷◌, length, take, get_or, refl, ap, sym, subst, Less, Equal, Greater, Ordering}
use Rattle.std.specs.Prelude.{◌==◌, ◌&&◌, ◌||◌, slice_set}
use Rattle.std.specs.Ordering.{is_eq}
use Rattle.std.specs.List.{AllByRecursion}
use Rattle.std.proofs.lemmas.Bool.{and_parts, false≢true, cases_eq, cases_lt, eqb-true, ltb-true}
use Rattle.std.proofs.lemmas.List.{get_or-set_same, get_or-set_other, get_or-take, set_past}
use Rattle.jpa_work.specs.undo.Undo.{put_back}
use Rattle.jpa_value.specs.Value.{key_cmp}
use Rattle.jpa_value.proofs.Orders.{key_exact}
use Rattle.jpa_work.specs.declared.heap.LiveObject.{LiveObject}
use Rattle.jpa_work.specs.heap.Objects.{is_new, no_object}
use Rattle.jpa_work.specs.declared.context.Entry.{Entry}
use Rattle.jpa_work.specs.declared.context.EntityState.{EntityState}
use Rattle.jpa_work.specs.context.Work.{Work, is_managed, object, state_from, state_of}
use Rattle.jpa_flush.specs.flush.Flush.{is_storable}
use Rattle.jpa_work.specs.context.Marks.{is_marked}
use Rattle.jpa_flush.specs.flush.Marked.{AreNoted, IsAnew, IsNamedStill, IsUntouched, LeadsStill, LinksKept, MarksGoOn, NamesKept, keeps_links, keeps_name, may_lead}
use Rattle.jpa_flush.proofs.flush.Silent.{calm_parts}
use Rattle.jpa_flush.proofs.flush.Untouched.{calm_on, linked_on}

-- ---- what is put back (these two stand with the undo list)

back_by : {T : Type 0} (P : T → Type 0) (items : List T) (os : List (ℕ × T)) (i : ℕ) (d : T) → AllByRecursion (λ o. o.0 ≡ i → P o.1) os → P (get_or items i d) → P (get_or (put_back items os) i d)
back_by P items [] i d h p = p
back_by {T} P items (o ∷ os) i d h p = by (put_back items os) (back_by P items os i d h.1 p) (cases_eq i o.0) (cases_lt o.0 (length (put_back items os)))
  where
    by : (rest : List T) → P (get_or rest i d) → (i ≡ o.0) ⊎ (i ≢ o.0) → (o.0 < length rest) ⊎ (length rest ≤ o.0) → P (get_or (slice_set rest o.0 o.1) i d)
    by rest old (inr apart) l = subst P (sym (get_or-set_other rest o.0 i o.1 d apart)) old
    by rest old (inl e) (inl l) = subst P (sym (ap (λ j. get_or (slice_set rest o.0 o.1) j d) e ∙ get_or-set_same rest o.0 o.1 d l)) (h.0 (sym e))
    by rest old (inl e) (inr l) = subst (λ xs. P (get_or xs i d)) (sym (set_past rest o.0 o.1 l)) old

pub since_by : {T : Type 0} (P : T → Type 0) (now since : List T) (os : List (ℕ × T)) (i : ℕ) (d : T) → since ≡ take (length since) (put_back now os) → i < length since →
    AllByRecursion (λ o. o.0 ≡ i → P o.1) os → P (get_or now i d) → P (get_or since i d)
since_by P now since os i d back l h p =
    subst P (sym (ap (λ xs. get_or xs i d) back ∙ get_or-take (length since) (put_back now os) i d l)) (back_by P now os i d h p)

-- ---- what each noted object says of all

-- the notes of the heap: w as undoing gives it, v as it is
module _ (w v : Work) (os : List (ℕ × LiveObject)) (back : AreNoted w v os) where
  equal : (o : Ordering) → is_eq o ≡ true → o ≡ Equal
  equal Less e = absurd (false≢true e)
  equal Equal e = refl
  equal Greater e = absurd (false≢true e)

  not_new : (b : Bool) → not b ≡ true → b ≡ false
  not_new true h = absurd (false≢true h)
  not_new false h = refl

  name_kept : (x y : LiveObject) → keeps_name x y ≡ true → is_new x.life ≡ false → IsNamedStill x y
  name_kept x y h old = by (is_new x.life) old h
    where
      by : (b : Bool) → b ≡ false → (b || (not (is_new y.life) && ((y.class == x.class) && is_eq (key_cmp y.key x.key)))) ≡ true → IsNamedStill x y
      by true e k = absurd (false≢true (sym e))
      by false e k =
          let p = and_parts (not (is_new y.life)) _ k in
          let q = and_parts (y.class == x.class) (is_eq (key_cmp y.key x.key)) p.1 in
          record { class = eqb-true y.class x.class q.0; key = key_exact y.key x.key (equal (key_cmp y.key x.key) q.1); old = not_new (is_new y.life) p.0 }

  abbrev KeepNames : Type 0
  KeepNames = AllByRecursion (λ (o : ℕ × LiveObject). keeps_name o.1 (object v o.0) ≡ true) os

  abbrev KeepLinks : Type 0
  KeepLinks = AllByRecursion (λ (o : ℕ × LiveObject). keeps_links w.manager o.1 (object v o.0) ≡ true) os

  each_at : (P Q : ℕ × LiveObject → Type 0) → ((o : ℕ × LiveObject) → P o → Q o) → (ns : List (ℕ × LiveObject)) → AllByRecursion P ns → AllByRecursion Q ns
  each_at P Q f [] h = tt
  each_at P Q f (n ∷ ns) h = (f n h.0, each_at P Q f ns h.1)

  names_by : KeepNames → (k : ℕ) → k < length w.objects → is_new (object w k).life ≡ false → IsNamedStill (object w k) (object v k)
  names_by h k l =
      since_by (λ (x : LiveObject). is_new x.life ≡ false → IsNamedStill x (object v k)) v.objects w.objects os k no_object back l
      (each_at (λ o. keeps_name o.1 (object v o.0) ≡ true) (λ o. o.0 ≡ k → is_new (o.1).life ≡ false → IsNamedStill o.1 (object v k))
      (λ o kept e old. subst (λ j. IsNamedStill o.1 (object v j)) e (name_kept o.1 (object v o.0) kept old)) os h)
      (λ old. record { class = refl; key = refl; old = old })

  -- ---- where it leads

  may_by : (b : Bool) (x y : LiveObject) → keeps_links w.manager x y ≡ true → may_lead b (state_from w.manager x.life) ≡ true → may_lead b (state_from w.manager y.life) ≡ true
  may_by true x y h g = by (is_managed (state_from w.manager y.life)) (is_managed (state_from w.manager x.life)) g h
    where
      by : (c a : Bool) → a ≡ true → (c || (not a && (not (is_storable (state_from w.manager x.life)) || is_storable (state_from w.manager y.life)))) ≡ true → c ≡ true
      by true a e k = refl
      by false true e k = absurd (false≢true k)
      by false false e k = absurd (false≢true e)
  may_by false x y h g = by (state_from w.manager y.life) (is_managed (state_from w.manager x.life)) (is_storable (state_from w.manager x.life)) g h
    where
      by : (s : EntityState) (a c : Bool) → c ≡ true → (is_managed s || (not a && (not c || is_storable s))) ≡ true → is_storable s ≡ true
      by EntityState.Managed a c e k = refl
      by EntityState.Detached a c e k = refl
      by EntityState.New a true e k = absurd (false≢true (sym (never a) ∙ k))
        where
          never : (a : Bool) → (not a && false) ≡ false
          never true = refl
          never false = refl
      by EntityState.New a false e k = absurd (false≢true e)
      by EntityState.Removed a true e k = absurd (false≢true (sym (never a) ∙ k))
        where
          never : (a : Bool) → (not a && false) ≡ false
          never true = refl
          never false = refl
      by EntityState.Removed a false e k = absurd (false≢true e)

  links_by : v.manager ≡ w.manager → KeepLinks → LeadsStill w v
  links_by same h b k named =
      let l = ltb-true k (length w.objects) (and_parts _ _ named).0 in
      since_by (λ (x : LiveObject). may_lead b (state_from w.manager x.life) ≡ true → may_lead b (state_of v k) ≡ true) v.objects w.objects os k no_object back l
      (each_at (λ o. keeps_links w.manager o.1 (object v o.0) ≡ true) (λ o. o.0 ≡ k → may_lead b (state_from w.manager (o.1).life) ≡ true → may_lead b (state_of v k) ≡ true)
      (λ o kept e leads. subst (λ j. may_lead b (state_of v j) ≡ true) e
      (ap (λ m. may_lead b (state_from m (object v o.0).life)) same ∙ may_by b o.1 (object v o.0) kept leads)) os h)
      (λ leads. ap (λ m. may_lead b (state_from m (object v k).life)) same ∙ leads)

pub names_kept : NamesKept
names_kept w v os back h = names_by w v os back h

pub links_kept : LinksKept
links_kept w v os back same h = links_by w v os back same h

-- ---- the marks

pub marks_go_on : MarksGoOn
marks_go_on m w v old new on was leads before h i d l unmarked = by (get_or v.context i d) unmarked (h i d l)
  where
    by : (e : Entry) → is_marked new e.object ≡ false → IsAnew m w v old new e → IsUntouched m v new.linked e
    by e unmarked (inl untouched) = untouched
    by e unmarked (inr (inl marked)) = absurd (false≢true (sym unmarked ∙ marked))
    by e unmarked (inr (inr k)) =
        let u = subst (λ (x : Entry). is_marked old x.object ≡ false → IsUntouched m w old.linked x) k.2 (before k.0 e k.1) k.4 in
        record {
          calm = calm_on m on e k.3 u.calm;
          links = λ linked. linked_on m on (leads linked) e.object k.3 (calm_parts m w e u.calm).named (u.links (was linked));
        }
