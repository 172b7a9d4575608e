-- The targets of an owner's pairs, among rows of the unit's tables: they rise, and are identities of the relation's target.
use Rattle.std.specs.Prelude.{◌≡◌, ℕ, Bool, true, T, List, [], ◌∷◌, ◌++◌, Option, Some, None, option_map}
use Rattle.std.proofs.Common.{refl, sym, ap, subst, ◌∙◌, inl, inr}
use Rattle.std.specs.Cmp.{nat_cmp_total, tied_itself}
use Rattle.std.specs.FinMap.Entries.{below_all}
use Rattle.std.specs.List.{list_all}
use Rattle.std.specs.Ordering.{is_lt, nat_cmp, ordering_then}
use Rattle.jpa_value.specs.declared.value.Value.{Value}
use Rattle.jpa_value.specs.declared.value.Identity.{Identity}
use Rattle.jpa_value.specs.Value.{key_cmp, identity_cmp}
use Rattle.jpa_value.proofs.Orders.{value_total}
use Rattle.jpa_model.specs.declared.unit.PersistenceUnit.{PersistenceUnit}
use Rattle.jpa_model.specs.Chains.{root_of, relations_of}
use Rattle.jpa_stored.specs.objects.Sets.{is_below, is_rising, is_identity_of}
use Rattle.jpa_rows.specs.rows.Cells.{names_representable}
use Rattle.jpa_rows.specs.rows.Rows.{RowId, Row, Rows, AreRising}
use Rattle.jpa_rows.specs.rows.Tables.{schema_of}
use Rattle.jpa_rows.proofs.laws.Elements.{Has}
use Rattle.jpa_rows.proofs.laws.Facts.{and_both, is_less, first_holds, second_holds}
use Rattle.jpa_rows.proofs.laws.Lists.{all_each}
use Rattle.jpa_object_rows.specs.meaning.Rows.{row_of}
use Rattle.jpa_object_rows.specs.meaning.Unambiguous.{IsUnambiguous, is_class}
use Rattle.jpa_object_rows.proofs.meaning.Bytes.Spelling.{Paired, paired}
use Rattle.jpa_object_rows.specs.meaning.Raw.{is_id_of, AreRowsOf}
use Rattle.jpa_object_rows.specs.meaning.Sets.{identity_of, if_any, targets_in}
use Rattle.jpa_object_rows.proofs.meaning.Stored.{owns}
use Rattle.jpa_object_rows.proofs.meaning.Targets.{OwnsIn, after_joined, target_read}
use Rattle.jpa_object_rows.specs.mapper.Pairs.{pair_target}
use Rattle.jpa_object_rows.proofs.mapper.Refilled.{AreOwned, MayOwn}
use Rattle.jpa_object_rows.proofs.mapper.Walk.{picked, picked_table, Gives, gives}

-- keys that begin alike are in the order of what follows
after_order : (x y z : List Value) → key_cmp (x ++ y) (x ++ z) ≡ key_cmp y z
after_order [] y z = refl
after_order (v ∷ x) y z = ap (λ o. ordering_then o (key_cmp (x ++ y) (x ++ z))) (tied_itself value_total v) ∙ after_order x y z

module _ (join table : ℕ) (owner : List Value) where
  -- targets are in the order of their rows
  target_order : (id other : RowId) (t u : Identity) → Gives join table owner id t → Gives join table owner other u → identity_cmp id other ≡ identity_cmp t u
  target_order id other t u g h =
      (λ i. identity_cmp (g.same i) (h.same i))
      ∙ ap (λ o. ordering_then o (key_cmp (owner ++ g.rest) (owner ++ h.rest))) (tied_itself nat_cmp_total join ∙ sym (tied_itself nat_cmp_total table))
      ∙ ap (ordering_then (nat_cmp table table)) (after_order owner g.rest h.rest)
      ∙ (λ i. identity_cmp (g.target i) (h.target i))

  first_below : (id : RowId) (t : Identity) → Gives join table owner id t → (rows : Rows) → T (below_all identity_cmp id rows) → is_below t (picked join table owner rows) ≡ true
  first_below id t g [] low = refl
  first_below id t g (e ∷ rows) low = by_target (pair_target join table owner e.0) refl (first_below id t g rows (second_holds _ _ low))
    where
      by_target : (o : Option Identity) → pair_target join table owner e.0 ≡ o → is_below t (picked join table owner rows) ≡ true → is_below t (if_any o ++ picked join table owner rows) ≡ true
      by_target None f rest = rest
      by_target (Some u) f rest = ap is_lt (sym (target_order id e.0 t u g (gives join table owner e.0 u f)) ∙ is_less _ (first_holds _ _ low))

  pub picked_rises : (rows : Rows) → AreRising rows → is_rising (picked join table owner rows) ≡ true
  picked_rises [] rise = refl
  picked_rises (e ∷ rows) rise = by_target (pair_target join table owner e.0) refl (picked_rises rows (second_holds _ _ rise))
    where
      by_target : (o : Option Identity) → pair_target join table owner e.0 ≡ o → is_rising (picked join table owner rows) ≡ true → is_rising (if_any o ++ picked join table owner rows) ≡ true
      by_target None f rest = rest
      by_target (Some t) f rest = and_both (is_below t (picked join table owner rows)) _ (first_below e.0 t (gives join table owner e.0 t f) rows (first_holds _ _ rise)) rest

  all_picked : (p : Identity → Bool) (rows : Rows) → ((e : RowId × Row) → Has rows e → (t : Identity) → pair_target join table owner e.0 ≡ Some t → p t ≡ true)
      → list_all p (picked join table owner rows) ≡ true
  all_picked p [] h = refl
  all_picked p (e ∷ rows) h = by_target (pair_target join table owner e.0) (h e (inl refl)) (all_picked p rows (λ d k. h d (inr k)))
    where
      by_target : (o : Option Identity) → ((t : Identity) → o ≡ Some t → p t ≡ true) → list_all p (picked join table owner rows) ≡ true → list_all p (if_any o ++ picked join table owner rows) ≡ true
      by_target None g rest = rest
      by_target (Some t) g rest = and_both (p t) _ (g t refl) rest

-- ---- of an owner

module _ (m : PersistenceUnit) (owner : Identity) (join target : ℕ) (own : OwnsIn m owner join target) where
  target_paired : (id : RowId) → is_id_of (schema_of m) id ≡ true → (t : Identity) → pair_target join (root_of m target).table owner.key id ≡ Some t
      → Paired m target owner join (row_of id) t
  target_paired id named t e =
      let g = gives join (root_of m target).table owner.key id t e in
      let key = owner.key ++ g.rest in
      subst (λ z. Paired m target owner join (row_of z) t) (sym g.same)
      (paired m target owner join (row_of (identity_of join key)) t
      (target_read m owner join target own key (ap (is_id_of (schema_of m)) (sym g.same) ∙ named)
      ∙ ap (option_map (identity_of (root_of m target).table)) (after_joined owner.key g.rest) ∙ ap Some g.target))

module _ (m : PersistenceUnit) (clear : IsUnambiguous m) (class : ℕ) (is : is_class m class ≡ true) (owner : Identity) (of_root : is_identity_of (root_of m class) owner ≡ true)
    (real : names_representable owner ≡ true) (rows : Rows) (h : AreRowsOf (schema_of m) rows) where
  pub may_own : MayOwn m (targets_in m rows owner) (relations_of m class)
  may_own r has join side =
      let table = (root_of m r.target).table in
      let own = owns m clear class is owner of_root real r has join side in
      let each = λ (e : RowId × Row) (k : Has rows e) (t : Identity) (f : pair_target join table owner.key e.0 ≡ Some t).
      target_paired m owner join r.target own e.0 (all_each (λ (d : RowId × Row). is_id_of (schema_of m) d.0 ≡ true) rows h.named e k) t f in
      subst (AreOwned m r) (picked_table join table owner.key rows)
      (record {
        rising = picked_rises join table owner.key rows h.rising;
        of_target = all_picked join table owner.key (is_identity_of (root_of m r.target)) rows (λ e k t f. (each e k t f).of_target);
        real = all_picked join table owner.key names_representable rows (λ e k t f. (each e k t f).representable);
      })
