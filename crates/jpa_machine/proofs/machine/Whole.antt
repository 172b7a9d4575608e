-- What holds of each object of a set holds still where one is put or some are taken out.
use Rattle.std.proofs.Common.{◌≡◌, ◌&&◌, Bool, true, false, cond, List, [], ◌∷◌, refl, ap, sym, ◌∙◌, Ordering, Less, Equal, Greater}
use Rattle.std.specs.Prelude.{not}
use Rattle.std.specs.List.{list_all, list_any}
use Rattle.std.specs.FinMap.Entries.{by_order}
use Rattle.std.proofs.lemmas.Bool.{and_parts}
use Rattle.jpa_value.specs.declared.value.Identity.{Identity}
use Rattle.jpa_value.specs.Value.{identity_cmp, same_identity}
use Rattle.jpa_value.proofs.Orders.{identity_exact}
use Rattle.jpa_stored.specs.declared.objects.stored.Stored.{Stored}
use Rattle.jpa_stored.specs.objects.Sets.{StoredSet, with_stored, without}

both : (a b : Bool) → a ≡ true → b ≡ true → a && b ≡ true
both a b p q = ap (λ x. x && b) p ∙ q

module _ (p : Identity × Stored → Bool) where
  pub all_with : (id : Identity) (x : Stored) (s : StoredSet) → p (id, x) ≡ true → list_all p s ≡ true → list_all p (with_stored id x s) ≡ true
  all_with id x [] q h = both (p (id, x)) true q refl
  all_with id x (e ∷ es) q h = by_place (all_with id x es q (and_parts (p e) (list_all p es) h).1) (identity_cmp id e.0) refl
    where
      by_place : list_all p (with_stored id x es) ≡ true → (r : Ordering) → identity_cmp id e.0 ≡ r → list_all p (by_order r ((id, x) ∷ e ∷ es) ((e.0, x) ∷ es) (e ∷ with_stored id x es)) ≡ true
      by_place rest Less k = both (p (id, x)) _ q h
      by_place rest Equal k = both (p (e.0, x)) _ (ap (λ i. p (i, x)) (sym (identity_exact id e.0 k)) ∙ q) (and_parts (p e) (list_all p es) h).1
      by_place rest Greater k = both (p e) _ (and_parts (p e) (list_all p es) h).0 rest

  pub all_without : (ids : List Identity) (s : StoredSet) → list_all p s ≡ true → list_all p (without ids s) ≡ true
  all_without ids [] h = refl
  all_without ids (e ∷ es) h = by_test (all_without ids es (and_parts (p e) (list_all p es) h).1) (not (list_any (same_identity e.0) ids))
    where
      by_test : list_all p (without ids es) ≡ true → (b : Bool) → list_all p (cond b (e ∷ without ids es) (without ids es)) ≡ true
      by_test rest true = both (p e) _ (and_parts (p e) (list_all p es) h).0 rest
      by_test rest false = rest
