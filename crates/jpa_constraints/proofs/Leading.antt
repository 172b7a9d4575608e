-- Where nothing leads to an identity nothing leads there in a wrong relation; and the ends of loops over relations.
use Rattle.std.specs.Prelude.{◌≡◌, ℕ, Bool, true, false, not, ◌&&◌, ◌||◌, ◌≤◌, List, [], ◌∷◌, length, drop}
use Rattle.std.proofs.Common.{refl, sym, ap, ◌∙◌}
use Rattle.std.specs.List.{list_any, zip}
use Rattle.std.proofs.lemmas.Bool.{false≢true}
use Rattle.std.proofs.Math.ListN.{drop_of_length-le}
use Rattle.jpa_value.specs.declared.value.Identity.{Identity}
use Rattle.jpa_value.specs.Value.{same_identity}
use Rattle.jpa_model.specs.declared.unit.PersistenceUnit.{PersistenceUnit}
use Rattle.jpa_model.specs.declared.unit.Relation.{Relation}
use Rattle.jpa_model.specs.Chains.{relations_of}
use Rattle.jpa_stored.specs.objects.Sets.{StoredSet}
use Rattle.jpa_stored.proofs.objects.Zips.{no_pairs}
use Rattle.jpa_open.specs.Leads.{is_led_to, owns_anywhere, holds_in, holds_where, leads_well, leads_wrong}
use Rattle.jpa_open.proofs.Placed.{any_more}

in_some : (f : Relation → Bool) (id : Identity) (relations : List Relation) (owned : List (List Identity)) → holds_in f id relations owned ≡ true → list_any (list_any (same_identity id)) owned ≡ true
in_some f id [] owned h = absurd (false≢true h)
in_some f id (r ∷ relations) [] h = absurd (false≢true h)
in_some f id (r ∷ relations) (ids ∷ owned) h = by_first (f r) (list_any (same_identity id) ids) (in_some f id relations owned) h
  where
    by_first : (a b : Bool) → (holds_in f id relations owned ≡ true → list_any (list_any (same_identity id)) owned ≡ true) → ((a && b) || holds_in f id relations owned) ≡ true → (b || list_any (list_any (same_identity id)) owned) ≡ true
    by_first a true rest h = refl
    by_first true false rest h = rest h
    by_first false false rest h = rest h

pub none_leads : (m : PersistenceUnit) (s : StoredSet) (id : Identity) → is_led_to s id ≡ false → leads_well m s id ≡ true
none_leads m s id h = by_any (list_any (holds_where m (leads_wrong m s id) id) s) refl
  where
    by_any : (b : Bool) → list_any (holds_where m (leads_wrong m s id) id) s ≡ b → not b ≡ true
    by_any true e =
        absurd (false≢true (sym h ∙ any_more (holds_where m (leads_wrong m s id) id) (owns_anywhere id) (λ e. in_some (leads_wrong m s id) id (relations_of m (e.1).class) (e.1).owned) s e))
    by_any false e = refl

pub no_pairs_left : {A B : Type 0} (xs : List A) (ys : List B) (i : ℕ) → length ys ≤ i → zip xs (drop i ys) ≡ []
no_pairs_left xs ys i h = ap (zip xs) (drop_of_length-le ys h) ∙ no_pairs xs
