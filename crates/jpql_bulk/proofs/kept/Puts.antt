-- What holds of each entry of a set holds still where entries are put that have it.
use Rattle.std.proofs.Common.{◌≡◌, refl, subst, Bool, true, [], ◌∷◌}
use Rattle.std.specs.List.{list_all}
use Rattle.std.specs.declared.cmp.Ordering.{Ordering}
use Rattle.std.specs.declared.cmp.Ordering.TheVariants.{Less, Equal, Greater}
use Rattle.std.specs.FinMap.Entries.{put, by_order}
use Rattle.std.proofs.lemmas.Bool.{and_from, and_parts}
use Rattle.jpa_value.specs.declared.value.Identity.{Identity}
use Rattle.jpa_value.specs.Value.{identity_cmp}
use Rattle.jpa_value.proofs.Orders.{identity_exact}
use Rattle.jpa_stored.specs.declared.objects.stored.Stored.{Stored}
use Rattle.jpa_stored.specs.objects.Sets.{StoredSet, with_stored, put_all}

put_step : (p : Identity × Stored → Bool) (id : Identity) (x : Stored) (e : Identity × Stored) (es : StoredSet) (o : Ordering) → identity_cmp id e.0 ≡ o → p (id, x) ≡ true → p e ≡ true
    → list_all p es ≡ true → list_all p (put identity_cmp id x es) ≡ true → list_all p (by_order o ((id, x) ∷ e ∷ es) ((e.0, x) ∷ es) (e ∷ put identity_cmp id x es)) ≡ true
put_step p id x e es Less q h k l r = and_from (p (id, x)) (list_all p (e ∷ es)) h (and_from (p e) (list_all p es) k l)
put_step p id x e es Equal q h k l r = and_from (p (e.0, x)) (list_all p es) (subst (λ i. p (i, x) ≡ true) (identity_exact id e.0 q) h) l
put_step p id x e es Greater q h k l r = and_from (p e) (list_all p (put identity_cmp id x es)) k r

put_holds : (p : Identity × Stored → Bool) (id : Identity) (x : Stored) (s : StoredSet) → p (id, x) ≡ true → list_all p s ≡ true → list_all p (with_stored id x s) ≡ true
put_holds p id x [] h k = and_from (p (id, x)) true h refl
put_holds p id x (e ∷ es) h k =
    let a = and_parts (p e) (list_all p es) k in
    put_step p id x e es (identity_cmp id e.0) refl h a.0 a.1 (put_holds p id x es h a.1)

-- of all that are put one after another
pub all_put : (p : Identity × Stored → Bool) (es s : StoredSet) → list_all p es ≡ true → list_all p s ≡ true → list_all p (put_all es s) ≡ true
all_put p [] s h k = k
all_put p (e ∷ es) s h k = let a = and_parts (p e) (list_all p es) h in all_put p es (with_stored e.0 e.1 s) a.1 (put_holds p e.0 e.1 s a.0 k)
