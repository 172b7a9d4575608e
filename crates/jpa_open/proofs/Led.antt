-- Candidates among which are all objects that own an identity at a place.
use Rattle.std.specs.Prelude.{◌≡◌, Bool, true, false, ◌||◌, List, [], ◌∷◌, ◌++◌}
use Rattle.std.specs.Borrow.{Bor}
use Rattle.std.proofs.Common.{refl, sym, ap, ◌∙◌}
use Rattle.std.specs.List.{list_any}
use Rattle.std.proofs.lemmas.Bool.{false≢true}
use Rattle.std.proofs.lemmas.List.Folds.{list_any-append}
use Rattle.jpa_value.specs.declared.value.Identity.{Identity}
use Rattle.jpa_value.specs.Value.{same_identity}
use Rattle.jpa_stored.specs.declared.objects.stored.Stored.{Stored}
use Rattle.jpa_stored.specs.objects.Sets.{StoredSet, stored_at}
use Rattle.jpa_open.specs.declared.reference.Reference.{Reference}
use Rattle.jpa_open.specs.Opened.{lent_ids}
use Rattle.jpa_open.specs.References.{test_at}
use Rattle.jpa_open.specs.Valued.{AreAllThat}
use Rattle.jpa_open.proofs.Indexed.{yielded_owner}

-- whether an identity is among these where they stand
abbrev pub among : List (Bor Identity) → Identity → Bool
among ids q = list_any (same_identity q) (lent_ids ids)

lent_more : (ids : List (Bor Identity)) (id : Bor Identity) → lent_ids (ids ++ id ∷ []) ≡ lent_ids ids ++ id.now ∷ []
lent_more [] id = refl
lent_more (x ∷ ids) id = ap (λ rest. x.now ∷ rest) (lent_more ids id)

-- one more
among_more : (ids : List (Bor Identity)) (id : Bor Identity) (q : Identity) → among (ids ++ id ∷ []) q ≡ (among ids q || (same_identity q id.now || false))
among_more ids id q = ap (list_any (same_identity q)) (lent_more ids id) ∙ list_any-append (same_identity q) (lent_ids ids) (id.now ∷ [])

moved_in : (a b y o : Bool) → a ≡ (y || o) → (a || (b || false)) ≡ ((y || (b || false)) || o)
moved_in a true true o h = either_right a
  where
    either_right : (a : Bool) → (a || true) ≡ true
    either_right true = refl
    either_right false = refl
moved_in a false true o h = ap (λ x. x || false) h
moved_in a true false o h = either_right a
  where
    either_right : (a : Bool) → (a || true) ≡ true
    either_right true = refl
    either_right false = refl
moved_in a false false o h = ap (λ x. x || false) h ∙ or_false o
  where
    or_false : (o : Bool) → (o || false) ≡ o
    or_false true = refl
    or_false false = refl

-- the owner of one more reference
pub owner_more : (rs : List (Bor Reference)) (r : Bor Reference) (ids : List (Bor Identity)) (id : Bor Identity) (q : Identity) (old : Bool) → id.now ≡ (r.now).owner
    → among ids q ≡ (yielded_owner rs q || old) → among (ids ++ id ∷ []) q ≡ (yielded_owner (rs ++ r ∷ []) q || old)
owner_more rs r ids id q old e h =
    among_more ids id q ∙ ap (λ o. among ids q || (same_identity q o || false)) e
    ∙ moved_in (among ids q) (same_identity q (r.now).owner) (yielded_owner rs q) old h
    ∙ sym (ap (λ b. b || old) (list_any-append (λ (x : Bor Reference). same_identity q (x.now).owner) rs (r ∷ [])))

-- who passes is known by the one or by the other
pub known_there : (t a b old : Bool) → (t ≡ true → (a || b) ≡ true) → (t || old) ≡ true → (a || (b || old)) ≡ true
known_there true true b old h k = refl
known_there true false true old h k = refl
known_there true false false old h k = absurd (false≢true (h refl))
known_there false true b old h k = refl
known_there false false true old h k = refl
known_there false false false old h k = k

pub or_true : (t old : Bool) → t ≡ true → (t || old) ≡ true
or_true t old e = ap (λ x. x || old) e

-- where each identity that passes a test of what stands under it is there, they are all
pub all_that : (p : Identity × Stored → Bool) (s : StoredSet) (ids : List Identity) → ((q : Identity) → test_at p q (stored_at s q) ≡ true → list_any (same_identity q) ids ≡ true) → AreAllThat p s ids
all_that p s ids h id x e t = h id (ap (test_at p id) e ∙ t)
