-- Facts of lists, and of sets under more numbers, for the lemmas on the machine.
use Rattle.std.proofs.Common.{◌≡◌, ◌≤◌, ℕ, zero, suc, Bool, true, false, List, [], ◌∷◌, length, map, refl, ap, arith}
use Rattle.std.specs.Prelude.{slice_index_or, slice_set, slice_get, nat_le, nat_lt, not, ◌&&◌, pos, negsuc, Some}
use Rattle.std.specs.List.{list_all}
use Rattle.std.proofs.lemmas.Bool.{false≢true, and_parts, and_from, leb-true, le-leb, ltb-true, lt-ltb}
use Rattle.jpa_value.specs.declared.value.Value.{Value}
use Rattle.jpa_value.specs.Value.{fits, is_null}
use Rattle.jpa_model.specs.declared.unit.Part.{Part}
use Rattle.jpa_model.specs.Chains.{root_of, root_class}
use Rattle.jpa_behaviour.specs.Behaviour.{World}
use Rattle.jpa_stored.specs.objects.Sets.{StoredSet, each_fits}
use Rattle.jpa_work.specs.heap.Objects.{is_whole}
use Rattle.jpa_rows.specs.rows.Cells.{CanBeHeld, are_numbers, is_given_before, key_given_by}

-- ---- two lists, item by item

module _ {A B : Type 0} where
  pub each_fits_weaker : (f g : A → B → Bool) → ((x : A) (y : B) → f x y ≡ true → g x y ≡ true) → (xs : List A) (ys : List B) → each_fits f xs ys ≡ true → each_fits g xs ys ≡ true
  each_fits_weaker f g k [] [] h = refl
  each_fits_weaker f g k [] (y ∷ ys) h = absurd (false≢true h)
  each_fits_weaker f g k (x ∷ xs) [] h = absurd (false≢true h)
  each_fits_weaker f g k (x ∷ xs) (y ∷ ys) h =
      let p = and_parts (f x y) (each_fits f xs ys) h in
      and_from (g x y) (each_fits g xs ys) (k x y p.0) (each_fits_weaker f g k xs ys p.1)

  pub each_fits_map : (f : A → B → Bool) (g : A → B) → ((x : A) → f x (g x) ≡ true) → (xs : List A) → each_fits f xs (map g xs) ≡ true
  each_fits_map f g k [] = refl
  each_fits_map f g k (x ∷ xs) = and_from (f x (g x)) (each_fits f xs (map g xs)) (k x) (each_fits_map f g k xs)

  pub each_fits_set : (f : A → B → Bool) (xs : List A) (ys : List B) (i : ℕ) (y : B) → each_fits f xs ys ≡ true →
      ((x : A) → slice_get xs i ≡ Some x → f x y ≡ true) → each_fits f xs (slice_set ys i y) ≡ true
  each_fits_set f [] [] i y h k = h
  each_fits_set f [] (z ∷ zs) i y h k = absurd (false≢true h)
  each_fits_set f (x ∷ xs) [] i y h k = h
  each_fits_set f (x ∷ xs) (z ∷ zs) zero y h k =
      let p = and_parts (f x z) (each_fits f xs zs) h in
      and_from (f x y) (each_fits f xs zs) (k x refl) p.1
  each_fits_set f (x ∷ xs) (z ∷ zs) (suc i) y h k =
      let p = and_parts (f x z) (each_fits f xs zs) h in
      and_from (f x z) (each_fits f xs (slice_set zs i y)) p.0 (each_fits_set f xs zs i y p.1 (λ x' e. k x' e))

  pub each_fits_none : (f : A → B → Bool) (ys : List B) → each_fits f [] ys ≡ true → ys ≡ []
  each_fits_none f [] h = refl
  each_fits_none f (y ∷ ys) h = absurd (false≢true h)

  pub each_fits_length : (f : A → B → Bool) (xs : List A) (ys : List B) → each_fits f xs ys ≡ true → length xs ≡ length ys
  each_fits_length f [] [] h = refl
  each_fits_length f [] (y ∷ ys) h = absurd (false≢true h)
  each_fits_length f (x ∷ xs) [] h = absurd (false≢true h)
  each_fits_length f (x ∷ xs) (y ∷ ys) h = ap suc (each_fits_length f xs ys (and_parts (f x y) (each_fits f xs ys) h).1)

module _ {A : Type 0} where
  pub list_all_weaker : (p q : A → Bool) → ((x : A) → p x ≡ true → q x ≡ true) → (xs : List A) → list_all p xs ≡ true → list_all q xs ≡ true
  list_all_weaker p q k [] h = refl
  list_all_weaker p q k (x ∷ xs) h =
      let e = and_parts (p x) (list_all p xs) h in
      and_from (q x) (list_all q xs) (k x e.0) (list_all_weaker p q k xs e.1)

  pub list_all_set : (p : A → Bool) (xs : List A) (i : ℕ) (y : A) → p y ≡ true → list_all p xs ≡ true → list_all p (slice_set xs i y) ≡ true
  list_all_set p [] i y k h = refl
  list_all_set p (x ∷ xs) zero y k h = and_from (p y) (list_all p xs) k (and_parts (p x) (list_all p xs) h).1
  list_all_set p (x ∷ xs) (suc i) y k h =
      let e = and_parts (p x) (list_all p xs) h in
      and_from (p x) (list_all p (slice_set xs i y)) e.0 (list_all_set p xs i y k e.1)

  pub list_all_map : {B : Type 0} (p : A → Bool) (f : B → A) → ((x : B) → p (f x) ≡ true) → (xs : List B) → list_all p (map f xs) ≡ true
  list_all_map p f k [] = refl
  list_all_map p f k (x ∷ xs) = and_from (p (f x)) (list_all p (map f xs)) (k x) (list_all_map p f k xs)

-- ---- more numbers

pub numbers_at : (ns ms : List ℕ) (r : ℕ) → each_fits nat_le ns ms ≡ true → slice_index_or ns r 1 ≤ slice_index_or ms r 1
numbers_at [] [] r h = omega arith
numbers_at [] (m ∷ ms) r h = absurd (false≢true h)
numbers_at (n ∷ ns) [] r h = absurd (false≢true h)
numbers_at (n ∷ ns) (m ∷ ms) zero h = leb-true n m (and_parts (nat_le n m) (each_fits nat_le ns ms) h).0
numbers_at (n ∷ ns) (m ∷ ms) (suc r) h = numbers_at ns ms r (and_parts (nat_le n m) (each_fits nat_le ns ms) h).1

pub numbers_same : (ns : List ℕ) → each_fits nat_le ns ns ≡ true
numbers_same [] = refl
numbers_same (n ∷ ns) = and_from (nat_le n n) (each_fits nat_le ns ns) (le-leb n n (omega arith)) (numbers_same ns)

pub numbers_trans : (ns ms ks : List ℕ) → each_fits nat_le ns ms ≡ true → each_fits nat_le ms ks ≡ true → each_fits nat_le ns ks ≡ true
numbers_trans [] [] ks h g = g
numbers_trans [] (m ∷ ms) ks h g = absurd (false≢true h)
numbers_trans (n ∷ ns) [] ks h g = absurd (false≢true h)
numbers_trans (n ∷ ns) (m ∷ ms) [] h g = absurd (false≢true g)
numbers_trans (n ∷ ns) (m ∷ ms) (k ∷ ks) h g =
    let a = and_parts (nat_le n m) (each_fits nat_le ns ms) h in
    let b = and_parts (nat_le m k) (each_fits nat_le ms ks) g in
    let le : n ≤ k = let x = leb-true n m a.0 in let y = leb-true m k b.0 in omega (arith, x, y) in
    and_from (nat_le n k) (each_fits nat_le ns ks) (le-leb n k le) (numbers_trans ns ms ks a.1 b.1)

given_more : (a b : ℕ) (key : List Value) → a ≤ b → is_given_before a key ≡ true → is_given_before b key ≡ true
given_more a b [] l h = h
given_more a b (Value.Null ∷ vs) l h = h
given_more a b (Value.Text t ∷ vs) l h = h
given_more a b (Value.Bytes t ∷ vs) l h = h
given_more a b (Value.Int (negsuc n) ∷ vs) l h = h
given_more a b (Value.Int (pos n) ∷ v ∷ vs) l h = h
given_more a b (Value.Int (pos n) ∷ []) l h =
    let p = and_parts (nat_lt 0 n) (nat_lt n a) h in
    let x = ltb-true n a p.1 in
    and_from (nat_lt 0 n) (nat_lt n b) p.0 (lt-ltb n b (omega (arith, x, l)))

pub given_by_more : (ns ms : List ℕ) (r : ℕ) (b : Bool) (key : List Value) → each_fits nat_le ns ms ≡ true → key_given_by ns r b key ≡ true → key_given_by ms r b key ≡ true
given_by_more ns ms r false key l h = refl
given_by_more ns ms r true key l h = given_more (slice_index_or ns r 1) (slice_index_or ms r 1) key (numbers_at ns ms r l) h

-- a store can hold a set also with higher numbers
pub held_more : {world : World} {set : StoredSet} {ns : List ℕ} (ms : List ℕ) → CanBeHeld world set ns → each_fits nat_le ns ms ≡ true → are_numbers world.model ms ≡ true →
    CanBeHeld world set ms
held_more {world} {set} {ns} ms h l n =
    record {
      representable = h.representable;
      numbered = n;
      rising = h.rising;
      shaped = h.shaped;
      sound = h.sound;
      converted = h.converted;
      given = list_all_weaker _ _ (λ e g. given_by_more ns ms (root_class world.model (e.1).class) (root_of world.model (e.1).class).generated (e.0).key l g) set h.given;
    }

-- ---- keys

whole_part : (f null : Bool) → (f && not null) ≡ true → not null ≡ true
whole_part f null h = (and_parts f (not null) h).1

-- a key of a root has no part that is null
pub key_is_whole : (ps : List Part) (vs : List Value) → each_fits (λ (part : Part) v. fits part.kind v && not (is_null v)) ps vs ≡ true → is_whole vs ≡ true
key_is_whole [] [] h = refl
key_is_whole [] (v ∷ vs) h = absurd (false≢true h)
key_is_whole (p ∷ ps) [] h = absurd (false≢true h)
key_is_whole (p ∷ ps) (v ∷ vs) h =
    let a = and_parts (fits p.kind v && not (is_null v)) (each_fits (λ (part : Part) u. fits part.kind u && not (is_null u)) ps vs) h in
    and_from (not (is_null v)) (is_whole vs) (whole_part (fits p.kind v) (is_null v) a.0) (key_is_whole ps vs a.1)
