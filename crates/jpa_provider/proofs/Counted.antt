-- What a session tells of its open managers: their places.
use Rattle.std.proofs.Common.{◌≡◌, ◌≢◌, ◌<◌, ◌+◌, ◌⊎◌, inl, inr, ℕ, zero, suc, Bool, true, false, cond, List, [], ◌∷◌, ◌++◌, length, get_or, refl, ap, sym, subst, ◌∙◌, arith}
use Rattle.std.specs.Prelude.{slice_set, count_by, sum_by, filter, not, ◌==◌, if◌then◌else◌}
use Rattle.std.proofs.lemmas.Bool.{false≢true}
use Rattle.std.proofs.lemmas.Bool.Decides.{eqb_tells}
use Rattle.std.proofs.Math.Dec.{eqb}
use Rattle.std.proofs.lemmas.List.Sums.{sum_by-append, sum_by-cons}
use Rattle.jpa_stored.specs.objects.Sets.{StoredSet}
use Rattle.jpa_provider.specs.declared.session.Status.{Status}
use Rattle.jpa_provider.specs.declared.session.EntityManager.{EntityManager}
use Rattle.jpa_provider.specs.declared.session.Session.{Session}
use Rattle.jpa_machine.specs.machine.Machine.{Manager}
use Rattle.jpa_provider.specs.Serving.{is_open_status, is_begun_status, manager_of, managers_of, manager_in, open_places, IsCounted}

abbrev pub is_opened : EntityManager → Bool
is_opened x = is_open_status x.status

abbrev pub is_begun_by : EntityManager → Bool
is_begun_by x = is_begun_status x.status

abbrev one_if : EntityManager → ℕ
one_if x = cond (is_opened x) 1 0

begun_open : (status : Status) → is_begun_status status ≡ true → is_open_status status ≡ true
begun_open Status.Closed h = h
begun_open Status.Inactive h = refl
begun_open Status.Active h = refl
begun_open Status.RollbackOnly h = refl

pub begun_is_open : (x : EntityManager) → is_begun_by x ≡ true → is_opened x ≡ true
begun_is_open x h = begun_open x.status h

-- ---- the places of those that are open

-- the place of the next manager, if it is open, before those of the others
abbrev place_if : Bool → ℕ → List ℕ → List ℕ
place_if b n ns = if b then n ∷ ns else ns

-- each is the place of a manager
pub places_within : (n : ℕ) (xs : List EntityManager) (i : ℕ) → i < length (open_places n xs) → get_or (open_places n xs) i 0 < n + length xs
places_within n [] i l = absurd (omega (arith, l))
places_within n (x ∷ xs) i l = by_test (places_within (n + 1) xs) (is_opened x) i l
  where
    rest : List ℕ
    rest = open_places (n + 1) xs

    by_test : ((j : ℕ) → j < length rest → get_or rest j 0 < n + 1 + length xs) → (b : Bool) (j : ℕ) → j < length (place_if b n rest) → get_or (place_if b n rest) j 0 < n + length (x ∷ xs)
    by_test further false j h = omega (arith, further j h)
    by_test further true zero h = omega arith
    by_test further true (suc j) h = omega (arith, further j (omega (arith, h)))

-- and that of each manager that is open is among them
pub place_there : (n : ℕ) (xs : List EntityManager) (k : ℕ) → is_opened (manager_in xs k) ≡ true → (i : ℕ) × (i < length (open_places n xs)) × (get_or (open_places n xs) i 0 ≡ n + k)
place_there n [] k o = absurd (false≢true o)
place_there n (x ∷ xs) zero o =
    subst (λ b. (i : ℕ) × (i < length (place_if b n (open_places (n + 1) xs))) × (get_or (place_if b n (open_places (n + 1) xs)) i 0 ≡ n + zero)) (sym o) (zero, omega arith, omega arith)
place_there n (x ∷ xs) (suc k) o = by_test (place_there (n + 1) xs k o) (is_opened x)
  where
    rest : List ℕ
    rest = open_places (n + 1) xs

    by_test : (i : ℕ) × (i < length rest) × (get_or rest i 0 ≡ n + 1 + k) → (b : Bool) → (i : ℕ) × (i < length (place_if b n rest)) × (get_or (place_if b n rest) i 0 ≡ n + suc k)
    by_test t false = (t.0, t.1, omega (arith, t.2))
    by_test t true = (suc t.0, omega (arith, t.1), omega (arith, t.2))

-- as many places as managers that are open
places_count : (n : ℕ) (xs : List EntityManager) → length (open_places n xs) ≡ count_by is_opened xs
places_count n [] = refl
places_count n (x ∷ xs) = by_test (places_count (n + 1) xs) (is_opened x) ∙ sym (sum_by-cons one_if x xs)
  where
    rest : List ℕ
    rest = open_places (n + 1) xs

    by_test : length rest ≡ count_by is_opened xs → (b : Bool) → length (place_if b n rest) ≡ cond b 1 0 + count_by is_opened xs
    by_test e false = omega (arith, e)
    by_test e true = omega (arith, e)

-- others that are open where these are
pub same_places : (n : ℕ) (xs ys : List EntityManager) → length ys ≡ length xs → ((k : ℕ) → (manager_in ys k).status ≡ (manager_in xs k).status) → open_places n ys ≡ open_places n xs
same_places n [] [] l h = refl
same_places n [] (y ∷ ys) l h = absurd cc
same_places n (x ∷ xs) [] l h = absurd cc
same_places n (x ∷ xs) (y ∷ ys) l h =
    let further = same_places (n + 1) xs ys (omega (arith, l)) (λ k. h (suc k)) in
    λ i. place_if (is_open_status (h zero i)) n (further i)

-- one in the place of another that is as open
set_places : (n : ℕ) (xs : List EntityManager) (m : ℕ) (x : EntityManager) → is_opened x ≡ is_opened (manager_in xs m) → open_places n (slice_set xs m x) ≡ open_places n xs
set_places n [] m x o = refl
set_places n (y ∷ ys) zero x o = ap (λ b. place_if b n (open_places (n + 1) ys)) o
set_places n (y ∷ ys) (suc m) x o = ap (place_if (is_opened y) n) (set_places (n + 1) ys m x o)

-- one more behind them
more_places : (n : ℕ) (xs : List EntityManager) (x : EntityManager) → is_opened x ≡ true → open_places n (xs ++ x ∷ []) ≡ open_places n xs ++ (n + length xs) ∷ []
more_places n [] x o = ap (λ b. place_if b n []) o ∙ ap (λ k. k ∷ []) (let e : n ≡ n + 0 = omega arith in e)
more_places n (y ∷ ys) x o = ap (place_if (is_opened y) n) (more_places (n + 1) ys x o) ∙ by_test (is_opened y)
  where
    rest : List ℕ
    rest = open_places (n + 1) ys

    last : n + 1 + length ys ≡ n + length (y ∷ ys)
    last = omega arith

    by_test : (b : Bool) → place_if b n (rest ++ (n + 1 + length ys) ∷ []) ≡ place_if b n rest ++ (n + length (y ∷ ys)) ∷ []
    by_test false = ap (λ k. rest ++ k ∷ []) last
    by_test true = ap (λ k. n ∷ (rest ++ k ∷ [])) last

-- ---- a place less

abbrev other_than : ℕ → ℕ → Bool
other_than m n = not (n == m)

same_itself : (m n : ℕ) → n ≡ m → other_than m n ≡ false
same_itself m n e = by_place (eqb_tells n m)
  where
    by_place : ((eqb n m ≡ true) × (n ≡ m)) ⊎ ((eqb n m ≡ false) × (n ≢ m)) → other_than m n ≡ false
    by_place (inl q) = ap not q.0
    by_place (inr q) = absurd (q.1 e)

is_other : (m n : ℕ) → n ≢ m → other_than m n ≡ true
is_other m n d = by_place (eqb_tells n m)
  where
    by_place : ((eqb n m ≡ true) × (n ≡ m)) ⊎ ((eqb n m ≡ false) × (n ≢ m)) → other_than m n ≡ true
    by_place (inl q) = absurd (d q.1)
    by_place (inr q) = ap not q.0

goes : (m n : ℕ) (ns : List ℕ) → n ≡ m → filter (other_than m) (n ∷ ns) ≡ filter (other_than m) ns
goes m n ns e = ap (λ b. cond b (n ∷ filter (other_than m) ns) (filter (other_than m) ns)) (same_itself m n e)

stays : (m n : ℕ) (ns : List ℕ) → n ≢ m → filter (other_than m) (n ∷ ns) ≡ n ∷ filter (other_than m) ns
stays m n ns d = ap (λ b. cond b (n ∷ filter (other_than m) ns) (filter (other_than m) ns)) (is_other m n d)

-- those behind it stay
behind : (m n : ℕ) (xs : List EntityManager) → m < n → filter (other_than m) (open_places n xs) ≡ open_places n xs
behind m n [] l = refl
behind m n (x ∷ xs) l = by_test (behind m (n + 1) xs (omega (arith, l))) (is_opened x)
  where
    rest : List ℕ
    rest = open_places (n + 1) xs

    by_test : filter (other_than m) rest ≡ rest → (b : Bool) → filter (other_than m) (place_if b n rest) ≡ place_if b n rest
    by_test e false = e
    by_test e true = stays m n rest (λ same. absurd (omega (arith, same, l))) ∙ ap (λ ns. n ∷ ns) e

-- one that is closed in the place of another
less_places : (n : ℕ) (xs : List EntityManager) (m : ℕ) (x : EntityManager) → m < length xs → is_opened x ≡ false → open_places n (slice_set xs m x) ≡ filter (other_than (n + m)) (open_places n xs)
less_places n [] m x l o = absurd (omega (arith, l))
less_places n (y ∷ ys) zero x l o = ap (λ b. place_if b n rest) o ∙ sym (by_test (is_opened y))
  where
    rest : List ℕ
    rest = open_places (n + 1) ys

    by_test : (b : Bool) → filter (other_than (n + zero)) (place_if b n rest) ≡ rest
    by_test false = behind (n + zero) (n + 1) ys (omega arith)
    by_test true = goes (n + zero) n rest (omega arith) ∙ behind (n + zero) (n + 1) ys (omega arith)
less_places n (y ∷ ys) (suc m) x l o =
    let first : n + 1 + m ≡ n + suc m = omega arith in
    ap (place_if (is_opened y) n) (less_places (n + 1) ys m x (omega (arith, l)) o ∙ ap (λ k. filter (other_than k) (open_places (n + 1) ys)) first) ∙ sym (by_test (is_opened y))
  where
    rest : List ℕ
    rest = open_places (n + 1) ys

    by_test : (b : Bool) → filter (other_than (n + suc m)) (place_if b n rest) ≡ place_if b n (filter (other_than (n + suc m)) rest)
    by_test false = refl
    by_test true = stays (n + suc m) n rest (λ e. absurd (omega (arith, e)))

-- ---- what a session tells

-- another manager in the place of one, open where that one was
pub counted_same : (s t : Session) (m : ℕ) (x : EntityManager) → IsCounted s → t.managers.items ≡ slice_set s.managers.items m x → is_opened x ≡ is_opened (manager_in s.managers.items m) →
    t.open_places.items ≡ s.open_places.items → IsCounted t
counted_same s t m x h e o n = record { opened = n ∙ h.opened ∙ sym (set_places 0 s.managers.items m x o) ∙ ap (open_places 0) (sym e) }

-- a manager is closed
pub counted_closed : (s t : Session) (m : ℕ) (x : EntityManager) → m < length s.managers.items → IsCounted s → t.managers.items ≡ slice_set s.managers.items m x → x.status ≡ Status.Closed →
    t.open_places.items ≡ filter (λ n. not (n == m)) s.open_places.items → IsCounted t
counted_closed s t m x l h e is n =
    let xs = s.managers.items in
    let first : m ≡ 0 + m = omega arith in
    record { opened = n ∙ ap (filter (other_than m)) h.opened ∙ ap (λ k. filter (other_than k) (open_places 0 xs)) first ∙ sym (less_places 0 xs m x l (ap is_open_status is)) ∙ ap (open_places 0) (sym e) }

-- a manager is made
pub counted_made : (s t : Session) (x : EntityManager) → IsCounted s → t.managers.items ≡ s.managers.items ++ x ∷ [] → x.status ≡ Status.Inactive →
    t.open_places.items ≡ s.open_places.items ++ length s.managers.items ∷ [] → IsCounted t
counted_made s t x h e is n =
    let xs = s.managers.items in
    let last : length xs ≡ 0 + length xs = omega arith in
    record { opened = n ∙ (λ i. h.opened i ++ last i ∷ []) ∙ sym (more_places 0 xs x (ap is_open_status is)) ∙ ap (open_places 0) (sym e) }

-- the same managers
pub counted_here : (s t : Session) → IsCounted s → t.managers.items ≡ s.managers.items → t.open_places.items ≡ s.open_places.items → IsCounted t
counted_here s t h e n = record { opened = n ∙ h.opened ∙ ap (open_places 0) (sym e) }

-- ---- as the machine counts

open_count : (C : StoredSet) (xs : List EntityManager) → count_by (λ (x : Manager). x.is_open) (managers_of C xs) ≡ count_by is_opened xs
open_count C [] = refl
open_count C (x ∷ xs) =
    let f : Manager → ℕ = λ y. cond y.is_open 1 0 in
    sum_by-append f (manager_of C x ∷ []) (managers_of C xs) ∙ ap (λ n. sum_by one_if (x ∷ []) + n) (open_count C xs) ∙ sym (sum_by-append one_if (x ∷ []) xs)

pub as_counted : (C : StoredSet) (s : Session) → IsCounted s → count_by (λ (x : Manager). x.is_open) (managers_of C s.managers.items) ≡ length s.open_places.items
as_counted C s h = open_count C s.managers.items ∙ sym (places_count 0 s.managers.items) ∙ ap (λ (ns : List ℕ). length ns) (sym h.opened)
