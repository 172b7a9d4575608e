-- How what holds after operations goes on.
use Rattle.std.proofs.Common.{◌≡◌, ◌<◌, ℕ, Bool, true, false, List, [], ◌∷◌, length, refl, subst, ◌∙◌, arith}
use Rattle.std.specs.Prelude.{◌==◌}
use Rattle.std.specs.List.{AllByRecursion, list_any}
use Rattle.jpa_value.specs.declared.refusal.Cause.{Cause}
use Rattle.jpa_work.specs.declared.heap.Life.{Life}
use Rattle.jpa_work.specs.declared.context.Entry.{Entry}
use Rattle.jpa_work.specs.context.Work.{Work}
use Rattle.jpa_work.specs.context.Steps.{Outcome, Done, Refused, Op, after, require, each}
use Rattle.jpa_operations.specs.fetch.Members.{collect}
use Rattle.jpa_machine.specs.machine.Consistent.{stands_in}
use Rattle.jpa_machine.specs.machine.Going.{HoldsAfter}
use Rattle.jpa_machine.proofs.machine.Kept.{KeepsClasses}

pub after_holds : {A B : Type 0} (P : B → Work → Type 0) (Q : A → Work → Type 0) (o : Outcome A) (f : A → Op B) → HoldsAfter Q o →
    ((a : A) (w : Work) → Q a w → HoldsAfter P (f a w)) → HoldsAfter P (after o f)
after_holds P Q (Done a w) f h k = k a w h
after_holds P Q (Refused r events) f h k = tt

pub require_holds : {B : Type 0} (P : B → Work → Type 0) (b : Bool) (r : Cause) (w : Work) (f : Unit {0} → Op B) → (b ≡ true → HoldsAfter P (f tt w)) →
    HoldsAfter P (after (require b r w) f)
require_holds P true r w f k = k refl
require_holds P false r w f k = tt

-- a requirement that is the last of an operation
pub require_holds_last : (P : Unit {0} → Work → Type 0) (b : Bool) (r : Cause) (w : Work) → (b ≡ true → P tt w) → HoldsAfter P (require b r w)
require_holds_last P true r w k = k refl
require_holds_last P false r w k = tt

-- ---- what goes on

-- no fewer objects, of the same classes
abbrev pub More : Work → Work → Type 0
More w v = KeepsClasses w.objects v.objects

pub no_more : (w : Work) → More w w
no_more w = record { more = omega arith; class = λ n l. refl }

pub more_on : (u v w : Work) → More u v → More v w → More u w
more_on u v w a b =
    let k = a.more in
    let j = b.more in
    record { more = omega (arith, k, j); class = λ n l. b.class n (omega (arith, k, l)) ∙ a.class n l }

pub within_more : (w v : Work) (n : ℕ) → More w v → n < length w.objects → n < length v.objects
within_more w v n m l = let k = m.more in omega (arith, k, l)

-- what holds after what goes on
pub more_before : {B : Type 0} (P : Work → Type 0) (R : B → Work → Type 0) (w v : Work) → More w v → (o : Outcome B) → HoldsAfter (λ b u. P u × More v u × R b u) o → HoldsAfter (λ b u. P u × More w u × R b u) o
more_before P R w v more (Done b u) t = (t.0, more_on w v u more t.1, t.2)
more_before P R w v more (Refused r events) t = tt

-- what follows from what is known of the answer
pub known_from : {A : Type 0} (P : Work → Type 0) (Q R : A → Work → Type 0) (w : Work) (o : Outcome A) → HoldsAfter (λ a v. P v × More w v × Q a v) o →
    ((a : A) (v : Work) → More w v → Q a v → R a v) → HoldsAfter (λ a v. P v × More w v × R a v) o
known_from P Q R w (Done a v) h k = (h.0, h.1, k a v h.1 h.2)
known_from P Q R w (Refused r events) h k = tt

module _ {P : Work → Type 0} where
  pub then_goes : {A B : Type 0} (w : Work) (o : Outcome A) (f : A → Op B) → HoldsAfter (λ a v. P v × More w v) o → ((a : A) (v : Work) → P v → More w v → HoldsAfter (λ b u. P u × More v u) (f a v)) →
      HoldsAfter (λ b u. P u × More w u) (after o f)
  then_goes w (Refused r events) f h k = tt
  then_goes {B = B} w (Done a v) f h k = joined (f a v) (k a v h.0 h.1)
    where
      joined : (o : Outcome B) → HoldsAfter (λ b u. P u × More v u) o → HoldsAfter (λ b u. P u × More w u) o
      joined (Done b u) t = (t.0, more_on w v u h.1 t.1)
      joined (Refused r events) t = tt

  -- the same with what is known of the answers
  pub then_known : {A B : Type 0} (Q : A → Work → Type 0) (R : B → Work → Type 0) (w : Work) (o : Outcome A) (f : A → Op B) → HoldsAfter (λ a v. P v × More w v × Q a v) o →
      ((a : A) (v : Work) → P v → More w v → Q a v → HoldsAfter (λ b u. P u × More v u × R b u) (f a v)) → HoldsAfter (λ b u. P u × More w u × R b u) (after o f)
  then_known Q R w (Refused r events) f h k = tt
  then_known Q R w (Done a v) f h k = more_before P R w v h.1 (f a v) (k a v h.0 h.1 h.2)

  -- and where nothing is said of the first answer
  pub then_to : {A B : Type 0} (R : B → Work → Type 0) (w : Work) (o : Outcome A) (f : A → Op B) → HoldsAfter (λ a v. P v × More w v) o →
      ((a : A) (v : Work) → P v → More w v → HoldsAfter (λ b u. P u × More v u × R b u) (f a v)) → HoldsAfter (λ b u. P u × More w u × R b u) (after o f)
  then_to R w (Refused r events) f h k = tt
  then_to R w (Done a v) f h k = more_before P R w v h.1 (f a v) (k a v h.0 h.1)

  -- and where nothing is said of the last answer
  pub then_from : {A B : Type 0} (Q : A → Work → Type 0) (w : Work) (o : Outcome A) (f : A → Op B) → HoldsAfter (λ a v. P v × More w v × Q a v) o →
      ((a : A) (v : Work) → P v → More w v → Q a v → HoldsAfter (λ b u. P u × More v u) (f a v)) → HoldsAfter (λ b u. P u × More w u) (after o f)
  then_from Q w (Refused r events) f h k = tt
  then_from {B = B} Q w (Done a v) f h k = joined (f a v) (k a v h.0 h.1 h.2)
    where
      joined : (o : Outcome B) → HoldsAfter (λ b u. P u × More v u) o → HoldsAfter (λ b u. P u × More w u) o
      joined (Done b u) t = (t.0, more_on w v u h.1 t.1)
      joined (Refused r events) t = tt

  -- with what is known of the answer where it is done
  pub known : {A : Type 0} (Q : A → Work → Type 0) (w : Work) (o : Outcome A) → HoldsAfter (λ a v. P v × More w v) o → ((a : A) (v : Work) → P v → More w v → Q a v) → HoldsAfter (λ a v. P v × More w v × Q a v) o
  known Q w (Done a v) h k = (h.0, h.1, k a v h.0 h.1)
  known Q w (Refused r events) h k = tt

pub unknown : {A : Type 0} (P : Work → Type 0) (Q : A → Work → Type 0) (w : Work) (o : Outcome A) → HoldsAfter (λ a v. P v × More w v × Q a v) o → HoldsAfter (λ a v. P v × More w v) o
unknown P Q w (Done a v) h = (h.0, h.1)
unknown P Q w (Refused r events) h = tt

pub all_still : {A : Type 0} (There : A → Work → Type 0) (w v : Work) → ((x : A) → There x w → There x v) → (xs : List A) → AllByRecursion (λ x. There x w) xs → AllByRecursion (λ x. There x v) xs
all_still There w v k [] h = tt
all_still There w v k (x ∷ xs) h = (k x h.0, all_still There w v k xs h.1)

-- in order, for what is there at the start and so later
pub each_goes : {A : Type 0} (P : Work → Type 0) (There : A → Work → Type 0) (f : A → Op (Unit {0})) → ((x : A) (w v : Work) → More w v → There x w → There x v) →
    ((x : A) (w : Work) → P w → There x w → HoldsAfter (λ u v. P v × More w v) (f x w)) →
    (xs : List A) (w : Work) → P w → AllByRecursion (λ x. There x w) xs → HoldsAfter (λ u v. P v × More w v) (each f xs w)
each_goes P There f still k [] w p h = (p, no_more w)
each_goes P There f still k (x ∷ xs) w p h =
    then_goes w (f x w) (λ u. each f xs) (k x w p h.0) (λ u v q more. each_goes P There f still k xs v q (all_still There w v (λ y. still y w v more) xs h.1))

-- so many answers, and what is known of each
abbrev pub EachHas : {A B : Type 0} → (A → B → Work → Type 0) → List A → List B → Work → Type 0
EachHas Q [] [] w = Unit {0}
EachHas Q [] (y ∷ ys) w = ⊥
EachHas Q (x ∷ xs) [] w = ⊥
EachHas Q (x ∷ xs) (y ∷ ys) w = Q x y w × EachHas Q xs ys w

-- in order, for what is there at the start and so later
pub collect_there : {A B : Type 0} (P : Work → Type 0) (There : A → Work → Type 0) (Q : A → B → Work → Type 0) → ((x : A) (w v : Work) → More w v → There x w → There x v) →
    ((x : A) (y : B) (w v : Work) → More w v → Q x y w → Q x y v) → (f : A → Op B) → ((x : A) (w : Work) → P w → There x w → HoldsAfter (λ y v. P v × More w v × Q x y v) (f x w)) →
    (xs : List A) (w : Work) → P w → AllByRecursion (λ x. There x w) xs → HoldsAfter (λ ys v. P v × More w v × EachHas Q xs ys v) (collect f xs w)
collect_there P There Q there still f k [] w p h = (p, no_more w, tt)
collect_there P There Q there still f k (x ∷ xs) w p h =
    then_known (Q x) (EachHas Q (x ∷ xs)) w (f x w) _ (k x w p h.0) (λ y v q more t.
    then_known (EachHas Q xs) (EachHas Q (x ∷ xs)) v (collect f xs v) _
    (collect_there P There Q there still f k xs v q (all_still There w v (λ z. there z w v more) xs h.1))
    (λ ys u r more' ts. (r, no_more u, (still x y v u more' t, ts))))

-- what holds anyway holds of each
pub all_there : {A : Type 0} (P : Type 0) → P → (xs : List A) → AllByRecursion (λ x. P) xs
all_there P p [] = tt
all_there P p (x ∷ xs) = (p, all_there P p xs)

pub collect_goes : {A B : Type 0} (P : Work → Type 0) (Q : A → B → Work → Type 0) → ((x : A) (y : B) (w v : Work) → More w v → Q x y w → Q x y v) → (f : A → Op B) →
    ((x : A) (w : Work) → P w → HoldsAfter (λ y v. P v × More w v × Q x y v) (f x w)) → (xs : List A) (w : Work) → P w → HoldsAfter (λ ys v. P v × More w v × EachHas Q xs ys v) (collect f xs w)
collect_goes P Q still f k xs w p = collect_there P (λ x v. Unit {0}) Q (λ x u v more h. tt) still f (λ x v q h. k x v q) xs w p (all_there (Unit {0}) tt xs)

pub only : {A : Type 0} (P : Work → Type 0) (w : Work) (o : Outcome A) → HoldsAfter (λ a v. P v × More w v) o → HoldsAfter (λ a v. P v) o
only P w (Done a v) h = h.0
only P w (Refused r events) h = tt

pub both : {A : Type 0} (P Q : A → Work → Type 0) (o : Outcome A) → HoldsAfter P o → HoldsAfter Q o → HoldsAfter (λ a v. P a v × Q a v) o
both P Q (Done a v) h k = (h, k)
both P Q (Refused r events) h k = tt

-- ---- where an object stands

pub stands_same : (c d : ℕ → List Entry) (n : ℕ) (life : Life) → ((k : ℕ) → c k ≡ d k) → stands_in c n life ≡ true → stands_in d n life ≡ true
stands_same c d n Life.New e h = refl
stands_same c d n (Life.Managed k) e h = subst (λ es. list_any (λ x. x.object == n) es ≡ true) (e k) h
stands_same c d n (Life.Removed k) e h = subst (λ es. list_any (λ x. x.object == n) es ≡ true) (e k) h
stands_same c d n Life.Detached e h = refl
