-- The walks of a commit over some entries are walks over all of them, since nothing is made of the others.
use Rattle.std.proofs.Common.{◌≡◌, ◌∙◌, ℕ, ◌+◌, ◌<◌, ◌≤◌, Bool, true, false, List, [], ◌∷◌, ◌++◌, drop, map, length, get_or, zero, suc, refl, ap, sym, add-one, arith}
use Rattle.std.specs.Prelude.{◌&&◌, not, None, if◌then◌else◌, slice_set}
use Rattle.std.specs.List.{filter, flat_map}
use Rattle.std.proofs.lemmas.Bool.{false≢true}
use Rattle.std.proofs.lemmas.List.{append_assoc, append-nil}
use Rattle.jpa_value.specs.declared.value.Identity.{Identity}
use Rattle.jpa_model.specs.declared.unit.PersistenceUnit.{PersistenceUnit}
use Rattle.jpa_stored.specs.objects.Sets.{StoredSet}
use Rattle.jpa_work.specs.declared.context.Entry.{Entry}
use Rattle.jpa_work.specs.declared.context.EntityState.{EntityState}
use Rattle.jpa_work.specs.declared.context.Lock.{Lock}
use Rattle.jpa_work.specs.context.Work.{Work, identity_at, is_managed, is_removed, state_of, unlocked}
use Rattle.jpa_operations.specs.fetch.Grown.{IsReady}
use Rattle.jpa_protocol.specs.declared.event.Told.{Told}
use Rattle.jpa_flush.specs.flush.Flush.{is_read_lock, listed}
use Rattle.jpa_flush.specs.flush.Marked.{AreLooked, IsUntouched, from, is_calm, is_unlocked}
use Rattle.jpa_flush.proofs.flush.Alike.{alike_ready, like_none}
use Rattle.jpa_flush.proofs.flush.Gaps.{list_step, to_end}
use Rattle.jpa_flush.proofs.flush.Places.{below, between, from_rises, from_within, last_within, next_within}
use Rattle.jpa_flush.proofs.flush.Settled.{partly}
use Rattle.jpa_flush.proofs.flush.Silent.{calm_parts}
use Rattle.jpa_flush.proofs.flush.Turns.{rest_next}
use Rattle.jpa_machine.specs.machine.Machine.{is_gone}
use Rattle.jpa_machine.specs.machine.Transactions.{read_along}

-- ---- what is known of the entries elsewhere

pub looked_as : {P Q : Entry → Type 0} {es : List Entry} {places : List ℕ} → ((x : Entry) → P x → Q x) → AreLooked P es places → AreLooked Q es places
looked_as {P} {Q} {es} f h = record { rising = h.rising; others = λ k d l g. f (get_or es k d) (h.others k d l g) }

lock_over : (l : Lock) → is_unlocked l ≡ true → l ≡ Lock.Unlocked
lock_over Lock.Unlocked h = refl
lock_over Lock.Read h = absurd (false≢true h)
lock_over Lock.Write h = absurd (false≢true h)

pub calm_lock : (m : PersistenceUnit) (w : Work) (x : Entry) → is_calm m w x ≡ true → x.lock ≡ Lock.Unlocked
calm_lock m w x h = lock_over x.lock (calm_parts m w x h).unlocked

pub untouched_lock : (m : PersistenceUnit) (w : Work) (linked : Bool) (x : Entry) → IsUntouched m w linked x → x.lock ≡ Lock.Unlocked
untouched_lock m w linked x h = calm_lock m w x h.calm

pub untouched_managed : (m : PersistenceUnit) (w : Work) (linked : Bool) (x : Entry) → IsUntouched m w linked x → is_managed (state_of w x.object) ≡ true
untouched_managed m w linked x h = (calm_parts m w x h.calm).managed

-- neither the set that is seen nor what was told matters
pub untouched_seen : (m : PersistenceUnit) (w : Work) (set : StoredSet) (events : List Told) (linked : Bool) (x : Entry) → IsUntouched m w linked x → IsUntouched m (record w { view = set; events = events }) linked x
untouched_seen m w set events linked x h = record { calm = h.calm; links = h.links }

pub ready_seen : (m : PersistenceUnit) (w : Work) (set : StoredSet) (events : List Told) → set ≡ w.view → IsReady m w → IsReady m (record w { view = set; events = events })
ready_seen m w set events same h =
    alike_ready m w (record w { view = set; events = events }) (record { numbers = refl; view = same; context = refl; count = refl; objects = λ k. like_none _ }) h

-- ---- locked to be read

module _ (m : PersistenceUnit) (w : Work) {places : List ℕ} (looked : AreLooked (λ e. is_calm m w e ≡ true) w.context places) where
  unread : (x : Entry) (xs : List Entry) → is_calm m w x ≡ true → flat_map (read_along m w) (x ∷ xs) ≡ flat_map (read_along m w) xs
  unread x xs h =
      list_step (read_along m w) x xs (ap (λ l. if is_read_lock l && is_managed (state_of w x.object) then listed (identity_at m w x.object) else []) (calm_lock m w x h))

  pub locked_next : (i : ℕ) (e : Entry) (ids more : List Identity) → i < length places → e ≡ get_or w.context (get_or places i 0) e →
      ids ++ flat_map (read_along m w) (drop (from places i) w.context) ≡ flat_map (read_along m w) w.context → more ≡ ids ++ read_along m w e →
      more ++ flat_map (read_along m w) (drop (from places (i + 1)) w.context) ≡ flat_map (read_along m w) w.context
  locked_next i e ids more l is before this =
      let rest = flat_map (read_along m w) (drop (from places (i + 1)) w.context) in
      ap (λ ys. ys ++ rest) this
      ∙ append_assoc ids (read_along m w e) rest
      ∙ ap (λ ys. ids ++ ys) (rest_next looked (flat_map (read_along m w)) unread i e l is)
      ∙ before

  pub locked_end : (ids : List Identity) → ids ++ flat_map (read_along m w) (drop (from places (length places)) w.context) ≡ flat_map (read_along m w) w.context →
      ids ≡ flat_map (read_along m w) w.context
  locked_end ids h = sym (append-nil ids) ∙ ap (λ ys. ids ++ ys) (to_end looked (flat_map (read_along m w)) unread) ∙ h

-- ---- removed objects

abbrev pub gone_in : Work → List Entry → List ℕ
gone_in w es = map (λ (e : Entry). e.object) (filter (is_gone w) es)

gone_not : (s : EntityState) → is_managed s ≡ true → is_removed s ≡ false
gone_not EntityState.New h = refl
gone_not EntityState.Managed h = refl
gone_not EntityState.Removed h = absurd (false≢true h)
gone_not EntityState.Detached h = refl

with_gone : (w : Work) (x : Entry) (xs : List Entry) → is_gone w x ≡ true → gone_in w (x ∷ xs) ≡ x.object ∷ gone_in w xs
with_gone w x xs h = ap (λ b. map (λ (e : Entry). e.object) (if b then x ∷ filter (is_gone w) xs else filter (is_gone w) xs)) h

without_gone : (w : Work) (x : Entry) (xs : List Entry) → is_gone w x ≡ false → gone_in w (x ∷ xs) ≡ gone_in w xs
without_gone w x xs h = ap (λ b. map (λ (e : Entry). e.object) (if b then x ∷ filter (is_gone w) xs else filter (is_gone w) xs)) h

module _ (w : Work) {places : List ℕ} (looked : AreLooked (λ e. is_managed (state_of w e.object) ≡ true) w.context places) where
  stays : (x : Entry) (xs : List Entry) → is_managed (state_of w x.object) ≡ true → gone_in w (x ∷ xs) ≡ gone_in w xs
  stays x xs h = without_gone w x xs (gone_not (state_of w x.object) h)

  pub gone_next : (i : ℕ) (e : Entry) (ns more : List ℕ) → i < length places → e ≡ get_or w.context (get_or places i 0) e → ns ++ gone_in w (drop (from places i) w.context) ≡ gone_in w w.context →
      is_gone w e ≡ true → more ≡ ns ++ e.object ∷ [] → more ++ gone_in w (drop (from places (i + 1)) w.context) ≡ gone_in w w.context
  gone_next i e ns more l is before h this =
      let rest = drop (from places (i + 1)) w.context in
      ap (λ ys. ys ++ gone_in w rest) this
      ∙ append_assoc ns (e.object ∷ []) (gone_in w rest)
      ∙ ap (λ ys. ns ++ ys) (sym (with_gone w e rest h) ∙ rest_next looked (gone_in w) stays i e l is)
      ∙ before

  pub stays_next : (i : ℕ) (e : Entry) (ns : List ℕ) → i < length places → e ≡ get_or w.context (get_or places i 0) e → ns ++ gone_in w (drop (from places i) w.context) ≡ gone_in w w.context →
      is_gone w e ≡ false → ns ++ gone_in w (drop (from places (i + 1)) w.context) ≡ gone_in w w.context
  stays_next i e ns l is before h =
      ap (λ ys. ns ++ ys) (sym (without_gone w e (drop (from places (i + 1)) w.context) h) ∙ rest_next looked (gone_in w) stays i e l is) ∙ before

  pub gone_end : (ns : List ℕ) → ns ++ gone_in w (drop (from places (length places)) w.context) ≡ gone_in w w.context → ns ≡ gone_in w w.context
  gone_end ns h = sym (append-nil ns) ∙ ap (λ ys. ns ++ ys) (to_end looked (gone_in w) stays) ∙ h

-- none is: none leaves
pub none_leaves : (w : Work) (es : List Entry) → gone_in w es ≡ [] → filter (λ e. not (is_gone w e)) es ≡ es
none_leaves w [] h = refl
none_leaves w (x ∷ xs) h = by (is_gone w x) h (none_leaves w xs)
  where
    by : (b : Bool) → map (λ (e : Entry). e.object) (if b then x ∷ filter (is_gone w) xs else filter (is_gone w) xs) ≡ [] → (gone_in w xs ≡ [] → filter (λ e. not (is_gone w e)) xs ≡ xs) →
        (if not b then x ∷ filter (λ e. not (is_gone w e)) xs else filter (λ e. not (is_gone w e)) xs) ≡ x ∷ xs
    by true e rest = absurd cc
    by false e rest = ap (λ ys. x ∷ ys) (rest e)

-- a lock that ends is none by which an object leaves
pub leave_unlocked : (p : ℕ → Bool) (es : List Entry) → filter (λ (e : Entry). not (p e.object)) (map unlocked es) ≡ map unlocked (filter (λ (e : Entry). not (p e.object)) es)
leave_unlocked p [] = refl
leave_unlocked p (x ∷ xs) = by (p x.object) (leave_unlocked p xs)
  where
    by : (b : Bool) → filter (λ (e : Entry). not (p e.object)) (map unlocked xs) ≡ map unlocked (filter (λ (e : Entry). not (p e.object)) xs) →
        (if not b then unlocked x ∷ filter (λ (e : Entry). not (p e.object)) (map unlocked xs) else filter (λ (e : Entry). not (p e.object)) (map unlocked xs))
        ≡ map unlocked (if not b then x ∷ filter (λ (e : Entry). not (p e.object)) xs else filter (λ (e : Entry). not (p e.object)) xs)
    by true k = k
    by false k = ap (λ ys. unlocked x ∷ ys) k

-- ---- locks end

partly_gap : (f : Entry → Entry) (es : List Entry) (i j : ℕ) → i ≤ j → j ≤ length es → ((k : ℕ) (d : Entry) → i ≤ k → k < j → f (get_or es k d) ≡ get_or es k d) → partly f i es ≡ partly f j es
partly_gap f [] zero zero h l same = refl
partly_gap f [] zero (suc j) h l same = absurd (omega (arith, l))
partly_gap f [] (suc i) zero h l same = refl
partly_gap f [] (suc i) (suc j) h l same = refl
partly_gap f (x ∷ es) zero zero h l same = refl
partly_gap f (x ∷ es) zero (suc j) h l same =
    ap (λ y. y ∷ es) (sym (same 0 x (omega arith) (omega arith)))
    ∙ ap (λ ys. f x ∷ ys) (partly_gap f es zero j (omega arith) (omega (arith, l)) (λ k d a b. same (suc k) d (omega arith) (omega (arith, b))))
partly_gap f (x ∷ es) (suc i) zero h l same = absurd (omega (arith, h))
partly_gap f (x ∷ es) (suc i) (suc j) h l same =
    ap (λ ys. f x ∷ ys) (partly_gap f es i j (omega (arith, h)) (omega (arith, l)) (λ k d a b. same (suc k) d (omega (arith, a)) (omega (arith, b))))

partly_set : (f : Entry → Entry) (es : List Entry) (i : ℕ) → i < length es → ((us : List Entry) → us ≡ partly f i es → (d : Entry) → slice_set us i (f (get_or us i d)) ≡ partly f (suc i) es)
partly_set f [] i l us is d = absurd (omega (arith, l))
partly_set f (x ∷ es) zero l us is d = ap (λ ys. slice_set ys 0 (f (get_or ys 0 d))) is
partly_set f (x ∷ es) (suc i) l us is d =
    ap (λ ys. slice_set ys (suc i) (f (get_or ys (suc i) d))) is ∙ ap (λ ys. f x ∷ ys) (partly_set f es i (omega (arith, l)) (partly f i es) refl d)

all_partly : (f : Entry → Entry) (es : List Entry) → partly f (length es) es ≡ map f es
all_partly f [] = refl
all_partly f (x ∷ es) = ap (λ ys. f x ∷ ys) (all_partly f es)

module _ {es : List Entry} {places : List ℕ} (looked : AreLooked (λ e. e.lock ≡ Lock.Unlocked) es places) where
  gap : (i k : ℕ) (d : Entry) → i ≤ length places → from places i ≤ k → k < get_or places i (length es) → unlocked (get_or es k d) ≡ get_or es k d
  gap i k d l f g =
      let free = looked.others k d (below looked.rising i k l g) (between looked.rising i k l f g) in
      ap {A = Lock} {B = Entry} (λ o. record (get_or es k d) { lock = o }) (sym free)

  pub unlock_next : (us ys : List Entry) (i : ℕ) → i < length places → us ≡ partly unlocked (from places i) es →
      ((e : Entry) → ys ≡ slice_set us (get_or places i 0) (unlocked (get_or us (get_or places i 0) e))) → ys ≡ partly unlocked (from places (i + 1)) es
  unlock_next us ys i l same is =
      let p = get_or places i 0 in
      let within = (looked.rising).within i l in
      let none : Entry = record { object = 0; key = []; lock = Lock.Unlocked; base = None } in
      let here : us ≡ partly unlocked p es =
      same
      ∙ partly_gap unlocked es (from places i) p (from_rises looked.rising i l) (omega (arith, within)) (λ k d a b. gap i k d (omega (arith, l)) a (next_within looked.rising i k l b)) in
      is none ∙ partly_set unlocked es p within us here none ∙ ap (λ j. partly unlocked (from places j) es) (sym (add-one i))

  pub unlock_end : (us : List Entry) → us ≡ partly unlocked (from places (length places)) es → us ≡ map unlocked es
  unlock_end us same =
      same
      ∙ partly_gap unlocked es (from places (length places)) (length es) (from_within looked.rising (length places) (omega arith)) (omega arith)
      (λ k d a b. gap (length places) k d (omega arith) a (last_within looked.rising k b))
      ∙ all_partly unlocked es
