-- What is kept back for others, and what a commit leaves of their managers.
use Rattle.std.proofs.Common.{◌≡◌, ◌≢◌, ◌<◌, ◌+◌, ◌⊎◌, inl, inr, ℕ, zero, suc, true, false, get_or, List, [], ◌∷◌, length, map, refl, ap, sym, subst, ◌∙◌, arith}
use Rattle.std.specs.Prelude.{Some, slice_set}
use Rattle.std.proofs.lemmas.Bool.{false≢true}
use Rattle.std.proofs.lemmas.Bool.Decides.{eqb_tells}
use Rattle.std.proofs.Math.Dec.{eqb}
use Rattle.std.proofs.lemmas.List.{length-set}
use Rattle.jpa_value.specs.declared.value.Identity.{Identity}
use Rattle.jpa_stored.specs.objects.Sets.{StoredSet}
use Rattle.jpa_open.specs.Opened.{Away, IsKeptBack, IsUntouched, IsUndone, SameElsewhere, begun_over, seen_over}
use Rattle.jpa_open.proofs.Kept.{untouched_after}
use Rattle.jpa_provider.specs.declared.session.Status.{Status}
use Rattle.jpa_provider.specs.declared.session.EntityManager.{EntityManager}
use Rattle.jpa_provider.specs.declared.session.Session.{Session}
use Rattle.jpa_machine.specs.machine.Machine.{Machine, Manager}
use Rattle.jpa_provider.specs.Beside.{IsHeld, AreHeld, IsTold, AreTold, Rises}
use Rattle.jpa_provider.specs.Serving.{transaction_in, is_open_status, is_begun_status, manager_of, managers_of, manager_in, open_places, IsAway, IsIdle}
use Rattle.jpa_provider.proofs.Counted.{begun_is_open, place_there, places_within, same_places}
use Rattle.jpa_provider.proofs.Sessions.{placed, elsewhere}

-- ---- while what is committed stays

-- all are what they are
pub held_itself : (C : StoredSet) (xs : List EntityManager) (m : ℕ) → AreHeld C xs m C xs
held_itself C xs m = record {
  others = λ k n. record { status = refl; mode = refl; context = refl; idle = λ e. refl; untouched = λ e. record { begun = refl; seen = refl } };
  own = refl;
  count = refl;
}

-- and after more of it
pub held_twice : (C : StoredSet) (old mid new : List EntityManager) (m : ℕ) → AreHeld C old m C mid → AreHeld C mid m C new → AreHeld C old m C new
held_twice C old mid new m h g = record {
  others = λ k n.
      let a = h.others k n in
      let b = g.others k n in
      record {
        status = b.status ∙ a.status;
        mode = b.mode ∙ a.mode;
        context = b.context ∙ a.context;
        idle = λ e. b.idle (ap is_begun_status a.status ∙ e) ∙ a.idle e;
        untouched = λ e.
            let u = a.untouched e in
            let v = b.untouched (ap is_begun_status a.status ∙ e) in
            record { begun = v.begun ∙ u.begun; seen = v.seen ∙ u.seen };
      };
  own = g.own ∙ h.own;
  count = g.count ∙ h.count;
}

pub same_status : (before after : StoredSet) (old new : List EntityManager) (m : ℕ) → AreHeld before old m after new → (k : ℕ) → (manager_in new k).status ≡ (manager_in old k).status
same_status before after old new m h k = by_place (eqb_tells k m)
  where
    by_place : ((eqb k m ≡ true) × (k ≡ m)) ⊎ ((eqb k m ≡ false) × (k ≢ m)) → (manager_in new k).status ≡ (manager_in old k).status
    by_place (inl q) = ap (λ j. (manager_in new j).status) q.1 ∙ ap (λ (x : EntityManager). x.status) h.own ∙ ap (λ j. (manager_in old j).status) (sym q.1)
    by_place (inr q) = (h.others k q.1).status

-- ---- after the commit

-- over a set that differs only in what was kept back
pub held_after : (before after : StoredSet) (old new : List EntityManager) (m : ℕ) (ids : List Identity) → Rises before → Rises after → SameElsewhere after before ids →
    AreHeld before old m before new → AreTold m new ids → AreHeld before old m after new
held_after before after old new m ids r s same h told = record {
  others = λ k n.
      let was = h.others k n in
      record { status = was.status; mode = was.mode; context = was.context; idle = was.idle; untouched = λ begun. by_place k n begun (ap is_begun_status was.status ∙ begun) };
  own = h.own;
  count = h.count;
}
  where
    beyond : (xs : List EntityManager) (k : ℕ) → is_begun_status (manager_in xs k).status ≡ true → k < length xs
    beyond [] k e = absurd (false≢true e)
    beyond (y ∷ xs) zero e = omega (arith)
    beyond (y ∷ xs) (suc k) e = omega (arith, beyond xs k e)

    by_place : (k : ℕ) → k ≢ m → is_begun_status (manager_in old k).status ≡ true → is_begun_status (manager_in new k).status ≡ true → IsUntouched before (manager_in old k).layers after (manager_in new k).layers
    by_place k n begun now_begun =
        untouched_after (manager_in old k).layers (manager_in new k).layers before after ids r s same (told k (beyond new k now_begun) n now_begun) ((h.others k n).untouched begun)

-- what a commit that has its room finds of the others
pub held_beside : (before after : StoredSet) (xs : List EntityManager) (m : ℕ) (ids : List Identity) → Rises before → Rises after → SameElsewhere after before ids → AreTold m xs ids → AreHeld before xs m after xs
held_beside before after xs m ids r s same told = held_after before after xs xs m ids r s same (held_itself before xs m) told

-- ---- those that are open

-- what was kept back for others, and for the manager at this place
pub told_more : (mid new : List EntityManager) (m place : ℕ) (ids : List Identity) → ((k : ℕ) → k ≢ place → manager_in new k ≡ manager_in mid k) → IsTold m new ids place → (k : ℕ) → IsTold m mid ids k → IsTold m new ids k
told_more mid new m place ids same one k told = by_place (eqb_tells k place)
  where
    by_place : ((eqb k place ≡ true) × (k ≡ place)) ⊎ ((eqb k place ≡ false) × (k ≢ place)) → IsTold m new ids k
    by_place (inl q) = subst (IsTold m new ids) (sym q.1) one
    by_place (inr q) = subst (λ (x : EntityManager). k ≢ m → is_begun_status x.status ≡ true → IsKeptBack (x.layers).back ids) (sym (same k q.1)) told

-- what was kept back for those that are open was kept back for all
pub told_all : (C : StoredSet) (old new : List EntityManager) (m : ℕ) (places : List ℕ) (ids : List Identity) → AreHeld C old m C new → places ≡ open_places 0 old →
    ((i : ℕ) → i < length places → IsTold m new ids (get_or places i 0)) → AreTold m new ids
told_all C old new m places ids h e told k l n begun =
    let is_open = begun_is_open (manager_in old k) (ap is_begun_status (sym (h.others k n).status) ∙ begun) in
    let at = place_there 0 old k is_open in
    let within = subst (λ (ns : List ℕ). at.0 < length ns) (sym e) at.1 in
    let there : get_or places at.0 0 ≡ k = ap (λ (ns : List ℕ). get_or ns at.0 0) e ∙ at.2 ∙ (let z : 0 + k ≡ k = omega arith in z) in
    subst (IsTold m new ids) there (told at.0 within) n begun

-- an open manager's place is that of a manager
pub place_within : (C : StoredSet) (old mid : List EntityManager) (m : ℕ) (places : List ℕ) (i : ℕ) → AreHeld C old m C mid → places ≡ open_places 0 old → i < length places → get_or places i 0 < length mid
place_within C old mid m places i h e l =
    let there = places_within 0 old i (subst (λ (ns : List ℕ). i < length ns) e l) in
    let same = ap (λ (ns : List ℕ). get_or ns i 0) e in
    let count = h.count in
    omega (arith, there, same, count)

-- ---- as the machine sees them

transactions : (st : Status) (before after : StoredSet) (a c : Away) → (is_begun_status st ≡ true → IsUntouched before a after c) →
    transaction_in st (begun_over c after) (seen_over c after) ≡ transaction_in st (begun_over a before) (seen_over a before)
transactions Status.Closed before after a c same = refl
transactions Status.Inactive before after a c same = refl
transactions Status.Active before after a c same = let u = same refl in λ i. Some (record { begun = u.begun i; view = u.seen i; is_marked = false })
transactions Status.RollbackOnly before after a c same = let u = same refl in λ i. Some (record { begun = u.begun i; view = u.seen i; is_marked = true })

same_manager : (before after : StoredSet) (x y : EntityManager) → IsHeld before x after y → manager_of after y ≡ manager_of before x
same_manager before after x y h =
    (λ i. record {
      is_open = is_open_status (h.status i);
      mode = h.mode i;
      context = (h.context i).now;
      transaction = transaction_in (h.status i) (begun_over y.layers after) (seen_over y.layers after);
    })
    ∙ (λ i. record (manager_of before x) { transaction = transactions x.status before after x.layers y.layers h.untouched i })

by_places : (f g : EntityManager → Manager) (xs ys : List EntityManager) → length xs ≡ length ys → ((k : ℕ) → k < length xs → f (manager_in xs k) ≡ g (manager_in ys k)) → map f xs ≡ map g ys
by_places f g [] [] l same = refl
by_places f g [] (y ∷ ys) l same = absurd cc
by_places f g (x ∷ xs) [] l same = absurd cc
by_places f g (x ∷ xs) (y ∷ ys) l same = λ i. same zero (omega (arith)) i ∷ by_places f g xs ys (omega (arith, l)) (λ k h. same (suc k) (omega (arith, h))) i

-- with a manager in the place of the one at work that is the same over both sets
pub same_managers : (before after : StoredSet) (old new : List EntityManager) (m : ℕ) (x : EntityManager) → m < length old → AreHeld before old m after new → manager_of after x ≡ manager_of before x →
    managers_of after (slice_set new m x) ≡ managers_of before (slice_set old m x)
same_managers before after old new m x l h own =
    by_places (manager_of after) (manager_of before) (slice_set new m x) (slice_set old m x) (length-set new m x ∙ h.count ∙ sym (length-set old m x)) (λ k less. by_place k (eqb_tells k m))
  where
    by_place : (k : ℕ) → ((eqb k m ≡ true) × (k ≡ m)) ⊎ ((eqb k m ≡ false) × (k ≢ m)) → manager_of after (manager_in (slice_set new m x) k) ≡ manager_of before (manager_in (slice_set old m x) k)
    by_place k (inl q) =
        let there : m < length new = subst (λ n. m < n) (sym h.count) l in
        ap (λ j. manager_of after (manager_in (slice_set new m x) j)) q.1
        ∙ ap (manager_of after) (placed new m x there) ∙ own ∙ ap (manager_of before) (sym (placed old m x l))
        ∙ ap (λ j. manager_of before (manager_in (slice_set old m x) j)) (sym q.1)
    by_place k (inr q) =
        ap (manager_of after) (elsewhere new m k x q.1) ∙ same_manager before after (manager_in old k) (manager_in new k) (h.others k q.1) ∙ ap (manager_of before) (sym (elsewhere old m k x q.1))

-- those without a transaction have no layers still
pub idle_held : (before after : StoredSet) (old new : List EntityManager) (m : ℕ) → AreHeld before old m after new → ((k : ℕ) → k ≢ m → IsIdle old k) → (k : ℕ) → k ≢ m → IsIdle new k
idle_held before after old new m h idle k n e =
    let q = h.others k n in
    let none = ap is_begun_status (sym q.status) ∙ e in
    q.idle none ∙ idle k n none

-- ---- a manager at work beside them

-- while what is committed stays, a manager that is at work is so still
pub held_away : {M : Machine} {m : ℕ} (s t : Session) → IsUndone s.work.view t.work.view → AreHeld (s.work.view).committed s.managers.items m (s.work.view).committed t.managers.items → t.stored ≡ s.stored → t.open_places.items ≡ s.open_places.items →
    IsAway M m s → IsAway M m t
held_away {M} {m} s t u held stored opened h =
    let xs = s.managers.items in
    let ys = t.managers.items in
    let own = held.own in
    let there : AreHeld M.committed xs m M.committed ys = subst (λ C. AreHeld C xs m C ys) h.committed held in
    record {
      within = subst (λ n. m < n) (sym held.count) h.within;
      committed = u.committed ∙ h.committed;
      stored = stored ∙ h.stored;
      status = (λ i. transaction_in (own i).status (u.begun i) (u.kept i)) ∙ h.status;
      apart = λ e.
          let w = h.apart (sym (ap (λ (x : EntityManager). is_begun_status x.status) own) ∙ e) in
          (record { begun = u.begun ∙ (w.0).begun ∙ sym u.committed; kept = u.kept ∙ (w.0).kept ∙ sym u.committed }, ap (λ (x : EntityManager). x.layers) own ∙ w.1);
      home = (λ i. begun_over (own i).layers (u.committed i)) ∙ h.home ∙ sym u.committed;
      home_too = (λ i. seen_over (own i).layers (u.committed i)) ∙ h.home_too ∙ sym u.committed;
      managers = λ x. same_managers M.committed M.committed xs ys m x h.within there refl ∙ h.managers x;
      is_open = ap (λ (x : EntityManager). is_open_status x.status) own ∙ h.is_open;
      mode = ap (λ (x : EntityManager). x.mode) own ∙ h.mode;
      idle = idle_held M.committed M.committed xs ys m there h.idle;
      counted = record { opened = opened ∙ (h.counted).opened ∙ sym (same_places 0 xs ys held.count (same_status (s.work.view).committed (s.work.view).committed xs ys m held)) };
    }
