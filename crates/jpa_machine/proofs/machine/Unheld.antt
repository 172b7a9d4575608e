-- What get, add and take_out leave where the manager does not hold the object: what was not read is refused, and no more than
-- the relation changes.
use Rattle.std.proofs.Common.{◌≡◌, ◌<◌, ℕ, Bool, true, false, List, [], ◌∷◌, ◌++◌, length, refl, ap, sym, subst, ◌∙◌}
use Rattle.std.specs.Prelude.{Option, Some, None, not, ◌==◌, if◌then◌else◌}
use Rattle.std.specs.List.{list_all, list_any}
use Rattle.std.proofs.lemmas.Bool.{and_from, eqb-true, false≢true}
use Rattle.jpa_value.specs.declared.refusal.Cause.{Cause}
use Rattle.jpa_value.specs.declared.refusal.Argument.{Argument}
use Rattle.jpa_value.specs.declared.refusal.State.{State}
use Rattle.jpa_model.specs.declared.unit.Member.{Member}
use Rattle.jpa_model.specs.declared.unit.Relation.{Relation}
use Rattle.jpa_model.specs.Chains.{is_to_one, member_of, relation_at}
use Rattle.jpa_behaviour.specs.Behaviour.{World}
use Rattle.jpa_work.specs.declared.heap.Handed.{Handed}
use Rattle.jpa_work.specs.declared.heap.Link.{Link}
use Rattle.jpa_work.specs.declared.heap.Collection.{Collection}
use Rattle.jpa_work.specs.declared.heap.Held.{Held}
use Rattle.jpa_work.specs.declared.heap.Life.{Life}
use Rattle.jpa_work.specs.heap.Objects.{held_at, with_held}
use Rattle.jpa_work.specs.heap.Assign.{fits_link}
use Rattle.jpa_work.specs.declared.context.EntityState.{EntityState}
use Rattle.jpa_work.specs.declared.context.Entry.{Entry}
use Rattle.jpa_work.specs.context.Work.{Work, object, state_from, state_of}
use Rattle.jpa_operations.specs.fetch.Members.{add, collection_in, fetch, fetch_held, get, get_member, get_relation, is_held, read_for, read_named, resolve, resolve_link, take_out, with_relation, without_first}
use Rattle.jpa_operations.specs.fetch.Orderly.{IsOrderly}
use Rattle.jpa_machine.specs.machine.Consistent.{IsConsistent, Others, contexts, leads_to, stands_in}
use Rattle.jpa_machine.specs.machine.Going.{HoldsAfter}
use Rattle.jpa_machine.proofs.machine.Changed.{HasSet}
use Rattle.jpa_machine.proofs.machine.Fetching.{IsAt, IsRead, MayStand, read_named_goes, stand_with, stand_without}
use Rattle.jpa_machine.proofs.machine.Going.{More, after_holds, both, require_holds, within_more}
use Rattle.jpa_machine.proofs.machine.Laws.{Steps}
use Rattle.jpa_machine.proofs.machine.Setting.{held_set}

-- ---- what is read stays as it was

module _ (world : World) (n : ℕ) (w : Work) (unheld : is_held (state_of w n) ≡ false) where
  -- it is refused where the manager is to hold the object
  never : is_held (state_of w n) ≡ true → ⊥
  never held = false≢true (sym unheld ∙ held)

  resolve_link_same : (r : ℕ) (h : Held) → HoldsAfter (λ o v. v ≡ w) (resolve_link world n r h w)
  resolve_link_same r (Held.One Link.None) = refl
  resolve_link_same r (Held.One (Link.Object k)) = refl
  resolve_link_same r (Held.Many c) = refl
  resolve_link_same r (Held.One (Link.Key id)) =
      require_holds (λ o v. v ≡ w) (is_held (state_of w n)) (Cause.IllegalState State.Unfetched) w _ (λ held. absurd (never held))

  fetch_held_same : (r : ℕ) (h : Held) → HoldsAfter (λ ks v. v ≡ w) (fetch_held world n r h w)
  fetch_held_same r (Held.Many (Collection.Fetched ks)) = refl
  fetch_held_same r (Held.One link) = refl
  fetch_held_same r (Held.Many Collection.Unfetched) =
      require_holds (λ ks v. v ≡ w) (is_held (state_of w n)) (Cause.IllegalState State.Unfetched) w _ (λ held. absurd (never held))

  pub fetch_unheld : (r : ℕ) → HoldsAfter (λ ks v. v ≡ w) (fetch world n r w)
  fetch_unheld r = fetch_held_same r (held_at (object w n) r)

  relation_same : (r : ℕ) (b : Bool) → HoldsAfter (λ g v. v ≡ w) (get_relation world n r b w)
  relation_same r true = after_holds (λ g v. v ≡ w) (λ o v. v ≡ w) (resolve world n r w) _ (resolve_link_same r (held_at (object w n) r)) (λ o v s. s)
  relation_same r false = after_holds (λ g v. v ≡ w) (λ ks v. v ≡ w) (fetch world n r w) _ (fetch_unheld r) (λ ks v s. s)

  member_same : (member : Option Member) → HoldsAfter (λ g v. v ≡ w) (get_member world n member w)
  member_same None = tt
  member_same (Some (Member.KeyPart i)) = refl
  member_same (Some Member.Version) = refl
  member_same (Some (Member.Attribute i)) = refl
  member_same (Some (Member.Relation r)) = relation_same r (is_to_one (relation_at world.model (object w n).class r).side)

  -- get leaves the work as it was
  pub get_unheld : (name : List ℕ) → HoldsAfter (λ g v. v ≡ w) (get world n name w)
  get_unheld name = member_same (member_of world.model (object w n).class name)

  read_for_same : (k : ℕ) (o : Option ℕ) → HoldsAfter (λ c v. v ≡ w) (read_for world n k o w)
  read_for_same k None = tt
  read_for_same k (Some r) =
      require_holds (λ c v. v ≡ w) (fits_link world.model w.objects (relation_at world.model (object w n).class r).target (Handed.Object k)) (Cause.IllegalArgument Argument.Type) w _ (λ fit.
      after_holds (λ c v. v ≡ w) (λ ks v. v ≡ w) (fetch world n r w) _ (fetch_unheld r) (λ ks v s. s))

  read_named_same : (name : List ℕ) (k : ℕ) → HoldsAfter (λ c v. v ≡ w) (read_named world n name k w)
  read_named_same name k = read_for_same k (collection_in world.model (object w n).class (member_of world.model (object w n).class name))

-- ---- what changes is the collection

module _ {world : World} {P : Work → Type 0} (orderly : IsOrderly world.model) (steps : Steps world P) where
  -- a collection that was read, with what may stand in it
  collection_set : (n r : ℕ) (ks : List ℕ) (w v : Work) → n < length v.objects → v ≡ w →
      ((relation : Relation) → IsAt world.model (object v n).class r relation → not (is_to_one relation.side) ≡ true) → MayStand world.model n r ks v →
      HasSet world w (with_relation n r (Held.Many (Collection.Fetched ks)) v)
  collection_set n r ks w v l same side stand =
      let h = Held.Many (Collection.Fetched ks) in
      subst (λ u. HasSet world u (with_relation n r h v)) same (
        n,
        with_held (object v n) r h,
        l,
        held_set (object v n) r h refl (λ alive relation at. and_from (not (is_to_one relation.side)) (list_all (leads_to world.model v.objects relation.target) ks) (side relation at) (stand relation at)),
        refl,
      )

  -- the collection that was read, in the same work
  abbrev IsReadAt : Work → ℕ → ℕ → ℕ × List ℕ → Work → Type 0
  IsReadAt w n k c v = (P v × More w v × IsRead orderly steps n k c v) × (v ≡ w)

  read_unheld : (n : ℕ) (name : List ℕ) (k : ℕ) (w : Work) → P w → n < length w.objects → k < length w.objects → is_held (state_of w n) ≡ false →
      HoldsAfter (IsReadAt w n k) (read_named world n name k w)
  read_unheld n name k w p l j unheld =
      both (λ c v. P v × More w v × IsRead orderly steps n k c v) (λ c v. v ≡ w) (read_named world n name k w) (read_named_goes orderly steps n name k w p l j) (read_named_same world n w unheld name k)

  -- where add is done, one object changes as set changes it
  pub add_unheld : (n : ℕ) (name : List ℕ) (k : ℕ) (w : Work) → P w → n < length w.objects → k < length w.objects → is_held (state_of w n) ≡ false → HoldsAfter (λ u v. HasSet world w v) (add world n name k w)
  add_unheld n name k w p l j unheld =
      after_holds (λ u v. HasSet world w v) (IsReadAt w n k) (read_named world n name k w) _ (read_unheld n name k w p l j unheld) (λ c v h.
      let read = (h.0).2 in
      collection_set n c.0 (c.1 ++ k ∷ []) w v (within_more w v n (h.0).1 l) h.1 read.0 (stand_with world.model n c.0 c.1 k v read.1 read.2))

  pub take_out_unheld : (n : ℕ) (name : List ℕ) (k : ℕ) (w : Work) → P w → n < length w.objects → k < length w.objects → is_held (state_of w n) ≡ false → HoldsAfter (λ b v. HasSet world w v) (take_out world n name k w)
  take_out_unheld n name k w p l j unheld =
      after_holds (λ b v. HasSet world w v) (IsReadAt w n k) (read_named world n name k w) _ (read_unheld n name k w p l j unheld) (λ c v h.
      let read = (h.0).2 in
      collection_set n c.0 (without_first k c.1) w v (within_more w v n (h.0).1 l) h.1 read.0 (stand_without world.model n c.0 c.1 k v read.1))

-- ---- in whose context nothing stands

-- a manager with an empty context holds no object
pub empty_unheld : {world : World} {M : Others} {m : ℕ} {w : Work} → IsConsistent world M m w → w.context ≡ [] → (n : ℕ) → n < length w.objects → is_held (state_of w n) ≡ false
empty_unheld {world} {M} {m} {w} h none n l = by_life (object w n).life (h.placed n l)
  where
    own : (k : ℕ) → (k == w.manager) ≡ true → list_any (λ (e : Entry). e.object == n) (contexts M m w k) ≡ true → ⊥
    own k e s =
        let same : k ≡ m = eqb-true k w.manager e ∙ h.manager in
        let mine : contexts M m w k ≡ w.context = ap (λ b. if b then w.context else M.context k) (ap (λ j. k == j) (sym h.manager) ∙ e) in
        false≢true (subst (λ (es : List Entry). list_any (λ (x : Entry). x.object == n) es ≡ true) (mine ∙ none) s)

    by_test : (b : Bool) (state : EntityState) → (b ≡ true → ⊥) → is_held (if b then state else EntityState.Detached) ≡ false
    by_test false state apart = refl
    by_test true state apart = absurd (apart refl)

    by_life : (life : Life) → stands_in (contexts M m w) n life ≡ true → is_held (state_from w.manager life) ≡ false
    by_life Life.New s = refl
    by_life (Life.Managed k) s = by_test (k == w.manager) EntityState.Managed (λ e. own k e s)
    by_life (Life.Removed k) s = by_test (k == w.manager) EntityState.Removed (λ e. own k e s)
    by_life Life.Detached s = refl
