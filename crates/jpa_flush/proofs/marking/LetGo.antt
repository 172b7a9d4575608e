-- What marks say stays where some objects are let go that are not managed for them.
use Rattle.std.proofs.Common.{◌≡◌, ◌∙◌, ◌≢◌, ◌⊎◌, inl, inr, ℕ, ◌<◌, Bool, true, false, length, get_or, refl, ap, sym, subst, arith}
use Rattle.std.specs.Prelude.{◌==◌, ◌||◌, if◌then◌else◌}
use Rattle.std.specs.List.{All}
use Rattle.std.proofs.lemmas.Bool.{eqb-true, false≢true}
use Rattle.std.proofs.lemmas.List.{get_or_default}
use Rattle.jpa_model.specs.declared.unit.PersistenceUnit.{PersistenceUnit}
use Rattle.jpa_work.specs.declared.heap.Life.{Life}
use Rattle.jpa_work.specs.declared.heap.LiveObject.{LiveObject}
use Rattle.jpa_work.specs.heap.Objects.{is_new, with_life}
use Rattle.jpa_work.specs.declared.context.Entry.{Entry}
use Rattle.jpa_work.specs.declared.context.EntityState.{EntityState}
use Rattle.jpa_work.specs.context.Marks.{Marks, is_marked}
use Rattle.jpa_work.specs.context.Work.{Work, is_managed, is_removed, object, state_from, state_of}
use Rattle.jpa_flush.specs.flush.Marked.{AreMarked, GoesOn, IsAnew, IsNamedStill, LeadsStill, may_lead}
use Rattle.jpa_flush.proofs.flush.Noted.{marks_go_on}
use Rattle.jpa_flush.proofs.flush.Silent.{calm_parts}
use Rattle.jpa_flush.specs.marking.Shared.{LetsGo, OwnStay, TheirsStay, is_held_by, is_removed_by, seen_by}

-- a state of which this is known may be led to only where a detached one may, and is not managed
record IsNoMore (s : EntityState) : Type 0 where
  pub leads : (b : Bool) → may_lead b s ≡ true → may_lead b EntityState.Detached ≡ true
  pub managed : is_managed s ≡ false

no_more_removed : IsNoMore EntityState.Removed
no_more_removed = record { leads = leads; managed = refl }
  where
    leads : (b : Bool) → may_lead b EntityState.Removed ≡ true → may_lead b EntityState.Detached ≡ true
    leads true h = h
    leads false h = absurd (false≢true h)

no_more_detached : IsNoMore EntityState.Detached
no_more_detached = record { leads = λ b h. h; managed = refl }

module _ (m : PersistenceUnit) (w v : Work) (marks : Marks) (manager : v.manager ≡ w.manager) (context : v.context ≡ w.context) (test : Life → Bool) (go : LetsGo test w.objects v.objects)
    (no_more : (life : Life) → test life ≡ true → IsNoMore (state_from w.manager life)) where
  abbrev GoesAt : ℕ → Type 0
  GoesAt n = (object v n ≡ object w n) ⊎ ((test (object w n).life ≡ true) × (object v n ≡ with_life (object w n) Life.Detached))

  named_at : (n : ℕ) → is_new (object w n).life ≡ false → GoesAt n → IsNamedStill (object w n) (object v n)
  named_at n old (inl same) = record { class = ap (λ (x : LiveObject). x.class) same; key = ap (λ (x : LiveObject). x.key) same; old = ap (λ (x : LiveObject). is_new x.life) same ∙ old }
  named_at n old (inr x) = record { class = ap (λ (y : LiveObject). y.class) x.1; key = ap (λ (y : LiveObject). y.key) x.1; old = ap (λ (y : LiveObject). is_new y.life) x.1 }

  goes_on : GoesOn w v
  goes_on = record { manager = manager; count = let same = go.count in omega (arith, same); names = λ n l old. named_at n old (go.each n) }

  leads_at : (b : Bool) (n : ℕ) → may_lead b (state_of w n) ≡ true → GoesAt n → may_lead b (state_of v n) ≡ true
  leads_at b n leads (inl same) = (λ i. may_lead b (state_from (manager i) (same i).life)) ∙ leads
  leads_at b n leads (inr x) = (λ i. may_lead b (state_from (manager i) ((x.1) i).life)) ∙ (no_more (object w n).life x.0).leads b leads

  leads_still : LeadsStill w v
  leads_still b n named leads = leads_at b n leads (go.each n)

  same_at : (n : ℕ) → is_managed (state_of w n) ≡ true → GoesAt n → object v n ≡ object w n
  same_at n managed (inl same) = same
  same_at n managed (inr x) = absurd (false≢true (sym (no_more (object w n).life x.0).managed ∙ managed))

  marks_stay : AreMarked m w marks → AreMarked m v marks
  marks_stay h = marks_go_on m w v marks marks goes_on (λ linked. linked) (λ linked. leads_still) h anew
    where
      by : (i : ℕ) (d : Entry) → i < length w.context → (b : Bool) → is_marked marks (get_or w.context i d).object ≡ b → IsAnew m w v marks marks (get_or w.context i d)
      by i d l true marked = inr (inl marked)
      by i d l false unmarked =
          let e = get_or w.context i d in
          let managed = (calm_parts m w e (h i d l unmarked).calm).managed in
          inr (inr (i, l, get_or_default w.context i e d l, same_at e.object managed (go.each e.object), unmarked))

      anew : All (IsAnew m w v marks marks) v.context
      anew = subst (All (IsAnew m w v marks marks)) (sym context) (λ i d l. by i d l (is_marked marks (get_or w.context i d).object) refl)

-- ---- a manager's own marks, where removed objects are let go

removed_no_more : (s : EntityState) → is_removed s ≡ true → IsNoMore s
removed_no_more EntityState.New h = absurd (false≢true h)
removed_no_more EntityState.Managed h = absurd (false≢true h)
removed_no_more EntityState.Removed h = no_more_removed
removed_no_more EntityState.Detached h = absurd (false≢true h)

pub own_stay : OwnStay
own_stay m w v marks manager context go h = marks_stay m w v marks manager context (is_removed_by w.manager) go (λ life removed. removed_no_more (state_from w.manager life) removed) h

-- ---- another manager's, where a manager lets go what it holds

module _ (k j : ℕ) (other : k ≢ j) where
  elsewhere : (n : ℕ) (s : EntityState) → (n == j) ≡ true → IsNoMore (if n == k then s else EntityState.Detached)
  elsewhere n s own = by (n == k) refl
    where
      by : (b : Bool) → (n == k) ≡ b → IsNoMore (if b then s else EntityState.Detached)
      by true e = absurd (other (sym (eqb-true n k e) ∙ eqb-true n j own))
      by false e = no_more_detached

  holder : (n : ℕ) (b : Bool) (s : EntityState) → (n == j) ≡ b → (is_removed (if b then s else EntityState.Detached) || is_managed (if b then s else EntityState.Detached)) ≡ true → b ≡ true
  holder n true s e h = refl
  holder n false s e h = absurd (false≢true h)

  held_no_more : (life : Life) → is_held_by j life ≡ true → IsNoMore (state_from k life)
  held_no_more Life.New h = absurd (false≢true h)
  held_no_more (Life.Managed n) h = elsewhere n EntityState.Managed (holder n (n == j) EntityState.Managed refl h)
  held_no_more (Life.Removed n) h = elsewhere n EntityState.Removed (holder n (n == j) EntityState.Removed refl h)
  held_no_more Life.Detached h = no_more_detached

pub theirs_stay : TheirsStay
theirs_stay m k es marks w v other go h = marks_stay m (seen_by k es w) (seen_by k es v) marks refl refl (is_held_by w.manager) go (held_no_more k w.manager other) h
