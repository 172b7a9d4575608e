-- PreUpdate of the entries that a flush looks at: what it does to their objects leaves the others as their bases say.
use Rattle.std.proofs.Common.{◌≡◌, ◌∙◌, ◌≢◌, ◌⊎◌, inl, inr, ℕ, zero, suc, ◌+◌, ◌<◌, ◌≤◌, Bool, true, false, not, List, [], ◌∷◌, drop, length, get_or, refl, ap, sym, subst, add-one, arith}
use Rattle.std.specs.Prelude.{◌==◌, ◌||◌}
use Rattle.std.specs.List.{list_any}
use Rattle.std.proofs.lemmas.Bool.{and_parts, false≢true, true≢false, cases_lt, eq-eqb}
use Rattle.std.proofs.lemmas.List.{get_or-set_other}
use Rattle.jpa_value.specs.declared.event.LifecycleEvent.{LifecycleEvent}
use Rattle.jpa_value.specs.declared.refusal.Cause.{Cause}
use Rattle.jpa_protocol.specs.declared.event.Told.{Told}
use Rattle.jpa_behaviour.specs.Behaviour.{World}
use Rattle.jpa_stored.specs.objects.Sets.{all_distinct}
use Rattle.jpa_work.specs.declared.heap.LiveObject.{LiveObject}
use Rattle.jpa_work.specs.heap.Objects.{is_new, no_object}
use Rattle.jpa_work.specs.declared.context.Entry.{Entry}
use Rattle.jpa_work.specs.context.Steps.{Done, IsRefusedAs, Outcome, done, each}
use Rattle.jpa_work.specs.context.Work.{Work, object}
use Rattle.jpa_lifecycle.proofs.Keeps.{HasHappened, happened}
use Rattle.jpa_operations.specs.fetch.Grown.{AreDistinct}
use Rattle.jpa_flush.specs.declared.flush.steps.FlushAction.{FlushAction}
use Rattle.jpa_flush.specs.flush.Flush.{pre_update_for, pre_update_one}
use Rattle.jpa_flush.specs.flush.Plan.{step_of, update}
use Rattle.jpa_flush.specs.flush.Marked.{AreLooked, GoesOn, from, is_calm}
use Rattle.jpa_flush.proofs.flush.Silent.{calm_action}
use Rattle.jpa_flush.proofs.flush.Gaps.{each_step, to_end, to_next}
use Rattle.jpa_flush.proofs.flush.Places.{is_place}
use Rattle.jpa_flush.proofs.flush.Rounds.{update_done, update_refused}
use Rattle.jpa_flush.proofs.flush.Untouched.{calm_on}
use Rattle.jpa_flush.proofs.flush.Updated.{IsUpdated}

-- ---- entries at different places are of different objects

none_at : (p : Entry → Bool) (xs : List Entry) (j : ℕ) (c : Entry) → list_any p xs ≡ false → j < length xs → p (get_or xs j c) ≡ false
none_at p [] j c h l = absurd (omega (arith, l))
none_at p (x ∷ xs) zero c h l = by (p x) h
  where
    by : (b : Bool) → (b || list_any p xs) ≡ false → b ≡ false
    by true k = absurd (true≢false k)
    by false k = refl
none_at p (x ∷ xs) (suc j) c h l = by (p x) h (λ k. none_at p xs j c k (omega (arith, l)))
  where
    by : (b : Bool) → (b || list_any p xs) ≡ false → (list_any p xs ≡ false → p (get_or xs j c) ≡ false) → p (get_or xs j c) ≡ false
    by true k f = absurd (true≢false k)
    by false k f = f k

not_any : (b : Bool) → not b ≡ true → b ≡ false
not_any true h = absurd (false≢true h)
not_any false h = refl

unlike : (es : List Entry) (i j : ℕ) (d c : Entry) → all_distinct (λ (a b : Entry). a.object == b.object) es ≡ true → i < j → j < length es → ((get_or es i d).object == (get_or es j c).object) ≡ false
unlike [] i j d c h l m = absurd (omega (arith, m))
unlike (x ∷ xs) i zero d c h l m = absurd (omega (arith, l))
unlike (x ∷ xs) zero (suc j) d c h l m =
    none_at (λ (b : Entry). x.object == b.object) xs j c (not_any _ (and_parts _ (all_distinct (λ (a b : Entry). a.object == b.object) xs) h).0) (omega (arith, m))
unlike (x ∷ xs) (suc i) (suc j) d c h l m =
    unlike xs i j d c (and_parts _ (all_distinct (λ (a b : Entry). a.object == b.object) xs) h).1 (omega (arith, l)) (omega (arith, m))

differ : (a b : ℕ) → (a == b) ≡ false → a ≢ b
differ a b h e = true≢false (sym (eq-eqb a b e) ∙ h)

pub other_object : (es : List Entry) (i j : ℕ) (d c : Entry) → AreDistinct es → i ≢ j → i < length es → j < length es → (get_or es i d).object ≢ (get_or es j c).object
other_object es i j d c h apart l m = by (cases_lt i j)
  where
    by : (i < j) ⊎ (j ≤ i) → (get_or es i d).object ≢ (get_or es j c).object
    by (inl less) = differ _ _ (unlike es i j d c h less m)
    by (inr more) = λ e. differ _ _ (unlike es j i c d h (omega (arith, more, apart)) l) (sym e)

-- ---- one event changes its own object alone

others_by : (n : ℕ) (w v : Work) → HasHappened n w v → (k : ℕ) → k ≢ n → object v k ≡ object w k
others_by n w v h k apart = ap (λ (u : Work). object u k) h.same ∙ get_or-set_other w.objects n k h.object no_object apart

others_step : (world : World) (n : ℕ) (s : FlushAction) (w v : Work) → update world n s w ≡ Done tt v → (k : ℕ) → k ≢ n → object v k ≡ object w k
others_step world n FlushAction.Keep w v e k apart = let same : w ≡ v = cc in ap (λ (u : Work). object u k) (sym same)
others_step world n FlushAction.Insert w v e k apart = let same : w ≡ v = cc in ap (λ (u : Work). object u k) (sym same)
others_step world n (FlushAction.Replace version) w v e k apart = others_by n w v (happened world LifecycleEvent.PreUpdate n w v e) k apart
others_step world n (FlushAction.Drop version) w v e k apart = let same : w ≡ v = cc in ap (λ (u : Work). object u k) (sym same)

-- ---- the objects in the gaps are as they were

abbrev pub AreQuiet : List ℕ → Work → Work → Type 0
AreQuiet places w0 w = (k : ℕ) (d : Entry) → k < length w0.context → list_any (λ p. p == k) places ≡ false → object w (get_or w0.context k d).object ≡ object w0 (get_or w0.context k d).object

pub quiet_none : (places : List ℕ) (w : Work) → AreQuiet places w w
quiet_none places w k d l g = refl

pub goes_on : (w0 w : Work) → IsUpdated w0 w → GoesOn w0 w
goes_on w0 w h =
    record {
      manager = h.manager;
      count = let c = h.count in omega (arith, c);
      names = λ k l old.
          record {
            class = ap (λ (x : LiveObject). x.class) (h.objects k).same;
            key = ap (λ (x : LiveObject). x.key) (h.objects k).same;
            old = ap (λ (x : LiveObject). is_new x.life) (h.objects k).same ∙ old;
          };
    }

module _ (world : World) (w0 w : Work) {places : List ℕ} (looked : AreLooked (λ e. is_calm world.model w0 e ≡ true) w0.context places) (same : IsUpdated w0 w) (quiet : AreQuiet places w0 w) where
  pub still_looked : AreLooked (λ e. is_calm world.model w e ≡ true) w0.context places
  still_looked =
      record {
        rising = looked.rising;
        others = λ k d l g. calm_on world.model (goes_on w0 w same) (get_or w0.context k d) (quiet k d l g) (looked.others k d l g);
      }

  silent_step : (x : Entry) (xs : List Entry) → is_calm world.model w x ≡ true → each (pre_update_one world) (x ∷ xs) w ≡ each (pre_update_one world) xs w
  silent_step x xs h = each_step (pre_update_one world) w x xs (ap (λ a. pre_update_for world x a w) (calm_action world.model w x h))

  pub updates_next : (w' : Work) (i : ℕ) (e : Entry) → i < length places → e ≡ get_or w.context (get_or places i 0) e → update world e.object (step_of world.model w e) w ≡ Done tt w' →
      each (pre_update_one world) (drop (from places (i + 1)) w0.context) w' ≡ each (pre_update_one world) (drop (from places i) w0.context) w
  updates_next w' i e l is done =
      let p = get_or places i 0 in
      let within : p < length w.context = subst (λ (es : List Entry). p < length es) (sym same.context) ((looked.rising).within i l) in
      ap (λ j. each (pre_update_one world) (drop (from places j) w0.context) w') (add-one i)
      ∙ ap (λ j. each (pre_update_one world) (drop j w0.context) w') (sym (add-one p))
      ∙ update_done world w0 w w' p e same within is done
      ∙ to_next still_looked (λ es. each (pre_update_one world) es w) silent_step i l

  pub updates_refused : (i : ℕ) (e : Entry) (r : Cause) (events : List Told) (o : Outcome (Unit {0})) → i < length places → e ≡ get_or w.context (get_or places i 0) e →
      each (pre_update_one world) (drop (from places i) w0.context) w ≡ o → IsRefusedAs r events (update world e.object (step_of world.model w e) w) → IsRefusedAs r events o
  updates_refused i e r events o l is rest h =
      let p = get_or places i 0 in
      let within : p < length w.context = subst (λ (es : List Entry). p < length es) (sym same.context) ((looked.rising).within i l) in
      update_refused world w0 w p e r events o same within is (to_next still_looked (λ es. each (pre_update_one world) es w) silent_step i l ∙ rest) h

  pub updates_end : Done tt w ≡ each (pre_update_one world) (drop (from places (length places)) w0.context) w
  updates_end = to_end still_looked (λ es. each (pre_update_one world) es w) silent_step

  -- the next event leaves the gaps as they were
  pub quiet_next : (w' : Work) (i : ℕ) (e : Entry) → AreDistinct w0.context → i < length places → e ≡ get_or w.context (get_or places i 0) e → update world e.object (step_of world.model w e) w ≡ Done tt w' → AreQuiet places w0 w'
  quiet_next w' i e distinct l is done k d m g =
      let p = get_or places i 0 in
      let own : e ≡ get_or w0.context p e = is ∙ ap (λ (es : List Entry). get_or es p e) same.context in
      let apart : k ≢ p = λ q. false≢true (sym g ∙ ap (λ j. list_any (λ o. o == j) places) q ∙ is_place looked.rising i l) in
      let other : (get_or w0.context k d).object ≢ e.object = λ q. other_object w0.context k p d e distinct apart m ((looked.rising).within i l) (q ∙ ap (λ (x : Entry). x.object) own) in
      others_step world e.object (step_of world.model w e) w w' done (get_or w0.context k d).object other ∙ quiet k d m g
