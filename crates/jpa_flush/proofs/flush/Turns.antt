-- One entry after another, of those that a flush looks at.
use Rattle.std.proofs.Common.{◌≡◌, ◌∙◌, ℕ, ◌+◌, ◌<◌, Bool, true, false, List, ◌∷◌, ◌++◌, drop, map, length, get_or, ap, sym, subst, add-one}
use Rattle.std.specs.Prelude.{◌&&◌, Option}
use Rattle.std.specs.List.{flat_map, list_all}
use Rattle.std.specs.Option.{option_to_list}
use Rattle.std.proofs.lemmas.List.{at_drop_more, append_assoc, append-nil}
use Rattle.jpa_value.specs.declared.refusal.Cause.{Cause}
use Rattle.jpa_behaviour.specs.Behaviour.{World}
use Rattle.jpa_work.specs.declared.context.Entry.{Entry}
use Rattle.jpa_work.specs.context.Steps.{Done, IsRefusedAs, each}
use Rattle.jpa_work.specs.context.Work.{Work}
use Rattle.jpa_flush.specs.declared.flush.planning.Planned.{Planned}
use Rattle.jpa_flush.specs.flush.Flush.{check_actions, check_one}
use Rattle.jpa_flush.specs.flush.Flush as flushes
use Rattle.jpa_flush.specs.flush.Plan.{check, item, planned, planned_of, step_of}
use Rattle.jpa_flush.specs.flush.Marked.{AreLooked, from, is_calm}
use Rattle.jpa_flush.proofs.flush.Actions.{one_checked, one_planned}
use Rattle.jpa_flush.proofs.flush.Silent.{calm_action}
use Rattle.jpa_flush.proofs.flush.Gaps.{all_step, each_step, list_step, to_end, to_next}
use Rattle.jpa_flush.proofs.flush.Rounds.{refused_after}

module _ {Silent : Entry → Type 0} {es : List Entry} {places : List ℕ} (looked : AreLooked Silent es places) where
  -- what is left is the entry at the next place and what is left behind it
  pub rest_next : {A : Type 0} (F : List Entry → A) → ((x : Entry) (xs : List Entry) → Silent x → F (x ∷ xs) ≡ F xs) → (i : ℕ) (e : Entry) → i < length places →
      e ≡ get_or es (get_or places i 0) e → F (e ∷ drop (from places (i + 1)) es) ≡ F (drop (from places i) es)
  rest_next F step i e l is =
      let p = get_or places i 0 in
      ap (λ j. F (e ∷ drop (from places j) es)) (add-one i)
      ∙ ap (λ j. F (e ∷ drop j es)) (sym (add-one p))
      ∙ ap (λ (x : Entry). F (x ∷ drop (p + 1) es)) is
      ∙ sym (at_drop_more F es p e ((looked.rising).within i l))
      ∙ to_next looked F step i l

-- ---- tests

module _ (p : Entry → Bool) {es : List Entry} {places : List ℕ} (looked : AreLooked (λ e. p e ≡ true) es places) where
  pub test_next : (i : ℕ) (e : Entry) → i < length places → e ≡ get_or es (get_or places i 0) e → p e ≡ true →
      list_all p (drop (from places (i + 1)) es) ≡ list_all p (drop (from places i) es)
  test_next i e l is h = sym (all_step p e (drop (from places (i + 1)) es) h) ∙ rest_next looked (list_all p) (all_step p) i e l is

  pub test_fails : (i : ℕ) (e : Entry) → i < length places → e ≡ get_or es (get_or places i 0) e → p e ≡ false → false ≡ list_all p (drop (from places i) es)
  test_fails i e l is h = sym (ap (λ b. b && list_all p (drop (from places (i + 1)) es)) h) ∙ rest_next looked (list_all p) (all_step p) i e l is

  pub test_ends : true ≡ list_all p (drop (from places (length places)) es)
  test_ends = to_end looked (list_all p) (all_step p)

-- ---- the plan and the checks

module _ (world : World) (w : Work) {places : List ℕ} (looked : AreLooked (λ e. is_calm world.model w e ≡ true) w.context places) where
  check_step : (x : Entry) (xs : List Entry) → is_calm world.model w x ≡ true → each (check_one world) (x ∷ xs) w ≡ each (check_one world) xs w
  check_step x xs h = each_step (check_one world) w x xs (ap (λ a. flushes.check_action world x a w) (calm_action world.model w x h))

  plan_step : (x : Entry) (xs : List Entry) → is_calm world.model w x ≡ true → flat_map (planned_of world.model w) (x ∷ xs) ≡ flat_map (planned_of world.model w) xs
  plan_step x xs h = list_step (planned_of world.model w) x xs (ap (λ a. map (item world.model w) (flushes.planned world.model w x a)) (calm_action world.model w x h))

  pub checks_next : (i : ℕ) (e : Entry) → i < length places → e ≡ get_or w.context (get_or places i 0) e → check world e.object (step_of world.model w e) w ≡ Done tt w →
      each (check_one world) (drop (from places (i + 1)) w.context) w ≡ each (check_one world) (drop (from places i) w.context) w
  checks_next i e l is done =
      sym (each_step (check_one world) w e (drop (from places (i + 1)) w.context) (one_checked world e w ∙ done))
      ∙ rest_next looked (λ es. each (check_one world) es w) check_step i e l is

  pub checks_refused : (i : ℕ) (e : Entry) (r : Cause) → i < length places → e ≡ get_or w.context (get_or places i 0) e →
      each (check_one world) (drop (from places i) w.context) w ≡ check_actions world w →
      IsRefusedAs r w.events (check world e.object (step_of world.model w e) w) → IsRefusedAs r w.events (check_actions world w)
  checks_refused i e r l is rest h =
      subst (IsRefusedAs r w.events) (rest_next looked (λ es. each (check_one world) es w) check_step i e l is ∙ rest)
      (refused_after r w.events (check_one world e w) (λ _. each (check_one world) (drop (from places (i + 1)) w.context)) (subst (IsRefusedAs r w.events) (sym (one_checked world e w)) h))

  pub checks_end : Done tt w ≡ each (check_one world) (drop (from places (length places)) w.context) w
  checks_end = to_end looked (λ es. each (check_one world) es w) check_step

  pub plan_next : (i : ℕ) (e : Entry) (plan plan' : List Planned) (o : Option Planned) → i < length places → e ≡ get_or w.context (get_or places i 0) e →
      plan ++ flat_map (planned_of world.model w) (drop (from places i) w.context) ≡ flat_map (planned_of world.model w) w.context →
      o ≡ planned world.model w e.object (step_of world.model w e) → plan' ≡ plan ++ option_to_list o →
      plan' ++ flat_map (planned_of world.model w) (drop (from places (i + 1)) w.context) ≡ flat_map (planned_of world.model w) w.context
  plan_next i e plan plan' o l is before this more =
      let made = planned_of world.model w in
      let rest = flat_map made (drop (from places (i + 1)) w.context) in
      let one : option_to_list o ≡ made e = ap option_to_list this ∙ one_planned world.model w e in
      let here : made e ++ rest ≡ flat_map made (drop (from places i) w.context) = rest_next looked (flat_map made) plan_step i e l is in
      ap (λ ps. ps ++ rest) more
      ∙ append_assoc plan (option_to_list o) rest
      ∙ ap (λ ps. plan ++ (ps ++ rest)) one
      ∙ ap (λ ps. plan ++ ps) here
      ∙ before

  pub plan_ends : (plan : List Planned) → plan ++ flat_map (planned_of world.model w) (drop (from places (length places)) w.context) ≡ flat_map (planned_of world.model w) w.context →
      plan ≡ flat_map (planned_of world.model w) w.context
  plan_ends plan h = sym (append-nil plan) ∙ ap (λ ps. plan ++ ps) (to_end looked (flat_map (planned_of world.model w)) plan_step) ∙ h
