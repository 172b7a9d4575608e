-- Operations one after another, with their answers.
use Rattle.std.proofs.Common.{◌≡◌, ◌∙◌, ℕ, ◌+◌, ◌<◌, List, [], ◌∷◌, ◌++◌, drop, length, get_or, ap, sym, subst, refl}
use Rattle.std.proofs.lemmas.List.{at_drop_more}
use Rattle.jpa_value.specs.declared.refusal.Cause.{Cause}
use Rattle.jpa_protocol.specs.declared.event.Told.{Told}
use Rattle.jpa_work.specs.context.Steps.{Outcome, Done, Refused, Op, after, IsRefusedAs}
use Rattle.jpa_work.specs.context.Work.{Work}
use Rattle.jpa_operations.specs.fetch.Members.{collect}
use Rattle.jpa_operations.proofs.fetch.Loaded.{refused_after}

-- the answers so far before those of the rest
abbrev pub behind : {B : Type 0} → List B → Outcome (List B) → Outcome (List B)
behind ys (Done zs w) = Done (ys ++ zs) w
behind ys (Refused r events) = Refused r events

module _ {A B : Type 0} (f : A → Op B) where
  one : (xs : List A) (i : ℕ) (x : A) (w : Work) → i < length xs → x ≡ get_or xs i x →
      collect f (drop i xs) w ≡ after (f x w) (λ y v. after (collect f (drop (i + 1) xs) v) (λ ys u. Done (y ∷ ys) u))
  one xs i x w l read = at_drop_more (λ ys. collect f ys w) xs i x l ∙ ap (λ y. after (f y w) (λ z v. after (collect f (drop (i + 1) xs) v) (λ ys u. Done (z ∷ ys) u))) (sym read)

  joins : (ys : List B) (y : B) (o : Outcome (List B)) → behind ys (after o (λ zs u. Done (y ∷ zs) u)) ≡ behind (ys ++ y ∷ []) o
  joins ys y (Done zs w) = ap (λ l. Done l w) (assoc ys)
    where
      assoc : (ys : List B) → ys ++ y ∷ zs ≡ (ys ++ y ∷ []) ++ zs
      assoc [] = refl
      assoc (x ∷ xs) = ap (λ l. x ∷ l) (assoc xs)
  joins ys y (Refused r events) = refl

  -- the first is done, and its answer stands last among those so far
  pub first_done : (x : A) (xs : List A) (ys : List B) (y : B) (w v : Work) → f x w ≡ Done y v → behind (ys ++ y ∷ []) (collect f xs v) ≡ behind ys (collect f (x ∷ xs) w)
  first_done x xs ys y w v done =
      sym (ap (behind ys) (ap (λ o. after o (λ z u. after (collect f xs u) (λ zs t. Done (z ∷ zs) t))) done) ∙ joins ys y (collect f xs v))

  -- the same of one of a list, at its place
  pub one_done : (xs : List A) (i : ℕ) (x : A) (ys : List B) (y : B) (w v : Work) → i < length xs → x ≡ get_or xs i x → f x w ≡ Done y v →
      behind (ys ++ y ∷ []) (collect f (drop (i + 1) xs) v) ≡ behind ys (collect f (drop i xs) w)
  one_done xs i x ys y w v l read done = first_done x (drop (i + 1) xs) ys y w v done ∙ sym (ap (behind ys) (one xs i x w l read))

  -- or it is refused, and so are all
  pub one_refused : (xs : List A) (i : ℕ) (x : A) (ys : List B) (w : Work) (r : Cause) (events : List Told) → i < length xs → x ≡ get_or xs i x → IsRefusedAs r events (f x w) →
      IsRefusedAs r events (behind ys (collect f (drop i xs) w))
  one_refused xs i x ys w r events l read h =
      through r (collect f (drop i xs) w)
      (subst (IsRefusedAs r events) (sym (one xs i x w l read)) (refused_after r events (f x w) _ h))
    where
      through : (r : Cause) (o : Outcome (List B)) → IsRefusedAs r events o → IsRefusedAs r events (behind ys o)
      through Cause.OutOfMemory o h = tt
      through Cause.StoreFault o h = h
      through r o h = ap (behind ys) h
