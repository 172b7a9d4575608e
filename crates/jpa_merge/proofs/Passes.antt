-- The steps of the passes of a merge: along the objects among nodes, and along relations by their places.
use Rattle.std.proofs.Common.{◌≡◌, ◌∙◌, ◌<◌, ◌+◌, ℕ, List, [], ◌∷◌, ◌++◌, drop, length, get_or, ap, sym}
use Rattle.std.specs.List.{enumerate_from}
use Rattle.std.proofs.lemmas.List.{at_drop_more}
use Rattle.jpa_value.specs.declared.value.Identity.{Identity}
use Rattle.jpa_work.specs.context.Steps.{Done, Op, after, each}
use Rattle.jpa_work.specs.context.Work.{Work}
use Rattle.jpa_cascade.specs.declared.Node.{Node}
use Rattle.jpa_cascade.specs.Waves.{live_nodes}
use Rattle.jpa_operations.specs.fetch.Members.{collect}
use Rattle.jpa_operations.proofs.fetch.Collected.{behind, first_done}

-- ---- nodes

module _ {B : Type 0} (f : ℕ → Op B) (nodes : List Node) (i : ℕ) (x : Node) (l : i < length nodes) (read : x ≡ get_or nodes i x) where
  next_nodes : live_nodes (drop i nodes) ≡ live_nodes (x ∷ drop (i + 1) nodes)
  next_nodes = at_drop_more live_nodes nodes i x l ∙ ap (λ y. live_nodes (y ∷ drop (i + 1) nodes)) (sym read)

  -- a row is no object
  pub bare_passed : (id : Identity) (ys : List B) (w : Work) → x ≡ Node.Bare id → behind ys (collect f (live_nodes (drop (i + 1) nodes)) w) ≡ behind ys (collect f (live_nodes (drop i nodes)) w)
  bare_passed id ys w bare = sym (ap (λ ks. behind ys (collect f ks w)) (next_nodes ∙ ap (λ y. live_nodes (y ∷ drop (i + 1) nodes)) bare))

  pub live_done : (n : ℕ) (ys : List B) (y : B) (w v : Work) → x ≡ Node.Live n → f n w ≡ Done y v →
      behind (ys ++ y ∷ []) (collect f (live_nodes (drop (i + 1) nodes)) v) ≡ behind ys (collect f (live_nodes (drop i nodes)) w)
  live_done n ys y w v live done =
      first_done f n (live_nodes (drop (i + 1) nodes)) ys y w v done
      ∙ sym (ap (λ ks. behind ys (collect f ks w)) (next_nodes ∙ ap (λ y. live_nodes (y ∷ drop (i + 1) nodes)) live))

-- ---- relations with their places

module _ {X : Type 0} (f : ℕ × X → Op (Unit {0})) (xs : List X) (i : ℕ) (x : X) (w : Work) (l : i < length xs) (read : x ≡ get_or xs i x) where
  next_place : each f (enumerate_from i (drop i xs)) w ≡ after (f (i, x) w) (λ _. each f (enumerate_from (i + 1) (drop (i + 1) xs)))
  next_place =
      at_drop_more (λ ys. each f (enumerate_from i ys) w) xs i x l
      ∙ ap (λ y. after (f (i, y) w) (λ _. each f (enumerate_from (i + 1) (drop (i + 1) xs)))) (sym read)

  pub place_done : (v : Work) → f (i, x) w ≡ Done tt v → each f (enumerate_from (i + 1) (drop (i + 1) xs)) v ≡ each f (enumerate_from i (drop i xs)) w
  place_done v done = sym (next_place ∙ ap (λ o. after o (λ _. each f (enumerate_from (i + 1) (drop (i + 1) xs)))) done)

-- ---- one after another

pub next_done : {X : Type 0} (f : X → Op (Unit {0})) (xs : List X) (i : ℕ) (x : X) (w v : Work) → i < length xs → x ≡ get_or xs i x → f x w ≡ Done tt v →
    each f (drop (i + 1) xs) v ≡ each f (drop i xs) w
next_done f xs i x w v l read done =
    sym (at_drop_more (λ ys. each f ys w) xs i x l
    ∙ ap (λ y. after (f y w) (λ _. each f (drop (i + 1) xs))) (sym read)
    ∙ ap (λ o. after o (λ _. each f (drop (i + 1) xs))) done)
