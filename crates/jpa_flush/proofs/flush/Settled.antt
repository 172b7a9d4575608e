-- What changes an object at a time, and an entry at a time.
use Rattle.std.proofs.Common.{◌≡◌, ◌∙◌, ℕ, zero, suc, ◌<◌, ◌≤◌, ◌+◌, List, [], ◌∷◌, ◌++◌, map, take, drop, length, get_or, refl, ap, sym, subst, arith, add-one}
use Rattle.std.specs.Prelude.{if◌then◌else◌, ◌==◌, slice_set, Option, Some, None}
use Rattle.std.proofs.lemmas.Bool.{cond_both}
use Rattle.std.proofs.lemmas.List.{length-set}
use Rattle.jpa_value.specs.declared.value.Identity.{Identity}
use Rattle.jpa_stored.specs.declared.objects.stored.Stored.{Stored}
use Rattle.jpa_work.specs.declared.context.Entry.{Entry}
use Rattle.jpa_work.specs.context.Indexed.{placed}
use Rattle.jpa_work.specs.context.Work.{Work, object}
use Rattle.jpa_flush.specs.declared.flush.planning.Planned.{Planned}
use Rattle.jpa_flush.specs.flush.Flush.{settled}
use Rattle.jpa_flush.specs.flush.Plan.{learned_entry, settled_by}
use Rattle.jpa_flush.proofs.flush.Alike.{IsAlike, alike_none, alike_twice, alike_entries, like_set, placed_map}

-- an entry of an object of which this was written, or which was taken out, with these members in its base
abbrev pub learned_as : List (Option (List Identity)) → Option Stored → Entry → Entry
learned_as ms None e = record e { base = None }
learned_as ms (Some x) e = learned_entry ms x e

abbrev pub learned_if : List (Option (List Identity)) → ℕ → Option Stored → Entry → Entry
learned_if ms n o e = if e.object == n then learned_as ms o e else e

-- the first i items changed, the others not
abbrev pub partly : {X : Type 0} → (X → X) → ℕ → List X → List X
partly f i xs = map f (take i xs) ++ drop i xs

set_next : {X : Type 0} (f : X → X) (xs : List X) (i : ℕ) (x y : X) → i < length xs → x ≡ get_or (partly f i xs) i x → y ≡ f x → slice_set (partly f i xs) i y ≡ partly f (suc i) xs
set_next f [] i x y l e h = absurd (omega arith)
set_next f (z ∷ zs) zero x y l e h = ap (λ v. v ∷ zs) (h ∙ ap f e)
set_next f (z ∷ zs) (suc i) x y l e h = ap (λ vs. f z ∷ vs) (set_next f zs i x y (omega arith) e h)

keep_next : {X : Type 0} (f : X → X) (xs : List X) (i : ℕ) (x : X) → i < length xs → x ≡ get_or (partly f i xs) i x → x ≡ f x → partly f i xs ≡ partly f (suc i) xs
keep_next f [] i x l e h = absurd (omega arith)
keep_next f (z ∷ zs) zero x l e h = ap (λ v. v ∷ zs) (sym e ∙ h ∙ ap f e)
keep_next f (z ∷ zs) (suc i) x l e h = ap (λ vs. f z ∷ vs) (keep_next f zs i x (omega arith) e h)

all_changed : {X : Type 0} (f : X → X) (xs : List X) (i : ℕ) → length xs ≤ i → partly f i xs ≡ map f xs
all_changed f [] zero l = refl
all_changed f [] (suc i) l = refl
all_changed f (x ∷ xs) zero l = absurd (omega arith)
all_changed f (x ∷ xs) (suc i) l = ap (λ ys. f x ∷ ys) (all_changed f xs i (omega arith))

pub partly_length : {X : Type 0} (f : X → X) (i : ℕ) (xs : List X) → length (partly f i xs) ≡ length xs
partly_length f zero xs = refl
partly_length f (suc i) [] = refl
partly_length f (suc i) (x ∷ xs) = ap suc (partly_length f i xs)

-- the context changes by its next entry
pub set_round : (f : Entry → Entry) (w0 w : Work) (i : ℕ) (e y : Entry) → i < length w0.context → w ≡ record w0 { context = partly f i w0.context } → e ≡ get_or w.context i e → y ≡ f e →
    record w { context = slice_set w.context i y } ≡ record w0 { context = partly f (i + 1) w0.context }
set_round f w0 w i e y l same read h =
    ap {A = Work} {B = Work} (λ v. record v { context = slice_set v.context i y }) same
    ∙ ap {A = List Entry} {B = Work} (λ es. record w0 { context = es })
    (set_next f w0.context i e y l (subst (λ v. e ≡ get_or v.context i e) same read) h ∙ ap (λ k. partly f k w0.context) (sym (add-one i)))

pub keep_round : (f : Entry → Entry) (w0 w : Work) (i : ℕ) (e : Entry) → i < length w0.context → w ≡ record w0 { context = partly f i w0.context } → e ≡ get_or w.context i e → e ≡ f e →
    w ≡ record w0 { context = partly f (i + 1) w0.context }
keep_round f w0 w i e l same read h =
    same
    ∙ ap {A = List Entry} {B = Work} (λ es. record w0 { context = es })
    (keep_next f w0.context i e l (subst (λ v. e ≡ get_or v.context i e) same read) h ∙ ap (λ k. partly f k w0.context) (sym (add-one i)))

pub changed_whole : (f : Entry → Entry) (w0 w : Work) (i : ℕ) → length w0.context ≤ i → w ≡ record w0 { context = partly f i w0.context } → w ≡ record w0 { context = map f w0.context }
changed_whole f w0 w i l same = same ∙ ap {A = List Entry} {B = Work} (λ es. record w0 { context = es }) (all_changed f w0.context i l)

-- ---- what a plan leaves of objects and entries

pub one_count : (n : ℕ) (o : Option Stored) (w : Work) → length (settled n o w).objects ≡ length w.objects
one_count n None w = refl
one_count n (Some x) w = length-set w.objects n (record (object w n) { version = x.version })

pub one_context : (n : ℕ) (o : Option Stored) (w : Work) → (settled n o w).context ≡ map (learned_if [] n o) w.context
one_context n None w = refl
one_context n (Some x) w = refl

-- ---- operations stand on what is settled as on what was there

pub learned_placed : (ms : List (Option (List Identity))) (n : ℕ) (o : Option Stored) (e : Entry) → placed (learned_if ms n o e) ≡ placed e
learned_placed ms n o e = cond_both (e.object == n) (learned_as ms o e) e (λ (v : Entry). placed v ≡ placed e) (λ q. as_it_was o) (λ q. refl)
  where
    as_it_was : (x : Option Stored) → placed (learned_as ms x e) ≡ placed e
    as_it_was None = refl
    as_it_was (Some x) = refl

pub one_alike : (n : ℕ) (o : Option Stored) (w : Work) → IsAlike w (settled n o w)
one_alike n None w = alike_entries w (map (learned_if [] n None) w.context) (placed_map (learned_if [] n None) (learned_placed [] n None) w.context)
one_alike n (Some x) w =
    record {
      numbers = refl;
      view = refl;
      context = placed_map (learned_if [] n (Some x)) (learned_placed [] n (Some x)) w.context;
      count = one_count n (Some x) w;
      objects = λ k. like_set w.objects n k (record (object w n) { version = x.version }) (record { class = refl; key = refl; relations = refl; count = refl });
    }

pub settled_alike : (plan : List Planned) (w : Work) → IsAlike w (settled_by plan w)
settled_alike [] w = alike_none w
settled_alike (p ∷ ps) w = alike_twice w (settled p.object p.stored w) (settled_by ps (settled p.object p.stored w)) (one_alike p.object p.stored w) (settled_alike ps (settled p.object p.stored w))

-- what is told of them stays
pub settled_events : (plan : List Planned) (w : Work) → (settled_by plan w).events ≡ w.events
settled_events [] w = refl
settled_events (p ∷ ps) w = settled_events ps (settled p.object p.stored w) ∙ one_events p.object p.stored
  where
    one_events : (n : ℕ) (o : Option Stored) → (settled n o w).events ≡ w.events
    one_events n None = refl
    one_events n (Some x) = refl
