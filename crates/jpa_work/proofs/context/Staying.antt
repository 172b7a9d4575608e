-- Entries that leave: what stays under each fingerprint, and where the others' objects have their entries.
use Rattle.std.proofs.Common.{◌≡◌, ◌∙◌, refl, sym, ap, subst, ℕ, zero, suc, ◌+◌, ◌<◌, List, [], ◌∷◌, cond, Bool, T, true, false, map, length, get_or, take, arith, eq-eqb, Option, Some, None, ◌⊎◌, inl, inr}
use Rattle.std.proofs.lemmas.List.{take_more}
use Rattle.std.proofs.lemmas.Bool.{eqb-true}
use Rattle.std.proofs.lemmas.Bool.Decides.{nat_tests}
use Rattle.std.proofs.lemmas.List.Folds.{list_any-append}
use Rattle.std.specs.Prelude.{filter, not, ◌==◌, ◌&&◌, ◌||◌, is_some}
use Rattle.std.specs.List.{list_any}
use Rattle.std.specs.Option.{option_or}
use Rattle.jpa_work.specs.declared.context.Entry.{Entry}
use Rattle.jpa_work.specs.context.Near.{fingerprint}
use Rattle.jpa_work.specs.context.Indexed.{places_with}
use Rattle.jpa_work.specs.context.Places.{entry_place, without_objects}
use Rattle.jpa_work.proofs.context.First.{is_first_any, any_at}

-- ---- a turn of a loop that takes places

pub forgotten : (a b : Bool) (before now after : Option ℕ) → now ≡ cond a None before → after ≡ cond b None now → after ≡ cond (a || b) None before
forgotten true true before now after e f = f
forgotten true false before now after e f = f ∙ e
forgotten false true before now after e f = f
forgotten false false before now after e f = f ∙ e

pub any_take : {X : Type 0} (t : X → Bool) (xs : List X) (i : ℕ) (d : X) → i < length xs → list_any t (take (i + 1) xs) ≡ list_any t (take i xs) || t (get_or xs i d)
any_take t xs i d l = ap (list_any t) (take_more xs i d l) ∙ list_any-append t (take i xs) (get_or xs i d ∷ []) ∙ ap (λ b. list_any t (take i xs) || b) (or_none (t (get_or xs i d)))
  where
    or_none : (b : Bool) → b || false ≡ b
    or_none true = refl
    or_none false = refl

-- ---- a turn of the loop that gives places, from the last entry to the first

gone_none : (b : Bool) (k : ℕ) → cond (b && false) (Some k) None ≡ None
gone_none true k = refl
gone_none false k = refl

found_some : (o : Option ℕ) (x k : ℕ) → cond (is_some (option_or o (Some x))) (Some k) (option_or o (Some x)) ≡ Some k
found_some None x k = refl
found_some (Some y) x k = refl

pub given : (b : Bool) (before now after later : Option ℕ) (k : ℕ) → now ≡ cond (is_some before) (option_or later before) None → after ≡ cond (b && is_some now) (Some k) now
    → after ≡ cond (is_some before) (option_or (cond b (Some k) later) before) None
given b None now after later k e f = f ∙ (λ j. cond (b && is_some (e j)) (Some k) (e j)) ∙ gone_none b k
given true (Some x) now after later k e f = f ∙ (λ j. cond (is_some (e j)) (Some k) (e j)) ∙ found_some later x k
given false (Some x) now after later k e f = f ∙ e

-- ---- what stays under a fingerprint

module _ (h : ℕ → Bool) where
  filter_again : (ns : List ℕ) → filter h (filter h ns) ≡ filter h ns
  filter_again [] = refl
  filter_again (n ∷ ns) = by_test (h n) refl (filter_again ns)
    where
      by_test : (b : Bool) → h n ≡ b → filter h (filter h ns) ≡ filter h ns → filter h (cond b (n ∷ filter h ns) (filter h ns)) ≡ cond b (n ∷ filter h ns) (filter h ns)
      by_test true e rest = ap (λ b. cond b (n ∷ filter h (filter h ns)) (filter h (filter h ns))) e ∙ ap (λ r. n ∷ r) rest
      by_test false e rest = rest

  -- a turn of the loop over the entries
  pub thinned : (a b : Bool) (all now after : List ℕ) → now ≡ cond a (filter h all) all → after ≡ cond b (filter h now) now → after ≡ cond (a || b) (filter h all) all
  thinned true true all now after e f = f ∙ ap (filter h) e ∙ filter_again all
  thinned true false all now after e f = f ∙ e
  thinned false true all now after e f = f ∙ ap (filter h) e
  thinned false false all now after e f = f ∙ e

  abbrev pub stays : Entry → Bool
  stays e = h e.object

  abbrev pub leaves_under : ℕ → Entry → Bool
  leaves_under print e = (fingerprint e.key == print) && not (h e.object)

  alike_more : (print : ℕ) (e : Entry) (es : List Entry) (q f : Bool) → h e.object ≡ q → fingerprint e.key == print ≡ f → filter h (places_with print es) ≡ places_with print (filter stays es)
      → filter h (map (λ (x : Entry). x.object) (cond f (e ∷ filter (λ (x : Entry). fingerprint x.key == print) es) (filter (λ (x : Entry). fingerprint x.key == print) es)))
      ≡ places_with print (cond q (e ∷ filter stays es) (filter stays es))
  alike_more print e es true true is near rest =
      let later = filter (λ (x : Entry). fingerprint x.key == print) (filter stays es) in
      ap (λ b. cond b (e.object ∷ filter h (places_with print es)) (filter h (places_with print es))) is ∙ ap (λ r. e.object ∷ r) rest
      ∙ sym (ap (λ b. map (λ (x : Entry). x.object) (cond b (e ∷ later) later)) near)
  alike_more print e es false true is near rest = ap (λ b. cond b (e.object ∷ filter h (places_with print es)) (filter h (places_with print es))) is ∙ rest
  alike_more print e es true false is near rest =
      let later = filter (λ (x : Entry). fingerprint x.key == print) (filter stays es) in
      rest ∙ sym (ap (λ b. map (λ (x : Entry). x.object) (cond b (e ∷ later) later)) near)
  alike_more print e es false false is near rest = rest

  pub kept_alike : (print : ℕ) (es : List Entry) → filter h (places_with print es) ≡ places_with print (filter stays es)
  kept_alike print [] = refl
  kept_alike print (e ∷ es) = alike_more print e es (h e.object) (fingerprint e.key == print) refl refl (kept_alike print es)

  none_more : (print : ℕ) (e : Entry) (es : List Entry) (q f : Bool) → h e.object ≡ q → fingerprint e.key == print ≡ f → f && not q ≡ false → places_with print es ≡ places_with print (filter stays es)
      → map (λ (x : Entry). x.object) (cond f (e ∷ filter (λ (x : Entry). fingerprint x.key == print) es) (filter (λ (x : Entry). fingerprint x.key == print) es))
      ≡ places_with print (cond q (e ∷ filter stays es) (filter stays es))
  none_more print e es true true is near none rest =
      let later = filter (λ (x : Entry). fingerprint x.key == print) (filter stays es) in
      ap (λ r. e.object ∷ r) rest ∙ sym (ap (λ b. map (λ (x : Entry). x.object) (cond b (e ∷ later) later)) near)
  none_more print e es false true is near none rest = cc
  none_more print e es true false is near none rest =
      let later = filter (λ (x : Entry). fingerprint x.key == print) (filter stays es) in
      rest ∙ sym (ap (λ b. map (λ (x : Entry). x.object) (cond b (e ∷ later) later)) near)
  none_more print e es false false is near none rest = rest

  neither : (a b : Bool) → a || b ≡ false → (a ≡ false) × (b ≡ false)
  neither true b e = cc
  neither false b e = (refl, e)

  none_leaves : (print : ℕ) (es : List Entry) → list_any (leaves_under print) es ≡ false → places_with print es ≡ places_with print (filter stays es)
  none_leaves print [] none = refl
  none_leaves print (e ∷ es) none =
      let parts = neither (leaves_under print e) (list_any (leaves_under print) es) none in
      none_more print e es (h e.object) (fingerprint e.key == print) refl refl parts.0 (none_leaves print es parts.1)

  -- a turn of the loop
  pub thin_leaves : (print : ℕ) (e : Entry) → h e.object ≡ false → leaves_under print e ≡ fingerprint e.key == print
  thin_leaves print e gone = ap (λ b. (fingerprint e.key == print) && not b) gone ∙ and_true (fingerprint e.key == print)
    where
      and_true : (b : Bool) → b && true ≡ b
      and_true true = refl
      and_true false = refl

  pub thin_stays : (print : ℕ) (e : Entry) → h e.object ≡ true → leaves_under print e ≡ false
  thin_stays print e there = ap (λ b. (fingerprint e.key == print) && not b) there ∙ and_false (fingerprint e.key == print)
    where
      and_false : (b : Bool) → b && false ≡ false
      and_false true = refl
      and_false false = refl

  pub thin_more : (print : ℕ) (es : List Entry) (i : ℕ) (e : Entry) (now after : List ℕ) → i < length es → e ≡ get_or es i e
      → now ≡ cond (list_any (leaves_under print) (take i es)) (filter h (places_with print es)) (places_with print es) → after ≡ cond (leaves_under print e) (filter h now) now
      → after ≡ cond (list_any (leaves_under print) (take (i + 1) es)) (filter h (places_with print es)) (places_with print es)
  thin_more print es i e now after l is before turn =
      let all = places_with print es in
      let so_far = list_any (leaves_under print) (take i es) in
      thinned so_far (leaves_under print e) all now after before turn
      ∙ ap (λ b. cond b (filter h all) all) (ap (λ x. so_far || leaves_under print x) is ∙ sym (any_take (leaves_under print) es i e l))

  -- past the loop
  pub all_thinned : (print : ℕ) (es : List Entry) (found : List ℕ) → found ≡ cond (list_any (leaves_under print) es) (filter h (places_with print es)) (places_with print es) → found ≡ places_with print (filter stays es)
  all_thinned print es found e = e ∙ by_test (list_any (leaves_under print) es) refl
    where
      by_test : (b : Bool) → list_any (leaves_under print) es ≡ b → cond b (filter h (places_with print es)) (places_with print es) ≡ places_with print (filter stays es)
      by_test true any = kept_alike print es
      by_test false none = none_leaves print es none

  -- ---- the places of those that stay

  same_object : (n : ℕ) (e : Entry) → e.object == n ≡ true → h e.object ≡ h n
  same_object n e same = ap h (eqb-true e.object n same)

  any_more : (n : ℕ) (e : Entry) (es : List Entry) (q s : Bool) → h e.object ≡ q → e.object == n ≡ s → list_any (λ (x : Entry). x.object == n) (filter stays es) ≡ h n && list_any (λ (x : Entry). x.object == n) es
      → list_any (λ (x : Entry). x.object == n) (cond q (e ∷ filter stays es) (filter stays es)) ≡ h n && (s || list_any (λ (x : Entry). x.object == n) es)
  any_more n e es true true is same rest =
      ap (λ b. b || list_any (λ (x : Entry). x.object == n) (filter stays es)) same ∙ sym (ap (λ b. b && true) (sym (same_object n e same) ∙ is))
  any_more n e es false true is same rest = rest ∙ none (h n) _ (sym (same_object n e same) ∙ is)
    where
      none : (a b : Bool) → a ≡ false → a && b ≡ a && true
      none true b e = cc
      none false b e = refl
  any_more n e es true false is same rest = ap (λ b. b || list_any (λ (x : Entry). x.object == n) (filter stays es)) same ∙ rest
  any_more n e es false false is same rest = rest

  pub any_stays : (n : ℕ) (es : List Entry) → list_any (λ (x : Entry). x.object == n) (filter stays es) ≡ h n && list_any (λ (x : Entry). x.object == n) es
  any_stays n [] = none (h n)
    where
      none : (b : Bool) → false ≡ b && false
      none true = refl
      none false = refl
  any_stays n (e ∷ es) = any_more n e es (h e.object) (e.object == n) refl refl (any_stays n es)

-- an object that had the place of its first entry, or none, has it again, or none
pub placed_again : (before : Option ℕ) (all left : Option ℕ) → (before ≡ None) ⊎ (before ≡ all) → is_some left ≡ is_some before && is_some all → cond (is_some before) (option_or left before) None ≡ left
placed_again None all None known same = refl
placed_again None all (Some k) known same = cc
placed_again (Some j) all None (inl none) same = cc
placed_again (Some j) all None (inr had) same = absurd (subst T (ap is_some had ∙ sym same) tt)
placed_again (Some j) all (Some k) known same = refl

-- ---- which entries stay

pub filter_alike : {X : Type 0} (p q : X → Bool) (xs : List X) → ((k : ℕ) (d : X) → k < length xs → p (get_or xs k d) ≡ q (get_or xs k d)) → filter p xs ≡ filter q xs
filter_alike p q [] same = refl
filter_alike p q (x ∷ xs) same =
    (λ i. cond (same zero x (omega arith) i) (x ∷ filter p xs) (filter p xs)) ∙ ap (λ r. cond (q x) (x ∷ r) r) (filter_alike p q xs (λ k d l. same (suc k) d (omega (arith, l))))

-- each object of an entry has a place
pub has_entry : (es : List Entry) (k : ℕ) (d : Entry) → k < length es → is_some (entry_place (get_or es k d).object es) ≡ true
has_entry es k d l =
    let n = (get_or es k d).object in
    is_first_any (λ (e : Entry). e.object == n) 0 es ∙ any_at (λ (e : Entry). e.object == n) es k d l (eq-eqb n n refl)

-- an object that leaves has no place then, and another has one
pub left_has : (gone : Bool) (o after : Option ℕ) → after ≡ cond gone None o → is_some o ≡ true → is_some after ≡ not gone
left_has true o after e there = ap is_some e
left_has false o after e there = ap is_some e ∙ there

-- whether an object leaves hangs on it alone, whatever entry tells
module _ (gone : ℕ → Bool) where
  gone_more : (n m : ℕ) (s : Bool) (rest others : Bool) → m == n ≡ s → others ≡ gone n && rest → (gone m && s) || others ≡ gone n && (s || rest)
  gone_more n m true rest others same e = ap (λ k. (gone k && true) || others) (eqb-true m n same) ∙ ap (λ b. (gone n && true) || b) e ∙ by_test (gone n)
    where
      by_test : (b : Bool) → (b && true) || (b && rest) ≡ b && true
      by_test true = refl
      by_test false = refl
  gone_more n m false rest others same e = ap (λ b. b || others) (and_false (gone m)) ∙ e
    where
      and_false : (b : Bool) → b && false ≡ false
      and_false true = refl
      and_false false = refl

  any_gone : (n : ℕ) (es : List Entry) → list_any (λ (x : Entry). gone x.object && (x.object == n)) es ≡ gone n && list_any (λ (x : Entry). x.object == n) es
  any_gone n [] = none (gone n)
    where
      none : (b : Bool) → false ≡ b && false
      none true = refl
      none false = refl
  any_gone n (e ∷ es) = gone_more n e.object (e.object == n) (list_any (λ (x : Entry). x.object == n) es) (list_any (λ (x : Entry). gone x.object && (x.object == n)) es) refl (any_gone n es)

  pub gone_at : (es : List Entry) (k : ℕ) (d : Entry) → k < length es → let n = (get_or es k d).object in list_any (λ (x : Entry). gone x.object && (x.object == n)) es ≡ gone n
  gone_at es k d l =
      let n = (get_or es k d).object in
      any_gone n es ∙ ap (λ b. gone n && b) (any_at (λ (e : Entry). e.object == n) es k d l (eq-eqb n n refl)) ∙ and_true (gone n)
    where
      and_true : (b : Bool) → b && true ≡ b
      and_true true = refl
      and_true false = refl

-- ---- objects leave together as they leave one after another

pub one_leaves : (n : ℕ) (es : List Entry) → without_objects (n ∷ []) es ≡ filter (λ (e : Entry). not (e.object == n)) es
one_leaves n es = filter_alike (λ (e : Entry). not (list_any (λ m. m == e.object) (n ∷ []))) (λ (e : Entry). not (e.object == n)) es (λ k d l. ap not (turned n (get_or es k d).object))
  where
    turned : (n m : ℕ) → (n == m) || false ≡ m == n
    turned n m = grind (arith, nat_tests)

pub leave_in_turn : (n : ℕ) (ns : List ℕ) (es : List Entry) → without_objects (n ∷ ns) es ≡ without_objects ns (without_objects (n ∷ []) es)
leave_in_turn n ns [] = refl
leave_in_turn n ns (e ∷ es) =
    elim (n == e.object) as (λ b. cond (not (b || list_any (λ m. m == e.object) ns)) (e ∷ without_objects (n ∷ ns) es) (without_objects (n ∷ ns) es)
    ≡ without_objects ns (cond (not (b || false)) (e ∷ without_objects (n ∷ []) es) (without_objects (n ∷ []) es))) [
      | true ↦ leave_in_turn n ns es
      | false ↦ ap (λ r. cond (not (list_any (λ m. m == e.object) ns)) (e ∷ r) r) (leave_in_turn n ns es)
    ]
