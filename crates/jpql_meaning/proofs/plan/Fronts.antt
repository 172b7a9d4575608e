-- Rows put in one by one keep a front before the rest.
use Rattle.std.proofs.Common.{◌≡◌, ◌∙◌, ap, sym, refl, Bool, true, false, not, cond, List, [], ◌∷◌, ◌++◌, map}
use Rattle.std.specs.List.{AllByRecursion, filter}
use Rattle.jpql_trees.specs.declared.typed.typed.TypedKey.{TypedKey}
use Rattle.jpql_meaning.specs.plan.Paths.{Tuple}
use Rattle.jpql_meaning.specs.plan.Selection.{Row, precedes, put_row, put_rows, in_order}
use Rattle.jpql_meaning.specs.plan.Laws.{StandsCut, AreCut}

module _ (keys : List TypedKey) where
  -- a row that precedes the rest is put into the front
  put_before : (r : Row) (rest : List Row) → AllByRecursion (λ y. precedes keys r y ≡ true) rest → put_row keys r rest ≡ r ∷ rest
  put_before r [] h = refl
  put_before r (y ∷ ys) h = ap (λ b. cond b (r ∷ y ∷ ys) (y ∷ put_row keys r ys)) h.0

  put_step : (r x : Row) (front rest : List Row) (b : Bool) → put_row keys r (front ++ rest) ≡ put_row keys r front ++ rest
      → cond b (r ∷ x ∷ front ++ rest) (x ∷ put_row keys r (front ++ rest)) ≡ cond b (r ∷ x ∷ front) (x ∷ put_row keys r front) ++ rest
  put_step r x front rest true h = refl
  put_step r x front rest false h = ap (λ ys. x ∷ ys) h

  put_front : (r : Row) (front rest : List Row) → AllByRecursion (λ y. precedes keys r y ≡ true) rest → put_row keys r (front ++ rest) ≡ put_row keys r front ++ rest
  put_front r [] rest h = put_before r rest h
  put_front r (x ∷ front) rest h = put_step r x front rest (precedes keys r x) (put_front r front rest h)

  -- one that precedes none of the front is put into the rest
  put_rest : (r : Row) (front rest : List Row) → AllByRecursion (λ x. precedes keys r x ≡ false) front → put_row keys r (front ++ rest) ≡ front ++ put_row keys r rest
  put_rest r [] rest h = refl
  put_rest r (x ∷ front) rest h =
      ap (λ b. cond b (r ∷ x ∷ front ++ rest) (x ∷ put_row keys r (front ++ rest))) h.0 ∙ ap (λ ys. x ∷ ys) (put_rest r front rest h.1)

  -- what holds of it and of all there holds of all with it
  put_all_of : (P : Row → Type 0) (r : Row) (rows : List Row) → P r → AllByRecursion P rows → AllByRecursion P (put_row keys r rows)
  put_all_of P r [] one h = (one, tt)
  put_all_of P r (x ∷ rows) one h =
      elim (precedes keys r x) as (λ b. AllByRecursion P (cond b (r ∷ x ∷ rows) (x ∷ put_row keys r rows)))
      [ true ↦ (one, h) | false ↦ (h.0, put_all_of P r rows one h.1) ]

  -- where a row goes, in front or behind
  abbrev Falls : Bool → List Row → List Row → Row → Type 0
  Falls true front rest r = AllByRecursion (λ y. precedes keys r y ≡ true) rest
  Falls false front rest r = AllByRecursion (λ x. precedes keys r x ≡ false) front

  -- one more in front, or behind
  more_front : (front rest : List Row) (r u : Row) (b : Bool) → StandsCut keys true b r u → Falls b front rest u → Falls b (put_row keys r front) rest u
  more_front front rest r u true cut h = h
  more_front front rest r u false cut h = put_all_of (λ x. precedes keys u x ≡ false) r front cut h

  more_rest : (front rest : List Row) (r u : Row) (b : Bool) → StandsCut keys false b r u → Falls b front rest u → Falls b front (put_row keys r rest) u
  more_rest front rest r u true cut h = put_all_of (λ y. precedes keys u y ≡ true) r rest cut h
  more_rest front rest r u false cut h = h

  module _ (p : Tuple → Bool) (row : Tuple → Row) where
    abbrev AllFall : List Row → List Row → List Tuple → Type 0
    AllFall front rest ts = AllByRecursion (λ u. Falls (p u) front rest (row u)) ts

    abbrev AllStand : Bool → Row → List Tuple → Type 0
    AllStand b r ts = AllByRecursion (λ u. StandsCut keys b (p u) r (row u)) ts

    all_front : (front rest : List Row) (r : Row) (ts : List Tuple) → AllStand true r ts → AllFall front rest ts → AllFall (put_row keys r front) rest ts
    all_front front rest r [] cut h = tt
    all_front front rest r (u ∷ us) cut h = (more_front front rest r (row u) (p u) cut.0 h.0, all_front front rest r us cut.1 h.1)

    all_rest : (front rest : List Row) (r : Row) (ts : List Tuple) → AllStand false r ts → AllFall front rest ts → AllFall front (put_row keys r rest) ts
    all_rest front rest r [] cut h = tt
    all_rest front rest r (u ∷ us) cut h = (more_rest front rest r (row u) (p u) cut.0 h.0, all_rest front rest r us cut.1 h.1)

    none_fall : (ts : List Tuple) → AllFall [] [] ts
    none_fall [] = tt
    none_fall (u ∷ us) = (elim (p u) as (λ b. Falls b [] [] (row u)) [ true ↦ tt | false ↦ tt ], none_fall us)

    abbrev in_front : List Tuple → List Tuple
    in_front ts = filter p ts

    abbrev behind : List Tuple → List Tuple
    behind ts = filter (λ t. not (p t)) ts

    one_parted : (front rest : List Row) (t : Tuple) (ts : List Tuple) (b : Bool) → p t ≡ b → AllStand b (row t) ts
        → Falls b front rest (row t) → AllFall front rest ts
        → ((f r : List Row) → AllFall f r ts → put_rows keys (f ++ r) (map row ts) ≡ put_rows keys f (map row (in_front ts)) ++ put_rows keys r (map row (behind ts)))
        → put_rows keys (put_row keys (row t) (front ++ rest)) (map row ts)
        ≡ put_rows keys front (map row (cond b (t ∷ in_front ts) (in_front ts))) ++ put_rows keys rest (map row (cond (not b) (t ∷ behind ts) (behind ts)))
    one_parted front rest t ts true e cut one all more =
        ap (λ rows. put_rows keys rows (map row ts)) (put_front (row t) front rest one)
        ∙ more (put_row keys (row t) front) rest (all_front front rest (row t) ts cut all)
    one_parted front rest t ts false e cut one all more =
        ap (λ rows. put_rows keys rows (map row ts)) (put_rest (row t) front rest one)
        ∙ more front (put_row keys (row t) rest) (all_rest front rest (row t) ts cut all)

    put_parted : (ts : List Tuple) → AreCut keys p row ts → (front rest : List Row) → AllFall front rest ts
        → put_rows keys (front ++ rest) (map row ts) ≡ put_rows keys front (map row (in_front ts)) ++ put_rows keys rest (map row (behind ts))
    put_parted [] cut front rest h = refl
    put_parted (t ∷ ts) cut front rest h = one_parted front rest t ts (p t) refl cut.0 h.0 h.1 (put_parted ts cut.1)

    pub parted : (ts : List Tuple) → AreCut keys p row ts → in_order keys (map row ts) ≡ in_order keys (map row (in_front ts)) ++ in_order keys (map row (behind ts))
    parted ts cut = put_parted ts cut [] [] (none_fall ts)
