-- Bases remember what their objects hold, entry by entry of those that a flush looks at.
use Rattle.std.proofs.Common.{◌≡◌, ◌∙◌, ℕ, zero, suc, ◌+◌, ◌<◌, ◌≤◌, List, [], ◌∷◌, map, length, get_or, refl, ap, sym, subst, add-one, arith}
use Rattle.std.specs.Prelude.{slice_set, Option, Some, None}
use Rattle.jpa_model.specs.declared.unit.PersistenceUnit.{PersistenceUnit}
use Rattle.jpa_work.specs.declared.context.Entry.{Entry}
use Rattle.jpa_work.specs.context.Work.{Work}
use Rattle.jpa_flush.specs.flush.Flush.{remembered}
use Rattle.jpa_flush.specs.flush.Plan.{entry_or}
use Rattle.jpa_flush.specs.flush.Marked.{AreLooked, from}
use Rattle.jpa_flush.proofs.flush.Places.{below, between, from_rises, from_within, last_within, next_within}
use Rattle.jpa_flush.proofs.flush.Remembered.{set_next, keep_next}
use Rattle.jpa_flush.proofs.flush.Settled.{changed_whole, keep_round, partly}

partly_gap : {X : Type 0} (f : X → X) (es : List X) (i j : ℕ) → i ≤ j → j ≤ length es → ((k : ℕ) (d : X) → i ≤ k → k < j → f (get_or es k d) ≡ get_or es k d) → partly f i es ≡ partly f j es
partly_gap f [] zero zero h l same = refl
partly_gap f [] zero (suc j) h l same = absurd (omega (arith, l))
partly_gap f [] (suc i) zero h l same = refl
partly_gap f [] (suc i) (suc j) h l same = refl
partly_gap f (x ∷ es) zero zero h l same = refl
partly_gap f (x ∷ es) zero (suc j) h l same =
    ap (λ y. y ∷ es) (sym (same 0 x (omega arith) (omega arith)))
    ∙ ap (λ ys. f x ∷ ys) (partly_gap f es zero j (omega arith) (omega (arith, l)) (λ k d a b. same (suc k) d (omega arith) (omega (arith, b))))
partly_gap f (x ∷ es) (suc i) zero h l same = absurd (omega (arith, h))
partly_gap f (x ∷ es) (suc i) (suc j) h l same =
    ap (λ ys. f x ∷ ys) (partly_gap f es i j (omega (arith, h)) (omega (arith, l)) (λ k d a b. same (suc k) d (omega (arith, a)) (omega (arith, b))))

-- the next item is as it was
at_next : {X : Type 0} (f : X → X) (xs : List X) (i : ℕ) (x : X) → get_or (partly f i xs) i x ≡ get_or xs i x
at_next f [] zero x = refl
at_next f [] (suc i) x = refl
at_next f (y ∷ ys) zero x = refl
at_next f (y ∷ ys) (suc i) x = at_next f ys i x

module _ (m : PersistenceUnit) (w0 w : Work) {places : List ℕ} (looked : AreLooked (λ e. remembered m w0 e ≡ e) w0.context places) where
  abbrev upto : ℕ → Work
  upto j = record w0 { context = partly (remembered m w0) j w0.context }

  gap : (i k : ℕ) (d : Entry) → i ≤ length places → from places i ≤ k → k < get_or places i (length w0.context) → remembered m w0 (get_or w0.context k d) ≡ get_or w0.context k d
  gap i k d l f g = looked.others k d (below looked.rising i k l g) (between looked.rising i k l f g)

  to_next : (i : ℕ) → i < length places → w ≡ upto (from places i) → w ≡ upto (get_or places i 0)
  to_next i l same =
      let within = (looked.rising).within i l in
      same
      ∙ ap {A = List Entry} {B = Work} (λ es. record w0 { context = es })
      (partly_gap (remembered m w0) w0.context (from places i) (get_or places i 0) (from_rises looked.rising i l) (omega (arith, within))
      (λ k d a b. gap i k d (omega (arith, l)) a (next_within looked.rising i k l b)))

  behind : (i : ℕ) → upto (get_or places i 0 + 1) ≡ upto (from places (i + 1))
  behind i = ap upto (add-one (get_or places i 0)) ∙ ap (λ j. upto (from places j)) (sym (add-one i))

  pub memory_set : (i : ℕ) (e y : Entry) (o : Option Entry) → i < length places → w ≡ upto (from places i) → e ≡ get_or w.context (get_or places i 0) e →
      o ≡ Some y → entry_or e o ≡ remembered m w e → record w { context = slice_set w.context (get_or places i 0) y } ≡ upto (from places (i + 1))
  memory_set i e y o l same read is h = set_next m w0 w (get_or places i 0) e y o ((looked.rising).within i l) (to_next i l same) read is h ∙ behind i

  pub memory_kept : (i : ℕ) (e : Entry) (o : Option Entry) → i < length places → w ≡ upto (from places i) → e ≡ get_or w.context (get_or places i 0) e →
      o ≡ None → entry_or e o ≡ remembered m w e → w ≡ upto (from places (i + 1))
  memory_kept i e o l same read is h = keep_next m w0 w (get_or places i 0) e o ((looked.rising).within i l) (to_next i l same) read is h ∙ behind i

  -- an entry that remembers already is passed over
  pub memory_passed : (i : ℕ) (e : Entry) → i < length places → w ≡ upto (from places i) → e ≡ get_or w.context (get_or places i 0) e →
      ((d : Entry) → e ≡ get_or w0.context (get_or places i 0) d → remembered m w0 (get_or w0.context (get_or places i 0) d) ≡ get_or w0.context (get_or places i 0) d) → w ≡ upto (from places (i + 1))
  memory_passed i e l same read known =
      let p = get_or places i 0 in
      let there : e ≡ get_or w0.context p e = subst (λ (v : Work). e ≡ get_or v.context p e) (to_next i l same) read ∙ at_next (remembered m w0) w0.context p e in
      keep_round (remembered m w0) w0 w p e ((looked.rising).within i l) (to_next i l same) read (there ∙ sym (known e there) ∙ ap (remembered m w0) (sym there)) ∙ behind i

  pub memory_ends : w ≡ upto (from places (length places)) → w ≡ record w0 { context = map (remembered m w0) w0.context }
  memory_ends same =
      changed_whole (remembered m w0) w0 w (length w0.context) (omega arith)
      (same ∙ ap {A = List Entry} {B = Work} (λ es. record w0 { context = es })
      (partly_gap (remembered m w0) w0.context (from places (length places)) (length w0.context) (from_within looked.rising (length places) (omega arith)) (omega arith)
      (λ k d a b. gap (length places) k d (omega arith) a (last_within looked.rising k b))))
