use Rattle.std.proofs.Common.{◌≡◌, ◌≢◌, ◌⊎◌, ◌∙◌, inl, inr, ℕ, ◌<◌, ◌≤◌, ◌+◌, sym, arith, refl}
use Rattle.std.proofs.lemmas.Bool.{cases_eq, cases_lt}
use Rattle.jpa_work.specs.context.Undo.{now}
use Rattle.jpa_flush.specs.marking.Anew.{WasThere}
use Rattle.jpa_flush.proofs.marking.Over.{over_both, over_none, over_weaker}
use Rattle.jpa_flush.proofs.marking.looking.look_at_entered.Goals as goal

-- places from one on, up to another one
abbrev Misses : ℕ → ℕ → ℕ → Type 0
Misses kept end i = (p : ℕ) → kept ≤ p → p < end → p ≢ i

none : (kept end i : ℕ) → end ≤ kept → Misses kept end i
none kept end i l p h k e = omega (arith, l, h, k)

one_more : (kept end i : ℕ) → Misses kept end i → i ≢ end → Misses kept (end + 1) i
one_more kept end i h apart p l k = by (cases_eq p end)
  where
    by : (p ≡ end) ⊎ (p ≢ end) → p ≢ i
    by (inl same) = λ e. apart (sym e ∙ same)
    by (inr other) = h p l (omega (arith, k, other))

before_them : (kept end i : ℕ) → i < end → Misses kept end i → i < kept
before_them kept end i l h = by (cases_lt i kept)
  where
    by : (i < kept) ⊎ (kept ≤ i) → i < kept
    by (inl less) = less
    by (inr more) = absurd (h i more l refl)

pub loop-place-init : goal.loop-place-init
loop-place-init c =
    let kept = c.kept_len-kept.result in
    over_none c.args.metamodel.now (now c.args.work.now) c.args.marks.now (Misses kept kept) (λ i l. none kept kept i (omega arith))

pub loop-place-preserved : goal.loop-place-preserved
loop-place-preserved c =
    let m = c.args.metamodel.now in
    let w = now c.args.work.now in
    let kept = c.kept_len-kept.result in
    let p = c.loop-place.place in
    let both = over_both m w (Misses kept p) (λ k. k ≢ p) c.args.marks.now c.loop-place.marks c.look_at.new.marks c.loop-place.invariant c.in_ok-look_at.ensures in
    over_weaker m w (λ k. Misses kept p k × (k ≢ p)) (Misses kept (p + 1)) c.args.marks.now c.look_at.new.marks (λ k l h. one_more kept p k h.0 h.1) both

pub returns : goal.returns
returns c =
    let u = c.args.work.now in
    let kept = c.kept_len-kept.result in
    let p = c.loop-place.place in
    over_weaker c.args.metamodel.now (now u) (Misses kept p) (WasThere u) c.args.marks.now c.loop-place.marks
    (λ k l h. let less = before_them kept p k (omega (arith, l, c.loop-place-test.false, c.len-place-end.ensures)) h in omega (arith, less, c.kept_len-kept.ensures.kept))
    c.loop-place.invariant
