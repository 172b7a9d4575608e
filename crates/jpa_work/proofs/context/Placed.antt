-- What stands under a fingerprint hangs on what stays of the entries alone.
use Rattle.std.proofs.Common.{◌≡◌, ◌∙◌, refl, sym, ap, ℕ, zero, suc, ◌-◌, List, [], ◌∷◌, ◌++◌, cond, Bool, true, false, map, length, take, get_or, set, ◌≤◌, length-take, length-append, arith}
use Rattle.std.proofs.Math.Seq.{take-append_seam}
use Rattle.std.proofs.lemmas.List.{length-map, map-append, take-append-le}
use Rattle.std.specs.Prelude.{filter, ◌==◌, Result, Ok, Err, OnOk, OnErr}
use Rattle.jpa_value.specs.declared.value.Value.{Value}
use Rattle.jpa_work.specs.declared.context.Entry.{Entry}
use Rattle.jpa_work.specs.context.Near.{fingerprint}
use Rattle.jpa_work.specs.context.Indexed.{places_with, placed}
use Rattle.jpa_work.specs.context.Places.{StaysAt}

-- the places with a fingerprint, of what stays
abbrev pub kept_places : ℕ → List (ℕ × List Value) → List ℕ
kept_places print ps = map (λ (p : ℕ × List Value). p.0) (filter (λ (p : ℕ × List Value). fingerprint p.1 == print) ps)

kept_places_is : (print : ℕ) (es : List Entry) → places_with print es ≡ kept_places print (map placed es)
kept_places_is print [] = refl
kept_places_is print (e ∷ es) =
    let es1 = filter (λ (x : Entry). fingerprint x.key == print) es in
    let ps1 = filter (λ (p : ℕ × List Value). fingerprint p.1 == print) (map placed es) in
    elim (fingerprint e.key == print) as (λ b. map (λ (x : Entry). x.object) (cond b (e ∷ es1) es1) ≡ map (λ (p : ℕ × List Value). p.0) (cond b (placed e ∷ ps1) ps1)) [
      | true ↦ ap (λ ns. e.object ∷ ns) (kept_places_is print es)
      | false ↦ kept_places_is print es
    ]

pub same_places : (print : ℕ) (es fs : List Entry) → map placed es ≡ map placed fs → places_with print es ≡ places_with print fs
same_places print es fs h = kept_places_is print es ∙ ap (kept_places print) h ∙ sym (kept_places_is print fs)

-- an entry of the same object under the same key changes nothing of what stays
pub stays : (es : List Entry) (i : ℕ) (y old : Entry) → old ≡ get_or es i old → placed old ≡ placed y → map placed (set es i y) ≡ map placed es
stays [] i y old e h = refl
stays (x ∷ es) zero y old e h = ap (λ p. p ∷ map placed es) (sym h ∙ ap placed e)
stays (x ∷ es) (suc i) y old e h = ap (λ ps. placed x ∷ ps) (stays es i y old e h)

same_placed : (a b : Entry) → a.object ≡ b.object → a.key ≡ b.key → placed a ≡ placed b
same_placed a b object key =
    let front : ℕ → ℕ × List Value = λ n. (n, a.key) in
    let back : List Value → ℕ × List Value = λ k. (b.object, k) in
    ap front object ∙ ap back key

-- so does a change that was made, or refused
pub set_stays : {E : Type 0} (r : Result (Unit {0}) E) (before after : List Entry) (i : ℕ) (y : Entry)
    → OnOk r (after ≡ set before i y) → OnErr r (after ≡ before) → StaysAt before i y → map placed after ≡ map placed before
set_stays (Ok done) before after i y changed refused (old, at', object, key) = ap (map placed) changed ∙ stays before i y old at' (same_placed old y object key)
set_stays (Err e) before after i y changed refused same = ap (map placed) refused

-- as many entries are kept as there are at least
pub kept_within : (kept : ℕ) (es since : List Entry) → kept ≡ length since → take kept (map placed es) ≡ map placed since → kept ≤ length es
kept_within kept es since h front =
    let l : length (take kept (map placed es)) ≡ length since = ap length front ∙ length-map since placed in
    omega (arith, h, l, length-take kept (map placed es), length-map es placed)

-- ---- an entry more

pub more_places : (print : ℕ) (es : List Entry) (e : Entry) → places_with print (es ++ e ∷ []) ≡ cond (fingerprint e.key == print) (places_with print es ++ e.object ∷ []) (places_with print es)
more_places print [] e =
    elim (fingerprint e.key == print) as (λ b. map (λ (x : Entry). x.object) (cond b (e ∷ []) []) ≡ cond b (e.object ∷ []) []) [
      | true ↦ refl
      | false ↦ refl
    ]
more_places print (d ∷ es) e =
    elim (fingerprint d.key == print) as (λ b. map (λ (x : Entry). x.object) (cond b (d ∷ filter (λ (x : Entry). fingerprint x.key == print) (es ++ e ∷ [])) (filter (λ (x : Entry). fingerprint x.key == print) (es ++ e ∷ [])))
    ≡ cond (fingerprint e.key == print) (map (λ (x : Entry). x.object) (cond b (d ∷ filter (λ (x : Entry). fingerprint x.key == print) es) (filter (λ (x : Entry). fingerprint x.key == print) es)) ++ e.object ∷ [])
    (map (λ (x : Entry). x.object) (cond b (d ∷ filter (λ (x : Entry). fingerprint x.key == print) es) (filter (λ (x : Entry). fingerprint x.key == print) es)))) [
      | true ↦ ap (λ ns. d.object ∷ ns) (more_places print es e) ∙ under_cons (fingerprint e.key == print) d.object (places_with print es ++ e.object ∷ []) (places_with print es)
      | false ↦ more_places print es e
    ]
  where
    under_cons : (b : Bool) (n : ℕ) (xs ys : List ℕ) → n ∷ cond b xs ys ≡ cond b (n ∷ xs) (n ∷ ys)
    under_cons true n xs ys = refl
    under_cons false n xs ys = refl

-- and without it again
pub dropped_again : (b : Bool) (before more after : List ℕ) (n : ℕ) → more ≡ cond b (before ++ n ∷ []) before → after ≡ cond b (take (length more - 1) more) more → after ≡ before
dropped_again true before more after n e f =
    f ∙ ap (λ ns. take (length ns - 1) ns) e ∙ ap (λ k. take k (before ++ n ∷ [])) (one_less before n) ∙ take-append_seam before (n ∷ [])
  where
    one_less : (xs : List ℕ) (n : ℕ) → length (xs ++ n ∷ []) - 1 ≡ length xs
    one_less xs n = omega (arith, length-append xs (n ∷ []))
dropped_again false before more after n e f = f ∙ e

-- the kept ones are still the first
pub more_kept : (kept : ℕ) (es since : List Entry) (e : Entry) → kept ≡ length since → take kept (map placed es) ≡ map placed since → take kept (map placed (es ++ e ∷ [])) ≡ map placed since
more_kept kept es since e h front =
    let within : kept ≤ length (map placed es) = omega (arith, kept_within kept es since h front, length-map es placed) in
    ap (take kept) (map-append placed es (e ∷ [])) ∙ take-append-le kept (map placed es) (map placed (e ∷ [])) within ∙ front
