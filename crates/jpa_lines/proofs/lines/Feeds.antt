-- The lines of a piece, found by their line feeds one after another.
use Rattle.std.proofs.Common.{◌≡◌, ◌==◌, ℕ, zero, suc, ◌+◌, ◌-◌, ◌<◌, ◌≤◌, Bool, true, false, List, [], ◌∷◌, ◌++◌, length, take, drop, get_or, Option, refl, sym, ap, ◌∙◌, subst, arith, append_assoc, append-nil, length-drop}
use Rattle.std.proofs.lemmas.Bool.Decides.{nat_tests}
use Rattle.std.proofs.lemmas.List.{take_all, take_more, take-append-drop}
use Rattle.std.proofs.Math.Seq.{take-add}
use Rattle.memchr.specs.Find.{Nowhere, NoneBefore, Passes, is_byte}
use Rattle.jpa_protocol.specs.declared.call.Call.{Call}
use Rattle.jpql_trees.specs.declared.tree.Language.{Language}
use Rattle.jpa_protocol.specs.declared.reply.Reply.{Reply}
use Rattle.jpa_lines.specs.declared.lines.run.RunFault.{RunFault}
use Rattle.jpa_lines.specs.lines.Run.{IsUnbroken, GoesOn, BreaksOff, kept_len}
use Rattle.jpa_lines.proofs.lines.SoFar.{goes_both, goes_off, bytes_kept, breaks_off}

not_true : (b : Bool) → (b ≡ true → ⊥) → b ≡ false
not_true true h = absurd (h refl)
not_true false h = refl

nowhere_unbroken : (xs : List ℕ) (n : ℕ) → n ≤ length xs → Nowhere (Passes (is_byte 10) xs) 0 n → IsUnbroken (take n xs)
nowhere_unbroken xs zero h none = tt
nowhere_unbroken [] (suc n) h none = tt
nowhere_unbroken (x ∷ xs) (suc n) h none =
    (not_true (x == 10) (none 0 (omega arith) (omega arith)), nowhere_unbroken xs n (omega arith) (λ k low high p. none (suc k) (omega arith) (omega arith) p))

all_unbroken : (xs : List ℕ) → Nowhere (Passes (is_byte 10) xs) 0 (length xs) → IsUnbroken xs
all_unbroken xs none = subst IsUnbroken (take_all (length xs) xs (omega arith)) (nowhere_unbroken xs (length xs) (omega arith) none)

is_feed : (x : ℕ) (b : Bool) → (x == 10) ≡ b → b ≡ true → x ≡ 10
is_feed x b e is = grind (arith, nat_tests)

slice_len : (done len : ℕ) → done + len - done ≡ len
slice_len done len = omega arith

-- what stands from done up to the line feed that was found there
abbrev pub end_at : List ℕ → ℕ → ℕ → List ℕ
end_at piece done len = take (done + len - done) (drop done piece)

-- what stands from done on
abbrev pub rest_at : List ℕ → ℕ → List ℕ
rest_at piece done = take (length piece - done) (drop done piece)

rest_is : (piece : List ℕ) (done : ℕ) → rest_at piece done ≡ drop done piece
rest_is piece done = take_all (length piece - done) (drop done piece) (omega (arith, length-drop done piece))

-- the first line feed
abbrev pub IsFeedOf : List ℕ → ℕ → Type 0
IsFeedOf xs len = NoneBefore (Passes (is_byte 10) xs) 0 (length xs) len × Passes (is_byte 10) xs len

-- the first line feed from done on
abbrev pub IsFeed : List ℕ → ℕ → ℕ → Type 0
IsFeed piece done len = IsFeedOf (rest_at piece done) len

feed_in : (piece : List ℕ) (done len : ℕ) → IsFeed piece done len → IsFeedOf (drop done piece) len
feed_in piece done len h = subst (λ xs. IsFeedOf xs len) (rest_is piece done) h

feed_below : (piece : List ℕ) (done len : ℕ) → IsFeed piece done len → len < length (drop done piece)
feed_below piece done len h = (feed_in piece done len h).0.high

pub end_unbroken : (piece : List ℕ) (done len : ℕ) → IsFeed piece done len → IsUnbroken (end_at piece done len)
end_unbroken piece done len h =
    let below = feed_below piece done len h in
    rw (slice_len done len) (nowhere_unbroken (drop done piece) len (omega (arith, below)) (feed_in piece done len h).0.before)

pub feed_within : (piece : List ℕ) (done len : ℕ) → done ≤ length piece → IsFeed piece done len → done + (len + 1) ≤ length piece
feed_within piece done len within h =
    let below = feed_below piece done len h in
    omega (arith, below, within, length-drop done piece)

front_more : (piece : List ℕ) (done len : ℕ) → IsFeed piece done len → take (done + (len + 1)) piece ≡ take done piece ++ (end_at piece done len ++ 10 ∷ [])
front_more piece done len h =
    take-add done (len + 1) piece
    ∙ ap (λ xs. take done piece ++ xs) (take_more (drop done piece) len 0 (feed_below piece done len h) ∙ ap (λ x. take len (drop done piece) ++ x ∷ []) (is_feed (get_or (drop done piece) len 0) _ refl (feed_in piece done len h).1))
    ∙ ap (λ n. take done piece ++ (take n (drop done piece) ++ 10 ∷ [])) (sym (slice_len done len))

module _ {M : Type 0} (language : Language) (steps : M → Call → Reply → M → Type 0) (old mid new : M) (held kept left piece : List ℕ) (done : ℕ) (before between after : Option (List ℕ)) (gone : GoesOn language steps old mid held kept (take done piece) before between) where
  -- a line more
  pub line_more : (len : ℕ) → IsFeed piece done len → GoesOn language steps mid new kept left (end_at piece done len ++ 10 ∷ []) between after → GoesOn language steps old new held left (take (done + (len + 1)) piece) before after
  line_more len feed h =
      subst (λ xs. GoesOn language steps old new held left xs before after) (sym (front_more piece done len feed))
      (goes_both language steps old mid new held kept left (take done piece) (end_at piece done len ++ 10 ∷ []) before between after gone h)

  pub line_breaks : (fault : RunFault) (len : ℕ) → IsFeed piece done len → BreaksOff language steps mid new fault kept (end_at piece done len ++ 10 ∷ []) between after → BreaksOff language steps old new fault held piece before after
  line_breaks fault len feed h =
      let line = end_at piece done len ++ 10 ∷ [] in
      let rest = drop (done + (len + 1)) piece in
      let whole : take done piece ++ (line ++ rest) ≡ piece =
      sym (append_assoc (take done piece) line rest) ∙ ap (λ xs. xs ++ rest) (sym (front_more piece done len feed)) ∙ take-append-drop (done + (len + 1)) piece in
      subst (λ xs. BreaksOff language steps old new fault held xs before after) whole (goes_off language steps old mid new fault held kept (take done piece) line rest before between after gone h)

  -- the rest has no line feed, and is held
  pub rest_held : Nowhere (Passes (is_byte 10) (rest_at piece done)) 0 (length (rest_at piece done)) → (length kept ≤ kept_len → left ≡ take kept_len (kept ++ rest_at piece done)) → GoesOn language steps old mid held left piece before between
  rest_held none grows =
      subst (λ xs. GoesOn language steps old mid held left xs before between) (take-append-drop done piece)
      (goes_both language steps old mid mid held kept left (take done piece) (drop done piece) before between between gone (subst (λ xs. GoesOn language steps mid mid kept left xs between between) (rest_is piece done) (bytes_kept language steps mid kept left (rest_at piece done) between (all_unbroken (rest_at piece done) none) grows)))

  pub rest_breaks : (fault : RunFault) → BreaksOff language steps old mid fault held piece before between
  rest_breaks fault =
      subst (λ xs. BreaksOff language steps old mid fault held xs before between) (ap (λ xs. take done piece ++ xs) (append-nil (drop done piece)) ∙ take-append-drop done piece)
      (goes_off language steps old mid mid fault held kept (take done piece) (drop done piece) [] before between between gone (breaks_off language steps mid fault kept (drop done piece) between))
