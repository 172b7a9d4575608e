-- The pieces that a text is cut into are those that it is spelled by.
use Rattle.std.proofs.lemmas.Bool.Decides.{nat_tests}
use Rattle.std.proofs.Common.{◌≡◌, ℕ, zero, suc, ◌≤◌, ◌<◌, ◌==◌, Bool, true, false, not, ◌&&◌, nat_le, List, [], ◌∷◌, ◌++◌, drop, length, Some, refl, ap, sym, ◌∙◌, subst, arith, append_assoc, append-nil, eqb-true}
use Rattle.std.specs.List.{list_all}
use Rattle.std.specs.Char.{is_ascii_digit}
use Rattle.jpql_trees.specs.declared.tree.Language.{Language}
use Rattle.jpql_grammar.specs.declared.grammar.token.Mark.{Mark}
use Rattle.jpql_grammar.specs.declared.grammar.token.Mark.TheVariants as m
use Rattle.jpql_grammar.specs.declared.grammar.token.Token.{Token}
use Rattle.jpql_trees.specs.tree.Names.{Text}
use Rattle.jpql_grammar.specs.grammar.Text.{is_blank, begins_word, is_in_word, begins, digits_value, greatest_integer, doubled, mark_text, lengthens, Piece, blank, bare, digits, quoted, named, numbered, mark, write_piece, Spelled, piece_tokens, write_pieces, AllSpelled, tokens_of, IsText}
use Rattle.jpql_grammar.specs.grammar.Lexing.{run, quoted_at, less_of, greater_of, mark_of, mark_length, first, word_at, digits_at, quotes_at, named_at, numbered_at, mark_at, piece_at, tokens_at}
use Rattle.jpql_grammar.proofs.grammar.Tools.{both, neither, step, choice, same}

-- ---- runs

run_all : (p : ℕ → Bool) (xs : Text) → ((run p xs).0 ++ (run p xs).1 ≡ xs) × (list_all p (run p xs).0 ≡ true) × (begins p (run p xs).1 ≡ false)
unfolding run
run_all p [] = (refl, refl, refl)
run_all p (b ∷ bs) = by_test (p b) refl (run_all p bs)
  where
    by_test : (c : Bool) → p b ≡ c → ((run p bs).0 ++ (run p bs).1 ≡ bs) × (list_all p (run p bs).0 ≡ true) × (begins p (run p bs).1 ≡ false)
        → ((run p (b ∷ bs)).0 ++ (run p (b ∷ bs)).1 ≡ b ∷ bs) × (list_all p (run p (b ∷ bs)).0 ≡ true) × (begins p (run p (b ∷ bs)).1 ≡ false)
    by_test true e r = (rw e (ap (λ t. b ∷ t) r.0), rw (e, e) r.1, rw e r.2)
    by_test false e r = (rw e, rw e, rw (e, e))

run_complete : (p : ℕ → Bool) (w rest : Text) → list_all p w ≡ true → begins p rest ≡ false → run p (w ++ rest) ≡ (w, rest)
unfolding run
run_complete p [] [] h e = refl
run_complete p [] (b ∷ rest) h e = rw e
run_complete p (b ∷ w) rest h e = both (p b) (list_all p w) h (λ c d. rw (c, run_complete p w rest d e))

-- ---- bytes

word_byte : (b : ℕ) → begins_word b ≡ true → is_in_word b ≡ true
word_byte b h = grind (arith, nat_tests)

word_not_blank : (b : ℕ) → begins_word b ≡ true → is_blank b ≡ false
word_not_blank b h = grind (arith, nat_tests)

digit_not_blank : (b : ℕ) → is_ascii_digit b ≡ true → is_blank b ≡ false
digit_not_blank b h = grind (arith, nat_tests)

digit_not_word : (b : ℕ) → is_ascii_digit b ≡ true → begins_word b ≡ false
digit_not_word b h = grind (arith, nat_tests)

-- ---- words and digits

word_begins : (text : Text) → begins begins_word text ≡ true → begins begins_word (run is_in_word text).0 ≡ true
unfolding run
word_begins [] h = absurd cc
word_begins (b ∷ bs) h = rw (word_byte b h) h

digits_begin : (q : ℕ → Bool) (text : Text) → begins is_ascii_digit text ≡ true → begins q (run is_ascii_digit text).0 ≡ begins q text
unfolding run
digits_begin q [] h = absurd cc
digits_begin q (b ∷ bs) h = rw h

-- ---- quotes

abbrev is_quote : ℕ → Bool
is_quote b = b == 39

-- what stands between quotes, and after them, is these bytes
abbrev Quotes : Text → Text × Text → Type 0
Quotes bs q = (doubled q.0 ++ 39 ∷ q.1 ≡ bs) × (begins is_quote q.1 ≡ false)

abbrev after_quote : Bool → Text → Text
after_quote true bs = 39 ∷ bs
after_quote false bs = bs

quotes_end : (q : Text × Text) (rest : Text) → ([], rest) ≡ q → begins is_quote rest ≡ false → Quotes (39 ∷ rest) q
quotes_end q rest e f = subst (λ (q : Text × Text). Quotes (39 ∷ rest) q) e (refl, f)

-- a quote that is doubled, and a byte that is none
quotes_doubled : (bs : Text) (r q : Text × Text) → Quotes bs r → (39 ∷ r.0, r.1) ≡ q → Quotes (39 ∷ 39 ∷ bs) q
quotes_doubled bs r q (e, f) h = subst (λ (q : Text × Text). Quotes (39 ∷ 39 ∷ bs) q) h (ap (λ t. 39 ∷ 39 ∷ t) e, f)

quotes_byte : (b : ℕ) (bs : Text) (r q : Text × Text) → is_quote b ≡ false → Quotes bs r → (b ∷ r.0, r.1) ≡ q → Quotes (b ∷ bs) q
quotes_byte b bs r q n (e, f) h = subst (λ (q : Text × Text). Quotes (b ∷ bs) q) h (rw n (ap (λ t. b ∷ t) e), f)

quoted_sound : (met : Bool) (bs : Text) (q : Text × Text) → quoted_at met bs ≡ Some q → Quotes (after_quote met bs) q
unfolding quoted_at
quoted_sound false [] q h = absurd cc
quoted_sound true [] q h = quotes_end q [] (same _ _ h) refl
quoted_sound false (b ∷ bs) q h = choice (is_quote b) _ _ _ h
    (λ e h1. rw (eqb-true _ _ e) (quoted_sound true bs q h1))
    (λ e h1. step (quoted_at false bs) _ _ h1 (λ r er hr. quotes_byte b bs r q e (quoted_sound false bs r er) (same _ _ hr)))
quoted_sound true (b ∷ bs) q h = choice (is_quote b) _ _ _ h
    (λ e h1. step (quoted_at false bs) _ _ h1 (λ r er hr. rw (eqb-true _ _ e) (quotes_doubled bs r q (quoted_sound false bs r er) (same _ _ hr))))
    (λ e h1. quotes_end q (b ∷ bs) (same _ _ h1) e)

quoted_ended : (rest : Text) → begins is_quote rest ≡ false → quoted_at true rest ≡ Some ([], rest)
unfolding quoted_at
quoted_ended [] e = refl
quoted_ended (b ∷ rest) e = rw e

quoted_complete : (w rest : Text) → begins is_quote rest ≡ false → quoted_at false (doubled w ++ 39 ∷ rest) ≡ Some (w, rest)
unfolding quoted_at
quoted_complete [] rest e = quoted_ended rest e
quoted_complete (b ∷ w) rest e = by_test (is_quote b) refl (quoted_complete w rest e)
  where
    by_test : (c : Bool) → is_quote b ≡ c → quoted_at false (doubled w ++ 39 ∷ rest) ≡ Some (w, rest) → quoted_at false (doubled (b ∷ w) ++ 39 ∷ rest) ≡ Some (b ∷ w, rest)
    by_test true h ih = rw (h, ih) (ap (λ c. Some (c ∷ w, rest)) (sym (eqb-true b 39 h)))
    by_test false h ih = rw (h, h, ih)

-- ---- marks

-- the mark, and what follows it, are these bytes
abbrev Marked : Text → Mark → Type 0
Marked text x = (mark_text x ++ drop (mark_length x) text ≡ text) × (begins (lengthens x) (drop (mark_length x) text) ≡ false)

no_longer : (p : ℕ → Bool) (bs : Text) → ((d : ℕ) → p d ≡ false) → begins p bs ≡ false
no_longer p [] h = refl
no_longer p (b ∷ bs) h = h b

shorter : (b : ℕ) (bs : Text) (c : ℕ) (x y : Mark) → mark_text x ≡ c ∷ [] → mark_length x ≡ 1 → begins (lengthens x) bs ≡ false → (b == c) ≡ true → Some x ≡ Some y → Marked (b ∷ bs) y
shorter b bs c x y t l n e h = subst (Marked (b ∷ bs)) (same _ _ h) (rw (l, t) (ap (λ d. d ∷ bs) (sym (eqb-true b c e))), rw l n)

single : (b : ℕ) (bs : Text) (c : ℕ) (x y : Mark) → mark_text x ≡ c ∷ [] → mark_length x ≡ 1 → ((d : ℕ) → lengthens x d ≡ false) → (b == c) ≡ true → Some x ≡ Some y → Marked (b ∷ bs) y
single b bs c x y t l n e h = shorter b bs c x y t l (no_longer (lengthens x) bs n) e h

double : (b : ℕ) (bs : Text) (c d : ℕ) (x y : Mark) → mark_text x ≡ c ∷ d ∷ [] → mark_length x ≡ 2 → ((d : ℕ) → lengthens x d ≡ false) → (b == c) ≡ true → (first bs == d) ≡ true → 0 < d
    → Some x ≡ Some y → Marked (b ∷ bs) y
double b [] c d x y t l n e f z h = absurd (omega (arith, eqb-true 0 d f))
double b (a ∷ cs) c d x y t l n e f z h = subst (Marked (b ∷ a ∷ cs)) (same _ _ h)
    (rw (l, t) (rw (eqb-true b c e, eqb-true a d f)), rw l (no_longer (lengthens x) cs n))

not_less : (bs : Text) → (first bs == 61) ≡ false → (first bs == 62) ≡ false → begins (lengthens m.Less) bs ≡ false
not_less [] e f = refl
not_less (b ∷ bs) e f = rw (e, f)

not_greater : (bs : Text) → (first bs == 61) ≡ false → begins (lengthens m.Greater) bs ≡ false
not_greater [] e = refl
not_greater (b ∷ bs) e = e

less_sound : (b : ℕ) (bs : Text) (y : Mark) → (b == 60) ≡ true → less_of (first bs) ≡ y → Marked (b ∷ bs) y
less_sound b bs y e h = choice (first bs == 61) _ _ _ h (λ f h. double b bs 60 61 m.AtMost y refl refl (λ d. refl) e f (omega arith) (ap Some h))
    (λ f h. choice (first bs == 62) _ _ _ h (λ g h. double b bs 60 62 m.Different y refl refl (λ d. refl) e g (omega arith) (ap Some h))
    (λ g h. shorter b bs 60 m.Less y refl refl (not_less bs f g) e (ap Some h)))

greater_sound : (b : ℕ) (bs : Text) (y : Mark) → (b == 62) ≡ true → greater_of (first bs) ≡ y → Marked (b ∷ bs) y
greater_sound b bs y e h = choice (first bs == 61) _ _ _ h (λ f h. double b bs 62 61 m.AtLeast y refl refl (λ d. refl) e f (omega arith) (ap Some h))
    (λ f h. shorter b bs 62 m.Greater y refl refl (not_greater bs f) e (ap Some h))

mark_sound : (b : ℕ) (bs : Text) (y : Mark) → mark_of b (first bs) ≡ Some y → Marked (b ∷ bs) y
mark_sound b bs y h =
    choice (b == 44) _ _ _ h (λ e h. single b bs 44 m.Comma y refl refl (λ d. refl) e h) (λ n h.
    choice (b == 46) _ _ _ h (λ e h. single b bs 46 m.Dot y refl refl (λ d. refl) e h) (λ n h.
    choice (b == 40) _ _ _ h (λ e h. single b bs 40 m.Open y refl refl (λ d. refl) e h) (λ n h.
    choice (b == 41) _ _ _ h (λ e h. single b bs 41 m.Close y refl refl (λ d. refl) e h) (λ n h.
    choice (b == 43) _ _ _ h (λ e h. single b bs 43 m.Plus y refl refl (λ d. refl) e h) (λ n h.
    choice (b == 45) _ _ _ h (λ e h. single b bs 45 m.Minus y refl refl (λ d. refl) e h) (λ n h.
    choice (b == 42) _ _ _ h (λ e h. single b bs 42 m.Star y refl refl (λ d. refl) e h) (λ n h.
    choice (b == 61) _ _ _ h (λ e h. single b bs 61 m.Equal y refl refl (λ d. refl) e h) (λ n h.
    choice (b == 60) _ _ _ h (λ e h. less_sound b bs y e (same _ _ h))
    (λ n h. choice (b == 62) _ _ _ h (λ e h. greater_sound b bs y e (same _ _ h))
    (λ n h. absurd cc))))))))))

mark_complete : (x : Mark) (rest : Text) → begins (lengthens x) rest ≡ false → piece_at (mark_text x ++ rest) ≡ Some (mark x, rest)
unfolding piece_at mark_at
mark_complete m.Comma rest e = refl
mark_complete m.Dot rest e = refl
mark_complete m.Open rest e = refl
mark_complete m.Close rest e = refl
mark_complete m.Plus rest e = refl
mark_complete m.Minus rest e = refl
mark_complete m.Star rest e = refl
mark_complete m.Equal rest e = refl
mark_complete m.Different rest e = refl
mark_complete m.AtMost rest e = refl
mark_complete m.AtLeast rest e = refl
mark_complete m.Less [] e = refl
mark_complete m.Less (b ∷ rest) e = let o = neither {a = b == 61} e in rw (o.0, o.1)
mark_complete m.Greater [] e = refl
mark_complete m.Greater (b ∷ rest) e = rw e

-- ---- pieces

-- the piece, and what follows it, are this text
abbrev pub Cut : Text → Piece × Text → Type 0
Cut text x = (write_piece x.0 x.1 ≡ text) × Spelled x.0 x.1

cut : (text : Text) (x y : Piece × Text) → Some x ≡ Some y → Cut text x → Cut text y
cut text x y h c = subst (Cut text) (same _ _ h) c

word_sound : (b : ℕ) (bs : Text) (y : Piece × Text) → begins_word b ≡ true → word_at (b ∷ bs) ≡ Some y → Cut (b ∷ bs) y
unfolding word_at
word_sound b bs y e h = let r = run_all is_in_word (b ∷ bs) in cut (b ∷ bs) _ y h (r.0, ((word_begins (b ∷ bs) e, r.1), r.2))

digits_sound : (b : ℕ) (bs : Text) (y : Piece × Text) → is_ascii_digit b ≡ true → digits_at (b ∷ bs) ≡ Some y → Cut (b ∷ bs) y
unfolding digits_at
digits_sound b bs y e h = let r = run_all is_ascii_digit (b ∷ bs) in
    choice (nat_le (digits_value 0 (run is_ascii_digit (b ∷ bs)).0) greatest_integer) _ _ _ h
    (λ l h. cut (b ∷ bs) _ y h (r.0, ((digits_begin is_ascii_digit (b ∷ bs) e ∙ e, r.1), l, r.2)))
    (λ l h. absurd cc)

quotes_sound : (b : ℕ) (bs : Text) (y : Piece × Text) → (b == 39) ≡ true → quotes_at bs ≡ Some y → Cut (b ∷ bs) y
unfolding quotes_at
quotes_sound b bs y e h = step (quoted_at false bs) _ _ h (λ q eq hq. let r = quoted_sound false bs q eq in
    cut (b ∷ bs) _ y hq (rw (eqb-true b 39 e) (ap (λ t. 39 ∷ t) (r.0)), r.1))

named_sound : (b : ℕ) (bs : Text) (y : Piece × Text) → (b == 58) ≡ true → named_at bs ≡ Some y → Cut (b ∷ bs) y
unfolding named_at
named_sound b bs y e h = let r = run_all is_in_word bs in choice (begins begins_word bs) _ _ _ h
    (λ w h. cut (b ∷ bs) _ y h (rw (eqb-true b 58 e) (ap (λ t. 58 ∷ t) (r.0)), ((word_begins bs w, r.1), r.2)))
    (λ w h. absurd cc)

not_true : (b : Bool) → not b ≡ true → b ≡ false
not_true true e = absurd cc
not_true false e = refl

numbered_sound : (b : ℕ) (bs : Text) (y : Piece × Text) → (b == 63) ≡ true → numbered_at bs ≡ Some y → Cut (b ∷ bs) y
unfolding numbered_at
numbered_sound b bs y e h = let r = run_all is_ascii_digit bs in choice (begins is_ascii_digit bs && not (begins (λ b. b == 48) bs)) _ _ _ h
    (λ w h. both (begins is_ascii_digit bs) (not (begins (λ b. b == 48) bs)) w (λ d z.
    cut (b ∷ bs) _ y h (rw (eqb-true b 63 e) (ap (λ t. 63 ∷ t) (r.0)), ((digits_begin is_ascii_digit bs d ∙ d, r.1), digits_begin (λ b. b == 48) bs d ∙ not_true _ z, r.2))))
    (λ w h. absurd cc)

pub piece_sound : (text : Text) (y : Piece × Text) → piece_at text ≡ Some y → Cut text y
unfolding piece_at mark_at
piece_sound [] y h = absurd cc
piece_sound (b ∷ bs) y h =
    choice (is_blank b) _ _ _ h (λ e h. cut (b ∷ bs) _ y h (refl, e)) (λ n h.
    choice (begins_word b) _ _ _ h (λ e h. word_sound b bs y e h) (λ n h.
    choice (is_ascii_digit b) _ _ _ h (λ e h. digits_sound b bs y e h) (λ n h.
    choice (b == 39) _ _ _ h (λ e h. quotes_sound b bs y e h) (λ n h.
    choice (b == 58) _ _ _ h (λ e h. named_sound b bs y e h) (λ n h.
    choice (b == 63) _ _ _ h (λ e h. numbered_sound b bs y e h) (λ n h.
    step (mark_of b (first bs)) _ _ h (λ x ex hx. cut (b ∷ bs) _ y hx (mark_sound b bs x ex))))))))

pub piece_complete : (p : Piece) (rest : Text) → Spelled p rest → piece_at (write_piece p rest) ≡ Some (p, rest)
unfolding piece_at word_at digits_at quotes_at named_at numbered_at
piece_complete (blank b) rest h = rw h
piece_complete (bare []) rest h = let e = h.0.0 in absurd cc
piece_complete (bare (b ∷ w)) rest h =
    let e = h.0.0 in rw (word_not_blank b e, e, run_complete is_in_word (b ∷ w) rest (h.0.1) (h.1))
piece_complete (digits []) rest h = let e = h.0.0 in absurd cc
piece_complete (digits (b ∷ w)) rest h =
    let e = h.0.0 in rw (digit_not_blank b e, digit_not_word b e, e, run_complete is_ascii_digit (b ∷ w) rest (h.0.1) (h.2)) (rw (h.1))
piece_complete (quoted w) rest h = rw (quoted_complete w rest h)
piece_complete (named []) rest h = let e = h.0.0 in absurd cc
piece_complete (named (b ∷ w)) rest h = let e = h.0.0 in rw (e, run_complete is_in_word (b ∷ w) rest (h.0.1) (h.1))
piece_complete (numbered []) rest h = let e = h.0.0 in absurd cc
piece_complete (numbered (b ∷ w)) rest h = let e = h.0.0 in rw (e, h.1, run_complete is_ascii_digit (b ∷ w) rest (h.0.1) (h.2))
piece_complete (mark x) rest h = mark_complete x rest h

-- each piece has a byte at least
doubled_long : (w rest : Text) → length rest ≤ length (doubled w ++ rest)
doubled_long [] rest = omega arith
doubled_long (b ∷ w) rest = by_test (b == 39) refl (doubled_long w rest)
  where
    by_test : (c : Bool) → (b == 39) ≡ c → length rest ≤ length (doubled w ++ rest) → length rest ≤ length (doubled (b ∷ w) ++ rest)
    by_test true e l = rw e (omega (arith, l))
    by_test false e l = rw e (omega (arith, l))

append_long : (w rest : Text) → length rest ≤ length (w ++ rest)
append_long [] rest = omega arith
append_long (b ∷ w) rest = omega (arith, append_long w rest)

pub piece_long : (p : Piece) (rest : Text) → Spelled p rest → suc (length rest) ≤ length (write_piece p rest)
piece_long (blank b) rest h = omega arith
piece_long (bare []) rest h = let e = h.0.0 in absurd cc
piece_long (bare (b ∷ w)) rest h = omega (arith, append_long w rest)
piece_long (digits []) rest h = let e = h.0.0 in absurd cc
piece_long (digits (b ∷ w)) rest h = omega (arith, append_long w rest)
piece_long (quoted w) rest h = omega (arith, doubled_long w (39 ∷ rest))
piece_long (named w) rest h = omega (arith, append_long w rest)
piece_long (numbered w) rest h = omega (arith, append_long w rest)
piece_long (mark m.Comma) rest h = omega arith
piece_long (mark m.Dot) rest h = omega arith
piece_long (mark m.Open) rest h = omega arith
piece_long (mark m.Close) rest h = omega arith
piece_long (mark m.Plus) rest h = omega arith
piece_long (mark m.Minus) rest h = omega arith
piece_long (mark m.Star) rest h = omega arith
piece_long (mark m.Equal) rest h = omega arith
piece_long (mark m.Different) rest h = omega arith
piece_long (mark m.Less) rest h = omega arith
piece_long (mark m.AtMost) rest h = omega arith
piece_long (mark m.Greater) rest h = omega arith
piece_long (mark m.AtLeast) rest h = omega arith

-- ---- whole texts

-- tokens that were found, and those of the text
abbrev Spells : Language → List Token → Text → List Token → Type 0
Spells l found text tokens = (ps : List Piece) × AllSpelled ps × (write_pieces ps ≡ text) × (found ++ tokens_of l ps ≡ tokens)

more_spelled : (l : Language) (found : List Token) (text : Text) (x : Piece × Text) (tokens : List Token) → Cut text x → Spells l (found ++ piece_tokens l x.0) x.1 tokens → Spells l found text tokens
more_spelled l found text x tokens (e, s) (ps, all, es, ts) =
    (x.0 ∷ ps, (rw es s, all), rw es e, sym (append_assoc found (piece_tokens l x.0) (tokens_of l ps)) ∙ ts)

spelled_sound : (l : Language) (n : ℕ) (found : List Token) (text : Text) (tokens : List Token) → length text ≤ n → tokens_at l n found text ≡ Some tokens → Spells l found text tokens
unfolding tokens_at
spelled_sound l zero found [] tokens short h = ([], tt, refl, append-nil found ∙ same _ _ h)
spelled_sound l (suc n) found [] tokens short h = ([], tt, refl, append-nil found ∙ same _ _ h)
spelled_sound l zero found (b ∷ bs) tokens short h = absurd (omega arith)
spelled_sound l (suc n) found (b ∷ bs) tokens short h = step (piece_at (b ∷ bs)) _ _ h (λ x ex hx.
    let c = piece_sound (b ∷ bs) x ex in
    let shorter_rest = piece_long x.0 x.1 (c.1) in
    let rest_length = ap length (c.0) in
    more_spelled l found (b ∷ bs) x tokens c (spelled_sound l n (found ++ piece_tokens l x.0) x.1 tokens (omega arith) hx))

pub one_piece : (l : Language) (n : ℕ) (found : List Token) (text : Text) (x : Piece × Text) → piece_at text ≡ Some x → tokens_at l (suc n) found text ≡ tokens_at l n (found ++ piece_tokens l x.0) x.1
unfolding tokens_at piece_at
one_piece l n found [] x h = absurd cc
one_piece l n found (b ∷ bs) x h = rw h

spelled_complete : (l : Language) (ps : List Piece) (n : ℕ) (found : List Token) → AllSpelled ps → length (write_pieces ps) ≤ n → tokens_at l n found (write_pieces ps) ≡ Some (found ++ tokens_of l ps)
unfolding tokens_at
spelled_complete l [] zero found s short = rw append-nil
spelled_complete l [] (suc n) found s short = rw append-nil
spelled_complete l (p ∷ ps) zero found s short = absurd (omega (arith, piece_long p (write_pieces ps) (s.0)))
spelled_complete l (p ∷ ps) (suc n) found s short =
    one_piece l n found (write_piece p (write_pieces ps)) (p, write_pieces ps) (piece_complete p (write_pieces ps) (s.0))
    ∙ (spelled_complete l ps n (found ++ piece_tokens l p) (s.1) (omega (arith, piece_long p (write_pieces ps) (s.0))) ∙ rw append_assoc)

-- The tokens that are read are those of the text, and each text that has tokens is read.
pub tokens_sound : (l : Language) (text : Text) (tokens : List Token) → tokens_at l (length text) [] text ≡ Some tokens → IsText l text tokens
tokens_sound l text tokens h = spelled_sound l (length text) [] text tokens (omega arith) h

pub tokens_complete : (l : Language) (text : Text) (tokens : List Token) → IsText l text tokens → tokens_at l (length text) [] text ≡ Some tokens
tokens_complete l text tokens (ps, s, e, t) = rw (← e) (spelled_complete l ps (length (write_pieces ps)) [] s (omega arith) ∙ ap Some t)
