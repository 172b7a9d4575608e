-- A reply is one line: the lines of what is written are the replies.
use Rattle.std.proofs.Common.{◌≡◌, ◌==◌, ℕ, zero, suc, ◌+◌, ◌/◌, ◌%◌, ◌≤◌, nat_lt, pos, negsuc, Bool, true, false, cond, List, [], ◌∷◌, ◌++◌, map, decimal, refl, ap, ◌∙◌, arith, append_assoc}
use Rattle.std.proofs.lemmas.Bool.Decides.{nat_tests}
use Rattle.std.specs.Fmt.{digits, digits_onto, digit_glyph}
use Rattle.std.specs.Char.{digit_char}
use Rattle.json.specs.Token.{Token}
use Rattle.json.specs.Print.{escape_letter, escape_byte, escape, quoted, token_text}
use Rattle.jpa_protocol.specs.declared.reply.Reply.{Reply}
use Rattle.serde_json.specs.Data.{Num, unsigned, negative, float, Data, null, boolean, number, string, array, object, Items, no_items, item, Members, no_members, member}
use Rattle.serde_json.specs.Written.{number_text, comma_if, compact_text, items_text, members_text}
use Rattle.jpa_lines.specs.lines.ReplyText.{reply_data}
use Rattle.jpa_lines.specs.lines.Run.{lines_of, texts_of, IsUnbroken}
use Rattle.jpa_lines.proofs.lines.SoFar.{line_ends}

other : (x : ℕ) → 11 ≤ x → (x == 10) ≡ false
other x h = grind (arith, nat_tests)

both : (xs ys : List ℕ) → IsUnbroken xs → IsUnbroken ys → IsUnbroken (xs ++ ys)
both [] ys h k = k
both (x ∷ xs) ys h k = (h.0, both xs ys h.1 k)

either : (b : Bool) (xs ys : List ℕ) → IsUnbroken xs → IsUnbroken ys → IsUnbroken (cond b xs ys)
either true xs ys h k = h
either false xs ys h k = k

glyph_at : (b : Bool) (d : ℕ) → (cond b (48 + d) (87 + d) == 10) ≡ false
glyph_at true d = other (48 + d) (omega arith)
glyph_at false d = other (87 + d) (omega arith)

glyph : (d : ℕ) → (digit_glyph false d == 10) ≡ false
glyph d = glyph_at (nat_lt d 10) d

digits_fine : (k n : ℕ) (acc : List ℕ) → IsUnbroken acc → IsUnbroken (digits_onto k 10 false n acc)
digits_fine zero n acc h = h
digits_fine (suc k) n acc h =
    either (n / 10 == 0) (digit_glyph false (n % 10) ∷ acc) _ (glyph (n % 10), h) (digits_fine k (n / 10) (digit_glyph false (n % 10) ∷ acc) (glyph (n % 10), h))

decimal_fine : (n : ℕ) → IsUnbroken (decimal n)
unfolding digits
decimal_fine n = digits_fine 64 n [] tt

letter : (x : ℕ) → (escape_letter x == 10) ≡ false
letter x = grind (arith, nat_tests)

byte_at : (letter_there control : Bool) (x : ℕ) → nat_lt x 32 ≡ control
    → IsUnbroken (cond letter_there (92 ∷ escape_letter x ∷ []) (cond control (92 ∷ 117 ∷ 48 ∷ 48 ∷ digit_char (x / 16) ∷ digit_char (x % 16) ∷ []) (x ∷ [])))
byte_at true control x e = (refl, (letter x, tt))
byte_at false true x e = (refl, (refl, (refl, (refl, (glyph_at (nat_lt (x / 16) 10) (x / 16), (glyph_at (nat_lt (x % 16) 10) (x % 16), tt))))))
byte_at false false x e = (grind (arith, nat_tests), tt)

byte_fine : (x : ℕ) → IsUnbroken (escape_byte x)
unfolding escape_byte
byte_fine x = byte_at (nat_lt 0 (escape_letter x)) (nat_lt x 32) x refl

escape_fine : (s : List ℕ) → IsUnbroken (escape s)
escape_fine [] = tt
escape_fine (x ∷ s) = both (escape_byte x) (escape s) (byte_fine x) (escape_fine s)

quoted_fine : (s : List ℕ) → IsUnbroken (quoted s)
quoted_fine s = (refl, both (escape s) (34 ∷ []) (escape_fine s) (refl, tt))

number_fine : (n : Num) → IsUnbroken (number_text n)
number_fine (unsigned n) = decimal_fine n
number_fine (negative (pos n)) = decimal_fine n
number_fine (negative (negsuc n)) = (refl, decimal_fine (suc n))
number_fine (float x) = tt

comma_fine : (later : Bool) → IsUnbroken (comma_if later)
comma_fine true = (refl, tt)
comma_fine false = tt

boolean_fine : (b : Bool) → IsUnbroken (token_text (Token.boolean b))
boolean_fine true = (refl, (refl, (refl, (refl, tt))))
boolean_fine false = (refl, (refl, (refl, (refl, (refl, tt)))))

mutual
  text_fine : (d : Data) → IsUnbroken (compact_text d)
  text_fine null = (refl, (refl, (refl, (refl, tt))))
  text_fine (boolean b) = boolean_fine b
  text_fine (number n) = number_fine n
  text_fine (string s) = quoted_fine s
  text_fine (array ds) = (refl, items_fine false ds)
  text_fine (object ms) = (refl, members_fine false ms)

  items_fine : (later : Bool) (ds : Items) → IsUnbroken (items_text later ds)
  items_fine later no_items = (refl, tt)
  items_fine later (item d ds) = both (comma_if later) _ (comma_fine later) (both (compact_text d) _ (text_fine d) (items_fine true ds))

  members_fine : (later : Bool) (ms : Members) → IsUnbroken (members_text later ms)
  members_fine later no_members = (refl, tt)
  members_fine later (member k d ms) = both (comma_if later) _ (comma_fine later) (both (quoted k) _ (quoted_fine k) (refl, both (compact_text d) _ (text_fine d) (members_fine true ms)))

-- the lines of what is written are the replies' JSON, one each
pub one_line_each : (replies : List Reply) → lines_of (texts_of replies) ≡ map (λ r. compact_text (reply_data r)) replies
one_line_each [] = refl
one_line_each (r ∷ replies) =
    ap lines_of (append_assoc (compact_text (reply_data r)) (10 ∷ []) (texts_of replies))
    ∙ line_ends (compact_text (reply_data r)) (texts_of replies) (text_fine (reply_data r))
    ∙ ap (λ ls. compact_text (reply_data r) ∷ ls) (one_line_each replies)
