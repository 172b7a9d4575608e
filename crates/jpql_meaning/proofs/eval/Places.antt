-- One place further in a text.
use Rattle.std.proofs.Common.{◌≡◌, ℕ, ◌+◌, ◌<◌, ℤ, pos, Bool, true, false, cond, ◌&&◌, nat_eq, nat_le, int_le, List, ◌∷◌, ◌++◌, length, drop, get_or, Option, encode_utf8_all, sym, ap, ◌∙◌, refl, arith, append_assoc}
use Rattle.std.proofs.Math.Utf8.{encode}
use Rattle.std.specs.List.{starts_with}
use Rattle.std.proofs.lemmas.List.{drop_more}
use Rattle.std.proofs.lemmas.Bool.Decides.{nat_tests}
use Rattle.jpql_meaning.specs.eval.Texts.{those_from, is_before, found_from}

pub and_false : (a : Bool) → (a && false) ≡ false
and_false true = refl
and_false false = refl

pub not_le : (a b : ℕ) → b < a → nat_le a b ≡ false
not_le a b h = grind (arith, nat_tests)

pub missed : (i from : ℕ) (x cs : List ℕ) → i < length cs → (nat_le from (i + 1) && starts_with nat_eq (drop i cs) x) ≡ false
    → found_from (i + 1) from x (drop i cs) ≡ found_from (i + 1 + 1) from x (drop (i + 1) cs)
missed i from x cs l e =
    let cut = drop_more cs i 0 l in
    ap (found_from (i + 1) from x) cut
    ∙ ap (λ (b : Bool). cond b (i + 1) (found_from (i + 1 + 1) from x (drop (i + 1) cs)))
    (ap (λ (rest : List ℕ). nat_le from (i + 1) && starts_with nat_eq rest x) (sym cut) ∙ e)

module _ (i : ℕ) (from : ℤ) (end : Option ℤ) (cs : List ℕ) (c : ℕ) where
  those_more : i < length cs → c ≡ get_or cs i c → those_from (i + 1) from end (drop i cs) ≡ those_from (i + 1) from end (c ∷ drop (i + 1) cs)
  those_more l at = ap (those_from (i + 1) from end) (drop_more cs i c l ∙ ap (λ x. x ∷ drop (i + 1) cs) (sym at))

  by_test : (b : Bool) → (int_le from (pos (i + 1)) && is_before (pos (i + 1)) end) ≡ b
      → those_from (i + 1) from end (c ∷ drop (i + 1) cs)
      ≡ cond b (c ∷ those_from (i + 1 + 1) from end (drop (i + 1) cs)) (those_from (i + 1 + 1) from end (drop (i + 1) cs))
  by_test b e = ap (λ (x : Bool). cond x (c ∷ those_from (i + 1 + 1) from end (drop (i + 1) cs)) (those_from (i + 1 + 1) from end (drop (i + 1) cs))) e

  pub taken : (all part new : List ℕ) → i < length cs → c ≡ get_or cs i c → (int_le from (pos (i + 1)) && is_before (pos (i + 1)) end) ≡ true
      → all ≡ part ++ encode_utf8_all (those_from (i + 1) from end (drop i cs)) → new ≡ part ++ encode c
      → all ≡ new ++ encode_utf8_all (those_from (i + 1 + 1) from end (drop (i + 1) cs))
  taken all part new l at e h k =
      let more = encode_utf8_all (those_from (i + 1 + 1) from end (drop (i + 1) cs)) in
      h ∙ ap (λ xs. part ++ encode_utf8_all xs) (those_more l at ∙ by_test true e) ∙ sym (append_assoc part (encode c) more) ∙ ap (λ xs. xs ++ more) (sym k)

  pub left : (all part new : List ℕ) → i < length cs → c ≡ get_or cs i c → (int_le from (pos (i + 1)) && is_before (pos (i + 1)) end) ≡ false
      → all ≡ part ++ encode_utf8_all (those_from (i + 1) from end (drop i cs)) → new ≡ part
      → all ≡ new ++ encode_utf8_all (those_from (i + 1 + 1) from end (drop (i + 1) cs))
  left all part new l at e h k =
      let more = encode_utf8_all (those_from (i + 1 + 1) from end (drop (i + 1) cs)) in
      h ∙ ap (λ xs. part ++ encode_utf8_all xs) (those_more l at ∙ by_test false e) ∙ ap (λ xs. xs ++ more) (sym k)
