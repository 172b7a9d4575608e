-- What is written with escapes is read again, whatever follows it, and what is read was written so.
use Rattle.std.specs.Prelude.{◌≡◌, ℕ, suc, ◌+◌, ◌≤◌, Bool, true, false, cond, ◌==◌, List, [], ◌∷◌, ◌++◌, length, drop, Option, Some, None}
use Rattle.std.proofs.Common.{refl, sym, ap, ◌∙◌, arith}
use Rattle.jpa_rows.specs.keys.Keys.{escaped}
use Rattle.jpa_rows.specs.keys.Reading.{joined, unescaped}
use Rattle.jpa_rows.proofs.keys.Joins.{some_parts, Joined, joined_some}
use Rattle.std.proofs.lemmas.Bool.Decides.{nat_tests}
use Rattle.std.proofs.lemmas.Option.{none-some}

pub tied_numbers : (a b : ℕ) → a == b ≡ true → a ≡ b
tied_numbers a b e = grind (arith, nat_tests)

two_more : (n : ℕ) → 1 + (1 + (n + 2)) ≡ suc (suc n) + 2
two_more n = omega arith

one_more : (n : ℕ) → 1 + (n + 2) ≡ suc n + 2
one_more n = omega arith

pub escape_read : (bytes rest : List ℕ) → unescaped false (escaped bytes ++ 0 ∷ 0 ∷ rest) ≡ Some (bytes, length (escaped bytes) + 2)
escape_read [] rest = refl
escape_read (b ∷ bytes) rest =
    elim (b == 0) as (λ x. b == 0 ≡ x → unescaped false ((cond x (0 ∷ 255 ∷ []) (b ∷ []) ++ escaped bytes) ++ 0 ∷ 0 ∷ rest) ≡ Some (b ∷ bytes, length (cond x (0 ∷ 255 ∷ []) (b ∷ []) ++ escaped bytes) + 2)) [
      | true ↦ λ e. ap (λ x. joined [] 1 (joined (0 ∷ []) 1 x)) (escape_read bytes rest) ∙ (λ i. Some (sym (tied_numbers b 0 e) i ∷ bytes, two_more (length (escaped bytes)) i))
      | false ↦ λ e. ap (λ x. cond x (joined [] 1 (unescaped true (escaped bytes ++ 0 ∷ 0 ∷ rest))) (joined (b ∷ []) 1 (unescaped false (escaped bytes ++ 0 ∷ 0 ∷ rest)))) e
          ∙ ap (joined (b ∷ []) 1) (escape_read bytes rest) ∙ (λ i. Some (b ∷ bytes, one_more (length (escaped bytes)) i))
    ] refl

-- the byte 0 that was just read
abbrev pub pending : Bool → List ℕ → List ℕ
pending false bytes = bytes
pending true bytes = 0 ∷ bytes

pub record Escaped (after_zero : Bool) (bytes contents : List ℕ) (count : ℕ) : Type 0 where
  pub within : count ≤ length bytes
  pub same : pending after_zero bytes ≡ escaped contents ++ 0 ∷ 0 ∷ drop count bytes

drop_more : (b : ℕ) (bytes : List ℕ) (n : ℕ) → drop (1 + n) (b ∷ bytes) ≡ drop n bytes
drop_more b bytes n = let e : 1 + n ≡ suc n = omega arith in ap (λ k. drop k (b ∷ bytes)) e

-- a byte that is not 0 is written as it is
plain : (b : ℕ) (bytes : List ℕ) → b == 0 ≡ false → escaped (b ∷ bytes) ≡ b ∷ escaped bytes
plain b bytes e = ap (λ x. cond x (0 ∷ 255 ∷ []) (b ∷ []) ++ escaped bytes) e

-- a byte 0 and what follows it
after_zero_byte : (b : ℕ) (bytes contents : List ℕ) (count : ℕ) (later : Option (List ℕ × ℕ)) (w : Joined [] 1 later contents count) → b == 0 ≡ true → Escaped true bytes w.rest w.more → Escaped false (b ∷ bytes) contents count
after_zero_byte b bytes contents count later w e more = record {
  within = let h = more.within in let s = w.sum in omega arith;
  same = ap (λ z. z ∷ bytes) (tied_numbers b 0 e) ∙ more.same
      ∙ (λ i. escaped (w.items i) ++ 0 ∷ 0 ∷ (sym (drop_more b bytes w.more) ∙ ap (λ k. drop k (b ∷ bytes)) w.sum) i);
}

-- any other byte stands for itself
after_plain : (b : ℕ) (bytes contents : List ℕ) (count : ℕ) (later : Option (List ℕ × ℕ)) (w : Joined (b ∷ []) 1 later contents count) → b == 0 ≡ false → Escaped false bytes w.rest w.more → Escaped false (b ∷ bytes) contents count
after_plain b bytes contents count later w e more = record {
  within = let h = more.within in let s = w.sum in omega arith;
  same = ap (λ x. b ∷ x) more.same ∙ ap (λ x. x ++ 0 ∷ 0 ∷ drop w.more bytes) (sym (plain b w.rest e))
      ∙ (λ i. escaped (w.items i) ++ 0 ∷ 0 ∷ (sym (drop_more b bytes w.more) ∙ ap (λ k. drop k (b ∷ bytes)) w.sum) i);
}

-- after a byte 0 the byte 255 ends an escape
after_escape : (b : ℕ) (bytes contents : List ℕ) (count : ℕ) (later : Option (List ℕ × ℕ)) (w : Joined (0 ∷ []) 1 later contents count) → b == 255 ≡ true → Escaped false bytes w.rest w.more → Escaped true (b ∷ bytes) contents count
after_escape b bytes contents count later w e more = record {
  within = let h = more.within in let s = w.sum in omega arith;
  same = ap (λ z. 0 ∷ z ∷ bytes) (tied_numbers b 255 e) ∙ ap (λ x. 0 ∷ 255 ∷ x) more.same
      ∙ (λ i. escaped (w.items i) ++ 0 ∷ 0 ∷ (sym (drop_more b bytes w.more) ∙ ap (λ k. drop k (b ∷ bytes)) w.sum) i);
}

-- and the byte 0 ends the whole
at_end : (b : ℕ) (bytes contents : List ℕ) (count : ℕ) → b == 0 ≡ true → [] ≡ contents → 1 ≡ count → Escaped true (b ∷ bytes) contents count
at_end b bytes contents count e nothing one =
    record {
      within = omega arith;
      same = ap (λ z. 0 ∷ z ∷ bytes) (tied_numbers b 0 e) ∙ (λ i. escaped (nothing i) ++ 0 ∷ 0 ∷ drop (one i) (b ∷ bytes));
    }

pub escape_only : (after_zero : Bool) (bytes contents : List ℕ) (count : ℕ) → unescaped after_zero bytes ≡ Some (contents, count) → Escaped after_zero bytes contents count
escape_only false [] contents count e = absurd (none-some _ e)
escape_only true [] contents count e = absurd (none-some _ e)
escape_only false (b ∷ bytes) contents count e =
    elim (b == 0) as (λ x. b == 0 ≡ x → cond x (joined [] 1 (unescaped true bytes)) (joined (b ∷ []) 1 (unescaped false bytes)) ≡ Some (contents, count) → Escaped false (b ∷ bytes) contents count) [
      | true ↦ λ h g. let w = joined_some [] 1 (unescaped true bytes) contents count g in after_zero_byte b bytes contents count _ w h (escape_only true bytes w.rest w.more w.was)
      | false ↦ λ h g. let w = joined_some (b ∷ []) 1 (unescaped false bytes) contents count g in after_plain b bytes contents count _ w h (escape_only false bytes w.rest w.more w.was)
    ] refl e
escape_only true (b ∷ bytes) contents count e =
    elim (b == 0) as (λ x. b == 0 ≡ x → cond x (Some ([], 1)) (cond (b == 255) (joined (0 ∷ []) 1 (unescaped false bytes)) None) ≡ Some (contents, count) → Escaped true (b ∷ bytes) contents count) [
      | true ↦ λ h g. let ends = some_parts {A = List ℕ} {B = ℕ} ([], 1) (contents, count) g in at_end b bytes contents count h ends.0 ends.1
      | false ↦ λ h g. elim (b == 255) as (λ x. b == 255 ≡ x → cond x (joined (0 ∷ []) 1 (unescaped false bytes)) None ≡ Some (contents, count) → Escaped true (b ∷ bytes) contents count) [
        | true ↦ λ k f. let w = joined_some (0 ∷ []) 1 (unescaped false bytes) contents count f in after_escape b bytes contents count _ w k (escape_only false bytes w.rest w.more w.was)
        | false ↦ λ k f. absurd (none-some _ f)
      ] refl g
    ] refl e
