-- What is written token by token.
use Rattle.std.proofs.Common.{◌≡◌, ℕ, ◌≤◌, List, [], ◌∷◌, ◌++◌, length, take, map, flat_map, Result, Ok, refl, ap, ◌∙◌, subst, append_assoc}
use Rattle.std.proofs.lemmas.List.{take_all}
use Rattle.json.specs.Print.{print}
use Rattle.json.specs.Token.{Token, begin_array, end_array}
use Rattle.json.specs.Tree.{items_tokens}
use Rattle.json.specs.Written.{Written, Writes}
use Rattle.serde_json.specs.Data.{Data, array}
use Rattle.serde_json.specs.View.{items_of}
use Rattle.serde_json.specs.Written.{items_outline, compact_text}
use Rattle.serde_json.proofs.Texts.{print-outline}
use Rattle.jpa_lines.specs.lines.Outcome.{data_tokens, Adds}

pub added : {E : Type 0} (u : Unit {0}) (old new : Written) (t : Token) → Writes {E = E} (Ok u) old new t → Adds old new (t ∷ [])
added u old new t w = (w.room.0, w.ok)

pub adds_both : (a b c : Written) (xs ys : List Token) → Adds a b xs → Adds b c ys → Adds a c (xs ++ ys)
adds_both a b c xs ys h k = (k.0 ∙ h.0, k.1 ∙ ap (λ ts. ts ++ ys) h.1 ∙ append_assoc a.tokens xs ys)

-- a list that has begun with these
abbrev pub begun : List Data → List Token
begun ds = begin_array ∷ flat_map data_tokens ds

list_end : (ds : List Data) → flat_map data_tokens ds ++ end_array ∷ [] ≡ items_tokens (items_outline (items_of ds))
list_end [] = refl
list_end (d ∷ ds) = append_assoc (data_tokens d) (flat_map data_tokens ds) (end_array ∷ []) ∙ ap (λ ts. data_tokens d ++ ts) (list_end ds)

-- a list whose items stand behind others is whole
pub whole_list : {A E : Type 0} (u : Unit {0}) (f : A → Data) (old mid new : Written) (front : List Data) (xs : List A) (i : ℕ) → length xs ≤ i
    → Adds old mid (begun (front ++ map f (take i xs))) → Writes {E = E} (Ok u) mid new end_array → Adds old new (data_tokens (array (items_of (front ++ map f xs))))
whole_list u f old mid new front xs i h before end =
    let all = ap (λ ys. front ++ map f ys) (take_all i xs h) in
    subst (Adds old new) (ap (λ ds. begun ds ++ end_array ∷ []) all ∙ ap (λ ts. begin_array ∷ ts) (list_end (front ++ map f xs))) (adds_both old mid new _ _ before (added u mid new end_array end))

-- a reply was written into an empty buffer, and then its line feed
pub reply_written : (old new : Written) (start text bytes : List ℕ) (d : Data) → Adds old new (data_tokens d) → old.before ≡ start → start ≡ [] → old.tokens ≡ []
    → text ≡ new.before ++ print new.tokens → bytes ≡ text ++ 10 ∷ [] → bytes ≡ compact_text d ++ 10 ∷ []
reply_written old new start text bytes d told before empty none is feed =
    feed ∙ ap (λ xs. xs ++ 10 ∷ [])
    (is ∙ ap (λ xs. xs ++ print new.tokens) (told.0 ∙ before ∙ empty) ∙ ap print (told.1 ∙ ap (λ ts. ts ++ data_tokens d) none) ∙ print-outline d)
