-- What the marks before the first % leave of a text.
use Rattle.std.proofs.Common.{◌≡◌, ℕ, zero, suc, ◌+◌, ◌<◌, ◌≤◌, ◌≢◌, Bool, true, false, ◌||◌, ◌&&◌, List, [], ◌∷◌, length, drop, get_or, refl, sym, ap, ◌∙◌, ◌⊎◌, inl, inr, ⊎_elim, arith, eq-eqb}
use Rattle.std.proofs.lemmas.Bool.{false≢true, eqb-true}
use Rattle.std.proofs.lemmas.List.{drop_more, drop-drop, length-drop, drop_all, get_or_default}
use Rattle.jpql_meaning.specs.declared.eval.patterns.Mark.{Mark}
use Rattle.jpql_meaning.specs.declared.eval.patterns.Mark.TheVariants as m
use Rattle.jpql_meaning.specs.eval.Texts.{is_matched, any_rest}
use Rattle.jpql_meaning.specs.eval.Fronts.{IsOpen, IsEither}

or_cases : (a b : Bool) → (a || b) ≡ true → (a ≡ true) ⊎ (b ≡ true)
or_cases true b h = inl refl
or_cases false b h = inr h

or_right : (a b : Bool) → b ≡ true → (a || b) ≡ true
or_right true b h = refl
or_right false b h = h

or_left : (a b : Bool) → a ≡ true → (a || b) ≡ true
or_left true b h = refl
or_left false b h = absurd (false≢true h)

same_bools : (a b : Bool) → (a ≡ true → b ≡ true) → (b ≡ true → a ≡ true) → a ≡ b
same_bools true b h k = sym (h refl)
same_bools false true h k = k refl
same_bools false false h k = refl

not_true : (a : Bool) → (a ≡ true → ⊥) → a ≡ false
not_true true h = absurd (h refl)
not_true false h = refl

module _ (g : List ℕ → Bool) where
  at_once : (cs : List ℕ) → g cs ≡ true → any_rest g cs ≡ true
  at_once [] h = h
  at_once (c ∷ cs) h = or_left _ _ h

  later_skip : (n c : ℕ) (cs : List ℕ) → any_rest g (drop n cs) ≡ true → any_rest g (drop n (c ∷ cs)) ≡ true
  later_skip zero c cs h = or_right _ _ h
  later_skip (suc zero) c [] h = h
  later_skip (suc (suc n)) c [] h = h
  later_skip (suc n) c (d ∷ ds) h = later_skip n d ds h

  later_longer : (n : ℕ) → ((cs : List ℕ) → g cs ≡ true → n ≤ length cs) → (cs : List ℕ) → any_rest g cs ≡ true → n ≤ length cs
  later_longer n long [] h = long [] h
  later_longer n long (c ∷ cs) h =
      ⊎_elim (λ e. long (c ∷ cs) e) (λ e. let below : n ≤ length cs = later_longer n long cs e in omega arith) (or_cases _ _ h)

-- a front of some length leaves what comes after it no more places later on
skipped : (f g : List ℕ → Bool) (n : ℕ) → ((cs : List ℕ) → f cs ≡ true → any_rest g (drop n cs) ≡ true) → (cs : List ℕ) → any_rest f cs ≡ true → any_rest g (drop n cs) ≡ true
skipped f g n front [] h = front [] h
skipped f g n front (c ∷ cs) h =
    ⊎_elim (λ e. front (c ∷ cs) e) (λ e. later_skip g n c cs (skipped f g n front cs e)) (or_cases _ _ h)

leftmost : (f g : List ℕ → Bool) (n : ℕ) (cs : List ℕ) → ((ds : List ℕ) → f ds ≡ true → any_rest g (drop n ds) ≡ true) → f cs ≡ any_rest g (drop n cs) → any_rest f cs ≡ any_rest g (drop n cs)
leftmost f g n cs front here = same_bools _ _ (skipped f g n front cs) (λ e. at_once f cs (here ∙ e))

-- so many marks, none of them a %, match the first so many characters
pub record IsGone (ms : List Mark) (cs : List ℕ) (n : ℕ) : Type 0 where
  pub text : n ≤ length cs
  pub here : is_matched ms cs ≡ is_matched (drop n ms) (drop n cs)
  pub longer : (ds : List ℕ) → is_matched ms ds ≡ true → n ≤ length ds
  pub left : (ds : List ℕ) → is_matched ms ds ≡ true → is_matched (drop n ms) (drop n ds) ≡ true

pub gone_none : (ms : List Mark) (cs : List ℕ) → IsGone ms cs 0
gone_none ms cs = record { text = omega arith; here = refl; longer = λ ds h. omega arith; left = λ ds h. h }

-- a mark that takes one character
pub record TakesOne (mark : Mark) (ms : List Mark) : Type 0 where
  pub none : is_matched (mark ∷ ms) [] ≡ false
  pub left : (d : ℕ) (ds : List ℕ) → is_matched (mark ∷ ms) (d ∷ ds) ≡ true → is_matched ms ds ≡ true

pub takes_any : (ms : List Mark) → TakesOne m.One ms
takes_any ms = record { none = refl; left = λ d ds h. h }

and_right : (a b : Bool) → (a && b) ≡ true → b ≡ true
and_right true b h = h
and_right false b h = absurd (false≢true h)

pub takes_this : (x : ℕ) (ms : List Mark) → TakesOne (m.Plain x) ms
takes_this x ms = record { none = refl; left = λ d ds h. and_right _ _ h }

one_left : (mark : Mark) (ms : List Mark) → TakesOne mark ms → (ds : List ℕ) → is_matched (mark ∷ ms) ds ≡ true → (1 ≤ length ds) × (is_matched ms (drop 1 ds) ≡ true)
one_left mark ms takes [] h = absurd (false≢true (sym takes.none ∙ h))
one_left mark ms takes (d ∷ ds) h = (omega arith, takes.left d ds h)

module _ (ms : List Mark) (cs : List ℕ) (i : ℕ) (d mark : Mark) where
  -- what is left, read at this mark
  at_mark : i < length ms → get_or ms i d ≡ mark → drop i ms ≡ mark ∷ drop (i + 1) ms
  at_mark l e = drop_more ms i d l ∙ ap (λ x. x ∷ drop (i + 1) ms) e

  left_here : IsGone ms cs i → i < length ms → get_or ms i d ≡ mark → is_matched ms cs ≡ is_matched (mark ∷ drop (i + 1) ms) (drop i cs)
  left_here gone l e = gone.here ∙ ap (λ rest. is_matched rest (drop i cs)) (at_mark l e)

  left_there : IsGone ms cs i → i < length ms → get_or ms i d ≡ mark → (ds : List ℕ) → is_matched ms ds ≡ true → is_matched (mark ∷ drop (i + 1) ms) (drop i ds) ≡ true
  left_there gone l e ds h = sym (ap (λ rest. is_matched rest (drop i ds)) (at_mark l e)) ∙ gone.left ds h

  one_more : IsGone ms cs i → i < length ms → get_or ms i d ≡ mark → TakesOne mark (drop (i + 1) ms) → (ds : List ℕ) → is_matched ms ds ≡ true → (i + 1 ≤ length ds) × (is_matched (drop (i + 1) ms) (drop (i + 1) ds) ≡ true)
  one_more gone l e takes ds h =
      let at = one_left mark (drop (i + 1) ms) takes (drop i ds) (left_there gone l e ds h) in
      (omega (arith, at.0, length-drop i ds), sym (ap (is_matched (drop (i + 1) ms)) (drop-drop 1 i ds)) ∙ at.1)

  gone_more : IsGone ms cs i → i < length ms → get_or ms i d ≡ mark → TakesOne mark (drop (i + 1) ms) → i < length cs → (c : ℕ) → c ≡ get_or cs i c → is_matched (mark ∷ drop (i + 1) ms) (c ∷ drop (i + 1) cs) ≡ is_matched (drop (i + 1) ms) (drop (i + 1) cs) → IsGone ms cs (i + 1)
  gone_more gone l e takes k c at step = record {
    text = omega arith;
    here = left_here gone l e ∙ ap (is_matched (mark ∷ drop (i + 1) ms)) (drop_more cs i c k ∙ ap (λ x. x ∷ drop (i + 1) cs) (sym at)) ∙ step;
    longer = λ ds h. (one_more gone l e takes ds h).0;
    left = λ ds h. (one_more gone l e takes ds h).1;
  }

  pub short : IsGone ms cs i → i < length ms → get_or ms i d ≡ mark → TakesOne mark (drop (i + 1) ms) → length cs ≤ i → IsEither ms cs false
  short gone l e takes k =
      let long = λ (ds : List ℕ) (h : is_matched ms ds ≡ true). (one_more gone l e takes ds h).0 in
      record {
        here = not_true _ (λ h. let k1 : i + 1 ≤ length cs = long cs h in absurd (omega arith));
        later = not_true _ (λ h. let k1 : i + 1 ≤ length cs = later_longer (is_matched ms) (i + 1) long cs h in absurd (omega arith));
      }

pub open_here : (ms : List Mark) (cs : List ℕ) (i : ℕ) (d : Mark) → IsGone ms cs i → i < length ms → get_or ms i d ≡ m.Many → IsOpen ms cs (drop (i + 1) ms) (drop i cs)
open_here ms cs i d gone l e = record {
  marks = omega (arith, length-drop (i + 1) ms);
  text = omega (arith, length-drop i cs);
  here = left_here ms cs i d m.Many gone l e;
  later = leftmost (is_matched ms) (is_matched (drop (i + 1) ms)) i cs (left_there ms cs i d m.Many gone l e) (left_here ms cs i d m.Many gone l e);
}

pub more_by_any : (ms : List Mark) (cs : List ℕ) (i : ℕ) (d : Mark) → IsGone ms cs i → i < length ms → get_or ms i d ≡ m.One → i < length cs → IsGone ms cs (i + 1)
more_by_any ms cs i d gone l e k =
    gone_more ms cs i d m.One gone l e (takes_any (drop (i + 1) ms)) k (get_or cs i 0) (get_or_default cs i 0 (get_or cs i 0) k) refl

pub more_by_this : (ms : List Mark) (cs : List ℕ) (i : ℕ) (d : Mark) (c x : ℕ) → IsGone ms cs i → i < length ms → get_or ms i d ≡ m.Plain c → i < length cs → x ≡ get_or cs i x → x ≡ c → IsGone ms cs (i + 1)
more_by_this ms cs i d c x gone l e k at same =
    gone_more ms cs i d (m.Plain c) gone l e (takes_this c (drop (i + 1) ms)) k x at
    (ap (λ b. b && is_matched (drop (i + 1) ms) (drop (i + 1) cs)) (eq-eqb c x (sym same)))

pub differs : (ms : List Mark) (cs : List ℕ) (i : ℕ) (d : Mark) (c x : ℕ) → IsGone ms cs i → i < length ms → get_or ms i d ≡ m.Plain c → i < length cs → x ≡ get_or cs i x → (x ≡ c → ⊥) → is_matched ms cs ≡ false
differs ms cs i d c x gone l e k at apart =
    left_here ms cs i d (m.Plain c) gone l e
    ∙ ap (is_matched (m.Plain c ∷ drop (i + 1) ms)) (drop_more cs i x k ∙ ap (λ y. y ∷ drop (i + 1) cs) (sym at))
    ∙ ap (λ b. b && is_matched (drop (i + 1) ms) (drop (i + 1) cs)) (not_true _ (λ h. apart (sym (eqb-true c x h))))

-- all marks are gone
pub all_gone : (ms : List Mark) (cs : List ℕ) (i : ℕ) → IsGone ms cs i → length ms ≤ i → is_matched ms cs ≡ is_matched [] (drop i cs)
all_gone ms cs i gone l = gone.here ∙ ap (λ rest. is_matched rest (drop i cs)) (drop_all i ms l)

pub whole : (ms : List Mark) (cs : List ℕ) (i : ℕ) → IsGone ms cs i → length ms ≤ i → i ≤ length ms → length cs ≡ length ms → IsEither ms cs true
whole ms cs i gone l k e =
    let here = all_gone ms cs i gone l ∙ ap (is_matched []) (drop_all i cs (omega arith)) in record { here = here; later = at_once (is_matched ms) cs here }

more_left : (cs : List ℕ) → 0 < length cs → is_matched [] cs ≡ false
more_left [] h = absurd (omega arith)
more_left (c ∷ cs) h = refl

pub left_over : (ms : List Mark) (cs : List ℕ) (i : ℕ) → IsGone ms cs i → length ms ≤ i → i ≤ length ms → (length cs ≡ length ms → ⊥) → is_matched ms cs ≡ false
left_over ms cs i gone l k apart =
    let within = gone.text in
    all_gone ms cs i gone l ∙ more_left (drop i cs) (let e = length-drop i cs in let ne : length cs ≢ length ms = apart in omega (arith, e))
