-- What is read as names, paths and lists is written by the grammar, with its tree.
use Rattle.std.proofs.Common.{◌≡◌, ℕ, zero, suc, true, List, [], ◌∷◌, ◌++◌, map, drop, length, subst, Option, Some, refl, ap, sym, ◌∙◌, append-nil, append_assoc}
use Rattle.jpql_grammar.specs.declared.grammar.token.Mark.TheVariants as m
use Rattle.jpql_grammar.specs.declared.grammar.token.Token.{Token}
use Rattle.jpql_grammar.specs.declared.grammar.token.Token.TheVariants as t
use Rattle.jpql_trees.specs.declared.tree.Path.{Path}
use Rattle.jpql_trees.specs.tree.Names.{Text}
use Rattle.jpql_grammar.specs.grammar.Parts.{Name, name_text, name_token, write_names, write_path, path_tree}
use Rattle.jpql_grammar.specs.grammar.ValueGrammar.{Value°, More°, no_more, more, write_value, write_more, value_tree, more_trees}
use Rattle.jpql_grammar.specs.grammar.Grammar.{write_others}
use Rattle.jpql_grammar.specs.grammar.Values.{Read, sees, after, name_at, variable_at, names_at, path_at, others_at, list_at, closed}
use Rattle.jpql_grammar.proofs.grammar.Tools.{step, choice, same, sees_is, after_is, name_sound, variable_sound}

-- the tokens are those of the derivation and those after it, and this is its tree
abbrev pub Wrote : {D A : Type 0} → (D → List Token → List Token) → (D → A) → List Token → A × List Token → Type 0
Wrote {D = D} write tree ts x = (d : D) × (write d x.1 ≡ ts) × (tree d ≡ x.0)

-- what follows a case that writes nothing
pub nothing : {D A : Type 0} (write : D → List Token → List Token) (tree : D → A) (d : D) (a : A) (ts : List Token) (x : A × List Token)
    → Some (a, ts) ≡ Some x → write d ts ≡ ts → tree d ≡ a → Wrote write tree ts x
nothing write tree d a ts x h w e = let same_pair = same _ _ h in (d, subst (λ (p : _ × List Token). write d p.1 ≡ ts) same_pair w, e ∙ ap (λ p. p.0) same_pair)

-- one case around another: its tokens in front, and its node around the tree
pub around : {D E A B : Type 0} (write : D → List Token → List Token) (tree : D → A) (write' : E → List Token → List Token) (tree' : E → B) (wrap : D → E) (node : A → B)
    (ts inner : List Token) (a : A) (mid rest : List Token) (x : B × List Token)
    → Wrote write tree inner (a, mid) → Some (node a, rest) ≡ Some x
    → ((d : D) → write d mid ≡ inner → write' (wrap d) rest ≡ ts) → ((d : D) → tree' (wrap d) ≡ node (tree d))
    → Wrote write' tree' ts x
around write tree write' tree' wrap node ts inner a mid rest x (d, e, t) h w n =
    let same_pair = same _ _ h in
    (wrap d, subst (λ (p : _ × List Token). write' (wrap d) p.1 ≡ ts) same_pair (w d e), n d ∙ (ap node t ∙ ap (λ p. p.0) same_pair))

names_glued : (found : List Text) (ts : List Token) (w : Text) (mid : List Token) (x : List Text × List Token) → sees m.Dot ts ≡ true
    → (n : Name) × (name_token n ∷ mid ≡ drop 1 ts) × (name_text n ≡ w)
    → (ns : List Name) × (write_names ns x.1 ≡ mid) × ((found ++ w ∷ []) ++ map name_text ns ≡ x.0)
    → (ns : List Name) × (write_names ns x.1 ≡ ts) × (found ++ map name_text ns ≡ x.0)
names_glued found ts w mid x b (n, en, tn) (ns, es, tns) =
    (n ∷ ns, rw (es, en) (sees_is m.Dot ts b), rw tn (sym (append_assoc found (w ∷ []) (map name_text ns)) ∙ tns))

pub names_sound : (n : ℕ) (found : List Text) (ts : List Token) (x : List Text × List Token) → names_at n found ts ≡ Some x
    → (ns : List Name) × (write_names ns x.1 ≡ ts) × (found ++ map name_text ns ≡ x.0)
unfolding names_at
names_sound zero found ts x h = let e = same _ _ h in ([], ap (λ p. p.1) (sym e), append-nil found ∙ ap (λ p. p.0) e)
names_sound (suc n) found ts x h = choice (sees m.Dot ts) _ _ _ h
    (λ b h1. step (name_at (drop 1 ts)) _ _ h1 (λ r er hr.
    names_glued found ts r.0 r.1 x b (name_sound (drop 1 ts) r er) (names_sound n (found ++ r.0 ∷ []) r.1 x hr)))
    (λ b h1. let e = same _ _ h1 in ([], ap (λ p. p.1) (sym e), append-nil found ∙ ap (λ p. p.0) e))

path_glued : (ts : List Token) (a : Text × List Token) (r : List Text × List Token) (x : Path × List Token)
    → t.Word a.0 ∷ a.1 ≡ ts → (ns : List Name) × (write_names ns r.1 ≡ a.1) × ([] ++ map name_text ns ≡ r.0)
    → Some (record { variable = a.0; names = r.0 }, r.1) ≡ Some x → Wrote write_path path_tree ts x
path_glued ts a r x e (ns, en, tn) h = let same_pair = same _ _ h in (
  record { variable = a.0; names = ns },
  subst (λ (p : Path × List Token). write_path (record { variable = a.0; names = ns }) p.1 ≡ ts) same_pair (rw en e),
  rw tn (ap (λ p. p.0) same_pair),
)

pub path_sound : (ts : List Token) (x : Path × List Token) → path_at ts ≡ Some x → Wrote write_path path_tree ts x
unfolding path_at
path_sound ts x h = step (variable_at ts) _ _ h (λ a ea ha. step (names_at (length a.1) [] a.1) _ _ ha (λ r er hr.
    path_glued ts a r x (variable_sound ts a ea) (names_sound (length a.1) [] a.1 r er) hr))

-- one, and others after commas
abbrev pub write_list : {D : Type 0} → (D → List Token → List Token) → D × List D → List Token → List Token
write_list write p rest = write p.0 (write_others write p.1 rest)

abbrev pub list_trees : {D A : Type 0} → (D → A) → D × List D → List A
list_trees tree p = tree p.0 ∷ map tree p.1

module _ {A D : Type 0} (one : Read A) (write : D → List Token → List Token) (tree : D → A)
    (sound : (ts : List Token) (x : A × List Token) → one ts ≡ Some x → Wrote write tree ts x) where
  others_glued : (found : List A) (a : A) (ts mid : List Token) (x : List A × List Token) → sees m.Comma ts ≡ true
      → Wrote write tree (drop 1 ts) (a, mid) → Wrote (write_others write) (λ ds. (found ++ a ∷ []) ++ map tree ds) mid x → Wrote (write_others write) (λ ds. found ++ map tree ds) ts x
  others_glued found a ts mid x b (u, eu, tu) (us, es, tus) =
      (u ∷ us, rw (es, eu) (sees_is m.Comma ts b), rw tu (sym (append_assoc found (a ∷ []) (map tree us)) ∙ tus))

  others_sound : (n : ℕ) (found : List A) (ts : List Token) (x : List A × List Token) → others_at one n found ts ≡ Some x
      → Wrote (write_others write) (λ ds. found ++ map tree ds) ts x
  unfolding others_at
  others_sound zero found ts x h = nothing (write_others write) (λ ds. found ++ map tree ds) [] found ts x h refl (append-nil found)
  others_sound (suc n) found ts x h = choice (sees m.Comma ts) _ _ _ h
      (λ b h1. step (one (drop 1 ts)) _ _ h1 (λ a ea ha. others_glued found a.0 ts a.1 x b (sound (drop 1 ts) a ea) (others_sound n (found ++ a.0 ∷ []) a.1 x ha)))
      (λ b h1. nothing (write_others write) (λ ds. found ++ map tree ds) [] found ts x h1 refl (append-nil found))

  list_glued : (a : A) (ts mid : List Token) (x : List A × List Token)
      → Wrote write tree ts (a, mid) → Wrote (write_others write) (λ ds. (a ∷ []) ++ map tree ds) mid x → Wrote (write_list write) (list_trees tree) ts x
  list_glued a ts mid x (u, eu, tu) (us, es, tus) = ((u, us), rw es eu, rw tu tus)

  pub list_sound : (ts : List Token) (x : List A × List Token) → list_at one ts ≡ Some x → Wrote (write_list write) (list_trees tree) ts x
  unfolding list_at
  list_sound ts x h = step (one ts) _ _ h (λ a ea ha. list_glued a.0 ts a.1 x (sound ts a ea) (others_sound (length a.1) (a.0 ∷ []) a.1 x ha))

abbrev pub write_closed : {D : Type 0} → (D → List Token → List Token) → D → List Token → List Token
write_closed write d rest = write d (t.Mark m.Close ∷ rest)

closed_glued : {D A : Type 0} (write : D → List Token → List Token) (tree : D → A) (ts : List Token) (a : A × List Token) (rest : List Token) (x : A × List Token)
    → Wrote write tree ts a → t.Mark m.Close ∷ rest ≡ a.1 → Some (a.0, rest) ≡ Some x → Wrote (write_closed write) tree ts x
closed_glued write tree ts a rest x (d, e, t) c h = let same_pair = same _ _ h in
    (d, subst (λ (p : _ × List Token). write_closed write d p.1 ≡ ts) same_pair (rw c e), t ∙ ap (λ p. p.0) same_pair)

pub closed_sound : {D A : Type 0} (write : D → List Token → List Token) (tree : D → A) (ts : List Token) (read : Option (A × List Token))
    → ((a : A × List Token) → read ≡ Some a → Wrote write tree ts a) → (x : A × List Token) → closed read ≡ Some x → Wrote (write_closed write) tree ts x
unfolding closed
closed_sound write tree ts read sound x h = step read _ _ h (λ a ea ha. step (after m.Close a.1) _ _ ha (λ rest er hr.
    closed_glued write tree ts a rest x (sound a ea) (after_is m.Close a.1 rest er) hr))

-- ---- more values

pub more_of : List Value° → More°
more_of [] = no_more
more_of (d ∷ ds) = more d (more_of ds)

pub more_of_written : (ds : List Value°) (rest : List Token) → write_more (more_of ds) rest ≡ write_others write_value ds rest
unfolding more_of
more_of_written [] rest = refl
more_of_written (d ∷ ds) rest = ap (λ ts. t.Mark m.Comma ∷ write_value d ts) (more_of_written ds rest)

pub more_of_treed : (ds : List Value°) → more_trees (more_of ds) ≡ map value_tree ds
unfolding more_of
more_of_treed [] = refl
more_of_treed (d ∷ ds) = ap (λ vs. value_tree d ∷ vs) (more_of_treed ds)

pub leaf : {D A : Type 0} (write : D → List Token → List Token) (tree : D → A) (d : D) (a : A) (rest ts : List Token) (x : A × List Token)
    → Some (a, rest) ≡ Some x → write d rest ≡ ts → tree d ≡ a → Wrote write tree ts x
leaf write tree d a rest ts x h w e = let same_pair = same _ _ h in (d, subst (λ (p : _ × List Token). write d p.1 ≡ ts) same_pair w, e ∙ ap (λ p. p.0) same_pair)
