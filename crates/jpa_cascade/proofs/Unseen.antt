-- One node more: in the set of those seen, and in the list of them.
use Rattle.std.proofs.Common.{◌≡◌, ◌∙◌, ℕ, suc, ◌<◌, ◌+◌, Bool, true, false, cond, List, [], ◌∷◌, ◌++◌, length, drop, get_or, refl, ap, sym, subst, append_assoc, arith}
use Rattle.std.specs.Prelude.{not, ◌||◌, ◌==◌}
use Rattle.std.specs.List.{list_any}
use Rattle.std.specs.BTreeSet.{contains, BTreeSet}
use Rattle.std.specs.Cmp.{Equal-is, eq_by_cmp_equiv, nat_cmp_total}
use Rattle.std.specs.FinMap.{nat_cmp-IsAntisymmetric}
use Rattle.std.specs.Ordering.{nat_cmp, is_eq, eq_by_cmp}
use Rattle.std.proofs.Math.Seq.{drop-cons}
use Rattle.std.proofs.lemmas.Bool.{eqb-true, eq-eqb}
use Rattle.std.proofs.lemmas.Bool.Decides.{same_from_decides}
use Rattle.std.proofs.lemmas.List.Folds.{list_any-append}
use Rattle.jpa_cascade.specs.declared.Node.{Node}
use Rattle.jpa_cascade.specs.Order.{node_cmp, AreSeen}
use Rattle.jpa_cascade.specs.Waves.{same_node, unseen}
use Rattle.jpa_cascade.proofs.Reaching.{same_decides, same_laws}

node_eq : (a b : Node) → eq_by_cmp node_cmp a b ≡ same_node a b
node_eq (Node.Live a) (Node.Live b) =
    sym (same_from_decides (a == b) (is_eq (nat_cmp a b)) (eqb-true a b, eq-eqb a b)
    (λ h. nat_cmp-IsAntisymmetric a b ((Equal-is (nat_cmp a b)).0 h), λ e. subst (λ u. is_eq (nat_cmp a u) ≡ true) e ((eq_by_cmp_equiv nat_cmp_total).refl a)))
node_eq (Node.Live a) (Node.Bare y) = refl
node_eq (Node.Bare x) (Node.Live b) = refl
node_eq (Node.Bare x) (Node.Bare y) = refl

-- ---- in the set

module _ (nodes : List Node) (old new : BTreeSet Node) (x : Node) (agree : AreSeen nodes old) (updated : (q : Node) → contains node_cmp new q ≡ cond (eq_by_cmp node_cmp x q) true (contains node_cmp old q)) where
  added : (q : Node) → contains node_cmp new q ≡ cond (same_node q x) true (list_any (same_node q) nodes)
  added q = updated q ∙ (λ i. cond ((node_eq x q ∙ same_laws.symm x q) i) true (agree q i))

  at_end : (b c : Bool) → cond b true c ≡ (c || (b || false))
  at_end true true = refl
  at_end true false = refl
  at_end false true = refl
  at_end false false = refl

  pub agree_more : AreSeen (nodes ++ x ∷ []) new
  agree_more q = added q ∙ at_end (same_node q x) (list_any (same_node q) nodes) ∙ sym (list_any-append (same_node q) nodes (x ∷ []))

  pub agree_still : list_any (same_node x) nodes ≡ true → AreSeen nodes new
  agree_still known q = added q ∙ by (same_node q x) refl
    where
      by : (b : Bool) → same_node q x ≡ b → cond b true (list_any (same_node q) nodes) ≡ list_any (same_node q) nodes
      by true same = sym (ap (λ y. list_any (same_node y) nodes) ((same_decides q x).0 same) ∙ known)
      by false apart = refl

-- ---- in the list

module _ (nodes found : List Node) (i : ℕ) (x : Node) (within : i < length found) (is : x ≡ get_or found i x) where
  rest_is : drop i found ≡ x ∷ drop (i + 1) found
  rest_is = drop-cons found i x within ∙ (λ k. sym is k ∷ drop (next k) found)
    where
      next : suc i ≡ i + 1
      next = omega arith

  pub known_passed : list_any (same_node x) nodes ≡ true → nodes ++ unseen nodes (drop (i + 1) found) ≡ nodes ++ unseen nodes (drop i found)
  known_passed known = sym (ap (λ xs. nodes ++ unseen nodes xs) rest_is ∙ ap (λ b. nodes ++ cond b (unseen nodes (drop (i + 1) found)) (x ∷ unseen (nodes ++ x ∷ []) (drop (i + 1) found))) known)

  pub fresh_passed : list_any (same_node x) nodes ≡ false → (nodes ++ x ∷ []) ++ unseen (nodes ++ x ∷ []) (drop (i + 1) found) ≡ nodes ++ unseen nodes (drop i found)
  fresh_passed fresh =
      append_assoc nodes (x ∷ []) (unseen (nodes ++ x ∷ []) (drop (i + 1) found))
      ∙ sym (ap (λ xs. nodes ++ unseen nodes xs) rest_is ∙ ap (λ b. nodes ++ cond b (unseen nodes (drop (i + 1) found)) (x ∷ unseen (nodes ++ x ∷ []) (drop (i + 1) found))) fresh)

-- what an insertion told
pub not_new : (b : Bool) → false ≡ not b → b ≡ true
not_new true e = refl
not_new false e = absurd cc

pub is_new : (b : Bool) → true ≡ not b → b ≡ false
is_new true e = absurd cc
is_new false e = refl
