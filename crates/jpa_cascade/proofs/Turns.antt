-- How waves go on, turn after turn, and that no turn too many changes them.
use Rattle.std.proofs.Common.{◌≡◌, ◌≢◌, ◌∙◌, ℕ, zero, suc, ◌+◌, ◌-◌, ◌<◌, ◌≤◌, List, [], ◌∷◌, ◌++◌, length, take, drop, get_or, refl, ap, sym, subst, ⊎_elim, append_assoc, length-append, arith}
use Rattle.std.specs.Prelude.{Contains}
use Rattle.std.specs.List.{AllPairs, flat_map}
use Rattle.std.proofs.lemmas.Bool.{cases_lt}
use Rattle.std.proofs.lemmas.Grind.{common_steps}
use Rattle.std.proofs.lemmas.List.{take-append-drop, take-append-le, drop-append-le, get_or_append_left, get_or-append-add}
use Rattle.std.proofs.lemmas.List.Elements.{Contains-append_right}
use Rattle.jpa_model.specs.declared.unit.PersistenceUnit.{PersistenceUnit}
use Rattle.jpa_work.specs.context.Work.{Work}
use Rattle.jpa_cascade.specs.declared.Node.{Node}
use Rattle.jpa_cascade.specs.declared.Operation.{Operation}
use Rattle.jpa_cascade.specs.Waves.{unseen, waves_by, targets, most_nodes, waves}
use Rattle.jpa_cascade.specs.Reached.{AreReached, HasTarget, HaveAllThatLeadOn}
use Rattle.jpa_cascade.proofs.Ended.{nothing_more, waves_ended}
use Rattle.jpa_cascade.proofs.Lists.{first_in}
use Rattle.jpa_cascade.proofs.Reaching.{waves_reach}
use Rattle.jpa_cascade.proofs.Cascades.{nodes_in, nodes_few, leads_there}

-- one wave on
wave_on : (next : Node → List Node) (k : ℕ) (before wave : List Node) →
    waves_by next (suc k) before wave ≡ waves_by next k (before ++ wave) (unseen (before ++ wave) (flat_map next wave))
wave_on next k before [] = sym (waves_ended next k (before ++ []) ∙ nothing_more before)
wave_on next k before (x ∷ xs) = refl

whole_taken : {X : Type 0} (xs ys : List X) → take (length xs) (xs ++ ys) ≡ xs
whole_taken xs ys = grind (arith, common_steps, take-append-le (length xs) xs ys)

whole_dropped : {X : Type 0} (xs ys : List X) → drop (length xs) (xs ++ ys) ≡ ys
whole_dropped xs ys = grind (arith, common_steps, drop-append-le (length xs) xs ys)

-- a turn of the loop: the list is longer by the next wave
pub turned : (next : Node → List Node) (k from to : ℕ) (nodes more : List Node) → to ≡ length nodes →
    more ≡ nodes ++ unseen nodes (flat_map next (drop from nodes)) →
    waves_by next (suc k) (take from nodes) (drop from nodes) ≡ waves_by next k (take to more) (drop to more)
turned next k from to nodes more here e =
    let fresh = unseen nodes (flat_map next (drop from nodes)) in
    let whole : take from nodes ++ drop from nodes ≡ nodes = take-append-drop from nodes in
    wave_on next k (take from nodes) (drop from nodes)
    ∙ ap (λ b. waves_by next k b (unseen b (flat_map next (drop from nodes)))) whole
    ∙ sym (ap (λ n. waves_by next k (take n more) (drop n more)) here
    ∙ ap (λ m. waves_by next k (take (length nodes) m) (drop (length nodes) m)) e
    ∙ ap (λ b. waves_by next k b (drop (length nodes) (nodes ++ fresh))) (whole_taken nodes fresh)
    ∙ ap (waves_by next k nodes) (whole_dropped nodes fresh))

-- ---- more turns add at the end

front : (next : Node → List Node) (k : ℕ) (before wave : List Node) → (more : List Node) × (waves_by next k before wave ≡ (before ++ wave) ++ more)
front next zero before wave = ([], sym (nothing_more (before ++ wave)))
front next (suc k) before [] = ([], sym (nothing_more (before ++ []) ∙ nothing_more before))
front next (suc k) before (x ∷ xs) =
    let so_far = before ++ x ∷ xs in
    let fresh = unseen so_far (flat_map next (x ∷ xs)) in
    let rest = front next k so_far fresh in
    (fresh ++ rest.0, rest.1 ∙ append_assoc so_far fresh rest.0)

longer : (next : Node → List Node) (few many : ℕ) → few ≤ many → (before wave : List Node) → (more : List Node) × (waves_by next many before wave ≡ waves_by next few before wave ++ more)
longer next zero many h before wave = front next many before wave
longer next (suc few) zero h before wave = absurd (omega (arith, h))
longer next (suc few) (suc many) h before [] = ([], sym (nothing_more before))
longer next (suc few) (suc many) h before (x ∷ xs) = longer next few many (omega (arith, h)) (before ++ x ∷ xs) (unseen (before ++ x ∷ xs) (flat_map next (x ∷ xs)))

-- and nothing where all that is added was there and none comes twice
no_more : (nodes more : List Node) → AllPairs (λ x y. x ≢ y) (nodes ++ more) → ((x : Node) → Contains more x → Contains nodes x) → more ≡ []
no_more nodes [] once back = refl
no_more nodes (y ∷ ys) once back =
    let at = back y (first_in y ys) in
    let all : List Node = nodes ++ y ∷ ys in
    let within : length nodes < length all = omega (arith, length-append nodes (y ∷ ys)) in
    let early : get_or all at.0 y ≡ y = get_or_append_left nodes (y ∷ ys) y at.0 at.1 ∙ at.2 in
    let place : length nodes + 0 ≡ length nodes = omega arith in
    let late : get_or all (length nodes) y ≡ y = ap (λ n. get_or all n y) (sym place) ∙ get_or-append-add nodes (y ∷ ys) 0 y in
    absurd (once at.0 (length nodes) y at.1 within (early ∙ sym late))

enough : (next : Node → List Node) (start : Node) (nodes : List Node) → HaveAllThatLeadOn next start nodes → (few many : ℕ) → length nodes ≤ few → few ≤ many →
    waves_by next many [] (start ∷ []) ≡ waves_by next few [] (start ∷ [])
enough next start nodes all few many bound h =
    let more = longer next few many h [] (start ∷ []) in
    let so_far : List Node = waves_by next few [] (start ∷ []) in
    let all_few : AreReached (HasTarget next) start so_far = waves_reach next start nodes few all bound in
    let all_many : AreReached (HasTarget next) start (so_far ++ more.0) = subst (AreReached (HasTarget next) start) more.1 (waves_reach next start nodes many all (omega (arith, bound, h))) in
    let none : more.0 ≡ [] = no_more so_far more.0 all_many.once (λ x k. (all_few.exact x).1 ((all_many.exact x).0 (Contains-append_right so_far more.0 x k))) in
    more.1 ∙ ap (λ ns. so_far ++ ns) none ∙ nothing_more so_far

-- ---- the end

pub ended : (m : PersistenceUnit) (op : Operation) (w : Work) (start turns from : ℕ) (nodes : List Node) → length nodes ≤ from →
    ((more : ℕ) → waves_by (targets m op w) (turns + more) [] (Node.Live start ∷ []) ≡ waves_by (targets m op w) more (take from nodes) (drop from nodes)) →
    nodes ≡ waves m op w start
ended m op w start turns from nodes past told =
    let next = targets m op w in
    let by : ℕ → List Node = λ k. waves_by next k [] (Node.Live start ∷ []) in
    let here : take from nodes ≡ nodes = grind (arith, common_steps, past) in
    let none : drop from nodes ≡ [] = grind (arith, common_steps, past) in
    let after : ((more : ℕ) → by (turns + more) ≡ nodes) = λ more. told more ∙ (λ i. waves_by next more (here i) (none i)) ∙ waves_ended next more nodes in
    ⊎_elim
    (λ (l : turns < most_nodes w). sym (after (most_nodes w - turns)) ∙ ap by (omega (arith, l)))
    (λ (l : most_nodes w ≤ turns). sym (after 0) ∙ ap by (omega arith)
    ∙ enough next (Node.Live start) (nodes_in w) (λ x y _ k. leads_there m op w x y k) (most_nodes w) turns (omega (arith, nodes_few w)) l)
    (cases_lt turns (most_nodes w))
