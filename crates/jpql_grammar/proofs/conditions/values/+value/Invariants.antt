use Rattle.std.proofs.Common.{◌≡◌, [], ◌∷◌, length, ◌-◌, ◌+◌, ◌*◌}
use Rattle.jpql_grammar.specs.grammar.Values.{times_at, sums_at, others_at, when_ands_at, when_ors_at, branches_at, value_at, when_at}
use Rattle.jpql_grammar.proofs.conditions.values.+value.Given as goal

abbrev pub decreases-value : goal.decreases-value
decreases-value l = l.depth * 30

abbrev pub decreases-when : goal.decreases-when
decreases-when l = l.depth * 30

abbrev pub decreases-nested : goal.decreases-nested
decreases-nested l = l.depth * 30 + 1

abbrev pub decreases-others : goal.decreases-others
decreases-others l = l.depth * 30 + 1

abbrev pub decreases-value_list : goal.decreases-value_list
decreases-value_list l = l.depth * 30 + 2

abbrev pub decreases-trim : goal.decreases-trim
decreases-trim l = l.depth * 30 + 2

abbrev pub decreases-compared : goal.decreases-compared
decreases-compared l = l.depth * 30 + 1

abbrev pub decreases-between : goal.decreases-between
decreases-between l = l.depth * 30 + 1

abbrev pub decreases-like : goal.decreases-like
decreases-like l = l.depth * 30 + 1

abbrev pub decreases-among : goal.decreases-among
decreases-among l = l.depth * 30 + 3

abbrev pub decreases-worded : goal.decreases-worded
decreases-worded l = l.depth * 30 + 4

abbrev pub decreases-tested : goal.decreases-tested
decreases-tested l = l.depth * 30 + 5

abbrev pub decreases-when_test : goal.decreases-when_test
decreases-when_test l = l.depth * 30 + 6

abbrev pub decreases-when_not : goal.decreases-when_not
decreases-when_not l = l.depth * 30 + 7

abbrev pub decreases-when_ands : goal.decreases-when_ands
decreases-when_ands l = l.depth * 30 + 8

abbrev pub decreases-when_and : goal.decreases-when_and
decreases-when_and l = l.depth * 30 + 9

abbrev pub decreases-when_ors : goal.decreases-when_ors
decreases-when_ors l = l.depth * 30 + 10

abbrev pub decreases-when_level : goal.decreases-when_level
decreases-when_level l = l.depth * 30 + 11

abbrev pub decreases-otherwise : goal.decreases-otherwise
decreases-otherwise l = l.depth * 30 + 1

abbrev pub decreases-branches : goal.decreases-branches
decreases-branches l = l.depth * 30 + 12

abbrev pub decreases-value_branches : goal.decreases-value_branches
decreases-value_branches l = l.depth * 30 + 12

abbrev pub decreases-matched : goal.decreases-matched
decreases-matched l = l.depth * 30 + 13

abbrev pub decreases-case : goal.decreases-case
decreases-case l = l.depth * 30 + 14

abbrev pub decreases-call : goal.decreases-call
decreases-call l = l.depth * 30 + 15

abbrev pub decreases-atom : goal.decreases-atom
decreases-atom l = l.depth * 30 + 16

abbrev pub decreases-unary : goal.decreases-unary
decreases-unary l = l.depth * 30 + 17

abbrev pub decreases-times : goal.decreases-times
decreases-times l = l.depth * 30 + 18

abbrev pub decreases-product : goal.decreases-product
decreases-product l = l.depth * 30 + 19

abbrev pub decreases-sums : goal.decreases-sums
decreases-sums l = l.depth * 30 + 20

abbrev pub decreases-level : goal.decreases-level
decreases-level l = l.depth * 30 + 21

abbrev pub invariant-times-loop-turn : goal.invariant-times-loop-turn
invariant-times-loop-turn l = times_at (value_at l.fn.depth) (when_at l.fn.depth) (length l.fn.tokens) l.fn.first l.fn.tokens ≡ times_at (value_at l.depth) (when_at l.depth) (l._turn-end - l._turn) l.found l.rest

abbrev pub invariant-sums-loop-turn : goal.invariant-sums-loop-turn
invariant-sums-loop-turn l = sums_at (value_at l.fn.depth) (when_at l.fn.depth) (length l.fn.tokens) l.fn.first l.fn.tokens ≡ sums_at (value_at l.depth) (when_at l.depth) (l._turn-end - l._turn) l.found l.rest

abbrev pub invariant-others-loop-turn : goal.invariant-others-loop-turn
invariant-others-loop-turn l = others_at (value_at l.fn.depth) (length l.fn.tokens) (l.fn.first ∷ []) l.fn.tokens ≡ others_at (value_at l.depth) (l._turn-end - l._turn) l.found l.rest

abbrev pub invariant-when_ands-loop-turn : goal.invariant-when_ands-loop-turn
invariant-when_ands-loop-turn l = when_ands_at (value_at l.fn.depth) (when_at l.fn.depth) (length l.fn.tokens) l.fn.first l.fn.tokens ≡ when_ands_at (value_at l.depth) (when_at l.depth) (l._turn-end - l._turn) l.found l.rest

abbrev pub invariant-when_ors-loop-turn : goal.invariant-when_ors-loop-turn
invariant-when_ors-loop-turn l = when_ors_at (value_at l.fn.depth) (when_at l.fn.depth) (length l.fn.tokens) l.fn.first l.fn.tokens ≡ when_ors_at (value_at l.depth) (when_at l.depth) (l._turn-end - l._turn) l.found l.rest

abbrev pub invariant-branches-loop-turn : goal.invariant-branches-loop-turn
invariant-branches-loop-turn l = branches_at (value_at l.fn.depth) (when_at l.fn.depth) (length l.fn.tokens) l.fn.first l.fn.tokens ≡ branches_at (value_at l.depth) (when_at l.depth) (l._turn-end - l._turn) l.found l.rest

abbrev pub invariant-value_branches-loop-turn : goal.invariant-value_branches-loop-turn
invariant-value_branches-loop-turn l = branches_at (value_at l.fn.depth) (value_at l.fn.depth) (length l.fn.tokens) l.fn.first l.fn.tokens ≡ branches_at (value_at l.depth) (value_at l.depth) (l._turn-end - l._turn) l.found l.rest
