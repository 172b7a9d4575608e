-- A command without subcommands has at most one fault in any words.
use Rattle.std.proofs.Common.{◌≡◌, inl, inr, ℕ, Bool, cond, true, false, zero, suc, refl, ap, sym, subst, List, [], ◌∷◌, Option, Some, None, length, drop, map, is_some}
use Rattle.std.specs.Prelude.{◌+◌, ◌==◌, ◌&&◌, nat_lt, encode_utf8, slice_get, min}
use Rattle.clap.specs.ValueTests.{accepts}
use Rattle.clap.specs.Values.{refused_kind}
use Rattle.std.specs.Option.{option_map_or}
use Rattle.std.specs.Str.{chars}
use Rattle.clap.specs.Matches.{count_text}
use Rattle.clap.specs.Facts.{parser_of_value, unwrap_or_range}
use Rattle.clap.specs.Lexer.{long_of, short_of}
use Rattle.clap.specs.Walk.{Held, Row, Rule, Step, Text, Waiting, Walk, idle, option, positional, next, trailing, subcommand, value, action_of, arg_by_id, arg_by_index, arg_by_long, arg_by_short, attached_value, count_of, most_values, nothing_held, reacted, settled, subcommand_met, takes_values, values_or_missing, walk, walk_from, walked, with_default, word_met}
use Rattle.clap.specs.Simple.{App, Shape, argument_words, built, entered, label_of, names_of}
use Rattle.clap.specs.Kinds.{IsAmong, Kinds, check_kinds, or_else, range_kinds, request_kinds, value_kinds, values_kinds}
use Rattle.clap.specs.Faults.{action_fault, bundle_step_fault, count_fault, default_fault, defaults_fault, entered_fault, built_fault, fault_of, flag_word_fault, flags_fault, level_fault, long_fault, option_fault, other_fault, positional_fault, react_fault, repeat_fault, set_fault, settle_fault, short_fault, step_fault, stray_fault, turn_fault, use_fault, values_fault, walk_fault, word_fault}
use Rattle.clap.specs.declared.builder.action.ArgAction.{ArgAction}
use Rattle.clap.specs.declared.builder.action.ArgAction.TheVariants as action
use Rattle.clap.specs.declared.builder.value_parser.ValueParser.{ValueParser}
use Rattle.clap.specs.declared.error.kind.ErrorKind.{ErrorKind}
use Rattle.clap.specs.declared.error.kind.ErrorKind.TheVariants.{InvalidValue, TooFewValues, TooManyValues, WrongNumberOfValues}

-- the list has at most one kind
pub record IsFew (kinds : Kinds) : Type 0 where
  pub no_second : drop 1 kinds ≡ []

none : IsFew []
none = record { no_second = refl }

one : (kind : ErrorKind) → IsFew (kind ∷ [])
one kind = record { no_second = refl }

-- what is among few is the one
the_one : (kind : ErrorKind) (kinds : Kinds) → IsFew kinds → IsAmong kind kinds → kinds ≡ kind ∷ []
the_one kind [] few among = absurd among
the_one kind (first ∷ []) few (inl same) = ap (λ k. k ∷ []) (sym same)
the_one kind (first ∷ []) few (inr never) = absurd never
the_one kind (first ∷ second ∷ kinds) few among = let never = few.no_second in cc

few_or : (a b : Kinds) → IsFew a → IsFew b → IsFew (or_else a b)
few_or [] b few rest = rest
few_or (kind ∷ kinds) b few rest = few

few_if : (test : Bool) (a b : Kinds) → IsFew a → IsFew b → IsFew (cond test a b)
few_if true a b few rest = few
few_if false a b few rest = rest

few_option : {A : Type 0} (f : A → Kinds) (found : Option A) → ((a : A) → IsFew (f a)) → IsFew (option_map_or f found [])
few_option f None few = none
few_option f (Some a) few = few a

-- ---- one use of an argument

few_value : (ignores : Bool) (parser : ValueParser) (text : Text) → IsFew (value_kinds ignores parser text)
few_value ignores parser text = few_if (accepts ignores parser text) [] (refused_kind parser ∷ []) none (one (refused_kind parser))

few_values : (ignores : Bool) (parser : ValueParser) (texts : List Text) → IsFew (values_kinds ignores parser texts)
few_values ignores parser [] = none
few_values ignores parser (text ∷ texts) = few_or (value_kinds ignores parser text) (values_kinds ignores parser texts) (few_value ignores parser text) (few_values ignores parser texts)

few_range : (least most n : ℕ) → IsFew (range_kinds least most n)
few_range least most n =
    few_if (nat_lt 0 least && n == 0) (InvalidValue ∷ []) _ (one InvalidValue)
    (few_if (least == most) _ _ (few_if (least == n) [] (WrongNumberOfValues ∷ []) none (one WrongNumberOfValues))
    (few_if (nat_lt n least) (TooFewValues ∷ []) _ (one TooFewValues) (few_if (nat_lt most n) (TooManyValues ∷ []) [] (one TooManyValues) none)))

few_count : (a : Rule) (texts : List Text) (rows : List Row) → IsFew (count_fault a texts rows)
few_count a [] rows = few_value a.ignore_case (parser_of_value a.parser) (count_text (min (count_of a.id rows + 1) 255))
few_count a (text ∷ texts) rows = few_values a.ignore_case (parser_of_value a.parser) (text ∷ texts)

few_repeat : (again : Bool) (id : Text) (rows : List Row) → IsFew (repeat_fault again id rows)
few_repeat again id rows = few_if _ (_ ∷ []) [] (one _) none

few_set : (again : Bool) (a : Rule) (texts : List Text) (rows : List Row) → IsFew (set_fault again a texts rows)
few_set again a texts rows = few_or (repeat_fault again a.id rows) (values_fault a texts) (few_repeat again a.id rows) (few_values a.ignore_case (parser_of_value a.parser) texts)

few_action : (x : ArgAction) (again : Bool) (a : Rule) (texts : List Text) (rows : List Row) → IsFew (action_fault x again a texts rows)
few_action action.Set again a texts rows = few_set again a texts rows
few_action action.SetTrue again a texts rows = few_set again a texts rows
few_action action.SetFalse again a texts rows = few_set again a texts rows
few_action action.Append again a texts rows = few_values a.ignore_case (parser_of_value a.parser) texts
few_action action.Count again a texts rows = few_count a texts rows
few_action action.Help again a texts rows = one _
few_action action.HelpShort again a texts rows = one _
few_action action.HelpLong again a texts rows = one _
few_action action.Version again a texts rows = one _

few_use : (again : Bool) (a : Rule) (texts : List Text) (rows : List Row) → IsFew (use_fault again a texts rows)
few_use again a texts rows = few_or (range_kinds (unwrap_or_range a.range).start_inclusive (most_values a) (length texts)) _
    (few_range (unwrap_or_range a.range).start_inclusive (most_values a) (length texts))
    (few_action (action_of a) again a (values_or_missing a texts) rows)

-- ---- the walk

few_settle : (c : List Rule) (again : Bool) (h : Held) → IsFew (settle_fault c again h)
few_settle c again h = few_option _ h.pending (λ p. few_option _ (arg_by_id c p.0) (λ a. few_use again a p.1 h.rows))

few_react : (c : List Rule) (again : Bool) (a : Rule) (texts : List Text) (h : Held) → IsFew (react_fault c again a texts h)
few_react c again a texts h = few_or (settle_fault c again h) (use_fault again a texts (settled c h).rows) (few_settle c again h) (few_use again a texts (settled c h).rows)

few_an_option : (c : List Rule) (again : Bool) (a : Rule) (text : Option Text) (h : Held) → IsFew (option_fault c again a text h)
few_an_option c again a (Some text) h = few_react c again a (text ∷ []) h
few_an_option c again a None h = few_settle c again h

few_long : (c : List Rule) (again : Bool) (a : Option Rule) (text : Option Text) (h : Held) → IsFew (long_fault c again a text h)
few_long c again None text h = one _
few_long c again (Some a) text h = few_if (takes_values a) (option_fault c again a text h) _ (few_an_option c again a text h) (few_if _ (_ ∷ []) (react_fault c again a [] h) (one _) (few_react c again a [] h))

few_short : (c : List Rule) (again : Bool) (a : Option Rule) (rest : Text) (h : Held) (after : Held → Kinds) → ((k : Held) → IsFew (after k)) → IsFew (short_fault c again a rest h after)
few_short c again None rest h after few = one _
few_short c again (Some a) rest h after few = few_if (takes_values a) (option_fault c again a (attached_value rest) h) _ (few_an_option c again a (attached_value rest) h)
    (few_or (react_fault c again a [] h) (after (reacted c a [] h)) (few_react c again a [] h) (few (reacted c a [] h)))

few_bundle_step : (c : List Rule) (again : Bool) (x : Option ℕ) (flags : Text) (skip : ℕ) (h : Held) (after : Text → ℕ → Held → Kinds)
    → ((text : Text) (n : ℕ) (k : Held) → IsFew (after text n k)) → IsFew (bundle_step_fault c again x flags skip h after)
few_bundle_step c again None flags skip h after few = none
few_bundle_step c again (Some x) flags zero h after few =
    let rest = drop (length (encode_utf8 x)) flags in
    few_short c again (arg_by_short c x) rest h (after rest 0) (few rest 0)
few_bundle_step c again (Some x) flags (suc skip) h after few = few (drop (length (encode_utf8 x)) flags) skip h

few_flags : (c : List Rule) (again : Bool) (k : ℕ) (flags : Text) (skip : ℕ) (h : Held) → IsFew (flags_fault c again k flags skip h)
unfolding flags_fault
few_flags c again zero flags skip h = none
few_flags c again (suc k) flags skip h = few_bundle_step c again (slice_get (chars flags) 0) flags skip h (flags_fault c again k) (few_flags c again k)

few_flag_word : (c : List Rule) (again : Bool) (long : Option (Text × Option Text)) (word : Text) (h : Held) → IsFew (flag_word_fault c again long word h)
few_flag_word c again (Some p) word h = few_long c again (arg_by_long c p.0) p.1 h
few_flag_word c again None word h = few_option _ (short_of word) (λ flags. few_flags c again (length flags) flags h.skip (record h { skip = 0 }))

-- without names a word calls no subcommand
none_met : (waiting : Waiting) (word : Text) → subcommand_met [] waiting word ≡ None
none_met idle word = refl
none_met (option id) word = refl
none_met positional word = refl

few_other : (s : Shape) (word : Text) (h : Held) → IsFew (other_fault s None word h)
few_other s word h = few_if _ [] (flag_word_fault s.rules s.args_override_self (long_of word) word h) none (few_flag_word s.rules s.args_override_self (long_of word) word h)

few_word : (s : Shape) (trails : Bool) (waiting : Waiting) (word : Text) (h : Held) → IsFew (word_fault s [] trails waiting word h)
few_word s trails waiting word h = few_if trails [] (other_fault s (subcommand_met [] waiting word) word h) none
    (subst (λ met. IsFew (other_fault s met word h)) (sym (none_met waiting word)) (few_other s word h))

few_leaf : (leaf : Bool) (a b : Kinds) → leaf ≡ true → IsFew a → IsFew (cond leaf a b)
few_leaf true a b is few = few
few_leaf false a b is few = cc

few_positional : (s : Shape) (found : Option Rule) (h : Held) → s.is_leaf ≡ true
    → IsFew (option_map_or (λ a. positional_fault s.rules s.args_override_self a h) found (stray_fault s))
few_positional s None h leaf = few_leaf s.is_leaf (_ ∷ []) _ leaf (one _)
few_positional s (Some a) h leaf = few_if _ [] (settle_fault s.rules s.args_override_self h) none (few_settle s.rules s.args_override_self h)

few_step : (s : Shape) (position : ℕ) (h : Held) (step : Step) → s.is_leaf ≡ true → IsFew (step_fault s position h step)
few_step s position h value leaf = few_positional s (arg_by_index s.rules position) h leaf
few_step s position h (next waiting) leaf = none
few_step s position h (trailing n) leaf = none
few_step s position h (subcommand name) leaf = none

few_turn : (s : Shape) (w : Walk) (word : Text) → s.is_leaf ≡ true → IsFew (turn_fault s [] w word)
few_turn s w word leaf =
    let met = word_met s.rules [] w.is_trailing w.waiting w.position word w.held in
    few_if _ [] _ none
    (few_or (word_fault s [] w.is_trailing w.waiting word w.held) (step_fault s w.position met.0 met.1)
    (few_word s w.is_trailing w.waiting word w.held)
    (few_step s w.position met.0 met.1 leaf))

few_walk : (s : Shape) (w : Walk) (words : List Text) → s.is_leaf ≡ true → IsFew (walk_fault s [] w words)
unfolding walk_fault
few_walk s w [] leaf = none
few_walk s w (word ∷ rest) leaf =
    few_or (turn_fault s [] w word) (walk_fault s [] (walked s.rules [] w word) rest) (few_turn s w word leaf) (few_walk s (walked s.rules [] w word) rest leaf)

-- ---- after the walk

few_request : (x : ArgAction) → IsFew (request_kinds x)
few_request action.Set = none
few_request action.SetTrue = none
few_request action.SetFalse = none
few_request action.Append = none
few_request action.Count = none
few_request action.Help = one _
few_request action.HelpShort = one _
few_request action.HelpLong = one _
few_request action.Version = one _

few_default : (rows : List Row) (a : Rule) → IsFew (default_fault rows a)
few_default rows a = few_if _ [] _ none
    (few_or (request_kinds (action_of a)) (values_fault a a.defaults) (few_request (action_of a)) (few_values a.ignore_case (parser_of_value a.parser) a.defaults))

few_defaults : (rows : List Row) (rules : List Rule) → IsFew (defaults_fault rows rules)
unfolding defaults_fault
few_defaults rows [] = none
few_defaults rows (a ∷ rest) = few_or (default_fault rows a) (defaults_fault (with_default rows a) rest) (few_default rows a) (few_defaults (with_default rows a) rest)

few_check : (help below argument : Bool) → IsFew (check_kinds help below argument)
few_check help below argument = few_if help (_ ∷ []) _ (one _) (few_if below (_ ∷ []) _ (one _) (few_if argument (_ ∷ []) [] (one _) none))

few_level : (s : Shape) (h : Held) (words : List Text) (has_subcommand : Bool) (below : Kinds) → s.is_leaf ≡ true → IsFew below → IsFew (level_fault s [] h words has_subcommand below)
few_level s h words has_subcommand below leaf few =
    let end = (walk s.rules [] h words).held in
    few_or (walk_fault s [] (walk_from h) words) _ (few_walk s (walk_from h) words leaf)
    (few_or below _ few
    (few_or (settle_fault s.rules s.args_override_self end) _ (few_settle s.rules s.args_override_self end)
    (few_or (defaults_fault (settled s.rules end).rows s.rules) _ (few_defaults (settled s.rules end).rows s.rules)
    (few_check _ _ _))))

few_entered : (a : App) (stop : Option (Text × List Text)) → a.subs ≡ [] → IsFew (entered_fault a stop)
few_entered a None empty = none
few_entered a (Some p) empty = rw empty none

few_built : (a : App) (words : List Text) → a.subs ≡ [] → a.top.is_leaf ≡ true → IsFew (built_fault a nothing_held words)
few_built a words empty leaf =
    let names : names_of a ≡ [] = ap (map label_of) empty in
    let stop = (walk a.top.rules (names_of a) nothing_held words).stopped in
    let few : IsFew (level_fault a.top [] nothing_held words (is_some (entered a stop)) (entered_fault a stop)) = few_level a.top nothing_held words _ _ leaf (few_entered a stop empty) in
    subst (λ n. IsFew (level_fault a.top n nothing_held words (is_some (entered a stop)) (entered_fault a stop))) (sym names) few

-- where a built command has no subcommand, what is among its faults is the one
pub one_fault : (a : App) (words : List Text) (kind : ErrorKind) → (built a).subs ≡ [] → (built a).top.is_leaf ≡ true → IsAmong kind (fault_of a words) → fault_of a words ≡ kind ∷ []
one_fault a words kind empty leaf among = the_one kind (fault_of a words) (few_built (built a) (argument_words a words) empty leaf) among
