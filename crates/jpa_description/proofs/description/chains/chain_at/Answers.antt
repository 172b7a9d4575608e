use Rattle.std.proofs.Common.{◌<◌, length, ◌∙◌, arith, rules}
use Rattle.jpa_model.proofs.Chained.{chain_indexed, length_chained}
use Rattle.jpa_description.proofs.description.chains.chain_at.Goals as goal

pub bounds-chains-class : goal.bounds-chains-class
bounds-chains-class c = omega (arith, length_chained c.args.draft.now c.args.chains.now c.requires.chained)

pub offset_bounds-chains-class : goal.offset_bounds-chains-class
offset_bounds-chains-class c =
    let within : c.args.class < length c.args.chains.now = omega (arith, length_chained c.args.draft.now c.args.chains.now c.requires.chained) in
    search rules

pub returns : goal.returns
returns c =
    let within : c.args.class < length c.args.chains.now = omega (arith, length_chained c.args.draft.now c.args.chains.now c.requires.chained) in
    c.as_slice.ensures ∙ chain_indexed c.args.draft.now c.args.chains.now c.args.class c.index-chains-class.result c.requires.chained within c.index-chains-class.is
