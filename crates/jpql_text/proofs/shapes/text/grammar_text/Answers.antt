use Rattle.std.proofs.Common.{refl}
use Rattle.std.specs.Fmt.{digits}
use Rattle.serde_json.proofs.OnLiterals.{serde_json_on_literals}
use Rattle.jpql_text.proofs.shapes.Told.{of_language}
use Rattle.jpql_text.proofs.shapes.text.grammar_text.Goals as goal

pub returns-in-Profile : goal.returns-in-Profile
unfolding digits serde_json_on_literals
returns-in-Profile c = of_language _ c.args.language _ c.in-Profile.is refl

pub returns-in-Wide : goal.returns-in-Wide
unfolding digits serde_json_on_literals
returns-in-Wide c = of_language _ c.args.language _ c.in-Wide.is refl
