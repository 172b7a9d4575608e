use Rattle.jpa_questions.proofs.by_key.Alone.{laws_of_keys}
use Rattle.jpa_questions.proofs.by_key.laws.key_laws.Goals as goal

pub returns : goal.returns
returns c = laws_of_keys
