use Rattle.jpa_object_rows.proofs.mapper.Lawful.{reads_written, reads_one, stand_for_one}
use Rattle.jpa_object_rows.proofs.mapper.laws.mapper_laws.Goals as goal

pub returns-clause-read : goal.returns-clause-read
returns-clause-read c = reads_written

pub returns-clause-one : goal.returns-clause-one
returns-clause-one c = reads_one

pub returns-clause-cells : goal.returns-clause-cells
returns-clause-cells c = stand_for_one
