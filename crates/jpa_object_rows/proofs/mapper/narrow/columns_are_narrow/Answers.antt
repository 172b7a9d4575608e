use Rattle.jpa_object_rows.proofs.mapper.Columns.{version_narrow, attributes_narrow, links_narrow}
use Rattle.jpa_object_rows.proofs.mapper.narrow.columns_are_narrow.Goals as goal

pub returns-clause-version : goal.returns-clause-version
returns-clause-version c = version_narrow c.args.metamodel.now c.unit-unit.ensures.described c.args.class c.requires

pub returns-clause-attributes : goal.returns-clause-attributes
returns-clause-attributes c = attributes_narrow c.args.metamodel.now c.unit-unit.ensures.described c.args.class c.requires

pub returns-clause-links : goal.returns-clause-links
returns-clause-links c = links_narrow c.args.metamodel.now c.unit-unit.ensures.described c.args.class c.requires
