use Rattle.polygon_laws.proofs.AreaLemmas.{area_of_parts}
use Rattle.polygon_laws.proofs.diagonal_splits_the_area.Goals as goal

pub returns : goal.returns
returns c = area_of_parts
