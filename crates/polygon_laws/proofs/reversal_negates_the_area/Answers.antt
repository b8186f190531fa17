use Rattle.polygon_laws.proofs.AreaLemmas.{area_of_reverse}
use Rattle.polygon_laws.proofs.reversal_negates_the_area.Goals as goal

pub returns : goal.returns
returns c = area_of_reverse
