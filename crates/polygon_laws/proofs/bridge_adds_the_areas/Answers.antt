use Rattle.polygon_laws.proofs.AreaLemmas.{area_of_bridged}
use Rattle.polygon_laws.proofs.bridge_adds_the_areas.Goals as goal

pub returns : goal.returns
returns c = area_of_bridged
