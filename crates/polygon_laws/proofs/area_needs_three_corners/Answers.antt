use Rattle.polygon_laws.proofs.AreaLemmas.{area_of_edges}
use Rattle.polygon_laws.proofs.area_needs_three_corners.Goals as goal

pub returns : goal.returns
returns c = area_of_edges
