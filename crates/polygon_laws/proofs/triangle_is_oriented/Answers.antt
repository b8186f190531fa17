use Rattle.polygon_laws.proofs.AreaLemmas.{area_of_triangle}
use Rattle.polygon_laws.proofs.triangle_is_oriented.Goals as goal

pub returns : goal.returns
returns c = area_of_triangle
