use Rattle.polygon_laws.proofs.AreaLemmas.{area_of_turn}
use Rattle.polygon_laws.proofs.turns_keep_the_area.Goals as goal

pub returns : goal.returns
returns c = area_of_turn
