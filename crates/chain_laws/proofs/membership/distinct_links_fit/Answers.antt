use Rattle.chain_laws.proofs.WalkLemmas.WalkBack.{length_among}
use Rattle.chain_laws.proofs.membership.distinct_links_fit.Goals as goal

pub returns : goal.returns
returns c = λ link_map all xs has once links. length_among xs all once (λ i among. has i (links i among))
