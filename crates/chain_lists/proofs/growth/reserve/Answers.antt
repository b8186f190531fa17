use Rattle.chain_lists.proofs.growth.reserve.Goals as goal

pub len-requires : goal.len-requires
len-requires g c κs = λ outlives. outlives

pub capacity-requires : goal.capacity-requires
capacity-requires g c κs = λ outlives. outlives

pub reallocate_min_capacity-requires : goal.reallocate_min_capacity-requires
reallocate_min_capacity-requires g c κs = λ outlives. outlives

pub max_capacity-requires : goal.max_capacity-requires
max_capacity-requires g c κs = λ outlives. outlives
