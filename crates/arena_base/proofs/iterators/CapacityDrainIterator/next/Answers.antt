use Rattle.arena_base.proofs.iterators.CapacityDrainIterator.next.Goals as goal

pub take_from-requires : goal.take_from-requires
take_from-requires g c κs = λ outlives. outlives
