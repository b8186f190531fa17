use Rattle.arena_base.proofs.iterators.IterIterator.next.Goals as goal

pub next_from-requires : goal.next_from-requires
next_from-requires g c κs = λ outlives. outlives
