use Rattle.arena_base.proofs.arena.Arena.take_from.Goals as goal

pub next_from-requires : goal.next_from-requires
next_from-requires g c κs = λ outlives. outlives

pub take_at-requires : goal.take_at-requires
take_at-requires g c κs = λ outlives. outlives
