use Rattle.arena_base.proofs.arena_trait.ArenaArenaTrait.get_mut.Goals as goal

pub contains-requires : goal.contains-requires
contains-requires g c κs = λ outlives. outlives

pub get_inx_mut-requires : goal.get_inx_mut-requires
get_inx_mut-requires g c κs = λ outlives. outlives
