use Rattle.arena_base.proofs.arena_trait.ArenaArenaTrait.remove.Goals as goal

pub contains-requires : goal.contains-requires
contains-requires g c κs = λ outlives. outlives

pub remove_inx-requires : goal.remove_inx-requires
remove_inx-requires g c κs = λ outlives. outlives
