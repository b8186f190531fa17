use Rattle.std.proofs.Common.{◌≡◌, ℕ, Option, None, Some}
use Rattle.std.specs.Prelude.{OnSome}
use Rattle.arena_core.specs.Invalidation.{value_within}
use Rattle.arena_traits.specs.Arena.{Arena}
use Rattle.chain_laws.specs.Removals.{with_removal}
use Rattle.chain_links.specs.ChainArena.{LinkView, link_map}
use Rattle.chain_arena.specs.Effects.{IsRemoval}
use Rattle.chain_arena_examples.proofs.named_type.remove_value.Goals as goal

removes_links : {Gen T R : Type 0} (following : Gen → Gen) (old new : Arena Gen (LinkView T)) (i : ℕ) (o : Option R) → OnSome o (IsRemoval following old i new) → OnSome o (link_map new ≡ with_removal (link_map old) i)
removes_links following old new i None is = tt
removes_links following old new i (Some t) is = is.removed.links

pub returns-clause-links : goal.returns-clause-links
returns-clause-links c = removes_links _ c.args.arena.now c.remove.new.self _ (value_within c.remove.result) c.remove.ensures.implementation
