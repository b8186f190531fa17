use Rattle.std.specs.Prelude.{ℕ, Option, IfSome}
use Rattle.chain_laws.specs.Chains.{LinkMap, IsWellLinked, HasLink}

-- The interlinks agree, and the links ahead of a walker exist.
pub record IsOnLinks (link_map : LinkMap) (forward back : Option ℕ) : Type 0 where
  pub agrees : IsWellLinked link_map
  pub onward : IfSome forward (HasLink link_map)
  pub behind : IfSome back (HasLink link_map)

-- The same for a walker backwards.
pub record IsOnLinksBack (link_map : LinkMap) (start : ℕ) (at : Option ℕ) : Type 0 where
  pub agrees : IsWellLinked link_map
  pub began : HasLink link_map start
  pub onward : IfSome at (HasLink link_map)
