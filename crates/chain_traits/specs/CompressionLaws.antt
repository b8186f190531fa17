-- A second canonical compression moves no link.
use Rattle.std.specs.Prelude.{◌≡◌, Bool, map}
use Rattle.chain_laws.specs.Chains.{LinkMap}
use Rattle.arena_traits.specs.Entries.{ArenaView, index_of}
use Rattle.arena_traits.specs.Compressions.{values_in}
use Rattle.chain_links.specs.CanonicalLayouts.{IsCanonicalLayout}

-- Each link keeps its index, value and interlinks.
pub record MovesNothing {Gen T : Type 0} (old : ArenaView Gen T) (old_links : LinkMap) (new : ArenaView Gen T) (new_links : LinkMap) : Type 0 where
  pub indexes : map index_of new.entries ≡ map index_of old.entries
  pub values : values_in new.entries ≡ values_in old.entries
  pub links : new_links ≡ old_links

abbrev pub SecondCompressionMovesNothing : Type 0 → Type 0 → Type 0
SecondCompressionMovesNothing Gen T = (first : Gen) (following : Gen → Gen) (reset again : Bool)
    (old mid new : ArenaView Gen T) (old_links mid_links new_links : LinkMap)
    → IsCanonicalLayout first following reset old old_links mid mid_links
    → IsCanonicalLayout first following again mid mid_links new new_links
    → MovesNothing mid mid_links new new_links
