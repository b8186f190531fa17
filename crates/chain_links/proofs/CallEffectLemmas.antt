-- What follows from the outcomes of calls on an arena of links.
use Rattle.std.proofs.Common.{◌≡◌, ℕ, Option, sym, ap}
use Rattle.std.specs.Option.{option_map}
use Rattle.arena_core.specs.Invalidation.{value_within}
use Rattle.arena_core.specs.declared.invalidation.InvalidationResult.{InvalidationResult}
use Rattle.arena_core.specs.declared.invalidation.InvalidationResult.TheVariants.{Success, GenerationOverflow, InvalidPtr}
use Rattle.chain_laws.specs.Chains.{LinkMap}
use Rattle.arena_core.specs.PointerKinds.{PointerKind}
use Rattle.arena_core.specs.declared.packed_option.PackedOption.{PackedOption}
use Rattle.arena_traits.specs.Entries.{ArenaView, ArenaState}
use Rattle.chain_links.specs.CallEffects.{RemovesLinkAt}
use Rattle.chain_links.specs.ChainArena.{on_value, link_of, link_at}
use Rattle.chain_links.specs.Links.{link_view}
use Rattle.chain_links.specs.declared.links.RawLink.{RawLink}

module _ {A Gen T P I W : Type 0} {view : A → ArenaView Gen T} {entry : A → ℕ → Option (Gen × T)} (state : (a : A) → ArenaState (view a) (entry a)) (interlinks : A → LinkMap) (pointers : PointerKind P I Gen W) (old new : A) (i : I) where
  pub returned_at : (r : InvalidationResult (Gen × RawLink (PackedOption I W) T)) → RemovesLinkAt state interlinks pointers old i r new
      → option_map (on_value (link_view pointers.packed)) (value_within r) ≡ link_at (entry old) (interlinks old) (pointers.number i)
  returned_at InvalidPtr none = ap (λ (o : Option (Gen × T)). link_of o (interlinks old (pointers.number i))) (sym none)
  returned_at (Success e) taken = sym taken.1.0
  returned_at (GenerationOverflow e) taken = sym taken.1.0
