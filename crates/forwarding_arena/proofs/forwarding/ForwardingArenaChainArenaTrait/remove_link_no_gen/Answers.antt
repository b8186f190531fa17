use Rattle.std.proofs.Common.{ℕ, Option}
use Rattle.arena_core.proofs.PointerKindLemmas.{kind_by}
use Rattle.arena_core.specs.PointerKinds.{PointerKind}
use Rattle.arena_core.specs.declared.invalidation.InvalidationResult.{InvalidationResult}
use Rattle.arena_core.specs.declared.invalidation.InvalidationResult.TheVariants.{Success, GenerationOverflow, InvalidPtr}
use Rattle.arena_core.specs.declared.packed_option.PackedOption.{PackedOption}
use Rattle.arena_traits.specs.Entries.{ArenaView, ArenaState}
use Rattle.chain_laws.specs.Chains.{LinkMap}
use Rattle.chain_links.specs.CallEffects.{RemovesLink, IsTaken}
use Rattle.chain_links.specs.declared.links.RawLink.{RawLink}
use Rattle.forwarding_arena.proofs.forwarding.ForwardingArenaChainArenaTrait.remove_link_no_gen.Goals as goal

module _ {A B Gen T P I W : Type 0} {view : A → ArenaView Gen T} {entry : A → ℕ → Option (Gen × T)} (state : (a : A) → ArenaState (view a) (entry a)) (interlinks : A → LinkMap) (pointers : PointerKind P I Gen W) (inner : B → A) (old new : B) where
  taken : (i : ℕ) (g : Gen) (link : RawLink (PackedOption I W) T) → IsTaken state interlinks pointers (inner old) i g link (inner new) → IsTaken (λ b. state (inner b)) (λ b. interlinks (inner b)) pointers old i g link new
  taken i g link is = (is.0, record { view_after = is.1.view_after; links = is.1.links; chains = is.1.chains })

  removes : (p : P) (r : InvalidationResult (RawLink (PackedOption I W) T)) → RemovesLink state interlinks pointers (inner old) p r (inner new)
      → RemovesLink (λ b. state (inner b)) (λ b. interlinks (inner b)) pointers old p r new
  removes p InvalidPtr is = is
  removes p (Success link) is = (is.0, (is.1.0, taken (pointers.key p).0 (pointers.key p).1 link is.1.1))
  removes p (GenerationOverflow link) is = (is.0, (is.1.0, taken (pointers.key p).0 (pointers.key p).1 link is.1.1))

pub returns-clause-outcome : goal.returns-clause-outcome
returns-clause-outcome g c = removes g.A.ArenaTrait.state g.A.ChainArenaTrait.interlinks (kind_by g.P.PtrKey g.P.Inx.InxKey g.P.Gen.GenKey) (λ w. w.inner) c.args.self.now (record { inner = c.remove_link_no_gen.new.self }) c.args.p c.remove_link_no_gen.result c.remove_link_no_gen.ensures.outcome
