use Rattle.std.specs.Prelude.{◌≡◌, ℕ, ⊤, Bool, List, [], ◌∷◌, Option, None, Some, is_some, IfNone, OnSome, Result, IfOk, OnOk, OnErr}
use Rattle.arena_core.specs.Invalidation.{value_within, invalidation_option}
use Rattle.arena_core.specs.PointerKinds.{PointerKind}
use Rattle.arena_core.specs.declared.packed_option.PackedOption.{PackedOption}
use Rattle.arena_core.specs.declared.errors.ChainInsertionError.{ChainInsertionError}
use Rattle.arena_core.specs.declared.errors.ReallocationError.{ReallocationError}
use Rattle.arena_core.specs.declared.invalidation.InvalidationOption.{InvalidationOption}
use Rattle.arena_core.specs.declared.invalidation.InvalidationResult.{InvalidationResult}
use Rattle.arena_traits.specs.Arena.{IsValid, with_counter, invalidate_at, arena_after_clear}
use Rattle.arena_traits.specs.CallOutcomes.{InvalidatesEntry, ClearsEntries, CompressesEntries}
use Rattle.arena_traits.specs.Compressions.{values_in}
use Rattle.arena_traits.specs.Entries.{entries}
use Rattle.arena_traits.specs.Growth.{Reserves}
use Rattle.chain_links.specs.CallEffects.{ConnectsLinks, BreaksPrev, BreaksNext, ExchangesNext, ReversesChain, MovesLinkAfter, SplicesAfter, ArrangesLinks, AreMovedInTurn, RemovesLink, RemovesLinkAt, CompressesLinks}
use Rattle.chain_links.specs.ChainArena.{link_map, entry, values_of, value_view, value_state}
use Rattle.chain_links.specs.Insertions.{InsertsLink, InsertsLinkWithin}
use Rattle.chain_laws.specs.declared.insert_kind.InsertKind.{InsertKind}
use Rattle.chain_links.specs.declared.links.RawLink.{RawLink}
use Rattle.chain_compaction.specs.LinkCompressions.{ClosesHoles}
use Rattle.chain_arena.specs.Effects.{Links, GrowsStackToFit, IsJoin, IsCutBefore, IsCutAfter, IsExchange, IsReversal, IsMove, IsSplice, IsRemoval, IsDrained}
use Rattle.chain_arena.specs.NewLinks.{IsNewLink}
use Rattle.chain_arena.specs.declared.calls.Call.{Call}
use Rattle.chain_arena.specs.declared.calls.Call.TheVariants as call
use Rattle.chain_arena.specs.declared.calls.Reply.{Reply}
use Rattle.chain_arena.specs.declared.calls.Reply.TheVariants as reply

module _ {P I Gen W T : Type 0} (pointers : PointerKind P I Gen W) where
  -- A link is inserted, with any growth.
  abbrev pub IsNewLinkAnyhow : Links Gen T → InsertKind P I → T → Links Gen T → P → Type 0
  IsNewLinkAnyhow old kind t new p = IsNewLink pointers (λ capacity maximum n reached. ⊤) old kind t new p

  abbrev pub InsertStep : Links Gen T → InsertKind P I → T → Result P ChainInsertionError → Links Gen T → Type 0
  InsertStep old kind t returned new = InsertsLink value_state link_map pointers old kind t returned new × OnErr returned (new ≡ old) × IfOk returned (IsNewLinkAnyhow old kind t new)

  abbrev pub InsertWithinStep : Links Gen T → InsertKind P I → T → Result P ChainInsertionError → Links Gen T → Type 0
  InsertWithinStep old kind t returned new = InsertsLinkWithin value_state link_map pointers old kind t returned new × OnErr returned (new ≡ old) × IfOk returned (IsNewLinkAnyhow old kind t new)

  abbrev pub ConnectStep : Links Gen T → P → P → Option Unit → Links Gen T → Type 0
  ConnectStep old p q returned new =
      ConnectsLinks value_state link_map pointers.key old p q returned new × IfNone returned (new ≡ old) × OnSome returned (IsJoin old new (pointers.key p).0 (pointers.key q).0)

  abbrev pub BreakPrevStep : Links Gen T → P → Option Unit → Links Gen T → Type 0
  BreakPrevStep old p returned new = BreaksPrev value_state link_map pointers.key old p returned new × IfNone returned (new ≡ old) × OnSome returned (IsCutBefore old (pointers.key p).0 new)

  abbrev pub BreakNextStep : Links Gen T → P → Option Unit → Links Gen T → Type 0
  BreakNextStep old p returned new = BreaksNext value_state link_map pointers.key old p returned new × IfNone returned (new ≡ old) × OnSome returned (IsCutAfter old (pointers.key p).0 new)

  abbrev pub ExchangeStep : Links Gen T → P → P → Option Unit → Links Gen T → Type 0
  ExchangeStep old p q returned new =
      ExchangesNext value_state link_map pointers.key old p q returned new × IfNone returned (new ≡ old) × OnSome returned (IsExchange old new (pointers.key p).0 (pointers.key q).0)

  abbrev pub ReverseChainStep : Links Gen T → P → Option Unit → Links Gen T → Type 0
  ReverseChainStep old p returned new =
      ReversesChain value_state link_map pointers.key old p returned new × IfNone returned (new ≡ old) × OnSome returned (IsReversal old (pointers.key p).0 new)

  abbrev pub MoveAfterStep : Links Gen T → P → P → Option Unit → Links Gen T → Type 0
  MoveAfterStep old p q returned new =
      MovesLinkAfter value_state link_map pointers.key old p q returned new × IfNone returned (new ≡ old) × OnSome returned (IsMove old (pointers.key p).0 (pointers.key q).0 new)

  abbrev pub SpliceAfterStep : Links Gen T → P → P → P → Option Unit → Links Gen T → Type 0
  SpliceAfterStep old p first last returned new =
      SplicesAfter value_state link_map pointers.key old p first last returned new × IfNone returned (new ≡ old)
      × OnSome returned (IsSplice old (pointers.key p).0 (pointers.key first).0 (pointers.key last).0 new)

  abbrev pub IsMoveOf : Links Gen T → P → P → Links Gen T → Type 0
  IsMoveOf old p q new = IsMove old (pointers.key p).0 (pointers.key q).0 new

  -- Links are put in an order, each moved after the one before it.
  abbrev pub ArrangeChainStep : Links Gen T → List P → Option Unit → Links Gen T → Type 0
  ArrangeChainStep old order returned new =
      ArrangesLinks value_state link_map pointers.key old order returned new × IfNone returned (new ≡ old) × OnSome returned (AreMovedInTurn IsMoveOf old order new)

  -- A removal by pointer.
  abbrev pub RemoveStep : Links Gen T → P → InvalidationResult (RawLink (PackedOption I W) T) → Links Gen T → Type 0
  RemoveStep old p returned new =
      RemovesLink value_state link_map pointers old p returned new × IfNone (value_within returned) (new ≡ old) × OnSome (value_within returned) (IsRemoval pointers.following old (pointers.key p).0 new)

  abbrev pub RemoveInxStep : Links Gen T → I → InvalidationResult (Gen × RawLink (PackedOption I W) T) → Links Gen T → Type 0
  RemoveInxStep old i returned new =
      RemovesLinkAt value_state link_map pointers old i returned new × IfNone (value_within returned) (new ≡ old) × OnSome (value_within returned) (IsRemoval pointers.following old (pointers.number i) new)

  -- A link has the next generation.
  abbrev pub IsRenewed : Links Gen T → ℕ → Links Gen T → Type 0
  IsRenewed old i new = (new ≡ invalidate_at pointers.following old i) × (link_map new ≡ link_map old)

  abbrev pub InvalidateStep : Links Gen T → P → InvalidationResult P → Links Gen T → Type 0
  InvalidateStep old p returned new =
      InvalidatesEntry value_state pointers old p returned new × IfNone (value_within returned) (new ≡ old) × OnSome (value_within returned) (IsRenewed old (pointers.key p).0 new)

  -- A drain of a chain.
  abbrev pub DrainChainStep : Links Gen T → ℕ × Gen → ℕ → Option ℕ → Links Gen T → Type 0
  DrainChainStep old p take None new = (IsValid (entry old) p → ⊥) × (new ≡ old)
  DrainChainStep old p take (Some count) new = IsDrained pointers.following old p take count new

  abbrev pub ClearStep : Links Gen T → InvalidationOption Unit → Links Gen T → Type 0
  ClearStep old returned new = ClearsEntries value_state pointers old returned new × (new ≡ arena_after_clear pointers.following old)

  -- The holes are closed; values and neighbors stay.
  abbrev pub CompressStep : Links Gen T → Bool → InvalidationOption Unit → Links Gen T → Type 0
  CompressStep old reset returned new =
      CompressesEntries value_state pointers old reset returned new × (values_in (entries (values_of new)) ≡ values_in (entries (values_of old))) × ClosesHoles old new

  abbrev pub CompressCanonicalStep : Links Gen T → Bool → InvalidationOption Unit → Links Gen T → Type 0
  CompressCanonicalStep old reset returned new = CompressesLinks value_state link_map pointers old reset returned new × (new.stack_capacity ≡ old.stack_capacity)

  -- A growth for n links.
  abbrev pub ReserveStep : Links Gen T → ℕ → Result Unit ReallocationError → Links Gen T → Type 0
  ReserveStep old n returned new = Reserves pointers.greatest n (value_view old) returned (value_view new) × OnErr returned (new ≡ old) × OnOk returned (GrowsStackToFit pointers.greatest n old old new)

  -- A call, its reply, and the arena after it.
  abbrev pub Step : Links Gen T → Call P T I Gen W → Reply P T I Gen W → Links Gen T → Type 0
  Step old (call.Insert kind t) r new = (returned : Result P ChainInsertionError) × (r ≡ reply.Inserted returned) × InsertStep old kind t returned new
  Step old (call.InsertWithin kind t) r new = (returned : Result P ChainInsertionError) × (r ≡ reply.Inserted returned) × InsertWithinStep old kind t returned new
  Step old (call.Connect p q) r new = (returned : Option Unit) × (r ≡ reply.Done (is_some returned)) × ConnectStep old p q returned new
  Step old (call.BreakPrev p) r new = (returned : Option Unit) × (r ≡ reply.Done (is_some returned)) × BreakPrevStep old p returned new
  Step old (call.BreakNext p) r new = (returned : Option Unit) × (r ≡ reply.Done (is_some returned)) × BreakNextStep old p returned new
  Step old (call.ExchangeNext p q) r new = (returned : Option Unit) × (r ≡ reply.Done (is_some returned)) × ExchangeStep old p q returned new
  Step old (call.ReverseChain p) r new = (returned : Option Unit) × (r ≡ reply.Done (is_some returned)) × ReverseChainStep old p returned new
  Step old (call.MoveAfter p q) r new = (returned : Option Unit) × (r ≡ reply.Done (is_some returned)) × MoveAfterStep old p q returned new
  Step old (call.SpliceAfter p first last) r new = (returned : Option Unit) × (r ≡ reply.Done (is_some returned)) × SpliceAfterStep old p first last returned new
  Step old (call.ArrangeChain order) r new = (returned : Option Unit) × (r ≡ reply.Done (is_some returned)) × ArrangeChainStep old order.items returned new
  Step old (call.Remove p) r new = (returned : InvalidationResult (RawLink (PackedOption I W) T)) × (r ≡ reply.Removed returned) × RemoveStep old p returned new
  Step old (call.RemoveInx i) r new = (returned : InvalidationResult (Gen × RawLink (PackedOption I W) T)) × (r ≡ reply.RemovedInx returned) × RemoveInxStep old i returned new
  Step old (call.Invalidate p) r new = (returned : InvalidationResult P) × (r ≡ reply.Renewed returned) × InvalidateStep old p returned new
  Step old (call.DrainChain p take) r new = (returned : Option ℕ) × (r ≡ reply.Drained returned) × DrainChainStep old (pointers.key p) take returned new
  Step old call.Clear r new = (returned : InvalidationOption Unit) × (r ≡ reply.Counted returned) × ClearStep old returned new
  Step old (call.Compress reset) r new = (returned : InvalidationOption Unit) × (r ≡ reply.Counted returned) × CompressStep old reset returned new
  Step old (call.CompressCanonical reset) r new = (returned : InvalidationOption Unit) × (r ≡ reply.Counted returned) × CompressCanonicalStep old reset returned new
  Step old (call.Reserve n) r new = (returned : Result Unit ReallocationError) × (r ≡ reply.Reserved returned) × ReserveStep old n returned new
  Step old (call.SetGeneration g) r new = (r ≡ reply.Set) × (new ≡ with_counter old g)
  Step old call.IncGeneration r new = (r ≡ reply.Counted (invalidation_option (pointers.wraps old.counter) tt)) × (new ≡ with_counter old (pointers.following old.counter))

  -- Steps in order, with one reply per call.
  abbrev pub Run : Links Gen T → List (Call P T I Gen W) → List (Reply P T I Gen W) → Links Gen T → Type 0
  Run old [] [] new = new ≡ old
  Run old (call ∷ calls) (reply ∷ replies) new = (between : Links Gen T) × Step old call reply between × Run between calls replies new
  Run old calls replies new = ⊥
