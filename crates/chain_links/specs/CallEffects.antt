use Rattle.std.specs.Prelude.{◌≡◌, ◌↔◌, ℕ, List, [], ◌∷◌, map, Bool, IsSome, IfSome, Option, None, Some}
use Rattle.std.specs.Option.{option_map}
use Rattle.std.specs.Borrow.{Bor}
use Rattle.arena_core.specs.Invalidation.{invalidation_option}
use Rattle.arena_core.specs.PointerKinds.{PointerKind}
use Rattle.arena_core.specs.declared.invalidation.InvalidationOption.{InvalidationOption}
use Rattle.arena_core.specs.declared.invalidation.InvalidationResult.{InvalidationResult}
use Rattle.arena_core.specs.declared.packed_option.PackedOption.{PackedOption}
use Rattle.chain_laws.specs.Chains.{LinkMap, AreDistinct, prev_of, next_of}
use Rattle.chain_laws.specs.Neighbors.{AreNeighbors}
use Rattle.chain_laws.specs.Cuts.{without_pair, Cuts}
use Rattle.chain_laws.specs.Exchanges.{with_exchange, Exchanges}
use Rattle.chain_laws.specs.Joins.{with_join, Connects}
use Rattle.chain_laws.specs.MoveAfter.{with_move_after, MovesAfter}
use Rattle.chain_laws.specs.Orders.{with_order, PutsInOrder}
use Rattle.chain_laws.specs.Removals.{with_removal, Removes}
use Rattle.chain_laws.specs.Reversals.{with_turns, Reverses}
use Rattle.chain_laws.specs.Splices.{with_splice, Splices}
use Rattle.chain_laws.specs.Walks.{Walker, walker_at, IsWalk}
use Rattle.arena_traits.specs.Arena.{IsValid}
use Rattle.arena_traits.specs.CallOutcomes.{ReportsOverflow}
use Rattle.arena_traits.specs.Compressions.{overflows_after_compression}
use Rattle.arena_traits.specs.Entries.{ArenaView, ArenaState, count, view_after_removal}
use Rattle.chain_links.specs.CanonicalLayouts.{IsCanonicalLayout}
use Rattle.chain_links.specs.ChainArena.{link_at, CanPutInOrder, CanConnect, CanExchange, CanMove, CanSplice, IsLinkAt}
use Rattle.chain_links.specs.Links.{link_view, borrowed_link}
use Rattle.chain_links.specs.declared.links.Link.{Link}
use Rattle.chain_links.specs.declared.links.RawLink.{RawLink}

-- Each link is moved after the one before it, the first after p.
abbrev pub AreMovedAfter : {A P : Type 0} → (A → P → P → A → Type 0) → A → P → List P → A → Type 0
AreMovedAfter moves old p [] new = new ≡ old
AreMovedAfter {A} moves old p (q ∷ order) new = (next : A) × moves old q p next × AreMovedAfter moves next q order new

abbrev pub AreMovedInTurn : {A P : Type 0} → (A → P → P → A → Type 0) → A → List P → A → Type 0
AreMovedInTurn moves old [] new = new ≡ old
AreMovedInTurn moves old (p ∷ order) new = AreMovedAfter moves old p order new

module _ {A Gen T : Type 0} {view : A → ArenaView Gen T} {entry : A → ℕ → Option (Gen × T)} (state : (a : A) → ArenaState (view a) (entry a)) (interlinks : A → LinkMap) where
  module _ (old new : A) where
    -- b follows a.
    pub record IsConnected (a b : ℕ) : Type 0 where
      pub joined : interlinks new ≡ with_join (interlinks old) a b
      pub chains : Connects (interlinks old) (interlinks new) a b
      pub view_after : view new ≡ view old

    -- b no longer follows a.
    pub record IsDisconnected (a b : ℕ) : Type 0 where
      pub cut : interlinks new ≡ without_pair (interlinks old) a b
      pub chains : Cuts (interlinks old) (interlinks new) a b
      pub view_after : view new ≡ view old

    -- p and q have each other's next link.
    pub record IsExchanged (p q : ℕ) : Type 0 where
      pub exchanged : interlinks new ≡ with_exchange (interlinks old) p q
      pub chains : Exchanges (interlinks old) (interlinks new) p q
      pub view_after : view new ≡ view old

    -- The chain of i is reversed.
    pub record IsReversed (i : ℕ) : Type 0 where
      pub walk : List ℕ
      pub is_walk : IsWalk (interlinks old) i walk
      pub turned : interlinks new ≡ with_turns (interlinks old) walk
      pub chains : Reverses (interlinks old) (interlinks new) i
      pub view_after : view new ≡ view old

    -- p is moved after q.
    pub record IsMovedAfter (p q : ℕ) : Type 0 where
      pub moved : interlinks new ≡ with_move_after (interlinks old) p q
      pub chains : MovesAfter (interlinks old) (interlinks new) p q
      pub view_after : view new ≡ view old

    -- The run from `first` to `last` is moved after p.
    pub record IsSpliced (p first last : ℕ) : Type 0 where
      pub spliced : interlinks new ≡ with_splice (interlinks old) p first last
      pub chains : Splices (interlinks old) (interlinks new) p first last
      pub view_after : view new ≡ view old

    -- The links follow the first of them, in this order.
    pub record IsPutInOrder (order : List ℕ) : Type 0 where
      pub ordered : interlinks new ≡ with_order (interlinks old) order
      pub chains : (x : ℕ) (followers : List ℕ) → order ≡ x ∷ followers → AreDistinct order → PutsInOrder (interlinks old) (interlinks new) x followers
      pub view_after : view new ≡ view old

    -- The link at i is removed, its neighbors are linked, the counter advances.
    pub record IsRemoved (following : Gen → Gen) (i : ℕ) : Type 0 where
      pub view_after : view new ≡ view_after_removal following (view old) i
      pub links : interlinks new ≡ with_removal (interlinks old) i
      pub chains : Removes (interlinks old) (interlinks new) i

  module _ {P : Type 0} (key : P → ℕ × Gen) where
    -- q follows p.
    abbrev pub AreNeighborLinks : A → P → P → Type 0
    AreNeighborLinks a p q = IsValid (entry a) (key p) × IsValid (entry a) (key q) × AreNeighbors (interlinks a) (key p).0 (key q).0

    -- `get_link`: the link of p, if p is valid.
    abbrev pub ReadsLink : A → P → Option (Link P (Bor T)) → Type 0
    ReadsLink a p result = record {
      some : IsSome result ↔ IsValid (entry a) (key p);
      link : IfSome result (λ link. IsLinkAt (entry a) (interlinks a) (key p) (option_map key link.prev) (option_map key link.next) link.t.now);
    }

    -- `advancer_chain`: an advancer at p, if p is valid.
    abbrev pub StartsWalk : {V : Type 0} → (V → Walker) → A → P → Option V → Type 0
    StartsWalk walker a p result = record {
      some : IsSome result ↔ IsValid (entry a) (key p);
      walker : IfSome result (λ v. walker v ≡ walker_at (interlinks a) (count (view a)) (key p).0);
    }

    -- `connect`: q follows p, or could not.
    abbrev pub ConnectsLinks : A → P → P → Option Unit → A → Type 0
    ConnectsLinks old p q None new = CanConnect (entry old) (interlinks old) (key p) (key q) → ⊥
    ConnectsLinks old p q (Some done) new = CanConnect (entry old) (interlinks old) (key p) (key q) × IsConnected old new (key p).0 (key q).0

    -- `break_prev`: p loses its previous link, if it has one.
    abbrev pub BreaksPrev : A → P → Option Unit → A → Type 0
    BreaksPrev old p None new = IsValid (entry old) (key p) → prev_of (interlinks old) (key p).0 ≡ None
    BreaksPrev old p (Some done) new = IsValid (entry old) (key p) × (a : ℕ) × (prev_of (interlinks old) (key p).0 ≡ Some a) × IsDisconnected old new a (key p).0

    abbrev pub BreaksNext : A → P → Option Unit → A → Type 0
    BreaksNext old p None new = IsValid (entry old) (key p) → next_of (interlinks old) (key p).0 ≡ None
    BreaksNext old p (Some done) new = IsValid (entry old) (key p) × (b : ℕ) × (next_of (interlinks old) (key p).0 ≡ Some b) × IsDisconnected old new (key p).0 b

    -- `exchange_next`: p and q exchange next links, if both have one.
    abbrev pub ExchangesNext : A → P → P → Option Unit → A → Type 0
    ExchangesNext old p q None new = CanExchange (entry old) (interlinks old) (key p) (key q) → ⊥
    ExchangesNext old p q (Some done) new = CanExchange (entry old) (interlinks old) (key p) (key q) × IsExchanged old new (key p).0 (key q).0

    -- `reverse_chain`: the chain of p is reversed, if p is valid.
    abbrev pub ReversesChain : A → P → Option Unit → A → Type 0
    ReversesChain old p None new = IsValid (entry old) (key p) → ⊥
    ReversesChain old p (Some done) new = IsValid (entry old) (key p) × IsReversed old new (key p).0

    -- `move_after`: p is moved after q, or could not be.
    abbrev pub MovesLinkAfter : A → P → P → Option Unit → A → Type 0
    MovesLinkAfter old p q None new = CanMove (entry old) (key p) (key q) → ⊥
    MovesLinkAfter old p q (Some done) new = CanMove (entry old) (key p) (key q) × IsMovedAfter old new (key p).0 (key q).0

    -- `splice_after`: the run is moved after p, or could not be.
    abbrev pub SplicesAfter : A → P → P → P → Option Unit → A → Type 0
    SplicesAfter old p first last None new = CanSplice (entry old) (key p) (key first) (key last) → ⊥
    SplicesAfter old p first last (Some done) new = CanSplice (entry old) (key p) (key first) (key last) × IsSpliced old new (key p).0 (key first).0 (key last).0

    -- `arrange_chain`: the links follow the first, in this order, or could not.
    abbrev pub ArrangesLinks : A → List P → Option Unit → A → Type 0
    ArrangesLinks old order None new = CanPutInOrder (entry old) (map key order) → ⊥
    ArrangesLinks old order (Some done) new = CanPutInOrder (entry old) (map key order) × IsPutInOrder old new (map (λ p. (key p).0) order)

  module _ {P I W : Type 0} (pointers : PointerKind P I Gen W) where
    abbrev pub ReadsLinkNoGen : A → P → Option (Bor (RawLink (PackedOption I W) T)) → Type 0
    ReadsLinkNoGen a p result = record {
      some : IsSome result ↔ IsValid (entry a) (pointers.key p);
      link : IfSome result (λ link. link_at (entry a) (interlinks a) (pointers.key p).0 ≡ Some ((pointers.key p).1, link_view pointers.packed link.now));
    }

    abbrev pub ReadsLinkAt : A → I → Option (Gen × Bor (RawLink (PackedOption I W) T)) → Type 0
    ReadsLinkAt a i result = option_map (borrowed_link pointers.packed) result ≡ link_at (entry a) (interlinks a) (pointers.number i)

    -- The link at i is removed and returned as it was.
    abbrev pub IsTaken : A → ℕ → Gen → RawLink (PackedOption I W) T → A → Type 0
    IsTaken old i g link new = (link_at (entry old) (interlinks old) i ≡ Some (g, link_view pointers.packed link)) × IsRemoved old new pointers.following i

    -- The link of p is removed, if p is valid.
    abbrev pub RemovesLink : A → P → InvalidationResult (RawLink (PackedOption I W) T) → A → Type 0
    RemovesLink old p result new =
        ReportsOverflow pointers.wraps (view old).counter (IsValid (entry old) (pointers.key p) → ⊥)
        (λ link. IsValid (entry old) (pointers.key p) × IsTaken old (pointers.key p).0 (pointers.key p).1 link new) result

    abbrev pub RemovesLinkAt : A → I → InvalidationResult (Gen × RawLink (PackedOption I W) T) → A → Type 0
    RemovesLinkAt old i result new =
        ReportsOverflow pointers.wraps (view old).counter (entry old (pointers.number i) ≡ None) (λ e. IsTaken old (pointers.number i) e.0 e.1 new) result

    -- `compress_canonical`: the chains lie in runs, and a wrap is reported.
    abbrev pub CompressesLinks : A → Bool → InvalidationOption Unit → A → Type 0
    CompressesLinks old reset result new = record {
      canonical : IsCanonicalLayout pointers.first pointers.following reset (view old) (interlinks old) (view new) (interlinks new);
      overflow : IfSome (view old).counter (λ g. result ≡ invalidation_option (overflows_after_compression pointers.wraps reset (count (view old)) g) tt);
    }
