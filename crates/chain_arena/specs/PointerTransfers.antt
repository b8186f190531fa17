use Rattle.std.specs.Prelude.{◌≡◌, ℕ, Bool, Option}
use Rattle.std.specs.Fn.{Mut}
use Rattle.arena_core.specs.Invalidation.{value_in}
use Rattle.arena_core.specs.declared.invalidation.InvalidationOption.{InvalidationOption}
use Rattle.chain_laws.specs.Chains.{LinkMap}
use Rattle.arena_traits.specs.Arena.{Arena}
use Rattle.arena_traits.specs.Entries.{ArenaView}
use Rattle.chain_links.specs.ChainArena.{LinkView, entry}
use Rattle.chain_compaction.specs.PointerMoves.{AreMoved, FindsEntries, HasLinksWhere}
use Rattle.chain_arena.specs.Transfers.{TransferredLink, IsTransfer}

-- The closure maps a link's old value to its new one.
abbrev pub IsMapped : {Q P U T : Type 0} → TransferredLink Q P U T → U → T → Type 0
IsMapped c u t = (value_in c.value ≡ u) × (c.returned ≡ t)

-- Transferred links move from the source's pointers to the target's.
abbrev pub TransferMovesPointers : {Q P G Gen U T F : Type 0} → (Q → ℕ × G) → (P → ℕ × Gen) → (G → G) → (G → Bool)
    → Mut F (Q × (InvalidationOption U × (P × Unit {0}))) T → Type 0
TransferMovesPointers {Q} {P} {G} {Gen} {U} {T} {F} key new_key following wraps call =
    (generation : Gen) (f : F) (source source_after : ArenaView G U) (links : LinkMap) (old new : Arena Gen (LinkView T)) (before : ℕ → Option (G × U))
    → FindsEntries source before → HasLinksWhere links before → (transfer : IsTransfer key new_key following wraps call generation f source links source_after old new)
    → AreMoved (λ c. key c.from) (λ c. new_key c.to) IsMapped before (entry new) transfer.transferred
