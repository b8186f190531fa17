-- A read of one slot.
use Rattle.std.proofs.Common.{◌≡◌, ℕ, Option, None, Some, refl, ap}
use Rattle.std.specs.Prelude.{◌&&◌, is_none, is_some}
use Rattle.std.specs.Option.{option_map, option_and_then}
use Rattle.arena_base.specs.DetachedSlots.{with_touch, saturating_increment}
use Rattle.arena_base.specs.declared.compactor.Compactor.{Compactor}
use Rattle.chain_laws.specs.Chains.{prev_in, next_in}
use Rattle.chain_links.specs.declared.links.RawLink.{RawLink}
use Rattle.chain_compaction.specs.DetachedLinks.{body_interlinks}
use Rattle.chain_compaction.specs.SlotReads.{HasReadSlot}
use Rattle.chain_compaction.specs.Destinations.{is_fresh}
use Rattle.chain_compaction.proofs.WorkCountLemmas.{counts_touch}
use Rattle.chain_links.specs.Links.{destination_of}

module _ {P T S Inx Gen Word : Type 0} where
  pub has_read : (old new : Compactor P T S Inx Gen Word)
      → (new.detached ≡ old.detached) × ((new.arena.ghost_name ≡ old.arena.ghost_name) × (new.arena.now ≡ with_touch old.arena.now) × (new.placed ≡ old.placed) × (new.touched ≡ saturating_increment old.touched))
      → HasReadSlot old new
  has_read old new h = record { detached = h.0; arena = h.1.1; counts = counts_touch old new h.1.0 h.1.1 h.1.2 h.1.3 }

module _ {Gen K T : Type 0} (packed : K → Option ℕ) where
  pub entry_reported : (e : Gen × RawLink K T) (o : Option (Gen × RawLink K T)) → Some e ≡ o
      → (Some e.0 ≡ option_map (λ (x : Gen × RawLink K T). x.0) o) × (packed e.1.prev ≡ prev_in (option_map (body_interlinks packed) o))
      × (packed e.1.next ≡ next_in (option_map (body_interlinks packed) o)) × (packed e.1.destination ≡ option_and_then (destination_of packed) o)
  entry_reported e o is = (
    ap (option_map (λ (x : Gen × RawLink K T). x.0)) is,
    ap (λ (x : Option (Gen × RawLink K T)). prev_in (option_map (body_interlinks packed) x)) is,
    ap (λ (x : Option (Gen × RawLink K T)). next_in (option_map (body_interlinks packed) x)) is,
    ap (option_and_then (destination_of packed)) is,
  )

  pub nothing_reported : (o : Option (Gen × RawLink K T)) → None ≡ o
      → (None ≡ option_map (λ (x : Gen × RawLink K T). x.0) o) × (None ≡ prev_in (option_map (body_interlinks packed) o))
      × (None ≡ next_in (option_map (body_interlinks packed) o)) × (None ≡ option_and_then (destination_of packed) o)
  nothing_reported o is = (
    ap (option_map (λ (x : Gen × RawLink K T). x.0)) is,
    ap (λ (x : Option (Gen × RawLink K T)). prev_in (option_map (body_interlinks packed) x)) is,
    ap (λ (x : Option (Gen × RawLink K T)). next_in (option_map (body_interlinks packed) x)) is,
    ap (option_and_then (destination_of packed)) is,
  )

  pub fresh_read : {I : Type 0} (number : I → ℕ) (o : Option (Gen × RawLink K T)) (r : Option Gen) (d : Option I) → r ≡ option_map (λ (x : Gen × RawLink K T). x.0) o
      → option_map number d ≡ option_and_then (destination_of packed) o → (is_some r && is_none d) ≡ is_fresh packed o
  fresh_read number None None d stored to = refl
  fresh_read number None (Some g) d stored to = cc
  fresh_read number (Some e) None d stored to = cc
  fresh_read number (Some e) (Some g) None stored to = ap is_none to
  fresh_read number (Some e) (Some g) (Some x) stored to = ap is_none to
