-- Rotation and neighbors of rings.
use Rattle.std.proofs.Common.{◌≡◌, ℕ, List, [], ◌∷◌, ◌++◌, Option, Some, ap, ◌∙◌}
use Rattle.std.specs.Option.{option_map, option_and_then}
use Rattle.chain_laws.specs.Chains.{LinkMap, cyclic, next_of, next_in, prev_of, prev_in, first_or, last_or}
use Rattle.chain_laws.proofs.ChainLemmas.Rotations.{rotated}
use Rattle.arena_traits.specs.Arena.{IsValid}
use Rattle.arena_traits.specs.Entries.{ArenaView, ArenaState, first_key, last_key}
use Rattle.chain_links.specs.ChainArena.{ptr_at}
use Rattle.chain_lists.specs.Lists.{Item, AreEntries, indexes, IsRing}
use Rattle.chain_lists.proofs.ItemListLemmas.{are_stored-append, are_stored-left, are_stored-right, last_key-cons}
use Rattle.chain_lists.proofs.ListChangeLemmas.{parts, whole}

module _ {A Gen V : Type 0} {view : A → ArenaView Gen V} {entry : A → ℕ → Option (Gen × V)} (state : (a : A) → ArenaState (view a) (entry a)) (interlinks : A → LinkMap) (a : A) where
  module _ (p : ℕ × Gen) (v : V) (others : List (Item Gen V)) (is : IsRing state interlinks a ((p, v) ∷ others)) where
    pub in_a_ring : IsValid (entry a) p
    in_a_ring = record { value = v; stored = is.are_stored.0 }

    pub ring_continues : option_and_then (ptr_at (entry a)) (next_of (interlinks a) p.0) ≡ first_key (others ++ (p, v) ∷ [])
    ring_continues = ap (λ o. option_and_then (ptr_at (entry a)) (next_in o)) is.chain.2.0 ∙ key_of others is.are_stored.1
      where
        key_of : (es : List (Item Gen V)) → AreEntries (entry a) es → option_and_then (ptr_at (entry a)) (first_or (indexes es) (Some p.0)) ≡ first_key (es ++ (p, v) ∷ [])
        key_of [] s = ap (option_map (λ (x : Gen × V). (p.0, x.0))) is.are_stored.0
        key_of (e ∷ es) s = ap (option_map (λ (x : Gen × V). (e.0.0, x.0))) s.0

    pub ring_precedes : option_and_then (ptr_at (entry a)) (prev_of (interlinks a) p.0) ≡ last_key ((p, v) ∷ others)
    ring_precedes = ap (λ o. option_and_then (ptr_at (entry a)) (prev_in o)) is.chain.2.0 ∙ key_of (p, v) others is.are_stored
      where
        key_of : (e : Item Gen V) (es : List (Item Gen V)) → AreEntries (entry a) (e ∷ es) → option_and_then (ptr_at (entry a)) (last_or (indexes es) (Some e.0.0)) ≡ last_key (e ∷ es)
        key_of e [] s = ap (option_map (λ (x : Gen × V). (e.0.0, x.0))) s.0
        key_of e (f ∷ fs) s = key_of f fs s.1 ∙ last_key-cons e f fs

  pub ring_rotated : (xs ys : List (Item Gen V)) → IsRing state interlinks a (xs ++ ys) → IsRing state interlinks a (ys ++ xs)
  ring_rotated xs ys is = record {
    chain = whole state interlinks cyclic a ys xs (rotated (interlinks a) (indexes xs) (indexes ys) (parts state interlinks cyclic a xs ys is.chain));
    are_stored = are_stored-append (entry a) ys xs (are_stored-right (entry a) xs ys is.are_stored) (are_stored-left (entry a) xs ys is.are_stored);
  }
