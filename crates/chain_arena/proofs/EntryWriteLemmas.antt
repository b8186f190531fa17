-- Effects of writes, new generations and clears on a chain arena.
use Rattle.std.proofs.Common.{◌≡◌, ℕ, Option, None, Some, refl, ap, ap₂, sym, ◌∙◌, subst}
use Rattle.std.specs.Prelude.{OnSome, IfNone}
use Rattle.std.specs.Option.{option_map}
use Rattle.arena_core.specs.Invalidation.{value_within}
use Rattle.arena_core.specs.PointerKinds.{PointerKind}
use Rattle.arena_core.specs.declared.invalidation.InvalidationResult.{InvalidationResult}
use Rattle.arena_core.specs.declared.invalidation.InvalidationResult.TheVariants.{Success, GenerationOverflow, InvalidPtr}
use Rattle.arena_core.specs.declared.packed_option.PackedOption.{PackedOption}
use Rattle.chain_laws.specs.Chains.{IsWellLinked}
use Rattle.arena_traits.specs.CallOutcomes.{InvalidatesEntry}
use Rattle.arena_traits.specs.EntryLaws.{arena_state}
use Rattle.arena_traits.specs.Arena.{Arena, IsValid, entry_at, with_slot, with_value, invalidate_at, arena_after_clear}
use Rattle.arena_traits.specs.Entries.{view_of, view_with_value, view_after_invalidation, view_after_clear}
use Rattle.chain_links.specs.declared.links.RawLink.{RawLink}
use Rattle.chain_links.specs.ChainArena.{on_value, LinkView, link_value, with_link_value, values_of, value_view, value_state, link_map, with_value_at}
use Rattle.chain_links.specs.Links.{link_view, links_view, pair_view, AreAtRest, IsChainArena}
use Rattle.chain_links.proofs.RestLemmas.{renewed_at_rest}
use Rattle.chain_linking.proofs.ConnectionLemmas.{same_valid}
use Rattle.chain_links.proofs.MappedArenaLemmas.{with_each-with_value, with_each-invalidate_at, with_each-cleared}
use Rattle.arena_traits.proofs.ArenaViewLemmas.{viewed_written, viewed_renewed, viewed_cleared}
use Rattle.chain_links.proofs.LinkStateLemmas.{entry_at-links_view}
use Rattle.chain_linking.proofs.UnlinkLemmas.{link_map-written, link_map-renewed}

module _ {Gen T : Type 0} where
  value-written : (a : Arena Gen (LinkView T)) (n : ℕ) (l : LinkView T) (w : T) → option_map (λ (e : Gen × LinkView T). e.1) (entry_at a n) ≡ Some l
      → with_value a n (with_link_value w l) ≡ with_value_at a n w
  value-written a n l w stored = ap (λ (o : Option (Gen × LinkView T)). let b : Arena Gen (LinkView T) = record a { slots = with_slot a.slots n o } in b) (by (entry_at a n) stored) where
    by : (o : Option (Gen × LinkView T)) → option_map (λ (e : Gen × LinkView T). e.1) o ≡ Some l → option_map (λ (e : Gen × LinkView T). (e.0, with_link_value w l)) o ≡ option_map (on_value (with_link_value w)) o
    by None is = refl
    by (Some e) is = ap (λ (k : LinkView T). let o : Option (Gen × LinkView T) = Some (e.0, with_link_value w k) in o) (sym (let h = is in let same : e.1 ≡ l = cc in same))

  values_of-with_value_at : (a : Arena Gen (LinkView T)) (n : ℕ) (l : LinkView T) (w : T) → option_map (λ (e : Gen × LinkView T). e.1) (entry_at a n) ≡ Some l
      → values_of (with_value_at a n w) ≡ with_value (values_of a) n w
  values_of-with_value_at a n l w stored = ap (λ (x : Arena Gen (LinkView T)). values_of x) (sym (value-written a n l w stored)) ∙ with_each-with_value link_value a n (with_link_value w l)

module _ {Gen K T : Type 0} (number : K → Option ℕ) (a b : Arena Gen (RawLink K T)) (n : ℕ) (l : RawLink K T) (w : T)
    (stored : option_map (λ (e : Gen × RawLink K T). e.1) (entry_at a n) ≡ Some l) (wrote : b ≡ with_value a n (record l { t = w })) where
  viewed_stored : option_map (λ (e : Gen × LinkView T). e.1) (entry_at (links_view number a) n) ≡ Some (link_view number l)
  viewed_stored = ap (option_map (λ (e : Gen × LinkView T). e.1)) (entry_at-links_view number a n) ∙ (by (entry_at a n) ∙ ap (option_map (link_view number)) stored) where
    by : (o : Option (Gen × RawLink K T)) → option_map (λ (e : Gen × LinkView T). e.1) (option_map (pair_view number) o) ≡ option_map (link_view number) (option_map (λ (e : Gen × RawLink K T). e.1) o)
    by None = refl
    by (Some e) = refl

  pub written-state : links_view number b ≡ with_value_at (links_view number a) n w
  written-state = ap (λ (x : Arena Gen (RawLink K T)). links_view number x) wrote
      ∙ (with_each-with_value (link_view number) a n (record l { t = w }) ∙ value-written (links_view number a) n (link_view number l) w viewed_stored)

  pub written-link_map : link_map (links_view number b) ≡ link_map (links_view number a)
  written-link_map = link_map-written (links_view number a) (links_view number b) n w written-state

  pub written-agrees : IsWellLinked (link_map (links_view number a)) → IsWellLinked (link_map (links_view number b))
  written-agrees agrees = subst IsWellLinked (sym written-link_map) agrees

  pub written-view_after : view_of (values_of (links_view number b)) ≡ view_with_value (view_of (values_of (links_view number a))) n w
  written-view_after = ap (λ (x : Arena Gen (LinkView T)). view_of (values_of x)) written-state
      ∙ (ap (λ (x : Arena Gen T). view_of x) (values_of-with_value_at (links_view number a) n (link_view number l) w viewed_stored) ∙ viewed_written (values_of (links_view number a)) n w)

module _ {Gen K T : Type 0} (number : K → Option ℕ) (following : Gen → Gen) (a b : Arena Gen (RawLink K T)) (n : ℕ) (is : b ≡ invalidate_at following a n) where
  pub renewed-state : links_view number b ≡ invalidate_at following (links_view number a) n
  renewed-state = ap (λ (x : Arena Gen (RawLink K T)). links_view number x) is ∙ with_each-invalidate_at (link_view number) following a n

  pub renewed-link_map : link_map (links_view number b) ≡ link_map (links_view number a)
  renewed-link_map = link_map-renewed following (links_view number a) (links_view number b) n renewed-state

  pub renewed-view_after : view_of (values_of (links_view number b)) ≡ view_after_invalidation (view_of (values_of (links_view number a))) (n, following a.counter)
  renewed-view_after = ap (λ (x : Arena Gen (LinkView T)). view_of (values_of x)) renewed-state
      ∙ (ap (λ (x : Arena Gen T). view_of x) (with_each-invalidate_at link_value following (links_view number a) n) ∙ viewed_renewed following (values_of (links_view number a)) n)

module _ {P I Gen W T : Type 0} (pointers : PointerKind P I Gen W) (a b : Arena Gen (RawLink (PackedOption I W) T)) (p : P) where
  abbrev viewed : Arena Gen (RawLink (PackedOption I W) T) → Arena Gen (LinkView T)
  viewed = links_view pointers.packed

  pub renews : (r : InvalidationResult P) → InvalidatesEntry arena_state pointers a p r b → OnSome (value_within r) (b ≡ invalidate_at pointers.following a (pointers.key p).0) → InvalidatesEntry value_state pointers (viewed a) p r (viewed b)
  renews r known made = by r known made
    where
      renewed : (q : P) → IsValid (entry_at a) (pointers.key p) → (pointers.key q).0 ≡ (pointers.key p).0 → (pointers.key q).1 ≡ pointers.following a.counter → b ≡ invalidate_at pointers.following a (pointers.key p).0
          → value_view (viewed b) ≡ view_after_invalidation (value_view (viewed a)) (pointers.key q)
      renewed q valid index generation is = renewed-view_after pointers.packed pointers.following a b (pointers.key p).0 is
          ∙ ap₂ (λ (i : ℕ) (g : Gen). view_after_invalidation (value_view (viewed a)) (i, g)) (sym index) (sym generation)

      by : (r : InvalidationResult P) → InvalidatesEntry arena_state pointers a p r b → OnSome (value_within r) (b ≡ invalidate_at pointers.following a (pointers.key p).0) → InvalidatesEntry value_state pointers (viewed a) p r (viewed b)
      by InvalidPtr absent made = λ valid. absent ((same_valid pointers.packed a (pointers.key p)).1 valid)
      by (Success q) known is = let k = known.1 in (known.0, ((same_valid pointers.packed a (pointers.key p)).0 k.0, k.1, k.2, renewed q k.0 k.1 k.2 is))
      by (GenerationOverflow q) known is = let k = known.1 in (known.0, ((same_valid pointers.packed a (pointers.key p)).0 k.0, k.1, k.2, renewed q k.0 k.1 k.2 is))

  pub renewed_after : (o : Option P) → OnSome o (b ≡ invalidate_at pointers.following a (pointers.key p).0) → OnSome o ((viewed b ≡ invalidate_at pointers.following (viewed a) (pointers.key p).0) × (link_map (viewed b) ≡ link_map (viewed a)))
  renewed_after None known = tt
  renewed_after (Some q) is = (renewed-state pointers.packed pointers.following a b (pointers.key p).0 is, renewed-link_map pointers.packed pointers.following a b (pointers.key p).0 is)

  pub renewed_none : (o : Option P) → IfNone o (b ≡ a) → IfNone o (viewed b ≡ viewed a)
  renewed_none None same = ap viewed same
  renewed_none (Some q) same = tt

  pub renewed_holds : (o : Option P) → OnSome o (b ≡ invalidate_at pointers.following a (pointers.key p).0) → IfNone o (b ≡ a) → IsChainArena pointers.packed a → IsChainArena pointers.packed b
  renewed_holds None known same holds = subst (IsChainArena pointers.packed) (sym same) holds
  renewed_holds (Some q) is same holds = record {
    agree = subst IsWellLinked (sym (renewed-link_map pointers.packed pointers.following a b (pointers.key p).0 is)) holds.agree;
    at_rest = subst (λ c. AreAtRest pointers.packed c.slots) (sym is) (renewed_at_rest pointers.packed a.slots (pointers.key p).0 (pointers.following a.counter) holds.at_rest);
  }

module _ {Gen K T : Type 0} (number : K → Option ℕ) (following : Gen → Gen) (a b : Arena Gen (RawLink K T)) (is : b ≡ arena_after_clear following a) where
  pub cleared-view_after : view_of (values_of (links_view number b)) ≡ view_after_clear following (view_of (values_of (links_view number a)))
  cleared-view_after = ap (λ (x : Arena Gen (RawLink K T)). view_of (values_of (links_view number x))) is
      ∙ (ap (λ (x : Arena Gen (LinkView T)). view_of (values_of x)) (with_each-cleared (link_view number) following a)
      ∙ (ap (λ (x : Arena Gen T). view_of x) (with_each-cleared link_value following (links_view number a)) ∙ viewed_cleared following (values_of (links_view number a))))
