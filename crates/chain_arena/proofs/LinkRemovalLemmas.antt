-- Effects of a removal of the link at an index.
use Rattle.std.proofs.Common.{◌≡◌, ℕ, Bool, true, false, Option, None, Some, refl, ap, sym, ◌∙◌, subst}
use Rattle.std.specs.Prelude.{is_some, IfNone, OnSome}
use Rattle.std.specs.Option.{option_map}
use Rattle.std.proofs.lemmas.Option.{none-some}
use Rattle.arena_core.specs.Invalidation.{value_within, with_value_of, invalidation_result}
use Rattle.arena_core.specs.PointerKinds.{PointerKind}
use Rattle.arena_core.specs.declared.invalidation.InvalidationResult.{InvalidationResult}
use Rattle.arena_core.specs.declared.invalidation.InvalidationResult.TheVariants.{Success, GenerationOverflow, InvalidPtr}
use Rattle.arena_core.specs.declared.packed_option.PackedOption.{PackedOption}
use Rattle.chain_laws.specs.Chains.{Interlinks, IsWellLinked}
use Rattle.arena_traits.specs.Arena.{IsValid, entry_at}
use Rattle.arena_traits.specs.CallOutcomes.{ReportsOverflow, IsEntryRemoved, RemovesEntry, RemovesEntryAt}
use Rattle.chain_links.specs.CallEffects.{IsTaken, RemovesLink, RemovesLinkAt}
use Rattle.chain_links.specs.ChainArena.{LinkView, on_value, link_map, value_state, entry, link_value, link_of, link_at, remove_link}
use Rattle.chain_links.specs.Links.{held_in, link_view, pair_view}
use Rattle.chain_links.specs.declared.links.RawLink.{RawLink}
use Rattle.chain_links.proofs.MappedArenaLemmas.{entry_at-with_each, generation_is}
use Rattle.chain_linking.proofs.UnlinkLemmas.{passes_over, removed-agrees, removed-chains, removed-pairs, view_after-removed}
use Rattle.chain_arena.specs.Effects.{Links, IsRemoval}
use Rattle.chain_arena.specs.Steps.{RemoveInxStep}
use Rattle.chain_arena.proofs.ChainDrainLemmas.{link_at-entry}

pub reports : {X Gen : Type 0} (wraps : Gen → Bool) (counter : Gen) (Invalid : Type 0) (Done : X → Type 0) (r : InvalidationResult X) → r ≡ invalidation_result (wraps counter) (value_within r)
    → (value_within r ≡ None → Invalid) → ((x : X) → value_within r ≡ Some x → Done x) → ReportsOverflow wraps (Some counter) Invalid Done r
reports wraps counter Invalid Done InvalidPtr known invalid done = invalid refl
reports {X} wraps counter Invalid Done (Success x) known invalid done = (flag (wraps counter) known, done x refl)
  where
    flag : (b : Bool) → (let r : InvalidationResult X = Success x in r ≡ invalidation_result b (Some x)) → b ≡ false
    flag false is = refl
    flag true is = absurd (let h = is in cc)
reports {X} wraps counter Invalid Done (GenerationOverflow x) known invalid done = (flag (wraps counter) known, done x refl)
  where
    flag : (b : Bool) → (let r : InvalidationResult X = GenerationOverflow x in r ≡ invalidation_result b (Some x)) → b ≡ true
    flag false is = absurd (let h = is in cc)
    flag true is = refl

pub if_none : {X Y : Type 0} (o : Option X) → (o ≡ None → Y) → IfNone o Y
if_none None so = so refl
if_none (Some x) so = tt

module _ {X Y : Type 0} (f : X → Y) (Z : Type 0) where
  pub none_with_value : (r : InvalidationResult X) → IfNone (value_within r) Z → IfNone (value_within (with_value_of f r)) Z
  none_with_value InvalidPtr known = known
  none_with_value (Success x) known = tt
  none_with_value (GenerationOverflow x) known = tt

  pub some_with_value : (r : InvalidationResult X) → OnSome (value_within r) Z → OnSome (value_within (with_value_of f r)) Z
  some_with_value InvalidPtr known = tt
  some_with_value (Success x) known = known
  some_with_value (GenerationOverflow x) known = known

pub holds_if_some : {X Y : Type 0} (o : Option X) → OnSome o Y → is_some o ≡ true → Y
holds_if_some None known some = absurd (let h = some in cc)
holds_if_some (Some x) known some = known

pub on_some : {X Y : Type 0} (o : Option X) → (is_some o ≡ true → Y) → OnSome o Y
on_some None known = tt
on_some (Some x) known = known refl

pub agreed_after : {Gen T K : Type 0} (following : Gen → Gen) (a b : Links Gen T) (n : ℕ) (taken : Option K) → (is_some taken ≡ true → b ≡ remove_link following a n) → (taken ≡ None → b ≡ a) → IsWellLinked (link_map a) → IsWellLinked (link_map b)
agreed_after following a b n None valid invalid agrees = subst (λ x. IsWellLinked (link_map x)) (sym (invalid refl)) agrees
agreed_after following a b n (Some e) valid invalid agrees = removed-agrees following a b n (valid refl) agrees

pub removal_of : {Gen T : Type 0} (following : Gen → Gen) (a b : Links Gen T) (n : ℕ) → IsWellLinked (link_map a) → b ≡ remove_link following a n → IsRemoval following a n b
removal_of following a b n agrees state = record {
  removed = record { view_after = view_after-removed following a b n state; links = passes_over following a b n state; chains = removed-chains following a b n state agrees };
  state = state;
  pairs = removed-pairs following a b n state agrees;
}

module _ {Gen K T : Type 0} (packed : K → Option ℕ) (following : Gen → Gen) (a b : Links Gen T) (n : ℕ) (taken : Option (Gen × RawLink K T))
    (returned : option_map (pair_view packed) taken ≡ entry_at a n) where
  value : option_map (on_value held_in) taken ≡ entry a n
  value = twice taken ∙ (ap (option_map (on_value link_value)) returned ∙ sym (entry_at-with_each link_value a n)) where
    twice : (o : Option (Gen × RawLink K T)) → option_map (on_value held_in) o ≡ option_map (on_value link_value) (option_map (pair_view packed) o)
    twice None = refl
    twice (Some e) = refl

  pub link_known : option_map (on_value (link_view packed)) taken ≡ link_at (entry a) (link_map a) n
  link_known = returned ∙ sym (link_at-entry a n)

  pub value_known : option_map (λ (e : Gen × RawLink K T). (e.0, e.1.t)) taken ≡ entry a n
  value_known = value

  pub none_there : taken ≡ None → entry a n ≡ None
  none_there none = sym value ∙ ap (option_map (on_value held_in)) none

entry_of_link : {Gen T : Type 0} (o : Option (Gen × T)) (l : Option Interlinks) (g : Gen) (link : LinkView T) → link_of o l ≡ Some (g, link) → o ≡ Some (g, link.value)
entry_of_link None l g link is = absurd (let h = is in cc)
entry_of_link (Some e) None g link is = absurd (let h = is in cc)
entry_of_link {Gen} {T} (Some e) (Some l) g link is =
    let both : Some (e.0, record { prev = l.prev; next = l.next; value = e.1 }) ≡ Some (g, link) = is in
    ap (option_map (on_value link_value)) both

module _ {P I Gen W T : Type 0} (pointers : PointerKind P I Gen W) (a b : Links Gen T) where
  pub unlinked : (i : I) (r : InvalidationResult (Gen × RawLink (PackedOption I W) T)) → option_map (pair_view pointers.packed) (value_within r) ≡ entry_at a (pointers.number i) → r ≡ invalidation_result (pointers.wraps a.counter) (value_within r)
      → (is_some (value_within r) ≡ true → IsRemoval pointers.following a (pointers.number i) b) → (value_within r ≡ None → b ≡ a) → RemoveInxStep pointers a i r b
  unlinked i r returned overflow removal invalid =
      let n = pointers.number i in (
        reports pointers.wraps a.counter (entry a n ≡ None) (λ (e : Gen × RawLink (PackedOption I W) T). IsTaken value_state link_map pointers a n e.0 e.1 b) r overflow (none_there pointers.packed pointers.following a b n (value_within r) returned)
            (λ e is. (sym (link_known pointers.packed pointers.following a b n (value_within r) returned) ∙ ap (option_map (on_value (link_view pointers.packed))) is, (removal (ap is_some is)).removed)),
        if_none (value_within r) invalid,
        on_some (value_within r) removal,
      )

  pub entry_taken : (n : ℕ) (g : Gen) (link : RawLink (PackedOption I W) T) → IsTaken value_state link_map pointers a n g link b → IsEntryRemoved value_state pointers a n g link.t b
  entry_taken n g link taken = (entry_of_link (entry a n) (link_map a n) g (link_view pointers.packed link) taken.0, taken.1.view_after)

  pub value_removed_at : (i : I) (r : InvalidationResult (Gen × RawLink (PackedOption I W) T)) → RemovesLinkAt value_state link_map pointers a i r b → RemovesEntryAt value_state pointers a i (with_value_of (λ (e : Gen × RawLink (PackedOption I W) T). (e.0, e.1.t)) r) b
  value_removed_at i InvalidPtr known = known
  value_removed_at i (Success e) known = (known.0, entry_taken (pointers.number i) e.0 e.1 known.1)
  value_removed_at i (GenerationOverflow e) known = (known.0, entry_taken (pointers.number i) e.0 e.1 known.1)

  module _ (p : P) (valid : IsValid (entry a) (pointers.key p)) where
    abbrev k : ℕ × Gen
    k = pointers.key p

    its_link : (n : ℕ) (g : Gen) (link : RawLink (PackedOption I W) T) → n ≡ k.0 → IsTaken value_state link_map pointers a n g link b → IsTaken value_state link_map pointers a k.0 k.1 link b
    its_link n g link at taken =
        let stored : entry a k.0 ≡ Some (g, link.t) = ap (λ j. entry a j) (sym at) ∙ (entry_taken n g link taken).0 in
        subst (λ j. IsTaken value_state link_map pointers a j k.1 link b) at
        (subst (λ h. IsTaken value_state link_map pointers a n h link b) (generation_is g k.1 link.t valid.value (sym stored ∙ valid.stored)) taken)

    not_there : (n : ℕ) → n ≡ k.0 → entry a n ≡ None → ⊥
    not_there n at none = none-some _ (sym none ∙ (ap (λ j. entry a j) at ∙ valid.stored))

    pub link_removed : (i : I) (r : InvalidationResult (Gen × RawLink (PackedOption I W) T)) → pointers.number i ≡ k.0 → RemovesLinkAt value_state link_map pointers a i r b → RemovesLink value_state link_map pointers a p (with_value_of (λ (e : Gen × RawLink (PackedOption I W) T). e.1) r) b
    link_removed i InvalidPtr at known = absurd (not_there (pointers.number i) at known)
    link_removed i (Success e) at known = (known.0, (valid, its_link (pointers.number i) e.0 e.1 at known.1))
    link_removed i (GenerationOverflow e) at known = (known.0, (valid, its_link (pointers.number i) e.0 e.1 at known.1))

    pub value_removed : (i : I) (r : InvalidationResult (Gen × RawLink (PackedOption I W) T)) → pointers.number i ≡ k.0 → RemovesLinkAt value_state link_map pointers a i r b → RemovesEntry value_state pointers a p (with_value_of (λ (e : Gen × RawLink (PackedOption I W) T). e.1.t) r) b
    value_removed i InvalidPtr at known = absurd (not_there (pointers.number i) at known)
    value_removed i (Success e) at known = (known.0, entry_taken k.0 k.1 e.1 (its_link (pointers.number i) e.0 e.1 at known.1))
    value_removed i (GenerationOverflow e) at known = (known.0, entry_taken k.0 k.1 e.1 (its_link (pointers.number i) e.0 e.1 at known.1))
