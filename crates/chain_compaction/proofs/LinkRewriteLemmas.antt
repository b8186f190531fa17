-- Links that are overwritten one after another, and their views.
use Rattle.std.proofs.Common.{◌≡◌, ◌≢◌, ℕ, suc, ◌⊎◌, inl, inr, List, [], ◌∷◌, ◌++◌, length, Option, None, Some, refl, sym, ap, ◌∙◌, subst}
use Rattle.std.specs.Prelude.{◌==◌, if◌then◌else◌}
use Rattle.std.specs.Option.{option_map, option_and_then}
use Rattle.std.proofs.Math.Decide.{ℕ_discrete}
use Rattle.std.proofs.lemmas.List.{ext_get_or, length-map}
use mathlib.Core.Path.{fun_ext}
use Rattle.chain_laws.specs.Chains.{IsMember}
use Rattle.chain_laws.proofs.ListLemmas.Members.{IsMember-left, IsMember-right, IsMember-parts, IsMember-or_not}
use Rattle.chain_laws.proofs.InterlinkLemmas.Inverses.{if_same, if_other}
use Rattle.arena_traits.specs.Arena.{slot_at}
use Rattle.arena_base.specs.DetachedSlots.{DetachedView, detached_with_value}
use Rattle.arena_traits.proofs.ArenaViewLemmas.{length-with_slot}
use Rattle.chain_links.specs.declared.links.RawLink.{RawLink}
use Rattle.chain_links.specs.ChainArena.{LinkView, on_value, ptr_at}
use Rattle.chain_links.specs.Links.{link_view, pair_view, destination_of, destination_at}
use Rattle.chain_compaction.specs.Destinations.{renamed_link, renamed_detached, detached_view, AreRelinked}
use Rattle.chain_links.proofs.MappedArenaLemmas.{slot_at-map}
use Rattle.chain_links.proofs.LinkStateLemmas.{slot_at-changed}

abbrev pub viewed_as : {Gen T : Type 0} → Gen → LinkView T → Option (Gen × LinkView T)
viewed_as g l = Some (g, l)

module _ {Gen K T : Type 0} (now new : DetachedView Gen (RawLink K T)) (i : ℕ) (e : Gen × RawLink K T) (w : RawLink K T) (stored : slot_at now.slots i ≡ Some e) (wrote : new ≡ detached_with_value now i w) where
  abbrev written : Option (Gen × RawLink K T) → Option (Gen × RawLink K T)
  written o = option_map (λ (e : Gen × RawLink K T). (e.0, w)) o

  written_at : (j : ℕ) → slot_at new.slots j ≡ (if j == i then written (slot_at now.slots j) else slot_at now.slots j)
  written_at j = ap (λ (h : DetachedView Gen (RawLink K T)). slot_at h.slots j) wrote ∙ slot_at-changed now.slots i j written refl

  pub written_there : slot_at new.slots i ≡ Some (e.0, w)
  written_there = written_at i ∙ (if_same i i _ _ refl ∙ ap written stored)

  pub written_other : (j : ℕ) → j ≢ i → slot_at new.slots j ≡ slot_at now.slots j
  written_other j differs = written_at j ∙ if_other j i _ _ differs

  pub written_long : length new.slots ≡ length now.slots
  written_long = ap (λ (h : DetachedView Gen (RawLink K T)). length h.slots) wrote ∙ length-with_slot now.slots i _

  pub written_capacity : new.stack_capacity ≡ now.stack_capacity
  written_capacity = ap (λ (h : DetachedView Gen (RawLink K T)). h.stack_capacity) wrote

  pub written_maximum : new.maximum ≡ now.maximum
  written_maximum = ap (λ (h : DetachedView Gen (RawLink K T)). h.maximum) wrote

  pub destination_written : (number : K → Option ℕ) (j : ℕ) → j ≢ i → destination_at number new.slots j ≡ destination_at number now.slots j
  destination_written number j differs = ap (option_and_then (destination_of number)) (written_other j differs)

  pub written_own : (number : K → Option ℕ) → destination_at number new.slots i ≡ number w.destination
  written_own number = ap (option_and_then (destination_of number)) written_there

module _ {Gen K T : Type 0} (number : K → Option ℕ) where
  abbrev pub viewed_at : DetachedView Gen (RawLink K T) → ℕ → Option (Gen × LinkView T)
  viewed_at h j = option_map (pair_view number) (slot_at h.slots j)

  pub relinked_none : (becomes : ℕ → LinkView T → LinkView T) (h : DetachedView Gen (RawLink K T)) → AreRelinked number becomes h h []
  relinked_none becomes h = record { there = λ j has. absurd has; stay = λ j out. refl; long = refl; capacity = refl; maximum = refl }

  module _ (becomes : ℕ → LinkView T → LinkView T) (old now : DetachedView Gen (RawLink K T)) (xs : List ℕ) (was : AreRelinked number becomes old now xs) where
    pub relinked_as : (instead : ℕ → LinkView T → LinkView T) → ((j : ℕ) → IsMember xs j → option_map (on_value (becomes j)) (viewed_at old j) ≡ option_map (on_value (instead j)) (viewed_at old j)) → AreRelinked number instead old now xs
    relinked_as instead same = record { there = λ j h. was.there j h ∙ same j h; stay = was.stay; long = was.long; capacity = was.capacity; maximum = was.maximum }

    pub relinked_ptr : ptr_at (slot_at now.slots) ≡ ptr_at (slot_at old.slots)
    relinked_ptr = fun_ext (λ i. by i (IsMember-or_not xs i))
      where
        view_after : (i : ℕ) (s : Option (Gen × RawLink K T)) → option_map {U = ℕ × Gen} (λ (e : Gen × RawLink K T). (i, e.0)) s ≡ option_map {U = ℕ × Gen} (λ (e : Gen × LinkView T). (i, e.0)) (option_map (pair_view number) s)
        view_after i None = refl
        view_after i (Some e) = refl

        valued : (i : ℕ) (f : LinkView T → LinkView T) (o : Option (Gen × LinkView T)) → option_map {U = ℕ × Gen} (λ (e : Gen × LinkView T). (i, e.0)) (option_map (on_value f) o) ≡ option_map {U = ℕ × Gen} (λ (e : Gen × LinkView T). (i, e.0)) o
        valued i f None = refl
        valued i f (Some e) = refl

        by : (i : ℕ) → IsMember xs i ⊎ (IsMember xs i → ⊥) → ptr_at (slot_at now.slots) i ≡ ptr_at (slot_at old.slots) i
        by i (inl h) =
            view_after i (slot_at now.slots i) ∙ (ap (option_map {U = ℕ × Gen} (λ (e : Gen × LinkView T). (i, e.0))) (was.there i h) ∙ (valued i (becomes i) (viewed_at old i) ∙ sym (view_after i (slot_at old.slots i))))
        by i (inr out) = ap (option_map {U = ℕ × Gen} (λ (e : Gen × RawLink K T). (i, e.0))) (was.stay i out)

    module _ (new : DetachedView Gen (RawLink K T)) (i : ℕ) (e : Gen × RawLink K T) (w : RawLink K T) (stored : slot_at now.slots i ≡ Some e) (wrote : new ≡ detached_with_value now i w) where
      pub relinked_more : (IsMember xs i → ⊥) → link_view number w ≡ becomes i (link_view number e.1) → AreRelinked number becomes old new (xs ++ i ∷ [])
      relinked_more fresh same = record {
        there = λ j h. there j h (ℕ_discrete j i);
        stay = λ j out. written_other now new i e w stored wrote j (λ s. out (subst (IsMember (xs ++ i ∷ [])) (sym s) (IsMember-right xs (i ∷ []) i (inl refl)))) ∙ was.stay j (λ h. out (IsMember-left xs (i ∷ []) j h));
        long = written_long now new i e w stored wrote ∙ was.long;
        capacity = written_capacity now new i e w stored wrote ∙ was.capacity;
        maximum = written_maximum now new i e w stored wrote ∙ was.maximum;
      }
        where
          here : viewed_at new i ≡ option_map (on_value (becomes i)) (viewed_at old i)
          here =
              ap (option_map (pair_view number)) (written_there now new i e w stored wrote)
              ∙ (ap (viewed_as e.0) same ∙ sym (ap (λ (o : Option (Gen × RawLink K T)). option_map (on_value (becomes i)) (option_map (pair_view number) o)) (sym (was.stay i fresh) ∙ stored)))

          before : (j : ℕ) → j ≢ i → IsMember xs j ⊎ IsMember (i ∷ []) j → IsMember xs j
          before j differs (inl h) = h
          before j differs (inr (inl s)) = absurd (differs (sym s))
          before j differs (inr (inr none)) = absurd none

          there : (j : ℕ) → IsMember (xs ++ i ∷ []) j → Dec (j ≡ i) → viewed_at new j ≡ option_map (on_value (becomes j)) (viewed_at old j)
          there j h (yes s) = subst (λ (n : ℕ). viewed_at new n ≡ option_map (on_value (becomes n)) (viewed_at old n)) (sym s) here
          there j h (no differs) = ap (option_map (pair_view number)) (written_other now new i e w stored wrote j differs) ∙ was.there j (before j differs (IsMember-parts xs (i ∷ []) j h))

      pub relinked_over : IsMember xs i → (instead : ℕ → LinkView T → LinkView T) → ((j : ℕ) → j ≢ i → becomes j ≡ instead j) → viewed_as e.0 (link_view number w) ≡ option_map (on_value (instead i)) (viewed_at old i) → AreRelinked number instead old new xs
      relinked_over has instead others here = record {
        there = λ j h. there j h (ℕ_discrete j i);
        stay = λ j out. written_other now new i e w stored wrote j (λ s. out (subst (IsMember xs) (sym s) has)) ∙ was.stay j out;
        long = written_long now new i e w stored wrote ∙ was.long;
        capacity = written_capacity now new i e w stored wrote ∙ was.capacity;
        maximum = written_maximum now new i e w stored wrote ∙ was.maximum;
      }
        where
          there : (j : ℕ) → IsMember xs j → Dec (j ≡ i) → viewed_at new j ≡ option_map (on_value (instead j)) (viewed_at old j)
          there j h (yes s) = subst (λ (n : ℕ). viewed_at new n ≡ option_map (on_value (instead n)) (viewed_at old n)) (sym s) (ap (option_map (pair_view number)) (written_there now new i e w stored wrote) ∙ here)
          there j h (no differs) =
              ap (option_map (pair_view number)) (written_other now new i e w stored wrote j differs)
              ∙ (was.there j h ∙ ap (λ (f : LinkView T → LinkView T). option_map (on_value f) (viewed_at old j)) (others j differs))

    pub relinked_then : (new : DetachedView Gen (RawLink K T)) (ys : List ℕ) → AreRelinked number becomes now new ys → ((j : ℕ) → IsMember ys j → IsMember xs j → ⊥) → AreRelinked number becomes old new (xs ++ ys)
    relinked_then new ys more apart = record {
      there = λ j h. there j (IsMember-parts xs ys j h);
      stay = λ j out. more.stay j (λ h. out (IsMember-right xs ys j h)) ∙ was.stay j (λ h. out (IsMember-left xs ys j h));
      long = more.long ∙ was.long;
      capacity = more.capacity ∙ was.capacity;
      maximum = more.maximum ∙ was.maximum;
    }
      where
        there : (j : ℕ) → IsMember xs j ⊎ IsMember ys j → viewed_at new j ≡ option_map (on_value (becomes j)) (viewed_at old j)
        there j (inl h) = ap (option_map (pair_view number)) (more.stay j (λ m. apart j m h)) ∙ was.there j h
        there j (inr h) = more.there j h ∙ ap (λ (o : Option (Gen × RawLink K T)). option_map (on_value (becomes j)) (option_map (pair_view number) o)) (was.stay j (λ m. apart j h m))

  pub all_relinked : (to : ℕ → Option ℕ) (old now : DetachedView Gen (RawLink K T)) (xs : List ℕ) → AreRelinked number (λ _. renamed_link to) old now xs → ((j : ℕ) (e : Gen × RawLink K T) → slot_at old.slots j ≡ Some e → IsMember xs j)
      → detached_view number now ≡ renamed_detached to (detached_view number old)
  all_relinked to old now xs was each = λ j. record { slots = slots j; stack_capacity = was.capacity j; maximum = was.maximum j }
    where
      free : (j : ℕ) → (IsMember xs j → ⊥) → (o : Option (Gen × RawLink K T)) → slot_at old.slots j ≡ o → option_map (pair_view number) o ≡ option_map (on_value (renamed_link to)) (option_map (pair_view number) o)
      free j out None is = refl
      free j out (Some e) is = absurd (out (each j e is))

      by : (j : ℕ) → IsMember xs j ⊎ (IsMember xs j → ⊥) → viewed_at now j ≡ option_map (on_value (renamed_link to)) (viewed_at old j)
      by j (inl h) = was.there j h
      by j (inr out) = ap (option_map (pair_view number)) (was.stay j out) ∙ free j out (slot_at old.slots j) refl

      at : (j : ℕ) → slot_at (detached_view number now).slots j ≡ slot_at (renamed_detached to (detached_view number old)).slots j
      at j =
          slot_at-map (pair_view number) now.slots j
          ∙ (by j (IsMember-or_not xs j) ∙ sym (slot_at-map (on_value (renamed_link to)) (detached_view number old).slots j ∙ ap (option_map (on_value (renamed_link to))) (slot_at-map (pair_view number) old.slots j)))

      slots : (detached_view number now).slots ≡ (renamed_detached to (detached_view number old)).slots
      slots =
          ext_get_or None (detached_view number now).slots (renamed_detached to (detached_view number old)).slots
          (length-map now.slots (option_map (pair_view number)) ∙ (was.long ∙ sym (length-map (detached_view number old).slots (option_map (on_value (renamed_link to))) ∙ length-map old.slots (option_map (pair_view number)))))
          (λ k inside. at (suc k))
