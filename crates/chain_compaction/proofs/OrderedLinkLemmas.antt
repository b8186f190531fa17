-- Links arranged canonically that get a generation, each in its own slot.
use Rattle.std.proofs.Common.{◌≡◌, ◌≢◌, ℕ, zero, suc, ◌+◌, ◌*◌, ◌<◌, ◌≤◌, List, [], ◌∷◌, ◌++◌, length, Option, None, Some, refl, sym, ap, ◌∙◌, subst, arith}
use Rattle.std.specs.Prelude.{IsSome, is_some}
use Rattle.std.specs.Option.{option_map, option_and_then}
use Rattle.std.specs.List.{range_with_len}
use Rattle.std.proofs.Math.Decide.{ℕ_discrete}
use Rattle.std.proofs.lemmas.List.FromFn.{length-range_with_len}
use Rattle.chain_laws.specs.Chains.{LinkMap, IsMember, HasLink, IsWellLinked, prev_in, next_in}
use Rattle.chain_laws.specs.Arrangements.{place_in, IsCanonical, IsArrangement}
use Rattle.chain_laws.proofs.ChainLemmas.LinkedLists.{next_valid, prev_valid}
use Rattle.chain_laws.proofs.ListLemmas.Ranges.{IsMember-range, range-IsMember}
use Rattle.chain_laws.proofs.RenamingLemmas.ChainRuns.{canonical_arranges, range_with_len-append}
use Rattle.chain_laws.proofs.RenamingLemmas.LeastIndexOrder.{least_index_order_rests, places_rest}
use Rattle.chain_laws.proofs.RenamingLemmas.Positions.{place-has}
use Rattle.arena_traits.specs.Arena.{Arena, slot_at, with_slot}
use Rattle.arena_base.specs.DetachedSlots.{DetachedView, IsPacked, with_placed_entry}
use Rattle.arena_traits.proofs.ArenaViewLemmas.{length-with_slot}
use Rattle.chain_links.specs.declared.links.RawLink.{RawLink}
use Rattle.chain_links.specs.ChainArena.{LinkView, ptr_at}
use Rattle.chain_links.specs.Links.{link_view, pair_view}
use Rattle.chain_links.proofs.MappedArenaLemmas.{slot_at-map}
use Rattle.chain_compaction.specs.DetachedLinks.{body_interlinks, link_map_in, IsWork}
use Rattle.chain_compaction.specs.Layouts.{ReportsMoves}
use Rattle.chain_compaction.specs.Destinations.{detached_view, renamed_link}
use Rattle.chain_compaction.specs.OrderedLinks.{AreAllPlaced}
use Rattle.chain_compaction.proofs.ChainDestinationLemmas.{reports_one, reports_then, stored_at}
use Rattle.chain_compaction.proofs.DetachedLinkLemmas.{work-few}
use Rattle.chain_compaction.proofs.SlotCountLemmas.{slot_at-same, slot_at-other, stored-within}

pub record AreRenewed {Gen K T : Type 0} (generation : Gen) (old now : DetachedView Gen (RawLink K T)) (k : ℕ) : Type 0 where
  pub there : (j : ℕ) → j ≤ k → slot_at now.slots j ≡ option_map (λ e. (generation, e.1)) (slot_at old.slots j)
  pub stay : (j : ℕ) → k < j → slot_at now.slots j ≡ slot_at old.slots j
  pub long : length now.slots ≡ length old.slots
  pub capacity : now.stack_capacity ≡ old.stack_capacity
  pub maximum : now.maximum ≡ old.maximum

module _ {Gen K T : Type 0} (generation : Gen) (old : DetachedView Gen (RawLink K T)) where
  pub renewed_begins : AreRenewed generation old old 0
  renewed_begins = record { there = first; stay = λ j high. refl; long = refl; capacity = refl; maximum = refl }
    where
      first : (j : ℕ) → j ≤ 0 → slot_at old.slots j ≡ option_map (λ (e : Gen × RawLink K T). (generation, e.1)) (slot_at old.slots j)
      first zero low = refl
      first (suc k) low = absurd (omega (arith, low))

  pub renewed_continues : (now read placed : DetachedView Gen (RawLink K T)) (k i : ℕ) → i ≡ k + 1 → k < length old.slots → AreRenewed generation old now k → read ≡ now
      → placed ≡ with_placed_entry read i i generation → AreRenewed generation old placed (k + 1)
  renewed_continues now read placed k i is inside r same wrote = record {
    there = λ j low. there j low (ℕ_discrete j i);
    stay = λ j high. other j (omega (arith, high, is)) ∙ r.stay j (omega (arith, high));
    long = long_placed ∙ r.long;
    capacity = ap (λ (h : DetachedView Gen (RawLink K T)). h.stack_capacity) wrote_now ∙ r.capacity;
    maximum = ap (λ (h : DetachedView Gen (RawLink K T)). h.maximum) wrote_now ∙ r.maximum;
  }
    where
      wrote_now : placed ≡ with_placed_entry now i i generation
      wrote_now = wrote ∙ ap (λ (h : DetachedView Gen (RawLink K T)). with_placed_entry h i i generation) same

      middle : List (Option (Gen × RawLink K T))
      middle = with_slot now.slots i (slot_at now.slots i)

      within : i ≤ length now.slots
      within = let long = r.long in omega (arith, long, inside, is)

      within_middle : i ≤ length middle
      within_middle = let long = length-with_slot now.slots i (slot_at now.slots i) in omega (arith, long, within)

      long_placed : length placed.slots ≡ length now.slots
      long_placed = ap (λ (h : DetachedView Gen (RawLink K T)). length h.slots) wrote_now ∙ (length-with_slot middle i _ ∙ length-with_slot now.slots i _)

      own : slot_at placed.slots i ≡ option_map (λ (e : Gen × RawLink K T). (generation, e.1)) (slot_at old.slots i)
      own = ap (λ (h : DetachedView Gen (RawLink K T)). slot_at h.slots i) wrote_now
          ∙ (slot_at-same middle i _ (omega (arith, is)) within_middle ∙ ap (option_map (λ (e : Gen × RawLink K T). (generation, e.1))) (r.stay i (omega (arith, is))))

      other : (j : ℕ) → j ≢ i → slot_at placed.slots j ≡ slot_at now.slots j
      other j differs =
          ap (λ (h : DetachedView Gen (RawLink K T)). slot_at h.slots j) wrote_now
          ∙ (slot_at-other middle i j _ (omega (arith, is)) within_middle differs ∙ slot_at-other now.slots i j _ (omega (arith, is)) within differs)

      there : (j : ℕ) → j ≤ k + 1 → Dec (j ≡ i) → slot_at placed.slots j ≡ option_map (λ (e : Gen × RawLink K T). (generation, e.1)) (slot_at old.slots j)
      there j low (yes e) = ap (slot_at placed.slots) e ∙ (own ∙ sym (ap (λ (n : ℕ). option_map (λ (e : Gen × RawLink K T). (generation, e.1)) (slot_at old.slots n)) e))
      there j low (no differs) = other j differs ∙ r.there j (omega (arith, low, differs, is))

pub renewed_read : {Gen K T : Type 0} (generation : Gen) (old now : DetachedView Gen (RawLink K T)) (k i : ℕ) (r : Option Gen) (was : Gen) → i ≡ k + 1 → AreRenewed generation old now k
    → r ≡ Some was → r ≡ option_map (λ (e : Gen × RawLink K T). e.0) (slot_at now.slots i) → ◌≡◌ {A = Option (ℕ × Gen)} (Some (i, was)) (ptr_at (slot_at old.slots) i)
renewed_read {Gen} {K} {T} generation old now k i r was is renewed some reported = by (slot_at old.slots i) (sym some ∙ (reported ∙ ap (option_map (λ (e : Gen × RawLink K T). e.0)) (renewed.stay i (omega (arith, is)))))
  where
    by : (o : Option (Gen × RawLink K T)) → Some was ≡ option_map (λ (e : Gen × RawLink K T). e.0) o → ◌≡◌ {A = Option (ℕ × Gen)} (Some (i, was)) (option_map (λ (e : Gen × RawLink K T). (i, e.0)) o)
    by None h = absurd (let both = h in cc)
    by (Some e) h = ap (option_map (λ (x : Gen). (i, x))) h

pub stored_in_order : {Gen K T : Type 0} (number : K → Option ℕ) (generation : Gen) (old now : DetachedView Gen (RawLink K T)) (k i : ℕ) (r : Option Gen) → i ≡ k + 1 → k < length old.slots
    → IsCanonical (link_map_in number old.slots) (range_with_len 1 (length old.slots)) → AreRenewed generation old now k → r ≡ None → r ≡ option_map (λ (e : Gen × RawLink K T). e.0) (slot_at now.slots i) → ⊥
stored_in_order {Gen} {K} {T} number generation old now k i r is inside canonical renewed none reported =
    let slots = length old.slots in
    let valid = ((canonical_arranges (link_map_in number old.slots) (range_with_len 1 slots) canonical).valid i).1 (range-IsMember 1 slots i (omega (arith, is)) (omega (arith, is, inside))) in
    let e = stored_at number old.slots i valid in
    let both : ◌≡◌ {A = Option Gen} None (Some e.0.0) = sym none ∙ (reported ∙ ap (option_map (λ (e : Gen × RawLink K T). e.0)) (renewed.stay i (omega (arith, is)) ∙ e.1)) in
    cc

module _ {F P Gen : Type 0} (g : F → P → P → F → Type 0) (key : P → ℕ × Gen) (pointer : ℕ → Option (ℕ × Gen)) (generation : Gen) where
  pub reports_more : (f last next : F) (k i : ℕ) (was : Gen) (p q : P) → i ≡ k + 1 → ReportsMoves g key pointer generation 1 f (range_with_len 1 k) last → key p ≡ (i, was) → ◌≡◌ {A = Option (ℕ × Gen)} (Some (i, was)) (pointer i)
      → key q ≡ (i, generation) → g last p q next → ReportsMoves g key pointer generation 1 f (range_with_len 1 (k + 1)) next
  reports_more f last next k i was p q is done from reported to called =
      subst (λ (xs : List ℕ). ReportsMoves g key pointer generation 1 f xs next)
      (ap (λ (n : ℕ). range_with_len 1 k ++ n ∷ []) (let e : i ≡ 1 + k = omega (arith, is) in e) ∙ range_with_len-append 1 k 1)
      (reports_then g key pointer generation 1 f last next (range_with_len 1 k) (i ∷ []) done
      (reports_one g key pointer generation (1 + length (range_with_len 1 k)) last next i p q (ap (λ (x : ℕ × Gen). Some x) from ∙ reported)
      (to ∙ ap (λ (n : ℕ). (n, generation)) (let long = length-range_with_len 1 k in let e : i ≡ 1 + length (range_with_len 1 k) = omega (arith, is, long) in e)) called))

module _ {F P Gen K T : Type 0} (number : K → Option ℕ) (g : F → P → P → F → Type 0) (key : P → ℕ × Gen) (generation : Gen) (f last : F) (old new : DetachedView Gen (RawLink K T)) (before after : Arena Gen (RawLink K T))
    (agree : IsWellLinked (link_map_in number old.slots)) (canonical : IsCanonical (link_map_in number old.slots) (range_with_len 1 (length old.slots))) (renewed : AreRenewed generation old new (length old.slots)) where
  abbrev links : LinkMap
  links = link_map_in number old.slots

  abbrev slots : ℕ
  slots = length old.slots

  arranges : IsArrangement links (range_with_len 1 slots)
  arranges = canonical_arranges links (range_with_len 1 slots) canonical

  rests : (i : ℕ) → HasLink links i → place_in (range_with_len 1 slots) i ≡ Some i
  rests i h = let w = IsMember-range 1 slots i ((arranges.valid i).0 h) in places_rest slots i w.0 (omega (arith, w.1))

  kept : (o : Option ℕ) → ((i : ℕ) → o ≡ Some i → HasLink links i) → option_and_then (place_in (range_with_len 1 slots)) o ≡ o
  kept None each = refl
  kept (Some i) each = rests i (each i refl)

  same_link : (i : ℕ) (e : Gen × RawLink K T) → slot_at old.slots i ≡ Some e → renamed_link (place_in (range_with_len 1 slots)) (link_view number e.1) ≡ link_view number e.1
  same_link i e s = λ j. record { prev = prev j; next = next j; value = e.1.t }
    where
      prev : option_and_then (place_in (range_with_len 1 slots)) (number e.1.prev) ≡ number e.1.prev
      prev = kept (number e.1.prev) (λ p is. next_valid links p i ((agree.both p i).1 (ap (λ (o : Option (Gen × RawLink K T)). prev_in (option_map (body_interlinks number) o)) s ∙ is)))

      next : option_and_then (place_in (range_with_len 1 slots)) (number e.1.next) ≡ number e.1.next
      next = kept (number e.1.next) (λ p is. prev_valid links p i ((agree.both i p).0 (ap (λ (o : Option (Gen × RawLink K T)). next_in (option_map (body_interlinks number) o)) s ∙ is)))

  placed_at : (i d : ℕ) (x : Gen × LinkView T) → place_in (range_with_len 1 slots) i ≡ Some d → slot_at (detached_view number old).slots i ≡ Some x
      → slot_at (detached_view number new).slots d ≡ Some (generation, renamed_link (place_in (range_with_len 1 slots)) x.1)
  placed_at i d x place stored = by (slot_at old.slots i) refl
    where
      member : IsMember (range_with_len 1 slots) i
      member = place-has 1 (range_with_len 1 slots) i d place

      within : (1 ≤ i) × (i ≤ slots)
      within = let w = IsMember-range 1 slots i member in (w.0, omega (arith, w.1))

      some_same : {A : Type 0} {a b : A} → ◌≡◌ {A = Option A} (Some a) (Some b) → a ≡ b
      some_same e = cc

      same : d ≡ i
      same = some_same (sym place ∙ places_rest slots i within.0 within.1)

      viewed : option_map (pair_view number) (slot_at old.slots i) ≡ Some x
      viewed = sym (slot_at-map (pair_view number) old.slots i) ∙ stored

      by : (o : Option (Gen × RawLink K T)) → slot_at old.slots i ≡ o → slot_at (detached_view number new).slots d ≡ Some (generation, renamed_link (place_in (range_with_len 1 slots)) x.1)
      by None is = absurd (let both = sym viewed ∙ ap (option_map (pair_view number)) is in cc)
      by (Some e) is =
          let view : pair_view number e ≡ x = some_same (sym (ap (option_map (pair_view number)) is) ∙ viewed) in
          ap (slot_at (detached_view number new).slots) same
          ∙ (slot_at-map (pair_view number) new.slots i
          ∙ (ap (option_map (pair_view number)) (renewed.there i within.1 ∙ ap (option_map (λ (e : Gen × RawLink K T). (generation, e.1))) is)
          ∙ (ap (λ (l : LinkView T). let o : Option (Gen × LinkView T) = Some (generation, l) in o) (sym (same_link i e is))
          ∙ ap (λ (y : Gen × LinkView T). let o : Option (Gen × LinkView T) = Some (generation, renamed_link (place_in (range_with_len 1 slots)) y.1) in o) view)))

  all_packed : IsPacked new.slots slots
  all_packed = record { taken = taken; free = free }
    where
      taken : (i : ℕ) → 1 ≤ i → i ≤ slots → IsSome (slot_at new.slots i)
      taken i low high =
          let e = stored_at number old.slots i ((arranges.valid i).1 (range-IsMember 1 slots i low (omega (arith, high)))) in
          ap is_some (renewed.there i high ∙ ap (option_map (λ (e : Gen × RawLink K T). (generation, e.1))) e.1)

      free : (i : ℕ) → slots < i → slot_at new.slots i ≡ None
      free i above = by (slot_at new.slots i) refl
        where
          by : (o : Option (Gen × RawLink K T)) → slot_at new.slots i ≡ o → o ≡ None
          by None is = refl
          by (Some e) is = absurd (let inside = stored-within new.slots i e is in let long = renewed.long in omega (arith, inside.1, long, above))

  placed_all : ReportsMoves g key (ptr_at (slot_at old.slots)) generation 1 f (range_with_len 1 slots) last → IsWork before after slots slots → AreAllPlaced number g key generation f last old new before after slots 1
  placed_all reports work =
      let long = length-range_with_len 1 slots in
      record {
        indexes = range_with_len 1 slots;
        order = least_index_order_rests links slots canonical;
        counted = sym long;
        placed = placed_at;
        packed = all_packed;
        capacity = renewed.capacity;
        maximum = renewed.maximum;
        reports = reports;
        work = subst (λ (n : ℕ). IsWork before after n (4 * slots + 1 * length (range_with_len 1 slots))) (sym long) (work-few work _ (omega arith));
      }

pub all_renewed : {F P Gen K T : Type 0} (number : K → Option ℕ) (g : F → P → P → F → Type 0) (key : P → ℕ × Gen) (generation : Gen) (f last : F) (old new : DetachedView Gen (RawLink K T)) (before after : Arena Gen (RawLink K T))
    → IsWellLinked (link_map_in number old.slots) → IsCanonical (link_map_in number old.slots) (range_with_len 1 (length old.slots)) → (k count : ℕ) → k ≡ length old.slots → count ≡ length old.slots → AreRenewed generation old new k
    → ReportsMoves g key (ptr_at (slot_at old.slots)) generation 1 f (range_with_len 1 k) last → IsWork before after k k → AreAllPlaced number g key generation f last old new before after count 1
all_renewed number g key generation f last old new before after agree canonical k count all counts renewed reports work =
    subst (λ (n : ℕ). AreAllPlaced number g key generation f last old new before after n 1) (sym counts)
    (placed_all number g key generation f last old new before after agree canonical (subst (AreRenewed generation old new) all renewed)
    (subst (λ (n : ℕ). ReportsMoves g key (ptr_at (slot_at old.slots)) generation 1 f (range_with_len 1 n) last) all reports) (subst (λ (n : ℕ). IsWork before after n n) all work))
