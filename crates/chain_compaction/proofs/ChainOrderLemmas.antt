-- Numbering of chains by their least index: the beginning, one more slot, and the end.
use Rattle.std.proofs.Common.{◌≡◌, ◌≢◌, ℕ, ◌+◌, ◌-◌, ◌*◌, ◌<◌, ◌≤◌, ◌⊎◌, inl, inr, List, [], ◌∷◌, ◌++◌, length, slice_index, Option, None, Some, true, false, refl, sym, ap, ◌∙◌, subst, arith}
use Rattle.std.specs.Prelude.{count_by, is_none, is_some, IfSome}
use Rattle.std.specs.Option.{option_map, option_and_then}
use Rattle.std.proofs.lemmas.List.{length-append, append-nil}
use Rattle.std.proofs.Math.Decide.{ℕ_discrete}
use Rattle.chain_laws.specs.Chains.{Interlinks, Chain, linear, cyclic, items, all_items, HasChain, IsMember, AreDistinct, IsChain, HasLink, IsWellLinked, AreChains, StartsAtLeast, IsSortedByLeast, first_or, prev_in, next_in}
use Rattle.chain_laws.specs.Arrangements.{place_from, place_in}
use Rattle.chain_laws.specs.Neighbors.{AreTheChains}
use Rattle.chain_laws.specs.ChainStart.{IsStart}
use Rattle.chain_laws.proofs.ListLemmas.Members.{IsMember-left, IsMember-right, IsMember-parts, AreDistinct-apart, length_bound}
use Rattle.chain_laws.proofs.ChainLemmas.LinkedLists.{IsChain-frame}
use Rattle.chain_laws.proofs.ChainLemmas.Uniqueness.{HasAllNeighbors, chain_closed, chains_share, written_least}
use Rattle.chain_laws.proofs.ChainLemmas.ChainLists.{IsMember-all_items, chain_at}
use Rattle.chain_laws.proofs.ChainLemmas.NeighborPairs.{chains_from_pairs}
use Rattle.chain_laws.proofs.ChainLemmas.Partitions.{the_chains}
use Rattle.chain_laws.proofs.TransferLemmas.Target.{all_items-append}
use Rattle.chain_laws.proofs.RenamingLemmas.Positions.{has-place, place-none, place-front, place-append}
use Rattle.arena_traits.specs.Arena.{Arena, slot_at}
use Rattle.arena_base.specs.DetachedSlots.{DetachedView}
use Rattle.chain_links.specs.declared.links.RawLink.{RawLink}
use Rattle.chain_links.specs.ChainArena.{on_value, ptr_at}
use Rattle.chain_links.specs.Links.{pair_view, destination_of, destination_at}
use Rattle.chain_compaction.specs.DetachedLinks.{body_interlinks, link_map_in, IsWork}
use Rattle.chain_compaction.specs.Layouts.{ReportsMoves}
use Rattle.chain_compaction.specs.Destinations.{HasChainFrom, renamed_link, is_fresh, AreNumbered, AreRelinked, CanNumber, IsChainNumbered, AreAllNumbered}
use Rattle.chain_compaction.specs.FoundStarts.{AreStarts, AreStartsOfFresh}
use Rattle.chain_links.proofs.ArenaInsertionLemmas.{slots-within}
use Rattle.chain_compaction.proofs.DetachedLinkLemmas.{work-none, work-more, work-few}
use Rattle.chain_compaction.proofs.ArrangementLemmas.{count-stored}
use Rattle.chain_compaction.proofs.ChainDestinationLemmas.{stored_at, reports_none, reports_then}
use Rattle.chain_compaction.proofs.LinkRewriteLemmas.{viewed_as, relinked_none, relinked_as, relinked_ptr, relinked_then, all_relinked}

ascends-right : (cs ds : List Chain) → IsSortedByLeast (cs ++ ds) → IsSortedByLeast ds
ascends-right [] ds r = r
ascends-right (c ∷ cs) ds r = ascends-right cs ds r.1

has_chain-left : (cs ds : List Chain) (d : Chain) → HasChain cs d → HasChain (cs ++ ds) d
has_chain-left [] ds d h = absurd h
has_chain-left (c ∷ cs) ds d (inl e) = inl e
has_chain-left (c ∷ cs) ds d (inr h) = inr (has_chain-left cs ds d h)

has_chain-right : (cs ds : List Chain) (d : Chain) → HasChain ds d → HasChain (cs ++ ds) d
has_chain-right [] ds d h = h
has_chain-right (c ∷ cs) ds d h = inr (has_chain-right cs ds d h)

chains_assoc : (cs : List Chain) (c : Chain) (ds : List Chain) → (cs ++ c ∷ []) ++ ds ≡ cs ++ c ∷ ds
chains_assoc [] c ds = refl
chains_assoc (b ∷ cs) c ds = ap (λ (es : List Chain). b ∷ es) (chains_assoc cs c ds)

no_items : (xs : List ℕ) → ((y : ℕ) → IsMember xs y → ⊥) → xs ≡ []
no_items [] none = refl
no_items (x ∷ xs) none = absurd (none x (inl refl))

record IsNext (rest : List Chain) (i : ℕ) : Type 0 where
  first : Chain
  others : List Chain
  rest_is : rest ≡ first ∷ others
  has : IsMember (items first) i
  above : (y : ℕ) → IsMember (all_items others) y → i < y
  least : (y : ℕ) → IsMember (items first) y → i ≤ y

next_chain : (rest : List Chain) (k i : ℕ) → i ≡ k + 1 → IsSortedByLeast rest → ((y : ℕ) → IsMember (all_items rest) y → k < y) → IsMember (all_items rest) i → IsNext rest i
next_chain [] k i is ascends low h = absurd h
next_chain (c ∷ cs) k i is ascends low h = chosen (IsMember-parts (items c) (all_items cs) i h)
  where
    above : (y : ℕ) → IsMember (all_items cs) y → i < y
    above y h =
        let m : ascends.0.0 < y = ascends.0.2 y h in
        let l : k < ascends.0.0 = low ascends.0.0 (IsMember-left (items c) (all_items cs) ascends.0.0 ascends.0.1) in
        omega arith

    chosen : IsMember (items c) i ⊎ IsMember (all_items cs) i → IsNext (c ∷ cs) i
    chosen (inl h) = record {
      first = c;
      others = cs;
      rest_is = refl;
      has = h;
      above = above;
      least = λ y m. (let l : k < y = low y (IsMember-left (items c) (all_items cs) y m) in omega arith);
    }
    chosen (inr h) = absurd (let a : i < i = above i h in omega arith)

module _ {Gen K T : Type 0} (number : K → Option ℕ) where
  fresh_reported : (s : Option (Gen × RawLink K T)) → is_fresh number s ≡ true → (link : Interlinks) × (option_map (body_interlinks number) s ≡ Some link)
  fresh_reported None e = absurd (cc)
  fresh_reported (Some x) e = (body_interlinks number x, refl)

  fresh_none : (s : Option (Gen × RawLink K T)) → is_fresh number s ≡ true → option_and_then (destination_of number) s ≡ None
  fresh_none None e = refl
  fresh_none (Some x) e = by (destination_of number x) e
    where
      by : (o : Option ℕ) → is_none o ≡ true → o ≡ None
      by None e = refl
      by (Some i) e = absurd (cc)

  stale_some : (s : Option (Gen × RawLink K T)) (link : Interlinks) → option_map (body_interlinks number) s ≡ Some link → is_fresh number s ≡ false → option_and_then (destination_of number) s ≡ None → ⊥
  stale_some None link reports e none = cc
  stale_some (Some x) link reports e none = by (destination_of number x) e none
    where
      by : (o : Option ℕ) → is_none o ≡ false → o ≡ None → ⊥
      by None e none = cc
      by (Some i) e none = cc

  renamed_alike : (to also : ℕ → Option ℕ) (slots : List (Option (Gen × RawLink K T))) (c : Chain) → IsChain (link_map_in number slots) c → ((j : ℕ) → IsMember (items c) j → to j ≡ also j) → (i : ℕ) → IsMember (items c) i
      → option_map (on_value (renamed_link to)) (option_map (pair_view number) (slot_at slots i)) ≡ option_map (on_value (renamed_link also)) (option_map (pair_view number) (slot_at slots i))
  renamed_alike to also slots c h same i m = by (slot_at slots i) refl
    where
      closed : HasAllNeighbors (link_map_in number slots) (IsMember (items c))
      closed = chain_closed (link_map_in number slots) c h

      alike : (o : Option ℕ) → ((j : ℕ) → o ≡ Some j → IsMember (items c) j) → option_and_then to o ≡ option_and_then also o
      alike None inside = refl
      alike (Some j) inside = same j (inside j refl)

      by : (o : Option (Gen × RawLink K T)) → slot_at slots i ≡ o → option_map (on_value (renamed_link to)) (option_map (pair_view number) o) ≡ option_map (on_value (renamed_link also)) (option_map (pair_view number) o)
      by None is = refl
      by (Some e) is =
          let prev = alike (number e.1.prev) (λ j s. closed.back i j m (ap (λ (o : Option (Gen × RawLink K T)). prev_in (option_map (body_interlinks number) o)) is ∙ s)) in
          let next = alike (number e.1.next) (λ j s. closed.forward i j m (ap (λ (o : Option (Gen × RawLink K T)). next_in (option_map (body_interlinks number) o)) is ∙ s)) in
          ap (viewed_as e.0) (λ k. record { prev = prev k; next = next k; value = e.1.t })

pub record IsOrdering {Gen K T F P : Type 0} (number : K → Option ℕ) (g : F → P → P → F → Type 0) (key : P → ℕ × Gen) (generation : Gen) (f last : F) (old now : DetachedView Gen (RawLink K T))
    (before after : Arena Gen (RawLink K T)) (count k credit : ℕ) : Type 0 where
  pub chains : List Chain
  pub are : AreTheChains (link_map_in number old.slots) chains
  pub done : List Chain
  pub rest : List Chain
  pub parts : chains ≡ done ++ rest
  pub low : (y : ℕ) → IsMember (all_items rest) y → k < y
  pub relinked : AreRelinked number (λ _. renamed_link (place_in (all_items chains))) old now (all_items done)
  pub numbered : AreNumbered number now.slots count (all_items done)
  pub reports : ReportsMoves g key (ptr_at (slot_at old.slots)) generation 1 f (all_items done) last
  pub ahead : ℕ
  pub allowed : ahead + credit ≤ length old.slots + count
  pub work : IsWork before after 0 (ahead + (k + 4 * length (all_items done)))

module _ {Gen K T F P : Type 0} (number : K → Option ℕ) (g : F → P → P → F → Type 0) (key : P → ℕ × Gen) (generation : Gen) (f : F) (old : DetachedView Gen (RawLink K T)) (before : Arena Gen (RawLink K T)) where
  pub order_begins : IsWellLinked (link_map_in number old.slots) → ((j : ℕ) → destination_at number old.slots j ≡ None) → (credit : ℕ) → credit ≤ length old.slots
      → IsOrdering number g key generation f f old old before before 0 0 credit
  order_begins agrees none credit few =
      let within = slots-within (body_interlinks number) old.slots in
      let all = the_chains (link_map_in number old.slots) (length old.slots) agrees within in
      record {
        chains = all.0;
        are = all.1;
        done = [];
        rest = all.0;
        parts = refl;
        low = λ y h. (let w = within.within y ((all.1.partition.valid y).1 h) in let l : 1 ≤ y = w.0 in omega arith);
        relinked = relinked_none number (λ _. renamed_link (place_in (all_items all.0))) old;
        numbered = record { destinations = none; counts = refl };
        reports = reports_none g key (ptr_at (slot_at old.slots)) generation 1 f;
        ahead = 0;
        allowed = omega (arith, few);
        work = work-none before 0;
      }

  module _ (last : F) (now : DetachedView Gen (RawLink K T)) (after : Arena Gen (RawLink K T)) (count k credit : ℕ) (o : IsOrdering number g key generation f last old now before after count k credit) where
    as_old : (j : ℕ) → (IsMember (all_items o.done) j → ⊥) → link_map_in number now.slots j ≡ link_map_in number old.slots j
    as_old j out = ap (option_map (body_interlinks number)) (o.relinked.stay j out)

    are : AreChains (link_map_in number old.slots) o.chains
    are = chains_from_pairs (link_map_in number old.slots) o.chains o.are.partition o.are.interlinks

    all_parts : all_items o.chains ≡ all_items o.done ++ all_items o.rest
    all_parts = ap all_items o.parts ∙ all_items-append o.done o.rest

    once : AreDistinct (all_items o.done ++ all_items o.rest)
    once = subst AreDistinct all_parts are.once

    rest_valid : (j : ℕ) → IsMember (all_items o.rest) j → HasLink (link_map_in number old.slots) j
    rest_valid j h = (o.are.partition.valid j).1 (subst (λ (xs : List ℕ). IsMember xs j) (sym all_parts) (IsMember-right (all_items o.done) (all_items o.rest) j h))

    not_numbered : (i : ℕ) → is_fresh number (slot_at now.slots i) ≡ true → IsMember (all_items o.done) i → ⊥
    not_numbered i fresh h =
        let p = has-place 1 (all_items o.done) i h in
        let none : None ≡ Some p.0 = sym (fresh_none number (slot_at now.slots i) fresh) ∙ (o.numbered.destinations i ∙ p.1) in
        absurd (cc)

    kept_chain : (i : ℕ) → is_fresh number (slot_at now.slots i) ≡ true → (c : Chain) → IsChain (link_map_in number old.slots) c → IsMember (items c) i → IsChain (link_map_in number now.slots) c
    kept_chain i fresh c h m = IsChain-frame (link_map_in number old.slots) (link_map_in number now.slots) c (λ j n. sym (as_old j (out j n))) h
      where
        out : (j : ℕ) → IsMember (items c) j → IsMember (all_items o.done) j → ⊥
        out j n d =
            let e = chain_at o.done j d in
            let among : HasChain o.chains e.0 = subst (λ (cs : List Chain). HasChain cs e.0) (sym o.parts) (has_chain-left o.done o.rest e.0 e.1) in
            not_numbered i fresh (IsMember-all_items o.done e.0 i e.1 (chains_share (link_map_in number old.slots) c e.0 j i h (are.each e.0 among) n e.2 m))

    start_was : (i start : ℕ) → is_fresh number (slot_at now.slots i) ≡ true → IsStart (link_map_in number now.slots) i start → IsStart (link_map_in number old.slots) i start
    start_was i start fresh from = record {
      in_linear = λ xs h m. from.in_linear xs (kept_chain i fresh (linear xs) h m) m;
      in_cyclic = λ xs h. from.in_cyclic xs (kept_chain i fresh (cyclic (i ∷ xs)) h (inl refl));
    }

    pub order_starts : (mid : DetachedView Gen (RawLink K T)) → mid ≡ now → (was first : ℕ) (known starts : List ℕ) → AreStarts (link_map_in number old.slots) was known
        → ((first ≡ was) × (starts ≡ known)) ⊎ AreStartsOfFresh number mid.slots first starts → AreStarts (link_map_in number old.slots) first starts
    order_starts mid lookup was first known starts at (inl e) = subst (λ (n : ℕ). AreStarts (link_map_in number old.slots) n starts) (sym e.0) (subst (AreStarts (link_map_in number old.slots) was) (sym e.1) at)
    order_starts mid lookup was first known starts at (inr found) =
        let here = subst (λ (h : DetachedView Gen (RawLink K T)). AreStartsOfFresh number h.slots first starts) lookup found in
        λ d some. start_was (first + d + 1) (slice_index starts d) (here.1 d some) (here.0 d some)

    ended : ((y : ℕ) → IsMember (all_items o.rest) y → ⊥) → k ≤ length old.slots → AreAllNumbered number g key generation f last old now before after count
    ended none few = record {
      indexes = all_items o.done;
      order = record { chains = o.chains; are = o.are; items = sym whole };
      counted = o.numbered.counts;
      destinations = o.numbered.destinations;
      renamed = all_relinked number (place_in (all_items o.done)) old now (all_items o.done)
          (subst (λ (xs : List ℕ). AreRelinked number (λ _. renamed_link (place_in xs)) old now (all_items o.done)) whole o.relinked) each;
      reports = o.reports;
      work = work-few o.work (2 * length old.slots + 5 * length (all_items o.done)) (omega (arith, few, o.allowed, o.numbered.counts));
    }
      where
        whole : all_items o.chains ≡ all_items o.done
        whole = all_parts ∙ (ap (λ (xs : List ℕ). all_items o.done ++ xs) (no_items (all_items o.rest) none) ∙ append-nil (all_items o.done))

        each : (j : ℕ) (e : Gen × RawLink K T) → slot_at old.slots j ≡ Some e → IsMember (all_items o.done) j
        each j e is =
            subst (λ (xs : List ℕ). IsMember xs j) whole ((o.are.partition.valid j).0 (record { link = body_interlinks number e; links = ap (option_map (body_interlinks number)) is }))

    pub order_ends : k ≡ length old.slots → AreAllNumbered number g key generation f last old now before after count
    order_ends all = ended none (omega (arith, all))
      where
        none : (y : ℕ) → IsMember (all_items o.rest) y → ⊥
        none y h =
            let low : k < y = o.low y h in
            let high : y ≤ length old.slots = ((slots-within (body_interlinks number) old.slots).within y (rest_valid y h)).1 in
            omega (arith, all)

    pub order_full : count ≡ count_by is_some old.slots → k ≤ length old.slots → AreAllNumbered number g key generation f last old now before after count
    order_full full few = ended none few
      where
        stored : count_by is_some old.slots ≡ length (all_items o.chains)
        stored =
            count-stored (record before { slots = old.slots }) (all_items o.chains) are.once
            (λ i e s. (o.are.partition.valid i).0 (record { link = body_interlinks number e; links = ap (option_map (body_interlinks number)) s }))
            (λ i h. stored_at number old.slots i ((o.are.partition.valid i).1 h))

        nothing : (xs : List ℕ) → length xs ≡ 0 → (y : ℕ) → IsMember xs y → ⊥
        nothing [] e y h = h
        nothing (x ∷ xs) e y h = cc

        none : (y : ℕ) → IsMember (all_items o.rest) y → ⊥
        none = nothing (all_items o.rest) (omega (arith, full, stored, o.numbered.counts, ap length all_parts, length-append (all_items o.done) (all_items o.rest)))

    module _ (i : ℕ) (is : i ≡ k + 1) where
      pub order_skips : (mid : DetachedView Gen (RawLink K T)) (was_read : Arena Gen (RawLink K T)) → mid ≡ now → is_fresh number (slot_at now.slots i) ≡ false → IsWork after was_read 0 1
          → IsOrdering number g key generation f last old mid before was_read count (k + 1) credit
      order_skips mid was_read same stale lookup = record {
        chains = o.chains;
        are = o.are;
        done = o.done;
        rest = o.rest;
        parts = o.parts;
        low = λ y h. lower y h (ℕ_discrete y i);
        relinked = subst (λ (h : DetachedView Gen (RawLink K T)). AreRelinked number (λ _. renamed_link (place_in (all_items o.chains))) old h (all_items o.done)) (sym same) o.relinked;
        numbered = subst (λ (h : DetachedView Gen (RawLink K T)). AreNumbered number h.slots count (all_items o.done)) (sym same) o.numbered;
        reports = o.reports;
        ahead = o.ahead;
        allowed = o.allowed;
        work = work-more o.work lookup 0 (o.ahead + (k + 1 + 4 * length (all_items o.done))) refl (omega arith);
      }
        where
          not_here : IsMember (all_items o.rest) i → ⊥
          not_here h =
              let v = rest_valid i h in
              let out = λ (m : IsMember (all_items o.done) i). AreDistinct-apart (all_items o.done) (all_items o.rest) i once m h in
              stale_some number (slot_at now.slots i) v.link (as_old i out ∙ v.links) stale (o.numbered.destinations i ∙ place-none 1 (all_items o.done) i out)

          lower : (y : ℕ) → IsMember (all_items o.rest) y → Dec (y ≡ i) → k + 1 < y
          lower y h (yes s) = absurd (not_here (subst (IsMember (all_items o.rest)) s h))
          lower y h (no ne) = let low : k < y = o.low y h in omega arith

      module _ (fresh : is_fresh number (slot_at now.slots i) ≡ true) where
        not_done : IsMember (all_items o.done) i → ⊥
        not_done = not_numbered i fresh

        stored : HasLink (link_map_in number old.slots) i
        stored = let s = fresh_reported number (slot_at now.slots i) fresh in record { link = s.0; links = sym (as_old i not_done) ∙ s.1 }

        in_rest : IsMember (all_items o.rest) i
        in_rest = by (IsMember-parts (all_items o.done) (all_items o.rest) i (subst (λ (xs : List ℕ). IsMember xs i) all_parts (are.all i stored)))
          where
            by : IsMember (all_items o.done) i ⊎ IsMember (all_items o.rest) i → IsMember (all_items o.rest) i
            by (inr h) = h
            by (inl h) = absurd (not_done h)

        the_next : IsNext o.rest i
        the_next = next_chain o.rest k i is (ascends-right o.done o.rest (subst IsSortedByLeast o.parts o.are.order.ascends)) o.low in_rest

        first_here : HasChain o.chains the_next.first
        first_here = subst (λ (cs : List Chain). HasChain cs the_next.first) (sym o.parts)
            (has_chain-right o.done o.rest the_next.first (subst (λ (cs : List Chain). HasChain cs the_next.first) (sym the_next.rest_is) (inl refl)))

        apart : (j : ℕ) → IsMember (items the_next.first) j → IsMember (all_items o.done) j → ⊥
        apart j h m = AreDistinct-apart (all_items o.done) (all_items o.rest) j once m
            (subst (λ (cs : List Chain). IsMember (all_items cs) j) (sym the_next.rest_is) (IsMember-left (items the_next.first) (all_items the_next.others) j h))

        first_chain : IsChain (link_map_in number now.slots) the_next.first
        first_chain = IsChain-frame (link_map_in number old.slots) (link_map_in number now.slots) the_next.first (λ j h. sym (as_old j (apart j h))) (are.each the_next.first first_here)

        first_written : StartsAtLeast the_next.first
        first_written = o.are.order.written the_next.first first_here

        starts : (start : ℕ) → IsStart (link_map_in number now.slots) i start → first_or (items the_next.first) None ≡ Some start
        starts start from = by the_next.first first_chain first_written the_next.has the_next.least
          where
            by : (c : Chain) → IsChain (link_map_in number now.slots) c → StartsAtLeast c → IsMember (items c) i → ((y : ℕ) → IsMember (items c) y → i ≤ y) → first_or (items c) None ≡ Some start
            by (linear xs) h w m least = from.in_linear xs h m
            by (cyclic []) h w m least = absurd m
            by (cyclic (x ∷ xs)) h w m least =
                let low : x ≤ i = written_least x xs i w m in
                let high : i ≤ x = least x (inl refl) in
                let same : x ≡ i = omega arith in
                let at : start ≡ i = from.in_cyclic xs (subst (λ (z : ℕ). IsChain (link_map_in number now.slots) (cyclic (z ∷ xs))) same h) in
                ap (λ (z : ℕ). Some z) (same ∙ sym at)

        start_is : (start : ℕ) → IsStart (link_map_in number old.slots) i start → IsStart (link_map_in number now.slots) i start
        start_is start from = record {
          in_linear = λ xs h m. from.in_linear xs (was_chain (linear xs) h m) m;
          in_cyclic = λ xs h. from.in_cyclic xs (was_chain (cyclic (i ∷ xs)) h (inl refl));
        }
          where
            was_chain : (c : Chain) → IsChain (link_map_in number now.slots) c → IsMember (items c) i → IsChain (link_map_in number old.slots) c
            was_chain c h m =
                IsChain-frame (link_map_in number now.slots) (link_map_in number old.slots) c
                (λ j n. as_old j (apart j (chains_share (link_map_in number now.slots) c the_next.first i j h first_chain m the_next.has n))) h

        found_from : HasChainFrom (link_map_in number now.slots) i
        found_from = by the_next.first first_chain first_written the_next.has the_next.least
          where
            by : (c : Chain) → IsChain (link_map_in number now.slots) c → StartsAtLeast c → IsMember (items c) i → ((y : ℕ) → IsMember (items c) y → i ≤ y) → HasChainFrom (link_map_in number now.slots) i
            by (linear xs) h w m least = (xs, inl (h, m))
            by (cyclic []) h w m least = absurd m
            by (cyclic (x ∷ xs)) h w m least =
                let low : x ≤ i = written_least x xs i w m in
                let high : i ≤ x = least x (inl refl) in
                let same : x ≡ i = omega arith in
                (xs, inr (subst (λ (z : ℕ). IsChain (link_map_in number now.slots) (cyclic (z ∷ xs))) same h))

        start_work : (a b : Arena Gen (RawLink K T)) (on : ℕ) → ((xs : List ℕ) → IsChain (link_map_in number now.slots) (linear xs) → IsMember xs i → IsWork a b 0 (length xs + on))
            → ((xs : List ℕ) → IsChain (link_map_in number now.slots) (cyclic (i ∷ xs)) → IsWork a b 0 (length xs + 1 + on)) → IsWork a b 0 (length (items the_next.first) + on)
        start_work a b on in_linear in_cyclic = by the_next.first first_chain first_written the_next.has the_next.least
          where
            by : (c : Chain) → IsChain (link_map_in number now.slots) c → StartsAtLeast c → IsMember (items c) i → ((y : ℕ) → IsMember (items c) y → i ≤ y) → IsWork a b 0 (length (items c) + on)
            by (linear xs) h w m least = in_linear xs h m
            by (cyclic []) h w m least = absurd m
            by (cyclic (x ∷ xs)) h w m least =
                let low : x ≤ i = written_least x xs i w m in
                let high : i ≤ x = least x (inl refl) in
                let same : x ≡ i = omega arith in
                let long : length xs + 1 + on ≡ length (x ∷ xs) + on = omega arith in
                subst (IsWork a b 0) long (in_cyclic xs (subst (λ (z : ℕ). IsChain (link_map_in number now.slots) (cyclic (z ∷ xs))) same h))

        with_first : all_items o.done ++ items the_next.first ≡ all_items (o.done ++ the_next.first ∷ [])
        with_first = sym (all_items-append o.done (the_next.first ∷ []) ∙ ap (λ (xs : List ℕ). all_items o.done ++ xs) (append-nil (items the_next.first)))

        fits : length (all_items o.done) + length (items the_next.first) ≤ length now.slots
        fits =
            let long : length now.slots ≡ length old.slots = o.relinked.long in
            let bound : length (all_items o.chains) ≤ length old.slots = length_bound (all_items o.chains) (length old.slots) are.once
            (λ j h. (slots-within (body_interlinks number) old.slots).within j ((o.are.partition.valid j).1 h)) in
            let a : length (all_items o.chains) ≡ length (all_items o.done ++ all_items o.rest) = ap length all_parts in
            let b : length (all_items o.done ++ all_items o.rest) ≡ length (all_items o.done) + length (all_items o.rest) = length-append (all_items o.done) (all_items o.rest) in
            let c : length (all_items o.rest) ≡ length (items the_next.first ++ all_items the_next.others) = ap (λ (cs : List Chain). length (all_items cs)) the_next.rest_is in
            let d : length (items the_next.first ++ all_items the_next.others) ≡ length (items the_next.first) + length (all_items the_next.others) = length-append (items the_next.first) (all_items the_next.others) in
            omega arith

        module _ (mid : DetachedView Gen (RawLink K T)) (lookup : mid ≡ now) where
          pub order_found : HasChainFrom (link_map_in number mid.slots) i
          order_found = subst (λ (h : DetachedView Gen (RawLink K T)). HasChainFrom (link_map_in number h.slots) i) (sym lookup) found_from

          pub order_known : {I : Type 0} (index : I → ℕ) → ((j : I) → 1 ≤ index j) → (first : ℕ) (found : List ℕ) (known : Option I) → AreStarts (link_map_in number old.slots) first found
              → IfSome known (λ j. first ≤ k) → IfSome known (λ j. index j ≡ slice_index found (k - first)) → IfSome known (λ j. IsStart (link_map_in number mid.slots) i (index j))
          order_known index least first found None at behind reads = tt
          order_known index least first found (Some j) at behind reads =
              let some : slice_index found (k - first) ≢ 0 = λ none. (let low : 1 ≤ index j = least j in omega (arith, low, reads, none)) in
              let here : first + (k - first) + 1 ≡ i = omega (arith, behind, is) in
              subst (λ (h : DetachedView Gen (RawLink K T)). IsStart (link_map_in number h.slots) i (index j)) (sym lookup)
              (start_is (index j) (subst (IsStart (link_map_in number old.slots) i) (sym reads) (subst (λ (n : ℕ). IsStart (link_map_in number old.slots) n (slice_index found (k - first))) here (at (k - first) some))))

          module _ (was_stored : DetachedView Gen (RawLink K T)) (walked : was_stored ≡ mid) (start : ℕ) (from : IsStart (link_map_in number mid.slots) i start) where
            can_number_here : CanNumber number was_stored.slots start count (all_items o.done) the_next.first
            can_number_here = subst (λ (h : DetachedView Gen (RawLink K T)). CanNumber number h.slots start count (all_items o.done) the_next.first) (sym (walked ∙ lookup)) (record {
              numbered = o.numbered;
              chain = first_chain;
              starts = starts start (subst (λ (h : DetachedView Gen (RawLink K T)). IsStart (link_map_in number h.slots) i start) lookup from);
              apart = apart;
              fits = fits;
            })

            pub order_can : (done : List ℕ) × (c : Chain) × CanNumber number was_stored.slots start count done c
            order_can = (all_items o.done, the_next.first, can_number_here)

            pub order_continues : (a b d : Arena Gen (RawLink K T)) (next : F) (new : DetachedView Gen (RawLink K T)) (more reads on left : ℕ)
                → IsWork after a 0 (1 + reads)
                → left + (reads + on) ≤ credit + (more - count)
                → ((xs : List ℕ) → IsChain (link_map_in number mid.slots) (linear xs) → IsMember xs i → IsWork a b 0 (length xs + on))
                → ((xs : List ℕ) → IsChain (link_map_in number mid.slots) (cyclic (i ∷ xs)) → IsWork a b 0 (length xs + 1 + on))
                → ((done : List ℕ) (c : Chain) → CanNumber number was_stored.slots start count done c → IsChainNumbered number g key generation last next was_stored new b d more done c)
                → IsOrdering number g key generation f next old new before d more (k + 1) left
            order_continues a b d next new more reads on left was_read paid in_linear in_cyclic numbers = record {
              chains = o.chains;
              are = o.are;
              done = o.done ++ the_next.first ∷ [];
              rest = the_next.others;
              parts = o.parts ∙ (ap (λ (cs : List Chain). o.done ++ cs) the_next.rest_is ∙ sym (chains_assoc o.done the_next.first the_next.others));
              low = λ y h. (let low : i < y = the_next.above y h in omega arith);
              relinked = subst (AreRelinked number (λ _. renamed_link (place_in (all_items o.chains))) old new) with_first
                  (relinked_then number (λ _. renamed_link (place_in (all_items o.chains))) old now (all_items o.done) o.relinked new (items the_next.first) first_relinked apart);
              numbered = subst (AreNumbered number new.slots more) with_first chain.numbered;
              reports = subst (λ (xs : List ℕ). ReportsMoves g key (ptr_at (slot_at old.slots)) generation 1 f xs next) with_first
                  (reports_then g key (ptr_at (slot_at old.slots)) generation 1 f last next (all_items o.done) (items the_next.first) o.reports
                  (subst (λ (n : ℕ). ReportsMoves g key (ptr_at (slot_at old.slots)) generation n last (items the_next.first) next) place
                  (subst (λ (pointer : ℕ → Option (ℕ × Gen)). ReportsMoves g key pointer generation (length (all_items o.done) + 1) last (items the_next.first) next) pointers chain.reports)));
              ahead = o.ahead + (reads + on);
              allowed = omega (arith, o.allowed, paid, o.numbered.counts, chain.numbered.counts, length-append (all_items o.done) (items the_next.first));
              work = work-more (work-more (work-more o.work was_read 0 (o.ahead + reads + (k + 1 + 4 * length (all_items o.done))) refl (omega arith))
                  walk 0 (o.ahead + (reads + on) + (k + 1 + 4 * length (all_items o.done) + length (items the_next.first))) refl (omega arith))
                  chain.work 0 (o.ahead + (reads + on) + (k + 1 + 4 * length (all_items (o.done ++ the_next.first ∷ [])))) refl (omega (arith, long));
            }
              where
                chain : IsChainNumbered number g key generation last next was_stored new b d more (all_items o.done) the_next.first
                chain = numbers (all_items o.done) the_next.first can_number_here

                pointers : ptr_at (slot_at was_stored.slots) ≡ ptr_at (slot_at old.slots)
                pointers =
                    ap (λ (h : DetachedView Gen (RawLink K T)). ptr_at (slot_at h.slots)) (walked ∙ lookup)
                    ∙ relinked_ptr number (λ _. renamed_link (place_in (all_items o.chains))) old now (all_items o.done) o.relinked

                place : length (all_items o.done) + 1 ≡ 1 + length (all_items o.done)
                place = omega arith

                in_all : (j : ℕ) → IsMember (items the_next.first) j → place_from (length (all_items o.done) + 1) (items the_next.first) j ≡ place_in (all_items o.chains) j
                in_all j h =
                    ap (λ (n : ℕ). place_from n (items the_next.first) j) place
                    ∙ (sym (place-front (1 + length (all_items o.done)) (items the_next.first) (all_items the_next.others) j h)
                    ∙ (sym (place-append 1 (all_items o.done) (items the_next.first ++ all_items the_next.others) j (apart j h))
                    ∙ ap (λ (xs : List ℕ). place_in xs j) (ap (λ (cs : List Chain). all_items o.done ++ all_items cs) (sym the_next.rest_is) ∙ sym all_parts)))

                now_relinked : AreRelinked number (λ _. renamed_link (place_from (length (all_items o.done) + 1) (items the_next.first))) now new (items the_next.first)
                now_relinked = subst (λ (h : DetachedView Gen (RawLink K T)). AreRelinked number (λ _. renamed_link (place_from (length (all_items o.done) + 1) (items the_next.first))) h new (items the_next.first)) (walked ∙ lookup) chain.relinked

                first_relinked : AreRelinked number (λ _. renamed_link (place_in (all_items o.chains))) now new (items the_next.first)
                first_relinked =
                    relinked_as number (λ _. renamed_link (place_from (length (all_items o.done) + 1) (items the_next.first))) now new (items the_next.first) now_relinked
                    (λ _. renamed_link (place_in (all_items o.chains))) (λ j h. renamed_alike number (place_from (length (all_items o.done) + 1) (items the_next.first)) (place_in (all_items o.chains)) now.slots the_next.first first_chain in_all j h)

                long : length (all_items (o.done ++ the_next.first ∷ [])) ≡ length (all_items o.done) + length (items the_next.first)
                long = ap length (sym with_first) ∙ length-append (all_items o.done) (items the_next.first)

                walk : IsWork a b 0 (length (items the_next.first) + on)
                walk = start_work a b on
                    (subst (λ (h : DetachedView Gen (RawLink K T)). (xs : List ℕ) → IsChain (link_map_in number h.slots) (linear xs) → IsMember xs i → IsWork a b 0 (length xs + on)) lookup in_linear)
                    (subst (λ (h : DetachedView Gen (RawLink K T)). (xs : List ℕ) → IsChain (link_map_in number h.slots) (cyclic (i ∷ xs)) → IsWork a b 0 (length xs + 1 + on)) lookup in_cyclic)
