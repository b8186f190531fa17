-- The source of a transfer, by the traits alone.
use Rattle.std.proofs.Common.{◌≡◌, ◌≢◌, ℕ, suc, ◌+◌, ◌≤◌, ◌<◌, ◌⊎◌, inl, inr, Bool, true, false, List, [], ◌∷◌, ◌++◌, length, Option, None, Some, refl, sym, ap, ◌∙◌, subst, length-append, arith}
use Rattle.std.specs.Prelude.{is_some}
use Rattle.std.specs.Option.{option_map}
use Rattle.std.proofs.Math.Decide.{ℕ_discrete}
use Rattle.chain_laws.specs.Chains.{LinkMap, Interlinks, Chain, items, IsMember, HasLink, IsInOrder, IsWellLinked, AreChains, first_or, next_of}
use Rattle.chain_laws.specs.Removals.{with_removal}
use Rattle.chain_laws.specs.Walks.{step_forward}
use Rattle.chain_laws.specs.ChainStart.{chain_of}
use Rattle.chain_laws.specs.Transfer.{with_rest}
use Rattle.chain_laws.proofs.InterlinkLemmas.Inverses.{if_same}
use Rattle.chain_laws.proofs.ListLemmas.Members.{filled-IsMember}
use Rattle.chain_laws.proofs.ChainLemmas.Uniqueness.{chain_valid, chain_filled}
use Rattle.chain_laws.proofs.TransferLemmas.Source.{items_of, least_is_next, first_is_taken}
use Rattle.chain_laws.proofs.RemovalLemmas.Pairs.{HasLink-removed}
use Rattle.arena_traits.specs.Entries.{ArenaView, found, view_after_removal, AscendsFrom}
use Rattle.arena_traits.specs.declared.cursor.Cursor.{Cursor}
use Rattle.arena_traits.specs.declared.cursor.Cursor.TheVariants.{Up}
use Rattle.arena_traits.proofs.EntrySearchLemmas.{found-kept}
use Rattle.chain_traits.proofs.GenericRemovalLemmas.{one_less}
use Rattle.chain_arena.specs.Drains.{after_times}
use Rattle.chain_arena.specs.Transfers.{entries_removed}
use Rattle.chain_traits.specs.DrainOrder.{IsNextChain}

tail_in_order : (c : Chain) (rest : List Chain) → IsInOrder (c ∷ rest) → IsInOrder rest
tail_in_order c rest order = record { written = λ d h. order.written d (inr h); ascends = order.ascends.1 }

module _ {Gen T : Type 0} where
  ascends_from : (from low : ℕ) (es : List ((ℕ × Gen) × T)) → AscendsFrom low es → ((j : ℕ) → is_some (found j es) ≡ true → from ≤ j) → AscendsFrom from es
  ascends_from from low [] ascends found_low = tt
  ascends_from from low (e ∷ es) ascends found_low = (found_low e.0.0 (ap is_some (if_same e.0.0 e.0.0 (Some (e.0.1, e.1)) (found e.0.0 es) refl)), ascends.1)

  -- There is a link exactly where an entry is found.
  abbrev pub StoredFound : LinkMap → ArenaView Gen T → Type 0
  StoredFound links view_after = (i : ℕ) → is_some (links i) ≡ is_some (found i view_after.entries)

  found_valid : (links : LinkMap) (view_after : ArenaView Gen T) → StoredFound links view_after → (i : ℕ) → is_some (found i view_after.entries) ≡ true → HasLink links i
  found_valid links view_after stored i there = by (links i) refl (stored i ∙ there) where
    by : (o : Option Interlinks) → links i ≡ o → is_some (links i) ≡ true → HasLink links i
    by None is some = absurd (let none = ap is_some is in let both = sym some ∙ none in cc)
    by (Some link) is some = record { link = link; links = is }

  valid_found : (links : LinkMap) (view_after : ArenaView Gen T) → StoredFound links view_after → (i : ℕ) → HasLink links i → is_some (found i view_after.entries) ≡ true
  valid_found links view_after stored i valid = sym (stored i) ∙ ap is_some valid.links

module _ {Gen T : Type 0} (following : Gen → Gen) where
  entries_removed-append : (s : ArenaView Gen T) (xs : List ℕ) (i : ℕ) → entries_removed following s (xs ++ i ∷ []) ≡ view_after_removal following (entries_removed following s xs) i
  entries_removed-append s [] i = refl
  entries_removed-append s (x ∷ xs) i = entries_removed-append (view_after_removal following s x) xs i

  pub counter-entries_removed : (s : ArenaView Gen T) (xs : List ℕ) → (entries_removed following s xs).counter ≡ option_map (after_times following (length xs)) s.counter
  counter-entries_removed s [] = own s.counter
    where
      own : (o : Option Gen) → o ≡ option_map (after_times following 0) o
      own None = refl
      own (Some g) = refl
  counter-entries_removed s (x ∷ xs) = counter-entries_removed (view_after_removal following s x) xs ∙ once s.counter
    where
      once : (o : Option Gen) → option_map (after_times following (length xs)) (option_map following o) ≡ option_map (after_times following (suc (length xs))) o
      once None = refl
      once (Some g) = refl

  pub found-entries_removed : (s : ArenaView Gen T) (xs : List ℕ) (i : ℕ) → (IsMember xs i → ⊥) → found i (entries_removed following s xs).entries ≡ found i s.entries
  found-entries_removed s [] i none = refl
  found-entries_removed s (x ∷ xs) i none =
      found-entries_removed (view_after_removal following s x) xs i (λ h. none (inr h)) ∙ found-kept i x s.entries (λ same. none (inl (sym same)))

  -- The chains left, the first in part; links outside that part are at or above the advancer's
  -- index.
  pub record IsDeparting (source view_after : ArenaView Gen T) (links : LinkMap) (cursor : Cursor) (is_cyclic : Bool) (left : List ℕ) (rest : List Chain) (taken : List ℕ) : Type 0 where
    pub chains : AreChains links (with_rest is_cyclic left rest)
    pub order : IsInOrder rest
    pub same : view_after ≡ entries_removed following source taken
    pub size : length view_after.entries + length taken ≡ length source.entries
    pub from : ℕ
    pub up : cursor ≡ Up from
    pub low : (j : ℕ) → HasLink links j → (from ≤ j) ⊎ IsMember left j

  module _ (source view_after : ArenaView Gen T) (links : LinkMap) (cursor : Cursor) (is_cyclic : Bool) (rest : List Chain) (taken : List ℕ) (stored : StoredFound links view_after) where
    pub ascends_up : (d : IsDeparting source view_after links cursor is_cyclic [] rest taken) → AscendsFrom 1 view_after.entries → AscendsFrom d.from view_after.entries
    ascends_up d ascends = ascends_from d.from 1 view_after.entries ascends (λ j there. above (d.low j (found_valid links view_after stored j there)))
      where
        above : {j : ℕ} → (d.from ≤ j) ⊎ IsMember [] j → d.from ≤ j
        above (inl le) = le
        above (inr h) = absurd h

    pub entries_left : (left : List ℕ) → IsDeparting source view_after links cursor is_cyclic left rest taken → length taken < length source.entries → view_after.entries ≢ []
    entries_left left d few none = let long : length view_after.entries ≡ 0 = ap length none in omega (arith, d.size, long)

    pub departs_next : IsDeparting source view_after links cursor is_cyclic [] rest taken → (here : ℕ) (cyclic : Bool) (after : Cursor) → IsNextChain view_after links here cyclic after
        → (xs : List ℕ) × (others : List Chain) × (rest ≡ chain_of cyclic (here ∷ xs) ∷ others) × IsDeparting source view_after links after cyclic (here ∷ xs) others taken
    departs_next d here cyclic after next =
        let valid = found_valid links view_after stored next.least next.stored in
        let w = least_is_next links rest next.least here d.chains d.order valid (λ j v. next.none_below j (valid_found links view_after stored j v)) next.start in
        let is : rest ≡ chain_of cyclic (here ∷ w.0) ∷ w.1 = w.2 ∙ ap (λ (b : Bool). chain_of b (here ∷ w.0) ∷ w.1) (sym next.cyclic) in (
          w.0,
          w.1,
          is,
          record {
            chains = subst (AreChains links) is d.chains;
            order = tail_in_order (chain_of cyclic (here ∷ w.0)) w.1 (subst IsInOrder is d.order);
            same = d.same;
            size = d.size;
            from = next.least + 1;
            up = next.cursor;
            low = λ j v. above j (next.none_below j (valid_found links view_after stored j v)) (here ∷ w.0) w.3 (ℕ_discrete next.least j);
          },
        )
      where
        above : (j : ℕ) → next.least ≤ j → (left : List ℕ) → IsMember left next.least → Dec (next.least ≡ j) → (next.least + 1 ≤ j) ⊎ IsMember left j
        above j le left has (yes same) = inr (subst (IsMember left) same has)
        above j le left has (no ne) = inl (omega arith)

    module _ (i : ℕ) (xs : List ℕ) (d : IsDeparting source view_after links cursor is_cyclic (i ∷ xs) rest taken) where
      pub first_found : is_some (found i view_after.entries) ≡ true
      first_found = valid_found links view_after stored i (chain_valid links (chain_of is_cyclic (i ∷ xs)) i (d.chains.each (chain_of is_cyclic (i ∷ xs)) (inl refl)) (subst (λ (zs : List ℕ). IsMember zs i) (sym (items_of is_cyclic (i ∷ xs))) (inl refl)))

      pub departs_on : IsWellLinked links → (after : ArenaView Gen T) (links_after : LinkMap) → after ≡ view_after_removal following view_after i → links_after ≡ with_removal links i
          → IsDeparting source after links_after cursor is_cyclic xs rest (taken ++ i ∷ []) × (step_forward i (next_of links i) ≡ first_or xs None)
      departs_on agrees after links_after is passed =
          let w = first_is_taken links is_cyclic i xs rest agrees d.chains in (
            record {
              chains = subst (λ (m : LinkMap). AreChains m (with_rest is_cyclic xs rest)) (sym passed) w.0;
              order = d.order;
              same = is ∙ (ap (λ (s : ArenaView Gen T). view_after_removal following s i) d.same ∙ sym (entries_removed-append source taken i));
              size = omega (arith, d.size, ap (λ (s : ArenaView Gen T). length s.entries) is, one_less i view_after.entries first_found, length-append taken (i ∷ []));
              from = d.from;
              up = d.up;
              low = λ j v. let u = (HasLink-removed links i j).0 (subst (λ (m : LinkMap). HasLink m j) passed v) in stays j u.1 (d.low j u.0);
            },
            w.1,
          )
        where
          stays : (j : ℕ) → j ≢ i → (d.from ≤ j) ⊎ IsMember (i ∷ xs) j → (d.from ≤ j) ⊎ IsMember xs j
          stays j ne (inl le) = inl le
          stays j ne (inr (inl same)) = absurd (ne (sym same))
          stays j ne (inr (inr h)) = inr h

    pub all_departed : (left : List ℕ) → IsDeparting source view_after links cursor is_cyclic left rest taken → length taken ≡ length source.entries
        → (view_after.entries ≡ []) × (with_rest is_cyclic left rest ≡ [])
    all_departed left d all = (gone, nothing (with_rest is_cyclic left rest) d.chains)
      where
        empty : (es : List ((ℕ × Gen) × T)) → length es ≡ 0 → es ≡ []
        empty [] e = refl
        empty (x ∷ es) e = absurd (omega (arith, e))

        gone : view_after.entries ≡ []
        gone = empty view_after.entries (omega (arith, d.size, all))

        unfound : (i : ℕ) → is_some (found i view_after.entries) ≡ true → ⊥
        unfound i there = let none : is_some (found i view_after.entries) ≡ false = ap (λ (es : List ((ℕ × Gen) × T)). is_some (found i es)) gone in let both = sym there ∙ none in cc

        nothing : (chains : List Chain) → AreChains links chains → chains ≡ []
        nothing [] are = refl
        nothing (c ∷ chains) are =
            let h = are.each c (inl refl) in
            let some = filled-IsMember (items c) (chain_filled links c h) in
            absurd (unfound some.0 (valid_found links view_after stored some.0 (chain_valid links c some.0 h some.1)))
