-- The target of a transfer.
use Rattle.std.proofs.Common.{◌≡◌, ℕ, zero, suc, ◌+◌, Bool, List, [], ◌∷◌, ◌++◌, length, Option, None, Some, refl, sym, ap, ap₂, ◌∙◌, subst, length-append, arith}
use Rattle.std.specs.Option.{option_map}
use Rattle.chain_laws.specs.Chains.{LinkMap, Interlinks, Chain, all_items, AreChains}
use Rattle.chain_laws.specs.Insertions.{IsInsertPosition, with_insertion}
use Rattle.chain_laws.specs.Arrangements.{in_runs}
use Rattle.chain_laws.specs.Transfer.{with_appended, end_before, end_after}
use Rattle.chain_laws.proofs.TransferLemmas.Target.{last_is_appended}
use Rattle.arena_traits.specs.Arena.{Arena, IsListed, slot_at, entry_count, slots_after_insertion, first_or_next, next_index, without_first}
use Rattle.arena_traits.specs.Entries.{entries, entries_from}
use Rattle.chain_links.specs.ChainArena.{LinkView, link_value, values_of, interlinks_of, link_map, lone, insert_lone, insert_between}
use Rattle.chain_links.proofs.MappedArenaLemmas.{length-with_each}
use Rattle.chain_links.proofs.LinkStateLemmas.{length-with_link_map}
use Rattle.chain_links.proofs.ArenaInsertionLemmas.{values-count}
use Rattle.chain_arena.proofs.InsertionEffectLemmas.{link_map-insert_between, values_of-insert_between}

module _ {Gen T : Type 0} where
  entries_from-append : (i : ℕ) (slots : List (Option (Gen × T))) (e : Gen × T) → entries_from i (slots ++ Some e ∷ []) ≡ entries_from i slots ++ ((i + length slots, e.0), e.1) ∷ []
  entries_from-append i [] e = ap (λ n. let es : List ((ℕ × Gen) × T) = ((n, e.0), e.1) ∷ [] in es) (omega arith)
  entries_from-append i (None ∷ slots) e = entries_from-append (suc i) slots e ∙ ap (λ n. entries_from (suc i) slots ++ ((n, e.0), e.1) ∷ []) (omega arith)
  entries_from-append i (Some x ∷ slots) e =
      ap (λ es. ((i, x.0), x.1) ∷ es) (entries_from-append (suc i) slots e ∙ ap (λ n. entries_from (suc i) slots ++ ((n, e.0), e.1) ∷ []) (omega arith))

module _ {Gen T : Type 0} where
  -- The entries of the transferred links, in the runs of these chains.
  pub record IsLanded (start now : Arena Gen (LinkView T)) (arranged : List Chain) (values : List ((ℕ × Gen) × T)) : Type 0 where
    pub chains : AreChains (link_map now) (in_runs 1 arranged)
    pub entered : entries (values_of now) ≡ values
    pub slots : length now.slots ≡ length values
    pub state : now ≡ record start { slots = now.slots; placed = start.placed + length values }

  pub landing_begins : (start : Arena Gen (LinkView T)) → start.slots ≡ [] → IsLanded start start [] []
  landing_begins start none = record {
    chains = record {
      each = λ c h. absurd h;
      once = tt;
      all = λ i v. absurd (nothing i v.link v.links);
    };
    entered = ap (λ (s : List (Option (Gen × LinkView T))). entries (values_of (record start { slots = s }))) none;
    slots = ap length none;
    state = ap (λ n. let a : Arena Gen (LinkView T) = record start { placed = n } in a) (let e : start.placed ≡ start.placed + 0 = omega arith in e);
  }
    where
      at_none : (i : ℕ) → slot_at {X = Gen × LinkView T} [] i ≡ None
      at_none zero = refl
      at_none (suc k) = refl

      nothing : (i : ℕ) (l : Interlinks) → link_map start i ≡ Some l → ⊥
      nothing i l e =
          let empty : link_map start i ≡ None = ap (λ (s : List (Option (Gen × LinkView T))). option_map interlinks_of (slot_at s i)) none ∙ ap (option_map interlinks_of) (at_none i) in
          cc

  module _ (start now : Arena Gen (LinkView T)) (done : List Chain) (is_cyclic : Bool) (xs : List ℕ) (values : List ((ℕ × Gen) × T)) (landed : IsLanded start now (with_appended done is_cyclic xs) values) (unfreed : start.freed ≡ []) where
    pub now_unfreed : now.freed ≡ []
    now_unfreed = ap (λ (a : Arena Gen (LinkView T)). a.freed) landed.state ∙ unfreed

    pub next_behind : next_index now ≡ length values + 1
    next_behind = ap₂ first_or_next now_unfreed landed.slots

    pub count_landed : entry_count now ≡ length values
    count_landed = sym (values-count now) ∙ ap length landed.entered

    module _ (long : length values ≡ length (all_items done) + length xs) where
      at_end : next_index now ≡ length (all_items done) + length xs + 1
      at_end = next_behind ∙ ap (λ n. n + 1) long

      pub position_at_end : IsInsertPosition (link_map now) (next_index now) (end_before is_cyclic (length xs) (next_index now)) (end_after is_cyclic (length xs) (next_index now))
      position_at_end = (last_is_appended (link_map now) done is_cyclic xs 0 (next_index now) landed.chains at_end).1

      module _ (t : T) (listed : IsListed now) where
        abbrev there : Arena Gen (LinkView T)
        there = insert_between now t (end_before is_cyclic (length xs) (next_index now)) (end_after is_cyclic (length xs) (next_index now))

        reported_there : link_map there ≡ with_insertion (link_map now) (next_index now) (end_before is_cyclic (length xs) (next_index now)) (end_after is_cyclic (length xs) (next_index now))
        reported_there = link_map-insert_between now t listed (end_before is_cyclic (length xs) (next_index now)) (end_after is_cyclic (length xs) (next_index now))

        values_there : entries (values_of there) ≡ values ++ ((length values + 1, start.counter), t) ∷ []
        values_there =
            ap entries (values_of-insert_between now t listed (end_before is_cyclic (length xs) (next_index now)) (end_after is_cyclic (length xs) (next_index now)))
            ∙ (ap (λ (f : List ℕ). entries_from 1 (slots_after_insertion f (values_of now).slots (now.counter, t))) now_unfreed
            ∙ (entries_from-append 1 (values_of now).slots (now.counter, t)
            ∙ ap₂ (λ (es : List ((ℕ × Gen) × T)) (p : ℕ × Gen). es ++ (p, t) ∷ []) landed.entered
            (ap₂ (λ (n : ℕ) (g : Gen). (n, g)) (let e : 1 + length (values_of now).slots ≡ length values + 1 = omega (arith, length-with_each link_value now, landed.slots) in e) (ap (λ (a : Arena Gen (LinkView T)). a.counter) landed.state))))

        slots_there : length there.slots ≡ length (values ++ ((length values + 1, start.counter), t) ∷ [])
        slots_there =
            length-with_link_map (insert_lone now t) _
            ∙ (ap (λ (f : List ℕ). length (slots_after_insertion f now.slots (now.counter, lone t))) now_unfreed
            ∙ (length-append now.slots (Some (now.counter, lone t) ∷ []) ∙ (ap (λ n. n + 1) landed.slots ∙ sym (length-append values (((length values + 1, start.counter), t) ∷ [])))))

        state_there : there ≡ record start { slots = there.slots; placed = start.placed + length (values ++ ((length values + 1, start.counter), t) ∷ []) }
        state_there =
            let made = (λ (s : List (Option (Gen × LinkView T))) (f : List ℕ) (n : ℕ). let a : Arena Gen (LinkView T) = record start { slots = s; freed = f; placed = n } in a) in
            let fields : there ≡ made there.slots (without_first now.freed) (now.placed + 1) = ap (λ (a : Arena Gen (LinkView T)). let b : Arena Gen (LinkView T) = record a { slots = there.slots; freed = without_first now.freed; placed = now.placed + 1 } in b) landed.state in
            fields
            ∙ (ap (λ f. made there.slots f (now.placed + 1)) (ap without_first now_unfreed ∙ sym unfreed)
            ∙ ap (λ n. made there.slots start.freed n)
            (let e : now.placed + 1 ≡ start.placed + length (values ++ ((length values + 1, start.counter), t) ∷ []) = omega (arith, ap (λ (a : Arena Gen (LinkView T)). a.placed) landed.state, length-append values (((length values + 1, start.counter), t) ∷ [])) in e))

        pub landing_continues : (x : ℕ) → IsLanded start there (with_appended done is_cyclic (xs ++ x ∷ [])) (values ++ ((length values + 1, start.counter), t) ∷ [])
        landing_continues x = record {
          chains = subst (λ (m : LinkMap). AreChains m (in_runs 1 (with_appended done is_cyclic (xs ++ x ∷ [])))) (sym reported_there) (last_is_appended (link_map now) done is_cyclic xs x (next_index now) landed.chains at_end).2;
          entered = values_there;
          slots = slots_there;
          state = state_there;
        }
