-- The loop of a transfer.
use Rattle.std.proofs.Common.{◌≡◌, ◌≢◌, ℕ, ◌+◌, ◌≤◌, ◌<◌, inl, Bool, true, List, [], ◌∷◌, ◌++◌, length, map, Option, None, Some, refl, sym, ap, ap₂, ◌∙◌, subst, subst₂, append_assoc, append-nil, length-append, arith}
use Rattle.std.specs.Prelude.{is_some, IfSome, IfNone}
use Rattle.std.specs.Option.{option_map, option_and}
use Rattle.std.specs.Fn.{Mut, Called}
use Rattle.std.proofs.lemmas.List.{length-map, map-append}
use Rattle.arena_core.specs.Invalidation.{value_in, is_overflow}
use Rattle.arena_core.specs.declared.invalidation.InvalidationOption.{InvalidationOption}
use Rattle.chain_laws.specs.Chains.{LinkMap, Chain, all_items, IsMember, AreDistinct, HasLinksWithin, IsWellLinked, AreChains, first_or, next_of}
use Rattle.chain_laws.specs.Neighbors.{AreTheChains}
use Rattle.chain_laws.specs.Insertions.{IsInsertPosition}
use Rattle.chain_laws.specs.Removals.{with_removal}
use Rattle.chain_laws.specs.Renamings.{IsRenaming}
use Rattle.chain_laws.specs.Arrangements.{place_in, in_runs}
use Rattle.chain_laws.specs.Walks.{step_forward}
use Rattle.chain_laws.specs.Transfer.{with_rest, with_appended, end_before, end_after}
use Rattle.chain_laws.proofs.ListLemmas.Members.{AreDistinct-apart}
use Rattle.chain_laws.proofs.ChainLemmas.NeighborPairs.{agrees_from_chains, chains_from_pairs}
use Rattle.chain_laws.proofs.ChainLemmas.Partitions.{the_chains}
use Rattle.chain_laws.proofs.TransferLemmas.Source.{items_left}
use Rattle.chain_laws.proofs.TransferLemmas.Target.{all_items-append, items_arranged, arranged-length, arranged_between}
use Rattle.chain_laws.proofs.RenamingLemmas.ChainRuns.{runs_are_renumbered}
use Rattle.arena_traits.specs.Arena.{Arena, IsListed, entry_count, next_index}
use Rattle.arena_traits.specs.Entries.{ArenaView, found, view_after_removal, AscendsFrom}
use Rattle.arena_traits.specs.declared.cursor.Cursor.{Cursor}
use Rattle.arena_traits.specs.declared.cursor.Cursor.TheVariants.{Up}
use Rattle.chain_links.specs.ChainArena.{LinkView, link_map, insert_between}
use Rattle.chain_arena.specs.Drains.{after_times}
use Rattle.chain_arena.specs.Transfers.{TransferredLink, old_index, entries_removed, AreEnds, IsTransfer}
use Rattle.chain_traits.specs.DrainOrder.{IsNextChain}
use Rattle.chain_arena.proofs.TransferTargetLemmas.{IsLanded, landing_begins, landing_continues, next_behind, position_at_end, count_landed}
use Rattle.chain_arena.proofs.TransferSourceLemmas.{IsDeparting, StoredFound, ascends_up, entries_left, departs_next, departs_on, first_found, all_departed, found-entries_removed, counter-entries_removed}
use Rattle.chain_arena.proofs.TransferClosureLemmas.{AreCalled, calls_begin, calls_continue}

left_none : (left : List ℕ) → None ≡ first_or left None → left ≡ []
left_none [] e = refl
left_none (x ∷ xs) e = absurd (cc)

left_some : (left : List ℕ) (i : ℕ) → Some i ≡ first_or left None → (xs : List ℕ) × (left ≡ i ∷ xs)
left_some [] i e = absurd (cc)
left_some (x ∷ xs) i e = (xs, cc)

none_left : (is_cyclic : Bool) (left : List ℕ) (rest : List Chain) → with_rest is_cyclic left rest ≡ [] → (left ≡ []) × (rest ≡ [])
none_left is_cyclic [] rest e = (refl, e)
none_left is_cyclic (x ∷ xs) rest e = absurd (cc)

module _ {Q P G Gen I U T F : Type 0} (key : Q → ℕ × G) (new_key : P → ℕ × Gen) (following : G → G) (wraps : G → Bool) (call : Mut F (Q × (InvalidationOption U × (P × Unit {0}))) T)
    (number : I → ℕ) (source : ArenaView G U) (interlinks : LinkMap) (first : F) (start : Arena Gen (LinkView T)) where
  abbrev entered : List (TransferredLink Q P U T) → List ((ℕ × Gen) × T)
  entered transferred = map (λ (c : TransferredLink Q P U T). (new_key c.to, c.returned)) transferred

  -- k links are transferred over: some whole chains, and a part of the next.
  pub record IsCarrying (k : ℕ) (view_after : ArenaView G U) (links : LinkMap) (cursor : Cursor) (on : Option ℕ) (is_cyclic : Bool) (ends : Option (I × I)) (f : F) (now : Arena Gen (LinkView T)) : Type 0 where
    pub chains : List Chain
    pub are : AreTheChains interlinks chains
    pub done : List Chain
    pub taken : List ℕ
    pub left : List ℕ
    pub rest : List Chain
    pub parts : chains ≡ done ++ with_rest is_cyclic (taken ++ left) rest
    pub departing : IsDeparting following source view_after links cursor is_cyclic left rest (all_items (with_appended done is_cyclic taken))
    pub next : on ≡ first_or left None
    pub transferred : List (TransferredLink Q P U T)
    pub called : AreCalled key new_key following wraps call start.counter first source (all_items (with_appended done is_cyclic taken)) f transferred
    pub landed : IsLanded start now (with_appended done is_cyclic taken) (entered transferred)
    pub count : k ≡ length transferred
    pub bounds : AreEnds number ends (length taken) (k + 1)

  pub carrying_begins : (greatest : ℕ) (cursor : Cursor) (is_cyclic : Bool) → IsWellLinked interlinks → HasLinksWithin interlinks greatest → start.slots ≡ [] → cursor ≡ Up 1
      → IsCarrying 0 source interlinks cursor None is_cyclic None first start
  carrying_begins greatest cursor is_cyclic agrees within none up =
      let all = the_chains interlinks greatest agrees within in
      record {
        chains = all.0;
        are = all.1;
        done = [];
        taken = [];
        left = [];
        rest = all.0;
        parts = refl;
        departing = record {
          chains = chains_from_pairs interlinks all.0 all.1.partition all.1.interlinks;
          order = all.1.order;
          same = refl;
          size = omega arith;
          from = 1;
          up = up;
          low = λ j v. inl (within.within j v).0;
        };
        next = refl;
        transferred = [];
        called = calls_begin key new_key following wraps call start.counter first source;
        landed = landing_begins start none;
        count = refl;
        bounds = refl;
      }

  module _ (k : ℕ) (view_after : ArenaView G U) (links : LinkMap) (cursor : Cursor) (is_cyclic : Bool) (ends : Option (I × I)) (f : F) (now : Arena Gen (LinkView T)) (stored : StoredFound links view_after) where
    pub carries_next : IsCarrying k view_after links cursor None is_cyclic ends f now → (here : ℕ) (cyclic : Bool) (after : Cursor) → IsNextChain view_after links here cyclic after
        → IsCarrying k view_after links after (Some here) cyclic None f now
    carries_next c here cyclic after next =
        let none = left_none c.left c.next in
        let departing : IsDeparting following source view_after links cursor is_cyclic [] c.rest (all_items (with_appended c.done is_cyclic c.taken)) =
        subst (λ (l : List ℕ). IsDeparting following source view_after links cursor is_cyclic l c.rest (all_items (with_appended c.done is_cyclic c.taken))) none c.departing in
        let w = departs_next following source view_after links cursor is_cyclic c.rest (all_items (with_appended c.done is_cyclic c.taken)) stored departing here cyclic after next in
        record {
          chains = c.chains;
          are = c.are;
          done = with_appended c.done is_cyclic c.taken;
          taken = [];
          left = here ∷ w.0;
          rest = w.1;
          parts = c.parts ∙ (ap (λ (l : List ℕ). c.done ++ with_rest is_cyclic (c.taken ++ l) c.rest) none
              ∙ (ap (λ (l : List ℕ). c.done ++ with_rest is_cyclic l c.rest) (append-nil c.taken)
              ∙ (arranged_between c.done is_cyclic c.taken c.rest ∙ ap (λ (cs : List Chain). with_appended c.done is_cyclic c.taken ++ cs) w.2)));
          departing = w.3;
          next = refl;
          transferred = c.transferred;
          called = c.called;
          landed = c.landed;
          count = c.count;
          bounds = refl;
        }

    pub agrees_left : (on : Option ℕ) → IsCarrying k view_after links cursor on is_cyclic ends f now → IsWellLinked links
    agrees_left on c = agrees_from_chains links (with_rest is_cyclic c.left c.rest) c.departing.chains

    pub cursor_up : (on : Option ℕ) → on ≡ None → IsCarrying k view_after links cursor on is_cyclic ends f now → AscendsFrom 1 view_after.entries → (from : ℕ) × (cursor ≡ Up from) × AscendsFrom from view_after.entries
    cursor_up on none c ascends =
        let departing = subst (λ (l : List ℕ). IsDeparting following source view_after links cursor is_cyclic l c.rest (all_items (with_appended c.done is_cyclic c.taken))) (left_none c.left (sym none ∙ c.next)) c.departing in
        (departing.from, departing.up, ascends_up following source view_after links cursor is_cyclic c.rest (all_items (with_appended c.done is_cyclic c.taken)) stored departing ascends)

    pub some_left : (on : Option ℕ) → IsCarrying k view_after links cursor on is_cyclic ends f now → k < length source.entries → view_after.entries ≢ []
    some_left on c few =
        entries_left following source view_after links cursor is_cyclic c.rest (all_items (with_appended c.done is_cyclic c.taken)) stored c.left c.departing
        (subst (λ n. n < length source.entries) (c.count ∙ (sym (length-map c.transferred (old_index key)) ∙ ap length c.called.ordered)) few)

    pub carries_next_link : {J : Type 0} (index : J → ℕ) (on : Option J) (i : ℕ) (cyclic : Bool) (arranged : Option (I × I)) (after : Cursor) → IsCarrying k view_after links cursor (option_map index on) is_cyclic ends f now
        → IfSome on (λ j. (i ≡ index j) × (cyclic ≡ is_cyclic) × (after ≡ cursor)) → IfNone on (IsNextChain view_after links i cyclic after) → arranged ≡ option_and on ends
        → IsCarrying k view_after links after (Some i) cyclic arranged f now
    carries_next_link index (Some j) i cyclic arranged after c advanced begins is =
        subst (λ (l : Cursor). IsCarrying k view_after links l (Some i) cyclic arranged f now) (sym advanced.2)
        (subst (λ (e : Option (I × I)). IsCarrying k view_after links cursor (Some i) cyclic e f now) (sym is)
        (subst (λ (r : Bool). IsCarrying k view_after links cursor (Some i) r ends f now) (sym advanced.1)
        (subst (λ (n : ℕ). IsCarrying k view_after links cursor (Some n) is_cyclic ends f now) (sym advanced.0) c)))
    carries_next_link index None i cyclic arranged after c advanced begins is =
        subst (λ (e : Option (I × I)). IsCarrying k view_after links after (Some i) cyclic e f now) (sym is) (carries_next c i cyclic after begins)

    module _ (i : ℕ) (c : IsCarrying k view_after links cursor (Some i) is_cyclic ends f now) where
      abbrev xs : List ℕ
      xs = (left_some c.left i c.next).0

      is_left : c.left ≡ i ∷ xs
      is_left = (left_some c.left i c.next).1

      departing : IsDeparting following source view_after links cursor is_cyclic (i ∷ xs) c.rest (all_items (with_appended c.done is_cyclic c.taken))
      departing = subst (λ (l : List ℕ). IsDeparting following source view_after links cursor is_cyclic l c.rest (all_items (with_appended c.done is_cyclic c.taken))) is_left c.departing

      pub link_stored : is_some (found i view_after.entries) ≡ true
      link_stored = first_found following source view_after links cursor is_cyclic c.rest (all_items (with_appended c.done is_cyclic c.taken)) stored i xs departing

      apart : IsMember (all_items (with_appended c.done is_cyclic c.taken)) i → ⊥
      apart h =
          let all : all_items c.chains ≡ all_items c.done ++ ((c.taken ++ i ∷ xs) ++ all_items c.rest) =
          ap all_items (c.parts ∙ ap (λ (l : List ℕ). c.done ++ with_rest is_cyclic (c.taken ++ l) c.rest) is_left)
          ∙ (all_items-append c.done (with_rest is_cyclic (c.taken ++ i ∷ xs) c.rest) ∙ ap (λ (zs : List ℕ). all_items c.done ++ zs) (items_left is_cyclic (c.taken ++ i ∷ xs) c.rest)) in
          let before : all_items c.done ++ ((c.taken ++ i ∷ xs) ++ all_items c.rest) ≡ all_items (with_appended c.done is_cyclic c.taken) ++ (i ∷ xs ++ all_items c.rest) =
          ap (λ (zs : List ℕ). all_items c.done ++ zs) (append_assoc c.taken (i ∷ xs) (all_items c.rest))
          ∙ (sym (append_assoc (all_items c.done) c.taken (i ∷ xs ++ all_items c.rest)) ∙ ap (λ (zs : List ℕ). zs ++ (i ∷ xs ++ all_items c.rest)) (sym (items_arranged c.done is_cyclic c.taken))) in
          AreDistinct-apart (all_items (with_appended c.done is_cyclic c.taken)) (i ∷ xs ++ all_items c.rest) i (subst AreDistinct (all ∙ before) c.are.partition.once) h (inl refl)

      pub as_before : found i view_after.entries ≡ found i source.entries
      as_before = ap (λ (s : ArenaView G U). found i s.entries) c.departing.same ∙ found-entries_removed following source (all_items (with_appended c.done is_cyclic c.taken)) i apart

      long : length (all_items (with_appended c.done is_cyclic c.taken)) ≡ length c.transferred
      long = ap length (sym c.called.ordered) ∙ length-map c.transferred (old_index key)

      pub counted : view_after.counter ≡ option_map (after_times following (length c.transferred)) source.counter
      counted =
          ap (λ (s : ArenaView G U). s.counter) c.departing.same
          ∙ (counter-entries_removed following source (all_items (with_appended c.done is_cyclic c.taken)) ∙ ap (λ n. option_map (after_times following n) source.counter) long)

      values_long : length (entered c.transferred) ≡ length (all_items c.done) + length c.taken
      values_long = length-map c.transferred (λ (d : TransferredLink Q P U T). (new_key d.to, d.returned)) ∙ (sym long ∙ arranged-length c.done is_cyclic c.taken)

      counted_next : length (entered c.transferred) ≡ k
      counted_next = length-map c.transferred (λ (d : TransferredLink Q P U T). (new_key d.to, d.returned)) ∙ sym c.count

      arranged_more : all_items (with_appended c.done is_cyclic (c.taken ++ i ∷ [])) ≡ all_items (with_appended c.done is_cyclic c.taken) ++ i ∷ []
      arranged_more =
          items_arranged c.done is_cyclic (c.taken ++ i ∷ [])
          ∙ (sym (append_assoc (all_items c.done) c.taken (i ∷ [])) ∙ ap (λ (zs : List ℕ). zs ++ i ∷ []) (sym (items_arranged c.done is_cyclic c.taken)))

      parts_more : c.chains ≡ c.done ++ with_rest is_cyclic ((c.taken ++ i ∷ []) ++ xs) c.rest
      parts_more = c.parts ∙ ap (λ (l : List ℕ). c.done ++ with_rest is_cyclic l c.rest) (ap (λ (l : List ℕ). c.taken ++ l) is_left ∙ sym (append_assoc c.taken (i ∷ []) xs))

      pub next_index_at : start.freed ≡ [] → next_index now ≡ k + 1
      next_index_at unfreed = next_behind start now c.done is_cyclic c.taken (entered c.transferred) c.landed unfreed ∙ ap (λ n. n + 1) counted_next

      pub bounds_at : start.freed ≡ [] → AreEnds number ends (length c.taken) (next_index now)
      bounds_at unfreed = subst (AreEnds number ends (length c.taken)) (sym (next_index_at unfreed)) c.bounds

      pub position_at : start.freed ≡ [] → (u v : Option ℕ) → u ≡ end_before is_cyclic (length c.taken) (next_index now) → v ≡ end_after is_cyclic (length c.taken) (next_index now) → IsInsertPosition (link_map now) (next_index now) u v
      position_at unfreed u v before after =
          subst₂ (IsInsertPosition (link_map now) (next_index now)) (sym before) (sym after) (position_at_end start now c.done is_cyclic c.taken (entered c.transferred) c.landed unfreed values_long)

      pub capacity_at : start.freed ≡ [] → (within_capacity : ℕ) → k < within_capacity → within_capacity ≤ start.capacity → entry_count now < now.capacity
      capacity_at unfreed within_capacity few fits =
          let have : entry_count now ≡ length (entered c.transferred) = count_landed start now c.done is_cyclic c.taken (entered c.transferred) c.landed unfreed in
          let same : now.capacity ≡ start.capacity = ap (λ (a : Arena Gen (LinkView T)). a.capacity) c.landed.state in
          omega (arith, have, counted_next, same, few, fits)

      module _ (unfreed : start.freed ≡ []) (listed : IsListed now) (q : Q) (value : InvalidationOption U) (to : P) (t : T) (next : F)
          (was_stored : found i view_after.entries ≡ Some ((key q).1, value_in value)) (index : (key q).0 ≡ i) (at : new_key to ≡ (k + 1, start.counter))
          (called : Called call f (q, (value, (to, tt))) t next) where
        abbrev link : TransferredLink Q P U T
        link = record { from = q; value = value; to = to; returned = t }

        keyed : new_key to ≡ (length c.transferred + 1, start.counter)
        keyed = at ∙ ap (λ n. let p : ℕ × Gen = (n + 1, start.counter) in p) c.count

        entered_more : entered (c.transferred ++ link ∷ []) ≡ entered c.transferred ++ ((length (entered c.transferred) + 1, start.counter), t) ∷ []
        entered_more =
            map-append (λ (d : TransferredLink Q P U T). (new_key d.to, d.returned)) c.transferred (link ∷ [])
            ∙ ap (λ (p : ℕ × Gen). entered c.transferred ++ (p, t) ∷ []) (at ∙ ap (λ n. let p : ℕ × Gen = (n + 1, start.counter) in p) (sym counted_next))

        called_more : IfSome view_after.counter (λ g. is_overflow value ≡ wraps g)
            → AreCalled key new_key following wraps call start.counter first source (all_items (with_appended c.done is_cyclic (c.taken ++ i ∷ []))) next (c.transferred ++ link ∷ [])
        called_more overflow =
            subst (λ (order : List ℕ). AreCalled key new_key following wraps call start.counter first source order next (c.transferred ++ link ∷ []))
            (ap (λ n. all_items (with_appended c.done is_cyclic c.taken) ++ n ∷ []) index ∙ sym arranged_more)
            (calls_continue key new_key following wraps call start.counter first source (all_items (with_appended c.done is_cyclic c.taken)) f c.transferred c.called link next
            (ap (λ n. found n source.entries) index ∙ (sym as_before ∙ was_stored)) keyed called
            (subst (λ (o : Option G). IfSome o (λ g. is_overflow value ≡ wraps g)) counted overflow))

        landed_more : (after : Arena Gen (LinkView T)) → after ≡ insert_between now t (end_before is_cyclic (length c.taken) (next_index now)) (end_after is_cyclic (length c.taken) (next_index now))
            → IsLanded start after (with_appended c.done is_cyclic (c.taken ++ i ∷ [])) (entered (c.transferred ++ link ∷ []))
        landed_more after is =
            subst (λ (es : List ((ℕ × Gen) × T)). IsLanded start after (with_appended c.done is_cyclic (c.taken ++ i ∷ [])) es) (sym entered_more)
            (subst (λ (a : Arena Gen (LinkView T)). IsLanded start a (with_appended c.done is_cyclic (c.taken ++ i ∷ [])) (entered c.transferred ++ ((length (entered c.transferred) + 1, start.counter), t) ∷ [])) (sym is)
            (landing_continues start now c.done is_cyclic c.taken (entered c.transferred) c.landed unfreed values_long t listed i))

        pub carries_link : IsWellLinked links → (after : ArenaView G U) (links_after : LinkMap) (on : Option ℕ) (bounds : Option (I × I)) (then_now : Arena Gen (LinkView T))
            → IfSome view_after.counter (λ g. is_overflow value ≡ wraps g) → on ≡ step_forward i (next_of links i) → after ≡ view_after_removal following view_after i → links_after ≡ with_removal links i
            → then_now ≡ insert_between now t (end_before is_cyclic (length c.taken) (next_index now)) (end_after is_cyclic (length c.taken) (next_index now))
            → AreEnds number bounds (length c.taken + 1) (k + 1 + 1)
            → IsCarrying (k + 1) after links_after cursor on is_cyclic bounds next then_now
        carries_link agrees after links_after on bounds then_now overflow advanced is passed inserted ends_are =
            let w = departs_on following source view_after links cursor is_cyclic c.rest (all_items (with_appended c.done is_cyclic c.taken)) stored i xs departing agrees after links_after is passed in
            record {
              chains = c.chains;
              are = c.are;
              done = c.done;
              taken = c.taken ++ i ∷ [];
              left = xs;
              rest = c.rest;
              parts = parts_more;
              departing = subst (λ (order : List ℕ). IsDeparting following source after links_after cursor is_cyclic xs c.rest order) (sym arranged_more) w.0;
              next = advanced ∙ w.1;
              transferred = c.transferred ++ link ∷ [];
              called = called_more overflow;
              landed = landed_more then_now inserted;
              count = ap (λ n. n + 1) c.count ∙ sym (length-append c.transferred (link ∷ []));
              bounds = subst (λ m. AreEnds number bounds m (k + 1 + 1)) (sym (length-append c.taken (i ∷ []))) ends_are;
            }

    pub stored_on : {J : Type 0} (index : J → ℕ) (on : Option J) → IsCarrying k view_after links cursor (option_map index on) is_cyclic ends f now → IfSome on (λ j. is_some (found (index j) view_after.entries) ≡ true)
    stored_on index None c = tt
    stored_on index (Some j) c = link_stored (index j) c

    pub carries_all : (on : Option ℕ) → IsCarrying k view_after links cursor on is_cyclic ends f now → start.freed ≡ [] → k ≡ length source.entries
        → IsTransfer key new_key following wraps call start.counter first source interlinks view_after start now
    carries_all on c unfreed all =
        let long : length (all_items (with_appended c.done is_cyclic c.taken)) ≡ length source.entries = ap length (sym c.called.ordered) ∙ (length-map c.transferred (old_index key) ∙ (sym c.count ∙ all)) in
        let gone = all_departed following source view_after links cursor is_cyclic c.rest (all_items (with_appended c.done is_cyclic c.taken)) stored c.left c.departing long in
        let none = none_left is_cyclic c.left c.rest gone.1 in
        let arranged : c.chains ≡ with_appended c.done is_cyclic c.taken =
        c.parts
        ∙ (ap₂ (λ (l : List ℕ) (r : List Chain). c.done ++ with_rest is_cyclic (c.taken ++ l) r) none.0 none.1
        ∙ (ap (λ (l : List ℕ). c.done ++ with_rest is_cyclic l []) (append-nil c.taken)
        ∙ (arranged_between c.done is_cyclic c.taken [] ∙ append-nil (with_appended c.done is_cyclic c.taken)))) in
        let items : map (old_index key) c.transferred ≡ all_items c.chains = c.called.ordered ∙ sym (ap all_items arranged) in
        record {
          transferred = c.transferred;
          order = record { chains = c.chains; are = c.are; items = items };
          keys = c.called.keys;
          renamed = subst (λ (order : List ℕ). IsRenaming (place_in order) interlinks (link_map now)) (sym items)
              (runs_are_renumbered interlinks (link_map now) c.chains (chains_from_pairs interlinks c.chains c.are.partition c.are.interlinks)
              (subst (λ (cs : List Chain). AreChains (link_map now) (in_runs 1 cs)) (sym arranged) c.landed.chains));
          last = f;
          in_turn = c.called.in_turn;
          was_stored = c.called.was_stored;
          overflow = c.called.overflow;
          values = c.landed.entered;
          slots = c.landed.slots ∙ length-map c.transferred (λ (d : TransferredLink Q P U T). (new_key d.to, d.returned));
          state = state_of c;
          removals = c.departing.same ∙ ap (entries_removed following source) (sym c.called.ordered);
          empty = gone.0;
        }
      where
        state_of : (c : IsCarrying k view_after links cursor on is_cyclic ends f now) → now ≡ record start {
          slots = now.slots;
          counter = start.counter;
          freed = [];
          capacity = now.capacity;
          stack_capacity = now.stack_capacity;
          placed = start.placed + length c.transferred;
        }
        state_of c =
            let made = (λ (f : List ℕ) (m n p : ℕ). let a : Arena Gen (LinkView T) = record start { slots = now.slots; freed = f; capacity = m; stack_capacity = n; placed = p } in a) in
            c.landed.state
            ∙ (ap (λ p. made start.freed start.capacity start.stack_capacity p)
            (ap (λ n. start.placed + n) (length-map c.transferred (λ (d : TransferredLink Q P U T). (new_key d.to, d.returned))))
            ∙ (ap (λ f. made f start.capacity start.stack_capacity (start.placed + length c.transferred)) unfreed
            ∙ ap₂ (λ m n. made [] m n (start.placed + length c.transferred)) (sym (ap (λ (a : Arena Gen (LinkView T)). a.capacity) c.landed.state)) (sym (ap (λ (a : Arena Gen (LinkView T)). a.stack_capacity) c.landed.state))))
