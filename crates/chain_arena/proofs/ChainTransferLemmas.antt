-- The loop of a chain's transfer.
use Rattle.std.proofs.Common.{◌≡◌, ℕ, ◌+◌, ◌≤◌, ◌<◌, ◌⊎◌, inl, inr, ⊎_elim, Bool, true, false, List, [], ◌∷◌, ◌++◌, length, map, reverse, Option, None, Some, refl, sym, ap, ap₂, ◌∙◌, subst, append_assoc, append-nil, length-append, arith}
use Rattle.std.specs.Prelude.{All, IsTrue, ◌↔◌, slice_get}
use Rattle.std.specs.Option.{option_map}
use Rattle.std.specs.Fn.{Mut, Called}
use Rattle.std.specs.List.{FoldsTo}
use Rattle.std.proofs.lemmas.Fn.{FoldsTo-push}
use Rattle.std.proofs.lemmas.List.{length-map, map_push}
use Rattle.std.proofs.lemmas.List.Elements.{All-push, All-nil, All-head}
use Rattle.arena_core.specs.Invalidation.{value_in, is_overflow}
use Rattle.arena_core.specs.declared.invalidation.InvalidationOption.{InvalidationOption}
use Rattle.chain_laws.specs.Chains.{LinkMap, Chain, items, IsMember, IsWellLinked, first_or, last_or, next_in, next_of}
use Rattle.chain_laws.specs.Removals.{with_removal}
use Rattle.chain_laws.specs.Insertions.{with_insertion, IsInsertPosition, Inserts, HasIndex}
use Rattle.chain_laws.specs.Walks.{IsWalk, of_linear, of_cyclic, TakesWalk}
use Rattle.chain_laws.proofs.ListLemmas.Members.{IsMember-left, IsMember-right, IsMember-parts, first_or-IsMember, last_or-IsMember}
use Rattle.chain_laws.proofs.InsertionLemmas.Chains.{inserted_inserts}
use Rattle.arena_traits.specs.Arena.{Arena, IsListed, IsValid, entry_at, entry_count, first_or_next, next_index, with_capacity_of, ReachesCapacity}
use Rattle.chain_links.specs.ChainArena.{LinkView, link_map, entry, values_of, interlinks_of, on_value, link_value as detached_value, insert_between, remove_link}
use Rattle.chain_links.specs.Links.{link_view}
use Rattle.chain_links.specs.declared.links.RawLink.{RawLink}
use Rattle.chain_links.proofs.MappedArenaLemmas.{entry_at-with_each, generation_is, length-with_each}
use Rattle.chain_links.proofs.ArenaInsertionLemmas.{link_map-next, values-count}
use Rattle.chain_linking.proofs.UnlinkLemmas.{link_map-remove_link, values_of-remove_link}
use Rattle.chain_arena.specs.Drains.{walk_left, without_each, IsDrainStep, after_times}
use Rattle.chain_arena.specs.Transfers.{TransferredLink, old_index, overflows, IsMapCall}
use Rattle.chain_arena.specs.ChainTransfers.{HaveSameChainsWithout, new_index, both_indexes, both_keys, IsInsertedNext, IsChainTransferred, AreEndsOf, link_before_moved, link_after_moved, with_moved_link}
use Rattle.chain_arena.proofs.ChainDrainLemmas.{without_each-takes, without_each-counts}
use Rattle.chain_arena.proofs.DrainLawLemmas.{slot_cleared}
use Rattle.chain_arena.proofs.InsertionEffectLemmas.{link_map-insert_between, values_of-insert_between, known_more}
use Rattle.chain_arena.proofs.TransferClosureLemmas.{overflows-append}
use Rattle.chain_arena.proofs.ChainMoveLemmas.{IsPartlyMoved, IsNextMove, move_begins, move_ends, next_move}

module _ {G U : Type 0} (following : G → G) where
  without_each-push : (a : Arena G (LinkView U)) (indexes : List ℕ) (i : ℕ) → without_each following a (indexes ++ i ∷ []) ≡ remove_link following (without_each following a indexes) i
  without_each-push a [] i = refl
  without_each-push a (j ∷ indexes) i = without_each-push (remove_link following a j) indexes i

  stored_before : (a : Arena G (LinkView U)) (indexes : List ℕ) (i : ℕ) (e : G × U) → entry (without_each following a indexes) i ≡ Some e → entry a i ≡ Some e
  stored_before a [] i e is = is
  stored_before a (j ∷ indexes) i e is =
      slot_cleared (values_of a).slots j i e
      (sym (ap (λ (b : Arena G U). entry_at b i) (values_of-remove_link following a j)) ∙ stored_before (remove_link following a j) indexes i e is)

next_of_values : {Gen T : Type 0} (a : Arena Gen (LinkView T)) → next_index (values_of a) ≡ next_index a
next_of_values a = ap (first_or_next a.freed) (length-with_each detached_value a)

walk_begins_with : (links : LinkMap) (i : ℕ) (walk : List ℕ) → IsWalk links i walk → (rest : List ℕ) × (walk ≡ i ∷ rest)
walk_begins_with links i _ (of_linear before after chain) = (after ++ reverse before, refl)
walk_begins_with links i _ (of_cyclic after chain) = (after, refl)

apart_last : (ys : List ℕ) (o : Option ℕ) (d : Chain) → ((j : ℕ) → IsMember ys j → IsMember (items d) j → ⊥) → (HasIndex d o → ⊥) → HasIndex d (last_or ys o) → ⊥
apart_last ys o d apart none = by (last_or ys o) refl
  where
    by : (r : Option ℕ) → last_or ys o ≡ r → HasIndex d r → ⊥
    by None is h = h
    by (Some k) is h = ⊎_elim (λ (m : IsMember ys k). apart k m h) (λ (e : o ≡ Some k). none (subst (HasIndex d) (sym e) h)) (last_or-IsMember ys o k is)

apart_first : (ys : List ℕ) (o : Option ℕ) (d : Chain) → ((j : ℕ) → IsMember ys j → IsMember (items d) j → ⊥) → (HasIndex d o → ⊥) → HasIndex d (first_or ys o) → ⊥
apart_first ys o d apart none = by (first_or ys o) refl
  where
    by : (r : Option ℕ) → first_or ys o ≡ r → HasIndex d r → ⊥
    by None is h = h
    by (Some k) is h = ⊎_elim (λ (m : IsMember ys k). apart k m h) (λ (e : o ≡ Some k). none (subst (HasIndex d) (sym e) h)) (first_or-IsMember ys o k is)

apart_beside : (closes is_back : Bool) (ys : List ℕ) (q : ℕ) (d : Chain) → ((j : ℕ) → IsMember ys j → IsMember (items d) j → ⊥) → (IsMember (items d) q → ⊥)
    → (HasIndex d (link_before_moved closes is_back ys q) → ⊥) × (HasIndex d (link_after_moved closes is_back ys q) → ⊥)
apart_beside true is_back ys q d apart none = (apart_last ys (Some q) d apart none, apart_first ys (Some q) d apart none)
apart_beside false true ys q d apart none = (λ h. h, apart_first ys None d apart (λ h. h))
apart_beside false false ys q d apart none = (apart_last ys None d apart (λ h. h), λ h. h)

member_moved : (is_back : Bool) (ys : List ℕ) (q j : ℕ) → IsMember (with_moved_link is_back ys q) j → IsMember ys j ⊎ (q ≡ j)
member_moved true ys q j (inl is) = inr is
member_moved true ys q j (inr h) = inl h
member_moved false ys q j h = by (IsMember-parts ys (q ∷ []) j h)
  where
    by : IsMember ys j ⊎ IsMember (q ∷ []) j → IsMember ys j ⊎ (q ≡ j)
    by (inl m) = inl m
    by (inr (inl is)) = inr is
    by (inr (inr none)) = absurd none

pub has_capacity_first : (links : LinkMap) (i count capacity : ℕ) (walk : List ℕ) → IsWalk links i walk → count + length walk ≤ capacity → count < capacity
has_capacity_first links i count capacity walk is_walk enough =
    let w = walk_begins_with links i walk is_walk in
    let more = ap (length {A = ℕ}) w.1 in
    omega (arith, enough, more)

module _ {Q P G Gen I U T F : Type 0} (key : Q → ℕ × G) (new_key : P → ℕ × Gen) (following : G → G) (wraps : G → Bool) (call : Mut F (Q × (InvalidationOption U × (P × Unit {0}))) T)
    (number : I → ℕ) (source : Arena G (LinkView U)) (i : ℕ) (first : F) (start : Arena Gen (LinkView T)) where
  -- Some links of the chain of i are transferred, in walk order.
  pub record IsTransferUnderWay (src : Arena G (LinkView U)) (at : ℕ) (is_back : Bool) (ends : Option (I × I)) (f : F) (now : Arena Gen (LinkView T)) : Type 0 where
    pub transferred : List (TransferredLink Q P U T)
    pub ys : List ℕ
    pub under_way : IsPartlyMoved (link_map source) (link_map src) (link_map now) is_back (map (both_indexes key new_key) transferred) ys (walk_left src at)
    pub bounds : AreEndsOf number ends ys
    pub member : (j : ℕ) → IsMember ys j → IsMember (map (new_index new_key) transferred) j
    pub walk : walk_left source i ≡ map (old_index key) transferred ++ walk_left src at
    pub gone : src ≡ without_each following source (map (old_index key) transferred)
    pub in_turn : FoldsTo (IsMapCall key new_key following wraps call) first transferred f
    pub was_stored : All (λ c. entry source (old_index key c) ≡ Some ((key c.from).1, value_in c.value)) transferred
    pub overflow : map (λ c. is_overflow c.value) transferred ≡ overflows following wraps (length transferred) source.counter
    pub inserted : FoldsTo (IsInsertedNext new_key) (values_of start) transferred (values_of now)
    pub rest : HaveSameChainsWithout (map (new_index new_key) transferred) (link_map start) (link_map now)
    pub count : entry_count now ≡ entry_count start + length transferred
    pub capacity : now.capacity ≡ start.capacity
    pub stack_capacity : now.stack_capacity ≡ start.stack_capacity
    pub maximum : now.maximum ≡ start.maximum

  pub transfer_begins : (at : ℕ) → at ≡ i → IsWalk (link_map source) i (walk_left source i) → IsTransferUnderWay source at false None first start
  transfer_begins at is walk = record {
    transferred = [];
    ys = [];
    under_way = subst (λ (n : ℕ). IsPartlyMoved (link_map source) (link_map source) (link_map start) false [] [] (walk_left source n)) (sym is) (move_begins (link_map source) (link_map start) i (walk_left source i) walk);
    bounds = (refl, refl);
    member = λ j h. h;
    walk = ap (walk_left source) (sym is);
    gone = refl;
    in_turn = refl;
    was_stored = All-nil (λ (c : TransferredLink Q P U T). entry source (old_index key c) ≡ Some ((key c.from).1, value_in c.value));
    overflow = refl;
    inserted = refl;
    rest = λ d apart. (λ h. h, λ h. h);
    count = omega arith;
    capacity = refl;
    stack_capacity = refl;
    maximum = refl;
  }

  module _ (src : Arena G (LinkView U)) (at : ℕ) (is_back : Bool) (ends : Option (I × I)) (f : F) (now : Arena Gen (LinkView T)) (c : IsTransferUnderWay src at is_back ends f now) where
    pub capacity_left : (n : ℕ) (rest : List ℕ) → walk_left src at ≡ n ∷ rest → entry_count start + length (walk_left source i) ≤ start.capacity → entry_count now < now.capacity
    capacity_left n rest left enough =
        let whole = ap (length {A = ℕ}) c.walk in
        let parts = length-append (map (old_index key) c.transferred) (walk_left src at) in
        let moved = length-map c.transferred (old_index key) in
        let more = ap (length {A = ℕ}) left in
        omega (arith, enough, whole, parts, moved, more, c.count, c.capacity)

    module _ {K : Type 0} (packed : K → Option ℕ) (out : Arena G (LinkView U)) (next : ℕ) (gone : InvalidationOption (Q × RawLink K U)) (step : IsDrainStep key packed following wraps src at gone out next)
        (closes is_end : Bool) (closing : IsTrue closes ↔ ((link_view packed (value_in gone).1).next ≡ Some (key (value_in gone).0).0)) (ending : IsTrue is_end ↔ ((link_view packed (value_in gone).1).next ≡ None)) where
      named : next_of (link_map src) at ≡ (link_view packed (value_in gone).1).next
      named = ap (λ (o : Option (G × LinkView U)). next_in (option_map interlinks_of o)) step.stored

      moves_next : IsNextMove (link_map source) (link_map src) (link_map now) closes is_end is_back (map (both_indexes key new_key) c.transferred) c.ys at (walk_left out next)
      moves_next =
          next_move (link_map source) (link_map src) (link_map now) closes is_end is_back _ c.ys (walk_left src at) c.under_way at (walk_left out next) step.walk
          (λ t. named ∙ (closing.0 t ∙ ap (λ (n : ℕ). Some n) step.index), λ e. closing.1 (sym named ∙ (e ∙ ap (λ (n : ℕ). Some n) (sym step.index))))
          (λ t. named ∙ ending.0 t, λ e. ending.1 (sym named ∙ e))

      pub has_position : (ys : List ℕ) × AreEndsOf number ends ys × IsInsertPosition (link_map now) (next_index now) (link_before_moved closes is_back ys (next_index now)) (link_after_moved closes is_back ys (next_index now))
      has_position = (c.ys, c.bounds, moves_next.position (next_index now))

      pub has_capacity_next : entry_count start + length (walk_left source i) ≤ start.capacity → entry_count now < now.capacity
      has_capacity_next = capacity_left at (walk_left out next) step.walk

      module _ (ptr : Q) (value : InvalidationOption U) (to : P) (t : T) (called_next : F) (is_ptr : ptr ≡ (value_in gone).0) (is_value : (value_in value ≡ (value_in gone).1.t) × (is_overflow value ≡ is_overflow gone))
          (at_next : new_key to ≡ (next_index now, now.counter)) (called : Called call f (ptr, (value, (to, tt))) t called_next) (after : Arena Gen (LinkView T)) (ends_after : Option (I × I)) (listed : IsListed now)
          (made : (after ≡ insert_between now t (link_before_moved closes is_back c.ys (next_index now)) (link_after_moved closes is_back c.ys (next_index now))) × AreEndsOf number ends_after (with_moved_link is_back c.ys (next_index now))) where
        abbrev q : ℕ
        q = next_index now

        abbrev u : Option ℕ
        u = link_before_moved closes is_back c.ys (next_index now)

        abbrev v : Option ℕ
        v = link_after_moved closes is_back c.ys (next_index now)

        abbrev link : TransferredLink Q P U T
        link = record { from = ptr; value = value; to = to; returned = t }

        abbrev more : List (TransferredLink Q P U T)
        more = c.transferred ++ link ∷ []

        at_index : (key ptr).0 ≡ at
        at_index = ap (λ (x : Q). (key x).0) is_ptr ∙ step.index

        olds_more : map (old_index key) more ≡ map (old_index key) c.transferred ++ at ∷ []
        olds_more = map_push (old_index key) c.transferred link ∙ ap (λ (n : ℕ). map (old_index key) c.transferred ++ n ∷ []) at_index

        news_more : map (new_index new_key) more ≡ map (new_index new_key) c.transferred ++ q ∷ []
        news_more = map_push (new_index new_key) c.transferred link ∙ ap (λ (k : ℕ × Gen). map (new_index new_key) c.transferred ++ k.0 ∷ []) at_next

        both_more : map (both_indexes key new_key) more ≡ map (both_indexes key new_key) c.transferred ++ (at, q) ∷ []
        both_more = map_push (both_indexes key new_key) c.transferred link
            ∙ ap₂ (λ (n : ℕ) (k : ℕ × Gen). map (both_indexes key new_key) c.transferred ++ (n, k.0) ∷ []) at_index at_next

        stored_now : entry src at ≡ Some ((key ptr).1, value_in value)
        stored_now =
            entry_at-with_each detached_value src at
            ∙ (ap (option_map (on_value detached_value)) step.stored
            ∙ ap₂ (λ (n : G) (x : U). let o : Option (G × U) = Some (n, x) in o) (sym (ap (λ (x : Q). (key x).1) is_ptr)) (sym is_value.0))

        stored_first : entry source (key ptr).0 ≡ Some ((key ptr).1, value_in value)
        stored_first =
            ap (entry source) at_index
            ∙ stored_before following source (map (old_index key) c.transferred) at ((key ptr).1, value_in value) (sym (ap (λ (a : Arena G (LinkView U)). entry a at) c.gone) ∙ stored_now)

        counted : src.counter ≡ after_times following (length c.transferred) source.counter
        counted =
            (without_each-counts following source src (map (old_index key) c.transferred) c.gone).counter
            ∙ ap (λ (n : ℕ). after_times following n source.counter) (length-map c.transferred (old_index key))

        overflow_more : map (λ (d : TransferredLink Q P U T). is_overflow d.value) more ≡ overflows following wraps (length more) source.counter
        overflow_more =
            map_push (λ (d : TransferredLink Q P U T). is_overflow d.value) c.transferred link
            ∙ (ap₂ (λ (bs : List Bool) (b : Bool). bs ++ b ∷ []) c.overflow (is_value.1 ∙ (step.overflow ∙ ap wraps counted))
            ∙ (sym (overflows-append following wraps (length c.transferred) source.counter) ∙ ap (λ (n : ℕ). overflows following wraps n source.counter) (sym (length-append c.transferred (link ∷ [])))))

        gone_more : out ≡ without_each following source (map (old_index key) more)
        gone_more =
            step.state
            ∙ (ap (λ (a : Arena G (LinkView U)). remove_link following a at) c.gone
            ∙ (sym (without_each-push following source (map (old_index key) c.transferred) at) ∙ ap (without_each following source) (sym olds_more)))

        walk_more : walk_left source i ≡ map (old_index key) more ++ walk_left out next
        walk_more =
            c.walk
            ∙ (ap (λ (w : List ℕ). map (old_index key) c.transferred ++ w) step.walk
            ∙ (sym (append_assoc (map (old_index key) c.transferred) (at ∷ []) (walk_left out next)) ∙ ap (λ (w : List ℕ). w ++ walk_left out next) (sym olds_more)))

        free : link_map now q ≡ None
        free = link_map-next now listed.free

        links_after : link_map after ≡ with_insertion (link_map now) q u v
        links_after = ap (λ (a : Arena Gen (LinkView T)). link_map a) made.0 ∙ link_map-insert_between now t listed u v

        links_left : link_map out ≡ with_removal (link_map src) at
        links_left = ap (λ (a : Arena G (LinkView U)). link_map a) step.state ∙ link_map-remove_link following src at

        under_way_more : IsPartlyMoved (link_map source) (link_map out) (link_map after) is_end (map (both_indexes key new_key) more) (with_moved_link is_back c.ys q) (walk_left out next)
        under_way_more =
            subst (λ (m : LinkMap). IsPartlyMoved (link_map source) m (link_map after) is_end (map (both_indexes key new_key) more) (with_moved_link is_back c.ys q) (walk_left out next)) (sym links_left)
            (subst (λ (m : LinkMap). IsPartlyMoved (link_map source) (with_removal (link_map src) at) m is_end (map (both_indexes key new_key) more) (with_moved_link is_back c.ys q) (walk_left out next)) (sym links_after)
            (subst (λ (ms : List (ℕ × ℕ)). IsPartlyMoved (link_map source) (with_removal (link_map src) at) (with_insertion (link_map now) q u v) is_end ms (with_moved_link is_back c.ys q) (walk_left out next)) (sym both_more)
            (moves_next.under_way q free)))

        was_new : (j : ℕ) → IsMember (map (new_index new_key) c.transferred) j → IsMember (map (new_index new_key) more) j
        was_new j h = subst (λ (ns : List ℕ). IsMember ns j) (sym news_more) (IsMember-left (map (new_index new_key) c.transferred) (q ∷ []) j h)

        is_new : (j : ℕ) → q ≡ j → IsMember (map (new_index new_key) more) j
        is_new j is = subst (λ (ns : List ℕ). IsMember ns j) (sym news_more) (IsMember-right (map (new_index new_key) c.transferred) (q ∷ []) j (inl is))

        rest_more : HaveSameChainsWithout (map (new_index new_key) more) (link_map start) (link_map after)
        rest_more d apart =
            let before : (j : ℕ) → IsMember (map (new_index new_key) c.transferred) j → IsMember (items d) j → ⊥ = λ j h. apart j (was_new j h) in
            let beside = apart_beside closes is_back c.ys q d (λ j h. before j (c.member j h)) (apart q (is_new q refl)) in
            let inserts = subst (λ (m : LinkMap). Inserts (link_map now) m q u v) (sym links_after) (inserted_inserts (link_map now) q u v free) in
            let kept = inserts.rest d (apart q (is_new q refl)) beside.0 beside.1 in
            let was = c.rest d before in
            (λ h. kept.0 (was.0 h), λ h. was.1 (kept.1 h))

        one_more : entry_count after ≡ entry_count now + 1
        one_more =
            let whole = insert_between now t u v in
            let is = made.0 ∙ sym (ap (λ (a : Arena Gen (LinkView T)). with_capacity_of whole a) made.0) in
            sym (values-count after) ∙ (known_more now t listed after u v is ∙ ap (λ (n : ℕ). n + 1) (values-count now))

        pub transfer_continues : IsTransferUnderWay out next is_end ends_after called_next after
        transfer_continues = record {
          transferred = more;
          ys = with_moved_link is_back c.ys q;
          under_way = under_way_more;
          bounds = made.1;
          member = λ j h. ⊎_elim (λ (m : IsMember c.ys j). was_new j (c.member j m)) (λ (is : q ≡ j). is_new j is) (member_moved is_back c.ys q j h);
          walk = walk_more;
          gone = gone_more;
          in_turn = FoldsTo-push (IsMapCall key new_key following wraps call) first c.transferred f link called_next c.in_turn called;
          was_stored = All-push (λ (d : TransferredLink Q P U T). entry source (old_index key d) ≡ Some ((key d.from).1, value_in d.value)) c.transferred link c.was_stored stored_first;
          overflow = overflow_more;
          inserted = FoldsTo-push (IsInsertedNext new_key) (values_of start) c.transferred (values_of now) link (values_of after) c.inserted (
            at_next ∙ ap (λ (n : ℕ). let k : ℕ × Gen = (n, now.counter) in k) (sym (next_of_values now)),
            ap (λ (a : Arena Gen (LinkView T)). values_of a) made.0 ∙ values_of-insert_between now t listed u v,
          );
          rest = rest_more;
          count = let longer = length-append c.transferred (link ∷ []) in omega (arith, one_more, c.count, longer);
          capacity = ap (λ (a : Arena Gen (LinkView T)). a.capacity) made.0 ∙ c.capacity;
          stack_capacity = ap (λ (a : Arena Gen (LinkView T)). a.stack_capacity) made.0 ∙ c.stack_capacity;
          maximum = ap (λ (a : Arena Gen (LinkView T)). a.maximum) made.0 ∙ c.maximum;
        }

    module _ (p : ℕ × G) (q : P) (out : Arena G (LinkView U)) (is_at : p.0 ≡ i) (valid : IsValid (entry source) p) (agrees : IsWellLinked (link_map source)) (is_walk : IsWalk (link_map source) i (walk_left source i))
        (at_next : new_key q ≡ (next_index start, start.counter)) (none : walk_left src at ≡ []) (same : out ≡ src) where
      whole : walk_left source i ≡ map (old_index key) c.transferred
      whole = c.walk ∙ (ap (λ (w : List ℕ). map (old_index key) c.transferred ++ w) none ∙ append-nil (map (old_index key) c.transferred))

      first_moved : (moved : List (TransferredLink Q P U T)) (end : Arena Gen T) → walk_left source i ≡ map (old_index key) moved → All (λ c. entry source (old_index key c) ≡ Some ((key c.from).1, value_in c.value)) moved
          → FoldsTo (IsInsertedNext new_key) (values_of start) moved end → slice_get (map (both_keys key new_key) moved) 0 ≡ Some (p, new_key q)
      first_moved [] end walk stored inserted = absurd (let w = walk_begins_with (link_map source) i (walk_left source i) is_walk in let both = sym walk ∙ w.1 in cc)
      first_moved (m ∷ moved) end walk stored inserted =
          let w = walk_begins_with (link_map source) i (walk_left source i) is_walk in
          let both = sym walk ∙ w.1 in
          let index : (key m.from).0 ≡ p.0 = (let e : (key m.from).0 ≡ i = cc in e) ∙ sym is_at in
          let was = All-head (λ (c : TransferredLink Q P U T). entry source (old_index key c) ≡ Some ((key c.from).1, value_in c.value)) m moved stored in
          let entries = sym was ∙ (ap (entry source) index ∙ valid.stored) in
          let generation : (key m.from).1 ≡ p.1 = generation_is (key m.from).1 p.1 (value_in m.value) valid.value entries in
          ap₂ (λ (k : ℕ × G) (l : ℕ × Gen). let o : Option ((ℕ × G) × (ℕ × Gen)) = Some (k, l) in o)
          (ap₂ (λ (n : ℕ) (g : G). let k : ℕ × G = (n, g) in k) index generation)
          (inserted.1.0 ∙ (ap (λ (n : ℕ). let k : ℕ × Gen = (n, start.counter) in k) (next_of_values start) ∙ sym at_next))

      pub transfer_ends : IsChainTransferred key new_key following wraps call first p q source out start now
      transfer_ends =
          let state : out ≡ without_each following source (map (old_index key) c.transferred) = same ∙ c.gone in
          let takes = without_each-takes following source out i agrees (state ∙ ap (without_each following source) (sym whole)) in record {
            transferred = c.transferred;
            first = first_moved c.transferred (values_of now) whole c.was_stored c.inserted;
            walk = subst (λ (n : ℕ). IsWalk (link_map source) n (map (old_index key) c.transferred)) (sym is_at) (subst (IsWalk (link_map source) i) whole is_walk);
            removed = (
              state,
              subst (λ (w : List ℕ). TakesWalk (link_map source) (link_map out) w) whole takes,
              without_each-counts following source out (map (old_index key) c.transferred) state,
            );
            last = f;
            in_turn = c.in_turn;
            was_stored = c.was_stored;
            overflow = c.overflow;
            inserted = subst (λ (a : Arena Gen (LinkView T)). FoldsTo (IsInsertedNext new_key) (values_of a) c.transferred (values_of now))
                (ap₂ (λ (m n : ℕ). let a : Arena Gen (LinkView T) = record start { capacity = m; stack_capacity = n } in a) (sym c.capacity) (sym c.stack_capacity)) c.inserted;
            moved = move_ends (link_map source) (link_map src) (link_map now) is_back _ c.ys (walk_left src at) c.under_way none;
            rest = c.rest;
          }

module _ {Gen T : Type 0} (old grown new : Arena Gen (LinkView T)) where
  pub reaches_grown : (may_reach : ℕ → Option ℕ → ℕ → ℕ → Type 0) (greatest n : ℕ) → new.capacity ≡ grown.capacity → new.stack_capacity ≡ grown.stack_capacity → new.maximum ≡ grown.maximum
      → ReachesCapacity may_reach greatest n old grown → ReachesCapacity may_reach greatest n old new
  reaches_grown may_reach greatest n capacity stack_capacity maximum reached = record {
    capacity = rw (maximum, capacity, stack_capacity) reached.capacity;
    reached = rw stack_capacity reached.reached;
  }

  pub chain_transferred_grown : {Q P G U F : Type 0} (key : Q → ℕ × G) (new_key : P → ℕ × Gen) (following : G → G) (wraps : G → Bool) (call : Mut F (Q × (InvalidationOption U × (P × Unit {0}))) T) (f : F) (p : ℕ × G) (q : P)
      (source out : Arena G (LinkView U)) → grown ≡ with_capacity_of old grown → IsChainTransferred key new_key following wraps call f p q source out grown new → IsChainTransferred key new_key following wraps call f p q source out old new
  chain_transferred_grown key new_key following wraps call f p q source out is_grown moved =
      let t = subst (λ (a : Arena Gen (LinkView T)). IsChainTransferred key new_key following wraps call f p q source out a new) is_grown moved in record {
        transferred = t.transferred;
        first = t.first;
        walk = t.walk;
        removed = t.removed;
        last = t.last;
        in_turn = t.in_turn;
        was_stored = t.was_stored;
        overflow = t.overflow;
        inserted = t.inserted;
        moved = t.moved;
        rest = t.rest;
      }
