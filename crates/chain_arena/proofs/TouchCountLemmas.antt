-- A compression is determined but for touches, and no step reads their number.
use Rattle.std.proofs.Common.{◌≡◌, ℕ, suc, Bool, List, [], ◌∷◌, length, map, Option, None, Some, Result, Ok, Err, refl, sym, ap, ap₂, ◌∙◌, subst, arith}
use Rattle.std.specs.Prelude.{All, IfSome, IfNone, OnSome}
use Rattle.std.specs.Option.{option_map}
use Rattle.std.proofs.lemmas.List.{ext_get_or}
use Rattle.std.proofs.lemmas.List.Elements.{All-head, All-tail}
use Rattle.arena_core.specs.declared.errors.ChainInsertionError.{ChainInsertionError}
use Rattle.arena_core.specs.declared.errors.ChainInsertionError.TheVariants as failed
use Rattle.arena_core.specs.declared.errors.ReallocationError.{ReallocationError}
use Rattle.arena_core.specs.Invalidation.{value_within}
use Rattle.arena_core.specs.declared.invalidation.InvalidationOption.{InvalidationOption}
use Rattle.chain_laws.specs.Chains.{LinkMap, all_items, prev_of, next_of}
use Rattle.chain_laws.specs.Renamings.{IsRenaming}
use Rattle.chain_laws.specs.Arrangements.{place_in}
use Rattle.chain_laws.proofs.RenamingLemmas.Chains.{renaming_is_determined}
use Rattle.chain_laws.proofs.ChainLemmas.Partitions.{no_others}
use Rattle.arena_traits.specs.Arena.{entry_at}
use Rattle.arena_traits.specs.Compressions.{values_in, AreFilledAnew}
use Rattle.arena_traits.specs.Entries.{ArenaView, Slots, entries, index_of, found}
use Rattle.arena_traits.specs.EntryLaws.{found-entries}
use Rattle.arena_traits.proofs.CallOutcomeLemmas.{reports_more}
use Rattle.chain_links.specs.ChainArena.{link_map, value_view, value_state, entry, link_value, values_of, link_of, remove_link}
use Rattle.chain_arena.specs.Drains.{without_each}
use Rattle.chain_arena.specs.Effects.{Links, IsCut, IsRemoval}
use Rattle.chain_links.specs.CallEffects.{IsDisconnected, IsRemoved, AreMovedAfter, AreMovedInTurn}
use Rattle.chain_links.specs.Insertions.{IsLinkInserted}
use Rattle.arena_core.specs.PointerKinds.{PointerKind}
use Rattle.chain_arena.specs.Runs.{AreSameButTouched}
use Rattle.chain_arena.specs.Steps.{IsNewLinkAnyhow, InsertStep, InsertWithinStep, ConnectStep, BreakPrevStep, BreakNextStep, ExchangeStep, ReverseChainStep, MoveAfterStep, SpliceAfterStep, IsMoveOf, ArrangeChainStep, IsRenewed, DrainChainStep, CompressStep, CompressCanonicalStep, ReserveStep, Step, Run}
use Rattle.chain_arena.specs.declared.calls.Call.{Call}
use Rattle.chain_arena.specs.declared.calls.Call.TheVariants as call
use Rattle.chain_arena.specs.declared.calls.Reply.{Reply}
use Rattle.chain_laws.specs.declared.insert_kind.InsertKind.{InsertKind}
use Rattle.chain_arena.proofs.ChainDrainLemmas.{link_at-entry}
use Rattle.chain_links.proofs.MappedArenaLemmas.{length-with_each}

same_values : {T : Type 0} (xs ys : List T) → map (λ t. let o : Option T = Some t in o) xs ≡ map (λ t. let o : Option T = Some t in o) ys → xs ≡ ys
same_values {T} [] [] is = refl
same_values {T} [] (y ∷ ys) is = absurd (let h = is in cc)
same_values {T} (x ∷ xs) [] is = absurd (let h = is in cc)
same_values {T} (x ∷ xs) (y ∷ ys) is =
    let v : Some x ∷ map (λ t. let o : Option T = Some t in o) xs ≡ Some y ∷ map (λ t. let o : Option T = Some t in o) ys = is in
    let one : x ≡ y = cc in
    ap₂ (λ (t : T) (ts : List T). t ∷ ts) one (same_values xs ys (cc))

module _ {Gen T : Type 0} where
  abbrev HasGeneration : Gen → (ℕ × Gen) × T → Type 0
  HasGeneration g e = e.0.1 ≡ g

  same_entries : (g : Gen) (es fs : List ((ℕ × Gen) × T)) → map index_of es ≡ map index_of fs → values_in es ≡ values_in fs → All (HasGeneration g) es → All (HasGeneration g) fs → es ≡ fs
  same_entries g [] [] indexes values left right = refl
  same_entries g [] (f ∷ fs) indexes values left right = absurd (let h = indexes in cc)
  same_entries g (e ∷ es) [] indexes values left right = absurd (let h = indexes in cc)
  same_entries g (e ∷ es) (f ∷ fs) indexes values left right =
      let i : e.0.0 ∷ map index_of es ≡ f.0.0 ∷ map index_of fs = indexes in
      let v : e.1 ∷ values_in es ≡ f.1 ∷ values_in fs = values in
      let index : e.0.0 ≡ f.0.0 = cc in
      let value : e.1 ≡ f.1 = cc in
      let key : e.0 ≡ f.0 = ap₂ (λ (n : ℕ) (h : Gen). (n, h)) index (All-head (HasGeneration g) e es left ∙ sym (All-head (HasGeneration g) f fs right)) in
      let one : e ≡ f = ap₂ (λ (k : ℕ × Gen) (t : T). (k, t)) key value in
      ap₂ (λ (x : (ℕ × Gen) × T) (xs : List ((ℕ × Gen) × T)). x ∷ xs) one (same_entries g es fs (cc) (cc) (All-tail (HasGeneration g) e es left) (All-tail (HasGeneration g) f fs right))

  abbrev slots_known : Links Gen T → Slots
  slots_known a = record { count = length (values_of a).slots; freed = a.freed; placed = a.placed; touched = a.touched }

  same_known_alike : (a b : Links Gen T) (count most : ℕ) (old : Slots) → entries (values_of a) ≡ entries (values_of b) → link_map a ≡ link_map b
      → AreFilledAnew count most old (slots_known a) → AreFilledAnew count most old (slots_known b)
      → a.counter ≡ b.counter → a.capacity ≡ b.capacity → a.stack_capacity ≡ b.stack_capacity → a.maximum ≡ b.maximum → AreSameButTouched a b
  same_known_alike a b count most old links interlinks left right counter capacity stack_capacity maximum =
      let long = sym (length-with_each link_value a) ∙ (left.count ∙ (sym right.count ∙ length-with_each link_value b)) in
      let slots = ext_get_or None a.slots b.slots long (λ k inside. same_entry_at (suc k)) in
      let freed = left.freed ∙ sym right.freed in
      let totals = left.placed ∙ sym right.placed in
      (λ i. record {
        slots = slots i;
        counter = counter i;
        freed = freed i;
        capacity = capacity i;
        stack_capacity = stack_capacity i;
        maximum = maximum i;
        placed = totals i;
        touched = a.touched;
      })
    where
      same_entry_at : (i : ℕ) → entry_at a i ≡ entry_at b i
      same_entry_at i =
          let values : entry a i ≡ entry b i = sym (found-entries (values_of a) i) ∙ (ap (found i) links ∙ found-entries (values_of b) i) in
          sym (link_at-entry a i) ∙ (ap₂ link_of values (ap (λ (s : LinkMap). s i) interlinks) ∙ link_at-entry b i)

  of_counter : (g counter : Gen) (es : List ((ℕ × Gen) × T)) → g ≡ counter → All (HasGeneration g) es → All (HasGeneration counter) es
  of_counter g counter es same all = subst (λ (h : Gen). All (HasGeneration h) es) same all

module _ {P I Gen W T : Type 0} (pointers : PointerKind P I Gen W) (reset : Bool) (old a b : Links Gen T) (r s : InvalidationOption Unit) where
  pub compression_same : CompressStep pointers old reset r a → CompressStep pointers old reset s b → AreSameButTouched a b
  compression_same first second =
      let one = first.0.compressed in
      let two = second.0.compressed in
      let both : Some a.counter ≡ Some b.counter = one.counter ∙ sym two.counter in
      let counter : a.counter ≡ b.counter = cc in
      same_known_alike a b (length (value_view old).entries) _ (slots_known old)
      (same_entries b.counter (entries (values_of a)) (entries (values_of b)) (one.indexes ∙ sym two.indexes) (first.1 ∙ sym second.1)
      (of_counter one.generation b.counter (entries (values_of a)) (sym one.is_counter ∙ counter) one.generations) (of_counter two.generation b.counter (entries (values_of b)) (sym two.is_counter) two.generations))
      (renaming_is_determined _ (link_map old) (link_map a) (link_map b) first.2.renamed second.2.renamed) one.slots two.slots counter
      (one.capacity ∙ sym two.capacity) (first.2.stack_capacity ∙ sym second.2.stack_capacity) (one.maximum ∙ sym two.maximum)

  pub layout_same : CompressCanonicalStep pointers old reset r a → CompressCanonicalStep pointers old reset s b → AreSameButTouched a b
  layout_same one two =
      let x = one.0.canonical in
      let y = two.0.canonical in
      let both : Some a.counter ≡ Some b.counter = x.counter ∙ sym y.counter in
      let counter : a.counter ≡ b.counter = cc in
      let order : x.indexes ≡ y.indexes = x.order.items ∙ (ap all_items (no_others (link_map old) x.order.chains y.order.chains x.order.are y.order.are) ∙ sym y.order.items) in
      let values = same_values (values_in (entries (values_of a))) (values_in (entries (values_of b)))
      (x.values ∙ (ap (λ (is : List ℕ). map (λ i. option_map (λ (e : Gen × T). e.1) (found i (value_view old).entries)) is) order ∙ sym y.values)) in
      same_known_alike a b (length (value_view old).entries) _ (slots_known old)
      (same_entries b.counter (entries (values_of a)) (entries (values_of b)) (x.new_indexes ∙ sym y.new_indexes) values
      (of_counter x.generation b.counter (entries (values_of a)) (sym x.is_counter ∙ counter) x.generations) (of_counter y.generation b.counter (entries (values_of b)) (sym y.is_counter) y.generations))
      (renaming_is_determined _ (link_map old) (link_map a) (link_map b) (subst (λ (is : List ℕ). IsRenaming (place_in is) (link_map old) (link_map a)) order x.renamed) y.renamed) x.slots y.slots counter
      (x.capacity ∙ sym y.capacity) (one.1 ∙ sym two.1) (x.maximum ∙ sym y.maximum)

module _ (n : ℕ) where
  abbrev pub touch : {Gen T : Type 0} → Links Gen T → Links Gen T
  touch a = record a { touched = n }

  untouched : (count most : ℕ) (old new : Slots) → AreFilledAnew count most old new → AreFilledAnew count most (record old { touched = n }) (record new { touched = n })
  untouched count most old new known =
      record { count = known.count; freed = known.freed; placed = known.placed; touches = 0; few = omega arith; touched = omega arith }

  abbrev touch_view : {Gen T : Type 0} → ArenaView Gen T → ArenaView Gen T
  touch_view v = record v { slots = option_map (λ (s : Slots). record s { touched = n }) v.slots }

  module _ {P I Gen W T : Type 0} (pointers : PointerKind P I Gen W) where
    moved_after_touched : (old new : Links Gen T) (p : P) (order : List P) → AreMovedAfter (IsMoveOf pointers) old p order new
        → AreMovedAfter (IsMoveOf pointers) (touch old) p order (touch new)
    moved_after_touched old new p [] moved = ap touch moved
    moved_after_touched old new p (q ∷ order) moved = (touch moved.0, ap touch moved.1, moved_after_touched moved.0 new q order moved.2)

    moved_in_turn_touched : (old new : Links Gen T) (order : List P) → AreMovedInTurn (IsMoveOf pointers) old order new
        → AreMovedInTurn (IsMoveOf pointers) (touch old) order (touch new)
    moved_in_turn_touched old new [] moved = ap touch moved
    moved_in_turn_touched old new (p ∷ order) moved = moved_after_touched old new p order moved

  module _ {P I Gen W T : Type 0} (pointers : PointerKind P I Gen W) (old new : Links Gen T) where
    connects_touched : (p q : P) (r : Option Unit) → ConnectStep pointers old p q r new → ConnectStep pointers (touch old) p q r (touch new)
    connects_touched p q None step = (step.0, ap touch step.1, tt)
    connects_touched p q (Some done) step =
        let made = step.0.1 in
        ((step.0.0, record { joined = made.joined; chains = made.chains; view_after = ap touch_view made.view_after }), tt, record { state = ap touch step.2.state; pair = step.2.pair })

    cut_touched : (a b : ℕ) → IsDisconnected value_state link_map old new a b → IsDisconnected value_state link_map (touch old) (touch new) a b
    cut_touched a b made = record { cut = made.cut; chains = made.chains; view_after = ap touch_view made.view_after }

    cut_at_touched : (o : Option ℕ) (left right : ℕ → ℕ) → IfSome o (λ a. IsCut old new (left a) (right a)) → IfSome o (λ a. IsCut (touch old) (touch new) (left a) (right a))
    cut_at_touched None left right made = tt
    cut_at_touched (Some a) left right made = record { state = ap touch made.state; pair = made.pair }

    breaks_prev_touched : (p : P) (r : Option Unit) → BreakPrevStep pointers old p r new → BreakPrevStep pointers (touch old) p r (touch new)
    breaks_prev_touched p None step = (step.0, ap touch step.1, tt)
    breaks_prev_touched p (Some done) step =
        ((step.0.0, step.0.1, step.0.2, cut_touched step.0.1 (pointers.key p).0 step.0.3), tt, cut_at_touched (prev_of (link_map old) (pointers.key p).0) (λ a. a) (λ a. (pointers.key p).0) step.2)

    breaks_next_touched : (p : P) (r : Option Unit) → BreakNextStep pointers old p r new → BreakNextStep pointers (touch old) p r (touch new)
    breaks_next_touched p None step = (step.0, ap touch step.1, tt)
    breaks_next_touched p (Some done) step =
        ((step.0.0, step.0.1, step.0.2, cut_touched (pointers.key p).0 step.0.1 step.0.3), tt, cut_at_touched (next_of (link_map old) (pointers.key p).0) (λ b. (pointers.key p).0) (λ b. b) step.2)

    exchanges_touched : (p q : P) (r : Option Unit) → ExchangeStep pointers old p q r new → ExchangeStep pointers (touch old) p q r (touch new)
    exchanges_touched p q None step = (step.0, ap touch step.1, tt)
    exchanges_touched p q (Some done) step =
        let made = step.0.1 in
        ((step.0.0, record { exchanged = made.exchanged; chains = made.chains; view_after = ap touch_view made.view_after }), tt, record { state = ap touch step.2.state; pairs = step.2.pairs })

    reverses_touched : (p : P) (r : Option Unit) → ReverseChainStep pointers old p r new → ReverseChainStep pointers (touch old) p r (touch new)
    reverses_touched p None step = (step.0, ap touch step.1, tt)
    reverses_touched p (Some done) step =
        let made = step.0.1 in
        ((step.0.0, record { walk = made.walk; is_walk = made.is_walk; turned = made.turned; chains = made.chains; view_after = ap touch_view made.view_after }), tt, ap touch step.2)

    moves_touched : (p q : P) (r : Option Unit) → MoveAfterStep pointers old p q r new → MoveAfterStep pointers (touch old) p q r (touch new)
    moves_touched p q None step = (step.0, ap touch step.1, tt)
    moves_touched p q (Some done) step =
        let made = step.0.1 in
        ((step.0.0, record { moved = made.moved; chains = made.chains; view_after = ap touch_view made.view_after }), tt, ap touch step.2)

    splices_touched : (p first last : P) (r : Option Unit) → SpliceAfterStep pointers old p first last r new → SpliceAfterStep pointers (touch old) p first last r (touch new)
    splices_touched p first last None step = (step.0, ap touch step.1, tt)
    splices_touched p first last (Some done) step =
        let made = step.0.1 in
        ((step.0.0, record { spliced = made.spliced; chains = made.chains; view_after = ap touch_view made.view_after }), tt, ap touch step.2)

    arranges_touched : (order : List P) (r : Option Unit) → ArrangeChainStep pointers old order r new → ArrangeChainStep pointers (touch old) order r (touch new)
    arranges_touched order None step = (step.0, ap touch step.1, tt)
    arranges_touched order (Some done) step =
        let made = step.0.1 in
        ((step.0.0, record { ordered = made.ordered; chains = made.chains; view_after = ap touch_view made.view_after }), tt, moved_in_turn_touched pointers old new order step.2)

    removed_touched : (i : ℕ) → IsRemoved value_state link_map old new pointers.following i → IsRemoved value_state link_map (touch old) (touch new) pointers.following i
    removed_touched i made = record { view_after = ap touch_view made.view_after; links = made.links; chains = made.chains }

    none_touched : {X : Type 0} (o : Option X) → IfNone o (new ≡ old) → IfNone o (touch new ≡ touch old)
    none_touched None is = ap touch is
    none_touched (Some x) is = tt

    removal_touched : {X : Type 0} (o : Option X) (i : ℕ) → OnSome o (IsRemoval pointers.following old i new) → OnSome o (IsRemoval pointers.following (touch old) i (touch new))
    removal_touched None i made = tt
    removal_touched (Some x) i made = record { removed = removed_touched i made.removed; state = ap touch made.state; pairs = made.pairs }

    renewal_touched : {X : Type 0} (o : Option X) (i : ℕ) → OnSome o (IsRenewed pointers old i new) → OnSome o (IsRenewed pointers (touch old) i (touch new))
    renewal_touched None i made = tt
    renewal_touched (Some x) i made = (ap touch made.0, made.1)

    compression_touched : (reset : Bool) (r : InvalidationOption Unit) → CompressStep pointers old reset r new → CompressStep pointers (touch old) reset r (touch new)
    compression_touched reset r step =
        let made = step.0.compressed in (
          record {
            compressed = record {
              indexes = made.indexes;
              counter = made.counter;
              generation = made.generation;
              generations = made.generations;
              is_counter = made.is_counter;
              slots = untouched _ _ (slots_known old) (slots_known new) made.slots;
              capacity = made.capacity;
              maximum = made.maximum;
            };
            overflow = step.0.overflow;
          },
          step.1,
          record { renamed = step.2.renamed; stack_capacity = step.2.stack_capacity },
        )

    layout_touched : (reset : Bool) (r : InvalidationOption Unit) → CompressCanonicalStep pointers old reset r new → CompressCanonicalStep pointers (touch old) reset r (touch new)
    layout_touched reset r step =
        let made = step.0.canonical in (
          record {
            canonical = record {
              indexes = made.indexes;
              order = made.order;
              renamed = made.renamed;
              new_chains = made.new_chains;
              new_indexes = made.new_indexes;
              values = made.values;
              counter = made.counter;
              generation = made.generation;
              generations = made.generations;
              is_counter = made.is_counter;
              slots = untouched _ _ (slots_known old) (slots_known new) made.slots;
              capacity = made.capacity;
              maximum = made.maximum;
            };
            overflow = step.0.overflow;
          },
          step.1,
        )

  module _ {Gen T : Type 0} (following : Gen → Gen) where
    without_each_touched : (old : Links Gen T) (walk : List ℕ) → touch (without_each following old walk) ≡ without_each following (touch old) walk
    without_each_touched old [] = refl
    without_each_touched old (i ∷ walk) = without_each_touched (remove_link following old i) walk

  module _ {P I Gen W T : Type 0} (pointers : PointerKind P I Gen W) (old new : Links Gen T) where
    drains_touched : (p : ℕ × Gen) (take : ℕ) (r : Option ℕ) → DrainChainStep pointers old p take r new → DrainChainStep pointers (touch old) p take r (touch new)
    drains_touched p take None step = (step.0, ap touch step.1)
    drains_touched p take (Some count) step = record {
      valid = step.valid;
      walk = step.walk;
      is_walk = step.is_walk;
      counted = step.counted;
      state = ap touch step.state ∙ without_each_touched pointers.following old step.walk;
      chains = step.chains;
    }

    inserted_touched : (kind : InsertKind P I) (t : T) (p : P) → IsLinkInserted value_state link_map pointers old kind t p new
        → IsLinkInserted value_state link_map pointers (touch old) kind t p (touch new)
    inserted_touched kind t p made = record {
      entries = record { free = made.entries.free; stored = made.entries.stored; rest = made.entries.rest };
      links = made.links;
      pairs = made.pairs;
      chains = made.chains;
      more = made.more;
      generation = made.generation;
      index = made.index;
      slots = ap (option_map (λ (s : Slots). record s { touched = n })) made.slots;
      counter = made.counter;
      maximum = made.maximum;
    }

    new_link_touched : (kind : InsertKind P I) (t : T) (p : P) → IsNewLinkAnyhow pointers old kind t new p → IsNewLinkAnyhow pointers (touch old) kind t (touch new) p
    new_link_touched kind t p made = record {
      pointer = made.pointer;
      state = ap touch made.state;
      state_within_capacity = λ less. ap touch (made.state_within_capacity less);
      grown = record { capacity = made.grown.capacity; reached = made.grown.reached };
    }

    inserts_touched : (kind : InsertKind P I) (t : T) (r : Result P ChainInsertionError) → InsertStep pointers old kind t r new → InsertStep pointers (touch old) kind t r (touch new)
    inserts_touched kind t (Ok p) step = ((step.0.0, (inserted_touched kind t p step.0.1.0, step.0.1.1)), tt, new_link_touched kind t p step.2)
    inserts_touched kind t (Err failed.FailedLinkRequirement) step = (step.0, ap touch step.1, tt)
    inserts_touched kind t (Err failed.BeyondMaxCapacity) step = (step.0, ap touch step.1, tt)
    inserts_touched kind t (Err failed.AllocError) step = (step.0, ap touch step.1, tt)
    inserts_touched kind t (Err failed.NotWithinCapacity) step = absurd step.0

    inserts_within_touched : (kind : InsertKind P I) (t : T) (r : Result P ChainInsertionError) → InsertWithinStep pointers old kind t r new → InsertWithinStep pointers (touch old) kind t r (touch new)
    inserts_within_touched kind t (Ok p) step = ((step.0.0, step.0.1, (inserted_touched kind t p step.0.2.0, step.0.2.1)), tt, new_link_touched kind t p step.2)
    inserts_within_touched kind t (Err failed.FailedLinkRequirement) step = (step.0, ap touch step.1, tt)
    inserts_within_touched kind t (Err failed.NotWithinCapacity) step = (step.0, ap touch step.1, tt)
    inserts_within_touched kind t (Err failed.BeyondMaxCapacity) step = absurd step.0
    inserts_within_touched kind t (Err failed.AllocError) step = absurd step.0

    reserves_touched : (m : ℕ) (r : Result Unit ReallocationError) → ReserveStep pointers old m r new → ReserveStep pointers (touch old) m r (touch new)
    reserves_touched m (Ok done) step = (
      (ap touch_view step.0.0, step.0.1, step.0.2),
      tt,
      record { state = ap touch step.2.state; enough = λ few. ap touch (step.2.enough few); grown = step.2.grown },
    )
    reserves_touched m (Err why) step = (step.0, ap touch step.1, tt)

  module _ {P T I Gen W : Type 0} (pointers : PointerKind P I Gen W) where
    pub step_touched : (old new : Links Gen T) (c : Call P T I Gen W) (r : Reply P T I Gen W) → Step pointers old c r new
        → Step pointers (touch old) c r (touch new)
    step_touched old new (call.Insert kind t) r step = (step.0, step.1, inserts_touched pointers old new kind t step.0 step.2)
    step_touched old new (call.InsertWithin kind t) r step = (step.0, step.1, inserts_within_touched pointers old new kind t step.0 step.2)
    step_touched old new (call.Connect p q) r step = (step.0, step.1, connects_touched pointers old new p q step.0 step.2)
    step_touched old new (call.BreakPrev p) r step = (step.0, step.1, breaks_prev_touched pointers old new p step.0 step.2)
    step_touched old new (call.BreakNext p) r step = (step.0, step.1, breaks_next_touched pointers old new p step.0 step.2)
    step_touched old new (call.ExchangeNext p q) r step = (step.0, step.1, exchanges_touched pointers old new p q step.0 step.2)
    step_touched old new (call.ReverseChain p) r step = (step.0, step.1, reverses_touched pointers old new p step.0 step.2)
    step_touched old new (call.MoveAfter p q) r step = (step.0, step.1, moves_touched pointers old new p q step.0 step.2)
    step_touched old new (call.SpliceAfter p first last) r step = (step.0, step.1, splices_touched pointers old new p first last step.0 step.2)
    step_touched old new (call.ArrangeChain order) r step = (step.0, step.1, arranges_touched pointers old new order.items step.0 step.2)
    step_touched old new (call.Remove p) r step = (
      step.0,
      step.1,
      (
        reports_more pointers.wraps _ _ _ _ (Some old.counter) step.0 step.2.0 (λ absent. absent) (λ link taken. (taken.0, (taken.1.0, removed_touched pointers old new (pointers.key p).0 taken.1.1))),
        none_touched pointers old new (value_within step.0) step.2.1,
        removal_touched pointers old new (value_within step.0) (pointers.key p).0 step.2.2,
      ),
    )
    step_touched old new (call.RemoveInx i) r step = (
      step.0,
      step.1,
      (
        reports_more pointers.wraps _ _ _ _ (Some old.counter) step.0 step.2.0 (λ absent. absent) (λ e taken. (taken.0, removed_touched pointers old new (pointers.number i) taken.1)),
        none_touched pointers old new (value_within step.0) step.2.1,
        removal_touched pointers old new (value_within step.0) (pointers.number i) step.2.2,
      ),
    )
    step_touched old new (call.Invalidate p) r step = (
      step.0,
      step.1,
      (
        reports_more pointers.wraps _ _ _ _ (Some old.counter) step.0 step.2.0 (λ absent. absent) (λ q made. (made.0, made.1, made.2, ap touch_view made.3)),
        none_touched pointers old new (value_within step.0) step.2.1,
        renewal_touched pointers old new (value_within step.0) (pointers.key p).0 step.2.2,
      ),
    )
    step_touched old new (call.DrainChain p take) r step = (step.0, step.1, drains_touched pointers old new (pointers.key p) take step.0 step.2)
    step_touched old new call.Clear r step = (step.0, step.1, (record { after = ap touch_view step.2.0.after; overflow = step.2.0.overflow }, ap touch step.2.1))
    step_touched old new (call.Compress reset) r step = (step.0, step.1, compression_touched pointers old new reset step.0 step.2)
    step_touched old new (call.CompressCanonical reset) r step = (step.0, step.1, layout_touched pointers old new reset step.0 step.2)
    step_touched old new (call.Reserve m) r step = (step.0, step.1, reserves_touched pointers old new m step.0 step.2)
    step_touched old new (call.SetGeneration g) r step = (step.0, ap touch step.1)
    step_touched old new call.IncGeneration r step = (step.0, ap touch step.1)

    pub run_touched : (old new : Links Gen T) (calls : List (Call P T I Gen W)) (replies : List (Reply P T I Gen W)) → Run pointers old calls replies new
        → Run pointers (touch old) calls replies (touch new)
    run_touched old new [] [] run = ap touch run
    run_touched old new [] (r ∷ replies) run = run
    run_touched old new (c ∷ calls) [] run = run
    run_touched old new (c ∷ calls) (r ∷ replies) run = (touch run.0, step_touched old run.0 c r run.1, run_touched run.0 new calls replies run.2)
