-- One step of settling: the entry at i is exchanged with slot d and loses its destination d, and one entry less waits.
use Rattle.std.proofs.Common.{◌≡◌, ◌≢◌, ℕ, ◌+◌, ◌≤◌, List, length, Bool, true, false, Option, None, Some, refl, sym, ap, ◌∙◌, subst, arith}
use Rattle.std.specs.Prelude.{is_some}
use Rattle.std.specs.Bool.{OnTrue, OnFalse}
use Rattle.std.specs.Option.{option_map, option_and_then}
use Rattle.std.proofs.Math.Decide.{ℕ_discrete}
use Rattle.arena_traits.specs.Arena.{slot_at, with_slot}
use Rattle.arena_base.specs.DetachedSlots.{DetachedView, with_placed_entry, detached_with_value}
use Rattle.arena_traits.proofs.ArenaViewLemmas.{length-with_slot}
use Rattle.chain_links.specs.declared.links.RawLink.{RawLink}
use Rattle.chain_compaction.specs.Permutations.{HasDestination, IsSettledAt, WaitsWithin, IsInBlock, IsSettling, ListsWaiting, waiting_count, waits, Settles}
use Rattle.chain_compaction.specs.Destinations.{IsDirectedAt}
use Rattle.chain_compaction.proofs.SlotCountLemmas.{slot_at-same, slot_at-other, stored-within, count-with_slot, mark, one_if}
use Rattle.chain_compaction.proofs.SlotSwapLemmas.{moving_continues, arrived_from, waited_there}
use Rattle.chain_links.specs.Links.{destination_of, destination_at}

pub settled_rests : {Gen K T : Type 0} (number : K → Option ℕ) (g : Gen) (e f : Gen × RawLink K T) → Settles number g e f → destination_of number f ≡ None
settled_rests number g e f s = s.empty

pub settled_waits_not : {E : Type 0} (goal : E → Option ℕ) (Settled : E → E → Type 0) (now : ℕ → Option E) (d : ℕ) (e : E) → ((e f : E) → Settled e f → goal f ≡ None) → IsSettledAt Settled now d e
    → (h : ℕ) (f : E) → HasDestination goal now d f h → ⊥
settled_waits_not goal Settled now d e done s h f w =
    let both : Some s.entry ≡ Some f = sym s.stored ∙ w.stored in
    let none : goal s.entry ≡ None = done e s.entry s.settled in
    let some : goal f ≡ Some h = w.to in
    cc

exchanged_entry : {Gen K T : Type 0} (number : K → Option ℕ) (g : Gen) (slots : List (Option (Gen × RawLink K T))) (i d : ℕ) (e : Gen × RawLink K T)
    → HasDestination (destination_of number) (slot_at slots) i e d → 1 ≤ d → d ≤ length slots
    → slot_at (with_slot (with_slot slots i (slot_at slots d)) d (option_map (λ (x : Gen × RawLink K T). (g, x.1)) (slot_at slots i))) d ≡ Some (g, e.1)
exchanged_entry {Gen} {K} {T} number g slots i d e w low high =
    let same : length (with_slot slots i (slot_at slots d)) ≡ length slots = length-with_slot slots i (slot_at slots d) in
    let within : d ≤ length (with_slot slots i (slot_at slots d)) = omega arith in
    slot_at-same (with_slot slots i (slot_at slots d)) d (option_map (λ (x : Gen × RawLink K T). (g, x.1)) (slot_at slots i)) low within
    ∙ ap (option_map (λ (x : Gen × RawLink K T). (g, x.1))) w.stored

module _ {Gen K T : Type 0} (number : K → Option ℕ) (g : Gen) (slots : List (Option (Gen × RawLink K T))) (i d : ℕ) (e : Gen × RawLink K T)
    (link : RawLink K T) (empty : number link.destination ≡ None) (rest : link ≡ record e.1 { destination = link.destination })
    (w : HasDestination (destination_of number) (slot_at slots) i e d) (low : 1 ≤ d) (high : d ≤ length slots) where
  abbrev Entry : Type 0
  Entry = Gen × RawLink K T

  abbrev renewed : Entry → Entry
  renewed x = (g, x.1)

  abbrev mid : List (Option Entry)
  mid = with_slot slots i (slot_at slots d)

  abbrev exchanged : List (Option Entry)
  exchanged = with_slot mid d (option_map renewed (slot_at slots i))

  abbrev pub two : List (Option Entry)
  two = with_slot exchanged d (option_map (λ (x : Entry). (x.0, link)) (slot_at exchanged d))

  here : (1 ≤ i) × (i ≤ length slots)
  here = stored-within slots i e w.stored

  length-mid : length mid ≡ length slots
  length-mid = length-with_slot slots i (slot_at slots d)

  length-exchanged : length exchanged ≡ length slots
  length-exchanged = length-with_slot mid d (option_map renewed (slot_at slots i)) ∙ length-mid

  pub length-two : length two ≡ length slots
  length-two = length-with_slot exchanged d (option_map (λ (x : Entry). (x.0, link)) (slot_at exchanged d)) ∙ length-exchanged

  within_mid : d ≤ length mid
  within_mid = let l : length mid ≡ length slots = length-mid in omega arith

  within_exchanged : d ≤ length exchanged
  within_exchanged = let l : length exchanged ≡ length slots = length-exchanged in omega arith

  mid_same : slot_at mid i ≡ slot_at slots d
  mid_same = slot_at-same slots i (slot_at slots d) here.0 here.1

  mid_other : (j : ℕ) → (j ≢ i) → slot_at mid j ≡ slot_at slots j
  mid_other j ne = slot_at-other slots i j (slot_at slots d) here.0 here.1 ne

  mid_at_d : slot_at mid d ≡ slot_at slots d
  mid_at_d = by (ℕ_discrete d i)
    where
      by : Dec (d ≡ i) → slot_at mid d ≡ slot_at slots d
      by (yes s) = ap (slot_at mid) s ∙ mid_same
      by (no n) = mid_other d n

  exchanged_at_d : slot_at exchanged d ≡ Some (renewed e)
  exchanged_at_d = exchanged_entry number g slots i d e w low high

  two_at_d : slot_at two d ≡ Some (g, link)
  two_at_d = slot_at-same exchanged d (option_map (λ (x : Entry). (x.0, link)) (slot_at exchanged d)) low within_exchanged
      ∙ ap (option_map (λ (x : Entry). (x.0, link))) exchanged_at_d

  settled_at_d : IsSettledAt (Settles number g) (slot_at two) d e
  settled_at_d = record { entry = (g, link); stored = two_at_d; settled = record { generation = refl; empty = empty; rest = rest } }

  two_beside : (j : ℕ) → (j ≢ d) → slot_at two j ≡ slot_at mid j
  two_beside j ne =
      slot_at-other exchanged d j (option_map (λ (x : Entry). (x.0, link)) (slot_at exchanged d)) low within_exchanged ne
      ∙ slot_at-other mid d j (option_map renewed (slot_at slots i)) low within_mid ne

  two_at_i : (i ≢ d) → slot_at two i ≡ slot_at slots d
  two_at_i ne = two_beside i ne ∙ mid_same

  two_other : (j : ℕ) → (j ≢ i) → (j ≢ d) → slot_at two j ≡ slot_at slots j
  two_other j n m = two_beside j m ∙ mid_other j n

  pub one_less : waiting_count (destination_of number) two + 1 ≡ waiting_count (destination_of number) slots
  one_less =
      let a : waiting_count (destination_of number) mid + mark (destination_of number) (slot_at slots i) ≡ waiting_count (destination_of number) slots + mark (destination_of number) (slot_at slots d)
      = count-with_slot (waits (destination_of number)) slots i (slot_at slots d) here.0 here.1 in
      let b : waiting_count (destination_of number) exchanged + mark (destination_of number) (slot_at mid d) ≡ waiting_count (destination_of number) mid + mark (destination_of number) (option_map renewed (slot_at slots i))
      = count-with_slot (waits (destination_of number)) mid d (option_map renewed (slot_at slots i)) low within_mid in
      let c : waiting_count (destination_of number) two + mark (destination_of number) (slot_at exchanged d) ≡ waiting_count (destination_of number) exchanged + mark (destination_of number) (option_map (λ (x : Entry). (x.0, link)) (slot_at exchanged d))
      = count-with_slot (waits (destination_of number)) exchanged d (option_map (λ (x : Entry). (x.0, link)) (slot_at exchanged d)) low within_exchanged in
      let waited : ◌≡◌ {A = ℕ} (one_if (is_some (destination_of number e))) 1 = ap (λ (o : Option ℕ). one_if (is_some o)) w.to in
      let m1 : mark (destination_of number) (slot_at slots i) ≡ 1 = ap (mark (destination_of number)) w.stored ∙ waited in
      let m2 : mark (destination_of number) (slot_at mid d) ≡ mark (destination_of number) (slot_at slots d) = ap (mark (destination_of number)) mid_at_d in
      let m3 : mark (destination_of number) (option_map renewed (slot_at slots i)) ≡ 1 = ap (λ (x : Option Entry). mark (destination_of number) (option_map renewed x)) w.stored ∙ waited in
      let m4 : mark (destination_of number) (slot_at exchanged d) ≡ 1 = ap (mark (destination_of number)) exchanged_at_d ∙ waited in
      let m5 : mark (destination_of number) (option_map (λ (x : Entry). (x.0, link)) (slot_at exchanged d)) ≡ 0
      = ap (λ (x : Option Entry). mark (destination_of number) (option_map (λ (y : Entry). (y.0, link)) x)) exchanged_at_d ∙ ap (λ (o : Option ℕ). one_if (is_some o)) empty in
      omega arith

  pub own_settles : d ≡ i → (h : ℕ) (f : Entry) → HasDestination (destination_of number) (slot_at two) i f h → ⊥
  own_settles own h f v = settled_waits_not (destination_of number) (Settles number g) (slot_at two) d e (settled_rests number g) settled_at_d h f (subst (λ (x : ℕ). HasDestination (destination_of number) (slot_at two) x f h) (sym own) v)

  pub settles_on : IsSettling (destination_of number) (Settles number g) (λ (j : ℕ). j ≡ i) slots two
  settles_on = record {
    moves = λ first m. moving_continues (destination_of number) (Settles number g) (settled_rests number g) (slot_at slots) (slot_at two) i d e settled_at_d two_at_i two_other first m w;
    within = λ b. record { within = bound b };
    length = length-two;
    stays = λ j h f ne v. waited_there (destination_of number) (Settles number g) (settled_rests number g) (slot_at slots) (slot_at two) i d e settled_at_d two_at_i two_other j f h ne v;
  }
    where
      bound : WaitsWithin (destination_of number) slots → (j h : ℕ) (f : Entry) → HasDestination (destination_of number) (slot_at two) j f h → (1 ≤ h) × (h ≤ length two)
      bound b j h f v =
          let u = arrived_from (destination_of number) (Settles number g) (settled_rests number g) (slot_at slots) (slot_at two) i d e settled_at_d two_at_i two_other j f h v in
          let at = b.within u.0 h f u.1 in
          let first : 1 ≤ h = at.0 in
          let last : h ≤ length slots = at.1 in
          let same : length two ≡ length slots = length-two in
          (first, omega arith)

pub settling_begins : {E : Type 0} (goal : E → Option ℕ) (Settled : E → E → Type 0) (block : ℕ → Type 0) (old : List (Option E)) → IsSettling goal Settled block old old
settling_begins goal Settled block old = record { moves = λ first m. m; within = λ b. b; length = refl; stays = λ j k f out v. v }

pub settling_continues : {E : Type 0} (goal : E → Option ℕ) (Settled : E → E → Type 0) (block : ℕ → Type 0) (i : ℕ) (old now next : List (Option E)) → block i
    → IsSettling goal Settled block old now → IsSettling goal Settled (λ (j : ℕ). j ≡ i) now next → IsSettling goal Settled block old next
settling_continues goal Settled block i old now next inside before step = record {
  moves = λ first m. step.moves first (before.moves first m);
  within = λ b. step.within (before.within b);
  length = step.length ∙ before.length;
  stays = λ j d e out w. before.stays j d e out (step.stays j d e (λ s. out (subst block (sym s) inside)) w);
}

pub settling_joins : {E : Type 0} (goal : E → Option ℕ) (Settled : E → E → Type 0) (block : ℕ → Type 0) (old now next : List (Option E))
    → IsSettling goal Settled block old now → IsSettling goal Settled block now next → IsSettling goal Settled block old next
settling_joins goal Settled block old now next before after = record {
  moves = λ first m. after.moves first (before.moves first m);
  within = λ b. after.within (before.within b);
  length = after.length ∙ before.length;
  stays = λ j d e out w. before.stays j d e out (after.stays j d e out w);
}

module _ {Gen K : Type 0} (goal : Gen × K → Option ℕ) (Settled : Gen × K → Gen × K → Type 0) (start count : ℕ) (positions : List ℕ) (left : ℕ) (old now was_read : DetachedView Gen K) where
  pub record IsBlockRead : Type 0 where
    pub lists : ListsWaiting goal start count positions left (slot_at was_read.slots)
    pub settles : IsSettling goal Settled (IsInBlock start count) old.slots was_read.slots
    pub capacity : was_read.stack_capacity ≡ old.stack_capacity
    pub maximum : was_read.maximum ≡ old.maximum

  pub settle_reads : was_read ≡ now → ListsWaiting goal start count positions left (slot_at now.slots) → IsSettling goal Settled (IsInBlock start count) old.slots now.slots
      → now.stack_capacity ≡ old.stack_capacity → now.maximum ≡ old.maximum → IsBlockRead
  settle_reads same lists settles capacity maximum = record {
    lists = subst (λ (h : DetachedView Gen K). ListsWaiting goal start count positions left (slot_at h.slots)) (sym same) lists;
    settles = subst (λ (h : DetachedView Gen K). IsSettling goal Settled (IsInBlock start count) old.slots h.slots) (sym same) settles;
    capacity = ap (λ (h : DetachedView Gen K). h.stack_capacity) same ∙ capacity;
    maximum = ap (λ (h : DetachedView Gen K). h.maximum) same ∙ maximum;
  }

pub none_waits : {E : Type 0} (goal : E → Option ℕ) (slots : List (Option E)) (i : ℕ) → None ≡ option_and_then goal (slot_at slots i) → (d : ℕ) (e : E) → HasDestination goal (slot_at slots) i e d → ⊥
none_waits goal slots i is d e w =
    let none : None ≡ goal e = is ∙ ap (option_and_then goal) w.stored in
    let some : goal e ≡ Some d = w.to in
    cc

module _ {Gen K T : Type 0} (number : K → Option ℕ) (g : Gen) (i d : ℕ) (before exchanged after : DetachedView Gen (RawLink K T))
    (is : Some d ≡ destination_at number before.slots i) (all : WaitsWithin (destination_of number) before.slots) where
  abbrev Entries : Type 0
  Entries = List (Option (Gen × RawLink K T))

  who : (e : Gen × RawLink K T) × HasDestination (destination_of number) (slot_at before.slots) i e d
  who = by (slot_at before.slots i) refl is
    where
      by : (s : Option (Gen × RawLink K T)) → slot_at before.slots i ≡ s → Some d ≡ option_and_then (destination_of number) s → (e : Gen × RawLink K T) × HasDestination (destination_of number) (slot_at before.slots) i e d
      by None at is = absurd (cc)
      by (Some e) at is = (e, record { stored = at; to = sym is })

  bounds : (1 ≤ d) × (d ≤ length before.slots)
  bounds = all.within i d who.0 who.1

  pub from_within : i ≤ length before.slots
  from_within = (stored-within before.slots i who.0 who.1.stored).1

  pub to_within : d ≤ length before.slots
  to_within = bounds.1

  pub entry_there : is_some (slot_at before.slots i) ≡ true
  entry_there = ap (λ (o : Option (Gen × RawLink K T)). is_some o) who.1.stored

  module _ (moved : exchanged ≡ with_placed_entry before i d g) (emptied : IsDirectedAt number d None exchanged after) where
    stored_link : Some who.0.1 ≡ option_map (λ (e : Gen × RawLink K T). e.1) (slot_at exchanged.slots d)
    stored_link = sym (ap (λ (h : DetachedView Gen (RawLink K T)). option_map (λ (e : Gen × RawLink K T). e.1) (slot_at h.slots d)) moved
        ∙ ap (option_map (λ (e : Gen × RawLink K T). e.1)) (exchanged_entry number g before.slots i d who.0 who.1 bounds.0 bounds.1))

    left : (w : RawLink K T) × (number w.destination ≡ None) × (w ≡ record who.0.1 { destination = w.destination }) × (after ≡ detached_with_value exchanged d w)
    left = emptied.there who.0.1 stored_link

    pub capacity_after : after.stack_capacity ≡ before.stack_capacity
    capacity_after = ap (λ (h : DetachedView Gen (RawLink K T)). h.stack_capacity) left.3 ∙ ap (λ (h : DetachedView Gen (RawLink K T)). h.stack_capacity) moved

    pub maximum_after : after.maximum ≡ before.maximum
    maximum_after = ap (λ (h : DetachedView Gen (RawLink K T)). h.maximum) left.3 ∙ ap (λ (h : DetachedView Gen (RawLink K T)). h.maximum) moved

    slots_after : two number g before.slots i d who.0 left.0 left.1 left.2 who.1 bounds.0 bounds.1 ≡ after.slots
    slots_after = sym (ap (λ (h : DetachedView Gen (RawLink K T)). h.slots) left.3 ∙ ap (λ (h : DetachedView Gen (RawLink K T)). (detached_with_value h d left.0).slots) moved)

    pub one_less_after : waiting_count (destination_of number) after.slots + 1 ≡ waiting_count (destination_of number) before.slots
    one_less_after = subst (λ (s : Entries). waiting_count (destination_of number) s + 1 ≡ waiting_count (destination_of number) before.slots) slots_after
        (one_less number g before.slots i d who.0 left.0 left.1 left.2 who.1 bounds.0 bounds.1)

    pub none_after : (may : Bool) → (may ≡ false → d ≡ i) → OnFalse may ((h : ℕ) (f : Gen × RawLink K T) → HasDestination (destination_of number) (slot_at after.slots) i f h → ⊥)
    none_after true own = tt
    none_after false own = subst (λ (s : Entries). (h : ℕ) (f : Gen × RawLink K T) → HasDestination (destination_of number) (slot_at s) i f h → ⊥) slots_after
        (own_settles number g before.slots i d who.0 left.0 left.1 left.2 who.1 bounds.0 bounds.1 (own refl))

    pub fewer_after : (may : Bool) → OnTrue may (waiting_count (destination_of number) after.slots + 1 ≡ waiting_count (destination_of number) before.slots)
    fewer_after true = one_less_after
    fewer_after false = tt

    pub settles_after : IsSettling (destination_of number) (Settles number g) (λ (j : ℕ). j ≡ i) before.slots after.slots
    settles_after = subst (IsSettling (destination_of number) (Settles number g) (λ (j : ℕ). j ≡ i) before.slots) slots_after
        (settles_on number g before.slots i d who.0 left.0 left.1 left.2 who.1 bounds.0 bounds.1)
