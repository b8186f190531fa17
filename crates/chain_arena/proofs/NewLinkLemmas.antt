-- The links beside a new one, and its insertion.
use Rattle.std.proofs.Common.{◌≡◌, ◌↔◌, inl, ℕ, ◌+◌, ◌<◌, ◌≤◌, Option, None, Some, Result, Ok, Err, OnErr, refl, sym, ap, ap₂, ◌∙◌, subst, subst₂, arith}
use Rattle.std.specs.Prelude.{is_some, IsSome, IsSomeAnd, IfSome}
use Rattle.std.specs.Borrow.{Bor}
use Rattle.std.specs.Option.{option_map, option_and_then}
use Rattle.std.proofs.lemmas.Bool.{false≢true}
use Rattle.arena_core.specs.PointerKinds.{PointerKind}
use Rattle.arena_core.specs.Errors.{insertion_error}
use Rattle.arena_core.specs.SlotStack.{IsBeyond}
use Rattle.arena_core.specs.declared.errors.ChainInsertionError.{ChainInsertionError}
use Rattle.arena_core.specs.declared.errors.ReallocationError.{ReallocationError}
use Rattle.arena_core.specs.declared.errors.ReallocationError.TheVariants as refused
use Rattle.chain_laws.specs.Chains.{IsWellLinked, next_of, prev_of, next_in, prev_in}
use Rattle.chain_laws.specs.Insertions.{IsInsertPosition}
use Rattle.chain_laws.specs.declared.insert_kind.InsertKind.{InsertKind}
use Rattle.chain_laws.proofs.InsertionLemmas.Pairs.{kind_position}
use Rattle.arena_traits.specs.Arena.{Arena, IsCapacityFor, IsListed, IsValid, HasCapacityFor, ReachesCapacity, entry_at, entry_count, next_index, with_capacity_of}
use Rattle.arena_traits.specs.Entries.{HasFreeCapacity, view_of, count}
use Rattle.arena_traits.specs.Growth.{RefusesOneMore}
use Rattle.arena_traits.proofs.ArenaViewLemmas.{length-entries}
use Rattle.arena_base.specs.Growths.{HasGrownFor, GrowsArenaForOneMore}
use Rattle.chain_links.specs.ChainArena.{link_map, value_view, value_state, entry, insert_between, interlinks_in, on_value}
use Rattle.chain_links.specs.Insertions.{IsInsertionRefusal, MayInsertIn, before_new, after_new}
use Rattle.chain_links.specs.Links.{link_view, links_view}
use Rattle.chain_links.specs.declared.links.RawLink.{RawLink}
use Rattle.chain_links.proofs.ArenaInsertionLemmas.{next_index-links_view, entry_count-links_view, values-count}
use Rattle.chain_linking.proofs.ConnectionLemmas.{same_valid, value_at}
use Rattle.chain_linking.proofs.LinkEntryLemmas.{links-view_after}
use Rattle.chain_linking.proofs.NeighborLemmas.{valid_link, link_where}
use Rattle.chain_linking.specs.ChainArenaLaws.{links_exist}
use Rattle.chain_arena.specs.NewLinks.{ReturnsBeside, AreBesideNew, InsertsBeside, InsertsNewLink, with_new_link}
use Rattle.chain_arena.specs.Effects.{Links}
use Rattle.chain_arena.proofs.InsertionEffectLemmas.{insertion_known}

pub next_viewed : {K Gen T : Type 0} (packed : K → Option ℕ) (a : Arena Gen (RawLink K T)) (p : ℕ × Gen) → p ≡ (next_index a, a.counter) → p ≡ (next_index (links_view packed a), a.counter)
next_viewed packed a p at = subst (λ (q : ℕ). p ≡ (q, a.counter)) (sym (next_index-links_view packed a)) at

pub less_entries : {K Gen T : Type 0} (packed : K → Option ℕ) (a : Arena Gen (RawLink K T)) {n : ℕ} → entry_count (links_view packed a) < n → entry_count a < n
less_entries packed a less = let same = entry_count-links_view packed a in omega (arith, less, same)

pub returns_beside : {I : Type 0} (number : I → ℕ) (may may' : Type 0) (u v u' v' : Option ℕ) (r : Option (Option I × Option I)) → ReturnsBeside number may u v r → may ↔ may' → (may' → u ≡ u') → (may' → v ≡ v')
    → ReturnsBeside number may' u' v' r
returns_beside number may may' u v u' v' None is same before after = record { some = (λ h. absurd (false≢true h), λ h. is.some.1 (same.1 h)); beside = tt }
returns_beside number may may' u v u' v' (Some beside) is same before after =
    let given = same.0 (is.some.0 refl) in
    record { some = (λ _. given, λ _. refl); beside = record { before = is.beside.before ∙ before given; after = is.beside.after ∙ after given } }

module _ {Gen K T : Type 0} (packed : K → Option ℕ) (a : Links Gen T) (i : ℕ) (given : Type 0) where
  abbrev pub Found : Option (Bor (RawLink K T)) → Type 0
  Found r = (IsSome r ↔ given) × IfSome r (λ link. link_map a i ≡ Some (interlinks_in (link_view packed link.now)))

  abbrev next_read : Option (Bor (RawLink K T)) → Option ℕ
  next_read r = option_and_then (λ link. (link_view packed link.now).next) r

  abbrev prev_read : Option (Bor (RawLink K T)) → Option ℕ
  prev_read r = option_and_then (λ link. (link_view packed link.now).prev) r

  pub next_found : (r : Option (Bor (RawLink K T))) → Found r → given → next_read r ≡ next_of (link_map a) i
  next_found None found has = absurd (false≢true (found.0.1 has))
  next_found (Some link) found has = sym (ap next_in found.1)

  pub prev_found : (r : Option (Bor (RawLink K T))) → Found r → given → prev_read r ≡ prev_of (link_map a) i
  prev_found None found has = absurd (false≢true (found.0.1 has))
  prev_found (Some link) found has = sym (ap prev_in found.1)

  pub next_is : (o : Option ℕ) (r : Option (Bor (RawLink K T))) → Found r → IsSomeAnd r (λ link. (link_view packed link.now).next ≡ o) ↔ (given × (next_of (link_map a) i ≡ o))
  next_is o None found = (λ h. absurd h, λ h. absurd (false≢true (found.0.1 h.0)))
  next_is o (Some link) found = (λ h. (found.0.0 refl, ap next_in found.1 ∙ h), λ h. sym (ap next_in found.1) ∙ h.1)

  pub prev_is : (o : Option ℕ) (r : Option (Bor (RawLink K T))) → Found r → IsSomeAnd r (λ link. (link_view packed link.now).prev ≡ o) ↔ (given × (prev_of (link_map a) i ≡ o))
  prev_is o None found = (λ h. absurd h, λ h. absurd (false≢true (found.0.1 h.0)))
  prev_is o (Some link) found = (λ h. (found.0.0 refl, ap prev_in found.1 ∙ h), λ h. sym (ap prev_in found.1) ∙ h.1)

module _ {Gen K T : Type 0} (packed : K → Option ℕ) (a : Arena Gen (RawLink K T)) where
  pub found_ptr : (p : ℕ × Gen) (r : Option (Bor (RawLink K T))) → IsSome r ↔ IsValid (entry_at a) p → IfSome r (λ link. entry_at a p.0 ≡ Some (p.1, link.now)) → Found packed (links_view packed a) p.0 (IsValid (entry (links_view packed a)) p) r
  found_ptr p None some value = ((λ h. absurd (false≢true h), λ valid. some.1 ((same_valid packed a p).1 valid)), tt)
  found_ptr p (Some link) some value = ((λ _. (same_valid packed a p).0 (some.0 refl), λ _. refl), links-view_after packed a p.0 p.1 link.now value)

  pub found_inx : (i : ℕ) (r : Option (Bor (RawLink K T))) → option_map (λ link. link.now) r ≡ option_map (λ e. e.1) (entry_at a i) → Found packed (links_view packed a) i (IsSome (entry (links_view packed a) i)) r
  found_inx i r is = by_entry r (entry_at a i) refl is
    where
      stored : (o : Option (Gen × RawLink K T)) → entry_at a i ≡ o → is_some (entry (links_view packed a) i) ≡ is_some o
      stored None there = ap is_some (value_at packed a i ∙ ap (option_map (on_value (λ l. l.t))) there)
      stored (Some e) there = ap is_some (value_at packed a i ∙ ap (option_map (on_value (λ l. l.t))) there)

      by_entry : (r : Option (Bor (RawLink K T))) (o : Option (Gen × RawLink K T)) → entry_at a i ≡ o → option_map (λ link. link.now) r ≡ option_map (λ e. e.1) o → Found packed (links_view packed a) i (IsSome (entry (links_view packed a) i)) r
      by_entry None None there is = ((λ h. absurd (false≢true h), λ h. absurd (false≢true (sym (stored None there) ∙ h))), tt)
      by_entry None (Some e) there is = absurd (let h = is in cc)
      by_entry (Some link) None there is = absurd (let h = is in cc)
      by_entry (Some link) (Some (g, l)) there is = let same : link.now ≡ l = cc in ((λ _. stored (Some (g, l)) there, λ _. refl), links-view_after packed a i g link.now (there ∙ ap (λ (x : RawLink K T). let o : Option (Gen × RawLink K T) = Some (g, x) in o) (sym same)))

pub grown_state : {Gen T : Type 0} (may_reach : ℕ → Option ℕ → ℕ → ℕ → Type 0) (greatest : ℕ) (a b : Arena Gen T) (r : Result Unit ReallocationError) → GrowsArenaForOneMore may_reach greatest a r b → OnErr r (b ≡ a) → b ≡ with_capacity_of a b
grown_state may_reach greatest a b (Ok done) grown err = grown.state
grown_state {Gen = Gen} {T = T} may_reach greatest a b (Err why) grown err = err ∙ ap (λ (x : Arena Gen T). with_capacity_of a x) (sym err)

module _ {Gen K T : Type 0} (packed : K → Option ℕ) (a : Arena Gen (RawLink K T)) where
  same_count : count (view_of a) ≡ count (value_view (links_view packed a))
  same_count = length-entries a ∙ (sym (entry_count-links_view packed a) ∙ sym (values-count (links_view packed a)))

  pub grown_view : (b : Arena Gen (RawLink K T)) (may_reach : ℕ → Option ℕ → ℕ → ℕ → Type 0) (greatest : ℕ) → HasGrownFor may_reach greatest (entry_count a + 1) a b
      → HasGrownFor may_reach greatest (entry_count (links_view packed a) + 1) (links_view packed a) (links_view packed b)
  grown_view b may_reach greatest grown =
      let same = entry_count-links_view packed a in
      record {
        state = ap (links_view packed) grown.state;
        capacity = subst (λ (n : ℕ). ReachesCapacity may_reach greatest (n + 1) (links_view packed a) (links_view packed b)) (sym same) (record { capacity = grown.capacity.capacity; reached = grown.capacity.reached });
        within = λ fits. ap (links_view packed) (grown.within (subst (λ (n : ℕ). n + 1 ≤ a.capacity) same fits));
      }

  pub refused_view : (why : ReallocationError) → RefusesOneMore (view_of a) why → RefusesOneMore (value_view (links_view packed a)) why
  refused_view refused.BeyondMaxCapacity refuses = (sym same_count ∙ refuses.0, subst (λ (n : ℕ). IsBeyond a.maximum (n + 1)) same_count refuses.1)
  refused_view refused.AllocError refuses = (sym same_count ∙ refuses.0, λ beyond. refuses.1 (subst (λ (n : ℕ). IsBeyond a.maximum (n + 1)) (sym same_count) beyond))

pub insertion_refused : (may : Type 0) (refuses : ReallocationError → Type 0) (why : ReallocationError) (e : ChainInsertionError) → e ≡ insertion_error why → may → refuses why → IsInsertionRefusal may refuses e
insertion_refused may refuses refused.BeyondMaxCapacity e is given refuses_it = subst (IsInsertionRefusal may refuses) (sym is) (given, refuses_it)
insertion_refused may refuses refused.AllocError e is given refuses_it = subst (IsInsertionRefusal may refuses) (sym is) (given, refuses_it)

pub free_capacity : {Gen T : Type 0} (old : Links Gen T) → HasFreeCapacity (value_view old) → entry_count old < old.capacity
free_capacity old less = let counted = values-count old in omega (arith, less, counted)

module _ {Gen T : Type 0} (may_reach : ℕ → Option ℕ → ℕ → ℕ → Type 0) (greatest : ℕ) (old : Links Gen T) where
  pub has_capacity : (n : ℕ) → HasCapacityFor greatest n old → HasFreeCapacity (value_view old) → HasGrownFor may_reach greatest (entry_count old + 1) old old
  has_capacity n held less = record {
    state = refl;
    capacity = record {
      capacity = (record { fits = (let counted = values-count old in omega (arith, less, counted)); at_most_greatest = held.0.at_most_greatest; within_maximum = held.0.within_maximum }, held.1, held.2);
      reached = inl refl;
    };
    within = λ _. refl;
  }

  module _ (new : Links Gen T) (grown : HasGrownFor may_reach greatest (entry_count old + 1) old new) where
    pub grown_capacity : entry_count new < new.capacity
    grown_capacity =
        let same : entry_count new ≡ entry_count old = ap (λ (a : Links Gen T). entry_count a) grown.state in
        let fits = grown.capacity.capacity.0.fits in
        omega (arith, same, fits)

    pub grown_within : entry_count old < greatest
    grown_within = let fits = grown.capacity.capacity.0.fits in let most = grown.capacity.capacity.0.at_most_greatest in omega (arith, fits, most)

module _ {P I Gen W T : Type 0} (pointers : PointerKind P I Gen W) (old : Links Gen T) (kind : InsertKind P I) where
  abbrev May : Type 0
  May = MayInsertIn value_state link_map pointers old kind

  pub may_position : IsWellLinked (link_map old) → May → (q : ℕ) → IsInsertPosition (link_map old) q (before_new pointers (link_map old) kind q) (after_new pointers (link_map old) kind q)
  may_position agrees may q =
      kind_position (λ p. (pointers.key p).0) pointers.number (λ p. IsValid (entry old) (pointers.key p)) (λ i. IsSome (entry old (pointers.number i))) (link_map old)
      (λ p valid. valid_link old (pointers.key p) valid)
      (λ i occupied. link_where (link_map old) (pointers.number i) (links_exist old (pointers.number i) ∙ occupied)) kind q agrees may

  module _ (beside : Option I × Option I) (agrees : IsWellLinked (link_map old)) (may : May) (are : AreBesideNew pointers old kind beside) where
    abbrev FitsBeside : Links Gen T → Type 0
    FitsBeside a = IsInsertPosition (link_map a) (next_index a) (option_map pointers.number beside.0) (option_map pointers.number beside.1)

    pub fits_beside : FitsBeside old
    fits_beside = subst₂ (IsInsertPosition (link_map old) (next_index old)) (sym are.before) (sym are.after) (may_position agrees may (next_index old))

    module _ (may_reach : ℕ → Option ℕ → ℕ → ℕ → Type 0) (mid : Links Gen T) (grown : HasGrownFor may_reach pointers.greatest (entry_count old + 1) old mid) where
      pub fits_grown : FitsBeside mid
      fits_grown = subst FitsBeside (sym grown.state) fits_beside

      module _ (t : T) (p : P) (new : Links Gen T) (insertion : InsertsBeside pointers mid beside t p new) where
        inserted_grown : new ≡ with_capacity_of (with_new_link pointers old kind t) mid
        inserted_grown =
            insertion.state
            ∙ (ap (λ (a : Links Gen T). insert_between a t (option_map pointers.number beside.0) (option_map pointers.number beside.1)) grown.state
            ∙ ap₂ (λ (u v : Option ℕ). with_capacity_of (insert_between old t u v) mid) are.before are.after)

        inserted_within : entry_count old + 1 ≤ old.capacity → new ≡ with_new_link pointers old kind t
        inserted_within fits =
            insertion.state
            ∙ (ap (λ (a : Links Gen T). insert_between a t (option_map pointers.number beside.0) (option_map pointers.number beside.1)) (grown.within fits)
            ∙ ap₂ (insert_between old t) are.before are.after)

        listed_before : IsListed old
        listed_before =
            let known = subst (λ (a : Links Gen T). IsListed a) grown.state insertion.listed in
            record { apart = known.apart; free = known.free; listed = known.listed }

        pub new_link : InsertsNewLink pointers may_reach old kind t p new
        new_link =
            let is = inserted_grown in
            let state : new ≡ with_capacity_of (with_new_link pointers old kind t) new = is ∙ ap (with_capacity_of (with_new_link pointers old kind t)) (sym is) in
            let pointer : pointers.key p ≡ (next_index old, old.counter) = insertion.pointer ∙ ap (λ (a : Links Gen T). (next_index a, a.counter)) grown.state in
            let held : ReachesCapacity may_reach pointers.greatest (entry_count old + 1) old (with_capacity_of old mid) = subst (ReachesCapacity may_reach pointers.greatest (entry_count old + 1) old) grown.state grown.capacity in
            let reaches : ReachesCapacity may_reach pointers.greatest (entry_count old + 1) old new =
            subst (ReachesCapacity may_reach pointers.greatest (entry_count old + 1) old) (sym is) (record { capacity = held.capacity; reached = held.reached }) in
            let counted = values-count old in (
              (
                insertion_known old t listed_before pointers new kind state p pointer agrees (may_position agrees may (next_index old)),
                (
                  subst (λ (n : ℕ). IsCapacityFor pointers.greatest new.maximum (n + 1) new.capacity) (sym counted) reaches.capacity.0,
                  λ fits. ap (λ (a : Links Gen T). a.capacity) (inserted_within (omega (arith, fits, counted))),
                ),
              ),
              record {
                pointer = pointer;
                state = state;
                state_within_capacity = λ less. inserted_within (omega (arith, less, counted));
                grown = reaches;
              },
            )
