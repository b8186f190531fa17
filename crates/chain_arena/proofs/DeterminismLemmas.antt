-- What a state and calls determine.
use Rattle.std.proofs.Common.{◌≡◌, ◌⊎◌, inl, inr, ⊎_elim, ℕ, ◌+◌, ◌<◌, ◌≤◌, Bool, List, [], ◌∷◌, length, min, Option, None, Some, Result, Ok, Err, refl, sym, ap, ap₂, ◌∙◌, subst, arith}
use Rattle.std.specs.Prelude.{is_some, IfSome, IfNone, OnSome}
use Rattle.std.proofs.lemmas.Bool.{false≢true}
use Rattle.std.proofs.lemmas.Option.{none-some}
use Rattle.arena_core.specs.Invalidation.{value_within}
use Rattle.arena_core.specs.SlotStack.{IsBeyond, IsWithinMaximum}
use Rattle.arena_core.specs.declared.errors.ChainInsertionError.{ChainInsertionError}
use Rattle.arena_core.specs.declared.errors.ChainInsertionError.TheVariants as failed
use Rattle.arena_core.specs.declared.errors.ReallocationError.{ReallocationError}
use Rattle.arena_core.specs.declared.errors.ReallocationError.TheVariants as refused
use Rattle.arena_core.specs.declared.invalidation.InvalidationResult.{InvalidationResult}
use Rattle.arena_core.specs.declared.invalidation.InvalidationResult.TheVariants.{Success, GenerationOverflow, InvalidPtr}
use Rattle.arena_core.specs.declared.packed_option.PackedOption.{PackedOption}
use Rattle.chain_laws.specs.Chains.{prev_of, next_of}
use Rattle.chain_laws.specs.Cuts.{without_pair}
use Rattle.chain_laws.proofs.WalkLemmas.Walker.{no_other_walk}
use Rattle.arena_traits.specs.Arena.{IsValid, entry_count, with_capacity_of}
use Rattle.arena_traits.specs.CallOutcomes.{ReportsOverflow}
use Rattle.chain_links.specs.ChainArena.{LinkView, link_map, value_view, value_state, entry, link_of, link_at, with_link_map}
use Rattle.chain_arena.specs.Drains.{without_each}
use Rattle.chain_links.specs.Links.{link_view, pair_view}
use Rattle.chain_arena.specs.Effects.{Links, GrowsStackToFit, IsCut, HaveSameCapacity}
use Rattle.chain_arena.specs.NewLinks.{with_new_link}
use Rattle.arena_traits.specs.Growth.{RefusesToFit, RefusesOneMore}
use Rattle.chain_links.specs.CallEffects.{IsTaken, AreMovedAfter, AreMovedInTurn}
use Rattle.arena_core.specs.PointerKinds.{PointerKind}
use Rattle.chain_arena.specs.Runs.{AreSameButTouched, AreSameButCapacityAndTouched, AreSameResults, AreSameReplies, refused_memory, capacity_needed, HasCapacityAlready, RunWithSameCapacity, EndSame, RunIsDetermined, StepIsDetermined, RunIsDeterminedByCapacity}
use Rattle.chain_arena.specs.Steps.{IsNewLinkAnyhow, InsertStep, InsertWithinStep, ConnectStep, BreakPrevStep, BreakNextStep, ExchangeStep, ReverseChainStep, MoveAfterStep, SpliceAfterStep, IsMoveOf, ArrangeChainStep, DrainChainStep, ReserveStep, Step, Run}
use Rattle.chain_arena.specs.declared.calls.Call.{Call}
use Rattle.chain_arena.specs.declared.calls.Call.TheVariants as call
use Rattle.chain_arena.specs.declared.calls.Reply.{Reply}
use Rattle.chain_arena.specs.declared.calls.Reply.TheVariants as reply
use Rattle.chain_laws.specs.declared.insert_kind.InsertKind.{InsertKind}
use Rattle.chain_links.specs.declared.links.RawLink.{RawLink}
use Rattle.chain_links.proofs.ArenaInsertionLemmas.{values-count}
use Rattle.arena_traits.proofs.CallOutcomeLemmas.{not_beyond}
use Rattle.chain_arena.proofs.TouchCountLemmas.{touch, compression_same, layout_same, step_touched, run_touched}

same : {A : Type 0} {x a b : A} → a ≡ x → b ≡ x → a ≡ b
same one two = one ∙ sym two

abbrev Same : {R S : Type 0} → R → R → S → S → Type 0
Same r s a b = (r ≡ s) × (a ≡ b)

same_but_touched : {Gen T : Type 0} (a b : Links Gen T) → a ≡ b → AreSameButTouched a b
same_but_touched {Gen} {T} a b is = is ∙ ap (λ (n : ℕ). touch n b) (sym (ap (λ (x : Links Gen T). x.touched) is))

module _ {Gen T : Type 0} where
  capacity_stays : (greatest n : ℕ) (old base new : Links Gen T) → HaveSameCapacity base old → n ≤ old.capacity → GrowsStackToFit greatest n old base new → HaveSameCapacity new old
  capacity_stays greatest n old base new kept enough grown =
      let is = grown.enough enough in (ap (λ (a : Links Gen T). a.capacity) is ∙ kept.0, ap (λ (a : Links Gen T). a.stack_capacity) is ∙ kept.1)

  capacity_kept : (old new : Links Gen T) → new ≡ old → HaveSameCapacity new old
  capacity_kept old new is = (ap (λ (a : Links Gen T). a.capacity) is, ap (λ (a : Links Gen T). a.stack_capacity) is)

  same_but_capacity : (a b : Links Gen T) → AreSameButTouched a b → AreSameButCapacityAndTouched a b
  same_but_capacity a b is =
      let capacity = sym (ap (λ (x : Links Gen T). x.capacity) is) in
      let stack_capacity = sym (ap (λ (x : Links Gen T). x.stack_capacity) is) in
      is ∙ ap₂ (λ (c d : ℕ). touch a.touched (record b { capacity = c; stack_capacity = d })) capacity stack_capacity

  same_with_capacity : (a b : Links Gen T) → HaveSameCapacity a b → AreSameButCapacityAndTouched a b → AreSameButTouched a b
  same_with_capacity a b within_capacity is = is ∙ ap₂ (λ (c d : ℕ). touch a.touched (record b { capacity = c; stack_capacity = d })) within_capacity.0 within_capacity.1

  both_but_capacity : (base a b : Links Gen T) → a ≡ with_capacity_of base a → b ≡ with_capacity_of base b → AreSameButCapacityAndTouched a b
  both_but_capacity base a b is_a is_b = same_but_touched a (with_capacity_of b a) (is_a ∙ sym (ap (λ (x : Links Gen T). with_capacity_of x a) is_b))

  kept_both : (old a b : Links Gen T) → a ≡ old → b ≡ old → AreSameButCapacityAndTouched a b
  kept_both old a b is_a is_b = same_but_capacity a b (same_but_touched a b (same is_a is_b))

  made_within : (greatest n : ℕ) (old base new : Links Gen T) → base.maximum ≡ old.maximum → GrowsStackToFit greatest n old base new → RefusesToFit n (value_view old) refused.BeyondMaxCapacity → ⊥
  made_within greatest n old base new maximum grown past =
      let held = grown.grown past.0 in
      let most : new.maximum ≡ old.maximum = ap (λ (x : Links Gen T). x.maximum) grown.state ∙ maximum in
      not_beyond old.maximum n new.capacity held.0.fits (subst (λ (o : Option ℕ). IsWithinMaximum o new.capacity) most held.0.within_maximum) past.1

  made_up_to : (greatest n : ℕ) (old base new : Links Gen T) → GrowsStackToFit greatest n old base new → RefusesToFit n (value_view old) refused.AllocError → n ≤ greatest
  made_up_to greatest n old base new grown absent = let held = grown.grown absent.0 in omega (arith, held.0.fits, held.0.at_most_greatest)

  made_more : (greatest n : ℕ) (old base new other : Links Gen T) → GrowsStackToFit greatest n old base new → RefusesToFit n (value_view old) refused.AllocError → other ≡ old → HaveSameCapacity new other → ⊥
  made_more greatest n old base new other grown absent is same_capacity =
      let held = grown.grown absent.0 in
      let kept = ap (λ (x : Links Gen T). x.capacity) is in
      omega (arith, kept, held.0.fits, same_capacity.0, absent.0)

  one_more_refused : (old : Links Gen T) (why : ReallocationError) → RefusesOneMore (value_view old) why → RefusesToFit (entry_count old + 1) (value_view old) why
  one_more_refused old refused.BeyondMaxCapacity why =
      let full = why.0 in let counted = values-count old in (omega (arith, full, counted), subst (λ (n : ℕ). IsBeyond old.maximum (n + 1)) counted why.1)
  one_more_refused old refused.AllocError why =
      let full = why.0 in let counted = values-count old in (omega (arith, full, counted), λ past. why.1 (subst (λ (n : ℕ). IsBeyond old.maximum (n + 1)) (sym counted) past))

states_same : {X Y Gen : Type 0} {No : Type 0} (see : X → Y) (Done Made : X → Type 0) (wraps : Gen → Bool) (counter : Gen) (r s : InvalidationResult X) → ((x : X) → Done x → No → ⊥) → ((x : X) → Made x → No → ⊥)
    → ((x y : X) → Done x → Made y → see x ≡ see y) → ReportsOverflow wraps (Some counter) No Done r → ReportsOverflow wraps (Some counter) No Made s → AreSameResults see r s
states_same see Done Made wraps counter (Success x) (Success y) apart beside once one two = once x y one.1 two.1
states_same see Done Made wraps counter (GenerationOverflow x) (GenerationOverflow y) apart beside once one two = once x y one.1 two.1
states_same see Done Made wraps counter InvalidPtr InvalidPtr apart beside once one two = tt
states_same see Done Made wraps counter (Success x) (GenerationOverflow y) apart beside once one two = absurd (false≢true (sym one.0 ∙ two.0))
states_same see Done Made wraps counter (GenerationOverflow x) (Success y) apart beside once one two = absurd (false≢true (sym two.0 ∙ one.0))
states_same see Done Made wraps counter (Success x) InvalidPtr apart beside once one two = absurd (apart x one.1 two)
states_same see Done Made wraps counter (GenerationOverflow x) InvalidPtr apart beside once one two = absurd (apart x one.1 two)
states_same see Done Made wraps counter InvalidPtr (Success y) apart beside once one two = absurd (beside y two.1 one)
states_same see Done Made wraps counter InvalidPtr (GenerationOverflow y) apart beside once one two = absurd (beside y two.1 one)

arenas_same : {X Y S : Type 0} (see : X → Y) (old a b : S) (Done Made : Type 0) (r s : InvalidationResult X) → (Done → Made → a ≡ b) → AreSameResults see r s → IfNone (value_within r) (a ≡ old) → IfNone (value_within s) (b ≡ old)
    → OnSome (value_within r) Done → OnSome (value_within s) Made → a ≡ b
arenas_same see old a b Done Made (Success x) (Success y) once is none_r none_s made_r made_s = once made_r made_s
arenas_same see old a b Done Made (GenerationOverflow x) (GenerationOverflow y) once is none_r none_s made_r made_s = once made_r made_s
arenas_same see old a b Done Made InvalidPtr InvalidPtr once is none_r none_s made_r made_s = same none_r none_s
arenas_same see old a b Done Made (Success x) (GenerationOverflow y) once is none_r none_s made_r made_s = absurd is
arenas_same see old a b Done Made (Success x) InvalidPtr once is none_r none_s made_r made_s = absurd is
arenas_same see old a b Done Made (GenerationOverflow x) (Success y) once is none_r none_s made_r made_s = absurd is
arenas_same see old a b Done Made (GenerationOverflow x) InvalidPtr once is none_r none_s made_r made_s = absurd is
arenas_same see old a b Done Made InvalidPtr (Success y) once is none_r none_s made_r made_s = absurd is
arenas_same see old a b Done Made InvalidPtr (GenerationOverflow y) once is none_r none_s made_r made_s = absurd is

cut_same : {S : Type 0} (o : Option ℕ) (n : ℕ) (after : ℕ → S) (a b : S) (Done Made : ℕ → Type 0) → ((i : ℕ) → Done i → a ≡ after i) → ((i : ℕ) → Made i → b ≡ after i) → o ≡ Some n → IfSome o Done → IfSome o Made → a ≡ b
cut_same None n after a b Done Made one two is done made = absurd (none-some n is)
cut_same (Some i) n after a b Done Made one two is done made = one i done ∙ sym (two i made)

same_known : {X : Type 0} (r s : InvalidationResult X) → AreSameResults (λ x. x) r s → r ≡ s
same_known (Success x) (Success y) is = ap Success is
same_known (GenerationOverflow x) (GenerationOverflow y) is = ap GenerationOverflow is
same_known InvalidPtr InvalidPtr is = refl
same_known (Success x) (GenerationOverflow y) is = absurd is
same_known (Success x) InvalidPtr is = absurd is
same_known (GenerationOverflow x) (Success y) is = absurd is
same_known (GenerationOverflow x) InvalidPtr is = absurd is
same_known InvalidPtr (Success y) is = absurd is
same_known InvalidPtr (GenerationOverflow y) is = absurd is

states_itself : {X Y : Type 0} (see : X → Y) (r : InvalidationResult X) → AreSameResults see r r
states_itself see (Success x) = refl
states_itself see (GenerationOverflow x) = refl
states_itself see InvalidPtr = tt

reports_itself : {P T I Gen W : Type 0} (packed : PackedOption I W → Option ℕ) (r : Reply P T I Gen W) → AreSameReplies packed r r
reports_itself packed (reply.Inserted returned) = refl
reports_itself packed (reply.Done returned) = refl
reports_itself packed (reply.Removed returned) = states_itself (link_view packed) returned
reports_itself packed (reply.RemovedInx returned) = states_itself (pair_view packed) returned
reports_itself packed (reply.Renewed returned) = refl
reports_itself packed (reply.Drained returned) = refl
reports_itself packed (reply.Counted returned) = refl
reports_itself packed (reply.Reserved returned) = refl
reports_itself packed reply.Set = refl

module _ {P T I Gen W : Type 0} (pointers : PointerKind P I Gen W) (same_key : (p q : P) → pointers.key p ≡ pointers.key q → p ≡ q) where
  abbrev SameButTouched : Reply P T I Gen W → Reply P T I Gen W → Links Gen T → Links Gen T → Type 0
  SameButTouched r s a b = AreSameReplies pointers.packed r s × AreSameButTouched a b

  reports_same : (r s : Reply P T I Gen W) → r ≡ s → AreSameReplies pointers.packed r s
  reports_same r s is = subst (AreSameReplies pointers.packed r) is (reports_itself pointers.packed r)

  connects_same : (old a b : Links Gen T) (p q : P) (r s : Option Unit) → ConnectStep pointers old p q r a → ConnectStep pointers old p q s b → Same r s a b
  connects_same old a b p q None None one two = (refl, same one.1 two.1)
  connects_same old a b p q None (Some d) one two = absurd (one.0 two.0.0)
  connects_same old a b p q (Some d) None one two = absurd (two.0 one.0.0)
  connects_same old a b p q (Some d) (Some e) one two = (refl, same one.2.state two.2.state)

  exchanges_same : (old a b : Links Gen T) (p q : P) (r s : Option Unit) → ExchangeStep pointers old p q r a → ExchangeStep pointers old p q s b → Same r s a b
  exchanges_same old a b p q None None one two = (refl, same one.1 two.1)
  exchanges_same old a b p q None (Some d) one two = absurd (one.0 two.0.0)
  exchanges_same old a b p q (Some d) None one two = absurd (two.0 one.0.0)
  exchanges_same old a b p q (Some d) (Some e) one two = (refl, same one.2.state two.2.state)

  reverses_same : (old a b : Links Gen T) (p : P) (r s : Option Unit) → ReverseChainStep pointers old p r a → ReverseChainStep pointers old p s b → Same r s a b
  reverses_same old a b p None None one two = (refl, same one.1 two.1)
  reverses_same old a b p None (Some d) one two = absurd (one.0 two.0.0)
  reverses_same old a b p (Some d) None one two = absurd (two.0 one.0.0)
  reverses_same old a b p (Some d) (Some e) one two = (refl, same one.2 two.2)

  moves_same : (old a b : Links Gen T) (p q : P) (r s : Option Unit) → MoveAfterStep pointers old p q r a → MoveAfterStep pointers old p q s b → Same r s a b
  moves_same old a b p q None None one two = (refl, same one.1 two.1)
  moves_same old a b p q None (Some d) one two = absurd (one.0 two.0.0)
  moves_same old a b p q (Some d) None one two = absurd (two.0 one.0.0)
  moves_same old a b p q (Some d) (Some e) one two = (refl, same one.2 two.2)

  splices_same : (old a b : Links Gen T) (p first last : P) (r s : Option Unit) → SpliceAfterStep pointers old p first last r a → SpliceAfterStep pointers old p first last s b → Same r s a b
  splices_same old a b p first last None None one two = (refl, same one.1 two.1)
  splices_same old a b p first last None (Some d) one two = absurd (one.0 two.0.0)
  splices_same old a b p first last (Some d) None one two = absurd (two.0 one.0.0)
  splices_same old a b p first last (Some d) (Some e) one two = (refl, same one.2 two.2)

  moved_after_same : (old a b : Links Gen T) (p : P) (order : List P) → AreMovedAfter (IsMoveOf pointers) old p order a → AreMovedAfter (IsMoveOf pointers) old p order b → a ≡ b
  moved_after_same old a b p [] one two = same one two
  moved_after_same old a b p (q ∷ order) one two =
      moved_after_same one.0 a b q order one.2 (subst (λ (x : Links Gen T). AreMovedAfter (IsMoveOf pointers) x q order b) (same two.1 one.1) two.2)

  moved_in_turn_same : (old a b : Links Gen T) (order : List P) → AreMovedInTurn (IsMoveOf pointers) old order a → AreMovedInTurn (IsMoveOf pointers) old order b → a ≡ b
  moved_in_turn_same old a b [] one two = same one two
  moved_in_turn_same old a b (p ∷ order) one two = moved_after_same old a b p order one two

  arranges_same : (old a b : Links Gen T) (order : List P) (r s : Option Unit) → ArrangeChainStep pointers old order r a → ArrangeChainStep pointers old order s b → Same r s a b
  arranges_same old a b order None None one two = (refl, same one.1 two.1)
  arranges_same old a b order None (Some d) one two = absurd (one.0 two.0.0)
  arranges_same old a b order (Some d) None one two = absurd (two.0 one.0.0)
  arranges_same old a b order (Some d) (Some e) one two = (refl, moved_in_turn_same old a b order one.2 two.2)

  breaks_prev_same : (old a b : Links Gen T) (p : P) (r s : Option Unit) → BreakPrevStep pointers old p r a → BreakPrevStep pointers old p s b → Same r s a b
  breaks_prev_same old a b p None None one two = (refl, same one.1 two.1)
  breaks_prev_same old a b p None (Some d) one two = absurd (none-some two.0.1 (sym (one.0 two.0.0) ∙ two.0.2))
  breaks_prev_same old a b p (Some d) None one two = absurd (none-some one.0.1 (sym (two.0 one.0.0) ∙ one.0.2))
  breaks_prev_same old a b p (Some d) (Some e) one two =
      (refl, cut_same (prev_of (link_map old) (pointers.key p).0) one.0.1 (λ i. with_link_map old (without_pair (link_map old) i (pointers.key p).0)) a b (λ i. IsCut old a i (pointers.key p).0) (λ i. IsCut old b i (pointers.key p).0) (λ i cut. cut.state) (λ i cut. cut.state) one.0.2 one.2 two.2)

  breaks_next_same : (old a b : Links Gen T) (p : P) (r s : Option Unit) → BreakNextStep pointers old p r a → BreakNextStep pointers old p s b → Same r s a b
  breaks_next_same old a b p None None one two = (refl, same one.1 two.1)
  breaks_next_same old a b p None (Some d) one two = absurd (none-some two.0.1 (sym (one.0 two.0.0) ∙ two.0.2))
  breaks_next_same old a b p (Some d) None one two = absurd (none-some one.0.1 (sym (two.0 one.0.0) ∙ one.0.2))
  breaks_next_same old a b p (Some d) (Some e) one two =
      (refl, cut_same (next_of (link_map old) (pointers.key p).0) one.0.1 (λ i. with_link_map old (without_pair (link_map old) (pointers.key p).0 i)) a b (λ i. IsCut old a (pointers.key p).0 i) (λ i. IsCut old b (pointers.key p).0 i) (λ i cut. cut.state) (λ i cut. cut.state) one.0.2 one.2 two.2)

  same_link : (old : Links Gen T) (n : ℕ) (g h : Gen) (k l : RawLink (PackedOption I W) T) → link_at (entry old) (link_map old) n ≡ Some (g, link_view pointers.packed k) → link_at (entry old) (link_map old) n ≡ Some (h, link_view pointers.packed l)
      → pair_view pointers.packed (g, k) ≡ pair_view pointers.packed (h, l)
  same_link old n g h k l one two =
      let both : Some (g, link_view pointers.packed k) ≡ Some (h, link_view pointers.packed l) = sym one ∙ two in
      let pair : (g, link_view pointers.packed k) ≡ (h, link_view pointers.packed l) = cc in
      pair

  no_link : (old : Links Gen T) (n : ℕ) (e : Gen × LinkView T) → link_at (entry old) (link_map old) n ≡ Some e → entry old n ≡ None → ⊥
  no_link old n e is none = none-some e (sym (ap (λ (o : Option (Gen × T)). link_of o (link_map old n)) none) ∙ is)

  same_pointer : (old a b : Links Gen T) (kind : InsertKind P I) (t : T) (p q : P) → IsNewLinkAnyhow pointers old kind t a p → IsNewLinkAnyhow pointers old kind t b q → p ≡ q
  same_pointer old a b kind t p q one two = same_key p q (same one.pointer two.pointer)

  abbrev added : Links Gen T → InsertKind P I → T → Links Gen T
  added old kind t = with_new_link pointers old kind t

  grown_for_one : (old new : Links Gen T) (kind : InsertKind P I) (t : T) (p : P) → IsNewLinkAnyhow pointers old kind t new p → GrowsStackToFit pointers.greatest (entry_count old + 1) old (added old kind t) new
  grown_for_one old new kind t p made = record {
    state = made.state;
    enough = λ few. made.state_within_capacity (let counted = values-count old in omega (arith, few, counted));
    grown = λ _. made.grown.capacity;
  }

  inserts_within_same : (old a b : Links Gen T) (kind : InsertKind P I) (t : T) (r s : Result P ChainInsertionError)
      → InsertWithinStep pointers old kind t r a → InsertWithinStep pointers old kind t s b → Same r s a b
  inserts_within_same old a b kind t (Ok p) (Ok q) one two = (ap Ok (same_pointer old a b kind t p q one.2 two.2), same (one.2.state_within_capacity one.0.1) (two.2.state_within_capacity two.0.1))
  inserts_within_same old a b kind t (Ok p) (Err failed.FailedLinkRequirement) one two = absurd (two.0 one.0.0)
  inserts_within_same old a b kind t (Ok p) (Err failed.NotWithinCapacity) one two = let less = one.0.1 in let full = two.0.1 in absurd (omega (arith, less, full))
  inserts_within_same old a b kind t (Err failed.FailedLinkRequirement) (Ok q) one two = absurd (one.0 two.0.0)
  inserts_within_same old a b kind t (Err failed.FailedLinkRequirement) (Err failed.FailedLinkRequirement) one two = (refl, same one.1 two.1)
  inserts_within_same old a b kind t (Err failed.FailedLinkRequirement) (Err failed.NotWithinCapacity) one two = absurd (one.0 two.0.0)
  inserts_within_same old a b kind t (Err failed.NotWithinCapacity) (Ok q) one two = let less = two.0.1 in let full = one.0.1 in absurd (omega (arith, less, full))
  inserts_within_same old a b kind t (Err failed.NotWithinCapacity) (Err failed.FailedLinkRequirement) one two = absurd (two.0 one.0.0)
  inserts_within_same old a b kind t (Err failed.NotWithinCapacity) (Err failed.NotWithinCapacity) one two = (refl, same one.1 two.1)
  inserts_within_same old a b kind t (Err failed.BeyondMaxCapacity) s one two = absurd one.0
  inserts_within_same old a b kind t (Err failed.AllocError) s one two = absurd one.0
  inserts_within_same old a b kind t r (Err failed.BeyondMaxCapacity) one two = absurd two.0
  inserts_within_same old a b kind t r (Err failed.AllocError) one two = absurd two.0

  drains_same : (old a b : Links Gen T) (p : ℕ × Gen) (take : ℕ) (r s : Option ℕ) → DrainChainStep pointers old p take r a → DrainChainStep pointers old p take s b → Same r s a b
  drains_same old a b p take None None one two = (refl, same one.1 two.1)
  drains_same old a b p take None (Some k) one two = absurd (one.0 two.valid)
  drains_same old a b p take (Some k) None one two = absurd (two.0 one.valid)
  drains_same old a b p take (Some k) (Some l) one two =
      let walks = no_other_walk (link_map old) p.0 one.walk two.walk one.is_walk two.is_walk in
      (ap Some (one.counted ∙ (ap (λ (w : List ℕ). min take (length w)) walks ∙ sym two.counted)), one.state ∙ (ap (without_each pointers.following old) walks ∙ sym two.state))

  responded_same : {A : Type 0} (known : A → Reply P T I Gen W) (r s : Reply P T I Gen W) (x y : A) (a b : Links Gen T) → r ≡ known x → s ≡ known y → Same x y a b → SameButTouched r s a b
  responded_same known r s x y a b is_r is_s both = (reports_same r s (is_r ∙ (ap known both.0 ∙ sym is_s)), same_but_touched a b both.1)

  abbrev AlikeOrApart : ℕ → Reply P T I Gen W → Reply P T I Gen W → Links Gen T → Links Gen T → Type 0
  AlikeOrApart n r s a b = (AreSameReplies pointers.packed r s × AreSameButCapacityAndTouched a b) ⊎ ((n ≤ pointers.greatest) × (refused_memory r ≡ refused_memory s → ⊥) × (HaveSameCapacity a b → ⊥))

  inserts_apart : (old a b : Links Gen T) (kind : InsertKind P I) (t : T) (r s : Result P ChainInsertionError)
      → InsertStep pointers old kind t r a → InsertStep pointers old kind t s b → AlikeOrApart (entry_count old + 1) (reply.Inserted r) (reply.Inserted s) a b
  inserts_apart old a b kind t (Ok p) (Ok q) one two = inl (
    ap (λ (x : P). reply.Inserted (Ok x)) (same_pointer old a b kind t p q one.2 two.2),
    both_but_capacity (added old kind t) a b one.2.state two.2.state,
  )
  inserts_apart old a b kind t (Ok p) (Err failed.FailedLinkRequirement) one two = absurd (two.0 one.0.0)
  inserts_apart old a b kind t (Ok p) (Err failed.BeyondMaxCapacity) one two =
      absurd (made_within pointers.greatest (entry_count old + 1) old (added old kind t) a refl (grown_for_one old a kind t p one.2) (one_more_refused old refused.BeyondMaxCapacity two.0.1))
  inserts_apart old a b kind t (Ok p) (Err failed.AllocError) one two =
      let grown = grown_for_one old a kind t p one.2 in
      let absent = one_more_refused old refused.AllocError two.0.1 in
      inr (made_up_to pointers.greatest (entry_count old + 1) old (added old kind t) a grown absent, (λ alike. false≢true alike), made_more pointers.greatest (entry_count old + 1) old (added old kind t) a b grown absent two.1)
  inserts_apart old a b kind t (Err failed.FailedLinkRequirement) (Ok q) one two = absurd (one.0 two.0.0)
  inserts_apart old a b kind t (Err failed.FailedLinkRequirement) (Err failed.FailedLinkRequirement) one two = inl (refl, kept_both old a b one.1 two.1)
  inserts_apart old a b kind t (Err failed.FailedLinkRequirement) (Err failed.BeyondMaxCapacity) one two = absurd (one.0 two.0.0)
  inserts_apart old a b kind t (Err failed.FailedLinkRequirement) (Err failed.AllocError) one two = absurd (one.0 two.0.0)
  inserts_apart old a b kind t (Err failed.BeyondMaxCapacity) (Ok q) one two =
      absurd (made_within pointers.greatest (entry_count old + 1) old (added old kind t) b refl (grown_for_one old b kind t q two.2) (one_more_refused old refused.BeyondMaxCapacity one.0.1))
  inserts_apart old a b kind t (Err failed.BeyondMaxCapacity) (Err failed.FailedLinkRequirement) one two = absurd (two.0 one.0.0)
  inserts_apart old a b kind t (Err failed.BeyondMaxCapacity) (Err failed.BeyondMaxCapacity) one two = inl (refl, kept_both old a b one.1 two.1)
  inserts_apart old a b kind t (Err failed.BeyondMaxCapacity) (Err failed.AllocError) one two = absurd (two.0.1.1 one.0.1.1)
  inserts_apart old a b kind t (Err failed.AllocError) (Ok q) one two =
      let grown = grown_for_one old b kind t q two.2 in
      let absent = one_more_refused old refused.AllocError one.0.1 in
      inr (made_up_to pointers.greatest (entry_count old + 1) old (added old kind t) b grown absent, (λ alike. false≢true (sym alike)), λ kept. made_more pointers.greatest (entry_count old + 1) old (added old kind t) b a grown absent one.1 (sym kept.0, sym kept.1))
  inserts_apart old a b kind t (Err failed.AllocError) (Err failed.FailedLinkRequirement) one two = absurd (two.0 one.0.0)
  inserts_apart old a b kind t (Err failed.AllocError) (Err failed.BeyondMaxCapacity) one two = absurd (one.0.1.1 two.0.1.1)
  inserts_apart old a b kind t (Err failed.AllocError) (Err failed.AllocError) one two = inl (refl, kept_both old a b one.1 two.1)
  inserts_apart old a b kind t (Err failed.NotWithinCapacity) s one two = absurd one.0
  inserts_apart old a b kind t r (Err failed.NotWithinCapacity) one two = absurd two.0

  reserves_apart : (old a b : Links Gen T) (n : ℕ) (r s : Result Unit ReallocationError) → ReserveStep pointers old n r a → ReserveStep pointers old n s b → AlikeOrApart n (reply.Reserved r) (reply.Reserved s) a b
  reserves_apart old a b n (Ok u) (Ok v) one two = inl (refl, both_but_capacity old a b one.2.state two.2.state)
  reserves_apart old a b n (Ok u) (Err refused.BeyondMaxCapacity) one two = absurd (made_within pointers.greatest n old old a refl one.2 two.0)
  reserves_apart old a b n (Ok u) (Err refused.AllocError) one two = inr (made_up_to pointers.greatest n old old a one.2 two.0, (λ alike. false≢true alike), made_more pointers.greatest n old old a b one.2 two.0 two.1)
  reserves_apart old a b n (Err refused.BeyondMaxCapacity) (Ok v) one two = absurd (made_within pointers.greatest n old old b refl two.2 one.0)
  reserves_apart old a b n (Err refused.BeyondMaxCapacity) (Err refused.BeyondMaxCapacity) one two = inl (refl, kept_both old a b one.1 two.1)
  reserves_apart old a b n (Err refused.BeyondMaxCapacity) (Err refused.AllocError) one two = absurd (two.0.1 one.0.1)
  reserves_apart old a b n (Err refused.AllocError) (Ok v) one two = inr (made_up_to pointers.greatest n old old b two.2 one.0, (λ alike. false≢true (sym alike)), λ kept. made_more pointers.greatest n old old b a two.2 one.0 one.1 (sym kept.0, sym kept.1))
  reserves_apart old a b n (Err refused.AllocError) (Err refused.BeyondMaxCapacity) one two = absurd (one.0.1 two.0.1)
  reserves_apart old a b n (Err refused.AllocError) (Err refused.AllocError) one two = inl (refl, kept_both old a b one.1 two.1)

  responded_apart : {A : Type 0} (n : ℕ) (known : A → Reply P T I Gen W) (r s : Reply P T I Gen W) (x y : A) (a b : Links Gen T) → r ≡ known x → s ≡ known y → AlikeOrApart n (known x) (known y) a b → AlikeOrApart n r s a b
  responded_apart n known r s x y a b is_r is_s both = subst (λ q. AlikeOrApart n q s a b) (sym is_r) (subst (λ q. AlikeOrApart n (known x) q a b) (sym is_s) both)

  in_one_capacity : (n : ℕ) (r s : Reply P T I Gen W) (a b : Links Gen T) → HaveSameCapacity a b → AlikeOrApart n r s a b → SameButTouched r s a b
  in_one_capacity n r s a b within_capacity both = ⊎_elim (λ alike. (alike.0, same_with_capacity a b within_capacity alike.1)) (λ apart. absurd (apart.2 within_capacity)) both

  inserts_in_capacity : (old new : Links Gen T) (kind : InsertKind P I) (t : T) (r : Result P ChainInsertionError) → entry_count old < old.capacity → InsertStep pointers old kind t r new → HaveSameCapacity new old
  inserts_in_capacity old new kind t (Ok p) within_capacity step =
      capacity_stays pointers.greatest (entry_count old + 1) old (added old kind t) new (refl, refl) (omega (arith, within_capacity)) (grown_for_one old new kind t p step.2)
  inserts_in_capacity old new kind t (Err why) within_capacity step = capacity_kept old new step.1

  reserves_in_capacity : (old new : Links Gen T) (n : ℕ) (r : Result Unit ReallocationError) → n ≤ old.capacity → ReserveStep pointers old n r new → HaveSameCapacity new old
  reserves_in_capacity old new n (Ok done) within_capacity step = capacity_stays pointers.greatest n old old new (refl, refl) within_capacity step.2
  reserves_in_capacity old new n (Err why) within_capacity step = capacity_kept old new step.1

  step_same : (old : Links Gen T) (c : Call P T I Gen W) (r s : Reply P T I Gen W) (a b : Links Gen T) → HasCapacityAlready old c
      → Step pointers old c r a → Step pointers old c s b → SameButTouched r s a b
  step_same old (call.Insert kind t) r s a b within_capacity one two =
      let left = inserts_in_capacity old a kind t one.0 within_capacity one.2 in
      let right = inserts_in_capacity old b kind t two.0 within_capacity two.2 in
      in_one_capacity (entry_count old + 1) r s a b (same left.0 right.0, same left.1 right.1) (responded_apart (entry_count old + 1) reply.Inserted r s one.0 two.0 a b one.1 two.1 (inserts_apart old a b kind t one.0 two.0 one.2 two.2))
  step_same old (call.InsertWithin kind t) r s a b within_capacity one two = responded_same reply.Inserted r s one.0 two.0 a b one.1 two.1 (inserts_within_same old a b kind t one.0 two.0 one.2 two.2)
  step_same old (call.Connect p q) r s a b within_capacity one two = responded_same (λ (o : Option Unit). reply.Done (is_some o)) r s one.0 two.0 a b one.1 two.1 (connects_same old a b p q one.0 two.0 one.2 two.2)
  step_same old (call.BreakPrev p) r s a b within_capacity one two = responded_same (λ (o : Option Unit). reply.Done (is_some o)) r s one.0 two.0 a b one.1 two.1 (breaks_prev_same old a b p one.0 two.0 one.2 two.2)
  step_same old (call.BreakNext p) r s a b within_capacity one two = responded_same (λ (o : Option Unit). reply.Done (is_some o)) r s one.0 two.0 a b one.1 two.1 (breaks_next_same old a b p one.0 two.0 one.2 two.2)
  step_same old (call.ExchangeNext p q) r s a b within_capacity one two = responded_same (λ (o : Option Unit). reply.Done (is_some o)) r s one.0 two.0 a b one.1 two.1 (exchanges_same old a b p q one.0 two.0 one.2 two.2)
  step_same old (call.ReverseChain p) r s a b within_capacity one two = responded_same (λ (o : Option Unit). reply.Done (is_some o)) r s one.0 two.0 a b one.1 two.1 (reverses_same old a b p one.0 two.0 one.2 two.2)
  step_same old (call.MoveAfter p q) r s a b within_capacity one two = responded_same (λ (o : Option Unit). reply.Done (is_some o)) r s one.0 two.0 a b one.1 two.1 (moves_same old a b p q one.0 two.0 one.2 two.2)
  step_same old (call.SpliceAfter p first last) r s a b within_capacity one two = responded_same (λ (o : Option Unit). reply.Done (is_some o)) r s one.0 two.0 a b one.1 two.1 (splices_same old a b p first last one.0 two.0 one.2 two.2)
  step_same old (call.ArrangeChain order) r s a b within_capacity one two = responded_same (λ (o : Option Unit). reply.Done (is_some o)) r s one.0 two.0 a b one.1 two.1 (arranges_same old a b order.items one.0 two.0 one.2 two.2)
  step_same old (call.Remove p) r s a b within_capacity one two =
      let k = pointers.key p in
      let known = states_same {No = IsValid (entry old) k → ⊥} (link_view pointers.packed) (λ link. IsValid (entry old) k × IsTaken value_state link_map pointers old k.0 k.1 link a) (λ link. IsValid (entry old) k × IsTaken value_state link_map pointers old k.0 k.1 link b)
      pointers.wraps old.counter one.0 two.0 (λ link taken cannot. cannot taken.0) (λ link taken cannot. cannot taken.0)
      (λ x y first second. ap (λ (e : Gen × LinkView T). e.1) (same_link old k.0 k.1 k.1 x y first.1.0 second.1.0)) one.2.0 two.2.0 in
      let both = arenas_same (link_view pointers.packed) old a b _ _ one.0 two.0 (λ done made. same done.state made.state) known one.2.1 two.2.1 one.2.2 two.2.2 in
      (subst (λ x. AreSameReplies pointers.packed x s) (sym one.1) (subst (λ x. AreSameReplies pointers.packed (reply.Removed one.0) x) (sym two.1) known), same_but_touched a b both)
  step_same old (call.RemoveInx i) r s a b within_capacity one two =
      let n = pointers.number i in
      let known = states_same {No = entry old n ≡ None} (pair_view pointers.packed) (λ (e : Gen × RawLink (PackedOption I W) T). IsTaken value_state link_map pointers old n e.0 e.1 a) (λ (e : Gen × RawLink (PackedOption I W) T). IsTaken value_state link_map pointers old n e.0 e.1 b)
      pointers.wraps old.counter one.0 two.0 (λ e taken none. no_link old n _ taken.0 none) (λ e taken none. no_link old n _ taken.0 none)
      (λ x y first second. same_link old n x.0 y.0 x.1 y.1 first.0 second.0) one.2.0 two.2.0 in
      let both = arenas_same (pair_view pointers.packed) old a b _ _ one.0 two.0 (λ done made. same done.state made.state) known one.2.1 two.2.1 one.2.2 two.2.2 in
      (subst (λ x. AreSameReplies pointers.packed x s) (sym one.1) (subst (λ x. AreSameReplies pointers.packed (reply.RemovedInx one.0) x) (sym two.1) known), same_but_touched a b both)
  step_same old (call.Invalidate p) r s a b within_capacity one two =
      let k = pointers.key p in
      let key_is : (q : P) → (pointers.key q).0 ≡ k.0 → (pointers.key q).1 ≡ pointers.following old.counter → pointers.key q ≡ (k.0, pointers.following old.counter) = (λ q index generation. ap₂ (λ (i : ℕ) (g : Gen). (i, g)) index generation) in
      let known = states_same {No = IsValid (entry old) k → ⊥} (λ (q : P). q) _ _ pointers.wraps old.counter one.0 two.0 (λ q done cannot. cannot done.0) (λ q done cannot. cannot done.0)
      (λ q m first second. same_key q m (same (key_is q first.1 first.2) (key_is m second.1 second.2))) one.2.0 two.2.0 in
      let both = arenas_same (λ (q : P). q) old a b _ _ one.0 two.0 (λ done made. same done.0 made.0) known one.2.1 two.2.1 one.2.2 two.2.2 in
      responded_same reply.Renewed r s one.0 two.0 a b one.1 two.1 (same_known one.0 two.0 known, both)
  step_same old (call.DrainChain p take) r s a b within_capacity one two = responded_same reply.Drained r s one.0 two.0 a b one.1 two.1 (drains_same old a b (pointers.key p) take one.0 two.0 one.2 two.2)
  step_same old call.Clear r s a b within_capacity one two = responded_same reply.Counted r s one.0 two.0 a b one.1 two.1 (same one.2.0.overflow two.2.0.overflow, same one.2.1 two.2.1)
  step_same old (call.Compress reset) r s a b within_capacity one two =
      (reports_same r s (one.1 ∙ (ap reply.Counted (same one.2.0.overflow two.2.0.overflow) ∙ sym two.1)), compression_same pointers reset old a b one.0 two.0 one.2 two.2)
  step_same old (call.CompressCanonical reset) r s a b within_capacity one two =
      (reports_same r s (one.1 ∙ (ap reply.Counted (same one.2.0.overflow two.2.0.overflow) ∙ sym two.1)), layout_same pointers reset old a b one.0 two.0 one.2 two.2)
  step_same old (call.Reserve n) r s a b within_capacity one two =
      let left = reserves_in_capacity old a n one.0 within_capacity one.2 in
      let right = reserves_in_capacity old b n two.0 within_capacity two.2 in
      in_one_capacity n r s a b (same left.0 right.0, same left.1 right.1) (responded_apart n reply.Reserved r s one.0 two.0 a b one.1 two.1 (reserves_apart old a b n one.0 two.0 one.2 two.2))
  step_same old (call.SetGeneration g) r s a b within_capacity one two = (reports_same r s (same one.0 two.0), same_but_touched a b (same one.1 two.1))
  step_same old call.IncGeneration r s a b within_capacity one two = (reports_same r s (same one.0 two.0), same_but_touched a b (same one.1 two.1))

  pub run_same : RunIsDetermined pointers T
  run_same old [] [] [] new other one two = (tt, same_but_touched new other (same one two))
  run_same old [] [] (s ∷ others) new other one two = absurd two
  run_same old [] (r ∷ replies) others new other one two = absurd one
  run_same old (c ∷ calls) [] others new other one two = absurd one
  run_same old (c ∷ calls) (r ∷ replies) [] new other one two = absurd two
  run_same old (c ∷ calls) (r ∷ replies) (s ∷ others) new other one two =
      let step = step_same old c r s one.0 two.0 one.1 one.2 two.1 in
      let touches = one.0.touched in
      let beside = subst (λ (a : Links Gen T). Run pointers a calls others (touch touches other)) (sym step.1)
      (run_touched touches pointers two.0 other calls others two.2) in
      let rest = run_same one.0 calls replies others new (touch touches other) one.3 beside in
      ((step.0, rest.0), rest.1)

  step_apart : (old : Links Gen T) (c : Call P T I Gen W) (r s : Reply P T I Gen W) (a b : Links Gen T) → Step pointers old c r a
      → Step pointers old c s b → AlikeOrApart (capacity_needed old c) r s a b
  step_apart old (call.Insert kind t) r s a b one two = responded_apart (entry_count old + 1) reply.Inserted r s one.0 two.0 a b one.1 two.1 (inserts_apart old a b kind t one.0 two.0 one.2 two.2)
  step_apart old (call.Reserve n) r s a b one two = responded_apart n reply.Reserved r s one.0 two.0 a b one.1 two.1 (reserves_apart old a b n one.0 two.0 one.2 two.2)
  step_apart old c r s a b one two = let both = step_same old c r s a b tt one two in inl (both.0, same_but_capacity a b both.1)

  pub step_alike : StepIsDetermined pointers T
  step_alike old c r s new other one two alike = ⊎_elim (λ both. both) (λ apart. absurd (apart.1 (alike apart.0))) (step_apart old c r s new other one two)

  run_beside : (old before : Links Gen T) (calls : List (Call P T I Gen W)) (replies others : List (Reply P T I Gen W)) (new other : Links Gen T) → AreSameButTouched old before
      → RunWithSameCapacity pointers old before calls replies others new other → EndSame pointers replies others new other
  run_beside old before [] [] [] new other is runs = (tt, runs.0 ∙ (is ∙ ap₂ (λ (n : ℕ) (x : Links Gen T). touch n x) (ap (λ (x : Links Gen T). x.touched) (sym runs.0)) (sym runs.1)))
  run_beside old before (c ∷ calls) (r ∷ replies) (s ∷ others) new other is runs =
      let touches = old.touched in
      let between : Links Gen T = touch touches runs.1 in
      let beside = subst (λ (a : Links Gen T). Step pointers a c s between) (sym is)
      (step_touched touches pointers before runs.1 c s runs.3) in
      let step = in_one_capacity _ r s runs.0 between runs.4 (step_apart old c r s runs.0 between runs.2 beside) in
      let rest = run_beside runs.0 runs.1 calls replies others new other step.1 runs.5 in
      ((step.0, rest.0), rest.1)
  run_beside old before calls replies others new other is runs = absurd runs

  pub run_in_capacity : RunIsDeterminedByCapacity pointers T
  run_in_capacity old calls replies others new other = run_beside old old calls replies others new other refl
