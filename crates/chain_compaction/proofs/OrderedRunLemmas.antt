-- Links read in turn that form runs of consecutive indexes, each of them a chain.
use Rattle.std.proofs.Common.{◌≡◌, ℕ, zero, suc, ◌+◌, ◌-◌, ◌<◌, ◌≤◌, ◌⊎◌, inl, inr, Bool, true, false, List, [], ◌∷◌, ◌++◌, Option, None, Some, refl, sym, ap, ap₂, ◌∙◌, subst, arith}
use Rattle.std.specs.Prelude.{◌==◌, length, is_some, if◌then◌else◌}
use Rattle.std.specs.Bool.{OnTrue}
use Rattle.std.specs.Option.{option_map}
use Rattle.std.specs.List.{range_with_len}
use Rattle.std.proofs.Math.Decide.{ℕ_discrete}
use Rattle.std.proofs.lemmas.Bool.{eqb-true}
use Rattle.std.proofs.lemmas.List.{append-nil}
use Rattle.chain_laws.specs.Chains.{LinkMap, Chain, items, all_items, IsMember, AreDistinct, IsChain, HasChain, HasLink, HasLinksWithin, IsWellLinked, AreLinked, last_or, prev_of, next_of}
use Rattle.chain_laws.specs.ChainStart.{chain_of}
use Rattle.chain_laws.specs.Arrangements.{IsCanonical}
use Rattle.chain_laws.proofs.ChainLemmas.LinkedLists.{reports_both}
use Rattle.chain_laws.proofs.ListLemmas.Ranges.{range-IsMember, AreDistinct-range}
use Rattle.chain_laws.proofs.RenamingLemmas.ChainRuns.{range_with_len-append}
use Rattle.chain_laws.proofs.TransferLemmas.Target.{all_items-append}
use Rattle.arena_traits.specs.Arena.{slot_at}
use Rattle.arena_base.specs.DetachedSlots.{DetachedView}
use Rattle.chain_links.specs.declared.links.RawLink.{RawLink}
use Rattle.chain_links.proofs.ArenaInsertionLemmas.{slots-within}
use Rattle.chain_compaction.specs.DetachedLinks.{body_interlinks, link_map_in}
use Rattle.chain_compaction.specs.OrderedLinks.{IsStartAfter}

last_of_run : (j m : ℕ) (before : Option ℕ) → last_or (range_with_len j (suc m)) before ≡ Some (j + m)
last_of_run j zero before = ap (λ (n : ℕ). Some n) (let e : j ≡ j + 0 = omega arith in e)
last_of_run j (suc m) before = last_of_run (j + 1) m (Some j) ∙ ap (λ (n : ℕ). Some n) (let e : j + 1 + m ≡ j + suc m = omega arith in e)

run_linked : (link_map : LinkMap) → IsWellLinked link_map → (j m : ℕ) (before after : Option ℕ) → prev_of link_map j ≡ before → ((i : ℕ) → j ≤ i → i ≤ j + m → HasLink link_map i)
    → ((i : ℕ) → j ≤ i → i < j + m → next_of link_map i ≡ Some (i + 1)) → next_of link_map (j + m) ≡ after → AreLinked link_map before (range_with_len j (suc m)) after
run_linked link_map agree j zero before after prev valid on ends =
    (reports_both link_map j before after (valid j (omega arith) (omega arith)) prev (ap (next_of link_map) (let e : j ≡ j + 0 = omega arith in e) ∙ ends), tt)
run_linked link_map agree j (suc m) before after prev valid on ends =
    let here = on j (omega arith) (omega arith) in (
      reports_both link_map j before (Some (j + 1)) (valid j (omega arith) (omega arith)) prev here,
      run_linked link_map agree (j + 1) m (Some j) after ((agree.both j (j + 1)).0 here) (λ i low high. valid i (omega (arith, low)) (omega (arith, high)))
          (λ i low high. on i (omega (arith, low)) (omega (arith, high))) (ap (next_of link_map) (let e : j + 1 + m ≡ j + suc m = omega arith in e) ∙ ends),
    )

run_is_chain : (link_map : LinkMap) → IsWellLinked link_map → (is_cyclic : Bool) (j m : ℕ) → (is_cyclic ≡ false → prev_of link_map j ≡ None) → ((i : ℕ) → j ≤ i → i ≤ j + m → HasLink link_map i)
    → ((i : ℕ) → j ≤ i → i < j + m → next_of link_map i ≡ Some (i + 1)) → next_of link_map (j + m) ≡ (if is_cyclic then Some j else None) → IsChain link_map (chain_of is_cyclic (range_with_len j (suc m)))
run_is_chain link_map agree false j m first valid on ends = ((λ none. cc), AreDistinct-range j (suc m), run_linked link_map agree j m None None (first refl) valid on ends)
run_is_chain link_map agree true j m first valid on ends = (
  (λ none. cc),
  AreDistinct-range j (suc m),
  run_linked link_map agree j m (last_or (range_with_len j (suc m)) None) (Some j) ((agree.both (j + m) j).0 ends ∙ sym (last_of_run j m None)) valid on ends,
)

chain-parts : (cs : List Chain) (d c : Chain) → HasChain (cs ++ d ∷ []) c → HasChain cs c ⊎ (d ≡ c)
chain-parts [] d c (inl e) = inr e
chain-parts [] d c (inr h) = absurd h
chain-parts (b ∷ cs) d c (inl e) = inl (inl e)
chain-parts (b ∷ cs) d c (inr h) = by (chain-parts cs d c h)
  where
    by : HasChain cs c ⊎ (d ≡ c) → HasChain (b ∷ cs) c ⊎ (d ≡ c)
    by (inl h) = inl (inr h)
    by (inr e) = inr e

items_of : (is_cyclic : Bool) (xs : List ℕ) → items (chain_of is_cyclic xs) ≡ xs
items_of false xs = refl
items_of true xs = refl

pub record AreRuns (link_map : LinkMap) (start : ℕ) (is_cyclic : Bool) (k : ℕ) : Type 0 where
  pub chains : List Chain
  pub each : (c : Chain) → HasChain chains c → IsChain link_map c
  pub items : all_items chains ≡ range_with_len 1 start
  pub low : start ≤ k
  pub valid : (j : ℕ) → 1 ≤ j → j ≤ k → HasLink link_map j
  pub first : start < k → is_cyclic ≡ false → prev_of link_map (start + 1) ≡ None
  pub on : (j : ℕ) → start < j → j ≤ k → next_of link_map j ≡ Some (j + 1)

module _ (link_map : LinkMap) where
  pub runs_begin : (is_cyclic : Bool) → AreRuns link_map 0 is_cyclic 0
  runs_begin is_cyclic = record {
    chains = [];
    each = λ c h. absurd h;
    items = refl;
    low = omega arith;
    valid = λ j low high. absurd (omega (arith, low, high));
    first = λ less. absurd (omega (arith, less));
    on = λ j low high. absurd (omega (arith, low, high));
  }

  pub runs_end : (slots start : ℕ) (is_cyclic : Bool) → HasLinksWithin link_map slots → AreRuns link_map start is_cyclic slots → start ≡ slots → IsCanonical link_map (range_with_len 1 slots)
  runs_end slots start is_cyclic within runs whole =
      let all : all_items runs.chains ≡ range_with_len 1 slots = runs.items ∙ ap (range_with_len 1) whole in
      record {
        chains = runs.chains;
        are = record {
          each = runs.each;
          once = subst AreDistinct (sym all) (AreDistinct-range 1 slots);
          all = λ i h. let w = within.within i h in subst (λ (xs : List ℕ). IsMember xs i) (sym all) (range-IsMember 1 slots i w.0 (omega (arith, w.1)));
        };
        items = sym all;
      }

  module _ (agree : IsWellLinked link_map) (start k : ℕ) (was is_cyclic : Bool) (runs : AreRuns link_map start was k) (valid : HasLink link_map (k + 1)) (prev next : Option ℕ)
      (is_prev : prev ≡ prev_of link_map (k + 1)) (is_next : next ≡ next_of link_map (k + 1)) (first : k ≡ start → is_cyclic ≡ is_some prev) (later : start < k → is_cyclic ≡ was) where
    valid_now : (j : ℕ) → 1 ≤ j → j ≤ k + 1 → HasLink link_map j
    valid_now j low high = by (ℕ_discrete j (k + 1))
      where
        by : Dec (j ≡ k + 1) → HasLink link_map j
        by (yes e) = subst (HasLink link_map) (sym e) valid
        by (no differs) = runs.valid j low (omega (arith, high, differs))

    not_some : (o : Option ℕ) → is_some o ≡ false → o ≡ None
    not_some None is = refl
    not_some (Some x) is = cc

    first_now : is_cyclic ≡ false → prev_of link_map (start + 1) ≡ None
    first_now none = by (ℕ_discrete k start)
      where
        by : Dec (k ≡ start) → prev_of link_map (start + 1) ≡ None
        by (yes e) = ap (λ (n : ℕ). prev_of link_map (n + 1)) (sym e) ∙ (sym is_prev ∙ not_some prev (sym (first e) ∙ none))
        by (no differs) = let less : start < k = omega (arith, differs, runs.low) in runs.first less (sym (later less) ∙ none)

    on_now : (named : ℕ) → next ≡ Some named → named ≡ k + 2 → (j : ℕ) → start < j → j ≤ k + 1 → next_of link_map j ≡ Some (j + 1)
    on_now named is there j low high = by (ℕ_discrete j (k + 1))
      where
        by : Dec (j ≡ k + 1) → next_of link_map j ≡ Some (j + 1)
        by (yes e) = ap (next_of link_map) e ∙ (sym is_next ∙ (is ∙ ap (λ (n : ℕ). Some n) (let same : named ≡ j + 1 = omega (arith, e, there) in same)))
        by (no differs) = runs.on j low (omega (arith, high, differs))

    runs_go_on : next ≡ Some (k + 2) → AreRuns link_map start is_cyclic (k + 1)
    runs_go_on is = record {
      chains = runs.chains;
      each = runs.each;
      items = runs.items;
      low = let low = runs.low in omega (arith, low);
      valid = valid_now;
      first = λ less. first_now;
      on = on_now (k + 2) is refl;
    }

    runs_close : next ≡ (if is_cyclic then Some (start + 1) else None) → AreRuns link_map (k + 1) is_cyclic (k + 1)
    runs_close is = record {
      chains = runs.chains ++ chain ∷ [];
      each = λ c h. each_now c (chain-parts runs.chains chain c h);
      items = all_now;
      low = omega arith;
      valid = valid_now;
      first = λ less. absurd (omega (arith, less));
      on = λ j low high. absurd (omega (arith, low, high));
    }
      where
        size : ℕ
        size = k - start

        whole : start + 1 + size ≡ k + 1
        whole = let low = runs.low in omega (arith, low)

        chain : Chain
        chain = chain_of is_cyclic (range_with_len (start + 1) (suc size))

        is_chain : IsChain link_map chain
        is_chain =
            run_is_chain link_map agree is_cyclic (start + 1) size first_now (λ i low high. valid_now i (omega (arith, low)) (omega (arith, high, whole)))
            (λ i low high. runs.on i (omega (arith, low)) (omega (arith, high, whole))) (ap (next_of link_map) whole ∙ (sym is_next ∙ is))

        each_now : (c : Chain) → HasChain runs.chains c ⊎ (chain ≡ c) → IsChain link_map c
        each_now c (inl h) = runs.each c h
        each_now c (inr e) = subst (IsChain link_map) e is_chain

        all_now : all_items (runs.chains ++ chain ∷ []) ≡ range_with_len 1 (k + 1)
        all_now =
            all_items-append runs.chains (chain ∷ [])
            ∙ (ap₂ (λ (xs ys : List ℕ). xs ++ ys) runs.items (append-nil (items chain) ∙ (items_of is_cyclic (range_with_len (start + 1) (suc size)) ∙ ap (λ (n : ℕ). range_with_len n (suc size)) (let e : start + 1 ≡ 1 + start = omega arith in e)))
            ∙ (range_with_len-append 1 start (suc size) ∙ ap (range_with_len 1) (let low = runs.low in let e : start + suc size ≡ k + 1 = omega (arith, low) in e)))

    pub runs_continue : (after : ℕ) → IsStartAfter start is_cyclic k next after → AreRuns link_map after is_cyclic (k + 1)
    runs_continue after (inl e) = subst (λ (n : ℕ). AreRuns link_map n is_cyclic (k + 1)) (sym e.0) (runs_go_on e.1)
    runs_continue after (inr e) = subst (λ (n : ℕ). AreRuns link_map n is_cyclic (k + 1)) (sym e.0) (runs_close e.1)

module _ {Gen K T : Type 0} (number : K → Option ℕ) (old now : DetachedView Gen (RawLink K T)) (agree : IsWellLinked (link_map_in number old.slots)) (start k : ℕ) (was is_cyclic : Bool)
    (runs : AreRuns (link_map_in number old.slots) start was k) (same : now ≡ old) (i : ℕ) (at : i ≡ k + 1) (r : Option Gen) (generation : Gen) (some : r ≡ Some generation)
    (reported : r ≡ option_map (λ (e : Gen × RawLink K T). e.0) (slot_at now.slots i)) where
  read_valid : HasLink (link_map_in number old.slots) (k + 1)
  read_valid =
      by (slot_at old.slots (k + 1)) refl
      (sym some ∙ (reported ∙ (ap (λ (h : DetachedView Gen (RawLink K T)). option_map (λ (e : Gen × RawLink K T). e.0) (slot_at h.slots i)) same ∙ ap (λ (n : ℕ). option_map (λ (e : Gen × RawLink K T). e.0) (slot_at old.slots n)) at)))
    where
      by : (o : Option (Gen × RawLink K T)) → slot_at old.slots (k + 1) ≡ o → Some generation ≡ option_map (λ (e : Gen × RawLink K T). e.0) o → HasLink (link_map_in number old.slots) (k + 1)
      by None is both = absurd (let h = both in cc)
      by (Some e) is both = record { link = body_interlinks number e; links = ap (option_map (body_interlinks number)) is }

  is_some-map : {I : Type 0} (f : I → ℕ) (o : Option I) → is_some o ≡ is_some (option_map f o)
  is_some-map f None = refl
  is_some-map f (Some x) = refl

  pub runs_read : {I : Type 0} (index : I → ℕ) (prev next : Option I) → option_map index prev ≡ prev_of (link_map_in number now.slots) i → option_map index next ≡ next_of (link_map_in number now.slots) i
      → (k ≡ start → is_cyclic ≡ is_some prev) → (start < k → is_cyclic ≡ was) → (after : ℕ) → IsStartAfter start is_cyclic k (option_map index next) after → AreRuns (link_map_in number old.slots) after is_cyclic (k + 1)
  runs_read index prev next is_prev is_next first later after goes =
      runs_continue (link_map_in number old.slots) agree start k was is_cyclic runs read_valid (option_map index prev) (option_map index next)
      (is_prev ∙ ap₂ (λ (h : DetachedView Gen (RawLink K T)) (n : ℕ). prev_of (link_map_in number h.slots) n) same at) (is_next ∙ ap₂ (λ (h : DetachedView Gen (RawLink K T)) (n : ℕ). next_of (link_map_in number h.slots) n) same at)
      (λ e. first e ∙ is_some-map index prev) later after goes

pub runs_checked : {Gen K T : Type 0} (number : K → Option ℕ) (slots : List (Option (Gen × RawLink K T))) (start end k : ℕ) (is_cyclic : Bool) → end ≡ length slots → k ≡ length slots
    → AreRuns (link_map_in number slots) start is_cyclic k → OnTrue (start == end) (IsCanonical (link_map_in number slots) (range_with_len 1 (length slots)))
runs_checked number slots start end k is_cyclic last all runs = by (start == end) refl
  where
    by : (b : Bool) → (start == end) ≡ b → OnTrue b (IsCanonical (link_map_in number slots) (range_with_len 1 (length slots)))
    by false is = tt
    by true is =
        runs_end (link_map_in number slots) (length slots) start is_cyclic (slots-within (body_interlinks number) slots) (subst (AreRuns (link_map_in number slots) start is_cyclic) all runs)
        (eqb-true start end is ∙ last)
