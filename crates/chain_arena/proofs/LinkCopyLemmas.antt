-- Copies of an arena of links: their interlinks, values and views.
use Rattle.std.proofs.Common.{◌≡◌, ◌↔◌, ℕ, zero, suc, ◌≤◌, List, [], ◌∷◌, ◌++◌, length, map, Option, None, Some, Result, Ok, Err, OnOk, OnErr, IsOk, IfOk, ◌⊎◌, inl, inr, arith, refl, ap, sym, ◌∙◌, subst, subst₂}
use Rattle.std.specs.Prelude.{is_ok}
use Rattle.std.specs.Option.{option_map, option_and_then}
use Rattle.std.proofs.lemmas.Bool.{false≢true}
use Rattle.std.specs.List.{FoldsTo}
use Rattle.std.proofs.lemmas.List.{map-append}
use Rattle.std.specs.Borrow.{Bor}
use Rattle.std.specs.Fn.{Mut}
use Rattle.arena_core.specs.SlotStack.{IsBeyond}
use Rattle.arena_core.specs.declared.errors.ReallocationError.{ReallocationError}
use Rattle.arena_core.specs.declared.errors.ReallocationError.TheVariants as refused
use Rattle.chain_laws.specs.Chains.{Interlinks, IsWellLinked}
use Rattle.arena_traits.specs.Arena.{Arena, IsCapacityFor, ReachesCapacity, slot_at, new_arena}
use Rattle.arena_traits.specs.Entries.{ArenaView, Slots, entries_from, entries}
use Rattle.arena_base.specs.Copies.{Copied, Makes, CopiesBy, IsCopyBy, IsCopyCall, HasRefusable, HasSlotsOf, IsAbandonedCopy, generations}
use Rattle.chain_links.specs.declared.links.RawLink.{RawLink}
use Rattle.chain_links.specs.ChainArena.{LinkView, on_value, interlinks_in, interlinks_of, link_map, value_view, values_of}
use Rattle.chain_traits.specs.Clones.{CopiesLinks}
use Rattle.chain_links.specs.Links.{link_view, links_view, pair_view, held_in, destination_of, AreAtRest}
use Rattle.chain_arena.specs.LinkCopies.{MakesLink, MakesOf, RefusesOf, IsLinkCopyBy, IsClone, CopiesOrRefuses, CopiesOrLacksCapacity, ClonesOrRefuses}
use Rattle.arena_base.proofs.SlotCopyLemmas.{made_by, copy_by}
use Rattle.arena_base.proofs.FoldLemmas.{folds_viewed, folds_mapped}
use Rattle.chain_links.proofs.MappedArenaLemmas.{slot_at-map, length-with_each}
use Rattle.chain_compaction.proofs.ValueViewLemmas.{entry_views-all, held_entries-all}

abbrev made_as : {P U T W X : Type 0} → (U → W) → (T → X) → Copied P U T → Copied P W X
made_as before after c = record { pointer = c.pointer; value = before c.value; returned = after c.returned }

module _ {V F P U W T X : Type 0} (makes : V → P → U → T → V → Type 0) (others : F → P → W → X → F → Type 0) (see : V → F) (before : U → W) (after : T → X)
    (step : (v : V) (p : P) (u : U) (t : T) (next : V) → makes v p u t next → others (see v) p (before u) (after t) (see next)) where
  module _ {Gen : Type 0} (key : P → ℕ × Gen) where
    viewed_before : (made : List (Copied P U T)) → map (λ c. (key c.pointer, c.value)) (map (made_as before after) made) ≡ map (on_value before) (map (λ c. (key c.pointer, c.value)) made)
    viewed_before [] = refl
    viewed_before (c ∷ made) = ap (λ es. (key c.pointer, before c.value) ∷ es) (viewed_before made)

    viewed_after : (made : List (Copied P U T)) → map (λ c. (key c.pointer, c.returned)) (map (made_as before after) made) ≡ map (on_value after) (map (λ c. (key c.pointer, c.returned)) made)
    viewed_after [] = refl
    viewed_after (c ∷ made) = ap (λ es. (key c.pointer, after c.returned) ∷ es) (viewed_after made)

    pub copies_viewed : (f last : V) (source : List ((ℕ × Gen) × U)) (copy : List ((ℕ × Gen) × T)) → CopiesBy makes key f source copy last
        → CopiesBy others key (see f) (map (on_value before) source) (map (on_value after) copy) (see last)
    copies_viewed f last source copy c = record {
      made = map (made_as before after) c.made;
      in_turn = folds_mapped (made_as before after) (Makes others) c.made (see f) (see last)
          (folds_viewed see (Makes makes) (λ s m t. Makes others s (made_as before after m) t) (λ s m t. step s m.pointer m.value m.returned t) c.made f last c.in_turn);
      before = viewed_before c.made ∙ ap (map (on_value before)) c.before;
      after = viewed_after c.made ∙ ap (map (on_value after)) c.after;
    }

module _ {V P U T Z Gen : Type 0} (makes : V → P → U → T → V → Type 0) (f : U → Z) (g : T → Z)
    (same : (v : V) (p : P) (u : U) (t : T) (next : V) → makes v p u t next → g t ≡ f u) (key : P → ℕ × Gen) where
  made_alike : (made : List (Copied P U T)) (v last : V) → FoldsTo (Makes makes) v made last
      → map (on_value g) (map (λ c. (key c.pointer, c.returned)) made) ≡ map (on_value f) (map (λ c. (key c.pointer, c.value)) made)
  made_alike [] v last folds = refl
  made_alike (c ∷ made) v last folds =
      λ i. (key c.pointer, same v c.pointer c.value c.returned folds.0 folds.1 i) ∷ made_alike made folds.0 last folds.2 i

  pub copies_alike : (v last : V) (source : List ((ℕ × Gen) × U)) (copy : List ((ℕ × Gen) × T)) → CopiesBy makes key v source copy last → map (on_value g) copy ≡ map (on_value f) source
  copies_alike v last source copy c = ap (map (on_value g)) (sym c.after) ∙ (made_alike c.made v last c.in_turn ∙ ap (map (on_value f)) c.before)

abbrev first_value : {Gen Z : Type 0} → Z → List ((ℕ × Gen) × Z) → Z
first_value z [] = z
first_value z (e ∷ es) = e.1

module _ {Gen U T Z : Type 0} (f : U → Z) (g : T → Z) where
  pub slots_alike : (i : ℕ) (a : List (Option (Gen × U))) (b : List (Option (Gen × T))) → generations b ≡ generations a → map (on_value g) (entries_from i b) ≡ map (on_value f) (entries_from i a)
      → map (option_map (on_value g)) b ≡ map (option_map (on_value f)) a
  slots_alike i [] [] places same = refl
  slots_alike i [] (e ∷ b) places same = absurd (let h = places in cc)
  slots_alike i (d ∷ a) [] places same = absurd (let h = places in cc)
  slots_alike i (None ∷ a) (None ∷ b) places same = ap (λ rest. None ∷ rest) (slots_alike (suc i) a b (let h = places in cc) same)
  slots_alike i (None ∷ a) (Some e ∷ b) places same = absurd (let h = places in cc)
  slots_alike i (Some d ∷ a) (None ∷ b) places same = absurd (let h = places in cc)
  slots_alike i (Some d ∷ a) (Some e ∷ b) places same =
      let generation : e.0 ≡ d.0 = let h = places in cc in
      let value : g e.1 ≡ f d.1 = ap (first_value (g e.1)) same in
      let rest = slots_alike (suc i) a b (let h = places in cc) (let h = same in cc) in
      λ j. Some (generation j, value j) ∷ rest j

module _ {Gen X Y : Type 0} (f : X → Y) where
  generations-map : (slots : List (Option (Gen × X))) → generations (map (option_map (on_value f)) slots) ≡ generations slots
  generations-map [] = refl
  generations-map (None ∷ slots) = ap (λ gs. None ∷ gs) (generations-map slots)
  generations-map (Some e ∷ slots) = ap (λ gs. Some e.0 ∷ gs) (generations-map slots)

module _ {P K U Gen : Type 0} (number : K → Option ℕ) (may_refuse : P → RawLink K U → Type 0) (key : P → ℕ × Gen) (source : Arena Gen (RawLink K U)) where
  pub refusable_viewed : HasRefusable may_refuse key (entries source) → HasRefusable (RefusesOf (link_view number) may_refuse) key (entries (links_view number source))
  refusable_viewed has = record {
    pointer = has.pointer;
    value = link_view number has.value;
    before = map (on_value (link_view number)) has.before;
    after = map (on_value (link_view number)) has.after;
    stored = sym (entry_views-all number source) ∙ (ap (map (on_value (link_view number))) has.stored
        ∙ map-append (on_value (link_view number)) has.before ((key has.pointer, has.value) ∷ has.after));
    refusable = (has.value, refl, has.refusable);
  }

module _ (Gen T : Type 0) where
  nothing_at : (i : ℕ) → option_map (interlinks_of {Gen = Gen} {T = T}) (slot_at [] i) ≡ None
  nothing_at zero = refl
  nothing_at (suc k) = refl

pub copy_abandoned_agrees : {Gen T : Type 0} (old new : Arena Gen (LinkView T)) → IsAbandonedCopy old new → IsWellLinked (link_map new)
copy_abandoned_agrees {Gen} {T} old new is =
    subst (λ (a : Arena Gen (LinkView T)). IsWellLinked (link_map a)) (sym is)
    (subst IsWellLinked (λ j i. sym (nothing_at Gen T i) j) (record { both = λ i j. (λ never. cc, λ never. cc) }))

module _ {Gen K U T : Type 0} (number : K → Option ℕ) where
  pub has_slots_viewed : (source : Arena Gen (RawLink K U)) (old new : Arena Gen (RawLink K T)) → HasSlotsOf source old new → HasSlotsOf (links_view number source) (links_view number old) (links_view number new)
  has_slots_viewed source old new has = record {
    state = ap (links_view number) has.state;
    generations = generations-map (link_view number) new.slots ∙ (has.generations ∙ sym (generations-map (link_view number) source.slots));
    within_capacity = λ few. has.within_capacity (subst (λ n. n ≤ old.capacity) (length-with_each (link_view number) source) few);
  }

abbrev interlinks_as : {K T : Type 0} → (K → Option ℕ) → RawLink K T → Interlinks
interlinks_as number link = interlinks_in (link_view number link)

module _ {Gen K T : Type 0} (number : K → Option ℕ) where
  link_map-slots : (a : Arena Gen (RawLink K T)) (i : ℕ) → link_map (links_view number a) i ≡ option_map (λ e. e.1) (slot_at (map (option_map (on_value (interlinks_as number))) a.slots) i)
  link_map-slots a i =
      ap (option_map interlinks_of) (slot_at-map (pair_view number) a.slots i)
      ∙ (both (slot_at a.slots i) ∙ ap (option_map (λ (e : Gen × Interlinks). e.1)) (sym (slot_at-map (on_value (interlinks_as number)) a.slots i)))
    where
      both : (o : Option (Gen × RawLink K T)) → option_map interlinks_of (option_map (pair_view number) o) ≡ option_map (λ (e : Gen × Interlinks). e.1) (option_map (on_value (interlinks_as number)) o)
      both None = refl
      both (Some e) = refl

abbrev body_destination : {K T : Type 0} → (K → Option ℕ) → RawLink K T → Option ℕ
body_destination number l = number l.destination

abbrev no_destination : {K T : Type 0} → RawLink K T → Option ℕ
no_destination l = None

module _ {V F P K U T Gen : Type 0} (number : K → Option ℕ) (makes : F → P → LinkView U → T → F → Type 0) (see : V → F) (key : P → ℕ × Gen) (f last : V) (source : Arena Gen (RawLink K U)) (old new : Arena Gen (RawLink K T))
    (made : CopiesBy (λ v p u t w. MakesLink number makes (see v) p u t (see w)) key f (entries source) (entries new) last) (has : HasSlotsOf source old new) where
  pub interlinks_copied : link_map (links_view number new) ≡ link_map (links_view number source)
  interlinks_copied j i = (link_map-slots number new i
      ∙ (ap (λ slots. option_map (λ (e : Gen × Interlinks). e.1) (slot_at slots i))
      (slots_alike (interlinks_as number) (interlinks_as number) 1 source.slots new.slots has.generations
      (copies_alike (λ v p u t w. MakesLink number makes (see v) p u t (see w)) (interlinks_as number) (interlinks_as number) (λ v p u t w m. m.interlinks) key f last (entries source) (entries new) made))
      ∙ sym (link_map-slots number source i))) j

  pub values_copied : CopiesBy makes key (see f) (entries (links_view number source)) (entries (values_of (links_view number new))) (see last)
  values_copied =
      subst (λ es. CopiesBy makes key (see f) (entries (links_view number source)) es (see last)) (held_entries-all number new)
      (subst (λ es. CopiesBy makes key (see f) es (map (on_value held_in) (entries new)) (see last)) (entry_views-all number source)
      (copies_viewed (λ v p u t w. MakesLink number makes (see v) p u t (see w)) makes see (link_view number) held_in (λ v p u t w m. m.value) key f last (entries source) (entries new) made))

  pub link_copied : IsLinkCopyBy makes key (see f) (links_view number source) (links_view number old) (links_view number new) (see last)
  link_copied = record {
    slots = has_slots_viewed number source old new has;
    links = interlinks_copied;
    values = values_copied;
  }

  pub agrees_copied : IsWellLinked (link_map (links_view number source)) → IsWellLinked (link_map (links_view number new))
  agrees_copied agrees = subst IsWellLinked (sym interlinks_copied) agrees

  pub copied_at_rest : AreAtRest number new.slots
  copied_at_rest = record { none = λ i. by (slot_at new.slots i) (slot_at source.slots i) (sym (slot_at-map (on_value (body_destination number)) new.slots i) ∙ (ap (λ slots. slot_at slots i) alike ∙ slot_at-map (on_value no_destination) source.slots i)) }
    where
      alike : map (option_map (on_value (body_destination number))) new.slots ≡ map (option_map (on_value no_destination)) source.slots
      alike = slots_alike no_destination (body_destination number) 1 source.slots new.slots has.generations
          (copies_alike (λ v p u t w. MakesLink number makes (see v) p u t (see w)) no_destination (body_destination number) (λ v p u t w m. m.at_rest) key f last (entries source) (entries new) made)

      by : (o : Option (Gen × RawLink K T)) (s : Option (Gen × RawLink K U)) → option_map (on_value (body_destination number)) o ≡ option_map (on_value no_destination) s → option_and_then (destination_of number) o ≡ None
      by None s same = refl
      by (Some x) None same = absurd (let h = same in cc)
      by (Some x) (Some y) same =
          let pair : on_value (body_destination number) x ≡ on_value no_destination y = let h = same in cc in
          ap (λ (p : Gen × Option ℕ). p.1) pair

module _ {F P K U T Gen : Type 0} (number : K → Option ℕ) (makes : F → P → RawLink K U → T → F → Type 0) (key : P → ℕ × Gen) (f last : F) (source : Arena Gen (RawLink K U)) (old new : ArenaView Gen T) where
  as_it_is : (es : List ((ℕ × Gen) × T)) → map (on_value (λ t. t)) es ≡ es
  as_it_is [] = refl
  as_it_is (e ∷ es) = ap (λ rest. e ∷ rest) (as_it_is es)

  pub copy_as_viewed : IsCopyBy makes key f source old new last → IsCopyBy (MakesOf (link_view number) makes) key f (links_view number source) old new last
  copy_as_viewed copy = record {
    entries = subst (λ es. CopiesBy (MakesOf (link_view number) makes) key f (entries (links_view number source)) es last) (as_it_is new.entries)
        (subst (λ es. CopiesBy (MakesOf (link_view number) makes) key f es (map (on_value (λ t. t)) new.entries) last) (entry_views-all number source)
        (copies_viewed makes (MakesOf (link_view number) makes) (λ h. h) (link_view number) (λ t. t)
        (λ v p u t w made. record { passed = u; value_passed = refl; made = made }) key f last (entries source) new.entries copy.entries));
    counter = copy.counter;
    slots = copy.slots ∙ ap (λ n. option_map (λ (s : Slots). let t : Slots = record s { count = n; freed = source.freed } in t) old.slots) (sym (length-with_each (link_view number) source));
    maximum = copy.maximum;
  }

pub called_of : {V F P K U T : Type 0} (g : Mut F (P × (Bor (RawLink K U) × Unit {0})) T) (see : V → F) (value_from : RawLink K U → LinkView U) (v : V) (p : P) (u : LinkView U) (t : T) (w : V)
    → MakesOf value_from (λ x p u t y. IsCopyCall g (see x) p u t (see y)) v p u t w → MakesOf value_from (IsCopyCall g) (see v) p u t (see w)
called_of g see value_from v p u t w makes = record { passed = makes.passed; value_passed = makes.value_passed; made = makes.made }

pub called_copies : {V F P K U T Gen : Type 0} (g : Mut F (P × (Bor (RawLink K U) × Unit {0})) T) (see : V → F) (value_from : RawLink K U → LinkView U) (key : P → ℕ × Gen) (f last : V) (source : Arena Gen (LinkView U)) (old new : Arena Gen (LinkView T))
    → IsLinkCopyBy (MakesOf value_from (λ x p u t y. IsCopyCall g (see x) p u t (see y))) key f source old new last → IsLinkCopyBy (MakesOf value_from (IsCopyCall g)) key (see f) source old new (see last)
called_copies g see value_from key f last source old new copy = record {
  slots = copy.slots;
  links = copy.links;
  values = made_by (MakesOf value_from (λ x p u t y. IsCopyCall g (see x) p u t (see y))) (MakesOf value_from (IsCopyCall g)) see (called_of g see value_from) key f last (entries source) (entries (values_of new)) copy.values;
}

pub called_copy : {V F P K U T Gen : Type 0} (g : Mut F (P × (Bor (RawLink K U) × Unit {0})) T) (see : V → F) (value_from : RawLink K U → LinkView U) (key : P → ℕ × Gen) (f last : V) (source : Arena Gen (LinkView U)) (old new : ArenaView Gen T)
    → IsCopyBy (MakesOf value_from (λ x p u t y. IsCopyCall g (see x) p u t (see y))) key f source old new last → IsCopyBy (MakesOf value_from (IsCopyCall g)) key (see f) source old new (see last)
called_copy g see value_from key f last source old new copy =
    copy_by (MakesOf value_from (λ x p u t y. IsCopyCall g (see x) p u t (see y))) (MakesOf value_from (IsCopyCall g)) see (called_of g see value_from) key f last source old new copy

module _ {F P K T Gen : Type 0} (number : K → Option ℕ) (is_clone : T → T → Type 0) (equal : (x y : T) → is_clone x y → y ≡ x) (key : P → ℕ × Gen) (f last : F) (source : Arena Gen (RawLink K T)) (old new : Arena Gen (RawLink K T))
    (made : CopiesBy (MakesLink number (λ (_ : F) (_ : P) u t (_ : F). is_clone u.value t)) key f (entries source) (entries new) last) (has : HasSlotsOf source old new) where
  pub links_cloned : (links_view number new).slots ≡ (links_view number source).slots
  links_cloned = slots_alike (link_view number) (link_view number) 1 source.slots new.slots has.generations
      (copies_alike (MakesLink number (λ (_ : F) (_ : P) u t (_ : F). is_clone u.value t)) (link_view number) (link_view number)
      (λ v p u t w m. λ i. record { prev = (ap (λ (l : Interlinks). l.prev) m.interlinks) i; next = (ap (λ (l : Interlinks). l.next) m.interlinks) i; value = equal u.t t.t m.value i })
      key f last (entries source) (entries new) made)

  pub is_clone_of : (first : Gen) (maximum : Option ℕ) → old ≡ new_arena first maximum → IsClone first maximum (links_view number source) (links_view number new)
  is_clone_of first maximum begins = λ i. record {
    slots = links_cloned i;
    counter = (ap (λ (a : Arena Gen (RawLink K T)). a.counter) has.state) i;
    freed = (ap (λ (a : Arena Gen (RawLink K T)). a.freed) has.state) i;
    capacity = new.capacity;
    stack_capacity = new.stack_capacity;
    maximum = (ap (λ (a : Arena Gen (RawLink K T)). a.maximum) has.state ∙ ap (λ (a : Arena Gen (RawLink K T)). a.maximum) begins) i;
    placed = (ap (λ (a : Arena Gen (RawLink K T)). a.placed) has.state ∙ ap (λ (a : Arena Gen (RawLink K T)). a.placed) begins) i;
    touched = (ap (λ (a : Arena Gen (RawLink K T)). a.touched) has.state ∙ ap (λ (a : Arena Gen (RawLink K T)). a.touched) begins) i;
  }

  pub clone_agrees : IsWellLinked (link_map (links_view number source)) → IsWellLinked (link_map (links_view number new))
  clone_agrees agrees = subst (λ (slots : List (Option (Gen × LinkView T))). IsWellLinked (λ i. option_map interlinks_of (slot_at slots i))) (sym links_cloned) agrees

none_before : {X Y : Type 0} (f : X → Y) (xs : List X) → map f xs ≡ [] → xs ≡ []
none_before f [] none = refl
none_before f (x ∷ xs) none = absurd (let h = none in cc)

module _ {P K U Gen : Type 0} (number : K → Option ℕ) (may_refuse : P → RawLink K U → Type 0) (key : P → ℕ × Gen) (source : Arena Gen (RawLink K U)) where
  none_among : {X : Type 0} (before after : List X) (x : X) → [] ≡ before ++ x ∷ after → ⊥
  none_among [] after x same = cc
  none_among (y ∷ before) after x same = cc

  no_slots : (links_view number source).slots ≡ [] → source.slots ≡ []
  no_slots none = none_before (option_map (pair_view number)) source.slots none

  pub no_capacity_needed : {N : Type 0} (r : Result (Unit {0}) ReallocationError) (e : ReallocationError) (within_capacity : ℕ) → r ≡ Err e → (links_view number source).slots ≡ []
      → (length source.slots ≤ within_capacity → (IsOk r ⊎ HasRefusable may_refuse key (entries source)) × N) → ⊥
  no_capacity_needed r e within_capacity is none within = by (within (let few = ap length (no_slots none) in omega (arith, few))).0 where
    by : (IsOk r ⊎ HasRefusable may_refuse key (entries source)) → ⊥
    by (inl ok) = false≢true (sym (ap is_ok is) ∙ ok)
    by (inr refused) = none_among refused.before refused.after (key refused.pointer, refused.value) (sym (ap (entries_from 1) (no_slots none)) ∙ refused.stored)

pub refuses_clone : {Gen T : Type 0} (may_reach : ℕ → Option ℕ → ℕ → ℕ → Type 0) (greatest : ℕ) (first : Gen) (maximum : Option ℕ) (source : Arena Gen (LinkView T)) (r : Result (Unit {0}) ReallocationError) (why : ReallocationError) → r ≡ Err why
    → (r ≡ Err refused.BeyondMaxCapacity) ↔ IsBeyond maximum (length source.slots) → ClonesOrRefuses may_reach greatest first maximum source (Err why)
refuses_clone may_reach greatest first maximum source r refused.BeyondMaxCapacity is known = known.0 is
refuses_clone may_reach greatest first maximum source r refused.AllocError is known = λ over. let h = sym is ∙ known.1 over in absurd (cc)

pub copies_links : {Gen T : Type 0} (may_reach : ℕ → Option ℕ → ℕ → ℕ → Type 0) (greatest : ℕ) (first : Gen) (maximum : Option ℕ) (source : Arena Gen (LinkView T)) (r : Result (Arena Gen (LinkView T)) ReallocationError)
    → ClonesOrRefuses may_reach greatest first maximum source r → (source.slots ≡ [] → IsOk r) → CopiesLinks value_view link_map greatest maximum source r
copies_links {Gen} {T} may_reach greatest first maximum source (Ok copy) cloned none =
    let most : copy.maximum ≡ maximum = ap (λ (a : Arena Gen (LinkView T)). a.maximum) cloned.0 in (
      record {
        entries = ap (λ (a : Arena Gen (LinkView T)). (value_view a).entries) cloned.0;
        counter = ap (λ (a : Arena Gen (LinkView T)). (value_view a).counter) cloned.0;
        slots = ap (λ (a : Arena Gen (LinkView T)). (value_view a).slots) cloned.0;
        maximum = most;
        capacity = subst₂ (λ m n. IsCapacityFor greatest m n copy.capacity) most (sym (length-with_each {X = LinkView T} (λ l. l.value) source)) cloned.1.capacity.0;
      },
      ap (λ (a : Arena Gen (LinkView T)). link_map a) cloned.0,
    )
copies_links {Gen} {T} may_reach greatest first maximum source (Err refused.BeyondMaxCapacity) cloned none = subst (IsBeyond maximum) (sym (length-with_each {X = LinkView T} (λ l. l.value) source)) cloned
copies_links {Gen} {T} may_reach greatest first maximum source (Err refused.AllocError) cloned none =
    let same = length-with_each {X = LinkView T} (λ l. l.value) source in
    (omega (arith, some source.slots (λ is. false≢true (none is)), same), λ over. cloned (subst (IsBeyond maximum) same over))
  where
    some : {X : Type 0} (xs : List X) → (xs ≡ [] → ⊥) → 1 ≤ length xs
    some [] filled = absurd (filled refl)
    some (x ∷ xs) filled = omega arith

pub clone_reaches : {Gen T : Type 0} (may_reach : ℕ → Option ℕ → ℕ → ℕ → Type 0) (greatest : ℕ) (first : Gen) (maximum : Option ℕ) (source : Arena Gen (LinkView T)) (r : Result (Arena Gen (LinkView T)) ReallocationError)
    → ClonesOrRefuses may_reach greatest first maximum source r → IfOk r (λ copy. IsClone first maximum source copy × ReachesCapacity may_reach greatest (length source.slots) (new_arena first maximum) copy)
clone_reaches may_reach greatest first maximum source (Ok copy) cloned = (cloned.0, cloned.1)
clone_reaches may_reach greatest first maximum source (Err why) cloned = tt

pub either_way : {X E A B C D N : Type 0} (r : Result X E) → (A → B → C) → (D → C) → (N → C) → OnOk r A → OnOk r B → OnErr r (D ⊎ N) → C
either_way (Ok x) done refused gave_up a b d = done a b
either_way (Err e) done refused gave_up a b (inl d) = refused d
either_way (Err e) done refused gave_up a b (inr n) = gave_up n

pub on_ok_three : {X E A B C D : Type 0} (r : Result X E) → (A → B → C → D) → OnOk r A → OnOk r B → OnOk r C → OnOk r D
on_ok_three (Ok x) all a b c = all a b c
on_ok_three (Err e) all a b c = tt

pub on_ok_four : {X E A B C D F : Type 0} (r : Result X E) → (A → B → C → D → F) → OnOk r A → OnOk r B → OnOk r C → OnOk r D → OnOk r F
on_ok_four (Ok x) all a b c d = all a b c d
on_ok_four (Err e) all a b c d = tt

refusable_at : {R : Type 0} (e : ReallocationError) → (let r : Result (Unit {0}) ReallocationError = Err e in IsOk r ⊎ R) → R
refusable_at e (inl ok) = absurd (false≢true ok)
refusable_at e (inr refusable) = refusable

pub copies_or_refuses : {R S N : Type 0} (C L : Type 0) (n capacity : ℕ) (maximum : Option ℕ) (r : Result (Unit {0}) ReallocationError) → (n ≤ capacity → (IsOk r ⊎ R) × N)
    → (r ≡ Err refused.BeyondMaxCapacity) ↔ IsBeyond maximum n → (r ≡ Err refused.BeyondMaxCapacity → S) → OnOk r C → OnErr r (S ⊎ (R × L)) → CopiesOrRefuses n capacity maximum R C S L r
copies_or_refuses C L n capacity maximum (Ok done) within beyond unchanged copied err = (copied, λ over. let h = beyond.1 over in absurd (cc))
copies_or_refuses C L n capacity maximum (Err refused.BeyondMaxCapacity) within beyond unchanged copied err = (beyond.0 refl, unchanged refl, λ few. refusable_at refused.BeyondMaxCapacity (within few).0)
copies_or_refuses C L n capacity maximum (Err refused.AllocError) within beyond unchanged copied err =
    (err, (λ over. let h = beyond.1 over in absurd (cc)), λ few. refusable_at refused.AllocError (within few).0)

kept_in : {S X K : Type 0} → (S → K) → (X → ⊥) → S ⊎ X → K
kept_in kept never (inl same) = kept same
kept_in kept never (inr lost) = absurd (never lost)

pub copies_or_lacks : {R C S D K : Type 0} (L : Type 0) (n capacity : ℕ) (maximum : Option ℕ) (r : Result (Unit {0}) ReallocationError) → (R → ⊥) → (C → D) → (S → K)
    → CopiesOrRefuses n capacity maximum R C S L r → CopiesOrLacksCapacity n capacity maximum D K r
copies_or_lacks L n capacity maximum (Ok done) never made kept outcome = (made outcome.0, outcome.1)
copies_or_lacks L n capacity maximum (Err refused.BeyondMaxCapacity) never made kept outcome = (outcome.0, kept outcome.1, λ few. never (outcome.2 few))
copies_or_lacks L n capacity maximum (Err refused.AllocError) never made kept outcome = (kept_in kept (λ lost. never lost.0) outcome.0, outcome.1, λ few. never (outcome.2 few))
