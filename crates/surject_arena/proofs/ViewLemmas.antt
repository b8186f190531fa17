-- Views with a function applied to each value.
use Rattle.std.proofs.Common.{◌≡◌, ℕ, suc, ◌+◌, List, [], ◌∷◌, map, Bool, true, false, Option, Some, refl, sym, ap, ◌∙◌, subst, arith}
use Rattle.std.specs.Prelude.{◌==◌, cond, IfSome}
use Rattle.std.specs.Option.{option_map}
use Rattle.std.proofs.lemmas.List.{length-map}
use Rattle.arena_core.specs.SlotStack.{IsBeyond}
use Rattle.arena_core.specs.declared.errors.ReallocationError.{ReallocationError}
use Rattle.arena_core.specs.declared.errors.ReallocationError.TheVariants as refused
use Rattle.arena_traits.specs.Arena.{IsInserted, IsValid}
use Rattle.arena_traits.specs.Entries.{ArenaView, ArenaState, AscendsFrom, IsNew, count, found, index_of, next_slot, with_next_filled, with_replacement, without_index, view_with_value, view_after_removal}
use Rattle.arena_traits.specs.Growth.{RefusesOneMore, GrowsToFit, GrowsForOneMore}
use Rattle.chain_links.specs.ChainArena.{on_value}
use Rattle.surject_arena.specs.Surjections.{map_view, entry_in}
use Rattle.surject_arena.specs.SetCalls.{IsAdded}
use Rattle.surject_arena.proofs.OptionLemmas.{from_mapped}

abbrev pub with_entries : {Gen X : Type 0} → ArenaView Gen X → List ((ℕ × Gen) × X) → ArenaView Gen X
with_entries s es = record s { entries = es }

module _ {Gen X Y : Type 0} (f : X → Y) where
  abbrev pub each : (ℕ × Gen) × X → (ℕ × Gen) × Y
  each e = (e.0, f e.1)

  pub found-each : (i : ℕ) (es : List ((ℕ × Gen) × X)) → found i (map each es) ≡ option_map (on_value f) (found i es)
  found-each i [] = refl
  found-each i (e ∷ es) = by (e.0.0 == i) (found-each i es)
    where
      by : (b : Bool) → found i (map each es) ≡ option_map (on_value f) (found i es)
          → cond b (Some (e.0.1, f e.1)) (found i (map each es)) ≡ option_map (on_value f) (cond b (Some (e.0.1, e.1)) (found i es))
      by true rest = refl
      by false rest = rest

  without_index-each : (i : ℕ) (es : List ((ℕ × Gen) × X)) → without_index i (map each es) ≡ map each (without_index i es)
  without_index-each i [] = refl
  without_index-each i (e ∷ es) = by (e.0.0 == i) (without_index-each i es)
    where
      by : (b : Bool) → without_index i (map each es) ≡ map each (without_index i es)
          → cond b (map each es) (each e ∷ without_index i (map each es)) ≡ map each (cond b es (e ∷ without_index i es))
      by true rest = refl
      by false rest = ap (λ l. each e ∷ l) rest

  with_replacement-each : (i : ℕ) (t : X) (es : List ((ℕ × Gen) × X)) → with_replacement i (λ e. (e.0, f t)) (map each es) ≡ map each (with_replacement i (λ e. (e.0, t)) es)
  with_replacement-each i t [] = refl
  with_replacement-each i t (e ∷ es) = by (e.0.0 == i) (with_replacement-each i t es)
    where
      by : (b : Bool) → with_replacement i (λ e. (e.0, f t)) (map each es) ≡ map each (with_replacement i (λ e. (e.0, t)) es)
          → cond b (((i, e.0.1), f t) ∷ map each es) (each e ∷ with_replacement i (λ e. (e.0, f t)) (map each es)) ≡ map each (cond b (((i, e.0.1), t) ∷ es) (e ∷ with_replacement i (λ e. (e.0, t)) es))
      by true rest = refl
      by false rest = ap (λ l. each e ∷ l) rest

  pub index-each : (es : List ((ℕ × Gen) × X)) → map index_of (map each es) ≡ map index_of es
  index-each [] = refl
  index-each (e ∷ es) = ap (λ l. e.0.0 ∷ l) (index-each es)

  pub pointers-each : (es : List ((ℕ × Gen) × X)) → map (λ (e : (ℕ × Gen) × Y). e.0) (map each es) ≡ map (λ (e : (ℕ × Gen) × X). e.0) es
  pointers-each [] = refl
  pointers-each (e ∷ es) = ap (λ l. e.0 ∷ l) (pointers-each es)

  pub ascends-each : (i : ℕ) (es : List ((ℕ × Gen) × X)) → AscendsFrom i es → AscendsFrom i (map each es)
  ascends-each i [] is = tt
  ascends-each i (e ∷ es) is = (is.0, ascends-each (suc e.0.0) es is.1)

  pub removed-each : (following : Gen → Gen) (s : ArenaView Gen X) (i : ℕ) → map_view f (view_after_removal following s i) ≡ view_after_removal following (map_view f s) i
  removed-each following s i = ap (with_entries (map_view f (view_after_removal following s i))) (sym (without_index-each i s.entries))

  pub written-each : (s : ArenaView Gen X) (i : ℕ) (t : X) → map_view f (view_with_value s i t) ≡ view_with_value (map_view f s) i (f t)
  written-each s i t = ap (with_entries (map_view f s)) (sym (with_replacement-each i t s.entries))

  pub new-each : (first : Gen) (s : ArenaView Gen X) → IsNew first s → IsNew first (map_view f s)
  new-each first s is = record { entries = ap (map each) is.entries; counter = is.counter; slots = is.slots }

  pub count-each : (s : ArenaView Gen X) → count (map_view f s) ≡ count s
  count-each s = length-map s.entries each

  pub refuses-each : (s : ArenaView Gen X) (why : ReallocationError) → RefusesOneMore s why → RefusesOneMore (map_view f s) why
  refuses-each s refused.BeyondMaxCapacity is = (count-each s ∙ is.0, subst (λ (n : ℕ). IsBeyond s.maximum (n + 1)) (sym (count-each s)) is.1)
  refuses-each s refused.AllocError is = (count-each s ∙ is.0, λ beyond. is.1 (subst (λ (n : ℕ). IsBeyond s.maximum (n + 1)) (count-each s) beyond))

  pub grows-each : (greatest : ℕ) (old new : ArenaView Gen X) → GrowsForOneMore greatest old new → GrowsForOneMore greatest (map_view f old) (map_view f new)
  grows-each greatest old new is = subst (λ (n : ℕ). GrowsToFit greatest (n + 1) (map_view f old) (map_view f new)) (sym (count-each old)) is

  module _ {A : Type 0} {view : A → ArenaView Gen X} {entry : A → ℕ → Option (Gen × X)} (state : (a : A) → ArenaState (view a) (entry a)) where
    pub entry-each : (a : A) (i : ℕ) → entry_in (map_view f (view a)) i ≡ option_map (on_value f) (entry a i)
    entry-each a i = found-each i (view a).entries ∙ ap (option_map (on_value f)) ((state a).finds i)

    pub stored-each : (a : A) (i : ℕ) (g : Gen) (t : X) → entry a i ≡ Some (g, t) → entry_in (map_view f (view a)) i ≡ Some (g, f t)
    stored-each a i g t stored = entry-each a i ∙ ap (option_map (on_value f)) stored

    pub each-stored : (a : A) (i : ℕ) (g : Gen) (y : Y) → entry_in (map_view f (view a)) i ≡ Some (g, y) → (t : X) × (entry a i ≡ Some (g, t)) × (f t ≡ y)
    each-stored a i g y stored =
        let e = from_mapped (on_value f) (entry a i) (g, y) (sym (entry-each a i) ∙ stored) in
        (e.0.1, e.1 ∙ ap (λ (h : Gen). Some (h, e.0.1)) (ap (λ (x : Gen × Y). x.0) e.2), ap (λ (x : Gen × Y). x.1) e.2)

    pub valid-each : (a : A) (p : ℕ × Gen) → IsValid (entry a) p → IsValid (entry_in (map_view f (view a))) p
    valid-each a p valid = record { value = f valid.value; stored = stored-each a p.0 p.1 valid.value valid.stored }

    pub each-valid : (a : A) (p : ℕ × Gen) → IsValid (entry_in (map_view f (view a))) p → IsValid (entry a) p
    each-valid a p valid = let e = each-stored a p.0 p.1 valid.value valid.stored in record { value = e.0; stored = e.1 }

    pub added-each : (a b : A) (t : X) (p : ℕ × Gen) → IsInserted (entry a) (entry b) p t → count (view b) ≡ count (view a) + 1 → IfSome (view a).counter (λ g. p.1 ≡ g)
        → IfSome (view a).slots (λ slots. p.0 ≡ next_slot slots) → (view b).slots ≡ option_map with_next_filled (view a).slots → (view b).counter ≡ (view a).counter → (view b).maximum ≡ (view a).maximum
        → IsAdded (map_view f (view a)) (f t) p (map_view f (view b))
    added-each a b t p inserted more generation index slots counter maximum = record {
      entries = record {
        free = entry-each a p.0 ∙ ap (option_map (on_value f)) inserted.free;
        stored = stored-each b p.0 p.1 t inserted.stored;
        rest = λ i other. entry-each b i ∙ (ap (option_map (on_value f)) (inserted.rest i other) ∙ sym (entry-each a i));
      };
      more = omega (arith, more, count-each (view a), count-each (view b));
      generation = generation;
      index = index;
      slots = slots;
      counter = counter;
      maximum = maximum;
    }
