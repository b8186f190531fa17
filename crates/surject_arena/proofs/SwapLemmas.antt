-- Two values that are exchanged.
use Rattle.std.proofs.Common.{◌≡◌, ◌≢◌, ℕ, List, [], ◌∷◌, ⊎_elim, Option, None, Some, refl, sym, ap, ◌∙◌, subst}
use Rattle.std.specs.Option.{option_map}
use Rattle.std.proofs.lemmas.Bool.{cases_eq}
use Rattle.arena_traits.specs.Entries.{ArenaView, ArenaState, found, with_replacement, view_with_value}
use Rattle.arena_traits.proofs.EntryChangeLemmas.{valued, writes_first, writes_later, found-written, found-unwritten, value_there, values_elsewhere}
use Rattle.arena_traits.specs.CallOutcomes.{SwapsValues}
use Rattle.surject_arena.specs.Partitions.{counted, counted_view, size_in}
use Rattle.surject_arena.specs.Surjections.{map_view}
use Rattle.surject_arena.specs.declared.members.Counted.{Counted}
use Rattle.surject_arena.proofs.OptionLemmas.{same_some}
use Rattle.surject_arena.proofs.ViewLemmas.{with_entries, written-each}

module _ {Gen T : Type 0} where
  pub written_again : (i : ℕ) (x y : T) (es : List ((ℕ × Gen) × T)) → with_replacement i (valued y) (with_replacement i (valued x) es) ≡ with_replacement i (valued y) es
  written_again i x y [] = refl
  written_again i x y (e ∷ es) = ⊎_elim
      (λ is. ap (with_replacement i (valued y)) (writes_first i x e es is) ∙ (writes_first i y ((i, e.0.1), x) es refl ∙ sym (writes_first i y e es is)))
      (λ other. ap (with_replacement i (valued y)) (writes_later i x e es other) ∙ (writes_later i y e (with_replacement i (valued x) es) other ∙ (ap (λ rest. e ∷ rest) (written_again i x y es) ∙ sym (writes_later i y e es other))))
      (cases_eq e.0.0 i)

  pub written_apart : (i j : ℕ) (x y : T) (es : List ((ℕ × Gen) × T)) → i ≢ j
      → with_replacement j (valued y) (with_replacement i (valued x) es) ≡ with_replacement i (valued x) (with_replacement j (valued y) es)
  written_apart i j x y [] apart = refl
  written_apart i j x y (e ∷ es) apart = ⊎_elim
      (λ is.
      let later : e.0.0 ≢ j = λ at. apart (sym is ∙ at) in
      ap (with_replacement j (valued y)) (writes_first i x e es is) ∙ (writes_later j y ((i, e.0.1), x) es apart
      ∙ sym (ap (with_replacement i (valued x)) (writes_later j y e es later) ∙ writes_first i x e (with_replacement j (valued y) es) is)))
      (λ other. ⊎_elim
      (λ at. ap (with_replacement j (valued y)) (writes_later i x e es other) ∙ (writes_first j y e (with_replacement i (valued x) es) at
      ∙ sym (ap (with_replacement i (valued x)) (writes_first j y e es at) ∙ writes_later i x ((j, e.0.1), y) es (λ same. apart (sym same)))))
      (λ differs. ap (with_replacement j (valued y)) (writes_later i x e es other) ∙ (writes_later j y e (with_replacement i (valued x) es) differs
      ∙ (ap (λ rest. e ∷ rest) (written_apart i j x y es apart)
      ∙ sym (ap (with_replacement i (valued x)) (writes_later j y e es differs) ∙ writes_later i x e (with_replacement j (valued y) es) other))))
      (cases_eq e.0.0 j))
      (cases_eq e.0.0 i)

  pub written_four : (s : ArenaView Gen T) (i j : ℕ) (a b c d : T) → i ≢ j → view_with_value (view_with_value (view_with_value (view_with_value s i a) j b) i c) j d ≡ view_with_value (view_with_value s i c) j d
  written_four s i j a b c d apart = ap (with_entries s) (
      ap (with_replacement j (valued d)) (sym (written_apart i j c b (with_replacement i (valued a) s.entries) apart) ∙ ap (with_replacement j (valued b)) (written_again i a c s.entries))
      ∙ written_again j b d (with_replacement i (valued c) s.entries))

module _ {B Gen V : Type 0} {view : B → ArenaView Gen (Counted V)} {entry : B → ℕ → Option (Gen × Counted V)} (state : (b : B) → ArenaState (view b) (entry b)) (b d : B) (v w : ℕ × Gen) (t u : V) (n m : ℕ) (apart : v.0 ≢ w.0)
    (first : entry b v.0 ≡ Some (v.1, counted t n)) (second : entry b w.0 ≡ Some (w.1, counted u m))
    (swapped : view d ≡ view_with_value (view_with_value (view b) v.0 (counted u n)) w.0 (counted t m)) where
  abbrev size_of : Option (Gen × Counted V) → Option (Gen × ℕ)
  size_of o = option_map (λ e. (e.0, e.1.size)) o

  abbrev once : List ((ℕ × Gen) × Counted V)
  once = with_replacement v.0 (valued (counted u n)) (view b).entries

  found_now : (j : ℕ) → entry d j ≡ found j (with_replacement w.0 (valued (counted t m)) once)
  found_now j = sym ((state d).finds j) ∙ ap (λ (s : ArenaView Gen (Counted V)). found j s.entries) swapped

  at_second : (j : ℕ) → j ≡ w.0 → size_in (entry d) j ≡ size_in (entry b) j
  at_second j is = subst (λ (x : ℕ). size_in (entry d) x ≡ size_in (entry b) x) (sym is) (ap size_of (
      found_now w.0 ∙ (found-written w.0 (counted t m) once
      ∙ ap (option_map (valued (counted t m))) (found-unwritten w.0 v.0 (counted u n) (view b).entries (λ same. apart (sym same)) ∙ ((state b).finds w.0 ∙ second))))
      ∙ sym (ap size_of second))

  at_first : (j : ℕ) → j ≡ v.0 → size_in (entry d) j ≡ size_in (entry b) j
  at_first j is = subst (λ (x : ℕ). size_in (entry d) x ≡ size_in (entry b) x) (sym is) (ap size_of (
      found_now v.0 ∙ (found-unwritten v.0 w.0 (counted t m) once apart
      ∙ (found-written v.0 (counted u n) (view b).entries ∙ ap (option_map (valued (counted u n))) ((state b).finds v.0 ∙ first))))
      ∙ sym (ap size_of first))

  pub swapped_sizes : (j : ℕ) → size_in (entry d) j ≡ size_in (entry b) j
  swapped_sizes j = ⊎_elim (at_second j)
      (λ other. ⊎_elim (at_first j)
      (λ differs. ap size_of (found_now j ∙ (found-unwritten j w.0 (counted t m) once other ∙ (found-unwritten j v.0 (counted u n) (view b).entries differs ∙ (state b).finds j))))
      (cases_eq j v.0))
      (cases_eq j w.0)

  pub swapped_view : map_view counted_view (view d) ≡ view_with_value (view_with_value (map_view counted_view (view b)) v.0 (u, n)) w.0 (t, m)
  swapped_view = ap (map_view counted_view) swapped ∙ (written-each counted_view (view_with_value (view b) v.0 (counted u n)) w.0 (counted t m)
      ∙ ap (λ (s : ArenaView Gen (V × ℕ)). view_with_value s w.0 (t, m)) (written-each counted_view (view b) v.0 (counted u n)))

module _ {B P Gen V : Type 0} {view : B → ArenaView Gen (Counted V)} {entry : B → ℕ → Option (Gen × Counted V)} (state : (b : B) → ArenaState (view b) (entry b)) (key : P → ℕ × Gen) (b mid both d : B) (p q : P) (t u : V) (n m : ℕ)
    (apart : (key p).0 ≢ (key q).0) (first : entry b (key p).0 ≡ Some ((key p).1, counted t n)) (second : entry b (key q).0 ≡ Some ((key q).1, counted u m))
    (one : view mid ≡ view_with_value (view b) (key p).0 (counted t m)) where
  pub second_kept : entry mid (key q).0 ≡ Some ((key q).1, counted u m)
  second_kept = values_elsewhere state b mid (key p).0 (counted t m) one (key q).0 (λ same. apart (sym same)) ∙ second

  module _ (two : view both ≡ view_with_value (view mid) (key q).0 (counted u n)) where
    there : entry both (key p).0 ≡ Some ((key p).1, counted t m)
    there = values_elsewhere state mid both (key q).0 (counted u n) two (key p).0 apart ∙ (value_there state b mid (key p).0 (counted t m) one ∙ ap (option_map (valued (counted t m))) first)

    also_there : entry both (key q).0 ≡ Some ((key q).1, counted u n)
    also_there = value_there state mid both (key q).0 (counted u n) two ∙ ap (option_map (valued (counted u n))) second_kept

    pub swapped_back : (result : Option (Unit {0})) → SwapsValues state key both p q result d → view d ≡ view_with_value (view_with_value (view b) (key p).0 (counted u n)) (key q).0 (counted t m)
    swapped_back None is = absurd (is (record { value = counted t m; stored = there }) (record { value = counted u n; stored = also_there }))
    swapped_back (Some done) is =
        let x : is.0 ≡ counted t m = ap (λ e. e.1) (same_some ((key p).1, is.0) ((key p).1, counted t m) (sym is.2 ∙ there)) in
        let y : is.1 ≡ counted u n = ap (λ e. e.1) (same_some ((key q).1, is.1) ((key q).1, counted u n) (sym is.3 ∙ also_there)) in
        is.4 ∙ (ap (λ c. view_with_value (view_with_value (view both) (key p).0 c) (key q).0 is.0) y ∙ (ap (λ c. view_with_value (view_with_value (view both) (key p).0 (counted u n)) (key q).0 c) x
        ∙ (ap (λ s. view_with_value (view_with_value s (key p).0 (counted u n)) (key q).0 (counted t m)) (two ∙ ap (λ s. view_with_value s (key q).0 (counted u n)) one)
        ∙ written_four (view b) (key p).0 (key q).0 (counted t m) (counted u n) (counted u n) (counted t m) apart)))

pub values_apart : {Gen V : Type 0} (entry : ℕ → Option (Gen × Counted V)) (v w : ℕ × Gen) (t u : V) (n m : ℕ) → entry v.0 ≡ Some (v.1, counted t n) → entry w.0 ≡ Some (w.1, counted u m) → v ≢ w → v.0 ≢ w.0
values_apart entry v w t u n m first second differ same =
    let generation : v.1 ≡ w.1 = ap (λ e. e.0) (same_some (v.1, counted t n) (w.1, counted u m) (sym first ∙ (ap entry same ∙ second))) in
    differ (λ i. (same i, generation i))
