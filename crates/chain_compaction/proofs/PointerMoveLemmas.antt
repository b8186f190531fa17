-- Moves by position are moves by pointer.
use Rattle.std.proofs.Common.{◌≡◌, ℕ, zero, suc, ◌+◌, ◌≤◌, Bool, true, false, cond, List, [], ◌∷◌, length, map, Option, None, Some, inl, inr, refl, sym, ap, ap₂, ◌∙◌, subst, arith}
use Rattle.std.specs.Prelude.{is_some, Contains, ◌==◌}
use Rattle.std.specs.Option.{option_map}
use Rattle.std.specs.List.{AllByRecursion, range_with_len}
use Rattle.std.proofs.lemmas.Bool.{eqb-true, eq-eqb, ne_eqb}
use Rattle.std.proofs.lemmas.List.{length-map}
use Rattle.std.proofs.lemmas.List.FromFn.{length-range_with_len}
use mathlib.Core.Path.{fun_ext}
use Rattle.std.proofs.lemmas.List.Elements.{All-from_recursion, recursion_from_All, Contains-append_right}
use Rattle.chain_laws.specs.Chains as chains
use Rattle.chain_laws.specs.Chains.{LinkMap, Interlinks, IsMember, AreDistinct, all_items}
use Rattle.chain_laws.specs.Arrangements.{IsLeastIndexOrder}
use Rattle.chain_laws.proofs.ChainLemmas.Partitions.{no_others}
use Rattle.arena_traits.specs.Arena.{IsValid}
use Rattle.arena_traits.specs.Entries.{found, index_of, AscendsFrom}
use Rattle.arena_traits.specs.Compressions.{values_in}
use Rattle.chain_links.specs.ChainArena.{ptr_at}
use Rattle.chain_links.proofs.MappedArenaLemmas.{generation_is}
use Rattle.chain_compaction.specs.Layouts.{AreAllMoves}
use Rattle.chain_compaction.specs.PointerMoves.{AreMoved, IsPointerMove, HasLinksWhere, CompressionMovesPointers, CompressionHasMoves}

module _ {Gen T : Type 0} where
  run-ascends : (n count : ℕ) (es : List ((ℕ × Gen) × T)) → map index_of es ≡ range_with_len n count → AscendsFrom n es
  run-ascends n count [] is = tt
  run-ascends n zero (e ∷ es) is = absurd (cc)
  run-ascends n (suc count) (e ∷ es) is =
      let first : e.0.0 ≡ n = cc in
      let rest : map index_of es ≡ range_with_len (n + 1) count = cc in
      (omega arith, subst (λ i. AscendsFrom i es) (omega arith) (run-ascends (n + 1) count es rest))

  pub each_found : (i : ℕ) (es : List ((ℕ × Gen) × T)) (entry : ℕ → Option (Gen × T)) → AscendsFrom i es → ((j : ℕ) → i ≤ j → entry j ≡ found j es)
      → AllByRecursion (λ (e : (ℕ × Gen) × T). entry e.0.0 ≡ Some (e.0.1, e.1)) es
  each_found i [] entry ascends was_read = tt
  each_found i (e ∷ es) entry ascends was_read = (
    was_read e.0.0 ascends.0 ∙ ap (λ b. cond b (Some (e.0.1, e.1)) (found e.0.0 es)) (eq-eqb e.0.0 e.0.0 refl),
    each_found (suc e.0.0) es entry ascends.1 (λ j below. was_read j (omega (arith, below, ascends.0)) ∙ ap (λ b. cond b (Some (e.0.1, e.1)) (found j es)) (ne_eqb e.0.0 j (λ is. omega (arith, below, is)))),
  )

  found_key : (q : ℕ × Gen) (t : T) (es : List ((ℕ × Gen) × T)) → found q.0 es ≡ Some (q.1, t) → Contains (map (λ (e : (ℕ × Gen) × T). e.0) es) q
  found_key q t [] is = absurd (cc)
  found_key q t (e ∷ es) is = by (e.0.0 == q.0) refl is (found_key q t es) where
    by : (b : Bool) → (e.0.0 == q.0) ≡ b → cond b (Some (e.0.1, e.1)) (found q.0 es) ≡ Some (q.1, t) → (found q.0 es ≡ Some (q.1, t) → Contains (map (λ (f : (ℕ × Gen) × T). f.0) es) q)
        → Contains (map (λ (f : (ℕ × Gen) × T). f.0) (e ∷ es)) q
    by true same is rest =
        let index : e.0.0 ≡ q.0 = eqb-true e.0.0 q.0 same in
        (0, omega arith, λ i. (index i, generation_is e.0.1 q.1 e.1 t is i))
    by false other is rest = Contains-append_right (e.0 ∷ []) (map (λ (f : (ℕ × Gen) × T). f.0) es) q (rest is)

  ascends-low : (i j : ℕ) (es : List ((ℕ × Gen) × T)) → AscendsFrom j es → IsMember (map index_of es) i → j ≤ i
  ascends-low i j [] ascends has = absurd has
  ascends-low i j (e ∷ es) ascends (inl same) = omega (arith, ascends.0, same)
  ascends-low i j (e ∷ es) ascends (inr has) = omega (arith, ascends.0, ascends-low i (suc e.0.0) es ascends.1 has)

  ascends-apart : (j : ℕ) (es : List ((ℕ × Gen) × T)) → AscendsFrom j es → AreDistinct (map index_of es)
  ascends-apart j [] ascends = tt
  ascends-apart j (e ∷ es) ascends = ((λ has. omega (arith, ascends-low e.0.0 (suc e.0.0) es ascends.1 has)), ascends-apart (suc e.0.0) es ascends.1)

  keys-run : (g : Gen) (indexes : List ℕ) (es : List ((ℕ × Gen) × T)) → map index_of es ≡ indexes → AllByRecursion (λ (e : (ℕ × Gen) × T). e.0.1 ≡ g) es → map (λ (e : (ℕ × Gen) × T). e.0) es ≡ map (λ k. (k, g)) indexes
  keys-run g indexes [] is all = ap (map (λ k. (k, g))) is
  keys-run g [] (e ∷ es) is all = absurd (cc)
  keys-run g (k ∷ indexes) (e ∷ es) is all =
      let index : e.0.0 ≡ k = cc in
      let rest : map index_of es ≡ indexes = cc in
      ap₂ (λ (p : ℕ × Gen) (ps : List (ℕ × Gen)). p ∷ ps) (λ i. (index i, all.0 i)) (keys-run g indexes es rest all.1)

module _ {X G Gen U T : Type 0} (from : X → ℕ × G) (to : X → ℕ × Gen) (Becomes : X → U → T → Type 0) (before : ℕ → Option (G × U)) (after : ℕ → Option (Gen × T)) where
  abbrev Moves : X → Type 0
  Moves m = (was : IsValid before (from m)) × (is : IsValid after (to m)) × Becomes m was.value is.value

  old_has : (p : ℕ × G) (u : U) (moves : List X) → before p.0 ≡ Some (p.1, u) → AllByRecursion Moves moves → IsMember (map (λ (m : X). (from m).0) moves) p.0 → Contains (map from moves) p
  old_has p u [] stored all has = absurd has
  old_has p u (m ∷ moves) stored all (inl same) =
      (0, omega arith, λ i. (same i, generation_is (from m).1 p.1 all.0.0.value u (sym all.0.0.stored ∙ (ap before same ∙ stored)) i))
  old_has p u (m ∷ moves) stored all (inr has) = Contains-append_right (from m ∷ []) (map from moves) p (old_has p u moves stored all.1 has)

  indexes-mapped : (moves : List X) (es : List ((ℕ × Gen) × T)) → map to moves ≡ map (λ (e : (ℕ × Gen) × T). e.0) es → map (λ (m : X). (to m).0) moves ≡ map index_of es
  indexes-mapped [] [] is = refl
  indexes-mapped [] (e ∷ es) is = absurd (cc)
  indexes-mapped (m ∷ moves) [] is = absurd (cc)
  indexes-mapped (m ∷ moves) (e ∷ es) is =
      let first : to m ≡ e.0 = cc in
      let rest : map to moves ≡ map (λ (f : (ℕ × Gen) × T). f.0) es = cc in
      ap₂ (λ (n : ℕ) (ns : List ℕ). n ∷ ns) (ap (λ (q : ℕ × Gen). q.0) first) (indexes-mapped moves es rest)

  pub all_moved : (links : LinkMap) (indexes : List ℕ) (es : List ((ℕ × Gen) × T)) (moves : List X) → IsLeastIndexOrder links indexes → HasLinksWhere links before → AscendsFrom 1 es → ((i : ℕ) → found i es ≡ after i)
      → map (λ (m : X). (from m).0) moves ≡ indexes → map to moves ≡ map (λ (e : (ℕ × Gen) × T). e.0) es → AllByRecursion Moves moves → AreMoved from to Becomes before after moves
  all_moved links indexes es moves order are_stored ascends was_read arrives target values = record {
    values = All-from_recursion Moves moves values;
    old = λ p was. old_has p was.value moves was.stored values (subst (λ (is : List ℕ). IsMember is p.0) (sym (arrives ∙ order.items)) ((order.are.partition.valid p.0).0 (has_links p was)));
    old_apart = subst AreDistinct (sym (arrives ∙ order.items)) order.are.partition.once;
    new = λ q is. subst (λ (qs : List (ℕ × Gen)). Contains qs q) (sym target) (found_key q is.value es (was_read q.0 ∙ is.stored));
    new_apart = subst AreDistinct (sym (indexes-mapped moves es target)) (ascends-apart 1 es ascends);
  }
    where
      has_links : (p : ℕ × G) → IsValid before p → chains.HasLink links p.0
      has_links p was = by (links p.0) refl (are_stored p.0 ∙ ap is_some was.stored) where
        by : (o : Option Interlinks) → links p.0 ≡ o → is_some (links p.0) ≡ true → chains.HasLink links p.0
        by None is some = absurd (let none = ap is_some is in let both = sym some ∙ none in cc)
        by (Some link) is some = record { link = link; links = is }

module _ {P Gen T : Type 0} (key : P → ℕ × Gen) (before after : ℕ → Option (Gen × T)) where
  index_there : (p : ℕ × Gen) (i : ℕ) (o : Option (Gen × T)) → Some p ≡ option_map (λ (e : Gen × T). (i, e.0)) o → p.0 ≡ i
  index_there p i None is = absurd (cc)
  index_there p i (Some e) is = let same : p ≡ (i, e.0) = cc in ap (λ (q : ℕ × Gen). q.0) same

  indexes-from : (moves : List (P × P)) (indexes : List ℕ) → map (λ (m : P × P). Some (key m.0)) moves ≡ map (ptr_at before) indexes → map (λ (m : P × P). (key m.0).0) moves ≡ indexes
  indexes-from [] [] is = refl
  indexes-from [] (i ∷ indexes) is = absurd (cc)
  indexes-from (m ∷ moves) [] is = absurd (cc)
  indexes-from (m ∷ moves) (i ∷ indexes) is =
      let first : Some (key m.0) ≡ ptr_at before i = cc in
      let rest : map (λ (m : P × P). Some (key m.0)) moves ≡ map (ptr_at before) indexes = cc in
      ap₂ (λ (n : ℕ) (ns : List ℕ). n ∷ ns) (index_there (key m.0) i (before i) first) (indexes-from moves indexes rest)

  one_keeps : (m : P × P) (i : ℕ) (e : (ℕ × Gen) × T) → Some (key m.0) ≡ ptr_at before i → key m.1 ≡ e.0 → Some e.1 ≡ option_map (λ (e : Gen × T). e.1) (before i) → after e.0.0 ≡ Some (e.0.1, e.1) → IsPointerMove key before after m
  one_keeps m i e arrives target value stored = by (before i) refl arrives value where
    by : (o : Option (Gen × T)) → before i ≡ o → Some (key m.0) ≡ option_map (λ (e : Gen × T). (i, e.0)) o → Some e.1 ≡ option_map (λ (e : Gen × T). e.1) o → IsPointerMove key before after m
    by None is arrives value = absurd (cc)
    by (Some b) is arrives value =
        let same : key m.0 ≡ (i, b.0) = cc in
        let kept : e.1 ≡ b.1 = cc in (
          record { value = e.1; stored = ap (λ (p : ℕ × Gen). before p.0) same ∙ (is ∙ sym (λ j. Some ((same j).1, kept j))) },
          record { value = e.1; stored = ap (λ (q : ℕ × Gen). after q.0) target ∙ (stored ∙ sym (ap (λ (q : ℕ × Gen). Some (q.1, e.1)) target)) },
          refl,
        )

  each_keeps : (moves : List (P × P)) (indexes : List ℕ) (es : List ((ℕ × Gen) × T)) → map (λ (m : P × P). Some (key m.0)) moves ≡ map (ptr_at before) indexes → map (λ (m : P × P). key m.1) moves ≡ map (λ (e : (ℕ × Gen) × T). e.0) es
      → map (λ t. Some t) (map (λ (e : (ℕ × Gen) × T). e.1) es) ≡ map (λ i. option_map (λ (e : Gen × T). e.1) (before i)) indexes → AllByRecursion (λ (e : (ℕ × Gen) × T). after e.0.0 ≡ Some (e.0.1, e.1)) es → AllByRecursion (IsPointerMove key before after) moves
  each_keeps [] indexes es arrives target values are_stored = tt
  each_keeps (m ∷ moves) [] es arrives target values are_stored = absurd (cc)
  each_keeps (m ∷ moves) (i ∷ indexes) [] arrives target values are_stored = absurd (cc)
  each_keeps (m ∷ moves) (i ∷ indexes) (e ∷ es) arrives target values are_stored =
      let originals : Some (key m.0) ≡ ptr_at before i = cc in
      let originals_rest : map (λ (m : P × P). Some (key m.0)) moves ≡ map (ptr_at before) indexes = cc in
      let sources : key m.1 ≡ e.0 = cc in
      let sources_rest : map (λ (m : P × P). key m.1) moves ≡ map (λ (e : (ℕ × Gen) × T). e.0) es = cc in
      let value : Some e.1 ≡ option_map (λ (e : Gen × T). e.1) (before i) = cc in
      let value_rest : map (λ t. Some t) (map (λ (e : (ℕ × Gen) × T). e.1) es) ≡ map (λ i. option_map (λ (e : Gen × T). e.1) (before i)) indexes = cc in
      (one_keeps m i e originals sources value are_stored.0, each_keeps moves indexes es originals_rest sources_rest value_rest are_stored.1)

pub compression_moves_pointers : {P Gen T : Type 0} (key : P → ℕ × Gen) (first : Gen) (following : Gen → Gen) → CompressionMovesPointers T key first following
compression_moves_pointers {P} {Gen} {T} key first following reset old new links new_links before after moves read_before read_after are_stored layout all =
    all_moved (λ (m : P × P). key m.0) (λ (m : P × P). key m.1) (λ m t u. t ≡ u) before after links all.indexes new.entries moves all.order are_stored ascends read_after (indexes-from key before after moves all.indexes arrives) target
    (each_keeps key before after moves all.indexes new.entries arrives target (layout.values ∙ (λ j. map (λ i. option_map (λ (e : Gen × T). e.1) (entry_found j i)) (sym same_order j)))
    (each_found 1 new.entries after ascends (λ j below. sym (read_after j))))
  where
    entry_found : (λ i. found i old.entries) ≡ before
    entry_found = fun_ext read_before

    same_order : all.indexes ≡ layout.indexes
    same_order = all.order.items ∙ (ap all_items (no_others links all.order.chains layout.order.chains all.order.are layout.order.are) ∙ sym layout.order.items)

    arrives : map (λ (m : P × P). Some (key m.0)) moves ≡ map (ptr_at before) all.indexes
    arrives = all.from ∙ ap (λ (entry : ℕ → Option (Gen × T)). map (ptr_at entry) all.indexes) entry_found

    ascends : AscendsFrom 1 new.entries
    ascends = run-ascends 1 (length old.entries) new.entries layout.new_indexes

    long : length all.indexes ≡ length old.entries
    long =
        ap length same_order
        ∙ (sym (length-map layout.indexes (λ i. option_map (λ (e : Gen × T). e.1) (found i old.entries))) ∙ (sym (ap length layout.values) ∙ (length-map (values_in new.entries) (λ t. Some t)
        ∙ (length-map new.entries (λ e. e.1) ∙ (sym (length-map new.entries index_of) ∙ (ap length layout.new_indexes ∙ length-range_with_len 1 (length old.entries)))))))

    target : map (λ (m : P × P). key m.1) moves ≡ map (λ (e : (ℕ × Gen) × T). e.0) new.entries
    target =
        all.to
        ∙ (ap (λ n. map (λ k. (k, layout.generation)) (range_with_len 1 n)) long
        ∙ sym (keys-run layout.generation (range_with_len 1 (length old.entries)) new.entries layout.new_indexes (recursion_from_All _ new.entries layout.generations)))

module _ {Gen T : Type 0} (entry : ℕ → Option (Gen × T)) where
  what_stored : (o : Option (Gen × T)) → is_some o ≡ true → (e : Gen × T) × (o ≡ Some e)
  what_stored None some = absurd (let h = some in cc)
  what_stored (Some e) some = (e, refl)

  pairs_of : (g : Gen) (n : ℕ) (indexes : List ℕ) → ((i : ℕ) → IsMember indexes i → is_some (entry i) ≡ true)
      → (moves : List ((ℕ × Gen) × (ℕ × Gen))) × (map (λ (m : (ℕ × Gen) × (ℕ × Gen)). Some m.0) moves ≡ map (ptr_at entry) indexes)
      × (map (λ (m : (ℕ × Gen) × (ℕ × Gen)). m.1) moves ≡ map (λ k. (k, g)) (range_with_len n (length indexes)))
  pairs_of g n [] there = ([], refl, refl)
  pairs_of g n (i ∷ indexes) there =
      let rest = pairs_of g (n + 1) indexes (λ j has. there j (inr has)) in
      let here = what_stored (entry i) (there i (inl refl)) in (
        ((i, here.0.0), (n, g)) ∷ rest.0,
        ap₂ (λ (p : Option (ℕ × Gen)) (ps : List (Option (ℕ × Gen))). p ∷ ps) (sym (ap (option_map (λ (e : Gen × T). (i, e.0))) here.1)) rest.1,
        ap (λ (ps : List (ℕ × Gen)). (n, g) ∷ ps) rest.2,
      )

pub compression_has_moves : {Gen T : Type 0} (first : Gen) (following : Gen → Gen) → CompressionHasMoves T first following
compression_has_moves {Gen} {T} first following reset old new links new_links before after read_before read_after are_stored layout =
    (pairs.0, all, compression_moves_pointers (λ (p : ℕ × Gen). p) first following reset old new links new_links before after pairs.0 read_before read_after are_stored layout all)
  where
    pairs : (moves : List ((ℕ × Gen) × (ℕ × Gen))) × (map (λ (m : (ℕ × Gen) × (ℕ × Gen)). Some m.0) moves ≡ map (ptr_at (λ i. found i old.entries)) layout.indexes)
        × (map (λ (m : (ℕ × Gen) × (ℕ × Gen)). m.1) moves ≡ map (λ k. (k, layout.generation)) (range_with_len 1 (length layout.indexes)))
    pairs =
        pairs_of (λ i. found i old.entries) layout.generation 1 layout.indexes
        (λ i has. ap is_some (read_before i) ∙ (sym (are_stored i) ∙ ap is_some ((layout.order.are.partition.valid i).1 (subst (λ (is : List ℕ). IsMember is i) layout.order.items has)).links))

    all : AreAllMoves (λ (p : ℕ × Gen). p) old links layout.generation pairs.0
    all = record { indexes = layout.indexes; order = layout.order; from = pairs.1; to = pairs.2 }
