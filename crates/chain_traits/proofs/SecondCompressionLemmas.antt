-- A second canonical compression leaves each link at its index.
use Rattle.std.proofs.Common.{◌≡◌, ℕ, zero, suc, ◌+◌, ◌<◌, List, [], ◌∷◌, length, map, Option, Some, refl, sym, ap, ◌∙◌, subst, arith}
use Rattle.std.specs.Prelude.{Bool, true, false, cond, ◌==◌}
use Rattle.std.specs.Option.{option_map}
use Rattle.std.specs.List.{range_with_len}
use Rattle.std.proofs.lemmas.List.{length-map}
use Rattle.std.proofs.lemmas.List.FromFn.{length-range_with_len}
use Rattle.std.proofs.lemmas.Bool.{eqb-true, eq-eqb}
use Rattle.chain_laws.specs.Chains.{LinkMap, Chain, linear, cyclic, all_items, AreChains}
use Rattle.chain_laws.specs.Renamings.{IsRenaming}
use Rattle.chain_laws.specs.Arrangements.{place_in, in_runs, IsLeastIndexOrder}
use Rattle.chain_laws.proofs.RenamingLemmas.Chains.{renaming_is_determined}
use Rattle.chain_laws.proofs.RenamingLemmas.LeastIndexOrder.{layout_is_idempotent}
use Rattle.chain_laws.proofs.ChainLemmas.Partitions.{no_others}
use Rattle.chain_laws.proofs.RenamingLemmas.ChainRuns.{items_in_runs, runs_are_renumbered}
use Rattle.arena_traits.specs.Entries.{found, index_of}
use Rattle.arena_traits.specs.Compressions.{values_in}
use Rattle.chain_traits.specs.CompressionLaws.{SecondCompressionMovesNothing}

runs_in_runs : (k : ℕ) (chains : List Chain) → in_runs k (in_runs k chains) ≡ in_runs k chains
runs_in_runs k [] = refl
runs_in_runs k (linear xs ∷ chains) =
    rw (length-range_with_len k (length xs)) (ap (λ cs. linear (range_with_len k (length xs)) ∷ cs) (runs_in_runs (k + length xs) chains))
runs_in_runs k (cyclic xs ∷ chains) =
    rw (length-range_with_len k (length xs)) (ap (λ cs. cyclic (range_with_len k (length xs)) ∷ cs) (runs_in_runs (k + length xs) chains))

renamed_to_itself : (link_map : LinkMap) (chains : List Chain) → AreChains link_map (in_runs 1 chains) → IsRenaming (place_in (range_with_len 1 (length (all_items chains)))) link_map link_map
renamed_to_itself link_map chains are =
    subst (λ (is : List ℕ). IsRenaming (place_in is) link_map link_map) (items_in_runs 1 chains)
    (runs_are_renumbered link_map link_map (in_runs 1 chains) are (subst (AreChains link_map) (sym (runs_in_runs 1 chains)) are))

one_order : (link_map : LinkMap) (indexes others : List ℕ) → IsLeastIndexOrder link_map indexes → IsLeastIndexOrder link_map others → indexes ≡ others
one_order link_map indexes others is also =
    is.items ∙ (ap all_items (no_others link_map is.chains also.chains is.are also.are) ∙ sym also.items)

some_equal : {X : Type 0} (xs ys : List X) → map (λ (x : X). Some x) xs ≡ map (λ (x : X). Some x) ys → xs ≡ ys
some_equal [] [] is = refl
some_equal [] (y ∷ ys) is = absurd (cc)
some_equal (x ∷ xs) [] is = absurd (cc)
some_equal (x ∷ xs) (y ∷ ys) is =
    let head : x ≡ y = cc in
    let tail : map (λ (x : _). Some x) xs ≡ map (λ (x : _). Some x) ys = cc in
    let rest = some_equal xs ys tail in cc

module _ {Gen T : Type 0} where
  abbrev value_found : List ((ℕ × Gen) × T) → ℕ → Option T
  value_found es i = option_map (λ (e : Gen × T). e.1) (found i es)

  others_found : (e : (ℕ × Gen) × T) (es : List ((ℕ × Gen) × T)) (k n : ℕ) → e.0.0 < k → map (value_found (e ∷ es)) (range_with_len k n) ≡ map (value_found es) (range_with_len k n)
  others_found e es k zero below = refl
  others_found e es k (suc n) below = by (e.0.0 == k) refl (others_found e es (k + 1) n (omega (arith, below))) where
    by : (b : Bool) → (e.0.0 == k) ≡ b → map (value_found (e ∷ es)) (range_with_len (k + 1) n) ≡ map (value_found es) (range_with_len (k + 1) n)
        → map (value_found (e ∷ es)) (range_with_len k (suc n)) ≡ map (value_found es) (range_with_len k (suc n))
    by true same rest = absurd (let is = eqb-true e.0.0 k same in let no : ⊥ = omega (arith, is, below) in no)
    by false other rest =
        let first : value_found (e ∷ es) k ≡ value_found es k = ap (λ (b : Bool). option_map (λ (e : Gen × T). e.1) (cond b (Some (e.0.1, e.1)) (found k es))) other in cc

  values_found : (k : ℕ) (es : List ((ℕ × Gen) × T)) → map index_of es ≡ range_with_len k (length es)
      → map (value_found es) (range_with_len k (length es)) ≡ map (λ (t : T). Some t) (values_in es)
  values_found k [] are = refl
  values_found k (e ∷ es) are =
      let first : e.0.0 ≡ k = cc in
      let rest : map index_of es ≡ range_with_len (k + 1) (length es) = cc in
      let head : value_found (e ∷ es) k ≡ Some e.1 = ap (λ (b : Bool). option_map (λ (e : Gen × T). e.1) (cond b (Some (e.0.1, e.1)) (found k es))) (eq-eqb e.0.0 k first) in
      let tail = others_found e es (k + 1) (length es) (omega (arith, first)) ∙ values_found (k + 1) es rest in
      cc

pub moves_nothing : {Gen T : Type 0} → SecondCompressionMovesNothing Gen T
moves_nothing first following reset again old mid new old_links mid_links new_links once twice =
    let rests = layout_is_idempotent old_links mid_links once.indexes once.order once.renamed in
    let same : twice.indexes ≡ range_with_len 1 (length once.indexes) = one_order mid_links twice.indexes _ twice.order rests in
    let count : length mid.entries ≡ length old.entries = sym (length-map mid.entries index_of) ∙ (ap length once.new_indexes ∙ length-range_with_len 1 (length old.entries)) in
    let many : length once.indexes ≡ length mid.entries =
    sym (length-map once.indexes _) ∙ (sym (ap length once.values) ∙ (length-map (values_in mid.entries) _ ∙ length-map mid.entries _)) in
    let itself : IsRenaming (place_in twice.indexes) mid_links mid_links =
    subst (λ (is : List ℕ). IsRenaming (place_in is) mid_links mid_links) (sym (same ∙ ap (λ (is : List ℕ). range_with_len 1 (length is)) once.order.items)) (renamed_to_itself mid_links once.order.chains once.new_chains) in
    record {
      indexes = twice.new_indexes ∙ (ap (range_with_len 1) count ∙ sym once.new_indexes);
      values = some_equal _ _ (twice.values ∙ (ap (map (value_found mid.entries)) (same ∙ ap (range_with_len 1) many) ∙ values_found 1 mid.entries (once.new_indexes ∙ ap (range_with_len 1) (sym count))));
      links = renaming_is_determined (place_in twice.indexes) mid_links new_links mid_links twice.renamed itself;
    }
