-- What a visitor saw, as calls of a closure and as a list.
use Rattle.std.proofs.Common.{◌≡◌, ℕ, ◌+◌, ◌<◌, ◌≤◌, Bool, true, false, List, [], ◌∷◌, ◌++◌, if◌then◌else◌, Vec, vec_len, vec_capacity, length, Some, sym, ap, ◌∙◌, subst, arith, append-nil, append_assoc}
use Rattle.std.specs.List.{FoldsTo}
use Rattle.std.specs.Fn.{Mut, Called}
use Rattle.std.specs.Option.{option_map}
use Rattle.std.proofs.lemmas.List.{length-map}
use Rattle.std.proofs.lemmas.List.FromFn.{length-range_with_len}
use Rattle.chain_laws.specs.Chains.{LinkMap, all_items}
use Rattle.chain_laws.proofs.ChainLemmas.Partitions.{no_others}
use Rattle.arena_traits.specs.Entries.{ArenaView, found, index_of}
use Rattle.arena_traits.specs.Compressions.{values_in}
use Rattle.arena_base.proofs.FoldLemmas.{folds_viewed}
use Rattle.chain_links.specs.ChainArena.{ptr_at}
use Rattle.chain_compaction.specs.Layouts.{IsPairListed, ReportsAll, ReportsLayout, AreAllMoves, IsReportedMove}
use Rattle.chain_links.specs.CanonicalLayouts.{IsCanonicalLayout}

module _ {P A : Type 0} where
  pub listed_by_push : (old new : Vec (P × P) A) (p q : P) (ok : Bool) → (vec_len old < vec_capacity old → ok ≡ true)
      → new.items ≡ (if ok then old.items ++ (p, q) ∷ [] else old.items) → vec_len new ≡ (if ok then vec_len old + 1 else vec_len old) → vec_capacity old ≤ vec_capacity new → IsPairListed old p q new
  listed_by_push old new p q true done items long fits = record { listed = λ less. (items, long, fits) }
  listed_by_push old new p q false done items long fits = record { listed = λ less. absurd (let no = done less in cc) }

  pub all_listed : {V : Type 0} (list : V → Vec (P × P) A) (moves : List (P × P)) (old new : V) → vec_len (list old) + length moves ≤ vec_capacity (list old)
      → FoldsTo (λ s (m : P × P) t. IsPairListed (list s) m.0 m.1 (list t)) old moves new → (list new).items ≡ (list old).items ++ moves
  all_listed list [] old new fits folds = ap (λ v. (list v).items) (sym folds) ∙ sym (append-nil (list old).items)
  all_listed list (m ∷ moves) old new fits folds =
      let one = folds.1.listed (omega arith) in
      let long : vec_len (list folds.0) ≡ vec_len (list old) + 1 = one.1 in
      let more : vec_capacity (list old) ≤ vec_capacity (list folds.0) = one.2 in
      all_listed list moves folds.0 new (omega arith) folds.2 ∙ (ap (λ (xs : List (P × P)). xs ++ moves) one.0 ∙ append_assoc (list old).items (m ∷ []) moves)

module _ {P Gen T : Type 0} (key : P → ℕ × Gen) (first : Gen) (following : Gen → Gen) where
  pub moves_count : (reset : Bool) (old new : ArenaView Gen T) (links new_links : LinkMap) (generation : Gen) (moves : List (P × P)) → IsCanonicalLayout first following reset old links new new_links
      → AreAllMoves key old links generation moves → length moves ≡ length old.entries
  moves_count reset old new links new_links generation moves layout all =
      sym (length-map moves (λ (m : P × P). Some (key m.0)))
      ∙ (ap length all.from ∙ (length-map all.indexes (ptr_at (λ i. found i old.entries)) ∙ (ap length same_order
      ∙ (sym (length-map layout.indexes (λ i. option_map (λ (e : Gen × T). e.1) (found i old.entries))) ∙ (sym (ap length layout.values) ∙ (length-map (values_in new.entries) (λ t. Some t)
      ∙ (length-map new.entries (λ e. e.1) ∙ (sym (length-map new.entries index_of) ∙ (ap length layout.new_indexes ∙ length-range_with_len 1 (length old.entries))))))))))
    where
      same_order : all.indexes ≡ layout.indexes
      same_order = all.order.items ∙ (ap all_items (no_others links all.order.chains layout.order.chains all.order.are layout.order.are) ∙ sym layout.order.items)

module _ {V P Gen T : Type 0} (key : P → ℕ × Gen) (old : ArenaView Gen T) (links : LinkMap) (generation : Gen) (f last : V) where
  moves_visited : {g : V → P → P → V → Type 0} (all : ReportsAll g key old links generation f last) → AreAllMoves key old links generation all.reports.moves
  moves_visited all = record { indexes = all.indexes; order = all.order; from = all.reports.from; to = all.reports.to }

  pub reported_to : {F : Type 0} (g : Mut F (P × (P × Unit {0})) (Unit {0})) (see : V → F) → ReportsAll (λ s p q t. Called g (see s) (p, (q, tt)) tt (see t)) key old links generation f last
      → ReportsLayout g key old links generation (see f)
  reported_to g see all = record {
    moves = all.reports.moves;
    last = see last;
    in_turn = folds_viewed see (λ s (m : P × P) t. IsReportedMove g (see s) m (see t)) (IsReportedMove g) (λ s m t called. called) all.reports.moves f last all.reports.in_turn;
    all = moves_visited all;
  }

  pub listed_all : {A : Type 0} (list : V → Vec (P × P) A) (first : Gen) (following : Gen → Gen) (reset : Bool) (new : ArenaView Gen T) (new_links : LinkMap) → IsCanonicalLayout first following reset old links new new_links
      → ReportsAll (λ s p q t. IsPairListed (list s) p q (list t)) key old links generation f last → (list f).items ≡ [] → vec_len (list f) ≡ 0 → length old.entries ≤ vec_capacity (list f)
      → AreAllMoves key old links generation (list last).items
  listed_all list first following reset new new_links layout all none empty fits =
      let as_many = moves_count key first following reset old new links new_links generation all.reports.moves layout (moves_visited all) in
      subst (AreAllMoves key old links generation) (sym (all_listed list all.reports.moves f last (omega (arith, empty, fits, as_many)) all.reports.in_turn ∙ ap (λ (xs : List (P × P)). xs ++ all.reports.moves) none)) (moves_visited all)
