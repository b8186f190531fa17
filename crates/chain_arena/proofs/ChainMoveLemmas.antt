-- The moved and the remaining part of a chain that is moved.
use Rattle.std.proofs.Common.{◌≡◌, ◌≢◌, ℕ, Bool, true, false, List, [], ◌∷◌, ◌++◌, reverse, map, Option, None, Some, inl, inr, refl, sym, ap, ◌∙◌, subst, append_assoc, append-nil}
use Rattle.std.specs.Prelude.{IsTrue, ◌↔◌}
use Rattle.std.proofs.lemmas.List.{reverse-append}
use Rattle.chain_laws.specs.Chains.{LinkMap, linear, cyclic, IsMember, AreDistinct, AreLinked, IsChain, HasLink, first_or, last_or, next_in, next_of}
use Rattle.chain_laws.specs.Removals.{with_removal}
use Rattle.chain_laws.specs.Insertions.{with_insertion, IsInsertPosition}
use Rattle.chain_laws.specs.Walks.{IsWalk, of_linear, of_cyclic}
use Rattle.chain_laws.proofs.ListLemmas.Members.{last_apart, last_or-append, IsMember-middle, IsMember-filled, AreDistinct-right}
use Rattle.chain_laws.proofs.InterlinkLemmas.Inverses.{one_some}
use Rattle.chain_laws.proofs.ChainLemmas.LinkedLists.{reports_valid, reports_next, reports_prev, AreLinked-at, AreLinked-valid}
use Rattle.chain_laws.proofs.RemovalLemmas.Chains.{removed_from_linear, removed_first_of_cyclic}
use Rattle.chain_laws.proofs.InsertionLemmas.Pairs.{free_invalid}
use Rattle.chain_laws.proofs.InsertionLemmas.Chains.{inserted_between, inserted_cyclic, inserted_inserts}
use Rattle.chain_arena.specs.ChainTransfers.{IsChainMoved, linear_moved, cyclic_moved, link_before_moved, link_after_moved, with_moved_link}

-- The old and the new indexes of links.
abbrev pub old_indexes : List (ℕ × ℕ) → List ℕ
old_indexes moves = map (λ m. m.0) moves

abbrev pub moved_indexes : List (ℕ × ℕ) → List ℕ
moved_indexes moves = map (λ m. m.1) moves

-- These links are a linear chain, if there are any.
abbrev pub IsLinearOrEmpty : LinkMap → List ℕ → Type 0
IsLinearOrEmpty links ys = AreDistinct ys × AreLinked links None ys None

-- Links moved, by old and new index in walk order; their new indexes in the order of the chain; and
-- the links left. If true, all links from the first to the end are moved.
pub data IsPartlyMoved (old left new : LinkMap) : Bool → List (ℕ × ℕ) → List ℕ → List ℕ → Type 0 where
  ahead_linear : (before : List ℕ) (moves : List (ℕ × ℕ)) (x : ℕ) (after : List ℕ) → IsChain old (linear (before ++ (old_indexes moves ++ x ∷ after)))
      → IsChain left (linear (before ++ x ∷ after)) → IsLinearOrEmpty new (moved_indexes moves) → IsPartlyMoved old left new false moves (moved_indexes moves) (x ∷ after ++ reverse before)
  ahead_cyclic : (moves : List (ℕ × ℕ)) (x : ℕ) (after : List ℕ) → IsChain old (cyclic (old_indexes moves ++ x ∷ after))
      → IsChain left (cyclic (x ∷ after)) → IsLinearOrEmpty new (moved_indexes moves) → IsPartlyMoved old left new false moves (moved_indexes moves) (x ∷ after)
  back_linear : (before : List ℕ) (x : ℕ) (back : List (ℕ × ℕ)) (i : ℕ × ℕ) (ahead : List (ℕ × ℕ)) → IsChain old (linear (before ++ x ∷ old_indexes (back ++ i ∷ ahead)))
      → IsChain left (linear (before ++ x ∷ [])) → IsLinearOrEmpty new (moved_indexes (back ++ i ∷ ahead))
      → IsPartlyMoved old left new true (i ∷ ahead ++ reverse back) (moved_indexes (back ++ i ∷ ahead)) (x ∷ reverse before)
  all_moved : (is_back : Bool) (moves : List (ℕ × ℕ)) (ys : List ℕ) → IsChainMoved old new moves → IsPartlyMoved old left new is_back moves ys []

pub move_begins : (old new : LinkMap) (i : ℕ) (walk : List ℕ) → IsWalk old i walk → IsPartlyMoved old old new false [] [] walk
move_begins old new i _ (of_linear before after chain) = ahead_linear before [] i after chain chain (tt, tt)
move_begins old new i _ (of_cyclic after chain) = ahead_cyclic [] i after chain chain (tt, tt)

pub move_ends : (old left new : LinkMap) (is_back : Bool) (moves : List (ℕ × ℕ)) (ys rest : List ℕ) → IsPartlyMoved old left new is_back moves ys rest → rest ≡ [] → IsChainMoved old new moves
move_ends old left new _ _ _ _ (ahead_linear before moves x after chain still run) none = absurd (cc)
move_ends old left new _ _ _ _ (ahead_cyclic moves x after chain still run) none = absurd (cc)
move_ends old left new _ _ _ _ (back_linear before x back i ahead chain still run) none = absurd (cc)
move_ends old left new _ _ _ _ (all_moved is_back moves ys moved) none = moved

old_indexes-push : (moves : List (ℕ × ℕ)) (x q : ℕ) (zs : List ℕ) → old_indexes (moves ++ (x, q) ∷ []) ++ zs ≡ old_indexes moves ++ x ∷ zs
old_indexes-push [] x q zs = refl
old_indexes-push (m ∷ moves) x q zs = ap (λ (ys : List ℕ). m.0 ∷ ys) (old_indexes-push moves x q zs)

moved_indexes-push : (moves : List (ℕ × ℕ)) (x q : ℕ) → moved_indexes (moves ++ (x, q) ∷ []) ≡ moved_indexes moves ++ q ∷ []
moved_indexes-push [] x q = refl
moved_indexes-push (m ∷ moves) x q = ap (λ (ys : List ℕ). m.1 ∷ ys) (moved_indexes-push moves x q)

split_first : (moves : List (ℕ × ℕ)) (m : ℕ × ℕ) → (i : ℕ × ℕ) × (ahead : List (ℕ × ℕ)) × (moves ++ m ∷ [] ≡ i ∷ ahead)
split_first [] m = (m, [], refl)
split_first (i ∷ ahead) m = (i, ahead ++ m ∷ [], refl)

module _ (new : LinkMap) (q : ℕ) (free : new q ≡ None) where
  not_in_run : (ys : List ℕ) → IsLinearOrEmpty new ys → IsMember ys q → ⊥
  not_in_run ys run h = free_invalid new q free (AreLinked-valid new None ys None q run.1 h)

  run_end : (ys : List ℕ) → IsLinearOrEmpty new ys → IsLinearOrEmpty (with_insertion new q (last_or ys None) None) (ys ++ q ∷ [])
  run_end ys run =
      let none = not_in_run ys run in
      let chain = inserted_between new q ys None None [] (subst AreDistinct (sym (append-nil ys)) run.0) (subst (λ (zs : List ℕ). IsMember zs q → ⊥) (sym (append-nil ys)) none) run.1 tt in
      (chain.1, chain.2)

  run_start : (ys : List ℕ) → IsLinearOrEmpty new ys → IsLinearOrEmpty (with_insertion new q None (first_or ys None)) (q ∷ ys)
  run_start ys run =
      let chain = inserted_between new q [] None None ys run.0 (not_in_run ys run) tt run.1 in
      (chain.1, chain.2)

  ring_closed : (ys : List ℕ) → IsLinearOrEmpty new ys → IsChain (with_insertion new q (last_or ys (Some q)) (first_or ys (Some q))) (cyclic (ys ++ q ∷ []))
  ring_closed [] run = (inserted_inserts new q (Some q) (Some q) free).ring refl refl
  ring_closed (y ∷ ys) run = inserted_cyclic new q None (y ∷ ys) None (λ none. cc) run.0 (not_in_run (y ∷ ys) run) run.1

end_of_run : (new : LinkMap) (y : ℕ) (zs : List ℕ) → IsLinearOrEmpty new (y ∷ zs) → (k : ℕ) × (last_or zs (Some y) ≡ Some k) × HasLink new k × (next_of new k ≡ None)
end_of_run new y zs run =
    let l = last_apart y zs in
    let named = AreLinked-at new None l.0 [] None l.1 (subst (λ (ys : List ℕ). AreLinked new None ys None) l.2 run.1) in (
      l.1,
      ap (λ (ys : List ℕ). last_or ys None) l.2 ∙ last_or-append l.0 (l.1 ∷ []) None,
      reports_valid new l.1 _ named,
      reports_next new l.1 (last_or l.0 None) None named,
    )

position_end : (new : LinkMap) (q : ℕ) (ys : List ℕ) → IsLinearOrEmpty new ys → IsInsertPosition new q (last_or ys None) None
position_end new q [] run = tt
position_end new q (y ∷ zs) run =
    let l = end_of_run new y zs run in
    subst (λ (o : Option ℕ). IsInsertPosition new q o None) (sym l.1) (l.2, l.3)

position_start : (new : LinkMap) (q : ℕ) (ys : List ℕ) → IsLinearOrEmpty new ys → IsInsertPosition new q None (first_or ys None)
position_start new q [] run = tt
position_start new q (y ∷ zs) run = (reports_valid new y _ run.1.0, reports_prev new y None (first_or zs None) run.1.0)

position_ring : (new : LinkMap) (q : ℕ) (ys : List ℕ) → IsLinearOrEmpty new ys → IsInsertPosition new q (last_or ys (Some q)) (first_or ys (Some q))
position_ring new q [] run = inr (inr (refl, refl))
position_ring new q (y ∷ zs) run =
    let l = end_of_run new y zs run in
    subst (λ (o : Option ℕ). IsInsertPosition new q o (Some y)) (sym l.1)
    (inr (inl (record { valid_end = l.2; valid_start = reports_valid new y _ run.1.0; end = l.3; start = reports_prev new y None (first_or zs None) run.1.0 })))

turned_back : (old left new : LinkMap) (before : List ℕ) (back : List (ℕ × ℕ)) (i : ℕ × ℕ) (ahead : List (ℕ × ℕ)) → IsChain old (linear (before ++ old_indexes (back ++ i ∷ ahead)))
    → (before ≢ [] → IsChain left (linear before)) → IsLinearOrEmpty new (moved_indexes (back ++ i ∷ ahead)) → IsPartlyMoved old left new true (i ∷ ahead ++ reverse back) (moved_indexes (back ++ i ∷ ahead)) (reverse before)
turned_back old left new [] back i ahead chain still run =
    all_moved true _ _ (linear_moved back ahead i chain (filled back, run.0, run.1))
  where
    filled : (back : List (ℕ × ℕ)) → moved_indexes (back ++ i ∷ ahead) ≢ []
    filled [] none = cc
    filled (m ∷ back) none = cc
turned_back old left new (b ∷ bs) back i ahead chain still run =
    let l = last_apart b bs in
    subst (λ (zs : List ℕ). IsPartlyMoved old left new true (i ∷ ahead ++ reverse back) (moved_indexes (back ++ i ∷ ahead)) zs) (sym (ap (reverse {A = ℕ}) l.2 ∙ reverse-append l.0 (l.1 ∷ [])))
    (back_linear l.0 l.1 back i ahead
    (subst (λ (zs : List ℕ). IsChain old (linear zs)) (ap (λ (zs : List ℕ). zs ++ old_indexes (back ++ i ∷ ahead)) l.2 ∙ append_assoc l.0 (l.1 ∷ []) (old_indexes (back ++ i ∷ ahead))) chain)
    (subst (λ (zs : List ℕ). IsChain left (linear zs)) l.2 (still (λ none. cc)))
    run)

-- The next move.
pub record IsNextMove (old left new : LinkMap) (closes is_end is_back : Bool) (moves : List (ℕ × ℕ)) (ys : List ℕ) (x : ℕ) (rest : List ℕ) : Type 0 where
  pub position : (q : ℕ) → IsInsertPosition new q (link_before_moved closes is_back ys q) (link_after_moved closes is_back ys q)
  pub under_way : (q : ℕ) → new q ≡ None
      → IsPartlyMoved old (with_removal left x) (with_insertion new q (link_before_moved closes is_back ys q) (link_after_moved closes is_back ys q)) is_end (moves ++ (x, q) ∷ []) (with_moved_link is_back ys q) rest

flag_true : {X : Type 0} (b : Bool) → IsTrue b ↔ X → X → b ≡ true
flag_true b both holds = both.1 holds

flag_false : {X : Type 0} (b : Bool) → IsTrue b ↔ X → (X → ⊥) → b ≡ false
flag_false true both fails = absurd (fails (both.0 refl))
flag_false false both fails = refl

at_head : (Holds : ℕ → List ℕ → Type 0) (x y : ℕ) (xs ys : List ℕ) → x ∷ xs ≡ y ∷ ys → Holds x xs → Holds y ys
at_head Holds x y xs ys same holds =
    let first : x ≡ y = cc in
    let others : xs ≡ ys = cc in
    subst (λ (zs : List ℕ). Holds y zs) others (subst (λ (n : ℕ). Holds n xs) first holds)

module _ (old left new : LinkMap) where
  with_flags : (closes is_end c e : Bool) (is_back : Bool) (moves : List (ℕ × ℕ)) (ys : List ℕ) (x : ℕ) (rest : List ℕ) → closes ≡ c → is_end ≡ e
      → IsNextMove old left new c e is_back moves ys x rest → IsNextMove old left new closes is_end is_back moves ys x rest
  with_flags closes is_end c e is_back moves ys x rest same also next =
      subst (λ (b : Bool). IsNextMove old left new b is_end is_back moves ys x rest) (sym same)
      (subst (λ (b : Bool). IsNextMove old left new c b is_back moves ys x rest) (sym also) next)

  with_moved_indexes : (new_after : LinkMap) (is_end : Bool) (left_after : LinkMap) (moves : List (ℕ × ℕ)) (x q : ℕ) (rest : List ℕ)
      → IsPartlyMoved old left_after new_after is_end (moves ++ (x, q) ∷ []) (moved_indexes (moves ++ (x, q) ∷ [])) rest
      → IsPartlyMoved old left_after new_after is_end (moves ++ (x, q) ∷ []) (with_moved_link false (moved_indexes moves) q) rest
  with_moved_indexes new_after is_end left_after moves x q rest under_way =
      subst (λ (ys : List ℕ). IsPartlyMoved old left_after new_after is_end (moves ++ (x, q) ∷ []) ys rest) (moved_indexes-push moves x q) under_way

  grown_run : (q : ℕ) → new q ≡ None → (moves : List (ℕ × ℕ)) (x : ℕ) → IsLinearOrEmpty new (moved_indexes moves) → IsLinearOrEmpty (with_insertion new q (last_or (moved_indexes moves) None) None) (moved_indexes (moves ++ (x, q) ∷ []))
  grown_run q free moves x run =
      subst (IsLinearOrEmpty (with_insertion new q (last_or (moved_indexes moves) None) None)) (sym (moved_indexes-push moves x q)) (run_end new q free (moved_indexes moves) run)

  linear_next : (before : List ℕ) (moves : List (ℕ × ℕ)) (x : ℕ) (after : List ℕ) (closes is_end : Bool) → IsChain old (linear (before ++ (old_indexes moves ++ x ∷ after)))
      → IsChain left (linear (before ++ x ∷ after)) → IsLinearOrEmpty new (moved_indexes moves) → IsTrue closes ↔ (next_of left x ≡ Some x) → IsTrue is_end ↔ (next_of left x ≡ None)
      → IsNextMove old left new closes is_end false moves (moved_indexes moves) x (after ++ reverse before)
  linear_next before moves x [] closes is_end chain still run closing ending =
      let next : next_of left x ≡ None = ap next_in (AreLinked-at left None before [] None x still.2) in
      with_flags closes is_end false true false moves (moved_indexes moves) x (reverse before) (flag_false closes closing (λ e. cc)) (flag_true is_end ending next) (record {
        position = λ q. position_end new q (moved_indexes moves) run;
        under_way = λ q free.
            let s = split_first moves (x, q) in
            let new_after = with_insertion new q (last_or (moved_indexes moves) None) None in
            let moved = grown_run q free moves x run in
            with_moved_indexes new_after true (with_removal left x) moves x q (reverse before)
            (subst (λ (ms : List (ℕ × ℕ)). IsPartlyMoved old (with_removal left x) new_after true ms (moved_indexes ms) (reverse before)) (sym s.2)
            (subst (λ (ms : List (ℕ × ℕ)). IsPartlyMoved old (with_removal left x) new_after true ms (moved_indexes (s.0 ∷ s.1)) (reverse before)) (append-nil (s.0 ∷ s.1))
            (turned_back old (with_removal left x) new_after before [] s.0 s.1
            (subst (λ (ms : List (ℕ × ℕ)). IsChain old (linear (before ++ old_indexes ms))) s.2
            (subst (λ (zs : List ℕ). IsChain old (linear (before ++ zs))) (sym (old_indexes-push moves x q []) ∙ append-nil (old_indexes (moves ++ (x, q) ∷ []))) chain))
            (λ filled. subst (λ (zs : List ℕ). IsChain (with_removal left x) (linear zs)) (append-nil before)
            (removed_from_linear left x before [] still (λ none. filled (sym (append-nil before) ∙ none))))
            (subst (λ (ms : List (ℕ × ℕ)). IsLinearOrEmpty new_after (moved_indexes ms)) s.2 moved))));
      })
  linear_next before moves x (k ∷ ks) closes is_end chain still run closing ending =
      let next : next_of left x ≡ Some k = ap next_in (AreLinked-at left None before (k ∷ ks) None x still.2) in
      let other : k ≢ x = λ same. (AreDistinct-right before (x ∷ k ∷ ks) still.1).0 (inl same) in
      with_flags closes is_end false false false moves (moved_indexes moves) x (k ∷ ks ++ reverse before) (flag_false closes closing (λ e. other (one_some (sym next ∙ e)))) (flag_false is_end ending (λ e. cc)) (record {
        position = λ q. position_end new q (moved_indexes moves) run;
        under_way = λ q free.
            with_moved_indexes (with_insertion new q (last_or (moved_indexes moves) None) None) false (with_removal left x) moves x q (k ∷ ks ++ reverse before)
            (ahead_linear before (moves ++ (x, q) ∷ []) k ks
            (subst (λ (zs : List ℕ). IsChain old (linear (before ++ zs))) (sym (old_indexes-push moves x q (k ∷ ks))) chain)
            (removed_from_linear left x before (k ∷ ks) still (IsMember-filled (before ++ k ∷ ks) k (IsMember-middle before ks k)))
            (grown_run q free moves x run));
      })

  cyclic_next : (moves : List (ℕ × ℕ)) (x : ℕ) (after : List ℕ) (closes is_end : Bool) → IsChain old (cyclic (old_indexes moves ++ x ∷ after))
      → IsChain left (cyclic (x ∷ after)) → IsLinearOrEmpty new (moved_indexes moves) → IsTrue closes ↔ (next_of left x ≡ Some x) → IsTrue is_end ↔ (next_of left x ≡ None)
      → IsNextMove old left new closes is_end false moves (moved_indexes moves) x after
  cyclic_next moves x [] closes is_end chain still run closing ending =
      let next : next_of left x ≡ Some x = ap next_in still.2.0 in
      with_flags closes is_end true is_end false moves (moved_indexes moves) x [] (flag_true closes closing next) refl (record {
        position = λ q. position_ring new q (moved_indexes moves) run;
        under_way = λ q free.
            let s = split_first moves (x, q) in
            let new_after = with_insertion new q (last_or (moved_indexes moves) (Some q)) (first_or (moved_indexes moves) (Some q)) in
            all_moved is_end (moves ++ (x, q) ∷ []) (with_moved_link false (moved_indexes moves) q)
            (subst (IsChainMoved old new_after) (sym s.2) (cyclic_moved s.1 s.0
            (subst (λ (ms : List (ℕ × ℕ)). IsChain old (cyclic (old_indexes ms))) s.2
            (subst (λ (zs : List ℕ). IsChain old (cyclic zs)) (sym (old_indexes-push moves x q []) ∙ append-nil (old_indexes (moves ++ (x, q) ∷ []))) chain))
            (subst (λ (ms : List (ℕ × ℕ)). IsChain new_after (cyclic (moved_indexes ms))) s.2
            (subst (λ (zs : List ℕ). IsChain new_after (cyclic zs)) (sym (moved_indexes-push moves x q)) (ring_closed new q free (moved_indexes moves) run)))));
      })
  cyclic_next moves x (k ∷ ks) closes is_end chain still run closing ending =
      let next : next_of left x ≡ Some k = ap next_in still.2.0 in
      let other : k ≢ x = λ same. still.1.0 (inl same) in
      with_flags closes is_end false false false moves (moved_indexes moves) x (k ∷ ks) (flag_false closes closing (λ e. other (one_some (sym next ∙ e)))) (flag_false is_end ending (λ e. cc)) (record {
        position = λ q. position_end new q (moved_indexes moves) run;
        under_way = λ q free.
            with_moved_indexes (with_insertion new q (last_or (moved_indexes moves) None) None) false (with_removal left x) moves x q (k ∷ ks)
            (ahead_cyclic (moves ++ (x, q) ∷ []) k ks
            (subst (λ (zs : List ℕ). IsChain old (cyclic zs)) (sym (old_indexes-push moves x q (k ∷ ks))) chain)
            (removed_first_of_cyclic left x (k ∷ ks) still (λ none. cc))
            (grown_run q free moves x run));
      })

  linear_back : (before : List ℕ) (x : ℕ) (back : List (ℕ × ℕ)) (i : ℕ × ℕ) (ahead : List (ℕ × ℕ)) (closes is_end : Bool) → IsChain old (linear (before ++ x ∷ old_indexes (back ++ i ∷ ahead)))
      → IsChain left (linear (before ++ x ∷ [])) → IsLinearOrEmpty new (moved_indexes (back ++ i ∷ ahead)) → IsTrue closes ↔ (next_of left x ≡ Some x) → IsTrue is_end ↔ (next_of left x ≡ None)
      → IsNextMove old left new closes is_end true (i ∷ ahead ++ reverse back) (moved_indexes (back ++ i ∷ ahead)) x (reverse before)
  linear_back before x back i ahead closes is_end chain still run closing ending =
      let ys = moved_indexes (back ++ i ∷ ahead) in
      let next : next_of left x ≡ None = ap next_in (AreLinked-at left None before [] None x still.2) in
      with_flags closes is_end false true true (i ∷ ahead ++ reverse back) ys x (reverse before) (flag_false closes closing (λ e. cc)) (flag_true is_end ending next) (record {
        position = λ q. position_start new q ys run;
        under_way = λ q free.
            let new_after = with_insertion new q None (first_or ys None) in
            subst (λ (ms : List (ℕ × ℕ)). IsPartlyMoved old (with_removal left x) new_after true ms (q ∷ ys) (reverse before))
            (ap (λ (ms : List (ℕ × ℕ)). i ∷ ahead ++ ms) (reverse-append ((x, q) ∷ []) back) ∙ sym (append_assoc (i ∷ ahead) (reverse back) ((x, q) ∷ [])))
            (turned_back old (with_removal left x) new_after before ((x, q) ∷ back) i ahead chain
            (λ filled. subst (λ (zs : List ℕ). IsChain (with_removal left x) (linear zs)) (append-nil before)
            (removed_from_linear left x before [] still (λ none. filled (sym (append-nil before) ∙ none))))
            (run_start new q free ys run));
      })

  pub next_move : (closes is_end is_back : Bool) (moves : List (ℕ × ℕ)) (ys walk : List ℕ) → IsPartlyMoved old left new is_back moves ys walk → (x : ℕ) (rest : List ℕ) → walk ≡ x ∷ rest
      → IsTrue closes ↔ (next_of left x ≡ Some x) → IsTrue is_end ↔ (next_of left x ≡ None) → IsNextMove old left new closes is_end is_back moves ys x rest
  next_move closes is_end _ _ _ _ (ahead_linear before moves i after chain still run) x rest is =
      at_head (λ n zs. IsTrue closes ↔ (next_of left n ≡ Some n) → IsTrue is_end ↔ (next_of left n ≡ None) → IsNextMove old left new closes is_end false moves (moved_indexes moves) n zs)
      i x (after ++ reverse before) rest is (linear_next before moves i after closes is_end chain still run)
  next_move closes is_end _ _ _ _ (ahead_cyclic moves i after chain still run) x rest is =
      at_head (λ n zs. IsTrue closes ↔ (next_of left n ≡ Some n) → IsTrue is_end ↔ (next_of left n ≡ None) → IsNextMove old left new closes is_end false moves (moved_indexes moves) n zs)
      i x after rest is (cyclic_next moves i after closes is_end chain still run)
  next_move closes is_end _ _ _ _ (back_linear before i back m ahead chain still run) x rest is =
      at_head (λ n zs. IsTrue closes ↔ (next_of left n ≡ Some n) → IsTrue is_end ↔ (next_of left n ≡ None) → IsNextMove old left new closes is_end true (m ∷ ahead ++ reverse back) (moved_indexes (back ++ m ∷ ahead)) n zs)
      i x (reverse before) rest is (linear_back before i back m ahead closes is_end chain still run)
  next_move closes is_end _ _ _ _ (all_moved is_back moves ys moved) x rest is = absurd (cc)
