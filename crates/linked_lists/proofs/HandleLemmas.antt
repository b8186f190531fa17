-- The head on the walk from an item is the handle of its list.
use Rattle.std.proofs.Common.{◌≡◌, ℕ, inl, inr, ⊎_elim, List, [], ◌∷◌, ◌++◌, Option, None, Some, refl, sym, ap, ◌∙◌, subst}
use Rattle.std.specs.Prelude.{is_some, true}
use Rattle.chain_laws.specs.Chains.{LinkMap, cyclic, IsMember, HasLink}
use Rattle.chain_laws.specs.Walks.{IsWalk, Walker, step_of, passes_ahead}
use Rattle.chain_laws.proofs.WalkLemmas.Members.{walk_has, walk_valid, walk_of_chain}
use Rattle.chain_laws.proofs.WalkLemmas.Steps.{step_ahead}
use Rattle.chain_laws.proofs.InterlinkLemmas.Inverses.{one_some}
use Rattle.arena_traits.specs.Arena.{IsValid}
use Rattle.arena_traits.specs.Entries.{ArenaView, ArenaState, last_key}
use Rattle.chain_lists.specs.Lists.{indexes}
use Rattle.chain_lists.proofs.ItemListLemmas.{same_pointer}
use Rattle.linked_lists.specs.declared.entry.Entry.{Entry}
use Rattle.linked_lists.specs.LinkedLists.{ring_of, IsHandle, IsItem, IsList, HasPlace, AllInLists, ReadsHandle}
use Rattle.linked_lists.specs.RingCalls.{FindsHead, ReadsLastLink, ReadsEndOfListOf, EndsList, EndsListOf}
use Rattle.linked_lists.proofs.ListLemmas.{head_valid, item_valid, item_of, only_head}
use Rattle.linked_lists.proofs.InsertionLemmas.{has_item}

pub not_ahead : {X : Type 0} (links : LinkMap) (entry : ℕ → Option X) → ((k : ℕ) → HasLink links k → is_some (entry k) ≡ true) → (i j : ℕ) (walk ahead : List ℕ) → IsWalk links i walk → ((k : ℕ) → IsMember ahead k → IsMember walk k)
    → ((k : ℕ) (rest : List ℕ) → ahead ≡ k ∷ rest → entry k ≡ None) → IsMember ahead j → ⊥
not_ahead links entry occupied i j walk [] is in_walk first has = absurd has
not_ahead links entry occupied i j walk (k ∷ rest) is in_walk first has =
    let some = occupied k (walk_valid links i walk is k (in_walk k (inl refl))) in let none = ap is_some (first k rest refl) in let both = sym some ∙ none in cc

module _ {Gen T : Type 0} (links : LinkMap) (entry : ℕ → Option (Gen × Entry T)) (walk : List ℕ) (old new : Walker) (q : ℕ × Gen) (valid : IsValid entry q) (step : step_of links old ≡ Some (q.0, new)) where
  pub was_ahead : ((i : ℕ) → IsMember (passes_ahead links old) i → IsMember walk i) → (i : ℕ) → IsMember (passes_ahead links new) i → IsMember walk i
  was_ahead in_walk i has = in_walk i (subst (λ (l : List ℕ). IsMember l i) (sym (step_ahead links old new q.0 step)) (inr has))

  pub passed_in_walk : ((i : ℕ) → IsMember (passes_ahead links old) i → IsMember walk i) → IsMember walk q.0
  passed_in_walk in_walk = in_walk q.0 (subst (λ (l : List ℕ). IsMember l q.0) (sym (step_ahead links old new q.0 step)) (inl refl))

  pub still_ahead : (IsHandle entry q → ⊥) → ((k : ℕ × Gen) → IsHandle entry k → IsMember walk k.0 → IsMember (passes_ahead links old) k.0) → (k : ℕ × Gen) → IsHandle entry k → IsMember walk k.0 → IsMember (passes_ahead links new) k.0
  still_ahead not_head ahead k head has = ⊎_elim
      (λ same. absurd (not_head (subst (IsHandle entry) (sym (same_pointer entry q k valid (head_valid entry k head) same)) head)))
      (λ later. later)
      (subst (λ (l : List ℕ). IsMember l k.0) (step_ahead links old new q.0 step) (ahead k head has))

module _ {A Gen T : Type 0} {view : A → ArenaView Gen (Entry T)} {entry : A → ℕ → Option (Gen × Entry T)} (state : (a : A) → ArenaState (view a) (entry a)) (interlinks : A → LinkMap) {P H : Type 0} (key : P → ℕ × Gen) (handle_key : H → ℕ × Gen) (a : A) (p : P) where
  pub reads_handle : (r : Option H) → IsItem (entry a) (key p) → FindsHead (entry a) (interlinks a) handle_key (key p) r → ReadsHandle state interlinks key handle_key a p r
  reads_handle None item finds = record {
    none = λ no. refl;
    handle = λ h t before after is.
        let has = has_item state interlinks a a (key p) (key p, t) h t before after in
        let walk = walk_of_chain (interlinks a) (key p).0 (cyclic (indexes (ring_of h (before ++ (key p, t) ∷ after)))) is.chain has in
        let same = walk_has (interlinks a) (key p).0 walk.0 (cyclic (indexes (ring_of h (before ++ (key p, t) ∷ after)))) walk.1 is.chain has h.0 in
        absurd (finds (item_valid (entry a) (key p) item.value item.stored) walk.0 h walk.1 is.are_stored.0 (same.1 (inl refl)));
  }
  reads_handle (Some k) item (head, walk, is_walk, among) = record {
    none = λ no. absurd (no item);
    handle = λ h t before after is.
        let has = has_item state interlinks a a (key p) (key p, t) h t before after in
        let same = walk_has (interlinks a) (key p).0 walk (cyclic (indexes (ring_of h (before ++ (key p, t) ∷ after)))) is_walk is.chain has (handle_key k).0 in
        ap (λ (j : ℕ × Gen). Some j) (only_head state interlinks a (handle_key k) h (before ++ (key p, t) ∷ after) head is (same.0 among));
  }

  pub no_handle : (IsItem (entry a) (key p) → ⊥) → ReadsHandle state interlinks key handle_key a p None
  no_handle not_item = record { none = λ none. refl; handle = λ h t before after is. absurd (not_item (record { value = t; stored = item_of state interlinks a h (key p) t before after is })) }

  handle_found : (t : T) → HasPlace state interlinks a (key p) t → (h : H) → ReadsHandle state interlinks key handle_key a p (Some h) → IsHandle (entry a) (handle_key h)
  handle_found t at h reads = subst (IsHandle (entry a)) (sym (one_some (reads.handle at.handle t at.before at.after at.list))) at.list.are_stored.0

  handle_there : (t : T) → HasPlace state interlinks a (key p) t → ReadsHandle state interlinks key handle_key a p None → ⊥
  handle_there t at reads = absurd (let none = reads.handle at.handle t at.before at.after at.list in cc)

  ends_list_of : (h : H) (l : P) → ReadsHandle state interlinks key handle_key a p (Some h) → EndsList state interlinks a (handle_key h) (key l) → EndsListOf state interlinks a (key p) (key l)
  ends_list_of h l reads last k t before after is =
      let same = one_some (reads.handle k t before after is) in
      subst (λ (q : ℕ × Gen). Some (key l) ≡ last_key (ring_of q (before ++ (key p, t) ∷ after))) same (last (before ++ (key p, t) ∷ after) (subst (λ (q : ℕ × Gen). IsList state interlinks a q (before ++ (key p, t) ∷ after)) (sym same) is))

  pub no_end : AllInLists state interlinks a → IsItem (entry a) (key p) → FindsHead (entry a) (interlinks a) handle_key (key p) None → ReadsEndOfListOf state interlinks key a (key p) None
  no_end all item finds = λ also. handle_there item.value (all.items (key p) item.value item.stored) (reads_handle None item finds)

  pub reads_end : AllInLists state interlinks a → IsItem (entry a) (key p) → (h : H) → FindsHead (entry a) (interlinks a) handle_key (key p) (Some h) → (r : Option P) → ReadsLastLink state interlinks key a (handle_key h) r → ReadsEndOfListOf state interlinks key a (key p) r
  reads_end all item h finds None last = λ also. last (handle_found item.value (all.items (key p) item.value item.stored) h (reads_handle (Some h) item finds))
  reads_end all item h finds (Some l) (head, valid, last) = (item, valid, ends_list_of h l (reads_handle (Some h) item finds) last)
