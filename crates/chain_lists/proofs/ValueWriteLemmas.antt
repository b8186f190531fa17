-- Writing the value at an index: its effect on entries and lists.
use Rattle.std.proofs.Common.{◌≡◌, ◌≢◌, ℕ, inl, inr, ⊎_elim, List, [], ◌∷◌, ◌++◌, Option, None, Some, refl, sym, ap, ◌∙◌, subst}
use Rattle.std.specs.Prelude.{is_some}
use Rattle.std.specs.Option.{option_map}
use Rattle.std.proofs.lemmas.Bool.{cases_eq}
use Rattle.std.proofs.lemmas.List.{map-append}
use Rattle.chain_laws.specs.Chains.{LinkMap, Chain, items, IsChain, IsMember, AreDistinct}
use Rattle.arena_traits.specs.Entries.{ArenaView, ArenaState, found, first_key, index_of, with_replacement, view_with_value}
use Rattle.arena_traits.proofs.EntrySearchLemmas.{at_first, past_first}
use Rattle.arena_traits.proofs.EntryChangeLemmas.{valued, writes_first, writes_later, value_there, values_elsewhere}
use Rattle.chain_lists.specs.Lists.{Item, AreEntries, indexes, HasNewValue}
use Rattle.chain_lists.proofs.ItemListLemmas.{are_stored-append, are_stored-left, are_stored-right, are_stored-frame, apart, among-left, among-right}
use Rattle.chain_lists.proofs.ListChangeLemmas.{of_chain, once}

module _ {Gen T : Type 0} where
  pub indexes-written : (i : ℕ) (t : T) (es : List (Item Gen T)) → indexes (with_replacement i (valued t) es) ≡ indexes es
  indexes-written i t [] = refl
  indexes-written i t (e ∷ es) = ⊎_elim
      (λ is. ap indexes (writes_first i t e es is) ∙ ap (λ (n : ℕ). n ∷ indexes es) (sym is))
      (λ other. ap indexes (writes_later i t e es other) ∙ ap (λ (l : List ℕ). e.0.0 ∷ l) (indexes-written i t es))
      (cases_eq e.0.0 i)

  pub first_key-written : (i : ℕ) (t : T) (es : List (Item Gen T)) → first_key (with_replacement i (valued t) es) ≡ first_key es
  first_key-written i t [] = refl
  first_key-written i t (e ∷ es) = ⊎_elim
      (λ is. ap first_key (writes_first i t e es is) ∙ ap (λ (n : ℕ). let k : Option (ℕ × Gen) = Some (n, e.0.1) in k) (sym is))
      (λ other. ap first_key (writes_later i t e es other))
      (cases_eq e.0.0 i)

  pub found-stored : (entry : ℕ → Option (Gen × T)) (i : ℕ) (es : List (Item Gen T)) → AreEntries entry es → IsMember (indexes es) i → found i es ≡ entry i
  found-stored entry i [] are_stored has = absurd has
  found-stored entry i (e ∷ es) are_stored has = ⊎_elim
      (λ is. at_first e i es is ∙ (sym are_stored.0 ∙ ap entry is))
      (λ other. past_first e i es other ∙ found-stored entry i es are_stored.1 (later other has))
      (cases_eq e.0.0 i)
    where
      later : e.0.0 ≢ i → IsMember (indexes (e ∷ es)) i → IsMember (indexes es) i
      later other (inl is) = absurd (other is)
      later other (inr h) = h

  module _ (old new : ℕ → Option (Gen × T)) (i : ℕ) (t : T) (there : new i ≡ option_map (valued t) (old i)) (rest : (k : ℕ) → k ≢ i → new k ≡ old k) where
    pub are_stored-written : (es : List (Item Gen T)) → AreDistinct (indexes es) → AreEntries old es → AreEntries new (with_replacement i (valued t) es)
    are_stored-written [] once are_stored = tt
    are_stored-written (e ∷ es) once are_stored = ⊎_elim
        (λ is. subst (AreEntries new) (sym (writes_first i t e es is)) (
          there ∙ ap (option_map (valued t)) (ap old (sym is) ∙ are_stored.0),
          are_stored-frame old new es (λ k has. rest k (λ same. once.0 (subst (IsMember (indexes es)) (same ∙ sym is) has))) are_stored.1,
        ))
        (λ other. subst (AreEntries new) (sym (writes_later i t e es other)) (rest e.0.0 other ∙ are_stored.0, are_stored-written es once.1 are_stored.1))
        (cases_eq e.0.0 i)

    some_mapped : (o : Option (Gen × T)) → is_some (option_map (valued t) o) ≡ is_some o
    some_mapped None = refl
    some_mapped (Some e) = refl

    pub some-written : (k : ℕ) → is_some (new k) ≡ is_some (old k)
    some-written k = ⊎_elim
        (λ is. ap (λ (n : ℕ). is_some (new n)) is ∙ (ap is_some there ∙ (some_mapped (old i) ∙ ap (λ (n : ℕ). is_some (old n)) (sym is))))
        (λ other. ap is_some (rest k other))
        (cases_eq k i)

module _ {A Gen T : Type 0} {view : A → ArenaView Gen T} {entry : A → ℕ → Option (Gen × T)} (state : (a : A) → ArenaState (view a) (entry a)) (interlinks : A → LinkMap)
    (shape : List ℕ → Chain) (written : (xs : List ℕ) → items (shape xs) ≡ xs) (a b : A) (i : ℕ) (t : T) (was : view b ≡ view_with_value (view a) i t) where
  elsewhere : (es : List (Item Gen T)) → (IsMember (indexes es) i → ⊥) → AreEntries (entry a) es → AreEntries (entry b) es
  elsewhere es other = are_stored-frame (entry a) (entry b) es (λ k has. values_elsewhere state a b i t was k (λ is_i. other (subst (IsMember (indexes es)) is_i has)))

  pub has_new_value : (g : Gen) → interlinks b ≡ interlinks a → HasNewValue state interlinks shape a b (i, g) t
  has_new_value g same = record {
    list = λ s before after is.
        let right = are_stored-right (entry a) before (((i, g), s) ∷ after) is.are_stored in
        let other = (apart before ((i, g), s) after (once state interlinks shape written a (indexes (before ++ ((i, g), s) ∷ after)) is.chain)).0 in
        let indexes_stay : indexes (before ++ ((i, g), s) ∷ after) ≡ indexes (before ++ ((i, g), t) ∷ after) = map-append index_of before (((i, g), s) ∷ after) ∙ sym (map-append index_of before (((i, g), t) ∷ after)) in
        record {
          chain = subst (λ (l : List ℕ). IsChain (interlinks b) (shape l)) indexes_stay (subst (λ (l : LinkMap). IsChain l (shape (indexes (before ++ ((i, g), s) ∷ after)))) (sym same) is.chain);
          are_stored = are_stored-append (entry b) before (((i, g), t) ∷ after)
              (elsewhere before (λ has. other (among-left before after i has)) (are_stored-left (entry a) before (((i, g), s) ∷ after) is.are_stored))
              (value_there state a b i t was ∙ ap (option_map (valued t)) right.0, elsewhere after (λ has. other (among-right before after i has)) right.1);
        };
    others = λ xs absent is. record {
      chain = subst (λ (l : LinkMap). IsChain l (shape (indexes xs))) (sym same) is.chain;
      are_stored = elsewhere xs (λ has. absent.0 (of_chain state interlinks shape written (indexes xs) i has)) is.are_stored;
    };
    view_after = was;
    links = same;
  }
