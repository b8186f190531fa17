-- A walker passes existing links, one after another.
use Rattle.std.proofs.Common.{◌≡◌, ℕ, zero, suc, List, [], ◌∷◌, Option, None, Some, refl, ap, ap₂, sym, ◌∙◌, subst, IfSome, arith}
use Rattle.std.specs.Prelude.{◌-◌}
use Rattle.std.specs.Option.{option_map}
use Rattle.chain_laws.specs.Chains.{IsWellLinked, HasLink, next_in, next_of, prev_in, prev_of}
use Rattle.chain_laws.specs.Walks.{step_back, step_forward}
use Rattle.chain_laws.proofs.InterlinkLemmas.Inverses.{if_other, if_same, one_some}
use Rattle.arena_traits.specs.Arena.{Arena, entry_at}
use Rattle.chain_links.specs.ChainArena.{LinkView, link_map, interlinks_of}
use Rattle.chain_links.specs.Walkers.{index_and_entry, links_ahead}
use Rattle.chain_linking.proofs.NeighborLemmas.{next_named, prev_named}
use Rattle.chain_linking.specs.Iterators.{IsOnLinks}

module _ {Gen T : Type 0} (i : ℕ) where
  pub read_some : (k : ℕ) (e : Gen × LinkView T) (o : Option (Gen × LinkView T)) → Some (k, e) ≡ option_map (index_and_entry i) o → o ≡ Some e
  read_some k e None states = absurd (let h = states in cc)
  read_some k e (Some f) states = ap (λ (p : ℕ × (Gen × LinkView T)). let o : Option (Gen × LinkView T) = Some p.1 in o) (sym (one_some states))

module _ {Gen T : Type 0} (a : Arena Gen (LinkView T)) where
  pub onward_stored : (i : ℕ) (back : Option ℕ) (e : Gen × LinkView T) → entry_at a i ≡ Some e → IsWellLinked (link_map a) → IfSome back (HasLink (link_map a)) → IsOnLinks (link_map a) e.1.next back
  onward_stored i back e stored agrees behind = record {
    agrees = agrees;
    onward = subst (λ (o : Option ℕ). IfSome o (HasLink (link_map a))) (ap (λ (o : Option (Gen × LinkView T)). next_in (option_map interlinks_of o)) stored) (next_named (link_map a) i agrees);
    behind = behind;
  }

  pub behind_stored : (i : ℕ) (e : Gen × LinkView T) → entry_at a i ≡ Some e → IsWellLinked (link_map a) → IsOnLinks (link_map a) None e.1.prev
  behind_stored i e stored agrees = record {
    agrees = agrees;
    onward = tt;
    behind = subst (λ (o : Option ℕ). IfSome o (HasLink (link_map a))) (ap (λ (o : Option (Gen × LinkView T)). prev_in (option_map interlinks_of o)) stored) (prev_named (link_map a) i agrees);
  }

  pub nowhere : (left start : ℕ) → links_ahead a left start None None ≡ []
  nowhere zero start = refl
  nowhere (suc left) start = refl

  module _ (start i : ℕ) (back : Option ℕ) (e : Gen × LinkView T) (stored : entry_at a i ≡ Some e) where
    passes_first : (left : ℕ) → (left ≡ 0 → ⊥) → links_ahead a left start (Some i) back ≡ (i, e) ∷ links_ahead a (left - 1) start (step_forward start e.1.next) (step_back start e.1.next back)
    passes_first zero some = absurd (some refl)
    passes_first (suc n) some =
        let ahead : Option ℕ → ℕ → List (ℕ × (Gen × LinkView T)) = λ next left. links_ahead a left start (step_forward start next) (step_back start next back) in
        let less : n ≡ suc n - 1 = omega arith in
        ap (λ (o : Option (Gen × LinkView T)). elim o [ None ↦ [] | Some f ↦ (i, f) ∷ ahead (next_of (link_map a) i) n ]) stored
        ∙ ap₂ (λ (next : Option ℕ) (left : ℕ). (i, e) ∷ ahead next left) (ap (λ (o : Option (Gen × LinkView T)). next_in (option_map interlinks_of o)) stored) less

    pub passes_back : (left : ℕ) (prev : Option ℕ) → (left ≡ 0 → ⊥) → prev ≡ e.1.prev → links_ahead a left start None (Some i) ≡ (i, e) ∷ links_ahead a (left - 1) start None prev
    passes_back zero prev some named = absurd (some refl)
    passes_back (suc n) prev some named =
        let less : n ≡ suc n - 1 = omega arith in
        ap (λ (o : Option (Gen × LinkView T)). elim o [ None ↦ [] | Some f ↦ (i, f) ∷ links_ahead a n start None (prev_of (link_map a) i) ]) stored
        ∙ ap₂ (λ (before : Option ℕ) (left : ℕ). (i, e) ∷ links_ahead a left start None before) (ap (λ (o : Option (Gen × LinkView T)). prev_in (option_map interlinks_of o)) stored ∙ sym named) less

    pub passes_last : (left : ℕ) (next : Option ℕ) → (left ≡ 0 → ⊥) → next ≡ e.1.next → next ≡ Some start → links_ahead a left start (Some i) back ≡ (i, e) ∷ links_ahead a 0 start next back
    passes_last left next some named of_cyclic =
        let closed : e.1.next ≡ Some start = sym named ∙ of_cyclic in
        passes_first left some
        ∙ ap (λ (rest : List (ℕ × (Gen × LinkView T))). (i, e) ∷ rest)
        (ap₂ (λ (forward behind : Option ℕ). links_ahead a (left - 1) start forward behind)
        (ap (step_forward start) closed ∙ if_same start start None (Some start) refl) (ap (λ (n : Option ℕ). step_back start n back) closed ∙ if_same start start None back refl)
        ∙ nowhere (left - 1) start)

    pub passes_on : (left : ℕ) (next : Option ℕ) → (left ≡ 0 → ⊥) → next ≡ e.1.next → (next ≡ Some start → ⊥) → links_ahead a left start (Some i) back ≡ (i, e) ∷ links_ahead a (left - 1) start next back
    passes_on left next some named apart =
        passes_first left some
        ∙ ap (λ (n : Option ℕ). (i, e) ∷ links_ahead a (left - 1) start (step_forward start n) (step_back start n back)) (sym named)
        ∙ straight next apart
      where
        straight : (n : Option ℕ) → (n ≡ Some start → ⊥)
            → ◌≡◌ {A = List (ℕ × (Gen × LinkView T))} ((i, e) ∷ links_ahead a (left - 1) start (step_forward start n) (step_back start n back)) ((i, e) ∷ links_ahead a (left - 1) start n back)
        straight None other = refl
        straight (Some k) other =
            ap₂ (λ (forward behind : Option ℕ). (i, e) ∷ links_ahead a (left - 1) start forward behind)
            (if_other k start None (Some k) (λ same. other (ap Some same))) (if_other k start None back (λ same. other (ap Some same)))
