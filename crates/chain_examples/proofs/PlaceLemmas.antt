-- Links that a loop along a walk has passed.
use Rattle.std.proofs.Common.{◌≡◌, ◌≢◌, ℕ, ◌+◌, ⊎_elim, List, [], ◌∷◌, ◌++◌, map, length, append_assoc, Option, Some, refl, sym, ap, ◌∙◌, subst}
use Rattle.std.specs.Option.{option_map}
use Rattle.std.proofs.lemmas.List.{length-append, map-append}
use Rattle.chain_laws.specs.Chains.{LinkMap, IsMember}
use Rattle.chain_laws.specs.Walks.{IsWalk}
use Rattle.chain_laws.proofs.InterlinkLemmas.Inverses.{one_some}
use Rattle.chain_laws.proofs.ListLemmas.Members.{IsMember-parts}
use Rattle.arena_traits.specs.Arena.{IsValid}
use Rattle.chain_examples.specs.Places.{FindsPlace}

module _ {Gen T : Type 0} (entry : ℕ → Option (Gen × T)) (q : ℕ × Gen) where
  -- n links are passed, q not among them.
  pub record IsPassed (ahead whole : List ℕ) (n : ℕ) : Type 0 where
    pub links : List ℕ
    pub number : length links ≡ n
    pub rest : links ++ ahead ≡ whole
    pub without : IsValid entry q → IsMember links q.0 → ⊥

  pub none_passed : (whole : List ℕ) → IsPassed whole whole 0
  none_passed whole = record { links = []; number = refl; rest = refl; without = λ valid has. absurd has }

  same_pointer : (p : ℕ × Gen) → IsValid entry p → IsValid entry q → p.0 ≡ q.0 → p ≡ q
  same_pointer p here there same =
      let both = one_some (sym here.stored ∙ (ap entry same ∙ there.stored)) in
      ap (λ i. (i, p.1)) same ∙ ap (λ (e : Gen × T). (q.0, e.0)) both

  pub one_passed : (ahead next whole : List ℕ) (n : ℕ) (p : ℕ × Gen) → IsPassed ahead whole n → ahead ≡ p.0 ∷ next → IsValid entry p → p ≢ q → IsPassed next whole (n + 1)
  one_passed ahead next whole n p part is valid other = record {
    links = part.links ++ p.0 ∷ [];
    number = length-append part.links (p.0 ∷ []) ∙ ap (λ k. k + 1) part.number;
    rest = append_assoc part.links (p.0 ∷ []) next ∙ (ap (λ l. part.links ++ l) (sym is) ∙ part.rest);
    without = λ there has. ⊎_elim
        (λ before. part.without there before)
        (λ last. ⊎_elim (λ same. other (same_pointer p valid there same)) (λ none. absurd none) last)
        (IsMember-parts part.links (p.0 ∷ []) q.0 has);
  }

  pub place_found : (links : LinkMap) (p : ℕ × Gen) (ahead next whole : List ℕ) (n : ℕ) → IsPassed ahead whole n → ahead ≡ q.0 ∷ next → IsValid entry p → IsValid entry q → IsWalk links p.0 whole → FindsPlace entry links p q (Some n)
  place_found links p ahead next whole n part is start valid walk =
      (start, valid, part.links, next, subst (IsWalk links p.0) (sym (ap (λ l. part.links ++ l) (sym is) ∙ part.rest)) walk, part.number)

-- The values of passed links.
module _ {Gen T : Type 0} (entry : ℕ → Option (Gen × T)) where
  abbrev pub value_at : ℕ → Option T
  value_at i = option_map (λ (e : Gen × T). e.1) (entry i)

  pub record AreRead (ahead whole : List ℕ) (values : List T) : Type 0 where
    pub links : List ℕ
    pub rest : links ++ ahead ≡ whole
    pub are_values : map value_at links ≡ map (λ t. Some t) values

  pub none_read : (whole : List ℕ) → AreRead whole whole []
  none_read whole = record { links = []; rest = refl; are_values = refl }

  pub one_read : (ahead next whole : List ℕ) (values after : List T) (p : ℕ × Gen) (t : T) → AreRead ahead whole values → ahead ≡ p.0 ∷ next → entry p.0 ≡ Some (p.1, t) → after ≡ values ++ t ∷ [] → AreRead next whole after
  one_read ahead next whole values after p t part is stored pushed = record {
    links = part.links ++ p.0 ∷ [];
    rest = append_assoc part.links (p.0 ∷ []) next ∙ (ap (λ l. part.links ++ l) (sym is) ∙ part.rest);
    are_values = map-append value_at part.links (p.0 ∷ [])
        ∙ (ap (λ l. l ++ value_at p.0 ∷ []) part.are_values ∙ (ap (λ (o : Option (Gen × T)). map (λ t. Some t) values ++ option_map (λ (e : Gen × T). e.1) o ∷ []) stored ∙ (sym (map-append (λ (t : T). Some t) values (t ∷ [])) ∙ ap (λ l. map (λ t. Some t) l) (sym pushed))));
  }
