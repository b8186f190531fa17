-- The chains after a reversal.
use Rattle.std.proofs.Common.{◌≡◌, ◌≢◌, ℕ, ◌⊎◌, inl, inr, ⊎_elim, List, [], ◌∷◌, reverse, Option, None, Some, refl, sym, ap, ◌∙◌, subst}
use Rattle.std.specs.Prelude.{◌↔◌}
use Rattle.std.specs.Option.{option_map}
use mathlib.Core.List.{reverse_aux}
use Rattle.chain_laws.specs.Chains.{LinkMap, Interlinks, Chain, linear, cyclic, items, IsChain, IsMember, AreLinked, first_or, last_or}
use Rattle.chain_laws.specs.Reversals.{turned, with_turns, reversed, ReversalReverses, ReversalTwiceRestores}
use Rattle.chain_laws.proofs.ListLemmas.Members.{IsMember-or_not, filled-IsMember}
use Rattle.chain_laws.proofs.ChainLemmas.LinkedLists.{IsChain-frame}
use Rattle.chain_laws.proofs.ChainLemmas.Uniqueness.{chains_share}
use Rattle.chain_laws.proofs.WalkLemmas.Members.{IsMember-reversed, AreDistinct-reversed, walk_starts, walk_once, walk_chain, walk_has}
use Rattle.chain_laws.proofs.WalkLemmas.Walker.{first_or-reversed}
use Rattle.chain_laws.proofs.ReversalLemmas.Turns.{turns-at, turns-elsewhere}

AreLinked-turned : (old new : LinkMap) (xs zs : List ℕ) (after far : Option ℕ) → ((j : ℕ) → IsMember xs j → new j ≡ option_map turned (old j))
    → AreLinked old (first_or zs far) xs after → AreLinked new (first_or xs after) zs far → AreLinked new after (reverse_aux xs zs) far
AreLinked-turned old new [] zs after far each s t = t
AreLinked-turned old new (x ∷ xs) zs after far each s t =
    AreLinked-turned old new xs (x ∷ zs) after far (λ j h. each j (inr h)) s.1 (each x (inl refl) ∙ ap (option_map turned) s.0, t)

last_or-reversed : (xs zs : List ℕ) (before : Option ℕ) → last_or (reverse_aux xs zs) before ≡ last_or zs (first_or xs before)
last_or-reversed [] zs before = refl
last_or-reversed (x ∷ xs) zs before = last_or-reversed xs (x ∷ zs) before

reversed-filled : (xs : List ℕ) → xs ≢ [] → reverse xs ≢ []
reversed-filled xs filled e =
    let first = filled-IsMember xs filled in
    subst (λ (zs : List ℕ). IsMember zs first.0) e ((IsMember-reversed xs [] first.0).1 (inl first.1))

list-has : (xs : List ℕ) (j : ℕ) → IsMember (reverse xs) j ↔ IsMember xs j
list-has xs j = (λ h. ⊎_elim (λ k. k) (λ n. absurd n) ((IsMember-reversed xs [] j).0 h), λ h. (IsMember-reversed xs [] j).1 (inl h))

reversed-has : (c : Chain) (j : ℕ) → IsMember (items (reversed c)) j ↔ IsMember (items c) j
reversed-has (linear xs) j = list-has xs j
reversed-has (cyclic xs) j = list-has xs j

reversed-chain : (old new : LinkMap) (c : Chain) → ((j : ℕ) → IsMember (items c) j → new j ≡ option_map turned (old j)) → IsChain old c → IsChain new (reversed c)
reversed-chain old new (linear xs) each c =
    (reversed-filled xs c.0, AreDistinct-reversed xs [] c.1 tt (λ y h n. n), AreLinked-turned old new xs [] None None each c.2 tt)
reversed-chain old new (cyclic xs) each c = (
  reversed-filled xs c.0,
  AreDistinct-reversed xs [] c.1 tt (λ y h n. n),
  subst (λ (o : Option ℕ). AreLinked new o (reverse xs) (first_or (reverse xs) None)) (sym (last_or-reversed xs [] None))
      (subst (AreLinked new (first_or xs None) (reverse xs)) (sym (first_or-reversed xs []))
      (AreLinked-turned old new xs [] (first_or xs None) (last_or xs None) each c.2 tt)),
)

pub reversal_reverses : ReversalReverses
reversal_reverses link_map i walk is_walk = record {
  chain = chain;
  rest = λ c out. (
    λ h. IsChain-frame link_map new c (λ j m. sym (stays j (λ w. out (shared c h j m w)))) h,
    λ h. IsChain-frame new link_map c (λ j m. stays j (λ w. out (shared_after c h j m w))) h,
  );
}
  where
    new : LinkMap
    new = with_turns link_map walk

    stays : (j : ℕ) → (IsMember walk j → ⊥) → new j ≡ link_map j
    stays j out = turns-elsewhere link_map walk j out

    chain : (c : Chain) → IsChain link_map c → IsMember (items c) i → IsChain new (reversed c)
    chain c h has =
        reversed-chain link_map new c (λ j m. turns-at link_map walk j (walk_once link_map i walk is_walk) ((walk_has link_map i walk c is_walk h has j).1 m)) h

    own : (c : Chain) × IsChain link_map c × ((j : ℕ) → IsMember walk j ↔ IsMember (items c) j)
    own = walk_chain link_map i walk is_walk

    own_has : IsMember (items own.0) i
    own_has = (own.2 i).0 (walk_starts link_map i walk is_walk)

    shared : (c : Chain) → IsChain link_map c → (j : ℕ) → IsMember (items c) j → IsMember walk j → IsMember (items c) i
    shared c h j m w = chains_share link_map own.0 c j i own.1 h ((own.2 j).0 w) m own_has

    shared_after : (c : Chain) → IsChain new c → (j : ℕ) → IsMember (items c) j → IsMember walk j → IsMember (items c) i
    shared_after c h j m w =
        chains_share new (reversed own.0) c j i (chain own.0 own.1 own_has) h ((reversed-has own.0 j).1 ((own.2 j).0 w)) m ((reversed-has own.0 i).1 own_has)

pub reversal_twice_restores : ReversalTwiceRestores
reversal_twice_restores link_map i j walk back is_walk has is_back = λ at k. each k (IsMember-or_not walk k) at
  where
    new : LinkMap
    new = with_turns link_map walk

    own : (c : Chain) × IsChain link_map c × ((j : ℕ) → IsMember walk j ↔ IsMember (items c) j)
    own = walk_chain link_map i walk is_walk

    after : IsChain new (reversed own.0)
    after = (reversal_reverses link_map i walk is_walk).chain own.0 own.1 ((own.2 i).0 (walk_starts link_map i walk is_walk))

    members : (k : ℕ) → IsMember back k ↔ IsMember (items (reversed own.0)) k
    members k = walk_has new j back (reversed own.0) is_back after ((reversed-has own.0 j).1 ((own.2 j).0 has)) k

    there : (k : ℕ) → IsMember walk k → IsMember back k
    there k h = (members k).1 ((reversed-has own.0 k).1 ((own.2 k).0 h))

    here : (k : ℕ) → IsMember back k → IsMember walk k
    here k h = (own.2 k).1 ((reversed-has own.0 k).0 ((members k).0 h))

    twice : (o : Option Interlinks) → option_map turned (option_map turned o) ≡ o
    twice None = refl
    twice (Some l) = refl

    each : (k : ℕ) → IsMember walk k ⊎ (IsMember walk k → ⊥) → with_turns new back k ≡ link_map k
    each k (inl h) =
        turns-at new back k (walk_once new j back is_back) (there k h)
        ∙ ap (option_map turned) (turns-at link_map walk k (walk_once link_map i walk is_walk) h) ∙ twice (link_map k)
    each k (inr out) = turns-elsewhere new back k (λ h. out (here k h)) ∙ turns-elsewhere link_map walk k out
