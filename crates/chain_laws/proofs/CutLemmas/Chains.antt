-- The chains after a cut, and that `Cuts` determines them.
use Rattle.std.specs.Prelude.{◌≡◌, ◌≢◌, ◌↔◌, ℕ, List, [], ◌∷◌, ◌++◌, Option, None, Some}
use Rattle.std.proofs.Common.{sym, refl, ap, ◌∙◌, subst, inl, ⊎_elim}
use Rattle.std.proofs.lemmas.List.{append_assoc}
use Rattle.chain_laws.specs.Chains.{LinkMap, Chain, linear, cyclic, items, IsChain, IsWellLinked, IsMember, AreDistinct, AreLinked, prev_of, first_or, last_or}
use Rattle.chain_laws.specs.Neighbors.{AreNeighbors}
use Rattle.chain_laws.specs.Joins.{with_prev_at, with_next_at, with_neighbors}
use Rattle.chain_laws.specs.Cuts.{without_pair, Cuts, CutIsDetermined}
use Rattle.chain_laws.proofs.InterlinkLemmas.Inverses.{one_some}
use Rattle.chain_laws.proofs.ListLemmas.Members.{IsMember-written, IsMember-middle, IsMember-filled, last_or-append, last_or-IsMember, AreDistinct-left, AreDistinct-right, AreDistinct-apart}
use Rattle.chain_laws.proofs.ChainLemmas.LinkedLists.{AreLinked-left, AreLinked-right, AreLinked-at, reports_next, reports_prev, next_valid}
use Rattle.chain_laws.proofs.ChainLemmas.Uniqueness.{chain_closed}
use Rattle.chain_laws.proofs.ChainLemmas.Rotations.{rotated_to}
use Rattle.chain_laws.proofs.ChainLemmas.Existence.{ChainOf, stored_in, has_chain}
use Rattle.chain_laws.proofs.JoinLemmas.Lists.{IsOutside, IsOutside-Some, AreLinked-with_next_at, AreLinked-with_prev_at, AreLinked-next_of_last, AreLinked-prev_of_first, IsChain-linked}
use Rattle.chain_laws.proofs.ChainLemmas.Determinacy.{NamesChains, settled}

parts_stored : (link_map : LinkMap) (a b : ℕ) (xs y : List ℕ) → xs ≢ [] → last_or xs None ≡ Some a → AreDistinct (xs ++ b ∷ y) → AreLinked link_map None (xs ++ b ∷ y) None
    → IsChain (without_pair link_map a b) (linear xs) × IsChain (without_pair link_map a b) (linear (b ∷ y))
parts_stored link_map a b xs y filled ends once stored =
    let ended = with_next_at link_map (Some a) None in
    let xs_once : AreDistinct xs = AreDistinct-left xs (b ∷ y) once in
    let ys_once : AreDistinct (b ∷ y) = AreDistinct-right xs (b ∷ y) once in
    let left : AreLinked ended None xs None =
    subst (λ (o : Option ℕ). AreLinked (with_next_at link_map o None) None xs None) ends
    (AreLinked-next_of_last link_map None None xs (Some b) xs_once (AreLinked-left link_map None xs (b ∷ y) None stored)) in
    let right : AreLinked ended (last_or xs None) (b ∷ y) None =
    AreLinked-with_next_at link_map (Some a) None (last_or xs None) (b ∷ y) None (IsOutside-Some a (b ∷ y) a_apart) (AreLinked-right link_map None xs (b ∷ y) None stored) in (
      (filled, xs_once, AreLinked-with_prev_at ended (Some b) None None xs None (IsOutside-Some b xs b_apart) left),
      (IsMember-filled (b ∷ y) b (inl refl), ys_once, AreLinked-prev_of_first ended None (last_or xs None) (b ∷ y) None ys_once right),
    )
  where
    a_apart : IsMember (b ∷ y) a → ⊥
    a_apart h = ⊎_elim (λ k. AreDistinct-apart xs (b ∷ y) a once k h) (λ e. absurd (cc)) (last_or-IsMember xs None a ends)

    b_apart : IsMember xs b → ⊥
    b_apart h = AreDistinct-apart xs (b ∷ y) b once h (inl refl)

pub cut_two : (link_map : LinkMap) (a b : ℕ) (x y : List ℕ) → IsChain link_map (linear (x ++ a ∷ b ∷ y))
    → IsChain (without_pair link_map a b) (linear (x ++ a ∷ [])) × IsChain (without_pair link_map a b) (linear (b ∷ y))
cut_two link_map a b x y chain =
    let split : IsChain link_map (linear ((x ++ a ∷ []) ++ b ∷ y)) = subst (λ (zs : List ℕ). IsChain link_map (linear zs)) (sym (append_assoc x (a ∷ []) (b ∷ y))) chain in
    parts_stored link_map a b (x ++ a ∷ []) y (IsMember-filled (x ++ a ∷ []) a (IsMember-middle x [] a)) (last_or-append x (a ∷ []) None) split.1 split.2

pub cut_one : (link_map : LinkMap) (a b : ℕ) (xs : List ℕ) → IsChain link_map (cyclic xs) → first_or xs None ≡ Some b → last_or xs None ≡ Some a
    → IsChain (without_pair link_map a b) (linear xs)
cut_one link_map a b [] chain starts ends = absurd (chain.0 refl)
cut_one link_map a b (x ∷ xs) chain starts ends =
    let ended : AreLinked (with_next_at link_map (Some a) None) (last_or xs (Some x)) (x ∷ xs) None =
    subst (λ (o : Option ℕ). AreLinked (with_next_at link_map o None) (last_or xs (Some x)) (x ∷ xs) None) ends
    (AreLinked-next_of_last link_map None (last_or xs (Some x)) (x ∷ xs) (Some x) chain.1 chain.2) in (
      chain.0,
      chain.1,
      subst (λ (o : Option ℕ). AreLinked (with_prev_at (with_next_at link_map (Some a) None) o None) None (x ∷ xs) None) starts
          (AreLinked-prev_of_first (with_next_at link_map (Some a) None) None (last_or xs (Some x)) (x ∷ xs) None chain.1 ended),
    )

nowhere_apart : (xs : List ℕ) → IsOutside None xs
nowhere_apart xs k e h = cc

cut_rest : (link_map : LinkMap) (a b : ℕ) (c : Chain) → (IsMember (items c) a → ⊥) → (IsMember (items c) b → ⊥) → IsChain link_map c ↔ IsChain (without_pair link_map a b) c
cut_rest link_map a b c none_a none_b =
    let inner = IsChain-linked link_map (Some a) None c (IsOutside-Some a (items c) none_a) (nowhere_apart (items c)) in
    let outer = IsChain-linked (with_neighbors link_map (Some a) None) None (Some b) c (nowhere_apart (items c)) (IsOutside-Some b (items c) none_b) in
    (λ h. outer.0 (inner.0 h), λ h. inner.1 (outer.1 h))

pub cut_cuts : (link_map : LinkMap) (a b : ℕ) → Cuts link_map (without_pair link_map a b) a b
cut_cuts link_map a b = record { two = cut_two link_map a b; one = cut_one link_map a b; rest = cut_rest link_map a b }

abbrev Parted : LinkMap → ℕ → ℕ → Type 0
Parted old a b = NamesChains (λ (new : LinkMap). Cuts old new a b) a b

parted_ring : (old : LinkMap) (a b : ℕ) (rest : List ℕ) → IsChain old (cyclic (b ∷ rest)) → prev_of old b ≡ Some a → IsMember (b ∷ rest) a → Parted old a b
parted_ring old a b rest ring before has =
    let ends : last_or (b ∷ rest) None ≡ Some a = sym (reports_prev old b _ _ ring.2.0) ∙ before in
    record {
      left = linear (b ∷ rest);
      right = linear (b ∷ rest);
      has_a = has;
      has_b = inl refl;
      left_stored = λ new cuts. cuts.one (b ∷ rest) ring refl ends;
      right_stored = λ new cuts. cuts.one (b ∷ rest) ring refl ends;
    }

parted : (old : LinkMap) (a b : ℕ) → IsWellLinked old → AreNeighbors old a b → ChainOf old a → Parted old a b
parted old a b agrees pair (stored_in (linear xs) chain has) = let w = IsMember-written xs a has in by w.0 w.1 w.2
  where
    links : (x rest : List ℕ) → xs ≡ x ++ a ∷ rest → first_or rest None ≡ Some b
    links x rest e =
        let here : AreLinked old None (x ++ a ∷ rest) None = subst (λ (zs : List ℕ). AreLinked old None zs None) e chain.2 in
        sym (reports_next old a _ _ (AreLinked-at old None x rest None a here)) ∙ pair

    by : (x rest : List ℕ) → xs ≡ x ++ a ∷ rest → Parted old a b
    by x [] e = let none : None ≡ Some b = links x [] e in absurd (cc)
    by x (k ∷ y) e =
        let same : k ≡ b = one_some (links x (k ∷ y) e) in
        let here : IsChain old (linear (x ++ a ∷ b ∷ y)) =
        subst (λ (zs : List ℕ). IsChain old (linear zs)) (e ∙ ap (λ (j : ℕ). x ++ a ∷ j ∷ y) same) chain in
        record {
          left = linear (x ++ a ∷ []);
          right = linear (b ∷ y);
          has_a = IsMember-middle x [] a;
          has_b = inl refl;
          left_stored = λ new cuts. (cuts.two x y here).0;
          right_stored = λ new cuts. (cuts.two x y here).1;
        }
parted old a b agrees pair (stored_in (cyclic xs) chain has) =
    let closed = chain_closed old (cyclic xs) chain in
    let t = rotated_to old xs b chain (closed.forward a b has pair) in
    parted_ring old a b t.0 t.1 ((agrees.both a b).0 pair) ((t.2 a).0 has)

pub cut_is_determined : CutIsDetermined
cut_is_determined old new slots a b agrees within pair cuts =
    settled old new (without_pair old a b) (λ (s : LinkMap). Cuts old s a b) a b (λ s made. made.rest)
    (parted old a b agrees pair (has_chain old slots agrees within a (next_valid old a b pair))) cuts (cut_cuts old a b)
