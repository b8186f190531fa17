-- Lists of chains: which chain has an index.
use Rattle.std.proofs.Common.{◌≡◌, ℕ, ◌⊎◌, inl, inr, List, [], ◌∷◌, refl, sym, ◌∙◌, subst}
use Rattle.chain_laws.specs.Chains.{LinkMap, HasLink, IsMember, AreDistinct, Chain, items, HasChain, all_items, IsChain}
use Rattle.chain_laws.proofs.ListLemmas.Members.{IsMember-left, IsMember-right, IsMember-parts, AreDistinct-left, AreDistinct-right, AreDistinct-apart}
use Rattle.chain_laws.proofs.ChainLemmas.Uniqueness.{chain_valid}

pub IsMember-all_items : (chains : List Chain) (c : Chain) (i : ℕ) → HasChain chains c → IsMember (items c) i → IsMember (all_items chains) i
IsMember-all_items [] c i m h = elim m [ ]
IsMember-all_items (d ∷ chains) c i (inl e) h = IsMember-left (items d) (all_items chains) i (subst (λ (x : Chain). IsMember (items x) i) (sym e) h)
IsMember-all_items (d ∷ chains) c i (inr m) h = IsMember-right (items d) (all_items chains) i (IsMember-all_items chains c i m h)

pub chain_at : (chains : List Chain) (i : ℕ) → IsMember (all_items chains) i → (c : Chain) × HasChain chains c × IsMember (items c) i
chain_at [] i h = elim h [ ]
chain_at (d ∷ chains) i h = by_part (IsMember-parts (items d) (all_items chains) i h) (chain_at chains i)
  where
    by_part : IsMember (items d) i ⊎ IsMember (all_items chains) i → (IsMember (all_items chains) i → (c : Chain) × HasChain chains c × IsMember (items c) i)
        → (c : Chain) × HasChain (d ∷ chains) c × IsMember (items c) i
    by_part (inl k) rest = (d, inl refl, k)
    by_part (inr k) rest = let w = rest k in (w.0, inr w.1, w.2)

pub once_each : (chains : List Chain) (c : Chain) → AreDistinct (all_items chains) → HasChain chains c → AreDistinct (items c)
once_each [] c once m = elim m [ ]
once_each (d ∷ chains) c once (inl e) = subst (λ (x : Chain). AreDistinct (items x)) e (AreDistinct-left (items d) (all_items chains) once)
once_each (d ∷ chains) c once (inr m) = once_each chains c (AreDistinct-right (items d) (all_items chains) once) m

pub once_chain : (chains : List Chain) (c d : Chain) (i : ℕ) → AreDistinct (all_items chains) → HasChain chains c → HasChain chains d
    → IsMember (items c) i → IsMember (items d) i → c ≡ d
once_chain [] c d i once m n h k = elim m [ ]
once_chain (b ∷ chains) c d i once (inl e) (inl f) h k = sym e ∙ f
once_chain (b ∷ chains) c d i once (inl e) (inr n) h k =
    absurd (AreDistinct-apart (items b) (all_items chains) i once (subst (λ (x : Chain). IsMember (items x) i) (sym e) h) (IsMember-all_items chains d i n k))
once_chain (b ∷ chains) c d i once (inr m) (inl f) h k =
    absurd (AreDistinct-apart (items b) (all_items chains) i once (subst (λ (x : Chain). IsMember (items x) i) (sym f) k) (IsMember-all_items chains c i m h))
once_chain (b ∷ chains) c d i once (inr m) (inr n) h k =
    once_chain chains c d i (AreDistinct-right (items b) (all_items chains) once) m n h k

pub all_items_valid : (link_map : LinkMap) (chains : List Chain) (i : ℕ) → ((c : Chain) → HasChain chains c → IsChain link_map c) → IsMember (all_items chains) i → HasLink link_map i
all_items_valid link_map chains i each h =
    let w = chain_at chains i h in
    chain_valid link_map w.0 i (each w.0 w.1) w.2
