-- Chains that a change leaves alone.
use Rattle.std.proofs.Common.{◌≡◌, ℕ, inl, inr, ⊎_elim, Option, None, Some, refl, sym, subst}
use Rattle.chain_laws.specs.Chains.{LinkMap, Chain, items, IsMember, IsChain, IsWellLinked, prev_of, next_of}
use Rattle.chain_laws.specs.Joins.{with_join}
use Rattle.chain_laws.specs.Cuts.{without_pair}
use Rattle.chain_laws.specs.Removals.{without_link}
use Rattle.chain_laws.specs.declared.insert_kind.InsertKind.{InsertKind}
use Rattle.chain_laws.specs.declared.insert_kind.InsertKind.TheVariants.{Disconnected, SingleLinkCyclic, ChainEnd, ChainEndInx, ChainStart, ChainStartInx, NextTo, NextToInx, PrevTo, PrevToInx, AtInterlink, AtInterlinkInx, Bridge, BridgeInx}
use Rattle.chain_laws.specs.Insertions.{HasIndex, InsertsPairs, link_before, link_after, with_insertion}
use Rattle.chain_laws.specs.Frame.{IsDisjointFrom, links_named, SameLinksKeepAChain, InsertionKeepsOthers, InsertionMakesNoOthers, LoneKeepsEach, CutKeepsOthers, JoinMakesNoOthers, RemovalMakesNoOthers}
use Rattle.chain_laws.proofs.ChainLemmas.LinkedLists.{IsChain-frame}
use Rattle.chain_laws.proofs.JoinLemmas.Lists.{IsChain-linked}
use Rattle.chain_laws.proofs.JoinLemmas.Chains.{joined_agrees}
use Rattle.chain_laws.proofs.RemovalLemmas.Pairs.{vacated-at, vacated-elsewhere}
use Rattle.chain_laws.proofs.CutLemmas.Pairs.{cut_of_join}
use Rattle.chain_laws.proofs.CutLemmas.Chains.{cut_cuts}
use Rattle.chain_laws.proofs.InsertionLemmas.Pairs.{inserted_agrees, inserted_in_pairs}
use Rattle.chain_laws.proofs.InsertionLemmas.Chains.{HasIndex-apart, inserted_inserts}
use Rattle.chain_laws.proofs.ChainLemmas.MemberLaws.{free_is_in_no_chain, neighbors_share_a_chain}

pub same_links_keep_a_chain : SameLinksKeepAChain
same_links_keep_a_chain old new c same is = IsChain-frame old new c (λ i has. sym (same i has)) is

absent_next : (link_map : LinkMap) (c : Chain) (a : ℕ) → IsWellLinked link_map → IsChain link_map c → (IsMember (items c) a → ⊥) → HasIndex c (next_of link_map a) → ⊥
absent_next link_map c a agrees is absent = at (next_of link_map a) refl
  where
    at : (o : Option ℕ) → next_of link_map a ≡ o → HasIndex c o → ⊥
    at None next has = has
    at (Some j) next has = absent ((neighbors_share_a_chain link_map c a j agrees next is).1 has)

absent_prev : (link_map : LinkMap) (c : Chain) (b : ℕ) → IsWellLinked link_map → IsChain link_map c → (IsMember (items c) b → ⊥) → HasIndex c (prev_of link_map b) → ⊥
absent_prev link_map c b agrees is absent = at (prev_of link_map b) refl
  where
    at : (o : Option ℕ) → prev_of link_map b ≡ o → HasIndex c o → ⊥
    at None prev has = has
    at (Some j) prev has = absent ((neighbors_share_a_chain link_map c j b agrees ((agrees.both j b).1 prev) is).0 has)

module _ {P I : Type 0} (place : P → ℕ) (number : I → ℕ) (link_map : LinkMap) where
  absent_beside : (kind : InsertKind P I) (q : ℕ) (c : Chain) → IsWellLinked link_map → IsChain link_map c → (IsMember (items c) q → ⊥) → IsDisjointFrom c (links_named place number kind)
      → (HasIndex c (link_before place number link_map kind q) → ⊥) × (HasIndex c (link_after place number link_map kind q) → ⊥)
  absent_beside Disconnected q c agrees is outside absent = (λ h. h, λ h. h)
  absent_beside SingleLinkCyclic q c agrees is outside absent = (outside, outside)
  absent_beside (ChainEnd a) q c agrees is outside absent = (absent.0, λ h. h)
  absent_beside (ChainEndInx a) q c agrees is outside absent = (absent.0, λ h. h)
  absent_beside (ChainStart b) q c agrees is outside absent = (λ h. h, absent.0)
  absent_beside (ChainStartInx b) q c agrees is outside absent = (λ h. h, absent.0)
  absent_beside (NextTo a) q c agrees is outside absent = (absent.0, absent_next link_map c (place a) agrees is absent.0)
  absent_beside (NextToInx a) q c agrees is outside absent = (absent.0, absent_next link_map c (number a) agrees is absent.0)
  absent_beside (PrevTo b) q c agrees is outside absent = (absent_prev link_map c (place b) agrees is absent.0, absent.0)
  absent_beside (PrevToInx b) q c agrees is outside absent = (absent_prev link_map c (number b) agrees is absent.0, absent.0)
  absent_beside (AtInterlink a b) q c agrees is outside absent = (absent.0, absent.1.0)
  absent_beside (AtInterlinkInx a b) q c agrees is outside absent = (absent.0, absent.1.0)
  absent_beside (Bridge a b) q c agrees is outside absent = (absent.0, absent.1.0)
  absent_beside (BridgeInx a b) q c agrees is outside absent = (absent.0, absent.1.0)

pub insertion_keeps_others : (P I : Type 0) → InsertionKeepsOthers P I
insertion_keeps_others P I place number old new kind q agrees free inserts c absent is =
    let outside = free_is_in_no_chain old c q free is in
    let beside = absent_beside place number old kind q c agrees is outside absent in
    (inserts.rest c outside beside.0 beside.1).0 is

pub insertion_makes_no_others : InsertionMakesNoOthers
insertion_makes_no_others link_map q u v agrees free position c outside is =
    ((inserted_inserts link_map q u v free).rest c outside (before u refl) (after v refl)).1 is
  where
    agree : IsWellLinked (with_insertion link_map q u v)
    agree = inserted_agrees link_map q u v agrees free position

    inserts : InsertsPairs link_map (with_insertion link_map q u v) q u v
    inserts = inserted_in_pairs link_map q u v agrees free position

    before : (o : Option ℕ) → u ≡ o → HasIndex c o → ⊥
    before None at_u has = has
    before (Some i) at_u has = outside ((neighbors_share_a_chain (with_insertion link_map q u v) c i q agree ((inserts.pairs i q).1 (inr (inl (at_u, refl)))) is).0 has)

    after : (o : Option ℕ) → v ≡ o → HasIndex c o → ⊥
    after None at_v has = has
    after (Some j) at_v has = outside ((neighbors_share_a_chain (with_insertion link_map q u v) c q j agree ((inserts.pairs q j).1 (inr (inr (refl, at_v)))) is).1 has)

pub lone_keeps_each : LoneKeepsEach
lone_keeps_each old new q free adds c is = (adds.rest c (free_is_in_no_chain old c q free is)).0 is

pub cut_keeps_others : CutKeepsOthers
cut_keeps_others old new a b agrees pair cuts c absent is =
    let both = neighbors_share_a_chain old c a b agrees pair is in
    ⊎_elim (λ no_a. (cuts.rest c no_a (λ h. no_a (both.1 h))).0 is) (λ no_b. (cuts.rest c (λ h. no_b (both.0 h)) no_b).0 is) absent

pub join_makes_no_others : JoinMakesNoOthers
join_makes_no_others link_map a b agrees ends c absent is =
    let restored = cut_of_join link_map a b agrees ends in
    subst (λ (s : LinkMap). IsChain s c) restored.1
    (cut_keeps_others (with_join link_map a b) (without_pair (with_join link_map a b) a b) a b (joined_agrees link_map a b agrees ends) restored.0 (cut_cuts (with_join link_map a b) a b) c absent is)

pub removal_makes_no_others : RemovalMakesNoOthers
removal_makes_no_others link_map i c no_prev no_next is =
    let left = (IsChain-linked (without_link link_map i) (prev_of link_map i) (next_of link_map i) c (HasIndex-apart c (prev_of link_map i) no_prev) (HasIndex-apart c (next_of link_map i) no_next)).1 is in
    same_links_keep_a_chain (without_link link_map i) link_map c (λ j has. sym (vacated-elsewhere link_map i j (λ e. outside left (subst (λ (k : ℕ). IsMember (items c) k) e has)))) left
  where
    outside : IsChain (without_link link_map i) c → IsMember (items c) i → ⊥
    outside left has = free_is_in_no_chain (without_link link_map i) c i (vacated-at link_map i i refl) left has
