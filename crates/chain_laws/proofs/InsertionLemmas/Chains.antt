-- Chains after an insertion: into a list, between two lists, or closing one to a ring.
use Rattle.std.specs.Prelude.{◌≡◌, ◌≢◌, ◌↔◌, ℕ, ◌⊎◌, List, [], ◌∷◌, ◌++◌, Option, None, Some}
use Rattle.std.proofs.Common.{sym, refl, ◌∙◌, subst, subst₂, inl, inr, ⊎_elim}
use Rattle.std.proofs.lemmas.List.{append_assoc}
use Rattle.chain_laws.specs.Chains.{LinkMap, Chain, linear, cyclic, items, IsChain, IsMember, AreDistinct, AreLinked, prev_of, next_of, first_or, last_or}
use Rattle.chain_laws.specs.Joins.{with_neighbors, with_lone}
use Rattle.chain_laws.specs.Insertions.{with_insertion, HasIndex, InsertionInserts}
use Rattle.chain_laws.proofs.ListLemmas.Members.{IsMember-left, IsMember-right, IsMember-parts, IsMember-middle, IsMember-filled, first_or-IsMember, last_or-IsMember, last_or-append}
use Rattle.chain_laws.proofs.ListLemmas.Members.{AreDistinct-left, AreDistinct-right, AreDistinct-apart, AreDistinct-append}
use Rattle.chain_laws.proofs.ChainLemmas.LinkedLists.{AreLinked-left, AreLinked-right, AreLinked-at, AreLinked-last, reports_next, reports_prev}
use Rattle.chain_laws.proofs.ChainLemmas.Uniqueness.{chain_closed, chain_valid, reaches_first}
use Rattle.chain_laws.proofs.ChainLemmas.Rotations.{rotated}
use Rattle.chain_laws.proofs.JoinLemmas.Lists.{IsOutside, IsOutside-Some, AreLinked-linked, AreLinked-glued, AreLinked-ringed, IsChain-linked}
use Rattle.chain_laws.proofs.JoinLemmas.LoneLinks.{with_lone-at, AreLinked-with_lone, with_lone_adds}
use Rattle.chain_laws.proofs.InsertionLemmas.Pairs.{free_invalid, appended, HasLink-inserted}

last_apart : (xs ys : List ℕ) → ((k : ℕ) → IsMember xs k → IsMember ys k → ⊥) → IsOutside (last_or xs None) ys
last_apart xs ys apart k named h = ⊎_elim (λ g. apart k g h) (λ e. absurd (cc)) (last_or-IsMember xs None k named)

first_apart : (xs ys : List ℕ) → ((k : ℕ) → IsMember xs k → IsMember ys k → ⊥) → IsOutside (first_or ys None) xs
first_apart xs ys apart k named h = ⊎_elim (λ g. apart k h g) (λ e. absurd (cc)) (first_or-IsMember ys None k named)

one_apart : (xs : List ℕ) (q : ℕ) → (IsMember xs q → ⊥) → (k : ℕ) → IsMember xs k → IsMember (q ∷ []) k → ⊥
one_apart xs q none k h (inl e) = none (subst (IsMember xs) (sym e) h)
one_apart xs q none k h (inr g) = g

once_appended : (xs : List ℕ) (q : ℕ) → AreDistinct xs → (IsMember xs q → ⊥) → AreDistinct (xs ++ q ∷ [])
once_appended xs q once none = AreDistinct-append xs (q ∷ []) once (λ h. h, tt) (one_apart xs q none)

AreLinked-appended : (link_map : LinkMap) (q : ℕ) (before : Option ℕ) (xs : List ℕ) (after : Option ℕ) → last_or xs before ≡ last_or xs None
    → AreDistinct xs → (IsMember xs q → ⊥) → AreLinked link_map before xs after → AreLinked (appended link_map q (last_or xs None)) before (xs ++ q ∷ []) None
AreLinked-appended link_map q before xs after ends once none stored =
    subst (λ (u : Option ℕ). AreLinked (appended link_map q u) before (xs ++ q ∷ []) None) ends
    (AreLinked-glued (with_lone link_map q) before xs after None (q ∷ []) None once (λ h. h, tt)
    (subst (λ (u : Option ℕ). IsOutside u (q ∷ [])) (sym ends) (last_apart xs (q ∷ []) (one_apart xs q none)))
    (IsOutside-Some q xs none)
    ((AreLinked-with_lone link_map q before xs after none).0 stored)
    (with_lone-at link_map q q refl, tt))

pub inserted_between : (link_map : LinkMap) (q : ℕ) (xs : List ℕ) (xs_after ys_before : Option ℕ) (ys : List ℕ) → AreDistinct (xs ++ ys)
    → (IsMember (xs ++ ys) q → ⊥) → AreLinked link_map None xs xs_after → AreLinked link_map ys_before ys None
    → IsChain (with_insertion link_map q (last_or xs None) (first_or ys None)) (linear (xs ++ q ∷ ys))
inserted_between link_map q xs xs_after ys_before ys once none xs_stored ys_stored =
    let u = last_or xs None in
    let longer = xs ++ q ∷ [] in
    let xs_once : AreDistinct longer = once_appended xs q (AreDistinct-left xs ys once) not_left in
    let ys_once : AreDistinct ys = AreDistinct-right xs ys once in
    let left : AreLinked (appended link_map q u) None longer None = AreLinked-appended link_map q None xs xs_after refl (AreDistinct-left xs ys once) not_left xs_stored in
    let right : AreLinked (appended link_map q u) ys_before ys None =
    AreLinked-linked (with_lone link_map q) u (Some q) ys_before ys None (last_apart xs ys apart) (IsOutside-Some q ys not_right)
    ((AreLinked-with_lone link_map q ys_before ys None not_right).0 ys_stored) in
    let glued : AreLinked (with_neighbors (appended link_map q u) (last_or longer None) (first_or ys None)) None (longer ++ ys) None =
    AreLinked-glued (appended link_map q u) None longer None ys_before ys None xs_once ys_once
    (last_apart longer ys longer_apart) (first_apart longer ys longer_apart) left right in
    let chain : IsChain (with_insertion link_map q u (first_or ys None)) (linear (longer ++ ys)) = (
      IsMember-filled (longer ++ ys) q (IsMember-left longer ys q (IsMember-middle xs [] q)),
      AreDistinct-append longer ys xs_once ys_once longer_apart,
      subst (λ (o : Option ℕ). AreLinked (with_neighbors (appended link_map q u) o (first_or ys None)) None (longer ++ ys) None) (last_or-append xs (q ∷ []) None) glued,
    ) in
    subst (λ (zs : List ℕ). IsChain (with_insertion link_map q u (first_or ys None)) (linear zs)) (append_assoc xs (q ∷ []) ys) chain
  where
    apart : (k : ℕ) → IsMember xs k → IsMember ys k → ⊥
    apart k h g = AreDistinct-apart xs ys k once h g

    not_left : IsMember xs q → ⊥
    not_left h = none (IsMember-left xs ys q h)

    not_right : IsMember ys q → ⊥
    not_right h = none (IsMember-right xs ys q h)

    longer_apart : (k : ℕ) → IsMember (xs ++ q ∷ []) k → IsMember ys k → ⊥
    longer_apart k h g = by (IsMember-parts xs (q ∷ []) k h)
      where
        by : IsMember xs k ⊎ IsMember (q ∷ []) k → ⊥
        by (inl m) = apart k m g
        by (inr m) = one_apart ys q not_right k g m

pub inserted_cyclic : (link_map : LinkMap) (q : ℕ) (before : Option ℕ) (xs : List ℕ) (after : Option ℕ) → xs ≢ [] → AreDistinct xs → (IsMember xs q → ⊥)
    → AreLinked link_map before xs after → IsChain (with_insertion link_map q (last_or xs None) (first_or xs None)) (cyclic (xs ++ q ∷ []))
inserted_cyclic link_map q before [] after filled once none stored = absurd (filled refl)
inserted_cyclic link_map q before (x ∷ xs) after filled once none stored =
    let u = last_or xs (Some x) in
    let longer = x ∷ xs ++ q ∷ [] in
    let longer_once : AreDistinct longer = once_appended (x ∷ xs) q once none in
    let ringed : AreLinked (with_neighbors (appended link_map q u) (last_or longer None) (Some x)) (last_or longer None) longer (Some x) =
    AreLinked-ringed (appended link_map q u) before longer None longer_once (AreLinked-appended link_map q before (x ∷ xs) after refl once none stored) in (
      IsMember-filled longer x (inl refl),
      longer_once,
      subst (λ (o : Option ℕ). AreLinked (with_neighbors (appended link_map q u) o (Some x)) (last_or longer None) longer (Some x))
          (last_or-append (x ∷ xs) (q ∷ []) None) ringed,
    )

chain_excludes_free : (link_map : LinkMap) (q : ℕ) (c : Chain) → link_map q ≡ None → IsChain link_map c → IsMember (items c) q → ⊥
chain_excludes_free link_map q c free chain h = free_invalid link_map q free (chain_valid link_map c q chain h)

inserted_in_linear : (link_map : LinkMap) (q : ℕ) (xs ys : List ℕ) → link_map q ≡ None → IsChain link_map (linear (xs ++ ys))
    → IsChain (with_insertion link_map q (last_or xs None) (first_or ys None)) (linear (xs ++ q ∷ ys))
inserted_in_linear link_map q xs ys free chain =
    inserted_between link_map q xs (first_or ys None) (last_or xs None) ys chain.1 (chain_excludes_free link_map q (linear (xs ++ ys)) free chain)
    (AreLinked-left link_map None xs ys None chain.2) (AreLinked-right link_map None xs ys None chain.2)

inserted_in_cyclic : (link_map : LinkMap) (q : ℕ) (xs ys : List ℕ) → link_map q ≡ None → IsChain link_map (cyclic (xs ++ ys))
    → IsChain (with_insertion link_map q (last_or (ys ++ xs) None) (first_or (ys ++ xs) None)) (cyclic (xs ++ q ∷ ys))
inserted_in_cyclic link_map q xs ys free chain =
    let new = with_insertion link_map q (last_or (ys ++ xs) None) (first_or (ys ++ xs) None) in
    let ring : IsChain link_map (cyclic (ys ++ xs)) = rotated link_map xs ys chain in
    let longer : IsChain new (cyclic ((ys ++ xs) ++ q ∷ [])) =
    inserted_cyclic link_map q (last_or (ys ++ xs) None) (ys ++ xs) (first_or (ys ++ xs) None) ring.0 ring.1
    (chain_excludes_free link_map q (cyclic (ys ++ xs)) free ring) ring.2 in
    let rotated_back : IsChain new (cyclic ((xs ++ q ∷ []) ++ ys)) =
    rotated new ys (xs ++ q ∷ []) (subst (λ (zs : List ℕ). IsChain new (cyclic zs)) (append_assoc ys xs (q ∷ [])) longer) in
    subst (λ (zs : List ℕ). IsChain new (cyclic zs)) (append_assoc xs (q ∷ []) ys) rotated_back

inserted_after_in_linear : (link_map : LinkMap) (a q : ℕ) (x y : List ℕ) → link_map q ≡ None → IsChain link_map (linear (x ++ a ∷ y))
    → IsChain (with_insertion link_map q (Some a) (next_of link_map a)) (linear (x ++ a ∷ q ∷ y))
inserted_after_in_linear link_map a q x y free chain =
    let split : IsChain link_map (linear ((x ++ a ∷ []) ++ y)) = subst (λ (zs : List ℕ). IsChain link_map (linear zs)) (sym (append_assoc x (a ∷ []) y)) chain in
    let ends : last_or (x ++ a ∷ []) None ≡ Some a = last_or-append x (a ∷ []) None in
    let follows : first_or y None ≡ next_of link_map a = sym (reports_next link_map a _ _ (AreLinked-at link_map None x y None a chain.2)) in
    subst (λ (zs : List ℕ). IsChain (with_insertion link_map q (Some a) (next_of link_map a)) (linear zs)) (append_assoc x (a ∷ []) (q ∷ y))
    (subst₂ (λ (u v : Option ℕ). IsChain (with_insertion link_map q u v) (linear ((x ++ a ∷ []) ++ q ∷ y))) ends follows
    (inserted_in_linear link_map q (x ++ a ∷ []) y free split))

inserted_after_in_cyclic : (link_map : LinkMap) (a q : ℕ) (x y : List ℕ) → link_map q ≡ None → IsChain link_map (cyclic (x ++ a ∷ y))
    → IsChain (with_insertion link_map q (Some a) (next_of link_map a)) (cyclic (x ++ a ∷ q ∷ y))
inserted_after_in_cyclic link_map a q x y free chain =
    let once_around = y ++ (x ++ a ∷ []) in
    let split : IsChain link_map (cyclic ((x ++ a ∷ []) ++ y)) = subst (λ (zs : List ℕ). IsChain link_map (cyclic zs)) (sym (append_assoc x (a ∷ []) y)) chain in
    let ring : IsChain link_map (cyclic once_around) = rotated link_map (x ++ a ∷ []) y split in
    let ends : last_or once_around None ≡ Some a = last_or-append y (x ++ a ∷ []) None ∙ last_or-append x (a ∷ []) (last_or y None) in
    let follows : first_or once_around None ≡ next_of link_map a = sym (AreLinked-last link_map _ once_around _ a ring.2 ring.0 ends) in
    subst (λ (zs : List ℕ). IsChain (with_insertion link_map q (Some a) (next_of link_map a)) (cyclic zs)) (append_assoc x (a ∷ []) (q ∷ y))
    (subst₂ (λ (u v : Option ℕ). IsChain (with_insertion link_map q u v) (cyclic ((x ++ a ∷ []) ++ q ∷ y))) ends follows
    (inserted_in_cyclic link_map q (x ++ a ∷ []) y free split))

inserted_before_in_linear : (link_map : LinkMap) (b q : ℕ) (x y : List ℕ) → link_map q ≡ None → IsChain link_map (linear (x ++ b ∷ y))
    → IsChain (with_insertion link_map q (prev_of link_map b) (Some b)) (linear (x ++ q ∷ b ∷ y))
inserted_before_in_linear link_map b q x y free chain =
    let precedes : last_or x None ≡ prev_of link_map b = sym (reports_prev link_map b _ _ (AreLinked-at link_map None x y None b chain.2)) in
    subst (λ (u : Option ℕ). IsChain (with_insertion link_map q u (Some b)) (linear (x ++ q ∷ b ∷ y))) precedes (inserted_in_linear link_map q x (b ∷ y) free chain)

inserted_before_in_cyclic : (link_map : LinkMap) (b q : ℕ) (x y : List ℕ) → link_map q ≡ None → IsChain link_map (cyclic (x ++ b ∷ y))
    → IsChain (with_insertion link_map q (prev_of link_map b) (Some b)) (cyclic (x ++ q ∷ b ∷ y))
inserted_before_in_cyclic link_map b q x y free chain =
    let ring : IsChain link_map (cyclic (b ∷ y ++ x)) = rotated link_map x (b ∷ y) chain in
    let precedes : last_or (b ∷ y ++ x) None ≡ prev_of link_map b = sym (reports_prev link_map b _ _ ring.2.0) in
    subst (λ (u : Option ℕ). IsChain (with_insertion link_map q u (Some b)) (cyclic (x ++ q ∷ b ∷ y))) precedes (inserted_in_cyclic link_map q x (b ∷ y) free chain)

inserted_two : (link_map : LinkMap) (a b q : ℕ) (x y : List ℕ) → link_map q ≡ None → IsChain link_map (linear (x ++ a ∷ [])) → IsChain link_map (linear (b ∷ y))
    → (IsMember (x ++ a ∷ []) b → ⊥) → IsChain (with_insertion link_map q (Some a) (Some b)) (linear ((x ++ a ∷ q ∷ []) ++ b ∷ y))
inserted_two link_map a b q x y free left right none =
    let longer : IsChain (with_insertion link_map q (last_or (x ++ a ∷ []) None) (Some b)) (linear ((x ++ a ∷ []) ++ q ∷ b ∷ y)) =
    inserted_between link_map q (x ++ a ∷ []) None None (b ∷ y) (AreDistinct-append (x ++ a ∷ []) (b ∷ y) left.1 right.1 apart) absent left.2 right.2 in
    subst₂ (λ (u : Option ℕ) (zs : List ℕ). IsChain (with_insertion link_map q u (Some b)) (linear zs)) (last_or-append x (a ∷ []) None) written longer
  where
    apart : (k : ℕ) → IsMember (x ++ a ∷ []) k → IsMember (b ∷ y) k → ⊥
    apart k h g = none (reaches_first link_map (IsMember (x ++ a ∷ [])) None b y None k (chain_closed link_map (linear (x ++ a ∷ [])) left) right.2 g h)

    absent : IsMember ((x ++ a ∷ []) ++ b ∷ y) q → ⊥
    absent h = ⊎_elim
        (chain_excludes_free link_map q (linear (x ++ a ∷ [])) free left)
        (chain_excludes_free link_map q (linear (b ∷ y)) free right)
        (IsMember-parts (x ++ a ∷ []) (b ∷ y) q h)

    written : (x ++ a ∷ []) ++ q ∷ b ∷ y ≡ (x ++ a ∷ q ∷ []) ++ b ∷ y
    written = append_assoc x (a ∷ []) (q ∷ b ∷ y) ∙ sym (append_assoc x (a ∷ q ∷ []) (b ∷ y))

inserted_one : (link_map : LinkMap) (a b q : ℕ) (xs : List ℕ) → link_map q ≡ None → IsChain link_map (linear xs)
    → first_or xs None ≡ Some b → last_or xs None ≡ Some a → IsChain (with_insertion link_map q (Some a) (Some b)) (cyclic (xs ++ q ∷ []))
inserted_one link_map a b q xs free chain starts ends =
    subst₂ (λ (u v : Option ℕ). IsChain (with_insertion link_map q u v) (cyclic (xs ++ q ∷ []))) ends starts
    (inserted_cyclic link_map q None xs None chain.0 chain.1 (chain_excludes_free link_map q (linear xs) free chain) chain.2)

inserted_ring : (link_map : LinkMap) (q : ℕ) → IsChain (with_insertion link_map q (Some q) (Some q)) (cyclic (q ∷ []))
inserted_ring link_map q =
    let once : AreDistinct (q ∷ []) = (λ h. h, tt) in
    let closed : AreLinked (appended link_map q (Some q)) (Some q) (q ∷ []) (Some q) =
    AreLinked-ringed (with_lone link_map q) None (q ∷ []) None once (with_lone-at link_map q q refl, tt) in
    (IsMember-filled (q ∷ []) q (inl refl), once, AreLinked-ringed (appended link_map q (Some q)) (Some q) (q ∷ []) (Some q) once closed)

pub HasIndex-apart : (c : Chain) (u : Option ℕ) → (HasIndex c u → ⊥) → IsOutside u (items c)
HasIndex-apart c None none k e h = cc
HasIndex-apart c (Some i) none k e h = IsOutside-Some i (items c) none k e h

inserted_rest : (link_map : LinkMap) (q : ℕ) (u v : Option ℕ) → link_map q ≡ None → (c : Chain)
    → (IsMember (items c) q → ⊥) → (HasIndex c u → ⊥) → (HasIndex c v → ⊥) → IsChain link_map c ↔ IsChain (with_insertion link_map q u v) c
inserted_rest link_map q u v free c none_q none_u none_v =
    let alone = (with_lone_adds link_map q free).rest c none_q in
    let inner = IsChain-linked (with_lone link_map q) u (Some q) c (HasIndex-apart c u none_u) (IsOutside-Some q (items c) none_q) in
    let outer = IsChain-linked (appended link_map q u) (Some q) v c (IsOutside-Some q (items c) none_q) (HasIndex-apart c v none_v) in
    (λ h. outer.0 (inner.0 (alone.0 h)), λ h. alone.1 (inner.1 (outer.1 h)))

pub inserted_inserts : InsertionInserts
inserted_inserts link_map q u v free =
    record {
      alone = λ at_u at_v. moved at_u at_v (linear (q ∷ [])) (inserted_between link_map q [] None None [] tt (λ h. h) tt tt);
      ring = λ at_u at_v. moved at_u at_v (cyclic (q ∷ [])) (inserted_ring link_map q);
      after = λ a at_u at_v x y. (
        λ chain. moved at_u at_v (linear (x ++ a ∷ q ∷ y)) (inserted_after_in_linear link_map a q x y free chain),
        λ chain. moved at_u at_v (cyclic (x ++ a ∷ q ∷ y)) (inserted_after_in_cyclic link_map a q x y free chain),
      );
      before = λ b at_v at_u x y. (
        λ chain. moved at_u at_v (linear (x ++ q ∷ b ∷ y)) (inserted_before_in_linear link_map b q x y free chain),
        λ chain. moved at_u at_v (cyclic (x ++ q ∷ b ∷ y)) (inserted_before_in_cyclic link_map b q x y free chain),
      );
      two = λ a b at_u at_v x y left right none. moved at_u at_v (linear ((x ++ a ∷ q ∷ []) ++ b ∷ y)) (inserted_two link_map a b q x y free left right none);
      one = λ a b at_u at_v xs chain starts ends. moved at_u at_v (cyclic (xs ++ q ∷ [])) (inserted_one link_map a b q xs free chain starts ends);
      rest = inserted_rest link_map q u v free;
      links = HasLink-inserted link_map q u v;
    }
  where
    moved : {s t : Option ℕ} → u ≡ s → v ≡ t → (c : Chain) → IsChain (with_insertion link_map q s t) c → IsChain (with_insertion link_map q u v) c
    moved at_u at_v c chain = subst₂ (λ (s t : Option ℕ). IsChain (with_insertion link_map q s t) c) (sym at_u) (sym at_v) chain
