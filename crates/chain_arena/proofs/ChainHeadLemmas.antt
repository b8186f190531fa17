-- The heads of all chains.
use Rattle.std.proofs.Common.{◌≡◌, ◌≢◌, ◌↔◌, ℕ, zero, suc, ◌+◌, ◌<◌, ◌≤◌, ◌⊎◌, inl, inr, ⊎_elim, Bool, true, false, List, [], ◌∷◌, ◌++◌, length, map, replicate, Option, None, Some, refl, ap, sym, ◌∙◌, subst, arith}
use Rattle.std.specs.Prelude.{cond, is_none, is_some, if◌then◌else◌, slice_index_or, slice_set, All}
use Rattle.std.specs.List.{AllZip, AllByRecursion}
use Rattle.std.specs.Option.{option_map}
use Rattle.std.proofs.Math.Decide.{ℕ_discrete}
use Rattle.std.proofs.lemmas.Bool.{ne_eqb, eq-eqb}
use Rattle.std.proofs.lemmas.List.{append-nil, append_assoc, length-replicate, get_or_default, get_or-set_same, get_or-set_other}
use Rattle.std.proofs.lemmas.List.Elements.{All-from_recursion, recursion_from_All}
use Rattle.chain_laws.specs.Chains.{Chain, linear, cyclic, items, all_items, HasChain, IsMember, AreDistinct, IsChain, HasLink, IsWellLinked, AreChains, StartsAtLeast, IsSortedByLeast, first_or, prev_in, prev_of}
use Rattle.chain_laws.specs.Neighbors.{AreTheChains}
use Rattle.chain_laws.proofs.ListLemmas.Members.{IsMember-left, IsMember-right, IsMember-parts, AreDistinct-right, AreDistinct-apart}
use Rattle.chain_laws.proofs.ChainLemmas.Uniqueness.{cyclic_prev_some, written_least}
use Rattle.chain_laws.proofs.ChainLemmas.ChainLists.{all_items_valid}
use Rattle.chain_laws.proofs.ChainLemmas.MemberLaws.{lines_end}
use Rattle.chain_laws.proofs.ChainLemmas.NeighborPairs.{chains_from_pairs}
use Rattle.chain_laws.proofs.ChainLemmas.Partitions.{the_chains}
use Rattle.chain_laws.proofs.WalkLemmas.Members.{walk_has, walk_valid}
use Rattle.arena_traits.specs.Arena.{Arena, entry_at, IsValid, with_slot}
use Rattle.arena_traits.specs.Entries.{entries, found, AscendsFrom}
use Rattle.arena_traits.specs.EntryLaws.{entries_ascend, found-entries}
use Rattle.arena_traits.proofs.ArenaViewLemmas.{length-with_slot}
use Rattle.chain_links.specs.ChainArena.{LinkView, entry, link_map, interlinks_of, IsWalkOf}
use Rattle.chain_links.proofs.ArenaInsertionLemmas.{link_map-within, some_entry}
use Rattle.chain_linking.proofs.AdvancerLemmas.{valid_there}
use Rattle.chain_traits.proofs.GenericArenaLemmas.{found_from}
use Rattle.chain_arena.specs.declared.chains.ChainHead.{ChainHead}
use Rattle.chain_arena.proofs.StartLemmas.{none_of}
use Rattle.chain_arena.specs.ChainHeads.{IsHead, AreAllHeads, is_marked, MarksChain, MarksWalk}

abbrev with_marks : List Bool → List ℕ → List Bool
with_marks marks [] = marks
with_marks marks (i ∷ indexes) = with_marks (with_slot marks i true) indexes

marked_here : (marks : List Bool) (i : ℕ) → 1 ≤ i → i ≤ length marks → is_marked (with_slot marks i true) i ≡ true
marked_here marks zero low high = absurd (omega (arith, low))
marked_here marks (suc k) low high = get_or-set_same marks k true false (omega (arith, high))

marked_elsewhere : (marks : List Bool) (i j : ℕ) → i ≢ j → is_marked (with_slot marks i true) j ≡ is_marked marks j
marked_elsewhere marks zero j other = refl
marked_elsewhere marks (suc k) zero other = refl
marked_elsewhere marks (suc k) (suc m) other = get_or-set_other marks k m true false (λ same. other (ap suc (sym same)))

length-with_marks : (marks : List Bool) (indexes : List ℕ) → length (with_marks marks indexes) ≡ length marks
length-with_marks marks [] = refl
length-with_marks marks (i ∷ indexes) = length-with_marks (with_slot marks i true) indexes ∙ length-with_slot marks i true

unmarked : (marks : List Bool) (indexes : List ℕ) → ((i : ℕ) → IsMember indexes i → (1 ≤ i) × (i ≤ length marks))
    → (j : ℕ) → (is_marked (with_marks marks indexes) j ≡ false) ↔ ((is_marked marks j ≡ false) × (IsMember indexes j → ⊥))
unmarked marks [] within j = (λ h. (h, λ m. m), λ h. h.0)
unmarked marks (i ∷ indexes) within j =
    by (unmarked (with_slot marks i true) indexes (λ k m. let w = within k (inr m) in (w.0, subst (λ n. k ≤ n) (sym (length-with_slot marks i true)) w.1)) j) (ℕ_discrete i j)
  where
    by : (is_marked (with_marks (with_slot marks i true) indexes) j ≡ false) ↔ ((is_marked (with_slot marks i true) j ≡ false) × (IsMember indexes j → ⊥)) → Dec (i ≡ j)
        → (is_marked (with_marks (with_slot marks i true) indexes) j ≡ false) ↔ ((is_marked marks j ≡ false) × ((i ≡ j) ⊎ IsMember indexes j → ⊥))
    by rest (yes same) =
        let w = within i (inl refl) in
        let here : is_marked (with_slot marks i true) j ≡ true = subst (λ k. is_marked (with_slot marks i true) k ≡ true) same (marked_here marks i w.0 w.1) in
        (λ h. absurd (let none = (rest.0 h).0 in cc), λ h. absurd (h.1 (inl same)))
    by rest (no other) = (
      λ h. (sym (marked_elsewhere marks i j other) ∙ (rest.0 h).0, ⊎_elim other (rest.0 h).1),
      λ h. rest.1 (marked_elsewhere marks i j other ∙ h.0, λ m. h.1 (inr m)),
    )

pub is_marked-read : (marks : List Bool) (i place : ℕ) (b mark : Bool) → place + 1 ≡ i → place < length marks → mark ≡ slice_index_or marks place mark → mark ≡ b → is_marked marks i ≡ b
is_marked-read marks i place b mark at below read is =
    let n : i ≡ suc place = omega (arith, at) in
    ap (is_marked marks) n ∙ (get_or_default marks place false mark below ∙ (sym read ∙ is))

none_marked : (n j : ℕ) → is_marked (replicate n false) j ≡ false
none_marked n zero = refl
none_marked n (suc k) = by n k
  where
    by : (n k : ℕ) → slice_index_or (replicate n false) k false ≡ false
    by zero k = refl
    by (suc n) zero = refl
    by (suc n) (suc k) = by n k

some_of : (o : Option ℕ) → is_none o ≡ false → o ≡ None → ⊥
some_of o is none = let h : is_none o ≡ true = ap is_none none in absurd (let k = is in cc)

-- A head with the index and generation of its pointer.
abbrev pub head_view : {P Gen : Type 0} → (P → ℕ × Gen) → ChainHead P → (ℕ × Gen) × Bool
head_view key head = (key head.first, head.is_cyclic)

module _ {Gen T : Type 0} where
  abbrev head_among : (ℕ × Gen) × Bool → List (ℕ × (Gen × LinkView T)) → (ℕ × Gen) × Bool
  head_among head [] = head
  head_among head (e ∷ links) = head_among (if is_none e.1.1.prev then ((e.0, e.1.0), false) else head) links

module _ {Gen T : Type 0} (a : Arena Gen (LinkView T)) where
  abbrev index : ℕ × (Gen × LinkView T) → ℕ
  index e = e.0

  abbrev IsStored : ℕ × (Gen × LinkView T) → Type 0
  IsStored e = entry_at a e.0 ≡ Some e.1

  prev-stored : (e : ℕ × (Gen × LinkView T)) → IsStored e → prev_of (link_map a) e.0 ≡ e.1.1.prev
  prev-stored e stored = ap (λ (o : Option (Gen × LinkView T)). prev_in (option_map interlinks_of o)) stored

  -- A link without a previous one was found.
  record IsStartFound (indexes : List ℕ) (was_found : (ℕ × Gen) × Bool) : Type 0 where
    has : IsMember indexes was_found.0.0
    first : prev_of (link_map a) was_found.0.0 ≡ None
    valid : IsValid (entry a) was_found.0
    is_linear : was_found.1 ≡ false

  abbrev IsFound : (ℕ × Gen) × Bool → List ℕ → (ℕ × Gen) × Bool → Type 0
  IsFound head indexes was_found = (((j : ℕ) → IsMember indexes j → prev_of (link_map a) j ≡ None → ⊥) × (was_found ≡ head)) ⊎ IsStartFound indexes was_found

  head_found : (head : (ℕ × Gen) × Bool) (links : List (ℕ × (Gen × LinkView T))) → AllByRecursion IsStored links → IsFound head (map index links) (head_among head links)
  head_found head [] all = inl ((λ j m none. m), refl)
  head_found head (e ∷ links) all = by (is_none e.1.1.prev) refl (head_found ((e.0, e.1.0), false) links all.1) (head_found head links all.1)
    where
      later : (was_found : (ℕ × Gen) × Bool) → IsStartFound (map index links) was_found → IsStartFound (e.0 ∷ map index links) was_found
      later was_found start = record { has = inr start.has; first = start.first; valid = start.valid; is_linear = start.is_linear }

      here : (was_found : (ℕ × Gen) × Bool) → was_found ≡ ((e.0, e.1.0), false) → e.1.1.prev ≡ None → IsStartFound (e.0 ∷ map index links) was_found
      here was_found same none = subst (IsStartFound (e.0 ∷ map index links)) (sym same) (record {
        has = inl refl;
        first = prev-stored e all.0 ∙ none;
        valid = valid_there a e.0 (e.0, e.1.0) e.1.1 all.0 refl;
        is_linear = refl;
      })

      by : (b : Bool) → is_none e.1.1.prev ≡ b → IsFound ((e.0, e.1.0), false) (map index links) (head_among ((e.0, e.1.0), false) links) → IsFound head (map index links) (head_among head links)
          → IsFound head (e.0 ∷ map index links) (head_among (if b then ((e.0, e.1.0), false) else head) links)
      by true is (inl none) kept = inr (here _ none.1 (none_of e.1.1.prev is))
      by true is (inr start) kept = inr (later _ start)
      by false is changed (inl none) = inl ((λ j m p. ⊎_elim (λ (same : e.0 ≡ j). some_of e.1.1.prev is (sym (prev-stored e all.0) ∙ (ap (prev_of (link_map a)) same ∙ p))) (λ (n : IsMember (map index links) j). none.0 j n p) m), none.1)
      by false is changed (inr start) = inr (later _ start)

  module _ (i : ℕ) (links : List (ℕ × (Gen × LinkView T))) (walk : IsWalkOf a i links) where
    was_found : (head : (ℕ × Gen) × Bool) → IsFound head (map index links) (head_among head links)
    was_found head = head_found head links (recursion_from_All IsStored links walk.stored)

    linear_head : (head : (ℕ × Gen) × Bool) (xs : List ℕ) → IsChain (link_map a) (linear xs) → IsMember xs i
        → (first_or xs None ≡ Some (head_among head links).0.0) × IsValid (entry a) (head_among head links).0 × ((head_among head links).1 ≡ false)
    linear_head head xs chain has = by xs refl (was_found head)
      where
        among : (j : ℕ) → IsMember (map index links) j ↔ IsMember xs j
        among = walk_has (link_map a) i (map index links) (linear xs) walk.walk chain has

        by : (ys : List ℕ) → xs ≡ ys → IsFound head (map index links) (head_among head links)
            → (first_or xs None ≡ Some (head_among head links).0.0) × IsValid (entry a) (head_among head links).0 × ((head_among head links).1 ≡ false)
        by ys is (inr start) = ((lines_end (link_map a) xs (head_among head links).0.0 chain ((among _).0 start.has)).1.0 start.first, start.valid, start.is_linear)
        by [] is (inl none) = absurd (chain.0 is)
        by (y ∷ ys) is (inl none) =
            let first : IsMember xs y = subst (λ zs. IsMember zs y) (sym is) (inl refl) in
            absurd (none.0 y ((among y).1 first) ((lines_end (link_map a) xs y chain first).1.1 (ap (λ zs. first_or zs None) is)))

    cyclic_head : (head : (ℕ × Gen) × Bool) (xs : List ℕ) → IsChain (link_map a) (cyclic xs) → IsMember xs i → head_among head links ≡ head
    cyclic_head head xs chain has = by (was_found head)
      where
        among : (j : ℕ) → IsMember (map index links) j ↔ IsMember xs j
        among = walk_has (link_map a) i (map index links) (cyclic xs) walk.walk chain has

        by : IsFound head (map index links) (head_among head links) → head_among head links ≡ head
        by (inl none) = none.1
        by (inr start) =
            let some = cyclic_prev_some (link_map a) xs (head_among head links).0.0 chain ((among _).0 start.has) in
            let none = start.first in
            absurd (let is = some.1 in cc)

    walk_within : (n : ℕ) → length a.slots ≤ n → (j : ℕ) → IsMember (map index links) j → (1 ≤ j) × (j ≤ n)
    walk_within n long j m =
        let w = (link_map-within a).within j (walk_valid (link_map a) i (map index links) walk.walk j m) in
        (w.0, omega (arith, w.1, long))

    pub all_within : (n : ℕ) → length a.slots ≤ n → All (λ e. e.0 ≤ n) links
    all_within n long = All-from_recursion (λ e. e.0 ≤ n) links (each links (λ j m. (walk_within n long j m).1))
      where
        each : (es : List (ℕ × (Gen × LinkView T))) → ((j : ℕ) → IsMember (map index es) j → j ≤ n) → AllByRecursion (λ e. e.0 ≤ n) es
        each [] low = tt
        each (e ∷ es) low = (low e.0 (inl refl), each es (λ j m. low j (inr m)))

-- The rest of a walk marks its links, and finds the head among them.
pub record IsMarking {Gen T : Type 0} (old : List Bool) (start : (ℕ × Gen) × Bool) (all : List (ℕ × (Gen × LinkView T))) (marks : List Bool) (head : (ℕ × Gen) × Bool) (links : List (ℕ × (Gen × LinkView T))) : Type 0 where
  pub marks_are : with_marks marks (map (λ e. e.0) links) ≡ with_marks old (map (λ e. e.0) all)
  pub head_is : head_among head links ≡ head_among start all
  pub within : All (λ e. e.0 ≤ length marks) links

pub marking_more : {Gen T : Type 0} (old : List Bool) (start : (ℕ × Gen) × Bool) (all : List (ℕ × (Gen × LinkView T))) (marks : List Bool) (head next : (ℕ × Gen) × Bool) (links rest : List (ℕ × (Gen × LinkView T)))
    (e : ℕ × (Gen × LinkView T)) (place : ℕ) (b : Bool) → IsMarking old start all marks head links → links ≡ e ∷ rest → place + 1 ≡ e.0 → is_none e.1.1.prev ≡ b → next ≡ (if b then ((e.0, e.1.0), false) else head)
    → IsMarking old start all (slice_set marks place true) next rest
marking_more old start all marks head next links rest e place b m steps at is next_is = record {
  marks_are = ap (λ l. with_marks l (map (λ e. e.0) rest)) here ∙ (ap (λ l. with_marks marks (map (λ e. e.0) l)) (sym steps) ∙ m.marks_are);
  head_is = ap (λ h. head_among h rest) (next_is ∙ ap (λ t. if t then ((e.0, e.1.0), false) else head) (sym is)) ∙ (ap (head_among head) (sym steps) ∙ m.head_is);
  within = λ k d below. subst (λ n. (slice_index_or rest k d).0 ≤ n) (sym (length-slice_set place)) (subst (λ l. (suc k < length l → (slice_index_or l (suc k) d).0 ≤ length marks)) steps (m.within (suc k) d) (omega (arith, below)));
}
  where
    here : slice_set marks place true ≡ with_slot marks e.0 true
    here = ap (λ n. with_slot marks n true) (let n : suc place ≡ e.0 = omega (arith, at) in n)

    length-slice_set : (n : ℕ) → length (slice_set marks n true) ≡ length marks
    length-slice_set n = length-with_slot marks (suc n) true

marks_chain : {P Gen T : Type 0} (key : P → ℕ × Gen) (p : P) (links : List (ℕ × (Gen × LinkView T))) (old new : List Bool) (head : ChainHead P)
    → new ≡ with_marks old (map (λ e. e.0) links) → head_view key head ≡ head_among (key p, true) links → MarksWalk key p links old head new
marks_chain key p links old new head marks found_head a valid walk long = record {
  long = ap length marks ∙ length-with_marks old (map (λ e. e.0) links);
  unmarked = not_marked;
  in_linear = in_linear;
  in_cyclic = in_cyclic;
}
  where
    i : ℕ
    i = (key p).0

    not_marked : (c : Chain) → IsChain (link_map a) c → IsMember (items c) i → (j : ℕ) → (is_marked new j ≡ false) ↔ ((is_marked old j ≡ false) × (IsMember (items c) j → ⊥))
    not_marked c chain has j =
        let among = walk_has (link_map a) i (map (λ e. e.0) links) c walk.walk chain has j in
        let same = unmarked old (map (λ e. e.0) links) (walk_within a i links walk (length old) long) j in (
          λ h. let u = same.0 (sym (ap (λ m. is_marked m j) marks) ∙ h) in (u.0, λ m. u.1 (among.1 m)),
          λ h. ap (λ m. is_marked m j) marks ∙ same.1 (h.0, λ m. h.1 (among.0 m)),
        )

    in_linear : (xs : List ℕ) → IsChain (link_map a) (linear xs) → IsMember xs i → IsHead key a (linear xs) head
    in_linear xs chain has =
        let h = linear_head a i links walk (key p, true) xs chain has in
        record {
          first = h.0 ∙ ap (λ v. Some v.0.0) (sym found_head);
          valid = subst (λ v. IsValid (entry a) v.0) (sym found_head) h.1;
          ring = ap (λ v. v.1) found_head ∙ h.2;
        }

    in_cyclic : (xs : List ℕ) → IsChain (link_map a) (cyclic (i ∷ xs)) → IsHead key a (cyclic (i ∷ xs)) head
    in_cyclic xs chain =
        let h = found_head ∙ cyclic_head a i links walk (key p, true) (i ∷ xs) chain (inl refl) in
        record {
          first = ap (λ v. Some v.0.0) (sym h);
          valid = subst (λ v. IsValid (entry a) v.0) (sym h) valid;
          ring = ap (λ v. v.1) h;
        }

pub marking_ends : {P Gen T : Type 0} (key : P → ℕ × Gen) (p : P) (all links : List (ℕ × (Gen × LinkView T))) (old new : List Bool) (head : ChainHead P)
    → IsMarking old (key p, true) all new (head_view key head) links → links ≡ [] → MarksWalk key p all old head new
marking_ends key p all links old new head m none =
    marks_chain key p all old new head (ap (λ l. with_marks new (map (λ e. e.0) l)) (sym none) ∙ m.marks_are) (ap (head_among (head_view key head)) (sym none) ∙ m.head_is)

module _ {P Gen T : Type 0} (key : P → ℕ × Gen) (a : Arena Gen (LinkView T)) where
  -- The entries from an index on; the chains left have the unmarked links, all from that index on,
  -- and complete the list.
  pub record IsFindingHeads (es : List ((ℕ × Gen) × LinkView T)) (marks : List Bool) (heads : List (ChainHead P)) : Type 0 where
    pub from : ℕ
    pub entries_ascend : AscendsFrom from es
    pub entries_are : (j : ℕ) → from ≤ j → found j es ≡ entry_at a j
    pub rest : List Chain
    pub each : (c : Chain) → HasChain rest c → IsChain (link_map a) c
    pub written : (c : Chain) → HasChain rest c → StartsAtLeast c
    pub once : AreDistinct (all_items rest)
    pub ascends : IsSortedByLeast rest
    pub low : (j : ℕ) → IsMember (all_items rest) j → from ≤ j
    pub long : length marks ≡ length a.slots
    pub unmarked : (j : ℕ) → HasLink (link_map a) j → (is_marked marks j ≡ false) ↔ IsMember (all_items rest) j
    pub complete : (more : List (ChainHead P)) → AllZip (IsHead key a) rest more → AreAllHeads key a (heads ++ more)

  pub finding_begins : (es : List ((ℕ × Gen) × LinkView T)) (marks : List Bool) (heads : List (ChainHead P)) → IsWellLinked (link_map a)
      → es ≡ entries a → marks ≡ replicate (length a.slots) false → heads ≡ [] → IsFindingHeads es marks heads
  finding_begins es marks heads agrees es_are marks_are heads_are = record {
    from = 1;
    entries_ascend = subst (AscendsFrom 1) (sym es_are) (entries_ascend a);
    entries_are = λ j low. ap (found j) es_are ∙ found-entries a j;
    rest = all.0;
    each = are.each;
    written = all.1.order.written;
    once = are.once;
    ascends = all.1.order.ascends;
    low = λ j m. ((link_map-within a).within j (all_items_valid (link_map a) all.0 j are.each m)).0;
    long = ap length marks_are ∙ length-replicate (length a.slots) false;
    unmarked = λ j valid. (λ none. are.all j valid, λ m. ap (λ (l : List Bool). is_marked l j) marks_are ∙ none_marked (length a.slots) j);
    complete = λ more zip. subst (λ (hs : List (ChainHead P)). AreAllHeads key a (hs ++ more)) (sym heads_are) (record { chains = all.0; are = all.1; heads_are = zip });
  }
    where
      all : (chains : List Chain) × AreTheChains (link_map a) chains
      all = the_chains (link_map a) (length a.slots) agrees (link_map-within a)

      are : AreChains (link_map a) all.0
      are = chains_from_pairs (link_map a) all.0 all.1.partition all.1.interlinks

  pub finding_at : (all es : List ((ℕ × Gen) × LinkView T)) (e : (ℕ × Gen) × LinkView T) (marks : List Bool) (heads : List (ChainHead P)) → all ≡ e ∷ es → IsFindingHeads all marks heads → IsFindingHeads (e ∷ es) marks heads
  finding_at all es e marks heads is l = subst (λ (fs : List ((ℕ × Gen) × LinkView T)). IsFindingHeads fs marks heads) is l

  module _ (e : (ℕ × Gen) × LinkView T) (es : List ((ℕ × Gen) × LinkView T)) (marks : List Bool) (heads : List (ChainHead P)) (l : IsFindingHeads (e ∷ es) marks heads) where
    abbrev i : ℕ
    i = e.0.0

    stored : entry_at a i ≡ Some (e.0.1, e.1)
    stored = sym (l.entries_are i l.entries_ascend.0) ∙ ap (λ b. cond b (Some (e.0.1, e.1)) (found i es)) (eq-eqb i i refl)

    has_link : HasLink (link_map a) i
    has_link = record { link = interlinks_of (e.0.1, e.1); links = ap (option_map interlinks_of) stored }

    pub first_valid : IsValid (entry a) e.0
    first_valid = valid_there a i e.0 e.1 stored refl

    pub first_within : (1 ≤ i) × (i ≤ length marks)
    first_within = let w = (link_map-within a).within i has_link in (w.0, subst (λ n. i ≤ n) (sym l.long) w.1)

    rest_valid : (j : ℕ) → IsMember (all_items l.rest) j → HasLink (link_map a) j
    rest_valid j m = all_items_valid (link_map a) l.rest j l.each m

    lowest : (j : ℕ) → IsMember (all_items l.rest) j → i ≤ j
    lowest j m =
        let valid = rest_valid j m in
        let x = some_entry interlinks_of (entry_at a j) valid.link valid.links in
        found_from i j (e ∷ es) (omega arith, l.entries_ascend.1) (ap is_some (l.entries_are j (l.low j m) ∙ x.1))

    others_found : (j : ℕ) → suc i ≤ j → found j es ≡ entry_at a j
    others_found j above =
        sym (ap (λ b. cond b (Some (e.0.1, e.1)) (found j es)) (ne_eqb i j (λ is. omega (arith, above, is))))
        ∙ l.entries_are j (let low = l.entries_ascend.0 in omega (arith, above, low))

    pub finding_skips : is_marked marks i ≡ true → IsFindingHeads es marks heads
    finding_skips marked = record {
      from = suc i;
      entries_ascend = l.entries_ascend.1;
      entries_are = others_found;
      rest = l.rest;
      each = l.each;
      written = l.written;
      once = l.once;
      ascends = l.ascends;
      low = λ j m. above j (lowest j m) (λ same. gone (subst (IsMember (all_items l.rest)) (sym same) m));
      long = l.long;
      unmarked = l.unmarked;
      complete = l.complete;
    }
      where
        above : (j : ℕ) → i ≤ j → (i ≡ j → ⊥) → suc i ≤ j
        above j low other = omega (arith, low, other)

        gone : IsMember (all_items l.rest) i → ⊥
        gone m = let none = (l.unmarked i has_link).1 m in absurd (let is = marked in cc)

    module _ (head : ChainHead P) (new : List Bool) (marks_new : MarksChain key a i marks head new) (c : Chain) (cs : List Chain) (rest_is : l.rest ≡ c ∷ cs) (in_rest : IsMember (items c ++ all_items cs) i) where
      chain : IsChain (link_map a) c
      chain = l.each c (subst (λ (ds : List Chain). HasChain ds c) (sym rest_is) (inl refl))

      written_c : StartsAtLeast c
      written_c = l.written c (subst (λ (ds : List Chain). HasChain ds c) (sym rest_is) (inl refl))

      later : (d : Chain) → HasChain cs d → HasChain l.rest d
      later d h = subst (λ (ds : List Chain). HasChain ds d) (sym rest_is) (inr h)

      once : AreDistinct (items c ++ all_items cs)
      once = subst (λ (ds : List Chain). AreDistinct (all_items ds)) rest_is l.once

      ascends : IsSortedByLeast (c ∷ cs)
      ascends = subst IsSortedByLeast rest_is l.ascends

      least : (j : ℕ) → IsMember (items c ++ all_items cs) j → i ≤ j
      least j m = lowest j (subst (λ (ds : List Chain). IsMember (all_items ds) j) (sym rest_is) m)

      own : IsMember (items c) i
      own = by (IsMember-parts (items c) (all_items cs) i in_rest)
        where
          by : IsMember (items c) i ⊎ IsMember (all_items cs) i → IsMember (items c) i
          by (inl h) = h
          by (inr h) =
              let low = ascends.0.2 i h in
              let high = least ascends.0.0 (IsMember-left (items c) (all_items cs) ascends.0.0 ascends.0.1) in
              absurd (omega (arith, low, high))

      head_is : IsHead key a c head
      head_is = by c chain written_c own (λ j m. least j (IsMember-left (items c) (all_items cs) j m))
        where
          by : (d : Chain) → IsChain (link_map a) d → StartsAtLeast d → IsMember (items d) i → ((j : ℕ) → IsMember (items d) j → i ≤ j) → IsHead key a d head
          by (linear xs) h w m low = marks_new.in_linear xs h m
          by (cyclic []) h w m low = absurd m
          by (cyclic (x ∷ xs)) h w m low =
              let same : x ≡ i = omega (arith, written_least x xs i w m, low x (inl refl)) in
              subst (λ (k : ℕ). IsHead key a (cyclic (k ∷ xs)) head) (sym same) (marks_new.in_cyclic xs (subst (λ (k : ℕ). IsChain (link_map a) (cyclic (k ∷ xs))) same h))

      apart : (j : ℕ) → IsMember (items c) j → IsMember (all_items cs) j → ⊥
      apart j m n = AreDistinct-apart (items c) (all_items cs) j once m n

      others_unmarked : (j : ℕ) → HasLink (link_map a) j → (is_marked new j ≡ false) ↔ IsMember (all_items cs) j
      others_unmarked j valid = (
        λ h. let n = (marks_new.unmarked c chain own j).0 h in
            ⊎_elim (λ (m : IsMember (items c) j). absurd (n.1 m)) (λ (m : IsMember (all_items cs) j). m)
            (IsMember-parts (items c) (all_items cs) j (subst (λ (ds : List Chain). IsMember (all_items ds) j) rest_is ((l.unmarked j valid).0 n.0))),
        λ m. (marks_new.unmarked c chain own j).1 (
          (l.unmarked j valid).1 (subst (λ (ds : List Chain). IsMember (all_items ds) j) (sym rest_is) (IsMember-right (items c) (all_items cs) j m)),
          λ n. apart j n m,
        ),
      )

      with_next : IsFindingHeads es new (heads ++ head ∷ [])
      with_next = record {
        from = suc i;
        entries_ascend = l.entries_ascend.1;
        entries_are = others_found;
        rest = cs;
        each = λ d h. l.each d (later d h);
        written = λ d h. l.written d (later d h);
        once = AreDistinct-right (items c) (all_items cs) once;
        ascends = ascends.1;
        low = λ j m. above j (least j (IsMember-right (items c) (all_items cs) j m)) (λ same. apart j (subst (IsMember (items c)) same own) m);
        long = marks_new.long ∙ l.long;
        unmarked = others_unmarked;
        complete = λ more zip. subst (AreAllHeads key a) (sym (append_assoc heads (head ∷ []) more))
            (l.complete (head ∷ more) (subst (λ (ds : List Chain). AllZip (IsHead key a) ds (head ∷ more)) (sym rest_is) (head_is, zip)));
      }
        where
          above : (j : ℕ) → i ≤ j → (i ≡ j → ⊥) → suc i ≤ j
          above j low other = omega (arith, low, other)

    pub finding_more : (old new left : List Bool) (head : ChainHead P) (more : List (ChainHead P)) → is_marked marks i ≡ false → old ≡ marks → MarksChain key a i old head new → left ≡ new → more ≡ heads ++ head ∷ []
        → IsFindingHeads es left more
    finding_more old new left head more free is_old marks_new is_left is_more =
        subst (λ (hs : List (ChainHead P)). IsFindingHeads es left hs) (sym is_more) (subst (λ (m : List Bool). IsFindingHeads es m (heads ++ head ∷ [])) (sym is_left) (by l.rest refl))
      where
        in_rest : IsMember (all_items l.rest) i
        in_rest = (l.unmarked i has_link).0 free

        by : (rest : List Chain) → l.rest ≡ rest → IsFindingHeads es new (heads ++ head ∷ [])
        by [] is = absurd (subst (λ (ds : List Chain). IsMember (all_items ds) i) is in_rest)
        by (c ∷ cs) is = with_next head new (subst (λ (m : List Bool). MarksChain key a i m head new) is_old marks_new) c cs is (subst (λ (ds : List Chain). IsMember (all_items ds) i) is in_rest)

  pub finding_ends : (marks : List Bool) (heads : List (ChainHead P)) → IsFindingHeads [] marks heads → AreAllHeads key a heads
  finding_ends marks heads l = by l.rest refl
    where
      by : (rest : List Chain) → l.rest ≡ rest → AreAllHeads key a heads
      by [] is = subst (AreAllHeads key a) (append-nil heads) (l.complete [] (subst (λ (ds : List Chain). AllZip (IsHead key a) ds []) (sym is) tt))
      by (c ∷ cs) is =
          let ascends : IsSortedByLeast (c ∷ cs) = subst IsSortedByLeast is l.ascends in
          let m = ascends.0.0 in
          let left : IsMember (all_items l.rest) m = subst (λ (ds : List Chain). IsMember (all_items ds) m) (sym is) (IsMember-left (items c) (all_items cs) m ascends.0.1) in
          let valid = all_items_valid (link_map a) l.rest m l.each left in
          let none : None ≡ entry_at a m = l.entries_are m (l.low m left) in
          absurd (let link = ap (option_map interlinks_of) none ∙ valid.links in cc)
