-- Calls of `Polygons` keep all chains cyclic.
use Rattle.std.proofs.Common.{◌≡◌, ◌≢◌, ℕ, inl, inr, ⊎_elim, List, [], ◌∷◌, reverse, Option, None, Some, refl, sym, ap, ◌∙◌, subst}
use Rattle.std.specs.Prelude.{◌⊎◌, is_some, true}
use Rattle.std.proofs.lemmas.Bool.{cases_eq}
use Rattle.chain_laws.specs.Chains.{LinkMap, Interlinks, linear, last_or, HasLinksWithin, cyclic, IsChain, IsMember, HasLink, IsWellLinked, next_of, prev_of, prev_in}
use Rattle.chain_laws.specs.Insertions.{InsertsPairs}
use Rattle.chain_laws.specs.Reversals.{Reverses}
use Rattle.chain_laws.specs.Removals.{RemovesPairs, with_removal}
use Rattle.chain_laws.proofs.ChainLemmas.Existence.{ChainOf, stored_in, has_chain}
use Rattle.chain_laws.proofs.ChainLemmas.Rotations.{rotated_to}
use Rattle.chain_laws.proofs.ChainLemmas.MemberLaws.{lines_end, rings_are_cyclic, members_are_links}
use Rattle.chain_laws.proofs.InterlinkLemmas.Inverses.{one_some}
use Rattle.chain_laws.proofs.ListLemmas.Members.{IsMember-or_not}
use Rattle.chain_laws.proofs.RemovalLemmas.Pairs.{removed_in_pairs}
use Rattle.chain_laws.proofs.WalkLemmas.Members.{IsMember-reversed}
use Rattle.arena_core.specs.PointerKinds.{PointerKind}
use Rattle.arena_traits.specs.Entries.{ArenaView, ArenaState}
use Rattle.chain_traits.proofs.GenericRemovalLemmas.{TakesEntry}
use Rattle.polygons.specs.Rings.{AllCyclic}

pub some_item : {X : Type 0} (o : Option X) → is_some o ≡ true → (x : X) × (o ≡ Some x)
some_item None some = absurd (cc)
some_item (Some x) some = (x, refl)

pub cyclic_inserted : (old new : LinkMap) (q a b : ℕ) → InsertsPairs old new q (Some a) (Some b) → ((i : ℕ) → i ≢ q → HasLink old i → is_some (next_of old i) ≡ true) → AllCyclic new
cyclic_inserted old new q a b inserts all_cyclic i has = ⊎_elim
    (λ is_a. ap is_some ((inserts.pairs i q).1 (inr (inl (ap Some (sym is_a), refl)))))
    (λ not_a. ⊎_elim (λ is_q. ap is_some ((inserts.pairs i b).1 (inr (inr (is_q, refl))))) (λ not_q. stays not_a not_q ((inserts.links i).0 has)) (cases_eq i q))
    (cases_eq i a)
  where
    stays : i ≢ a → i ≢ q → HasLink old i ⊎ (i ≡ q) → is_some (next_of new i) ≡ true
    stays not_a not_q (inl was) = let next = some_item (next_of old i) (all_cyclic i not_q was) in ap is_some ((inserts.pairs i next.0).1 (inl (next.1, λ both. not_a (sym (one_some both.0)))))
    stays not_a not_q (inr is_q) = absurd (not_q is_q)

pub cyclic_after : (old new : LinkMap) (q a : ℕ) → InsertsPairs old new q (Some a) (next_of old a) → HasLink old a → AllCyclic old → AllCyclic new
cyclic_after old new q a inserts has all_cyclic =
    let next = some_item (next_of old a) (all_cyclic a has) in
    cyclic_inserted old new q a next.0 (subst (InsertsPairs old new q (Some a)) next.1 inserts) (λ i other at. all_cyclic i at)

pub cyclic_removed : (link_map : LinkMap) (q : ℕ) → IsWellLinked link_map → AllCyclic link_map → AllCyclic (with_removal link_map q)
cyclic_removed link_map q agrees all_cyclic i has = continues (some_item (next_of link_map i) (all_cyclic i was.0))
  where
    removes : RemovesPairs link_map (with_removal link_map q) q
    removes = removed_in_pairs link_map q agrees

    was : HasLink link_map i × (i ≢ q)
    was = (removes.links i).0 has

    linked_back : (o : Option Interlinks) → link_map q ≡ o → prev_in o ≡ Some i → HasLink link_map q
    linked_back None is prev = absurd (cc)
    linked_back (Some link) is prev = record { link = link; links = is }

    skips_over : prev_of link_map q ≡ Some i → (on : (k : ℕ) × (next_of link_map q ≡ Some k)) → is_some (next_of (with_removal link_map q) i) ≡ true
    skips_over prev (k, on) = ap is_some ((removes.pairs i k).1 (inr (prev, on, was.1, λ back. was.1 (one_some (sym prev ∙ (agrees.both q q).0 (on ∙ ap Some back))))))

    over : (j : ℕ) → next_of link_map i ≡ Some j → j ≡ q → is_some (next_of (with_removal link_map q) i) ≡ true
    over j next is_q = let prev = (agrees.both i q).0 (next ∙ ap Some is_q) in skips_over prev (some_item (next_of link_map q) (all_cyclic q (linked_back (link_map q) refl prev)))

    continues : (j : ℕ) × (next_of link_map i ≡ Some j) → is_some (next_of (with_removal link_map q) i) ≡ true
    continues (j, next) = ⊎_elim (over j next) (λ other. ap is_some ((removes.pairs i j).1 (inl (next, was.1, other)))) (cases_eq j q)

last_in : (xs : List ℕ) (b : ℕ) → (k : ℕ) × (last_or xs (Some b) ≡ Some k) × ((b ≡ k) ⊎ IsMember xs k)
last_in [] b = (b, refl, inl refl)
last_in (x ∷ xs) b = let last = last_in xs x in (last.0, last.1, inr last.2)

pub no_line : (links : LinkMap) (xs : List ℕ) → AllCyclic links → IsChain links (linear xs) → ⊥
no_line links [] all_cyclic is = is.0 refl
no_line links (x ∷ xs) all_cyclic is =
    let last = last_in xs x in
    let none = (lines_end links (x ∷ xs) last.0 is last.2).0.1 last.1 in
    let some = all_cyclic last.0 (members_are_links links (linear (x ∷ xs)) last.0 is last.2) in
    absurd (let both = sym some ∙ ap is_some none in cc)

pub ring_from : (links : LinkMap) (greatest i : ℕ) → IsWellLinked links → HasLinksWithin links greatest → AllCyclic links → HasLink links i → (rest : List ℕ) × IsChain links (cyclic (i ∷ rest))
ring_from links greatest i agrees within all_cyclic has = by (has_chain links greatest agrees within i has)
  where
    by : ChainOf links i → (rest : List ℕ) × IsChain links (cyclic (i ∷ rest))
    by (stored_in (linear xs) is at) = absurd (no_line links xs all_cyclic is)
    by (stored_in (cyclic xs) is at) = let ring = rotated_to links xs i is at in (ring.0, ring.1)

pub cyclic_before : (old new : LinkMap) (greatest q b : ℕ) → InsertsPairs old new q (prev_of old b) (Some b) → IsWellLinked old → HasLinksWithin old greatest → HasLink old b → AllCyclic old → AllCyclic new
cyclic_before old new greatest q b inserts agrees within has all_cyclic =
    let ring = ring_from old greatest b agrees within all_cyclic has in
    let prev = (rings_are_cyclic old (b ∷ ring.0) b ring.1 (inl refl)).1 in
    cyclic_inserted old new q prev.0 b (subst (λ (u : Option ℕ). InsertsPairs old new q u (Some b)) prev.1 inserts) (λ i other at. all_cyclic i at)

pub cyclic_turned : (old new : LinkMap) (greatest i : ℕ) → IsWellLinked old → HasLinksWithin old greatest → AllCyclic old → ((k : ℕ) → HasLink new k → HasLink old k) → Reverses old new i → AllCyclic new
cyclic_turned old new greatest i agrees within all_cyclic was turns k has = by (ring_from old greatest k agrees within all_cyclic (was k has))
  where
    by : (rest : List ℕ) × IsChain old (cyclic (k ∷ rest)) → is_some (next_of new k) ≡ true
    by (rest, chain) = ⊎_elim
        (λ among. ap is_some (rings_are_cyclic new (reverse (k ∷ rest)) k (turns.chain (cyclic (k ∷ rest)) chain among) ((IsMember-reversed (k ∷ rest) [] k).1 (inl (inl refl)))).0.1)
        (λ apart. ap is_some (rings_are_cyclic new (k ∷ rest) k ((turns.rest (cyclic (k ∷ rest)) apart).0 chain) (inl refl)).0.1)
        (IsMember-or_not (k ∷ rest) i)

module _ {A Gen T : Type 0} {view : A → ArenaView Gen T} {entry : A → ℕ → Option (Gen × T)} (state : (a : A) → ArenaState (view a) (entry a)) (interlinks : A → LinkMap) {P I W : Type 0} (pointers : PointerKind P I Gen W) (old new : A) (p : P) where
  pub cyclic_of : (o : Option T) → TakesEntry state interlinks pointers.following old new (pointers.key p) o → IsWellLinked (interlinks old) → AllCyclic (interlinks old) → AllCyclic (interlinks new)
  cyclic_of None r agrees all_cyclic = subst (λ (a : A). AllCyclic (interlinks a)) (sym (r.same refl)) all_cyclic
  cyclic_of (Some t) r agrees all_cyclic = subst AllCyclic (sym (r.some refl).relinked) (cyclic_removed (interlinks old) (pointers.key p).0 agrees all_cyclic)
