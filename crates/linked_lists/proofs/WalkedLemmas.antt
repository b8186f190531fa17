-- The pointers of a walk along a list.
use Rattle.std.proofs.Common.{◌≡◌, ℕ, List, [], ◌∷◌, ◌++◌, ◌+◌, ◌<◌, map, Option, None, Some, refl, sym, ap, ◌∙◌, subst, length-append, arith}
use Rattle.std.specs.Prelude.{All, IsSome, length, ◌↔◌}
use Rattle.std.specs.List.{AllByRecursion}
use Rattle.std.specs.Option.{option_to_list}
use Rattle.std.proofs.lemmas.List.{map-append}
use Rattle.std.proofs.lemmas.List.Elements.{recursion_from_All}
use Rattle.chain_laws.specs.Chains.{LinkMap}
use Rattle.chain_laws.specs.Walks.{IsWalk, of_cyclic}
use Rattle.chain_laws.proofs.InterlinkLemmas.Inverses.{one_some}
use Rattle.chain_laws.proofs.WalkLemmas.Walker.{no_other_walk}
use Rattle.arena_traits.specs.Arena.{IsValid}
use Rattle.arena_traits.specs.Entries.{ArenaView, ArenaState, first_key}
use Rattle.chain_lists.specs.Lists.{Item, AreEntries, indexes}
use Rattle.chain_lists.proofs.ItemListLemmas.{same_pointer}
use Rattle.linked_lists.specs.declared.entry.Entry.{Entry}
use Rattle.linked_lists.specs.declared.entry.Entry.TheVariants as entries
use Rattle.linked_lists.specs.LinkedLists.{as_item, pointers_of, IsList, ListsItems, ReadsFirst}
use Rattle.linked_lists.proofs.RingLemmas.{ring_rotated}
use Rattle.linked_lists.proofs.ListLemmas.{item_valid}

pub same_before : {X : Type 0} (xs ys : List X) (a b : X) → xs ++ a ∷ [] ≡ ys ++ b ∷ [] → xs ≡ ys
same_before [] [] a b same = refl
same_before [] (y ∷ []) a b same = absurd (let rest : [] ≡ b ∷ [] = cc in cc)
same_before [] (y ∷ z ∷ ys) a b same = absurd (cc)
same_before (x ∷ []) [] a b same = absurd (let rest : a ∷ [] ≡ [] = cc in cc)
same_before (x ∷ z ∷ xs) [] a b same = absurd (cc)
same_before {X} (x ∷ xs) (y ∷ ys) a b same =
    let first : x ≡ y = cc in
    let rest : xs ++ a ∷ [] ≡ ys ++ b ∷ [] = cc in
    ap (λ c. c ∷ xs) first ∙ ap (λ (l : List X). y ∷ l) (same_before xs ys a b rest)

pub left_without_last : {X : Type 0} (old new : List X) (r : Option X) (n : ℕ) → n ≡ length old → old ≡ new ++ option_to_list r → (IsSome r ↔ (0 < n)) → (xs : List X) (a : X) → old ≡ xs ++ a ∷ [] → new ≡ xs
left_without_last old new None n size is some xs a was =
    let many : length old ≡ length xs + 1 = ap length was ∙ length-append xs (a ∷ []) in
    absurd (let yes = some.1 (omega (arith, size, many)) in cc)
left_without_last old new (Some b) n size is some xs a was = same_before new xs b a (sym is ∙ was)

pub some_or_none : {X : Type 0} (o : Option X) → IsSome o → o ≡ None → ⊥
some_or_none None some none = cc
some_or_none (Some x) some none = cc

last_of_list : {X : Type 0} (x : X) (xs : List X) → (before : List X) × (last : X) × (x ∷ xs ≡ before ++ last ∷ [])
last_of_list x [] = ([], x, refl)
last_of_list {X} x (y ∷ ys) = let rest = last_of_list y ys in (x ∷ rest.0, rest.1, ap (λ (l : List X). x ∷ l) rest.2)

module _ {P Gen V : Type 0} (key : P → ℕ × Gen) (entry : ℕ → Option (Gen × V)) where
  same_keys : (ptrs : List P) (es : List (Item Gen V)) → AllByRecursion (λ q. IsValid entry (key q)) ptrs → AreEntries entry es → map (λ q. (key q).0) ptrs ≡ indexes es → map key ptrs ≡ map (λ e. e.0) es
  same_keys [] [] valid stored same = refl
  same_keys [] (e ∷ es) valid stored same = absurd (cc)
  same_keys (q ∷ ptrs) [] valid stored same = absurd (cc)
  same_keys (q ∷ ptrs) (e ∷ es) valid stored same =
      let index : (key q).0 ≡ e.0.0 = cc in
      let rest : map (λ p. (key p).0) ptrs ≡ indexes es = cc in
      let first : key q ≡ e.0 = same_pointer entry (key q) e.0 valid.0 (record { value = e.1; stored = stored.0 }) index in
      ap (λ (k : ℕ × Gen). k ∷ map key ptrs) first ∙ ap (λ (l : List (ℕ × Gen)). e.0 ∷ l) (same_keys ptrs es valid.1 stored.1 rest)

pointers_then : {Gen T : Type 0} (h : ℕ × Gen) (items : List (Item Gen T)) → map (λ e. e.0) (map as_item items ++ (h, entries.Head) ∷ []) ≡ pointers_of items ++ h ∷ []
pointers_then h [] = refl
pointers_then {Gen} h (e ∷ items) = ap (λ (l : List (ℕ × Gen)). e.0 ∷ l) (pointers_then h items)

module _ {A Gen T : Type 0} {view : A → ArenaView Gen (Entry T)} {entry : A → ℕ → Option (Gen × Entry T)} (state : (a : A) → ArenaState (view a) (entry a)) (interlinks : A → LinkMap) {P : Type 0} (key : P → ℕ × Gen) (a : A) (h : P) where
  walked : (ptrs : List P) (first : P) (items : List (Item Gen T)) → IsList state interlinks a (key h) items → Some (key first) ≡ first_key items → IsWalk (interlinks a) (key first).0 (map (λ q. (key q).0) ptrs)
      → All (λ q. IsValid (entry a) (key q)) ptrs → map key ptrs ≡ pointers_of items ++ key h ∷ []
  walked ptrs first [] is at walk valid = absurd (let some = at in cc)
  walked ptrs first (x ∷ xs) is at walk valid =
      let ring = ring_rotated state interlinks a ((key h, entries.Head) ∷ []) (map as_item (x ∷ xs)) is in
      let from_first = subst (λ (i : ℕ). IsWalk (interlinks a) i (map (λ q. (key q).0) ptrs)) (ap (λ (k : ℕ × Gen). k.0) (one_some at)) walk in
      let same = no_other_walk (interlinks a) x.0.0 (map (λ q. (key q).0) ptrs) (indexes (map as_item (x ∷ xs) ++ (key h, entries.Head) ∷ [])) from_first (of_cyclic (indexes (map as_item xs ++ (key h, entries.Head) ∷ [])) ring.chain) in
      same_keys key (entry a) ptrs (map as_item (x ∷ xs) ++ (key h, entries.Head) ∷ []) (recursion_from_All _ ptrs valid) ring.are_stored same ∙ pointers_then (key h) (x ∷ xs)

  pub lists_items : (first : P) (ptrs left : List P) (items : List (Item Gen T)) → IsList state interlinks a (key h) items → ReadsFirst state interlinks key a h (Some first) → IsWalk (interlinks a) (key first).0 (map (λ q. (key q).0) ptrs)
      → All (λ q. IsValid (entry a) (key q)) ptrs → ((xs : List P) (q : P) → ptrs ≡ xs ++ q ∷ [] → left ≡ xs) → ListsItems state interlinks key a h left
  lists_items first [] left items is reads walk valid cut = absurd (none items (walked [] first items is (reads.first items is) walk valid))
    where
      none : (es : List (Item Gen T)) → [] ≡ pointers_of es ++ key h ∷ [] → ⊥
      none [] same = cc
      none (e ∷ es) same = cc
  lists_items first (q ∷ ptrs) left items is reads walk valid cut =
      let last = last_of_list q ptrs in
      let all = walked (q ∷ ptrs) first items is (reads.first items is) walk valid in
      let split : map key last.0 ++ key last.1 ∷ [] ≡ pointers_of items ++ key h ∷ [] = sym (ap (map key) last.2 ∙ map-append key last.0 (last.1 ∷ [])) ∙ all in
      (items, is, ap (map key) (cut last.0 last.1 last.2) ∙ same_before (map key last.0) (pointers_of items) (key last.1) (key h) split)

  pub lists_none : (items : List (Item Gen T)) → IsList state interlinks a (key h) items → ReadsFirst state interlinks key a h None → ListsItems state interlinks key a h []
  lists_none [] is reads = ([], is, refl)
  lists_none (x ∷ xs) is reads = absurd (let none = reads.first (x ∷ xs) is in cc)

  pub first_is_valid : (first : P) (items : List (Item Gen T)) → IsList state interlinks a (key h) items → ReadsFirst state interlinks key a h (Some first) → IsValid (entry a) (key first)
  first_is_valid first [] is reads = absurd (let some = reads.first [] is in cc)
  first_is_valid first (x ∷ xs) is reads = subst (IsValid (entry a)) (sym (one_some (reads.first (x ∷ xs) is))) (item_valid (entry a) x.0 x.1 is.are_stored.1.0)
