-- Removal of the destinations of links, one after another.
use Rattle.std.proofs.Common.{◌≡◌, ℕ, zero, suc, ◌+◌, ◌≤◌, List, length, Bool, true, false, Option, None, Some, refl, sym, ap, ◌∙◌, arith}
use Rattle.std.specs.Prelude.{◌==◌, if◌then◌else◌}
use Rattle.std.specs.Option.{option_map, option_and_then}
use Rattle.std.proofs.Math.Decide.{ℕ_discrete}
use Rattle.chain_laws.specs.Chains.{Interlinks}
use Rattle.chain_laws.proofs.InterlinkLemmas.Inverses.{if_same, if_other}
use Rattle.arena_traits.specs.Arena.{Arena, slot_at, entry_at, with_value}
use Rattle.chain_links.specs.declared.links.RawLink.{RawLink}
use Rattle.chain_links.specs.ChainArena.{link_map}
use Rattle.chain_links.specs.Links.{links_view, destination_of, destination_at, AreAtRest}
use Rattle.chain_links.proofs.LinkStateLemmas.{entry_at-with_value}
use Rattle.chain_links.proofs.ArenaInsertionLemmas.{slots-within}
use Rattle.chain_linking.proofs.LinkWriteLemmas.{links_view-write, with_link_map-own}

passed_through : (b : Bool) (l : Option Interlinks) → l ≡ (if b then option_map (λ (m : Interlinks). m) l else l)
passed_through true None = refl
passed_through true (Some l) = refl
passed_through false l = refl

module _ {Gen K T : Type 0} (number : K → Option ℕ) (a b : Arena Gen (RawLink K T)) (n : ℕ) (link w : RawLink K T)
    (stored : option_map (λ (e : Gen × RawLink K T). e.1) (entry_at a n) ≡ Some link) (wrote : b ≡ with_value a n w) (empty : number w.destination ≡ None) (rest : w ≡ record link { destination = w.destination }) where
  pub cleared_view : links_view number b ≡ links_view number a
  cleared_view =
      ap (links_view number) wrote
      ∙ (ap (λ (l : RawLink K T). links_view number (with_value a n l)) rest
      ∙ (links_view-write number a n link (λ l. record l { destination = w.destination }) (λ l. l) (link_map (links_view number a)) (λ l. refl) stored (λ i. passed_through (i == n) (link_map (links_view number a) i))
      ∙ sym (with_link_map-own (links_view number a))))

  at : (j : ℕ) → destination_at number b.slots j ≡ option_and_then (destination_of number) (if j == n then option_map (λ (e : Gen × RawLink K T). (e.0, w)) (entry_at a j) else entry_at a j)
  at j = ap (λ (x : Arena Gen (RawLink K T)). destination_at number x.slots j) wrote ∙ ap (option_and_then (destination_of number)) (entry_at-with_value a n w j)

  none_written : (o : Option (Gen × RawLink K T)) → option_and_then (destination_of number) (option_map (λ (e : Gen × RawLink K T). (e.0, w)) o) ≡ None
  none_written None = refl
  none_written (Some e) = empty

  here : (j : ℕ) → j ≡ n → destination_at number b.slots j ≡ None
  here j same = at j ∙ (ap (option_and_then (destination_of number)) (if_same j n _ _ same) ∙ none_written (entry_at a j))

  pub cleared_here : destination_at number b.slots n ≡ None
  cleared_here = here n refl

  pub cleared_others : (j : ℕ) → destination_at number a.slots j ≡ None → destination_at number b.slots j ≡ None
  cleared_others j none = by (ℕ_discrete j n)
    where
      by : Dec (j ≡ n) → destination_at number b.slots j ≡ None
      by (yes same) = here j same
      by (no differs) = at j ∙ (ap (option_and_then (destination_of number)) (if_other j n _ _ differs) ∙ none)

module _ {Gen K T : Type 0} (number : K → Option ℕ) where
  pub none_without_link : (slots : List (Option (Gen × RawLink K T))) (n : ℕ) → option_map (λ (e : Gen × RawLink K T). e.1) (slot_at slots n) ≡ None → destination_at number slots n ≡ None
  none_without_link slots n none = by (slot_at slots n) none
    where
      by : (o : Option (Gen × RawLink K T)) → option_map (λ (e : Gen × RawLink K T). e.1) o ≡ None → option_and_then (destination_of number) o ≡ None
      by None is = refl
      by (Some e) is = absurd (let h = is in cc)

  pub clearing_begins : (slots : List (Option (Gen × RawLink K T))) (j : ℕ) → j ≤ 0 → destination_at number slots j ≡ None
  clearing_begins slots zero low = refl
  clearing_begins slots (suc k) low = absurd (omega (arith, low))

  pub clearing_continues : (now next : List (Option (Gen × RawLink K T))) (k i : ℕ) → i ≡ k + 1 → ((j : ℕ) → j ≤ k → destination_at number now j ≡ None) → destination_at number next i ≡ None
      → ((j : ℕ) → destination_at number now j ≡ None → destination_at number next j ≡ None) → (j : ℕ) → j ≤ k + 1 → destination_at number next j ≡ None
  clearing_continues now next k i is was cleared others j low = by (ℕ_discrete j i)
    where
      by : Dec (j ≡ i) → destination_at number next j ≡ None
      by (yes same) = ap (destination_at number next) same ∙ cleared
      by (no differs) = others j (was j (omega (arith, is, low, differs)))

  pub clearing_ends : (now : List (Option (Gen × RawLink K T))) (k : ℕ) → length now ≤ k → ((j : ℕ) → j ≤ k → destination_at number now j ≡ None) → AreAtRest number now
  clearing_ends now k long was = record { none = λ j. by j (slot_at now j) refl }
    where
      by : (j : ℕ) (o : Option (Gen × RawLink K T)) → slot_at now j ≡ o → destination_at number now j ≡ None
      by j None is = ap (option_and_then (destination_of number)) is
      by j (Some e) is =
          let inside = (slots-within (λ (e : Gen × RawLink K T). record { prev = None; next = None }) now).within j (record { link = record { prev = None; next = None }; links = ap (option_map (λ (e : Gen × RawLink K T). record { prev = None; next = None })) is }) in
          was j (omega (arith, inside.1, long))
