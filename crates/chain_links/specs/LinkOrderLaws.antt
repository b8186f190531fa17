use Rattle.std.specs.Prelude.{◌≡◌, ℕ, Bool, true, ◌++◌, nat_eq, Option, None, Some}
use Rattle.std.specs.Option.{option_eq, option_cmp}
use Rattle.std.specs.declared.cmp.Ordering.{Ordering}
use Rattle.std.specs.Ordering.{nat_cmp, is_eq}
use Rattle.std.specs.Cmp.{IsPartialEquivalence, IsEquivalence, IsPartialOrder, IsTotalOrder, partial_equiv_from_equiv, po, on_per, on_equiv, on_po, on_total, and_per, and_equiv, then_po, then_total, both_tied, then_agrees, nat_eq_equiv, nat_cmp_total, unsigned_ties}
use Rattle.std.specs.Cmp.Lexicographic.{options_equiv, options_total}
use Rattle.std.specs.Hash.{HashWrites, Alike, and-Alike, on_Alike}
use Rattle.std.specs.Hash as fed
use Rattle.std.proofs.Common.{refl, ap, rules}
use Rattle.std.proofs.lemmas.Bool.{eqb-true}
use Rattle.chain_links.specs.ChainArena.{LinkView}
use Rattle.chain_links.specs.LinkOrder.{neighbors_eq, neighbors_cmp, links_eq, links_cmp, links_partial_cmp, link_writes}

numbers_equiv : IsEquivalence (option_eq nat_eq)
numbers_equiv = options_equiv nat_eq_equiv

numbers_total : IsTotalOrder (option_cmp nat_cmp)
numbers_total = options_total nat_cmp_total

numbers_tie : (m n : Option ℕ) → option_eq nat_eq m n ≡ is_eq (option_cmp nat_cmp m n)
numbers_tie None None = refl
numbers_tie None (Some n) = refl
numbers_tie (Some m) None = refl
numbers_tie (Some m) (Some n) = unsigned_ties m n

numbers_alike : Alike (option_eq nat_eq) (fed.option fed.usize)
numbers_alike = record { fed = alike } where
  alike : (m n : Option ℕ) → option_eq nat_eq m n ≡ true → fed.option fed.usize m ≡ fed.option fed.usize n
  alike None None same = refl
  alike None (Some n) same = search rules
  alike (Some m) None same = search rules
  alike (Some m) (Some n) same = ap (λ k. fed.option fed.usize (Some k)) (eqb-true m n same)

module _ {T : Type 0} where
  neighbors_equiv : IsEquivalence (neighbors_eq {T = T})
  neighbors_equiv = and_equiv (on_equiv (λ (l : LinkView T). l.prev) numbers_equiv) (on_equiv (λ (l : LinkView T). l.next) numbers_equiv)

  neighbors_total : IsTotalOrder (neighbors_cmp {T = T})
  neighbors_total = then_total (on_total (λ (l : LinkView T). l.prev) numbers_total) (on_total (λ (l : LinkView T). l.next) numbers_total)

  neighbors_tie : (l m : LinkView T) → neighbors_eq l m ≡ is_eq (neighbors_cmp l m)
  neighbors_tie l m = both_tied _ _ (option_cmp nat_cmp l.prev m.prev) (option_cmp nat_cmp l.next m.next) (numbers_tie l.prev m.prev) (numbers_tie l.next m.next)

  pub links_per : {eq : T → T → Bool} → IsPartialEquivalence eq → IsPartialEquivalence (links_eq eq)
  links_per values = and_per (partial_equiv_from_equiv neighbors_equiv) (on_per (λ (l : LinkView T). l.value) values)

  pub links_equiv : {eq : T → T → Bool} → IsEquivalence eq → IsEquivalence (links_eq eq)
  links_equiv values = and_equiv neighbors_equiv (on_equiv (λ (l : LinkView T). l.value) values)

  pub links_po : {eq : T → T → Bool} {cmp : T → T → Option Ordering} → IsPartialOrder eq cmp → IsPartialOrder (links_eq eq) (links_partial_cmp cmp)
  links_po values = then_po (po neighbors_total neighbors_tie) (on_po (λ (l : LinkView T). l.value) values)

  pub links_total : {cmp : T → T → Ordering} → IsTotalOrder cmp → IsTotalOrder (links_cmp cmp)
  links_total values = then_total neighbors_total (on_total (λ (l : LinkView T). l.value) values)

  pub links_cmp_partial : (partial : T → T → Option Ordering) (cmp : T → T → Ordering) → ((s t : T) → partial s t ≡ Some (cmp s t))
      → (l m : LinkView T) → links_partial_cmp partial l m ≡ Some (links_cmp cmp l m)
  links_cmp_partial partial cmp same l m = then_agrees {C = λ l m. Some (neighbors_cmp l m)} {R = neighbors_cmp} (λ l m. refl) (λ (l m : LinkView T). same l.value m.value) l m

  pub links_are_equivalent : (eq : T → T → Bool) (cmp : T → T → Ordering) → ((s t : T) → eq s t ≡ is_eq (cmp s t))
      → (l m : LinkView T) → links_eq eq l m ≡ is_eq (links_cmp cmp l m)
  links_are_equivalent eq cmp same l m = both_tied (neighbors_eq l m) (eq l.value m.value) (neighbors_cmp l m) (cmp l.value m.value) (neighbors_tie l m) (same l.value m.value)

  neighbors_alike : Alike (neighbors_eq {T = T}) (λ l. fed.option fed.usize l.prev ++ fed.option fed.usize l.next)
  neighbors_alike = and-Alike (on_Alike (λ (l : LinkView T). l.prev) numbers_alike) (on_Alike (λ (l : LinkView T). l.next) numbers_alike)

  pub links_alike : (eq : T → T → Bool) (writes : T → HashWrites) → ((s t : T) → eq s t ≡ true → writes s ≡ writes t)
      → (l m : LinkView T) → links_eq eq l m ≡ true → link_writes writes l ≡ link_writes writes m
  links_alike eq writes same = (and-Alike neighbors_alike (on_Alike (λ (l : LinkView T). l.value) (record { fed = same }))).fed
