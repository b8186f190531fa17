use Rattle.std.specs.Prelude.{◌≡◌, ℕ, ◌⊎◌, ◌↔◌, ⊤, Bool, ◌&&◌, ◌==◌, ◌++◌, IsTrue, Option, None, Some}
use Rattle.std.specs.Option.{option_eq, option_cmp}
use Rattle.std.specs.declared.cmp.Ordering.{Ordering}
use Rattle.std.specs.Ordering.{nat_cmp, ordering_then, partial_ordering_then}
use Rattle.std.specs.Hash.{HashWrites}
use Rattle.std.specs.Hash as fed
use Rattle.std.specs.declared.cmp.Ordering.TheVariants.{Less, Equal}
use Rattle.chain_links.specs.ChainArena.{LinkView}
use Rattle.chain_links.specs.declared.links.RawLink.{RawLink}
use Rattle.chain_links.specs.declared.links.Link.{Link}

module _ {T : Type 0} where
  abbrev pub neighbors_eq : LinkView T → LinkView T → Bool
  neighbors_eq l m = option_eq ◌==◌ l.prev m.prev && option_eq ◌==◌ l.next m.next

  abbrev pub neighbors_cmp : LinkView T → LinkView T → Ordering
  neighbors_cmp l m = ordering_then (option_cmp nat_cmp l.prev m.prev) (option_cmp nat_cmp l.next m.next)

  -- `==` of links.
  abbrev pub links_eq : (T → T → Bool) → LinkView T → LinkView T → Bool
  links_eq eq l m = neighbors_eq l m && eq l.value m.value

  -- `cmp` of links.
  abbrev pub links_cmp : (T → T → Ordering) → LinkView T → LinkView T → Ordering
  links_cmp cmp l m = ordering_then (neighbors_cmp l m) (cmp l.value m.value)

  -- `partial_cmp` of links.
  abbrev pub links_partial_cmp : (T → T → Option Ordering) → LinkView T → LinkView T → Option Ordering
  links_partial_cmp cmp l m = partial_ordering_then (Some (neighbors_cmp l m)) (cmp l.value m.value)

  -- What a hash of a link writes.
  abbrev pub link_writes : (T → HashWrites) → LinkView T → HashWrites
  link_writes writes l = (fed.option fed.usize l.prev ++ fed.option fed.usize l.next) ++ writes l.value

-- `None` is below each index or pointer.
abbrev pub IsBelow : {X : Type 0} → (X → X → Type 0) → Option X → Option X → Type 0
IsBelow below None None = ⊥
IsBelow below None (Some n) = ⊤
IsBelow below (Some m) None = ⊥
IsBelow below (Some m) (Some n) = below m n

-- A link's neighbors and value.
pub record Parts (X T : Type 0) : Type 0 where
  pub prev : Option X
  pub next : Option X
  pub value : T

abbrev pub body_parts : {K T : Type 0} → (K → Option ℕ) → RawLink K T → Parts ℕ T
body_parts number l = record { prev = number l.prev; next = number l.next; value = l.t }

abbrev pub parts_of : {P T : Type 0} → Link P T → Parts P T
parts_of l = record { prev = l.prev; next = l.next; value = l.t }

-- Equal neighbors and values.
pub record AreEqual {X T : Type 0} (eq : T → T → Bool) (l m : Parts X T) : Type 0 where
  pub prev : l.prev ≡ m.prev
  pub next : l.next ≡ m.next
  pub value : IsTrue (eq l.value m.value)

-- l is below m, by prev, then next, then value.
abbrev pub Precedes : {X T : Type 0} → (X → X → Type 0) → (T → T → Type 0) → Parts X T → Parts X T → Type 0
Precedes below below_value l m =
    IsBelow below l.prev m.prev ⊎ ((l.prev ≡ m.prev) × (IsBelow below l.next m.next ⊎ ((l.next ≡ m.next) × below_value l.value m.value)))

-- Links compare by prev, then by next, then by value.
pub record CompareByParts {L X T : Type 0} (parts : L → Parts X T) (below : X → X → Type 0) (eq : T → T → Bool) (cmp : T → T → Ordering) (eq_links : L → L → Bool) (cmp_links : L → L → Ordering) : Type 0 where
  pub equal : (l m : L) → IsTrue (eq_links l m) ↔ AreEqual eq (parts l) (parts m)
  pub less : (l m : L) → (cmp_links l m ≡ Less) ↔ Precedes below (λ s t. cmp s t ≡ Less) (parts l) (parts m)
  pub agree : (l m : L) → (cmp_links l m ≡ Equal) ↔ IsTrue (eq_links l m)
