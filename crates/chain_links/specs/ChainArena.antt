use Rattle.std.specs.Prelude.{◌≡◌, ◌≢◌, ℕ, zero, suc, List, [], ◌∷◌, map, All, IsSome, Option, None, Some}
use Rattle.std.specs.Option.{option_map, option_and_then}
use Rattle.chain_laws.specs.Chains.{LinkMap, Interlinks, prev_of, next_of}
use Rattle.chain_laws.specs.Walks.{IsWalk}
use Rattle.chain_laws.specs.WalksBack.{IsWalkBack}
use Rattle.chain_laws.specs.Removals.{with_removal}
use Rattle.chain_laws.specs.Joins.{with_next_at, with_prev_at}
use Rattle.chain_laws.specs.Insertions.{with_insertion}
use Rattle.chain_laws.specs.Orders.{AreApart}
use Rattle.arena_traits.specs.Arena.{Arena, with_slot, entry_at, next_index, insert_next, remove_at, IsValid}
use Rattle.arena_traits.specs.Entries.{ArenaView, ArenaState, view_of}
use Rattle.arena_traits.specs.EntryLaws.{arena_state}

-- A number as an optional index, 0 for none.
abbrev pub nonzero_index : ℕ → Option ℕ
nonzero_index zero = None
nonzero_index (suc n) = Some (suc n)

abbrev pub on_value : {Gen X Y : Type 0} → (X → Y) → Gen × X → Gen × Y
on_value f e = (e.0, f e.1)

-- An arena with each value mapped.
abbrev pub with_each : {Gen X Y : Type 0} → (X → Y) → Arena Gen X → Arena Gen Y
with_each f a = record {
  slots = map (option_map (on_value f)) a.slots;
  counter = a.counter;
  freed = a.freed;
  capacity = a.capacity;
  stack_capacity = a.stack_capacity;
  maximum = a.maximum;
  placed = a.placed;
  touched = a.touched;
}

-- A link: its neighbors' indexes and its value.
pub record LinkView (T : Type 0) : Type 0 where
  pub prev : Option ℕ
  pub next : Option ℕ
  pub value : T

-- A link with these neighbors.
abbrev pub new_link : {T : Type 0} → T → Option ℕ → Option ℕ → LinkView T
new_link t u v = record { prev = u; next = v; value = t }

-- A link without neighbors.
abbrev pub lone : {T : Type 0} → T → LinkView T
lone t = record { prev = None; next = None; value = t }

module _ {T : Type 0} where
  abbrev pub link_value : LinkView T → T
  link_value link = link.value

  abbrev pub with_link_value : T → LinkView T → LinkView T
  with_link_value t link = record link { value = t }

  abbrev pub interlinks_in : LinkView T → Interlinks
  interlinks_in link = record { prev = link.prev; next = link.next }

  abbrev pub with_interlinks : Interlinks → LinkView T → LinkView T
  with_interlinks interlinks link = record link { prev = interlinks.prev; next = interlinks.next }

module _ {Gen T : Type 0} where
  abbrev pub interlinks_of : Gen × LinkView T → Interlinks
  interlinks_of e = interlinks_in e.1

  -- The interlinks of an arena.
  abbrev pub link_map : Arena Gen (LinkView T) → LinkMap
  link_map a i = option_map interlinks_of (entry_at a i)

  -- The arena of the values alone.
  abbrev pub values_of : Arena Gen (LinkView T) → Arena Gen T
  values_of a = with_each link_value a

  -- The values as generic code sees them.
  abbrev pub value_view : Arena Gen (LinkView T) → ArenaView Gen T
  value_view a = view_of (values_of a)

  abbrev pub entry : Arena Gen (LinkView T) → ℕ → Option (Gen × T)
  entry a i = entry_at (values_of a) i

  abbrev pub value_state : (a : Arena Gen (LinkView T)) → ArenaState (value_view a) (entry a)
  value_state a = arena_state (values_of a)

  abbrev pub relink : Option Interlinks → Option (Gen × LinkView T) → Option (Gen × LinkView T)
  relink interlinks None = None
  relink None (Some e) = None
  relink (Some l) (Some e) = Some (e.0, with_interlinks l e.1)

  abbrev pub relink_from : LinkMap → ℕ → List (Option (Gen × LinkView T)) → List (Option (Gen × LinkView T))
  relink_from interlinks i [] = []
  relink_from interlinks i (e ∷ es) = relink (interlinks i) e ∷ relink_from interlinks (suc i) es

  -- The arena with other interlinks.
  abbrev pub with_link_map : Arena Gen (LinkView T) → LinkMap → Arena Gen (LinkView T)
  with_link_map a interlinks = record a { slots = relink_from interlinks 1 a.slots }

  abbrev pub insert_lone : Arena Gen (LinkView T) → T → Arena Gen (LinkView T)
  insert_lone a t = insert_next a (lone t)

  -- q comes after u and before v.
  abbrev pub with_links_to : Arena Gen (LinkView T) → Option ℕ → Option ℕ → ℕ → Arena Gen (LinkView T)
  with_links_to a u v q = with_link_map a (with_prev_at (with_next_at (link_map a) u (Some q)) v (Some q))

  -- A link is inserted between u and v.
  abbrev pub insert_between : Arena Gen (LinkView T) → T → Option ℕ → Option ℕ → Arena Gen (LinkView T)
  insert_between a t u v = with_link_map (insert_lone a t) (with_insertion (link_map a) (next_index a) u v)

  -- Another value at i, if there is a link.
  abbrev pub with_value_at : Arena Gen (LinkView T) → ℕ → T → Arena Gen (LinkView T)
  with_value_at a i t = record a { slots = with_slot a.slots i (option_map (on_value (with_link_value t)) (entry_at a i)) }

  -- The link at i is removed, and its neighbors are linked.
  abbrev pub remove_link : (Gen → Gen) → Arena Gen (LinkView T) → ℕ → Arena Gen (LinkView T)
  remove_link following a i = with_link_map (remove_at following a i) (with_removal (link_map a) i)

  -- The links of the walk from i.
  pub record IsWalkOf (a : Arena Gen (LinkView T)) (i : ℕ) (links : List (ℕ × (Gen × LinkView T))) : Type 0 where
    pub walk : IsWalk (link_map a) i (map (λ e. e.0) links)
    pub stored : All (λ e. entry_at a e.0 ≡ Some e.1) links

  -- The links of the walk back from i.
  pub record IsWalkBackOf (a : Arena Gen (LinkView T)) (i : ℕ) (links : List (ℕ × (Gen × LinkView T))) : Type 0 where
    pub walk : IsWalkBack (link_map a) i (map (λ e. e.0) links)
    pub stored : All (λ e. entry_at a e.0 ≡ Some e.1) links

module _ {Gen T : Type 0} where
  abbrev pub link_of : Option (Gen × T) → Option Interlinks → Option (Gen × LinkView T)
  link_of None interlinks = None
  link_of (Some e) None = None
  link_of (Some e) (Some l) = Some (e.0, record { prev = l.prev; next = l.next; value = e.1 })

module _ {Gen T : Type 0} (entry : ℕ → Option (Gen × T)) where
  -- The current pointer to an index.
  abbrev pub ptr_at : ℕ → Option (ℕ × Gen)
  ptr_at i = option_map (λ e. (i, e.0)) (entry i)

  -- p and q are valid, and not the same.
  pub record CanMove (p q : ℕ × Gen) : Type 0 where
    pub first_valid : IsValid entry p
    pub second_valid : IsValid entry q
    pub apart : p.0 ≢ q.0

  -- All three are valid, and p is not `last`.
  pub record CanSplice (p first last : ℕ × Gen) : Type 0 where
    pub p_valid : IsValid entry p
    pub first_valid : IsValid entry first
    pub last_valid : IsValid entry last
    pub apart : p.0 ≢ last.0

  -- All are valid, and none equals the one after it.
  pub record CanPutInOrder (order : List (ℕ × Gen)) : Type 0 where
    pub valid : All (λ p. IsValid entry p) order
    pub apart : AreApart (map (λ p. p.0) order)

module _ {Gen T : Type 0} (entry : ℕ → Option (Gen × T)) (interlinks : LinkMap) where
  -- The link at an index.
  abbrev pub link_at : ℕ → Option (Gen × LinkView T)
  link_at i = link_of (entry i) (interlinks i)

  -- p and q are valid, p has no next and q no prev.
  pub record CanConnect (p q : ℕ × Gen) : Type 0 where
    pub first_valid : IsValid entry p
    pub second_valid : IsValid entry q
    pub no_next : next_of interlinks p.0 ≡ None
    pub no_prev : prev_of interlinks q.0 ≡ None

  -- p and q are valid and have a next.
  pub record CanExchange (p q : ℕ × Gen) : Type 0 where
    pub first_valid : IsValid entry p
    pub second_valid : IsValid entry q
    pub first_next : IsSome (next_of interlinks p.0)
    pub second_next : IsSome (next_of interlinks q.0)

  -- A pointer's link, with pointers to its neighbors.
  pub record IsLinkAt (p : ℕ × Gen) (prev next : Option (ℕ × Gen)) (t : T) : Type 0 where
    pub stored : entry p.0 ≡ Some (p.1, t)
    pub before : prev ≡ option_and_then (ptr_at entry) (prev_of interlinks p.0)
    pub after : next ≡ option_and_then (ptr_at entry) (next_of interlinks p.0)
