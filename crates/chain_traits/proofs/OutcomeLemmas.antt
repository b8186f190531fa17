-- Consequences of the outcomes of calls.
use Rattle.std.proofs.Common.{◌≡◌, Option, None, Some, refl}
use Rattle.std.specs.Option.{option_map}
use Rattle.std.specs.Prelude.{is_some, OnErr, IfNone, IfSome, OnSome, IfOk, Result, Ok, Err, true}
use Rattle.arena_core.specs.declared.errors.ChainInsertionError.{ChainInsertionError}
use Rattle.arena_core.specs.declared.errors.ReallocationError.{ReallocationError}
use Rattle.arena_core.specs.declared.errors.ReallocationError.TheVariants as refused
use Rattle.arena_traits.specs.Entries.{ArenaView}
use Rattle.arena_traits.specs.Growth.{IsGrowthResult, IsFull, RefusesOneMore}
use Rattle.chain_links.specs.Insertions.{IsInsertionResult}

pub on_some : {R X Z : Type 0} (o : Option R) → OnSome o X → (X → Z) → OnSome o Z
on_some None x so = tt
on_some (Some r) x so = so x

pub on_none : {R X : Type 0} (o : Option R) → X → IfNone o X
on_none None x = x
on_none (Some r) x = tt

pub if_ok : {R E : Type 0} {X Z : R → Type 0} (o : Result R E) → IfOk o X → ((r : R) → X r → Z r) → IfOk o Z
if_ok (Ok r) x so = so r x
if_ok (Err e) x so = tt

pub on_err : {R E X Z : Type 0} (o : Result R E) → OnErr o X → (X → Z) → OnErr o Z
on_err (Ok r) x so = tt
on_err (Err e) x so = so x

pub either_some : {R X Y Z : Type 0} (o : Option R) → OnSome o X → IfNone o Y → (is_some o ≡ true → X → Z) → (Y → Z) → Z
either_some None x y so else_so = else_so y
either_some (Some r) x y so else_so = so refl x

pub if_mapped : {R S : Type 0} (X : S → Type 0) (f : R → S) (o : Option R) → IfSome (option_map f o) X → IfSome o (λ r. X (f r))
if_mapped X f None x = tt
if_mapped X f (Some r) x = x

pub from_mapped : {R S : Type 0} (X : S → Type 0) (f : R → S) (o : Option R) → IfSome o (λ r. X (f r)) → IfSome (option_map f o) X
from_mapped X f None x = tt
from_mapped X f (Some r) x = x

module _ {P : Type 0} where
  pub growth_to : (refuses : ReallocationError → Type 0) (done done' : P → Type 0) (o : Result P ReallocationError) → IsGrowthResult refuses done o → ((p : P) → done p → done' p) → IsGrowthResult refuses done' o
  growth_to refuses done done' (Ok p) is so = so p is
  growth_to refuses done done' (Err e) is so = is

  pub grown_ok : (refuses : ReallocationError → Type 0) (done : P → Type 0) (o : Result P ReallocationError) → IsGrowthResult refuses done o → IfOk o done
  grown_ok refuses done (Ok p) is = is
  grown_ok refuses done (Err e) is = tt

  pub either_grown : {W Z : Type 0} (refuses : ReallocationError → Type 0) (done : P → Type 0) (o : Result P ReallocationError) → IsGrowthResult refuses done o → OnErr o W → ((p : P) → done p → Z) → (W → Z) → Z
  either_grown refuses done (Ok p) is w so else_so = so p is
  either_grown refuses done (Err e) is w so else_so = else_so w

  pub insertion_to : (may : Type 0) (refuses : ReallocationError → Type 0) (done done' : P → Type 0) (o : Result P ChainInsertionError) → IsInsertionResult may refuses done o → ((p : P) → done p → done' p) → IsInsertionResult may refuses done' o
  insertion_to may refuses done done' (Ok p) is so = (is.0, so p is.1)
  insertion_to may refuses done done' (Err e) is so = is

pub full_if_refused : {Gen T : Type 0} (s : ArenaView Gen T) (why : ReallocationError) → RefusesOneMore s why → IsFull s
full_if_refused s refused.BeyondMaxCapacity is = is.0
full_if_refused s refused.AllocError is = is.0
