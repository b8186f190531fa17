-- Optional values, and those that a function was applied to.
use Rattle.std.proofs.Common.{◌≡◌, Option, None, Some, Result, Ok, Err, refl, sym, ◌∙◌}
use Rattle.std.specs.Option.{option_map}
use Rattle.std.specs.Prelude.{IfSome, IfOk, is_some, true}

pub same_some : {X : Type 0} (a b : X) → Some a ≡ Some b → a ≡ b
same_some a b is = cc

pub none_some : {X : Type 0} (a : X) (o : Option X) → o ≡ None → o ≡ Some a → ⊥
none_some a o none some = let both = sym none ∙ some in cc

pub from_mapped : {X Y : Type 0} (f : X → Y) (o : Option X) (y : Y) → option_map f o ≡ Some y → (x : X) × (o ≡ Some x) × (f x ≡ y)
from_mapped f None y is = absurd (cc)
from_mapped f (Some x) y is = (x, refl, same_some (f x) y is)

pub mapped_twice : {X Y Z : Type 0} (f : X → Y) (g : Y → Z) (o : Option X) → option_map g (option_map f o) ≡ option_map (λ x. g (f x)) o
mapped_twice f g None = refl
mapped_twice f g (Some x) = refl

pub if_some_to : {R V : Type 0} {X Z : R → Type 0} (o : Option R) → (is_some o ≡ true → V) → IfSome o X → (V → (r : R) → X r → Z r) → IfSome o Z
if_some_to None valid holds so = tt
if_some_to (Some r) valid holds so = so (valid refl) r holds

pub is_there : {X : Type 0} (o : Option X) → is_some o ≡ true → (x : X) × (o ≡ Some x)
is_there None some = absurd (cc)
is_there (Some x) some = (x, refl)

pub if_ok_to : {V E : Type 0} {X Z : V → Type 0} (r : Result V E) → IfOk r X → ((v : V) → X v → Z v) → IfOk r Z
if_ok_to (Ok v) holds so = so v holds
if_ok_to (Err e) holds so = tt
