-- Members and length of a mapped list.
use Rattle.std.proofs.Common.{◌≡◌, ℕ, zero, suc, ◌<◌, List, [], ◌∷◌, length, map, slice_index_or, Contains, refl, sym, ap, ◌∙◌, arith}
use Rattle.std.proofs.lemmas.List.{length-map, get_or-map}
use Rattle.std.proofs.lemmas.List.Elements.{Contains-append_right}

module _ {X Y : Type 0} (f : X → Y) where
  pub map_has : (xs : List X) (x : X) → Contains xs x → Contains (map f xs) (f x)
  map_has xs x has = (has.0, omega (arith, length-map xs f, has.1), get_or-map f xs has.0 x (f x) has.1 ∙ ap f has.2)

  becomes : (xs : List X) (y : Y) (k : ℕ) → k < length (map f xs) → slice_index_or (map f xs) k y ≡ y → (x : X) × Contains xs x × (f x ≡ y)
  becomes [] y k below is = absurd (omega (arith, below))
  becomes (x ∷ xs) y zero below is = (x, (0, omega arith, refl), is)
  becomes (x ∷ xs) y (suc k) below is = let rest = becomes xs y k (omega (arith, below)) is in (rest.0, Contains-append_right (x ∷ []) xs rest.0 rest.1, rest.2)

  pub map_has_of : (xs : List X) (y : Y) → Contains (map f xs) y → (x : X) × Contains xs x × (f x ≡ y)
  map_has_of xs y has = becomes xs y has.0 has.1 has.2

pub length_twice : {X Y Z : Type 0} (g : Y → Z) (f : X → Y) (xs : List X) (zs : List Z) → map g (map f xs) ≡ zs → length xs ≡ length zs
length_twice g f xs zs is = sym (length-map xs f) ∙ (sym (length-map (map f xs) g) ∙ ap length is)
