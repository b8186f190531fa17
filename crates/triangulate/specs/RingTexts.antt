-- Lines with points of rings.
use Rattle.std.specs.Prelude.{◌≡◌, ℕ, ℤ, pos, neg_ℤ, unsigned_abs, ◌-◌, ◌+◌, ◌*◌, ◌^◌, ◌<◌, ◌≤◌, ◌==◌, ◌||◌, ◌⊎◌, Bool, IsTrue, IsFalse, List, [], ◌∷◌, map, length, take, drop, slice_index, Result, Ok, Err}
use Rattle.std.specs.Str.Parse.{digits_value, AllDigits}
use Rattle.std.specs.declared.vec.Vec.{Vec}
use Rattle.std.specs.declared.alloc.Global.{Global}
use Rattle.triangulation.specs.declared.points.Point.{Point}
use Rattle.triangulate.specs.declared.numbers.LineError.{LineError}
use Rattle.triangulate.specs.declared.numbers.LineError.TheVariants as why

abbrev pub texts_of : List (Vec ℕ Global) → List (List ℕ)
texts_of lines = map (λ line. line.items) lines

abbrev pub is_space : ℕ → Bool
is_space byte = (byte == 32) || (byte == 9) || (byte == 13)

abbrev pub AreSpaces : List ℕ → ℕ → ℕ → Type 0
AreSpaces line from to = (k : ℕ) → from ≤ k → k < to → IsTrue (is_space (slice_index line k))

abbrev pub AreNoSpaces : List ℕ → ℕ → ℕ → Type 0
AreNoSpaces line from to = (k : ℕ) → from ≤ k → k < to → IsFalse (is_space (slice_index line k))

-- Spaces and then a whole word, up to `to`.
pub record IsWordAt (line : List ℕ) (from to : ℕ) (word : List ℕ) : Type 0 where
  pub start : ℕ
  pub order : from ≤ start
  pub spaces : AreSpaces line from start
  pub some : start < to
  pub within : to ≤ length line
  pub whole : AreNoSpaces line start to
  pub after : to < length line → IsTrue (is_space (slice_index line to))
  pub text : word ≡ take (to - start) (drop start line)

-- At most ten digits, and their number.
pub record IsDecimal (word : List ℕ) (value : ℤ) : Type 0 where
  pub some : 0 < length word
  pub few : length word ≤ 10
  pub digits : AllDigits 10 word
  pub number : value ≡ pos (digits_value 10 word)

-- Digits, with or without a minus sign.
abbrev pub IsNumeral : List ℕ → ℤ → Type 0
IsNumeral word value = IsDecimal word value ⊎ ((digits : List ℕ) × (size : ℤ) × (word ≡ 45 ∷ digits) × IsDecimal digits size × (value ≡ neg_ℤ size))

abbrev pub IsInBounds : ℤ → Type 0
IsInBounds value = unsigned_abs value ≤ 2 ^ 30

-- What the word denotes, or why nothing.
abbrev pub ParsesWord : (List ℕ → ℤ → Type 0) → List ℕ → Result ℤ LineError → Type 0
ParsesWord Denotes word (Ok value) = Denotes word value × IsInBounds value
ParsesWord Denotes word (Err why.NotANumber) = (value : ℤ) → Denotes word value → ⊥
ParsesWord Denotes word (Err why.TooLarge) = (value : ℤ) × Denotes word value × (IsInBounds value → ⊥)
ParsesWord Denotes word (Err why.OddNumber) = ⊥
ParsesWord Denotes word (Err why.Memory) = ⊥

-- The next word is a coordinate and ends at `to`.
pub record IsNumberAt (line : List ℕ) (from to : ℕ) (value : ℤ) : Type 0 where
  pub word : List ℕ
  pub place : IsWordAt line from to word
  pub numeral : IsNumeral word value
  pub bounded : IsInBounds value

-- The next word is no coordinate, or missing.
abbrev pub HasNoNumberAt : List ℕ → ℕ → LineError → Type 0
HasNoNumberAt line from error =
    ((error ≡ why.OddNumber) × AreSpaces line from (length line))
    ⊎ ((to : ℕ) × (word : List ℕ) × IsWordAt line from to word × ParsesWord IsNumeral word (Err error))

-- `number_at`: the next number, or why not.
abbrev pub ParsesNumber : List ℕ → ℕ → Result (ℤ × ℕ) LineError → Type 0
ParsesNumber line from (Ok found) = IsNumberAt line from found.1 found.0
ParsesNumber line from (Err error) = HasNoNumberAt line from error

-- The line has these numbers, up to `to`.
abbrev pub AreNumbersAt : List ℕ → ℕ → List ℤ → ℕ → Type 0
AreNumbersAt line from [] to = from ≡ to
AreNumbersAt line from (value ∷ values) to = (middle : ℕ) × IsNumberAt line from middle value × AreNumbersAt line middle values to

abbrev pub coordinates_of : List Point → List ℤ
coordinates_of [] = []
coordinates_of (p ∷ points) = p.x ∷ p.y ∷ coordinates_of points

-- The coordinates of these points and nothing else.
pub record IsRingText (line : List ℕ) (points : List Point) : Type 0 where
  pub end : ℕ
  pub numbers : AreNumbersAt line 0 (coordinates_of points) end
  pub rest : AreSpaces line end (length line)

-- After some numbers, the next word denotes none, or none is left and their number is odd.
pub record IsLineFault (line : List ℕ) (error : LineError) : Type 0 where
  pub numbers : List ℤ
  pub end : ℕ
  pub before : AreNumbersAt line 0 numbers end
  pub fault : HasNoNumberAt line end error
  pub odd : error ≡ why.OddNumber → (half : ℕ) × (length numbers ≡ 2 * half + 1)

-- `ring`: the points of a line, or why not.
abbrev pub ParsesRing : List ℕ → Result (Vec Point Global) LineError → Type 0
ParsesRing line (Ok points) = IsRingText line points.items
ParsesRing line (Err error) = (error ≡ why.Memory) ⊎ IsLineFault line error

abbrev pub AreRingTexts : List (List ℕ) → List (List Point) → Type 0
AreRingTexts [] [] = Unit {0}
AreRingTexts [] (ring ∷ rings) = ⊥
AreRingTexts (line ∷ lines) [] = ⊥
AreRingTexts (line ∷ lines) (ring ∷ rings) = IsRingText line ring × AreRingTexts lines rings
