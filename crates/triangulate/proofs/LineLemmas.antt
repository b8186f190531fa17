-- Lines parsed in turn.
use Rattle.std.proofs.Common.{◌≡◌, ℕ, zero, suc, ◌<◌, length, List, [], ◌∷◌, ◌++◌, take, Err, refl, sym, ap, subst, arith}
use Rattle.std.specs.Prelude.{get_or}
use Rattle.std.specs.List.{HoldsAt}
use Rattle.std.specs.declared.vec.Vec.{Vec}
use Rattle.std.specs.declared.alloc.Global.{Global}
use Rattle.std.proofs.lemmas.List.{length-map}
use Rattle.triangulation.specs.declared.points.Point.{Point}
use Rattle.triangulation.specs.Polygons.{rings_of}
use Rattle.triangulate.specs.declared.numbers.LineError.{LineError}
use Rattle.triangulate.specs.RingTexts.{texts_of, IsRingText, AreRingTexts, ParsesRing}
use Rattle.triangulate.specs.LinePolygons.{IsFirstUnparsed}

pub rings_more : (lines : List (List ℕ)) (rings : List (List Point)) (line : List ℕ) (ring : List Point) → AreRingTexts lines rings → IsRingText line ring → AreRingTexts (lines ++ line ∷ []) (rings ++ ring ∷ [])
rings_more [] [] line ring are is = (is, tt)
rings_more [] (r ∷ rs) line ring are is = absurd are
rings_more (l ∷ ls) [] line ring are is = absurd are
rings_more (l ∷ ls) (r ∷ rs) line ring are is = (are.0, rings_more ls rs line ring are.1 is)

as_many : (lines : List (List ℕ)) (rings : List (List Point)) → AreRingTexts lines rings → length lines ≡ length rings
as_many [] [] are = refl
as_many [] (ring ∷ rings) are = absurd are
as_many (line ∷ lines) [] are = absurd are
as_many (line ∷ lines) (ring ∷ rings) are = ap suc (as_many lines rings are.1)

pub some_rings : (lines : List (Vec ℕ Global)) (rings : List (Vec Point Global)) → 0 < length lines → AreRingTexts (texts_of lines) (rings_of rings) → 0 < length rings
some_rings lines rings some are = omega (arith, some, as_many (texts_of lines) (rings_of rings) are, length-map lines (λ (v : Vec ℕ Global). v.items), length-map rings (λ (v : Vec Point Global). v.items))

at_line : (P : List ℕ → Type 0) (lines : List (Vec ℕ Global)) (i : ℕ) (line : Vec ℕ Global) → i < length lines → line ≡ get_or lines i line → P line.items → HoldsAt P (texts_of lines) i
at_line P [] i line within is holds = absurd (omega (arith, within))
at_line P (l ∷ lines) zero line within is holds = λ d. subst (λ (v : Vec ℕ Global). P v.items) is holds
at_line P (l ∷ lines) (suc i) line within is holds = at_line P lines i line (omega (arith, within)) is holds

take-texts : (i : ℕ) (lines : List (Vec ℕ Global)) → texts_of (take i lines) ≡ take i (texts_of lines)
take-texts zero lines = refl
take-texts (suc i) [] = refl
take-texts (suc i) (l ∷ lines) = ap (λ texts. l.items ∷ texts) (take-texts i lines)

pub first_unparsed : (lines : List (Vec ℕ Global)) (i : ℕ) (line : Vec ℕ Global) (text : List ℕ) (rings : List (List Point)) (error : LineError) → i < length lines → line ≡ get_or lines i line → text ≡ line.items
    → AreRingTexts (texts_of (take i lines)) rings → ParsesRing text (Err error) → IsFirstUnparsed (texts_of lines) i error
first_unparsed lines i line text rings error within is same before refused = record {
  within = omega (arith, within, length-map lines (λ (v : Vec ℕ Global). v.items));
  rings = rings;
  before = subst (λ texts. AreRingTexts texts rings) (take-texts i lines) before;
  line = at_line (λ l. ParsesRing l (Err error)) lines i line within is (subst (λ l. ParsesRing l (Err error)) same refused);
}
