use Rattle.std.specs.Prelude.{◌≡◌, ℕ, ◌==◌, ◌&&◌, ◌↔◌, true, List, ◌++◌, codes}
use Rattle.std.proofs.Common.{ap}
use Rattle.std.proofs.lemmas.Bool.{and_from, and_parts}
use Rattle.arena_ptr.specs.Indexes.{number_of_inx16, same_inx16, eq_is_same_inx16}
use Rattle.arena_ptr.specs.Generations.{number_of_gen16, eq_is_same_gen16}
use Rattle.arena_core.specs.PointerText.{hexadecimal, in_parentheses}
use Rattle.arena_ptr.specs.declared.generation.gen16.Gen16.{Gen16}
use Rattle.arena_ptr.specs.declared.tiny_ptr.TinyPtr.{TinyPtr}

abbrev pub key_of : TinyPtr → ℕ × Gen16
key_of p = (number_of_inx16 p.inx, p.generation)

pub same_parts : (p q : TinyPtr) → p.inx ≡ q.inx → p.generation ≡ q.generation → p ≡ q
same_parts p q same_inx same_generation = λ i. record { inx = same_inx i; generation = same_generation i }

pub same_tiny_ptr : (p q : TinyPtr) → key_of p ≡ key_of q → p ≡ q
same_tiny_ptr p q e =
    same_parts p q (same_inx16 p.inx q.inx (ap (λ (k : ℕ × Gen16). k.0) e)) (ap (λ (k : ℕ × Gen16). k.1) e)

pub eq_is_same_tiny_ptr : (p q : TinyPtr) → (((p.inx.number == q.inx.number) && (p.generation.number == q.generation.number)) ≡ true) ↔ (p ≡ q)
eq_is_same_tiny_ptr p q =
    let inx = eq_is_same_inx16 p.inx q.inx in
    let generation = eq_is_same_gen16 p.generation q.generation in (
      λ t. let both = and_parts _ _ t in same_parts p q (inx.0 both.0) (generation.0 both.1),
      λ e. and_from _ _ (inx.1 (ap (λ (r : TinyPtr). r.inx) e)) (generation.1 (ap (λ (r : TinyPtr). r.generation) e)),
    )

-- The text, as in `TinyPtr[1](2)`.
abbrev pub text_of : TinyPtr → List ℕ
text_of p = codes "TinyPtr" ++ codes "[" ++ hexadecimal (number_of_inx16 p.inx) ++ codes "]" ++ in_parentheses (number_of_gen16 p.generation)
