use Rattle.std.specs.Prelude.{◌≡◌, ℕ, ◌==◌, ◌&&◌, ◌↔◌, true, List, ◌++◌, codes}
use Rattle.std.proofs.Common.{ap}
use Rattle.std.proofs.lemmas.Bool.{and_from, and_parts}
use Rattle.arena_ptr.specs.Indexes.{number_of_inx32, same_inx32, eq_is_same_inx32}
use Rattle.arena_ptr.specs.Generations.{number_of_gen24, same_bytes24, eq_is_same_gen24}
use Rattle.arena_core.specs.PointerText.{hexadecimal, in_parentheses}
use Rattle.arena_ptr.specs.declared.generation.gen24.Gen24.{Gen24}
use Rattle.arena_ptr.specs.declared.slim_ptr.SlimPtr.{SlimPtr}

abbrev pub key_of : SlimPtr → ℕ × Gen24
key_of p = (number_of_inx32 p.inx, p.generation)

pub same_parts : (p q : SlimPtr) → p.inx ≡ q.inx → p.generation ≡ q.generation → p ≡ q
same_parts p q same_inx same_generation = λ i. record { inx = same_inx i; generation = same_generation i }

pub same_slim_ptr : (p q : SlimPtr) → key_of p ≡ key_of q → p ≡ q
same_slim_ptr p q e =
    same_parts p q (same_inx32 p.inx q.inx (ap (λ (k : ℕ × Gen24). k.0) e)) (ap (λ (k : ℕ × Gen24). k.1) e)

pub eq_is_same_slim_ptr : (p q : SlimPtr) → (((p.inx.number == q.inx.number) && same_bytes24 p.generation q.generation) ≡ true) ↔ (p ≡ q)
eq_is_same_slim_ptr p q =
    let inx = eq_is_same_inx32 p.inx q.inx in
    let generation = eq_is_same_gen24 p.generation q.generation in (
      λ t. let both = and_parts _ _ t in same_parts p q (inx.0 both.0) (generation.0 both.1),
      λ e. and_from _ _ (inx.1 (ap (λ (r : SlimPtr). r.inx) e)) (generation.1 (ap (λ (r : SlimPtr). r.generation) e)),
    )

-- The text, as in `SlimPtr[1](2)`.
abbrev pub text_of : SlimPtr → List ℕ
text_of p = codes "SlimPtr" ++ codes "[" ++ hexadecimal (number_of_inx32 p.inx) ++ codes "]" ++ in_parentheses (number_of_gen24 p.generation)
