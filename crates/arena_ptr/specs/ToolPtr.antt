use Rattle.std.specs.Prelude.{◌≡◌, ℕ, ◌==◌, ◌&&◌, ◌↔◌, true, List, ◌++◌, codes}
use Rattle.std.proofs.Common.{ap}
use Rattle.std.proofs.lemmas.Bool.{and_from, and_parts}
use Rattle.arena_ptr.specs.Indexes.{number_of_inx32, same_inx32, eq_is_same_inx32}
use Rattle.arena_ptr.specs.Generations.{number_of_gen32, eq_is_same_gen32}
use Rattle.arena_core.specs.PointerText.{hexadecimal, in_parentheses}
use Rattle.arena_ptr.specs.declared.generation.gen32.Gen32.{Gen32}
use Rattle.arena_ptr.specs.declared.tool_ptr.ToolPtr.{ToolPtr}

abbrev pub key_of : ToolPtr → ℕ × Gen32
key_of p = (number_of_inx32 p.inx, p.generation)

pub same_parts : (p q : ToolPtr) → p.inx ≡ q.inx → p.generation ≡ q.generation → p ≡ q
same_parts p q same_inx same_generation = λ i. record { inx = same_inx i; generation = same_generation i }

pub same_tool_ptr : (p q : ToolPtr) → key_of p ≡ key_of q → p ≡ q
same_tool_ptr p q e =
    same_parts p q (same_inx32 p.inx q.inx (ap (λ (k : ℕ × Gen32). k.0) e)) (ap (λ (k : ℕ × Gen32). k.1) e)

pub eq_is_same_tool_ptr : (p q : ToolPtr) → (((p.inx.number == q.inx.number) && (p.generation.number == q.generation.number)) ≡ true) ↔ (p ≡ q)
eq_is_same_tool_ptr p q =
    let inx = eq_is_same_inx32 p.inx q.inx in
    let generation = eq_is_same_gen32 p.generation q.generation in (
      λ t. let both = and_parts _ _ t in same_parts p q (inx.0 both.0) (generation.0 both.1),
      λ e. and_from _ _ (inx.1 (ap (λ (r : ToolPtr). r.inx) e)) (generation.1 (ap (λ (r : ToolPtr). r.generation) e)),
    )

-- The text, as in `P0[1](2)`.
abbrev pub text_of : ToolPtr → List ℕ
text_of p = codes "P0" ++ codes "[" ++ hexadecimal (number_of_inx32 p.inx) ++ codes "]" ++ in_parentheses (number_of_gen32 p.generation)
