use Rattle.std.proofs.Common.{◌≡◌, ◌∙◌, ◌++◌, ℕ, List, [], Result, Ok, Err, OnOk, ap}
use Rattle.arena_ptr.specs.declared.generation.gen32.Gen32.{Gen32}
use Rattle.chain_links.specs.ChainArena.{LinkView, IsWalkOf}
use Rattle.chain_commands.specs.Responses.{ToolLinks, IsValidIn, RespondsToChain, walk, walk_text}
use Rattle.chain_commands.proofs.execute.chain.Goals as goal

walked_ok : {T E : Type 0} (a : ToolLinks) (p : ℕ × Gen32) (links : List (ℕ × (Gen32 × LinkView ℕ))) (before text : List ℕ) (r : Result T E) → IsValidIn a p → IsWalkOf a p.0 links → before ≡ []
    → OnOk r (text ≡ before ++ walk_text links) → OnOk r (RespondsToChain a p text)
walked_ok a p links before text (Ok x) valid at none written = walk links valid at (written ∙ ap (λ b. b ++ walk_text links) none)
walked_ok a p links before text (Err e) valid at none written = tt

pub returns-in-Some : goal.returns-in-Some
returns-in-Some g c = walked_ok _ _ _ _ _ c.push_walk.result c.in-Some.ensures.0 c.in-Some.ensures.1 c.clear.ensures.bytes c.push_walk.ensures
