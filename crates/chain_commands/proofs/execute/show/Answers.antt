use Rattle.std.proofs.Common.{◌≡◌, ◌∙◌, ◌++◌, ℕ, List, [], Option, Result, Ok, Err, OnOk, ap, sym, subst}
use Rattle.std.specs.Option.{option_map}
use Rattle.arena_ptr.specs.ToolPtr.{key_of}
use Rattle.arena_ptr.specs.declared.generation.gen32.Gen32.{Gen32}
use Rattle.arena_ptr.specs.declared.tool_ptr.ToolPtr.{ToolPtr}
use Rattle.chain_commands.specs.Responses.{ToolLinks, IsLinkIn, RespondsToShow, link, show_text}
use Rattle.chain_commands.proofs.execute.show.Goals as goal

reported_ok : {T E : Type 0} (a : ToolLinks) (p : ℕ × Gen32) (prev next prev_got next_got : Option ToolPtr) (value : ℕ) (before text : List ℕ) (r : Result T E)
    → IsLinkIn a p (option_map key_of prev) (option_map key_of next) value → prev_got ≡ prev → next_got ≡ next → before ≡ []
    → OnOk r (text ≡ before ++ show_text (option_map key_of prev_got) (option_map key_of next_got) value) → OnOk r (RespondsToShow a p text)
reported_ok a p prev next prev_got next_got value before text (Ok x) at same_prev same_next none written =
    link (option_map key_of prev_got) (option_map key_of next_got) value
    (subst (λ q. IsLinkIn a p (option_map key_of q) (option_map key_of next_got) value) (sym same_prev)
    (subst (λ q. IsLinkIn a p (option_map key_of prev) (option_map key_of q) value) (sym same_next) at))
    (written ∙ ap (λ b. b ++ show_text (option_map key_of prev_got) (option_map key_of next_got) value) none)
reported_ok a p prev next prev_got next_got value before text (Err e) at same_prev same_next none written = tt

pub returns-in-Some : goal.returns-in-Some
returns-in-Some g c =
    reported_ok _ _ _ _ _ _ _ _ _ c.push_link.result c.in-Some.ensures.outcome.link c.prev.ensures c.next.ensures c.clear.ensures.bytes c.push_link.ensures
