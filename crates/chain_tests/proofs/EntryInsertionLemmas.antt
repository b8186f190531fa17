-- A lemma of insertion by a vacant entry.
use Rattle.std.proofs.Common.{◌≡◌, ℕ, Option, ap, ap₂, sym, ◌∙◌}
use Rattle.arena_traits.specs.Arena.{Arena, with_capacity_of}
use Rattle.chain_links.specs.ChainArena.{LinkView, insert_between}

pub place_used : {Gen T : Type 0} (old mid new : Arena Gen (LinkView T)) (t : T) (u v before after : Option ℕ) → mid ≡ with_capacity_of old mid → before ≡ u → after ≡ v
    → new ≡ insert_between mid t before after → new ≡ with_capacity_of (insert_between old t u v) new
place_used old mid new t u v before after grown first second is =
    let made = is ∙ ap₂ (insert_between mid t) first second ∙ ap (λ a. insert_between a t u v) grown in
    made ∙ ap₂ (λ n m. record (insert_between old t u v) { capacity = n; stack_capacity = m }) (sym (ap (λ a. a.capacity) made)) (sym (ap (λ a. a.stack_capacity) made))
