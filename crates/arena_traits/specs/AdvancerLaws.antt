use Rattle.std.specs.Prelude.{◌≡◌, ℕ, List, Option, None, Some}
use Rattle.std.specs.Option.{option_map}
use Rattle.std.proofs.Common.{refl, ap, ◌∙◌}
use Rattle.arena_traits.specs.Advancers.{IsAdvance, ahead}
use Rattle.arena_traits.specs.Entries.{first_key}
use Rattle.arena_traits.specs.declared.cursor.Cursor.{Cursor}
use Rattle.arena_traits.specs.declared.cursor.Cursor.TheVariants.{Nowhere}

pub nowhere_stays : {P Gen T : Type 0} (key : P → ℕ × Gen) (es : List ((ℕ × Gen) × T)) (cursor : Cursor) (returned : Option P) (after : Cursor)
    → cursor ≡ Nowhere → IsAdvance es cursor (option_map key returned) after → (returned ≡ None) × (after ≡ Nowhere)
nowhere_stays key es cursor None after spent given = (refl, given.moves)
nowhere_stays key es cursor (Some p) after spent given =
    let met : Some (key p) ≡ None = given.first ∙ ap (λ l. first_key (ahead l es)) spent in cc
