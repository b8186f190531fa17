use Rattle.std.specs.Prelude.{◌≡◌, ℕ, ◌+◌, ◌-◌, cond, leb, List, [], ◌∷◌, reverse, Option, None, Some}
use Rattle.arena_traits.specs.Entries.{first_key}
use Rattle.arena_traits.specs.declared.cursor.Cursor.{Cursor}
use Rattle.arena_traits.specs.declared.cursor.Cursor.TheVariants.{Up, Down, Nowhere}

abbrev pub cursor_past : Cursor → ℕ → Cursor
cursor_past (Up from) i = Up (i + 1)
cursor_past (Down to) i = Down (i - 1)
cursor_past Nowhere i = Nowhere

-- The cursor past a result; at the end for none.
abbrev pub cursor_after : {Gen : Type 0} → Cursor → Option (ℕ × Gen) → Cursor
cursor_after cursor None = Nowhere
cursor_after cursor (Some p) = cursor_past cursor p.0

module _ {Gen T : Type 0} where
  abbrev pub entries_at_or_above : ℕ → List ((ℕ × Gen) × T) → List ((ℕ × Gen) × T)
  entries_at_or_above i [] = []
  entries_at_or_above i (e ∷ es) = cond (leb i e.0.0) (e ∷ es) (entries_at_or_above i es)

  abbrev pub entries_at_or_below : ℕ → List ((ℕ × Gen) × T) → List ((ℕ × Gen) × T)
  entries_at_or_below i [] = []
  entries_at_or_below i (e ∷ es) = cond (leb e.0.0 i) (e ∷ entries_at_or_below i es) []

  -- The entries ahead of a cursor, in the order of the visits.
  abbrev pub ahead : Cursor → List ((ℕ × Gen) × T) → List ((ℕ × Gen) × T)
  ahead (Up i) es = entries_at_or_above i es
  ahead (Down i) es = reverse (entries_at_or_below i es)
  ahead Nowhere es = []

  -- The key of the first entry ahead is returned, and the cursor moves past it.
  pub record IsAdvance (es : List ((ℕ × Gen) × T)) (cursor : Cursor) (returned : Option (ℕ × Gen)) (after : Cursor) : Type 0 where
    pub first : returned ≡ first_key (ahead cursor es)
    pub moves : after ≡ cursor_after cursor returned
