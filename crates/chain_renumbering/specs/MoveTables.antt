-- Tables of moves, by old index.
use Rattle.std.specs.Prelude.{ℕ, Bool, if◌then◌else◌, List, fold, Option, None, Some}
use Rattle.arena_traits.specs.Arena.{slot_at, with_slot}

module _ {P Gen : Type 0} (key : P → ℕ × Gen) where
  abbrev pub stored_for : P × P → Gen × P
  stored_for m = ((key m.0).1, m.1)

  abbrev pub with_move : List (Option (Gen × P)) → P × P → List (Option (Gen × P))
  with_move table m = with_slot table (key m.0).0 (Some (stored_for m))

  -- The table with moves written one after another.
  abbrev pub with_moves : List (Option (Gen × P)) → List (P × P) → List (Option (Gen × P))
  with_moves table moves = fold with_move table moves

  abbrev pub key_stored_for : (Gen → Gen → Bool) → Gen → Option (Gen × P) → Option (ℕ × Gen)
  key_stored_for same g None = None
  key_stored_for same g (Some e) = if same e.0 g then Some (key e.1) else None

  -- The new key for the old key `p`, if there is one.
  abbrev pub new_key_of : (Gen → Gen → Bool) → List (Option (Gen × P)) → ℕ × Gen → Option (ℕ × Gen)
  new_key_of same table p = key_stored_for same p.1 (slot_at table p.0)
