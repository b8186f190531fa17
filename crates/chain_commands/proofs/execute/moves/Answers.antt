use Rattle.std.proofs.Common.{refl, ◌≡◌, ◌∙◌, ◌++◌, ◌+◌, ◌<◌, ◌≤◌, List, ℕ, [], sym, ap, length, arith, string_bytes, length-append}
use Rattle.arena_ptr.specs.Generations.{two32, after32}
use Rattle.arena_ptr.specs.ToolPtr.{key_of}
use Rattle.chain_commands.specs.Responses.{moves_text}
use Rattle.chain_compaction.proofs.VisitorLemmas.{moves_count}
use Rattle.chain_commands.proofs.execute.moves.Goals as goal

fits_into : (before added : List ℕ) (n len new_capacity : ℕ) → before ≡ [] → length added < n → len + n ≤ new_capacity → length before + length added ≤ new_capacity
fits_into before added n len new_capacity none less fits = omega (arith, ap length none, less, fits)

capacity_after : (before text added : List ℕ) (n len new_capacity capacity_now : ℕ) → before ≡ [] → text ≡ before ++ added → length added < n → len + n ≤ new_capacity → new_capacity ≤ capacity_now → length text + 1 ≤ capacity_now
capacity_after before text added n len new_capacity capacity_now none is less fits more =
    omega (arith, ap length none, ap length is, length-append before added, less, fits, more)

pub moves_text_capacity-requires : goal.moves_text_capacity-requires
moves_text_capacity-requires g c = let len = c.len.ensures in omega (arith, len.count, len.sound.fits, len.capacity.1)

pub write_moves-requires : goal.write_moves-requires
write_moves-requires g c =
    let made = c.in-Ok.ensures in
    let as_many = moves_count key_of two32 after32 c.args.reset _ _ _ _ _ c.in-Ok.moves.items made.compressed.0.canonical made.moves in
    let less = c.moves_text_capacity.ensures c.as_slice.result.now c.in-Ok.known (ap length c.as_slice.ensures.value ∙ (as_many ∙ sym c.len.ensures.count)) in
    fits_into (string_bytes c.reserve.new.self) (moves_text c.as_slice.result.now c.in-Ok.known) _ _ _ (c.reserve.ensures.bytes ∙ c.clear.ensures.bytes) less c.in_ok-reserve.ensures.ok

pub returns-in-Ok : goal.returns-in-Ok
returns-in-Ok g c =
    let made = c.in-Ok.ensures in
    let none : string_bytes c.reserve.new.self ≡ [] = c.reserve.ensures.bytes ∙ c.clear.ensures.bytes in
    let as_many = moves_count key_of two32 after32 c.args.reset _ _ _ _ _ c.in-Ok.moves.items made.compressed.0.canonical made.moves in
    let less = c.moves_text_capacity.ensures c.as_slice.result.now c.in-Ok.known (ap length c.as_slice.ensures.value ∙ (as_many ∙ sym c.len.ensures.count)) in
    record {
      ok = record {
        known = c.in-Ok.known;
        moves = c.in-Ok.moves.items;
        step = (c.in-Ok.known, refl, made.compressed);
        all = made.moves;
        text_is = c.write_moves.ensures.bytes ∙ (ap (λ b. b ++ moves_text c.as_slice.result.now c.in-Ok.known) none ∙ ap (λ items. moves_text items c.in-Ok.known) c.as_slice.ensures.value);
      };
      capacity = capacity_after (string_bytes c.reserve.new.self) _ _ _ _ _ _ none c.write_moves.ensures.bytes less c.in_ok-reserve.ensures.ok c.write_moves.ensures.capacity;
      err = tt;
    }
