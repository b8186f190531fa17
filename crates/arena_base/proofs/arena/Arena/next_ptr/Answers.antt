use Rattle.std.proofs.Common.{◌+◌, ◌∙◌, ap, sym}
use Rattle.std.proofs.lemmas.List.{length-map}
use Rattle.arena_base.specs.Slots.{entry_of}
use Rattle.arena_base.proofs.SoundnessLemmas.{none_freed, first_freed, first_new}
use Rattle.arena_base.proofs.arena.Arena.next_ptr.Goals.{in-Some, in-None}
use Rattle.arena_base.proofs.arena.Arena.next_ptr.Goals as goal

pub returns : goal.returns
returns g c =
    let packed_number = g.P.Inx.InxKey.packed_number in
    let sound = c.self.invariant in
    let items = g.S.SlotStack.items c.self.inside.slots in
    rw (← c.self.view_is) (c._from_raw.ensures ∙ ap (λ n. (n, c.self.inside.counter)) (elim c.match-unpack.branch [
      | in-Some w ↦ rw w.i-is (first_freed packed_number _ sound (sym w.in-Some.ensures) _)
      | in-None w ↦
          let none = sym w.in-None.ensures in
          rw w.i-is (w.inx_at-i.ensures ∙ (ap (λ n. n + 1) (none_freed packed_number sound none ∙ sym (length-map items entry_of)) ∙ first_new packed_number sound none _))
    ]))
