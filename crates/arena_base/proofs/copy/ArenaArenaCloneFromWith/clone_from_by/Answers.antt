use Rattle.arena_base.proofs.SlotCopyLemmas.{copy_viewed, copy_abandoned_viewed, on_err_either, on_ok, on_ok_both}
use Rattle.arena_base.proofs.copy.ArenaArenaCloneFromWith.clone_from_by.Goals as goal

pub returns : goal.returns
returns g c =
    let called = c.clone_from_by in
    let r = called.result.0 in
    let made = called.ensures in
    record {
      within = made.within;
      beyond = made.beyond;
      unchanged = made.unchanged;
      ok = on_ok r (λ capacity. capacity.0) made.ok;
      copied = on_ok_both r (λ made has. copy_viewed g.M.ValueMap.makes g.P.PtrKey.key c.args.values called.result.1 c.args.source.now c.args.self.now called.new.self has made) made.copied made.slots;
      ready = made.ready;
      never_less = made.never_less;
      err = on_err_either r (λ same. same) (λ gave_up. (gave_up.0, copy_abandoned_viewed c.args.self.now called.new.self gave_up.1)) made.err;
      implementation = on_ok r (λ slots. (slots, made.reached)) made.slots;
    }
