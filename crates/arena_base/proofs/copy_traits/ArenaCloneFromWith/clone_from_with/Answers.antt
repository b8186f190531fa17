use Rattle.arena_base.specs.Copies.{IsCopyCall}
use Rattle.arena_base.proofs.SlotCopyLemmas.{copy_by, on_err_by, on_ok, surely}
use Rattle.arena_base.proofs.copy_traits.ArenaCloneFromWith.clone_from_with.Goals as goal

pub returns : goal.returns
returns g c =
    let called = c.clone_from_by-done in
    let made = called.ensures in
    let calls = IsCopyCall g.F.FnMut in
    record {
      within = λ few. surely (λ never. never.refusable) (made.within few);
      beyond = made.beyond;
      ok = made.ok;
      copied = on_ok called.result.0 (λ made. (called.result.1.map, copy_by (λ m p u t n. calls m.map p u t n.map) calls (λ m. m.map) (λ v p u t w m. m) g.P.PtrKey.key _ called.result.1 c.args.source.now _ _ made)) made.copied;
      never_less = made.never_less;
      err = on_err_by called.result.0 (λ same. same.0) (λ never. absurd never.0.refusable) made.err;
      implementation = made.implementation;
    }
