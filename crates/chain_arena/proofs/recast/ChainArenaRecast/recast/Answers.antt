use Rattle.std.proofs.Common.{refl}
use Rattle.chain_arena.proofs.RecastLemmas.{recasting_begins, recast_all, next_valid, fewer_left, recast_next, recast_refused}
use Rattle.chain_arena.proofs.recast.ChainArenaRecast.recast.Goals as goal

pub loop-p-init : goal.loop-p-init
loop-p-init g c = recasting_begins _ c.args.self.now c.advancer-all.result.cursor c.advancer-all.ensures

pub loop-p-smaller : goal.loop-p-smaller
loop-p-smaller g c = fewer_left _ c.args.self.now c.loop-p.self c.loop-p.all.cursor c.loop-p.invariant (g.P.PtrKey.key c.in-Some.p) c.advance.new.self.cursor c.in-Some.ensures c.recast_at.new.arena _ (c.in-Ok.ensures (next_valid _ c.args.self.now c.loop-p.self c.loop-p.all.cursor c.loop-p.invariant (g.P.PtrKey.key c.in-Some.p) c.advance.new.self.cursor c.in-Some.ensures))

pub loop-p-preserved : goal.loop-p-preserved
loop-p-preserved g c = recast_next _ c.args.self.now c.loop-p.self c.loop-p.all.cursor c.loop-p.invariant (g.P.PtrKey.key c.in-Some.p) c.advance.new.self.cursor c.in-Some.ensures c.recast_at.new.arena _ (c.in-Ok.ensures (next_valid _ c.args.self.now c.loop-p.self c.loop-p.all.cursor c.loop-p.invariant (g.P.PtrKey.key c.in-Some.p) c.advance.new.self.cursor c.in-Some.ensures)) refl

pub returns-in-Err : goal.returns-in-Err
returns-in-Err g c = recast_refused _ c.args.self.now c.loop-p.self c.loop-p.all.cursor c.loop-p.invariant (g.P.PtrKey.key c.in-Some.p) c.advance.new.self.cursor c.in-Some.ensures c.recast_at.new.arena _ (c.in-Err.ensures (next_valid _ c.args.self.now c.loop-p.self c.loop-p.all.cursor c.loop-p.invariant (g.P.PtrKey.key c.in-Some.p) c.advance.new.self.cursor c.in-Some.ensures)) c.in-Err.refusal refl

pub returns : goal.returns
returns g c = recast_all _ c.args.self.now c.loop-p.self c.loop-p.all.cursor c.loop-p.invariant c.advance.new.self.cursor c.in_default.ensures
