use Rattle.std.proofs.Common.{◌≡◌, ◌∷◌, map, Bool, true, false, rules}
use Rattle.arena_traits.specs.Arena.{IsValid}
use Rattle.chain_links.specs.ChainArena.{CanPutInOrder}
use Rattle.chain_traits.proofs.LinkOrderLemmas.{are_same, are_other, test_goes_on, test_fails, tested_all}
use Rattle.chain_traits.proofs.arrange.can_follow.Goals as goal
use Rattle.chain_traits.proofs.arrange.can_follow.Goals.{then-not-contains-via-then-not-contains, then-not-contains-via-else-not-contains+then-is_same}

not_both : (b : Bool) → b ≡ true → b ≡ false → ⊥
not_both b e f = cc

pub loop-q-init : goal.loop-q-init
loop-q-init g c = record { valid = c.requires; same = (λ can. can, λ can. can) }

pub loop-q-preserved : goal.loop-q-preserved
loop-q-preserved g c =
    let i = c.inx.result in
    let j = c.inx-else-not-contains.result in
    record {
      valid = c.contains.ensures.0 c.if-not-contains.false;
      same = test_goes_on (g.A.ArenaTrait.entry c.args.arena.now) g.P.PtrKey.key (CanPutInOrder (g.A.ArenaTrait.entry c.args.arena.now) (map g.P.PtrKey.key (c.args.first ∷ c.args.followers.now))) c.loop-q.before c.q-item.result
          c.args.followers.now c.loop-q.q-index c.loop-q-test.true c.q-item.is c.loop-q.invariant.same c.loop-q.invariant.valid
          (are_other g.P.Inx.InxKey.number i j c.is_same.result _ _ _ (g.met.P.Inx.InxKey.same_is_equal i j) c.is_same.ensures c.inx.ensures c.inx-else-not-contains.ensures
          (g.met.P.Inx.InxKey.same_number i j) c.if-is_same.false);
    }

pub returns-then-not-contains : goal.returns-then-not-contains
returns-then-not-contains g c = (
  (λ h. absurd (cc)),
  λ all. absurd (test_fails (g.A.ArenaTrait.entry c.args.arena.now) g.P.PtrKey.key _ c.loop-q.before c.q-item.result c.args.followers.now c.loop-q.q-index c.loop-q-test.true c.q-item.is
      c.loop-q.invariant.same wrong all),
)
  where
    wrong : IsValid (g.A.ArenaTrait.entry c.args.arena.now) (g.P.PtrKey.key c.q-item.result) → (g.P.PtrKey.key c.q-item.result).0 ≡ (g.P.PtrKey.key c.loop-q.before).0
    wrong valid =
        elim c.then-not-contains.branch [
          | then-not-contains-via-then-not-contains w ↦ absurd (not_both _ (c.contains.ensures.1 valid) w.if-not-contains.true)
          | then-not-contains-via-else-not-contains+then-is_same w ↦
              let i = w.inx.result in
              let j = w.inx-else-not-contains.result in
              are_same g.P.Inx.InxKey.number i j w.is_same.result _ _ _ (g.met.P.Inx.InxKey.same_is_equal i j) w.is_same.ensures w.inx.ensures w.inx-else-not-contains.ensures w.if-is_same.true
        ]

pub returns : goal.returns
returns g c = (
  (λ h. tested_all (g.A.ArenaTrait.entry c.args.arena.now) g.P.PtrKey.key _ c.loop-q.before c.args.followers.now c.loop-q.q-index c.loop-q-test.false c.loop-q.invariant.same
      c.loop-q.invariant.valid),
  λ all. search rules,
)
