use Rattle.std.proofs.Common.{◌≡◌, ℕ, ◌+◌, List, Option, take, drop, sym, subst, arith}
use Rattle.std.proofs.Math.Seq.{take-add}
use Rattle.std.specs.Io.KnownBytes.{Appends, Keeps}
use Rattle.std.proofs.KnownBytes.{Appends-trans, Appends-kept}
use Rattle.chain_commands.proofs.session.write_fully.Goals as goal
use Rattle.chain_commands.proofs.session.write_fully.Goals.{in-Ok, in-Err+else-ne}

more : (a b c : Option (List ℕ)) (text rest : List ℕ) (w n m : ℕ) → m ≡ w + n → rest ≡ drop w text → Appends a b (take w text) → Appends b c (take n rest) → Appends a c (take m text)
more a b c text rest w n m sum e first next =
    subst (λ k. Appends a c (take k text)) (sym sum) (
    subst (Appends a c) (sym (take-add w n text)) (Appends-trans a b c _ _ first (subst (λ r. Appends b c (take n r)) e next)))

kept : (a b c : Option (List ℕ)) (text : List ℕ) (w m : ℕ) → m ≡ w → Appends a b (take w text) → Keeps b c → Appends a c (take m text)
kept a b c text w m same first next = subst (λ k. Appends a c (take k text)) (sym same) (Appends-kept a b c _ first next)

pub loop-preserved : goal.loop-preserved
loop-preserved g c = elim c.match-write.branch [
  | in-Ok w ↦ let bound = w.in-Ok.ensures.bound in let back = c.split_at.ensures.back_len in record {
    within = omega (arith, w.written-is, bound, back);
    taken = more _ _ _ c.args.text.now _ c.loop.written w.in-Ok.n _ w.written-is c.split_at.ensures.back c.loop.invariant.taken w.in-Ok.ensures.bytes;
  }
  | in-Err+else-ne w ↦ record {
    within = omega (arith, w.written-is, c.loop.invariant.within);
    taken = kept _ _ _ c.args.text.now c.loop.written _ w.written-is c.loop.invariant.taken w.in-Err.ensures.bytes;
  }
]
