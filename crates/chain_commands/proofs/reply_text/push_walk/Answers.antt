use Rattle.std.proofs.Common.{◌∙◌, ap}
use Rattle.std.specs.Prelude.{string_bytes}
use Rattle.chain_commands.proofs.ResponseLemmas.{IsWalked-first, IsWalked-next}
use Rattle.chain_commands.proofs.reply_text.push_walk.Goals as goal
use Rattle.chain_commands.proofs.reply_text.push_walk.Goals.{then-not-is_first+in_ok-push_str, else-not-is_first}

pub loop-p-preserved : goal.loop-p-preserved
loop-p-preserved g c = elim c.if-not-is_first.branch [
  | then-not-is_first+in_ok-push_str w ↦
      IsWalked-next _ _ _ _ _ _ _ _ _ c.loop-p.invariant c.in-Some.ensures.steps c.in_ok-push_passed.ensures w.if-not-is_first.true (ap string_bytes w.text-is ∙ w.in_ok-push_str.ensures.bytes)
  | else-not-is_first w ↦
      IsWalked-first _ _ _ _ _ _ _ _ _ c.loop-p.invariant c.in-Some.ensures.steps c.in_ok-push_passed.ensures w.if-not-is_first.false (ap string_bytes w.text-is)
]
