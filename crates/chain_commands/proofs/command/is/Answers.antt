use Rattle.std.proofs.Common.{[], ◌∷◌, ◌++◌, refl, sym, ap₂, ◌∙◌, arith, take_all}
use Rattle.std.proofs.lemmas.List.{take_more}
use Rattle.std.proofs.lemmas.Slice.Eq.{bytes_eq-Decides}
use Rattle.chain_commands.proofs.command.is.Goals as goal

pub loop-i-init : goal.loop-i-init
loop-i-init c = record { within = omega arith; same = refl }

pub loop-i-preserved : goal.loop-i-preserved
loop-i-preserved c =
    let i = c.loop-i.i in
    let below = c.loop-i-test.true in
    let lengths = c.if-word-bytes.false in
    record {
      within = omega (arith, below);
      same = take_more c.args.word.now i 0 (omega (arith, below, lengths)) ∙ ap₂ (λ front c. front ++ c ∷ []) c.loop-i.invariant.same c.if-word-i.false
          ∙ sym (take_more c.as_bytes-bytes.result.now i 0 below);
    }

pub returns : goal.returns
returns c =
    let all = c.loop-i-test.false in
    let lengths = c.if-word-bytes.false in
    let same = sym (take_all c.loop-i.i c.args.word.now (omega (arith, all, lengths))) ∙ c.loop-i.invariant.same ∙ take_all c.loop-i.i c.as_bytes-bytes.result.now all in
    sym ((bytes_eq-Decides c.args.word.now c.args.text.now).1 (same ∙ c.as_bytes-bytes.ensures.value))
