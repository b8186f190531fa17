use Rattle.std.proofs.Common.{◌≡◌, List, ℕ, ◌++◌, take, ap, ◌∙◌, sym, subst, refl, string_bytes, Result, Ok, Err, OnOk, IsErrAnd, arith}
use Rattle.chain_commands.specs.Commands.{line_of}
use Rattle.chain_commands.specs.Responses.{ToolArenas}
use Rattle.chain_commands.specs.Progress.{TranscribesOne}
use Rattle.chain_commands.proofs.ResponseLemmas.{same_arenas}
use Rattle.chain_commands.proofs.ProgressLemmas.{responses-line, response-written, response-fails, none_kept, line_in_place}
use Rattle.chain_commands.proofs.LineSplitLemmas.{line_of-take}
use Rattle.chain_commands.proofs.session.end_line.Goals as goal
use Rattle.chain_commands.proofs.session.end_line.Goals.{then-is_empty+in_ok-respond, else-is_empty+in_ok-buffer_line+in_ok-respond-2}

no_success : {T E : Type 0} (P : Type 0) (Q : E → Type 0) (r : Result T E) → IsErrAnd r Q → OnOk r P
no_success P Q (Ok x) fails = absurd fails
no_success P Q (Err e) fails = tt

anyhow : {T E : Type 0} {P : Type 0} (r : Result T E) → P → OnOk r P
anyhow (Ok x) known = known
anyhow (Err e) known = tt

line_joined : (whole kept line : List ℕ) → whole ≡ kept → kept ≡ take 201 line → line_of whole ≡ line_of line
line_joined whole kept line same is = ap line_of (same ∙ is) ∙ line_of-take line

pub returns-in_err-respond : goal.returns-in_err-respond
returns-in_err-respond g c =
    let front = c.args.front.now in
    record {
      responded = λ rest is.
          responses-line c.from_residual.result _ _ front (rest ++ front) _ _ (line_in_place _ rest front front (none_kept _ _ _ (omega (arith, c.args.line.now.ok.0)) c.is_empty.ensures c.if-is_empty.true) is refl)
          (response-fails c.from_residual.result _ _ front _ c.from_residual.ensures.1 c.in_err-respond.ensures.err);
      empty = no_success _ _ c.from_residual.result c.from_residual.ensures.1;
    }

pub returns-in_err-respond-2 : goal.returns-in_err-respond-2
returns-in_err-respond-2 g c =
    let front = c.args.front.now in
    let whole = c.deref.result.now in
    let r = c.from_residual-in_err-respond-2 in
    record {
      responded = λ rest is.
          responses-line r.result _ _ whole (rest ++ front) _ _ (line_joined whole _ (rest ++ front) c.deref.ensures.value (c.in_ok-buffer_line.ensures.ok rest is))
          (response-fails r.result _ _ whole _ r.ensures.1 c.in_err-respond-2.ensures.err);
      empty = no_success _ _ r.result r.ensures.1;
    }

pub returns : goal.returns
returns g c =
    let front = c.args.front.now in
    let r = c.write_fully.result in
    elim c.if-is_empty.branch [
      | then-is_empty+in_ok-respond w ↦
          let none = none_kept _ _ _ (omega (arith, c.args.line.now.ok.0)) c.is_empty.ensures w.if-is_empty.true in
          record {
            responded = λ rest is.
                subst (λ (arenas : ToolArenas). TranscribesOne r (c.args.arena.now, c.args.other.now) arenas (rest ++ front) (g.W.Write.contents c.args.writer.now) (g.W.Write.contents c.write_fully.new.writer)) (sym (same_arenas w.arena-is w.other-is))
                (responses-line r _ _ front (rest ++ front) _ _ (line_in_place _ rest front front none is refl)
                (response-written r _ _ front (string_bytes w.respond.new.text) _ _ _ w.in_ok-respond.ensures.ok (c.as_bytes.ensures.value ∙ ap string_bytes w.text-is) c.write_fully.ensures));
            empty = anyhow r (ap (λ l. l.items) w.line-is ∙ none);
          }
      | else-is_empty+in_ok-buffer_line+in_ok-respond-2 w ↦
          let whole = w.deref.result.now in
          record {
            responded = λ rest is.
                subst (λ (arenas : ToolArenas). TranscribesOne r (c.args.arena.now, c.args.other.now) arenas (rest ++ front) (g.W.Write.contents c.args.writer.now) (g.W.Write.contents c.write_fully.new.writer)) (sym (same_arenas w.arena-is w.other-is))
                (responses-line r _ _ whole (rest ++ front) _ _ (line_joined whole _ (rest ++ front) w.deref.ensures.value (w.in_ok-buffer_line.ensures.ok rest is))
                (response-written r _ _ whole (string_bytes w.respond-else-is_empty.new.text) _ _ _ w.in_ok-respond-2.ensures.ok (c.as_bytes.ensures.value ∙ ap string_bytes w.text-is) c.write_fully.ensures));
            empty = anyhow r (ap (λ l. l.items) w.line-is ∙ w.clear.ensures.items);
          }
    ]
