use Rattle.std.proofs.Common.{[], ◌∷◌, ◌++◌, ap, ◌∙◌, subst, sym, refl, append-nil, append_assoc, Err}
use Rattle.std.proofs.lemmas.Result.{err_from_is_err_and}
use Rattle.chain_commands.specs.Progress.{Progress}
use Rattle.chain_commands.proofs.ProgressLemmas.{feed-line, feed-stopped, feed-kept}
use Rattle.chain_commands.proofs.session.feed.Goals as goal

pub loop-front-init : goal.loop-front-init
loop-front-init g c = (
  [],
  refl,
  λ old read held so_far. subst (λ l. Progress old l (c.args.arena.now, c.args.other.now) c.args.line.now.items held (g.W.Write.contents c.args.writer.now)) (sym (append-nil read)) so_far,
)

pub returns-in_err-end_line : goal.returns-in_err-end_line
returns-in_err-end_line g c = λ old read held so_far.
    let p = err_from_is_err_and c.from_residual.result c.from_residual.ensures.1 in
    let at = c.loop-front.invariant in
    feed-stopped old _ read at.0 c.loop-front.left.now _ held _ (at.2 old read held so_far) c.in-Some.front.now c.in-Some.back.now c.in-Some.ensures.some
    (Unit {0}) (Unit {0}) c.in_err-end_line.field-0.0 c.from_residual.result c.args.piece.now _ _ _ at.1 c.in_err-end_line.ensures.responded (p.1 ∙ ap Err p.2)

pub loop-front-preserved : goal.loop-front-preserved
loop-front-preserved g c =
    let at = c.loop-front.invariant in
    let front = c.in-Some.front.now in
    let back = c.in-Some.back.now in
    let ends = c.in-Some.ensures.some in (
      at.0 ++ (front ++ 10 ∷ []),
      at.1 ∙ (ap (λ l. at.0 ++ l) (ends.parts ∙ sym (append_assoc front (10 ∷ []) back)) ∙ sym (append_assoc at.0 (front ++ 10 ∷ []) back)),
      λ old read held so_far. feed-line old _ read at.0 c.loop-front.left.now _ held _ (at.2 old read held so_far) front back ends
          _ _ _ c.in_ok-end_line.field-0 c.in_ok-end_line.ensures.responded c.in_ok-end_line.ensures.empty,
    )

pub returns : goal.returns
returns g c = λ old read held so_far.
    let at = c.loop-front.invariant in
    feed-kept old _ read at.0 c.loop-front.left.now _ held _ (at.2 old read held so_far) c.buffer_line.result c.args.piece.now c.buffer_line.new.line.items at.1
    c.in_default.ensures.none c.buffer_line.ensures.ok c.buffer_line.ensures.error
