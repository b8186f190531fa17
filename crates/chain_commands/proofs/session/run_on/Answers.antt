use Rattle.std.proofs.Common.{◌≡◌, ℕ, List, ◌++◌, length, take, drop, ap, ◌∙◌, sym, subst, refl, arith, Result, Ok, Err, IfErr}
use Rattle.std.proofs.lemmas.Result.{err_from_is_err_and}
use Rattle.std.specs.Result.{result_or}
use Rattle.std.proofs.Math.Seq.{take-append_seam}
use Rattle.std.specs.Io.KnownBytes.{Consumes}
use Rattle.std.proofs.KnownBytes.{Keeps-refl}
use Rattle.chain_commands.specs.declared.session.ToolError.{ToolError}
use Rattle.chain_commands.specs.declared.session.ToolError.TheVariants as errors
use Rattle.chain_commands.specs.Transcripts.{Ends}
use Rattle.chain_commands.specs.Progress.{HasProgressed}
use Rattle.chain_commands.proofs.ProgressLemmas.{response-flushed}
use Rattle.chain_commands.proofs.RunEndLemmas.{HasRead-nothing, HasRead-flushed, HasRead-fed, Ends-fed, Ends-unread, Ends-unflushed, Ends-finished, Ends-no_capacity}
use Rattle.chain_commands.proofs.session.run_on.Goals as goal

flush_error : {A E : Type 0} (r : Result A E) (q : Result A ToolError) → q ≡ result_or r (Err errors.Write) → IfErr q (λ e. e ≡ errors.Write)
flush_error (Ok x) q is = subst (λ (s : Result _ ToolError). IfErr s (λ e. e ≡ errors.Write)) (sym is) tt
flush_error (Err e) q is = subst (λ (s : Result _ ToolError). IfErr s (λ e. e ≡ errors.Write)) (sym is) refl

piece_read : (n len : ℕ) (read items piece : List ℕ) → length read ≡ len → piece ≡ take len (read ++ drop (length read) items) → take n piece ≡ take n read
piece_read n len read items piece long is =
    ap (take n) (is ∙ ap (λ m. take m (read ++ drop (length read) items)) (sym long) ∙ take-append_seam read (drop (length read) items))

pub loop-init : goal.loop-init
loop-init g c = record { some = omega (arith, c.in_ok-piece.ensures.len); read = HasRead-nothing _ _ _ _ c.new-line.ensures.items }

pub returns-in_err-piece : goal.returns-in_err-piece
returns-in_err-piece g c =
    let p = err_from_is_err_and c.from_residual.result c.from_residual.ensures.1 in
    Ends-no_capacity _ c.from_residual.result p.0 _ _ _ p.2 p.1

pub returns-then-is_err : goal.returns-then-is_err
returns-then-is_err g c = Ends-unflushed _ _ _ _ _ _ _ c.loop.invariant.read (Unit {0}) (Err errors.Write) _ c.flush.ensures.bytes refl

pub returns-in_default : goal.returns-in_default
returns-in_default g c =
    Ends-unread _ _ _ _ _ _ _ (HasRead-flushed _ _ _ _ _ _ _ c.loop.invariant.read _ c.flush.ensures.bytes) (Unit {0}) (Err errors.Read) _ c.in_default.ensures.bytes refl

pub returns-in_err-end_line : goal.returns-in_err-end_line
returns-in_err-end_line g c =
    let has = HasRead-flushed _ _ _ _ _ _ _ c.loop.invariant.read _ c.flush.ensures.bytes in
    let read = c.in-Ok.ensures.bytes in
    let p = err_from_is_err_and c.from_residual-in_err-end_line.result c.from_residual-in_err-end_line.ensures.1 in
    subst (λ (q : Result (Unit {0}) ToolError). Ends q (c.args.arena.now, c.args.other.now) (c.end_line.new.arena, c.end_line.new.other) (g.R.Read.remaining c.args.reader.now) (g.R.Read.remaining c.read.new.self) (g.W.Write.contents c.args.writer.now) (g.W.Write.contents c.end_line.new.writer))
    (sym (p.1 ∙ ap Err p.2))
    (Ends-finished _ _ _ _ _ _ _ has (Unit {0}) (Err c.in_err-end_line.field-0.0) _ _ _
    (subst (λ n. Consumes (g.R.Read.remaining c.loop.reader) (g.R.Read.remaining c.read.new.self) (take n c.read.new.buf)) c.if-n-eq0.true read.0)
    (read.1 c.if-n-eq0.true (omega (arith, c.loop.invariant.some, c.deref_mut.ensures.len))) c.in_err-end_line.ensures.responded)

pub returns-then-n-eq0 : goal.returns-then-n-eq0
returns-then-n-eq0 g c =
    let has = HasRead-flushed _ _ _ _ _ _ _ c.loop.invariant.read _ c.flush.ensures.bytes in
    let read = c.in-Ok.ensures.bytes in
    Ends-finished _ _ _ _ _ _ _ has _ c.or.result _ _ _
    (subst (λ n. Consumes (g.R.Read.remaining c.loop.reader) (g.R.Read.remaining c.read.new.self) (take n c.read.new.buf)) c.if-n-eq0.true read.0)
    (read.1 c.if-n-eq0.true (omega (arith, c.loop.invariant.some, c.deref_mut.ensures.len)))
    (λ rest is. response-flushed c.in_ok-end_line.field-0 c.or.result _ _ _ _ _ _ (c.in_ok-end_line.ensures.responded rest is) c.flush-then-n-eq0.ensures.bytes (flush_error c.flush-then-n-eq0.result c.or.result c.or.ensures))

pub returns-in_err-feed : goal.returns-in_err-feed
returns-in_err-feed g c =
    let has = HasRead-flushed _ _ _ _ _ _ _ c.loop.invariant.read _ c.flush.ensures.bytes in
    let same = piece_read c.in-Ok.n c.loop.piece.len c.read.new.buf c.loop.piece.items c.deref.result.now (omega (arith, c.deref_mut.ensures.len)) c.deref.ensures.value in
    let p = err_from_is_err_and c.from_residual-in_err-feed.result c.from_residual-in_err-feed.ensures.1 in
    Ends-fed _ _ _ _ _ _ _ has (Unit {0}) (Unit {0}) c.in_err-feed.field-0.0 c.from_residual-in_err-feed.result _ _ (take c.in-Ok.n c.read.new.buf) _ _ c.in-Ok.ensures.bytes.0
    (subst (λ l. HasProgressed {A = Unit {0}} (Err c.in_err-feed.field-0.0) (c.args.arena.now, c.args.other.now) (has.read ++ l) (c.feed.new.arena, c.feed.new.other) c.feed.new.line.items (g.W.Write.contents c.args.writer.now) (g.W.Write.contents c.feed.new.writer)) same
    (c.in_err-feed.ensures _ has.read _ has.so_far)) (p.1 ∙ ap Err p.2)

pub loop-preserved : goal.loop-preserved
loop-preserved g c =
    let has = HasRead-flushed _ _ _ _ _ _ _ c.loop.invariant.read _ c.flush.ensures.bytes in
    let same = piece_read c.in-Ok.n c.loop.piece.len c.read.new.buf c.loop.piece.items c.deref.result.now (omega (arith, c.deref_mut.ensures.len)) c.deref.ensures.value in
    record {
      some = c.loop.invariant.some;
      read = HasRead-fed _ _ _ _ _ _ _ has c.in_ok-feed.field-0 _ _ (take c.in-Ok.n c.read.new.buf) _ _ c.in-Ok.ensures.bytes.0
          (subst (λ l. HasProgressed {A = Unit {0}} (Ok c.in_ok-feed.field-0) (c.args.arena.now, c.args.other.now) (has.read ++ l) (c.feed.new.arena, c.feed.new.other) c.feed.new.line.items (g.W.Write.contents c.args.writer.now) (g.W.Write.contents c.feed.new.writer)) same
          (c.in_ok-feed.ensures _ has.read _ has.so_far));
    }

pub returns : goal.returns
returns g c = Ends-unread _ _ _ _ _ _ _ c.loop.invariant.read (Unit {0}) (Err errors.Read) _ (Keeps-refl _) refl
