use Rattle.std.proofs.Common.{sym, ap, ◌∙◌, arith}
use Rattle.std.specs.Option.{option_map}
use Rattle.chain_compaction.proofs.ReadAheadLemmas.{reads_none, reads_more}
use Rattle.chain_compaction.proofs.read_ahead.prefetch_next.Goals as goal

pub returns-in-Some : goal.returns-in-Some
returns-in-Some g c =
    let number = g.P.Inx.InxKey.number in
    let old = c.args.compactor.now in
    record {
      few = omega arith;
      read = reads_more old old c.read_link.new.compactor 0 (reads_none old) c.read_link.ensures.was_read;
      next = λ k e. (number c.in-Some.i, ap (option_map number) c.in-Some.is, sym c.read_link.ensures.next ∙ e);
    }

pub returns-in_default : goal.returns-in_default
returns-in_default g c = record { few = omega arith; read = reads_none c.args.compactor.now; next = λ k e. absurd (cc) }
