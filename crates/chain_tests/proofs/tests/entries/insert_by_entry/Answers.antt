use Rattle.std.proofs.Common.{rules}
use Rattle.chain_tests.proofs.EntryInsertionLemmas.{place_used}
use Rattle.chain_tests.proofs.tests.entries.insert_by_entry.Goals as goal

pub returns-clause-place : goal.returns-clause-place
returns-clause-place g c = let grown = c.in_ok-entry.ensures.outcome.1.grown.state in search rules

pub returns-clause-state : goal.returns-clause-state
returns-clause-state g c =
    let made = c.in_ok-entry.ensures.outcome.1 in
    let used = place_used c.args.arena.now c.in_ok-entry.entry.arena.now c.insert.new.self.0 c.args.t _ _ _ _ made.grown.state made.before made.after c.insert.ensures.state in
    let name = c.in_ok-entry.ensures.same_reference in search rules
