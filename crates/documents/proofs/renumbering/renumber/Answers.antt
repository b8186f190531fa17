use Rattle.chain_renumbering.specs.MoveTables.{new_key_of}
use Rattle.documents.proofs.RenumberingLemmas.{each_after, renumbers, renumbers_documents, puts_back}
use Rattle.documents.proofs.renumbering.renumber.Goals as goal

pub replace_arena-requires : goal.replace_arena-requires
replace_arena-requires g c =
    each_after g.A.ArenaTrait.state g.A.ChainArenaTrait.interlinks c.replace_arena-arena.result c.renumber-moved.new.self g.P.Gen.GenKey.first g.P.Gen.GenKey.following (new_key_of g.P.PtrKey.key g.P.Gen.GenKey.same)
    c.renumber-moved.result c.renumber-moved.ensures.renumbered c.renumber-moved.ensures.err c.replace_arena-arena.ensures.lists

pub returns-clause-renumbered : goal.returns-clause-renumbered
returns-clause-renumbered g c =
    renumbers g.A.ArenaTrait.state g.A.ChainArenaTrait.interlinks c.args.documents.now c.replace_arena-arena.result c.renumber-moved.new.self c.replace_arena.new.self c.replace_arena-arena.ensures.former c.replace_arena.ensures.new
    g.P.Gen.GenKey.first g.P.Gen.GenKey.following (new_key_of g.P.PtrKey.key g.P.Gen.GenKey.same) c.renumber-moved.result c.renumber-moved.ensures.renumbered

pub returns-clause-documents : goal.returns-clause-documents
returns-clause-documents g c =
    renumbers_documents g.A.ArenaTrait.state g.A.ChainArenaTrait.interlinks c.args.documents.now c.replace_arena-arena.result c.renumber-moved.new.self c.replace_arena.new.self c.replace_arena-arena.ensures.former c.replace_arena.ensures.new
    g.P.Gen.GenKey.first g.P.Gen.GenKey.following (new_key_of g.P.PtrKey.key g.P.Gen.GenKey.same) c.renumber-moved.result c.renumber-moved.ensures.renumbered

pub returns-clause-err : goal.returns-clause-err
returns-clause-err g c =
    puts_back g.A.ArenaTrait.state g.A.ChainArenaTrait.interlinks c.args.documents.now c.replace_arena-arena.result c.renumber-moved.new.self c.replace_arena.new.self c.replace_arena-arena.ensures.former c.replace_arena.ensures.new
    g.P.Gen.GenKey.first g.P.Gen.GenKey.following (new_key_of g.P.PtrKey.key g.P.Gen.GenKey.same) c.renumber-moved.result c.renumber-moved.ensures.err
