use Rattle.std.proofs.Common.{rules, ◌≡◌, refl, subst, ◌∙◌}
use denote.Param.Always.{always_mut, mut_by}
use Rattle.surject_arena.specs.Renames.{IsRenamed}
use Rattle.surject_arena.proofs.VisitLemmas.{keys_visited, members_matched}
use Rattle.surject_arena.proofs.compression.compress_keys.Goals as goal

pub compress_members-requires-clause-callable : goal.compress_members-requires-clause-callable
compress_members-requires-clause-callable g c = mut_by _ (λ s. always_mut g.F.FnMut s.0.now.map) (λ s a i. i) (λ s a r t i e. search (rules, e)) _ c.requires

pub returns-clause-visits : goal.returns-clause-visits
returns-clause-visits g c = keys_visited _ g.F.FnMut g.P.PtrKey.key (λ s. s.0.now.map) (λ f v next is. search (rules, is.lends, is.leaves, is.called)) c.compress_members.ensures.visits

pub returns-clause-links : goal.returns-clause-links
returns-clause-links g c = g.met.A.ChainArenaTrait.compression_renames _ _ c.compress_members.ensures.implementation

pub returns-clause-sets : goal.returns-clause-sets
returns-clause-sets g c = members_matched _ g.F.FnMut g.P.PtrKey.key (λ s. s.0.now.names.now ≡ c.args.names.now) _ (λ f v next keeps is.
    let names : next.0.now.names.now ≡ f.0.now.names.now = search (rules, is.called) in
    let set : IsRenamed g.P.PtrKey.key f.0.now.names.now.places.items (g.P.PtrKey.key f.0.now.names.now.first).1 g.P.Inx.InxKey.greatest v.value v.left = search (rules, is.lends, is.leaves, is.called) in
    (subst (λ names. IsRenamed g.P.PtrKey.key names.places.items (g.P.PtrKey.key names.first).1 g.P.Inx.InxKey.greatest v.value v.left) keeps set, names ∙ keeps)) refl c.compress_members.ensures.visits
