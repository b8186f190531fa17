use Rattle.std.proofs.Common.{◌≡◌, ◌+◌, List, [], ◌∷◌, ◌++◌, take, sym, ap, ◌∙◌, subst, arith}
use Rattle.std.specs.declared.vec.Vec.{Vec}
use Rattle.std.specs.declared.alloc.Global.{Global}
use Rattle.std.proofs.lemmas.List.{take_more, map-append}
use Rattle.triangulation.specs.declared.points.Point.{Point}
use Rattle.triangulation.specs.Polygons.{rings_of, IsBridged, AreJoined}
use Rattle.triangulation.proofs.JoiningLemmas.{join_more}
use Rattle.triangulation.proofs.joining.joined.Goals as goal

pub loop-hole-preserved : goal.loop-hole-preserved
loop-hole-preserved c =
    let outline = c.args.outline.items in
    let holes = c.args.holes.now in
    let i = c.loop-hole.hole-index in
    let hole = c.hole-item.result in
    let joined = c.in_ok-joined.joined.items in
    let lists : rings_of (take (i + 1) holes) ≡ rings_of (take i holes) ++ hole.items ∷ [] =
    ap rings_of (take_more holes i hole c.loop-hole-test.true ∙ ap (λ (r : Vec Point Global). take i holes ++ r ∷ []) (sym c.hole-item.is)) ∙ map-append (λ (r : Vec Point Global). r.items) (take i holes) (hole ∷ []) in
    let bridged : IsBridged c.loop-hole.joined.items hole.items joined = subst (λ (l : List Point). IsBridged c.loop-hole.joined.items l joined) c.deref-in-loop-hole.ensures.value (subst (λ (l : List Point). IsBridged l c.deref-in-loop-hole.result.now joined) c.deref.ensures.value c.in_ok-joined.ensures) in
    record {
      all = subst (λ (l : List (List Point)). AreJoined outline l joined) (sym lists) (join_more outline (rings_of (take i holes)) c.loop-hole.joined.items hole.items joined c.loop-hole.invariant.all bridged);
      some = omega (arith, bridged.number);
    }
