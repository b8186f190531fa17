use Rattle.std.proofs.Common.{List, subst}
use Rattle.std.specs.Prelude.{Result, Ok, Err, IfOk}
use Rattle.std.specs.declared.vec.Vec.{Vec}
use Rattle.std.specs.declared.alloc.Global.{Global}
use Rattle.triangulation.specs.declared.points.Point.{Point}
use Rattle.triangulation.specs.Polygons.{rings_of, AreJoined, IsJoinedRing}
use Rattle.triangulation.proofs.JoiningLemmas.{ring_joined}
use Rattle.triangulation.proofs.with_holes.joined_ring.Goals as goal

if_ok : {X E : Type 0} (P Q : X → Type 0) (r : Result X E) → IfOk r P → ((x : X) → P x → Q x) → IfOk r Q
if_ok P Q (Ok x) holds then_q = then_q x holds
if_ok P Q (Err e) holds then_q = tt

pub returns : goal.returns
returns c =
    let outline = c.args.outline.now in
    let holes = rings_of c.args.holes.now in
    let around = c.in_ok-around.around.items in
    let inside = rings_of c.in_ok-inside.inside.items in
    if_ok (λ ring. AreJoined around (rings_of c.deref.result.now) ring.items) (λ ring. IsJoinedRing outline holes ring.items) c.joined.result c.joined.ensures
    (λ ring are. ring_joined outline around holes inside ring.items c.in_ok-around.ensures c.in_ok-inside.ensures.rings (subst (λ (l : List (Vec Point Global)). AreJoined around (rings_of l) ring.items) c.deref.ensures.value are))
