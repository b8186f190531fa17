use Rattle.std.proofs.Common.{◌≡◌, ◌+◌, ℕ, List, [], ◌∷◌, ◌++◌, take, sym, ap, ◌∙◌, subst}
use Rattle.std.specs.declared.vec.Vec.{Vec}
use Rattle.std.specs.declared.alloc.Global.{Global}
use Rattle.std.proofs.lemmas.List.{take_more, map-append}
use Rattle.triangulation.specs.declared.points.Point.{Point}
use Rattle.triangulation.specs.Polygons.{rings_of}
use Rattle.triangulate.specs.RingTexts.{texts_of, IsRingText, AreRingTexts}
use Rattle.triangulate.proofs.LineLemmas.{rings_more, first_unparsed}
use Rattle.triangulate.proofs.rings.rings.Goals as goal

pub loop-i-preserved : goal.loop-i-preserved
loop-i-preserved c =
    let lines = c.args.lines.now in
    let i = c.loop-i.i in
    let line = c.index-lines-i.result in
    let before = c.loop-i.rings.items in
    let ring = c.in-Ok.points in
    let after = c.push.new.self.items in
    let texts : texts_of (take (i + 1) lines) ≡ texts_of (take i lines) ++ line.items ∷ [] =
    ap texts_of (take_more lines i line c.loop-i-test.true ∙ ap (λ (v : Vec ℕ Global). take i lines ++ v ∷ []) (sym c.index-lines-i.is)) ∙ map-append (λ (v : Vec ℕ Global). v.items) (take i lines) (line ∷ []) in
    let more : rings_of after ≡ rings_of before ++ ring.items ∷ [] = ap rings_of c.in-Ok-push.ensures.items ∙ map-append (λ (v : Vec Point Global). v.items) before (ring ∷ []) in
    let is : IsRingText line.items ring.items = subst (λ (l : List ℕ). IsRingText l ring.items) c.deref.ensures.value c.in-Ok.ensures in
    subst (λ (l : List (List ℕ)). AreRingTexts l (rings_of after)) (sym texts) (subst (λ (l : List (List Point)). AreRingTexts (texts_of (take i lines) ++ line.items ∷ []) l) (sym more) (rings_more (texts_of (take i lines)) (rings_of before) line.items ring.items c.loop-i.invariant is))

pub returns-in-Err : goal.returns-in-Err
returns-in-Err c = first_unparsed c.args.lines.now c.loop-i.i c.index-lines-i.result c.deref.result.now (rings_of c.loop-i.rings.items) c.in-Err.error c.loop-i-test.true c.index-lines-i.is c.deref.ensures.value c.loop-i.invariant c.in-Err.ensures
