use Rattle.std.proofs.Common.{◌≡◌, ◌+◌, ◌-◌, List, ◌++◌, length, take, drop, ap, ◌∙◌, arith}
use Rattle.std.proofs.lemmas.List.{take_all, length-drop}
use Rattle.triangulation.specs.declared.points.Point.{Point}
use Rattle.triangulation.proofs.JoiningLemmas.{bridge_made}
use Rattle.triangulation.proofs.RingPathLemmas.{origin}
use Rattle.triangulation.proofs.joining.bridged.Goals as goal

pub returns : goal.returns
returns c =
    let outline = c.args.outline.now in
    let hole = c.args.hole.now in
    let u = c.find_bridge-u.result in
    let v = c.leftmost-v.result in
    let after_v : take (length hole - v) (drop v hole) ≡ drop v hole = take_all (length hole - v) (drop v hole) (omega (arith, length-drop v hole)) in
    let after_u : take (length outline - u) (drop u outline) ≡ drop u outline = take_all (length outline - u) (drop u outline) (omega (arith, length-drop u outline)) in
    bridge_made outline hole u v origin c.find_bridge-u.ensures c.leftmost-v.ensures c.extend_from_slice-4.new.self.items
    (c.in_ok-extend_from_slice-4.ensures.items ∙ (ap (λ (l : List Point). c.extend_from_slice-3.new.self.items ++ l) after_u ∙ ap (λ (l : List Point). l ++ drop u outline)
    (c.in_ok-extend_from_slice-3.ensures.items ∙ ap (λ (l : List Point). l ++ take (v + 1) hole)
    (c.in_ok-extend_from_slice-2.ensures.items ∙ (ap (λ (l : List Point). c.extend_from_slice.new.self.items ++ l) after_v ∙ ap (λ (l : List Point). l ++ drop v hole)
    (c.in_ok-extend_from_slice.ensures.items ∙ ap (λ (l : List Point). l ++ take (u + 1) outline) c.in_ok-joined.ensures.items))))))
