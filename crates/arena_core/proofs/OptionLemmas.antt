use borrow.Follows.Closed.{read_of}
use Rattle.std.proofs.Common.{◌≡◌, Option, Some, None, ap, inl, inr, MutBor}
use Rattle.std.specs.Option.{OnSome, ghost_name_of}

pub on_some : {X Q : Type 0} (o : Option X) → Q → OnSome o Q
on_some None q = tt
on_some (Some x) q = q

pub read_same : {D E : Type 0} (r : Option (MutBor E)) (F G : E → D) (u v : D) → ((w : E) → OnSome r (F w ≡ G w)) → u ≡ v →
    read_of (ghost_name_of r) F u ≡ read_of (ghost_name_of r) G v
read_same None F G u v each same = ap inr same
read_same {D} {E} (Some x) F G u v each same = ap (λ (H : E → D). inl (x.ghost_name, H)) (λ j w. each w j)
