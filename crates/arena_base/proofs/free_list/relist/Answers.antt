use Rattle.std.proofs.Common.{◌≡◌, ◌-◌, length, sym, ◌∙◌, ap, arith}
use Rattle.std.proofs.lemmas.List.{length-set}
use Rattle.arena_base.proofs.TrimLemmas.{listing_frees, listing_takes, listing_ends}
use Rattle.arena_base.proofs.free_list.relist.Goals as goal

pub loop-k-preserved-then-is_free_at : goal.loop-k-preserved-then-is_free_at
loop-k-preserved-then-is_free_at g c =
    let at = c.loop-k.invariant in
    let items = g.S.SlotStack.items c.loop-k.slots in
    let k = c.loop-k.k - 1 in
    record {
      long = ap length c.list_at-head.ensures.items ∙ (length-set items k _ ∙ at.long);
      few = omega (arith, at.few);
      capacity = c.list_at-head.ensures.bounds.0 ∙ at.capacity;
      most = c.list_at-head.ensures.bounds.1 ∙ at.most;
      listing = listing_frees g.P.Inx.InxKey.packed_number at.listing k c.list_at-head.result (omega arith) (omega (arith, at.few, at.long)) (sym c.is_free_at.ensures ∙ c.if-is_free_at.true) c.list_at-head.ensures.index c.list_at-head.ensures.items;
    }

pub loop-k-preserved : goal.loop-k-preserved
loop-k-preserved g c =
    let at = c.loop-k.invariant in
    let k = c.loop-k.k - 1 in
    record {
      long = at.long;
      few = omega (arith, at.few);
      capacity = at.capacity;
      most = at.most;
      listing = listing_takes g.P.Inx.InxKey.packed_number at.listing k (omega arith) (omega (arith, at.few, at.long)) (sym c.is_free_at.ensures ∙ c.if-is_free_at.false);
    }

pub returns : goal.returns
returns g c =
    let at = c.loop-k.invariant in
    let none : c.loop-k.k ≡ 0 = omega arith in
    record {
      entries = at.listing.same;
      sound = listing_ends g.P.Inx.InxKey.packed_number (rw none at at.listing) (omega (arith, at.long, c.requires));
      bounds = (at.capacity, at.most);
    }
