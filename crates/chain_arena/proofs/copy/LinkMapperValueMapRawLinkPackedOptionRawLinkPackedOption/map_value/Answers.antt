use Rattle.std.proofs.Common.{refl, ap, sym, ◌∙◌, subst}
use Rattle.chain_links.specs.ChainArena.{interlinks_in, link_value}
use Rattle.chain_links.specs.Links.{link_view}
use Rattle.chain_arena.specs.LinkCopies.{MakesOf}
use Rattle.chain_arena.proofs.copy.LinkMapperValueMapRawLinkPackedOptionRawLinkPackedOption.map_value.Goals as goal

pub returns-in-Ok : goal.returns-in-Ok
returns-in-Ok g c =
    let value_from = link_view g.I.InxKey.packed_number in
    record {
      made = record {
        interlinks = ap interlinks_in c.new.ensures.link ∙ (λ i. record { prev = c.prev_next.ensures.prev i; next = c.prev_next.ensures.next i });
        value = subst (λ t. MakesOf value_from g.M.ValueMap.makes c.args.self.now.values c.args.p (value_from c.args.u.now) t c.map_value.new.self) (sym (ap link_value c.new.ensures.link))
            (record { passed = c.args.u.now; value_passed = refl; made = c.in-Ok.ensures.made });
        at_rest = c.new.ensures.at_rest;
      };
      ready = c.in-Ok.ensures.ready;
      refused = tt;
    }
