use Rattle.std.proofs.Common.{◌≡◌, ◌↔◌, ℕ, Option, None, Some, refl, ap, sym, subst}
use Rattle.std.specs.Prelude.{IsSome, OnSome, IfNone}
use Rattle.chain_laws.specs.Chains.{IsWellLinked}
use Rattle.chain_laws.specs.Joins.{with_join}
use Rattle.arena_traits.specs.Entries.{view_of}
use Rattle.chain_links.specs.Links.{links_view}
use Rattle.chain_links.specs.ChainArena.{CanConnect, with_link_map, link_map, entry, value_state}
use Rattle.chain_links.specs.CallEffects.{ConnectsLinks}
use Rattle.std.proofs.lemmas.Bool.{false≢true}
use Rattle.chain_linking.proofs.ConnectionLemmas.{links, joined-values, joined-agrees, joined-pair, joined-chains}
use Rattle.chain_arena.specs.Effects.{Links, IsJoin}
use Rattle.chain_arena.proofs.impl_chain_arena_trait.ChainArenaChainArenaTrait.connect.Goals as goal

module _ {Gen T P : Type 0} (key : P → ℕ × Gen) (a b : Links Gen T) (p q : P) where
  agrees_after : {X : Type 0} (o : Option X) → IsSome o ↔ CanConnect (entry a) (link_map a) (key p) (key q) → OnSome o (b ≡ with_link_map a (with_join (link_map a) (key p).0 (key q).0)) → IfNone o (b ≡ a) → IsWellLinked (link_map a) → IsWellLinked (link_map b)
  agrees_after None may is none agrees = subst (λ (x : Links Gen T). IsWellLinked (link_map x)) (sym none) agrees
  agrees_after (Some x) may is none agrees = joined-agrees a b (key p) (key q) (may.0 refl) is agrees

  connects : (o : Option Unit) → IsSome o ↔ CanConnect (entry a) (link_map a) (key p) (key q) → OnSome o (b ≡ with_link_map a (with_join (link_map a) (key p).0 (key q).0)) → ConnectsLinks value_state link_map key a p q o b
  connects None may is = λ can. false≢true (may.1 can)
  connects (Some done) may is =
      let can = may.0 refl in
      (can, record { joined = links a b (key p) (key q) can is; chains = joined-chains a b (key p) (key q) can is; view_after = ap (λ x. view_of x) (joined-values a b (key p) (key q) can is) })

  joins : (o : Option Unit) → IsSome o ↔ CanConnect (entry a) (link_map a) (key p) (key q) → OnSome o (b ≡ with_link_map a (with_join (link_map a) (key p).0 (key q).0)) → OnSome o (IsJoin a b (key p).0 (key q).0)
  joins None may is = tt
  joins (Some done) may is = record { state = is; pair = joined-pair a b (key p) (key q) (may.0 refl) is }

pub invariant_of-self : goal.invariant_of-self
invariant_of-self g c = record {
  agree = agrees_after g.P.PtrKey.key _ _ c.args.p c.args.q c.join.result c.join.ensures.some c.join.ensures.joined c.join.ensures.none c.self.invariant.agree;
  at_rest = c.join.ensures.at_rest c.self.invariant.at_rest;
}

pub returns : goal.returns
returns g c =
    let key = g.P.PtrKey.key in
    let a = links_view g.P.Inx.InxKey.packed_number c.self.inside.arena in
    let b = links_view g.P.Inx.InxKey.packed_number c.join.new.arena in
    rw (← c.self.view_is) (record {
      outcome = connects key a b c.args.p c.args.q c.join.result c.join.ensures.some c.join.ensures.joined;
      none = c.join.ensures.none;
      implementation = joins key a b c.args.p c.args.q c.join.result c.join.ensures.some c.join.ensures.joined;
    })
