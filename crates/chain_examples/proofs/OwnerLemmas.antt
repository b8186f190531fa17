-- Owners written along a chain.
use Rattle.std.proofs.Common.{◌≡◌, ℕ, Option, None, Some}
use Rattle.std.specs.Prelude.{IfNone}
use Rattle.std.specs.Fn.{Mut}
use denote.Ref.{MutBor}
use Rattle.arena_traits.specs.Entries.{ArenaView, ArenaState}
use Rattle.chain_laws.specs.Chains.{LinkMap}
use Rattle.chain_traits.specs.ChainVisits.{LinkVisit, IsLinkVisit, VisitsChain}
use Rattle.chain_traits.proofs.ChainVisitLemmas.{each_mapped}
use Rattle.chain_examples.specs.Owners.{SetsOwners}

pub gives_owners : {A Gen K P F : Type 0} {view : A → ArenaView Gen (K × P)} {entry : A → ℕ → Option (Gen × (K × P))} (state : (a : A) → ArenaState (view a) (entry a)) (interlinks : A → LinkMap)
    (g : Mut F (P × (MutBor (K × P) × Unit {0})) (Unit {0} × (MutBor (K × P) × Unit {0}))) (key : P → ℕ × Gen) (owner : P) (f : F)
    → ((v : LinkVisit P (K × P)) (next : F) → IsLinkVisit g f v next → (v.left ≡ (v.value.0, owner)) × (next ≡ f))
    → (old : A) (p : P) (o : Option Unit) (new : A) → VisitsChain state interlinks g key f old p o new → IfNone o (new ≡ old) → SetsOwners view entry interlinks old (key p) owner o new
gives_owners state interlinks g key owner f each old p None new visits kept = (visits, kept)
gives_owners {entry = entry} state interlinks g key owner f each old p (Some done) new visits kept = (
  visits.0,
  record {
    walk = visits.1.walk;
    is_walk = visits.1.is_walk;
    owned = each_mapped g key (λ e. (e.0, owner)) f each (entry old) (entry new) visits.1.walk visits.1.visits;
    rest = visits.1.visits.rest;
    links = visits.1.links;
    view_after = visits.1.view_after;
  },
)
