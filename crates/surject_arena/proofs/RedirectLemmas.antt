-- Keys that are put into another set along a chain.
use Rattle.std.proofs.Common.{◌≡◌, ◌≢◌, ℕ, ⊎_elim, List, [], ◌∷◌, map, Option, None, Some, refl, sym, ap, ◌∙◌, subst}
use Rattle.std.specs.Prelude.{IfNone}
use Rattle.std.specs.Option.{option_map}
use Rattle.std.specs.Fn.{Mut}
use denote.Ref.{MutBor}
use Rattle.arena_traits.specs.Arena.{IsValid}
use Rattle.arena_traits.specs.Entries.{ArenaView, ArenaState, index_of}
use Rattle.chain_laws.specs.Chains.{LinkMap, cyclic, IsMember}
use Rattle.chain_laws.proofs.ListLemmas.Members.{IsMember-or_not}
use Rattle.chain_laws.proofs.WalkLemmas.Members.{walk_has}
use Rattle.chain_traits.specs.ChainVisits.{LinkVisit, IsLinkVisit, VisitsChain}
use Rattle.chain_traits.proofs.ChainVisitLemmas.{each_mapped}
use Rattle.surject_arena.specs.Partitions.{member, set_in, IsSet, AreRedirected, IsRedirection}
use Rattle.surject_arena.specs.declared.members.Member.{Member}
use Rattle.surject_arena.proofs.OptionLemmas.{from_mapped, mapped_twice}
use Rattle.surject_arena.proofs.ViewLemmas.{with_entries}

indexes_of_keys : {Gen T : Type 0} (es : List ((ℕ × Gen) × T)) → map index_of es ≡ map (λ k. k.0) (map (λ e. e.0) es)
indexes_of_keys [] = refl
indexes_of_keys (e ∷ es) = ap (λ l. e.0.0 ∷ l) (indexes_of_keys es)

pub redirection : {A P Gen K F : Type 0} {view : A → ArenaView Gen (Member P K)} {entry : A → ℕ → Option (Gen × Member P K)} (state : (a : A) → ArenaState (view a) (entry a)) (links : A → LinkMap)
    (g : Mut F (P × (MutBor (Member P K) × Unit {0})) (Unit {0} × (MutBor (Member P K) × Unit {0}))) (key : P → ℕ × Gen) (w : P) (f : F)
    → ((v : LinkVisit P (Member P K)) (next : F) → IsLinkVisit g f v next → (v.left ≡ member v.value.key w) × (next ≡ f))
    → (old : A) (q : P) (o : Option Unit) (new : A) → VisitsChain state links g key f old q o new → IfNone o (new ≡ old) → IsRedirection state links key old q w new
redirection {A = A} {view = view} state links g key w f each old q None new visits same = record {
  redirected = λ valid. absurd (visits valid);
  indexes = ap (λ (a : A). map index_of (view a).entries) same;
  rest = subst (λ (a : A). view a ≡ with_entries (view old) (view a).entries) (sym same) refl;
  same_links = ap links same;
}
redirection {view = view} {entry = entry} state links g key w f each old q (Some done) new visits same = record {
  redirected = λ valid. record {
    items = visits.1.walk;
    walk = visits.1.is_walk;
    there = each_mapped g key (λ e. member e.key w) f each (entry old) (entry new) visits.1.walk visits.1.visits;
    rest = visits.1.visits.rest;
  };
  indexes = indexes_of_keys (view new).entries ∙ (ap (map (λ k. k.0)) visits.1.pointers ∙ sym (indexes_of_keys (view old).entries));
  rest = visits.1.view_after;
  same_links = visits.1.links;
}

module _ {P Gen K : Type 0} where
  abbrev moved_to : P → Gen × Member P K → Gen × Member P K
  moved_to w e = (e.0, member e.1.key w)

  abbrev key_in : Gen × Member P K → Gen × K
  key_in e = (e.0, e.1.key)

module _ {P Gen K : Type 0} (key : P → ℕ × Gen) (ke kf : ℕ → Option (Gen × Member P K)) (links : LinkMap) (q : ℕ) (v : P) (w : ℕ × Gen) (m : ℕ) (redirected : AreRedirected ke kf links q v) (t : IsSet (set_in key ke) links w m)
    (own : set_in key ke q ≡ Some w) where
  on_walk : (i : ℕ) → set_in key ke i ≡ Some w → IsMember redirected.items i
  on_walk i at = (walk_has links q redirected.items (cyclic t.items) redirected.walk t.chain ((t.members q).1 own) i).1 ((t.members i).1 at)

  of_set : (i : ℕ) → IsMember redirected.items i → set_in key ke i ≡ Some w
  of_set i has = (t.members i).0 ((walk_has links q redirected.items (cyclic t.items) redirected.walk t.chain ((t.members q).1 own) i).0 has)

  pub moved : (i : ℕ) → set_in key ke i ≡ Some w → set_in key kf i ≡ Some (key v)
  moved i at =
      let e = from_mapped (λ (x : Gen × Member P K). key x.1.set) (ke i) w at in
      ap (option_map (λ x. key x.1.set)) (redirected.there i (on_walk i at) ∙ ap (option_map (λ x. (x.0, member x.1.key v))) e.1)

  pub stayed : (i : ℕ) → set_in key ke i ≢ Some w → set_in key kf i ≡ set_in key ke i
  stayed i not_w = ap (option_map (λ x. key x.1.set)) (redirected.rest i (λ has. not_w (of_set i has)))

  pub keys_stayed : (i : ℕ) → option_map key_in (kf i) ≡ option_map key_in (ke i)
  keys_stayed i = ⊎_elim
      (λ has. ap (option_map key_in) (redirected.there i has) ∙ mapped_twice (moved_to v) key_in (ke i))
      (λ has_not. ap (option_map key_in) (redirected.rest i has_not))
      (IsMember-or_not redirected.items i)

  pub still_valid : (p : ℕ × Gen) → IsValid ke p → IsValid kf p
  still_valid p valid = ⊎_elim
      (λ has. record { value = member valid.value.key v; stored = redirected.there p.0 has ∙ ap (option_map (λ (x : Gen × Member P K). let y : Gen × Member P K = (x.0, member x.1.key v) in y)) valid.stored })
      (λ has_not. record { value = valid.value; stored = redirected.rest p.0 has_not ∙ valid.stored })
      (IsMember-or_not redirected.items p.0)
