-- The entry and the interlinks at an index, in the arena of links.
use Rattle.std.proofs.Common.{◌≡◌, ℕ, Option, None, Some, ap, ◌∙◌}
use Rattle.std.specs.Prelude.{IfSome}
use Rattle.std.specs.Option.{option_map}
use Rattle.chain_links.specs.declared.links.RawLink.{RawLink}
use Rattle.chain_links.specs.Links.{link_view, pair_view, links_view}
use Rattle.arena_traits.specs.Arena.{Arena, entry_at}
use Rattle.chain_links.specs.ChainArena.{on_value, link_map, entry, interlinks_in, interlinks_of}
use Rattle.chain_links.proofs.LinkStateLemmas.{entry_at-links_view}
use Rattle.chain_linking.proofs.ConnectionLemmas.{value_at}

pub if_some : {A : Type 0} {P Q : A → Type 0} (o : Option A) → ((x : A) → P x → Q x) → IfSome o P → IfSome o Q
if_some None then given = tt
if_some (Some x) then given = then x given

module _ {Gen K T : Type 0} (number : K → Option ℕ) (a : Arena Gen (RawLink K T)) (i : ℕ) where
  pub stored-view_after : (g : Gen) (link : RawLink K T) → entry_at a i ≡ Some (g, link) → entry (links_view number a) i ≡ Some (g, link.t)
  stored-view_after g link stored = value_at number a i ∙ ap (option_map (on_value (λ l. l.t))) stored

  pub links-view_after : (g : Gen) (link : RawLink K T) → entry_at a i ≡ Some (g, link) → link_map (links_view number a) i ≡ Some (interlinks_in (link_view number link))
  links-view_after g link stored = ap (option_map interlinks_of) (entry_at-links_view number a i ∙ ap (option_map (pair_view number)) stored)

  pub reports_nothing : entry_at a i ≡ None → link_map (links_view number a) i ≡ None
  reports_nothing none = ap (option_map interlinks_of) (entry_at-links_view number a i ∙ ap (option_map (pair_view number)) none)

  pub nothing-view_after : entry_at a i ≡ None → entry (links_view number a) i ≡ None
  nothing-view_after none = value_at number a i ∙ ap (option_map (on_value (λ l. l.t))) none
